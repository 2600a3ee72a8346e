-- The terms of symbols, of words and of applications.
use Rattle.std.specs.Prelude.{ℕ, List, [], ◌∷◌, Option, Some, None, Err, if◌then◌else◌}
use Rattle.smt_text.specs.declared.token.TokenKind.{TokenKind}
use Rattle.smt_text.specs.declared.token.TokenKind.TheVariants as kind
use Rattle.smt_syntax.specs.Shapes.{is_word_name}
use Rattle.smt_terms.specs.declared.sort.Sort.{Sort}
use Rattle.smt_terms.specs.declared.sort.Sort.TheVariants as sort
use Rattle.smt_terms.specs.declared.node.Op.TheVariants.{ConstantArray}
use Rattle.smt_terms.specs.Nodes.{node_of}
use Rattle.smt_terms.specs.Terms.{TermsValue}
use Rattle.smt_build.specs.declared.fault.BuildFault.TheVariants.{WrongSort, NotSupported}
use Rattle.smt_build.specs.declared.operators.Named.{Named}
use Rattle.smt_build.specs.declared.operators.Named.TheVariants.{Applies, Indexed}
use Rattle.smt_build.specs.Operators.{operator_named}
use Rattle.smt_build.specs.declared.definition.Definition.{Definition}
use Rattle.smt_build.specs.Names.{SymbolsValue, declaration_of, meaning_in}
use Rattle.smt_build.specs.Definitions.{have_sorts, used}
use Rattle.smt_build.specs.Building.{Built, made, binary, hexadecimal, declared, called}
use Rattle.smt_build.specs.Grouping.{operation}
use Rattle.smt_build.specs.Indices.{Head, plain, indexed, everywhere, word_of, known, indexed_application}

-- the term of an operator's name and its arguments
abbrev pub applied : TermsValue → Named → List ℕ → Built
applied terms (Indexed k) args = Err WrongSort
applied terms (Applies o arity) args = operation o arity terms args

abbrev pub symbol_by : SymbolsValue → TermsValue → Option Named → Option Definition → Option ℕ → Built
symbol_by symbols terms (Some named) f d = applied terms named []
symbol_by symbols terms None (Some f) d = used terms f []
symbol_by symbols terms None None d = declared symbols terms d

-- the term of a symbol
unfoldable pub symbol_term : SymbolsValue → TermsValue → List ℕ → Built
symbol_term symbols terms x = symbol_by symbols terms (operator_named x) (meaning_in symbols.definitions x) (declaration_of symbols.live x)

-- the term of a word; behind two bytes a literal has its digits
unfoldable pub word_term : SymbolsValue → TermsValue → TokenKind → List ℕ → Built
word_term symbols terms kind.Symbol x = symbol_term symbols terms x
word_term symbols terms kind.Binary (a ∷ b ∷ digits) = binary terms digits
word_term symbols terms kind.Hexadecimal (a ∷ b ∷ digits) = hexadecimal terms digits
word_term symbols terms _ x = Err NotSupported

abbrev pub application_by : SymbolsValue → TermsValue → Option Named → Option Definition → Option ℕ → List ℕ → Built
application_by symbols terms (Some named) f d args = applied terms named args
application_by symbols terms None (Some f) d args = used terms f args
application_by symbols terms None None d args = called symbols terms d args

-- the array of a sort that has this one term as its element everywhere
abbrev pub constant_array : TermsValue → Sort → List ℕ → Built
constant_array terms (sort.Array n m) args = if have_sorts terms.nodes (sort.Word m ∷ []) args then made terms (node_of (ConstantArray n) args) else Err WrongSort
constant_array terms _ args = Err WrongSort

-- the term of a name and the terms that it is applied to
unfoldable pub application : SymbolsValue → TermsValue → Head → List ℕ → Built
application symbols terms (plain f) args = application_by symbols terms (operator_named f) (meaning_in symbols.definitions f) (declaration_of symbols.live f) args
application symbols terms (indexed f is) args = indexed_application symbols terms f is (operator_named f) args
application symbols terms (everywhere s) args = constant_array terms s args

-- the term of a name with indices
unfoldable pub indexed_term : SymbolsValue → TermsValue → Head → Built
indexed_term symbols terms (indexed f is) = if is_word_name f then word_of terms f is else Err (known symbols f)
indexed_term symbols terms _ = Err NotSupported
