-- The shapes of the parts of commands (SMT-LIB 2.6, sections 3.3 to 3.6 and 3.9), as tests on S-expressions.
use Rattle.std.specs.Prelude.{ℕ, ◌==◌, Bool, true, false, not, ◌&&◌, List, ◌∷◌, ◌||◌, if◌then◌else◌, codes}
use Rattle.std.specs.Str.{bytes_eq}
use Rattle.smt_text.specs.Lexicon as lexicon
use Rattle.smt_text.specs.declared.token.TokenKind.{TokenKind}
use Rattle.smt_text.specs.declared.token.TokenKind.TheVariants.{Numeral, Decimal, Hexadecimal, Binary, String, Keyword, Symbol, Underscore, Bang, As, Exists, Forall, Let, Match, Command, Reserved}
use Rattle.smt_syntax.specs.Sexps.{Sexp, Sexps, atom, group, none, more}

-- what follows these words is not judged: their forms are not supported
abbrev pub is_foreign : TokenKind → Bool
is_foreign As = true
is_foreign Exists = true
is_foreign Forall = true
is_foreign Match = true
is_foreign _ = false

-- a literal, a symbol, or a word whose forms are not supported
abbrev pub is_term_word : TokenKind → Bool
is_term_word Symbol = true
is_term_word Numeral = true
is_term_word Decimal = true
is_term_word Hexadecimal = true
is_term_word Binary = true
is_term_word String = true
is_term_word kind = is_foreign kind

-- a symbol, or a reserved word in its place
abbrev pub is_name : TokenKind → Bool
is_name Symbol = true
is_name Underscore = true
is_name Bang = true
is_name Let = true
is_name (Command c) = true
is_name Reserved = true
is_name kind = is_foreign kind

abbrev pub is_symbol : TokenKind → Bool
is_symbol Symbol = true
is_symbol _ = false

abbrev pub is_numeral : TokenKind → Bool
is_numeral Numeral = true
is_numeral _ = false

abbrev pub is_keyword : TokenKind → Bool
is_keyword Keyword = true
is_keyword _ = false

abbrev pub is_string : TokenKind → Bool
is_string String = true
is_string _ = false

-- numerals and nothing else
abbrev pub are_numerals : Sexps → Bool
are_numerals none = true
are_numerals (more (atom k n) es) = is_numeral k && are_numerals es
are_numerals (more (group xs) es) = false

abbrev pub are_some_numerals : Sexps → Bool
are_some_numerals none = false
are_some_numerals (more (atom k n) es) = is_numeral k && are_numerals es
are_some_numerals (more (group xs) es) = false

-- behind the underscore: a symbol and at least one index
abbrev pub is_indexed : Sexps → Bool
is_indexed none = false
is_indexed (more (atom k f) es) = is_symbol k && are_some_numerals es
is_indexed (more (group xs) es) = false

-- `bv` and a numeral
abbrev pub is_word_name : List ℕ → Bool
is_word_name (b ∷ v ∷ digits) = (b == 98 && v == 118) && lexicon.is_numeral digits
is_word_name _ = false

-- behind the underscore of a whole term: the value of a word and its width
abbrev pub is_word_value : Sexps → Bool
is_word_value (more (atom k f) (more (atom l n) none)) = (is_symbol k && is_word_name f) && is_numeral l
is_word_value _ = false

abbrev pub is_const : TokenKind → List ℕ → Bool
is_const k c = is_symbol k && bytes_eq c (codes "const")

-- behind `as`: `const` and whatever stands in the place of its sort
abbrev pub is_constant_array : Sexps → Bool
is_constant_array (more (atom k c) (more s none)) = is_const k c
is_constant_array _ = false

-- a list in the place of an operator, where what follows it is some terms, or all of it terms: a name with indices and its
-- arguments, the form of constant arrays, whose arguments are counted with its sort, or a form that is not judged
abbrev pub is_headed : Sexps → (some all : Bool) → Bool
is_headed (more (atom Underscore l) hs) some all = is_indexed hs && some
is_headed (more (atom As l) hs) some all = not (is_constant_array hs) || all
is_headed (more (atom Exists l) hs) some all = true
is_headed (more (atom Forall l) hs) some all = true
is_headed (more (atom Match l) hs) some all = true
is_headed _ some all = false

abbrev pub is_named : List ℕ → Bool
is_named keyword = bytes_eq keyword (codes ":named")

-- attributes: keywords, each with or without a value that is no keyword; `:named` has a name
abbrev mutual
  pub are_attributes : Sexps → Bool
  are_attributes none = true
  are_attributes (more (atom k x) es) = is_keyword k && (if is_named x then has_name es else may_have_value es)
  are_attributes (more (group xs) es) = false

  pub may_have_value : Sexps → Bool
  may_have_value none = true
  may_have_value (more (atom k x) es) = if is_keyword k then (if is_named x then has_name es else may_have_value es) else are_attributes es
  may_have_value (more (group xs) es) = are_attributes es

  pub has_name : Sexps → Bool
  has_name none = false
  has_name (more (atom k x) es) = is_name k && are_attributes es
  has_name (more (group xs) es) = false

abbrev pub are_some_attributes : Sexps → Bool
are_some_attributes none = false
are_some_attributes (more e es) = are_attributes (more e es)

-- terms
unfoldable mutual
  pub is_term : Sexp → Bool
  is_term (atom k x) = is_term_word k
  is_term (group (more (atom Symbol f) es)) = are_some_terms es
  is_term (group (more (atom Let l) es)) = is_let es
  is_term (group (more (atom Bang l) es)) = is_annotated es
  is_term (group (more (atom Underscore l) es)) = is_word_value es
  is_term (group (more (atom As l) es)) = true
  is_term (group (more (atom Exists l) es)) = true
  is_term (group (more (atom Forall l) es)) = true
  is_term (group (more (atom Match l) es)) = true
  is_term (group (more (group h) es)) = is_headed h (are_some_terms es) (are_terms es)
  is_term (group _) = false

  pub are_terms : Sexps → Bool
  are_terms none = true
  are_terms (more e es) = is_term e && are_terms es

  pub are_some_terms : Sexps → Bool
  are_some_terms none = false
  are_some_terms (more e es) = is_term e && are_terms es

  pub is_let : Sexps → Bool
  is_let (more (group bs) (more body none)) = are_some_bindings bs && is_term body
  is_let _ = false

  pub is_binding : Sexp → Bool
  is_binding (group (more (atom k x) (more t none))) = is_name k && is_term t
  is_binding _ = false

  pub are_bindings : Sexps → Bool
  are_bindings none = true
  are_bindings (more b bs) = is_binding b && are_bindings bs

  pub are_some_bindings : Sexps → Bool
  are_some_bindings none = false
  are_some_bindings (more b bs) = is_binding b && are_bindings bs

  pub is_annotated : Sexps → Bool
  is_annotated none = false
  is_annotated (more t attributes) = is_term t && are_some_attributes attributes

-- behind the underscore: BitVec and a width
abbrev pub is_bit_vec : Sexps → Bool
is_bit_vec (more (atom k b) (more (atom l n) none)) = (is_symbol k && bytes_eq b (codes "BitVec")) && is_numeral l
is_bit_vec _ = false

-- sorts
unfoldable mutual
  pub is_sort : Sexp → Bool
  is_sort (atom k x) = is_symbol k || is_foreign k
  is_sort (group (more (atom Symbol f) es)) = bytes_eq f (codes "Array") && are_two_sorts es
  is_sort (group (more (atom Underscore l) es)) = is_bit_vec es
  is_sort (group (more (atom As l) es)) = true
  is_sort (group (more (atom Exists l) es)) = true
  is_sort (group (more (atom Forall l) es)) = true
  is_sort (group (more (atom Match l) es)) = true
  is_sort (group _) = false

  pub are_two_sorts : Sexps → Bool
  are_two_sorts (more s (more t none)) = is_sort s && is_sort t
  are_two_sorts _ = false

abbrev pub are_sorts : Sexps → Bool
are_sorts none = true
are_sorts (more s ss) = is_sort s && are_sorts ss

abbrev pub is_parameter : Sexp → Bool
is_parameter (group (more (atom k x) (more s none))) = is_name k && is_sort s
is_parameter _ = false

abbrev pub are_parameters : Sexps → Bool
are_parameters none = true
are_parameters (more p ps) = is_parameter p && are_parameters ps

-- the options that have a meaning here
abbrev pub is_option : List ℕ → Bool
is_option keyword = bytes_eq keyword (codes ":print-success") || bytes_eq keyword (codes ":produce-models") || bytes_eq keyword (codes ":produce-unsat-cores") || bytes_eq keyword (codes ":produce-unsat-assumptions")

abbrev pub is_boolean : List ℕ → Bool
is_boolean name = bytes_eq name (codes "true") || bytes_eq name (codes "false")
