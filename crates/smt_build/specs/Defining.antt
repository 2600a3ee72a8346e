-- The definition that a command makes (SMT-LIB 2.6, section 4.2.3). Faults are told in the order of the text, and a wrong sort
-- of the body after those of its parts.
use Rattle.std.specs.Prelude.{◌≡◌, ℕ, Bool, ◌||◌, List, codes, is_some, Result, Ok, Err, if◌then◌else◌}
use Rattle.std.specs.Str.{bytes_eq}
use Rattle.smt_text.specs.declared.token.CommandName.{CommandName}
use Rattle.smt_text.specs.declared.token.CommandName.TheVariants as name
use Rattle.smt_syntax.specs.Sexps.{Sexp, Sexps, atom, group, none, more}
use Rattle.smt_syntax.specs.Walk.{◌>>=◌}
use Rattle.smt_terms.specs.declared.sort.Sort.{Sort}
use Rattle.smt_terms.specs.Terms.{TermsValue, held_sort}
use Rattle.smt_build.specs.declared.fault.BuildFault.{BuildFault}
use Rattle.smt_build.specs.declared.fault.BuildFault.TheVariants.{Declared, Reserved, WrongSort, NotSupported}
use Rattle.smt_build.specs.declared.fault.BuildError.{BuildError}
use Rattle.smt_build.specs.declared.fault.BuildError.TheVariants.{NoMemory, Fault}
use Rattle.smt_build.specs.Names.{SymbolsValue, meaning_in, is_taken, with_definition, with_sort}
use Rattle.smt_build.specs.Operators.{is_reserved}
use Rattle.smt_build.specs.Declaring.{value_sort}
use Rattle.smt_build.specs.Sorts.{sort_in}
use Rattle.smt_build.specs.Parameters.{Parameters, is_none, sorts_of, plain_sort, parameters_in}
use Rattle.smt_build.specs.Building.{Built}
use Rattle.smt_build.specs.Grouping.{has_sort}
use Rattle.smt_build.specs.Terms.{term_over}

-- ---- names of sorts

-- the symbols then, or a fault
abbrev pub SortDefinition : Type 0
SortDefinition = Result SymbolsValue BuildFault

-- no sort is defined with these names
abbrev pub is_sort_reserved : List ℕ → Bool
is_sort_reserved x = ((is_reserved x || bytes_eq x (codes "Bool")) || bytes_eq x (codes "BitVec")) || bytes_eq x (codes "Array")

abbrev pub next_sort : SymbolsValue → List ℕ → Sort → SortDefinition
next_sort v x s = Ok (with_sort v x s)

-- a name of a sort: its faults come before those of the sort
abbrev pub sort_named : SymbolsValue → List ℕ → Result Sort BuildFault → SortDefinition
sort_named v x s = if is_sort_reserved x then Err Reserved else (if is_some (meaning_in v.sorts x) then Err Declared else s >>= next_sort v x)

abbrev pub name_sort : SymbolsValue → Sexp → Result Sort BuildFault → SortDefinition
name_sort v (atom k x) s = sort_named v x s
name_sort v (group es) s = Err NotSupported

abbrev pub sort_parts : SymbolsValue → Sexps → SortDefinition
sort_parts v (more x (more ps (more s none))) = name_sort v x (value_sort v ps s)
sort_parts v _ = Err NotSupported

-- the name of a sort that a command with these arguments defines
unfoldable pub define_sort : SymbolsValue → CommandName → Sexps → SortDefinition
define_sort v name.DefineSort es = sort_parts v es
define_sort v _ es = Err NotSupported

-- The answer is the definition, with the symbols then. After a fault, or for want of memory, the symbols are as before.
abbrev pub DefinesSort : SortDefinition → Result (Unit {0}) BuildError → SymbolsValue → SymbolsValue → Type 0
DefinesSort to (Ok d) old new = to ≡ Ok new
DefinesSort to (Err (Fault f)) old new = (to ≡ Err f) × (new ≡ old)
DefinesSort to (Err NoMemory) old new = new ≡ old

-- ---- functions

-- the symbols and the terms then, or a fault
abbrev pub FunctionDefinition : Type 0
FunctionDefinition = Result (SymbolsValue × TermsValue) BuildFault

abbrev pub of_sort : Sort → ℕ × TermsValue → Built
of_sort s r = if has_sort s (held_sort r.1.nodes r.0) then Ok r else Err WrongSort

-- the term that a body of the stated sort means
abbrev pub body_of : SymbolsValue → TermsValue → Parameters → Sort → Sexp → Built
body_of v terms ps s t = term_over v terms ps t >>= of_sort s

abbrev pub next_function : SymbolsValue → List ℕ → Parameters → ℕ × TermsValue → FunctionDefinition
next_function v x ps r = Ok (with_definition v x (record { parameters = sorts_of ps; body = r.0 }), r.1)

-- without parameters any sort is a function's
abbrev pub value_over : Parameters → Result Sort BuildFault → Result Sort BuildFault
value_over ps s = if is_none ps then s else (s >>= plain_sort)

-- the parameters and the sort of a function
abbrev pub head_of : SymbolsValue → Sexp → Sexp → Result (Parameters × Sort) BuildFault
head_of v ps s = parameters_in v ps >>= λ ps. value_over ps (sort_in v s) >>= λ s. Ok (ps, s)

abbrev pub function_over : SymbolsValue → TermsValue → List ℕ → Parameters → Sort → Sexp → FunctionDefinition
function_over v terms x ps s t = body_of v terms ps s t >>= next_function v x ps

-- a function: the faults of its name come before those of its parameters, of its sort and of its body
abbrev pub function : SymbolsValue → TermsValue → List ℕ → Result (Parameters × Sort) BuildFault → Sexp → FunctionDefinition
function v terms x h t = if is_reserved x then Err Reserved else (if is_taken v x then Err Declared else h >>= λ h. function_over v terms x h.0 h.1 t)

abbrev pub define_function : SymbolsValue → TermsValue → Sexp → Result (Parameters × Sort) BuildFault → Sexp → FunctionDefinition
define_function v terms (atom k x) h t = function v terms x h t
define_function v terms (group es) h t = Err NotSupported

abbrev pub definition_parts : SymbolsValue → TermsValue → Sexps → FunctionDefinition
definition_parts v terms (more x (more ps (more s (more t none)))) = define_function v terms x (head_of v ps s) t
definition_parts v terms _ = Err NotSupported

-- the definition that a command with these arguments makes
unfoldable pub define : SymbolsValue → TermsValue → CommandName → Sexps → FunctionDefinition
define v terms name.DefineFun es = definition_parts v terms es
define v terms _ es = Err NotSupported

-- The answer is the sort, with the parameters.
abbrev pub Heads : Result (Parameters × Sort) BuildFault → Result Sort BuildError → Parameters → Type 0
Heads to (Ok s) ps = to ≡ Ok (ps, s)
Heads to (Err (Fault f)) ps = to ≡ Err f
Heads to (Err NoMemory) ps = Unit {0}

-- The answer is the definition, with the symbols and the terms then. After a fault, or for want of memory, all is as before.
abbrev pub Defines : FunctionDefinition → Result (Unit {0}) BuildError → SymbolsValue × TermsValue → SymbolsValue × TermsValue → Type 0
Defines to (Ok d) old new = to ≡ Ok new
Defines to (Err (Fault f)) old new = (to ≡ Err f) × (new.0 ≡ old.0) × (new.1 ≡ old.1)
Defines to (Err NoMemory) old new = (new.0 ≡ old.0) × (new.1 ≡ old.1)
