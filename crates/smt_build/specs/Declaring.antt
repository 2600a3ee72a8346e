-- The declaration that a command makes (SMT-LIB 2.6, section 4.2.3). A function without arguments is a constant.
use Rattle.std.specs.Prelude.{◌≡◌, ℕ, List, [], ◌∷◌, ◌++◌, length, Result, Ok, Err, Vec, if◌then◌else◌}
use Rattle.std.specs.declared.alloc.Global.{Global}
use Rattle.smt_text.specs.declared.token.CommandName.{CommandName}
use Rattle.smt_text.specs.declared.token.CommandName.TheVariants as name
use Rattle.smt_syntax.specs.Sexps.{Sexp, Sexps, atom, group, none, more}
use Rattle.smt_syntax.specs.Walk.{◌>>=◌}
use Rattle.smt_terms.specs.declared.sort.Sort.{Sort}
use Rattle.smt_terms.specs.declared.sort.Signature.{Signature}
use Rattle.smt_terms.specs.Terms.{constant_signature}
use Rattle.smt_build.specs.declared.fault.BuildFault.{BuildFault}
use Rattle.smt_build.specs.declared.fault.BuildFault.TheVariants.{Declared, Reserved, NotSupported}
use Rattle.smt_build.specs.declared.fault.BuildError.{BuildError}
use Rattle.smt_build.specs.declared.fault.BuildError.TheVariants.{NoMemory, Fault}
use Rattle.smt_build.specs.Names.{SymbolsValue, is_taken, with_declaration}
use Rattle.smt_build.specs.Operators.{is_reserved}
use Rattle.smt_build.specs.Parts.{over_parts}
use Rattle.smt_build.specs.Parameters.{plain_sort}
use Rattle.smt_build.specs.Sorts.{sort_in}

-- the number of a declaration with the symbols then, or a fault
abbrev pub Declaration : Type 0
Declaration = Result (ℕ × SymbolsValue) BuildFault

abbrev pub next : SymbolsValue → List ℕ → Signature → Declaration
next v x g = Ok (length v.signatures, with_declaration v x g)

-- a declaration of a signature: the faults of its name come before those of its sorts
abbrev pub named : SymbolsValue → List ℕ → Result Signature BuildFault → Declaration
named v x r = if is_reserved x then Err Reserved else (if is_taken v x then Err Declared else r >>= next v x)

abbrev pub declare_name : SymbolsValue → Sexp → Result Signature BuildFault → Declaration
declare_name v (atom k x) r = named v x r
declare_name v (group es) r = Err NotSupported

-- ---- signatures

-- the sort of a name without arguments; with some it is not supported
abbrev pub value_sort : SymbolsValue → Sexp → Sexp → Result Sort BuildFault
value_sort v (group none) s = sort_in v s
value_sort v _ s = Err NotSupported

-- a constant may be an array
abbrev pub of_constant : Result Sort BuildFault → Result Signature BuildFault
of_constant r = r >>= λ s. Ok (constant_signature s)

-- functions take and give truth values and words
abbrev pub plain_in : SymbolsValue → Sexp → Result Sort BuildFault
plain_in v e = sort_in v e >>= plain_sort

abbrev pub next_argument : SymbolsValue → List Sort → Sexp → Result (List Sort) BuildFault
next_argument v args e = plain_in v e >>= λ s. Ok (args ++ s ∷ [])

-- the sorts of arguments, from left to right, and then that of the value
abbrev pub of_function : SymbolsValue → Sexps → Sexp → Result Signature BuildFault
of_function v es s = over_parts (next_argument v) [] es >>= λ args. plain_in v s >>= λ r. Ok (record { args = args; value = r })

abbrev pub signature_in : SymbolsValue → Sexp → Sexp → Result Signature BuildFault
signature_in v (group none) s = of_constant (sort_in v s)
signature_in v (group (more e es)) s = of_function v (more e es) s
signature_in v (atom k x) s = Err NotSupported

-- ---- commands

abbrev pub constant_parts : SymbolsValue → Sexps → Declaration
constant_parts v (more x (more s none)) = declare_name v x (of_constant (sort_in v s))
constant_parts v _ = Err NotSupported

abbrev pub function_parts : SymbolsValue → Sexps → Declaration
function_parts v (more x (more args (more s none))) = declare_name v x (signature_in v args s)
function_parts v _ = Err NotSupported

-- the declaration that a command with these arguments makes
unfoldable pub declare : SymbolsValue → CommandName → Sexps → Declaration
declare v name.DeclareConst es = constant_parts v es
declare v name.DeclareFun es = function_parts v es
declare v _ es = Err NotSupported

-- The answer is the list of sorts, or the fault.
abbrev pub AreArguments : Result (List Sort) BuildFault → Result (Vec Sort Global) BuildFault → Type 0
AreArguments to (Ok sorts) = to ≡ Ok sorts.items
AreArguments to (Err f) = to ≡ Err f

-- The answer is the declaration, with the symbols then. After a fault, or for want of memory, the symbols are as before.
abbrev pub Declares : Declaration → Result ℕ BuildError → SymbolsValue → SymbolsValue → Type 0
Declares to (Ok d) old new = to ≡ Ok (d, new)
Declares to (Err (Fault f)) old new = (to ≡ Err f) × (new ≡ old)
Declares to (Err NoMemory) old new = new ≡ old
