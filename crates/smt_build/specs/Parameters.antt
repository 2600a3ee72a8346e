-- The parameters of a definition (SMT-LIB 2.6, section 4.2.3).
use Rattle.std.specs.Prelude.{◌≡◌, Bool, true, false, List, [], ◌∷◌, ◌++◌, ℕ, length, map, is_some, Result, Ok, Err, if◌then◌else◌}
use Rattle.smt_syntax.specs.Sexps.{Sexp, Sexps, atom, group, none, more}
use Rattle.smt_syntax.specs.Walk.{◌>>=◌}
use Rattle.smt_terms.specs.declared.sort.Sort.{Sort}
use Rattle.smt_terms.specs.declared.sort.Sort.TheVariants.{Array}
use Rattle.smt_build.specs.declared.fault.BuildFault.{BuildFault}
use Rattle.smt_build.specs.declared.fault.BuildFault.TheVariants.{Declared, Reserved, NotSupported}
use Rattle.smt_build.specs.declared.fault.BuildError.{BuildError}
use Rattle.smt_build.specs.declared.fault.BuildError.TheVariants.{NoMemory, Fault}
use Rattle.smt_build.specs.declared.parameters.Parameter.{Parameter}
use Rattle.smt_build.specs.Operators.{is_reserved}
use Rattle.smt_build.specs.Names.{Meanings, SymbolsValue, meaning_in}
use Rattle.smt_build.specs.Parts.{over_parts}
use Rattle.smt_build.specs.Sorts.{sort_in}

-- names with their places and sorts, in order
abbrev pub Parameters : Type 0
Parameters = Meanings Parameter

abbrev pub sorts_of : Parameters → List Sort
sorts_of ps = map (λ (p : List ℕ × Parameter). p.1.sort) ps

abbrev pub is_none : Parameters → Bool
is_none [] = true
is_none (p ∷ ps) = false

-- functions take and give truth values and words
abbrev pub plain_sort : Sort → Result Sort BuildFault
plain_sort (Array n m) = Err NotSupported
plain_sort s = Ok s

-- one parameter more
abbrev pub with_parameter : Parameters → List ℕ → Sort → Parameters
with_parameter ps x s = ps ++ (x, record { place = length ps; sort = s }) ∷ []

-- a parameter behind these: the faults of its name come before those of its sort
abbrev pub new_parameter : Parameters → List ℕ → Result Sort BuildFault → Result Parameters BuildFault
new_parameter ps x s = if is_reserved x then Err Reserved else (if is_some (meaning_in ps x) then Err Declared else (s >>= plain_sort) >>= λ s. Ok (with_parameter ps x s))

abbrev pub named_parameter : Parameters → Sexp → Result Sort BuildFault → Result Parameters BuildFault
named_parameter ps (atom k x) s = new_parameter ps x s
named_parameter ps (group es) s = Err NotSupported

-- `(x S)`
abbrev pub parameter_parts : SymbolsValue → Parameters → Sexps → Result Parameters BuildFault
parameter_parts v ps (more x (more s none)) = named_parameter ps x (sort_in v s)
parameter_parts v ps _ = Err NotSupported

abbrev pub next_parameter : SymbolsValue → Parameters → Sexp → Result Parameters BuildFault
next_parameter v ps (group es) = parameter_parts v ps es
next_parameter v ps (atom k x) = Err NotSupported

-- the parameters of a list, one after the other
abbrev pub parameters_in : SymbolsValue → Sexp → Result Parameters BuildFault
parameters_in v (group es) = over_parts (next_parameter v) [] es
parameters_in v (atom k x) = Err NotSupported

-- The answer is what is meant.
abbrev pub Lists : Result Parameters BuildFault → Result (Unit {0}) BuildError → Parameters → Type 0
Lists to (Ok u) ps = to ≡ Ok ps
Lists to (Err (Fault f)) ps = to ≡ Err f
Lists to (Err NoMemory) ps = Unit {0}
