-- A reader as a machine of one step a token.
use Rattle.std.specs.Prelude.{◌≡◌, List, [], ◌∷◌, Option, Some, None, Result, Ok, Err}
use Rattle.smt_syntax.specs.Sexps.{Sign, open_paren, close_paren, word}
use Rattle.smt_syntax.specs.Walk.{Reader, ◌>>=◌, context_in}
use Rattle.smt_build.specs.declared.fault.BuildFault.{BuildFault}
use Rattle.smt_build.specs.declared.fault.BuildError.{BuildError}
use Rattle.smt_build.specs.declared.fault.BuildError.TheVariants.{NoMemory, Fault}
use Rattle.smt_build.specs.declared.reader.Part.{Part as ReadPart}
use Rattle.smt_build.specs.TermReader.{Part, Open, State}
use Rattle.smt_build.specs.Views.{part_of}

-- the reading ends with a part, or goes on with these lists open, the innermost first
pub data Step (F V S : Type 0) : Type 0 where
  ends : V × S → Step F V S
  goes : List F → S → Step F V S

module _ {C F V S E : Type 0} (reader : Reader C F V S E) where
  abbrev pub opened : C → List F → S → Result (Step F V S) E
  opened c st s = reader.opens (context_in reader c st) s >>= λ f. Ok (goes (f.0 ∷ st) f.1)

  -- a part is handed to its list
  abbrev pub handed : List F → V × S → Result (Step F V S) E
  handed [] v = Ok (ends v)
  handed (f ∷ fs) v = reader.takes f v.0 v.1 >>= λ r. Ok (goes (r.0 ∷ fs) r.1)

  unfoldable pub step : C → List F → S → Sign → Result (Step F V S) E
  step c st s open_paren = opened c st s
  step c [] s close_paren = Err reader.stuck
  step c (f ∷ fs) s close_paren = reader.closes f s >>= λ v. handed fs v
  step c st s (word k x) = reader.at_word (context_in reader c st) s k x >>= λ v. handed st v

-- The answer is the step, with the lists that are open and the state then.
abbrev pub Steps : Result (Step Open Part State) BuildFault → Result (Option ReadPart) BuildError → List Open → State → Type 0
Steps to (Ok None) st s = to ≡ Ok (goes st s)
Steps to (Ok (Some p)) st s = to ≡ Ok (ends (part_of p, s))
Steps to (Err (Fault f)) st s = to ≡ Err f
Steps to (Err NoMemory) st s = Unit {0}
