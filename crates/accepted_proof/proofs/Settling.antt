-- What holds before and after a command holds once it is answered.
use Rattle.std.proofs.Common.{◌≡◌, List, refl}
use Rattle.script_state.specs.declared.answer.Answer.{Answer}
use Rattle.script_state.specs.declared.answer.Answer.TheVariants as answer
use Rattle.script_state.specs.declared.answer.Asked.{Asked}
use Rattle.script_state.specs.States.{StateValue}
use Rattle.script_state.specs.Steps.{settled}

-- it has to hold before the command only where that asked for values, whose terms are forgotten
pub settled_by : (P : StateValue → Type 0) (old new : StateValue) (a : Answer) → ((asked : List Asked) → a ≡ answer.Values asked → P old) → P new → P (settled old a new)
settled_by P old new answer.Done f h = h
settled_by P old new (answer.Refused e) f h = h
settled_by P old new answer.Check f h = h
settled_by P old new (answer.Says text) f h = h
settled_by P old new answer.Model f h = h
settled_by P old new (answer.Values asked) f h = f asked refl
settled_by P old new answer.Core f h = h
settled_by P old new answer.Assumptions f h = h
settled_by P old new answer.Exit f h = h
