use Rattle.std.proofs.Common.{ℕ, List, ◌∙◌, subst}
use Rattle.script_state.specs.Steps.{saying, Answers}
use Rattle.script_state.proofs.information.say_levels.Goals as goal

pub returns : goal.returns
returns c = λ s. subst (λ (x : List ℕ). Answers (saying s x) c.say.result s s) (c.as_bytes.ensures.value ∙ c.in_ok-line.ensures.ok) (c.say.ensures s)
