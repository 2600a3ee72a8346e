use Rattle.script_state.proofs.Telling.{tells_reason}
use Rattle.script_state.proofs.information.say_reason.Goals as goal

pub returns-in-Unknown : goal.returns-in-Unknown
returns-in-Unknown c = λ s. tells_reason s c.args.standing c.in-Some.verdict c.say.result c.in-Some.is c.in-Unknown.is (c.say.ensures s)
