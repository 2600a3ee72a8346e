use Rattle.smt_text.proofs.Spelled.{spelled_push}
use Rattle.smt_text.proofs.tokens.tokens_of.Goals as goal

pub loop-n-preserved : goal.loop-n-preserved
loop-n-preserved c =
    let e = rw c.in-Ok-Some.field-0-is at c.in-Ok-Some.ensures in
    spelled_push _ _ _ _ c.in-Ok-Some.token c.in-Ok-Some.n c.loop-n.invariant e.value e.within.1 c.in_ok-push-in-Ok-Some.ensures.items
