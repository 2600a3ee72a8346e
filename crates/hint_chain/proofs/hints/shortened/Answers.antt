use Rattle.hint_chain.proofs.Packing.{found_whole}
use Rattle.hint_chain.proofs.hints.shortened.Goals as goal

pub returns-then-id : goal.returns-then-id
returns-then-id c = found_whole c.args.hints.now c.loop-id.id-index _ c.loop-id-test.true c.if-id.true
