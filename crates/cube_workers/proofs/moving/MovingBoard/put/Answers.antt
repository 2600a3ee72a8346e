use Rattle.std.proofs.Common.{subst}
use Rattle.std.specs.Prelude.{IfOk}
use Rattle.proof_log.specs.Boards.{KnowsOneMore}
use Rattle.hub_board.specs.Boards.{BoardValue, Knows}
use Rattle.cube_workers.proofs.moving.MovingBoard.put.Goals as goal

pub returns-clause-known : goal.returns-clause-known
returns-clause-known g c = subst (λ (v : BoardValue). IfOk c.put_chain.result (λ p. KnowsOneMore (Knows v) p (Knows c.put_chain.new.self))) c.self.view_is c.put_chain.ensures.known
