use Rattle.std.proofs.Common.{◌<◌, suc, length, subst}
use Rattle.std.specs.Prelude.{IfOk}
use Rattle.proof_log.specs.Boards.{LogBoardValue, KnowsOneMore}
use Rattle.search_client.proofs.Boards.{waits_later}
use Rattle.search_client.proofs.tests.FirstPutBoard.put.Goals as goal

pub invariant_of-self : goal.invariant_of-self
invariant_of-self c = waits_later c.self.inside.chain _ _ _ _ _ _ c.put.ensures.later c.self.invariant

pub returns-clause-known : goal.returns-clause-known
returns-clause-known c =
    subst
    (λ (v : LogBoardValue). IfOk c.put.result (λ p. KnowsOneMore (λ q. q < suc (length v.log.entries)) p (λ q. q < suc (length c.put.new.self.log.entries))))
    c.self.view_is
    c.put.ensures.known
