use Rattle.std.proofs.Common.{arith}
use Rattle.cnf_base.proofs.Agreeing.{AreBelow-more}
use Rattle.search_client.proofs.assertions.is_chain.Goals as goal

pub follows-requires-clause-rooms : goal.follows-requires-clause-rooms
follows-requires-clause-rooms c = λ id h e.
    AreBelow-more _ _ (omega (arith, c.in_ok-reserve.ensures.room, c.next-next.ensures)) h
    ((c.stored_logs_are_settled.ensures _ _ c.len-terms.ensures.terms.list c.requires).clauses id h e).0
