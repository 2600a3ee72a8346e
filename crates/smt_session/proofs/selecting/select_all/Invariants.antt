use Rattle.std.proofs.Common.{take}
use Rattle.smt_session.specs.Growing.{Grows, AreSelectors}
use Rattle.smt_session.proofs.selecting.select_all.Given as goal

abbrev pub invariant-live : goal.invariant-live
invariant-live l = record {
  grows : Grows l.state l.fn.log l.log;
  chosen : AreSelectors l.log (take l.assertion-index l.live) l.given.items;
}
