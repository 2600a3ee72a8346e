use Rattle.std.proofs.Common.{rules, ap, ◌∙◌}
use Rattle.shared_history.proofs.Keeps.{looks}
use Rattle.shared_history.proofs.Splitting.{joins}
use Rattle.shared_history.proofs.Passes.{joined_pass, joined_seen}
use Rattle.shared_history.proofs.hist.Hist+L.merge.Goals as goal

pub join_seat-requires : goal.join_seat-requires
join_seat-requires g c = (search rules, search rules, search rules, search rules, joins g.L.Law.by g.L.Law.stands _ _ _ _ _ c.pass.invariant.rest.live c.other.invariant.rest.live c.other.invariant.rest.idle)

pub load-requires : goal.load-requires
load-requires g c = (search rules, search rules, looks g.L.Law.by g.L.Law.stands _ _ _ _ (ap (λ m. m.0.live) c.join_seat.ensures.2 ∙ c.pass.invariant.rest.live))

pub invariant_of-pass : goal.invariant_of-pass
invariant_of-pass g c = let l = c.load.ensures.2 in joined_pass g.L.Law.by g.L.Law.stands _ _ _ _ _ _ c.pass.inside.seat c.other.inside.seat c.join_seat.new.seat c.load.new.seat l.1.0 c.pass.invariant c.other.invariant c.join_seat.ensures.2 l.0 l.1.1 l.1.2 l.1.3

pub returns-clause-seen : goal.returns-clause-seen
returns-clause-seen g c = let l = c.load.ensures.2 in joined_seen g.L.Law.by g.L.Law.stands c.pass.inside.seat c.other.inside.seat c.join_seat.new.seat c.load.new.seat _ _ l.1.0 (ap (λ k. k.seen) c.pass.view_is) (ap (λ k. k.seen) c.other.view_is) c.join_seat.ensures.2 l.0 l.1.1
