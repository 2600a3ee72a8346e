use Rattle.std.proofs.Common.{rules}
use Rattle.shared_history.proofs.Splitting.{splits}
use Rattle.shared_history.proofs.Passes.{giver_pass, given_pass}
use Rattle.shared_history.proofs.hist.Hist+L.pass.Goals as goal

pub split_seat-seat-requires : goal.split_seat-seat-requires
split_seat-seat-requires g c = (search rules, search rules, splits _ _ _ _ _ c.giver.invariant.rest.live (search rules) (search rules))

pub invariant_of-giver : goal.invariant_of-giver
invariant_of-giver g c = giver_pass g.L.Law.by g.L.Law.stands _ _ _ c.giver.inside.seat c.split_seat-seat.new.seat c.giver.invariant c.split_seat-seat.ensures.2

pub invariant_of-result : goal.invariant_of-result
invariant_of-result g c = given_pass g.L.Law.by g.L.Law.stands _ _ _ c.giver.inside.seat c.split_seat-seat.result c.giver.invariant (search rules) c.split_seat-seat.ensures.4
