use Rattle.std.proofs.Common.{◌≡◌, ℕ, ◌%◌, []}
use Rattle.shared_history.specs.Seated.{IsSameSeat}
use Rattle.shared_history.specs.Moves.{at_stage}
use Rattle.shared_history.specs.Rule.{round}
use Rattle.shared_history.specs.declared.view.Stage.TheVariants.{Waiting}
use Rattle.shared_history.proofs.turn.Hist+L.take.Given as goal

abbrev pub invariant-loop : goal.invariant-loop
invariant-loop g l = IsSameSeat l.fn.seat l.seat × ((t : ℕ) × (l.ticket ≡ t % round) × (l.seat.me ≡ (at_stage l.fn.seat.me.0 (Waiting t), [])))
