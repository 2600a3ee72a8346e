use Rattle.std.proofs.Common.{◌≡◌, Some, refl, ap, subst}
use Rattle.proof_log.specs.Logs.{clause_at}
use Rattle.proof_log.proofs.Tried.{room_for}
use Rattle.proof_log.proofs.log.Log.unfounded.Goals as goal

pub follows-requires-clause-room : goal.follows-requires-clause-room
follows-requires-clause-room c = rw c.literals.ensures at (room_for c.self.inside.next _ _ _ refl c.in_ok-reserve.ensures.room c.in_default.ensures)

pub follows-requires-clause-rooms : goal.follows-requires-clause-rooms
follows-requires-clause-rooms c = λ id h e.
    room_for _ _ _ h (ap (λ l. l.next) c.self.view_is) c.in_ok-reserve.ensures.room
    (c.requires id h (subst (λ l. clause_at l.clauses id ≡ Some h) c.self.view_is e))
