-- The clause that forced a literal, found by its slot.
use Rattle.std.proofs.Common.{ℕ, ◌≡◌, ◌≢◌, ◌<◌, ◌≤◌, List, Some, None, length, refl, sym, ap, ◌∙◌, arith}
use Rattle.std.specs.Prelude.{slice_get, option_and_then}
use Rattle.std.proofs.Math.ListN.{get_or}
use Rattle.std.proofs.lemmas.List.{get_or-take}
use Rattle.std.proofs.lemmas.Option.{slice_get_read, slice_get_past, slice_get-get_or}
use Rattle.cnf_base.specs.Literals.{Literal}
use Rattle.cnf_base.specs.declared.clause.ClauseId.{ClauseId}
use Rattle.cdcl_core.specs.declared.trail.Trail.{Trail}
use Rattle.cdcl_core.specs.declared.watches.Watches.{Watches}
use Rattle.cdcl_core.specs.Levels.{Row}
use Rattle.cdcl_core.specs.Search.{literals_of, clause_of, reason_of}
use Rattle.cdcl_core.specs.Slots.{slot_in}
use Rattle.cnf_base.specs.Clauses.{no_id}
use Rattle.cdcl_core.specs.State.{no_row, IsSettled}
use Rattle.cdcl_core.proofs.Clauses.{codes_length}
use Rattle.cdcl_core.proofs.Trails.{trail_len}
use Rattle.cdcl_core.proofs.Bridge.{literals_length}

-- a place of the trail has a reason
pub reason_within : (w : Watches) (t : Trail) (p : ℕ) → IsSettled w t → p < t.len → p < length t.reasons.items
reason_within w t p s h =
    let room : t.len ≤ length t.codes.items = trail_len t.stamps.items t.codes.items t.len t.head t.level s.trail in
    omega (arith, h, room, s.reasoned.width)

-- a slot that is a reason has a name
pub slot_within : (w : Watches) (t : Trail) (p s : ℕ) → IsSettled w t → p < t.len → s ≡ get_or t.reasons.items p 0 → s ≢ 0 → s < length w.ids.items
slot_within w t p s st h e ne =
    let high : s < length w.kinds.items = rw e (st.reasoned.forced p h (rw (← e) (omega (arith, ne)))) in
    omega (arith, high, st.named.rows)

-- and it has a clause
pub clause_within : (w : Watches) (t : Trail) (p s : ℕ) → IsSettled w t → p < t.len → s ≡ get_or t.reasons.items p 0 → s ≢ 0 → s < length w.clauses.items
clause_within w t p s st h e ne =
    let high : s < length w.kinds.items = rw e (st.reasoned.forced p h (rw (← e) (omega (arith, ne)))) in
    omega (arith, high, st.watched.clauses, codes_length w.clauses.items)

-- the clause of that name is the slot's
pub slot_named : (w : Watches) (t : Trail) (p s : ℕ) (id : ClauseId) (c : List Literal) → IsSettled w t → p < t.len → s ≡ get_or t.reasons.items p 0 → s ≢ 0 → get_or w.ids.items s no_id ≡ id → c ≡ get_or w.clauses.items s c →
    Some c ≡ clause_of w id
slot_named w t p s id c st h e ne name read =
    let pos : 0 < get_or t.reasons.items p 0 = rw (← e) (omega (arith, ne)) in
    let found : slot_in w.slots (get_or w.ids.items s no_id) ≡ Some s = st.named.held s (omega (arith, ne)) (rw e (st.reasoned.forced p h pos)) (rw e (st.reasoned.live p h pos)) in
    sym (ap (option_and_then (λ i. slice_get w.clauses.items i)) (rw name at found) ∙ slice_get_read w.clauses.items (length w.clauses.items) s c refl (clause_within w t p s st h e ne) read)

-- what forced the literal of a place, by its row
reason_row : (w : Watches) (t : Trail) (p : ℕ) → IsSettled w t → p < t.len → reason_of w t p ≡ option_and_then (clause_of w) (get_or t.rows.items p no_row).2
reason_row w t p st h =
    let within : p < length (literals_of t) = rw (literals_length t st.trail st.shown) h in
    let row : slice_get (literals_of t) p ≡ Some (get_or t.rows.items p no_row) = slice_get-get_or (literals_of t) p no_row within ∙ ap (λ (r : Row). Some r) (get_or-take t.len t.rows.items p no_row h) in
    ap (option_and_then (λ (r : Row). option_and_then (clause_of w) r.2)) row

pub reason_past : (w : Watches) (t : Trail) (p : ℕ) → IsSettled w t → t.len ≤ p → None ≡ reason_of w t p
reason_past w t p st h =
    let past : length (literals_of t) ≤ p = rw (literals_length t st.trail st.shown) h in
    sym (ap (option_and_then (λ (r : Row). option_and_then (clause_of w) r.2)) (slice_get_past (literals_of t) p past))

pub reason_decided : (w : Watches) (t : Trail) (p : ℕ) → IsSettled w t → p < t.len → get_or t.reasons.items p 0 ≡ 0 → None ≡ reason_of w t p
reason_decided w t p st h e = sym (reason_row w t p st h ∙ ap (option_and_then (clause_of w)) (st.reasoned.decided p h e))

pub reason_forced : (w : Watches) (t : Trail) (p s : ℕ) (c : List Literal) → IsSettled w t → p < t.len → s ≡ get_or t.reasons.items p 0 → s ≢ 0 → c ≡ get_or w.clauses.items s c → Some c ≡ reason_of w t p
reason_forced w t p s c st h e ne read =
    let pos : 0 < get_or t.reasons.items p 0 = rw (← e) (omega (arith, ne)) in
    let name : ClauseId = get_or w.ids.items (get_or t.reasons.items p 0) no_id in
    let row : reason_of w t p ≡ clause_of w name = reason_row w t p st h ∙ ap (option_and_then (clause_of w)) (st.reasoned.name p h pos) in
    slot_named w t p s name c st h e ne (ap (λ q. get_or w.ids.items q no_id) e) read ∙ sym row
