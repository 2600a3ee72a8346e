-- Where a literal stands on the trail, and which clause forced it.
use Rattle.std.proofs.Common.{ℕ, ◌≡◌, ◌/◌, ◌<◌, ◌≤◌, List, [], Option, Some, None, length, take, sym, ap, ◌∙◌, inl, inr, arith}
use Rattle.std.specs.Prelude.{slice_get, Contains}
use Rattle.std.proofs.Math.ListN.{get_or}
use Rattle.std.proofs.lemmas.List.{get_or-take, get_or_past, get_or_default, length-take-le}
use Rattle.std.proofs.lemmas.Option.{get_or_from_slice_get, slice_get_within, same_Some}
use Rattle.std.proofs.lemmas.Bool.{cases_lt}
use Rattle.cnf_base.specs.Literals.{Literal, code_of, literal_of}
use Rattle.cnf_base.specs.Clauses.{no_id}
use Rattle.cnf_base.specs.declared.clause.ClauseId.{ClauseId}
use Rattle.cnf_base.proofs.Codes.{literal_of-code_of, code_of-literal_of, code_of-injective}
use Rattle.cdcl_core.specs.declared.trail.Trail.{Trail}
use Rattle.cdcl_core.specs.declared.watches.Watches.{Watches}
use Rattle.cdcl_core.specs.Chains.{times}
use Rattle.cdcl_core.specs.Levels.{Row, StandsAt, IsReason}
use Rattle.cdcl_core.specs.Search.{literals_of}
use Rattle.cdcl_core.specs.Slots.{slot_in}
use Rattle.cdcl_core.specs.Stamps.{codes, Has}
use Rattle.cdcl_core.specs.State.{no_row, all_codes, IsSettled, IsConsistent, KeepsPlaces, HasForced}
use Rattle.cdcl_core.proofs.Trails.{found_at, true_on_trail, entry_true, trail_len}
use Rattle.cdcl_core.proofs.Clauses.{clause_codes, codes_length}
use Rattle.cdcl_core.proofs.Bridge.{row_is, literals_length, has_to}

-- the variable of a literal with a stamp has a row
pub stamp_room : (t : Trail) (x : ℕ) → KeepsPlaces t → 0 < get_or t.stamps.items x 0 → x / 2 < length t.spots.items
stamp_room t x s h = elim (cases_lt x (length t.stamps.items)) [
  | inl a ↦ omega (arith, a, s.width)
  | inr a ↦ absurd (omega (arith, h, get_or_past t.stamps.items x 0 a))
]

-- a literal with a stamp stands at the place of its variable
pub spot_stands : (t : Trail) (l : Literal) → IsConsistent t → KeepsPlaces t → 0 < get_or t.stamps.items (code_of l) 0 → StandsAt (literals_of t) (get_or t.spots.items (code_of l / 2) 0) l
spot_stands t l k s h =
    let ss : List ℕ = t.stamps.items in
    let es : List ℕ = t.codes.items in
    let on : 0 < times (code_of l) (take t.len es) = true_on_trail ss es t.len t.head t.level (code_of l) k.0 h in
    let f : (i : ℕ) × ((i < length (take t.len es)) × (get_or (take t.len es) i 0 ≡ code_of l)) = found_at (code_of l) (take t.len es) on in
    let i : ℕ = f.0 in
    let within : i < t.len = (let a : i < length (take t.len es) = f.1.0 in rw (length-take-le t.len es (trail_len ss es t.len t.head t.level k.0)) at a) in
    let at_i : get_or es i 0 ≡ code_of l = sym (get_or-take t.len es i 0 within) ∙ f.1.1 in
    let row : Row = get_or t.rows.items i no_row in
    let lit : row.0 ≡ l = k.1.literal i within ∙ (ap literal_of at_i ∙ literal_of-code_of l) in
    let spot : get_or t.spots.items (code_of l / 2) 0 ≡ i = ap (λ (x : ℕ). get_or t.spots.items (x / 2) 0) (sym at_i) ∙ s.place i within in
    rw spot (row.1, (row.2, row_is t i k.0 k.1 within ∙ ap (λ (x : Literal). Some (x, row.1, row.2)) lit))

-- what is known of a literal's place
pub record IsStanding (t : Trail) (l : Literal) (i level : ℕ) (reason : Option ClauseId) : Type 0 where
  pub within : i < t.len
  pub row : get_or t.rows.items i no_row ≡ (l, level, reason)
  pub code : get_or t.codes.items i 0 ≡ code_of l

pub standing : (t : Trail) (l : Literal) (i level : ℕ) (reason : Option ClauseId) → IsConsistent t → slice_get (literals_of t) i ≡ Some (l, level, reason) → IsStanding t l i level reason
standing t l i level reason k e =
    let inside : i < length (literals_of t) = slice_get_within (literals_of t) i (l, level, reason) e in
    let within : i < t.len = rw (literals_length t k.0 k.1) at inside in
    let row : get_or t.rows.items i no_row ≡ (l, level, reason) = sym (get_or-take t.len t.rows.items i no_row within) ∙ get_or_from_slice_get (literals_of t) i (l, level, reason) no_row e in
    let lit : literal_of (get_or t.codes.items i 0) ≡ l = sym (k.1.literal i within) ∙ ap (λ (r : Row). r.0) row in
    record { within = within; row = row; code = sym (code_of-literal_of (get_or t.codes.items i 0)) ∙ ap code_of lit }

-- a literal that stands has a stamp
pub stands_stamp : (t : Trail) (l : Literal) (i : ℕ) → IsConsistent t → StandsAt (literals_of t) i l → 0 < get_or t.stamps.items (code_of l) 0
stands_stamp t l i k a =
    let s : IsStanding t l i a.0 a.1.0 = standing t l i a.0 a.1.0 k a.1.1 in
    rw s.code at (entry_true t.stamps.items t.codes.items t.len t.head t.level i k.0 s.within)

-- and stands there alone
pub stands_spot : (t : Trail) (l : Literal) (i : ℕ) → IsConsistent t → KeepsPlaces t → StandsAt (literals_of t) i l → (i < t.len) × (get_or t.spots.items (code_of l / 2) 0 ≡ i)
stands_spot t l i k p a =
    let s : IsStanding t l i a.0 a.1.0 = standing t l i a.0 a.1.0 k a.1.1 in
    (s.within, ap (λ (x : ℕ). get_or t.spots.items (x / 2) 0) (sym s.code) ∙ p.place i s.within)

pub one_place : (t : Trail) (l : Literal) (i j : ℕ) → IsConsistent t → KeepsPlaces t → StandsAt (literals_of t) i l → StandsAt (literals_of t) j l → i ≡ j
one_place t l i j k p a b = sym (stands_spot t l i k p a).1 ∙ (stands_spot t l j k p b).1

-- ---- reasons

nothing : {X A : Type 0} (x : X) → Some x ≡ None → A
nothing x e = absurd cc

-- a literal with a reason: its slot, which has the name and the literal
pub record IsFrom (w : Watches) (t : Trail) (l : Literal) (i : ℕ) (id : ClauseId) : Type 0 where
  pub found : slot_in w.slots id ≡ Some (get_or t.reasons.items i 0)
  pub has : Contains (get_or w.clauses.items (get_or t.reasons.items i 0) []) l

pub forced_from : (w : Watches) (t : Trail) (l : Literal) (i level : ℕ) (id : ClauseId) → IsSettled w t → slice_get (literals_of t) i ≡ Some (l, level, Some id) → IsFrom w t l i id
forced_from w t l i level id st e =
    let a : IsStanding t l i level (Some id) = standing t l i level (Some id) (st.trail, st.shown) e in
    let s : ℕ = get_or t.reasons.items i 0 in
    let third : (get_or t.rows.items i no_row).2 ≡ Some id = ap (λ (r : Row). r.2) a.row in
    let low : 1 ≤ s = elim (cases_lt 0 s) [ inl h ↦ h | inr h ↦ nothing id (sym third ∙ st.reasoned.decided i a.within (omega (arith, h))) ] in
    let name : get_or w.ids.items s no_id ≡ id = sym (same_Some id (get_or w.ids.items s no_id) (sym third ∙ st.reasoned.name i a.within low)) in
    let high : s < length w.kinds.items = st.reasoned.forced i a.within low in
    let c : List Literal = get_or w.clauses.items s [] in
    let room : s < length w.clauses.items = omega (arith, high, st.watched.clauses, codes_length w.clauses.items) in
    let read : codes c ≡ get_or (all_codes w.clauses.items) s [] = clause_codes w.clauses.items s c room (get_or_default w.clauses.items s [] c room) in
    let has : Has (codes c) (code_of l) = rw (read, ← a.code) (st.reasoned.has i a.within low) in
    let own : (x : Literal) × (Contains c x × (code_of x ≡ code_of l)) = has_to c (code_of l) has in
    let mem : Contains c own.0 = own.1.0 in
    record {
      found = rw name at (st.named.held s low high (st.reasoned.live i a.within low));
      has = rw (code_of-injective own.0 l own.1.1) at mem;
    }

-- the clause of a slot that forced a literal is the reason
pub forced_reason : (w : Watches) (t : Trail) (l : Literal) (s : ℕ) (id : ClauseId) → IsSettled w t → slot_in w.slots id ≡ Some s → HasForced t s l → IsReason (literals_of t) id
forced_reason w t l s id st found f =
    let i : ℕ = f.0 in
    let level : ℕ = f.1.0.0 in
    let reason : Option ClauseId = f.1.0.1.0 in
    let e : slice_get (literals_of t) i ≡ Some (l, level, reason) = f.1.0.1.1 in
    let slot : get_or t.reasons.items i 0 ≡ s = f.1.1 in
    let a : IsStanding t l i level reason = standing t l i level reason (st.trail, st.shown) e in
    let low : 0 < get_or t.reasons.items i 0 = omega (arith, slot, st.named.low id s found) in
    let name : (get_or t.rows.items i no_row).2 ≡ Some id = st.reasoned.name i a.within low ∙ ap Some (ap (λ (x : ℕ). get_or w.ids.items x no_id) slot ∙ st.named.name id s found) in
    let is : reason ≡ Some id = ap (λ (r : Row). r.2) (sym a.row) ∙ name in
    (i, l, level, e ∙ ap (λ (x : Option ClauseId). Some (l, level, x)) is)

-- and no clause is the reason without such a literal
pub reason_forced : (w : Watches) (t : Trail) (s : ℕ) (id : ClauseId) → IsSettled w t → slot_in w.slots id ≡ Some s → IsReason (literals_of t) id → (l : Literal) × (Contains (get_or w.clauses.items s []) l × HasForced t s l)
reason_forced w t s id st found r =
    let a : IsFrom w t r.1 r.0 id = forced_from w t r.1 r.0 r.2 id st r.3 in
    let slot : get_or t.reasons.items r.0 0 ≡ s = same_Some (get_or t.reasons.items r.0 0) s (sym a.found ∙ found) in
    (r.1, (rw slot at a.has, (r.0, ((r.2, (Some id, r.3)), slot))))

pub no_reason : (w : Watches) (t : Trail) (id : ClauseId) → IsSettled w t → slot_in w.slots id ≡ None → IsReason (literals_of t) id → ⊥
no_reason w t id st none r = nothing (get_or t.reasons.items r.0 0) (sym (forced_from w t r.1 r.0 r.2 id st r.3).found ∙ none)
