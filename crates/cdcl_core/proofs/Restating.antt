-- A trail of which one literal of level 0 has another reason, a clause of that literal alone.
use Rattle.std.proofs.Common.{ℕ, ◌≡◌, ◌≢◌, ◌<◌, ◌≤◌, List, [], ◌∷◌, Some, length, refl, sym, ◌∙◌, ap, subst, inl, inr, arith}
use Rattle.std.specs.Prelude.{slice_get, option_and_then}
use Rattle.std.proofs.Math.ListN.{get_or, set, length-set}
use Rattle.std.proofs.Math.Seq.{take-set-lt}
use Rattle.std.proofs.lemmas.Bool.Decides.{eqb_tells}
use Rattle.std.proofs.lemmas.List.{get_or-set_other, get_or-set_same, get_or-take, get_or-map}
use Rattle.std.proofs.lemmas.Option.{slice_get-get_or, same_Some}
use Rattle.cnf_base.specs.Literals.{Literal, literal_of, code_of}
use Rattle.cnf_base.proofs.Codes.{code_of-literal_of}
use Rattle.cnf_base.specs.declared.clause.ClauseId.{ClauseId}
use Rattle.cdcl_core.specs.declared.trail.Trail.{Trail}
use Rattle.cdcl_core.specs.declared.watches.Watches.{Watches}
use Rattle.cdcl_core.specs.Chains.{times}
use Rattle.cdcl_core.specs.Levels.{Row}
use Rattle.cdcl_core.specs.Search.{literals_of, clause_of}
use Rattle.cdcl_core.specs.Slots.{slot_in}
use Rattle.cdcl_core.specs.Stamps.{codes, Has}
use Rattle.cdcl_core.specs.State.{no_row, all_codes, IsShown, IsReasoned, IsSettled}
use Rattle.cdcl_core.proofs.Clauses.{codes_length}
use Rattle.cdcl_core.proofs.Counting.{same_or_not, times_cons, times_nil}
use Rattle.cdcl_core.proofs.Finding.{reason_within}
use Rattle.cdcl_core.proofs.Trails.{entry_true}

-- at this place stands a literal of level 0, which is the only one of the clause of this slot, and the tables say so now
pub record IsRestated (w : Watches) (t u : Trail) (place slot : ℕ) (id : ClauseId) : Type 0 where
  pub settled : IsSettled w t
  pub within : place < t.len
  pub room : place < length t.rows.items
  pub level : (get_or t.rows.items place no_row).1 ≡ 0
  pub found : slot_in w.slots id ≡ Some slot
  pub clause : get_or (all_codes w.clauses.items) slot [] ≡ get_or t.codes.items place 0 ∷ []
  pub same : u ≡ record t { reasons = u.reasons; rows = u.rows }
  pub reasons : u.reasons.items ≡ set t.reasons.items place slot
  pub rows : u.rows.items ≡ set t.rows.items place (literal_of (get_or t.codes.items place 0), 0, Some id)

-- a clause of one literal has that literal, and no other
has_one : (c : List ℕ) (x : ℕ) → c ≡ x ∷ [] → Has c x
has_one c x e = rw e (elim (same_or_not x x) [
  | inl p ↦ omega (arith, times_cons x x [], p.1)
  | inr p ↦ absurd (p.0 refl)
])

only_one : (c : List ℕ) (x m : ℕ) → c ≡ x ∷ [] → Has c m → m ≡ x
only_one c x m e h = elim (same_or_not x m) [
  | inl p ↦ sym p.0
  | inr p ↦ absurd (let n : 0 < times m (x ∷ []) = rw e at h in omega (arith, n, times_cons m x [], times_nil m, p.1))
]

pub restated_shown : (w : Watches) (t u : Trail) (place slot : ℕ) (id : ClauseId) → IsRestated w t u place slot id → IsShown u.rows.items t.stamps.items t.codes.items t.len
restated_shown w t u place slot id k =
    let x : Row = (literal_of (get_or t.codes.items place 0), 0, Some id) in
    let here : get_or u.rows.items place no_row ≡ x = rw k.rows (get_or-set_same t.rows.items place x no_row k.room) in
    let there : (i : ℕ) → i ≢ place → get_or u.rows.items i no_row ≡ get_or t.rows.items i no_row = λ i ne. rw k.rows (get_or-set_other t.rows.items place i x no_row ne) in
    record {
      literal = λ i h. elim (eqb_tells i place) [
        | inl p ↦ rw (p.1, here) refl
        | inr p ↦ rw (there i p.1) (k.settled.shown.literal i h)
      ];
      level = λ i h. elim (eqb_tells i place) [
        | inl p ↦ rw (p.1, here) (rw k.level at (k.settled.shown.level place k.within))
        | inr p ↦ rw (there i p.1) (k.settled.shown.level i h)
      ];
      width = rw (k.rows, length-set) k.settled.shown.width;
    }

pub restated_reasoned : (w : Watches) (t u : Trail) (place slot : ℕ) (id : ClauseId) → IsRestated w t u place slot id → IsReasoned (all_codes w.clauses.items) w.kinds.items w.ids.items u.rows.items t.codes.items u.reasons.items t.len
restated_reasoned w t u place slot id k =
    let s = k.settled in
    let r = s.reasoned in
    let x : Row = (literal_of (get_or t.codes.items place 0), 0, Some id) in
    let room : place < length t.reasons.items = reason_within w t place s k.within in
    let low : 1 ≤ slot = s.named.low id slot k.found in
    let here : get_or u.rows.items place no_row ≡ x = rw k.rows (get_or-set_same t.rows.items place x no_row k.room) in
    let there : (i : ℕ) → i ≢ place → get_or u.rows.items i no_row ≡ get_or t.rows.items i no_row = λ i ne. rw k.rows (get_or-set_other t.rows.items place i x no_row ne) in
    let now : get_or u.reasons.items place 0 ≡ slot = rw k.reasons (get_or-set_same t.reasons.items place slot 0 room) in
    let before : (i : ℕ) → i ≢ place → get_or u.reasons.items i 0 ≡ get_or t.reasons.items i 0 = λ i ne. rw k.reasons (get_or-set_other t.reasons.items place i slot 0 ne) in
    record {
      decided = λ i h e. elim (eqb_tells i place) [
        | inl p ↦ absurd (let z : slot ≡ 0 = rw (p.1, now) at e in omega (arith, z, low))
        | inr p ↦ rw (there i p.1) (r.decided i h (rw (before i p.1) at e))
      ];
      forced = λ i h e. elim (eqb_tells i place) [
        | inl p ↦ rw (p.1, now) (s.named.high id slot k.found)
        | inr p ↦ rw (before i p.1) (r.forced i h (rw (before i p.1) at e))
      ];
      live = λ i h e. elim (eqb_tells i place) [
        | inl p ↦ rw (p.1, now) (s.named.live id slot k.found)
        | inr p ↦ rw (before i p.1) (r.live i h (rw (before i p.1) at e))
      ];
      held = λ i h e a. elim (eqb_tells i place) [
        | inl p ↦ absurd (let z : 0 < 0 = rw (p.1, here) at a in omega (arith, z))
        | inr p ↦ rw (before i p.1) (r.held i h (rw (before i p.1) at e) (rw (there i p.1) at a))
      ];
      name = λ i h e. elim (eqb_tells i place) [
        | inl p ↦ rw (p.1, here, now) (ap (λ (q : ClauseId). Some q) (sym (s.named.name id slot k.found)))
        | inr p ↦ rw (there i p.1, before i p.1) (r.name i h (rw (before i p.1) at e))
      ];
      has = λ i h e. elim (eqb_tells i place) [
        | inl p ↦ rw (p.1, now) (has_one (get_or (all_codes w.clauses.items) slot []) (get_or t.codes.items place 0) k.clause)
        | inr p ↦ rw (before i p.1) (r.has i h (rw (before i p.1) at e))
      ];
      others = λ i m h e a ne. elim (eqb_tells i place) [
        | inl p ↦ absurd (
            let a2 : Has (get_or (all_codes w.clauses.items) slot []) m = rw (p.1, now) at a in
            let ne2 : m ≢ get_or t.codes.items place 0 = rw p.1 at ne in
            ne2 (only_one (get_or (all_codes w.clauses.items) slot []) (get_or t.codes.items place 0) m k.clause a2))
        | inr p ↦ r.others i m h (rw (before i p.1) at e) (rw (before i p.1) at a) ne
      ];
      width = rw (k.reasons, length-set) r.width;
    }

pub restated_settled : (w : Watches) (t u : Trail) (place slot : ℕ) (id : ClauseId) → IsRestated w t u place slot id → IsSettled w u
restated_settled w t u place slot id k =
    let s = k.settled in
    let shown = restated_shown w t u place slot id k in
    let reasoned = restated_reasoned w t u place slot id k in
    subst (IsSettled w) (sym k.same) (record {
      trail = s.trail;
      shown = shown;
      spots = s.spots;
      watched = s.watched;
      idle = s.idle;
      reasoned = reasoned;
      named = s.named;
      fixed = s.fixed;
      calm = s.calm;
    })

pub restated_literals : (w : Watches) (t u : Trail) (place slot : ℕ) (id : ClauseId) → IsRestated w t u place slot id → literals_of u ≡ set (literals_of t) place (literal_of (get_or t.codes.items place 0), 0, Some id)
restated_literals w t u place slot id k =
    let len : u.len ≡ t.len = ap (λ (v : Trail). v.len) k.same in
    rw (len, k.rows) (take-set-lt t.len t.rows.items place (literal_of (get_or t.codes.items place 0), 0, Some id) k.within)

-- what is said of the literal at a place, by its row and by its code
pub stands_as : (t : Trail) (place : ℕ) → IsShown t.rows.items t.stamps.items t.codes.items t.len → place < t.len → (get_or (literals_of t) place no_row).0 ≡ literal_of (get_or t.codes.items place 0)
stands_as t place s h = ap (λ (r : Row). r.0) (get_or-take t.len t.rows.items place no_row h) ∙ s.literal place h

-- the code of a clause that has the literal of a place alone
pub one_code : (w : Watches) (t : Trail) (place slot : ℕ) (id : ClauseId) → IsSettled w t → place < t.len → slot_in w.slots id ≡ Some slot → clause_of w id ≡ Some ((get_or (literals_of t) place no_row).0 ∷ []) → get_or (all_codes w.clauses.items) slot [] ≡ get_or t.codes.items place 0 ∷ []
one_code w t place slot id s h found e =
    let high : slot < length w.kinds.items = s.named.high id slot found in
    let within : slot < length w.clauses.items = omega (arith, high, s.watched.clauses, codes_length w.clauses.items) in
    let clause : Some (get_or w.clauses.items slot []) ≡ Some ((get_or (literals_of t) place no_row).0 ∷ []) = sym (slice_get-get_or w.clauses.items slot [] within) ∙ (sym (ap (option_and_then (λ i. slice_get w.clauses.items i)) found) ∙ e) in
    get_or-map codes w.clauses.items slot [] [] within ∙ (ap codes (same_Some {A = List Literal} (get_or w.clauses.items slot []) ((get_or (literals_of t) place no_row).0 ∷ []) clause) ∙ (ap (λ (l : Literal). code_of l ∷ []) (stands_as t place s.shown h) ∙ ap (λ n. n ∷ []) (code_of-literal_of (get_or t.codes.items place 0))))

-- the code at a place is of a variable
pub named_code : (w : Watches) (t : Trail) (place : ℕ) → IsSettled w t → place < t.len → 2 ≤ get_or t.codes.items place 0
named_code w t place s h = s.trail.named (get_or t.codes.items place 0) (entry_true t.stamps.items t.codes.items t.len t.head t.level place s.trail h)
