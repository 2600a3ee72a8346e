-- Clauses that are parked, and woken again.
use Rattle.std.proofs.Common.{ℕ, ◌≡◌, ◌≢◌, ◌+◌, ◌/◌, ◌<◌, ◌≤◌, ◌⊎◌, Bool, true, false, IsSome, MatchBool, List, [], ◌∷◌, Option, Some, None, cond, length, refl, sym, ap, ◌∙◌, inl, inr, arith}
use Rattle.std.specs.Prelude.{slice_get, option_and_then}
use Rattle.std.proofs.Math.ListN.{get_or, set, length-set}
use Rattle.std.proofs.lemmas.List.{get_or-set_other, get_or-set_same, get_or_past, get_or-map, set-set, set-get_or, append-nil}
use Rattle.std.proofs.lemmas.Option.{slice_get-get_or, slice_get_past}
use Rattle.std.proofs.lemmas.Bool.{cases_lt}
use Rattle.std.proofs.lemmas.Bool.Decides.{eqb_tells}
use Rattle.cnf_base.specs.Literals.{Literal}
use Rattle.cnf_base.specs.Clauses.{no_id}
use Rattle.cnf_base.specs.declared.clause.ClauseId.{ClauseId}
use Rattle.cnf_base.proofs.Options.{IsSome-from}
use Rattle.cdcl_core.specs.declared.trail.Trail.{Trail}
use Rattle.cdcl_core.specs.declared.watches.Watches.{Watches}
use Rattle.cdcl_core.specs.declared.watches.Kind.{Kind}
use Rattle.cdcl_core.specs.declared.watches.Kind.TheVariants.{Free, Fixed, Watched, Parked}
use Rattle.cdcl_core.specs.Chains.{times}
use Rattle.cdcl_core.specs.Lists.{Lists}
use Rattle.cdcl_core.specs.Levels.{Row, IsExtended, IsAdded}
use Rattle.cdcl_core.specs.Search.{clause_of, held_of, is_held_slot}
use Rattle.cdcl_core.specs.Slots.{slot_in}
use Rattle.cdcl_core.specs.Stamps.{codes, Has, IsTrail}
use Rattle.cdcl_core.specs.Watched.{kind_at, is_held, IsHeld, IsWatching, IsPlace, IsWatched}
use Rattle.cdcl_core.specs.State.{no_row, all_codes, IsShown, IsReasoned, IsNamed, IsSettled, IsPlaced, MayCome, HoldsSome, IsCleared, IsEmptied, IsParkedFrom}
use Rattle.cdcl_core.proofs.Apart.{parked_not_free, parked_not_fixed, parked_not_watched, free_not_fixed, free_not_watched}
use Rattle.cdcl_core.proofs.Held.{held_live, held_by, held_same, not_held}
use Rattle.cdcl_core.proofs.Counting.{times_nil}
use Rattle.cdcl_core.proofs.Trails.{entry_true}
use Rattle.cdcl_core.proofs.Slots.{IsSlotChange, slot_changed, fixed_changed}
use Rattle.cdcl_core.proofs.Naming.{settled_of}

-- ---- look-ups

pub kept_same : (w v : Watches) (id : ClauseId) → slot_in v.slots id ≡ slot_in w.slots id → v.clauses.items ≡ w.clauses.items → clause_of v id ≡ clause_of w id
kept_same w v id slot clauses = ap (option_and_then (λ s. slice_get v.clauses.items s)) slot ∙ ap (λ xs. option_and_then (λ s. slice_get xs s) (slot_in w.slots id)) clauses

-- no slot, no clause
pub none_kept : (w : Watches) (id : ClauseId) → slot_in w.slots id ≡ None → clause_of w id ≡ None
none_kept w id e = ap (option_and_then (λ s. slice_get w.clauses.items s)) e

-- two names of one slot are the same
pub one_name : (w : Watches) (t : Trail) (p q : ClauseId) (s r : ℕ) → IsSettled w t → slot_in w.slots p ≡ Some s → slot_in w.slots q ≡ Some r → q ≢ p → r ≢ s
one_name w t p q s r st e f ne same = ne (sym (st.named.name q r f) ∙ (ap (λ x. get_or w.ids.items x no_id) same ∙ st.named.name p s e))

-- where the look-up finds a slot past the tables, nothing is held
pub past_kinds : (w : Watches) (id : ClauseId) (s : ℕ) → slot_in w.slots id ≡ Some s → length w.kinds.items ≤ s → held_of w id ≡ None
past_kinds w id s e h = held_by w id false (clause_of w id) (ap (is_held_slot w.kinds.items) e ∙ ap is_held (get_or_past w.kinds.items s Free h)) refl

pub past_clauses : (w : Watches) (id : ClauseId) (s : ℕ) → slot_in w.slots id ≡ Some s → length w.clauses.items ≤ s → held_of w id ≡ None
past_clauses w id s e h = not_held w id (ap (option_and_then (λ i. slice_get w.clauses.items i)) e ∙ slice_get_past w.clauses.items s h)

-- whether it is held, by the kind of its slot
pub holds_slot : (w : Watches) (id : ClauseId) (s : ℕ) (b : Bool) → slot_in w.slots id ≡ Some s → s < length w.clauses.items → is_held (kind_at w.kinds.items s) ≡ b → MatchBool b (IsSome (held_of w id)) (held_of w id ≡ None)
holds_slot w id s b e h is = tell b (held_by w id b (Some (get_or w.clauses.items s [])) (ap (is_held_slot w.kinds.items) e ∙ is) (ap (option_and_then (λ i. slice_get w.clauses.items i)) e ∙ slice_get-get_or w.clauses.items s [] h))
  where
    tell : (b : Bool) → held_of w id ≡ cond b (Some (get_or w.clauses.items s [])) None → MatchBool b (IsSome (held_of w id)) (held_of w id ≡ None)
    tell true q = IsSome-from (held_of w id) (get_or w.clauses.items s []) q
    tell false q = q

-- ---- level 0

-- at level 0 every row is of level 0
rows_zero : (t : Trail) (i : ℕ) → IsTrail t.stamps.items t.codes.items t.len t.head t.level → IsShown t.rows.items t.stamps.items t.codes.items t.len → t.level ≡ 0 → i < t.len → (get_or t.rows.items i no_row).1 ≡ 0
rows_zero t i tr sh e h = omega (arith, sh.level i h, tr.top (get_or t.codes.items i 0), e)

-- other kinds of the slots of reasons, none of them free
low_reasoned : (t : Trail) (cs : List (List ℕ)) (ks ks2 : List Kind) (ids : List ClauseId) → IsTrail t.stamps.items t.codes.items t.len t.head t.level → IsShown t.rows.items t.stamps.items t.codes.items t.len → t.level ≡ 0 →
    IsReasoned cs ks ids t.rows.items t.codes.items t.reasons.items t.len → length ks2 ≡ length ks → ((q : ℕ) → kind_at ks q ≢ Free → kind_at ks2 q ≢ Free) → IsReasoned cs ks2 ids t.rows.items t.codes.items t.reasons.items t.len
low_reasoned t cs ks ks2 ids tr sh e r size live = record {
  decided = r.decided;
  forced = λ i a b. rw size (r.forced i a b);
  live = λ i a b. live (get_or t.reasons.items i 0) (r.live i a b);
  held = λ i a b c. absurd (omega (arith, rows_zero t i tr sh e a, c));
  name = r.name;
  has = r.has;
  others = r.others;
  width = r.width;
}

-- another kind of a slot that is not free, which is not free either
named_again : (slots : List (List ℕ)) (ids : List ClauseId) (ks ks2 : List Kind) (s : ℕ) (id : ClauseId) → IsNamed slots ids ks → slot_in slots id ≡ Some s → length ks2 ≡ length ks → kind_at ks2 s ≢ Free → ((q : ℕ) → q ≢ s → kind_at ks2 q ≡ kind_at ks q) → IsNamed slots ids ks2
named_again slots ids ks ks2 s id n found size here kind = record {
  low = n.low;
  high = λ p q f. rw size (n.high p q f);
  name = n.name;
  live = λ p q f. elim (eqb_tells q s) [
    | inl e ↦ rw e.1 here
    | inr e ↦ λ z. n.live p q f (sym (kind q e.1) ∙ z)
  ];
  held = λ q a b live. n.held q a (rw size at b) (λ z. elim (eqb_tells q s) [
    | inl e ↦ n.live id s found (rw e.1 at z)
    | inr e ↦ live (kind q e.1 ∙ z)
  ]);
  rows = rw size n.rows;
  some = rw size n.some;
}

-- ---- a slot with a clause that stands in no list, and is of another kind now

pub record IsTurned (w v : Watches) (t : Trail) (s : ℕ) (id : ClauseId) (k : Kind) : Type 0 where
  pub settled : IsSettled w t
  pub level : t.level ≡ 0
  pub found : slot_in w.slots id ≡ Some s
  pub live : k ≢ Free
  pub unwatched : k ≢ Watched
  pub value : k ≡ Fixed → (l : ℕ) × (Has (get_or (all_codes w.clauses.items) s []) l × (get_or t.stamps.items l 0 ≡ 1))
  pub cleared : IsCleared w.lists v.lists s
  pub kinds : v.kinds.items ≡ set w.kinds.items s k
  pub clauses : v.clauses ≡ w.clauses
  pub ids : v.ids ≡ w.ids
  pub slots : v.slots ≡ w.slots
  pub calm : v.refuted ≡ w.refuted

turned_change : (w v : Watches) (t : Trail) (s : ℕ) (id : ClauseId) (k : Kind) → IsTurned w v t s id k → IsSlotChange w.lists.lists w.lists.literals w.kinds.items (all_codes w.clauses.items) v.lists.lists w.lists.literals (set w.kinds.items s k) (all_codes w.clauses.items) t.stamps.items t.codes.items t.head s
turned_change w v t s id k u =
    let now : kind_at (set w.kinds.items s k) s ≡ k = get_or-set_same w.kinds.items s k Free (u.settled.named.high id s u.found) in
    record {
      lists = u.cleared.size;
      places = refl;
      kinds = rw length-set refl;
      clauses = refl;
      gone = λ i q ne h. omega (arith, h, u.cleared.others i q ne);
      stay = λ i q ne h. omega (arith, h, u.cleared.others i q ne);
      literal = λ q ne. refl;
      kind = λ q ne. get_or-set_other w.kinds.items s q k Free ne;
      clause = λ q ne. refl;
      placed = λ i q e h. absurd (omega (arith, h, u.cleared.gone i q e));
      named = u.settled.watched.named s;
      within = u.settled.watched.within s;
      known = λ q e on. absurd (u.unwatched (sym now ∙ rw e at on.kind));
      inside = λ q e on. absurd (u.unwatched (sym now ∙ rw e at on.kind));
      differ = λ q e on. absurd (u.unwatched (sym now ∙ rw e at on.kind));
      kept = λ q e on. absurd (u.unwatched (sym now ∙ rw e at on.kind));
    }

pub turned_settled : (w v : Watches) (t : Trail) (s : ℕ) (id : ClauseId) (k : Kind) → IsTurned w v t s id k → IsSettled v t
turned_settled w v t s id k u =
    let st : IsSettled w t = u.settled in
    let ks2 : List Kind = set w.kinds.items s k in
    let size : length ks2 ≡ length w.kinds.items = rw length-set refl in
    let now : kind_at ks2 s ≡ k = get_or-set_same w.kinds.items s k Free (st.named.high id s u.found) in
    let here : kind_at ks2 s ≢ Free = λ e. u.live (sym now ∙ e) in
    let other : (q : ℕ) → q ≢ s → kind_at ks2 q ≡ kind_at w.kinds.items q = λ q ne. get_or-set_other w.kinds.items s q k Free ne in
    record {
      trail = st.trail;
      shown = st.shown;
      spots = st.spots;
      watched = rw (u.kinds, u.cleared.literals, u.clauses) (slot_changed w.lists.lists w.lists.literals w.kinds.items (all_codes w.clauses.items) v.lists.lists w.lists.literals ks2 (all_codes w.clauses.items) t.stamps.items t.codes.items t.head s st.watched (turned_change w v t s id k u));
      idle = u.cleared.idle;
      reasoned = rw (u.ids, u.kinds, u.clauses) (low_reasoned t (all_codes w.clauses.items) w.kinds.items ks2 w.ids.items st.trail st.shown u.level st.reasoned size
          (λ q live. elim (eqb_tells q s) [ inl e ↦ rw e.1 here | inr e ↦ λ z. live (sym (other q e.1) ∙ z) ]));
      named = rw (u.slots, u.ids, u.kinds) (named_again w.slots w.ids.items w.kinds.items ks2 s id st.named u.found size here other);
      fixed = rw (u.kinds, u.clauses, u.calm) (fixed_changed w.kinds.items (all_codes w.clauses.items) t.stamps.items w.refuted w.refuted ks2 (all_codes w.clauses.items) s st.fixed size other (λ q ne. refl) (λ e. e) (λ e. inl (u.value (sym now ∙ e))));
      calm = λ h. u.calm ∙ st.calm h;
    }

pub turned_kept : (w v : Watches) (t : Trail) (s : ℕ) (id : ClauseId) (k : Kind) (q : ClauseId) → IsTurned w v t s id k → clause_of v q ≡ clause_of w q
turned_kept w v t s id k q u = kept_same w v q (ap (λ m. slot_in m q) u.slots) (ap (λ c. c.items) u.clauses)

pub turned_held : (w v : Watches) (t : Trail) (s : ℕ) (id : ClauseId) (k : Kind) → IsTurned w v t s id k → held_of v id ≡ cond (is_held k) (clause_of w id) None
turned_held w v t s id k u =
    let now : kind_at v.kinds.items s ≡ k = rw u.kinds (get_or-set_same w.kinds.items s k Free (u.settled.named.high id s u.found)) in
    let slot : slot_in v.slots id ≡ Some s = ap (λ m. slot_in m id) u.slots ∙ u.found in
    held_by v id (is_held k) (clause_of w id) (ap (is_held_slot v.kinds.items) slot ∙ ap is_held now) (turned_kept w v t s id k id u)

pub turned_others : (w v : Watches) (t : Trail) (s : ℕ) (id : ClauseId) (k : Kind) (q : ClauseId) → IsTurned w v t s id k → q ≢ id → held_of v q ≡ held_of w q
turned_others w v t s id k q u ne =
    held_same w v q (ap (λ m. slot_in m q) u.slots) (λ r f. rw u.kinds (get_or-set_other w.kinds.items s r k Free (one_name w t id q s r u.settled u.found f ne))) (turned_kept w v t s id k q u)

-- ---- a parked clause without a true literal is held anew

-- a slot of a clause without a true literal is no reason
pub false_apart : (w : Watches) (t : Trail) (s : ℕ) → IsSettled w t → ((l : ℕ) → Has (get_or (all_codes w.clauses.items) s []) l → get_or t.stamps.items l 0 ≢ 1) → t.level ≡ 0 → (i : ℕ) → i < t.len → 0 < get_or t.reasons.items i 0 → get_or t.reasons.items i 0 ≢ s
false_apart w t s st none zero i h pos e =
    let has : Has (get_or (all_codes w.clauses.items) s []) (get_or t.codes.items i 0) = rw e at (st.reasoned.has i h pos) in
    none (get_or t.codes.items i 0) has (omega (arith, entry_true t.stamps.items t.codes.items t.len t.head t.level i st.trail h, st.trail.top (get_or t.codes.items i 0), zero))

-- the steps: w2 has the slot in front of the free ones, and v holds the clause in it
pub record IsWoken (w w2 v : Watches) (t u : Trail) (s : ℕ) (id : ClauseId) (c : List Literal) : Type 0 where
  pub settled : IsSettled w t
  pub found : slot_in w.slots id ≡ Some s
  pub clause : c ≡ get_or w.clauses.items s []
  pub kinds : w2.kinds.items ≡ set w.kinds.items s Free
  pub clauses : w2.clauses.items ≡ set w.clauses.items s []
  pub ids : w2.ids ≡ w.ids
  pub slots : w2.slots ≡ w.slots
  pub placed : IsPlaced v u
  pub holds : HoldsSome w2 v s c

module _ (w w2 v : Watches) (t u : Trail) (s : ℕ) (id : ClauseId) (c : List Literal) (m : IsWoken w w2 v t u s id c) where
  abbrev k : Kind
  k = m.holds.0

  in_kinds : s < length w.kinds.items
  in_kinds = m.settled.named.high id s m.found

  woken_kinds : v.kinds.items ≡ set w.kinds.items s k
  woken_kinds = m.holds.1.1.kinds ∙ (ap (λ xs. set xs s k) m.kinds ∙ set-set w.kinds.items s Free k)

  woken_clauses : v.clauses.items ≡ w.clauses.items
  woken_clauses = m.holds.1.1.clauses ∙ (ap (λ xs. set xs s c) m.clauses ∙ (set-set w.clauses.items s [] c ∙ (ap (λ x. set w.clauses.items s x) m.clause ∙ set-get_or w.clauses.items s [])))

  woken_slots : v.slots ≡ w.slots
  woken_slots = m.holds.1.1.slots ∙ m.slots

  woken_ids : v.ids ≡ w.ids
  woken_ids = m.holds.1.1.ids ∙ m.ids

  now : kind_at v.kinds.items s ≡ k
  now = ap (λ (xs : List Kind). kind_at xs s) woken_kinds ∙ get_or-set_same w.kinds.items s k Free in_kinds

  pub woken_settled : IsSettled v u
  woken_settled = settled_of v u m.placed (rw (woken_slots, woken_ids) (named_again w.slots w.ids.items w.kinds.items v.kinds.items s id m.settled.named m.found (rw (woken_kinds, length-set) refl) (λ e. held_live k m.holds.1.0 (sym now ∙ e))
      (λ q ne. rw woken_kinds (get_or-set_other w.kinds.items s q k Free ne))))

  pub woken_kept : (q : ClauseId) → clause_of v q ≡ clause_of w q
  woken_kept q = kept_same w v q (ap (λ x. slot_in x q) woken_slots) woken_clauses

  pub woken_held : held_of v id ≡ clause_of w id
  woken_held = held_by v id true (clause_of w id) (ap (is_held_slot v.kinds.items) (ap (λ x. slot_in x id) woken_slots ∙ m.found) ∙ (ap is_held now ∙ m.holds.1.0)) (woken_kept id)

  pub woken_others : (q : ClauseId) → q ≢ id → held_of v q ≡ held_of w q
  woken_others q ne = held_same w v q (ap (λ x. slot_in x q) woken_slots) (λ r f. rw woken_kinds (get_or-set_other w.kinds.items s r k Free (one_name w t id q s r m.settled m.found f ne))) (woken_kept q)

-- what a clause that came leaves of the rows is an extension
pub added_extended : (old new : List Row) (level : ℕ) (id : ClauseId) (c : List Literal) → IsAdded old level id c new → IsExtended old level new
added_extended old new level id c x = elim x [
  | inl a ↦ ([], (a.0 ∙ sym (append-nil old), λ j d h. absurd (omega (arith, h))))
  | inr a ↦ ((a.0, level, Some id) ∷ [], (a.1.1.1.1, λ j d h. let e : j ≡ 0 = omega (arith, h) in rw e (refl, refl)))
]

-- a slot that is neither free nor parked holds its clause
pub unparked : (k : Kind) → k ≢ Free → k ≢ Parked → IsHeld k
unparked Free a b = absurd (a refl)
unparked Fixed a b = refl
unparked Watched a b = refl
unparked Parked a b = absurd (b refl)

pub already_held : (w : Watches) (t : Trail) (s : ℕ) (id : ClauseId) → IsSettled w t → slot_in w.slots id ≡ Some s → kind_at w.kinds.items s ≢ Parked → held_of w id ≡ clause_of w id
already_held w t s id st found ne = held_by w id true (clause_of w id) (ap (is_held_slot w.kinds.items) found ∙ unparked (kind_at w.kinds.items s) (st.named.live id s found) ne) refl

-- the clause of a slot and its codes
pub slot_codes : (w : Watches) (s : ℕ) (c : List Literal) → s < length w.clauses.items → c ≡ get_or w.clauses.items s [] → codes c ≡ get_or (all_codes w.clauses.items) s []
slot_codes w s c within e = ap codes e ∙ sym (get_or-map codes w.clauses.items s [] [] within)

pub may_wake : (w : Watches) (t : Trail) (s : ℕ) (c : List Literal) → IsSettled w t → t.level ≡ 0 → codes c ≡ get_or (all_codes w.clauses.items) s [] → MayCome t (codes c)
may_wake w t s c st zero e = record {
  named = λ l h. st.watched.named s l (rw e at h);
  within = λ l h. st.watched.within s l (rw e at h);
  rests = λ j h. absurd (omega (arith, h, zero));
}

-- ---- all at once

pub record IsAllParked (w v : Watches) (t : Trail) : Type 0 where
  pub settled : IsSettled w t
  pub level : t.level ≡ 0
  pub emptied : IsEmptied w.lists v.lists (length t.stamps.items)
  pub size : length v.kinds.items ≡ length w.kinds.items
  pub kinds : (q : ℕ) → IsParkedFrom (kind_at w.kinds.items q) (kind_at v.kinds.items q)
  pub clauses : v.clauses ≡ w.clauses
  pub ids : v.ids ≡ w.ids
  pub slots : v.slots ≡ w.slots
  pub calm : v.refuted ≡ w.refuted

module _ (w v : Watches) (t : Trail) (m : IsAllParked w v t) where
  not_watched : (q : ℕ) → kind_at v.kinds.items q ≢ Watched
  not_watched q e = elim (m.kinds q) [ inl a ↦ free_not_watched (sym a.1 ∙ e) | inr a ↦ parked_not_watched (sym a.1 ∙ e) ]

  not_fixed : (q : ℕ) → kind_at v.kinds.items q ≢ Fixed
  not_fixed q e = elim (m.kinds q) [ inl a ↦ free_not_fixed (sym a.1 ∙ e) | inr a ↦ parked_not_fixed (sym a.1 ∙ e) ]

  still_live : (q : ℕ) → kind_at w.kinds.items q ≢ Free → kind_at v.kinds.items q ≢ Free
  still_live q live e = elim (m.kinds q) [ inl a ↦ live a.0 | inr a ↦ parked_not_free (sym a.1 ∙ e) ]

  was_live : (q : ℕ) → kind_at v.kinds.items q ≢ Free → kind_at w.kinds.items q ≢ Free
  was_live q live e = elim (m.kinds q) [ inl a ↦ live a.1 | inr a ↦ a.0 e ]

  still_free : (q : ℕ) → kind_at w.kinds.items q ≡ Free → kind_at v.kinds.items q ≡ Free
  still_free q e = elim (m.kinds q) [ inl a ↦ a.1 | inr a ↦ absurd (a.0 e) ]

  off : {A : Type 0} (q : ℕ) → IsWatching v.kinds.items q → A
  off q on = absurd (not_watched (q / 2) on.kind)

  -- what stands in a list stood there, and that is list 1
  left_place : (i q : ℕ) → 0 < times q (get_or v.lists.lists i []) → (i ≡ 1) × IsPlace w.lists.literals w.kinds.items (length t.stamps.items) i q
  left_place i q h = elim (m.emptied.fewer i) [
    | inr e ↦ absurd (let h2 : 0 < times q [] = rw e at h in omega (arith, h2, times_nil q))
    | inl e ↦
        let old : 0 < times q (get_or w.lists.lists i []) = rw e at h in
        let p : IsPlace w.lists.literals w.kinds.items (length t.stamps.items) i q = m.settled.watched.sound i q old in
        elim (eqb_tells i 1) [
          | inl one ↦ (one.1, p)
          | inr one ↦ elim (eqb_tells i 0) [
            | inl none ↦ absurd (let h2 : 0 < times q [] = rw (none.1, m.settled.idle) at old in omega (arith, h2, times_nil q))
            | inr none ↦
                let on : IsWatching w.kinds.items q = record { low = p.low; high = p.high; kind = p.watched one.1 } in
                let has : Has (get_or (all_codes w.clauses.items) (q / 2) []) (get_or w.lists.literals q 0) = m.settled.watched.inside q on in
                let place : get_or w.lists.literals q 0 + 1 ≡ i = p.listed (omega (arith, none.1)) in
                let empty : get_or v.lists.lists (get_or w.lists.literals q 0 + 1) [] ≡ [] = m.emptied.done (get_or w.lists.literals q 0) (m.settled.watched.named (q / 2) (get_or w.lists.literals q 0) has) (m.settled.watched.within (q / 2) (get_or w.lists.literals q 0) has) in
                let empty2 : get_or v.lists.lists i [] ≡ [] = rw place at empty in
                absurd (let h2 : 0 < times q [] = rw empty2 at h in omega (arith, h2, times_nil q))
          ]
        ]
  ]

  all_watched : IsWatched v.lists.lists v.lists.literals v.kinds.items (all_codes w.clauses.items) t.stamps.items t.codes.items t.head (length t.stamps.items) 0
  all_watched = record {
    lists = rw m.emptied.size m.settled.watched.lists;
    slots = rw (m.size, m.emptied.literals) m.settled.watched.slots;
    clauses = rw m.size m.settled.watched.clauses;
    known = λ q on. off q on;
    sound = λ i q h.
        let p : (i ≡ 1) × IsPlace w.lists.literals w.kinds.items (length t.stamps.items) i q = left_place i q h in
        record {
          low = p.1.low;
          high = rw m.size p.1.high;
          visited = λ e. rw m.emptied.literals (p.1.visited e);
          listed = λ e. rw m.emptied.literals (p.1.listed e);
          watched = λ e. absurd (e p.0);
          free = λ e. still_free (q / 2) (p.1.free e);
          first = p.1.first;
        };
    inside = λ q on. off q on;
    differ = λ q on. off q on;
    named = m.settled.watched.named;
    within = m.settled.watched.within;
    kept = λ q on. off q on;
    here = λ q on. off q on;
  }

  pub all_settled : IsSettled v t
  all_settled = record {
    trail = m.settled.trail;
    shown = m.settled.shown;
    spots = m.settled.spots;
    watched = rw m.clauses all_watched;
    idle = m.emptied.front 0 (omega arith) ∙ m.settled.idle;
    reasoned = rw (m.ids, m.clauses) (low_reasoned t (all_codes w.clauses.items) w.kinds.items v.kinds.items w.ids.items m.settled.trail m.settled.shown m.level m.settled.reasoned m.size still_live);
    named = rw (m.slots, m.ids) (record {
      low = m.settled.named.low;
      high = λ p q f. rw m.size (m.settled.named.high p q f);
      name = m.settled.named.name;
      live = λ p q f. still_live q (m.settled.named.live p q f);
      held = λ q a b live. m.settled.named.held q a (rw m.size at b) (was_live q live);
      rows = rw m.size m.settled.named.rows;
      some = rw m.size m.settled.named.some;
    });
    fixed = record { value = λ q a b e. absurd (not_fixed q e) };
    calm = λ h. m.calm ∙ m.settled.calm h;
  }

  pub all_kept : (q : ClauseId) → clause_of v q ≡ clause_of w q
  all_kept q = kept_same w v q (ap (λ x. slot_in x q) m.slots) (ap (λ x. x.items) m.clauses)

  slot_idle : (o : Option ℕ) → is_held_slot v.kinds.items o ≡ false
  slot_idle None = refl
  slot_idle (Some q) = elim (m.kinds q) [ inl a ↦ ap is_held a.1 | inr a ↦ ap is_held a.1 ]

  pub none_held : (q : ClauseId) → held_of v q ≡ None
  none_held q = held_by v q false (clause_of w q) (slot_idle (slot_in v.slots q)) (all_kept q)

-- ---- kinds, one after the other

-- the kinds before a place are those once nothing is held
pub record IsParkedBefore (old new : List Kind) (n : ℕ) : Type 0 where
  pub size : length new ≡ length old
  pub done : (q : ℕ) → q < n → IsParkedFrom (kind_at old q) (kind_at new q)
  pub rest : (q : ℕ) → n ≤ q → kind_at new q ≡ kind_at old q

pub parked_none : (ks : List Kind) → IsParkedBefore ks ks 0
parked_none ks = record { size = refl; done = λ q h. absurd (omega (arith, h)); rest = λ q h. refl }

pub parked_more : (old new : List Kind) (n : ℕ) (k j : Kind) → n < length new → k ≡ kind_at new n → IsParkedFrom k j → IsParkedBefore old new n → IsParkedBefore old (set new n j) (n + 1)
parked_more old new n k j within read turn p = record {
  size = rw length-set p.size;
  done = λ q h. elim (eqb_tells q n) [
    | inl e ↦
        let here : kind_at (set new n j) n ≡ j = get_or-set_same new n j Free within in
        let was : k ≡ kind_at old n = read ∙ p.rest n (omega arith) in
        let turn2 : IsParkedFrom (kind_at old n) j = rw was at turn in
        rw (e.1, here) turn2
    | inr e ↦
        let same : kind_at (set new n j) q ≡ kind_at new q = get_or-set_other new n q j Free e.1 in
        rw same (p.done q (omega (arith, h, e.1)))
  ];
  rest = λ q h. get_or-set_other new n q j Free (λ e. omega (arith, e, h)) ∙ p.rest q (omega (arith, h));
}

pub parked_all : (old new : List Kind) (n q : ℕ) → length new ≤ n → IsParkedBefore old new n → IsParkedFrom (kind_at old q) (kind_at new q)
parked_all old new n q le p = elim (cases_lt q n) [
  | inl h ↦ p.done q h
  | inr h ↦ inl (get_or_past old q Free (omega (arith, h, le, p.size)), get_or_past new q Free (omega (arith, h, le)))
]

-- ---- lists, one after the other

pub emptied_none : (V : Lists) → IsEmptied V V 2
emptied_none V = record { literals = refl; size = refl; front = λ i h. refl; fewer = λ i. inl refl; done = λ l a b. absurd (omega (arith, a, b)) }

-- a lower end asks for less
pub emptied_less : (old new : Lists) (n m : ℕ) → m ≤ n → IsEmptied old new n → IsEmptied old new m
emptied_less old new n m le p = record { literals = p.literals; size = p.size; front = p.front; fewer = p.fewer; done = λ l a b. p.done l a (omega (arith, b, le)) }

pub emptied_more : (old new : Lists) (n : ℕ) → n + 2 ≤ length old.lists → 2 ≤ n → IsEmptied old new n → IsEmptied old (record { lists = set new.lists (n + 1) []; literals = new.literals }) (n + 1)
emptied_more old new n room two p =
    let inside : n + 1 < length new.lists = omega (arith, room, p.size) in
    let cases : (i : ℕ) → ((i ≡ n + 1) × (get_or (set new.lists (n + 1) []) i [] ≡ [])) ⊎ ((i ≢ n + 1) × (get_or (set new.lists (n + 1) []) i [] ≡ get_or new.lists i [])) = λ i. elim (eqb_tells i (n + 1)) [
      | inl e ↦ inl (e.1, rw e.1 (get_or-set_same new.lists (n + 1) [] [] inside))
      | inr e ↦ inr (e.1, get_or-set_other new.lists (n + 1) i [] [] e.1)
    ] in
    record {
      literals = p.literals;
      size = rw length-set p.size;
      front = λ i h. elim (cases i) [
        | inl e ↦ absurd (omega (arith, e.0, h, two))
        | inr e ↦ e.1 ∙ p.front i h
      ];
      fewer = λ i. elim (cases i) [
        | inl e ↦ inr e.1
        | inr e ↦ elim (p.fewer i) [ inl f ↦ inl (e.1 ∙ f) | inr f ↦ inr (e.1 ∙ f) ]
      ];
      done = λ l a b. elim (cases (l + 1)) [
        | inl e ↦ e.1
        | inr e ↦ e.1 ∙ p.done l a (omega (arith, b, e.0))
      ];
    }
