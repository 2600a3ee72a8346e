-- The names of the clauses, as slots are taken and given up.
use Rattle.std.proofs.Common.{ℕ, zero, suc, ◌≡◌, ◌≢◌, ◌<◌, ◌≤◌, ◌⊎◌, Bool, true, false, List, [], ◌∷◌, Option, Some, None, cond, length, refl, sym, ap, ◌∙◌, inl, inr, arith}
use Rattle.std.specs.Prelude.{slice_get, option_and_then}
use Rattle.std.proofs.Math.ListN.{get_or, set, length-set}
use Rattle.std.proofs.lemmas.List.{get_or-set_other, get_or-set_same}
use Rattle.std.proofs.lemmas.Option.{slice_get-get_or}
use Rattle.std.proofs.lemmas.Bool.Decides.{eqb_tells}
use Rattle.cnf_base.specs.Literals.{Literal}
use Rattle.cnf_base.specs.declared.clause.ClauseId.{ClauseId}
use Rattle.cdcl_core.specs.declared.trail.Trail.{Trail}
use Rattle.cdcl_core.specs.declared.watches.Watches.{Watches}
use Rattle.cdcl_core.specs.declared.watches.Kind.{Kind}
use Rattle.cdcl_core.specs.declared.watches.Kind.TheVariants.{Free}
use Rattle.cdcl_core.specs.Search.{clause_of, held_of, is_held_slot}
use Rattle.cdcl_core.specs.Slots.{slot_in, IsRenamed}
use Rattle.cdcl_core.specs.Watched.{kind_at, is_held}
use Rattle.cnf_base.specs.Clauses.{no_id}
use Rattle.cdcl_core.specs.State.{all_codes, IsNamed, IsSettled, IsPlaced, IsWaiting, Holds}
use Rattle.cdcl_core.proofs.Held.{held_by, held_same, same_or_other}
use Rattle.cdcl_core.proofs.Clauses.{codes_length}
use Rattle.cdcl_core.proofs.Slots.{free_apart}

-- a name that no clause has has no slot
pub not_named : (w : Watches) (t : Trail) (id : ClauseId) → IsSettled w t → clause_of w id ≡ None → slot_in w.slots id ≡ None
not_named w t id s fresh = none (slot_in w.slots id) refl
  where
    none : (o : Option ℕ) → slot_in w.slots id ≡ o → slot_in w.slots id ≡ None
    none None e = e
    none (Some q) e =
        let within : q < length w.clauses.items = (let h : q < length w.kinds.items = s.named.high id q e in omega (arith, h, s.watched.clauses, codes_length w.clauses.items)) in
        let found : clause_of w id ≡ Some (get_or w.clauses.items q []) = ap (option_and_then (λ i. slice_get w.clauses.items i)) e ∙ slice_get-get_or w.clauses.items q [] within in
        absurd (let z : None ≡ Some (get_or w.clauses.items q []) = sym fresh ∙ found in cc)

apart : (w : Watches) (t : Trail) (s : ℕ) → IsSettled w t → kind_at w.kinds.items s ≡ Free → (i : ℕ) → i < t.len → 0 < get_or t.reasons.items i 0 → get_or t.reasons.items i 0 ≢ s
apart w t s st free i a b = free_apart (all_codes w.clauses.items) w.kinds.items w.ids.items t.rows.items t.codes.items t.reasons.items t.len s st.reasoned free i a b

-- a name for a free slot concerns no reason
pub named_placed : (w w2 : Watches) (t : Trail) (s : ℕ) (id : ClauseId) → IsSettled w t → kind_at w.kinds.items s ≡ Free → w2.lists ≡ w.lists → w2.kinds ≡ w.kinds → w2.clauses ≡ w.clauses → w2.refuted ≡ w.refuted → w2.ids.items ≡ set w.ids.items s id → IsPlaced w2 t
named_placed w w2 t s id st free e1 e2 e3 e4 e5 = record {
  trail = st.trail;
  shown = st.shown;
  spots = st.spots;
  watched = rw (e1, e2, e3) st.watched;
  idle = rw e1 st.idle;
  reasoned = rw (e2, e3, e5) (record {
    decided = st.reasoned.decided;
    forced = st.reasoned.forced;
    live = st.reasoned.live;
    held = st.reasoned.held;
    name = λ i a b. rw (get_or-set_other w.ids.items s (get_or t.reasons.items i 0) id no_id (apart w t s st free i a b)) (st.reasoned.name i a b);
    has = st.reasoned.has;
    others = st.reasoned.others;
    width = st.reasoned.width;
  });
  rows = rw (e2, e5, length-set) st.named.rows;
  fixed = rw (e2, e3, e4) st.fixed;
  calm = λ u. e4 ∙ st.calm u;
}

-- the names after a slot was taken
pub record IsTaken (w w2 : Watches) (s : ℕ) (id : ClauseId) (k : Kind) : Type 0 where
  pub named : IsRenamed w.slots w2.slots id (Some s)
  pub ids : w2.ids.items ≡ set w.ids.items s id
  pub kinds : w2.kinds.items ≡ set w.kinds.items s k
  pub live : k ≢ Free
  pub low : 1 ≤ s
  pub high : s < length w.kinds.items
  pub free : kind_at w.kinds.items s ≡ Free
  pub fresh : slot_in w.slots id ≡ None

-- the slot of a name, before and after
found_cases : (w w2 : Watches) (s : ℕ) (id : ClauseId) (k : Kind) (q : ClauseId) → IsTaken w w2 s id k → ((id ≡ q) × (slot_in w2.slots q ≡ Some s)) ⊎ ((q ≢ id) × (slot_in w2.slots q ≡ slot_in w.slots q))
found_cases w w2 s id k q u = elim (same_or_other q id) [
  | inl e ↦ inl (sym e, ap (slot_in w2.slots) e ∙ u.named.here)
  | inr ne ↦ inr (ne, u.named.others q ne)
]

pub taken_named : (w w2 : Watches) (t : Trail) (s : ℕ) (id : ClauseId) (k : Kind) → IsSettled w t → IsTaken w w2 s id k → IsNamed w2.slots w2.ids.items w2.kinds.items
taken_named w w2 t s id k st u =
    let size : length w2.kinds.items ≡ length w.kinds.items = rw (u.kinds, length-set) refl in
    let lo : 1 ≤ s = u.low in
    let hi : s < length w.kinds.items = u.high in
    let kind_s : kind_at w2.kinds.items s ≡ k = rw u.kinds (get_or-set_same w.kinds.items s k Free hi) in
    let kind_q : (q : ℕ) → q ≢ s → kind_at w2.kinds.items q ≡ kind_at w.kinds.items q = λ q ne. rw u.kinds (get_or-set_other w.kinds.items s q k Free ne) in
    let name_s : get_or w2.ids.items s no_id ≡ id = rw u.ids (get_or-set_same w.ids.items s id no_id (omega (arith, st.named.rows))) in
    let name_q : (q : ℕ) → q ≢ s → get_or w2.ids.items q no_id ≡ get_or w.ids.items q no_id = λ q ne. rw u.ids (get_or-set_other w.ids.items s q id no_id ne) in
    let other : (p : ClauseId) (q : ℕ) → slot_in w.slots p ≡ Some q → q ≢ s = λ p q f e. st.named.live p q f (rw e u.free) in
    record {
      low = λ p q f. elim (found_cases w w2 s id k p u) [
        | inl a ↦ rw (← some_inj s q (sym a.1 ∙ f)) lo
        | inr a ↦ st.named.low p q (sym a.1 ∙ f)
      ];
      high = λ p q f. rw size (elim (found_cases w w2 s id k p u) [
        | inl a ↦ rw (← some_inj s q (sym a.1 ∙ f)) hi
        | inr a ↦ st.named.high p q (sym a.1 ∙ f)
      ]);
      name = λ p q f. elim (found_cases w w2 s id k p u) [
        | inl a ↦ rw (← some_inj s q (sym a.1 ∙ f)) (name_s ∙ a.0)
        | inr a ↦ name_q q (other p q (sym a.1 ∙ f)) ∙ st.named.name p q (sym a.1 ∙ f)
      ];
      live = λ p q f. elim (found_cases w w2 s id k p u) [
        | inl a ↦ rw (← some_inj s q (sym a.1 ∙ f)) (λ e. u.live (sym kind_s ∙ e))
        | inr a ↦ λ e. st.named.live p q (sym a.1 ∙ f) (sym (kind_q q (other p q (sym a.1 ∙ f))) ∙ e)
      ];
      held = λ q a b live. elim (eqb_tells q s) [
        | inl e ↦ rw (e.1, name_s) u.named.here
        | inr e ↦
            let old : slot_in w.slots (get_or w.ids.items q no_id) ≡ Some q = st.named.held q a (rw size at b) (λ z. live (kind_q q e.1 ∙ z)) in
            elim (found_cases w w2 s id k (get_or w.ids.items q no_id) u) [
              | inl x ↦ absurd (let z : None ≡ Some q = sym u.fresh ∙ rw (← x.0) at old in cc)
              | inr x ↦ rw (name_q q e.1) (x.1 ∙ old)
            ]
      ];
      rows = rw (u.kinds, u.ids, length-set, length-set) st.named.rows;
      some = rw size st.named.some;
    }
  where
    some_inj : (a b : ℕ) → Some a ≡ Some b → a ≡ b
    some_inj a b e = cc

pub settled_of : (w : Watches) (t : Trail) → IsPlaced w t → IsNamed w.slots w.ids.items w.kinds.items → IsSettled w t
settled_of w t p n = record { trail = p.trail; shown = p.shown; spots = p.spots; watched = p.watched; idle = p.idle; reasoned = p.reasoned; named = n; fixed = p.fixed; calm = p.calm }

pub placed_of : (w : Watches) (t : Trail) → IsSettled w t → IsPlaced w t
placed_of w t s = record { trail = s.trail; shown = s.shown; spots = s.spots; watched = s.watched; idle = s.idle; reasoned = s.reasoned; rows = s.named.rows; fixed = s.fixed; calm = s.calm }

-- the steps of a clause that comes: w has a slot for it, w2 the name, and w3 the clause, in a slot of this kind
pub record IsStored (w w2 w3 : Watches) (t : Trail) (s : ℕ) (id : ClauseId) (c : List Literal) (k : Kind) : Type 0 where
  pub settled : IsSettled w t
  pub waiting : IsWaiting w s
  pub fresh : clause_of w id ≡ None
  pub named : IsRenamed w.slots w2.slots id (Some s)
  pub ids : w2.ids.items ≡ set w.ids.items s id
  pub kinds : w2.kinds ≡ w.kinds
  pub clauses : w2.clauses ≡ w.clauses
  pub live : k ≢ Free
  pub holds : Holds w2 w3 s k c

stored_taken : (w w2 w3 : Watches) (t : Trail) (s : ℕ) (id : ClauseId) (c : List Literal) (k : Kind) → IsStored w w2 w3 t s id c k → IsTaken w w3 s id k
stored_taken w w2 w3 t s id c k u = record {
  named = rw u.holds.slots u.named;
  ids = rw u.holds.ids u.ids;
  kinds = u.holds.kinds ∙ ap (λ v. set v.items s k) u.kinds;
  live = u.live;
  low = u.waiting.low;
  high = u.waiting.high;
  free = u.waiting.free;
  fresh = not_named w t id u.settled u.fresh;
}

pub stored_settled : (w w2 w3 : Watches) (t t3 : Trail) (s : ℕ) (id : ClauseId) (c : List Literal) (k : Kind) → IsStored w w2 w3 t s id c k → IsPlaced w3 t3 → IsSettled w3 t3
stored_settled w w2 w3 t t3 s id c k u p = settled_of w3 t3 p (taken_named w w3 t s id k u.settled (stored_taken w w2 w3 t s id c k u))

pub other_slot : {X : Type 0} (xs : List X) (i j : ℕ) (x : X) → j ≢ i → slice_get (set xs i x) j ≡ slice_get xs j
other_slot [] i j x ne = refl
other_slot (y ∷ ys) zero zero x ne = absurd (ne refl)
other_slot (y ∷ ys) zero (suc j) x ne = refl
other_slot (y ∷ ys) (suc i) zero x ne = refl
other_slot (y ∷ ys) (suc i) (suc j) x ne = other_slot ys i j x (λ e. ne (ap suc e))

pub same_slot : {X : Type 0} (xs : List X) (i : ℕ) (x : X) → i < length xs → slice_get (set xs i x) i ≡ Some x
same_slot xs i x h = let h2 : i < length (set xs i x) = rw length-set h in slice_get-get_or (set xs i x) i x h2 ∙ ap Some (get_or-set_same xs i x x h)

clauses_now : (w w2 w3 : Watches) (t : Trail) (s : ℕ) (id : ClauseId) (c : List Literal) (k : Kind) → IsStored w w2 w3 t s id c k → w3.clauses.items ≡ set w.clauses.items s c
clauses_now w w2 w3 t s id c k u = u.holds.clauses ∙ ap (λ v. set v.items s c) u.clauses

pub stored_kept : (w w2 w3 : Watches) (t : Trail) (s : ℕ) (id : ClauseId) (c : List Literal) (k : Kind) → IsStored w w2 w3 t s id c k → clause_of w3 id ≡ Some c
stored_kept w w2 w3 t s id c k u =
    let m : IsTaken w w3 s id k = stored_taken w w2 w3 t s id c k u in
    let within : s < length w.clauses.items = (let h : s < length w.kinds.items = u.waiting.high in omega (arith, h, u.settled.watched.clauses, codes_length w.clauses.items)) in
    ap (option_and_then (λ i. slice_get w3.clauses.items i)) m.named.here ∙ (ap (λ xs. slice_get xs s) (clauses_now w w2 w3 t s id c k u) ∙ same_slot w.clauses.items s c within)

-- it is held or parked, as the kind of its slot says
pub stored_held : (w w2 w3 : Watches) (t : Trail) (s : ℕ) (id : ClauseId) (c : List Literal) (k : Kind) (b : Bool) → IsStored w w2 w3 t s id c k → is_held k ≡ b → held_of w3 id ≡ cond b (Some c) None
stored_held w w2 w3 t s id c k b u is =
    let m : IsTaken w w3 s id k = stored_taken w w2 w3 t s id c k u in
    let kind : kind_at w3.kinds.items s ≡ k = rw m.kinds (get_or-set_same w.kinds.items s k Free u.waiting.high) in
    held_by w3 id b (Some c) (ap (is_held_slot w3.kinds.items) m.named.here ∙ (ap is_held kind ∙ is)) (stored_kept w w2 w3 t s id c k u)

-- a look-up that finds no changed slot
pub read_other : (xs ys : List (List Literal)) (o : Option ℕ) → ((q : ℕ) → o ≡ Some q → slice_get xs q ≡ slice_get ys q) → option_and_then (λ i. slice_get xs i) o ≡ option_and_then (λ i. slice_get ys i) o
read_other xs ys None h = refl
read_other xs ys (Some q) h = h q refl

pub stored_others : (w w2 w3 : Watches) (t : Trail) (s : ℕ) (id : ClauseId) (c : List Literal) (k : Kind) (q : ClauseId) → IsStored w w2 w3 t s id c k → q ≢ id → (clause_of w3 q ≡ clause_of w q) × (held_of w3 q ≡ held_of w q)
stored_others w w2 w3 t s id c k q u ne =
    let m : IsTaken w w3 s id k = stored_taken w w2 w3 t s id c k u in
    let apart_of : (i : ℕ) → slot_in w.slots q ≡ Some i → i ≢ s = λ i f e. u.settled.named.live q i f (rw e u.waiting.free) in
    elim (found_cases w w3 s id k q m) [
      | inl a ↦ absurd (ne (sym a.0))
      | inr a ↦
          let kept : clause_of w3 q ≡ clause_of w q = ap (option_and_then (λ i. slice_get w3.clauses.items i)) a.1 ∙ read_other w3.clauses.items w.clauses.items (slot_in w.slots q)
          (λ i f. ap (λ xs. slice_get xs i) (clauses_now w w2 w3 t s id c k u) ∙ other_slot w.clauses.items s i c (apart_of i f)) in
          (kept, held_same w w3 q a.1 (λ i f. rw m.kinds (get_or-set_other w.kinds.items s i k Free (apart_of i f))) kept)
    ]

-- the table was asked for memory in vain
pub unnamed_settled : (w w2 : Watches) (t : Trail) → IsSettled w t → w2.lists ≡ w.lists → w2.kinds ≡ w.kinds → w2.clauses ≡ w.clauses → w2.ids ≡ w.ids → w2.refuted ≡ w.refuted → ((q : ClauseId) → slot_in w2.slots q ≡ slot_in w.slots q) → IsSettled w2 t
unnamed_settled w w2 t st e1 e2 e3 e4 e5 same =
    record {
      trail = st.trail;
      shown = st.shown;
      spots = st.spots;
      watched = rw (e1, e2, e3) st.watched;
      idle = rw e1 st.idle;
      reasoned = rw (e2, e3, e4) st.reasoned;
      named = rw (e2, e4) (record {
        low = λ p q f. st.named.low p q (sym (same p) ∙ f);
        high = λ p q f. st.named.high p q (sym (same p) ∙ f);
        name = λ p q f. st.named.name p q (sym (same p) ∙ f);
        live = λ p q f. st.named.live p q (sym (same p) ∙ f);
        held = λ q a b live. same (get_or w.ids.items q no_id) ∙ st.named.held q a b live;
        rows = st.named.rows;
        some = st.named.some;
      });
      fixed = rw (e2, e3, e5) st.fixed;
      calm = λ u. e5 ∙ st.calm u;
    }

pub unnamed_held : (w w2 : Watches) (id : ClauseId) → w2.kinds ≡ w.kinds → w2.clauses ≡ w.clauses → ((q : ClauseId) → slot_in w2.slots q ≡ slot_in w.slots q) → held_of w2 id ≡ held_of w id
unnamed_held w w2 id e1 e2 same = rw (e1, e2, same id) refl

pub unnamed_kept : (w w2 : Watches) (id : ClauseId) → w2.clauses ≡ w.clauses → ((q : ClauseId) → slot_in w2.slots q ≡ slot_in w.slots q) → clause_of w2 id ≡ clause_of w id
unnamed_kept w w2 id e same = rw (e, same id) refl
