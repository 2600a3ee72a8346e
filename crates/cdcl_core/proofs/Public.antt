-- What the public calls promise, from the invariant.
use Rattle.std.proofs.Common.{ℕ, ◌≡◌, ◌≢◌, ◌+◌, ◌-◌, ◌*◌, ◌<◌, ◌≤◌, ◌++◌, zero, suc, true, false, List, [], ◌∷◌, Option, Some, None, length, take, drop, filter, refl, sym, ap, ◌∙◌, inl, inr, arith}
use Rattle.std.specs.Prelude.{slice_get, nat_le}
use Rattle.std.specs.Option.{option_and_then}
use Rattle.std.proofs.Math.ListN.{get_or}
use Rattle.std.proofs.lemmas.List.{get_or-take, get_or-drop, get_or_default, length-drop, take-append-drop, take-take}
use Rattle.std.proofs.lemmas.Option.{slice_get-get_or, get_or_from_slice_get, slice_get_within}
use Rattle.std.proofs.lemmas.Bool.{le-leb, lt-leb}
use Rattle.cnf_base.specs.Literals.{Literal}
use Rattle.cnf_base.specs.declared.clause.ClauseId.{ClauseId}
use Rattle.cdcl_core.specs.declared.trail.Trail.{Trail}
use Rattle.cdcl_core.specs.declared.watches.Watches.{Watches}
use Rattle.cdcl_core.specs.declared.watches.Kind.TheVariants.{Free}
use Rattle.cdcl_core.specs.Levels.{Row, IsExtended}
use Rattle.cdcl_core.specs.Search.{literals_of, level_of, clause_of, held_of, is_held_slot, IsAtRest, IsConflict}
use Rattle.cdcl_core.specs.Slots.{slot_in}
use Rattle.cdcl_core.specs.Stamps.{codes, Has, IsFalse, RestsAt, IsTrail}
use Rattle.cdcl_core.specs.Watched.{kind_at, IsHeld, IsWatching}
use Rattle.cdcl_core.proofs.Counting.{times_nil}
use Rattle.cdcl_core.proofs.Held.{held_live, held_kinds, picked, held_by}
use Rattle.cnf_base.specs.Clauses.{no_id}
use Rattle.cdcl_core.specs.State.{no_row, all_codes, IsShown, IsFixed, IsSettled, IsPropagated, IsGrown, IsNew}
use Rattle.cdcl_core.proofs.Resting.{rests}
use Rattle.cdcl_core.proofs.Clauses.{clause_codes, codes_length}
use Rattle.cdcl_core.proofs.Bridge.{rests_rows, refuted_rows, rows_len, literals_length, front_kept}
use Rattle.cnf_base.proofs.Options.{IsSome-from}

taken : {A B : Type 0} (f : A → Option B) (o : Option A) (b : B) → option_and_then f o ≡ Some b → (a : A) × ((o ≡ Some a) × (f a ≡ Some b))
taken f None b e = absurd cc
taken f (Some a) b e = (a, (refl, e))

-- the slot of a held clause
pub record IsSlot (w : Watches) (id : ClauseId) (c : List Literal) (s : ℕ) : Type 0 where
  pub found : slot_in w.slots id ≡ Some s
  pub low : 1 ≤ s
  pub high : s < length w.kinds.items
  pub held : IsHeld (kind_at w.kinds.items s)
  pub within : s < length w.clauses.items
  pub clause : slice_get w.clauses.items s ≡ Some c
  pub read : codes c ≡ get_or (all_codes w.clauses.items) s []

pub slot_of : (w : Watches) (t : Trail) (id : ClauseId) (c : List Literal) → IsSettled w t → held_of w id ≡ Some c → (s : ℕ) × IsSlot w id c s
slot_of w t id c st e =
    let both : (is_held_slot w.kinds.items (slot_in w.slots id) ≡ true) × (clause_of w id ≡ Some c) = picked (is_held_slot w.kinds.items (slot_in w.slots id)) (clause_of w id) c e in
    let p : (s : ℕ) × ((slot_in w.slots id ≡ Some s) × (slice_get w.clauses.items s ≡ Some c)) = taken (λ s. slice_get w.clauses.items s) (slot_in w.slots id) c both.1 in
    let s : ℕ = p.0 in
    let within : s < length w.clauses.items = slice_get_within w.clauses.items s c p.1.1 in (
      s,
      record {
        found = p.1.0;
        low = st.named.low id s p.1.0;
        high = st.named.high id s p.1.0;
        held = sym (ap (is_held_slot w.kinds.items) p.1.0) ∙ both.0;
        within = within;
        clause = p.1.1;
        read = clause_codes w.clauses.items s c within (sym (get_or_from_slice_get w.clauses.items s c c p.1.1));
      },
    )

-- a slot that is not free has a clause that is kept
pub kept_at : (w : Watches) (t : Trail) (s : ℕ) → IsSettled w t → 1 ≤ s → s < length w.kinds.items → kind_at w.kinds.items s ≢ Free → clause_of w (get_or w.ids.items s no_id) ≡ Some (get_or w.clauses.items s [])
kept_at w t s st lo hi live =
    let within : s < length w.clauses.items = omega (arith, hi, st.watched.clauses, codes_length w.clauses.items) in
    ap (option_and_then (λ s. slice_get w.clauses.items s)) (st.named.held s lo hi live) ∙ slice_get-get_or w.clauses.items s [] within

-- and one that is held, where its kind says so
pub held_at : (w : Watches) (t : Trail) (s : ℕ) → IsSettled w t → 1 ≤ s → s < length w.kinds.items → IsHeld (kind_at w.kinds.items s) → held_of w (get_or w.ids.items s no_id) ≡ Some (get_or w.clauses.items s [])
held_at w t s st lo hi held =
    let live : kind_at w.kinds.items s ≢ Free = held_live (kind_at w.kinds.items s) held in
    held_by w (get_or w.ids.items s no_id) true (Some (get_or w.clauses.items s [])) (ap (is_held_slot w.kinds.items) (st.named.held s lo hi live) ∙ held) (kept_at w t s st lo hi live)

pub false_is_not : {A : Type 0} → false ≡ true → A
false_is_not e = absurd cc

pub settled_rest : (w : Watches) (t : Trail) → IsSettled w t → IsPropagated w t → IsAtRest w t
settled_rest w t st p id c j e le =
    let q : (s : ℕ) × IsSlot w id c s = slot_of w t id c st e in
    let s : ℕ = q.0 in
    let cs : List (List ℕ) = all_codes w.clauses.items in
    let r : RestsAt t.stamps.items j (get_or cs s []) = elim (held_kinds (kind_at w.kinds.items s) q.1.held) [
      | inl f ↦ elim (st.fixed.value s q.1.low q.1.high f) [
        | inl a ↦ inl (a.0, (a.1.0, (omega (arith, a.1.1), omega (arith, a.1.1))))
        | inr a ↦ false_is_not (sym p.1 ∙ a.0)
      ]
      | inr v ↦ rests w.lists.lists w.lists.literals w.kinds.items cs t.stamps.items t.codes.items t.len t.head t.level st.trail st.watched p.0 s j q.1.low q.1.high v
    ] in
    rests_rows t j c st.trail st.shown (rw q.1.read r)

pub conflict_at : (w : Watches) (t : Trail) (s : ℕ) (id : ClauseId) → IsSettled w t → s ≢ 0 → s < length w.kinds.items → IsHeld (kind_at w.kinds.items s) → IsFalse t.stamps.items (get_or (all_codes w.clauses.items) s []) → id ≡ get_or w.ids.items s no_id → IsConflict w t id
conflict_at w t s id st pos hi held f e =
    let c : List Literal = get_or w.clauses.items s [] in
    let within : s < length w.clauses.items = omega (arith, hi, st.watched.clauses, codes_length w.clauses.items) in
    let read : codes c ≡ get_or (all_codes w.clauses.items) s [] = clause_codes w.clauses.items s c within (get_or_default w.clauses.items s [] c within) in
    let lo : 1 ≤ s = omega (arith, pos) in
    (c, (rw e (held_at w t s st lo hi held), refuted_rows t c st.trail st.shown (rw read f)))

-- what came to the trail was forced at the same level
pub extended : (w : Watches) (t t2 : Trail) → IsShown t.rows.items t.stamps.items t.codes.items t.len → IsTrail t.stamps.items t.codes.items t.len t.head t.level → IsSettled w t2 → IsGrown t t2 → IsExtended (literals_of t) (level_of t) (literals_of t2)
extended w t t2 sh tr st g =
    let wide : t2.len ≤ length t2.rows.items = rows_len t2 st.trail st.shown in
    let len2 : length (literals_of t2) ≡ t2.len = literals_length t2 st.trail st.shown in
    let front : take t.len (literals_of t2) ≡ literals_of t = take-take t.len t2.len t2.rows.items g.longer ∙ g.rows in (
      drop t.len (literals_of t2),
      (
        sym (take-append-drop t.len (literals_of t2)) ∙ ap (λ xs. xs ++ drop t.len (literals_of t2)) front,
        λ k d h.
            let len3 : length (drop t.len (literals_of t2)) ≡ t2.len - t.len = rw (length-drop, len2) refl in
            let i : ℕ = t.len + k in
            let hi : i < t2.len = omega (arith, len3, h) in
            let row : get_or (drop t.len (literals_of t2)) k d ≡ get_or t2.rows.items i no_row = get_or-drop t.len (literals_of t2) k d ∙ (get_or-take t2.len t2.rows.items i d hi ∙ get_or_default t2.rows.items i d no_row (omega (arith, hi, wide))) in
            let forced : 0 < get_or t2.reasons.items i 0 = g.forced i (omega arith) hi in
            rw row (g.level i (omega arith) hi, IsSome-from (get_or t2.rows.items i no_row).2 (get_or w.ids.items (get_or t2.reasons.items i 0) no_id) (st.reasoned.name i hi forced)),
      ),
    )

-- the rows that a way back leaves
pub cut_rows : (t : Trail) (n j : ℕ) (rows : List Row) → IsTrail t.stamps.items t.codes.items t.len t.head t.level → IsShown t.rows.items t.stamps.items t.codes.items t.len → n ≤ t.len → rows ≡ t.rows.items → ((i : ℕ) → i < n → (get_or t.rows.items i no_row).1 ≤ j) → ((i : ℕ) → n ≤ i → i < t.len → j < (get_or t.rows.items i no_row).1) →
    take n rows ≡ filter (λ (r : Row). nat_le r.1 j) (literals_of t)
cut_rows t n j rows tr sh le e kept gone =
    let len : length (literals_of t) ≡ t.len = literals_length t tr sh in
    let at_i : (i : ℕ) → i < t.len → get_or (literals_of t) i no_row ≡ get_or t.rows.items i no_row = λ i h. get_or-take t.len t.rows.items i no_row h in
    let f : filter (λ (r : Row). nat_le r.1 j) (literals_of t) ≡ take n (literals_of t) = front_kept (λ (r : Row). nat_le r.1 j) (literals_of t) n no_row
    (λ i a b. rw (at_i i (omega arith)) (le-leb (get_or t.rows.items i no_row).1 j (kept i a)))
    (λ i a b. let hi : i < t.len = rw len at b in rw (at_i i hi) (lt-leb (get_or t.rows.items i no_row).1 j (gone i a hi))) in
    rw e (sym (take-take n t.len t.rows.items le)) ∙ sym f

pub all_rows : (t : Trail) → IsTrail t.stamps.items t.codes.items t.len t.head t.level → IsShown t.rows.items t.stamps.items t.codes.items t.len → literals_of t ≡ filter (λ (r : Row). nat_le r.1 t.level) (literals_of t)
all_rows t tr sh = cut_rows t t.len t.level t.rows.items tr sh (omega arith) refl (λ i h. omega (arith, sh.level i h, tr.top (get_or t.codes.items i 0))) (λ i a b. absurd (omega arith))

pub unrefuted : (w : Watches) (t : Trail) → IsSettled w t → IsFixed w.kinds.items (all_codes w.clauses.items) t.stamps.items false → IsSettled (record { alloc = w.alloc; lists = w.lists; kinds = w.kinds; clauses = w.clauses; ids = w.ids; slots = w.slots; refuted = false }) t
unrefuted w t s f = record {
  trail = s.trail;
  shown = s.shown;
  spots = s.spots;
  watched = s.watched;
  idle = s.idle;
  reasoned = s.reasoned;
  named = s.named;
  fixed = f;
  calm = λ _. refl;
}

only_nil : List (List ℕ)
only_nil = [] ∷ []

nil_at : (i : ℕ) → get_or only_nil i [] ≡ []
unfolding only_nil
nil_at zero = refl
nil_at (suc i) = refl

nothing_has : (x i : ℕ) → Has (get_or ([] ∷ []) i []) x → ⊥
unfolding only_nil
nothing_has x i h = let h2 : Has [] x = rw (nil_at i) at h in omega (arith, h2, times_nil x)

pub none_in : (id : ClauseId) → slot_in [] id ≡ None
unfolding slot_in
none_in id = refl

nothing_found : (m : List (List ℕ)) (id : ClauseId) (s : ℕ) → m ≡ [] → slot_in m id ≡ Some s → ⊥
nothing_found m id s e f = let g : None ≡ Some s = sym (none_in id) ∙ rw e at f in cc

two_nils : List (List ℕ)
two_nils = [] ∷ [] ∷ []

none_at : (i : ℕ) → get_or two_nils i [] ≡ []
unfolding two_nils
none_at zero = refl
none_at (suc zero) = refl
none_at (suc (suc i)) = refl

no_place : (x i : ℕ) → Has (get_or ([] ∷ [] ∷ []) i []) x → ⊥
unfolding two_nils
no_place x i h = let h2 : Has [] x = rw (none_at i) at h in omega (arith, h2, times_nil x)

-- watches without a clause and a trail without a literal
pub new_settled : (w : Watches) (t : Trail) → IsNew t → w.lists.lists ≡ [] ∷ [] ∷ [] → length w.lists.literals ≡ 2 → length w.kinds.items ≡ 1 → w.clauses.items ≡ [] ∷ [] → length w.ids.items ≡ 1 → w.slots ≡ [] → w.refuted ≡ false → IsSettled w t
new_settled w t n lists literals ks cs ids slots calm =
    let ss : List ℕ = t.stamps.items in
    let all : all_codes w.clauses.items ≡ [] ∷ [] = rw cs refl in
    let none : (l : ℕ) → get_or ss l 0 ≡ 0 = λ l. rw n.stamps refl in
    let size : length ss ≡ 0 = rw n.stamps refl in
    let off : (k : ℕ) → IsWatching w.kinds.items k → ⊥ = λ k on. (let lo : 2 ≤ k = on.low in let hi : k < 2 * length w.kinds.items = on.high in omega arith) in
    let out : (x i : ℕ) → Has (get_or (all_codes w.clauses.items) i []) x → ⊥ = λ x i h. nothing_has x i (rw all at h) in
    record {
      trail = record {
        once = λ l. rw (n.len, none l) (times_nil l);
        apart = λ l h. absurd (omega (arith, h, none l));
        named = λ l h. absurd (omega (arith, h, none l));
        top = λ l. omega (arith, none l);
        below = λ l h. absurd (omega (arith, h, none l));
        count = rw (n.stamps, n.len) refl;
        size = omega (arith, size);
        few = omega (arith, size);
        even = rw size refl;
        reached = omega (arith, n.len, n.head);
        levels = record {
          rise = λ i h. absurd (omega (arith, h, n.len));
          step = λ i h. absurd (omega (arith, h, n.len));
          start = λ h. absurd (omega (arith, h, n.len));
          last = λ h. absurd (omega (arith, h, n.level));
        };
      };
      shown = record { literal = λ i h. absurd (omega (arith, h, n.len)); level = λ i h. absurd (omega (arith, h, n.len)); width = omega (arith, size) };
      spots = record { place = λ i h. absurd (omega (arith, h, n.len)); width = omega (arith, size) };
      watched = record {
        lists = rw lists (omega (arith, size));
        slots = omega (arith, ks, literals);
        clauses = rw all (omega (arith, ks));
        known = λ k on. absurd (off k on);
        sound = λ i k h. absurd (no_place k i (rw lists at h));
        inside = λ k on. absurd (off k on);
        differ = λ k on. absurd (off k on);
        named = λ s l h. absurd (out l s h);
        within = λ s l h. absurd (out l s h);
        kept = λ k on. absurd (off k on);
        here = λ k on. absurd (off k on);
      };
      idle = rw lists refl;
      reasoned = record {
        decided = λ i h. absurd (omega (arith, h, n.len));
        forced = λ i h. absurd (omega (arith, h, n.len));
        live = λ i h. absurd (omega (arith, h, n.len));
        held = λ i h. absurd (omega (arith, h, n.len));
        name = λ i h. absurd (omega (arith, h, n.len));
        has = λ i h. absurd (omega (arith, h, n.len));
        others = λ i m h. absurd (omega (arith, h, n.len));
        width = rw (n.codes, n.reasons) (omega arith);
      };
      named = record {
        low = λ id s f. absurd (nothing_found w.slots id s slots f);
        high = λ id s f. absurd (nothing_found w.slots id s slots f);
        name = λ id s f. absurd (nothing_found w.slots id s slots f);
        live = λ id s f. absurd (nothing_found w.slots id s slots f);
        held = λ s lo hi. absurd (omega (arith, lo, hi, ks));
        rows = omega (arith, ks, ids);
        some = omega (arith, ks);
      };
      fixed = record { value = λ s lo hi. absurd (omega (arith, lo, hi, ks)) };
      calm = λ _. calm;
    }
