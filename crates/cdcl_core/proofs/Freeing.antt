-- A slot that becomes free: a new one, or that of a clause that goes.
use Rattle.std.proofs.Common.{ℕ, ◌≡◌, ◌≢◌, ◌+◌, ◌*◌, ◌/◌, ◌%◌, ◌<◌, ◌≤◌, ◌⊎◌, ◌++◌, Bool, true, false, List, [], ◌∷◌, length, cond, eqb, refl, sym, ◌∙◌, inl, inr, arith}
use Rattle.std.specs.List.{sum_by}
use Rattle.std.proofs.Math.ListN.{get_or, set, length-set}
use Rattle.std.proofs.lemmas.List.{get_or-set_other, get_or-set_same, get_or_past, length-append}
use Rattle.std.proofs.lemmas.Bool.{cases_lt}
use Rattle.std.proofs.lemmas.Bool.Decides.{eqb_tells}
use Rattle.cdcl_core.specs.declared.trail.Trail.{Trail}
use Rattle.cdcl_core.specs.declared.watches.Watches.{Watches}
use Rattle.cdcl_core.specs.declared.watches.Kind.{Kind}
use Rattle.cdcl_core.specs.declared.watches.Kind.TheVariants.{Free, Watched}
use Rattle.cdcl_core.specs.Chains.{times, first_of}
use Rattle.cdcl_core.specs.Watched.{kind_at, IsWatching, IsPlace, IsWatched}
use Rattle.cdcl_core.specs.State.{all_codes, IsSettled, IsWaiting}
use Rattle.cdcl_core.proofs.Apart.{watched_not_free, fixed_not_free}
use Rattle.cdcl_core.proofs.Held.{held_if}
use Rattle.cdcl_core.proofs.Counting.{same_or_not, times_cons}
use Rattle.cdcl_core.proofs.Growing.{padded}
use Rattle.cdcl_core.proofs.Slots.{slot_changed, sum_zero}
use Rattle.cdcl_core.proofs.Hanging.{freed_change}

-- one more row of the kinds, which is free
pub more_kinds : (ks : List Kind) (q : ℕ) → kind_at (ks ++ Free ∷ []) q ≡ kind_at ks q
more_kinds ks q = padded ks 1 q Free

more_size : (ks : List Kind) → length (ks ++ Free ∷ []) ≡ length ks + 1
more_size ks = length-append ks (Free ∷ [])

live_within : (ks : List Kind) (q : ℕ) → kind_at ks q ≢ Free → q < length ks
live_within ks q live = elim (cases_lt q (length ks)) [ inl h ↦ h | inr h ↦ absurd (live (get_or_past ks q Free h)) ]

-- the lists with a place in front of list 1
abbrev pub with_first : List (List ℕ) → ℕ → List (List ℕ)
with_first L k = set L 1 (k ∷ get_or L 1 [])

pub with_first_at : (L : List (List ℕ)) (k i q : ℕ) → 1 < length L → times q (get_or (with_first L k) i []) ≡ times q (get_or L i []) + cond (eqb i 1) (cond (eqb k q) 1 0) 0
with_first_at L k i q one = elim (eqb_tells i 1) [
  | inl e ↦ rw (e.0, e.1, get_or-set_same L 1 (k ∷ get_or L 1 []) [] one) (omega (arith, times_cons q k (get_or L 1 [])))
  | inr e ↦ rw (e.0, get_or-set_other L 1 i (k ∷ get_or L 1 []) [] e.1) (omega arith)
]

pub first_counts : (L : List (List ℕ)) (a i q : ℕ) → 1 < length L → (times q (get_or (with_first L a) i []) ≡ times q (get_or L i [])) ⊎ ((i ≡ 1) × ((q ≡ a) × (times q (get_or (with_first L a) i []) ≡ times q (get_or L i []) + 1)))
first_counts L a i q one = elim (eqb_tells i 1) [
  | inr e ↦ inl (omega (arith, cond_off (eqb i 1) (cond (eqb a q) 1 0) e.0, with_first_at L a i q one))
  | inl e ↦ elim (same_or_not a q) [
    | inl y ↦ inr (e.1, (sym y.0, omega (arith, cond_on (eqb i 1) (cond (eqb a q) 1 0) e.0, with_first_at L a i q one, y.1)))
    | inr y ↦ inl (omega (arith, cond_on (eqb i 1) (cond (eqb a q) 1 0) e.0, with_first_at L a i q one, y.1))
  ]
]
  where
    cond_on : (b : Bool) (n : ℕ) → b ≡ true → cond b n 0 ≡ n
    cond_on b n e = rw e refl

    cond_off : (b : Bool) (n : ℕ) → b ≡ false → cond b n 0 ≡ 0
    cond_off b n e = rw e refl

-- a place past the slots stands in no list
pub past_idle : (w : Watches) (t : Trail) (k i : ℕ) → IsSettled w t → 2 * length w.kinds.items ≤ k → times k (get_or w.lists.lists i []) ≡ 0
past_idle w t k i s h = elim (cases_lt 0 (times k (get_or w.lists.lists i []))) [
  | inr z ↦ omega arith
  | inl z ↦ absurd (omega (arith, (s.watched.sound i k z).high))
]

more_watched : (L : List (List ℕ)) (ws : List ℕ) (ks : List Kind) (cs : List (List ℕ)) (ss es : List ℕ) (head : ℕ) → IsWatched L ws ks cs ss es head (length ss) 0 → length ks < length cs → 2 * length ks + 2 ≤ length ws → IsWatched L ws (ks ++ Free ∷ []) cs ss es head (length ss) 0
more_watched L ws ks cs ss es head w rows places =
    let old : (k : ℕ) → IsWatching (ks ++ Free ∷ []) k → IsWatching ks k = λ k on.
    let kind : kind_at ks (k / 2) ≡ Watched = sym (more_kinds ks (k / 2)) ∙ on.kind in
    record { low = on.low; high = (let h : k / 2 < length ks = live_within ks (k / 2) (λ e. watched_not_free (sym kind ∙ e)) in omega arith); kind = kind } in
    record {
      lists = w.lists;
      slots = rw more_size (omega arith);
      clauses = rw more_size (omega arith);
      known = λ k on. w.known k (old k on);
      sound = λ i k h.
          let p : IsPlace ws ks (length ss) i k = w.sound i k h in
          record {
            low = p.low;
            high = rw more_size (let a : k < 2 * length ks = p.high in omega arith);
            visited = p.visited;
            listed = p.listed;
            watched = λ u. more_kinds ks (k / 2) ∙ p.watched u;
            free = λ u. more_kinds ks (k / 2) ∙ p.free u;
            first = p.first;
          };
      inside = λ k on. w.inside k (old k on);
      differ = λ k on. w.differ k (old k on);
      named = w.named;
      within = w.within;
      kept = λ k on np d. w.kept k (old k on) np d;
      here = λ k on e st out. w.here k (old k on) e st out;
    }

pub grown_slot : (w w2 : Watches) (t : Trail) → IsSettled w t → 1 < length w.lists.lists → length w.kinds.items < length (all_codes w.clauses.items) → length w.kinds.items < length w.ids.items → 2 * length w.kinds.items + 2 ≤ length w.lists.literals →
    w2.kinds.items ≡ w.kinds.items ++ Free ∷ [] → w2.clauses.items ≡ w.clauses.items → w2.ids.items ≡ w.ids.items → w2.slots ≡ w.slots → w2.refuted ≡ w.refuted → w2.lists.literals ≡ set w.lists.literals (2 * length w.kinds.items) 0 → w2.lists.lists ≡ with_first w.lists.lists (2 * length w.kinds.items) → IsSettled w2 t
grown_slot w w2 t s one rows ids places e1 e2 e3 e4 e5 e6 e7 =
    let L : List (List ℕ) = w.lists.lists in
    let ks : List Kind = w.kinds.items in
    let ks2 : List Kind = ks ++ Free ∷ [] in
    let cs : List (List ℕ) = all_codes w.clauses.items in
    let n : ℕ = length ks in
    let size : length ks2 ≡ n + 1 = more_size ks in
    let lo : 1 ≤ n = s.named.some in
    let kind : (q : ℕ) → kind_at ks2 q ≡ kind_at ks q = more_kinds ks in
    let free : kind_at ks2 n ≡ Free = kind n ∙ get_or_past ks n Free (omega arith) in
    let mid : IsWatched L w.lists.literals ks2 cs t.stamps.items t.codes.items t.head (length t.stamps.items) 0 = more_watched L w.lists.literals ks cs t.stamps.items t.codes.items t.head s.watched rows places in
    let live : (q : ℕ) → kind_at ks2 q ≢ Free → q < n = λ q h. live_within ks q (λ e. h (kind q ∙ e)) in
    record {
      trail = s.trail;
      shown = s.shown;
      spots = s.spots;
      watched = rw (e1, e2, e6, e7) (slot_changed L w.lists.literals ks2 cs (with_first L (2 * n)) (set w.lists.literals (2 * n) 0) ks2 cs t.stamps.items t.codes.items t.head n mid
          (freed_change L w.lists.literals ks2 cs (with_first L (2 * n)) ks2 cs t.stamps.items t.codes.items t.head n lo (omega (arith, size)) (omega arith) (rw length-set refl) refl refl
          (λ i k ne. elim (first_counts L (2 * n) i k one) [ inl a ↦ a | inr a ↦ absurd (ne (omega (arith, a.1.0))) ])
          (λ i k e h. elim (first_counts L (2 * n) i k one) [
            | inl a ↦ absurd (omega (arith, h, a, past_idle w t k i s (omega (arith, e))))
            | inr a ↦ (a.0, a.1.0)
          ])
          free (λ q ne. refl) (λ q ne. refl) (s.watched.named n) (s.watched.within n)));
      idle = rw e7 (get_or-set_other L 1 0 (2 * n ∷ get_or L 1 []) [] (λ u. omega (arith, u)) ∙ s.idle);
      reasoned = rw (e1, e2, e3) (record {
        decided = s.reasoned.decided;
        forced = λ i a b. omega (arith, size, s.reasoned.forced i a b);
        live = λ i a b e. s.reasoned.live i a b (sym (kind (get_or t.reasons.items i 0)) ∙ e);
        held = λ i a b c. held_if (kind_at ks2 (get_or t.reasons.items i 0)) (kind_at ks (get_or t.reasons.items i 0)) (kind (get_or t.reasons.items i 0)) (s.reasoned.held i a b c);
        name = s.reasoned.name;
        has = s.reasoned.has;
        others = s.reasoned.others;
        width = s.reasoned.width;
      });
      named = rw (e1, e3, e4) (record {
        low = s.named.low;
        high = λ id q f. omega (arith, size, s.named.high id q f);
        name = s.named.name;
        live = λ id q f e. s.named.live id q f (sym (kind q) ∙ e);
        held = λ q a b h. s.named.held q a (live q h) (λ e. h (kind q ∙ e));
        rows = omega (arith, size, ids);
        some = omega (arith, size);
      });
      fixed = rw (e1, e2, e5) (record { value = λ q a b k. s.fixed.value q a (live q (λ e. fixed_not_free (sym k ∙ e))) (sym (kind q) ∙ k) });
      calm = λ u. e5 ∙ s.calm u;
    }

pub past_counts : (w : Watches) (t : Trail) (k : ℕ) → IsSettled w t → 2 * length w.kinds.items ≤ k → sum_by (times k) w.lists.lists ≡ 0
past_counts w t k s h = sum_zero (times k) w.lists.lists (λ i. past_idle w t k i s h)

pub same_settled : (w w2 : Watches) (t : Trail) → IsSettled w t → w2.lists ≡ w.lists → w2.kinds.items ≡ w.kinds.items → w2.clauses.items ≡ w.clauses.items → w2.ids.items ≡ w.ids.items → w2.slots ≡ w.slots → w2.refuted ≡ w.refuted → IsSettled w2 t
same_settled w w2 t s e1 e2 e3 e4 e5 e6 = record {
  trail = s.trail;
  shown = s.shown;
  spots = s.spots;
  watched = rw (e1, e2, e3) s.watched;
  idle = rw e1 s.idle;
  reasoned = rw (e2, e3, e4) s.reasoned;
  named = rw (e2, e4, e5) s.named;
  fixed = rw (e2, e3, e6) s.fixed;
  calm = λ u. e6 ∙ s.calm u;
}

-- the first place of list 1 is that of a slot that waits
pub waiting : (w : Watches) (t : Trail) (k : ℕ) → IsSettled w t → k ≡ first_of (get_or w.lists.lists 1 []) → 0 < k → IsWaiting w (k / 2)
waiting w t k s e pos =
    let here : 0 < times k (get_or w.lists.lists 1 []) = first_inside (get_or w.lists.lists 1 []) k e pos in
    let p : IsPlace w.lists.literals w.kinds.items (length t.stamps.items) 1 k = s.watched.sound 1 k here in
    let lo : 2 ≤ k = p.low in
    let hi : k < 2 * length w.kinds.items = p.high in
    let even : k % 2 ≡ 0 = p.first refl in
    record { low = omega arith; high = omega arith; free = p.free refl; first = omega (arith, e) }
  where
    first_inside : (xs : List ℕ) (k : ℕ) → k ≡ first_of xs → 0 < k → 0 < times k xs
    first_inside [] k e pos = absurd (omega (arith, e))
    first_inside (x ∷ xs) k e pos = elim (same_or_not x k) [ inl y ↦ omega (arith, times_cons k x xs, y.1) | inr y ↦ absurd (y.0 (sym e)) ]
