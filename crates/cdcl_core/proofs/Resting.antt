-- The visit of a literal begins and ends; at rest no clause is false or unit with its last literal open.
use Rattle.std.proofs.Common.{ℕ, ◌≡◌, ◌≢◌, ◌+◌, ◌*◌, ◌/◌, ◌<◌, ◌≤◌, ◌⊎◌, List, [], length, take, eqb, refl, sym, ◌∙◌, ap, inl, inr, arith}
use Rattle.std.proofs.Math.ListN.{get_or, set, length-set}
use Rattle.std.proofs.lemmas.List.{get_or-set_other, get_or-set_same, take_more}
use Rattle.std.proofs.lemmas.Bool.{cases_lt}
use Rattle.std.proofs.lemmas.Bool.Decides.{eqb_tells}
use Rattle.cdcl_core.specs.Chains.{times}
use Rattle.cdcl_core.specs.Stamps.{neg, Has, IsTrueAt, RestsAt, IsTrail}
use Rattle.cdcl_core.specs.declared.watches.Kind.{Kind}
use Rattle.cdcl_core.specs.declared.watches.Kind.TheVariants.{Watched}
use Rattle.cdcl_core.specs.Watched.{kind_at, Kept, IsWatching, IsPlace, IsWatched}
use Rattle.cdcl_core.proofs.Counting.{bit, same_or_not, times_nil, times_push, neg_neg, neg_slot, neg_below, neg_low, set_one}

-- list 0 is taken out of the list of p
pub step_start : (L : List (List ℕ)) (ws : List ℕ) (ks : List Kind) (cs : List (List ℕ)) (ss es : List ℕ) (head p : ℕ) → IsWatched L ws ks cs ss es head (length ss) 0 → p < length ss → 2 ≤ p → get_or L 0 [] ≡ [] → IsWatched (set (set L 0 (get_or L (p + 1) [])) (p + 1) (get_or L 0 [])) ws ks cs ss es head p 0
step_start L ws ks cs ss es head p w hp two none =
    let h0 : 0 < length L = omega (arith, w.lists) in
    let hq : p + 1 < length L = omega (arith, w.lists, hp) in
    let hq2 : p + 1 < length (set L 0 (get_or L (p + 1) [])) = rw length-set hq in
    let ne : 0 ≢ p + 1 = λ e. omega (arith, e) in
    let M : List (List ℕ) = set (set L 0 (get_or L (p + 1) [])) (p + 1) (get_or L 0 []) in
    let zero_at : get_or M 0 [] ≡ get_or L (p + 1) [] = get_or-set_other (set L 0 (get_or L (p + 1) [])) (p + 1) 0 (get_or L 0 []) [] ne ∙ get_or-set_same L 0 (get_or L (p + 1) []) [] h0 in
    let to_at : get_or M (p + 1) [] ≡ [] = get_or-set_same (set L 0 (get_or L (p + 1) [])) (p + 1) (get_or L 0 []) [] hq2 ∙ none in
    let other_at : (i : ℕ) → i ≢ 0 → i ≢ p + 1 → get_or M i [] ≡ get_or L i [] = λ i a b. get_or-set_other (set L 0 (get_or L (p + 1) [])) (p + 1) i (get_or L 0 []) [] b ∙ get_or-set_other L 0 i (get_or L (p + 1) []) [] a in
    let below : (q : ℕ) → IsWatching ks q → get_or ws q 0 < length ss = λ q on. w.within (q / 2) (get_or ws q 0) (w.inside q on) in
    let known : (q : ℕ) → IsWatching ks q → (0 < times q (get_or M (get_or ws q 0 + 1) [])) ⊎ (0 < times q (get_or M 0 [])) = λ q on. elim (w.known q on) [
      | inl a ↦ elim (eqb_tells (get_or ws q 0 + 1) (p + 1)) [
        | inl z ↦ inr (rw zero_at (rw z.1 at a))
        | inr z ↦ let n0 : get_or ws q 0 + 1 ≢ 0 = λ y. omega (arith, y) in inl (rw (other_at (get_or ws q 0 + 1) n0 z.1) a)
      ]
      | inr a ↦ absurd (let a2 : 0 < times q [] = rw none at a in omega (arith, a2, times_nil q))
    ] in
    record {
      lists = rw (length-set, length-set) w.lists;
      slots = w.slots;
      clauses = w.clauses;
      known = known;
      sound = λ i q h. elim (eqb_tells i 0) [
        | inl z ↦ let s : IsPlace ws ks (length ss) (p + 1) q = w.sound (p + 1) q (rw zero_at at (rw z.1 at h)) in
            rw z.1 (record { low = s.low; high = s.high; visited = λ u. omega (arith, s.listed (omega arith)); listed = λ u. absurd (omega (arith, u)); watched = λ _. s.watched (λ e. omega (arith, e, two)); free = λ u. absurd (omega (arith, u)); first = λ u. absurd (omega (arith, u)) })
        | inr z ↦ elim (eqb_tells i (p + 1)) [
          | inl y ↦ absurd (let h2 : 0 < times q (get_or M (p + 1) []) = rw y.1 at h in let h3 : 0 < times q [] = rw to_at at h2 in omega (arith, h3, times_nil q))
          | inr y ↦ let s : IsPlace ws ks (length ss) i q = w.sound i q (rw (other_at i z.1 y.1) at h) in
              record { low = s.low; high = s.high; visited = λ u. absurd (z.1 u); listed = s.listed; watched = s.watched; free = s.free; first = s.first }
        ]
      ];
      inside = w.inside;
      differ = w.differ;
      named = w.named;
      within = w.within;
      kept = λ q on np d. w.kept q on (λ e. omega (arith, e, below q on)) d;
      here = λ q on e s out. elim (known q on) [
        | inl a ↦ absurd (let a2 : 0 < times q (get_or M (p + 1) []) = rw e at a in let a3 : 0 < times q [] = rw to_at at a2 in omega (arith, a3, times_nil q))
        | inr a ↦ absurd (omega (arith, a, out))
      ];
    }

-- the visit of p ended, and every place that watches it was kept
pub finish_none : (L : List (List ℕ)) (ws : List ℕ) (ks : List Kind) (cs : List (List ℕ)) (ss es : List ℕ) (head p : ℕ) → IsWatched L ws ks cs ss es head p 0 → get_or L 0 [] ≡ [] → head < length es → get_or es head 0 ≡ neg p → IsWatched L ws ks cs ss es (head + 1) (length ss) 0
finish_none L ws ks cs ss es head p w none hh next =
    let below : (q : ℕ) → IsWatching ks q → get_or ws q 0 < length ss = λ q on. w.within (q / 2) (get_or ws q 0) (w.inside q on) in
    record {
      lists = w.lists;
      slots = w.slots;
      clauses = w.clauses;
      known = w.known;
      sound = λ i q h.
          let s : IsPlace ws ks p i q = w.sound i q h in
          record { low = s.low; high = s.high; visited = λ u. absurd (let h2 : 0 < times q (get_or L 0 []) = rw u at h in let h3 : 0 < times q [] = rw none at h2 in omega (arith, h3, times_nil q)); listed = s.listed; watched = s.watched; free = s.free; first = s.first };
      inside = w.inside;
      differ = w.differ;
      named = w.named;
      within = w.within;
      kept = λ q on np d. elim (eqb_tells (get_or ws q 0) p) [
        | inl e ↦ w.here q on e.1 refl (rw none (times_nil q))
        | inr e ↦ elim (same_or_not (neg p) (neg (get_or ws q 0))) [
          | inl y ↦ absurd (e.1 (sym (neg_neg (get_or ws q 0)) ∙ (ap neg (sym y.0) ∙ neg_neg p)))
          | inr y ↦ w.kept q on e.1 (let d2 : times (neg (get_or ws q 0)) (take (head + 1) es) ≡ times (neg (get_or ws q 0)) (take head es) + bit (eqb (neg p) (neg (get_or ws q 0))) = rw (take_more es head 0 hh, next) (times_push (neg (get_or ws q 0)) (neg p) (take head es)) in omega (arith, d, d2, y.1))
        ]
      ];
      here = λ q on e s out. absurd (omega (arith, e, below q on));
    }

-- the visit of p ended after a false clause
pub finish_stop : (L : List (List ℕ)) (ws : List ℕ) (ks : List Kind) (cs : List (List ℕ)) (ss es : List ℕ) (head p stop : ℕ) → IsWatched L ws ks cs ss es head p stop → get_or L 0 [] ≡ [] → times (neg p) (take head es) ≡ 0 → IsWatched L ws ks cs ss es head (length ss) 0
finish_stop L ws ks cs ss es head p stop w none out =
    let below : (q : ℕ) → IsWatching ks q → get_or ws q 0 < length ss = λ q on. w.within (q / 2) (get_or ws q 0) (w.inside q on) in
    record {
      lists = w.lists;
      slots = w.slots;
      clauses = w.clauses;
      known = w.known;
      sound = λ i q h.
          let s : IsPlace ws ks p i q = w.sound i q h in
          record { low = s.low; high = s.high; visited = λ u. absurd (let h2 : 0 < times q (get_or L 0 []) = rw u at h in let h3 : 0 < times q [] = rw none at h2 in omega (arith, h3, times_nil q)); listed = s.listed; watched = s.watched; free = s.free; first = s.first };
      inside = w.inside;
      differ = w.differ;
      named = w.named;
      within = w.within;
      kept = λ q on np d. elim (eqb_tells (get_or ws q 0) p) [
        | inl e ↦ absurd (let d2 : 0 < times (neg p) (take head es) = rw e.1 at d in omega (arith, d2, out))
        | inr e ↦ w.kept q on e.1 d
      ];
      here = λ q on e s z. absurd (omega (arith, e, below q on));
    }

pub true_or_not : (ss : List ℕ) (j l : ℕ) → (IsTrueAt ss j l) ⊎ (IsTrueAt ss j l → ⊥)
true_or_not ss j l = elim (cases_lt 0 (get_or ss l 0)) [
  | inl a ↦ elim (cases_lt (j + 1) (get_or ss l 0)) [ inl b ↦ inr (λ h. omega (arith, h.1)) | inr b ↦ inl (a, b) ]
  | inr a ↦ inr (λ h. omega (arith, h.0))
]

-- the other place of a watched clause
pub watching_mate : (ks : List Kind) (k : ℕ) → IsWatching ks k → IsWatching ks (neg k)
watching_mate ks k on = record {
  low = neg_low k on.low;
  high = neg_below k (2 * length ks) on.high (omega arith);
  kind = rw neg_slot on.kind;
}

-- the two places of a slot
pub places_of : (ks : List Kind) (s : ℕ) → 1 ≤ s → s < length ks → kind_at ks s ≡ Watched → IsWatching ks (2 * s) × ((2 * s / 2 ≡ s) × (neg (2 * s) / 2 ≡ s))
places_of ks s lo hi kind =
    let slot : 2 * s / 2 ≡ s = omega arith in
    (record { low = omega arith; high = omega arith; kind = rw slot kind }, (slot, neg_slot (2 * s) ∙ slot))

-- at rest no clause is false or unit with its last literal open, now or at the end of any lower level
pub rests : (L : List (List ℕ)) (ws : List ℕ) (ks : List Kind) (cs : List (List ℕ)) (ss es : List ℕ) (len head level : ℕ) → IsTrail ss es len head level → IsWatched L ws ks cs ss es head (length ss) 0 → head ≡ len → (s j : ℕ) → 1 ≤ s → s < length ks → kind_at ks s ≡ Watched → RestsAt ss j (get_or cs s [])
rests L ws ks cs ss es len head level t w e s j lo hi kind =
    let k : ℕ = 2 * s in
    let k2 : ℕ = neg k in
    let at_s : IsWatching ks k × ((k / 2 ≡ s) × (k2 / 2 ≡ s)) = places_of ks s lo hi kind in
    let on : IsWatching ks k = at_s.0 in
    let on2 : IsWatching ks k2 = watching_mate ks k on in
    let a : ℕ = get_or ws k 0 in
    let b : ℕ = get_or ws k2 0 in
    let has_a : Has (get_or cs s []) a = rw at_s.1.0 at (w.inside k on) in
    let has_b : Has (get_or cs s []) b = rw at_s.1.1 at (w.inside k2 on2) in
    let below : (q : ℕ) → IsWatching ks q → get_or ws q 0 ≢ length ss = λ q o u. omega (arith, u, w.within (q / 2) (get_or ws q 0) (w.inside q o)) in
    let done : (l : ℕ) → 0 < get_or ss l 0 → 0 < times l (take head es) = λ l h. rw e (omega (arith, t.once l, set_one (get_or ss l 0) h)) in
    elim (true_or_not ss j (neg a)) [
      | inl x ↦ let y : Kept ss a b = w.kept k on (below k on) (done (neg a) x.0) in inl (b, (has_b, (y.0, omega (arith, y.1, x.1))))
      | inr x ↦ elim (true_or_not ss j (neg b)) [
        | inl z ↦ let y : Kept ss b (get_or ws (neg k2) 0) = w.kept k2 on2 (below k2 on2) (done (neg b) z.0) in
            let y2 : Kept ss b a = rw neg_neg at y in inl (a, (has_a, (y2.0, omega (arith, y2.1, z.1))))
        | inr z ↦ inr (a, (b, (has_a, (has_b, (w.differ k on, (x, z))))))
      ]
    ]
