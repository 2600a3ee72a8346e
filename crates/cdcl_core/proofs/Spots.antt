-- By variable the place of its literal on the trail.
use Rattle.std.proofs.Common.{ℕ, ◌≡◌, ◌≢◌, ◌+◌, ◌/◌, ◌<◌, ◌≤◌, ◌⊎◌, ◌++◌, List, length, ◌∙◌, inl, inr, arith}
use Rattle.std.proofs.Math.ListN.{get_or, set, length-set}
use Rattle.std.proofs.lemmas.List.{get_or-set_other, get_or-set_same, get_or_past, get_or_append_left}
use Rattle.std.proofs.lemmas.Bool.{cases_lt}
use Rattle.cdcl_core.specs.Stamps.{neg, IsTrail}
use Rattle.cdcl_core.specs.State.{IsSpotted}
use Rattle.cdcl_core.proofs.Counting.{neg_cases}
use Rattle.cdcl_core.proofs.Trails.{entry_true}

-- two codes of one variable
pub same_variable : (a b : ℕ) → a / 2 ≡ b / 2 → (a ≡ b) ⊎ (a ≡ neg b)
same_variable a b e = elim (neg_cases b) [
  | inl p ↦ elim (cases_lt b a) [ inl h ↦ inr (omega (arith, e, h, p.0, p.1)) | inr h ↦ inl (omega (arith, e, h, p.0)) ]
  | inr p ↦ elim (cases_lt a b) [ inl h ↦ inr (omega (arith, e, h, p.0, p.1)) | inr h ↦ inl (omega (arith, e, h, p.0)) ]
]

-- the variable of a true literal has a row
pub spot_room : (ks ss es : List ℕ) (len head level i : ℕ) → IsTrail ss es len head level → IsSpotted ks ss es len → i < len → get_or es i 0 / 2 < length ks
spot_room ks ss es len head level i t s h =
    let on : 0 < get_or ss (get_or es i 0) 0 = entry_true ss es len head level i t h in
    elim (cases_lt (get_or es i 0) (length ss)) [
      | inl a ↦ omega (arith, a, s.width)
      | inr a ↦ absurd (omega (arith, on, get_or_past ss (get_or es i 0) 0 a))
    ]

pub pushed_spots : (ks ss es : List ℕ) (len head level l v : ℕ) → IsTrail ss es len head level → IsSpotted ks ss es len → l < length ss → get_or ss l 0 ≡ 0 → get_or ss (neg l) 0 ≡ 0 → len < length es → IsSpotted (set ks (l / 2) len) (set ss l v) (set es len l) (len + 1)
pushed_spots ks ss es len head level l v t s within free free2 room =
    let old_e : (i : ℕ) → i < len → get_or (set es len l) i 0 ≡ get_or es i 0 = λ i h. get_or-set_other es len i l 0 (λ u. omega (arith, u)) in
    let new_e : get_or (set es len l) len 0 ≡ l = get_or-set_same es len l 0 room in
    let apart : (i : ℕ) → i < len → get_or es i 0 / 2 ≢ l / 2 = λ i h e. elim (same_variable (get_or es i 0) l e) [
      | inl u ↦ let on : 0 < get_or ss l 0 = rw u at (entry_true ss es len head level i t h) in omega (arith, on, free)
      | inr u ↦ let on : 0 < get_or ss (neg l) 0 = rw u at (entry_true ss es len head level i t h) in omega (arith, on, free2)
    ] in
    record {
      place = λ i a. elim (cases_lt i len) [
        | inl h ↦ rw (old_e i h) (get_or-set_other ks (l / 2) (get_or es i 0 / 2) len 0 (apart i h) ∙ s.place i h)
        | inr h ↦
            let e : i ≡ len = omega arith in
            rw (e, new_e) (get_or-set_same ks (l / 2) len 0 (omega (arith, within, s.width)))
      ];
      width = rw (length-set, length-set) s.width;
    }

pub shorter_spots : (ks ss es : List ℕ) (len : ℕ) (ss2 : List ℕ) (n : ℕ) → IsSpotted ks ss es len → n ≤ len → length ss2 ≡ length ss → IsSpotted ks ss2 es n
shorter_spots ks ss es len ss2 n s h size = record { place = λ i a. s.place i (omega arith); width = rw size s.width }

pub longer_spot : (ks ys ss es : List ℕ) (len head level i : ℕ) → IsTrail ss es len head level → IsSpotted ks ss es len → i < len → get_or (ks ++ ys) (get_or es i 0 / 2) 0 ≡ i
longer_spot ks ys ss es len head level i t s h = get_or_append_left ks ys 0 (get_or es i 0 / 2) (spot_room ks ss es len head level i t s h) ∙ s.place i h
