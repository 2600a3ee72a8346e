-- A trail and its watches, cut back to a lower level.
use Rattle.std.proofs.Common.{ℕ, ◌≡◌, ◌+◌, ◌-◌, ◌/◌, ◌<◌, ◌≤◌, ◌⊎◌, List, length, take, cond, eqb, refl, sym, ◌∙◌, subst, inl, inr, arith}
use Rattle.std.proofs.Math.ListN.{get_or, set, length-set}
use Rattle.std.specs.List.{count_by}
use Rattle.std.proofs.lemmas.List.{take_more, get_or_past, length-take-le, get_or-take}
use Rattle.std.proofs.lemmas.List.Sums.{sum_by-set}
use Rattle.std.proofs.lemmas.Bool.{cases_lt}
use Rattle.cdcl_core.specs.Chains.{times}
use Rattle.cdcl_core.specs.Stamps.{neg, is_set, IsTrail}
use Rattle.cdcl_core.specs.declared.watches.Kind.{Kind}
use Rattle.cdcl_core.specs.Watched.{Kept, IsWatching, IsWatched}
use Rattle.cdcl_core.proofs.Counting.{bit, same_or_not, times_push, times_take, set_cases, bit_le, set_one, set_none, one_set}
use Rattle.cdcl_core.proofs.Trails.{found_at, entry_on, entry_true, rises, trail_len}

-- while the trail is cut back to level j: n literals are left, and the others have no stamp
pub record IsCut (ss0 es : List ℕ) (len0 j : ℕ) (ss : List ℕ) (n : ℕ) : Type 0 where
  pub once : (l : ℕ) → times l (take n es) ≡ cond (is_set (get_or ss l 0)) 1 0
  pub same : (l : ℕ) → (get_or ss l 0 ≡ get_or ss0 l 0) ⊎ ((get_or ss l 0 ≡ 0) × (j + 1 < get_or ss0 l 0))
  pub count : count_by is_set ss ≡ n
  pub size : length ss ≡ length ss0
  pub fewer : n ≤ len0

pub cut_start : (ss es : List ℕ) (len head level j : ℕ) → IsTrail ss es len head level → IsCut ss es len j ss len
cut_start ss es len head level j t = record { once = t.once; same = λ l. inl refl; count = t.count; size = refl; fewer = omega arith }

pub cut_entry : (ss0 es : List ℕ) (len0 head level j : ℕ) (ss : List ℕ) (n i : ℕ) → IsTrail ss0 es len0 head level → IsCut ss0 es len0 j ss n → i < n → (0 < get_or ss (get_or es i 0) 0) × (get_or ss (get_or es i 0) 0 ≡ get_or ss0 (get_or es i 0) 0)
cut_entry ss0 es len0 head level j ss n i t c h =
    let room : n ≤ length es = omega (arith, c.fewer, trail_len ss0 es len0 head level t) in
    let pos : 0 < get_or ss (get_or es i 0) 0 = one_set (get_or ss (get_or es i 0) 0) (omega (arith, c.once (get_or es i 0), entry_on es n i h room)) in
    elim (c.same (get_or es i 0)) [ inl e ↦ (pos, e) | inr e ↦ absurd (omega (arith, e.0, pos)) ]

pub cut_more : (ss0 es : List ℕ) (len0 head level j : ℕ) (ss : List ℕ) (n l : ℕ) → IsTrail ss0 es len0 head level → IsCut ss0 es len0 j ss n → 0 < n → l ≡ get_or es (n - 1) 0 → j + 1 < get_or ss l 0 → IsCut ss0 es len0 j (set ss l 0) (n - 1)
cut_more ss0 es len0 head level j ss n l t c pos el high =
    let f : ℕ → ℕ = λ x. cond (is_set x) 1 0 in
    let m : ℕ = n - 1 in
    let nm : m + 1 ≡ n = omega arith in
    let hl : l < length ss = elim (cases_lt l (length ss)) [ inl a ↦ a | inr a ↦ absurd (omega (arith, high, get_or_past ss l 0 a)) ] in
    let room : m < length es = omega (arith, c.fewer, trail_len ss0 es len0 head level t) in
    let e : count_by is_set (set ss l 0) + f (get_or ss l 0) ≡ count_by is_set ss + f 0 = sum_by-set f ss l 0 0 hl in
    let split : (q : ℕ) → times q (take n es) ≡ times q (take m es) + bit (eqb l q) = λ q. subst (λ (x : ℕ). times q (take x es) ≡ times q (take m es) + bit (eqb l q)) nm (rw (take_more es m 0 room, ← el) (times_push q l (take m es))) in
    record {
      once = λ q. elim (set_cases ss l 0 q hl) [
        | inl p ↦ elim (same_or_not l q) [
          | inl w ↦ rw p.1 (omega (arith, split q, c.once q, bit_le (is_set (get_or ss q 0)), w.1, set_none 0 refl))
          | inr w ↦ absurd (w.0 (sym p.0))
        ]
        | inr p ↦ elim (same_or_not l q) [
          | inl w ↦ absurd (p.0 (sym w.0))
          | inr w ↦ rw p.1 (omega (arith, split q, c.once q, w.1))
        ]
      ];
      same = λ q. elim (set_cases ss l 0 q hl) [
        | inl p ↦ inr (p.1, elim (c.same l) [ inl w ↦ rw p.0 (omega (arith, w, high)) | inr w ↦ absurd (omega (arith, w.0, high)) ])
        | inr p ↦ rw p.1 (c.same q)
      ];
      count = omega (arith, e, c.count, set_none 0 refl, set_one (get_or ss l 0) (omega arith));
      size = rw length-set c.size;
      fewer = omega (arith, c.fewer);
    }

-- no literal that is left is above the level
pub cut_top : (ss0 es : List ℕ) (len0 head level j : ℕ) (ss : List ℕ) (n : ℕ) → IsTrail ss0 es len0 head level → IsCut ss0 es len0 j ss n → (0 < n → get_or ss (get_or es (n - 1) 0) 0 ≤ j + 1) → (l : ℕ) → get_or ss l 0 ≤ j + 1
cut_top ss0 es len0 head level j ss n t c stop l = elim (cases_lt 0 (get_or ss l 0)) [
  | inr a ↦ omega arith
  | inl a ↦
      let room : n ≤ length es = omega (arith, c.fewer, trail_len ss0 es len0 head level t) in
      let p : (i : ℕ) × ((i < length (take n es)) × (get_or (take n es) i 0 ≡ l)) = found_at l (take n es) (omega (arith, c.once l, set_one (get_or ss l 0) a)) in
      let hi : p.0 < n = (let z : p.0 < length (take n es) = p.1.0 in rw (length-take-le n es room) at z) in
      let at_l : get_or es p.0 0 ≡ l = rw (get_or-take n es p.0 0 hi) at p.1.1 in
      let e : p.0 + (n - 1 - p.0) ≡ n - 1 = omega arith in
      let up : get_or ss0 (get_or es p.0 0) 0 ≤ get_or ss0 (get_or es (n - 1) 0) 0 = rw e at (rises ss0 es len0 level p.0 (n - 1 - p.0) t.levels (omega (arith, c.fewer))) in
      let up2 : get_or ss0 l 0 ≤ get_or ss0 (get_or es (n - 1) 0) 0 = rw at_l at up in
      let one : get_or ss l 0 ≡ get_or ss0 l 0 = rw at_l at (cut_entry ss0 es len0 head level j ss n p.0 t c hi).1 in
      omega (arith, up2, one, (cut_entry ss0 es len0 head level j ss n (n - 1) t c (omega arith)).1, stop (omega arith))
]

-- the trail cut back to level j
pub cut_trail : (ss0 es : List ℕ) (len0 head level j : ℕ) (ss : List ℕ) (n : ℕ) → IsTrail ss0 es len0 head level → j < level → IsCut ss0 es len0 j ss n → (0 < n → get_or ss (get_or es (n - 1) 0) 0 ≤ j + 1) → IsTrail ss es n n j
cut_trail ss0 es len0 head level j ss n t lower c stop =
    let top : (l : ℕ) → get_or ss l 0 ≤ j + 1 = cut_top ss0 es len0 head level j ss n t c stop in
    let room : len0 ≤ length es = trail_len ss0 es len0 head level t in
    let at_last : (0 < len0) × (get_or ss0 (get_or es (len0 - 1) 0) 0 ≡ level + 1) = t.levels.last (omega arith) in
    let shorter : n < len0 = elim (cases_lt n len0) [
      | inl a ↦ a
      | inr a ↦ absurd (let e : n ≡ len0 = omega (arith, c.fewer) in
          let x : get_or ss (get_or es (n - 1) 0) 0 ≡ get_or ss0 (get_or es (n - 1) 0) 0 = (cut_entry ss0 es len0 head level j ss n (n - 1) t c (omega (arith, e, at_last.0))).1 in
          let y : get_or ss0 (get_or es (n - 1) 0) 0 ≡ level + 1 = rw e at_last.1 in
          omega (arith, x, y, top (get_or es (n - 1) 0)))
    ] in
    -- the first literal that was taken off
    let gone : get_or ss (get_or es n 0) 0 ≡ 0 =
    (let x : ℕ = get_or es n 0 in
    let a : times x (take (n + 1) es) ≡ times x (take n es) + bit (eqb x x) = rw (take_more es n 0 (omega arith)) (times_push x x (take n es)) in
    let b : times x (take (n + 1) es) ≤ times x (take len0 es) = times_take x (n + 1) len0 es (omega arith) in
    elim (same_or_not x x) [
      | inl e ↦ elim (cases_lt 0 (get_or ss x 0)) [ inl p ↦ absurd (omega (arith, a, b, t.once x, bit_le (is_set (get_or ss0 x 0)), e.1, c.once x, set_one (get_or ss x 0) p)) | inr p ↦ omega arith ]
      | inr e ↦ absurd (e.0 refl)
    ]) in
    let high : j + 1 < get_or ss0 (get_or es n 0) 0 = elim (c.same (get_or es n 0)) [
      | inl e ↦ absurd (omega (arith, e, gone, entry_true ss0 es len0 head level n t shorter))
      | inr e ↦ e.1
    ] in
    let same_at : (i : ℕ) → i < n → get_or ss (get_or es i 0) 0 ≡ get_or ss0 (get_or es i 0) 0 = λ i h. (cut_entry ss0 es len0 head level j ss n i t c h).1 in
    record {
      once = c.once;
      apart = λ q h. elim (c.same q) [
        | inr e ↦ absurd (omega (arith, e.0, h))
        | inl e ↦ elim (c.same (neg q)) [
          | inl y ↦ y ∙ t.apart q (rw e at h)
          | inr y ↦ y.0
        ]
      ];
      named = λ q h. elim (c.same q) [ inl e ↦ t.named q (rw e at h) | inr e ↦ absurd (omega (arith, e.0, h)) ];
      top = top;
      below = λ q a b. omega (arith, c.once q, set_one (get_or ss q 0) a);
      count = c.count;
      size = rw c.size t.size;
      few = rw c.size t.few;
      even = rw c.size t.even;
      reached = omega arith;
      levels = record {
        rise = λ i h. rw (same_at i (omega arith), same_at (i + 1) h) (t.levels.rise i (omega arith));
        step = λ i h. rw (same_at i (omega arith), same_at (i + 1) h) (t.levels.step i (omega arith));
        start = λ h. rw (same_at 0 h) (t.levels.start (omega arith));
        last = λ h. elim (cases_lt 0 n) [
          | inl a ↦ (
            a,
            let e : n - 1 + 1 ≡ n = omega arith in
                let s : get_or ss0 (get_or es n 0) 0 ≤ get_or ss0 (get_or es (n - 1) 0) 0 + 1 = subst (λ (x : ℕ). get_or ss0 (get_or es x 0) 0 ≤ get_or ss0 (get_or es (n - 1) 0) 0 + 1) e (t.levels.step (n - 1) (omega arith)) in
                omega (arith, s, high, same_at (n - 1) (omega arith), top (get_or es (n - 1) 0)),
          )
          | inr a ↦ absurd (let e : n ≡ 0 = omega arith in
              let s : get_or ss0 (get_or es n 0) 0 ≤ 2 = rw e (t.levels.start (omega arith)) in
              omega (arith, s, high))
        ];
      };
    }

pub cut_watched : (L : List (List ℕ)) (ws : List ℕ) (ks : List Kind) (cs : List (List ℕ)) (ss0 es : List ℕ) (len0 head level j : ℕ) (ss : List ℕ) (n : ℕ) → IsWatched L ws ks cs ss0 es head (length ss0) 0 → IsTrail ss0 es len0 head level → j < level → IsCut ss0 es len0 j ss n → ((l : ℕ) → get_or ss l 0 ≤ j + 1) → IsWatched L ws ks cs ss es n (length ss) 0
cut_watched L ws ks cs ss0 es len0 head level j ss n w t lower c top =
    let below : (q : ℕ) → IsWatching ks q → get_or ws q 0 < length ss0 = λ q on. w.within (q / 2) (get_or ws q 0) (w.inside q on) in
    rw c.size (record {
      lists = rw c.size w.lists;
      slots = w.slots;
      clauses = w.clauses;
      known = w.known;
      sound = w.sound;
      inside = w.inside;
      differ = w.differ;
      named = w.named;
      within = λ s m h. rw c.size (w.within s m h);
      kept = λ q on np d.
          let a : ℕ = get_or ws q 0 in
          let b : ℕ = get_or ws (neg q) 0 in
          let pos : 0 < get_or ss (neg a) 0 = one_set (get_or ss (neg a) 0) (omega (arith, c.once (neg a), d)) in
          elim (c.same (neg a)) [
            | inr e ↦ absurd (omega (arith, e.0, pos))
            | inl e ↦
                let old : Kept ss0 a b = w.kept q on np (t.below (neg a) (rw e at pos) (omega (arith, e, top (neg a)))) in
                elim (c.same b) [
                  | inl y ↦ (rw y old.0, rw (y, e) old.1)
                  | inr y ↦ absurd (omega (arith, old.1, e, y.1, top (neg a)))
                ]
          ];
      here = λ q on e s out. absurd (omega (arith, e, below q on));
    })

-- the literals that were taken off are of higher levels
pub cut_gone : (ss0 es : List ℕ) (len0 head level j : ℕ) (ss : List ℕ) (n i : ℕ) → IsTrail ss0 es len0 head level → IsCut ss0 es len0 j ss n → n ≤ i → i < len0 → j + 1 < get_or ss0 (get_or es i 0) 0
cut_gone ss0 es len0 head level j ss n i t c lo hi =
    let room : len0 ≤ length es = trail_len ss0 es len0 head level t in
    let x : ℕ = get_or es n 0 in
    let gone : get_or ss x 0 ≡ 0 =
    (let a : times x (take (n + 1) es) ≡ times x (take n es) + bit (eqb x x) = rw (take_more es n 0 (omega arith)) (times_push x x (take n es)) in
    let b : times x (take (n + 1) es) ≤ times x (take len0 es) = times_take x (n + 1) len0 es (omega arith) in
    elim (same_or_not x x) [
      | inl e ↦ elim (cases_lt 0 (get_or ss x 0)) [ inl p ↦ absurd (omega (arith, a, b, t.once x, bit_le (is_set (get_or ss0 x 0)), e.1, c.once x, set_one (get_or ss x 0) p)) | inr p ↦ omega arith ]
      | inr e ↦ absurd (e.0 refl)
    ]) in
    let high : j + 1 < get_or ss0 x 0 = elim (c.same x) [
      | inl e ↦ absurd (omega (arith, e, gone, entry_true ss0 es len0 head level n t (omega arith)))
      | inr e ↦ e.1
    ] in
    let e : n + (i - n) ≡ i = omega arith in
    let up : get_or ss0 x 0 ≤ get_or ss0 (get_or es i 0) 0 = rw e at (rises ss0 es len0 level n (i - n) t.levels (omega arith)) in
    omega (arith, high, up)
