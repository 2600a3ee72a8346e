-- What stands on a trail, and a trail with one more literal, with its next one visited, and with one more level.
use Rattle.std.proofs.Common.{ℕ, ◌≡◌, ◌≢◌, ◌+◌, ◌-◌, ◌*◌, ◌%◌, ◌^◌, ◌<◌, ◌≤◌, zero, suc, List, [], ◌∷◌, length, take, cond, eqb, refl, sym, subst, inl, inr, arith}
use Rattle.std.proofs.Math.ListN.{get_or, set, length-set}
use Rattle.std.specs.List.{count_by}
use Rattle.std.proofs.lemmas.List.{get_or-set_other, get_or-set_same, take_more_set, take_more, take-set-le}
use Rattle.std.proofs.lemmas.List.Sums.{sum_by-set, sum_by-append}
use Rattle.std.proofs.lemmas.Bool.{cases_lt}
use Rattle.cdcl_core.specs.Chains.{times}
use Rattle.cdcl_core.specs.Stamps.{neg, is_set, IsTrail, IsLevelled}
use Rattle.cdcl_core.proofs.Counting.{bit, same_or_not, times_cons, times_push, times_take, neg_cases, neg_neg, neg_differs, set_cases, bit_le, set_one, set_none, one_set}

-- what is on the trail is true
pub on_trail : (ss es : List ℕ) (len head level l : ℕ) → IsTrail ss es len head level → 0 < times l (take head es) → 0 < get_or ss l 0
on_trail ss es len head level l t h = one_set (get_or ss l 0) (omega (arith, t.once l, times_take l head len es t.reached))

-- of two opposite literals at most one is true, so at most half of all are
neg_next : (l : ℕ) → neg (suc (suc l)) ≡ suc (suc (neg l))
neg_next l = elim (neg_cases l) [
  | inl p ↦ elim (neg_cases (suc (suc l))) [ inl w ↦ omega (arith, p.1, w.1) | inr w ↦ absurd (omega (arith, p.0, w.0)) ]
  | inr p ↦ elim (neg_cases (suc (suc l))) [ inl w ↦ absurd (omega (arith, p.0, w.0)) | inr w ↦ omega (arith, p.0, p.1, w.1) ]
]

first_pair : (x y : ℕ) (ss : List ℕ) → ((l : ℕ) → 0 < get_or (x ∷ y ∷ ss) l 0 → get_or (x ∷ y ∷ ss) (neg l) 0 ≡ 0) → bit (is_set x) + bit (is_set y) ≤ 1
first_pair x y ss apart = elim (cases_lt 0 x) [
  | inl h ↦
      let one : neg 0 ≡ 1 = elim (neg_cases 0) [ inl p ↦ omega (arith, p.1) | inr p ↦ absurd (omega (arith, p.0)) ] in
      let none : y ≡ 0 = rw one at (apart 0 h) in
      omega (arith, bit_le (is_set x), set_none y none)
  | inr h ↦ omega (arith, bit_le (is_set y), set_none x (omega arith))
]

half_set : (ss : List ℕ) → length ss % 2 ≡ 0 → ((l : ℕ) → 0 < get_or ss l 0 → get_or ss (neg l) 0 ≡ 0) → 2 * count_by is_set ss ≤ length ss
half_set [] even apart = omega arith
half_set (x ∷ []) even apart = absurd (let odd : length (x ∷ []) ≡ 1 = refl in omega (arith, even, odd))
half_set (x ∷ y ∷ ss) even apart =
    let size : length (x ∷ y ∷ ss) ≡ length ss + 2 = omega arith in
    let counts : count_by is_set (x ∷ y ∷ ss) ≡ count_by is_set (x ∷ y ∷ []) + count_by is_set ss = sum_by-append (λ (z : ℕ). cond (is_set z) 1 0) (x ∷ y ∷ []) ss in
    let two : count_by is_set (x ∷ y ∷ []) ≡ 0 + bit (is_set x) + bit (is_set y) = refl in
    let rest : 2 * count_by is_set ss ≤ length ss = half_set ss (omega (arith, even, size)) (λ l h. rw neg_next at (apart (suc (suc l)) h)) in
    omega (arith, size, counts, two, rest, first_pair x y ss apart)

pub half_true : (ss es : List ℕ) (len head level : ℕ) → IsTrail ss es len head level → 2 * len ≤ length ss
half_true ss es len head level t = omega (arith, t.count, half_set ss t.even t.apart)

pub trail_len : (ss es : List ℕ) (len head level : ℕ) → IsTrail ss es len head level → len ≤ length es
trail_len ss es len head level t = omega (arith, t.size, half_true ss es len head level t)

-- where a literal is open, fewer are true
pub fewer : (ss es : List ℕ) (len head level l : ℕ) → IsTrail ss es len head level → l < length ss → get_or ss l 0 ≡ 0 → get_or ss (neg l) 0 ≡ 0 → 2 * len + 2 ≤ length ss
fewer ss es len head level l t hl free free2 =
    let f : ℕ → ℕ = λ x. cond (is_set x) 1 0 in
    let e : count_by is_set (set ss l 1) + f (get_or ss l 0) ≡ count_by is_set ss + f 1 = sum_by-set f ss l 1 0 hl in
    let size : length (set ss l 1) ≡ length ss = rw length-set refl in
    let apart : (q : ℕ) → 0 < get_or (set ss l 1) q 0 → get_or (set ss l 1) (neg q) 0 ≡ 0 = λ q h. elim (set_cases ss l 1 q hl) [
      | inl p ↦ rw (p.0, get_or-set_other ss l (neg l) 1 0 (neg_differs l)) free2
      | inr p ↦ elim (set_cases ss l 1 (neg q) hl) [
        | inl w ↦ absurd (let z : get_or ss q 0 ≡ 0 = rw (← neg_neg q, w.0) free2 in omega (arith, p.1, z, h))
        | inr w ↦ rw w.1 (t.apart q (rw p.1 at h))
      ]
    ] in
    let b : 2 * count_by is_set (set ss l 1) ≤ length (set ss l 1) = half_set (set ss l 1) (rw length-set t.even) apart in
    omega (arith, e, b, size, t.count, set_none (get_or ss l 0) free, set_one 1 (omega arith))

-- the trail has room for an open literal
pub has_room : (ss es : List ℕ) (len head level l : ℕ) → IsTrail ss es len head level → l < length ss → get_or ss l 0 ≡ 0 → get_or ss (neg l) 0 ≡ 0 → len < length es
has_room ss es len head level l t hl free free2 = omega (arith, fewer ss es len head level l t hl free free2, t.size)

-- what stands on the trail stands at a place
pub found_at : (q : ℕ) (xs : List ℕ) → 0 < times q xs → (i : ℕ) × ((i < length xs) × (get_or xs i 0 ≡ q))
unfolding times
found_at q [] h = absurd (omega arith)
found_at q (x ∷ xs) h = elim (same_or_not x q) [
  | inl e ↦ (0, (omega arith, e.0))
  | inr e ↦ let r : (i : ℕ) × ((i < length xs) × (get_or xs i 0 ≡ q)) = found_at q xs (omega (arith, h, e.1)) in
      (suc r.0, (let a : r.0 < length xs = r.1.0 in omega arith, r.1.1))
]

pub entry_on : (es : List ℕ) (n i : ℕ) → i < n → n ≤ length es → 0 < times (get_or es i 0) (take n es)
entry_on es n i h hn =
    let a : times (get_or es i 0) (take (i + 1) es) ≡ times (get_or es i 0) (take i es) + bit (eqb (get_or es i 0) (get_or es i 0)) = rw (take_more es i 0 (omega arith)) (times_push (get_or es i 0) (get_or es i 0) (take i es)) in
    elim (same_or_not (get_or es i 0) (get_or es i 0)) [ inl e ↦ omega (arith, a, e.1, times_take (get_or es i 0) (i + 1) n es (omega arith)) | inr e ↦ absurd (e.0 refl) ]

pub entry_true : (ss es : List ℕ) (len head level i : ℕ) → IsTrail ss es len head level → i < len → 0 < get_or ss (get_or es i 0) 0
entry_true ss es len head level i t h =
    one_set (get_or ss (get_or es i 0) 0) (omega (arith, t.once (get_or es i 0), entry_on es len i h (trail_len ss es len head level t)))

-- a read of a trail's stamp where another literal gets one
pub same_stamp : (ss es : List ℕ) (len head level l v i : ℕ) → IsTrail ss es len head level → get_or ss l 0 ≡ 0 → i < len → get_or (set ss l v) (get_or (set es len l) i 0) 0 ≡ get_or ss (get_or es i 0) 0
same_stamp ss es len head level l v i t free h =
    let e : get_or (set es len l) i 0 ≡ get_or es i 0 = get_or-set_other es len i l 0 (λ u. omega (arith, u)) in
    let ne : get_or es i 0 ≢ l = λ u. let z : get_or ss (get_or es i 0) 0 ≡ 0 = rw u free in omega (arith, z, entry_true ss es len head level i t h) in
    rw e (get_or-set_other ss l (get_or es i 0) v 0 ne)

pub pushed_levels_at : (ss es : List ℕ) (len head level l v : ℕ) → IsTrail ss es len head level → l < length ss → get_or ss l 0 ≡ 0 → len < length es → level + 1 ≤ v → v ≤ level + 2 → (0 < len → v ≤ get_or ss (get_or es (len - 1) 0) 0 + 1) → IsLevelled (set ss l v) (set es len l) (len + 1) (v - 1)
pushed_levels_at ss es len head level l v t hl free room lo hi step0 =
    let new : get_or (set ss l v) (get_or (set es len l) len 0) 0 ≡ v = rw (get_or-set_same es len l 0 room) (get_or-set_same ss l v 0 hl) in
    record {
      rise = λ i h. elim (cases_lt (i + 1) len) [
        | inl a ↦ rw (same_stamp ss es len head level l v i t free (omega arith), same_stamp ss es len head level l v (i + 1) t free a) (t.levels.rise i a)
        | inr a ↦ let e : i + 1 ≡ len = omega arith in
            rw (same_stamp ss es len head level l v i t free (omega arith), e, new) (omega (arith, t.top (get_or es i 0), lo))
      ];
      step = λ i h. elim (cases_lt (i + 1) len) [
        | inl a ↦ rw (same_stamp ss es len head level l v i t free (omega arith), same_stamp ss es len head level l v (i + 1) t free a) (t.levels.step i a)
        | inr a ↦ let e : i + 1 ≡ len = omega arith in let e2 : len - 1 ≡ i = omega arith in
            rw (same_stamp ss es len head level l v i t free (omega arith), e, new) (rw e2 at (step0 (omega arith)))
      ];
      start = λ h. elim (cases_lt 0 len) [
        | inl a ↦ rw (same_stamp ss es len head level l v 0 t free a) (t.levels.start a)
        | inr a ↦ let e : len ≡ 0 = omega arith in
            let low : level ≡ 0 = elim (cases_lt 0 level) [ inl b ↦ absurd (omega (arith, (t.levels.last b).0)) | inr b ↦ omega arith ] in
            let n2 : get_or (set ss l v) (get_or (set es len l) 0 0) 0 ≡ v = subst (λ (x : ℕ). get_or (set ss l v) (get_or (set es len l) x 0) 0 ≡ v) e new in omega (arith, n2)
      ];
      last = λ h. (omega arith, let e : len + 1 - 1 ≡ len = omega arith in rw (e, new) (omega arith));
    }

pushed_levels : (ss es : List ℕ) (len head level l : ℕ) → IsTrail ss es len head level → l < length ss → get_or ss l 0 ≡ 0 → get_or ss (neg l) 0 ≡ 0 → IsLevelled (set ss l (level + 1)) (set es len l) (len + 1) level
pushed_levels ss es len head level l t hl free free2 =
    let r : IsLevelled (set ss l (level + 1)) (set es len l) (len + 1) (level + 1 - 1) = pushed_levels_at ss es len head level l (level + 1) t hl free (has_room ss es len head level l t hl free free2) (omega arith) (omega arith)
    (λ h. elim (cases_lt 0 level) [ inl b ↦ omega (arith, (t.levels.last b).1) | inr b ↦ omega arith ]) in
    let e : level + 1 - 1 ≡ level = omega arith in rw e at r

pub pushed_trail : (ss es : List ℕ) (len head level l : ℕ) → IsTrail ss es len head level → 2 ≤ l → l < length ss → get_or ss l 0 ≡ 0 → get_or ss (neg l) 0 ≡ 0 → IsTrail (set ss l (level + 1)) (set es len l) (len + 1) head level
pushed_trail ss es len head level l t two hl free free2 =
    let f : ℕ → ℕ = λ x. cond (is_set x) 1 0 in
    let room : len < length es = has_room ss es len head level l t hl free free2 in
    let e : count_by is_set (set ss l (level + 1)) + f (get_or ss l 0) ≡ count_by is_set ss + f (level + 1) = sum_by-set f ss l (level + 1) 0 hl in
    record {
      once = λ q. rw (take_more_set es len l room)
          (elim (set_cases ss l (level + 1) q hl) [
            | inl p ↦ elim (same_or_not l q) [
              | inl w ↦ rw p.1 (omega (arith, times_push q l (take len es), t.once q, set_none (get_or ss q 0) (rw p.0 free), set_one (level + 1) (omega arith), w.1))
              | inr w ↦ absurd (w.0 (sym p.0))
            ]
            | inr p ↦ elim (same_or_not l q) [
              | inl w ↦ absurd (p.0 (sym w.0))
              | inr w ↦ rw p.1 (omega (arith, times_push q l (take len es), t.once q, w.1))
            ]
          ]);
      apart = λ q h. elim (set_cases ss l (level + 1) q hl) [
        | inl p ↦ rw (p.0, get_or-set_other ss l (neg l) (level + 1) 0 (neg_differs l)) free2
        | inr p ↦ elim (set_cases ss l (level + 1) (neg q) hl) [
          | inl w ↦ absurd (let z : get_or ss q 0 ≡ 0 = rw (← neg_neg q, w.0) free2 in omega (arith, p.1, z, h))
          | inr w ↦ rw w.1 (t.apart q (rw p.1 at h))
        ]
      ];
      named = λ q h. elim (set_cases ss l (level + 1) q hl) [ inl p ↦ rw p.0 two | inr p ↦ t.named q (rw p.1 at h) ];
      top = λ q. elim (set_cases ss l (level + 1) q hl) [ inl p ↦ rw p.1 (omega arith) | inr p ↦ rw p.1 (t.top q) ];
      below = λ q h h2. rw (take-set-le head es len l t.reached) (elim (set_cases ss l (level + 1) q hl) [
        | inl p ↦ absurd (omega (arith, p.1, h2))
        | inr p ↦ t.below q (rw p.1 at h) (rw p.1 at h2)
      ]);
      count = omega (arith, e, t.count, set_none (get_or ss l 0) free, set_one (level + 1) (omega arith));
      size = rw (length-set, length-set) t.size;
      few = rw length-set t.few;
      even = rw length-set t.even;
      reached = omega (arith, t.reached);
      levels = pushed_levels ss es len head level l t hl free free2;
    }

-- the next literal of the trail is not among those before it, and is of the current level
pub next_not_before : (ss es : List ℕ) (len head level : ℕ) → IsTrail ss es len head level → head < len → times (get_or es head 0) (take head es) ≡ 0
next_not_before ss es len head level t h =
    let x : ℕ = get_or es head 0 in
    let room : len ≤ length es = trail_len ss es len head level t in
    let hh : head < length es = omega arith in
    let a : times x (take (head + 1) es) ≡ times x (take head es) + bit (eqb x x) = rw (take_more es head 0 hh) (times_push x x (take head es)) in
    let b : times x (take (head + 1) es) ≤ times x (take len es) = times_take x (head + 1) len es (omega arith) in
    elim (same_or_not x x) [ inl e ↦ omega (arith, a, b, t.once x, bit_le (is_set (get_or ss x 0)), e.1) | inr e ↦ absurd (e.0 refl) ]

pub trail_size : (ss es : List ℕ) (len head level : ℕ) → IsTrail ss es len head level → head < len → head < length es
trail_size ss es len head level t h = omega (arith, h, trail_len ss es len head level t)

pub next_level : (ss es : List ℕ) (len head level : ℕ) → IsTrail ss es len head level → head < len → get_or ss (get_or es head 0) 0 ≡ level + 1
next_level ss es len head level t h =
    let x : ℕ = get_or es head 0 in
    let room : len ≤ length es = trail_len ss es len head level t in
    let hh : head < length es = omega arith in
    let a : times x (take (head + 1) es) ≡ times x (take head es) + bit (eqb x x) = rw (take_more es head 0 hh) (times_push x x (take head es)) in
    let b : times x (take (head + 1) es) ≤ times x (take len es) = times_take x (head + 1) len es (omega arith) in
    let one : 0 < times x (take len es) = elim (same_or_not x x) [ inl e ↦ omega (arith, a, b, e.1) | inr e ↦ absurd (e.0 refl) ] in
    let set : 0 < get_or ss x 0 = one_set (get_or ss x 0) (omega (arith, t.once x, one)) in
    elim (cases_lt level (get_or ss x 0)) [
      | inl e ↦ omega (arith, t.top x)
      | inr e ↦ absurd (let z : 0 < times x (take head es) = t.below x set e in omega (arith, z, next_not_before ss es len head level t h))
    ]

pub next_trail : (ss es : List ℕ) (len head level : ℕ) → IsTrail ss es len head level → head < len → IsTrail ss es len (head + 1) level
next_trail ss es len head level t h = record {
  once = t.once;
  apart = t.apart;
  named = t.named;
  top = t.top;
  below = λ q a b. omega (arith, t.below q a b, times_take q head (head + 1) es (omega arith));
  count = t.count;
  size = t.size;
  few = t.few;
  even = t.even;
  reached = omega arith;
  levels = t.levels;
}

pub first_there : (x : ℕ) (xs : List ℕ) → 0 < times x (x ∷ xs)
first_there x xs = elim (same_or_not x x) [ inl e ↦ omega (arith, times_cons x x xs, e.1) | inr e ↦ absurd (e.0 refl) ]

-- a decision begins a level
pub decided_trail : (ss es : List ℕ) (len head level l : ℕ) → IsTrail ss es len head level → head ≡ len → 2 ≤ l → l < length ss → get_or ss l 0 ≡ 0 → get_or ss (neg l) 0 ≡ 0 → IsTrail (set ss l (level + 2)) (set es len l) (len + 1) head (level + 1)
decided_trail ss es len head level l t rest two hl free free2 =
    let f : ℕ → ℕ = λ x. cond (is_set x) 1 0 in
    let room : len < length es = has_room ss es len head level l t hl free free2 in
    let e : count_by is_set (set ss l (level + 2)) + f (get_or ss l 0) ≡ count_by is_set ss + f (level + 2) = sum_by-set f ss l (level + 2) 0 hl in
    let lv : IsLevelled (set ss l (level + 2)) (set es len l) (len + 1) (level + 2 - 1) = pushed_levels_at ss es len head level l (level + 2) t hl free room (omega arith) (omega arith)
    (λ h. elim (cases_lt 0 level) [ inl b ↦ omega (arith, (t.levels.last b).1) | inr b ↦ let x : 0 < get_or ss (get_or es (len - 1) 0) 0 = entry_true ss es len head level (len - 1) t (omega arith) in omega (arith, x) ]) in
    let lv_e : level + 2 - 1 ≡ level + 1 = omega arith in
    record {
      once = λ q. rw (take_more_set es len l room)
          (elim (set_cases ss l (level + 2) q hl) [
            | inl p ↦ elim (same_or_not l q) [
              | inl w ↦ rw p.1 (omega (arith, times_push q l (take len es), t.once q, set_none (get_or ss q 0) (rw p.0 free), set_one (level + 2) (omega arith), w.1))
              | inr w ↦ absurd (w.0 (sym p.0))
            ]
            | inr p ↦ elim (same_or_not l q) [
              | inl w ↦ absurd (p.0 (sym w.0))
              | inr w ↦ rw p.1 (omega (arith, times_push q l (take len es), t.once q, w.1))
            ]
          ]);
      apart = λ q h. elim (set_cases ss l (level + 2) q hl) [
        | inl p ↦ rw (p.0, get_or-set_other ss l (neg l) (level + 2) 0 (neg_differs l)) free2
        | inr p ↦ elim (set_cases ss l (level + 2) (neg q) hl) [
          | inl w ↦ absurd (let z : get_or ss q 0 ≡ 0 = rw (← neg_neg q, w.0) free2 in omega (arith, p.1, z, h))
          | inr w ↦ rw w.1 (t.apart q (rw p.1 at h))
        ]
      ];
      named = λ q h. elim (set_cases ss l (level + 2) q hl) [ inl p ↦ rw p.0 two | inr p ↦ t.named q (rw p.1 at h) ];
      top = λ q. elim (set_cases ss l (level + 2) q hl) [ inl p ↦ rw p.1 (omega arith) | inr p ↦ rw p.1 (omega (arith, t.top q)) ];
      below = λ q h h2. rw (take-set-le head es len l t.reached) (elim (set_cases ss l (level + 2) q hl) [
        | inl p ↦ absurd (omega (arith, p.1, h2))
        | inr p ↦ let h3 : 0 < get_or ss q 0 = rw p.1 at h in rw rest (omega (arith, t.once q, set_one (get_or ss q 0) h3))
      ]);
      count = omega (arith, e, t.count, set_none (get_or ss l 0) free, set_one (level + 2) (omega arith));
      size = rw (length-set, length-set) t.size;
      few = rw length-set t.few;
      even = rw length-set t.even;
      reached = omega (arith, t.reached);
      levels = rw lv_e at lv;
    }

pub rises : (ss es : List ℕ) (len level i d : ℕ) → IsLevelled ss es len level → i + d < len → get_or ss (get_or es i 0) 0 ≤ get_or ss (get_or es (i + d) 0) 0
rises ss es len level i zero v h = let e : i + 0 ≡ i = omega arith in rw e (omega arith)
rises ss es len level i (suc d) v h =
    let e : i + suc d ≡ i + d + 1 = omega arith in
    let r : get_or ss (get_or es i 0) 0 ≤ get_or ss (get_or es (i + d) 0) 0 = rises ss es len level i d v (omega arith) in
    let s : get_or ss (get_or es (i + d) 0) 0 ≤ get_or ss (get_or es (i + d + 1) 0) 0 = v.rise (i + d) (omega arith) in
    rw e (omega (arith, r, s))

pub true_on_trail : (ss es : List ℕ) (len head level m : ℕ) → IsTrail ss es len head level → 0 < get_or ss m 0 → 0 < times m (take len es)
true_on_trail ss es len head level m t h = omega (arith, t.once m, set_one (get_or ss m 0) h)

pub apart_on_trail : (ss es : List ℕ) (len head level m : ℕ) → IsTrail ss es len head level → 0 < times m (take len es) → 0 < times (neg m) (take len es) → ⊥
apart_on_trail ss es len head level m t a b = omega (arith, t.once m, t.once (neg m), a, b, set_none (get_or ss (neg m) 0) (t.apart m (one_set (get_or ss m 0) (omega (arith, t.once m, a)))))

-- a level has a literal of its own, so there are at least as many literals as levels
stamp_index : (ss es : List ℕ) (len level i : ℕ) → IsLevelled ss es len level → i < len → get_or ss (get_or es i 0) 0 ≤ i + 2
stamp_index ss es len level zero v h = v.start h
stamp_index ss es len level (suc i) v h =
    let e : suc i ≡ i + 1 = omega arith in
    let s : get_or ss (get_or es (i + 1) 0) 0 ≤ get_or ss (get_or es i 0) 0 + 1 = v.step i (omega arith) in
    rw e (omega (arith, s, stamp_index ss es len level i v (omega arith)))

pub level_len : (ss es : List ℕ) (len head level : ℕ) → IsTrail ss es len head level → level ≤ len
level_len ss es len head level t = elim (cases_lt 0 level) [
  | inl a ↦ let l : (0 < len) × (get_or ss (get_or es (len - 1) 0) 0 ≡ level + 1) = t.levels.last a in
      omega (arith, l.0, l.1, stamp_index ss es len level (len - 1) t.levels (omega (arith, l.0)))
  | inr a ↦ omega arith
]

-- numbers of literals and of levels take 4 bytes
pub few_true : (ss es : List ℕ) (len head level : ℕ) → IsTrail ss es len head level → len < 2 ^ 32
few_true ss es len head level t = omega (arith, t.few, half_true ss es len head level t)

pub few_levels : (ss es : List ℕ) (len head level : ℕ) → IsTrail ss es len head level → level + 2 < 2 ^ 32
few_levels ss es len head level t = omega (arith, t.few, half_true ss es len head level t, level_len ss es len head level t)
