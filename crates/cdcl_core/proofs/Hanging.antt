-- A clause that goes into a free slot and is watched at two literals, or is not watched, and one that goes.
use Rattle.std.proofs.Common.{ℕ, ◌≡◌, ◌≢◌, ◌+◌, ◌*◌, ◌/◌, ◌%◌, ◌<◌, ◌≤◌, ◌⊎◌, List, [], ◌∷◌, length, take, eqb, refl, sym, ◌∙◌, inl, inr, arith}
use Rattle.std.proofs.Math.ListN.{get_or, set, length-set}
use Rattle.std.proofs.lemmas.List.{get_or-set_other, get_or-set_same}
use Rattle.std.proofs.lemmas.Bool.Decides.{eqb_tells}
use Rattle.cdcl_core.specs.declared.watches.Kind.{Kind}
use Rattle.cdcl_core.specs.declared.watches.Kind.TheVariants.{Free, Watched}
use Rattle.cdcl_core.specs.Chains.{times, first_of, rest_of}
use Rattle.cdcl_core.specs.Stamps.{neg, Has}
use Rattle.cdcl_core.specs.Watched.{kind_at, Kept, IsPlace, IsWatched}
use Rattle.cdcl_core.proofs.Apart.{watched_not_free}
use Rattle.cdcl_core.proofs.Counting.{bit, same_or_not, times_cons, taken_apart, neg_cases}
use Rattle.cdcl_core.proofs.Slots.{IsSlotChange}

-- what is known of the slot that waits
pub record IsRoom (L : List (List ℕ)) (ws : List ℕ) (ks : List Kind) (cs : List (List ℕ)) (s : ℕ) : Type 0 where
  pub low : 1 ≤ s
  pub high : s < length ks
  pub free : kind_at ks s ≡ Free
  pub first : first_of (get_or L 1 []) ≡ 2 * s
  pub once : times (2 * s) (get_or L 1 []) ≤ 1

-- a place of the free slot stands in list 1 and is the first of its two
pub free_place : (L : List (List ℕ)) (ws : List ℕ) (ks : List Kind) (cs : List (List ℕ)) (ss es : List ℕ) (head p s i k : ℕ) → IsWatched L ws ks cs ss es head p 0 → kind_at ks s ≡ Free → k / 2 ≡ s → 0 < times k (get_or L i []) → (i ≡ 1) × (k ≡ 2 * s)
free_place L ws ks cs ss es head p s i k w free e h =
    let pl : IsPlace ws ks p i k = w.sound i k h in
    elim (eqb_tells i 1) [
      | inl a ↦ (a.1, (let ev : k % 2 ≡ 0 = pl.first a.1 in omega arith))
      | inr a ↦ absurd (watched_not_free (sym (rw e at (pl.watched a.1)) ∙ free))
    ]

pub two_places : (k s : ℕ) → k / 2 ≡ s → (k ≡ 2 * s) ⊎ (k ≡ 2 * s + 1)
two_places k s e = elim (eqb_tells (k % 2) 0) [ inl p ↦ inl (omega (arith, p.1)) | inr p ↦ inr (omega (arith, p.1)) ]

neg_even : (s : ℕ) → neg (2 * s) ≡ 2 * s + 1
neg_even s = elim (neg_cases (2 * s)) [ inl p ↦ p.1 | inr p ↦ absurd (omega (arith, p.0)) ]

neg_odd : (s : ℕ) → neg (2 * s + 1) ≡ 2 * s
neg_odd s = elim (neg_cases (2 * s + 1)) [ inl p ↦ absurd (omega (arith, p.0)) | inr p ↦ omega (arith, p.1) ]

-- list 1 without its first place, and the place in front of another list
unfoldable pub freed : List (List ℕ) → ℕ → ℕ → List (List ℕ)
freed L s a = set (set L 1 (rest_of (get_or L 1 []))) (a + 1) (2 * s ∷ get_or L (a + 1) [])

unfoldable pub hung : List (List ℕ) → ℕ → ℕ → ℕ → List (List ℕ)
hung L s a b = set (freed L s a) (b + 1) ((2 * s + 1) ∷ get_or (freed L s a) (b + 1) [])

freed_at : (L : List (List ℕ)) (s a i : ℕ) → a + 1 < length L → 2 ≤ a →
    ((i ≡ a + 1) × (get_or (freed L s a) i [] ≡ 2 * s ∷ get_or L (a + 1) [])) ⊎ ((i ≢ a + 1) × (((i ≡ 1) × (get_or (freed L s a) i [] ≡ rest_of (get_or L 1 []))) ⊎ ((i ≢ 1) × (get_or (freed L s a) i [] ≡ get_or L i []))))
unfolding freed
freed_at L s a i ha two =
    let one : 1 < length L = omega arith in
    let ha2 : a + 1 < length (set L 1 (rest_of (get_or L 1 []))) = rw length-set ha in
    elim (eqb_tells i (a + 1)) [
      | inl e ↦ inl (e.1, rw e.1 (get_or-set_same (set L 1 (rest_of (get_or L 1 []))) (a + 1) (2 * s ∷ get_or L (a + 1) []) [] ha2))
      | inr e ↦
          let other : get_or (set (set L 1 (rest_of (get_or L 1 []))) (a + 1) (2 * s ∷ get_or L (a + 1) [])) i [] ≡ get_or (set L 1 (rest_of (get_or L 1 []))) i [] = get_or-set_other (set L 1 (rest_of (get_or L 1 []))) (a + 1) i (2 * s ∷ get_or L (a + 1) []) [] e.1 in
          inr (
            e.1,
            elim (eqb_tells i 1) [
              | inl f ↦ inl (f.1, other ∙ (rw f.1 (get_or-set_same L 1 (rest_of (get_or L 1 [])) [] one)))
              | inr f ↦ inr (f.1, other ∙ get_or-set_other L 1 i (rest_of (get_or L 1 [])) [] f.1)
            ],
          )
    ]

hung_at : (L : List (List ℕ)) (s a b i : ℕ) → b + 1 < length (freed L s a) →
    ((i ≡ b + 1) × (get_or (hung L s a b) i [] ≡ (2 * s + 1) ∷ get_or (freed L s a) (b + 1) [])) ⊎ ((i ≢ b + 1) × (get_or (hung L s a b) i [] ≡ get_or (freed L s a) i []))
unfolding hung
hung_at L s a b i hb = elim (eqb_tells i (b + 1)) [
  | inl e ↦ inl (e.1, rw e.1 (get_or-set_same (freed L s a) (b + 1) ((2 * s + 1) ∷ get_or (freed L s a) (b + 1) []) [] hb))
  | inr e ↦ inr (e.1, get_or-set_other (freed L s a) (b + 1) i ((2 * s + 1) ∷ get_or (freed L s a) (b + 1) []) [] e.1)
]

freed_length : (L : List (List ℕ)) (s a : ℕ) → length (freed L s a) ≡ length L
unfolding freed
freed_length L s a = rw (length-set, length-set) refl

hung_length : (L : List (List ℕ)) (s a b : ℕ) → length (hung L s a b) ≡ length L
unfolding hung
hung_length L s a b = rw (length-set, freed_length) refl

-- another place stands where it stood
freed_other : (L : List (List ℕ)) (s a i k : ℕ) → a + 1 < length L → 2 ≤ a → first_of (get_or L 1 []) ≡ 2 * s → 1 ≤ s → k ≢ 2 * s → times k (get_or (freed L s a) i []) ≡ times k (get_or L i [])
freed_other L s a i k ha two first lo ne = elim (freed_at L s a i ha two) [
  | inl e ↦ elim (same_or_not (2 * s) k) [
    | inl y ↦ absurd (ne (sym y.0))
    | inr y ↦ rw (e.1, e.0) (omega (arith, times_cons k (2 * s) (get_or L (a + 1) []), y.1))
  ]
  | inr e ↦ elim e.1 [
    | inl f ↦ elim (same_or_not (first_of (get_or L 1 [])) k) [
      | inl y ↦ absurd (ne (sym y.0 ∙ first))
      | inr y ↦ rw (f.1, f.0) (omega (arith, taken_apart (get_or L 1 []) k (omega (arith, first, lo)), y.1))
    ]
    | inr f ↦ rw f.1 refl
  ]
]

hung_other : (L : List (List ℕ)) (s a b i k : ℕ) → a + 1 < length L → b + 1 < length L → 2 ≤ a → first_of (get_or L 1 []) ≡ 2 * s → 1 ≤ s → k / 2 ≢ s → times k (get_or (hung L s a b) i []) ≡ times k (get_or L i [])
hung_other L s a b i k ha hb two first lo ne =
    let n0 : k ≢ 2 * s = λ e. ne (omega (arith, e)) in
    let n1 : 2 * s + 1 ≢ k = λ e. ne (omega (arith, e)) in
    elim (hung_at L s a b i (rw freed_length hb)) [
      | inl e ↦ elim (same_or_not (2 * s + 1) k) [
        | inl y ↦ absurd (n1 y.0)
        | inr y ↦ rw (e.1, e.0) (omega (arith, times_cons k (2 * s + 1) (get_or (freed L s a) (b + 1) []), y.1, freed_other L s a (b + 1) k ha two first lo n0))
      ]
      | inr e ↦ rw e.1 (freed_other L s a i k ha two first lo n0)
    ]

pub hung_change : (L : List (List ℕ)) (ws : List ℕ) (ks : List Kind) (cs : List (List ℕ)) (ss es : List ℕ) (head s a b : ℕ) (c : List ℕ) → IsWatched L ws ks cs ss es head (length ss) 0 → IsRoom L ws ks cs s → ((l : ℕ) → Has c l → 2 ≤ l) → ((l : ℕ) → Has c l → l < length ss) → Has c a → Has c b → b ≢ a →
    (0 < times (neg a) (take head es) → Kept ss a b) → (0 < times (neg b) (take head es) → Kept ss b a) →
    IsSlotChange L ws ks cs (hung L s a b) (set (set ws (2 * s) a) (2 * s + 1) b) (set ks s Watched) (set cs s c) ss es head s
hung_change L ws ks cs ss es head s a b c w r low within has_a has_b differ kept_a kept_b =
    let two_a : 2 ≤ a = low a has_a in
    let two_b : 2 ≤ b = low b has_b in
    let ha : a + 1 < length L = (let h : a < length ss = within a has_a in omega (arith, w.lists)) in
    let hb : b + 1 < length L = (let h : b < length ss = within b has_b in omega (arith, w.lists)) in
    let hb2 : b + 1 < length (freed L s a) = rw freed_length hb in
    let lo : 1 ≤ s = r.low in
    let hi : s < length ks = r.high in
    let row : 2 * s + 1 < length ws = omega (arith, w.slots, hi) in
    let row0 : 2 * s < length ws = omega arith in
    let row1 : 2 * s + 1 < length (set ws (2 * s) a) = rw length-set row in
    let ws2 : List ℕ = set (set ws (2 * s) a) (2 * s + 1) b in
    let at_a : get_or ws2 (2 * s) 0 ≡ a = get_or-set_other (set ws (2 * s) a) (2 * s + 1) (2 * s) b 0 (λ e. omega (arith, e)) ∙ get_or-set_same ws (2 * s) a 0 row0 in
    let at_b : get_or ws2 (2 * s + 1) 0 ≡ b = get_or-set_same (set ws (2 * s) a) (2 * s + 1) b 0 row1 in
    let clause_at : get_or (set cs s c) s [] ≡ c = get_or-set_same cs s c [] (omega (arith, w.clauses, hi)) in
    let kind_now : kind_at (set ks s Watched) s ≡ Watched = get_or-set_same ks s Watched Free hi in
    let in_a : times (2 * s) (get_or (hung L s a b) (a + 1) []) ≡ 1 + times (2 * s) (get_or L (a + 1) []) = elim (hung_at L s a b (a + 1) hb2) [
      | inl e ↦ absurd (differ (omega (arith, e.0)))
      | inr e ↦ elim (freed_at L s a (a + 1) ha two_a) [
        | inl f ↦ elim (same_or_not (2 * s) (2 * s)) [ inl y ↦ rw (e.1, f.1) (omega (arith, times_cons (2 * s) (2 * s) (get_or L (a + 1) []), y.1)) | inr y ↦ absurd (y.0 refl) ]
        | inr f ↦ absurd (f.0 refl)
      ]
    ] in
    let in_b : 0 < times (2 * s + 1) (get_or (hung L s a b) (b + 1) []) = elim (hung_at L s a b (b + 1) hb2) [
      | inl e ↦ elim (same_or_not (2 * s + 1) (2 * s + 1)) [ inl y ↦ rw e.1 (omega (arith, times_cons (2 * s + 1) (2 * s + 1) (get_or (freed L s a) (b + 1) []), y.1)) | inr y ↦ absurd (y.0 refl) ]
      | inr e ↦ absurd (e.0 refl)
    ] in
    let place_a : IsPlace ws2 (set ks s Watched) (length ss) (a + 1) (2 * s) = record {
      low = omega arith;
      high = rw length-set (omega arith);
      visited = λ e. absurd (omega (arith, e));
      listed = λ _. rw at_a refl;
      watched = λ _. (let e : 2 * s / 2 ≡ s = omega arith in rw e kind_now);
      free = λ e. absurd (omega (arith, e, two_a));
      first = λ e. absurd (omega (arith, e, two_a));
    } in
    let place_b : IsPlace ws2 (set ks s Watched) (length ss) (b + 1) (2 * s + 1) = record {
      low = omega arith;
      high = rw length-set (omega arith);
      visited = λ e. absurd (omega (arith, e));
      listed = λ _. rw at_b refl;
      watched = λ _. (let e : (2 * s + 1) / 2 ≡ s = omega arith in rw e kind_now);
      free = λ e. absurd (omega (arith, e, two_b));
      first = λ e. absurd (omega (arith, e, two_b));
    } in
    let old : (i k : ℕ) → k / 2 ≡ s → 0 < times k (get_or L i []) → (i ≡ 1) × (k ≡ 2 * s) = λ i k e h. free_place L ws ks cs ss es head (length ss) s i k w r.free e h in
    record {
      lists = hung_length L s a b;
      places = rw (length-set, length-set) refl;
      kinds = rw length-set refl;
      clauses = rw length-set refl;
      gone = λ i k ne h. omega (arith, h, hung_other L s a b i k ha hb two_a r.first lo ne);
      stay = λ i k ne h. omega (arith, h, hung_other L s a b i k ha hb two_a r.first lo ne);
      literal = λ k ne. get_or-set_other (set ws (2 * s) a) (2 * s + 1) k b 0 (λ e. ne (omega (arith, e))) ∙ get_or-set_other ws (2 * s) k a 0 (λ e. ne (omega (arith, e)));
      kind = λ q ne. get_or-set_other ks s q Watched Free ne;
      clause = λ q ne. get_or-set_other cs s q c [] ne;
      placed = λ i k e h. elim (hung_at L s a b i hb2) [
        | inl x ↦ elim (two_places k s e) [
          | inr y ↦ rw (x.0, y) place_b
          | inl y ↦ absurd (
              let h2 : 0 < times (2 * s) ((2 * s + 1) ∷ get_or (freed L s a) (b + 1) []) = rw (y, x.1) at h in
              elim (same_or_not (2 * s + 1) (2 * s)) [
                | inl z ↦ omega (arith, z.0)
                | inr z ↦ elim (freed_at L s a (b + 1) ha two_a) [
                  | inl f ↦ differ (omega (arith, f.0))
                  | inr f ↦ elim f.1 [
                    | inl g ↦ omega (arith, g.0, two_b)
                    | inr g ↦
                        let h3 : 0 < times (2 * s) (get_or L (b + 1) []) = rw (← g.1) (omega (arith, h2, times_cons (2 * s) (2 * s + 1) (get_or (freed L s a) (b + 1) []), z.1)) in
                        omega (arith, (old (b + 1) (2 * s) (omega arith) h3).0, two_b)
                  ]
                ]
              ])
        ]
        | inr x ↦ elim (freed_at L s a i ha two_a) [
          | inl f ↦ elim (two_places k s e) [
            | inl y ↦ rw (f.0, y) place_a
            | inr y ↦ absurd (
                let h2 : 0 < times (2 * s + 1) (2 * s ∷ get_or L (a + 1) []) = rw (y, x.1, f.1) at h in
                elim (same_or_not (2 * s) (2 * s + 1)) [
                  | inl z ↦ omega (arith, z.0)
                  | inr z ↦ omega (arith, (old (a + 1) (2 * s + 1) (omega arith) (omega (arith, h2, times_cons (2 * s + 1) (2 * s) (get_or L (a + 1) []), z.1))).0, two_a)
                ])
          ]
          | inr f ↦ elim f.1 [
            | inl g ↦ absurd (
                let h2 : 0 < times k (rest_of (get_or L 1 [])) = rw (x.1, g.1) at h in
                let t : times k (get_or L 1 []) ≡ bit (eqb (first_of (get_or L 1 [])) k) + times k (rest_of (get_or L 1 [])) = taken_apart (get_or L 1 []) k (omega (arith, r.first, lo)) in
                let o : (1 ≡ 1) × (k ≡ 2 * s) = old 1 k e (omega (arith, h2, t)) in
                elim (same_or_not (first_of (get_or L 1 [])) k) [
                  | inl z ↦ (let once : times k (get_or L 1 []) ≤ 1 = rw o.1 r.once in omega (arith, t, z.1, h2, once))
                  | inr z ↦ z.0 (r.first ∙ sym o.1)
                ])
            | inr g ↦ absurd (
                let h2 : 0 < times k (get_or L i []) = rw (x.1, g.1) at h in g.0 (old i k e h2).0)
          ]
        ]
      ];
      named = λ l h. low l (rw clause_at at h);
      within = λ l h. within l (rw clause_at at h);
      known = λ k e on. elim (two_places k s e) [
        | inl y ↦ rw (y, at_a) (omega (arith, in_a))
        | inr y ↦ rw (y, at_b) in_b
      ];
      inside = λ k e on. elim (two_places k s e) [
        | inl y ↦ rw (y, at_a, clause_at) has_a
        | inr y ↦ rw (y, at_b, clause_at) has_b
      ];
      differ = λ k e on. elim (two_places k s e) [
        | inl y ↦ rw (y, neg_even, at_a, at_b) (λ u. differ (sym u))
        | inr y ↦ rw (y, neg_odd, at_a, at_b) differ
      ];
      kept = λ k e on d. elim (two_places k s e) [
        | inl y ↦ rw (y, neg_even, at_a, at_b) (kept_a (rw (y, at_a) at d))
        | inr y ↦ rw (y, neg_odd, at_a, at_b) (kept_b (rw (y, at_b) at d))
      ];
    }

-- the free place is taken out of list 1: the clause is not watched
pub seated_change : (L : List (List ℕ)) (ws : List ℕ) (ks : List Kind) (cs : List (List ℕ)) (ss es : List ℕ) (head s : ℕ) (c : List ℕ) (kind : Kind) → kind ≢ Watched → IsWatched L ws ks cs ss es head (length ss) 0 → IsRoom L ws ks cs s → 1 < length L → ((l : ℕ) → Has c l → 2 ≤ l) → ((l : ℕ) → Has c l → l < length ss) →
    IsSlotChange L ws ks cs (set L 1 (rest_of (get_or L 1 []))) ws (set ks s kind) (set cs s c) ss es head s
seated_change L ws ks cs ss es head s c kind unwatched w r one low within =
    let lo : 1 ≤ s = r.low in
    let hi : s < length ks = r.high in
    let pos : 0 < first_of (get_or L 1 []) = omega (arith, r.first) in
    let clause_at : get_or (set cs s c) s [] ≡ c = get_or-set_same cs s c [] (omega (arith, w.clauses, hi)) in
    let kind_now : kind_at (set ks s kind) s ≡ kind = get_or-set_same ks s kind Free hi in
    let at_list : (i : ℕ) → ((i ≡ 1) × (get_or (set L 1 (rest_of (get_or L 1 []))) i [] ≡ rest_of (get_or L 1 []))) ⊎ ((i ≢ 1) × (get_or (set L 1 (rest_of (get_or L 1 []))) i [] ≡ get_or L i [])) = λ i. elim (eqb_tells i 1) [
      | inl e ↦ inl (e.1, rw e.1 (get_or-set_same L 1 (rest_of (get_or L 1 [])) [] one))
      | inr e ↦ inr (e.1, get_or-set_other L 1 i (rest_of (get_or L 1 [])) [] e.1)
    ] in
    let counts : (k : ℕ) → times k (get_or L 1 []) ≡ bit (eqb (first_of (get_or L 1 [])) k) + times k (rest_of (get_or L 1 [])) = λ k. taken_apart (get_or L 1 []) k pos in
    let same : (i k : ℕ) → k ≢ 2 * s → times k (get_or (set L 1 (rest_of (get_or L 1 []))) i []) ≡ times k (get_or L i []) = λ i k ne. elim (at_list i) [
      | inr e ↦ rw e.1 refl
      | inl e ↦ elim (same_or_not (first_of (get_or L 1 [])) k) [
        | inl y ↦ absurd (ne (sym y.0 ∙ r.first))
        | inr y ↦ rw (e.1, e.0) (omega (arith, counts k, y.1))
      ]
    ] in
    record {
      lists = rw length-set refl;
      places = refl;
      kinds = rw length-set refl;
      clauses = rw length-set refl;
      gone = λ i k ne h. omega (arith, h, same i k (λ e. ne (omega (arith, e))));
      stay = λ i k ne h. omega (arith, h, same i k (λ e. ne (omega (arith, e))));
      literal = λ k ne. refl;
      kind = λ q ne. get_or-set_other ks s q kind Free ne;
      clause = λ q ne. get_or-set_other cs s q c [] ne;
      placed = λ i k e h. absurd (elim (at_list i) [
        | inl x ↦
            let h2 : 0 < times k (rest_of (get_or L 1 [])) = rw x.1 at h in
            let o : (1 ≡ 1) × (k ≡ 2 * s) = free_place L ws ks cs ss es head (length ss) s 1 k w r.free e (omega (arith, h2, counts k)) in
            elim (same_or_not (first_of (get_or L 1 [])) k) [
              | inl z ↦ (let once : times k (get_or L 1 []) ≤ 1 = rw o.1 r.once in omega (arith, counts k, z.1, h2, once))
              | inr z ↦ z.0 (r.first ∙ sym o.1)
            ]
        | inr x ↦ x.0 (free_place L ws ks cs ss es head (length ss) s i k w r.free e (rw x.1 at h)).0
      ]);
      named = λ l h. low l (rw clause_at at h);
      within = λ l h. within l (rw clause_at at h);
      known = λ k e on. absurd (unwatched (sym kind_now ∙ rw e at on.kind));
      inside = λ k e on. absurd (unwatched (sym kind_now ∙ rw e at on.kind));
      differ = λ k e on. absurd (unwatched (sym kind_now ∙ rw e at on.kind));
      kept = λ k e on. absurd (unwatched (sym kind_now ∙ rw e at on.kind));
    }

-- the slot becomes free: its first place alone stands in a list, and that in front of list 1
pub freed_change : (L : List (List ℕ)) (ws : List ℕ) (ks : List Kind) (cs : List (List ℕ)) (L2 : List (List ℕ)) (ks2 : List Kind) (cs2 : List (List ℕ)) (ss es : List ℕ) (head s : ℕ) → 1 ≤ s → s < length ks → 2 * s < length ws → length L2 ≡ length L → length ks2 ≡ length ks → length cs2 ≡ length cs →
    ((i k : ℕ) → k / 2 ≢ s → times k (get_or L2 i []) ≡ times k (get_or L i [])) → ((i k : ℕ) → k / 2 ≡ s → 0 < times k (get_or L2 i []) → (i ≡ 1) × (k ≡ 2 * s)) → kind_at ks2 s ≡ Free → ((q : ℕ) → q ≢ s → kind_at ks2 q ≡ kind_at ks q) → ((q : ℕ) → q ≢ s → get_or cs2 q [] ≡ get_or cs q []) →
    ((l : ℕ) → Has (get_or cs2 s []) l → 2 ≤ l) → ((l : ℕ) → Has (get_or cs2 s []) l → l < length ss) → IsSlotChange L ws ks cs L2 (set ws (2 * s) 0) ks2 cs2 ss es head s
freed_change L ws ks cs L2 ks2 cs2 ss es head s lo hi row lists kinds clauses other own free kind clause named within =
    let at_s : get_or (set ws (2 * s) 0) (2 * s) 0 ≡ 0 = get_or-set_same ws (2 * s) 0 0 row in
    record {
      lists = lists;
      places = rw length-set refl;
      kinds = kinds;
      clauses = clauses;
      gone = λ i k ne h. omega (arith, h, other i k ne);
      stay = λ i k ne h. omega (arith, h, other i k ne);
      literal = λ k ne. get_or-set_other ws (2 * s) k 0 0 (λ e. ne (omega (arith, e)));
      kind = kind;
      clause = clause;
      placed = λ i k e h.
          let o : (i ≡ 1) × (k ≡ 2 * s) = own i k e h in
          rw (o.0, o.1) (record {
            low = omega arith;
            high = rw kinds (omega arith);
            visited = λ u. absurd (omega (arith, u));
            listed = λ _. rw at_s refl;
            watched = λ u. absurd (u refl);
            free = λ _. (let h2 : 2 * s / 2 ≡ s = omega arith in rw h2 free);
            first = λ _. omega arith;
          });
      named = named;
      within = within;
      known = λ k e on. absurd (watched_not_free (sym (rw e at on.kind) ∙ free));
      inside = λ k e on. absurd (watched_not_free (sym (rw e at on.kind) ∙ free));
      differ = λ k e on. absurd (watched_not_free (sym (rw e at on.kind) ∙ free));
      kept = λ k e on. absurd (watched_not_free (sym (rw e at on.kind) ∙ free));
    }
