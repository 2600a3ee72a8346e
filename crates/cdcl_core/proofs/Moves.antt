-- What a move and an exchange leave of the linked lists.
use Rattle.std.proofs.Common.{ℕ, ◌≡◌, ◌≢◌, ◌+◌, ◌-◌, ◌<◌, ◌≤◌, ◌++◌, zero, suc, List, [], ◌∷◌, length, replicate, cond, eqb, refl, sym, ◌∙◌, ap, subst, inl, inr, arith}
use Rattle.std.proofs.Math.ListN.{get_or, set, length-set}
use Rattle.std.specs.List.{sum_by}
use Rattle.std.proofs.lemmas.List.{get_or-set_other, get_or-set_same, get_or-map, length-map, ext_get_or, get_or_default, length-append, length-replicate, get_or_append_left, get_or-append_right, get_or-replicate, get_or_past}
use Rattle.std.proofs.lemmas.List.Sums.{sum_by-set, get_or-le-sum_by, sum_by-append}
use Rattle.std.proofs.lemmas.Bool.{eq-eqb, cases_lt, cond-true, cond-false}
use Rattle.std.proofs.lemmas.Bool.Decides.{eqb_tells}
use Rattle.cdcl_core.specs.Chains.{follow, IsChain, lists_of, times, IsLinked, first_of, rest_of}
use Rattle.cdcl_core.proofs.Counting.{times_nil, times_cons}

zero_test : (h : ℕ) (xs ys : List ℕ) → h ≡ 0 → cond (eqb h 0) xs ys ≡ xs
zero_test h xs ys e = rw (eq-eqb h 0 e) refl

above_test : (h : ℕ) (xs ys : List ℕ) → 0 < h → cond (eqb h 0) xs ys ≡ ys
above_test h xs ys e = elim (eqb_tells h 0) [ inl p ↦ absurd (omega (arith, p.1)) | inr p ↦ rw p.0 refl ]

-- a chain is what its start leads to
pub follow_chain : (ns : List ℕ) (h n : ℕ) (xs : List ℕ) → IsChain ns h xs → length xs ≤ n → follow ns n h ≡ xs
unfolding follow IsChain
follow_chain ns h zero [] c le = refl
follow_chain ns h (suc n) [] c le = zero_test h _ _ c
follow_chain ns h zero (x ∷ xs) c le = absurd (omega arith)
follow_chain ns h (suc n) (x ∷ xs) c le =
    let pos : 0 < h = rw c.0 c.1.0 in
    let rest : follow ns n (get_or ns h 0) ≡ xs = follow_chain ns (get_or ns h 0) n xs (rw c.0 c.1.1.1) (omega arith) in
    above_test h _ _ pos ∙ (rw (rest, c.0) refl)

pub first_of_chain : (ns : List ℕ) (h : ℕ) (xs : List ℕ) → IsChain ns h xs → first_of xs ≡ h
unfolding IsChain
first_of_chain ns h [] c = sym c
first_of_chain ns h (x ∷ xs) c = sym c.0

times_other : (k x : ℕ) (xs : List ℕ) → times k (x ∷ xs) ≡ 0 → (x ≢ k) × (times k xs ≡ 0)
unfolding times
times_other k x xs e = elim (eqb_tells x k) [ inl p ↦ absurd (omega (arith, cond-true {A = ℕ} (eqb x k) 1 0 p.0)) | inr p ↦ (p.1, omega (arith, cond-false {A = ℕ} (eqb x k) 1 0 p.0)) ]

times_first : (k : ℕ) (xs : List ℕ) → times k (k ∷ xs) ≡ 1 + times k xs
unfolding times
times_first k xs = omega (arith, cond-true {A = ℕ} (eqb k k) 1 0 (eq-eqb k k refl))

times_more : (k x : ℕ) (xs : List ℕ) → times k xs ≤ times k (x ∷ xs)
unfolding times
times_more k x xs = omega arith

-- a write at a place that the chain does not have leaves it
pub chain_frame : (ns : List ℕ) (h : ℕ) (xs : List ℕ) (k v : ℕ) → IsChain ns h xs → times k xs ≡ 0 → IsChain (set ns k v) h xs
unfolding IsChain
chain_frame ns h [] k v c t = c
chain_frame ns h (x ∷ xs) k v c t =
    let o : (x ≢ k) × (times k xs ≡ 0) = times_other k x xs t in
    let same : get_or (set ns k v) x 0 ≡ get_or ns x 0 = get_or-set_other ns k x v 0 o.0 in
    (c.0, (c.1.0, (rw length-set c.1.1.0, rw same (chain_frame ns (get_or ns x 0) xs k v c.1.1.1 o.1))))

-- the values of f at two different places are within the sum
pub two_of_sum : (f : List ℕ → ℕ) (L : List (List ℕ)) (i m : ℕ) → f [] ≡ 0 → i < length L → m < length L → m ≢ i → f (get_or L i []) + f (get_or L m []) ≤ sum_by f L
two_of_sum f L i m z hi hm ne =
    let e : sum_by f (set L i []) + f (get_or L i []) ≡ sum_by f L + f [] = sum_by-set f L i [] [] hi in
    let lt : m < length (set L i []) = rw length-set hm in
    let g : f (get_or (set L i []) m []) ≤ sum_by f (set L i []) = get_or-le-sum_by f (set L i []) m [] lt in
    let same : get_or (set L i []) m [] ≡ get_or L m [] = get_or-set_other L i m [] [] ne in
    let g2 : f (get_or L m []) ≤ sum_by f (set L i []) = rw same at g in
    omega (arith, e, g2, z)

-- how many elements of a list are below n
counted : ℕ → List ℕ → ℕ
counted zero xs = 0
counted (suc n) xs = times n xs + counted n xs

counted_nil : (n : ℕ) → counted n [] ≡ 0
unfolding counted times
counted_nil zero = refl
counted_nil (suc n) = omega (arith, counted_nil n)

counted_past : (n x : ℕ) (xs : List ℕ) → n ≤ x → counted n (x ∷ xs) ≡ counted n xs
unfolding counted times
counted_past zero x xs h = refl
counted_past (suc n) x xs h =
    elim (eqb_tells x n) [
      | inl p ↦ absurd (omega (arith, p.1, h))
      | inr p ↦ omega (arith, cond-false {A = ℕ} (eqb x n) 1 0 p.0, counted_past n x xs (omega arith))
    ]

counted_below : (n x : ℕ) (xs : List ℕ) → x < n → counted n (x ∷ xs) ≡ counted n xs + 1
unfolding counted times
counted_below zero x xs h = absurd (omega arith)
counted_below (suc n) x xs h =
    elim (eqb_tells x n) [
      | inl p ↦ omega (arith, cond-true {A = ℕ} (eqb x n) 1 0 p.0, counted_past n x xs (omega (arith, p.1)))
      | inr p ↦ omega (arith, cond-false {A = ℕ} (eqb x n) 1 0 p.0, counted_below n x xs (omega (arith, p.1, h)))
    ]

counted_once : (n : ℕ) (xs : List ℕ) → ((k : ℕ) → times k xs ≤ 1) → counted n xs ≤ n
unfolding counted
counted_once zero xs h = omega arith
counted_once (suc n) xs h = omega (arith, h n, counted_once n xs h)

counted_chain : (ns : List ℕ) (h : ℕ) (xs : List ℕ) → IsChain ns h xs → counted (length ns) xs ≡ length xs
unfolding IsChain
counted_chain ns h [] c = counted_nil (length ns)
counted_chain ns h (x ∷ xs) c = omega (arith, counted_below (length ns) x xs c.1.1.0, counted_chain ns (get_or ns x 0) xs c.1.1.1)

-- lists that the tables lead through, with no place twice, are those that they show
pub linked_from_chains : (ns rs : List ℕ) (T : List (List ℕ)) → length T ≡ length rs → ((m : ℕ) → m < length rs → IsChain ns (get_or rs m 0) (get_or T m [])) → ((k : ℕ) → sum_by (times k) T ≤ 1) → (lists_of ns rs ≡ T) × IsLinked ns rs
linked_from_chains ns rs T len chains once =
    let short : (m : ℕ) → m < length rs → length (get_or T m []) ≤ length ns = λ m h.
    omega (
      arith,
      counted_chain ns (get_or rs m 0) (get_or T m []) (chains m h),
      counted_once (length ns) (get_or T m []) (λ k. let b : times k (get_or T m []) ≤ sum_by (times k) T = get_or-le-sum_by (times k) T m [] (rw len h) in omega (arith, b, once k)),
    ) in
    let each : (m : ℕ) → m < length rs → follow ns (length ns) (get_or rs m 0) ≡ get_or T m [] =
    λ m h. follow_chain ns (get_or rs m 0) (length ns) (get_or T m []) (chains m h) (short m h) in
    let whole : lists_of ns rs ≡ T =
    ext_get_or [] (lists_of ns rs) T (rw length-map (sym len)) (λ m h. let h2 : m < length rs = rw length-map at h in rw (get_or-map (follow ns (length ns)) rs m 0 [] h2) (each m h2)) in (
      whole,
      record {
        ends = λ i h. rw (each i h) (chains i h);
        once = λ k. rw whole (once k);
      },
    )

list_at : (ns rs : List ℕ) (i : ℕ) → i < length rs → get_or (lists_of ns rs) i [] ≡ follow ns (length ns) (get_or rs i 0)
list_at ns rs i h = get_or-map (follow ns (length ns)) rs i 0 [] h

pub first_root : (ns rs : List ℕ) (i : ℕ) → IsLinked ns rs → i < length rs → get_or rs i 0 ≡ first_of (get_or (lists_of ns rs) i [])
first_root ns rs i l h = rw (list_at ns rs i h) (sym (first_of_chain ns (get_or rs i 0) (follow ns (length ns) (get_or rs i 0)) (l.ends i h)))

-- a list with a first place
pub split : (ns : List ℕ) (h : ℕ) (xs : List ℕ) → IsChain ns h xs → 0 < first_of xs → (xs ≡ h ∷ rest_of xs) × ((h < length ns) × IsChain ns (get_or ns h 0) (rest_of xs))
unfolding IsChain
split ns h [] c p = absurd (omega arith)
split ns h (x ∷ xs) c p = (rw c.0 refl, (rw c.0 c.1.1.0, rw c.0 c.1.1.1))

-- the sum over the lists after a move
pub sum_moved : (f : List ℕ → ℕ) (L : List (List ℕ)) (i j c : ℕ) (R Z : List ℕ) → i < length L → j < length L → j ≢ i → f (get_or L i []) ≡ c + f R → f Z ≡ c + f (get_or L j []) → sum_by f (set (set L i R) j Z) ≡ sum_by f L
sum_moved f L i j c R Z hi hj ne e1 e2 =
    let a : sum_by f (set L i R) + f (get_or L i []) ≡ sum_by f L + f R = sum_by-set f L i R [] hi in
    let same : get_or (set L i R) j [] ≡ get_or L j [] = get_or-set_other L i j R [] ne in
    let hj2 : j < length (set L i R) = rw length-set hj in
    let b : sum_by f (set (set L i R) j Z) + f (get_or (set L i R) j []) ≡ sum_by f (set L i R) + f Z = sum_by-set f (set L i R) j Z [] hj2 in
    let b2 : sum_by f (set (set L i R) j Z) + f (get_or L j []) ≡ sum_by f (set L i R) + f Z = rw same at b in
    omega (arith, a, b2, e1, e2)

pub chain_cons : (ns : List ℕ) (k h : ℕ) (xs : List ℕ) → 0 < k → k < length ns → get_or ns k 0 ≡ h → IsChain ns h xs → IsChain ns k (k ∷ xs)
unfolding IsChain
chain_cons ns k h xs p l e c = (refl, (p, (l, rw e c)))

chain_pos : (ns : List ℕ) (h : ℕ) (xs : List ℕ) → IsChain ns h xs → 0 < first_of xs → 0 < h
unfolding IsChain
chain_pos ns h [] c p = absurd (omega arith)
chain_pos ns h (x ∷ xs) c p = rw c.0 c.1.0

length-set2 : {X : Type 0} → (xs : List X) (i j : ℕ) (x y : X) → length (set (set xs i x) j y) ≡ length xs
length-set2 xs i j x y = rw (length-set, length-set) refl

-- what is needed of the tables for a move, with k the place that moves
pub record Moving (ns : List ℕ) (L : List (List ℕ)) (i k : ℕ) : Type 0 where
  pub pos : 0 < k
  pub within : k < length ns
  pub whole : get_or L i [] ≡ k ∷ rest_of (get_or L i [])
  pub rest : IsChain ns (get_or ns k 0) (rest_of (get_or L i []))
  pub alone : times k (rest_of (get_or L i [])) ≡ 0
  pub others : (m : ℕ) → m < length L → m ≢ i → times k (get_or L m []) ≡ 0

pub chain_at : (ns rs : List ℕ) (i : ℕ) → IsLinked ns rs → i < length rs → IsChain ns (get_or rs i 0) (get_or (lists_of ns rs) i [])
chain_at ns rs i l h = rw (list_at ns rs i h) (l.ends i h)

pub moving : (ns rs : List ℕ) (i : ℕ) → IsLinked ns rs → i < length rs → 0 < first_of (get_or (lists_of ns rs) i []) → Moving ns (lists_of ns rs) i (get_or rs i 0)
moving ns rs i l hi pos =
    let L : List (List ℕ) = lists_of ns rs in
    let k : ℕ = get_or rs i 0 in
    let c : IsChain ns k (get_or L i []) = chain_at ns rs i l hi in
    let s : (get_or L i [] ≡ k ∷ rest_of (get_or L i [])) × ((k < length ns) × IsChain ns (get_or ns k 0) (rest_of (get_or L i []))) = split ns k (get_or L i []) c pos in
    let hl : i < length L = rw length-map hi in
    let one : sum_by (times k) L ≤ 1 = l.once k in
    let mine : times k (get_or L i []) ≡ 1 + times k (rest_of (get_or L i [])) = ap (times k) s.0 ∙ times_first k (rest_of (get_or L i [])) in
    let within : times k (get_or L i []) ≤ sum_by (times k) L = get_or-le-sum_by (times k) L i [] hl in
    record {
      pos = chain_pos ns k (get_or L i []) c pos;
      within = s.1.0;
      whole = s.0;
      rest = s.1.1;
      alone = omega (arith, mine, within, one);
      others = λ m hm ne. omega (arith, mine, one, two_of_sum (times k) L i m (times_nil k) hl hm ne);
    }

chains_moved : (ns rs : List ℕ) (L : List (List ℕ)) (i j k : ℕ) → Moving ns L i k → IsChain ns (get_or rs j 0) (get_or L j []) → ((q : ℕ) → q < length rs → IsChain ns (get_or rs q 0) (get_or L q [])) → length L ≡ length rs → i < length rs → j < length rs → j ≢ i → (q : ℕ) → q < length rs →
    IsChain (set ns k (get_or rs j 0)) (get_or (set (set rs i (get_or ns k 0)) j k) q 0) (get_or (set (set L i (rest_of (get_or L i []))) j (k ∷ get_or L j [])) q [])
chains_moved ns rs L i j k m cj each len hi hj ne q hq =
    let R : List ℕ = rest_of (get_or L i []) in
    let a : ℕ = get_or ns k 0 in
    let hlj : j < length (set L i R) = rw (length-set, len) hj in
    let hrj : j < length (set rs i a) = rw length-set hj in
    let hli : i < length L = rw len hi in
    elim (eqb_tells q j) [
      | inl p ↦
          let here : get_or (set ns k (get_or rs j 0)) k 0 ≡ get_or rs j 0 = get_or-set_same ns k (get_or rs j 0) 0 m.within in
          let frame : IsChain (set ns k (get_or rs j 0)) (get_or rs j 0) (get_or L j []) = chain_frame ns (get_or rs j 0) (get_or L j []) k (get_or rs j 0) cj (m.others j (rw len hj) ne) in
          rw (p.1, get_or-set_same (set rs i a) j k 0 hrj, get_or-set_same (set L i R) j (k ∷ get_or L j []) [] hlj)
          (chain_cons (set ns k (get_or rs j 0)) k (get_or rs j 0) (get_or L j []) m.pos (rw length-set m.within) here frame)
      | inr p ↦ rw (get_or-set_other (set rs i a) j q k 0 p.1, get_or-set_other (set L i R) j q (k ∷ get_or L j []) [] p.1)
          (elim (eqb_tells q i) [
            | inl w ↦ rw (w.1, get_or-set_same rs i a 0 hi, get_or-set_same L i R [] hli) (chain_frame ns a R k (get_or rs j 0) m.rest m.alone)
            | inr w ↦ rw (get_or-set_other rs i q a 0 w.1, get_or-set_other L i q R [] w.1)
                (chain_frame ns (get_or rs q 0) (get_or L q []) k (get_or rs j 0) (each q hq) (m.others q (rw len hq) w.1))
          ])
    ]

-- a move of the first place of list i to the front of list j
pub moved : (ns rs : List ℕ) (i j : ℕ) → IsLinked ns rs → i < length rs → j < length rs → i ≢ j → 0 < first_of (get_or (lists_of ns rs) i []) →
    (lists_of (set ns (get_or rs i 0) (get_or rs j 0)) (set (set rs i (get_or ns (get_or rs i 0) 0)) j (get_or rs i 0))
    ≡ set (set (lists_of ns rs) i (rest_of (get_or (lists_of ns rs) i []))) j (first_of (get_or (lists_of ns rs) i []) ∷ get_or (lists_of ns rs) j []))
    × IsLinked (set ns (get_or rs i 0) (get_or rs j 0)) (set (set rs i (get_or ns (get_or rs i 0) 0)) j (get_or rs i 0))
moved ns rs i j l hi hj ne pos =
    let L : List (List ℕ) = lists_of ns rs in
    let k : ℕ = get_or rs i 0 in
    let m : Moving ns L i k = moving ns rs i l hi pos in
    let R : List ℕ = rest_of (get_or L i []) in
    let Y : List ℕ = get_or L j [] in
    let first : first_of (get_or L i []) ≡ k = sym (first_root ns rs i l hi) in
    let nf : j ≢ i = λ e. ne (sym e) in
    let hli : i < length L = rw length-map hi in
    let hlj : j < length L = rw length-map hj in
    let to : ℕ = get_or rs j 0 in
    let ns2 : List ℕ = set ns k to in
    let rs2 : List ℕ = set (set rs i (get_or ns k 0)) j k in
    let T : List (List ℕ) = set (set L i R) j (k ∷ Y) in
    let result : (lists_of ns2 rs2 ≡ T) × IsLinked ns2 rs2 =
    linked_from_chains ns2 rs2 T (rw (length-set, length-set, length-set, length-set, length-map) refl)
    (λ q hq. chains_moved ns rs L i j k m (chain_at ns rs j l hj) (λ q hq. chain_at ns rs q l hq) (rw length-map refl) hi hj nf q (rw (length-set, length-set) at hq))
    (λ q. rw (sum_moved (times q) L i j (cond (eqb k q) 1 0) R (k ∷ Y) hli hlj nf (ap (times q) m.whole ∙ times_cons q k R) (times_cons q k Y)) (l.once q)) in
    rw first result

-- the same, as the code reads it
pub moved_by : (ns rs : List ℕ) (V : List (List ℕ)) (i j p a t : ℕ) → lists_of ns rs ≡ V → IsLinked ns rs → i < length V → j < length V → i ≢ j → 0 < first_of (get_or V i []) → p ≡ get_or rs i p → (p < length ns → a ≡ get_or ns p a) → t ≡ get_or rs j t →
    ((lists_of (set ns p t) (set (set rs i a) j p) ≡ set (set V i (rest_of (get_or V i []))) j (first_of (get_or V i []) ∷ get_or V j [])) × IsLinked (set ns p t) (set (set rs i a) j p))
    × (p < length ns)
moved_by ns rs V i j p a t e l hi hj ne pos ep ea et =
    let len : length V ≡ length rs = rw (← e, length-map) refl in
    let hir : i < length rs = rw len at hi in
    let hjr : j < length rs = rw len at hj in
    let ep2 : p ≡ get_or rs i 0 = ep ∙ get_or_default rs i p 0 hir in
    let et2 : t ≡ get_or rs j 0 = et ∙ get_or_default rs j t 0 hjr in
    let pos2 : 0 < first_of (get_or (lists_of ns rs) i []) = rw e pos in
    let m : Moving ns (lists_of ns rs) i (get_or rs i 0) = moving ns rs i l hir pos2 in
    let hp : p < length ns = rw ep2 m.within in
    let ea2 : a ≡ get_or ns (get_or rs i 0) 0 = ea hp ∙ (get_or_default ns p a 0 hp ∙ ap (λ x. get_or ns x 0) ep2) in
    let r : (lists_of (set ns (get_or rs i 0) (get_or rs j 0)) (set (set rs i (get_or ns (get_or rs i 0) 0)) j (get_or rs i 0))
    ≡ set (set (lists_of ns rs) i (rest_of (get_or (lists_of ns rs) i []))) j (first_of (get_or (lists_of ns rs) i []) ∷ get_or (lists_of ns rs) j []))
    × IsLinked (set ns (get_or rs i 0) (get_or rs j 0)) (set (set rs i (get_or ns (get_or rs i 0) 0)) j (get_or rs i 0)) = moved ns rs i j l hir hjr ne pos2 in
    let W : ℕ → ℕ → ℕ → Type 0 = λ p a t. (lists_of (set ns p t) (set (set rs i a) j p) ≡ set (set (lists_of ns rs) i (rest_of (get_or (lists_of ns rs) i []))) j (first_of (get_or (lists_of ns rs) i []) ∷ get_or (lists_of ns rs) j [])) × IsLinked (set ns p t) (set (set rs i a) j p) in
    let r2 : W p (get_or ns (get_or rs i 0) 0) (get_or rs j 0) = subst (λ (x : ℕ). W x (get_or ns (get_or rs i 0) 0) (get_or rs j 0)) (sym ep2) r in
    let r3 : W p a (get_or rs j 0) = subst (λ (x : ℕ). W p x (get_or rs j 0)) (sym ea2) r2 in
    let r4 : W p a t = subst (λ (x : ℕ). W p a x) (sym et2) r3 in
    (subst (λ (U : List (List ℕ)). (lists_of (set ns p t) (set (set rs i a) j p) ≡ set (set U i (rest_of (get_or U i []))) j (first_of (get_or U i []) ∷ get_or U j [])) × IsLinked (set ns p t) (set (set rs i a) j p)) e r4, hp)

pub first_by : (ns rs : List ℕ) (V : List (List ℕ)) (i p : ℕ) → lists_of ns rs ≡ V → IsLinked ns rs → i < length V → p ≡ get_or rs i p → p ≡ first_of (get_or V i [])
first_by ns rs V i p e l hi ep =
    let len : length V ≡ length rs = rw (← e, length-map) refl in
    let hir : i < length rs = rw len at hi in
    ep ∙ (get_or_default rs i p 0 hir ∙ (first_root ns rs i l hir ∙ ap (λ U. first_of (get_or U i [])) e))

-- an element that was written from another place
copied : {X : Type 0} → (L : List X) (i j : ℕ) (d : X) → i < length L → get_or (set L i (get_or L j d)) j d ≡ get_or L j d
copied L i j d hi = elim (eqb_tells j i) [ inl p ↦ rw (p.1, get_or-set_same L i (get_or L i d) d hi) refl | inr p ↦ get_or-set_other L i j (get_or L j d) d p.1 ]

sum_exchanged : (f : List ℕ → ℕ) (L : List (List ℕ)) (i j : ℕ) → i < length L → j < length L → sum_by f (set (set L i (get_or L j [])) j (get_or L i [])) ≡ sum_by f L
sum_exchanged f L i j hi hj =
    let Y : List ℕ = get_or L j [] in
    let a : sum_by f (set L i Y) + f (get_or L i []) ≡ sum_by f L + f Y = sum_by-set f L i Y [] hi in
    let hj2 : j < length (set L i Y) = rw length-set hj in
    let b : sum_by f (set (set L i Y) j (get_or L i [])) + f (get_or (set L i Y) j []) ≡ sum_by f (set L i Y) + f (get_or L i []) = sum_by-set f (set L i Y) j (get_or L i []) [] hj2 in
    let b2 : sum_by f (set (set L i Y) j (get_or L i [])) + f Y ≡ sum_by f (set L i Y) + f (get_or L i []) = rw (copied L i j [] hi) at b in
    omega (arith, a, b2)

pub exchanged : (ns rs : List ℕ) (i j : ℕ) → IsLinked ns rs → i < length rs → j < length rs →
    (lists_of ns (set (set rs i (get_or rs j 0)) j (get_or rs i 0)) ≡ set (set (lists_of ns rs) i (get_or (lists_of ns rs) j [])) j (get_or (lists_of ns rs) i []))
    × IsLinked ns (set (set rs i (get_or rs j 0)) j (get_or rs i 0))
exchanged ns rs i j l hi hj =
    let L : List (List ℕ) = lists_of ns rs in
    let hli : i < length L = rw length-map hi in
    let hlj : j < length L = rw length-map hj in
    linked_from_chains ns (set (set rs i (get_or rs j 0)) j (get_or rs i 0)) (set (set L i (get_or L j [])) j (get_or L i []))
    (length-set2 L i j (get_or L j []) (get_or L i []) ∙ (length-map rs (follow ns (length ns)) ∙ sym (length-set2 rs i j (get_or rs j 0) (get_or rs i 0))))
    (λ q hq. let hq2 : q < length rs = rw (length-set2 rs i j (get_or rs j 0) (get_or rs i 0)) at hq in
    elim (eqb_tells q j) [
      | inl p ↦ rw (p.1, get_or-set_same (set rs i (get_or rs j 0)) j (get_or rs i 0) 0 (rw length-set hj), get_or-set_same (set L i (get_or L j [])) j (get_or L i []) [] (rw length-set hlj)) (chain_at ns rs i l hi)
      | inr p ↦ rw (get_or-set_other (set rs i (get_or rs j 0)) j q (get_or rs i 0) 0 p.1, get_or-set_other (set L i (get_or L j [])) j q (get_or L i []) [] p.1)
          (elim (eqb_tells q i) [
            | inl w ↦ rw (w.1, get_or-set_same rs i (get_or rs j 0) 0 hi, get_or-set_same L i (get_or L j []) [] hli) (chain_at ns rs j l hj)
            | inr w ↦ rw (get_or-set_other rs i q (get_or rs j 0) 0 w.1, get_or-set_other L i q (get_or L j []) [] w.1) (chain_at ns rs q l hq2)
          ])
    ])
    (λ q. rw (sum_exchanged (times q) L i j hli hlj) (l.once q))

pub exchanged_by : (ns rs : List ℕ) (V : List (List ℕ)) (i j a b : ℕ) → lists_of ns rs ≡ V → IsLinked ns rs → i < length V → j < length V → a ≡ get_or rs i a → b ≡ get_or rs j b →
    (lists_of ns (set (set rs i b) j a) ≡ set (set V i (get_or V j [])) j (get_or V i [])) × IsLinked ns (set (set rs i b) j a)
exchanged_by ns rs V i j a b e l hi hj ea eb =
    let len : length V ≡ length rs = rw (← e, length-map) refl in
    let hir : i < length rs = rw len at hi in
    let hjr : j < length rs = rw len at hj in
    let ea2 : a ≡ get_or rs i 0 = ea ∙ get_or_default rs i a 0 hir in
    let eb2 : b ≡ get_or rs j 0 = eb ∙ get_or_default rs j b 0 hjr in
    let W : ℕ → ℕ → List (List ℕ) → Type 0 = λ a b U. (lists_of ns (set (set rs i b) j a) ≡ set (set U i (get_or U j [])) j (get_or U i [])) × IsLinked ns (set (set rs i b) j a) in
    let r : W (get_or rs i 0) (get_or rs j 0) (lists_of ns rs) = exchanged ns rs i j l hir hjr in
    let r2 : W a (get_or rs j 0) (lists_of ns rs) = subst (λ (x : ℕ). W x (get_or rs j 0) (lists_of ns rs)) (sym ea2) r in
    let r3 : W a b (lists_of ns rs) = subst (λ (x : ℕ). W a x (lists_of ns rs)) (sym eb2) r2 in
    subst (λ (U : List (List ℕ)). W a b U) e r3

pub place_within : (ns rs : List ℕ) (V : List (List ℕ)) (i p : ℕ) → lists_of ns rs ≡ V → IsLinked ns rs → i < length V → 0 < first_of (get_or V i []) → p ≡ get_or rs i p → p < length ns
place_within ns rs V i p e l hi pos ep =
    let len : length V ≡ length rs = rw (← e, length-map) refl in
    let hir : i < length rs = rw len at hi in
    let ep2 : p ≡ get_or rs i 0 = ep ∙ get_or_default rs i p 0 hir in
    let m : Moving ns (lists_of ns rs) i (get_or rs i 0) = moving ns rs i l hir (rw e pos) in
    rw ep2 m.within

-- a longer table leads through the same places
pub chain_longer : (ns ms : List ℕ) (h : ℕ) (xs : List ℕ) → IsChain ns h xs → IsChain (ns ++ ms) h xs
unfolding IsChain
chain_longer ns ms h [] c = c
chain_longer ns ms h (x ∷ xs) c =
    let longer : x < length (ns ++ ms) = (let b : x < length ns = c.1.1.0 in rw length-append (omega arith)) in
    (c.0, (c.1.0, (longer, rw (get_or_append_left ns ms 0 x c.1.1.0) (chain_longer ns ms (get_or ns x 0) xs c.1.1.1))))

-- the first place of list i is taken out
pub popped : (ns rs : List ℕ) (i : ℕ) → IsLinked ns rs → i < length rs → 0 < first_of (get_or (lists_of ns rs) i []) →
    (lists_of ns (set rs i (get_or ns (get_or rs i 0) 0)) ≡ set (lists_of ns rs) i (rest_of (get_or (lists_of ns rs) i []))) × IsLinked ns (set rs i (get_or ns (get_or rs i 0) 0))
popped ns rs i l hi pos =
    let L : List (List ℕ) = lists_of ns rs in
    let k : ℕ = get_or rs i 0 in
    let m : Moving ns L i k = moving ns rs i l hi pos in
    let R : List ℕ = rest_of (get_or L i []) in
    let hli : i < length L = rw length-map hi in
    linked_from_chains ns (set rs i (get_or ns k 0)) (set L i R) (rw (length-set, length-set, length-map) refl)
    (λ q hq. let hq2 : q < length rs = rw length-set at hq in elim (eqb_tells q i) [
      | inl p ↦ rw (p.1, get_or-set_same rs i (get_or ns k 0) 0 hi, get_or-set_same L i R [] hli) m.rest
      | inr p ↦ rw (get_or-set_other rs i q (get_or ns k 0) 0 p.1, get_or-set_other L i q R [] p.1) (chain_at ns rs q l hq2)
    ])
    (λ q. let a : sum_by (times q) (set L i R) + times q (get_or L i []) ≡ sum_by (times q) L + times q R = sum_by-set (times q) L i R [] hli in
    let b : times q (get_or L i []) ≡ cond (eqb k q) 1 0 + times q R = ap (times q) m.whole ∙ times_cons q k R in
    omega (arith, a, b, l.once q))

-- list i is emptied
pub emptied : (ns rs : List ℕ) (i : ℕ) → IsLinked ns rs → i < length rs → (lists_of ns (set rs i 0) ≡ set (lists_of ns rs) i []) × IsLinked ns (set rs i 0)
unfolding IsChain
emptied ns rs i l hi =
    let L : List (List ℕ) = lists_of ns rs in
    let hli : i < length L = rw length-map hi in
    linked_from_chains ns (set rs i 0) (set L i []) (rw (length-set, length-set, length-map) refl)
    (λ q hq. let hq2 : q < length rs = rw length-set at hq in elim (eqb_tells q i) [
      | inl p ↦ rw (p.1, get_or-set_same rs i 0 0 hi, get_or-set_same L i [] [] hli) refl
      | inr p ↦ rw (get_or-set_other rs i q 0 0 p.1, get_or-set_other L i q [] [] p.1) (chain_at ns rs q l hq2)
    ])
    (λ q. let a : sum_by (times q) (set L i []) + times q (get_or L i []) ≡ sum_by (times q) L + times q [] = sum_by-set (times q) L i [] [] hli in
    omega (arith, a, times_nil q, l.once q))

-- a place that stands in no list goes to the front of list j
pub pushed : (ns rs : List ℕ) (j k : ℕ) → IsLinked ns rs → j < length rs → 0 < k → k < length ns → sum_by (times k) (lists_of ns rs) ≡ 0 →
    (lists_of (set ns k (get_or rs j 0)) (set rs j k) ≡ set (lists_of ns rs) j (k ∷ get_or (lists_of ns rs) j [])) × IsLinked (set ns k (get_or rs j 0)) (set rs j k)
pushed ns rs j k l hj pos hk none =
    let L : List (List ℕ) = lists_of ns rs in
    let t : ℕ = get_or rs j 0 in
    let hlj : j < length L = rw length-map hj in
    let out : (q : ℕ) → q < length rs → times k (get_or L q []) ≡ 0 = λ q hq. let hlq : q < length L = rw length-map hq in
    let b : times k (get_or L q []) ≤ sum_by (times k) L = get_or-le-sum_by (times k) L q [] hlq in omega (arith, b, none) in
    let frame : (q : ℕ) → q < length rs → IsChain (set ns k t) (get_or rs q 0) (get_or L q []) = λ q hq. chain_frame ns (get_or rs q 0) (get_or L q []) k t (chain_at ns rs q l hq) (out q hq) in
    linked_from_chains (set ns k t) (set rs j k) (set L j (k ∷ get_or L j [])) (rw (length-set, length-set, length-map) refl)
    (λ q hq. let hq2 : q < length rs = rw length-set at hq in elim (eqb_tells q j) [
      | inl p ↦ rw (p.1, get_or-set_same rs j k 0 hj, get_or-set_same L j (k ∷ get_or L j []) [] hlj)
          (chain_cons (set ns k t) k t (get_or L j []) pos (rw length-set hk) (get_or-set_same ns k t 0 hk) (frame j hj))
      | inr p ↦ rw (get_or-set_other rs j q k 0 p.1, get_or-set_other L j q (k ∷ get_or L j []) [] p.1) (frame q hq2)
    ])
    (λ q. let a : sum_by (times q) (set L j (k ∷ get_or L j [])) + times q (get_or L j []) ≡ sum_by (times q) L + times q (k ∷ get_or L j []) = sum_by-set (times q) L j (k ∷ get_or L j []) [] hlj in
    elim (eqb_tells k q) [
      | inl p ↦ let none2 : sum_by (times q) L ≡ 0 = rw p.1 at none in omega (arith, a, times_cons q k (get_or L j []), cond-true {A = ℕ} (eqb k q) 1 0 p.0, none2)
      | inr p ↦ omega (arith, a, times_cons q k (get_or L j []), cond-false {A = ℕ} (eqb k q) 1 0 p.0, l.once q)
    ])

get_or-replicate_any : {X : Type 0} (n i : ℕ) (d : X) → get_or (replicate n d) i d ≡ d
get_or-replicate_any n i d = elim (cases_lt i n) [ inl h ↦ get_or-replicate n i d d h | inr h ↦ get_or_past (replicate n d) i d (rw length-replicate h) ]

sum_nils : (f : List ℕ → ℕ) (n : ℕ) → f [] ≡ 0 → sum_by f (replicate n []) ≡ 0
sum_nils f zero e = refl
sum_nils f (suc n) e =
    let a : sum_by f ([] ∷ replicate n []) ≡ sum_by f ([] ∷ []) + sum_by f (replicate n []) = sum_by-append f ([] ∷ []) (replicate n []) in
    let b : sum_by f ([] ∷ []) ≡ 0 = omega (arith, e) in
    a ∙ omega (arith, b, sum_nils f n e)

-- more places and more lists, which are empty
pub grown : (ns ms rs : List ℕ) (n : ℕ) → IsLinked ns rs → (lists_of (ns ++ ms) (rs ++ replicate n 0) ≡ lists_of ns rs ++ replicate n []) × IsLinked (ns ++ ms) (rs ++ replicate n 0)
unfolding IsChain
grown ns ms rs n l =
    let L : List (List ℕ) = lists_of ns rs in
    let same : length L ≡ length rs = length-map rs (follow ns (length ns)) in
    linked_from_chains (ns ++ ms) (rs ++ replicate n 0) (L ++ replicate n []) (rw (length-append, length-append, length-replicate, length-replicate, same) refl)
    (λ q hq. elim (cases_lt q (length rs)) [
      | inl a ↦ let a2 : q < length L = rw same a in
          rw (get_or_append_left rs (replicate n 0) 0 q a, get_or_append_left L (replicate n []) [] q a2) (chain_longer ns ms (get_or rs q 0) (get_or L q []) (chain_at ns rs q l a))
      | inr a ↦
          let r : get_or (rs ++ replicate n 0) q 0 ≡ 0 = get_or-append_right rs (replicate n 0) (length rs) q 0 refl a ∙ get_or-replicate_any n (q - length rs) 0 in
          let s : get_or (L ++ replicate n []) q [] ≡ [] = get_or-append_right L (replicate n []) (length rs) q [] same a ∙ get_or-replicate_any n (q - length rs) [] in
          rw (r, s) refl
    ])
    (λ q. omega (arith, sum_by-append (times q) L (replicate n []), sum_nils (times q) n (times_nil q), l.once q))
