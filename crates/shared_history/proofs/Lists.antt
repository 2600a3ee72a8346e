-- Lists of events and of views.
use Rattle.std.proofs.Common.{◌≡◌, ◌≢◌, ℕ, zero, suc, ◌+◌, ◌<◌, ◌≤◌, ◌⊎◌, eqb, true, false, cond, map, List, [], ◌∷◌, ◌++◌, length, set, refl, sym, ap, ◌∙◌, subst, inl, inr, ⊎_elim, arith, append_assoc, append-nil, ne_eqb, eq-eqb}
use Rattle.std.specs.List.{AllByRecursion, IsDistinct}
use Rattle.std.proofs.lemmas.List.Elements.{filter-append}
use Rattle.std.proofs.lemmas.List.{append_cancel_left, map-append}
use mathlib.Core.Option.{some, some-injective, some-ne-none}
use lib.ListN.{get_elem?}
use Rattle.atomic_table.proofs.Lists.{at_set}
use Rattle.shared_history.specs.Events.{of_pass, StartsWith, numbers}
use Rattle.shared_history.specs.Rule.{drawn, tickets, Owns}
use Rattle.shared_history.specs.Moves.{longer}
use Rattle.shared_history.specs.declared.view.Stage.{Stage}
use Rattle.shared_history.specs.declared.view.Stage.TheVariants.{Idle, Waiting, Turn}
use Rattle.shared_history.specs.declared.view.View.{View}

module _ {X : Type 0} where
  pub every_map : (P Q : X → Type 0) → ((x : X) → P x → Q x) → (xs : List X) → AllByRecursion P xs → AllByRecursion Q xs
  every_map P Q f [] h = tt
  every_map P Q f (x ∷ xs) h = (f x h.0, every_map P Q f xs h.1)

  pub every_both : (P Q R : X → Type 0) → ((x : X) → P x → Q x → R x) → (xs : List X) → AllByRecursion P xs → AllByRecursion Q xs → AllByRecursion R xs
  every_both P Q R f [] h k = tt
  every_both P Q R f (x ∷ xs) h k = (f x h.0 k.0, every_both P Q R f xs h.1 k.1)

  pub every_append : (P : X → Type 0) (xs ys : List X) → AllByRecursion P xs → AllByRecursion P ys → AllByRecursion P (xs ++ ys)
  every_append P [] ys h k = k
  every_append P (x ∷ xs) ys h k = (h.0, every_append P xs ys h.1 k)

  pub every_left : (P : X → Type 0) (xs ys : List X) → AllByRecursion P (xs ++ ys) → AllByRecursion P xs
  every_left P [] ys h = tt
  every_left P (x ∷ xs) ys h = (h.0, every_left P xs ys h.1)

  pub at_end : (l : List X) (a b : X) (j : ℕ) → get_elem? (l ++ a ∷ []) j ≡ some b → (get_elem? l j ≡ some b) ⊎ ((j ≡ length l) × (a ≡ b))
  at_end [] a b zero e = inr (refl, some-injective a b e)
  at_end [] a b (suc j) e = absurd (some-ne-none b (sym e))
  at_end (x ∷ xs) a b zero e = inl e
  at_end (x ∷ xs) a b (suc j) e = ⊎_elim (λ t. inl t) (λ (t : (j ≡ length xs) × (a ≡ b)). inr (ap suc t.0, t.1)) (at_end xs a b j e)

  pub inside : (l : List X) (j : ℕ) (a : X) → get_elem? l j ≡ some a → j < length l
  inside [] j a e = absurd (some-ne-none a (sym e))
  inside (x ∷ xs) zero a e = omega arith
  inside (x ∷ xs) (suc j) a e = let h = inside xs j a e in omega arith

  -- what holds of the new element and of the others holds of each
  pub each_set : (P : ℕ → X → Type 0) (l : List X) (i : ℕ) (a : X) → P i a → ((j : ℕ) (x : X) → j ≢ i → get_elem? l j ≡ some x → P j x) → (j : ℕ) (x : X) → get_elem? (set l i a) j ≡ some x → P j x
  each_set P l i a mine others j x e = ⊎_elim (λ (t : (j ≡ i) × (a ≡ x)). subst (λ (z : ℕ × X). P z.0 z.1) (λ k. (sym t.0 k, t.1 k)) mine)
      (λ (t : (j ≢ i) × (get_elem? l j ≡ some x)). others j x t.0 t.1) (at_set l i j a x e)

  pub starts_longer : (log log' seen : List X) → StartsWith log' log → StartsWith log seen → StartsWith log' seen
  starts_longer log log' seen g h = (h.0 ++ g.0, g.1 ∙ (ap (λ l. l ++ g.0) h.1 ∙ append_assoc seen h.0 g.0))

module _ {E : Type 0} (by : E → ℕ) where
  pub of_pass_append : (n : ℕ) (xs ys : List E) → of_pass by n (xs ++ ys) ≡ of_pass by n xs ++ of_pass by n ys
  of_pass_append n xs ys = filter-append (λ e. eqb (by e) n) xs ys

  -- no event is of a number that they are all not of
  pub of_pass_none : (n : ℕ) (xs : List E) → AllByRecursion (λ e. by e ≢ n) xs → of_pass by n xs ≡ []
  of_pass_none n [] h = refl
  of_pass_none n (x ∷ xs) h = subst (λ b. cond b (x ∷ of_pass by n xs) (of_pass by n xs) ≡ []) (sym (ne_eqb (by x) n h.0)) (of_pass_none n xs h.1)

  pub below_not : (n : ℕ) (xs : List E) → AllByRecursion (λ e. by e < n) xs → of_pass by n xs ≡ []
  below_not n xs h = of_pass_none n xs (every_map (λ e. by e < n) (λ e. by e ≢ n) (λ e l same. let same' : by e ≡ n = same in absurd (omega arith)) xs h)

  -- where all events of a number stand in what was seen, the rest has none
  pub of_pass_rest : (n : ℕ) (log seen rest mine : List E) → log ≡ seen ++ rest → of_pass by n log ≡ mine → of_pass by n seen ≡ mine → of_pass by n rest ≡ []
  of_pass_rest n log seen rest mine is all stand = append_cancel_left (of_pass by n seen) (of_pass by n rest) [] (sym (of_pass_append n seen rest) ∙ (ap (of_pass by n) (sym is) ∙ (all ∙ (sym stand ∙ sym (append-nil (of_pass by n seen))))))

at_most_one : {E : Type 0} → (st : Stage E) → drawn st ≤ 1
at_most_one Idle = omega arith
at_most_one (Waiting t) = omega arith
at_most_one (Turn t all) = omega arith

module _ {K E : Type 0} where
  pub tickets_set : (vs : List (View K E)) (i : ℕ) (v w : View K E) → get_elem? vs i ≡ some v → tickets (set vs i w) + drawn v.stage ≡ tickets vs + drawn w.stage
  tickets_set [] i v w e = absurd (some-ne-none v (sym e))
  tickets_set (u ∷ us) zero v w e = let is : u ≡ v = some-injective u v e in let d : drawn u.stage ≡ drawn v.stage = ap (λ (z : View K E). drawn z.stage) is in omega arith
  tickets_set (u ∷ us) (suc i) v w e = let h = tickets_set us i v w e in omega arith

  pub tickets_few : (vs : List (View K E)) → tickets vs ≤ length vs
  tickets_few [] = omega arith
  tickets_few (v ∷ vs) = let h = tickets_few vs in let d = at_most_one v.stage in omega arith

  pub tickets_last : (vs : List (View K E)) (w : View K E) → tickets (vs ++ w ∷ []) ≡ tickets vs + drawn w.stage
  tickets_last [] w = omega arith
  tickets_last (v ∷ vs) w = let h = tickets_last vs w in omega arith

module _ {E : Type 0} where
  pub one_line : (a b r q : List E) → a ++ r ≡ b ++ q → ((longer a b ≡ a) × StartsWith a b) ⊎ ((longer a b ≡ b) × StartsWith b a)
  one_line [] b r q e = inr (refl, (b, refl))
  one_line (x ∷ a) [] r q e = inl (append-nil (x ∷ a), (x ∷ a, refl))
  one_line (x ∷ a) (y ∷ b) r q e = let h : x ≡ y = cc in let t : a ++ r ≡ b ++ q = cc in ⊎_elim
      (λ (p : (longer a b ≡ a) × StartsWith a b). inl (ap (λ l. x ∷ l) p.0, (p.1.0, λ i. h i ∷ p.1.1 i)))
      (λ (p : (longer a b ≡ b) × StartsWith b a). inr ((λ i. h i ∷ p.0 i), (p.1.0, λ i. sym h i ∷ p.1.1 i)))
      (one_line a b r q t)

  -- of two beginnings of one history the longer is one, and it begins with both
  pub longest : (log a b : List E) → StartsWith log a → StartsWith log b → StartsWith log (longer a b) × StartsWith (longer a b) a × StartsWith (longer a b) b
  longest log a b p q = ⊎_elim
      (λ (h : (longer a b ≡ a) × StartsWith a b). subst (λ l. StartsWith log l × StartsWith l a × StartsWith l b) (sym h.0) (p, ([], sym (append-nil a)), h.1))
      (λ (h : (longer a b ≡ b) × StartsWith b a). subst (λ l. StartsWith log l × StartsWith l a × StartsWith l b) (sym h.0) (q, h.1, ([], sym (append-nil b))))
      (one_line a b p.0 q.0 (sym p.1 ∙ q.1))

  pub none_left : (xs ys : List E) → xs ++ ys ≡ [] → xs ≡ []
  none_left [] ys e = refl
  none_left (x ∷ xs) ys e = absurd (cc)

  -- what stands in what was seen stands in what was seen later
  pub owns_later : (by : E → ℕ) (log seen seen' : List E) (p : ℕ × List E) → StartsWith log seen' → StartsWith seen' seen → Owns by log seen p → Owns by log seen' p
  owns_later by log seen seen' p s t o = let n : ℕ = p.0 in
      let rest = of_pass_rest by n log seen (t.0 ++ s.0) p.1 (s.1 ∙ (ap (λ l. l ++ s.0) t.1 ∙ append_assoc seen t.0 s.0)) o.0 o.1 in
      let none = none_left (of_pass by n t.0) (of_pass by n s.0) (sym (of_pass_append by n t.0 s.0) ∙ rest) in
      (o.0, ap (of_pass by n) t.1 ∙ (of_pass_append by n seen t.0 ∙ (ap (λ l. of_pass by n seen ++ l) none ∙ (append-nil (of_pass by n seen) ∙ o.1))))

module _ {E : Type 0} where
  -- a pass keeps no number twice, so none of those that it keeps is its own
  pub not_own : (n : ℕ) (ended : List (ℕ × List E)) → IsDistinct eqb (numbers n ended) → AllByRecursion (λ p. p.0 ≢ n) ended
  unfolding IsDistinct
  not_own n ended d = from ended d.0
    where
      from : (l : List (ℕ × List E)) → AllByRecursion (λ m. eqb n m ≡ false) (map (λ p. p.0) l) → AllByRecursion (λ p. p.0 ≢ n) l
      from [] h = tt
      from (p ∷ l) h = ((λ same. let t : true ≡ false = sym (eq-eqb n p.0 (sym same)) ∙ h.0 in absurd (cc)), from l h.1)

  -- what another view owns is not the number of this one
  pub not_others : (owner : ℕ → ℕ) (id j : ℕ) → owner id ≡ id → j ≢ id → (ended : List (ℕ × List E)) → AllByRecursion (λ n. owner n ≡ j) (map (λ p. p.0) ended) → AllByRecursion (λ p. p.0 ≢ id) ended
  not_others owner id j own other [] h = tt
  not_others owner id j own other (p ∷ l) h = ((λ same. other (sym h.0 ∙ (ap owner same ∙ own))), not_others owner id j own other l h.1)

  -- the numbers of a pass that took in another
  pub numbers-append : (n m : ℕ) (mine : List E) (a b : List (ℕ × List E)) → numbers n (a ++ (m, mine) ∷ b) ≡ numbers n a ++ numbers m b
  numbers-append n m mine a b = ap (λ l. n ∷ l) (map-append (λ p. p.0) a ((m, mine) ∷ b))

-- what two owners have differs
pub differ_append : (owner : ℕ → ℕ) (i j : ℕ) → i ≢ j → (xs ys : List ℕ) → AllByRecursion (λ n. owner n ≡ i) xs → AllByRecursion (λ n. owner n ≡ j) ys → IsDistinct eqb xs → IsDistinct eqb ys → IsDistinct eqb (xs ++ ys)
unfolding IsDistinct
differ_append owner i j ne [] ys h k p q = q
differ_append owner i j ne (x ∷ xs) ys h k p q = (
  every_append (λ y. eqb x y ≡ false) xs ys p.0 (every_map (λ n. owner n ≡ j) (λ y. eqb x y ≡ false) (λ y is. ne_eqb x y (λ same. ne (sym h.0 ∙ (ap owner same ∙ is)))) ys k),
  differ_append owner i j ne xs ys h.1 k p.1 q,
)

pub one_differs : (n : ℕ) → IsDistinct eqb (n ∷ [])
unfolding IsDistinct
one_differs n = (tt, tt)
