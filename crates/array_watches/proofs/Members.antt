-- What is among the elements that pass a test, and among what is found of elements.
use Rattle.std.proofs.Common.{◌≡◌, ℕ, suc, Bool, true, false, List, [], ◌∷◌, ◌++◌, length, get_or, drop, Option, Some, None, refl, sym, ap, ◌∙◌, subst, inl, inr, ⊎_elim, eq-eqb, append_assoc, append-nil, arith}
use Rattle.std.specs.Prelude.{◌⊎◌, ◌==◌, ◌+◌, ◌<◌, ◌≤◌, Contains, if◌then◌else◌, option_to_list}
use Rattle.std.specs.List.{filter, filter_map, cons_option}
use Rattle.std.specs.Bool.{Decides}
use Rattle.std.proofs.lemmas.Bool.{eqb-true}
use Rattle.std.proofs.lemmas.List.{drop_all}
use Rattle.std.proofs.Math.Seq.{drop-cons}
use Rattle.std.proofs.lemmas.Map.Made.{is_member-Decides}
use Rattle.cnf_base.proofs.Lists.{Contains-nil, Contains-first, Contains-later}
use Rattle.array_watches.specs.Reaching.{is_among}
use Rattle.array_watches.proofs.Rising.{cons_cases}

pub same_number : (a b : ℕ) → Decides (a == b) (a ≡ b)
same_number a b = ((λ e. eqb-true a b e), (λ e. eq-eqb a b e))

-- the test tells what is among numbers
pub among : (xs : List ℕ) (t : ℕ) → Decides (is_among xs t) (Contains xs t)
among xs t = is_member-Decides same_number xs t

module _ {A : Type 0} (p : A → Bool) where
  pub passed : (xs : List A) (x : A) → Contains (filter p xs) x → Contains xs x × (p x ≡ true)
  passed [] x c = absurd (Contains-nil x c)
  passed (y ∷ ys) x c = go (p y) refl (passed ys x) c
    where
      go : (b : Bool) → p y ≡ b → (Contains (filter p ys) x → Contains ys x × (p x ≡ true)) → Contains (if b then y ∷ filter p ys else filter p ys) x → Contains (y ∷ ys) x × (p x ≡ true)
      go true e ih k = ⊎_elim
          (λ (q : y ≡ x). (subst (Contains (y ∷ ys)) q (Contains-first y ys), subst (λ z. p z ≡ true) q e))
          (λ r. (let h = ih r in (Contains-later y x ys h.0, h.1)))
          (cons_cases y (filter p ys) x k)
      go false e ih k = let h = ih k in (Contains-later y x ys h.0, h.1)

  pub passes : (xs : List A) (x : A) → Contains xs x → p x ≡ true → Contains (filter p xs) x
  passes [] x c e = absurd (Contains-nil x c)
  passes (y ∷ ys) x c e = go (p y) refl (λ k. passes ys x k e) (cons_cases y ys x c)
    where
      go : (b : Bool) → p y ≡ b → (Contains ys x → Contains (filter p ys) x) → (y ≡ x) ⊎ Contains ys x → Contains (if b then y ∷ filter p ys else filter p ys) x
      go true q ih (inl s) = subst (Contains (y ∷ filter p ys)) s (Contains-first y (filter p ys))
      go true q ih (inr k) = Contains-later y x (filter p ys) (ih k)
      go false q ih (inl s) = let f : false ≡ true = sym q ∙ ap p s ∙ e in let z : ⊥ = cc in absurd z
      go false q ih (inr k) = ih k

module _ {A : Type 0} (h : A → Option ℕ) where
  pub found : (xs : List A) (y : ℕ) → Contains (filter_map h xs) y → (x : A) × Contains xs x × (h x ≡ Some y)
  found [] y c = absurd (Contains-nil y c)
  found (z ∷ zs) y c = go (h z) refl (found zs y) c
    where
      go : (o : Option ℕ) → h z ≡ o → (Contains (filter_map h zs) y → (x : A) × Contains zs x × (h x ≡ Some y)) → Contains (cons_option o (filter_map h zs)) y → (x : A) × Contains (z ∷ zs) x × (h x ≡ Some y)
      go None e ih k = let r = ih k in (r.0, Contains-later z r.0 zs r.1, r.2)
      go (Some v) e ih k = ⊎_elim
          (λ (q : v ≡ y). (z, Contains-first z zs, e ∙ ap Some q))
          (λ s. (let r = ih s in (r.0, Contains-later z r.0 zs r.1, r.2)))
          (cons_cases v (filter_map h zs) y k)

  pub finds : (xs : List A) (x : A) (y : ℕ) → Contains xs x → h x ≡ Some y → Contains (filter_map h xs) y
  finds [] x y c e = absurd (Contains-nil x c)
  finds (z ∷ zs) x y c e = go (h z) refl (λ k. finds zs x y k e) (cons_cases z zs x c)
    where
      go : (o : Option ℕ) → h z ≡ o → (Contains zs x → Contains (filter_map h zs) y) → (z ≡ x) ⊎ Contains zs x → Contains (cons_option o (filter_map h zs)) y
      go None q ih (inl s) = let f : None ≡ Some y = sym q ∙ ap h s ∙ e in let w : ⊥ = cc in absurd w
      go None q ih (inr k) = ih k
      go (Some v) q ih (inl s) = let f : Some v ≡ Some y = sym q ∙ ap h s ∙ e in let w : v ≡ y = cc in subst (Contains (v ∷ filter_map h zs)) w (Contains-first v (filter_map h zs))
      go (Some v) q ih (inr k) = Contains-later v y (filter_map h zs) (ih k)

-- the same elements have the same found
pub found_same : {A : Type 0} (h : A → Option ℕ) (xs ys : List A) → ((x : A) → Contains xs x → Contains ys x) → (y : ℕ) → Contains (filter_map h xs) y → Contains (filter_map h ys) y
found_same h xs ys f y c = let r = found h xs y c in finds h ys r.0 y (f r.0 r.1) r.2

-- ---- a list in a loop

drop_next : (xs : List ℕ) (i d : ℕ) → i < length xs → drop i xs ≡ get_or xs i d ∷ drop (i + 1) xs
drop_next xs i d lt = let e : suc i ≡ i + 1 = omega arith in drop-cons xs i d lt ∙ ap (λ k. get_or xs i d ∷ drop k xs) e

module _ (p : ℕ → Bool) (got xs : List ℕ) (i d : ℕ) where
  filter_by : (b : Bool) (rest new : List ℕ) → got ++ (if b then get_or xs i d ∷ rest else rest) ≡ filter p xs → new ≡ (if b then got ++ get_or xs i d ∷ [] else got) → new ++ rest ≡ filter p xs
  filter_by true rest new h n = ap (λ l. l ++ rest) n ∙ append_assoc got (get_or xs i d ∷ []) rest ∙ h
  filter_by false rest new h n = ap (λ l. l ++ rest) n ∙ h

  pub filter_step : i < length xs → got ++ filter p (drop i xs) ≡ filter p xs → (b : Bool) → b ≡ p (get_or xs i d) → (new : List ℕ) → new ≡ (if b then got ++ get_or xs i d ∷ [] else got) → new ++ filter p (drop (i + 1) xs) ≡ filter p xs
  filter_step lt h b e new n = filter_by b (filter p (drop (i + 1) xs)) new
      (ap (λ c. got ++ (if c then get_or xs i d ∷ filter p (drop (i + 1) xs) else filter p (drop (i + 1) xs))) e
      ∙ ap (λ l. got ++ filter p l) (sym (drop_next xs i d lt)) ∙ h) n

pub filter_end : (p : ℕ → Bool) (got xs : List ℕ) (i : ℕ) → length xs ≤ i → got ++ filter p (drop i xs) ≡ filter p xs → got ≡ filter p xs
filter_end p got xs i le h = sym (append-nil got) ∙ ap (λ l. got ++ filter p l) (sym (drop_all i xs le)) ∙ h

module _ (f : ℕ → Option ℕ) (got xs : List ℕ) (i d : ℕ) where
  find_by : (o : Option ℕ) (rest new : List ℕ) → got ++ cons_option o rest ≡ filter_map f xs → new ≡ got ++ option_to_list o → new ++ rest ≡ filter_map f xs
  find_by (Some y) rest new h n = ap (λ l. l ++ rest) n ∙ append_assoc got (y ∷ []) rest ∙ h
  find_by None rest new h n = ap (λ l. l ++ rest) n ∙ ap (λ l. l ++ rest) (append-nil got) ∙ h

  pub find_step : i < length xs → got ++ filter_map f (drop i xs) ≡ filter_map f xs → (o : Option ℕ) → o ≡ f (get_or xs i d) → (new : List ℕ) → new ≡ got ++ option_to_list o → new ++ filter_map f (drop (i + 1) xs) ≡ filter_map f xs
  find_step lt h o e new n = find_by o (filter_map f (drop (i + 1) xs)) new
      (ap (λ c. got ++ cons_option c (filter_map f (drop (i + 1) xs))) e
      ∙ ap (λ l. got ++ filter_map f l) (sym (drop_next xs i d lt)) ∙ h) n

pub find_end : (f : ℕ → Option ℕ) (got xs : List ℕ) (i : ℕ) → length xs ≤ i → got ++ filter_map f (drop i xs) ≡ filter_map f xs → got ≡ filter_map f xs
find_end f got xs i le h = sym (append-nil got) ∙ ap (λ l. got ++ filter_map f l) (sym (drop_all i xs le)) ∙ h
