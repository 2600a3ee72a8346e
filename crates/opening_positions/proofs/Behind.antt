-- The lowest number above the variables of literals, and of clauses of a position.
use Rattle.std.proofs.Common.{◌≡◌, ℕ, zero, suc, ◌+◌, ◌<◌, ◌≤◌, List, [], ◌∷◌, ◌++◌, length, take, get_or, Option, Some, None, refl, sym, ap, ◌∙◌, subst, ⊎_elim, arith}
use Rattle.std.specs.Prelude.{◌⊎◌, Contains, slice_get}
use Rattle.std.proofs.lemmas.Bool.{cases_lt}
use Rattle.std.proofs.lemmas.List.{take_more, take_all}
use Rattle.std.proofs.lemmas.List.Elements.{Contains-append_left, Contains-push, Contains-push_cases}
use Rattle.std.proofs.lemmas.Option.{slice_get_within}
use Rattle.cnf_base.specs.Literals.{Literal}
use Rattle.cnf_base.specs.declared.clause.ClauseId.{ClauseId}
use Rattle.cnf_base.proofs.Lists.{Contains-nil}
use Rattle.proof_log.specs.Logs.{clause_in, clause_at}
use Rattle.opening_positions.specs.Reading.{IsBehind, IsAt}

-- ---- the front of a list

module _ {X : Type 0} (xs : List X) (i : ℕ) (x : X) (lt : i < length xs) (is : x ≡ get_or xs i x) where
  more_is : take (i + 1) xs ≡ take i xs ++ x ∷ []
  more_is = take_more xs i x lt ∙ ap (λ y. take i xs ++ y ∷ []) (sym is)

  pub front_cases : (y : X) → Contains (take (i + 1) xs) y → Contains (take i xs) y ⊎ (x ≡ y)
  front_cases y h = Contains-push_cases (take i xs) x y (subst (λ (l : List X). Contains l y) more_is h)

  pub front_later : (y : X) → Contains (take i xs) y → Contains (take (i + 1) xs) y
  front_later y h = subst (λ (l : List X). Contains l y) (sym more_is) (Contains-append_left (take i xs) (x ∷ []) y h)

  pub front_here : Contains (take (i + 1) xs) x
  front_here = subst (λ (l : List X). Contains l x) (sym more_is) (Contains-push (take i xs) x)

-- ---- literals

pub behind_none : (n : ℕ) → IsBehind (Contains []) n n
behind_none n = record { above = omega arith; each = λ l h. absurd (Contains-nil l h); lowest = λ m le h. le }

pub behind_more : (xs : List Literal) (i old n m : ℕ) (l : Literal) → i < length xs → l ≡ get_or xs i l → n ≤ m → l.variable < m → ((k : ℕ) → n ≤ k → l.variable < k → m ≤ k)
    → IsBehind (Contains (take i xs)) old n → IsBehind (Contains (take (i + 1) xs)) old m
behind_more xs i old n m l lt is le own least h = record {
  above = (let a = h.above in omega (arith, a, le));
  each = λ y k. ⊎_elim
      (λ a. let b = h.each y a in omega (arith, b, le))
      (λ e. subst (λ (z : Literal). z.variable < m) e own)
      (front_cases xs i l lt is y k);
  lowest = λ k o f. least k (h.lowest k o (λ y a. f y (front_later xs i l lt is y a))) (f l (front_here xs i l lt is));
}

pub behind_all : (xs : List Literal) (i old n : ℕ) → length xs ≤ i → IsBehind (Contains (take i xs)) old n → IsBehind (Contains xs) old n
behind_all xs i old n le h = subst (λ (ls : List Literal). IsBehind (Contains ls) old n) (take_all i xs le) h

-- ---- clauses of a position

-- the literal stands in one of the first clauses of the position
abbrev pub IsBefore : List (List (List Literal)) → ℕ → ℕ → Literal → Type 0
IsBefore rows at part l = (id : ClauseId) × (c : List Literal) × (id.pos ≡ at) × (id.part < part) × (clause_at rows id ≡ Some c) × Contains c l

pub parts_none : (rows : List (List (List Literal))) (at n : ℕ) → IsBehind (IsBefore rows at 0) n n
parts_none rows at n = record { above = omega arith; each = λ l h. (let lt = h.3 in absurd (omega (arith, lt))); lowest = λ m le h. le }

part_same : (rows : List (List (List Literal))) (at part : ℕ) (id : ClauseId) (clause c : List Literal) → clause_at rows (record { pos = at; part = part }) ≡ Some clause → id.pos ≡ at → id.part ≡ part → clause_at rows id ≡ Some c → clause ≡ c
part_same rows at part id clause c own p q e =
    let both : Some clause ≡ Some c = sym own ∙ ap (λ n. clause_at rows (record { pos = at; part = n })) (sym q) ∙ ap (λ n. clause_at rows (record { pos = n; part = id.part })) (sym p) ∙ e in
    cc

pub parts_more : (rows : List (List (List Literal))) (at part old n m : ℕ) (clause : List Literal) → clause_at rows (record { pos = at; part = part }) ≡ Some clause
    → IsBehind (Contains clause) n m → IsBehind (IsBefore rows at part) old n → IsBehind (IsBefore rows at (part + 1)) old m
parts_more rows at part old n m clause own g h = record {
  above = (let a = h.above in let b = g.above in omega (arith, a, b));
  each = λ y k. ⊎_elim
      (λ lt. (let a = h.each y (k.0, k.1, k.2, lt, k.4, k.5) in let b = g.above in omega (arith, a, b)))
      (λ ge. (let lt = k.3 in let q : k.0.part ≡ part = omega (arith, lt, ge) in g.each y (subst (λ (c : List Literal). Contains c y) (sym (part_same rows at part k.0 clause k.1 own k.2 q k.4)) k.5)))
      (cases_lt k.0.part part);
  lowest = λ k o f. g.lowest k
      (h.lowest k o (λ y a. f y (a.0, a.1, a.2, (let lt = a.3 in omega (arith, lt)), a.4, a.5)))
      (λ y c. f y (record { pos = at; part = part }, clause, refl, omega arith, own, c));
}

-- no part has a clause after one that has none
none_later : (o : Option (List (List Literal))) (part k : ℕ) (c : List Literal) → clause_in o part ≡ None → part ≤ k → clause_in o k ≡ Some c → ⊥
none_later None part k c none le e = let f : ⊥ = cc in f
none_later (Some row) part k c none le e = let low = slice_get_within row k c e in go row part none (omega (arith, le, low))
  where
    go : (xs : List (List Literal)) (i : ℕ) → slice_get xs i ≡ None → i < length xs → ⊥
    go [] i n lt = omega (arith, lt)
    go (x ∷ xs) zero n lt = let f : ⊥ = cc in f
    go (x ∷ xs) (suc i) n lt = go xs i n (omega (arith, lt))

pub parts_all : (rows : List (List (List Literal))) (at part old n : ℕ) → clause_at rows (record { pos = at; part = part }) ≡ None → IsBehind (IsBefore rows at part) old n → IsBehind (IsAt rows at) old n
parts_all rows at part old n none h = record {
  above = h.above;
  each = λ y k. h.each y (k.0, k.1, k.2, early k.0 k.1 k.2 k.3, k.3, k.4);
  lowest = λ k o f. h.lowest k o (λ y a. f y (a.0, a.1, a.2, a.4, a.5));
}
  where
    early : (id : ClauseId) (c : List Literal) → id.pos ≡ at → clause_at rows id ≡ Some c → id.part < part
    early id c p e = ⊎_elim
        (λ lt. lt)
        (λ ge. absurd (none_later (slice_get rows at) part id.part c none ge (ap (λ n. clause_in (slice_get rows n) id.part) (sym p) ∙ e)))
        (cases_lt id.part part)
