-- The shape of a clause, one literal more.
use Rattle.std.proofs.Common.{◌≡◌, ℕ, ◌+◌, ◌<◌, List, [], ◌∷◌, ◌++◌, length, get_or, take, sym, subst, inl, inr, ⊎_elim}
use Rattle.std.specs.Prelude.{◌⊎◌, ◌≢◌}
use Rattle.cnf_base.proofs.Rows.{take_at}
use Rattle.std.proofs.lemmas.List.Elements.{All-push, All-weaker, Contains-append_left, Contains-push}
use Rattle.cnf_base.specs.Literals.{Literal}
use Rattle.hint_chain.specs.declared.shape.Shape.{Shape}
use Rattle.hint_chain.specs.declared.shape.Shape.TheVariants.{AllFalse, OneOpen, Many}
use Rattle.hint_chain.specs.Chains.{IsFalse, IsUnit, IsWide}
use Rattle.hint_chain.specs.Faults.{HasShape, Joins}

pub shape_false : (ts xs : List Literal) (l : Literal) (s : Shape) → HasShape ts xs s → IsFalse ts l → HasShape ts (xs ++ l ∷ []) s
shape_false ts xs l AllFalse h f = All-push (IsFalse ts) xs l h f
shape_false ts xs l (OneOpen m) h f = record {
  among = Contains-append_left xs (l ∷ []) m h.among;
  open_yet = h.open_yet;
  others = All-push (λ k. (k ≡ m) ⊎ IsFalse ts k) xs l h.others (inr f);
}
shape_false ts xs l Many h f = record {
  first = h.first;
  second = h.second;
  has_first = Contains-append_left xs (l ∷ []) h.first h.has_first;
  has_second = Contains-append_left xs (l ∷ []) h.second h.has_second;
  differ = h.differ;
  first_open = h.first_open;
  second_open = h.second_open;
}

one_open : (ts xs : List Literal) (l : Literal) → HasShape ts xs AllFalse → ¬ (IsFalse ts l) → IsUnit ts (xs ++ l ∷ []) l
one_open ts xs l h f = record {
  among = Contains-push xs l;
  open_yet = f;
  others = All-push (λ k. (k ≡ l) ⊎ IsFalse ts k) xs l (All-weaker (IsFalse ts) (λ k. (k ≡ l) ⊎ IsFalse ts k) (λ k p. inr p) xs h) (inl (λ i. l));
}

again : (ts xs : List Literal) (m l : Literal) → IsUnit ts xs m → m ≡ l → IsUnit ts (xs ++ l ∷ []) m
again ts xs m l h e = record {
  among = Contains-append_left xs (l ∷ []) m h.among;
  open_yet = h.open_yet;
  others = All-push (λ k. (k ≡ m) ⊎ IsFalse ts k) xs l h.others (inl (sym e));
}

other : (ts xs : List Literal) (m l : Literal) → IsUnit ts xs m → m ≢ l → ¬ (IsFalse ts l) → IsWide ts (xs ++ l ∷ [])
other ts xs m l h ne f = record {
  first = m;
  second = l;
  has_first = Contains-append_left xs (l ∷ []) m h.among;
  has_second = Contains-push xs l;
  differ = ne;
  first_open = h.open_yet;
  second_open = f;
}

at_shape : (ts xs : List Literal) (s r : Shape) → r ≡ s → HasShape ts xs s → HasShape ts xs r
at_shape ts xs s r e h = subst (HasShape ts xs) (sym e) h

pub shape_open : (ts xs : List Literal) (l : Literal) (s r : Shape) → HasShape ts xs s → ¬ (IsFalse ts l) → Joins s l r → HasShape ts (xs ++ l ∷ []) r
shape_open ts xs l AllFalse r h f j = at_shape ts _ (OneOpen l) r j (one_open ts xs l h f)
shape_open ts xs l (OneOpen m) r h f j =
    ⊎_elim
    (λ p. at_shape ts _ (OneOpen m) r p.1 (again ts xs m l h p.0))
    (λ p. at_shape ts _ Many r p.1 (other ts xs m l h p.0 f))
    j
shape_open ts xs l Many r h f j =
    at_shape ts _ Many r j (record {
      first = h.first;
      second = h.second;
      has_first = Contains-append_left xs (l ∷ []) h.first h.has_first;
      has_second = Contains-append_left xs (l ∷ []) h.second h.has_second;
      differ = h.differ;
      first_open = h.first_open;
      second_open = h.second_open;
    })

-- the same along a loop
pub step_false : (ts xs : List Literal) (i : ℕ) (x : Literal) (s : Shape) → i < length xs → x ≡ get_or xs i x → HasShape ts (take i xs) s → IsFalse ts x → HasShape ts (take (i + 1) xs) s
step_false ts xs i x s within e h f = subst (λ ys. HasShape ts ys s) (sym (take_at xs i x within e)) (shape_false ts (take i xs) x s h f)

pub step_open : (ts xs : List Literal) (i : ℕ) (x : Literal) (s r : Shape) → i < length xs → x ≡ get_or xs i x → HasShape ts (take i xs) s → ¬ (IsFalse ts x) → Joins s x r → HasShape ts (take (i + 1) xs) r
step_open ts xs i x s r within e h f j = subst (λ ys. HasShape ts ys r) (sym (take_at xs i x within e)) (shape_open ts (take i xs) x s r h f j)
