-- Uses of defined names.
use Rattle.std.proofs.Common.{◌≡◌, ℕ, ◌+◌, ◌<◌, ◌≤◌, Bool, true, false, List, [], ◌∷◌, ◌++◌, length, take, drop, get_or, zero, suc, refl, ap, sym, ◌∙◌, arith}
use Rattle.std.specs.Prelude.{◌&&◌}
use Rattle.std.proofs.lemmas.List.{drop_more, drop_all}
use Rattle.smt_terms.specs.declared.sort.Sort.{Sort}
use Rattle.smt_terms.specs.declared.node.Node.{Node}
use Rattle.smt_terms.specs.Terms.{held_sort}
use Rattle.smt_build.specs.declared.definition.Definition.{Definition}
use Rattle.smt_build.specs.Names.{Meanings, AreBodies}
use Rattle.smt_build.specs.Grouping.{has_sort}
use Rattle.smt_build.specs.Definitions.{have_sorts}

-- other numbers of terms than of sorts
pub uneven : (nodes : List Node) (ss : List Sort) (ts : List ℕ) → (length ss ≡ length ts → ⊥) → false ≡ have_sorts nodes ss ts
uneven nodes [] [] h = absurd (h refl)
uneven nodes [] (t ∷ ts) h = refl
uneven nodes (s ∷ ss) [] h = refl
uneven nodes (s ∷ ss) (t ∷ ts) h = both (has_sort s (held_sort nodes t)) (have_sorts nodes ss ts) (uneven nodes ss ts (λ e. h (ap suc e))) where
  both : (a b : Bool) → false ≡ b → false ≡ (a && b)
  both true b e = e
  both false b e = refl

-- behind so many of both, the others decide
pub record AreLeft (nodes : List Node) (ss : List Sort) (ts : List ℕ) (i : ℕ) : Type 0 where
  pub same : have_sorts nodes ss ts ≡ have_sorts nodes (drop i ss) (drop i ts)

module _ (nodes : List Node) (ss : List Sort) (ts : List ℕ) (i : ℕ) (d : Sort) (e : ℕ) (left : AreLeft nodes ss ts i) (lt : i < length ss) (len : length ss ≡ length ts) where
  next : have_sorts nodes ss ts ≡ (has_sort (get_or ss i d) (held_sort nodes (get_or ts i e)) && have_sorts nodes (drop (i + 1) ss) (drop (i + 1) ts))
  next = left.same ∙ rw (drop_more ss i d lt, drop_more ts i e (omega (arith, lt, len))) refl

  pub left_more : has_sort (get_or ss i d) (held_sort nodes (get_or ts i e)) ≡ true → AreLeft nodes ss ts (i + 1)
  left_more h = record { same = next ∙ rw h refl }

  pub left_fails : has_sort (get_or ss i d) (held_sort nodes (get_or ts i e)) ≡ false → false ≡ have_sorts nodes ss ts
  left_fails h = sym (next ∙ rw h refl)

pub left_none : (nodes : List Node) (ss : List Sort) (ts : List ℕ) (i : ℕ) → AreLeft nodes ss ts i → length ss ≤ i → length ss ≡ length ts → true ≡ have_sorts nodes ss ts
left_none nodes ss ts i left past len = sym (left.same ∙ rw (drop_all i ss past, drop_all i ts (omega (arith, past, len))) refl)

-- ---- bodies

pub bodies_longer : (m n : ℕ) (ds : Meanings Definition) → m ≤ n → AreBodies m ds → AreBodies n ds
bodies_longer m n [] le h = tt
bodies_longer m n (d ∷ ds) le h = (omega (arith, h.0, le), bodies_longer m n ds le h.1)

pub bodies_push : (n : ℕ) (ds : Meanings Definition) (x : List ℕ) (f : Definition) → AreBodies n ds → f.body < n → AreBodies n (ds ++ (x, f) ∷ [])
bodies_push n [] x f h k = (k, tt)
bodies_push n (d ∷ ds) x f h k = (h.0, bodies_push n ds x f h.1 k)

pub bodies_take : (n k : ℕ) (ds : Meanings Definition) → AreBodies n ds → AreBodies n (take k ds)
bodies_take n zero ds h = tt
bodies_take n (suc k) [] h = tt
bodies_take n (suc k) (d ∷ ds) h = (h.0, bodies_take n k ds h.1)
