-- The recursion over a list of terms.
use Rattle.std.proofs.Common.{◌≡◌, ℕ, zero, suc, ◌<◌, ◌≤◌, List, [], ◌∷◌, ◌++◌, length, refl, ap, ◌∙◌, subst, inl, inr, ⊎_elim, arith}
use Rattle.std.specs.Prelude.{◌==◌, if◌then◌else◌, ◌⊎◌, map}
use Rattle.std.specs.List.{AllByRecursion}
use Rattle.std.proofs.lemmas.Bool.{eq-eqb, ne_eqb, cases_lt}
use Rattle.std.proofs.lemmas.List.{get_or_append_left}
use Rattle.smt_terms.specs.declared.node.Op.{Op}
use Rattle.smt_terms.specs.declared.node.Node.{Node}
use Rattle.smt_terms.specs.Nodes.{no_node, node_at, below, at_term}

eq_or_lt : (a b : ℕ) → a < suc b → (a ≡ b) ⊎ (a < b)
eq_or_lt a b h = ⊎_elim (λ lt. inr lt) (λ le. inl (omega arith)) (cases_lt a b)

pair : {X Y : Type 0} {a b : X} {x y : Y} → a ≡ b → x ≡ y → (let p : X × Y = (a, x) in p) ≡ (let q : X × Y = (b, y) in q)
pair p q = λ i. (p i, q i)

-- functions that agree at each number of a list give the same list
pub same_map : {A : Type 0} (P : ℕ → Type 0) (f g : ℕ → A) → ((a : ℕ) → P a → f a ≡ g a) → (args : List ℕ) → AllByRecursion P args → map f args ≡ map g args
same_map P f g same [] h = refl
same_map P f g same (a ∷ args) h = rw (same a h.0, same_map P f g same args h.1) refl

module _ {A : Type 0} (d : A) (step : ℕ → Op → List A → A) where
  here : (nodes : List Node) (n : ℕ) → below d step nodes (suc n) n ≡ step n (node_at nodes n).op (map (below d step nodes n) (node_at nodes n).args)
  unfolding below
  here nodes n = ap (λ b. if b then step n (node_at nodes n).op (map (below d step nodes n) (node_at nodes n).args) else below d step nodes n n) (eq-eqb n n refl)

  there : (nodes : List Node) (n t : ℕ) → (t ≡ n → ⊥) → below d step nodes (suc n) t ≡ below d step nodes n t
  unfolding below
  there nodes n t ne = ap (λ b. if b then step n (node_at nodes n).op (map (below d step nodes n) (node_at nodes n).args) else below d step nodes n t) (ne_eqb t n ne)

  pub below_at : (nodes : List Node) (n s : ℕ) → s < n → below d step nodes n s ≡ at_term d step nodes s
  below_at nodes zero s lt = absurd (omega arith)
  below_at nodes (suc n) s lt =
      ⊎_elim
      (λ e. subst (λ k. below d step nodes (suc k) s ≡ at_term d step nodes s) e refl)
      (λ less. let ne : s ≡ n → ⊥ = omega arith in there nodes n s ne ∙ below_at nodes n s less)
      (eq_or_lt s n lt)

  -- a term's own equation
  pub at_term_is : (nodes : List Node) (t : ℕ) → AllByRecursion (λ a. a < t) (node_at nodes t).args → at_term d step nodes t ≡ step t (node_at nodes t).op (map (at_term d step nodes) (node_at nodes t).args)
  at_term_is nodes t earlier =
      here nodes t ∙ ap (step t (node_at nodes t).op) (same_map (λ a. a < t) (below d step nodes t) (at_term d step nodes) (λ a lt. below_at nodes t a lt) (node_at nodes t).args earlier)

  -- more terms change nothing of those before
  below_longer : (nodes more : List Node) (n : ℕ) → n ≤ length nodes → below d step (nodes ++ more) n ≡ below d step nodes n
  unfolding below
  below_longer nodes more zero le = refl
  below_longer nodes more (suc n) le =
      let ih = below_longer nodes more n (omega arith) in
      let same : node_at (nodes ++ more) n ≡ node_at nodes n = get_or_append_left nodes more no_node n le in
      ap (λ p. λ t. if t == n then step n p.1.op (map p.0 p.1.args) else p.0 t) (pair ih same)

  pub at_term_longer : (nodes more : List Node) (t : ℕ) → t < length nodes → at_term d step (nodes ++ more) t ≡ at_term d step nodes t
  at_term_longer nodes more t lt = ap (λ f. f t) (below_longer nodes more (suc t) lt)
