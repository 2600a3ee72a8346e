-- What the terms of a list reach: themselves, and what their arguments reach.
use Rattle.std.proofs.Common.{◌≡◌, ℕ, zero, suc, ◌<◌, Bool, true, false, List, [], ◌∷◌, length, map, refl, sym, ap, ◌∙◌, subst, arith, ⊎_elim, eq-eqb}
use Rattle.std.specs.Prelude.{◌==◌, ◌||◌, nat_lt}
use Rattle.std.specs.List.{list_any, AllByRecursion}
use Rattle.std.proofs.lemmas.Bool.{eqb-true, cases_lt, or_left, or_right, and_parts, and_from}
use Rattle.smt_terms.specs.declared.node.Node.{Node}
use Rattle.smt_terms.specs.Nodes.{node_at, at_term}
use Rattle.smt_terms.specs.Terms.{IsTermList}
use Rattle.smt_terms.proofs.Recursion.{at_term_is}
use Rattle.smt_terms.proofs.Growing.{node_past}
use Rattle.smt_build.specs.Definitions.{reaches}

any_map : (f : ℕ → Bool) (ts : List ℕ) → list_any (λ b. b) (map f ts) ≡ list_any f ts
any_map f [] = refl
any_map f (t ∷ ts) = ap (λ b. f t || b) (any_map f ts)

-- ---- terms of a list

abbrev pub IsAmong : List ℕ → ℕ → Type 0
IsAmong ts w = list_any (λ a. a == w) ts ≡ true

pub all_among : (P : ℕ → Type 0) (ts : List ℕ) (w : ℕ) → AllByRecursion P ts → IsAmong ts w → P w
all_among P [] w h k = absurd (let z : ⊥ = cc in z)
all_among P (t ∷ ts) w h k = go (t == w) refl k (all_among P ts w h.1) where
  go : (b : Bool) → (t == w) ≡ b → (b || list_any (λ a. a == w) ts) ≡ true → (IsAmong ts w → P w) → P w
  go true e q rest = subst P (eqb-true t w e) h.0
  go false e q rest = rest q

pub all_from : (P : ℕ → Type 0) (ts : List ℕ) → ((a : ℕ) → IsAmong ts a → P a) → AllByRecursion P ts
all_from P [] f = tt
all_from P (t ∷ ts) f = (f t (or_left (t == t) _ (eq-eqb t t refl)), all_from P ts (λ a k. f a (or_right (t == a) _ k)))

any_among : (p : ℕ → Bool) (ts : List ℕ) (w : ℕ) → IsAmong ts w → p w ≡ true → list_any p ts ≡ true
any_among p [] w k h = absurd (let z : ⊥ = cc in z)
any_among p (t ∷ ts) w k h = go (t == w) refl k (λ q. any_among p ts w q h) where
  go : (b : Bool) → (t == w) ≡ b → (b || list_any (λ a. a == w) ts) ≡ true → (IsAmong ts w → list_any p ts ≡ true) → (p t || list_any p ts) ≡ true
  go true e q rest = or_left (p t) _ (ap p (eqb-true t w e) ∙ h)
  go false e q rest = or_right (p t) _ (rest q)

some_among : (p : ℕ → Bool) (ts : List ℕ) → list_any p ts ≡ true → (w : ℕ) × IsAmong ts w × (p w ≡ true)
some_among p [] h = absurd (let z : ⊥ = cc in z)
some_among p (t ∷ ts) h = go (p t) refl h (some_among p ts) where
  go : (b : Bool) → p t ≡ b → (b || list_any p ts) ≡ true → (list_any p ts ≡ true → (w : ℕ) × IsAmong ts w × (p w ≡ true)) → (w : ℕ) × IsAmong (t ∷ ts) w × (p w ≡ true)
  go true e q rest = (t, or_left (t == t) _ (eq-eqb t t refl), e)
  go false e q rest = let r = rest q in (r.0, or_right (t == r.0) _ r.1, r.2)

-- ---- what a term reaches

-- the arguments of each term come before it, past the end too
pub earlier : (nodes : List Node) → IsTermList nodes → (t : ℕ) → AllByRecursion (λ a. a < t) (node_at nodes t).args
earlier nodes list t = ⊎_elim
    (λ lt. (list t lt).earlier)
    (λ le. subst (λ (n : Node). AllByRecursion (λ a. a < t) n.args) (sym (node_past nodes t le)) tt)
    (cases_lt t (length nodes))

abbrev reach : List Node → ℕ → ℕ → Bool
reach nodes t u = at_term false (λ v op found. (v == u) || list_any (λ b. b) found) nodes t

module _ (nodes : List Node) (list : IsTermList nodes) where
  abbrev args_of : ℕ → List ℕ
  args_of t = (node_at nodes t).args

  reach_is : (t u : ℕ) → reach nodes t u ≡ ((t == u) || list_any (λ w. reach nodes w u) (args_of t))
  reach_is t u =
      at_term_is false (λ v op found. (v == u) || list_any (λ b. b) found) nodes t (earlier nodes list t)
      ∙ ap (λ b. (t == u) || b) (any_map (λ w. reach nodes w u) (args_of t))

  reach_self : (t : ℕ) → reach nodes t t ≡ true
  reach_self t = reach_is t t ∙ or_left (t == t) _ (eq-eqb t t refl)

  reach_by : (t w u : ℕ) → IsAmong (args_of t) w → reach nodes w u ≡ true → reach nodes t u ≡ true
  reach_by t w u k h = reach_is t u ∙ or_right (t == u) _ (any_among (λ w. reach nodes w u) (args_of t) w k h)

  -- what holds of a term, and of each term with an argument of which it holds, holds of all that reach the term
  module _ (u : ℕ) (Q : ℕ → Type 0) (here : Q u) (up : (t w : ℕ) → IsAmong (args_of t) w → Q w → Q t) where
    upwards : (n t : ℕ) → t < n → reach nodes t u ≡ true → Q t
    upwards zero t lt h = absurd (omega arith)
    upwards (suc n) t lt h = go (t == u) refl (sym (reach_is t u) ∙ h) (λ w less k. upwards n w (omega (arith, lt, less)) k) where
      go : (b : Bool) → (t == u) ≡ b → (b || list_any (λ w. reach nodes w u) (args_of t)) ≡ true → ((w : ℕ) → w < t → reach nodes w u ≡ true → Q w) → Q t
      go true e q rest = subst Q (sym (eqb-true t u e)) here
      go false e q rest = let r = some_among (λ w. reach nodes w u) (args_of t) q in up t r.0 r.1 (rest r.0 (all_among (λ a. a < t) (args_of t) r.0 (earlier nodes list t) r.1) r.2)

  -- the arguments of what a term reaches are reached
  pub reaches_args : (t u a : ℕ) → reaches nodes t u ≡ true → IsAmong (args_of u) a → reaches nodes t a ≡ true
  reaches_args t u a h k =
      let p = and_parts (nat_lt t (length nodes)) (reach nodes t u) h in
      and_from (nat_lt t (length nodes)) (reach nodes t a) p.0 (upwards u (λ t. reach nodes t a ≡ true) (reach_by u a a k (reach_self a)) (λ t w m q. reach_by t w a m q) (suc t) t (omega arith) p.1)

  -- what the arguments of each term take from it, all that it reaches takes from it
  pub reached_has : (Has : ℕ → Type 0) → ((t : ℕ) → Has t → AllByRecursion Has (args_of t)) → (t u : ℕ) → reaches nodes t u ≡ true → Has t → Has u
  reached_has Has parts t u h has =
      let p = and_parts (nat_lt t (length nodes)) (reach nodes t u) h in
      upwards u (λ t. Has t → Has u) (λ k. k) (λ t w m q k. q (all_among Has (args_of t) w (parts t k) m)) (suc t) t (omega arith) p.1 has
