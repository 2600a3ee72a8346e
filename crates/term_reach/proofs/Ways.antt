-- Ways from terms to terms, and what is closed under steps.
use Rattle.std.proofs.Common.{◌≡◌, ℕ, ◌<◌, ◌≤◌, List, [], ◌∷◌, ◌++◌, length, refl, sym, ap, subst, arith, ⊎_elim}
use Rattle.std.specs.Prelude.{Contains, All}
use Rattle.std.proofs.lemmas.Bool.{cases_lt}
use Rattle.std.proofs.lemmas.List.Elements.{All-contains, All-from_recursion}
use Rattle.smt_terms.specs.declared.node.Node.{Node}
use Rattle.smt_terms.specs.Terms.{IsTermList}
use Rattle.smt_terms.proofs.Growing.{node_past}
use Rattle.term_reach.specs.Reach.{arguments, IsWay, Reaches, IsReached, IsClosed, IsReach, IsAcyclic, LeadsBelow}

module _ (next : ℕ → List ℕ) where
  pub reaches_itself : (t : ℕ) → Reaches next t t
  reaches_itself t = ([], refl)

  way_further : (t : ℕ) (way : List ℕ) (u v : ℕ) → IsWay next t way u → Contains (next u) v → IsWay next t (way ++ v ∷ []) v
  way_further t [] u v e c = (subst (λ x. Contains (next x) v) (sym e) c, refl)
  way_further t (s ∷ way) u v h c = (h.0, way_further s way u v h.1 c)

  -- what a term reaches leads on
  pub reaches_further : (t u v : ℕ) → Reaches next t u → Contains (next u) v → Reaches next t v
  reaches_further t u v r c = (r.0 ++ v ∷ [], way_further t r.0 u v r.1 c)

  pub reached_further : (roots : List ℕ) (u v : ℕ) → IsReached next roots u → Contains (next u) v → IsReached next roots v
  reached_further roots u v r c = (r.0, r.1, reaches_further r.0 u v r.2 c)

  pub root_reached : (roots : List ℕ) (t : ℕ) → Contains roots t → IsReached next roots t
  root_reached roots t c = (t, c, reaches_itself t)

  -- what has with a term all to which it leads has all that the term reaches
  pub way_closed : (Is : ℕ → Type 0) → IsClosed next Is → (t : ℕ) (way : List ℕ) (u : ℕ) → IsWay next t way u → Is t → Is u
  way_closed Is closed t [] u e is = subst Is e is
  way_closed Is closed t (s ∷ way) u h is = way_closed Is closed s way u h.1 (closed t s is h.0)

  pub reached_closed : (Is : ℕ → Type 0) (roots : List ℕ) → IsClosed next Is → ((t : ℕ) → Contains roots t → Is t) → (u : ℕ) → IsReached next roots u → Is u
  reached_closed Is roots closed begun u r = way_closed Is closed r.0 r.2.0 u r.2.1 (begun r.0 r.1)

-- ---- arguments

-- the arguments of a term come before it
pub argument_earlier : (nodes : List Node) → IsTermList nodes → (t u : ℕ) → Contains (arguments nodes t) u → u < t
argument_earlier nodes list t u c = ⊎_elim
    (λ lt. All-contains (λ a. a < t) (arguments nodes t) u (All-from_recursion (λ a. a < t) (arguments nodes t) (list t lt).earlier) c)
    (λ le. absurd (none t u le c))
    (cases_lt t (length nodes))
  where
    none : (t u : ℕ) → length nodes ≤ t → Contains (arguments nodes t) u → ⊥
    none t u le c = let e : length (arguments nodes t) ≡ 0 = ap (λ (n : Node). length n.args) (node_past nodes t le) in omega (arith, e, c.1)

pub arguments_acyclic : (nodes : List Node) → IsTermList nodes → IsAcyclic (arguments nodes)
arguments_acyclic nodes list = (λ t. t, argument_earlier nodes list)

pub arguments_below : (nodes : List Node) → IsTermList nodes → LeadsBelow (length nodes) (arguments nodes)
arguments_below nodes list t u c = ⊎_elim
    (λ lt. (let e = argument_earlier nodes list t u c in omega (arith, lt, e)))
    (λ le. absurd (let e : length (arguments nodes t) ≡ 0 = ap (λ (n : Node). length n.args) (node_past nodes t le) in omega (arith, e, c.1)))
    (cases_lt t (length nodes))

-- what terms reach through arguments is held where they are
pub arguments_held : (nodes : List Node) (roots reached : List ℕ) → IsTermList nodes → All (λ t. t < length nodes) roots → IsReach (arguments nodes) roots reached → (t : ℕ) → Contains reached t → t < length nodes
arguments_held nodes roots reached list held r t c =
    reached_closed (arguments nodes) (λ u. u < length nodes) roots (λ a b lt l. arguments_below nodes list a b l) (λ u root. All-contains (λ a. a < length nodes) roots u held root) t (r.only t c)
