-- The moves and the accesses of terms by their shapes.
use Rattle.std.proofs.Common.{◌≡◌, ℕ, true, false, List, Option, Some, None, refl, sym, ap, ◌∙◌, subst, ⊎_elim}
use Rattle.std.specs.Prelude.{slice_get, Contains}
use Rattle.smt_terms.specs.declared.sort.Sort.{Sort}
use Rattle.smt_terms.specs.declared.node.Node.{Node}
use Rattle.smt_terms.specs.Nodes.{node_at}
use Rattle.smt_terms.specs.Ranks.{index_sort, is_array}
use Rattle.smt_terms.specs.Terms.{sort_of, IsTermList}
use Rattle.smt_terms.specs.Values.{Interpretation, no_value, value}
use Rattle.smt_terms.proofs.Evaluating.{value_is_evaluation}
use Rattle.theory_terms.specs.declared.shape.Shape.{Shape}
use Rattle.theory_terms.specs.declared.shape.Shape.TheVariants.{Selecting, Storing, Filling, Choosing, Equating, Witnessing, Applying, Declaring, Other}
use Rattle.theory_terms.specs.declared.lemma.Move.{Move}
use Rattle.theory_terms.specs.declared.lemma.Move.TheVariants as by
use Rattle.theory_terms.specs.declared.atom.Landing.{Landing}
use Rattle.theory_terms.specs.declared.atom.Turn.{Turn}
use Rattle.theory_terms.specs.declared.atom.Atom.TheVariants.{Holds as Holds', Fails as Fails'}
use Rattle.theory_terms.proofs.Sound.{between_is}
use Rattle.theory_terms.specs.Shapes.{shape_at}
use Rattle.theory_terms.specs.Named.{mover}
use Rattle.theory_terms.specs.Lemmas.{start_of, between, store_turn, then_turn, else_turn, sides_turn, turn_of}
use Rattle.theory_terms.proofs.Shapes.{FactsOf, facts}
use Rattle.access_walk.specs.declared.guard.Guard.TheVariants.{Differs, Holds, Fails}
use Rattle.access_walk.specs.declared.network.Network.{Network}
use Rattle.access_walk.specs.Maps.{AreIndexes}
use Rattle.access_walk.specs.Building.{IsMoveOf, Grows, HasTerm}

module _ (nodes : List Node) (terms : IsTermList nodes) where
  pub fact : (t : ℕ) (k : Shape) → shape_at nodes t ≡ k → FactsOf (record { constants = λ d. no_value; functions = λ d vs. no_value }) (sort_of nodes) (value (record { constants = λ d. no_value; functions = λ d vs. no_value }) nodes) t (node_at nodes t) k
  fact t k e =
      let M : Interpretation = record { constants = λ d. no_value; functions = λ d vs. no_value } in
      subst (FactsOf M (sort_of nodes) (value M nodes) t (node_at nodes t)) e (facts M nodes (value M nodes) terms (value_is_evaluation M nodes terms) t)

  pub store_index : (t b j x : ℕ) → shape_at nodes t ≡ Storing b j x → AreIndexes nodes t j
  store_index t b j x e = let f = fact t (Storing b j x) e in record { width = f.index; array = ap index_sort f.sort; index = f.index_sort }

  pub select_index : (t a i : ℕ) → shape_at nodes t ≡ Selecting a i → AreIndexes nodes a i
  select_index t a i e = let f = fact t (Selecting a i) e in record { width = f.index; array = ap index_sort f.array_sort; index = f.index_sort }

  pub store_move : (arrays : List ℕ) (p q t b j x : ℕ) → shape_at nodes t ≡ Storing b j x → slice_get arrays p ≡ Some t → slice_get arrays q ≡ Some b → IsMoveOf nodes arrays p q (by.Store t) (Differs j)
  store_move arrays p q t b j x e here there =
      let f = fact t (Storing b j x) e in
      record { from = t; to = b; is_from = here; is_to = there; same = f.sort ∙ sym f.array_sort; index = store_index t b j x e; turns = λ i s. ap (store_turn s i t) e }

-- a store has its own move alone
pub store_moves : (nodes : List Node) (t b j x i a : ℕ) (m : Move) (w : Turn) → shape_at nodes t ≡ Storing b j x → mover m ≡ t → turn_of nodes i a m ≡ Some w → by.Store t ≡ m
store_moves nodes t b j x i a (by.Store u) w e same turn = ap by.Store (sym same)
store_moves nodes t b j x i a (by.Then u) w e same turn =
    let k : shape_at nodes u ≡ Storing b j x = ap (shape_at nodes) same ∙ e in
    let z : None ≡ Some w = sym (ap (then_turn a u) k) ∙ turn in
    let f : ⊥ = cc in absurd f
store_moves nodes t b j x i a (by.Else u) w e same turn =
    let k : shape_at nodes u ≡ Storing b j x = ap (shape_at nodes) same ∙ e in
    let z : None ≡ Some w = sym (ap (else_turn a u) k) ∙ turn in
    let f : ⊥ = cc in absurd f
store_moves nodes t b j x i a (by.Sides u) w e same turn =
    let k : shape_at nodes u ≡ Storing b j x = ap (shape_at nodes) same ∙ e in
    let z : None ≡ Some w = sym (ap (sides_turn a u) k) ∙ turn in
    let f : ⊥ = cc in absurd f

pub store_has : (nodes : List Node) (mid new : Network) (t b j x : ℕ) → shape_at nodes t ≡ Storing b j x → Contains mid.landings.items (record { array = t; index = j; value = x }) → Grows mid new → Contains new.moves.items (by.Store t) → HasTerm nodes new t
store_has nodes mid new t b j x e c grows has = record {
  start = λ l s.
      let z : Some (record { array = t; index = j; value = x }) ≡ Some l = sym (ap (start_of t) e) ∙ s in
      let same : record { array = t; index = j; value = x } ≡ l = cc in
      subst (Contains new.landings.items) same (grows.landings (record { array = t; index = j; value = x }) c);
  moves = λ i a m w same is turn. subst (Contains new.moves.items) (store_moves nodes t b j x i a m w e same turn) has;
}

pub both_grow : (old mid new : Network) → Grows old mid → Grows mid new → Grows old new
both_grow old mid new p q = record { moves = λ m c. q.moves m (p.moves m c); landings = λ l c. q.landings l (p.landings l c) }

-- ---- terms without moves

-- a term of this shape makes no move
abbrev pub IsStill : Shape → Type 0
IsStill (Selecting a i) = Unit {0}
IsStill (Storing b j x) = ⊥
IsStill (Filling x) = Unit {0}
IsStill (Choosing c a b) = ⊥
IsStill (Equating a b) = ⊥
IsStill (Witnessing a b) = Unit {0}
IsStill (Applying d) = Unit {0}
IsStill (Declaring d q) = Unit {0}
IsStill Other = Unit {0}

no_store : (k : Shape) (a i t : ℕ) → IsStill k → store_turn a i t k ≡ None
no_store (Selecting x y) a i t s = refl
no_store (Storing b j x) a i t s = absurd s
no_store (Filling x) a i t s = refl
no_store (Choosing c x y) a i t s = absurd s
no_store (Equating x y) a i t s = absurd s
no_store (Witnessing x y) a i t s = refl
no_store (Applying d) a i t s = refl
no_store (Declaring d q) a i t s = refl
no_store Other a i t s = refl

no_then : (k : Shape) (a t : ℕ) → IsStill k → then_turn a t k ≡ None
no_then (Selecting x y) a t s = refl
no_then (Storing b j x) a t s = absurd s
no_then (Filling x) a t s = refl
no_then (Choosing c x y) a t s = absurd s
no_then (Equating x y) a t s = absurd s
no_then (Witnessing x y) a t s = refl
no_then (Applying d) a t s = refl
no_then (Declaring d q) a t s = refl
no_then Other a t s = refl

no_else : (k : Shape) (a t : ℕ) → IsStill k → else_turn a t k ≡ None
no_else (Selecting x y) a t s = refl
no_else (Storing b j x) a t s = absurd s
no_else (Filling x) a t s = refl
no_else (Choosing c x y) a t s = absurd s
no_else (Equating x y) a t s = absurd s
no_else (Witnessing x y) a t s = refl
no_else (Applying d) a t s = refl
no_else (Declaring d q) a t s = refl
no_else Other a t s = refl

no_sides : (k : Shape) (a t : ℕ) → IsStill k → sides_turn a t k ≡ None
no_sides (Selecting x y) a t s = refl
no_sides (Storing b j x) a t s = absurd s
no_sides (Filling x) a t s = refl
no_sides (Choosing c x y) a t s = absurd s
no_sides (Equating x y) a t s = absurd s
no_sides (Witnessing x y) a t s = refl
no_sides (Applying d) a t s = refl
no_sides (Declaring d q) a t s = refl
no_sides Other a t s = refl

none_some : (o : Option Turn) (w : Turn) → o ≡ None → o ≡ Some w → ⊥
none_some o w p q = let z : None ≡ Some w = sym p ∙ q in let f : ⊥ = cc in f

still_moves : (nodes : List Node) (t i a : ℕ) (m : Move) (w : Turn) → IsStill (shape_at nodes t) → mover m ≡ t → turn_of nodes i a m ≡ Some w → ⊥
still_moves nodes t i a (by.Store u) w s same turn = none_some (turn_of nodes i a (by.Store u)) w (no_store (shape_at nodes u) a i u (subst (λ x. IsStill (shape_at nodes x)) (sym same) s)) turn
still_moves nodes t i a (by.Then u) w s same turn = none_some (turn_of nodes i a (by.Then u)) w (no_then (shape_at nodes u) a u (subst (λ x. IsStill (shape_at nodes x)) (sym same) s)) turn
still_moves nodes t i a (by.Else u) w s same turn = none_some (turn_of nodes i a (by.Else u)) w (no_else (shape_at nodes u) a u (subst (λ x. IsStill (shape_at nodes x)) (sym same) s)) turn
still_moves nodes t i a (by.Sides u) w s same turn = none_some (turn_of nodes i a (by.Sides u)) w (no_sides (shape_at nodes u) a u (subst (λ x. IsStill (shape_at nodes x)) (sym same) s)) turn

pub select_has : (nodes : List Node) (new : Network) (t a i : ℕ) → shape_at nodes t ≡ Selecting a i → Contains new.landings.items (record { array = a; index = i; value = t }) → HasTerm nodes new t
select_has nodes new t a i e c = record {
  start = λ l s.
      let z : Some (record { array = a; index = i; value = t }) ≡ Some l = sym (ap (start_of t) e) ∙ s in
      let same : record { array = a; index = i; value = t } ≡ l = cc in
      subst (Contains new.landings.items) same c;
  moves = λ j x m w same is turn. absurd (still_moves nodes t j x m w (subst IsStill (sym e) tt) same turn);
}

-- ---- choices and equalities

module _ (nodes : List Node) (terms : IsTermList nodes) where
  pub then_move : (arrays : List ℕ) (p q t c a b : ℕ) → shape_at nodes t ≡ Choosing c a b → slice_get arrays p ≡ Some t → slice_get arrays q ≡ Some a → IsMoveOf nodes arrays p q (by.Then t) (Holds c)
  then_move arrays p q t c a b e here there =
      let f = fact nodes terms t (Choosing c a b) e in
      record { from = t; to = a; is_from = here; is_to = there; same = sym f.then_sort; index = tt; turns = λ i s. ap (then_turn s t) e }

  pub else_move : (arrays : List ℕ) (p q t c a b : ℕ) → shape_at nodes t ≡ Choosing c a b → slice_get arrays p ≡ Some t → slice_get arrays q ≡ Some b → IsMoveOf nodes arrays p q (by.Else t) (Fails c)
  else_move arrays p q t c a b e here there =
      let f = fact nodes terms t (Choosing c a b) e in
      record { from = t; to = b; is_from = here; is_to = there; same = sym f.else_sort; index = tt; turns = λ i s. ap (else_turn s t) e }

  pub sides_move : (arrays : List ℕ) (p q t a b : ℕ) → shape_at nodes t ≡ Equating a b → slice_get arrays p ≡ Some a → slice_get arrays q ≡ Some b → IsMoveOf nodes arrays p q (by.Sides t) (Holds t)
  sides_move arrays p q t a b e here there =
      let f = fact nodes terms t (Equating a b) e in
      record { from = a; to = b; is_from = here; is_to = there; same = f.same; index = tt; turns = λ i s. ap (sides_turn s t) e }

  array_false : (x y : ℕ) → sort_of nodes x ≡ sort_of nodes y → is_array (sort_of nodes y) ≡ false → is_array (sort_of nodes x) ≡ true → ⊥
  array_false x y e no' yes' = let z : true ≡ false = sym yes' ∙ ap is_array e ∙ no' in let f : ⊥ = cc in f

  -- a choice of no arrays makes no move from an array
  pub choice_still : (new : Network) (t c a b : ℕ) → shape_at nodes t ≡ Choosing c a b → is_array (sort_of nodes t) ≡ false → HasTerm nodes new t
  choice_still new t c a b e plain = record {
    start = λ l s. let z : None ≡ Some l = sym (ap (start_of t) e) ∙ s in let f : ⊥ = cc in absurd f;
    moves = λ i x m w same array turn. absurd (go m x i w same array turn);
  } where
    go : (m : Move) (x i : ℕ) (w : Turn) → mover m ≡ t → is_array (sort_of nodes x) ≡ true → turn_of nodes i x m ≡ Some w → ⊥
    go (by.Store u) x i w same array turn = none_some (turn_of nodes i x (by.Store u)) w (ap (store_turn x i u) (ap (shape_at nodes) same ∙ e)) turn
    go (by.Sides u) x i w same array turn = none_some (turn_of nodes i x (by.Sides u)) w (ap (sides_turn x u) (ap (shape_at nodes) same ∙ e)) turn
    go (by.Then u) x i w same array turn =
        let own : between x u a (Fails' c) ≡ Some w = sym (ap (then_turn x u) (ap (shape_at nodes) same ∙ e)) ∙ turn in
        ⊎_elim (λ p. array_false x t (ap (sort_of nodes) (p.0 ∙ same)) plain array) (λ p. array_false x t (ap (sort_of nodes) p.0 ∙ (fact nodes terms t (Choosing c a b) e).then_sort) plain array) (between_is x u a (Fails' c) w own)
    go (by.Else u) x i w same array turn =
        let own : between x u b (Holds' c) ≡ Some w = sym (ap (else_turn x u) (ap (shape_at nodes) same ∙ e)) ∙ turn in
        ⊎_elim (λ p. array_false x t (ap (sort_of nodes) (p.0 ∙ same)) plain array) (λ p. array_false x t (ap (sort_of nodes) p.0 ∙ (fact nodes terms t (Choosing c a b) e).else_sort) plain array) (between_is x u b (Holds' c) w own)

  -- an equality of no arrays makes no move from an array
  pub equality_still : (new : Network) (t a b : ℕ) → shape_at nodes t ≡ Equating a b → is_array (sort_of nodes a) ≡ false → HasTerm nodes new t
  equality_still new t a b e plain = record {
    start = λ l s. let z : None ≡ Some l = sym (ap (start_of t) e) ∙ s in let f : ⊥ = cc in absurd f;
    moves = λ i x m w same array turn. absurd (go m x i w same array turn);
  } where
    go : (m : Move) (x i : ℕ) (w : Turn) → mover m ≡ t → is_array (sort_of nodes x) ≡ true → turn_of nodes i x m ≡ Some w → ⊥
    go (by.Store u) x i w same array turn = none_some (turn_of nodes i x (by.Store u)) w (ap (store_turn x i u) (ap (shape_at nodes) same ∙ e)) turn
    go (by.Then u) x i w same array turn = none_some (turn_of nodes i x (by.Then u)) w (ap (then_turn x u) (ap (shape_at nodes) same ∙ e)) turn
    go (by.Else u) x i w same array turn = none_some (turn_of nodes i x (by.Else u)) w (ap (else_turn x u) (ap (shape_at nodes) same ∙ e)) turn
    go (by.Sides u) x i w same array turn =
        let own : between x a b (Fails' u) ≡ Some w = sym (ap (sides_turn x u) (ap (shape_at nodes) same ∙ e)) ∙ turn in
        ⊎_elim (λ p. array_false x a (ap (sort_of nodes) p.0) plain array) (λ p. array_false x a (ap (sort_of nodes) p.0 ∙ sym (fact nodes terms t (Equating a b) e).same) plain array) (between_is x a b (Fails' u) w own)

pub choice_has : (nodes : List Node) (new : Network) (t c a b : ℕ) → shape_at nodes t ≡ Choosing c a b → Contains new.moves.items (by.Then t) → Contains new.moves.items (by.Else t) → HasTerm nodes new t
choice_has nodes new t c a b e first second = record {
  start = λ l s. let z : None ≡ Some l = sym (ap (start_of t) e) ∙ s in let f : ⊥ = cc in absurd f;
  moves = λ i x m w same array turn. go m x i w same turn;
} where
  go : (m : Move) (x i : ℕ) (w : Turn) → mover m ≡ t → turn_of nodes i x m ≡ Some w → Contains new.moves.items m
  go (by.Store u) x i w same turn = absurd (none_some (turn_of nodes i x (by.Store u)) w (ap (store_turn x i u) (ap (shape_at nodes) same ∙ e)) turn)
  go (by.Sides u) x i w same turn = absurd (none_some (turn_of nodes i x (by.Sides u)) w (ap (sides_turn x u) (ap (shape_at nodes) same ∙ e)) turn)
  go (by.Then u) x i w same turn = subst (λ y. Contains new.moves.items (by.Then y)) (sym same) first
  go (by.Else u) x i w same turn = subst (λ y. Contains new.moves.items (by.Else y)) (sym same) second

pub equality_has : (nodes : List Node) (new : Network) (t a b : ℕ) → shape_at nodes t ≡ Equating a b → Contains new.moves.items (by.Sides t) → HasTerm nodes new t
equality_has nodes new t a b e has = record {
  start = λ l s. let z : None ≡ Some l = sym (ap (start_of t) e) ∙ s in let f : ⊥ = cc in absurd f;
  moves = λ i x m w same array turn. go m x i w same turn;
} where
  go : (m : Move) (x i : ℕ) (w : Turn) → mover m ≡ t → turn_of nodes i x m ≡ Some w → Contains new.moves.items m
  go (by.Store u) x i w same turn = absurd (none_some (turn_of nodes i x (by.Store u)) w (ap (store_turn x i u) (ap (shape_at nodes) same ∙ e)) turn)
  go (by.Then u) x i w same turn = absurd (none_some (turn_of nodes i x (by.Then u)) w (ap (then_turn x u) (ap (shape_at nodes) same ∙ e)) turn)
  go (by.Else u) x i w same turn = absurd (none_some (turn_of nodes i x (by.Else u)) w (ap (else_turn x u) (ap (shape_at nodes) same ∙ e)) turn)
  go (by.Sides u) x i w same turn = subst (λ y. Contains new.moves.items (by.Sides y)) (sym same) has

-- any other term begins no access and makes no move
pub still_has : (nodes : List Node) (new : Network) (t : ℕ) (k : Shape) → shape_at nodes t ≡ k → IsStill k → ((l : Landing) → start_of t k ≡ Some l → ⊥) → HasTerm nodes new t
still_has nodes new t k e s none = record {
  start = λ l p. absurd (none l (sym (ap (start_of t) e) ∙ p));
  moves = λ i x m w same array turn. absurd (still_moves nodes t i x m w (subst IsStill (sym e) s) same turn);
}

pub filling_has : (nodes : List Node) (n : Network) (t x : ℕ) → shape_at nodes t ≡ Filling x → HasTerm nodes n t
filling_has nodes n t x e = still_has nodes n t (Filling x) e tt (λ l p. let f : ⊥ = cc in f)

pub witness_has : (nodes : List Node) (n : Network) (t a b : ℕ) → shape_at nodes t ≡ Witnessing a b → HasTerm nodes n t
witness_has nodes n t a b e = still_has nodes n t (Witnessing a b) e tt (λ l p. let f : ⊥ = cc in f)

pub applying_has : (nodes : List Node) (n : Network) (t d : ℕ) → shape_at nodes t ≡ Applying d → HasTerm nodes n t
applying_has nodes n t d e = still_has nodes n t (Applying d) e tt (λ l p. let f : ⊥ = cc in f)

pub declaring_has : (nodes : List Node) (n : Network) (t d : ℕ) (q : Sort) → shape_at nodes t ≡ Declaring d q → HasTerm nodes n t
declaring_has nodes n t d q e = still_has nodes n t (Declaring d q) e tt (λ l p. let f : ⊥ = cc in f)

pub other_has : (nodes : List Node) (n : Network) (t : ℕ) → shape_at nodes t ≡ Other → HasTerm nodes n t
other_has nodes n t e = still_has nodes n t Other e tt (λ l p. let f : ⊥ = cc in f)

pub stays_grows : (n : Network) → Grows n n
stays_grows n = record { moves = λ m c. c; landings = λ l c. c }

-- what has a term has it when more is there
pub has_grows : (nodes : List Node) (old new : Network) (t : ℕ) → Grows old new → HasTerm nodes old t → HasTerm nodes new t
has_grows nodes old new t g h = record { start = λ l e. g.landings l (h.start l e); moves = λ i a m w e array turn. g.moves m (h.moves i a m w e array turn) }
