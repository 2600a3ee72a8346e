-- A network with one move more.
use Rattle.std.proofs.Common.{◌≡◌, ℕ, zero, suc, ◌+◌, Bool, true, false, List, [], ◌∷◌, ◌++◌, length, Some, refl, sym, ap, ◌∙◌, subst, inl, inr, ⊎_elim, arith}
use Rattle.std.specs.Prelude.{◌⊎◌, ◌==◌, slice_get, Contains}
use Rattle.std.proofs.lemmas.Bool.{eqb-true, eqb-false}
use Rattle.std.proofs.lemmas.List.{length-append}
use Rattle.std.proofs.lemmas.List.Elements.{Contains-append_left, Contains-append_right, Contains-append_cases}
use Rattle.smt_terms.specs.declared.node.Node.{Node}
use Rattle.theory_terms.specs.declared.lemma.Move.{Move}
use Rattle.theory_terms.specs.declared.atom.Landing.{Landing}
use Rattle.theory_terms.specs.declared.atom.Turn.{Turn}
use Rattle.theory_terms.specs.Lemmas.{landing_of, between, turn_of}
use Rattle.theory_terms.specs.declared.lemma.Start as of
use Rattle.access_spread.specs.declared.graph.Graph.{Graph}
use Rattle.theory_terms.proofs.Sound.{between_is}
use Rattle.term_reach.specs.Reach.{IsOnce}
use Rattle.access_spread.specs.declared.graph.Edge.{Edge}
use Rattle.access_spread.specs.Graphs.{IsGraph}
use Rattle.access_tables.proofs.Closed.{between_first, between_second}
use Rattle.smt_terms.specs.Ranks.{index_sort}
use Rattle.access_walk.specs.declared.guard.Guard.{Guard}
use Rattle.access_walk.specs.declared.guard.Guard.TheVariants.{Differs, Holds, Fails}
use Rattle.access_walk.specs.declared.network.Network.{Network}
use Rattle.access_walk.specs.Maps.{unless_of, HasIndex, AreIndexes, IsArc}
use Rattle.theory_terms.specs.Named.{mover}
use Rattle.access_walk.specs.Building.{IsWhole, IsSound, BeginsWhole, IsEntered, IsMoveOf, Grows}

-- ---- two items more

module _ {A : Type 0} where
  get_front : (xs : List A) (y z : A) (k : ℕ) (x : A) → slice_get xs k ≡ Some x → slice_get (xs ++ y ∷ z ∷ []) k ≡ Some x
  get_front [] y z k x e = let f : ⊥ = cc in absurd f
  get_front (w ∷ xs) y z zero x e = e
  get_front (w ∷ xs) y z (suc k) x e = get_front xs y z k x e

  get_first : (xs : List A) (y z : A) (k : ℕ) → k ≡ length xs → slice_get (xs ++ y ∷ z ∷ []) k ≡ Some y
  get_first [] y z zero e = refl
  get_first [] y z (suc k) e = absurd (omega (arith, e))
  get_first (w ∷ xs) y z zero e = absurd (omega (arith, e))
  get_first (w ∷ xs) y z (suc k) e = get_first xs y z k (omega (arith, e))

  get_second : (xs : List A) (y z : A) (k : ℕ) → k ≡ suc (length xs) → slice_get (xs ++ y ∷ z ∷ []) k ≡ Some z
  get_second [] y z zero e = absurd (omega (arith, e))
  get_second [] y z (suc zero) e = refl
  get_second [] y z (suc (suc k)) e = absurd (omega (arith, e))
  get_second (w ∷ xs) y z zero e = absurd (omega (arith, e))
  get_second (w ∷ xs) y z (suc k) e = get_second xs y z k (omega (arith, e))

  abbrev pub Two : List A → A → A → ℕ → A → Type 0
  Two xs y z k x = (slice_get xs k ≡ Some x) ⊎ (((k ≡ length xs) × (x ≡ y)) ⊎ ((k ≡ suc (length xs)) × (x ≡ z)))

  get_cases : (xs : List A) (y z : A) (k : ℕ) (x : A) → slice_get (xs ++ y ∷ z ∷ []) k ≡ Some x → Two xs y z k x
  get_cases [] y z zero x e = inr (inl (refl, (let same : x ≡ y = cc in same)))
  get_cases [] y z (suc zero) x e = inr (inr (refl, (let same : x ≡ z = cc in same)))
  get_cases [] y z (suc (suc k)) x e = let f : ⊥ = cc in absurd f
  get_cases (w ∷ xs) y z zero x e = inl e
  get_cases (w ∷ xs) y z (suc k) x e = ⊎_elim
      (λ p. inl p)
      (λ q. ⊎_elim (λ r. inr (inl (ap suc r.0, r.1))) (λ r. inr (inr (ap suc r.0, r.1))) q)
      (get_cases xs y z k x e)

  twice : (xs : List A) (y z : A) → (xs ++ y ∷ []) ++ z ∷ [] ≡ xs ++ y ∷ z ∷ []
  twice [] y z = refl
  twice (x ∷ xs) y z = ap (λ ys. x ∷ ys) (twice xs y z)

  two_longer : (xs : List A) (y z : A) → length (xs ++ y ∷ z ∷ []) ≡ suc (suc (length xs))
  two_longer [] y z = refl
  two_longer (x ∷ xs) y z = ap suc (two_longer xs y z)

pub edges_two : (old mid new : List Edge) (a b : ℕ) → mid ≡ old ++ record { from = a; to = b; gate = length old } ∷ [] → new ≡ mid ++ record { from = b; to = a; gate = length mid } ∷ []
    → new ≡ old ++ record { from = a; to = b; gate = length old } ∷ record { from = b; to = a; gate = suc (length old) } ∷ []
edges_two old mid new a b p q =
    let f : Edge = record { from = a; to = b; gate = length old } in
    let long : length mid ≡ suc (length old) = ap length p ∙ length-append old (f ∷ []) ∙ omega arith in
    q ∙ ap (λ x. x ++ record { from = b; to = a; gate = length mid } ∷ []) p ∙ ap (λ n. (old ++ f ∷ []) ++ record { from = b; to = a; gate = n } ∷ []) long
    ∙ twice old f (record { from = b; to = a; gate = suc (length old) })

pub list_two : {A : Type 0} (old mid new : List A) (x : A) → mid ≡ old ++ x ∷ [] → new ≡ mid ++ x ∷ [] → new ≡ old ++ x ∷ x ∷ []
list_two old mid new x p q = q ∙ ap (λ y. y ++ x ∷ []) p ∙ twice old x x

-- ---- one move, both ways

module _ (nodes : List Node) (arrays : List ℕ) (once : IsOnce arrays) (old new : Network) (a b : ℕ) (m : Move) (u : Guard)
    (sound : IsSound nodes arrays old) (whole : IsWhole nodes arrays (mover m)) (is : IsMoveOf nodes arrays a b m u) (graph : IsGraph new.graph) (count : length new.graph.fans.items ≡ length old.graph.fans.items)
    (edges : new.graph.edges.items ≡ old.graph.edges.items ++ record { from = a; to = b; gate = length old.graph.edges.items } ∷ record { from = b; to = a; gate = suc (length old.graph.edges.items) } ∷ [])
    (moves : new.moves.items ≡ old.moves.items ++ m ∷ m ∷ []) (guards : new.guards.items ≡ old.guards.items ++ u ∷ u ∷ [])
    (origins : new.origins.items ≡ old.origins.items) (landings : new.landings.items ≡ old.landings.items) where
  abbrev k : ℕ
  k = length old.graph.edges.items

  abbrev forth : Edge
  forth = record { from = a; to = b; gate = length old.graph.edges.items }

  abbrev back : Edge
  back = record { from = b; to = a; gate = suc (length old.graph.edges.items) }

  move_at : (j : ℕ) (x : Move) → slice_get old.moves.items j ≡ Some x → slice_get new.moves.items j ≡ Some x
  move_at j x e = ap (λ l. slice_get l j) moves ∙ get_front old.moves.items m m j x e

  move_first : slice_get new.moves.items k ≡ Some m
  move_first = ap (λ l. slice_get l k) moves ∙ get_first old.moves.items m m k (sym sound.moves)

  move_second : slice_get new.moves.items (suc k) ≡ Some m
  move_second = ap (λ l. slice_get l (suc k)) moves ∙ get_second old.moves.items m m (suc k) (ap suc (sym sound.moves))

  guard_first : slice_get new.guards.items k ≡ Some u
  guard_first = ap (λ l. slice_get l k) guards ∙ get_first old.guards.items u u k (sym sound.guards)

  guard_second : slice_get new.guards.items (suc k) ≡ Some u
  guard_second = ap (λ l. slice_get l (suc k)) guards ∙ get_second old.guards.items u u (suc k) (ap suc (sym sound.guards))

  edge_at : (j : ℕ) (e : Edge) → slice_get old.graph.edges.items j ≡ Some e → slice_get new.graph.edges.items j ≡ Some e
  edge_at j e p = ap (λ l. slice_get l j) edges ∙ get_front old.graph.edges.items forth back j e p

  edge_first : slice_get new.graph.edges.items k ≡ Some forth
  edge_first = ap (λ l. slice_get l k) edges ∙ get_first old.graph.edges.items forth back k refl

  edge_second : slice_get new.graph.edges.items (suc k) ≡ Some back
  edge_second = ap (λ l. slice_get l (suc k)) edges ∙ get_second old.graph.edges.items forth back (suc k) refl

  back_turns : (i : ℕ) → turn_of nodes i is.to m ≡ Some (record { to = is.from; unless = unless_of i u })
  back_turns i = is.turns i is.to ∙ go (is.to == is.from) refl where
    go : (c : Bool) → (is.to == is.from) ≡ c → between is.to is.from is.to (unless_of i u) ≡ Some (record { to = is.from; unless = unless_of i u })
    go true q =
        let same : is.to ≡ is.from = eqb-true is.to is.from q in
        subst (λ x. between x is.from x (unless_of i u) ≡ Some (record { to = is.from; unless = unless_of i u })) (sym same) (between_first is.from is.from (unless_of i u))
    go false q = between_second is.from is.to (unless_of i u) (eqb-false is.to is.from q)

  index_back : (g : Guard) → HasIndex nodes is.from g → HasIndex nodes is.to g
  index_back (Differs j) h = record { width = h.width; array = ap index_sort (sym is.same) ∙ h.array; index = h.index }
  index_back (Holds c) h = tt
  index_back (Fails c) h = tt

  arc_first : IsArc nodes arrays forth m u
  arc_first = record { from = is.from; to = is.to; is_from = is.is_from; is_to = is.is_to; same = is.same; index = is.index; turns = λ i. is.turns i is.from ∙ between_first is.from is.to (unless_of i u) }

  arc_second : IsArc nodes arrays back m u
  arc_second = record { from = is.to; to = is.from; is_from = is.is_to; is_to = is.is_from; same = sym is.same; index = index_back u is.index; turns = back_turns }

  abbrev HasArc : ℕ → Edge → Type 0
  HasArc j e = (x : Move) × (g : Guard) × (slice_get new.moves.items j ≡ Some x) × (slice_get new.guards.items j ≡ Some g) × (e.gate ≡ j) × IsArc nodes arrays e x g

  arcs : (j : ℕ) (e : Edge) → slice_get new.graph.edges.items j ≡ Some e → HasArc j e
  arcs j e at = ⊎_elim
      (λ p. (let h = sound.arcs j e p in (h.0, h.1, move_at j h.0 h.2, ap (λ l. slice_get l j) guards ∙ get_front old.guards.items u u j h.1 h.3, h.4, h.5)))
      (λ q. ⊎_elim
      (λ (r : (j ≡ k) × (e ≡ forth)). subst (λ x. HasArc x e) (sym r.0) (subst (HasArc k) (sym r.1) (m, u, move_first, guard_first, refl, arc_first)))
      (λ (r : (j ≡ suc k) × (e ≡ back)). subst (λ x. HasArc x e) (sym r.0) (subst (HasArc (suc k)) (sym r.1) (m, u, move_second, guard_second, refl, arc_second)))
      q)
      (get_cases old.graph.edges.items forth back j e (ap (λ l. slice_get l j) (sym edges) ∙ at))

  is_new : (x : Move) → Contains (m ∷ m ∷ []) x → m ≡ x
  is_new x (zero, lt, e) = e
  is_new x (suc zero, lt, e) = e
  is_new x (suc (suc n), lt, e) = absurd (omega (arith, lt))

  abbrev Found : ℕ → Move → Type 0
  Found here x = (j : ℕ) × (e : Edge) × (slice_get new.graph.edges.items j ≡ Some e) × (e.from ≡ here) × (slice_get new.moves.items j ≡ Some x)

  moved : (here i t : ℕ) (x : Move) (w : Turn) → Contains new.moves.items x → slice_get arrays here ≡ Some t → turn_of nodes i t x ≡ Some w → Found here x
  moved here i t x w c at turn = ⊎_elim
      (λ (p : Contains old.moves.items x). (let h = sound.moved here i t x w p at turn in (h.0, h.1, edge_at h.0 h.1 h.2, h.3, move_at h.0 x h.4)))
      (λ (p : Contains (m ∷ m ∷ []) x).
      let same : m ≡ x = is_new x p in
      let own : between t is.from is.to (unless_of i u) ≡ Some w = sym (is.turns i t) ∙ ap (turn_of nodes i t) same ∙ turn in
      subst (Found here) same
      (⊎_elim
      (λ q. (k, forth, edge_first, once a here is.from is.is_from (at ∙ ap Some q.0), move_first))
      (λ q. (suc k, back, edge_second, once b here is.to is.is_to (at ∙ ap Some q.0), move_second))
      (between_is t is.from is.to (unless_of i u) w own)))
      (Contains-append_cases old.moves.items (m ∷ m ∷ []) x (subst (λ l. Contains l x) moves c))

  made : (x : Move) → Contains new.moves.items x → IsWhole nodes arrays (mover x)
  made x c = ⊎_elim
      (λ p. sound.made x p)
      (λ p. subst (λ y. IsWhole nodes arrays (mover y)) (is_new x p) whole)
      (Contains-append_cases old.moves.items (m ∷ m ∷ []) x (subst (λ l. Contains l x) moves c))

  pub sound_more : IsSound nodes arrays new
  sound_more = record {
    graph = graph;
    count = count ∙ sound.count;
    moves = ap length moves ∙ two_longer old.moves.items m m ∙ ap (λ n. suc (suc n)) sound.moves ∙ sym (ap length edges ∙ two_longer old.graph.edges.items forth back);
    guards = ap length guards ∙ two_longer old.guards.items u u ∙ ap (λ n. suc (suc n)) sound.guards ∙ sym (ap length edges ∙ two_longer old.graph.edges.items forth back);
    origins = ap length origins ∙ sound.origins ∙ sym (ap length landings);
    landed = λ s l e. let h = sound.landed s l (ap (λ x. slice_get x s) (sym landings) ∙ e) in (h.0, ap (λ x. slice_get x s) origins ∙ h.1, h.2, h.3);
    arcs = arcs;
    moved = moved;
    made = made;
  }

  pub entered_more : ((s : ℕ) (o : of.Start) → slice_get old.origins.items s ≡ Some o → BeginsWhole nodes arrays o) → IsEntered nodes arrays new
  entered_more began = record { sound = sound_more; began = λ s o e. began s o (ap (λ x. slice_get x s) (sym origins) ∙ e) }

  pub grows_more : Grows old new
  grows_more = record {
    moves = λ x c. subst (λ l. Contains l x) (sym moves) (Contains-append_left old.moves.items (m ∷ m ∷ []) x c);
    landings = λ l c. subst (λ x. Contains x l) (sym landings) c;
  }

  pub has_more : Contains new.moves.items m
  has_more = subst (λ l. Contains l m) (sym moves) (Contains-append_right old.moves.items (m ∷ m ∷ []) m (0, omega arith, refl))

-- ---- one access that begins

pub get_more : {A : Type 0} (xs : List A) (y : A) (k : ℕ) (x : A) → slice_get xs k ≡ Some x → slice_get (xs ++ y ∷ []) k ≡ Some x
get_more [] y k x e = let f : ⊥ = cc in absurd f
get_more (w ∷ xs) y zero x e = e
get_more (w ∷ xs) y (suc k) x e = get_more xs y k x e

pub get_last : {A : Type 0} (xs : List A) (y : A) (k : ℕ) → k ≡ length xs → slice_get (xs ++ y ∷ []) k ≡ Some y
get_last [] y zero e = refl
get_last [] y (suc k) e = absurd (omega (arith, e))
get_last (w ∷ xs) y zero e = absurd (omega (arith, e))
get_last (w ∷ xs) y (suc k) e = get_last xs y k (omega (arith, e))

pub last_cases : {A : Type 0} (xs : List A) (y : A) (k : ℕ) (x : A) → slice_get (xs ++ y ∷ []) k ≡ Some x → (slice_get xs k ≡ Some x) ⊎ ((k ≡ length xs) × (x ≡ y))
last_cases [] y zero x e = inr (refl, (let same : x ≡ y = cc in same))
last_cases [] y (suc k) x e = let f : ⊥ = cc in absurd f
last_cases (w ∷ xs) y zero x e = inl e
last_cases (w ∷ xs) y (suc k) x e = ⊎_elim (λ p. inl p) (λ p. inr (ap suc p.0, p.1)) (last_cases xs y k x e)

module _ (nodes : List Node) (arrays : List ℕ) (old new : Network) (o : of.Start) (l : Landing) (sound : IsSound nodes arrays old)
    (lands : landing_of nodes o ≡ Some l) (index : AreIndexes nodes l.array l.index)
    (graph : new.graph ≡ old.graph) (moves : new.moves ≡ old.moves) (guards : new.guards ≡ old.guards)
    (origins : new.origins.items ≡ old.origins.items ++ o ∷ []) (landings : new.landings.items ≡ old.landings.items ++ l ∷ []) where
  abbrev Lands : ℕ → Landing → Type 0
  Lands s r = (x : of.Start) × (slice_get new.origins.items s ≡ Some x) × (landing_of nodes x ≡ Some r) × AreIndexes nodes r.array r.index

  landed : (s : ℕ) (r : Landing) → slice_get new.landings.items s ≡ Some r → Lands s r
  landed s r e = ⊎_elim
      (λ p. (let h = sound.landed s r p in (h.0, ap (λ x. slice_get x s) origins ∙ get_more old.origins.items o s h.0 h.1, h.2, h.3)))
      (λ (p : (s ≡ length old.landings.items) × (r ≡ l)).
      subst (Lands s) (sym p.1) (o, ap (λ x. slice_get x s) origins ∙ get_last old.origins.items o s (p.0 ∙ sym sound.origins), lands, index))
      (last_cases old.landings.items l s r (ap (λ x. slice_get x s) (sym landings) ∙ e))

  pub start_sound : IsSound nodes arrays new
  start_sound = record {
    graph = subst IsGraph (sym graph) sound.graph;
    count = ap (λ (g : Graph). length g.fans.items) graph ∙ sound.count;
    moves = ap (λ x. length x.items) moves ∙ sound.moves ∙ sym (ap (λ (g : Graph). length g.edges.items) graph);
    guards = ap (λ x. length x.items) guards ∙ sound.guards ∙ sym (ap (λ (g : Graph). length g.edges.items) graph);
    origins = ap length origins ∙ length-append old.origins.items (o ∷ []) ∙ ap (λ n. n + 1) sound.origins ∙ sym (ap length landings ∙ length-append old.landings.items (l ∷ []));
    landed = landed;
    arcs = λ j e p. let h = sound.arcs j e (ap (λ (g : Graph). slice_get g.edges.items j) (sym graph) ∙ p) in (h.0, h.1, ap (λ x. slice_get x.items j) moves ∙ h.2, ap (λ x. slice_get x.items j) guards ∙ h.3, h.4, h.5);
    moved = λ here i a m w c at turn.
        let h = sound.moved here i a m w (subst (λ x. Contains x.items m) moves c) at turn in
        (h.0, h.1, ap (λ (g : Graph). slice_get g.edges.items h.0) graph ∙ h.2, h.3, ap (λ x. slice_get x.items h.0) moves ∙ h.4);
    made = λ m c. sound.made m (subst (λ x. Contains x.items m) moves c);
  }

  pub start_entered : ((s : ℕ) (x : of.Start) → slice_get old.origins.items s ≡ Some x → BeginsWhole nodes arrays x) → BeginsWhole nodes arrays o → IsEntered nodes arrays new
  start_entered began begun = record {
    sound = start_sound;
    began = λ s x e. ⊎_elim
        (λ p. began s x p)
        (λ (p : (s ≡ length old.origins.items) × (x ≡ o)). subst (BeginsWhole nodes arrays) (sym p.1) begun)
        (last_cases old.origins.items o s x (ap (λ y. slice_get y s) (sym origins) ∙ e));
  }

  pub start_grows : Grows old new
  start_grows = record { moves = λ m c. subst (λ x. Contains x.items m) (sym moves) c; landings = λ r c. subst (λ x. Contains x r) (sym landings) (Contains-append_left old.landings.items (l ∷ []) r c) }

  pub start_has : Contains new.landings.items l
  start_has = subst (λ x. Contains x l) (sym landings) (Contains-append_right old.landings.items (l ∷ []) l (0, omega arith, refl))
