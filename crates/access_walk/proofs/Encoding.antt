-- The accesses and guards of reached terms have bits.
use Rattle.std.proofs.Common.{◌≡◌, ℕ, ◌<◌, Bool, true, false, List, [], ◌∷◌, length, get_or, Some, None, refl, sym, ap, ◌∙◌, subst, ⊎_elim, arith}
use Rattle.std.specs.Prelude.{slice_get, Contains, All, if◌then◌else◌, nat_lt, ◌&&◌}
use Rattle.std.proofs.lemmas.Bool.{and_parts, ltb-true}
use Rattle.std.proofs.lemmas.Option.{slice_get_within, slice_get-get_or, get_or_from_slice_get}
use Rattle.smt_terms.specs.declared.sort.Sort.TheVariants as sort
use Rattle.smt_terms.specs.declared.node.Node.{Node}
use Rattle.smt_terms.specs.Nodes.{node_at}
use Rattle.smt_terms.specs.Bits.{TermBits}
use Rattle.smt_terms.specs.Same.{same_sort, sort_same}
use Rattle.smt_terms.specs.Ranks.{index_sort, is_word}
use Rattle.smt_terms.specs.Terms.{sort_of, IsTermList}
use Rattle.theory_terms.specs.declared.shape.Shape.{Shape}
use Rattle.theory_terms.specs.declared.shape.Shape.TheVariants.{Selecting, Storing, Filling, Choosing, Equating}
use Rattle.theory_terms.specs.declared.lemma.Move.{Move}
use Rattle.theory_terms.specs.declared.lemma.Move.TheVariants as by
use Rattle.theory_terms.specs.declared.lemma.Start as of
use Rattle.theory_terms.specs.declared.lemma.Start.TheVariants.{Term, Const}
use Rattle.theory_terms.specs.declared.atom.Atom.{Atom}
use Rattle.theory_terms.specs.declared.atom.Atom.TheVariants as atom
use Rattle.theory_terms.specs.declared.atom.Landing.{Landing}
use Rattle.theory_terms.specs.declared.atom.Turn.{Turn}
use Rattle.theory_terms.specs.Shapes.{IsPlain, shape_at}
use Rattle.theory_terms.specs.Named.{mover}
use Rattle.theory_terms.specs.Lemmas.{start_of, is_index, constant_start, landing_of, between, store_turn, then_turn, else_turn, sides_turn, turn_of}
use Rattle.theory_terms.proofs.Sound.{between_is}
use Rattle.term_reach.proofs.Tables.{contains_at}
use Rattle.access_spread.specs.declared.graph.Edge.{Edge}
use Rattle.access_tables.specs.Encoded.{HaveBits}
use Rattle.access_tables.specs.Held.{HasRow, IsAccess}
use Rattle.access_tables.proofs.Building.{args_at}
use Rattle.access_walk.specs.declared.guard.Guard.{Guard}
use Rattle.access_walk.specs.declared.guard.Guard.TheVariants.{Differs, Holds, Fails}
use Rattle.access_walk.specs.declared.network.Network.{Network}
use Rattle.access_walk.specs.Maps.{AreIndexes, unless_of}
use Rattle.access_walk.specs.Building.{IsWhole, IsSound, BeginsWhole, IsEntered}
use Rattle.access_walk.specs.Valued.{IsWordTerm, IsTruthTerm, IsGuarded}
use Rattle.access_walk.proofs.Shaped.{fact}

-- ---- lists

module _ {A : Type 0} where
  pub found_at : (xs : List A) (x : A) → Contains xs x → (k : ℕ) × (slice_get xs k ≡ Some x)
  found_at xs x c = (c.0, slice_get-get_or xs c.0 x c.1 ∙ ap Some c.2)

  pub at_found : (xs : List A) (k : ℕ) (x : A) → slice_get xs k ≡ Some x → Contains xs x
  at_found xs k x e = (k, slice_get_within xs k x e, get_or_from_slice_get xs k x x e)

  pub all_found : (P : A → Type 0) (xs : List A) → ((x : A) → Contains xs x → P x) → All P xs
  all_found P xs h = λ k d lt. h (get_or xs k d) (at_found xs k (get_or xs k d) (slice_get-get_or xs k d lt))

-- ---- what an atom of a move names

-- the index of a store is a word with bits, the condition of a choice and an equality a Bool with bits
abbrev pub NamesHeld : List Node → List TermBits → Atom → Type 0
NamesHeld nodes bits (atom.Same i j) = IsWordTerm nodes bits j
NamesHeld nodes bits (atom.Differ i j) = Unit {0}
NamesHeld nodes bits (atom.Holds c) = IsTruthTerm nodes bits c
NamesHeld nodes bits (atom.Fails c) = IsTruthTerm nodes bits c

guard_names : (nodes : List Node) (bits : List TermBits) (i : ℕ) (u : Guard) → NamesHeld nodes bits (unless_of i u) → IsGuarded nodes bits u
guard_names nodes bits i (Differs j) h = h
guard_names nodes bits i (Holds c) h = h
guard_names nodes bits i (Fails c) h = h

between_unless : (here a b : ℕ) (x : Atom) (w : Turn) → between here a b x ≡ Some w → x ≡ w.unless
between_unless here a b x w e = ⊎_elim
    (λ p. (let same : w ≡ record { to = b; unless = x } = p.1 in sym (ap (λ (t : Turn). t.unless) same)))
    (λ p. (let same : w ≡ record { to = a; unless = x } = p.1 in sym (ap (λ (t : Turn). t.unless) same)))
    (between_is here a b x w e)

module _ (nodes : List Node) (terms : IsTermList nodes) (bits : List TermBits) (arrays : List ℕ) (have : HaveBits nodes bits (Contains arrays)) where
  arg : (t : ℕ) (k : Shape) (n u : ℕ) (args : List ℕ) → IsWhole nodes arrays t → (node_at nodes t).args ≡ args → slice_get args n ≡ Some u → Contains arrays u
  arg t k n u args whole is at = whole.1 u (contains_at (node_at nodes t).args n u (ap (λ l. slice_get l n) is ∙ at))

  plain_word : (t n : ℕ) → sort_of nodes t ≡ sort.Word n → IsPlain (sort_of nodes t)
  plain_word t n e = subst IsPlain (sym e) tt

  word_row : (t n : ℕ) → Contains arrays t → sort_of nodes t ≡ sort.Word n → HasRow nodes bits t
  word_row t n c e = have.rows t c (plain_word t n e)

  pub word_term : (t n : ℕ) → Contains arrays t → sort_of nodes t ≡ sort.Word n → IsWordTerm nodes bits t
  word_term t n c e = (have.held t c, ap is_word e, word_row t n c e)

  truth_term : (t : ℕ) → Contains arrays t → sort_of nodes t ≡ sort.Bool → IsTruthTerm nodes bits t
  truth_term t c e = (e, have.rows t c (subst IsPlain (sym e) tt))

  -- ---- accesses

  -- an access of one of the arrays, its index a held word
  pub record IsHeld (l : Landing) : Type 0 where
    pub access : IsAccess nodes bits arrays l
    pub index : IsWordTerm nodes bits l.index

  select_held : (t a i : ℕ) → IsWhole nodes arrays t → shape_at nodes t ≡ Selecting a i → IsHeld (record { array = a; index = i; value = t })
  select_held t a i whole e =
      let f = fact nodes terms t (Selecting a i) e in
      let args : (node_at nodes t).args ≡ a ∷ i ∷ [] = args_at nodes t (Selecting a i) e in
      let ca = arg t (Selecting a i) 0 a (a ∷ i ∷ []) whole args refl in
      let ci = arg t (Selecting a i) 1 i (a ∷ i ∷ []) whole args refl in
      record {
        access = record { index = f.index; element = f.element; here = ca; array = f.array_sort; at = f.index_sort; value = f.sort; index_bits = word_row i f.index ci f.index_sort; value_bits = word_row t f.element whole.0 f.sort };
        index = word_term i f.index ci f.index_sort;
      }

  store_held : (t b j x : ℕ) → IsWhole nodes arrays t → shape_at nodes t ≡ Storing b j x → IsHeld (record { array = t; index = j; value = x })
  store_held t b j x whole e =
      let f = fact nodes terms t (Storing b j x) e in
      let args : (node_at nodes t).args ≡ b ∷ j ∷ x ∷ [] = args_at nodes t (Storing b j x) e in
      let cj = arg t (Storing b j x) 1 j (b ∷ j ∷ x ∷ []) whole args refl in
      let cx = arg t (Storing b j x) 2 x (b ∷ j ∷ x ∷ []) whole args refl in
      record {
        access = record { index = f.index; element = f.element; here = whole.0; array = f.sort; at = f.index_sort; value = f.value_sort; index_bits = word_row j f.index cj f.index_sort; value_bits = word_row x f.element cx f.value_sort };
        index = word_term j f.index cj f.index_sort;
      }

  term_held : (t : ℕ) (k : Shape) (l : Landing) → IsWhole nodes arrays t → shape_at nodes t ≡ k → start_of t k ≡ Some l → IsHeld l
  term_held t (Selecting a i) l whole e s = let same : record { array = a; index = i; value = t } ≡ l = cc in subst IsHeld same (select_held t a i whole e)
  term_held t (Storing b j x) l whole e s = let same : record { array = t; index = j; value = x } ≡ l = cc in subst IsHeld same (store_held t b j x whole e)
  term_held t k l whole e s = let f : ⊥ = cc in absurd f

  start_held : (o : of.Start) (l : Landing) → BeginsWhole nodes arrays o → landing_of nodes o ≡ Some l → IsHeld l
  start_held (Term t) l whole e = term_held t (shape_at nodes t) l whole refl e
  start_held (Const k j) l whole e = absurd whole

  -- each access of a network with selects and stores alone
  pub landing_held : (n : Network) → IsEntered nodes arrays n → (l : Landing) → Contains n.landings.items l → IsHeld l
  landing_held n entered l c =
      let at = found_at n.landings.items l c in
      let h = entered.sound.landed at.0 l at.1 in
      start_held h.0 l (entered.began at.0 h.0 h.1) h.2

  -- ---- guards

  store_names : (t i here : ℕ) (k : Shape) (w : Turn) → IsWhole nodes arrays t → shape_at nodes t ≡ k → store_turn here i t k ≡ Some w → NamesHeld nodes bits w.unless
  store_names t i here (Storing b j x) w whole e turn =
      let f = fact nodes terms t (Storing b j x) e in
      let args : (node_at nodes t).args ≡ b ∷ j ∷ x ∷ [] = args_at nodes t (Storing b j x) e in
      let cj = arg t (Storing b j x) 1 j (b ∷ j ∷ x ∷ []) whole args refl in
      subst (NamesHeld nodes bits) (between_unless here t b (atom.Same i j) w turn) (word_term j f.index cj f.index_sort)
  store_names t i here k w whole e turn = let f : ⊥ = cc in absurd f

  then_names : (t here : ℕ) (k : Shape) (w : Turn) → IsWhole nodes arrays t → shape_at nodes t ≡ k → then_turn here t k ≡ Some w → NamesHeld nodes bits w.unless
  then_names t here (Choosing c a b) w whole e turn =
      let f = fact nodes terms t (Choosing c a b) e in
      let args : (node_at nodes t).args ≡ c ∷ a ∷ b ∷ [] = args_at nodes t (Choosing c a b) e in
      subst (NamesHeld nodes bits) (between_unless here t a (atom.Fails c) w turn) (truth_term c (arg t (Choosing c a b) 0 c (c ∷ a ∷ b ∷ []) whole args refl) f.test_sort)
  then_names t here k w whole e turn = let f : ⊥ = cc in absurd f

  else_names : (t here : ℕ) (k : Shape) (w : Turn) → IsWhole nodes arrays t → shape_at nodes t ≡ k → else_turn here t k ≡ Some w → NamesHeld nodes bits w.unless
  else_names t here (Choosing c a b) w whole e turn =
      let f = fact nodes terms t (Choosing c a b) e in
      let args : (node_at nodes t).args ≡ c ∷ a ∷ b ∷ [] = args_at nodes t (Choosing c a b) e in
      subst (NamesHeld nodes bits) (between_unless here t b (atom.Holds c) w turn) (truth_term c (arg t (Choosing c a b) 0 c (c ∷ a ∷ b ∷ []) whole args refl) f.test_sort)
  else_names t here k w whole e turn = let f : ⊥ = cc in absurd f

  sides_names : (t here : ℕ) (k : Shape) (w : Turn) → IsWhole nodes arrays t → shape_at nodes t ≡ k → sides_turn here t k ≡ Some w → NamesHeld nodes bits w.unless
  sides_names t here (Equating a b) w whole e turn =
      let f = fact nodes terms t (Equating a b) e in
      subst (NamesHeld nodes bits) (between_unless here a b (atom.Fails t) w turn) (truth_term t whole.0 f.sort)
  sides_names t here k w whole e turn = let f : ⊥ = cc in absurd f

  pub turn_names : (i here : ℕ) (m : Move) (w : Turn) → IsWhole nodes arrays (mover m) → turn_of nodes i here m ≡ Some w → NamesHeld nodes bits w.unless
  turn_names i here (by.Store t) w whole turn = store_names t i here (shape_at nodes t) w whole refl turn
  turn_names i here (by.Then t) w whole turn = then_names t here (shape_at nodes t) w whole refl turn
  turn_names i here (by.Else t) w whole turn = else_names t here (shape_at nodes t) w whole refl turn
  turn_names i here (by.Sides t) w whole turn = sides_names t here (shape_at nodes t) w whole refl turn

  abbrev no_edge : Edge
  no_edge = record { from = 0; to = 0; gate = 0 }

  guard_held : (n : Network) → IsSound nodes arrays n → (u : Guard) → Contains n.guards.items u → IsGuarded nodes bits u
  guard_held n sound u c =
      let at = found_at n.guards.items u c in
      let lt : at.0 < length n.graph.edges.items = let w = slice_get_within n.guards.items at.0 u at.1 in omega (arith, w, sound.guards) in
      let h = sound.arcs at.0 (get_or n.graph.edges.items at.0 no_edge) (slice_get-get_or n.graph.edges.items at.0 no_edge lt) in
      let same : h.1 ≡ u = let z : Some h.1 ≡ Some u = sym h.3 ∙ at.1 in cc in
      let arc = h.5 in
      let whole = sound.made h.0 (at_found n.moves.items at.0 h.0 h.2) in
      subst (IsGuarded nodes bits) same (guard_names nodes bits 0 h.1 (turn_names 0 arc.from h.0 (record { to = arc.to; unless = unless_of 0 h.1 }) whole (arc.turns 0)))

  pub guards_held : (n : Network) → IsSound nodes arrays n → All (IsGuarded nodes bits) n.guards.items
  guards_held n sound = all_found (IsGuarded nodes bits) n.guards.items (guard_held n sound)

  -- ---- constant arrays

  -- an index of a constant array
  record IsIndex (t j : ℕ) : Type 0 where
    array : t < length nodes
    index : j < length nodes
    sort : index_sort (sort_of nodes t) ≡ sort_of nodes j

  index_is : (t j : ℕ) → is_index nodes t j ≡ true → IsIndex t j
  index_is t j h =
      let p = and_parts (nat_lt t (length nodes) && nat_lt j (length nodes)) (same_sort (index_sort (sort_of nodes t)) (sort_of nodes j)) h in
      let q = and_parts (nat_lt t (length nodes)) (nat_lt j (length nodes)) p.0 in
      record { array = ltb-true t (length nodes) q.0; index = ltb-true j (length nodes) q.1; sort = sort_same (index_sort (sort_of nodes t)) (sort_of nodes j) p.1 }

  -- an access of a constant array at an index
  pub record IsFilled (t j : ℕ) (l : Landing) : Type 0 where
    pub at : l.index ≡ j
    pub access : IsAccess nodes bits arrays l
    pub indexes : AreIndexes nodes l.array l.index

  filled_held : (t j x : ℕ) → IsWhole nodes arrays t → IsWordTerm nodes bits j → shape_at nodes t ≡ Filling x → IsIndex t j → IsFilled t j (record { array = t; index = j; value = x })
  filled_held t j x whole word e is =
      let f = fact nodes terms t (Filling x) e in
      let args : (node_at nodes t).args ≡ x ∷ [] = args_at nodes t (Filling x) e in
      let cx = arg t (Filling x) 0 x (x ∷ []) whole args refl in
      let width : index_sort (sort_of nodes t) ≡ sort.Word f.index = ap index_sort f.sort in
      let at : sort_of nodes j ≡ sort.Word f.index = sym is.sort ∙ width in
      record {
        at = refl;
        access = record { index = f.index; element = f.element; here = whole.0; array = f.sort; at = at; value = f.element_sort; index_bits = word.2; value_bits = word_row x f.element cx f.element_sort };
        indexes = record { width = f.index; array = width; index = at };
      }

  constant_held : (t j : ℕ) (l : Landing) (k : Shape) → IsWhole nodes arrays t → IsWordTerm nodes bits j → shape_at nodes t ≡ k → constant_start nodes t j k ≡ Some l → IsFilled t j l
  constant_held t j l (Filling x) whole word e s = go (is_index nodes t j) refl s where
    go : (b : Bool) → is_index nodes t j ≡ b → (if b then Some (record { array = t; index = j; value = x }) else None) ≡ Some l → IsFilled t j l
    go true h q = let same : record { array = t; index = j; value = x } ≡ l = cc in subst (IsFilled t j) same (filled_held t j x whole word e (index_is t j h))
    go false h q = let f : ⊥ = cc in absurd f
  constant_held t j l k whole word e s = let f : ⊥ = cc in absurd f

  pub constant_filled : (t j : ℕ) (l : Landing) → IsWhole nodes arrays t → IsWordTerm nodes bits j → landing_of nodes (Const t j) ≡ Some l → IsFilled t j l
  constant_filled t j l whole word e = constant_held t j l (shape_at nodes t) whole word refl e
