-- Constant arrays with accesses at all indexes, and the map of reached terms.
use Rattle.std.proofs.Common.{◌≡◌, ℕ, zero, suc, ◌+◌, ◌<◌, ◌≤◌, true, List, [], ◌∷◌, ◌++◌, length, Some, None, refl, sym, ap, ◌∙◌, subst, ⊎_elim, arith}
use Rattle.std.specs.Prelude.{slice_get, Contains, map, if◌then◌else◌, nat_lt, ◌&&◌}
use Rattle.std.proofs.lemmas.Bool.{and_from, cases_lt, lt-ltb}
use Rattle.std.proofs.lemmas.List.Elements.{Contains-push_cases, Contains-push, Contains-append_left}
use Rattle.smt_terms.specs.declared.sort.Sort.TheVariants as sort
use Rattle.smt_terms.specs.declared.node.Node.{Node}
use Rattle.smt_terms.specs.Bits.{TermBits, image_in}
use Rattle.smt_terms.specs.Same.{same_sort, sort_itself}
use Rattle.smt_terms.specs.Ranks.{index_sort}
use Rattle.smt_terms.specs.Terms.{sort_of, IsTermList}
use Rattle.theory_terms.specs.declared.shape.Shape.TheVariants.{Filling}
use Rattle.theory_terms.specs.declared.lemma.Start.TheVariants.{Const}
use Rattle.theory_terms.specs.declared.atom.Landing.{Landing}
use Rattle.theory_terms.specs.Shapes.{shape_at}
use Rattle.theory_terms.specs.Named.{mover}
use Rattle.theory_terms.specs.Lemmas.{is_index, constant_start, landing_of}
use Rattle.term_reach.specs.Reach.{IsOnce}
use Rattle.access_tables.specs.Ready.{IsOwn}
use Rattle.access_tables.specs.Encoded.{HaveBits}
use Rattle.access_tables.specs.Held.{IsAccess}
use Rattle.access_walk.specs.declared.network.Network.{Network}
use Rattle.access_walk.specs.Maps.{IsWordOf, HasFirstWords, IsMap}
use Rattle.access_walk.specs.Building.{IsWhole, IsEntered, Grows, HasTerm}
use Rattle.access_walk.specs.Valued.{IsWordTerm}
use Rattle.access_walk.specs.Walked.{IsHeldWord, HasHeldWords}
use Rattle.access_walk.specs.Filled.{AreIndexTerms, IsFilling, HasFillings}
use Rattle.access_walk.proofs.Pairs.{start_sound}
use Rattle.access_walk.proofs.Shaped.{has_grows}
use Rattle.access_walk.proofs.Encoding.{found_at, at_found, landing_held, constant_filled}

-- ---- indexes of accesses

module _ {A : Type 0} {B : Type 0} where
  pub mapped_found : (f : A → B) (xs : List A) (x : A) → Contains xs x → Contains (map f xs) (f x)
  mapped_found f xs x c = let k = found_at xs x c in at_found (map f xs) k.0 (f x) (go xs k.0 k.1) where
    go : (ys : List A) (k : ℕ) → slice_get ys k ≡ Some x → slice_get (map f ys) k ≡ Some (f x)
    go [] k e = let z : ⊥ = cc in absurd z
    go (y ∷ ys) zero e = let same : y ≡ x = cc in ap (λ z. Some (f z)) same
    go (y ∷ ys) (suc k) e = go ys k e

  pub found_mapped : (f : A → B) (xs : List A) (y : B) → Contains (map f xs) y → (x : A) × Contains xs x × (y ≡ f x)
  found_mapped f xs y c = let k = found_at (map f xs) y c in let h = go xs k.0 k.1 in (h.0, at_found xs k.0 h.0 h.1, h.2) where
    go : (ys : List A) (k : ℕ) → slice_get (map f ys) k ≡ Some y → (x : A) × (slice_get ys k ≡ Some x) × (y ≡ f x)
    go [] k e = let z : ⊥ = cc in absurd z
    go (x ∷ ys) zero e = (x, refl, (let same : y ≡ f x = cc in same))
    go (x ∷ ys) (suc k) e = go ys k e

module _ (nodes : List Node) (terms : IsTermList nodes) (bits : List TermBits) (arrays : List ℕ) (have : HaveBits nodes bits (Contains arrays)) where
  -- the indexes of selects and stores are words with bits
  pub first_terms : (n : Network) (indexes : List ℕ) → IsEntered nodes arrays n → indexes ≡ map (λ (l : Landing). l.index) n.landings.items → AreIndexTerms nodes bits indexes
  first_terms n indexes entered is j c =
      let h = found_mapped (λ (l : Landing). l.index) n.landings.items j (subst (λ xs. Contains xs j) is c) in
      subst (IsWordTerm nodes bits) (sym h.2) (landing_held nodes terms bits arrays have n entered h.0 h.1).index

  -- before any constant array
  pub first_filling : (n : Network) (first indexes : List ℕ) → IsEntered nodes arrays n → first ≡ map (λ (l : Landing). l.index) n.landings.items → ((j : ℕ) → Contains first j → Contains indexes j) → IsFilling nodes bits arrays indexes n
  first_filling n first indexes entered is kept = record {
    sound = entered.sound;
    accesses = λ l c. (landing_held nodes terms bits arrays have n entered l c).access;
    among = λ l c. kept l.index (subst (λ xs. Contains xs l.index) (sym is) (mapped_found (λ (k : Landing). k.index) n.landings.items l c));
  }

  -- ---- one access more

  module _ (indexes : List ℕ) (old new : Network) (t j : ℕ) (l : Landing) (filling : IsFilling nodes bits arrays indexes old) (whole : IsWhole nodes arrays t)
      (index : Contains indexes j) (word : IsWordTerm nodes bits j) (lands : landing_of nodes (Const t j) ≡ Some l)
      (graph : new.graph ≡ old.graph) (moves : new.moves ≡ old.moves) (guards : new.guards ≡ old.guards)
      (origins : new.origins.items ≡ old.origins.items ++ Const t j ∷ []) (landings : new.landings.items ≡ old.landings.items ++ l ∷ []) where
    pub filling_more : IsFilling nodes bits arrays indexes new
    filling_more =
        let h = constant_filled nodes terms bits arrays have t j l whole word lands in
        record {
          sound = start_sound nodes arrays old new (Const t j) l filling.sound lands h.indexes graph moves guards origins landings;
          accesses = λ r c. ⊎_elim
              (λ p. filling.accesses r p)
              (λ p. subst (IsAccess nodes bits arrays) p h.access)
              (Contains-push_cases old.landings.items l r (subst (λ xs. Contains xs r) landings c));
          among = λ r c. ⊎_elim
              (λ p. filling.among r p)
              (λ p. subst (λ (x : Landing). Contains indexes x.index) p (subst (Contains indexes) (sym h.at) index))
              (Contains-push_cases old.landings.items l r (subst (λ xs. Contains xs r) landings c));
        }

    pub filling_grows : Grows old new
    filling_grows = record { moves = λ m c. subst (λ x. Contains x.items m) (sym moves) c; landings = λ r c. subst (λ xs. Contains xs r) (sym landings) (Contains-append_left old.landings.items (l ∷ []) r c) }

-- the access that was put is the one of the constant array at the index
pub pushed_has : (nodes : List Node) (t j : ℕ) (l : Landing) (old new : List Landing) → landing_of nodes (Const t j) ≡ Some l → new ≡ old ++ l ∷ [] → (r : Landing) → landing_of nodes (Const t j) ≡ Some r → Contains new r
pushed_has nodes t j l old new lands is r e =
    let same : l ≡ r = let z : Some l ≡ Some r = sym lands ∙ e in cc in
    subst (Contains new) same (subst (λ xs. Contains xs l) (sym is) (Contains-push old l))

-- ---- the map of reached terms

index_holds : (nodes : List Node) (t j n : ℕ) → t < length nodes → j < length nodes → index_sort (sort_of nodes t) ≡ sort.Word n → sort_of nodes j ≡ sort.Word n → is_index nodes t j ≡ true
index_holds nodes t j n lt lj p q =
    let same : same_sort (index_sort (sort_of nodes t)) (sort_of nodes j) ≡ true = rw (p, q) (sort_itself (sort.Word n)) in
    and_from (nat_lt t (length nodes) && nat_lt j (length nodes)) _ (and_from (nat_lt t (length nodes)) (nat_lt j (length nodes)) (lt-ltb t (length nodes) lt) (lt-ltb j (length nodes) lj)) same

-- where a constant array begins at an index of its width
pub constant_lands : (nodes : List Node) (t j x n : ℕ) → shape_at nodes t ≡ Filling x → t < length nodes → j < length nodes → index_sort (sort_of nodes t) ≡ sort.Word n → sort_of nodes j ≡ sort.Word n
    → landing_of nodes (Const t j) ≡ Some (record { array = t; index = j; value = x })
constant_lands nodes t j x n e lt lj p q =
    ap (constant_start nodes t j) e ∙ ap (λ b. if b then Some (record { array = t; index = j; value = x }) else None) (index_holds nodes t j n lt lj p q)

module _ (nodes : List Node) (bits : List TermBits) (arrays first indexes widths : List ℕ) (once : IsOnce arrays) (have : HaveBits nodes bits (Contains arrays)) (old new : Network)
    (entered : IsEntered nodes arrays old) (is : first ≡ map (λ (l : Landing). l.index) old.landings.items) (had : (t : ℕ) → IsOwn (Contains arrays) (image_in bits) t → HasTerm nodes old t)
    (filling : IsFilling nodes bits arrays indexes new) (grows : Grows old new) (words : AreIndexTerms nodes bits indexes)
    (put : (n k : ℕ) → Contains widths n → k < length first + 1 → ((i : ℕ) → i ≤ k → IsHeldWord nodes bits n i) → (w : ℕ) × IsWordOf nodes n k w × Contains indexes w)
    (filled : (t : ℕ) → IsOwn (Contains arrays) (image_in bits) t → HasFillings nodes indexes new t)
    (wide : (t x n m : ℕ) → IsOwn (Contains arrays) (image_in bits) t → shape_at nodes t ≡ Filling x → sort_of nodes t ≡ sort.Array n m → Contains widths n)
    (made : (t x n m : ℕ) → IsOwn (Contains arrays) (image_in bits) t → shape_at nodes t ≡ Filling x → sort_of nodes t ≡ sort.Array n m → HasHeldWords nodes bits (Contains arrays) n) where
  abbrev Here : ℕ → Type 0
  Here = Contains arrays

  has : (t : ℕ) → IsOwn Here (image_in bits) t → HasTerm nodes new t
  has t own = has_grows nodes old new t grows (had t own)

  -- the access of a constant array at an index of its width
  at_index : (t j x n : ℕ) → IsOwn Here (image_in bits) t → shape_at nodes t ≡ Filling x → index_sort (sort_of nodes t) ≡ sort.Word n → Contains indexes j → sort_of nodes j ≡ sort.Word n
      → (s : ℕ) × (slice_get new.landings.items s ≡ Some (record { array = t; index = j; value = x }))
  at_index t j x n own e p c q =
      found_at new.landings.items (record { array = t; index = j; value = x })
      (filled t own j (record { array = t; index = j; value = x }) c (constant_lands nodes t j x n e (have.held t own.0) (words j c).0 p q))

  abbrev Word : ℕ → ℕ → ℕ → ℕ → Type 0
  Word t x n k = (s : ℕ) × (l : Landing) × (slice_get new.landings.items s ≡ Some l) × (l.array ≡ t) × (l.value ≡ x) × IsWordOf nodes n k l.index

  word_at : (t x n m k : ℕ) → IsOwn Here (image_in bits) t → shape_at nodes t ≡ Filling x → sort_of nodes t ≡ sort.Array n m → k < length first + 1 → ((i : ℕ) → i ≤ k → IsHeldWord nodes bits n i) → Word t x n k
  word_at t x n m k own e s lt held =
      let w = put n k (wide t x n m own e s) lt held in
      let a = at_index t w.0 x n own e (ap index_sort s) w.2 w.1.1 in
      (a.0, record { array = t; index = w.0; value = x }, a.1, refl, refl, w.1)

  first_words : (t x n m : ℕ) → IsOwn Here (image_in bits) t → shape_at nodes t ≡ Filling x → sort_of nodes t ≡ sort.Array n m → HasFirstWords nodes (image_in bits) Here new.landings.items t x n
  first_words t x n m own e s =
      let h = made t x n m own e s in
      ⊎_elim
      (λ (less : length h.indexes < length first + 1). record {
        indexes = h.indexes;
        among = h.among;
        words = λ k lt le. word_at t x n m k own e s (omega (arith, less, le)) (λ i under. h.words i (omega (arith, under, lt)) (omega (arith, under, le)));
      })
      (λ (more : length first + 1 ≤ length h.indexes). record {
        indexes = first;
        among = λ u l own' start width. (l.index, subst (λ xs. Contains xs l.index) (sym is) (mapped_found (λ (r : Landing). r.index) old.landings.items l ((had u own').start l start)), ([], refl));
        words = λ k lt le. word_at t x n m k own e s (omega (arith, le)) (λ i under. h.words i (omega (arith, under, lt)) (omega (arith, under, le, more)));
      })
      (cases_lt (length h.indexes) (length first + 1))

  pub map_is : IsMap nodes (image_in bits) Here arrays new.moves.items new.guards.items new.origins.items new.landings.items new.graph
  map_is = record {
    numbers = λ a b t p q. once a b t p q;
    landed = filling.sound.landed;
    started = λ t l own e. found_at new.landings.items l ((has t own).start l e);
    words = first_words;
    everywhere = λ t x n s l own e width at q.
        let c = filling.among l (at_found new.landings.items s l at) in
        let a = at_index t l.index x n own e width c q in
        (a.0, record { array = t; index = l.index; value = x }, a.1, refl, refl, refl);
    arcs = filling.sound.arcs;
    moved = λ here i a m w at array own turn. filling.sound.moved here i a m w ((has (mover m) own).moves i a m w refl array turn) at turn;
  }
