-- Each lemma has a true atom under every interpretation.
use Rattle.std.proofs.Common.{◌≡◌, ℕ, ◌<◌, ◌^◌, Bool, true, false, not, ◌||◌, ◌&&◌, List, [], ◌∷◌, ◌++◌, length, Option, Some, None, refl, sym, ap, ◌∙◌, subst, inl, inr, ⊎_elim, arith}
use Rattle.std.specs.Prelude.{◌==◌, if◌then◌else◌, ◌⊎◌, map, nat_lt}
use Rattle.std.specs.List.{AllByRecursion}
use Rattle.std.proofs.lemmas.Bool.{and_parts, eq-eqb, ne_eqb, eqb-true, ltb-true, not-false}
use Rattle.smt_terms.specs.declared.sort.Sort.{Sort}
use Rattle.smt_terms.specs.declared.sort.Sort.TheVariants.{Bool as SBool, Word as SWord, Array as SArray}
use Rattle.smt_terms.specs.declared.node.Node.{Node}
use Rattle.theory_terms.specs.declared.lemma.Move.{Move}
use Rattle.theory_terms.specs.declared.lemma.Move.TheVariants as by
use Rattle.theory_terms.specs.declared.lemma.Access.{Access}
use Rattle.theory_terms.specs.declared.lemma.Lemma.{Lemma}
use Rattle.theory_terms.specs.declared.lemma.Start.{Start}
use Rattle.theory_terms.specs.declared.lemma.Start.TheVariants.{Term, Const}
use Rattle.smt_terms.specs.declared.node.Op.{Op}
use Rattle.smt_terms.specs.declared.node.Op.TheVariants.{Apply}
use Rattle.smt_terms.specs.declared.sort.Signature.{Signature}
use Rattle.smt_terms.specs.Same.{same_op, op_same, same_sort, sort_same}
use Rattle.smt_terms.specs.Ranks.{index_sort}
use Rattle.smt_terms.specs.Terms.{signature_of}
use Rattle.smt_terms.specs.Nodes.{node_at}
use Rattle.smt_terms.proofs.Made.{at_place}
use Rattle.smt_terms.proofs.Growing.{all_within}
use Rattle.smt_terms.proofs.Typing.{sort_is}
use Rattle.smt_terms.proofs.Evaluating.{value_is_evaluation}
use Rattle.theory_terms.specs.Shapes.{shape_of, term_of}
use Rattle.theory_terms.specs.Lemmas.{landing_of, is_applying, witness_node, select_node}
use Rattle.theory_terms.specs.declared.lemma.Lemma.TheVariants as lemma
use Rattle.smt_terms.specs.Terms.{sort_of, IsTermList}
use Rattle.theory_terms.specs.Shapes.{IsPlain}
use Rattle.smt_terms.specs.Values.{Value, VBool, VWord, VArray, held_at, filled, HasSort, Interpretation, all_below, first_below, is_true, number_of, width_in, same_value, select_of, store_of, witness_of, value}
use Rattle.smt_terms.specs.Evaluations.{IsEvaluation}
use Rattle.theory_terms.specs.declared.shape.Shape.{Shape}
use Rattle.theory_terms.specs.declared.shape.Shape.TheVariants.{Selecting, Storing, Filling, Choosing, Equating, Witnessing, Applying, Other}
use Rattle.theory_terms.specs.Shapes.{shape_at}
use Rattle.theory_terms.specs.declared.atom.Atom.{Atom}
use Rattle.theory_terms.specs.declared.atom.Atom.TheVariants.{Same, Differ, Holds, Fails}
use Rattle.theory_terms.specs.declared.atom.Landing.{Landing}
use Rattle.theory_terms.specs.declared.atom.Turn.{Turn}
use Rattle.theory_terms.specs.declared.atom.Watch.{Watch}
use Rattle.theory_terms.specs.Lemmas.{atom_true, some_true, start_of, is_index, constant_start, between, store_turn, then_turn, else_turn, sides_turn, turn_of, Trip, longer, then_trip, trip_of, Arrival, arrive, from_landing, arrival_of, arrays_atoms, put_front, pairs_atoms, congruence_atoms, watch_of, watch_at, watch, watch_atoms, witness_atoms, atoms_of}
use Rattle.smt_terms.proofs.Arrays.{stored_same, stored_other, all_below_each, each_all_below, first_differs}
use Rattle.theory_terms.proofs.Shapes.{StoreFacts, ChoiceFacts, EqualFacts, ApplyFacts, FactsOf, facts, shape_within, witness_value}

-- ---- equal values

bool_same : (b : Bool) → (if b then b else not b) ≡ true
bool_same true = refl
bool_same false = refl

pub same_refl : (x : Value) → same_value x x ≡ true
same_refl (VBool b) = bool_same b
same_refl (VWord n x) = rw (eq-eqb n n refl, eq-eqb x x refl) refl
same_refl (VArray n m a) = each_all_below (λ i. held_at a i == held_at a i) (2 ^ n) (λ i lt. eq-eqb (held_at a i) (held_at a i) refl)

bool_equal : (a b : Bool) → (if a then b else not b) ≡ true → a ≡ b
bool_equal true true h = refl
bool_equal true false h = let f : ⊥ = cc in absurd f
bool_equal false true h = let f : ⊥ = cc in absurd f
bool_equal false false h = refl

word_equal : (n m x y : ℕ) → ((n == m) && (x == y)) ≡ true → VWord n x ≡ VWord m y
word_equal n m x y h =
    let p = and_parts (n == m) (x == y) h in
    ap (λ k. VWord k x) (eqb-true n m p.0) ∙ ap (VWord m) (eqb-true x y p.1)

same_plain_values : (s r : Sort) (x y : Value) → IsPlain s → IsPlain r → HasSort s x → HasSort r y → same_value x y ≡ true → x ≡ y
same_plain_values SBool SBool x y p q h k e =
    let o : same_value (VBool h.0) (VBool k.0) ≡ true = rw (h.1, k.1) at e in
    h.1 ∙ ap VBool (bool_equal h.0 k.0 o) ∙ sym k.1
same_plain_values (SWord n) (SWord m) x y p q h k e =
    let o : ((n == m) && (h.0 == k.0)) ≡ true = rw (h.1, k.1) at e in
    h.1 ∙ word_equal n m h.0 k.0 o ∙ sym k.1
same_plain_values SBool (SWord m) x y p q h k e =
    let o : false ≡ true = rw (h.1, k.1) at e in
    let f : ⊥ = cc in absurd f
same_plain_values (SWord n) SBool x y p q h k e =
    let o : false ≡ true = rw (h.1, k.1) at e in
    let f : ⊥ = cc in absurd f
same_plain_values SBool (SArray n m) x y p q h k e = absurd q
same_plain_values (SWord l) (SArray n m) x y p q h k e = absurd q
same_plain_values (SArray n m) r x y p q h k e = absurd p

pub same_plain : (s r : Sort) (x y : Value) → IsPlain s → IsPlain r → HasSort s x → HasSort r y → same_value x y ≡ true → x ≡ y
same_plain s r x y p q h k e = same_plain_values s r x y p q h k e

word_other : (n x y : ℕ) → ((n == n) && (x == y)) ≡ false → x ≡ y → ⊥
word_other n x y h e =
    let t = eq-eqb x y e in
    let k = eq-eqb n n refl in
    let o : (true && true) ≡ false = rw (k, t) at h in
    let f : ⊥ = cc in f

pub differ_numbers : (n : ℕ) (x y : Value) → HasSort (SWord n) x → HasSort (SWord n) y → same_value x y ≡ false → number_of x ≡ number_of y → ⊥
differ_numbers n x y h k e same =
    let q : ((n == n) && (h.0 == k.0)) ≡ false = rw (h.1, k.1) at e in
    let r : h.0 ≡ k.0 = rw (h.1, k.1) at same in
    word_other n h.0 k.0 q r

and_false : (a b : Bool) → b ≡ false → (a && b) ≡ false
and_false true b h = h
and_false false b h = refl

pub same_arrays : (n m : ℕ) (A B I : Value) → HasSort (SArray n m) A → HasSort (SArray n m) B → HasSort (SWord n) I → same_value A B ≡ true → select_of A I ≡ select_of B I
same_arrays n m A B I h k l e =
    let q : all_below (λ i. held_at h.0 i == held_at k.0 i) (2 ^ n) ≡ true = rw (h.1, k.1) at e in
    let w : held_at h.0 l.0 ≡ held_at k.0 l.0 = eqb-true (held_at h.0 l.0) (held_at k.0 l.0) (all_below_each (λ i. held_at h.0 i == held_at k.0 i) (2 ^ n) q l.0 l.2) in
    rw (h.1, k.1, l.1) (ap (VWord m) w)

-- ---- atoms

or_false : (a b : Bool) → (a || b) ≡ false → (a ≡ false) × (b ≡ false)
or_false true b h = let f : ⊥ = cc in absurd f
or_false false b h = (refl, h)

some_append : (v : ℕ → Value) (xs ys : List Atom) → some_true v (xs ++ ys) ≡ false → (some_true v xs ≡ false) × (some_true v ys ≡ false)
some_append v [] ys h = (refl, h)
some_append v (x ∷ xs) ys h =
    let p = or_false (atom_true v x) (some_true v (xs ++ ys)) h in
    let q = some_append v xs ys p.1 in
    (rw p.0 q.0, q.1)

unless_false : (b : Bool) → (b ≡ false → ⊥) → b ≡ true
unless_false true h = refl
unless_false false h = absurd (h refl)

true_of : (v : Value) → not (is_true v) ≡ false → is_true v ≡ true
true_of v h = not-false (is_true v) h

-- ---- moves

pub between_is : (here a b : ℕ) (atom : Atom) (w : Turn) → between here a b atom ≡ Some w → ((here ≡ a) × (w ≡ record { to = b; unless = atom })) ⊎ ((here ≡ b) × (w ≡ record { to = a; unless = atom }))
between_is here a b atom w e = go (here == a) refl (here == b) refl where
  go : (p : Bool) → (here == a) ≡ p → (q : Bool) → (here == b) ≡ q → ((here ≡ a) × (w ≡ record { to = b; unless = atom })) ⊎ ((here ≡ b) × (w ≡ record { to = a; unless = atom }))
  go true p q r =
      let k = rw p at e in
      let same : w ≡ record { to = b; unless = atom } = cc in
      inl (eqb-true here a p, same)
  go false p true r =
      let k = rw (p, r) at e in
      let same : w ≡ record { to = a; unless = atom } = cc in
      inr (eqb-true here b r, same)
  go false p false r =
      let k = rw (p, r) at e in
      let f : ⊥ = cc in absurd f

module _ (M : Interpretation) (nodes : List Node) (v : ℕ → Value) (terms : IsTermList nodes) (eval : IsEvaluation M nodes v) where
  sorted_at : (t : ℕ) (q : Sort) → sort_of nodes t ≡ q → t < length nodes → HasSort q (v t)
  sorted_at t q e lt = subst (λ k. HasSort k (v t)) e (eval.sorted t lt)

  -- the term is an array, and the other one is a word of its index width
  pub record Stands (i a : ℕ) : Type 0 where
    pub index : ℕ
    pub element : ℕ
    pub sort : sort_of nodes a ≡ SArray index element
    pub array : HasSort (SArray index element) (v a)
    pub word : HasSort (SWord index) (v i)

  -- the same word at this index in both arrays
  abbrev pub Agree : ℕ → ℕ → ℕ → Type 0
  Agree i a b = select_of (v a) (v i) ≡ select_of (v b) (v i)

  cross : (i here a b : ℕ) (atom : Atom) (w : Turn) → between here a b atom ≡ Some w → sort_of nodes a ≡ sort_of nodes b → a < length nodes → b < length nodes → ((k : Stands i a) → Agree i a b) → Stands i here → Stands i w.to × Agree i w.to here
  cross i here a b atom w e same la lb agree k =
      ⊎_elim
      (λ p.
      let sa : sort_of nodes a ≡ SArray k.index k.element = ap (sort_of nodes) (sym p.0) ∙ k.sort in
      let sb : sort_of nodes b ≡ SArray k.index k.element = sym same ∙ sa in
      let at_a : Stands i a = record { index = k.index; element = k.element; sort = sa; array = sorted_at a _ sa la; word = k.word } in
      let at_b : Stands i b = record { index = k.index; element = k.element; sort = sb; array = sorted_at b _ sb lb; word = k.word } in
      let to : w.to ≡ b = ap (λ t. t.to) p.1 in
      (subst (Stands i) (sym to) at_b, ap (λ t. select_of (v t) (v i)) to ∙ sym (agree at_a) ∙ ap (λ t. select_of (v t) (v i)) (sym p.0)))
      (λ p.
      let sb : sort_of nodes b ≡ SArray k.index k.element = ap (sort_of nodes) (sym p.0) ∙ k.sort in
      let sa : sort_of nodes a ≡ SArray k.index k.element = same ∙ sb in
      let at_a : Stands i a = record { index = k.index; element = k.element; sort = sa; array = sorted_at a _ sa la; word = k.word } in
      let to : w.to ≡ a = ap (λ t. t.to) p.1 in
      (subst (Stands i) (sym to) at_a, ap (λ t. select_of (v t) (v i)) to ∙ agree at_a ∙ ap (λ t. select_of (v t) (v i)) (sym p.0)))
      (between_is here a b atom w e)

  unless_is : (here a b : ℕ) (atom : Atom) (w : Turn) → between here a b atom ≡ Some w → atom_true v w.unless ≡ false → atom_true v atom ≡ false
  unless_is here a b atom w e h =
      ⊎_elim
      (λ p. let q : w.unless ≡ atom = ap (λ t. t.unless) p.1 in ap (atom_true v) (sym q) ∙ h)
      (λ p. let q : w.unless ≡ atom = ap (λ t. t.unless) p.1 in ap (atom_true v) (sym q) ∙ h)
      (between_is here a b atom w e)

  store_agree : (i t b j x : ℕ) → StoreFacts (sort_of nodes) v t b j x → t < length nodes → same_value (v i) (v j) ≡ false → Stands i t → Agree i t b
  store_agree i t b j x f lt h k =
      let A = sorted_at b (SArray f.index f.element) f.array_sort (omega (arith, f.array_lt)) in
      let J = sorted_at j (SWord f.index) f.index_sort (omega (arith, f.index_lt)) in
      let n : k.index ≡ f.index = let e : SArray k.index k.element ≡ SArray f.index f.element = sym k.sort ∙ f.sort in cc in
      let I : HasSort (SWord f.index) (v i) = subst (λ m. HasSort (SWord m) (v i)) n k.word in
      let ne = differ_numbers f.index (v i) (v j) I J h in
      let start : select_of (v t) (v i) ≡ select_of (store_of (v b) (v j) (v x)) (v i) = ap (λ y. select_of y (v i)) f.is in
      start ∙ rw A.1 (ap (VWord f.element) (stored_other A.0 (number_of (v j)) (number_of (v x)) (number_of (v i)) ne))

  then_agree : (i t c a b : ℕ) → ChoiceFacts (sort_of nodes) v t c a b → is_true (v c) ≡ true → Agree i t a
  then_agree i t c a b f h = ap (λ y. select_of y (v i)) (f.is ∙ ap (λ z. if z then v a else v b) h)

  else_agree : (i t c a b : ℕ) → ChoiceFacts (sort_of nodes) v t c a b → is_true (v c) ≡ false → Agree i t b
  else_agree i t c a b f h = ap (λ y. select_of y (v i)) (f.is ∙ ap (λ z. if z then v a else v b) h)

  sides_agree : (i t a b : ℕ) → EqualFacts (sort_of nodes) v t a b → t < length nodes → is_true (v t) ≡ true → Stands i a → Agree i a b
  sides_agree i t a b f lt h k =
      let B = sorted_at b (SArray k.index k.element) (sym f.same ∙ k.sort) (omega (arith, f.right_lt)) in
      let e : same_value (v a) (v b) ≡ true = sym (ap is_true f.is) ∙ h in
      same_arrays k.index k.element (v a) (v b) (v i) k.array B k.word e

  known : (t : ℕ) (k : Shape) → shape_at nodes t ≡ k → FactsOf M (sort_of nodes) v t (node_at nodes t) k
  known t k e = subst (FactsOf M (sort_of nodes) v t (node_at nodes t)) e (facts M nodes v terms eval t)

  abbrev pub Goes : ℕ → ℕ → Turn → Type 0
  Goes i here w = atom_true v w.unless ≡ false → Stands i here → Stands i w.to × Agree i w.to here

  store_goes : (i here t : ℕ) (w : Turn) (k : Shape) → shape_at nodes t ≡ k → store_turn here i t k ≡ Some w → Goes i here w
  store_goes i here t w (Storing b j x) e q h stands =
      let f = known t (Storing b j x) e in
      let lt = shape_within nodes t (λ o. let z : Storing b j x ≡ Other = sym e ∙ o in let y : ⊥ = cc in y) in
      let same : sort_of nodes t ≡ sort_of nodes b = f.sort ∙ sym f.array_sort in
      let bl : b < length nodes = omega (arith, f.array_lt) in
      cross i here t b (Same i j) w q same lt bl (λ a. store_agree i t b j x f lt (unless_is here t b (Same i j) w q h) a) stands
  store_goes i here t w k e q h stands = let f : ⊥ = cc in absurd f

  then_goes : (i here t : ℕ) (w : Turn) (k : Shape) → shape_at nodes t ≡ k → then_turn here t k ≡ Some w → Goes i here w
  then_goes i here t w (Choosing c a b) e q h stands =
      let f = known t (Choosing c a b) e in
      let lt = shape_within nodes t (λ o. let z : Choosing c a b ≡ Other = sym e ∙ o in let y : ⊥ = cc in y) in
      let al : a < length nodes = omega (arith, f.then_lt) in
      let yes = true_of (v c) (unless_is here t a (Fails c) w q h) in
      cross i here t a (Fails c) w q (sym f.then_sort) lt al (λ k. then_agree i t c a b f yes) stands
  then_goes i here t w k e q h stands = let f : ⊥ = cc in absurd f

  else_goes : (i here t : ℕ) (w : Turn) (k : Shape) → shape_at nodes t ≡ k → else_turn here t k ≡ Some w → Goes i here w
  else_goes i here t w (Choosing c a b) e q h stands =
      let f = known t (Choosing c a b) e in
      let lt = shape_within nodes t (λ o. let z : Choosing c a b ≡ Other = sym e ∙ o in let y : ⊥ = cc in y) in
      let bl : b < length nodes = omega (arith, f.else_lt) in
      let no : is_true (v c) ≡ false = unless_is here t b (Holds c) w q h in
      cross i here t b (Holds c) w q (sym f.else_sort) lt bl (λ k. else_agree i t c a b f no) stands
  else_goes i here t w k e q h stands = let f : ⊥ = cc in absurd f

  sides_goes : (i here t : ℕ) (w : Turn) (k : Shape) → shape_at nodes t ≡ k → sides_turn here t k ≡ Some w → Goes i here w
  sides_goes i here t w (Equating a b) e q h stands =
      let f = known t (Equating a b) e in
      let lt = shape_within nodes t (λ o. let z : Equating a b ≡ Other = sym e ∙ o in let y : ⊥ = cc in y) in
      let al : a < length nodes = omega (arith, f.left_lt) in
      let bl : b < length nodes = omega (arith, f.right_lt) in
      let yes = true_of (v t) (unless_is here a b (Fails t) w q h) in
      cross i here a b (Fails t) w q f.same al bl (λ k. sides_agree i t a b f lt yes k) stands
  sides_goes i here t w k e q h stands = let f : ⊥ = cc in absurd f

  -- a move whose atom is false leads to an array with the same word at the index
  pub turn_goes : (i here : ℕ) (m : Move) (w : Turn) → turn_of nodes i here m ≡ Some w → Goes i here w
  turn_goes i here (by.Store t) w q = store_goes i here t w (shape_at nodes t) refl q
  turn_goes i here (by.Then t) w q = then_goes i here t w (shape_at nodes t) refl q
  turn_goes i here (by.Else t) w q = else_goes i here t w (shape_at nodes t) refl q
  turn_goes i here (by.Sides t) w q = sides_goes i here t w (shape_at nodes t) refl q

  abbrev pub Comes : ℕ → ℕ → Trip → Type 0
  Comes i here r = some_true v r.unless ≡ false → Stands i here → Stands i r.to × Agree i r.to here

  one_more : (i here : ℕ) (w : Turn) (o : Option Trip) (r : Trip) → ((q : Trip) → o ≡ Some q → Comes i w.to q) → Goes i here w → longer w.unless o ≡ Some r → Comes i here r
  one_more i here w None r rest first e h k = let f : ⊥ = cc in absurd f
  one_more i here w (Some q) r rest first e h k =
      let same : record { to = q.to; unless = w.unless ∷ q.unless } ≡ r = cc in
      let falses : some_true v (w.unless ∷ q.unless) ≡ false = ap (λ t. some_true v t.unless) same ∙ h in
      let p = or_false (atom_true v w.unless) (some_true v q.unless) falses in
      let a = first p.0 k in
      let b = rest q refl p.1 a.0 in
      let to : q.to ≡ r.to = ap (λ t. t.to) same in
      (subst (Stands i) to b.0, subst (λ t. Agree i t here) to (b.1 ∙ a.1))

  first_turn : (i here : ℕ) (o : Option Turn) (f : ℕ → Option Trip) (r : Trip) → ((w : Turn) → o ≡ Some w → Goes i here w) → ((to : ℕ) (q : Trip) → f to ≡ Some q → Comes i to q) → then_trip o f ≡ Some r → Comes i here r
  first_turn i here None f r first rest e = let z : ⊥ = cc in absurd z
  first_turn i here (Some w) f r first rest e = one_more i here w (f w.to) r (rest w.to) (first w refl) e

  -- so does a path whose atoms are false
  pub trip_comes : (i here : ℕ) (ms : List Move) (r : Trip) → trip_of nodes i here ms ≡ Some r → Comes i here r
  trip_comes i here [] r e = λ h k.
      let to : here ≡ r.to = cc in
      (subst (Stands i) to k, subst (λ t. Agree i t here) to refl)
  trip_comes i here (m ∷ ms) r e =
      first_turn i here (turn_of nodes i here m) (λ to. trip_of nodes i to ms) r
      (λ w q. turn_goes i here m w q)
      (λ to q p. trip_comes i to ms q p)
      e

  -- ---- accesses

  -- the index of an access lies in its array, with the value there
  pub record Lies (l : Landing) : Type 0 where
    pub stands : Stands l.index l.array
    pub there : select_of (v l.array) (v l.index) ≡ v l.value
    pub value : HasSort (SWord stands.element) (v l.value)

  start_lies : (t : ℕ) (l : Landing) (k : Shape) → shape_at nodes t ≡ k → start_of t k ≡ Some l → Lies l
  start_lies t l (Selecting a i) e q =
      let f = known t (Selecting a i) e in
      let lt = shape_within nodes t (λ o. let z : Selecting a i ≡ Other = sym e ∙ o in let y : ⊥ = cc in y) in
      let same : record { array = a; index = i; value = t } ≡ l = cc in
      let A = sorted_at a _ f.array_sort (omega (arith, f.array_lt)) in
      let I = sorted_at i _ f.index_sort (omega (arith, f.index_lt)) in
      let stands : Stands i a = record { index = f.index; element = f.element; sort = f.array_sort; array = A; word = I } in
      let all : Lies (record { array = a; index = i; value = t }) = record { stands = stands; there = sym f.is; value = sorted_at t _ f.sort lt } in
      subst Lies same all
  start_lies t l (Storing b j x) e q =
      let f = known t (Storing b j x) e in
      let lt = shape_within nodes t (λ o. let z : Storing b j x ≡ Other = sym e ∙ o in let y : ⊥ = cc in y) in
      let same : record { array = t; index = j; value = x } ≡ l = cc in
      let B = sorted_at b _ f.array_sort (omega (arith, f.array_lt)) in
      let T = sorted_at t _ f.sort lt in
      let J = sorted_at j _ f.index_sort (omega (arith, f.index_lt)) in
      let X = sorted_at x _ f.value_sort (omega (arith, f.value_lt)) in
      let stands : Stands j t = record { index = f.index; element = f.element; sort = f.sort; array = T; word = J } in
      let is : select_of (v t) (v j) ≡ select_of (store_of (v b) (v j) (v x)) (v j) = ap (λ y. select_of y (v j)) f.is in
      let put : select_of (store_of (v b) (v j) (v x)) (v j) ≡ v x = rw (B.1, J.1, X.1) (ap (VWord f.element) (stored_same B.0 J.0 X.0 J.0 refl)) in
      let all : Lies (record { array = t; index = j; value = x }) = record { stands = stands; there = is ∙ put; value = X } in
      subst Lies same all
  start_lies t l k e q = let f : ⊥ = cc in absurd f

  index_word : (n m a j : ℕ) → sort_of nodes a ≡ SArray n m → is_index nodes a j ≡ true → (j < length nodes) × (sort_of nodes j ≡ SWord n)
  index_word n m a j e h =
      let p = and_parts (nat_lt a (length nodes) && nat_lt j (length nodes)) (same_sort (index_sort (sort_of nodes a)) (sort_of nodes j)) h in
      let q = and_parts (nat_lt a (length nodes)) (nat_lt j (length nodes)) p.0 in
      (ltb-true j (length nodes) q.1, sym (sort_same (index_sort (sort_of nodes a)) (sort_of nodes j) p.1) ∙ ap index_sort e)

  filled_lies : (t j x : ℕ) → shape_at nodes t ≡ Filling x → is_index nodes t j ≡ true → Lies (record { array = t; index = j; value = x })
  filled_lies t j x e h =
      let f = known t (Filling x) e in
      let lt = shape_within nodes t (λ o. let z : Filling x ≡ Other = sym e ∙ o in let y : ⊥ = cc in y) in
      let i = index_word f.index f.element t j f.sort h in
      let T = sorted_at t _ f.sort lt in
      let J = sorted_at j _ i.1 i.0 in
      let X = sorted_at x _ f.element_sort (omega (arith, f.element_lt)) in
      let is : select_of (v t) (v j) ≡ select_of (VArray f.index (width_in (v x)) (filled (number_of (v x)))) (v j) = ap (λ y. select_of y (v j)) f.is in
      let put : VWord (width_in (v x)) (number_of (v x)) ≡ v x = rw X.1 refl in
      record { stands = record { index = f.index; element = f.element; sort = f.sort; array = T; word = J }; there = is ∙ put; value = X }

  constant_lies : (t j : ℕ) (l : Landing) (k : Shape) → shape_at nodes t ≡ k → constant_start nodes t j k ≡ Some l → Lies l
  constant_lies t j l (Filling x) e q = go (is_index nodes t j) refl q where
    go : (b : Bool) → is_index nodes t j ≡ b → (if b then Some (record { array = t; index = j; value = x }) else None) ≡ Some l → Lies l
    go true h p = let same : record { array = t; index = j; value = x } ≡ l = cc in subst Lies same (filled_lies t j x e h)
    go false h p = let f : ⊥ = cc in absurd f
  constant_lies t j l k e q = let f : ⊥ = cc in absurd f

  arrive_lies : (l : Landing) (o : Option Trip) (p : Arrival) → Lies l → ((r : Trip) → o ≡ Some r → Comes l.index l.array r) → arrive l o ≡ Some p → some_true v p.unless ≡ false → Lies p.landing
  arrive_lies l None p h f e n = let z : ⊥ = cc in absurd z
  arrive_lies l (Some r) p h f e n =
      let same : record { landing = record l { array = r.to }; unless = r.unless } ≡ p = cc in
      let falses : some_true v r.unless ≡ false = ap (λ t. some_true v t.unless) same ∙ n in
      let k = f r refl falses h.stands in
      let stands : Stands l.index r.to = k.0 in
      let there : select_of (v r.to) (v l.index) ≡ v l.value = k.1 ∙ h.there in
      let word : HasSort (SWord stands.element) (v l.value) = ends stands.index stands.element (v r.to) (v l.index) (v l.value) stands.array there in
      let all : Lies (record l { array = r.to }) = record { stands = stands; there = there; value = word } in
      subst (λ q. Lies q.landing) same all where
        ends : (n m : ℕ) (A I X : Value) → HasSort (SArray n m) A → select_of A I ≡ X → HasSort (SWord m) X
        ends n m A I X a e = (held_at a.0 (number_of I), sym e ∙ rw a.1 refl, a.2 (number_of I))

  landing_lies : (o : Option Landing) (ms : List Move) (p : Arrival) → ((l : Landing) → o ≡ Some l → Lies l) → from_landing nodes o ms ≡ Some p → some_true v p.unless ≡ false → Lies p.landing
  landing_lies None ms p f e n = let z : ⊥ = cc in absurd z
  landing_lies (Some l) ms p f e n = arrive_lies l (trip_of nodes l.index l.array ms) p (f l refl) (λ r q. trip_comes l.index l.array ms r q) e n

  -- an access whose moves' atoms are false lies where its path ends
  pub arrival_lies : (a : Access) (p : Arrival) → arrival_of nodes a ≡ Some p → some_true v p.unless ≡ false → Lies p.landing
  arrival_lies a p e n = landing_lies (landing_of nodes a.start) a.path p (λ l q. landing_lies_at a.start l q) e n where
    landing_lies_at : (s : Start) (l : Landing) → landing_of nodes s ≡ Some l → Lies l
    landing_lies_at (Term t) l q = start_lies t l (shape_at nodes t) refl q
    landing_lies_at (Const t j) l q = constant_lies t j l (shape_at nodes t) refl q

  -- ---- lemmas

  two_lie : (a i j x y : ℕ) (n m : ℕ) → HasSort (SWord n) (v i) → HasSort (SWord n) (v j) → select_of (v a) (v i) ≡ v x → select_of (v a) (v j) ≡ v y → same_value (v i) (v j) ≡ true → same_value (v x) (v y) ≡ true
  two_lie a i j x y n m I J p q e =
      let same : v i ≡ v j = same_plain (SWord n) (SWord n) (v i) (v j) tt tt I J e in
      let values : v x ≡ v y = sym p ∙ ap (select_of (v a)) same ∙ q in
      ap (same_value (v x)) (sym values) ∙ same_refl (v x)

  meet : (p q : Arrival) → (p.landing.array == q.landing.array) ≡ true → (some_true v p.unless ≡ false → Lies p.landing) → (some_true v q.unless ≡ false → Lies q.landing) → some_true v (p.unless ++ q.unless ++ Differ p.landing.index q.landing.index ∷ Same p.landing.value q.landing.value ∷ []) ≡ false → ⊥
  meet p q e f g h =
      let both = some_append v (p.unless ++ q.unless) (Differ p.landing.index q.landing.index ∷ Same p.landing.value q.landing.value ∷ []) h in
      let moves = some_append v p.unless q.unless both.0 in
      let last = or_false (not (same_value (v p.landing.index) (v q.landing.index))) _ both.1 in
      let values = or_false (same_value (v p.landing.value) (v q.landing.value)) false last.1 in
      let P = f moves.0 in
      let Q = g moves.1 in
      let a : p.landing.array ≡ q.landing.array = eqb-true p.landing.array q.landing.array e in
      let n : Q.stands.index ≡ P.stands.index = let k : SArray Q.stands.index Q.stands.element ≡ SArray P.stands.index P.stands.element = sym Q.stands.sort ∙ ap (sort_of nodes) (sym a) ∙ P.stands.sort in cc in
      let J : HasSort (SWord P.stands.index) (v q.landing.index) = subst (λ k. HasSort (SWord k) (v q.landing.index)) n Q.stands.word in
      let there : select_of (v p.landing.array) (v q.landing.index) ≡ v q.landing.value = ap (λ t. select_of (v t) (v q.landing.index)) a ∙ Q.there in
      let same = not-false (same_value (v p.landing.index) (v q.landing.index)) last.0 in
      let t = two_lie p.landing.array p.landing.index q.landing.index p.landing.value q.landing.value P.stands.index P.stands.element P.stands.word J P.there there same in
      let z : true ≡ false = sym t ∙ values.0 in
      let y : ⊥ = cc in y

  arrays_sound_of : (o w : Option Arrival) (atoms : List Atom) → ((p : Arrival) → o ≡ Some p → some_true v p.unless ≡ false → Lies p.landing) → ((p : Arrival) → w ≡ Some p → some_true v p.unless ≡ false → Lies p.landing) → arrays_atoms o w ≡ Some atoms → some_true v atoms ≡ true
  arrays_sound_of None w atoms f g e = let z : ⊥ = cc in absurd z
  arrays_sound_of (Some p) None atoms f g e = let z : ⊥ = cc in absurd z
  arrays_sound_of (Some p) (Some q) atoms f g e = go (p.landing.array == q.landing.array) refl where
    go : (b : Bool) → (p.landing.array == q.landing.array) ≡ b → some_true v atoms ≡ true
    go false r = let k = rw r at e in let z : ⊥ = cc in absurd z
    go true r =
        let k = rw r at e in
        let same : p.unless ++ q.unless ++ Differ p.landing.index q.landing.index ∷ Same p.landing.value q.landing.value ∷ [] ≡ atoms = cc in
        subst (λ t. some_true v t ≡ true) same (unless_false _ (λ h. meet p q r (f p refl) (g q refl) h))

  arrays_sound : (a b : Access) (atoms : List Atom) → arrays_atoms (arrival_of nodes a) (arrival_of nodes b) ≡ Some atoms → some_true v atoms ≡ true
  arrays_sound a b atoms e = arrays_sound_of (arrival_of nodes a) (arrival_of nodes b) atoms (arrival_lies a) (arrival_lies b) e

  args_equal : (as' bs : List ℕ) (last atoms : List Atom) → AllByRecursion (λ a. a < length nodes) as' → AllByRecursion (λ a. a < length nodes) bs → AllByRecursion IsPlain (map (sort_of nodes) as') → AllByRecursion IsPlain (map (sort_of nodes) bs) → pairs_atoms as' bs last ≡ Some atoms → some_true v atoms ≡ false → (map v as' ≡ map v bs) × (some_true v last ≡ false)
  args_equal [] [] last atoms la lb pa pb e h = let q : last ≡ atoms = cc in (refl, ap (some_true v) q ∙ h)
  args_equal [] (b ∷ bs) last atoms la lb pa pb e h = let f : ⊥ = cc in absurd f
  args_equal (a ∷ as') [] last atoms la lb pa pb e h = let f : ⊥ = cc in absurd f
  args_equal (a ∷ as') (b ∷ bs) last atoms la lb pa pb e h = go (pairs_atoms as' bs last) e (λ rest r. args_equal as' bs last rest la.1 lb.1 pa.1 pb.1 r) where
    go : (o : Option (List Atom)) → put_front (Differ a b) o ≡ Some atoms → ((rest : List Atom) → o ≡ Some rest → some_true v rest ≡ false → (map v as' ≡ map v bs) × (some_true v last ≡ false)) → (map v (a ∷ as') ≡ map v (b ∷ bs)) × (some_true v last ≡ false)
    go None q ih = let f : ⊥ = cc in absurd f
    go (Some rest) q ih =
        let same : Differ a b ∷ rest ≡ atoms = cc in
        let falses : some_true v (Differ a b ∷ rest) ≡ false = ap (some_true v) same ∙ h in
        let p = or_false (not (same_value (v a) (v b))) (some_true v rest) falses in
        let equal = same_plain (sort_of nodes a) (sort_of nodes b) (v a) (v b) pa.0 pb.0 (eval.sorted a la.0) (eval.sorted b lb.0) (not-false (same_value (v a) (v b)) p.0) in
        let k = ih rest refl p.1 in
        (rw (equal, k.0) refl, k.1)

  applying_is : (t : ℕ) (k : Shape) → shape_at nodes t ≡ k → is_applying k ≡ true → (d : ℕ) × (k ≡ Applying d)
  applying_is t (Applying d) e q = (d, refl)
  applying_is t k e q = let f : ⊥ = cc in absurd f

  applied : (t d : ℕ) → shape_at nodes t ≡ Applying d → ApplyFacts M (sort_of nodes) v t d (node_at nodes t).op (node_at nodes t).args × (t < length nodes)
  applied t d e = (known t (Applying d) e, shape_within nodes t (λ o. let z : Applying d ≡ Other = sym e ∙ o in let y : ⊥ = cc in y))

  apply_shape : (op : Op) (args : List ℕ) (d : ℕ) (g : Signature) → op ≡ Apply d g → shape_of op args ≡ Applying d
  apply_shape op args d g e = rw e refl

  congruence_false : (t u : ℕ) (atoms : List Atom) (b : Bool) → (is_applying (shape_at nodes t) && same_op (node_at nodes t).op (node_at nodes u).op) ≡ b → congruence_atoms nodes t u ≡ Some atoms → some_true v atoms ≡ false → ⊥
  congruence_false t u atoms false r e h = let k : None ≡ Some atoms = ap (λ c. if c then pairs_atoms (node_at nodes t).args (node_at nodes u).args (Same t u ∷ []) else None) (sym r) ∙ e in let z : ⊥ = cc in z
  congruence_false t u atoms true r e h =
      let k : pairs_atoms (node_at nodes t).args (node_at nodes u).args (Same t u ∷ []) ≡ Some atoms = ap (λ c. if c then pairs_atoms (node_at nodes t).args (node_at nodes u).args (Same t u ∷ []) else None) (sym r) ∙ e in
      let parts = and_parts (is_applying (shape_at nodes t)) (same_op (node_at nodes t).op (node_at nodes u).op) r in
      let ops : (node_at nodes t).op ≡ (node_at nodes u).op = op_same _ _ parts.1 in
      let d = applying_is t (shape_at nodes t) refl parts.0 in
      let A = applied t d.0 d.1 in
      let B = applied u d.0 (apply_shape (node_at nodes u).op (node_at nodes u).args d.0 A.0.signature (sym ops ∙ A.0.op_is)) in
      let la = all_within t (length nodes) (omega (arith, A.1)) (node_at nodes t).args A.0.args_lt in
      let lb = all_within u (length nodes) (omega (arith, B.1)) (node_at nodes u).args B.0.args_lt in
      let args = args_equal (node_at nodes t).args (node_at nodes u).args (Same t u ∷ []) atoms la lb A.0.plain_args B.0.plain_args k h in
      let ranked : (sort_of nodes t ≡ sort_of nodes u) = same_rank t u A.1 B.1 ops (A.0.sorts ∙ ap signature_of_args (sym A.0.op_is ∙ ops ∙ B.0.op_is) ∙ sym B.0.sorts) in
      let same : v t ≡ v u = A.0.is ∙ rw (ranked, args.0) refl ∙ sym B.0.is in
      let no = or_false (same_value (v t) (v u)) false args.1 in
      let yes : same_value (v t) (v u) ≡ true = ap (same_value (v t)) (sym same) ∙ same_refl (v t) in
      let z : true ≡ false = sym yes ∙ no.0 in
      let y : ⊥ = cc in y where
        signature_of_args : Op → List Sort
        signature_of_args op = (signature_of op).args

        same_rank : (t u : ℕ) → t < length nodes → u < length nodes → (node_at nodes t).op ≡ (node_at nodes u).op → map (sort_of nodes) (node_at nodes t).args ≡ map (sort_of nodes) (node_at nodes u).args → sort_of nodes t ≡ sort_of nodes u
        same_rank t u lt lu o a = sort_is nodes t (terms t lt) ∙ rw (o, a) refl ∙ sym (sort_is nodes u (terms u lu))

  pub congruence_sound : (t u : ℕ) (atoms : List Atom) → atoms_of nodes (lemma.Congruence t u) ≡ Some atoms → some_true v atoms ≡ true
  congruence_sound t u atoms e = unless_false (some_true v atoms) (λ h. congruence_false t u atoms (is_applying (shape_at nodes t) && same_op (node_at nodes t).op (node_at nodes u).op) refl e h)

-- ---- witnesses

-- the terms of a watch are what it says
pub record IsWatch (nodes : List Node) (a b : ℕ) (w : Watch) : Type 0 where
  pub witness : shape_at nodes w.witness ≡ Witnessing a b
  pub left : shape_at nodes w.left ≡ Selecting a w.witness
  pub right : shape_at nodes w.right ≡ Selecting b w.witness
  pub within : w.witness < length nodes

watch_of_is : (nodes : List Node) (a b k : ℕ) (l r : Option ℕ) (w : Watch) → shape_at nodes k ≡ Witnessing a b → k < length nodes → ((t : ℕ) → l ≡ Some t → shape_at nodes t ≡ Selecting a k) → ((t : ℕ) → r ≡ Some t → shape_at nodes t ≡ Selecting b k) → watch_of k l r ≡ Some w → IsWatch nodes a b w
watch_of_is nodes a b k None r w s lt f g e = let z : ⊥ = cc in absurd z
watch_of_is nodes a b k (Some l) None w s lt f g e = let z : ⊥ = cc in absurd z
watch_of_is nodes a b k (Some l) (Some r) w s lt f g e =
    let same : record { witness = k; left = l; right = r } ≡ w = cc in
    let all : IsWatch nodes a b (record { witness = k; left = l; right = r }) = record { witness = s; left = f l refl; right = g r refl; within = lt } in
    subst (IsWatch nodes a b) same all

selecting_found : (nodes : List Node) (a i t : ℕ) → term_of nodes (select_node a i) ≡ Some t → shape_at nodes t ≡ Selecting a i
selecting_found nodes a i t e = let h = at_place nodes (select_node a i) t e in ap (λ n. shape_of n.op n.args) h.1

watch_at_is : (nodes : List Node) (a b : ℕ) (o : Option ℕ) (w : Watch) → ((k : ℕ) → o ≡ Some k → (k < length nodes) × (shape_at nodes k ≡ Witnessing a b)) → watch_at nodes a b o ≡ Some w → IsWatch nodes a b w
watch_at_is nodes a b None w f e = let z : ⊥ = cc in absurd z
watch_at_is nodes a b (Some k) w f e =
    let h = f k refl in
    watch_of_is nodes a b k (term_of nodes (select_node a k)) (term_of nodes (select_node b k)) w h.1 h.0 (selecting_found nodes a k) (selecting_found nodes b k) e

pub watch_is : (nodes : List Node) (a b : ℕ) (w : Watch) → watch nodes a b ≡ Some w → IsWatch nodes a b w
watch_is nodes a b w e = watch_at_is nodes a b (term_of nodes (witness_node a b)) w (λ k q. let h = at_place nodes (witness_node a b) k q in (h.0, ap (λ n. shape_of n.op n.args) h.1)) e

module _ (M : Interpretation) (nodes : List Node) (terms : IsTermList nodes) where
  ev : IsEvaluation M nodes (value M nodes)
  ev = value_is_evaluation M nodes terms

  differ_there : (n m : ℕ) (A B W L R : Value) → HasSort (SArray n m) A → HasSort (SArray n m) B → W ≡ witness_of A B → L ≡ select_of A W → R ≡ select_of B W → same_value A B ≡ false → same_value L R ≡ false
  differ_there n m A B W L R h k w l r e =
      let q : all_below (λ i. held_at h.0 i == held_at k.0 i) (2 ^ n) ≡ false = go at_forms in
      let d = first_differs (2 ^ n) (held_at h.0) (held_at k.0) q in
      let i : ℕ = first_below (λ x. not (held_at h.0 x == held_at k.0 x)) (2 ^ n) in
      let ww : W ≡ VWord n i = w ∙ rw (h.1, k.1) refl in
      let ll : L ≡ VWord m (held_at h.0 i) = l ∙ rw (h.1, ww) refl in
      let rr : R ≡ VWord m (held_at k.0 i) = r ∙ rw (k.1, ww) refl in
      rw (ll, rr) (and_false (m == m) (held_at h.0 i == held_at k.0 i) (ne_eqb (held_at h.0 i) (held_at k.0 i) d.1)) where
        at_forms : same_value (VArray n m h.0) (VArray n m k.0) ≡ false
        at_forms = rw (h.1, k.1) at e

        go : same_value (VArray n m h.0) (VArray n m k.0) ≡ false → all_below (λ i. held_at h.0 i == held_at k.0 i) (2 ^ n) ≡ false
        go x = x

  watch_sound : (t a b : ℕ) (o : Option Watch) (atoms : List Atom) → shape_at nodes t ≡ Equating a b → ((w : Watch) → o ≡ Some w → IsWatch nodes a b w) → watch_atoms t o ≡ Some atoms → some_true (value M nodes) atoms ≡ false → ⊥
  watch_sound t a b None atoms e f q h = let z : ⊥ = cc in z
  watch_sound t a b (Some w) atoms e f q h =
      let v : ℕ → Value = value M nodes in
      let i = f w refl in
      let equal = known M nodes v terms ev t (Equating a b) e in
      let witness = known M nodes v terms ev w.witness (Witnessing a b) i.witness in
      let left = known M nodes v terms ev w.left (Selecting a w.witness) i.left in
      let right = known M nodes v terms ev w.right (Selecting b w.witness) i.right in
      let is = witness_value M nodes terms w.witness a b i.within i.witness in
      let same : Holds t ∷ Differ w.left w.right ∷ [] ≡ atoms = cc in
      let falses : some_true v (Holds t ∷ Differ w.left w.right ∷ []) ≡ false = ap (some_true v) same ∙ h in
      let p = or_false (is_true (v t)) _ falses in
      let o = or_false (not (same_value (v w.left) (v w.right))) false p.1 in
      let no : same_value (v a) (v b) ≡ false = sym (ap is_true equal.is) ∙ p.0 in
      let A = sorted_at M nodes v terms ev a (SArray witness.index witness.element) witness.left_sort (omega (arith, i.within, witness.left_lt)) in
      let B = sorted_at M nodes v terms ev b (SArray witness.index witness.element) witness.right_sort (omega (arith, i.within, witness.right_lt)) in
      let d = differ_there witness.index witness.element (v a) (v b) (v w.witness) (v w.left) (v w.right) A B is left.is right.is no in
      let yes = not-false (same_value (v w.left) (v w.right)) o.0 in
      let z : true ≡ false = sym yes ∙ d in
      let y : ⊥ = cc in y

  witness_sound : (t : ℕ) (k : Shape) (atoms : List Atom) → shape_at nodes t ≡ k → witness_atoms nodes t k ≡ Some atoms → some_true (value M nodes) atoms ≡ false → ⊥
  witness_sound t (Equating a b) atoms e q h = watch_sound t a b (watch nodes a b) atoms e (watch_is nodes a b) q h
  witness_sound t k atoms e q h = let f : ⊥ = cc in f

  pub lemma_sound : (lemma : Lemma) (atoms : List Atom) → atoms_of nodes lemma ≡ Some atoms → some_true (value M nodes) atoms ≡ true
  lemma_sound (lemma.Congruence t u) atoms e = congruence_sound M nodes (value M nodes) terms ev t u atoms e
  lemma_sound (lemma.Arrays a b) atoms e = arrays_sound M nodes (value M nodes) terms ev a b atoms e
  lemma_sound (lemma.Witness t) atoms e = unless_false (some_true (value M nodes) atoms) (λ h. witness_sound t (shape_at nodes t) atoms refl e h)
