-- The words of a closed table are coherent.
use Rattle.std.proofs.Common.{◌≡◌, ℕ, get_or, ◌<◌, ◌^◌, Bool, true, false, not, ◌&&◌, List, [], ◌∷◌, Option, Some, None, refl, sym, ap, ◌∙◌, subst, inl, inr, ⊎_elim, arith}
use Rattle.std.specs.Prelude.{◌==◌, Contains}
use Rattle.std.proofs.lemmas.Bool.{and_parts, eq-eqb, ne_eqb, eqb-true, eqb-false}
use Rattle.std.proofs.lemmas.List.Elements.{Contains-append_right, Contains-append_cases}
use Rattle.smt_terms.specs.declared.sort.Sort.TheVariants as sort
use Rattle.smt_terms.specs.declared.node.Node.{Node}
use Rattle.smt_terms.specs.Nodes.{node_at}
use Rattle.smt_terms.specs.Terms.{sort_of, IsTermList}
use Rattle.smt_terms.specs.Values.{Value, VBool, VWord, VArray, Interpretation, is_true, number_of, same_value, value}
use Rattle.smt_terms.proofs.Evaluating.{value_is_evaluation}
use Rattle.theory_terms.specs.declared.lemma.Move.{Move}
use Rattle.theory_terms.specs.declared.lemma.Move.TheVariants as by
use Rattle.theory_terms.specs.declared.shape.Shape.{Shape}
use Rattle.theory_terms.specs.declared.shape.Shape.TheVariants.{Selecting, Storing, Filling, Choosing, Equating}
use Rattle.theory_terms.specs.declared.atom.Atom.{Atom}
use Rattle.theory_terms.specs.declared.atom.Atom.TheVariants.{Same, Holds, Fails}
use Rattle.theory_terms.specs.declared.atom.Landing.{Landing}
use Rattle.theory_terms.specs.Shapes.{shape_at}
use Rattle.theory_terms.specs.Named.{mover}
use Rattle.theory_terms.specs.Lemmas.{atom_true, start_of, between, store_turn, then_turn, else_turn, sides_turn, turn_of}
use Rattle.theory_terms.proofs.Shapes.{StoreFacts, ChoiceFacts, EqualFacts, FactsOf, facts}
use Rattle.access_tables.specs.Ready.{IsOwn}
use Rattle.access_tables.specs.Built.{IsCoherent}
use Rattle.access_tables.specs.Tables.{Has, IsTaken, IsSpare, IsAsked, IsClosedTable, look, or_else, IsSpareOf, AreSpare, index_width, spare_word, default_at, word_at}

same_numbers : (x y : Value) → same_value x y ≡ true → number_of x ≡ number_of y
same_numbers (VBool a) (VBool b) h = refl
same_numbers (VBool a) (VWord n x) h = let f : ⊥ = cc in absurd f
same_numbers (VBool a) (VArray n m g) h = refl
same_numbers (VWord n x) (VBool b) h = let f : ⊥ = cc in absurd f
same_numbers (VWord n x) (VWord m y) h = eqb-true x y ((and_parts (n == m) (x == y) h).1)
same_numbers (VWord n x) (VArray k m g) h = let f : ⊥ = cc in absurd f
same_numbers (VArray n m g) (VBool b) h = refl
same_numbers (VArray n m g) (VWord k x) h = let f : ⊥ = cc in absurd f
same_numbers (VArray n m g) (VArray k l o) h = refl

-- words of different numbers are different
pub other_numbers : (x y : Value) → (number_of x ≡ number_of y → ⊥) → same_value x y ≡ false
other_numbers x y ne = go (same_value x y) refl where
  go : (b : Bool) → same_value x y ≡ b → same_value x y ≡ false
  go true e = absurd (ne (same_numbers x y e))
  go false e = e

both_true : (a b : Bool) → a ≡ true → b ≡ true → (a && b) ≡ true
both_true a b p q = ap (λ x. x && b) p ∙ q

pub between_first : (a b : ℕ) (atom : Atom) → between a a b atom ≡ Some (record { to = b; unless = atom })
between_first a b atom = rw (eq-eqb a a refl) refl

pub between_second : (a b : ℕ) (atom : Atom) → (b ≡ a → ⊥) → between b a b atom ≡ Some (record { to = a; unless = atom })
between_second a b atom ne = rw (ne_eqb b a ne, eq-eqb b b refl) refl

-- ---- the first access of an array with an index

module _ (val : ℕ → Value) where
  abbrev is_at : Landing → ℕ → ℕ → Bool
  is_at r a k = (r.array == a) && (number_of (val r.index) == k)

  pub look_has : (rows : List Landing) (a k x : ℕ) → look val rows a k ≡ Some x → Has val rows a k x
  look_has [] a k x e = let f : ⊥ = cc in absurd f
  look_has (r ∷ rows) a k x e = go (is_at r a k) refl (look_has rows a k x) where
    go : (b : Bool) → is_at r a k ≡ b → (look val rows a k ≡ Some x → Has val rows a k x) → Has val (r ∷ rows) a k x
    go true q ih =
        let p = and_parts (r.array == a) (number_of (val r.index) == k) q in
        let h : Some (number_of (val r.value)) ≡ Some x = rw q at e in
        let y : number_of (val r.value) ≡ x = cc in
        (r, (0, omega arith, refl), record { array = eqb-true r.array a p.0; index = eqb-true (number_of (val r.index)) k p.1; value = y })
    go false q ih =
        let h : look val rows a k ≡ Some x = rw q at e in
        let i = ih h in
        (i.0, Contains-append_right (r ∷ []) rows i.0 i.1, i.2)

  pub has_look : (rows : List Landing) (a k : ℕ) (r : Landing) → Contains rows r → r.array ≡ a → number_of (val r.index) ≡ k → (y : ℕ) × (look val rows a k ≡ Some y)
  has_look [] a k r i p q = absurd (omega (arith, i.1))
  has_look (l ∷ rows) a k r i p q = go (is_at l a k) refl (λ rest. has_look rows a k r rest p q) where
    go : (b : Bool) → is_at l a k ≡ b → (Contains rows r → (y : ℕ) × (look val rows a k ≡ Some y)) → (y : ℕ) × (look val (l ∷ rows) a k ≡ Some y)
    go true e ih = (number_of (val l.value), rw e refl)
    go false e ih =
        ⊎_elim
        (λ (c : Contains (l ∷ []) r).
        let same : l ≡ r = alone l r c in
        let t = both_true (l.array == a) (number_of (val l.index) == k) (eq-eqb l.array a (ap (λ (z : Landing). z.array) same ∙ p)) (eq-eqb (number_of (val l.index)) k (ap (λ (z : Landing). number_of (val z.index)) same ∙ q)) in
        let z : true ≡ false = sym t ∙ e in
        let f : ⊥ = cc in absurd f)
        (λ (rest : Contains rows r). let h = ih rest in (h.0, rw e h.1))
        (Contains-append_cases (l ∷ []) rows r i)
      where
        alone : (l r : Landing) → Contains (l ∷ []) r → l ≡ r
        alone l r c = let zero : c.0 ≡ 0 = (let lt = c.1 in omega (arith, lt)) in first c.0 zero c.2 where
          first : (k : ℕ) → k ≡ 0 → get_or (l ∷ []) k r ≡ r → l ≡ r
          first k z e = ap (λ j. get_or (l ∷ []) j r) (sym z) ∙ e

-- ---- coherence

module _
    (nodes : List Node) (terms : IsTermList nodes) (image : ℕ → Option ℕ) (Here : ℕ → Type 0) (val : ℕ → Value) (rows : List Landing)
    (closed : IsClosedTable nodes image Here val rows) where
  at_has : (a k x : ℕ) → Has val rows a k x → look val rows a k ≡ Some x
  at_has a k x h =
      let y = has_look val rows a k h.0 h.1 h.2.array h.2.index in
      y.1 ∙ ap Some (closed.consistent a k y.0 x (look_has val rows a k y.0 y.1) h)

  same_look : (a b k : ℕ) → ((x : ℕ) → Has val rows a k x → Has val rows b k x) → ((x : ℕ) → Has val rows b k x → Has val rows a k x) → look val rows a k ≡ look val rows b k
  same_look a b k f g = go (look val rows a k) refl (look val rows b k) refl where
    go : (o : Option ℕ) → look val rows a k ≡ o → (w : Option ℕ) → look val rows b k ≡ w → look val rows a k ≡ look val rows b k
    go (Some x) e w q = e ∙ sym (at_has b k x (f x (look_has val rows a k x e)))
    go None e (Some y) q = let h = at_has a k y (g y (look_has val rows b k y q)) in let z : None ≡ Some y = sym e ∙ h in let n : ⊥ = cc in absurd n
    go None e None q = e ∙ sym q

  -- an access goes over by a move
  over : (a b k x : ℕ) (m : Move) (atom : ℕ → Atom) → IsOwn Here image (mover m) → ((i : ℕ) → turn_of nodes i a m ≡ Some (record { to = b; unless = atom i })) → ((i : ℕ) → number_of (val i) ≡ k → atom_true val (atom i) ≡ false) → Has val rows a k x → Has val rows b k x
  over a b k x m atom h turn falses has =
      let r = has.0 in
      let t : turn_of nodes r.index r.array m ≡ Some (record { to = b; unless = atom r.index }) = ap (λ z. turn_of nodes r.index z m) has.2.array ∙ turn r.index in
      let w = closed.moves r m (record { to = b; unless = atom r.index }) has.1 h t (falses r.index has.2.index) in
      (w.0, w.1, record { array = w.2.array; index = w.2.index ∙ has.2.index; value = w.2.value ∙ has.2.value })

  M : Interpretation
  M = record { constants = λ d. VBool false; functions = λ d vs. VBool false }

  fact : (t : ℕ) (k : Shape) → shape_at nodes t ≡ k → FactsOf M (sort_of nodes) (value M nodes) t (node_at nodes t) k
  fact t k e = subst (FactsOf M (sort_of nodes) (value M nodes) t (node_at nodes t)) e (facts M nodes (value M nodes) terms (value_is_evaluation M nodes terms) t)

  selected_look : (t a i : ℕ) → IsOwn Here image t → shape_at nodes t ≡ Selecting a i → look val rows a (number_of (val i)) ≡ Some (number_of (val t))
  selected_look t a i h e = at_has a _ _ (closed.starts t (record { array = a; index = i; value = t }) h (ap (start_of t) e))

  stored_look : (t b j x : ℕ) → IsOwn Here image t → shape_at nodes t ≡ Storing b j x → look val rows t (number_of (val j)) ≡ Some (number_of (val x))
  stored_look t b j x h e = at_has t _ _ (closed.starts t (record { array = t; index = j; value = x }) h (ap (start_of t) e))

  kept_look : (t b j x k : ℕ) → IsOwn Here image t → shape_at nodes t ≡ Storing b j x → (k ≡ number_of (val j) → ⊥) → look val rows t k ≡ look val rows b k
  kept_look t b j x k h e ne =
      let f : StoreFacts (sort_of nodes) (value M nodes) t b j x = fact t (Storing b j x) e in
      let other : b ≡ t → ⊥ = λ q. (let lt = f.array_lt in omega (arith, lt, q)) in
      let falses : (i : ℕ) → number_of (val i) ≡ k → same_value (val i) (val j) ≡ false = λ i q. other_numbers (val i) (val j) (λ z. ne (sym q ∙ z)) in
      same_look t b k
      (λ y. over t b k y (by.Store t) (λ i. Same i j) h (λ i. ap (store_turn t i t) e ∙ between_first t b (Same i j)) falses)
      (λ y. over b t k y (by.Store t) (λ i. Same i j) h (λ i. ap (store_turn b i t) e ∙ between_second t b (Same i j) other) falses)

  chosen_look : (t c a b k : ℕ) → IsOwn Here image t → shape_at nodes t ≡ Choosing c a b → is_true (val c) ≡ true → look val rows t k ≡ look val rows a k
  chosen_look t c a b k h e holds =
      let f : ChoiceFacts (sort_of nodes) (value M nodes) t c a b = fact t (Choosing c a b) e in
      let other : a ≡ t → ⊥ = λ q. (let lt = f.then_lt in omega (arith, lt, q)) in
      let falses : (i : ℕ) → number_of (val i) ≡ k → not (is_true (val c)) ≡ false = λ i q. ap not holds in
      same_look t a k
      (λ y. over t a k y (by.Then t) (λ i. Fails c) h (λ i. ap (then_turn t t) e ∙ between_first t a (Fails c)) falses)
      (λ y. over a t k y (by.Then t) (λ i. Fails c) h (λ i. ap (then_turn a t) e ∙ between_second t a (Fails c) other) falses)

  refused_look : (t c a b k : ℕ) → IsOwn Here image t → shape_at nodes t ≡ Choosing c a b → is_true (val c) ≡ false → look val rows t k ≡ look val rows b k
  refused_look t c a b k h e other_way =
      let f : ChoiceFacts (sort_of nodes) (value M nodes) t c a b = fact t (Choosing c a b) e in
      let other : b ≡ t → ⊥ = λ q. (let lt = f.else_lt in omega (arith, lt, q)) in
      let falses : (i : ℕ) → number_of (val i) ≡ k → is_true (val c) ≡ false = λ i q. other_way in
      same_look t b k
      (λ y. over t b k y (by.Else t) (λ i. Holds c) h (λ i. ap (else_turn t t) e ∙ between_first t b (Holds c)) falses)
      (λ y. over b t k y (by.Else t) (λ i. Holds c) h (λ i. ap (else_turn b t) e ∙ between_second t b (Holds c) other) falses)

  equal_look : (t a b k : ℕ) → IsOwn Here image t → shape_at nodes t ≡ Equating a b → is_true (val t) ≡ true → look val rows a k ≡ look val rows b k
  equal_look t a b k h e holds = go (b == a) refl where
    falses : (i : ℕ) → number_of (val i) ≡ k → not (is_true (val t)) ≡ false
    falses i q = ap not holds

    go : (c : Bool) → (b == a) ≡ c → look val rows a k ≡ look val rows b k
    go true q = ap (λ z. look val rows z k) (sym (eqb-true b a q))
    go false q =
        same_look a b k
        (λ y. over a b k y (by.Sides t) (λ i. Fails t) h (λ i. ap (sides_turn a t) e ∙ between_first a b (Fails t)) falses)
        (λ y. over b a k y (by.Sides t) (λ i. Fails t) h (λ i. ap (sides_turn b t) e ∙ between_second a b (Fails t) (eqb-false b a q)) falses)

  -- ---- defaults

  module _ (spare : ℕ → Option ℕ) (apart : AreSpare nodes Here image val spare) where
    same_spare : (a b : ℕ) (o : Option ℕ) → ((k : ℕ) → o ≡ Some k → look val rows a k ≡ look val rows b k) → spare_word val rows a o ≡ spare_word val rows b o
    same_spare a b None h = refl
    same_spare a b (Some k) h = ap (λ o. or_else o 0) (h k refl)

    same_default : (a b : ℕ) → sort_of nodes a ≡ sort_of nodes b → ((k : ℕ) → spare (index_width (sort_of nodes a)) ≡ Some k → look val rows a k ≡ look val rows b k) → default_at nodes val rows spare a ≡ default_at nodes val rows spare b
    same_default a b e h = same_spare a b (spare (index_width (sort_of nodes a))) h ∙ ap (λ s. spare_word val rows b (spare (index_width s))) e

    same_word : (a b k : ℕ) → look val rows a k ≡ look val rows b k → default_at nodes val rows spare a ≡ default_at nodes val rows spare b → word_at nodes val rows spare a k ≡ word_at nodes val rows spare b k
    same_word a b k p q = ap (λ o. or_else o (default_at nodes val rows spare a)) p ∙ ap (or_else (look val rows b k)) q

    spare_is : (n : ℕ) (o : Option ℕ) (s : ℕ) → IsSpareOf nodes Here image val n o → o ≡ Some s → IsSpare nodes Here image val n s
    spare_is n None s h e = let f : ⊥ = cc in absurd f
    spare_is n (Some k) s h e = let same : k ≡ s = cc in subst (IsSpare nodes Here image val n) same h

    none_is : (n : ℕ) (o : Option ℕ) → IsSpareOf nodes Here image val n o → o ≡ None → (t x m k : ℕ) → IsOwn Here image t → shape_at nodes t ≡ Filling x → sort_of nodes t ≡ sort.Array n m → k < 2 ^ n → IsTaken nodes Here image val n k
    none_is n None h e = h
    none_is n (Some s) h e = let f : ⊥ = cc in absurd f

    -- the spare number is no store's index
    not_stored : (t b j x y : ℕ) → IsOwn Here image t → shape_at nodes t ≡ Storing b j x → spare (index_width (sort_of nodes t)) ≡ Some y → y ≡ number_of (val j) → ⊥
    not_stored t b j x y h e q same =
        let f : StoreFacts (sort_of nodes) (value M nodes) t b j x = fact t (Storing b j x) e in
        let s = spare_is f.index (spare f.index) y (apart f.index) (ap (λ r. spare (index_width r)) (sym f.sort) ∙ q) in
        s.apart (t, record { array = t; index = j; value = x }, h, ap (start_of t) e, f.index_sort, sym same)

    filled_word : (t x n m k : ℕ) → IsOwn Here image t → shape_at nodes t ≡ Filling x → sort_of nodes t ≡ sort.Array n m → k < 2 ^ n → word_at nodes val rows spare t k ≡ number_of (val x)
    filled_word t x n m k h e s lt = go (look val rows t k) refl (spare n) refl where
      width : spare (index_width (sort_of nodes t)) ≡ spare n
      width = ap (λ r. spare (index_width r)) s

      at_asked : (i : ℕ) → IsAsked nodes Here image val n i → look val rows t i ≡ Some (number_of (val x))
      at_asked i a = at_has t i (number_of (val x)) (closed.filled t x n m i h e s a)

      go : (o : Option ℕ) → look val rows t k ≡ o → (p : Option ℕ) → spare n ≡ p → word_at nodes val rows spare t k ≡ number_of (val x)
      go (Some y) q p r =
          let has = look_has val rows t k y q in
          let same : has.0.array ≡ t = has.2.array in
          let own : IsOwn Here image has.0.array = subst (IsOwn Here image) (sym same) h in
          let there = closed.constant has.0 x has.1 own (ap (shape_at nodes) same ∙ e) in
          let filled : Has val rows t k (number_of (val x)) = subst (λ i. Has val rows t i (number_of (val x))) has.2.index (subst (λ a. Has val rows a (number_of (val has.0.index)) (number_of (val x))) same there) in
          ap (λ o. or_else o (default_at nodes val rows spare t)) (at_has t k (number_of (val x)) filled)
      go None q (Some y) r =
          let there = at_asked y (inr (spare_is n (spare n) y (apart n) r)) in
          ap (λ o. or_else o (default_at nodes val rows spare t)) q ∙ ap (spare_word val rows t) (width ∙ r) ∙ ap (λ o. or_else o 0) there
      go None q None r = ap (λ o. or_else o (default_at nodes val rows spare t)) (at_asked k (inl (none_is n (spare n) (apart n) r t x m k h e s lt)))

    pub coherent : IsCoherent nodes image Here val (word_at nodes val rows spare)
    coherent = record {
      selected = λ t a i h e. ap (λ o. or_else o (default_at nodes val rows spare a)) (selected_look t a i h e);
      stored = λ t b j x h e. ap (λ o. or_else o (default_at nodes val rows spare t)) (stored_look t b j x h e);
      kept = λ t b j x k h e ne.
          let f : StoreFacts (sort_of nodes) (value M nodes) t b j x = fact t (Storing b j x) e in
          same_word t b k (kept_look t b j x k h e ne)
          (same_default t b (f.sort ∙ sym f.array_sort) (λ y q. kept_look t b j x y h e (not_stored t b j x y h e q)));
      filled = λ t x n m k h e s lt. filled_word t x n m k h e s lt;
      chosen = λ t c a b n m k h e s holds.
          let f : ChoiceFacts (sort_of nodes) (value M nodes) t c a b = fact t (Choosing c a b) e in
          same_word t a k (chosen_look t c a b k h e holds)
          (same_default t a (sym f.then_sort) (λ y q. chosen_look t c a b y h e holds));
      refused = λ t c a b n m k h e s other.
          let f : ChoiceFacts (sort_of nodes) (value M nodes) t c a b = fact t (Choosing c a b) e in
          same_word t b k (refused_look t c a b k h e other)
          (same_default t b (sym f.else_sort) (λ y q. refused_look t c a b y h e other));
      equal = λ t a b n m k h e s holds.
          let f : EqualFacts (sort_of nodes) (value M nodes) t a b = fact t (Equating a b) e in
          same_word a b k (equal_look t a b k h e holds)
          (same_default a b f.same (λ y q. equal_look t a b y h e holds));
      differ = λ t a b n m h e s other. closed.differ t a b n m h e s other;
    }
