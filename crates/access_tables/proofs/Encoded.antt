-- Under an assignment that satisfies the clauses of their circuits, terms have the values of their operators.
use Rattle.std.proofs.Common.{◌≡◌, ℕ, ◌<◌, ◌^◌, Bool, false, List, [], ◌∷◌, Option, Some, None, refl, sym, ap, ◌∙◌, subst, inl, inr, ⊎_elim}
use Rattle.std.specs.Prelude.{map, Contains}
use Rattle.std.specs.List.{AllByRecursion}
use Rattle.std.proofs.lemmas.List.Elements.{Contains-append_right}
use Rattle.cnf_base.specs.Literals.{Literal}
use Rattle.cnf_base.specs.Clauses.{lit_true, number}
use Rattle.cnf_base.proofs.Numbers.{number_lt}
use Rattle.smt_terms.specs.declared.sort.Sort.{Sort}
use Rattle.smt_terms.specs.declared.sort.Sort.TheVariants as sort
use Rattle.smt_terms.specs.declared.operator.Operator.TheVariants as plain
use Rattle.smt_terms.specs.declared.node.Op.{Op}
use Rattle.smt_terms.specs.declared.node.Op.TheVariants.{Plain}
use Rattle.smt_terms.specs.declared.node.Node.{Node}
use Rattle.smt_terms.specs.Nodes.{node_at}
use Rattle.smt_terms.specs.Bits.{TermBits, bits_in, image_in}
use Rattle.smt_terms.specs.Terms.{sort_of, IsTermList}
use Rattle.smt_terms.specs.Values.{Value, HasSort, op_value}
use Rattle.smt_terms.specs.Evaluations.{is_witness}
use Rattle.bit_blast.specs.Circuits.{built}
use Rattle.bit_blast.specs.Blocks.{Block, circuit_of, with_first, all_bits, block_over}
use Rattle.bit_blast.specs.Meanings.{AreBitsOf, EachIsBits, IsRowOf}
use Rattle.bit_blast.proofs.Fixing.{clauses_fix}
use Rattle.theory_terms.specs.Shapes.{IsPlain}
use Rattle.term_reach.specs.Reach.{IsClosed}
use Rattle.term_reach.proofs.Tables.{contains_at}
use Rattle.access_tables.specs.Leading.{watched, leads_by, leads}
use Rattle.theory_terms.specs.Shapes.{shape_at}
use Rattle.std.proofs.lemmas.List.Elements.{Contains-append_left}
use Rattle.access_tables.specs.Ready.{IsOwn, IsFree, IsComputed, IsReady}
use Rattle.access_tables.specs.Encoded.{HaveBits, IsSatisfied, AreSatisfied}
use Rattle.access_tables.specs.Held.{value_with, value_by, assigned_value}

-- ---- values of rows

row_bits : (f : ℕ → Bool) (s : Sort) (row : List Literal) → IsRowOf s row → AreBitsOf f s row (value_with f s row)
row_bits f sort.Bool [] h = let z : ⊥ = cc in absurd z
row_bits f sort.Bool (l ∷ []) h = (l, refl, refl)
row_bits f sort.Bool (l ∷ m ∷ row) h = let z : ⊥ = cc in absurd z
row_bits f (sort.Word n) row h = (h.1, refl)
row_bits f (sort.Array n m) row h = absurd h

bits_value : (f : ℕ → Bool) (s : Sort) (row : List Literal) (x : Value) → AreBitsOf f s row x → x ≡ value_with f s row
bits_value f sort.Bool row x h = h.2 ∙ ap (value_with f sort.Bool) (sym h.1)
bits_value f (sort.Word n) row x h = h.1
bits_value f (sort.Array n m) row x h = absurd h

pub row_sort : (f : ℕ → Bool) (s : Sort) (row : List Literal) → IsRowOf s row → HasSort s (value_with f s row)
row_sort f sort.Bool [] h = (false, refl)
row_sort f sort.Bool (l ∷ row) h = (lit_true f l, refl)
row_sort f (sort.Word n) row h = (number f row, refl, subst (λ k. number f row < 2 ^ k) h.1 (number_lt f row))
row_sort f (sort.Array n m) row h = absurd h

-- no circuit is a witness's
no_witness : (op : Op) (g : ℕ) (rows : List (List Literal)) (b : Block) → built (circuit_of op) g rows ≡ Some b → is_witness op ≡ false
no_witness (Plain plain.Witness) g rows b e = let f : ⊥ = cc in absurd f
no_witness op g rows b e = refl

module _ (nodes : List Node) (terms : IsTermList nodes) (bits : List TermBits) (f : ℕ → Bool) (Here : ℕ → Type 0) (have : HaveBits nodes bits Here) where
  abbrev pub val : ℕ → Value
  val = assigned_value nodes bits f

  pub value_is : (t : ℕ) (row : List Literal) → bits_in bits t ≡ Some row → val t ≡ value_with f (sort_of nodes t) row
  value_is t row e = ap (value_by f (sort_of nodes t)) e

  -- each of the Bools and words has a value of its sort
  pub value_sort : (t : ℕ) → Here t → IsPlain (sort_of nodes t) → HasSort (sort_of nodes t) (val t)
  value_sort t h p = let r = have.rows t h p in subst (HasSort (sort_of nodes t)) (sym (value_is t r.0 r.1)) (row_sort f (sort_of nodes t) r.0 r.2)

  own_bits : (t : ℕ) (row : List Literal) → Here t → bits_in bits t ≡ Some row → AreBitsOf f (sort_of nodes t) row (val t)
  own_bits t row h e =
      let r = have.rows t h (have.alone t row e) in
      let both : Some r.0 ≡ Some row = sym r.1 ∙ e in
      let same : r.0 ≡ row = cc in
      subst (AreBitsOf f (sort_of nodes t) row) (sym (value_is t row e)) (row_bits f (sort_of nodes t) row (subst (IsRowOf (sort_of nodes t)) same r.2))

  abbrev Arguments : List ℕ → List (List Literal) → Type 0
  Arguments args rows = AllByRecursion IsPlain (map (sort_of nodes) args) × EachIsBits f (map (sort_of nodes) args) rows (map val args)

  arguments : (args : List ℕ) (rows : List (List Literal)) → ((u : ℕ) → Contains args u → Here u) → all_bits (bits_in bits) args ≡ Some rows → Arguments args rows
  arguments [] rows here e = let same : [] ≡ rows = cc in subst (Arguments []) same (tt, tt)
  arguments (t ∷ ts) rows here e = go (bits_in bits t) refl (all_bits (bits_in bits) ts) refl (λ bs q. arguments ts bs (λ u c. here u (Contains-append_right (t ∷ []) ts u c)) q) e where
    go : (o : Option (List Literal)) → bits_in bits t ≡ o → (os : Option (List (List Literal))) → all_bits (bits_in bits) ts ≡ os
        → ((bs : List (List Literal)) → all_bits (bits_in bits) ts ≡ Some bs → Arguments ts bs) → with_first o os ≡ Some rows → Arguments (t ∷ ts) rows
    go None p os q more h = let z : ⊥ = cc in absurd z
    go (Some b) p None q more h = let z : ⊥ = cc in absurd z
    go (Some b) p (Some bs) q more h =
        let same : b ∷ bs ≡ rows = cc in
        let rest = more bs q in
        subst (Arguments (t ∷ ts)) same ((have.alone t b p, rest.0), (own_bits t b (here t (contains_at (t ∷ ts) 0 t refl)) p, rest.1))

  module _ (closed : IsClosed (leads nodes (image_in bits)) Here) (sat : AreSatisfied nodes bits f Here) where
    arg_here : (t u : ℕ) → IsOwn Here (image_in bits) t → Contains (node_at nodes t).args u → Here u
    arg_here t u h c =
        closed t u h.0 (subst (λ l. Contains l u) (sym (ap (leads_by nodes t) h.1)) (Contains-append_left (node_at nodes t).args (watched nodes (shape_at nodes t)) u c))

    computed : (t : ℕ) → IsOwn Here (image_in bits) t → IsPlain (sort_of nodes t) → IsSatisfied nodes bits f t → IsComputed nodes val t
    computed t h p s = go (all_bits (bits_in bits) (node_at nodes t).args) refl s.is where
      go : (o : Option (List (List Literal))) → all_bits (bits_in bits) (node_at nodes t).args ≡ o → block_over (node_at nodes t).op s.first o ≡ Some s.block → IsComputed nodes val t
      go None q e = let z : ⊥ = cc in absurd z
      go (Some rows) q e =
          let args = arguments (node_at nodes t).args rows (λ u c. arg_here t u h c) q in
          record {
            plain = args.0;
            operator = no_witness (node_at nodes t).op s.first rows s.block e;
            is = λ M.
                let a = clauses_fix M f s.first (node_at nodes t).op (map (sort_of nodes) (node_at nodes t).args) rows (map val (node_at nodes t).args) (sort_of nodes t) s.block
                sat.first (terms t (have.held t h.0)).rank args.1 e s.clauses in
                value_is t s.block.bits s.own ∙ sym (bits_value f (sort_of nodes t) s.block.bits (op_value M (node_at nodes t).op (map val (node_at nodes t).args)) a);
          }

    pub ready : IsReady nodes (image_in bits) Here val
    ready = record {
      held = have.held;
      closed = closed;
      acyclic = have.acyclic;
      images = have.images;
      kept = sat.kept;
      sorted = value_sort;
      linked = λ t u h e. ap (value_by f (sort_of nodes t)) (sat.linked t u h e) ∙ ap (λ s. value_by f s (bits_in bits u)) (sym (have.images.sort t u e));
      each = λ t h p. ⊎_elim (λ (c : IsFree nodes t). inl c) (λ (s : IsSatisfied nodes bits f t). inr (computed t h p s)) (sat.each t h p);
    }
