-- Applications of one declaration, and the lemmas of those that have different values for arguments of equal values.
use Rattle.std.proofs.Common.{◌≡◌, ℕ, ◌<◌, Bool, true, false, not, ◌||◌, ◌&&◌, List, [], ◌∷◌, length, map, Some, None, refl, sym, ap, ◌∙◌, subst, ⊎_elim, arith}
use Rattle.std.specs.Prelude.{◌↔◌, if◌then◌else◌, Contains}
use Rattle.std.specs.List.{AllByRecursion}
use Rattle.std.proofs.lemmas.List.Elements.{Contains-append_left, Contains-append_right}
use Rattle.smt_terms.specs.declared.sort.Sort.{Sort}
use Rattle.smt_terms.specs.declared.sort.Sort.TheVariants as sort
use Rattle.smt_terms.specs.declared.node.Node.{Node}
use Rattle.smt_terms.specs.declared.node.Op.TheVariants.{Apply}
use Rattle.smt_terms.specs.declared.sort.Signature.{Signature}
use Rattle.smt_terms.specs.Bits.{TermBits, image_in}
use Rattle.smt_terms.specs.Nodes.{node_at}
use Rattle.smt_terms.specs.Same.{same_op, op_equivalence}
use Rattle.smt_terms.specs.Ranks.{is_plain}
use Rattle.smt_terms.specs.Terms.{sort_of, declaration_of, signature_of, IsTermList, HaveOneSignature}
use Rattle.smt_terms.specs.Values.{Value, VBool, VWord, HasSort, Interpretation, no_value, value, same_value}
use Rattle.smt_terms.proofs.Evaluating.{value_is_evaluation}
use Rattle.smt_terms.proofs.Typing.{sort_is}
use Rattle.theory_terms.specs.declared.shape.Shape.TheVariants.{Applying, Other}
use Rattle.theory_terms.specs.declared.lemma.Lemma.{Lemma}
use Rattle.theory_terms.specs.declared.lemma.Lemma.TheVariants.{Congruence}
use Rattle.theory_terms.specs.declared.atom.Atom.{Atom}
use Rattle.theory_terms.specs.declared.atom.Atom.TheVariants.{Same, Differ}
use Rattle.theory_terms.specs.Shapes.{IsPlain, shape_at}
use Rattle.theory_terms.specs.Lemmas.{some_true, put_front, pairs_atoms, is_applying}
use Rattle.theory_terms.proofs.Shapes.{ApplyFacts, FactsOf, facts, shape_within}
use Rattle.theory_terms.proofs.Sound.{same_refl, same_plain}
use Rattle.term_reach.specs.Reach.{IsClosed}
use Rattle.access_tables.specs.Leading.{watched, leads_by, leads}
use Rattle.access_tables.specs.Encoded.{HaveBits}
use Rattle.access_tables.specs.Held.{assigned_value}
use Rattle.access_walk.specs.declared.congruence.Application.{Application}
use Rattle.access_walk.specs.Networks.{AreCongruent}
use Rattle.access_walk.specs.Walked.{IsEncodedAtom}
use Rattle.access_walk.specs.Congruent.{IsScalarTerm, IsApplied, code_of, key_of, AreAlike, IsCongruenceConflict, HasConflict, AreCongruenceConflicts}
use Rattle.access_walk.proofs.Lists.{not_nil}
use Rattle.access_walk.proofs.Words.{row_value}

nothing : Interpretation
nothing = record { constants = λ d. no_value; functions = λ d vs. no_value }

plain_is : (s : Sort) → IsPlain s → is_plain s ≡ true
plain_is sort.Bool p = refl
plain_is (sort.Word n) p = refl
plain_is (sort.Array n m) p = absurd p

is_plain_is : (s : Sort) → is_plain s ≡ true → IsPlain s
is_plain_is sort.Bool p = tt
is_plain_is (sort.Word n) p = tt
is_plain_is (sort.Array n m) p = let f : ⊥ = cc in absurd f

heads : {A : Type 0} (x y : A) (xs ys : List A) → x ∷ xs ≡ y ∷ ys → (x ≡ y) × (xs ≡ ys)
heads x y xs ys e = ((let q : x ≡ y = cc in q), (let q : xs ≡ ys = cc in q))

-- ---- applications

module _ (nodes : List Node) (list : IsTermList nodes) where
  applied_facts : (t d : ℕ) → shape_at nodes t ≡ Applying d → ApplyFacts nothing (sort_of nodes) (value nothing nodes) t d (node_at nodes t).op (node_at nodes t).args
  applied_facts t d e = subst (FactsOf nothing (sort_of nodes) (value nothing nodes) t (node_at nodes t)) e (facts nothing nodes (value nothing nodes) list (value_is_evaluation nothing nodes list) t)

  applied_within : (t d : ℕ) → shape_at nodes t ≡ Applying d → t < length nodes
  applied_within t d e = shape_within nodes t (λ o. let z : Applying d ≡ Other = sym e ∙ o in let y : ⊥ = cc in y)

  module _ (bits : List TermBits) (Here : ℕ → Type 0) (have : HaveBits nodes bits Here) (closed : IsClosed (leads nodes (image_in bits)) Here) (t : ℕ) (here : Here t) (free : image_in bits t ≡ None) where
    arg_here : (u : ℕ) → Contains (node_at nodes t).args u → Here u
    arg_here u c = closed t u here (subst (λ l. Contains l u) (sym (ap (leads_by nodes t) free)) (Contains-append_left (node_at nodes t).args (watched nodes (shape_at nodes t)) u c))

    scalar_term : (u : ℕ) → Here u → IsPlain (sort_of nodes u) → IsScalarTerm nodes bits u
    scalar_term u h p = (have.held u h, plain_is (sort_of nodes u) p, have.rows u h p)

    scalar_terms : (args : List ℕ) → ((u : ℕ) → Contains args u → Here u) → AllByRecursion IsPlain (map (sort_of nodes) args) → AllByRecursion (IsScalarTerm nodes bits) args
    scalar_terms [] sub p = tt
    scalar_terms (a ∷ args) sub p = (scalar_term a (sub a (0, omega arith, refl)) p.0, scalar_terms args (λ u c. sub u (Contains-append_right (a ∷ []) args u c)) p.1)

    pub is_applied : (d : ℕ) → shape_at nodes t ≡ Applying d → IsApplied nodes bits Here (record { term = t; declaration = d })
    is_applied d e =
        let f = applied_facts t d e in
        record {
          own = (here, free);
          shape = e;
          held = scalar_term t here f.plain;
          args = scalar_terms (node_at nodes t).args arg_here f.plain_args;
        }

  -- what two applications of one declaration have in common
  pub record IsOneCall (t u : ℕ) : Type 0 where
    pub op : (node_at nodes t).op ≡ (node_at nodes u).op
    pub args : map (sort_of nodes) (node_at nodes t).args ≡ map (sort_of nodes) (node_at nodes u).args
    pub sort : sort_of nodes t ≡ sort_of nodes u

  same_rank : (t u : ℕ) → t < length nodes → u < length nodes → (node_at nodes t).op ≡ (node_at nodes u).op → map (sort_of nodes) (node_at nodes t).args ≡ map (sort_of nodes) (node_at nodes u).args → sort_of nodes t ≡ sort_of nodes u
  same_rank t u lt lu o a = sort_is nodes t (list t lt) ∙ rw (o, a) refl ∙ sym (sort_is nodes u (list u lu))

  pub one_call : HaveOneSignature nodes → (t u d : ℕ) → shape_at nodes t ≡ Applying d → shape_at nodes u ≡ Applying d → IsOneCall t u
  one_call one t u d et eu =
      let A = applied_facts t d et in
      let B = applied_facts u d eu in
      let s : signature_of (node_at nodes t).op ≡ signature_of (node_at nodes u).op = one u t d (ap declaration_of A.op_is) (ap declaration_of B.op_is) in
      let g : A.signature ≡ B.signature = sym (ap signature_of A.op_is) ∙ s ∙ ap signature_of B.op_is in
      let o : (node_at nodes t).op ≡ (node_at nodes u).op = A.op_is ∙ ap (Apply d) g ∙ sym B.op_is in
      let a : map (sort_of nodes) (node_at nodes t).args ≡ map (sort_of nodes) (node_at nodes u).args = A.sorts ∙ ap (λ (k : Signature). k.args) g ∙ sym B.sorts in
      record { op = o; args = a; sort = same_rank t u (applied_within t d et) (applied_within u d eu) o a }

-- ---- values by their numbers

bits_equal : (a b : Bool) → code_of (VBool a) ≡ code_of (VBool b) → a ≡ b
bits_equal true true e = refl
bits_equal true false e = absurd (omega (arith, e))
bits_equal false true e = absurd (omega (arith, e))
bits_equal false false e = refl

code_equal : (s : Sort) (x y : Value) → IsPlain s → HasSort s x → HasSort s y → code_of x ≡ code_of y → x ≡ y
code_equal sort.Bool x y p h k e =
    let o : code_of (VBool h.0) ≡ code_of (VBool k.0) = sym (ap code_of h.1) ∙ e ∙ ap code_of k.1 in
    h.1 ∙ ap VBool (bits_equal h.0 k.0 o) ∙ sym k.1
code_equal (sort.Word n) x y p h k e =
    let o : h.0 ≡ k.0 = sym (ap code_of h.1) ∙ e ∙ ap code_of k.1 in
    h.1 ∙ ap (VWord n) o ∙ sym k.1
code_equal (sort.Array n m) x y p h k e = absurd p

module _ (nodes : List Node) (bits : List TermBits) (f : ℕ → Bool) where
  pub values_equal : (t u : ℕ) → IsScalarTerm nodes bits t → IsScalarTerm nodes bits u → sort_of nodes t ≡ sort_of nodes u → code_of (assigned_value nodes bits f t) ≡ code_of (assigned_value nodes bits f u) → assigned_value nodes bits f t ≡ assigned_value nodes bits f u
  values_equal t u h k s e =
      code_equal (sort_of nodes u) (assigned_value nodes bits f t) (assigned_value nodes bits f u) (is_plain_is (sort_of nodes u) k.1)
      (subst (λ r. HasSort r (assigned_value nodes bits f t)) s (row_value nodes bits f t h.2)) (row_value nodes bits f u k.2) e

  args_equal : (as' bs : List ℕ) → AllByRecursion (IsScalarTerm nodes bits) as' → AllByRecursion (IsScalarTerm nodes bits) bs → map (sort_of nodes) as' ≡ map (sort_of nodes) bs
      → map (λ t. code_of (assigned_value nodes bits f t)) as' ≡ map (λ t. code_of (assigned_value nodes bits f t)) bs → map (assigned_value nodes bits f) as' ≡ map (assigned_value nodes bits f) bs
  args_equal [] [] ha hb s e = refl
  args_equal [] (b ∷ bs) ha hb s e = let z : ⊥ = cc in absurd z
  args_equal (a ∷ as') [] ha hb s e = let z : ⊥ = cc in absurd z
  args_equal (a ∷ as') (b ∷ bs) ha hb s e =
      let ss = heads (sort_of nodes a) (sort_of nodes b) (map (sort_of nodes) as') (map (sort_of nodes) bs) s in
      let es = heads (code_of (assigned_value nodes bits f a)) (code_of (assigned_value nodes bits f b)) (map (λ t. code_of (assigned_value nodes bits f t)) as') (map (λ t. code_of (assigned_value nodes bits f t)) bs) e in
      let first : assigned_value nodes bits f a ≡ assigned_value nodes bits f b = values_equal a b ha.0 hb.0 ss.0 es.0 in
      let rest : map (assigned_value nodes bits f) as' ≡ map (assigned_value nodes bits f) bs = args_equal as' bs ha.1 hb.1 ss.1 es.1 in
      rw (first, rest) refl

  codes : (as' : List ℕ) → map (λ t. code_of (assigned_value nodes bits f t)) as' ≡ map code_of (map (assigned_value nodes bits f) as')
  codes [] = refl
  codes (a ∷ as') = ap (λ xs. code_of (assigned_value nodes bits f a) ∷ xs) (codes as')

  differ_false : (a b : Bool) → a ≡ true → b ≡ false → (not a || b) ≡ false
  differ_false a b p q = rw (p, q) refl

  -- the atoms of two lists of arguments of equal values
  pairs_false : (as' bs : List ℕ) (last : List Atom) → AllByRecursion (IsScalarTerm nodes bits) as' → AllByRecursion (IsScalarTerm nodes bits) bs → map (sort_of nodes) as' ≡ map (sort_of nodes) bs
      → map (assigned_value nodes bits f) as' ≡ map (assigned_value nodes bits f) bs → some_true (assigned_value nodes bits f) last ≡ false → AllByRecursion (IsEncodedAtom nodes bits) last
      → (atoms : List Atom) × (pairs_atoms as' bs last ≡ Some atoms) × (some_true (assigned_value nodes bits f) atoms ≡ false) × AllByRecursion (IsEncodedAtom nodes bits) atoms
  pairs_false [] [] last ha hb s e none have = (last, refl, none, have)
  pairs_false [] (b ∷ bs) last ha hb s e none have = let z : ⊥ = cc in absurd z
  pairs_false (a ∷ as') [] last ha hb s e none have = let z : ⊥ = cc in absurd z
  pairs_false (a ∷ as') (b ∷ bs) last ha hb s e none have =
      let ss = heads (sort_of nodes a) (sort_of nodes b) (map (sort_of nodes) as') (map (sort_of nodes) bs) s in
      let es = heads (assigned_value nodes bits f a) (assigned_value nodes bits f b) (map (assigned_value nodes bits f) as') (map (assigned_value nodes bits f) bs) e in
      let r = pairs_false as' bs last ha.1 hb.1 ss.1 es.1 none have in
      let same : same_value (assigned_value nodes bits f a) (assigned_value nodes bits f b) ≡ true = ap (same_value (assigned_value nodes bits f a)) (sym es.0) ∙ same_refl (assigned_value nodes bits f a) in (
        Differ a b ∷ r.0,
        ap (put_front (Differ a b)) r.1,
        differ_false (same_value (assigned_value nodes bits f a) (assigned_value nodes bits f b)) (some_true (assigned_value nodes bits f) r.0) same r.2,
        ((ha.0.2, hb.0.2, ss.0), r.3),
      )

  apart_false : (t u : ℕ) → IsScalarTerm nodes bits t → IsScalarTerm nodes bits u → (assigned_value nodes bits f t ≡ assigned_value nodes bits f u → ⊥) → same_value (assigned_value nodes bits f t) (assigned_value nodes bits f u) ≡ false
  apart_false t u h k apart = go (same_value (assigned_value nodes bits f t) (assigned_value nodes bits f u)) refl where
    go : (b : Bool) → same_value (assigned_value nodes bits f t) (assigned_value nodes bits f u) ≡ b → b ≡ false
    go false e = refl
    go true e = absurd (apart (same_plain (sort_of nodes t) (sort_of nodes u) (assigned_value nodes bits f t) (assigned_value nodes bits f u) (is_plain_is (sort_of nodes t) h.1) (is_plain_is (sort_of nodes u) k.1) (row_value nodes bits f t h.2) (row_value nodes bits f u k.2) e))

  or_none : (b : Bool) → b ≡ false → (b || false) ≡ false
  or_none b e = rw e refl

  and_yes : (a b : Bool) → a ≡ true → b ≡ true → (a && b) ≡ true
  and_yes a b p q = rw (p, q) refl

  module _ (list : IsTermList nodes) (one : HaveOneSignature nodes) (Here : ℕ → Type 0) (a b : Application) (ha : IsApplied nodes bits Here a) (hb : IsApplied nodes bits Here b) where
    -- applications of one key
    pub alike : key_of nodes (assigned_value nodes bits f) a ≡ key_of nodes (assigned_value nodes bits f) b → AreAlike nodes bits Here (assigned_value nodes bits f) a.term b.term
    alike e =
        let parts = heads a.declaration b.declaration (map (λ t. code_of (assigned_value nodes bits f t)) (node_at nodes a.term).args) (map (λ t. code_of (assigned_value nodes bits f t)) (node_at nodes b.term).args) e in
        let shape : shape_at nodes b.term ≡ Applying a.declaration = hb.shape ∙ ap Applying (sym parts.0) in
        let c = one_call nodes list one a.term b.term a.declaration ha.shape shape in
        record {
          declaration = a.declaration;
          left = ha.own;
          right = hb.own;
          left_shape = ha.shape;
          right_shape = shape;
          args = args_equal (node_at nodes a.term).args (node_at nodes b.term).args ha.args hb.args c.args parts.1;
        }

    -- the lemma of two such applications that have different values
    pub conflict : AreAlike nodes bits Here (assigned_value nodes bits f) a.term b.term → (code_of (assigned_value nodes bits f a.term) ≡ code_of (assigned_value nodes bits f b.term) → ⊥)
        → IsCongruenceConflict nodes bits f Here (Congruence a.term b.term)
    conflict h apart =
        let c = one_call nodes list one a.term b.term h.declaration h.left_shape h.right_shape in
        let last : some_true (assigned_value nodes bits f) (Same a.term b.term ∷ []) ≡ false =
        or_none (same_value (assigned_value nodes bits f a.term) (assigned_value nodes bits f b.term)) (apart_false a.term b.term ha.held hb.held (λ e. apart (ap code_of e))) in
        let r = pairs_false (node_at nodes a.term).args (node_at nodes b.term).args (Same a.term b.term ∷ []) ha.args hb.args c.args h.args last ((ha.held.2, hb.held.2, c.sort), tt) in
        let yes : (is_applying (shape_at nodes a.term) && same_op (node_at nodes a.term).op (node_at nodes b.term).op) ≡ true =
        and_yes (is_applying (shape_at nodes a.term)) (same_op (node_at nodes a.term).op (node_at nodes b.term).op) (ap is_applying h.left_shape) (ap (same_op (node_at nodes a.term).op) (sym c.op) ∙ op_equivalence.refl (node_at nodes a.term).op) in
        record {
          left = a.term;
          right = b.term;
          is = refl;
          alike = h;
          differ = λ e. apart (ap code_of e);
          falses = record {
            atoms = r.0;
            are = ap (λ c. if c then pairs_atoms (node_at nodes a.term).args (node_at nodes b.term).args (Same a.term b.term ∷ []) else None) yes ∙ r.1;
            falses = r.2;
            encoded = r.3;
          };
        }

    -- and those of equal numbers have equal values
    pub equal : AreAlike nodes bits Here (assigned_value nodes bits f) a.term b.term → code_of (assigned_value nodes bits f a.term) ≡ code_of (assigned_value nodes bits f b.term) → assigned_value nodes bits f a.term ≡ assigned_value nodes bits f b.term
    equal h e = values_equal a.term b.term ha.held hb.held (one_call nodes list one a.term b.term h.declaration h.left_shape h.right_shape).sort e

  -- applications that are alike have one key
  pub one_key : (Here : ℕ → Type 0) (t u : ℕ) (h : AreAlike nodes bits Here (assigned_value nodes bits f) t u)
      → key_of nodes (assigned_value nodes bits f) (record { term = t; declaration = h.declaration }) ≡ key_of nodes (assigned_value nodes bits f) (record { term = u; declaration = h.declaration })
  one_key Here t u h = ap (λ xs. h.declaration ∷ xs) (codes (node_at nodes t).args ∙ ap (map code_of) h.args ∙ sym (codes (node_at nodes u).args))

  -- the lemmas are none exactly where all applications are congruent
  pub none_where_congruent : (Here : ℕ → Type 0) (lemmas : List Lemma) → AreCongruenceConflicts nodes bits f Here lemmas → (lemmas ≡ []) ↔ AreCongruent nodes (image_in bits) Here (assigned_value nodes bits f)
  none_where_congruent Here lemmas h = (
    λ none t u d own other shape like args.
        ⊎_elim (λ e. e)
        (λ (p : HasConflict nodes bits f Here lemmas t). absurd (not_nil (Congruence p.0 p.1) (subst (λ xs. Contains xs (Congruence p.0 p.1)) none p.2)))
        (h.all t u (record { declaration = d; left = own; right = other; left_shape = shape; right_shape = like; args = args })),
    λ congruent. go lemmas (λ l c. refuted l (h.each l c) congruent),
  ) where
    refuted : (l : Lemma) → IsCongruenceConflict nodes bits f Here l → AreCongruent nodes (image_in bits) Here (assigned_value nodes bits f) → ⊥
    refuted l w congruent = w.differ (congruent w.left w.right w.alike.declaration w.alike.left w.alike.right w.alike.left_shape w.alike.right_shape w.alike.args)

    go : (ls : List Lemma) → ((l : Lemma) → Contains ls l → ⊥) → ls ≡ []
    go [] none = refl
    go (l ∷ ls) none = absurd (none l (0, omega arith, refl))
