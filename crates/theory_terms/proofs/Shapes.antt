-- What is known of a term by its shape.
use Rattle.std.proofs.Common.{◌≡◌, ℕ, ◌<◌, ◌≤◌, false, List, [], ◌∷◌, length, refl, sym, ap, ◌∙◌, ⊎_elim, Ok, subst}
use Rattle.std.specs.Prelude.{map, if◌then◌else◌}
use Rattle.std.specs.List.{AllByRecursion}
use Rattle.std.proofs.lemmas.Bool.{cases_lt}
use Rattle.std.proofs.lemmas.List.{get_or_past, length-map}
use Rattle.smt_terms.specs.declared.sort.Sort.{Sort}
use Rattle.smt_terms.specs.declared.sort.Sort.TheVariants as sort
use Rattle.smt_terms.specs.declared.operator.Operator.TheVariants as plain
use Rattle.smt_terms.specs.declared.node.Op.{Op}
use Rattle.smt_terms.specs.declared.node.Op.TheVariants.{Plain, ConstantArray, Constant, Apply}
use Rattle.smt_terms.specs.declared.node.Node.{Node}
use Rattle.smt_terms.specs.declared.sort.Signature.{Signature}
use Rattle.smt_terms.specs.Nodes.{no_node, node_at}
use Rattle.smt_terms.specs.Terms.{op_rank, sort_of, IsTermList}
use Rattle.smt_terms.specs.Values.{Value, VBool, VArray, filled, read_at, Interpretation, is_true, number_of, width_in, same_value, select_of, store_of, witness_of, op_value, value}
use Rattle.smt_terms.specs.Evaluations.{is_witness, IsEvaluation}
use Rattle.smt_terms.proofs.Typing.{value_is}
use Rattle.theory_terms.specs.declared.shape.Shape.{Shape}
use Rattle.theory_terms.specs.declared.shape.Shape.TheVariants.{Selecting, Storing, Filling, Choosing, Equating, Witnessing, Applying, Declaring, Other}
use Rattle.theory_terms.specs.Shapes.{IsPlain, shape_of, shape_at}
use Rattle.theory_terms.proofs.Ranked.{select_rank, store_rank, filling_rank, choice_rank, equal_rank, witness_rank, apply_rank, constant_rank, collected_is}

pub record SelectFacts (s : ℕ → Sort) (v : ℕ → Value) (t a i : ℕ) : Type 0 where
  pub index : ℕ
  pub element : ℕ
  pub array_sort : s a ≡ sort.Array index element
  pub index_sort : s i ≡ sort.Word index
  pub sort : s t ≡ sort.Word element
  pub is : v t ≡ select_of (v a) (v i)
  pub array_lt : a < t
  pub index_lt : i < t

pub record StoreFacts (s : ℕ → Sort) (v : ℕ → Value) (t b j x : ℕ) : Type 0 where
  pub index : ℕ
  pub element : ℕ
  pub array_sort : s b ≡ sort.Array index element
  pub index_sort : s j ≡ sort.Word index
  pub value_sort : s x ≡ sort.Word element
  pub sort : s t ≡ sort.Array index element
  pub is : v t ≡ store_of (v b) (v j) (v x)
  pub array_lt : b < t
  pub index_lt : j < t
  pub value_lt : x < t

pub record FillingFacts (s : ℕ → Sort) (v : ℕ → Value) (t x : ℕ) : Type 0 where
  pub index : ℕ
  pub element : ℕ
  pub element_sort : s x ≡ sort.Word element
  pub sort : s t ≡ sort.Array index element
  pub is : v t ≡ VArray index (width_in (v x)) (filled (number_of (v x)))
  pub element_lt : x < t

pub record ChoiceFacts (s : ℕ → Sort) (v : ℕ → Value) (t c a b : ℕ) : Type 0 where
  pub test_sort : s c ≡ sort.Bool
  pub then_sort : s a ≡ s t
  pub else_sort : s b ≡ s t
  pub is : v t ≡ (if is_true (v c) then v a else v b)
  pub test_lt : c < t
  pub then_lt : a < t
  pub else_lt : b < t

pub record EqualFacts (s : ℕ → Sort) (v : ℕ → Value) (t a b : ℕ) : Type 0 where
  pub same : s a ≡ s b
  pub sort : s t ≡ sort.Bool
  pub is : v t ≡ VBool (same_value (v a) (v b))
  pub left_lt : a < t
  pub right_lt : b < t

pub record WitnessFacts (s : ℕ → Sort) (t a b : ℕ) : Type 0 where
  pub index : ℕ
  pub element : ℕ
  pub left_sort : s a ≡ sort.Array index element
  pub right_sort : s b ≡ sort.Array index element
  pub sort : s t ≡ sort.Word index
  pub left_lt : a < t
  pub right_lt : b < t

pub record ApplyFacts (M : Interpretation) (s : ℕ → Sort) (v : ℕ → Value) (t d : ℕ) (op : Op) (args : List ℕ) : Type 0 where
  pub signature : Signature
  pub op_is : op ≡ Apply d signature
  pub plain : IsPlain (s t)
  pub plain_args : AllByRecursion IsPlain (map s args)
  pub sorts : map s args ≡ signature.args
  pub is : v t ≡ read_at (s t) (M.functions d (map v args))
  pub args_lt : AllByRecursion (λ a. a < t) args

pub record DeclaredFacts (M : Interpretation) (s : ℕ → Sort) (v : ℕ → Value) (t d : ℕ) (q : Sort) : Type 0 where
  pub sort : s t ≡ q
  pub is : v t ≡ read_at q (M.constants d)

abbrev pub FactsOf : Interpretation → (ℕ → Sort) → (ℕ → Value) → ℕ → Node → Shape → Type 0
FactsOf M s v t n (Selecting a i) = SelectFacts s v t a i
FactsOf M s v t n (Storing b j x) = StoreFacts s v t b j x
FactsOf M s v t n (Filling x) = FillingFacts s v t x
FactsOf M s v t n (Choosing c a b) = ChoiceFacts s v t c a b
FactsOf M s v t n (Equating a b) = EqualFacts s v t a b
FactsOf M s v t n (Witnessing a b) = WitnessFacts s t a b
FactsOf M s v t n (Applying d) = ApplyFacts M s v t d n.op n.args
FactsOf M s v t n (Declaring d q) = DeclaredFacts M s v t d q
FactsOf M s v t n Other = Unit {0}

facts_of : (M : Interpretation) (s : ℕ → Sort) (v : ℕ → Value) (t : ℕ) (op : Op) (args : List ℕ) → AllByRecursion (λ a. a < t) args → op_rank op (map s args) ≡ Ok (s t) → (is_witness op ≡ false → v t ≡ op_value M op (map v args)) → FactsOf M s v t (record { op = op; args = args }) (shape_of op args)
facts_of M s v t (Plain plain.Ite) (a ∷ b ∷ c ∷ []) l e w =
    let r = choice_rank (s a) (s b) (s c) (s t) e in
    record { test_sort = r.0; then_sort = r.1; else_sort = r.2; is = w refl; test_lt = l.0; then_lt = l.1.0; else_lt = l.1.1.0 }
facts_of M s v t (Plain plain.Equal) (a ∷ b ∷ []) l e w =
    let r = equal_rank (s a) (s b) (s t) e in
    record { same = r.0; sort = r.1; is = w refl; left_lt = l.0; right_lt = l.1.0 }
facts_of M s v t (Plain plain.Select) (a ∷ b ∷ []) l e w =
    let r = select_rank (s a) (s b) (s t) e in
    record { index = r.0; element = r.1; array_sort = r.2; index_sort = r.3; sort = r.4; is = w refl; array_lt = l.0; index_lt = l.1.0 }
facts_of M s v t (Plain plain.Store) (a ∷ b ∷ c ∷ []) l e w =
    let r = store_rank (s a) (s b) (s c) (s t) e in
    record { index = r.0; element = r.1; array_sort = r.2; index_sort = r.3; value_sort = r.4; sort = r.5; is = w refl; array_lt = l.0; index_lt = l.1.0; value_lt = l.1.1.0 }
facts_of M s v t (Plain plain.Witness) (a ∷ b ∷ []) l e w =
    let r = witness_rank (s a) (s b) (s t) e in
    record { index = r.0; element = r.1; left_sort = r.2; right_sort = r.3; sort = r.4; left_lt = l.0; right_lt = l.1.0 }
facts_of M s v t (ConstantArray k) (x ∷ []) l e w =
    let r = filling_rank k (s x) (s t) e in
    record { index = k; element = r.0; element_sort = r.1; sort = r.2; is = w refl; element_lt = l.0 }
facts_of M s v t (Constant d q) args l e w = let r = constant_rank d q (map s args) (s t) e in record { sort = r; is = w refl }
facts_of M s v t (Apply d g) args l e w =
    let r = apply_rank d g (map s args) (s t) e in
    let len : length (map v args) ≡ length g.args = length-map args v ∙ sym (length-map args s) ∙ ap length r.0 in
    let is : v t ≡ read_at g.value (M.functions d (map v args)) = w refl ∙ collected_is g.args (λ vs. read_at g.value (M.functions d vs)) (map v args) len in
    record { signature = g; op_is = refl; plain = r.3; plain_args = r.1; sorts = r.0; is = is ∙ ap (λ q. read_at q (M.functions d (map v args))) (sym r.2); args_lt = l }
facts_of M s v t op args l e w = tt

-- a number past the end has no shape
past : (M : Interpretation) (nodes : List Node) (v : ℕ → Value) (t : ℕ) → length nodes ≤ t → FactsOf M (sort_of nodes) v t (node_at nodes t) (shape_at nodes t)
past M nodes v t le = subst (λ n. FactsOf M (sort_of nodes) v t n (shape_of n.op n.args)) (sym (get_or_past nodes t no_node le)) tt

pub facts : (M : Interpretation) (nodes : List Node) (v : ℕ → Value) → IsTermList nodes → IsEvaluation M nodes v → (t : ℕ) → FactsOf M (sort_of nodes) v t (node_at nodes t) (shape_at nodes t)
facts M nodes v terms eval t =
    ⊎_elim
    (λ lt. let h = terms t lt in facts_of M (sort_of nodes) v t (node_at nodes t).op (node_at nodes t).args h.earlier h.rank (eval.means t lt))
    (λ le. past M nodes v t le)
    (cases_lt t (length nodes))

-- a number with a shape is a term
pub shape_within : (nodes : List Node) (t : ℕ) → (shape_at nodes t ≡ Other → ⊥) → t < length nodes
shape_within nodes t ne =
    ⊎_elim
    (λ lt. lt)
    (λ le. let e : shape_at nodes t ≡ Other = ap (λ n. shape_of n.op n.args) (get_or_past nodes t no_node le) in absurd (ne e))
    (cases_lt t (length nodes))

witness_value_of : (M : Interpretation) (v : ℕ → Value) (t : ℕ) (op : Op) (args : List ℕ) (x y : ℕ) → v t ≡ op_value M op (map v args) → shape_of op args ≡ Witnessing x y → v t ≡ witness_of (v x) (v y)
witness_value_of M v t (Plain plain.Witness) (a ∷ b ∷ []) x y h e =
    let p : a ≡ x = cc in
    let q : b ≡ y = cc in
    h ∙ ap (λ k. witness_of (v k) (v b)) p ∙ ap (λ k. witness_of (v x) (v k)) q
witness_value_of M v t (Plain plain.Ite) (a ∷ b ∷ c ∷ []) x y h e = let f : ⊥ = cc in absurd f
witness_value_of M v t (Plain plain.Store) (a ∷ b ∷ c ∷ []) x y h e = let f : ⊥ = cc in absurd f
witness_value_of M v t (Plain plain.Equal) (a ∷ b ∷ []) x y h e = let f : ⊥ = cc in absurd f
witness_value_of M v t (Plain plain.Select) (a ∷ b ∷ []) x y h e = let f : ⊥ = cc in absurd f
witness_value_of M v t (ConstantArray k) (a ∷ []) x y h e = let f : ⊥ = cc in absurd f
witness_value_of M v t op args x y h e = let f : ⊥ = cc in absurd f

-- the value of a witness
pub witness_value : (M : Interpretation) (nodes : List Node) → IsTermList nodes → (t a b : ℕ) → t < length nodes → shape_at nodes t ≡ Witnessing a b → value M nodes t ≡ witness_of (value M nodes a) (value M nodes b)
witness_value M nodes terms t a b lt e = witness_value_of M (value M nodes) t (node_at nodes t).op (node_at nodes t).args a b (value_is M nodes t (terms t lt)) e
