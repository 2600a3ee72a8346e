-- The nodes that a check makes have sorts, and so lists of terms stay lists of terms.
use Rattle.std.proofs.Common.{◌≡◌, ℕ, ◌+◌, ◌<◌, ◌≤◌, true, List, [], ◌∷◌, length, length-append, Option, Some, None, Result, Ok, Err, refl, sym, ap, ◌∙◌, subst, arith, eq-eqb}
use Rattle.std.specs.Prelude.{◌^◌, ◌&&◌, nat_le, if◌then◌else◌}
use Rattle.std.specs.List.{AllByRecursion}
use Rattle.std.proofs.lemmas.Bool.{lt-ltb, le-leb}
use Rattle.smt_terms.specs.declared.sort.Sort.{Sort}
use Rattle.smt_terms.specs.declared.sort.Sort.TheVariants as sort
use Rattle.smt_terms.specs.declared.operator.Operator.TheVariants as plain
use Rattle.smt_terms.specs.declared.node.Op.TheVariants.{Plain, Word}
use Rattle.smt_terms.specs.declared.node.Node.{Node}
use Rattle.smt_terms.specs.declared.fault.MakeFault.{MakeFault}
use Rattle.smt_terms.specs.declared.fault.MakeFault.TheVariants.{WrongSort, WidthOutOfRange}
use Rattle.smt_terms.specs.Nodes.{node_at, leaf}
use Rattle.smt_terms.specs.Ranks.{is_array, word_sort}
use Rattle.smt_terms.specs.Terms.{op_rank, or_bool, sort_of, node_sort, IsTermList}
use Rattle.smt_terms.specs.Values.{Interpretation, no_value, value}
use Rattle.smt_terms.proofs.Growing.{sort_longer, node_last, node_sort_is, sort_last, list_push, all_within}
use Rattle.smt_terms.proofs.Made.{at_place}
use Rattle.smt_terms.proofs.Evaluating.{value_is_evaluation}
use Rattle.theory_terms.specs.declared.shape.Shape.TheVariants.{Equating, Other}
use Rattle.theory_terms.specs.Shapes.{shape_at, term_of}
use Rattle.theory_terms.specs.Lemmas.{witness_node, select_node}
use Rattle.theory_terms.proofs.Shapes.{EqualFacts, FactsOf, facts, shape_within}
use Rattle.array_watches.specs.Needed.{or_next, with_new, number_in, with_node, with_watch}
use Rattle.array_watches.specs.Making.{IsWellSorted}
use Rattle.array_watches.proofs.Growing.{IsLonger, node_long}

-- ---- a node that is put

-- the term has this node and this sort
pub record IsThere (nodes : List Node) (n : Node) (s : Sort) (t : ℕ) : Type 0 where
  pub within : t < length nodes
  pub node : node_at nodes t ≡ n
  pub sort : sort_of nodes t ≡ s

module _ (nodes : List Node) (list : IsTermList nodes) (n : Node) (s : Sort) (ok : node_sort nodes n ≡ Ok s) where
  old_there : (t : ℕ) → term_of nodes n ≡ Some t → IsThere nodes n s t
  old_there t e =
      let p = at_place nodes n t e in
      let h = list t p.0 in
      let args : AllByRecursion (λ a. a < length nodes) (node_at nodes t).args = all_within t (length nodes) (omega (arith, p.0)) (node_at nodes t).args h.earlier in
      let own : Ok (sort_of nodes t) ≡ Ok s = sym h.rank ∙ sym (node_sort_is nodes (node_at nodes t) args) ∙ ap (node_sort nodes) p.1 ∙ ok in
      record { within = p.0; node = p.1; sort = ap or_bool own }

  there_by : (o : Option ℕ) → term_of nodes n ≡ o → IsThere (with_new nodes n o) n s (or_next (length nodes) o)
  there_by (Some t) e = old_there t e
  there_by None e = record {
    within = let k = length-append nodes (n ∷ []) in omega (arith, k);
    node = node_last nodes n;
    sort = sort_last nodes n s ok;
  }

  pub put_there : IsThere (with_node nodes n) n s (number_in nodes n)
  put_there = there_by (term_of nodes n) refl

  list_by : (o : Option ℕ) → IsTermList (with_new nodes n o)
  list_by (Some t) = list
  list_by None = list_push nodes n s ok list

  pub put_list : IsTermList (with_node nodes n)
  put_list = list_by (term_of nodes n)

-- a term of a list is one of a longer one
pub still_there : (nodes more : List Node) → IsLonger nodes more → (t : ℕ) (s : Sort) → t < length nodes → sort_of nodes t ≡ s → (t < length more) × (sort_of more t ≡ s)
still_there nodes more h t s lt e =
    let k : length more ≡ length nodes + length h.0 = ap length h.1 ∙ length-append nodes h.0 in
    (omega (arith, k, lt), ap (λ l. sort_of l t) h.1 ∙ sort_longer nodes h.0 t lt ∙ e)

-- ---- ranks

witness_rank : (n m : ℕ) → op_rank (Plain plain.Witness) (sort.Array n m ∷ sort.Array n m ∷ []) ≡ Ok (sort.Word n)
witness_rank n m = rw (eq-eqb n n refl, eq-eqb m m refl) refl

select_rank : (n m : ℕ) → op_rank (Plain plain.Select) (sort.Array n m ∷ sort.Word n ∷ []) ≡ Ok (sort.Word m)
select_rank n m = rw (eq-eqb n n refl) refl

pub witness_sort : (nodes : List Node) (a b n m : ℕ) → a < length nodes → b < length nodes → sort_of nodes a ≡ sort.Array n m → sort_of nodes b ≡ sort.Array n m → node_sort nodes (witness_node a b) ≡ Ok (sort.Word n)
witness_sort nodes a b n m la lb sa sb =
    node_sort_is nodes (witness_node a b) (la, (lb, tt))
    ∙ ap (λ s. op_rank (Plain plain.Witness) (s ∷ sort_of nodes b ∷ [])) sa
    ∙ ap (λ s. op_rank (Plain plain.Witness) (sort.Array n m ∷ s ∷ [])) sb
    ∙ witness_rank n m

pub select_sort : (nodes : List Node) (a i n m : ℕ) → a < length nodes → i < length nodes → sort_of nodes a ≡ sort.Array n m → sort_of nodes i ≡ sort.Word n → node_sort nodes (select_node a i) ≡ Ok (sort.Word m)
select_sort nodes a i n m la li sa si =
    node_sort_is nodes (select_node a i) (la, (li, tt))
    ∙ ap (λ s. op_rank (Plain plain.Select) (s ∷ sort_of nodes i ∷ [])) sa
    ∙ ap (λ s. op_rank (Plain plain.Select) (sort.Array n m ∷ s ∷ [])) si
    ∙ select_rank n m

pub word_sorted : (nodes : List Node) (n x : ℕ) → 1 ≤ n → n ≤ 128 → x < 2 ^ n → node_sort nodes (leaf (Word n x)) ≡ Ok (sort.Word n)
word_sorted nodes n x low high lt =
    ap (λ b. if◌then◌else◌ {A = Result Sort MakeFault} b (word_sort n) (Err (WrongSort 0))) (lt-ltb x (2 ^ n) lt)
    ∙ ap (λ b. if◌then◌else◌ {A = Result Sort MakeFault} (b && nat_le n 128) (Ok (sort.Word n)) (Err (WidthOutOfRange n))) (le-leb 1 n low)
    ∙ ap (λ b. if◌then◌else◌ {A = Result Sort MakeFault} b (Ok (sort.Word n)) (Err (WidthOutOfRange n))) (le-leb n 128 high)

-- ---- a watch

-- two held arrays of one sort
pub record AreArrays (nodes : List Node) (a b : ℕ) : Type 0 where
  pub index : ℕ
  pub element : ℕ
  pub left_held : a < length nodes
  pub right_held : b < length nodes
  pub left : sort_of nodes a ≡ sort.Array index element
  pub right : sort_of nodes b ≡ sort.Array index element

pub any_interpretation : Interpretation
any_interpretation = record { constants = λ d. no_value; functions = λ d vs. no_value }

array_is : (s : Sort) → is_array s ≡ true → (n : ℕ) × (m : ℕ) × (s ≡ sort.Array n m)
array_is (sort.Array n m) e = (n, m, refl)
array_is sort.Bool e = let f : ⊥ = cc in absurd f
array_is (sort.Word n) e = let f : ⊥ = cc in absurd f

pub sides : (nodes : List Node) → IsTermList nodes → (t a b : ℕ) → shape_at nodes t ≡ Equating a b → is_array (sort_of nodes a) ≡ true → AreArrays nodes a b
sides nodes list t a b e arrays =
    let lt = shape_within nodes t (λ o. let z : Equating a b ≡ Other = sym e ∙ o in let y : ⊥ = cc in y) in
    let all = facts any_interpretation nodes (value any_interpretation nodes) list (value_is_evaluation any_interpretation nodes list) t in
    let own : EqualFacts (sort_of nodes) (value any_interpretation nodes) t a b = subst (FactsOf any_interpretation (sort_of nodes) (value any_interpretation nodes) t (node_at nodes t)) e all in
    let is = array_is (sort_of nodes a) arrays in
    record {
      index = is.0;
      element = is.1;
      left_held = let l = own.left_lt in omega (arith, l, lt);
      right_held = let l = own.right_lt in omega (arith, l, lt);
      left = is.2;
      right = sym own.same ∙ is.2;
    }

-- an equality of arrays stays one
pub arrays_longer : (nodes more : List Node) → IsLonger nodes more → (a b : ℕ) → AreArrays nodes a b → AreArrays more a b
arrays_longer nodes more h a b are =
    let l = still_there nodes more h a (sort.Array are.index are.element) are.left_held are.left in
    let r = still_there nodes more h b (sort.Array are.index are.element) are.right_held are.right in
    record { index = are.index; element = are.element; left_held = l.0; right_held = r.0; left = l.1; right = r.1 }

module _ (nodes : List Node) (list : IsTermList nodes) (a b : ℕ) (are : AreArrays nodes a b) where
  abbrev pub first : List Node
  first = with_node nodes (witness_node a b)

  abbrev pub at : ℕ
  at = number_in nodes (witness_node a b)

  abbrev pub second : List Node
  second = with_node first (select_node a at)

  witness_ok : node_sort nodes (witness_node a b) ≡ Ok (sort.Word are.index)
  witness_ok = witness_sort nodes a b are.index are.element are.left_held are.right_held are.left are.right

  pub witness_there : IsThere first (witness_node a b) (sort.Word are.index) at
  witness_there = put_there nodes list (witness_node a b) (sort.Word are.index) witness_ok

  pub first_list : IsTermList first
  first_list = put_list nodes list (witness_node a b) (sort.Word are.index) witness_ok

  left_ok : node_sort first (select_node a at) ≡ Ok (sort.Word are.element)
  left_ok =
      let l = still_there nodes first (node_long nodes (witness_node a b)) a (sort.Array are.index are.element) are.left_held are.left in
      select_sort first a at are.index are.element l.0 witness_there.within l.1 witness_there.sort

  pub left_there : IsThere second (select_node a at) (sort.Word are.element) (number_in first (select_node a at))
  left_there = put_there first first_list (select_node a at) (sort.Word are.element) left_ok

  pub second_list : IsTermList second
  second_list = put_list first first_list (select_node a at) (sort.Word are.element) left_ok

  right_ok : node_sort second (select_node b at) ≡ Ok (sort.Word are.element)
  right_ok =
      let one = still_there nodes first (node_long nodes (witness_node a b)) b (sort.Array are.index are.element) are.right_held are.right in
      let two = still_there first second (node_long first (select_node a at)) b (sort.Array are.index are.element) one.0 one.1 in
      let i = still_there first second (node_long first (select_node a at)) at (sort.Word are.index) witness_there.within witness_there.sort in
      select_sort second b at are.index are.element two.0 i.0 two.1 i.1

  pub right_there : IsThere (with_watch nodes a b) (select_node b at) (sort.Word are.element) (number_in second (select_node b at))
  right_there = put_there second second_list (select_node b at) (sort.Word are.element) right_ok

  pub watch_list : IsTermList (with_watch nodes a b)
  watch_list = put_list second second_list (select_node b at) (sort.Word are.element) right_ok

  pub witness_sorted : IsWellSorted nodes (witness_node a b)
  witness_sorted = (sort.Word are.index, witness_ok)

  pub left_sorted : IsWellSorted first (select_node a at)
  left_sorted = (sort.Word are.element, left_ok)

  pub right_sorted : IsWellSorted second (select_node b at)
  right_sorted = (sort.Word are.element, right_ok)
