-- What a test of a rule finds under a term, and what a new term brings.
use Rattle.std.proofs.Common.{◌≡◌, ℕ, zero, suc, ◌<◌, Bool, true, false, List, length, refl, sym, ap, ◌∙◌, subst, arith, Result, Ok}
use Rattle.std.specs.Prelude.{◌&&◌, ◌||◌, Option, nat_lt, ◌^◌}
use Rattle.std.proofs.lemmas.Bool.{and_parts}
use Rattle.smt_terms.specs.declared.sort.Sort.{Sort}
use Rattle.smt_terms.specs.declared.sort.Sort.TheVariants as sort
use Rattle.smt_terms.specs.declared.operator.Operator.{Operator}
use Rattle.smt_terms.specs.declared.operator.Operator.TheVariants as plain
use Rattle.smt_terms.specs.declared.node.Op.{Op}
use Rattle.smt_terms.specs.declared.node.Op.TheVariants.{Plain, Word}
use Rattle.smt_terms.specs.declared.node.Node.{Node}
use Rattle.smt_terms.specs.declared.fault.MakeFault.{MakeFault}
use Rattle.smt_terms.specs.declared.fault.MakeFault.TheVariants.{WrongSort}
use Rattle.smt_terms.specs.Same.{op_same}
use Rattle.smt_terms.specs.Nodes.{node_at}
use Rattle.smt_terms.specs.Ranks.{rank_of, is_array, word_sort}
use Rattle.smt_terms.specs.Terms.{sort_of, IsTermList}
use Rattle.smt_terms.proofs.Arities.{AtMost}
use Rattle.smt_terms.proofs.Typing.{guard_ok, word_sort_ok}
use Rattle.theory_terms.specs.declared.shape.Shape.TheVariants.{Selecting, Equating, Other}
use Rattle.theory_terms.specs.Shapes.{shape_of, shape_at}
use Rattle.term_reach.specs.Reach.{arguments}
use Rattle.term_reach.proofs.Ways.{reaches_itself, arguments_below}
use Rattle.bv_rules.specs.declared.reading.Constant.{Constant}
use Rattle.bv_rules.specs.declared.reading.Constant.TheVariants.{Zero, One, Ones}
use Rattle.bv_rules.specs.Reading.{commutes, is_number, is_ones, is_constant, op_at, arg}
use Rattle.bv_rules.specs.Rules.{is, on}
use Rattle.bv_rules.proofs.Known.{or_cases, never, ok_is}
use Rattle.array_images.specs.Brought.{IsUnder, IsBrought}
use Rattle.array_images.proofs.Ranked.{AtLeast, GivesNoArray, arg_in, arg_of, plain_of}
use Rattle.array_images.proofs.Under.{reaches_next, over_brought}

-- an operator whose terms are nothing to functions and arrays
abbrev pub IsOther : Op → Type 0
IsOther o = (args : List ℕ) → shape_of o args ≡ Other

pub number_word : (m : ℕ) (o : Op) → is_number m o ≡ true → (n : ℕ) × (x : ℕ) × (o ≡ Word n x)
number_word m (Word n x) e = (n, x, refl)
number_word m _ e = let q : ⊥ = cc in absurd q

ones_word : (o : Op) → is_ones o ≡ true → (n : ℕ) × (x : ℕ) × (o ≡ Word n x)
ones_word (Word n x) e = (n, x, refl)
ones_word _ e = let q : ⊥ = cc in absurd q

pub constant_word : (z : Constant) (o : Op) → is_constant z o ≡ true → (n : ℕ) × (x : ℕ) × (o ≡ Word n x)
constant_word Zero o e = number_word 0 o e
constant_word One o e = number_word 1 o e
constant_word Ones o e = ones_word o e

pub words_no_array : (n : ℕ) (s : Sort) → word_sort n ≡ Ok s → is_array s ≡ false
words_no_array n s e = ap is_array (sym (word_sort_ok n s e).0)

literals_no_array : (n x : ℕ) → GivesNoArray (rank_of (Word n x))
literals_no_array n x = λ s e. words_no_array n s (guard_ok (nat_lt x (2 ^ n)) (word_sort n) (WrongSort 0) s e).1

truths_no_array : (s : Sort) → (let r : Result Sort MakeFault = Ok sort.Bool in r) ≡ Ok s → is_array s ≡ false
truths_no_array s e = ap is_array (ok_is sort.Bool s e)

module _ (nodes : List Node) (list : IsTermList nodes) where
  -- ---- arguments

  pub op_of : (o : Operator) (s : ℕ) → is nodes o s ≡ true → op_at nodes s ≡ Plain o
  op_of o s h = op_same (op_at nodes s) (Plain o) h

  module _ (s : ℕ) (held : s < length nodes) (o : Op) (e : op_at nodes s ≡ o) where
    pub arg_under : (n k : ℕ) → AtLeast n (rank_of o) → k < n → IsUnder nodes s (arg nodes k s)
    arg_under n k h lt = reaches_next (arguments nodes) s (arg nodes k s) (arg nodes k s) (arg_in nodes list s held o e n k h lt) (reaches_itself (arguments nodes) (arg nodes k s))

    pub arg_held : (n k : ℕ) → AtLeast n (rank_of o) → k < n → arg nodes k s < length nodes
    arg_held n k h lt = arguments_below nodes list s (arg nodes k s) (arg_in nodes list s held o e n k h lt)

  pub on_cases : {C : Type 0} (o : Operator) (p : ℕ → ℕ → Bool) (s : ℕ) → on nodes o p s ≡ true → (p (arg nodes 0 s) (arg nodes 1 s) ≡ true → C) → (p (arg nodes 1 s) (arg nodes 0 s) ≡ true → C) → C
  on_cases o p s h f g =
      let a = arg nodes 0 s in
      let b = arg nodes 1 s in
      let q = and_parts (is nodes o s) (p a b || (commutes o && p b a)) h in
      or_cases (p a b) (commutes o && p b a) q.1 f (λ z. g (and_parts (commutes o) (p b a) z).1)

  pub on_op : (o : Operator) (p : ℕ → ℕ → Bool) (s : ℕ) → on nodes o p s ≡ true → op_at nodes s ≡ Plain o
  on_op o p s h = op_of o s (and_parts (is nodes o s) (p (arg nodes 0 s) (arg nodes 1 s) || (commutes o && p (arg nodes 1 s) (arg nodes 0 s))) h).0

  -- ---- new terms

  module _ (image : ℕ → Option ℕ) (t : ℕ) where
    abbrev pub B : ℕ → Type 0
    B = IsBrought nodes image t

    module _ (s : ℕ) (held : s < length nodes) (o : Op) (e : op_at nodes s ≡ o) (other : IsOther o) (no : is_array (sort_of nodes s) ≡ false) where
      shape_is : shape_at nodes s ≡ Other
      shape_is = ap (λ p. shape_of p (node_at nodes s).args) e ∙ other (node_at nodes s).args

      pub made : (n : ℕ) → AtMost n (rank_of o) → ((k : ℕ) → k < n → B (arg nodes k s)) → B s
      made n most parts = over_brought nodes image t s
          (λ a c. (let k = arg_of nodes list s held o e n most a c in subst B k.2 (parts k.0 k.1)))
          (λ is. never (sym no ∙ is))
          (λ a b shape is. (let z : Equating a b ≡ Other = sym shape ∙ shape_is in let y : ⊥ = cc in absurd y))
          (λ a i shape. (let z : Selecting a i ≡ Other = sym shape ∙ shape_is in let y : ⊥ = cc in absurd y))

      pub made_leaf : AtMost 0 (rank_of o) → B s
      made_leaf most = made 0 most (λ k lt. absurd (omega (arith, lt)))

      pub made_one : AtMost 1 (rank_of o) → B (arg nodes 0 s) → B s
      made_one most b = made 1 most (λ k lt. (let z : 0 ≡ k = omega (arith, lt) in subst (λ j. B (arg nodes j s)) z b))

      pub made_two : AtMost 2 (rank_of o) → B (arg nodes 0 s) → B (arg nodes 1 s) → B s
      made_two most b c = made 2 most go
        where
          go : (k : ℕ) → k < 2 → B (arg nodes k s)
          go zero lt = b
          go (suc zero) lt = c
          go (suc (suc k)) lt = absurd (omega (arith, lt))

    -- ---- literals

    pub word_made : (s n x : ℕ) → s < length nodes → op_at nodes s ≡ Word n x → B s
    word_made s n x held e = made_leaf s held (Word n x) e (λ args. refl) (plain_of nodes list s held (Word n x) e (literals_no_array n x)) tt

    pub number_made : (s m : ℕ) → s < length nodes → is_number m (op_at nodes s) ≡ true → B s
    number_made s m held h = let w = number_word m (op_at nodes s) h in word_made s w.0 w.1 held w.2

    pub constant_made : (z : Constant) (s : ℕ) → s < length nodes → is_constant z (op_at nodes s) ≡ true → B s
    constant_made z s held h = let w = constant_word z (op_at nodes s) h in word_made s w.0 w.1 held w.2

    pub true_made : (s : ℕ) → s < length nodes → is nodes plain.True s ≡ true → B s
    true_made s held h = made_leaf s held (Plain plain.True) (op_of plain.True s h) (λ args. refl) (plain_of nodes list s held (Plain plain.True) (op_of plain.True s h) truths_no_array) tt

    pub false_made : (s : ℕ) → s < length nodes → is nodes plain.False s ≡ true → B s
    false_made s held h = made_leaf s held (Plain plain.False) (op_of plain.False s h) (λ args. refl) (plain_of nodes list s held (Plain plain.False) (op_of plain.False s h) truths_no_array) tt
