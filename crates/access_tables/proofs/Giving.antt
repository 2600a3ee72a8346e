-- Which operators give arrays.
use Rattle.std.proofs.Common.{◌≡◌, ℕ, zero, suc, ◌<◌, length, arith, ◌+◌, ◌-◌, ◌*◌, Bool, true, false, List, [], ◌∷◌, refl, sym, ap, ◌∙◌, subst, Some, Result, Ok, Err}
use Rattle.std.specs.Prelude.{map, IsErr, if◌then◌else◌, ◌^◌, ◌&&◌, nat_lt, nat_le}
use Rattle.std.proofs.lemmas.List.{length-map}
use Rattle.smt_terms.specs.declared.sort.Sort.{Sort}
use Rattle.smt_terms.specs.declared.sort.Sort.TheVariants as sort
use Rattle.smt_terms.specs.declared.operator.Operator.{Operator}
use Rattle.smt_terms.specs.declared.operator.Operator.TheVariants as plain
use Rattle.smt_terms.specs.declared.node.Op.{Op}
use Rattle.smt_terms.specs.declared.node.Op.TheVariants.{Plain, Word, Extract, ZeroExtend, SignExtend, RotateLeft, RotateRight, Repeat, ConstantArray, Constant, Apply, Param}
use Rattle.smt_terms.specs.declared.node.Node.{Node}
use Rattle.smt_terms.specs.declared.fault.MakeFault.{MakeFault}
use Rattle.smt_terms.specs.Ranks.{is_word, is_array, width_of, element_sort, index_sort, allows, Rank, Gives, Takes, ranked, word_sort, one_truth, two_truths, one_word, two_words, operator_rank, rank_of}
use Rattle.smt_terms.specs.Terms.{op_rank, sort_of, IsTermList}
use Rattle.smt_terms.specs.Nodes.{node_at}
use Rattle.smt_terms.proofs.Growing.{takes_ok}
use Rattle.smt_terms.proofs.Arities.{AtMost, too_many}
use Rattle.smt_terms.proofs.Typing.{word_sort_ok}
use Rattle.theory_terms.specs.declared.shape.Shape.TheVariants.{Other}
use Rattle.theory_terms.specs.Shapes.{IsPlain, shape_of, shape_at}
use Rattle.theory_terms.proofs.Ranked.{ok_is, plain_sort_plain}

-- what the rank gives is a Bool or a word
abbrev pub GivesPlain : Rank → Type 0
GivesPlain (Gives r) = (q : Sort) → r ≡ Ok q → IsPlain q
GivesPlain (Takes d next) = (s : Sort) → allows d s ≡ true → GivesPlain (next s)

given_plain : (r : Rank) → GivesPlain r → (k : ℕ) (ss : List Sort) (q : Sort) → ranked r k (map Some ss) ≡ Ok q → IsPlain q
given_plain (Gives r) h k [] q e = h q e
given_plain (Gives r) h k (s ∷ ss) q e = let f : ⊥ = cc in absurd f
given_plain (Takes d next) h k [] q e = let f : ⊥ = cc in absurd f
given_plain (Takes d next) h k (s ∷ ss) q e =
    let o = takes_ok d next k (Some s) (map Some ss) q e in
    let same : s ≡ o.0 = let z = o.1 in cc in
    let al : allows d s ≡ true = ap (allows d) same ∙ o.2 in
    let rest : ranked (next s) (suc k) (map Some ss) ≡ Ok q = ap (λ b. ranked (next b) (suc k) (map Some ss)) same ∙ o.3 in
    given_plain (next s) (h s al) (suc k) ss q rest

word_plain : (s : Sort) → is_word s ≡ true → IsPlain s
word_plain sort.Bool h = tt
word_plain (sort.Word n) h = tt
word_plain (sort.Array n m) h = let f : ⊥ = cc in absurd f

element_plain : (s : Sort) → is_array s ≡ true → IsPlain (element_sort s)
element_plain sort.Bool h = tt
element_plain (sort.Word n) h = tt
element_plain (sort.Array n m) h = tt

index_plain : (s : Sort) → is_array s ≡ true → IsPlain (index_sort s)
index_plain sort.Bool h = tt
index_plain (sort.Word n) h = tt
index_plain (sort.Array n m) h = tt

given : (s q : Sort) → IsPlain s → (let r : Result Sort MakeFault = Ok s in r) ≡ Ok q → IsPlain q
given s q p e = subst IsPlain (sym (ok_is s q e)) p

word_sort_plain : (n : ℕ) (q : Sort) → word_sort n ≡ Ok q → IsPlain q
word_sort_plain n q e = subst IsPlain (word_sort_ok n q e).0 tt

truth_one : GivesPlain one_truth
truth_one = λ s h q e. given sort.Bool q tt e

truth_two : GivesPlain two_truths
truth_two = λ s h r k q e. given sort.Bool q tt e

word_one : (h : ℕ → Result Sort MakeFault) → ((n : ℕ) (q : Sort) → h n ≡ Ok q → IsPlain q) → GivesPlain (one_word h)
word_one h p = λ s al q e. p (width_of s) q e

word_two : (h : Sort → Result Sort MakeFault) → ((s q : Sort) → IsPlain s → h s ≡ Ok q → IsPlain q) → GivesPlain (two_words h)
word_two h p = λ s al r k q e. p s q (word_plain s al) e

-- the operators that may give arrays
abbrev pub is_mixed : Operator → Bool
is_mixed plain.True = false
is_mixed plain.False = false
is_mixed plain.Not = false
is_mixed plain.And = false
is_mixed plain.Or = false
is_mixed plain.Xor = false
is_mixed plain.Implies = false
is_mixed plain.Ite = true
is_mixed plain.Equal = false
is_mixed plain.Bvnot = false
is_mixed plain.Bvneg = false
is_mixed plain.Bvadd = false
is_mixed plain.Bvsub = false
is_mixed plain.Bvmul = false
is_mixed plain.Bvand = false
is_mixed plain.Bvor = false
is_mixed plain.Bvxor = false
is_mixed plain.Bvnand = false
is_mixed plain.Bvnor = false
is_mixed plain.Bvxnor = false
is_mixed plain.Bvudiv = false
is_mixed plain.Bvurem = false
is_mixed plain.Bvsdiv = false
is_mixed plain.Bvsrem = false
is_mixed plain.Bvsmod = false
is_mixed plain.Bvshl = false
is_mixed plain.Bvlshr = false
is_mixed plain.Bvashr = false
is_mixed plain.Bvult = false
is_mixed plain.Bvule = false
is_mixed plain.Bvugt = false
is_mixed plain.Bvuge = false
is_mixed plain.Bvslt = false
is_mixed plain.Bvsle = false
is_mixed plain.Bvsgt = false
is_mixed plain.Bvsge = false
is_mixed plain.Bvcomp = false
is_mixed plain.Concat = false
is_mixed plain.Select = false
is_mixed plain.Store = true
is_mixed plain.Witness = false

plain_operator : (o : Operator) → is_mixed o ≡ false → GivesPlain (operator_rank o)
plain_operator plain.True h = λ q e. given sort.Bool q tt e
plain_operator plain.False h = λ q e. given sort.Bool q tt e
plain_operator plain.Not h = truth_one
plain_operator plain.And h = truth_two
plain_operator plain.Or h = truth_two
plain_operator plain.Xor h = truth_two
plain_operator plain.Implies h = truth_two
plain_operator plain.Ite h = let f : ⊥ = cc in absurd f
plain_operator plain.Equal h = λ s al r k q e. given sort.Bool q tt e
plain_operator plain.Bvnot h = word_one word_sort word_sort_plain
plain_operator plain.Bvneg h = word_one word_sort word_sort_plain
plain_operator plain.Bvadd h = word_two Ok (λ s q p e. given s q p e)
plain_operator plain.Bvsub h = word_two Ok (λ s q p e. given s q p e)
plain_operator plain.Bvmul h = word_two Ok (λ s q p e. given s q p e)
plain_operator plain.Bvand h = word_two Ok (λ s q p e. given s q p e)
plain_operator plain.Bvor h = word_two Ok (λ s q p e. given s q p e)
plain_operator plain.Bvxor h = word_two Ok (λ s q p e. given s q p e)
plain_operator plain.Bvnand h = word_two Ok (λ s q p e. given s q p e)
plain_operator plain.Bvnor h = word_two Ok (λ s q p e. given s q p e)
plain_operator plain.Bvxnor h = word_two Ok (λ s q p e. given s q p e)
plain_operator plain.Bvudiv h = word_two Ok (λ s q p e. given s q p e)
plain_operator plain.Bvurem h = word_two Ok (λ s q p e. given s q p e)
plain_operator plain.Bvsdiv h = word_two Ok (λ s q p e. given s q p e)
plain_operator plain.Bvsrem h = word_two Ok (λ s q p e. given s q p e)
plain_operator plain.Bvsmod h = word_two Ok (λ s q p e. given s q p e)
plain_operator plain.Bvshl h = word_two Ok (λ s q p e. given s q p e)
plain_operator plain.Bvlshr h = word_two Ok (λ s q p e. given s q p e)
plain_operator plain.Bvashr h = word_two Ok (λ s q p e. given s q p e)
plain_operator plain.Bvult h = word_two (λ s. Ok sort.Bool) (λ s q p e. given sort.Bool q tt e)
plain_operator plain.Bvule h = word_two (λ s. Ok sort.Bool) (λ s q p e. given sort.Bool q tt e)
plain_operator plain.Bvugt h = word_two (λ s. Ok sort.Bool) (λ s q p e. given sort.Bool q tt e)
plain_operator plain.Bvuge h = word_two (λ s. Ok sort.Bool) (λ s q p e. given sort.Bool q tt e)
plain_operator plain.Bvslt h = word_two (λ s. Ok sort.Bool) (λ s q p e. given sort.Bool q tt e)
plain_operator plain.Bvsle h = word_two (λ s. Ok sort.Bool) (λ s q p e. given sort.Bool q tt e)
plain_operator plain.Bvsgt h = word_two (λ s. Ok sort.Bool) (λ s q p e. given sort.Bool q tt e)
plain_operator plain.Bvsge h = word_two (λ s. Ok sort.Bool) (λ s q p e. given sort.Bool q tt e)
plain_operator plain.Bvcomp h = word_two (λ s. Ok (sort.Word 1)) (λ s q p e. given (sort.Word 1) q tt e)
plain_operator plain.Concat h = λ s al r k q e. word_sort_plain (width_of s + width_of r) q e
plain_operator plain.Select h = λ s al r k q e. given (element_sort s) q (element_plain s al) e
plain_operator plain.Store h = let f : ⊥ = cc in absurd f
plain_operator plain.Witness h = λ s al r k q e. given (index_sort s) q (index_plain s al) e

guarded_plain : (b : Bool) (n : ℕ) (f : MakeFault) (q : Sort) → (if b then word_sort n else Err f) ≡ Ok q → IsPlain q
guarded_plain true n f q e = word_sort_plain n q e
guarded_plain false n f q e = let z : ⊥ = cc in absurd z

-- ---- numbers of arguments

-- a rank that takes so many arguments at least
abbrev pub AtLeast : ℕ → Rank → Type 0
AtLeast zero r = Unit {0}
AtLeast (suc n) (Gives r) = ⊥
AtLeast (suc n) (Takes d next) = (s : Sort) → AtLeast n (next s)

few : (n : ℕ) (r : Rank) → AtLeast n r → (k : ℕ) (ss : List Sort) (q : Sort) → length ss < n → ranked r k (map Some ss) ≡ Ok q → ⊥
few zero r h k ss q lt e = omega arith
few (suc n) (Gives r) h k ss q lt e = h
few (suc n) (Takes d next) h k [] q lt e = let f : ⊥ = cc in f
few (suc n) (Takes d next) h k (s ∷ ss) q lt e =
    let o = takes_ok d next k (Some s) (map Some ss) q e in
    let same : s ≡ o.0 = let z = o.1 in cc in
    let rest : ranked (next s) (suc k) (map Some ss) ≡ Ok q = ap (λ b. ranked (next b) (suc k) (map Some ss)) same ∙ o.3 in
    few n (next s) (h s) (suc k) ss q (omega arith) rest

many : (n : ℕ) (r : Rank) → AtMost n r → (k : ℕ) (ss : List Sort) (q : Sort) → n < length ss → ranked r k (map Some ss) ≡ Ok q → ⊥
many n r h k ss q lt e =
    let x : n < length (map Some ss) = omega (arith, length-map ss Some) in
    let z = too_many n r h k (map Some ss) x in
    let y : IsErr (let o : Result Sort MakeFault = Ok q in o) = subst IsErr e z in
    let f : ⊥ = cc in f

wrong_ite : (ss : List Sort) (q : Sort) → op_rank (Plain plain.Ite) ss ≡ Ok q → ((x y z : Sort) → ss ≡ x ∷ y ∷ z ∷ [] → ⊥) → ⊥
wrong_ite [] q e ne = few 3 (operator_rank plain.Ite) (λ a b c. tt) 0 [] q (omega arith) e
wrong_ite (a ∷ []) q e ne = few 3 (operator_rank plain.Ite) (λ a b c. tt) 0 (a ∷ []) q (omega arith) e
wrong_ite (a ∷ b ∷ []) q e ne = few 3 (operator_rank plain.Ite) (λ a b c. tt) 0 (a ∷ b ∷ []) q (omega arith) e
wrong_ite (a ∷ b ∷ c ∷ []) q e ne = ne a b c refl
wrong_ite (a ∷ b ∷ c ∷ d ∷ ss) q e ne = many 3 (operator_rank plain.Ite) (λ a b c. tt) 0 (a ∷ b ∷ c ∷ d ∷ ss) q (omega arith) e

wrong_store : (ss : List Sort) (q : Sort) → op_rank (Plain plain.Store) ss ≡ Ok q → ((x y z : Sort) → ss ≡ x ∷ y ∷ z ∷ [] → ⊥) → ⊥
wrong_store [] q e ne = few 3 (operator_rank plain.Store) (λ a b c. tt) 0 [] q (omega arith) e
wrong_store (a ∷ []) q e ne = few 3 (operator_rank plain.Store) (λ a b c. tt) 0 (a ∷ []) q (omega arith) e
wrong_store (a ∷ b ∷ []) q e ne = few 3 (operator_rank plain.Store) (λ a b c. tt) 0 (a ∷ b ∷ []) q (omega arith) e
wrong_store (a ∷ b ∷ c ∷ []) q e ne = ne a b c refl
wrong_store (a ∷ b ∷ c ∷ d ∷ ss) q e ne = many 3 (operator_rank plain.Store) (λ a b c. tt) 0 (a ∷ b ∷ c ∷ d ∷ ss) q (omega arith) e

no_store : (ss : List Sort) (q : Sort) → op_rank (Plain plain.Store) ss ≡ Ok q → ((x y z : Sort) → ss ≡ x ∷ y ∷ z ∷ [] → ⊥) → IsPlain q
no_store ss q e ne = absurd (wrong_store ss q e ne)

no_choice : (ss : List Sort) (q : Sort) → op_rank (Plain plain.Ite) ss ≡ Ok q → ((x y z : Sort) → ss ≡ x ∷ y ∷ z ∷ [] → ⊥) → IsPlain q
no_choice ss q e ne = absurd (wrong_ite ss q e ne)

no_filling : (k : ℕ) (ss : List Sort) (q : Sort) → op_rank (ConstantArray k) ss ≡ Ok q → ((x : Sort) → ss ≡ x ∷ [] → ⊥) → IsPlain q
no_filling k [] q e ne = absurd (few 1 (rank_of (ConstantArray k)) (λ a. tt) 0 [] q (omega arith) e)
no_filling k (a ∷ []) q e ne = absurd (ne a refl)
no_filling k (a ∷ b ∷ ss) q e ne = absurd (many 1 (rank_of (ConstantArray k)) (λ a. tt) 0 (a ∷ b ∷ ss) q (omega arith) e)

-- a term of no shape is a Bool or a word
other_plain_of : (s : ℕ → Sort) (op : Op) (args : List ℕ) (q : Sort) → op_rank op (map s args) ≡ Ok q → shape_of op args ≡ Other → IsPlain q
other_plain_of s (Plain plain.Ite) [] q e p = no_choice [] q e (λ x y z r. let f : ⊥ = cc in f)
other_plain_of s (Plain plain.Ite) (a ∷ []) q e p = no_choice (s a ∷ []) q e (λ x y z r. let f : ⊥ = cc in f)
other_plain_of s (Plain plain.Ite) (a ∷ b ∷ []) q e p = no_choice (s a ∷ s b ∷ []) q e (λ x y z r. let f : ⊥ = cc in f)
other_plain_of s (Plain plain.Ite) (a ∷ b ∷ c ∷ []) q e p = let f : ⊥ = cc in absurd f
other_plain_of s (Plain plain.Ite) (a ∷ b ∷ c ∷ d ∷ args) q e p = no_choice (s a ∷ s b ∷ s c ∷ s d ∷ map s args) q e (λ x y z r. let f : ⊥ = cc in f)
other_plain_of s (Plain plain.Store) [] q e p = no_store [] q e (λ x y z r. let f : ⊥ = cc in f)
other_plain_of s (Plain plain.Store) (a ∷ []) q e p = no_store (s a ∷ []) q e (λ x y z r. let f : ⊥ = cc in f)
other_plain_of s (Plain plain.Store) (a ∷ b ∷ []) q e p = no_store (s a ∷ s b ∷ []) q e (λ x y z r. let f : ⊥ = cc in f)
other_plain_of s (Plain plain.Store) (a ∷ b ∷ c ∷ []) q e p = let f : ⊥ = cc in absurd f
other_plain_of s (Plain plain.Store) (a ∷ b ∷ c ∷ d ∷ args) q e p = no_store (s a ∷ s b ∷ s c ∷ s d ∷ map s args) q e (λ x y z r. let f : ⊥ = cc in f)
other_plain_of s (ConstantArray k) [] q e p = no_filling k [] q e (λ x r. let f : ⊥ = cc in f)
other_plain_of s (ConstantArray k) (a ∷ []) q e p = let f : ⊥ = cc in absurd f
other_plain_of s (ConstantArray k) (a ∷ b ∷ args) q e p = no_filling k (s a ∷ s b ∷ map s args) q e (λ x r. let f : ⊥ = cc in f)
other_plain_of s (Word n x) args q e p = given_plain (rank_of (Word n x)) (λ r h. guarded_plain (nat_lt x (2 ^ n)) n _ r h) 0 (map s args) q e
other_plain_of s (Extract i j) args q e p = given_plain (rank_of (Extract i j)) (λ a al r h. guarded_plain (nat_le j i && nat_lt i (width_of a)) (i - j + 1) _ r h) 0 (map s args) q e
other_plain_of s (ZeroExtend i) args q e p = given_plain (rank_of (ZeroExtend i)) (word_one (λ n. word_sort (n + i)) (λ n r h. word_sort_plain (n + i) r h)) 0 (map s args) q e
other_plain_of s (SignExtend i) args q e p = given_plain (rank_of (SignExtend i)) (word_one (λ n. word_sort (n + i)) (λ n r h. word_sort_plain (n + i) r h)) 0 (map s args) q e
other_plain_of s (RotateLeft i) args q e p = given_plain (rank_of (RotateLeft i)) (word_one word_sort word_sort_plain) 0 (map s args) q e
other_plain_of s (RotateRight i) args q e p = given_plain (rank_of (RotateRight i)) (word_one word_sort word_sort_plain) 0 (map s args) q e
other_plain_of s (Repeat i) args q e p = given_plain (rank_of (Repeat i)) (word_one (λ n. word_sort (n * i)) (λ n r h. word_sort_plain (n * i) r h)) 0 (map s args) q e
other_plain_of s (Constant d t) args q e p = let f : ⊥ = cc in absurd f
other_plain_of s (Apply d t) args q e p = let f : ⊥ = cc in absurd f
other_plain_of s (Param k t) args q e p = given_plain (rank_of (Param k t)) (λ r h. plain_sort_plain t r h) 0 (map s args) q e
other_plain_of s (Plain o) args q e p = given_plain (operator_rank o) (plain_operator o refl) 0 (map s args) q e

pub other_plain : (nodes : List Node) → IsTermList nodes → (t : ℕ) → t < length nodes → shape_at nodes t ≡ Other → IsPlain (sort_of nodes t)
other_plain nodes terms t lt e = other_plain_of (sort_of nodes) (node_at nodes t).op (node_at nodes t).args (sort_of nodes t) (terms t lt).rank e
