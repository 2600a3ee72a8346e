-- What a check makes before all else can be made where all its terms are plain: these reach no array.
use Rattle.std.proofs.Common.{◌≡◌, ℕ, zero, suc, ◌+◌, ◌-◌, ◌*◌, ◌<◌, ◌≤◌, Bool, true, false, List, [], ◌∷◌, length, map, refl, sym, ap, ◌∙◌, subst, arith, Some, Result, Ok}
use Rattle.std.specs.Prelude.{All, Contains, slice_index_or}
use Rattle.std.specs.List.{list_all, AllByRecursion}
use Rattle.std.proofs.lemmas.Bool.{and_parts, le-leb, lt-leb}
use Rattle.std.proofs.lemmas.List.Elements.{All-contains, All-from_recursion}
use Rattle.smt_terms.specs.declared.sort.Sort.{Sort}
use Rattle.smt_terms.specs.declared.sort.Sort.TheVariants as sort
use Rattle.smt_terms.specs.declared.operator.Operator.{Operator}
use Rattle.smt_terms.specs.declared.operator.Operator.TheVariants as plain
use Rattle.smt_terms.specs.declared.node.Op.{Op}
use Rattle.smt_terms.specs.declared.node.Op.TheVariants.{Plain, Word, Extract, ZeroExtend, SignExtend, RotateLeft, RotateRight, Repeat, ConstantArray, Constant, Apply, Param}
use Rattle.smt_terms.specs.declared.node.Node.{Node}
use Rattle.smt_terms.specs.declared.fault.MakeFault.{MakeFault}
use Rattle.smt_terms.specs.Nodes.{node_at}
use Rattle.smt_terms.specs.Ranks.{is_array, width_of, allows, Rank, Gives, Takes, ranked, word_sort, extract_sort, truth, one_truth, two_truths, one_word, two_words, concatenation, equality, choice, operator_rank, rank_of}
use Rattle.smt_terms.specs.Ranks as ranks
use Rattle.smt_terms.specs.Terms.{TermsValue, AreTerms, IsTermList, sort_of}
use Rattle.smt_terms.proofs.Growing.{takes_ok}
use Rattle.smt_terms.proofs.Typing.{guard_ok, word_sort_ok, constant_sort_ok}
use Rattle.term_reach.specs.Reach.{arguments, IsReached, IsClosed}
use Rattle.term_reach.proofs.Ways.{reached_closed, arguments_below}
use Rattle.array_watches.specs.Needed.{watched}
use Rattle.array_watches.proofs.Arrayless.{words_need_no_watches}
use Rattle.script_state.specs.Plain.{is_plain_operator, is_plain_op, is_plain, HavePlain}
use Rattle.script_state.specs.States.{watches_fit}
use Rattle.script_state.proofs.Marking.{plain_is}

-- ---- plain operators give no array for what is none

-- a rank gives no array where it takes none
abbrev GivesNone : Rank → Type 0
GivesNone (Gives r) = (s : Sort) → r ≡ Ok s → is_array s ≡ false
GivesNone (Takes d next) = (s : Sort) → allows d s ≡ true → is_array s ≡ false → GivesNone (next s)

none_given : (r : Rank) → GivesNone r → (k : ℕ) (ss : List Sort) (s : Sort) → AllByRecursion (λ x. is_array x ≡ false) ss → ranked r k (map Some ss) ≡ Ok s → is_array s ≡ false
none_given (Gives r) g k [] s h e = g s e
none_given (Gives r) g k (x ∷ ss) s h e = let f : ⊥ = cc in absurd f
none_given (Takes d next) g k [] s h e = let f : ⊥ = cc in absurd f
none_given (Takes d next) g k (x ∷ ss) s h e =
    let o = takes_ok d next k (Some x) (map Some ss) s e in
    let same : x ≡ o.0 = let p = o.1 in cc in
    none_given (next o.0) (g o.0 o.2 (subst (λ y. is_array y ≡ false) same h.0)) (suc k) ss s h.1 o.3

given : (t s : Sort) → (let r : Result Sort MakeFault = Ok t in r) ≡ Ok s → is_array t ≡ false → is_array s ≡ false
given t s e h = let same : t ≡ s = cc in subst (λ y. is_array y ≡ false) same h

word_none : (n : ℕ) (s : Sort) → word_sort n ≡ Ok s → is_array s ≡ false
word_none n s e = ap is_array (sym (word_sort_ok n s e).0)

truth_none : GivesNone (Gives truth)
truth_none s e = given sort.Bool s e refl

one_truth_none : GivesNone one_truth
one_truth_none s a n = truth_none

two_truths_none : GivesNone two_truths
two_truths_none s a n t b m = truth_none

equality_none : GivesNone equality
equality_none s a n t b m = truth_none

choice_none : GivesNone choice
choice_none s a n t b m u c k v e = given t v e m

concatenation_none : GivesNone concatenation
concatenation_none s a n t b m v e = word_none (width_of s + width_of t) v e

one_word_none : (h : ℕ → Result Sort MakeFault) → ((n : ℕ) (s : Sort) → h n ≡ Ok s → is_array s ≡ false) → GivesNone (one_word h)
one_word_none h none s a n v e = none (width_of s) v e

word_kept : GivesNone (one_word word_sort)
word_kept = one_word_none word_sort word_none

two_kept : GivesNone (two_words Ok)
two_kept s a n t b m v e = given s v e n

compared : GivesNone (two_words λ _. truth)
compared s a n t b m = truth_none

operator_none : (o : Operator) → is_plain_operator o ≡ true → GivesNone (operator_rank o)
operator_none plain.True p = truth_none
operator_none plain.False p = truth_none
operator_none plain.Not p = one_truth_none
operator_none plain.And p = two_truths_none
operator_none plain.Or p = two_truths_none
operator_none plain.Xor p = two_truths_none
operator_none plain.Implies p = two_truths_none
operator_none plain.Ite p = choice_none
operator_none plain.Equal p = equality_none
operator_none plain.Bvnot p = word_kept
operator_none plain.Bvneg p = word_kept
operator_none plain.Bvadd p = two_kept
operator_none plain.Bvsub p = two_kept
operator_none plain.Bvmul p = two_kept
operator_none plain.Bvand p = two_kept
operator_none plain.Bvor p = two_kept
operator_none plain.Bvxor p = two_kept
operator_none plain.Bvnand p = two_kept
operator_none plain.Bvnor p = two_kept
operator_none plain.Bvxnor p = two_kept
operator_none plain.Bvudiv p = two_kept
operator_none plain.Bvurem p = two_kept
operator_none plain.Bvsdiv p = two_kept
operator_none plain.Bvsrem p = two_kept
operator_none plain.Bvsmod p = two_kept
operator_none plain.Bvshl p = two_kept
operator_none plain.Bvlshr p = two_kept
operator_none plain.Bvashr p = two_kept
operator_none plain.Bvult p = compared
operator_none plain.Bvule p = compared
operator_none plain.Bvugt p = compared
operator_none plain.Bvuge p = compared
operator_none plain.Bvslt p = compared
operator_none plain.Bvsle p = compared
operator_none plain.Bvsgt p = compared
operator_none plain.Bvsge p = compared
operator_none plain.Bvcomp p = λ s a n t b m v e. given (sort.Word 1) v e refl
operator_none plain.Concat p = concatenation_none
operator_none plain.Select p = let f : ⊥ = cc in absurd f
operator_none plain.Store p = let f : ⊥ = cc in absurd f
operator_none plain.Witness p = let f : ⊥ = cc in absurd f

constant_none : (s t : Sort) → ranks.is_plain s ≡ true → s ≡ t → is_array t ≡ false
constant_none sort.Bool t p e = ap is_array (sym e)
constant_none (sort.Word n) t p e = ap is_array (sym e)
constant_none (sort.Array n m) t p e = let f : ⊥ = cc in absurd f

rank_none : (op : Op) → is_plain_op op ≡ true → GivesNone (rank_of op)
rank_none (Plain o) p = operator_none o p
rank_none (Word n x) p = λ s e. word_none n s (guard_ok _ (word_sort n) _ s e).1
rank_none (Extract i j) p = one_word_none (extract_sort i j) (λ n s e. word_none (i - j + 1) s (guard_ok _ (word_sort (i - j + 1)) _ s e).1)
rank_none (ZeroExtend i) p = one_word_none (λ n. word_sort (n + i)) (λ n. word_none (n + i))
rank_none (SignExtend i) p = one_word_none (λ n. word_sort (n + i)) (λ n. word_none (n + i))
rank_none (RotateLeft i) p = word_kept
rank_none (RotateRight i) p = word_kept
rank_none (Repeat i) p = one_word_none (λ n. word_sort (n * i)) (λ n. word_none (n * i))
rank_none (ConstantArray k) p = let f : ⊥ = cc in absurd f
rank_none (Constant d s) p = λ t e. constant_none s t p (constant_sort_ok s t e)
rank_none (Apply d s) p = let f : ⊥ = cc in absurd f
rank_none (Param k s) p = let f : ⊥ = cc in absurd f

-- ---- plain terms are no arrays, and reach plain terms

each_is : (p : ℕ → Bool) (xs : List ℕ) → list_all p xs ≡ true → AllByRecursion (λ x. p x ≡ true) xs
each_is p [] e = tt
each_is p (x ∷ xs) e = let h = and_parts (p x) (list_all p xs) e in (h.0, each_is p xs h.1)

module _ (nodes : List Node) (list : IsTermList nodes) where
  args_none : (n : ℕ) → ((u : ℕ) → u < n → is_plain nodes u ≡ true → is_array (sort_of nodes u) ≡ false) → (args : List ℕ) → AllByRecursion (λ a. a < n) args → AllByRecursion (λ a. is_plain nodes a ≡ true) args → AllByRecursion (λ s. is_array s ≡ false) (map (sort_of nodes) args)
  args_none n ih [] h p = tt
  args_none n ih (a ∷ args) h p = (ih a h.0 p.0, args_none n ih args h.1 p.1)

  -- the operator is plain, and each argument
  plain_parts : (t : ℕ) → t < length nodes → is_plain nodes t ≡ true → (is_plain_op (node_at nodes t).op ≡ true) × AllByRecursion (λ a. is_plain nodes a ≡ true) (arguments nodes t)
  plain_parts t held p =
      let parts = and_parts (is_plain_op (node_at nodes t).op) (list_all (is_plain nodes) (arguments nodes t)) (sym (plain_is nodes t (list t held)) ∙ p) in
      (parts.0, each_is (is_plain nodes) (arguments nodes t) parts.1)

  plain_below : (n t : ℕ) → t < n → t < length nodes → is_plain nodes t ≡ true → is_array (sort_of nodes t) ≡ false
  plain_below zero t lt held p = absurd (omega (arith, lt))
  plain_below (suc n) t lt held p =
      let parts = plain_parts t held p in
      let args = args_none t (λ u less q. plain_below n u (omega (arith, less, lt)) (omega (arith, less, held)) q) (arguments nodes t) (list t held).earlier parts.1 in
      none_given (rank_of (node_at nodes t).op) (rank_none (node_at nodes t).op parts.0) 0 (map (sort_of nodes) (arguments nodes t)) (sort_of nodes t) args (list t held).rank

  abbrev IsPlainTerm : ℕ → Type 0
  IsPlainTerm t = (t < length nodes) × (is_plain nodes t ≡ true)

  plain_closed : IsClosed (arguments nodes) IsPlainTerm
  plain_closed t u is c = (
    arguments_below nodes list t u c,
    All-contains (λ a. is_plain nodes a ≡ true) (arguments nodes t) u (All-from_recursion (λ a. is_plain nodes a ≡ true) (arguments nodes t) (plain_parts t is.0 is.1).1) c,
  )

  plain_reached : (roots : List ℕ) → ((t : ℕ) → Contains roots t → IsPlainTerm t) → (t : ℕ) → IsReached (arguments nodes) roots t → is_array (sort_of nodes t) ≡ false
  plain_reached roots are t r = let is = reached_closed (arguments nodes) IsPlainTerm roots plain_closed are t r in plain_below (suc t) t (omega arith) is.0 is.1

-- ---- whether what a check makes before all else can be made

module _ (terms : TermsValue) (roots : List ℕ) (are : AreTerms terms) (held : All (λ t. t < length terms.nodes) roots) where
  plain_fit : ((t : ℕ) → Contains roots t → is_plain terms.nodes t ≡ true) → watches_fit terms roots ≡ true
  plain_fit plain =
      let none = plain_reached terms.nodes are.list roots (λ t c. (All-contains (λ a. a < length terms.nodes) roots t held c, plain t c)) in
      let same : watched terms.nodes roots ≡ terms.nodes = words_need_no_watches terms.nodes roots are.list none in
      le-leb (length (watched terms.nodes roots)) terms.limit (subst (λ ns. length ns ≤ terms.limit) (sym same) are.within)

  -- where each of these is kept as plain
  pub marked_fit : (marks : List Bool) → HavePlain terms.nodes marks → length marks ≡ length terms.nodes → list_all (λ a. slice_index_or marks a false) roots ≡ true → watches_fit terms roots ≡ true
  marked_fit marks have count all =
      plain_fit (λ t c.
      let lt = All-contains (λ a. a < length terms.nodes) roots t held c in
      let mark = All-contains (λ a. slice_index_or marks a false ≡ true) roots t (All-from_recursion (λ a. slice_index_or marks a false ≡ true) roots (each_is (λ a. slice_index_or marks a false) roots all)) c in
      sym (have.each t (omega (arith, lt, count))) ∙ mark)

pub counted_fit : (terms : TermsValue) (roots : List ℕ) → length (watched terms.nodes roots) ≤ terms.limit → true ≡ watches_fit terms roots
counted_fit terms roots le = sym (le-leb (length (watched terms.nodes roots)) terms.limit le)

pub counted_over : (terms : TermsValue) (roots : List ℕ) → terms.limit < length (watched terms.nodes roots) → false ≡ watches_fit terms roots
counted_over terms roots lt = sym (lt-leb (length (watched terms.nodes roots)) terms.limit lt)
