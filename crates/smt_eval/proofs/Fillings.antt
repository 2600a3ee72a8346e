-- The array that has one element everywhere.
use Rattle.std.proofs.Common.{◌≡◌, ℕ, ◌<◌, ◌^◌, List, [], ◌∷◌, length, map, get_or, refl, sym, subst, arith, Some, Result, Ok, Err}
use Rattle.std.specs.Prelude.{IsOk}
use Rattle.std.specs.List.{AllByRecursion}
use Rattle.smt_words.specs.Words.{WordValue}
use Rattle.smt_terms.specs.declared.sort.Sort.{Sort}
use Rattle.smt_terms.specs.declared.sort.Sort.TheVariants as sort
use Rattle.smt_terms.specs.declared.node.Op.TheVariants.{ConstantArray}
use Rattle.smt_terms.specs.declared.fault.MakeFault.{MakeFault}
use Rattle.smt_terms.specs.Ranks.{constant_sort, rank_of}
use Rattle.smt_terms.specs.Terms.{IsSort, op_rank}
use Rattle.smt_terms.proofs.Typing.{constant_sort_ok}
use Rattle.smt_terms.proofs.Widths.{constant_bounded}
use Rattle.smt_terms.proofs.Arities.{too_many}
use Rattle.smt_values.specs.declared.value.Value.{Value}
use Rattle.smt_values.specs.declared.value.Value.TheVariants as held
use Rattle.smt_eval.specs.Evaluated.{kind_of, given, AreTaken}
use Rattle.smt_eval.proofs.Taking.{clash}
use Rattle.smt_eval.proofs.Stores.{read_is}

-- the widths are those of an array
pub widths_fit : (k : ℕ) (w : WordValue) → AreTaken (ConstantArray k) (held.Word w ∷ []) → IsSort (sort.Array k w.width)
widths_fit k w h = go (constant_sort (sort.Array k w.width)) refl h.rank where
  go : (r : Result Sort MakeFault) → constant_sort (sort.Array k w.width) ≡ r → IsOk r → IsSort (sort.Array k w.width)
  go (Ok t) e ok = subst IsSort (sym (constant_sort_ok (sort.Array k w.width) t e)) (constant_bounded (sort.Array k w.width) t e)
  go (Err f) e ok = let q : ⊥ = cc in absurd q

-- the element is a word
pub element_fits : (k : ℕ) (w : WordValue) → AreTaken (ConstantArray k) (held.Word w ∷ []) → w.value < 2 ^ w.width
element_fits k w h =
    let s = h.typed.0.sorted in
    let is = s.1 in
    let e : w.value ≡ s.0 = cc in
    subst (λ x. x < 2 ^ w.width) (sym e) s.2

pub one_given : (values : List Value) (args : List ℕ) → length args ≡ 1 → AllByRecursion (λ a. a < length values) args → (u : Value) → u ≡ get_or values (get_or args 0 0) u → u ∷ [] ≡ given values args
one_given values [] n h u p = absurd (omega arith)
one_given values (a ∷ []) n h u p = let x = read_is values a u h.0 p in (λ j. x j ∷ [])
one_given values (a ∷ b ∷ args) n h u p = absurd (omega arith)

-- there is one argument
pub only_one : (k : ℕ) (values : List Value) (args : List ℕ) → (length args ≡ 1 → ⊥) → AreTaken (ConstantArray k) (given values args) → ⊥
only_one k values [] ne h = let r = h.rank in let q : ⊥ = cc in q
only_one k values (a ∷ []) ne h = ne refl
only_one k values (a ∷ b ∷ args) ne h = clash (op_rank (ConstantArray k) (map kind_of (given values (a ∷ b ∷ args)))) h.rank (too_many 1 (rank_of (ConstantArray k)) (λ s. tt) 0 (map Some (map kind_of (given values (a ∷ b ∷ args)))) (omega arith))
