-- The values of rows of literals under an assignment.
use Rattle.std.proofs.Common.{◌≡◌, ℕ, ◌^◌, ◌<◌, Bool, List, [], ◌∷◌, length, get_or, Some, refl, sym, ap, ◌∙◌, subst, arith}
use Rattle.std.proofs.Math.Nat.{mod-eq_of_lt}
use Rattle.cnf_base.specs.Literals.{Literal}
use Rattle.cnf_base.specs.Clauses.{lit_true, number}
use Rattle.cnf_base.proofs.Numbers.{number_lt}
use Rattle.smt_words.specs.Words.{WordValue, word}
use Rattle.smt_terms.specs.declared.sort.Sort.{Sort}
use Rattle.smt_terms.specs.declared.sort.Sort.TheVariants as sort
use Rattle.smt_terms.specs.Terms.{IsSort}
use Rattle.smt_terms.specs.Values as of
use Rattle.smt_terms.specs.Values.{read_at}
use Rattle.bit_blast.specs.Assigned.{IsLongAsWord}
use Rattle.bit_blast.specs.Meanings.{AreBitsOf}
use Rattle.smt_values.specs.declared.value.Value.TheVariants as held
use Rattle.smt_values.specs.Held.{meaning}
use Rattle.proof_log.specs.Logs.{plain_width}

-- as many literals as the sort has bits
abbrev pub IsAsWide : Sort → List Literal → Type 0
IsAsWide s row = (n : ℕ) → plain_width s ≡ Some n → n ≡ length row

-- the row of a Bool has one literal
pub one_wide : (s : Sort) (row : List Literal) → s ≡ sort.Bool → IsAsWide s row → 1 ≡ length row
one_wide s row is wide = wide 1 (ap plain_width is)

one_literal : (row : List Literal) (l : Literal) → 1 ≡ length row → l ≡ get_or row 0 l → row ≡ l ∷ []
one_literal [] l n e = absurd (omega arith)
one_literal (k ∷ []) l n e = ap (λ x. x ∷ []) (sym e)
one_literal (k ∷ m ∷ row) l n e = absurd (omega arith)

-- the value of a Bool
pub truth_value : (f : ℕ → Bool) (s : Sort) (row : List Literal) (l : Literal) (b : Bool) → s ≡ sort.Bool → IsAsWide s row → l ≡ get_or row 0 l → b ≡ lit_true f l → AreBitsOf f s row (meaning (held.Bool b))
truth_value f s row l b is wide at means = subst (λ r. AreBitsOf f r row (meaning (held.Bool b))) (sym is) (l, one_literal row l (one_wide s row is wide) at, ap of.VBool means)

-- the row of a word is as long as a word can be
pub word_long : (s : Sort) (n : ℕ) (row : List Literal) → s ≡ sort.Word n → IsSort s → IsAsWide s row → IsLongAsWord row
word_long s n row is bounded wide =
    let width : n ≡ length row = wide n (ap plain_width is) in
    let range : IsSort (sort.Word n) = subst IsSort is bounded in
    (omega (arith, width, range.0), omega (arith, width, range.1))

-- the value of a word
pub word_value : (f : ℕ → Bool) (s : Sort) (n : ℕ) (row : List Literal) (w : WordValue) → s ≡ sort.Word n → IsAsWide s row → w ≡ word (length row) (number f row) → AreBitsOf f s row (meaning (held.Word w))
word_value f s n row w is wide means =
    let width : n ≡ length row = wide n (ap plain_width is) in
    let own : meaning (held.Word w) ≡ of.VWord n (number f row) = ap (λ x. of.VWord x.width x.value) means ∙ ap (λ k. of.VWord k (number f row)) (sym width) in
    subst (λ r. AreBitsOf f r row (meaning (held.Word w))) (sym is) (sym width, own)

-- a value with bits of a sort reads as it is
pub read_same : (f : ℕ → Bool) (s : Sort) (row : List Literal) (x : of.Value) → AreBitsOf f s row x → read_at s x ≡ x
read_same f sort.Bool row x h = subst (λ y. read_at sort.Bool y ≡ y) (sym h.2) refl
read_same f (sort.Word n) row x h =
    let fits : number f row < 2 ^ n = subst (λ k. number f row < 2 ^ k) h.0 (number_lt f row) in
    subst (λ y. read_at (sort.Word n) y ≡ y) (sym h.1) (ap (of.VWord n) (mod-eq_of_lt fits))
read_same f (sort.Array n m) row x h = absurd h
