-- The bits of products, quotients and remainders are those of their values.
use Rattle.std.proofs.Common.{◌≡◌, ℕ, suc, ◌+◌, ◌^◌, ◌<◌, ◌≤◌, Bool, true, List, [], ◌∷◌, length, take, drop, refl, sym, ◌∙◌, arith}
use Rattle.std.specs.Prelude.{Result, Ok}
use Rattle.std.proofs.lemmas.List.{length-append, length-take-le}
use Rattle.cnf_base.specs.Literals.{Literal}
use Rattle.cnf_base.specs.Clauses.{number}
use Rattle.cnf_base.specs.Gates.{HaveMeaning}
use Rattle.cnf_base.specs.Assignments.{fresh_bits}
use Rattle.cnf_base.proofs.Rows.{length-fresh_bits}
use Rattle.smt_words.specs.Words.{mul_of, udiv_of, urem_of, sdiv_of, srem_of, smod_of}
use Rattle.circ_plain.specs.Signs.{signed_bits}
use Rattle.circ_plain.proofs.Negating.{length-signed_bits}
use Rattle.circ_muldiv.specs.Products.{sum_gates, sum_bits, rows_bits, mul_bits}
use Rattle.circ_muldiv.specs.Signed.{magnitudes, smod_bits}
use Rattle.circ_muldiv.specs.Sizes.{mul_size, divide_size, sdiv_size, srem_size, smod_size}
use Rattle.circ_muldiv.proofs.Multiplying.{length-sum_bits, length-rest, mul_correct}
use Rattle.circ_muldiv.proofs.Dividing.{length-quotient, length-remainder, divide_correct}
use Rattle.circ_muldiv.proofs.Signs.{sdiv_correct, srem_correct, smod_correct}
use Rattle.circ_muldiv.proofs.Counting.{length-magnitudes_quotient, length-magnitudes_remainder, mul_small, divide_small}
use Rattle.smt_terms.specs.declared.sort.Sort.{Sort}
use Rattle.smt_terms.specs.declared.sort.Sort.TheVariants as sort
use Rattle.smt_terms.specs.declared.fault.MakeFault.{MakeFault}
use Rattle.smt_terms.specs.Values.{VWord}
use Rattle.bit_blast.specs.Circuits.{product, quotient, remainder, signed_quotient, signed_remainder, signed_modulus}
use Rattle.bit_blast.specs.Meanings.{AreBitsOf}
use Rattle.bit_blast.proofs.Correct.{ok_is, as_word}

-- ---- room

pub product_fits : (next n : ℕ) → n ≤ 128 → next + 2 ^ 17 ≤ 2 ^ 63 → next + mul_size n ≤ 2 ^ 63
product_fits next n short room = omega (arith, mul_small n short, room)

pub division_fits : (next n : ℕ) → n ≤ 128 → next + 2 ^ 17 ≤ 2 ^ 63 → next + divide_size n ≤ 2 ^ 63
division_fits next n short room = omega (arith, divide_small n short, room)

pub signed_quotient_fits : (next n : ℕ) → n ≤ 128 → next + 2 ^ 17 ≤ 2 ^ 63 → next + sdiv_size n ≤ 2 ^ 63
signed_quotient_fits next n short room = omega (arith, divide_small n short, short, room)

pub signed_remainder_fits : (next n : ℕ) → n ≤ 128 → next + 2 ^ 17 ≤ 2 ^ 63 → next + srem_size n ≤ 2 ^ 63
signed_remainder_fits next n short room = omega (arith, divide_small n short, short, room)

pub signed_modulus_fits : (next n : ℕ) → n ≤ 128 → next + 2 ^ 17 ≤ 2 ^ 63 → next + smod_size n ≤ 2 ^ 63
signed_modulus_fits next n short room = omega (arith, divide_small n short, short, room)

-- ---- lengths

length-rows_bits : (g : ℕ) (p a bs : List Literal) → length p ≡ length bs → length a ≡ length bs → length (rows_bits g p a bs) ≡ length bs
length-rows_bits g p a [] ep ea = refl
length-rows_bits g p a (b ∷ bs) ep ea =
    let n = length bs in
    let s = sum_bits g p a in
    let ls : length s ≡ suc n = length-sum_bits g p a (ep ∙ sym ea) ∙ ep in
    let rest = length-rows_bits (g + length (sum_gates g p a b)) (drop 1 s) (take n a) bs (length-rest s n ls) (length-take-le n a (omega (arith, ea))) in
    length-append (take 1 s) (rows_bits (g + length (sum_gates g p a b)) (drop 1 s) (take n a) bs) ∙ (omega (arith, length-take-le 1 s (omega (arith, ls)), rest))

length-mul_bits : (g : ℕ) (a b : List Literal) → length a ≡ length b → length (mul_bits g a b) ≡ length a
length-mul_bits g [] [] e = refl
length-mul_bits g (x ∷ a) [] e = absurd (omega arith)
length-mul_bits g a (b ∷ bs) e =
    let n = length bs in
    let s = fresh_bits g (length a) in
    let ls : length s ≡ suc n = length-fresh_bits (length a) g ∙ e in
    let rest = length-rows_bits (g + length a) (drop 1 s) (take n a) bs (length-rest s n ls) (length-take-le n a (omega (arith, e))) in
    length-append (take 1 s) (rows_bits (g + length a) (drop 1 s) (take n a) bs) ∙ (omega (arith, length-take-le 1 s (omega (arith, ls)), rest, e))

length-remainder_bits : (g h : ℕ) (a b : List Literal) → length a ≡ length b → length (signed_bits h (magnitudes g a b).remainder) ≡ length a
length-remainder_bits g h a b e = length-signed_bits h (magnitudes g a b).remainder ∙ length-magnitudes_remainder g a b ∙ sym e

-- ---- meanings

pub product_means : (v : ℕ → Bool) (g : ℕ) → v 1 ≡ true → (a b : List Literal) (s : Sort) → 0 < length a → ◌≡◌ {A = Result Sort MakeFault} (Ok (sort.Word (length a))) (Ok s) → length a ≡ length b → HaveMeaning v g (product a b g).gates
    → AreBitsOf v s (product a b g).bits (VWord (length a) (mul_of (length a) (number v a) (number v b)))
product_means v g one a b s some e same h = as_word v (length a) _ s _ (ok_is e) (length-mul_bits g a b same) (mul_correct v g a b one same h)

pub quotient_means : (v : ℕ → Bool) (g : ℕ) → v 1 ≡ true → (a b : List Literal) (s : Sort) → 0 < length a → ◌≡◌ {A = Result Sort MakeFault} (Ok (sort.Word (length a))) (Ok s) → length a ≡ length b → HaveMeaning v g (quotient a b g).gates
    → AreBitsOf v s (quotient a b g).bits (VWord (length a) (udiv_of (length a) (number v a) (number v b)))
quotient_means v g one a b s some e same h = as_word v (length a) _ s _ (ok_is e) (length-quotient g a b) (divide_correct v g a b one same h).0

pub remainder_means : (v : ℕ → Bool) (g : ℕ) → v 1 ≡ true → (a b : List Literal) (s : Sort) → 0 < length a → ◌≡◌ {A = Result Sort MakeFault} (Ok (sort.Word (length a))) (Ok s) → length a ≡ length b → HaveMeaning v g (remainder a b g).gates
    → AreBitsOf v s (remainder a b g).bits (VWord (length a) (urem_of (length a) (number v a) (number v b)))
remainder_means v g one a b s some e same h = as_word v (length a) _ s _ (ok_is e) (length-remainder g a b ∙ sym same) (divide_correct v g a b one same h).1

pub signed_quotient_means : (v : ℕ → Bool) (g : ℕ) → v 1 ≡ true → (a b : List Literal) (s : Sort) → 0 < length a → ◌≡◌ {A = Result Sort MakeFault} (Ok (sort.Word (length a))) (Ok s) → length a ≡ length b → HaveMeaning v g (signed_quotient a b g).gates
    → AreBitsOf v s (signed_quotient a b g).bits (VWord (length a) (sdiv_of (length a) (number v a) (number v b)))
signed_quotient_means v g one a b s some e same h =
    as_word v (length a) _ s _ (ok_is e) (length-fresh_bits (length (magnitudes g a b).quotient) _ ∙ length-magnitudes_quotient g a b) (sdiv_correct v g a b one some same h)

pub signed_remainder_means : (v : ℕ → Bool) (g : ℕ) → v 1 ≡ true → (a b : List Literal) (s : Sort) → 0 < length a → ◌≡◌ {A = Result Sort MakeFault} (Ok (sort.Word (length a))) (Ok s) → length a ≡ length b → HaveMeaning v g (signed_remainder a b g).gates
    → AreBitsOf v s (signed_remainder a b g).bits (VWord (length a) (srem_of (length a) (number v a) (number v b)))
signed_remainder_means v g one a b s some e same h =
    as_word v (length a) _ s _ (ok_is e) (length-remainder_bits g (g + length (magnitudes g a b).gates) a b same) (srem_correct v g a b one some same h)

length-smod_bits : (g : ℕ) (a b : List Literal) → length a ≡ length b → length (smod_bits g a b) ≡ length a
length-smod_bits g a b e =
    let w = length-remainder_bits g (g + length (magnitudes g a b).gates) a b e in
    length-sum_bits _ (signed_bits (g + length (magnitudes g a b).gates) (magnitudes g a b).remainder) b (w ∙ e) ∙ w

pub signed_modulus_means : (v : ℕ → Bool) (g : ℕ) → v 1 ≡ true → (a b : List Literal) (s : Sort) → 0 < length a → ◌≡◌ {A = Result Sort MakeFault} (Ok (sort.Word (length a))) (Ok s) → length a ≡ length b → HaveMeaning v g (signed_modulus a b g).gates
    → AreBitsOf v s (signed_modulus a b g).bits (VWord (length a) (smod_of (length a) (number v a) (number v b)))
signed_modulus_means v g one a b s some e same h = as_word v (length a) _ s _ (ok_is e) (length-smod_bits g a b same) (smod_correct v g a b one some same h)
