-- The parts of a signed operator, one after the other, are its circuit.
use Rattle.std.proofs.Common.{◌≡◌, ℕ, suc, ◌+◌, ◌*◌, List, [], ◌∷◌, ◌++◌, length, refl, sym, ap, ◌∙◌, subst, arith}
use Rattle.std.specs.Prelude.{replicate}
use Rattle.std.proofs.lemmas.List.{length-replicate}
use Rattle.cnf_base.specs.Literals.{Literal, positive_of, negated, true_literal, false_literal}
use Rattle.cnf_base.specs.declared.gate.GateKind.{GateKind}
use Rattle.cnf_base.specs.declared.gate.GateKind.TheVariants.{And, Xor}
use Rattle.cnf_base.specs.Assignments.{fresh_bits}
use Rattle.cnf_base.specs.Choices.{mux_gates, equal_gates, equal_bit}
use Rattle.cnf_base.specs.Circuits.{CircuitValue, Gains}
use Rattle.cnf_base.proofs.Growing.{Gains-then}
use Rattle.cnf_base.proofs.Equating.{length-equal_gates}
use Rattle.circ_plain.specs.Signs.{sign_of, neg_gates, neg_bits, signed_gates, signed_bits, abs_gates}
use Rattle.circ_plain.proofs.Negating.{length-neg_gates, length-neg_bits, length-signed_gates, length-abs_gates}
use Rattle.circ_muldiv.specs.Products.{sum_gates, sum_bits}
use Rattle.circ_muldiv.specs.Quotients.{divide_gates, quotient_bits, remainder_bits}
use Rattle.circ_muldiv.specs.Signed.{magnitudes, sdiv_gates, sdiv_bits, srem_gates, srem_bits, smod_gates, smod_bits}
use Rattle.circ_muldiv.specs.Sizes.{magnitudes_size}
use Rattle.circ_muldiv.proofs.Counting.{length-magnitudes}

-- ---- where the next variable is

pub abs_next : (s p : CircuitValue) (a : List Literal) → Gains s p (abs_gates s.next a) → p.next ≡ s.next + 4 * length a
abs_next s p a h = h.next ∙ ap (λ n. s.next + n) (length-abs_gates s.next a)

pub neg_next : (s p : CircuitValue) (a : List Literal) → Gains s p (neg_gates s.next a) → p.next ≡ s.next + 3 * length a
neg_next s p a h = h.next ∙ ap (λ n. s.next + n) (length-neg_gates s.next a)

pub signed_next : (s p : CircuitValue) (c : Literal) (a : List Literal) → Gains s p (signed_gates s.next c a) → p.next ≡ s.next + 4 * length a
signed_next s p c a h = h.next ∙ ap (λ n. s.next + n) (length-signed_gates s.next c a)

pub magnitudes_next : (s p : CircuitValue) (a b : List Literal) → length a ≡ length b → Gains s p (magnitudes s.next a b).gates → p.next ≡ s.next + magnitudes_size (length a)
magnitudes_next s p a b e h = h.next ∙ ap (λ n. s.next + n) (length-magnitudes s.next a b e)

pub equal_next : (s p : CircuitValue) (e : Literal) (a b : List Literal) → length a ≡ length b → Gains s p (equal_gates s.next e a b) → p.next ≡ s.next + 2 * length a
equal_next s p e a b same h = h.next ∙ ap (λ n. s.next + n) (length-equal_gates s.next e a b same)

pub equal_after : (s p : CircuitValue) (ls again zero : List Literal) → again ≡ ls → zero ≡ replicate (length ls) false_literal → Gains s p (equal_gates s.next true_literal again zero) → p.next ≡ s.next + 2 * length ls
equal_after s p ls again zero same ez h =
    equal_next s p true_literal again zero (ap length same ∙ sym (ap length ez ∙ length-replicate (length ls) false_literal)) h ∙ ap (λ r. s.next + 2 * length r) same

-- ---- the division of the absolute values

pub record AreDivided (s t : CircuitValue) (a b quotient remainder : List Literal) : Type 0 where
  pub gates : Gains s t (magnitudes s.next a b).gates
  pub quotient_bits : quotient ≡ (magnitudes s.next a b).quotient
  pub remainder_bits : remainder ≡ (magnitudes s.next a b).remainder

pub are_divided : (s t : CircuitValue) (a b quotient remainder : List Literal) → Gains s t (magnitudes s.next a b).gates → quotient ≡ (magnitudes s.next a b).quotient → remainder ≡ (magnitudes s.next a b).remainder → AreDivided s t a b quotient remainder
are_divided s t a b quotient remainder h eq er = record { gates = h; quotient_bits = eq; remainder_bits = er }

pub magnitudes_gained : (s p q t : CircuitValue) (a b x y quotient remainder : List Literal) → Gains s p (abs_gates s.next a) → x ≡ signed_bits s.next a → Gains p q (abs_gates p.next b) → y ≡ signed_bits p.next b → Gains q t (divide_gates q.next x y) → quotient ≡ quotient_bits q.next x y → remainder ≡ remainder_bits q.next x y → AreDivided s t a b quotient remainder
magnitudes_gained s p q t a b x y quotient remainder first ex second ey third eq er =
    let h = s.next + length (abs_gates s.next a) in
    let second' = subst (λ n. Gains p q (abs_gates n b)) first.next second in
    let k = h + length (abs_gates h b) in
    let after : q.next ≡ k = second'.next ∙ ap (λ n. n + length (abs_gates h b)) first.next in
    let ey' : y ≡ signed_bits h b = ey ∙ ap (λ n. signed_bits n b) first.next in
    let third' = subst (λ n. Gains q t (divide_gates n (signed_bits s.next a) (signed_bits h b))) after (subst (λ z. Gains q t (divide_gates q.next (signed_bits s.next a) z)) ey' (subst (λ z. Gains q t (divide_gates q.next z y)) ex third)) in
    record {
      gates = Gains-then s p t (abs_gates s.next a) _ first (Gains-then p q t (abs_gates h b) (divide_gates k (signed_bits s.next a) (signed_bits h b)) second' (subst (λ n. Gains q t (divide_gates n (signed_bits s.next a) (signed_bits h b))) refl third'));
      quotient_bits = eq ∙ ap (λ z. quotient_bits q.next z y) ex ∙ ap (λ z. quotient_bits q.next (signed_bits s.next a) z) ey' ∙ ap (λ n. quotient_bits n (signed_bits s.next a) (signed_bits h b)) after;
      remainder_bits = er ∙ ap (λ z. remainder_bits q.next z y) ex ∙ ap (λ z. remainder_bits q.next (signed_bits s.next a) z) ey' ∙ ap (λ n. remainder_bits n (signed_bits s.next a) (signed_bits h b)) after;
    }

-- ---- a quotient's sign

abbrev quotient_tail : ℕ → Literal → Literal → List Literal → List GateKind
quotient_tail h p q ls = neg_gates h ls ++ Xor p q ∷ mux_gates (positive_of (h + length (neg_gates h ls))) (neg_bits h ls) ls

quotient_tail_gained : (t u w z : CircuitValue) (p q x : Literal) (ls negation again : List Literal) → Gains t u (neg_gates t.next ls) → negation ≡ neg_bits t.next ls → Gains u w (Xor p q ∷ []) → x ≡ positive_of u.next → again ≡ ls → Gains w z (mux_gates x negation again) → Gains t z (quotient_tail t.next p q ls)
quotient_tail_gained t u w z p q x ls negation again first en second ex ea third =
    let n = neg_bits t.next ls in
    let third1 = subst (λ m. Gains w z (mux_gates x m ls)) en (subst (λ m. Gains w z (mux_gates x negation m)) ea third) in
    let third2 = subst (λ l. Gains w z (mux_gates l n ls)) (ex ∙ ap positive_of first.next) third1 in
    Gains-then t u z (neg_gates t.next ls) _ first (Gains-then u w z (Xor p q ∷ []) (mux_gates (positive_of (t.next + length (neg_gates t.next ls))) n ls) second third2)

pub sdiv_gained : (s t u w z : CircuitValue) (a b quotient remainder again negation again' : List Literal) (p q x : Literal) → AreDivided s t a b quotient remainder → again ≡ quotient → Gains t u (neg_gates t.next again) → negation ≡ neg_bits t.next again → p ≡ sign_of a → q ≡ sign_of b → Gains u w (Xor p q ∷ []) → x ≡ positive_of u.next → again' ≡ quotient → Gains w z (mux_gates x negation again') → Gains s z (sdiv_gates s.next a b)
sdiv_gained s t u w z a b quotient remainder again negation again' p q x d same first en ep eq second ex same' third =
    let m = magnitudes s.next a b in
    let h = s.next + length m.gates in
    let tail = quotient_tail_gained t u w z p q x again negation again' first en second ex (same' ∙ sym same) third in
    let tail1 = subst (λ ls. Gains t z (quotient_tail t.next p q ls)) (same ∙ d.quotient_bits) tail in
    let tail2 = subst (λ l. Gains t z (quotient_tail t.next l q m.quotient)) ep tail1 in
    let tail3 = subst (λ l. Gains t z (quotient_tail t.next (sign_of a) l m.quotient)) eq tail2 in
    let tail4 = subst (λ n. Gains t z (quotient_tail n (sign_of a) (sign_of b) m.quotient)) d.gates.next tail3 in
    Gains-then s t z m.gates (quotient_tail h (sign_of a) (sign_of b) m.quotient) d.gates tail4

pub sdiv_bits_are : (s t u w : CircuitValue) (a b quotient remainder again negation bits : List Literal) (p q : Literal) → AreDivided s t a b quotient remainder → again ≡ quotient → Gains t u (neg_gates t.next again) → negation ≡ neg_bits t.next again → Gains u w (Xor p q ∷ []) → bits ≡ fresh_bits w.next (length negation) → bits ≡ sdiv_bits s.next a b
sdiv_bits_are s t u w a b quotient remainder again negation bits p q d same first en second eb =
    let m = magnitudes s.next a b in
    let h = s.next + length m.gates in
    let whole : again ≡ m.quotient = same ∙ d.quotient_bits in
    let more : u.next + 1 ≡ suc u.next = omega arith in
    let x : u.next ≡ h + length (neg_gates h m.quotient) = first.next ∙ ap (λ n. n + length (neg_gates n again)) d.gates.next ∙ ap (λ ls. h + length (neg_gates h ls)) whole in
    let long : length negation ≡ length m.quotient = ap length en ∙ length-neg_bits t.next again ∙ ap length whole in
    eb ∙ ap (fresh_bits w.next) long ∙ ap (λ n. fresh_bits n (length m.quotient)) (second.next ∙ more ∙ ap suc x)

-- ---- a remainder's sign

pub srem_gained : (s t z : CircuitValue) (a b quotient remainder again : List Literal) (p : Literal) → AreDivided s t a b quotient remainder → again ≡ remainder → p ≡ sign_of a → Gains t z (signed_gates t.next p again) → Gains s z (srem_gates s.next a b)
srem_gained s t z a b quotient remainder again p d same ep first =
    let m = magnitudes s.next a b in
    let tail1 = subst (λ ls. Gains t z (signed_gates t.next p ls)) (same ∙ d.remainder_bits) first in
    let tail2 = subst (λ l. Gains t z (signed_gates t.next l m.remainder)) ep tail1 in
    let tail3 = subst (λ n. Gains t z (signed_gates n (sign_of a) m.remainder)) d.gates.next tail2 in
    Gains-then s t z m.gates (signed_gates (s.next + length m.gates) (sign_of a) m.remainder) d.gates tail3

pub srem_bits_are : (s t : CircuitValue) (a b quotient remainder again bits : List Literal) → AreDivided s t a b quotient remainder → again ≡ remainder → bits ≡ signed_bits t.next again → bits ≡ srem_bits s.next a b
srem_bits_are s t a b quotient remainder again bits d same eb =
    let m = magnitudes s.next a b in
    eb ∙ ap (signed_bits t.next) (same ∙ d.remainder_bits) ∙ ap (λ n. signed_bits n m.remainder) d.gates.next

-- ---- a modulus's sign

-- the gates after the division, and the number of the gate that says whether the divisor is added
abbrev modulus_signed : ℕ → Literal → List Literal → ℕ
modulus_signed h p u = h + length (signed_gates h p u)

abbrev modulus_zero : ℕ → Literal → List Literal → List GateKind
modulus_zero h p u = equal_gates (suc (modulus_signed h p u)) true_literal u (replicate (length u) false_literal)

abbrev modulus_moves : ℕ → Literal → List Literal → ℕ
modulus_moves h p u = suc (modulus_signed h p u) + length (modulus_zero h p u)

abbrev modulus_tail : ℕ → Literal → Literal → List Literal → List Literal → List GateKind
modulus_tail h p q u b =
    signed_gates h p u
    ++ Xor p q
    ∷ (modulus_zero h p u
    ++ And (positive_of (modulus_signed h p u)) (negated (equal_bit (suc (modulus_signed h p u)) true_literal u (replicate (length u) false_literal)))
    ∷ sum_gates (suc (modulus_moves h p u)) (signed_bits h u) b (positive_of (modulus_moves h p u)))

-- what stands after each part of a modulus
pub record AreModulusParts (t u w e k : CircuitValue) (p q differ is_zero moves : Literal) (ls signed : List Literal) : Type 0 where
  pub sign : Gains t u (signed_gates t.next p ls)
  pub signed_bits : signed ≡ signed_bits t.next ls
  pub xor : Gains u w (Xor p q ∷ [])
  pub xor_bit : differ ≡ positive_of u.next
  pub equal : Gains w e (equal_gates w.next true_literal ls (replicate (length ls) false_literal))
  pub equal_bit : is_zero ≡ equal_bit w.next true_literal ls (replicate (length ls) false_literal)
  pub and : Gains e k (And differ (negated is_zero) ∷ [])
  pub and_bit : moves ≡ positive_of e.next

pub are_parts : (t u w e k : CircuitValue) (p q differ is_zero moves : Literal) (ls ls' zero signed : List Literal) → Gains t u (signed_gates t.next p ls) → signed ≡ signed_bits t.next ls → Gains u w (Xor p q ∷ []) → differ ≡ positive_of u.next → ls' ≡ ls → zero ≡ replicate (length ls) false_literal → Gains w e (equal_gates w.next true_literal ls' zero) → is_zero ≡ equal_bit w.next true_literal ls' zero → Gains e k (And differ (negated is_zero) ∷ []) → moves ≡ positive_of e.next → AreModulusParts t u w e k p q differ is_zero moves ls signed
are_parts t u w e k p q differ is_zero moves ls ls' zero signed sign es xor ex same ez equal ee and ea =
    let zs = replicate (length ls) false_literal in
    record {
      sign = sign;
      signed_bits = es;
      xor = xor;
      xor_bit = ex;
      equal = subst (λ z. Gains w e (equal_gates w.next true_literal ls z)) ez (subst (λ x. Gains w e (equal_gates w.next true_literal x zero)) same equal);
      equal_bit = ee ∙ ap (λ x. equal_bit w.next true_literal x zero) same ∙ ap (equal_bit w.next true_literal ls) ez;
      and = and;
      and_bit = ea;
    }

parts_next : (t u w e k : CircuitValue) (p q differ is_zero moves : Literal) (ls signed : List Literal) → AreModulusParts t u w e k p q differ is_zero moves ls signed → (w.next ≡ suc (modulus_signed t.next p ls)) × (e.next ≡ modulus_moves t.next p ls) × (k.next ≡ suc (modulus_moves t.next p ls))
parts_next t u w e k p q differ is_zero moves ls signed m =
    let more : (n : ℕ) → n + 1 ≡ suc n = λ n. omega arith in
    let hw : w.next ≡ suc (modulus_signed t.next p ls) = m.xor.next ∙ more u.next ∙ ap suc m.sign.next in
    let he : e.next ≡ modulus_moves t.next p ls = m.equal.next ∙ ap (λ n. n + length (equal_gates n true_literal ls (replicate (length ls) false_literal))) hw in
    (hw, he, m.and.next ∙ more e.next ∙ ap suc he)

modulus_tail_gained : (t u w e k z : CircuitValue) (p q differ is_zero moves : Literal) (ls signed again b : List Literal) → AreModulusParts t u w e k p q differ is_zero moves ls signed → again ≡ signed → Gains k z (sum_gates k.next again b moves) → Gains t z (modulus_tail t.next p q ls b)
modulus_tail_gained t u w e k z p q differ is_zero moves ls signed again b m same sum =
    let n = parts_next t u w e k p q differ is_zero moves ls signed m in
    let x = modulus_signed t.next p ls in
    let y = modulus_moves t.next p ls in
    let zero = replicate (length ls) false_literal in
    let sum1 = subst (λ ds. Gains k z (sum_gates k.next ds b moves)) (same ∙ m.signed_bits) sum in
    let sum2 = subst (λ l. Gains k z (sum_gates k.next (signed_bits t.next ls) b l)) (m.and_bit ∙ ap positive_of n.1) sum1 in
    let sum3 = subst (λ j. Gains k z (sum_gates j (signed_bits t.next ls) b (positive_of y))) n.2 sum2 in
    let and1 = subst (λ l. Gains e k (And l (negated is_zero) ∷ [])) (m.xor_bit ∙ ap positive_of m.sign.next) m.and in
    let and2 = subst (λ l. Gains e k (And (positive_of x) (negated l) ∷ [])) (m.equal_bit ∙ ap (λ j. equal_bit j true_literal ls zero) n.0) and1 in
    let equal1 = subst (λ j. Gains w e (equal_gates j true_literal ls zero)) n.0 m.equal in
    Gains-then t u z (signed_gates t.next p ls) _ m.sign
    (Gains-then u w z (Xor p q ∷ []) _ m.xor
    (Gains-then w e z (equal_gates (suc x) true_literal ls zero) _ equal1
    (Gains-then e k z (And (positive_of x) (negated (equal_bit (suc x) true_literal ls zero)) ∷ []) (sum_gates (suc y) (signed_bits t.next ls) b (positive_of y)) and2 sum3)))

pub smod_gained : (s t u w e k z : CircuitValue) (a b quotient remainder ls signed again : List Literal) (p q differ is_zero moves : Literal) → AreDivided s t a b quotient remainder → ls ≡ remainder → p ≡ sign_of a → q ≡ sign_of b → AreModulusParts t u w e k p q differ is_zero moves ls signed → again ≡ signed → Gains k z (sum_gates k.next again b moves) → Gains s z (smod_gates s.next a b)
smod_gained s t u w e k z a b quotient remainder ls signed again p q differ is_zero moves d same ep eq m last sum =
    let d' = magnitudes s.next a b in
    let tail = modulus_tail_gained t u w e k z p q differ is_zero moves ls signed again b m last sum in
    let tail1 = subst (λ r. Gains t z (modulus_tail t.next p q r b)) (same ∙ d.remainder_bits) tail in
    let tail2 = subst (λ l. Gains t z (modulus_tail t.next l q d'.remainder b)) ep tail1 in
    let tail3 = subst (λ l. Gains t z (modulus_tail t.next (sign_of a) l d'.remainder b)) eq tail2 in
    let tail4 = subst (λ n. Gains t z (modulus_tail n (sign_of a) (sign_of b) d'.remainder b)) d.gates.next tail3 in
    Gains-then s t z d'.gates (modulus_tail (s.next + length d'.gates) (sign_of a) (sign_of b) d'.remainder b) d.gates tail4

pub smod_bits_are : (s t u w e k : CircuitValue) (a b quotient remainder ls signed again bits : List Literal) (p q differ is_zero moves : Literal) → AreDivided s t a b quotient remainder → ls ≡ remainder → p ≡ sign_of a → AreModulusParts t u w e k p q differ is_zero moves ls signed → again ≡ signed → bits ≡ sum_bits k.next again b → bits ≡ smod_bits s.next a b
smod_bits_are s t u w e k a b quotient remainder ls signed again bits p q differ is_zero moves d same ep m last eb =
    let d' = magnitudes s.next a b in
    let n = parts_next t u w e k p q differ is_zero moves ls signed m in
    eb
    ∙ ap (λ ds. sum_bits k.next ds b) (last ∙ m.signed_bits)
    ∙ ap (λ j. sum_bits j (signed_bits t.next ls) b) n.2
    ∙ ap (λ r. sum_bits (suc (modulus_moves t.next p r)) (signed_bits t.next r) b) (same ∙ d.remainder_bits)
    ∙ ap (λ l. sum_bits (suc (modulus_moves t.next l d'.remainder)) (signed_bits t.next d'.remainder) b) ep
    ∙ ap (λ j. sum_bits (suc (modulus_moves j (sign_of a) d'.remainder)) (signed_bits j d'.remainder) b) d.gates.next
