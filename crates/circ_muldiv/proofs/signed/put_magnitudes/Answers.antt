use Rattle.std.proofs.Common.{◌+◌, ◌≤◌, ◌^◌, ◌∙◌, sym, ap, length, subst, arith}
use Rattle.circ_plain.proofs.Negating.{length-signed_bits}
use Rattle.circ_muldiv.specs.Sizes.{divide_size}
use Rattle.circ_muldiv.proofs.Assembling.{abs_next, magnitudes_gained}
use Rattle.circ_muldiv.proofs.signed.put_magnitudes.Goals as goal

pub abs-requires-2-clause-room : goal.abs-requires-2-clause-room
abs-requires-2-clause-room c =
    omega (arith, abs_next _ _ c.args.a.now c.in_ok-dividend.ensures.gains, c.requires.same, c.requires.room)

pub put_division-requires-clause-same : goal.put_division-requires-clause-same
put_division-requires-clause-same c =
    let dividend = ap length (c.as_slice.ensures.value ∙ c.in_ok-dividend.ensures.bits) ∙ length-signed_bits _ c.args.a.now in
    let divisor = ap length (c.as_slice-2.ensures.value ∙ c.in_ok-divisor.ensures.bits) ∙ length-signed_bits _ c.args.b.now in
    dividend ∙ c.requires.same ∙ sym divisor

pub put_division-requires-clause-room : goal.put_division-requires-clause-room
put_division-requires-clause-room c =
    let dividend = ap length (c.as_slice.ensures.value ∙ c.in_ok-dividend.ensures.bits) ∙ length-signed_bits _ c.args.a.now in
    let first = abs_next _ _ c.args.a.now c.in_ok-dividend.ensures.gains in
    let second = abs_next _ _ c.args.b.now c.in_ok-divisor.ensures.gains in
    subst (λ n. c.abs-2.new.circuit.next + divide_size n ≤ 2 ^ 63) (sym dividend) (omega (arith, first, second, c.requires.same, c.requires.room))

pub returns-clause-gains : goal.returns-clause-gains
returns-clause-gains c =
    let x = c.as_slice.ensures.value ∙ c.in_ok-dividend.ensures.bits in
    let y = c.as_slice-2.ensures.value ∙ c.in_ok-divisor.ensures.bits in
    (magnitudes_gained _ _ _ _ c.args.a.now c.args.b.now _ _ _ _ c.in_ok-dividend.ensures.gains x c.in_ok-divisor.ensures.gains y c.in_ok-parts.ensures.gains c.in_ok-parts.ensures.quotient_bits c.in_ok-parts.ensures.remainder_bits).gates

pub returns-clause-quotient : goal.returns-clause-quotient
returns-clause-quotient c =
    let x = c.as_slice.ensures.value ∙ c.in_ok-dividend.ensures.bits in
    let y = c.as_slice-2.ensures.value ∙ c.in_ok-divisor.ensures.bits in
    (magnitudes_gained _ _ _ _ c.args.a.now c.args.b.now _ _ _ _ c.in_ok-dividend.ensures.gains x c.in_ok-divisor.ensures.gains y c.in_ok-parts.ensures.gains c.in_ok-parts.ensures.quotient_bits c.in_ok-parts.ensures.remainder_bits).quotient_bits

pub returns-clause-remainder : goal.returns-clause-remainder
returns-clause-remainder c =
    let x = c.as_slice.ensures.value ∙ c.in_ok-dividend.ensures.bits in
    let y = c.as_slice-2.ensures.value ∙ c.in_ok-divisor.ensures.bits in
    (magnitudes_gained _ _ _ _ c.args.a.now c.args.b.now _ _ _ _ c.in_ok-dividend.ensures.gains x c.in_ok-divisor.ensures.gains y c.in_ok-parts.ensures.gains c.in_ok-parts.ensures.quotient_bits c.in_ok-parts.ensures.remainder_bits).remainder_bits
