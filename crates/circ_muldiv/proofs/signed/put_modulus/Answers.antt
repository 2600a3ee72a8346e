use Rattle.std.proofs.Common.{◌∙◌, sym, ap, length, arith}
use Rattle.std.specs.Prelude.{replicate}
use Rattle.std.proofs.lemmas.List.{length-replicate}
use Rattle.cnf_base.specs.Literals.{false_literal}
use Rattle.circ_plain.proofs.Negating.{length-signed_bits}
use Rattle.circ_muldiv.proofs.Assembling.{are_divided, are_parts, magnitudes_next, signed_next, equal_after, smod_gained, smod_bits_are}
use Rattle.circ_muldiv.proofs.Counting.{length-magnitudes_remainder}
use Rattle.circ_muldiv.proofs.signed.put_modulus.Goals as goal

pub signed-requires : goal.signed-requires
signed-requires c =
    let long = ap length (c.as_slice.ensures.value ∙ c.in_ok-_quotient.ensures.remainder) ∙ length-magnitudes_remainder _ c.args.a.now c.args.b.now in
    let first = magnitudes_next _ _ c.args.a.now c.args.b.now c.requires.same c.in_ok-_quotient.ensures.gains in
    omega (arith, long, first, c.requires.same, c.requires.room)

pub gate-requires : goal.gate-requires
gate-requires c =
    let long = ap length (c.as_slice.ensures.value ∙ c.in_ok-_quotient.ensures.remainder) ∙ length-magnitudes_remainder _ c.args.a.now c.args.b.now in
    let first = magnitudes_next _ _ c.args.a.now c.args.b.now c.requires.same c.in_ok-_quotient.ensures.gains in
    let second = signed_next _ _ c.sign-negative.result c.as_slice.result.now c.in_ok-truncated.ensures.gains in
    omega (arith, long, first, second, c.requires.same, c.requires.room)

pub equal-requires-clause-same : goal.equal-requires-clause-same
equal-requires-clause-same c =
    let zero = c.as_slice-3.ensures.value ∙ c.in_ok-zero.ensures ∙ ap (λ n. replicate n false_literal) (c.len.ensures ∙ sym c.as_slice.ensures.len) in
    let again = c.as_slice-2.ensures.value ∙ sym c.as_slice.ensures.value in
    ap length again ∙ sym (ap length zero ∙ length-replicate (length c.as_slice.result.now) false_literal)

pub equal-requires-clause-room : goal.equal-requires-clause-room
equal-requires-clause-room c =
    let long = ap length (c.as_slice.ensures.value ∙ c.in_ok-_quotient.ensures.remainder) ∙ length-magnitudes_remainder _ c.args.a.now c.args.b.now in
    let first = magnitudes_next _ _ c.args.a.now c.args.b.now c.requires.same c.in_ok-_quotient.ensures.gains in
    let second = signed_next _ _ c.sign-negative.result c.as_slice.result.now c.in_ok-truncated.ensures.gains in
    let again = c.as_slice-2.ensures.value ∙ sym c.as_slice.ensures.value in
    omega (arith, long, ap length again, first, second, c.in_ok-differ.ensures.gains.next, c.requires.same, c.requires.room)

pub gate-requires-2 : goal.gate-requires-2
gate-requires-2 c =
    let long = ap length (c.as_slice.ensures.value ∙ c.in_ok-_quotient.ensures.remainder) ∙ length-magnitudes_remainder _ c.args.a.now c.args.b.now in
    let first = magnitudes_next _ _ c.args.a.now c.args.b.now c.requires.same c.in_ok-_quotient.ensures.gains in
    let second = signed_next _ _ c.sign-negative.result c.as_slice.result.now c.in_ok-truncated.ensures.gains in
    let zero = c.as_slice-3.ensures.value ∙ c.in_ok-zero.ensures ∙ ap (λ n. replicate n false_literal) (c.len.ensures ∙ sym c.as_slice.ensures.len) in
    let again = c.as_slice-2.ensures.value ∙ sym c.as_slice.ensures.value in
    let third = equal_after _ _ c.as_slice.result.now c.as_slice-2.result.now _ again zero c.in_ok-is_zero.ensures.gains in
    omega (arith, long, first, second, c.in_ok-differ.ensures.gains.next, third, c.requires.same, c.requires.room)

pub put_sum-requires-clause-same : goal.put_sum-requires-clause-same
put_sum-requires-clause-same c =
    let long = ap length (c.as_slice.ensures.value ∙ c.in_ok-_quotient.ensures.remainder) ∙ length-magnitudes_remainder _ c.args.a.now c.args.b.now in
    ap length (c.as_slice-4.ensures.value ∙ c.in_ok-truncated.ensures.bits) ∙ length-signed_bits _ c.as_slice.result.now ∙ long

pub put_sum-requires-clause-room : goal.put_sum-requires-clause-room
put_sum-requires-clause-room c =
    let long = ap length (c.as_slice.ensures.value ∙ c.in_ok-_quotient.ensures.remainder) ∙ length-magnitudes_remainder _ c.args.a.now c.args.b.now in
    let first = magnitudes_next _ _ c.args.a.now c.args.b.now c.requires.same c.in_ok-_quotient.ensures.gains in
    let second = signed_next _ _ c.sign-negative.result c.as_slice.result.now c.in_ok-truncated.ensures.gains in
    let zero = c.as_slice-3.ensures.value ∙ c.in_ok-zero.ensures ∙ ap (λ n. replicate n false_literal) (c.len.ensures ∙ sym c.as_slice.ensures.len) in
    let again = c.as_slice-2.ensures.value ∙ sym c.as_slice.ensures.value in
    let third = equal_after _ _ c.as_slice.result.now c.as_slice-2.result.now _ again zero c.in_ok-is_zero.ensures.gains in
    omega (arith, long, first, second, c.in_ok-differ.ensures.gains.next, third, c.in_ok-moves.ensures.gains.next, c.requires.same, c.requires.room)

pub returns-clause-gains : goal.returns-clause-gains
returns-clause-gains c =
    let divided = are_divided _ _ c.args.a.now c.args.b.now _ _ c.in_ok-_quotient.ensures.gains c.in_ok-_quotient.ensures.quotient c.in_ok-_quotient.ensures.remainder in
    let zero = c.as_slice-3.ensures.value ∙ c.in_ok-zero.ensures ∙ ap (λ n. replicate n false_literal) (c.len.ensures ∙ sym c.as_slice.ensures.len) in
    let again = c.as_slice-2.ensures.value ∙ sym c.as_slice.ensures.value in
    let moves = rw c.negated.ensures at c.in_ok-moves.ensures.gains in
    let parts = are_parts _ _ _ _ _ _ _ _ _ _ c.as_slice.result.now _ _ _ c.in_ok-truncated.ensures.gains c.in_ok-truncated.ensures.bits c.in_ok-differ.ensures.gains c.in_ok-differ.ensures.literal again zero c.in_ok-is_zero.ensures.gains c.in_ok-is_zero.ensures.literal moves c.in_ok-moves.ensures.literal in
    smod_gained _ _ _ _ _ _ _ c.args.a.now c.args.b.now _ _ _ _ _ _ _ _ _ _ divided c.as_slice.ensures.value c.sign-negative.ensures c.sign.ensures parts c.as_slice-4.ensures.value c.in_ok-bits.ensures.gains

pub returns-clause-bits : goal.returns-clause-bits
returns-clause-bits c =
    let divided = are_divided _ _ c.args.a.now c.args.b.now _ _ c.in_ok-_quotient.ensures.gains c.in_ok-_quotient.ensures.quotient c.in_ok-_quotient.ensures.remainder in
    let zero = c.as_slice-3.ensures.value ∙ c.in_ok-zero.ensures ∙ ap (λ n. replicate n false_literal) (c.len.ensures ∙ sym c.as_slice.ensures.len) in
    let again = c.as_slice-2.ensures.value ∙ sym c.as_slice.ensures.value in
    let moves = rw c.negated.ensures at c.in_ok-moves.ensures.gains in
    let parts = are_parts _ _ _ _ _ _ _ _ _ _ c.as_slice.result.now _ _ _ c.in_ok-truncated.ensures.gains c.in_ok-truncated.ensures.bits c.in_ok-differ.ensures.gains c.in_ok-differ.ensures.literal again zero c.in_ok-is_zero.ensures.gains c.in_ok-is_zero.ensures.literal moves c.in_ok-moves.ensures.literal in
    smod_bits_are _ _ _ _ _ _ c.args.a.now c.args.b.now _ _ _ _ _ _ _ _ _ _ _ divided c.as_slice.ensures.value c.sign-negative.ensures parts c.as_slice-4.ensures.value c.in_ok-bits.ensures.bits
