use Rattle.std.proofs.Common.{◌≡◌, ◌-◌, ◌^◌, ap, ◌∙◌, arith}
use Rattle.std.proofs.lemmas.Nat.Bits.{ones_shr}
use Rattle.smt_values.proofs.array.last_index.Goals as goal

pub returns : goal.returns
returns c =
    let e : 128 - (128 - c.args.width) ≡ c.args.width = omega arith in
    ones_shr 128 (128 - c.args.width) (omega arith) ∙ ap (λ k. 2 ^ k - 1) e
