use Rattle.std.proofs.Common.{◌≡◌, ◌-◌, ◌^◌, ap, ◌∙◌, arith}
use Rattle.std.proofs.lemmas.Nat.Bits.{ones_shr}
use Rattle.bv_rewrite.proofs.making.ones.Goals as goal

pub returns-else-width-eq0 : goal.returns-else-width-eq0
returns-else-width-eq0 c =
    let le = c.requires in
    let e : 128 - (128 - c.args.width) ≡ c.args.width = omega (arith, le) in
    ones_shr 128 (128 - c.args.width) (omega arith) ∙ ap (λ k. 2 ^ k - 1) e
