use Rattle.std.proofs.Common.{arith, rules, tests, ◌<◌, ◌^◌, ◌≤◌, ◌≡◌, ◌∙◌, sym, ltb, leb, true}
use Rattle.std.proofs.Math.Pow.{pow_mono}
use Rattle.smt_build.proofs.indices.fits.Goals as goal

pub returns-then-width-ge128 : goal.returns-then-width-ge128
returns-then-width-ge128 c =
    let wide : 2 ^ 128 ≤ 2 ^ c.args.width = pow_mono c.if-width-ge128.true in
    let small : c.args.value < 2 ^ c.args.width = omega arith in
    let a : leb 128 c.args.width ≡ true = search (rules, tests) in
    let b : ltb c.args.value (2 ^ c.args.width) ≡ true = search (rules, tests) in
    a ∙ sym b
