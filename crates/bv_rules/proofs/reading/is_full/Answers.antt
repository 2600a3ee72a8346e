use Rattle.std.proofs.Common.{◌≡◌, ℕ, ◌-◌, ◌^◌, ◌<◌, Bool, ap, sym, ◌∙◌, arith}
use Rattle.std.specs.Prelude.{◌==◌}
use Rattle.std.proofs.lemmas.Bool.{ne_eqb}
use Rattle.std.proofs.lemmas.Nat.{pow_below}
use Rattle.std.proofs.lemmas.Nat.Bits.{ones_shr}
use Rattle.bv_rules.proofs.reading.is_full.Goals as goal

not_ones : (v w : ℕ) → v < 2 ^ 128 → 128 < w → (v == 2 ^ w - 1) ≡ Bool.false
not_ones v w h lt =
    let ne : v ≡ 2 ^ w - 1 → ⊥ = λ (e : v ≡ 2 ^ w - 1). let f : ⊥ = omega (arith, pow_below 128 w lt, e) in f in
    ne_eqb v (2 ^ w - 1) ne

pub returns-then-width-gt128 : goal.returns-then-width-gt128
returns-then-width-gt128 c = sym (not_ones c.args.value c.args.width c.ranges.value.fits c.if-width-gt128.true)

pub returns : goal.returns
returns c =
    let e : 128 - (128 - c.args.width) ≡ c.args.width = omega arith in
    ap (λ k. c.args.value == k) (ones_shr 128 (128 - c.args.width) (omega arith) ∙ ap (λ k. 2 ^ k - 1) e)
