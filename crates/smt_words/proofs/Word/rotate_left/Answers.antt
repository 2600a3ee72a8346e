use Rattle.std.proofs.Common.{◌≡◌, ◌+◌, ◌-◌, ◌%◌, refl, arith}
use Rattle.std.proofs.lemmas.Nat.{mod_below}
use Rattle.smt_words.proofs.Numbers.{spin_is, spin_fits}
use Rattle.smt_words.proofs.Word.rotate_left.Goals as goal

pub invariant_of-result : goal.invariant_of-result
invariant_of-result c =
    let n = c.of.inside.width in
    let k = c.args.places % c.of.inside.width in
    let x = c.of.inside.value in
    let e : n - k + k ≡ n = omega (arith, mod_below c.args.places n c.of.invariant.0) in
    rw (c.low.ensures, c.shifted_right.ensures, c.from.ensures, spin_is n (n - k) k x e c.of.invariant.1 c.of.invariant.2)
    (c.of.invariant.0, c.of.invariant.1, spin_fits n (n - k) k x e c.of.invariant.2)

pub returns : goal.returns
returns c =
    let n = c.of.inside.width in
    let k = c.args.places % c.of.inside.width in
    let x = c.of.inside.value in
    let e : n - k + k ≡ n = omega (arith, mod_below c.args.places n c.of.invariant.0) in
    rw (c.low.ensures, c.shifted_right.ensures, c.from.ensures, ← c.of.view_is, spin_is n (n - k) k x e c.of.invariant.1 c.of.invariant.2) refl
