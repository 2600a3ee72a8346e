use Rattle.std.proofs.Common.{◌≡◌, length, subst, arith}
use Rattle.smt_terms.specs.declared.node.Op.TheVariants.{ConstantArray}
use Rattle.smt_eval.specs.Evaluated.{IsGiven}
use Rattle.smt_eval.proofs.Fillings.{one_given}
use Rattle.smt_eval.proofs.arrays.everywhere.Goals as goal

pub returns-in-len1 : goal.returns-in-len1
returns-in-len1 c M =
    let n : length c.args.args.now ≡ 1 = omega (arith, c.in-len1.len_at_least, c.in-len1.len_below) in
    let same = one_given c.args.values.now c.args.args.now n c.requires.within c.index-values-element.result c.index-values-element.is in
    subst (λ l. IsGiven M (ConstantArray c.args.width) l c.everywhere_this.result) same (c.everywhere_this.ensures M)
