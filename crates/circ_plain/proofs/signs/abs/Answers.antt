use Rattle.std.proofs.Common.{refl, ◌∙◌}
use Rattle.std.proofs.lemmas.Result.{IfOk-weaker}
use Rattle.circ_plain.proofs.Negating.{sign_is}
use Rattle.circ_plain.proofs.signs.abs.Goals as goal

pub returns-clause-gains : goal.returns-clause-gains
returns-clause-gains c = rw c.sign.ensures at c.signed.ensures.gains

pub returns-clause-number : goal.returns-clause-number
returns-clause-number c =
    IfOk-weaker c.signed.result _ _ (λ r h v one holds. h v one holds ∙ rw (c.sign.ensures, sign_is v c.args.a.now c.requires.some) refl) c.signed.ensures.number
