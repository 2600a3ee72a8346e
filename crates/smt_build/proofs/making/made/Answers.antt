use Rattle.smt_build.proofs.Growth.{made_grows, remade_grows}
use Rattle.smt_build.proofs.making.made.Goals as goal

pub returns-in-Ok-clause-grows : goal.returns-in-Ok-clause-grows
returns-in-Ok-clause-grows c = λ signatures declared. made_grows signatures _ c.args.node declared _ _ c.in-Ok.ensures

pub returns-in-Ok-clause-again : goal.returns-in-Ok-clause-again
returns-in-Ok-clause-again c = λ signatures declared. remade_grows signatures _ c.args.node declared _ _ c.in-Ok.ensures
