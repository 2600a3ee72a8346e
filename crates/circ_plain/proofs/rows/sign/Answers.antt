use Rattle.circ_plain.proofs.Negating.{sign_at}
use Rattle.circ_plain.proofs.rows.sign.Goals as goal

pub returns : goal.returns
returns c = sign_at c.args.bits.now c.index-bits-bits.result c.requires c.index-bits-bits.is
