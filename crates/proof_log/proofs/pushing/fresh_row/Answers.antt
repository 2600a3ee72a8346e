use Rattle.std.proofs.Common.{◌∙◌}
use Rattle.cnf_base.proofs.Rows.{fresh_bits-push}
use Rattle.proof_log.proofs.pushing.fresh_row.Goals as goal

pub loop-k-preserved : goal.loop-k-preserved
loop-k-preserved c = c.in_ok-push.ensures.items ∙ fresh_bits-push c.loop-k.k c.args.first _ _ c.loop-k.invariant c.new.ensures
