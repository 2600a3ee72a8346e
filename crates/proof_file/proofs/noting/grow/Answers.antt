use Rattle.std.proofs.Common.{◌∙◌, arith}
use Rattle.proof_file.proofs.Calls.{pushed_none, pushed_length}
use Rattle.proof_file.proofs.noting.grow.Goals as goal

pub rows-preserved : goal.rows-preserved
rows-preserved c = record {
  same = λ a. pushed_none c.rows.noted.items _ _ c.in_ok-push.ensures.items c.none.ensures a ∙ c.rows.invariant.same a;
  many = omega (arith, pushed_length c.rows.noted.items _ _ c.in_ok-push.ensures.items, c.rows.invariant.many);
}
