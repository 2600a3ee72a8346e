use Rattle.std.proofs.Common.{sym, subst, rules}
use Rattle.cube_workers.specs.Crews.{AreAtRest}
use Rattle.cube_workers.proofs.Settling.{rest_pushed}
use Rattle.cube_workers.proofs.solving.fill.Goals as goal

pub returns-in_err-push-clause-resting : goal.returns-in_err-push-clause-resting
returns-in_err-push-clause-resting c = λ log h. subst (AreAtRest log) (sym c.in_err-push.ensures.items) (c.searches.invariant.resting log h)

pub searches-preserved : goal.searches-preserved
searches-preserved c = record {
  count = search rules;
  resting = λ log h. rest_pushed log c.searches.searches.items c.push.new.self.items _ c.in_ok-push.ensures.items (c.in_ok-new.ensures _ _) (c.searches.invariant.resting log h);
}
