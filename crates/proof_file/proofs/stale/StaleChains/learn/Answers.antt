use Rattle.std.proofs.Common.{arith, ap}
use Rattle.proof_file.specs.Indexed.{StaleIndex}
use Rattle.proof_file.proofs.Reading.{knows_all}
use Rattle.proof_file.proofs.stale.StaleChains.learn.Goals as goal

pub steps-init : goal.steps-init
steps-init c = record { keeps = λ places h. h; at = omega (arith, ap (λ (v : StaleIndex). v.read) c.self.view_is) }

pub steps-preserved : goal.steps-preserved
steps-preserved c = record {
  keeps = λ places h. c.in_ok-read_step.ensures.keeps places (c.steps.invariant.keeps places h);
  at = omega (arith, c.in_ok-read_step.ensures.one);
}

pub returns : goal.returns
returns c = λ places h.
    let k = c.steps.invariant.keeps places h in
    (k, knows_all c.args.terms.now.nodes c.args.log.now.entries c.steps.self places (omega (arith, c.steps-test.false, c.len-end.ensures, c.steps.invariant.at, k.within)) k)
