use Rattle.std.proofs.Common.{ap}
use Rattle.std.specs.Prelude.{is_some}
use Rattle.proof_log.specs.Logs.{state_of}
use Rattle.hub_core.specs.Hubs.{opening, view_of}
use Rattle.hub_core.specs.Stays.{lemma_stays, run_holds}
use Rattle.hub_core.proofs.lemma_tests.put.Goals as goal

pub acted-requires : goal.acted-requires
acted-requires c =
    let law = c.args.law.now in
    let h = c.requires.0 in (
      h,
      c.requires.1,
      lemma_stays law.nodes (state_of law.nodes law.log.entries) (state_of law.nodes (view_of law h).log) c.args.lemma (run_holds law (opening law) h)
          (c.lemma_clause.ensures (ap is_some c.in-Some.is)),
    )
