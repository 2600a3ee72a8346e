use Rattle.proof_log.specs.Logs.{state_of}
use Rattle.hub_core.specs.Hubs.{opening, view_of}
use Rattle.hub_core.specs.Stays.{pair_stays, run_holds}
use Rattle.hub_core.proofs.lemma_tests.defined.Goals as goal

pub acted-requires : goal.acted-requires
acted-requires c =
    let law = c.args.law.now in
    let h = c.requires.0 in (
      h,
      c.requires.1,
      pair_stays law.nodes (state_of law.nodes law.log.entries) (state_of law.nodes (view_of law h).log) c.args.pair.0 c.args.pair.1 (run_holds law (opening law) h)
          (c.are_pair.ensures c.if-not-are_pair.false),
    )
