use Rattle.theory_rows.proofs.Ways.{way_fed, way_shown}
use Rattle.theory_rows.proofs.judging.judged.Goals as goal

pub records-init : goal.records-init
records-init c = record {
  way =
      way_fed c.args.script.now c.args.proof.now c.new-checking.result c.feed_script.new.self c.end_script.new.self c.feed_proof.new.self c.end_proof.new.self
      c.new-checking.ensures.judged c.in_ok-feed_script.ensures.judged c.end_script.ensures.judged
      c.in_ok-feed_proof.ensures.judged c.end_proof.ensures.judged c.end_script.ensures.ended c.in_ok-feed_proof.ensures.ended c.end_proof.ensures.ended;
}

pub records-preserved : goal.records-preserved
records-preserved c = record {
  way =
      (way_shown c.args.script.now c.args.proof.now c.records.checking c.records.invariant.way _ c.in_ok-judgement.ensures c.in-Shown.held c.in-Shown.field-1
      c.in-Shown.is).0;
}
