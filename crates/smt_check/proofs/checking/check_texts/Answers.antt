use Rattle.std.proofs.Common.{arith}
use Rattle.std.proofs.lemmas.Result.{err_from_is_err_and}
use Rattle.smt_check.proofs.Parts.{later_same}
use Rattle.smt_check.proofs.Checks.{way_none, way_advance, way_script, way_proof, way_done, way_shown, both_within, script_stopped, proof_stopped, script_cause, proof_cause, memory_cause, answers_cause, nearer_shown, nearer_script, nearer_proof}
use Rattle.smt_check.proofs.Reported.{both_without_memory, both_unwritten, stops_script, stops_proof, stops_shown, stops_done, telling_none, telling_same, telling_front, telling_adds, telling_more, part_front, part_adds}
use Rattle.smt_check.proofs.checking.check_texts.Goals as goal

pub texts-init : goal.texts-init
texts-init g c = record {
  nonempty = c.requires;
  way = rw (c.new-script_meter.ensures, c.new-proof_meter.ensures) (way_none _ _ _ c.new-checking.ensures.judged c.new-checking.ensures.accepted c.new-checking.ensures.ended);
  telling = telling_none _ _ _ _ c.new-checking.ensures.verdicts;
  later = later_same _;
}

-- no memory

pub returns-in_err-judgement-clause-front : goal.returns-in_err-judgement-clause-front
returns-in_err-judgement-clause-front g c = telling_front _ _ _ _ _ c.texts.invariant.telling

pub returns-in_err-judgement-clause-answers : goal.returns-in_err-judgement-clause-answers
returns-in_err-judgement-clause-answers g c = telling_adds _ _ _ _ _ c.texts.invariant.telling

pub returns-in_err-judgement-clause-read : goal.returns-in_err-judgement-clause-read
returns-in_err-judgement-clause-read g c =
    let p = err_from_is_err_and c.from_residual.result c.from_residual.ensures.1 in
    rw p.1 (both_without_memory _ _ _ _ p.0 p.2 (both_within _ _ _ _ _ _ _ c.texts.invariant.way))

pub returns-in_err-judgement-clause-later : goal.returns-in_err-judgement-clause-later
returns-in_err-judgement-clause-later g c = c.texts.invariant.later

pub returns-in_err-judgement-clause-cause : goal.returns-in_err-judgement-clause-cause
returns-in_err-judgement-clause-cause g c =
    let p = err_from_is_err_and c.from_residual.result c.from_residual.ensures.1 in
    rw p.1 (memory_cause _ _ p.0 p.2)

-- all is judged

pub returns-in-Done-clause-judged : goal.returns-in-Done-clause-judged
returns-in-Done-clause-judged g c = way_done _ _ _ _ _ _ _ c.texts.invariant.way c.in-Done.judgement (stops_done _ _ _ _ c.in-Done.is c.in_ok-judgement.ensures).0

pub returns-in-Done-clause-known : goal.returns-in-Done-clause-known
returns-in-Done-clause-known g c = (telling_same _ _ _ _ _ c.texts.invariant.telling _ (stops_done _ _ _ _ c.in-Done.is c.in_ok-judgement.ensures).1).known

pub returns-in-Done-clause-told : goal.returns-in-Done-clause-told
returns-in-Done-clause-told g c = (telling_same _ _ _ _ _ c.texts.invariant.telling _ (stops_done _ _ _ _ c.in-Done.is c.in_ok-judgement.ensures).1).told

pub returns-in-Done-clause-front : goal.returns-in-Done-clause-front
returns-in-Done-clause-front g c = telling_front _ _ _ _ _ c.texts.invariant.telling

pub returns-in-Done-clause-answers : goal.returns-in-Done-clause-answers
returns-in-Done-clause-answers g c = telling_adds _ _ _ _ _ c.texts.invariant.telling

pub returns-in-Done-clause-read : goal.returns-in-Done-clause-read
returns-in-Done-clause-read g c = both_within _ _ _ _ _ _ _ c.texts.invariant.way

pub returns-in-Done-clause-later : goal.returns-in-Done-clause-later
returns-in-Done-clause-later g c = c.texts.invariant.later

-- a verdict

pub texts-preserved-in-Ok : goal.texts-preserved-in-Ok
texts-preserved-in-Ok g c =
    let s = stops_shown _ _ _ _ _ c.in-Shown.is c.in_ok-judgement.ensures in
    let w = c.texts.invariant in
    record {
      nonempty = w.nonempty;
      way = way_advance _ _ _ _ _ _ _ w.way _ s.0;
      telling = telling_more _ _ _ _ _ w.telling _ _ s.1 (way_shown _ _ _ _ _ _ _ w.way c.in-Shown.held s.2) _ c.in-Ok.ensures.bytes;
      later = record { script = w.later.script; answers = omega (arith, w.later.answers, c.tell.ensures.later); proof = w.later.proof };
    }

pub texts-smaller-in-Ok : goal.texts-smaller-in-Ok
texts-smaller-in-Ok g c =
    let s = stops_shown _ _ _ _ _ c.in-Shown.is c.in_ok-judgement.ensures in
    nearer_shown _ _ _ _ s.0 s.3

pub returns-in-Err-clause-front : goal.returns-in-Err-clause-front
returns-in-Err-clause-front g c =
    let s = stops_shown _ _ _ _ _ c.in-Shown.is c.in_ok-judgement.ensures in
    let b = c.in-Err.ensures.bytes in
    part_front _ _ _ _ _ c.texts.invariant.telling _ _ s.1 (way_shown _ _ _ _ _ _ _ c.texts.invariant.way c.in-Shown.held s.2) _ b.0 b.2

pub returns-in-Err-clause-answers : goal.returns-in-Err-clause-answers
returns-in-Err-clause-answers g c =
    let s = stops_shown _ _ _ _ _ c.in-Shown.is c.in_ok-judgement.ensures in
    let b = c.in-Err.ensures.bytes in
    part_adds _ _ _ _ _ c.texts.invariant.telling _ _ s.1 (way_shown _ _ _ _ _ _ _ c.texts.invariant.way c.in-Shown.held s.2) _ b.0 b.2

pub returns-in-Err-clause-read : goal.returns-in-Err-clause-read
returns-in-Err-clause-read g c = both_unwritten _ _ _ _ _ c.in-Err.ensures.status (both_within _ _ _ _ _ _ _ c.texts.invariant.way)

pub returns-in-Err-clause-later : goal.returns-in-Err-clause-later
returns-in-Err-clause-later g c =
    let w = c.texts.invariant.later in
    record { script = w.script; answers = omega (arith, w.answers, c.tell.ensures.later); proof = w.proof }

pub returns-in-Err-clause-cause : goal.returns-in-Err-clause-cause
returns-in-Err-clause-cause g c = answers_cause _ _ _ _ c.in-Err.ensures.status c.texts.invariant.later.answers c.in-Err.ensures.cause

-- a piece of the script

pub texts-preserved-in-Ok-read_script : goal.texts-preserved-in-Ok-read_script
texts-preserved-in-Ok-read_script g c =
    let s = stops_script _ _ _ _ c.in-Script.is c.in_ok-judgement.ensures in
    let w = c.texts.invariant in
    let k = c.in-Ok-read_script.ensures.ok in
    record {
      nonempty = rw c.read_script.auto.buffer w.nonempty;
      way = way_script _ _ _ _ _ _ _ (way_advance _ _ _ _ _ _ _ w.way _ s.0) s.2 _ _ _ k;
      telling = rw k.fed.checker (telling_same _ _ _ _ _ w.telling _ s.1);
      later = record { script = omega (arith, w.later.script, c.read_script.ensures.later); answers = w.later.answers; proof = w.later.proof };
    }

pub texts-smaller-in-Ok-read_script : goal.texts-smaller-in-Ok-read_script
texts-smaller-in-Ok-read_script g c =
    let s = stops_script _ _ _ _ c.in-Script.is c.in_ok-judgement.ensures in
    nearer_script _ _ _ _ _ _ _ _ s.0 c.in-Ok-read_script.ensures.ok s.2

pub returns-in-Err-read_script-clause-front : goal.returns-in-Err-read_script-clause-front
returns-in-Err-read_script-clause-front g c = telling_front _ _ _ _ _ c.texts.invariant.telling

pub returns-in-Err-read_script-clause-answers : goal.returns-in-Err-read_script-clause-answers
returns-in-Err-read_script-clause-answers g c = telling_adds _ _ _ _ _ c.texts.invariant.telling

pub returns-in-Err-read_script-clause-read : goal.returns-in-Err-read_script-clause-read
returns-in-Err-read_script-clause-read g c =
    script_stopped _ _ _ _ _ _ _ c.texts.invariant.way _ _ c.in-Err-read_script.ensures.err

pub returns-in-Err-read_script-clause-later : goal.returns-in-Err-read_script-clause-later
returns-in-Err-read_script-clause-later g c =
    let w = c.texts.invariant.later in
    record { script = omega (arith, w.script, c.read_script.ensures.later); answers = w.answers; proof = w.proof }

pub returns-in-Err-read_script-clause-cause : goal.returns-in-Err-read_script-clause-cause
returns-in-Err-read_script-clause-cause g c = script_cause _ _ _ _ _ _ _ _ c.texts.invariant.later.script c.in-Err-read_script.ensures.cause _ _ _ c.in-Err-read_script.ensures.err

-- a piece of the proof

pub texts-preserved : goal.texts-preserved
texts-preserved g c =
    let s = stops_proof _ _ _ _ c.in-Proof.is c.in_ok-judgement.ensures in
    let w = c.texts.invariant in
    let k = c.in-Ok-read_proof.ensures.ok in
    record {
      nonempty = rw c.read_proof.auto.buffer w.nonempty;
      way = way_proof _ _ _ _ _ _ _ (way_advance _ _ _ _ _ _ _ w.way _ s.0) s.2 _ _ _ k;
      telling = rw k.fed.checker (telling_same _ _ _ _ _ w.telling _ s.1);
      later = record { script = w.later.script; answers = w.later.answers; proof = omega (arith, w.later.proof, c.read_proof.ensures.later) };
    }

pub texts-smaller : goal.texts-smaller
texts-smaller g c =
    let s = stops_proof _ _ _ _ c.in-Proof.is c.in_ok-judgement.ensures in
    nearer_proof _ _ _ _ _ _ _ _ s.0 c.in-Ok-read_proof.ensures.ok s.2

pub returns-in-Err-read_proof-clause-front : goal.returns-in-Err-read_proof-clause-front
returns-in-Err-read_proof-clause-front g c = telling_front _ _ _ _ _ c.texts.invariant.telling

pub returns-in-Err-read_proof-clause-answers : goal.returns-in-Err-read_proof-clause-answers
returns-in-Err-read_proof-clause-answers g c = telling_adds _ _ _ _ _ c.texts.invariant.telling

pub returns-in-Err-read_proof-clause-read : goal.returns-in-Err-read_proof-clause-read
returns-in-Err-read_proof-clause-read g c =
    proof_stopped _ _ _ _ _ _ _ c.texts.invariant.way _ _ c.in-Err-read_proof.ensures.err

pub returns-in-Err-read_proof-clause-later : goal.returns-in-Err-read_proof-clause-later
returns-in-Err-read_proof-clause-later g c =
    let w = c.texts.invariant.later in
    record { script = w.script; answers = w.answers; proof = omega (arith, w.proof, c.read_proof.ensures.later) }

pub returns-in-Err-read_proof-clause-cause : goal.returns-in-Err-read_proof-clause-cause
returns-in-Err-read_proof-clause-cause g c = proof_cause _ _ _ _ _ _ _ _ c.texts.invariant.later.proof c.in-Err-read_proof.ensures.cause _ _ _ c.in-Err-read_proof.ensures.err
