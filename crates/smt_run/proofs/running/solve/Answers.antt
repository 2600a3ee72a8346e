use Rattle.smt_check.proofs.Parts.{adds_more}
use Rattle.std.proofs.Common.{inr, refl}
use Rattle.smt_run.proofs.Written.{begins_with}
use Rattle.smt_run.proofs.Ends.{end_reads}
use Rattle.smt_run.proofs.Telling.{laws_of, told_silent, unbegun_beside, unbegun_prefix, front_beside, front_prefix, whole_all, whole_beside, whole_prefix, told_read, no_read}
use Rattle.smt_session.specs.Sessions.{limits_of}
use Rattle.smt_run.proofs.running.solve.Goals as goal

pub returns-in-Err-clause-beside : goal.returns-in-Err-clause-beside
returns-in-Err-clause-beside g c = let a = c.open_proof.ensures.added in told_silent _ _ _ _ a.0 _ a.2 (unbegun_beside _ a.0 a.1 a.3)

pub returns-in-Err-clause-prefix : goal.returns-in-Err-clause-prefix
returns-in-Err-clause-prefix g c = let a = c.open_proof.ensures.added in told_silent _ _ _ _ a.0 _ a.2 (λ text. unbegun_prefix _ text a.0)

pub returns-in-Err-zeros-clause-beside : goal.returns-in-Err-zeros-clause-beside
returns-in-Err-zeros-clause-beside g c = let a = c.open_proof.ensures.added in told_silent _ _ _ _ a.0 _ a.2 (unbegun_beside _ a.0 a.1 a.3)

pub returns-in-Err-zeros-clause-prefix : goal.returns-in-Err-zeros-clause-prefix
returns-in-Err-zeros-clause-prefix g c = let a = c.open_proof.ensures.added in told_silent _ _ _ _ a.0 _ a.2 (λ text. unbegun_prefix _ text a.0)

pub returns-in-Ok-answer_script-clause-whole : goal.returns-in-Ok-answer_script-clause-whole
returns-in-Ok-answer_script-clause-whole g c = λ _. whole_all _ _ _ _ _ _ _ c.requires.settings.limits (laws_of _ c.answers_are_right.ensures c.what_is_printed_is_right.ensures c.trimmed_proofs_are_accepted.ensures c.accepted_proofs_pass.ensures c.accepted_proofs_are_right.ensures) c.in-Ok.ensures.ok _ _ c.end_status.ensures c.in-Ok-answer_script.ensures.turns

pub returns-in-Ok-answer_script-clause-beside : goal.returns-in-Ok-answer_script-clause-beside
returns-in-Ok-answer_script-clause-beside g c = whole_beside _ _ _ _ _ _ _ c.requires.settings.limits (laws_of _ c.answers_are_right.ensures c.what_is_printed_is_right.ensures c.trimmed_proofs_are_accepted.ensures c.accepted_proofs_pass.ensures c.accepted_proofs_are_right.ensures) c.in-Ok.ensures.ok _ _ c.end_status.ensures c.in-Ok-answer_script.ensures.turns

pub returns-in-Ok-answer_script-clause-prefix : goal.returns-in-Ok-answer_script-clause-prefix
returns-in-Ok-answer_script-clause-prefix g c = whole_prefix _ _ _ _ _ _ _ c.requires.settings.limits (laws_of _ c.answers_are_right.ensures c.what_is_printed_is_right.ensures c.trimmed_proofs_are_accepted.ensures c.accepted_proofs_pass.ensures c.accepted_proofs_are_right.ensures) c.in-Ok.ensures.ok _ _ c.end_status.ensures c.in-Ok-answer_script.ensures.turns

pub returns-in-Ok-answer_script-clause-proof : goal.returns-in-Ok-answer_script-clause-proof
returns-in-Ok-answer_script-clause-proof g c = let a = c.open_proof.ensures.added in adds_more _ _ _ (a.0, a.2) c.answer_script.ensures.proof

pub returns-in-Ok-answer_script-clause-header : goal.returns-in-Ok-answer_script-clause-header
returns-in-Ok-answer_script-clause-header g c = λ _ _. begins_with _ _ _ _ c.in-Ok.ensures.ok c.answer_script.ensures.proof

pub returns-clause-beside : goal.returns-clause-beside
returns-clause-beside g c = front_beside _ _ _ _ _ _ _ c.requires.settings.limits (laws_of _ c.answers_are_right.ensures c.what_is_printed_is_right.ensures c.trimmed_proofs_are_accepted.ensures c.accepted_proofs_pass.ensures c.accepted_proofs_are_right.ensures) c.in-Ok.ensures.ok c.in-Err-answer_script.ensures.turns

pub returns-clause-prefix : goal.returns-clause-prefix
returns-clause-prefix g c = front_prefix _ _ _ _ _ _ _ c.requires.settings.limits (laws_of _ c.answers_are_right.ensures c.what_is_printed_is_right.ensures c.trimmed_proofs_are_accepted.ensures c.accepted_proofs_pass.ensures c.accepted_proofs_are_right.ensures) c.in-Ok.ensures.ok c.in-Err-answer_script.ensures.turns

pub returns-clause-proof : goal.returns-clause-proof
returns-clause-proof g c = let a = c.open_proof.ensures.added in adds_more _ _ _ (a.0, a.2) c.answer_script.ensures.proof

pub returns-clause-header : goal.returns-clause-header
returns-clause-header g c = λ _ _. begins_with _ _ _ _ c.in-Ok.ensures.ok c.answer_script.ensures.proof

pub returns-in-Err-clause-answered : goal.returns-in-Err-clause-answered
returns-in-Err-clause-answered g c = λ k. absurd (no_read (limits_of c.args.settings) _ c.in-Err.ensures.stopped k)

pub returns-in-Err-zeros-clause-answered : goal.returns-in-Err-zeros-clause-answered
returns-in-Err-zeros-clause-answered g c = λ k. absurd (no_read (limits_of c.args.settings) _ (inr refl) k)

pub returns-in-Ok-answer_script-clause-answered : goal.returns-in-Ok-answer_script-clause-answered
returns-in-Ok-answer_script-clause-answered g c = λ k. absurd (end_reads _ _ c.end_status.ensures k)

pub returns-clause-answered : goal.returns-clause-answered
returns-clause-answered g c = λ k. told_read _ _ _ _ _ _ _ _ _ c.requires.settings.limits (laws_of _ c.answers_are_right.ensures c.what_is_printed_is_right.ensures c.trimmed_proofs_are_accepted.ensures c.accepted_proofs_pass.ensures c.accepted_proofs_are_right.ensures) c.in-Ok.ensures.ok (c.in-Err-answer_script.ensures.answered k)
