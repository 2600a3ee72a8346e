use Rattle.std.proofs.Common.{◌≡◌, Some, sym, ap, ◌∙◌}
use Rattle.std.proofs.lemmas.Bool.{MatchBool-at_true, MatchBool-at_false}
use Rattle.proof_text.specs.declared.line.Line.TheVariants as line
use Rattle.accepted_proof.specs.Judged.{Moves}
use Rattle.proof_checker.proofs.Forgetting.{goes_plain_in, goes_deleted}
use Rattle.proof_checker.proofs.checker.Checker.whole_line.Goals as goal

pub returns-then-is_at_step : goal.returns-then-is_at_step
returns-then-is_at_step c = goes_deleted c.args.self c.args.line.now c.as_slice.result.now c.delete.result c.if-is_at_step.ensures (c.in-Delete.is ∙ ap line.Delete (sym c.as_slice.ensures)) c.delete.ensures

pub returns-else-is_at_step : goal.returns-else-is_at_step
returns-else-is_at_step c = goes_plain_in (Moves c.args.self.judging (Some c.args.line.now)) c.args.self c.other_line.result c.other_line.ensures

pub returns-in_default : goal.returns-in_default
returns-in_default c = goes_plain_in (Moves c.args.self.judging (Some c.args.line.now)) c.args.self c.other_line-in_default.result c.other_line-in_default.ensures
