use Rattle.std.proofs.Common.{subst, sym, ap, ◌∙◌}
use Rattle.smt_syntax.specs.Sexps.{signs_of}
use Rattle.smt_syntax.specs.Spans.{Stands}
use Rattle.smt_syntax.proofs.CommandReadings.{signs_same}
use Rattle.script_state.proofs.word.word_at.Goals as goal

pub returns : goal.returns
returns c = λ e s. c.word_at.ensures e (subst (λ ls. Stands ls c.args.span e) (sym (sym (signs_same c.as_slice.result.now) ∙ ap signs_of c.as_slice.ensures)) s)
