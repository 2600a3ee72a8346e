use Rattle.std.proofs.Common.{ap, sym, ◌∙◌}
use Rattle.smt_syntax.specs.Sexps.{signs_of}
use Rattle.smt_syntax.proofs.CommandReadings.{signs_same}
use Rattle.script_state.specs.Readings.{is_list}
use Rattle.script_state.proofs.whole.is_list.Goals as goal

pub returns : goal.returns
returns c = c.is_list_of.ensures ∙ ap is_list (sym (signs_same c.as_slice.result.now) ∙ ap signs_of c.as_slice.ensures)
