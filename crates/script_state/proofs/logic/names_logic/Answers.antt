use Rattle.std.proofs.Common.{sym, subst, ◌∙◌}
use Rattle.smt_syntax.specs.Sexps.{signs_of}
use Rattle.smt_syntax.specs.Spans.{Stands}
use Rattle.script_state.proofs.Words.{first_is_symbol, first_is_other}
use Rattle.script_state.proofs.logic.names_logic.Goals as goal

pub returns-in-Symbol : goal.returns-in-Symbol
returns-in-Symbol c = λ e s. c.is_logic.ensures ∙ first_is_symbol c.as_slice-items.result.now c.args.span _ e (subst (λ ls. Stands (signs_of ls) c.args.span e) (sym c.as_slice-items.ensures) s) c.in-Symbol.is

pub returns-in_default : goal.returns-in_default
returns-in_default c = λ e s. first_is_other c.as_slice-items.result.now c.args.span _ e (subst (λ ls. Stands (signs_of ls) c.args.span e) (sym c.as_slice-items.ensures) s) c.in_default.not-Symbol
