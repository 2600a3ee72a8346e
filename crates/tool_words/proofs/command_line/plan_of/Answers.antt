use Rattle.std.proofs.Common.{refl}
use Rattle.tool_words.proofs.WordsTaken.{found_rows, names_in, no_names}
use Rattle.tool_words.proofs.command_line.plan_of.Goals as goal

pub returns-in_err-proof-clause-none : goal.returns-in_err-proof-clause-none
returns-in_err-proof-clause-none c = λ _ command proof out script options draw.
    no_names c.args.found.now c.in_ok-name.inner.now c.in_ok-name.name.now _ proof out script options draw
    (found_rows c.args.found.now c.in_ok-name.inner.now c.in_ok-name.name.now c.in_ok-name.ensures.name c.in_ok-name.ensures.rows)
    c.in_err-proof.ensures

pub options_of-requires : goal.options_of-requires
options_of-requires c = c.requires _ _ (found_rows c.args.found.now c.in_ok-name.inner.now c.in_ok-name.name.now c.in_ok-name.ensures.name c.in_ok-name.ensures.rows)

pub returns-clause-some : goal.returns-clause-some
returns-clause-some c =
    names_in c.args.found.now c.in_ok-name.inner.now c.in_ok-name.name.now c.in_ok-proof.proof c.unwrap_or.result c.in_ok-command.command c.get_str-2.result c.get_str-3.result _ _
    (found_rows c.args.found.now c.in_ok-name.inner.now c.in_ok-name.name.now c.in_ok-name.ensures.name c.in_ok-name.ensures.rows)
    ((c.in_ok-command.ensures c.in_ok-command.command).0 refl) c.in_ok-proof.ensures c.get_str-2.ensures c.unwrap_or.ensures c.get_str-3.ensures c.options_of.ensures c.draw_of.ensures

pub draw_of-requires : goal.draw_of-requires
draw_of-requires c = c.requires _ _ (found_rows c.args.found.now c.in_ok-name.inner.now c.in_ok-name.name.now c.in_ok-name.ensures.name c.in_ok-name.ensures.rows)
