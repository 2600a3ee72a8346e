use Rattle.std.proofs.Common.{sym, ◌∙◌}
use Rattle.script_state.proofs.Watching.{marked_fit}
use Rattle.script_state.proofs.watches.roots_fit.Goals as goal

pub returns-then-are_marked-clause-fit : goal.returns-then-are_marked-clause-fit
returns-then-are_marked-clause-fit c =
    let all = rw c.deref.ensures.value at (sym c.are_marked.ensures ∙ c.if-are_marked.true) in
    sym (marked_fit c.args.terms.now c.args.roots.now c.len-count.ensures.terms c.requires.held _ c.in_ok-extend.ensures.marks c.in_ok-extend.ensures.all all)
