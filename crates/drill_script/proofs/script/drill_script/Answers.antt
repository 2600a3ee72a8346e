use Rattle.std.proofs.Common.{sym, ap, ◌∙◌}
use Rattle.drill_script.specs.Scripts.{next_state}
use Rattle.drill_script.proofs.Steps.{state_more, block_more}
use Rattle.drill_script.proofs.script.drill_script.Goals as goal

pub words-preserved : goal.words-preserved
words-preserved c =
    let i = c.words.invariant in
    record {
      state = c.next_state-state.ensures ∙ ap next_state i.state ∙ sym (state_more c.args.seed c.words.k);
      text = block_more c.words.out c.push_block.new.out c.args.seed c.words.state c.words.k i.state i.text (rw (c.drawn.ensures, c.next_state-state.ensures) at c.in_ok-push_block.ensures);
    }
