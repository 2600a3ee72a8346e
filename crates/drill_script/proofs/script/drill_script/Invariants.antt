use Rattle.std.proofs.Common.{◌≡◌, ◌++◌}
use Rattle.drill_script.specs.Scripts.{state_after, opening, blocks}
use Rattle.drill_script.proofs.script.drill_script.Given as goal

abbrev pub invariant-words : goal.invariant-words
invariant-words l = record {
  state : l.state ≡ state_after l.seed l.k;
  text : l.out ≡ opening ++ blocks l.seed l.k;
}
