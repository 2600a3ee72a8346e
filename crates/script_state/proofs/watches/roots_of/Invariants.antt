use Rattle.std.proofs.Common.{◌≡◌, ◌++◌, map, take}
use Rattle.scope_selectors.specs.declared.live.Live.{Live}
use Rattle.script_state.specs.declared.answer.Asked.{Asked}
use Rattle.script_state.proofs.watches.roots_of.Given as goal

abbrev pub invariant-assertions : goal.invariant-assertions
invariant-assertions l = l.found.items ≡ map (λ (a : Live). a.term) (take l.assertion-index l.live)

abbrev pub invariant-assumptions : goal.invariant-assumptions
invariant-assumptions l = l.found.items ≡ map (λ (a : Live). a.term) l.live ++ map (λ (a : Asked). a.term) (take l.assumption-index l.assumed)
