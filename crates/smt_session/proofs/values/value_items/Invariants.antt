use Rattle.std.proofs.Common.{◌≡◌, map, take}
use Rattle.accepted_proof.specs.Answers.{asked_text}
use Rattle.smt_values.specs.Held.{interpretation_of}
use Rattle.smt_session.proofs.values.value_items.Given as goal

abbrev pub invariant-loop-at : goal.invariant-loop-at
invariant-loop-at l = l.items.items ≡ map (asked_text l.terms.nodes (interpretation_of l.values)) (take l.at l.asked)
