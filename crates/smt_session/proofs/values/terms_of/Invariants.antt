use Rattle.std.proofs.Common.{◌≡◌, map, take}
use Rattle.script_state.specs.declared.answer.Asked.{Asked}
use Rattle.smt_session.proofs.values.terms_of.Given as goal

abbrev pub invariant-loop-one : goal.invariant-loop-one
invariant-loop-one l = l.terms.items ≡ map (λ (a : Asked). a.term) (take l.one-index l.asked)
