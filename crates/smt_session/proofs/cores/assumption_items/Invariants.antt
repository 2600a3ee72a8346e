use Rattle.std.proofs.Common.{◌≡◌, map, take}
use Rattle.std.specs.Prelude.{filter}
use Rattle.script_state.specs.declared.answer.Asked.{Asked}
use Rattle.script_state.specs.States.{assumptions}
use Rattle.proof_log.specs.Logs.{state_of}
use Rattle.accepted_proof.specs.Cores.{is_blamed_assumption}
use Rattle.smt_session.proofs.cores.assumption_items.Given as goal

abbrev pub invariant-assumed : goal.invariant-assumed
invariant-assumed l = l.items.items ≡ map (λ (a : Asked). a.text) (filter (is_blamed_assumption (state_of l.state.terms.nodes l.log.entries) l.clause) (take l.assumption-index (assumptions l.state)))
