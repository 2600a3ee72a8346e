use Rattle.std.proofs.Common.{◌≡◌, map, take}
use Rattle.std.specs.Prelude.{filter, option_to_list}
use Rattle.std.specs.List.{flat_map}
use Rattle.smt_text.specs.Printing.{symbol_text}
use Rattle.scope_selectors.specs.declared.live.Live.{Live}
use Rattle.proof_log.specs.Logs.{state_of}
use Rattle.accepted_proof.specs.Cores.{is_blamed}
use Rattle.smt_session.proofs.cores.core_items.Given as goal

abbrev pub invariant-live : goal.invariant-live
invariant-live l = l.items.items ≡ map symbol_text (flat_map (λ (a : Live). option_to_list a.name) (filter (is_blamed (state_of l.state.terms.nodes l.log.entries) l.clause) (take l.assertion-index l.state.scopes.live)))
