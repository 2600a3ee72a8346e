-- Where nothing is asserted and nothing assumed, every interpretation is a model.
use Rattle.std.proofs.Common.{◌≡◌, length, arith}
use Rattle.smt_terms.specs.Values.{Interpretation}
use Rattle.script_state.specs.States.{StateValue, assumptions}
use Rattle.accepted_proof.specs.Models.{IsModel}

pub nothing_asked : (s : StateValue) (M : Interpretation) → length s.scopes.live ≡ 0 → length (assumptions s) ≡ 0 → IsModel s M
nothing_asked s M none free = record { asserted = λ k d lt. absurd (omega (arith, lt, none)); assumed = λ k d lt. absurd (omega (arith, lt, free)) }
