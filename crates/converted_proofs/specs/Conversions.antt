-- What a conversion does to accepted proofs.
use Rattle.std.specs.Prelude.{ℕ, List}
use Rattle.accepted_proof.specs.Searching.{Limits}
use Rattle.accepted_proof.specs.Turns.{Turn}
use Rattle.accepted_proof.specs.Accepted.{Accepted}
use Rattle.proof_conversion.specs.declared.fault.Fault.{Fault}
use Rattle.proof_conversion.specs.Conversions.{HasHeader, IsConverted, IsUnconverted}

-- what an accepted proof is converted to is accepted, with the same turns and within the same limits
abbrev pub ConvertedLaw : Type 0
ConvertedLaw = (limits : Limits) (script proof out : List ℕ) (records : ℕ) (turns : List Turn) → Accepted limits script proof turns → IsConverted proof out records → Accepted limits script out turns

-- no accepted proof of the first format is refused
abbrev pub NeverRefusedLaw : Type 0
NeverRefusedLaw = (limits : Limits) (script proof rest : List ℕ) (turns : List Turn) (fault : Fault) → Accepted limits script proof turns → HasHeader proof rest → IsUnconverted proof fault → ⊥
