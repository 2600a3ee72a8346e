-- A diary over the log that is spent is spent over the file.
use Rattle.std.proofs.Common.{ℕ, suc, List, ◌++◌, length, Some}
use Rattle.smt_terms.specs.declared.node.Node.{Node}
use Rattle.script_state.specs.States.{StateValue}
use Rattle.proof_log.specs.declared.entry.Entry.{Entry}
use Rattle.proof_log.specs.declared.diary.Diary.{Diary}
use Rattle.proof_text.specs.declared.record.Record.TheVariants.{Unknown}
use Rattle.accepted_proof.specs.Searching.{Limits, IsUnknown, IsUnknownWithout}
use Rattle.proof_file.specs.Places.{FileValue}
use Rattle.proof_file.specs.Equalities.{HasTakenFirst}
use Rattle.proof_file.specs.Trimmed.{placed_diary}
use Rattle.trimmed_proofs.proofs.Filed.{IsFiledCheck}
use Rattle.trimmed_proofs.proofs.DiariesFiled.{diary_placed}

pub diary_stays : (limits : Limits) (s : StateValue) (nodes : List Node) (log steps file : List Entry) (deleted : List ℕ) (base new : FileValue) (start : ℕ) (needed : List ℕ) (d : Diary)
    → IsFiledCheck nodes log steps file deleted base new start needed (Unknown d) → HasTakenFirst (suc (length log)) (log ++ steps) (Some (Unknown d)) → IsUnknown limits s nodes (log ++ steps) d
    → IsUnknownWithout deleted limits s nodes file (placed_diary (log ++ steps) new.places start needed d)
diary_stays limits s nodes log steps file deleted base new start needed d h first u = diary_placed limits s nodes log steps file deleted base new start needed d h u first
