-- The first lines of a proof, where none is bad, are those of parts of the first commands.
use Rattle.std.proofs.Common.{◌≡◌, ℕ, List, [], map, Option, Some, None, refl, sym, subst, append-nil}
use Rattle.std.specs.List.{flat_map}
use Rattle.smt_text.specs.declared.chunk.Chunk.{Chunk}
use Rattle.script_state.specs.States.{no_state, IsState}
use Rattle.script_state.specs.Readings.{Reading}
use Rattle.proof_text.specs.declared.line.Format.{Format}
use Rattle.proof_text.specs.declared.line.Line.{Line}
use Rattle.accepted_proof.specs.Searching.{Limits, AreLimits}
use Rattle.accepted_proof.specs.Turns.{Part, part_lines, turn_of}
use Rattle.accepted_proof.specs.Answers.{written_of}
use Rattle.accepted_proof.specs.Accepted.{IsFront, AcceptedSoFar}
use Rattle.accepted_proof.specs.Judged.{judging_from, Judged, AreReadable, ReadEach}
use Rattle.accepted_proof.proofs.Completing.{judged_parts}
use Rattle.accepted_proof.proofs.Remaining.{readable_parts, readable_lines}
use Rattle.accepted_proof.proofs.Fronts.{front_fewer}
use Rattle.accepted_proof.proofs.Reaching.{reached_first}
use Rattle.accepted_proof.proofs.Good.{states_keep}

pub judged_begins : (format : Format) (limits : Limits) (script : List ℕ) (chunks : List Chunk) (says : List Reading) (lines : List (Option Line)) → AreLimits limits → IsFront script chunks → ReadEach chunks says → AreReadable lines → Judged (judging_from format limits) says lines None
    → (parts : List Part) × (lines ≡ map (λ l. Some l) (flat_map part_lines parts)) × AcceptedSoFar limits script (written_of format limits parts) (map turn_of parts)
judged_begins format limits script chunks says lines allowed front read readable h =
    let t = judged_parts IsState states_keep format limits chunks says lines no_state [] [] 2 reached_first.state read h in (
      t.parts,
      t.lines,
      record {
        allowed = allowed;
        chunks = t.first;
        rest = [];
        front = front_fewer script t.first t.behind (subst (IsFront script) t.cut front);
        read = t.read;
        last = t.last;
        format = format;
        parts = t.parts;
        turns_are = refl;
        run = readable_parts format limits t.parts no_state [] [] t.run (readable_lines (flat_map part_lines t.parts) lines t.lines readable);
        lines = sym (append-nil (written_of format limits t.parts));
      },
    )
