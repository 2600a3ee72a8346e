use Rattle.std.proofs.Common.{refl, [], map}
use Rattle.std.specs.List.{flat_map}
use Rattle.script_state.specs.States.{no_state, IsState}
use Rattle.accepted_proof.specs.Turns.{part_lines, turn_of}
use Rattle.accepted_proof.proofs.Completing.{judged_parts}
use Rattle.accepted_proof.proofs.Remaining.{readable_parts, readable_lines}
use Rattle.accepted_proof.proofs.Reading.{all_of_turns}
use Rattle.accepted_proof.proofs.Reaching.{reached_first}
use Rattle.accepted_proof.proofs.Good.{states_keep}
use Rattle.accepted_proof.proofs.judging.judged_proofs_are_accepted.Goals as goal

pub returns : goal.returns
returns c = λ format limits script chunks says lines allowed all read readable h.
    let t = judged_parts IsState states_keep format limits chunks says lines no_state [] [] 2 reached_first.state read h in (
      t.parts,
      t.lines,
      record {
        allowed = allowed;
        chunks = t.first;
        cut = all_of_turns script chunks t.first t.behind says (map turn_of t.parts) t.cut all read t.read t.all;
        read = t.read;
        last = t.last;
        format = format;
        parts = t.parts;
        turns_are = refl;
        run = readable_parts format limits t.parts no_state [] [] t.run (readable_lines (flat_map part_lines t.parts) lines t.lines readable);
        lines = refl;
      },
    )
