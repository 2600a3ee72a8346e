use Rattle.std.proofs.Common.{[], List, map, None, Option, Some, subst, sym}
use Rattle.std.specs.List.{flat_map}
use Rattle.script_state.specs.States.{no_state, IsState}
use Rattle.accepted_proof.specs.Turns.{Turn, part_lines}
use Rattle.accepted_proof.specs.Accepted.{EndLast}
use Rattle.accepted_proof.specs.Judged.{judging_from, Judged}
use Rattle.accepted_proof.proofs.Parting.{parts_judged}
use Rattle.accepted_proof.proofs.Reaching.{reached_first}
use Rattle.accepted_proof.proofs.Good.{states_keep}
use Rattle.accepted_proof.proofs.judging.accepted_proofs_are_judged.Goals as goal

pub returns : goal.returns
returns c = λ limits script proof turns h.
    subst (λ (ts : List Turn). Judged (judging_from h.format limits) (map (λ (t : Turn). t.says) ts) (map (λ l. Some l) (flat_map part_lines h.parts)) None) h.turns_are
    (parts_judged h.format limits IsState states_keep h.parts no_state [] [] 2 reached_first.state (subst EndLast (sym h.turns_are) h.last) h.run)
