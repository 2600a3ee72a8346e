use Rattle.script_state.proofs.Assuming.{assumed_held}
use Rattle.script_state.proofs.Marking.{plain_grows}
use Rattle.script_state.proofs.asked.assume.Goals as goal

pub watches_fit-requires-clause-held : goal.watches_fit-requires-clause-held
watches_fit-requires-clause-held c =
    rw (c.live.ensures.live, c.as_slice.ensures)
    (assumed_held c.requires.state.0 c.requires.state.1 _ _ _ _ c.requires.state.2 _ _ _ (c.in-Ok.ensures.asks c.requires.stand.0 c.requires.stand.1))

pub watches_fit-requires-clause-marks : goal.watches_fit-requires-clause-marks
watches_fit-requires-clause-marks c = plain_grows _ _ _ _ c.ask.ensures.grows c.requires.marks

pub returns-in-Err-clause-marks : goal.returns-in-Err-clause-marks
returns-in-Err-clause-marks c = plain_grows _ _ _ _ c.ask.ensures.grows c.requires.marks
