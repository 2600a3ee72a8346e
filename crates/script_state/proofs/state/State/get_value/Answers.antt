use Rattle.std.proofs.Common.{sym, ◌∙◌}
use Rattle.smt_build.proofs.Growth.{cut_back}
use Rattle.script_state.specs.States.{StateValue}
use Rattle.script_state.proofs.Keeping.{valued_goes_on}
use Rattle.script_state.proofs.Listing.{group_of}
use Rattle.script_state.proofs.Marking.{plain_grows}
use Rattle.script_state.proofs.state.State.get_value.Goals as goal

pub invariant_of-self : goal.invariant_of-self
invariant_of-self c = (rw (cut_back _ _ _ _ _ c.ask.ensures.grows c.len-len.ensures.length c.cut.ensures.terms) c.self.invariant.0, c.cut.ensures.marks)

pub invariant_of-self-in-Sat-1 : goal.invariant_of-self-in-Sat-1
invariant_of-self-in-Sat-1 c =
    let v : StateValue = record { symbols = c.self.inside.symbols; terms = c.self.inside.terms; scopes = c.self.inside.scopes; options = c.self.inside.options; standing = c.self.inside.standing; assumed = c.self.inside.assumed } in
    let some = group_of _ _ c.requires c.word_at.result (c.word_at.ensures _ c.requires.1) (sym c.is_some.ensures ∙ c.if-is_some.false) in
    ((valued_goes_on v c.self.invariant.0 _ some.0 _ _ (c.in-Ok.ensures.asks some.0 some.1)).state, plain_grows _ _ _ _ c.ask.ensures.grows c.self.invariant.1)

pub invariant_of-self-in-Ok : goal.invariant_of-self-in-Ok
invariant_of-self-in-Ok c = (rw (cut_back _ _ _ _ _ c.ask.ensures.grows c.len-len.ensures.length c.cut-in_default.ensures.terms) c.self.invariant.0, c.cut-in_default.ensures.marks)

pub invariant_of-self-in-Err-NoMemory : goal.invariant_of-self-in-Err-NoMemory
invariant_of-self-in-Err-NoMemory c = (rw (cut_back _ _ _ _ _ c.ask.ensures.grows c.len-len.ensures.length c.cut-in-Err-NoMemory.ensures.terms) c.self.invariant.0, c.cut-in-Err-NoMemory.ensures.marks)

pub invariant_of-self-in-Err-Refused : goal.invariant_of-self-in-Err-Refused
invariant_of-self-in-Err-Refused c = (rw (cut_back _ _ _ _ _ c.ask.ensures.grows c.len-len.ensures.length c.cut-in-Err-Refused.ensures.terms) c.self.invariant.0, c.cut-in-Err-Refused.ensures.marks)

pub cut-requires-clause-marks : goal.cut-requires-clause-marks
cut-requires-clause-marks c = plain_grows _ _ _ _ c.ask.ensures.grows c.self.invariant.1

pub cut-requires-in_default-clause-marks : goal.cut-requires-in_default-clause-marks
cut-requires-in_default-clause-marks c = plain_grows _ _ _ _ c.ask.ensures.grows c.self.invariant.1

pub cut-requires-in-Err-NoMemory-clause-marks : goal.cut-requires-in-Err-NoMemory-clause-marks
cut-requires-in-Err-NoMemory-clause-marks c = plain_grows _ _ _ _ c.ask.ensures.grows c.self.invariant.1

pub cut-requires-in-Err-Refused-clause-marks : goal.cut-requires-in-Err-Refused-clause-marks
cut-requires-in-Err-Refused-clause-marks c = plain_grows _ _ _ _ c.ask.ensures.grows c.self.invariant.1
