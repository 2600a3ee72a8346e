use Rattle.std.proofs.Common.{refl, sym, ◌∙◌}
use Rattle.smt_build.proofs.Growth.{cut_back}
use Rattle.script_state.specs.States.{StateValue}
use Rattle.script_state.proofs.Assuming.{watching_ok}
use Rattle.script_state.proofs.Keeping.{assumed_goes_on}
use Rattle.script_state.proofs.Listing.{group_of}
use Rattle.script_state.proofs.state.State.check_assuming.Goals as goal

pub assume-requires-clause-state : goal.assume-requires-clause-state
assume-requires-clause-state c =
    let v : StateValue = record { symbols = c.self.inside.symbols; terms = c.self.inside.terms; scopes = c.self.inside.scopes; options = c.self.inside.options; standing = c.self.inside.standing; assumed = c.self.inside.assumed } in
    (v, c.self.invariant.0, record { same_symbols = refl; same_scopes = refl; same_terms = refl })

pub invariant_of-self : goal.invariant_of-self
invariant_of-self c =
    let v : StateValue = record { symbols = c.self.inside.symbols; terms = c.self.inside.terms; scopes = c.self.inside.scopes; options = c.self.inside.options; standing = c.self.inside.standing; assumed = c.self.inside.assumed } in
    let some = group_of _ _ c.requires c.word_at.result (c.word_at.ensures _ c.requires.1) (sym c.is_some.ensures ∙ c.if-is_some.false) in
    ((assumed_goes_on v c.self.invariant.0 _ some.0 _ _ (watching_ok v.scopes.live _ _ (c.in-Ok.ensures.asks some.0 some.1))).state, c.assume.ensures.marks)

pub invariant_of-self-in-Err-NoMemory : goal.invariant_of-self-in-Err-NoMemory
invariant_of-self-in-Err-NoMemory c = (rw (cut_back _ _ _ _ _ c.assume.ensures.grows c.len-len.ensures.length c.cut.ensures.terms) c.self.invariant.0, c.cut.ensures.marks)

pub invariant_of-self-in-Err-Refused : goal.invariant_of-self-in-Err-Refused
invariant_of-self-in-Err-Refused c = (rw (cut_back _ _ _ _ _ c.assume.ensures.grows c.len-len.ensures.length c.cut-in-Err-Refused.ensures.terms) c.self.invariant.0, c.cut-in-Err-Refused.ensures.marks)
