use Rattle.script_state.specs.States.{StateValue}
use Rattle.script_state.proofs.Keeping.{defined_goes_on}
use Rattle.script_state.proofs.Marking.{plain_grows}
use Rattle.script_state.proofs.state.State.define.Goals as goal

pub invariant_of-self : goal.invariant_of-self
invariant_of-self c =
    let v : StateValue = record { symbols = c.self.inside.symbols; terms = c.self.inside.terms; scopes = c.self.inside.scopes; options = c.self.inside.options; standing = c.self.inside.standing; assumed = c.self.inside.assumed } in
    ((defined_goes_on v c.self.invariant.0 _ _ _ _ (c.in-Ok.ensures.defines c.requires.0 c.requires.1)).state, plain_grows _ _ _ _ c.define.ensures.grows c.self.invariant.1)
