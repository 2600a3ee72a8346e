use Rattle.script_state.specs.States.{StateValue}
use Rattle.script_state.proofs.Asserting.{fallen_state}
use Rattle.script_state.proofs.Roots.{all_held}
use Rattle.script_state.proofs.state.State.check.Goals as goal

pub watches_fit-requires-clause-held : goal.watches_fit-requires-clause-held
watches_fit-requires-clause-held c =
    let v : StateValue = record { symbols = c.self.inside.symbols; terms = c.self.inside.terms; scopes = c.self.inside.scopes; options = c.self.inside.options; standing = c.self.inside.standing; assumed = c.self.inside.assumed } in
    rw c.live.ensures.live (all_held _ (fallen_state v c.self.invariant.0))

pub invariant_of-self : goal.invariant_of-self
invariant_of-self c = (rw c.watches_fit.ensures.kept c.self.invariant.0, c.watches_fit.ensures.marks)

pub invariant_of-self-2 : goal.invariant_of-self-2
invariant_of-self-2 c =
    let v : StateValue = record { symbols = c.self.inside.symbols; terms = c.self.inside.terms; scopes = c.self.inside.scopes; options = c.self.inside.options; standing = c.self.inside.standing; assumed = c.self.inside.assumed } in
    (rw c.watches_fit.ensures.kept (fallen_state v c.self.invariant.0), c.watches_fit.ensures.marks)
