use Rattle.std.proofs.Common.{◌≡◌, refl, sym, subst, ◌∙◌}
use Rattle.script_state.specs.declared.answer.Answer.TheVariants.{Refused}
use Rattle.script_state.specs.Steps.{Step, asserting}
use Rattle.smt_build.specs.Asserting.{assertion}
use Rattle.smt_build.specs.Naming.{name_of_assertion}
use Rattle.script_state.specs.States.{StateValue}
use Rattle.smt_build.proofs.Growth.{cut_back}
use Rattle.script_state.proofs.Marking.{plain_grows}
use Rattle.script_state.proofs.Naming.{assertion_is, names_back, asserting_refused}
use Rattle.script_state.proofs.Keeping.{asserted_goes_on}
use Rattle.script_state.proofs.state.State.assert.Goals as goal

pub objection-requires : goal.objection-requires
objection-requires c = (assertion_is _ _ _ _ _ _ c.self.invariant.0.terms c.self.invariant.0.bodies c.self.invariant.0.closed.bodies (c.in-Ok.ensures.asserts c.requires.stands.0 c.requires.stands.1)).held

pub invariant_of-self-in-Ok-assert : goal.invariant_of-self-in-Ok-assert
invariant_of-self-in-Ok-assert c =
    let v : StateValue = record { symbols = c.self.inside.symbols; terms = c.self.inside.terms; scopes = c.self.inside.scopes; options = c.self.inside.options; standing = c.self.inside.standing; assumed = c.self.inside.assumed } in
    let goes = asserted_goes_on v c.self.invariant.0 c.in_ok-name.name _ _ _ _ (c.in-Ok.ensures.asserts c.requires.stands.0 c.requires.stands.1) (sym c.objection.ensures ∙ c.in-None.is) in
    (rw c.in-Ok-assert.ensures.ok goes.state, plain_grows _ _ _ _ c.in-Ok.ensures.grows c.self.invariant.1)

pub invariant_of-self-in-Some : goal.invariant_of-self-in-Some
invariant_of-self-in-Some c =
    let back = cut_back _ _ _ _ _ c.in-Ok.ensures.grows c.len-len.ensures.length c.cut.ensures.terms in
    let names = names_back _ _ _ _ _ _ _ _ (c.in-Ok.ensures.asserts c.requires.stands.0 c.requires.stands.1) c.definition_count-count.ensures c.cut_definitions.ensures in
    (rw (names, back) c.self.invariant.0, c.cut.ensures.marks)

pub invariant_of-self-in-Err : goal.invariant_of-self-in-Err
invariant_of-self-in-Err c =
    let back = cut_back _ _ _ _ _ c.in-Ok.ensures.grows c.len-len.ensures.length c.cut-in-Err.ensures.terms in
    let names = names_back _ _ _ _ _ _ _ _ (c.in-Ok.ensures.asserts c.requires.stands.0 c.requires.stands.1) c.definition_count-count.ensures c.cut_definitions-in-Err.ensures in
    (rw (names, back, c.in-Err.ensures.err) c.self.invariant.0, c.cut-in-Err.ensures.marks)

pub returns-in-Some : goal.returns-in-Some
returns-in-Some c = λ e stands.
    let v : StateValue = record { symbols = c.self.inside.symbols; terms = c.self.inside.terms; scopes = c.self.inside.scopes; options = c.self.inside.options; standing = c.self.inside.standing; assumed = c.self.inside.assumed } in
    let new : StateValue = record { symbols = c.cut_definitions.new.self; terms = c.cut.new.terms; scopes = c.self.inside.scopes; options = c.self.inside.options; standing = c.self.inside.standing; assumed = c.self.inside.assumed } in
    let back = cut_back _ _ _ _ _ c.in-Ok.ensures.grows c.len-len.ensures.length c.cut.ensures.terms in
    let names = names_back _ _ _ _ _ _ _ _ (c.in-Ok.ensures.asserts e stands) c.definition_count-count.ensures c.cut_definitions.ensures in
    subst (λ (s : StateValue). ◌≡◌ {A = Step} (asserting s (name_of_assertion e) (assertion s.symbols s.terms e)) (Refused c.in-Some.error, new)) c.self.view_is
    (asserting_refused v new (name_of_assertion e) e _ _ _ _ (c.in-Ok.ensures.asserts e stands) (sym c.objection.ensures ∙ c.in-Some.is) (rw (names, back) refl))

pub returns-in-Err : goal.returns-in-Err
returns-in-Err c = λ e stands.
    let back = cut_back _ _ _ _ _ c.in-Ok.ensures.grows c.len-len.ensures.length c.cut-in-Err.ensures.terms in
    let names = names_back _ _ _ _ _ _ _ _ (c.in-Ok.ensures.asserts e stands) c.definition_count-count.ensures c.cut_definitions-in-Err.ensures in
    rw (names, back, c.in-Err.ensures.err) c.self.view_is

pub cut-requires-clause-marks : goal.cut-requires-clause-marks
cut-requires-clause-marks c = plain_grows _ _ _ _ c.in-Ok.ensures.grows c.self.invariant.1

pub cut-requires-in-Err-clause-marks : goal.cut-requires-in-Err-clause-marks
cut-requires-in-Err-clause-marks c = plain_grows _ _ _ _ c.in-Ok.ensures.grows c.self.invariant.1
