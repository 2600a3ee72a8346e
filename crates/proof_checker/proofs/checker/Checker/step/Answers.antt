use Rattle.std.proofs.lemmas.Bool.{MatchBool-at_true}
use Rattle.proof_checker.proofs.Forgetting.{forgotten_more}
use Rattle.proof_checker.proofs.Starting.{start_taken}
use Rattle.proof_checker.proofs.checker.Checker.step.Goals as goal

pub take_step-requires-clause-held : goal.take_step-requires-clause-held
take_step-requires-clause-held c = rw (c.deref_mut.ensures.value, c.deref_mut-2.ensures.value) c.checker.invariant.0

pub invariant_of-checker-then-taken : goal.invariant_of-checker-then-taken
invariant_of-checker-then-taken c =
    let before = c.checker.inside in
    let told = MatchBool-at_true _ _ c.if-taken.true (rw (c.deref_mut.ensures.value, c.deref_mut-2.ensures.value) at c.in-Ok.ensures.ok) in (
      told.2.held,
      tt,
      tt,
      c.checker.invariant.3,
      tt,
      start_taken before.state.value c.take_step.new.state before.log.value c.take_step.new.log told.0 before.deleted before.start c.checker.invariant.0 told.2 c.checker.invariant.5,
      forgotten_more before.deleted before.log.value.entries c.take_step.new.log.entries told.0 told.2.entries c.checker.invariant.6,
    )
