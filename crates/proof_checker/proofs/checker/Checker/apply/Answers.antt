use Rattle.std.proofs.Common.{◌≡◌, subst}
use Rattle.check_cubes.specs.Searches.{limits_of}
use Rattle.proof_checker.specs.Checkers.{CheckerValue, judged_so, owed_of}
use Rattle.accepted_proof.specs.Judged.{commanded}
use Rattle.proof_checker.proofs.Moving.{held, still_held, commanded_to, ended_by}
use Rattle.proof_checker.proofs.checker.Checker.apply.Goals as goal

pub invariant_of-checker-2 : goal.invariant_of-checker-2
invariant_of-checker-2 c =
    let told = rw c.deref_mut.ensures.value at c.in-Ok.ensures.does in
    let before = c.checker.inside in
    let new = c.obey.new.state in (
      still_held before.state.value new before.log.value told.0 (rw c.deref_mut.ensures.value at c.obey.ensures.state) c.checker.invariant.0 told.3,
      c.due_by.ensures.open new.symbols.live before.values.items,
      c.due_by.ensures.noted (limits_of before.limits) new before.log.value.entries before.deleted,
      c.checker.invariant.3,
      c.due_by.ensures.kept new.symbols.signatures before.values.items,
      c.checker.invariant.5,
      c.checker.invariant.6,
    )

pub returns : goal.returns
returns c =
    let told = rw c.deref_mut.ensures.value at c.in-Ok.ensures.does in
    let before = c.checker.inside in
    let new = c.obey.new.state in
    let answer = c.in-Ok.answer in (
      told.0,
      told.1,
      subst (λ (x : CheckerValue). held before.format (limits_of before.limits) new before.log.value.entries before.deleted (owed_of c.due_by.result new.symbols.live before.values.items) before.line before.verdicts.items ≡ judged_so x (commanded x.judging told.0)) c.checker.view_is
          (commanded_to before.format (limits_of before.limits) before.state.value new before.log.value.entries before.deleted (owed_of before.due before.state.value.symbols.live before.values.items) (owed_of c.due_by.result new.symbols.live before.values.items) before.line before.verdicts.items
          answer told.0 told.2 told.3 (c.due_by.ensures.owed new.symbols.live before.values.items)),
      ended_by c.is_exit-ended.result answer before.state.value told.0 c.is_exit-ended.ensures told.2,
    )
