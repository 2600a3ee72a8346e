use Rattle.std.proofs.Common.{◌+◌, ◌<◌, length, drop, sym, subst}
use Rattle.accepted_proof.specs.Judged.{Goes}
use Rattle.proof_checker.specs.declared.due.Due.TheVariants.{Values}
use Rattle.check_cubes.specs.Searches.{limits_of}
use Rattle.proof_checker.specs.Checkers.{CheckerValue, GoesTo, owed_of}
use Rattle.proof_checker.proofs.Moving.{owed_values}
use Rattle.proof_checker.proofs.checker.Checker.owe_values.Goals as goal

pub returns : goal.returns
returns c =
    let before = c.checker.inside in
    let values = c.args.values.items in
    let less : length values < length before.state.value.symbols.live =
    subst (λ (x : CheckerValue). length c.args.values.items < length x.judging.state.symbols.live) (sym c.checker.view_is) c.requires.left in
    subst (λ (x : CheckerValue). GoesTo (Goes x.judging (drop (length c.args.values.items) x.judging.state.symbols.live) c.args.values.items) x (record { judging = record { format = c.checker.inside.format; limits = limits_of c.checker.inside.limits; state = c.checker.inside.state.value; log = c.checker.inside.log.value.entries; deleted = c.checker.inside.deleted; owed = owed_of Values c.checker.inside.state.value.symbols.live c.args.values.items; line = c.checker.inside.line + 1 }; verdicts = c.checker.inside.verdicts.items })) c.checker.view_is
    (owed_values before.format (limits_of before.limits) before.state.value before.log.value.entries before.deleted (owed_of before.due before.state.value.symbols.live before.values.items) before.line before.verdicts.items values less)
