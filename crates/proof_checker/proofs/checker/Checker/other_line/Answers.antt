use Rattle.std.proofs.Common.{sym, subst}
use Rattle.proof_checker.specs.declared.due.Due.{Due}
use Rattle.proof_checker.specs.Checkers.{CheckerValue, IsOwedValues, IsOwedLines, owed_of}
use Rattle.proof_checker.proofs.Moving.{are_owed}
use Rattle.proof_checker.proofs.checker.Checker.other_line.Goals as goal

pub at_value-requires-clause-values : goal.at_value-requires-clause-values
at_value-requires-clause-values c =
    let before = c.self.inside in
    subst (λ (x : CheckerValue). IsOwedValues x.judging.owed) c.self.view_is (are_owed before.due before.state.value.symbols.live before.values.items c.in-Values.is c.self.invariant.1)

pub at_diary-requires-clause-lines : goal.at_diary-requires-clause-lines
at_diary-requires-clause-lines c =
    let before = c.self.inside in
    subst (λ (x : CheckerValue). IsOwedLines x.judging.owed) c.self.view_is
    (subst (λ (d : Due). IsOwedLines (owed_of d before.state.value.symbols.live before.values.items)) (sym c.in-Noted.is) tt)
