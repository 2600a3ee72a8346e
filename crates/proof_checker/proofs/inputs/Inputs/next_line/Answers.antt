use Rattle.std.proofs.Common.{◌≡◌, ◌≢◌, ℕ, List, ◌++◌, [], ap, ◌∙◌, subst}
use Rattle.proof_checker.specs.Checked.{AreLines}
use Rattle.proof_checker.proofs.Splits.{line_answered, lines_next, less_next, lines_unended, some_less, read_answered}
use Rattle.proof_checker.proofs.inputs.Inputs.next_line.Goals as goal
use Rattle.smt_text.specs.Framing.{Held}

pub returns-in-Some-clause-line : goal.returns-in-Some-clause-line
returns-in-Some-clause-line c =
    let e = rw c.in-Some.is at c.in_ok-line.ensures.ok in
    (read_answered _ _ _ e.2, record { lines = λ more ls _ k. lines_next _ _ e.0 _ e.1 (line_answered _ _ e.0 e.2) more ls k; less = less_next _ _ e.0 e.1 })

pub returns-in-Some-finish-clause-line : goal.returns-in-Some-finish-clause-line
returns-in-Some-finish-clause-line c =
    let free = rw c.in_default.is at c.in_ok-line.ensures.ok in
    let same : c.next.new.self.bytes ≡ c.args.self.now.reader.bytes = ap (λ (x : Held). x.bytes) free.1 in
    let some : c.args.self.now.reader.bytes ≢ [] = λ e. c.in-Some-finish.ensures.1 (same ∙ e) in
    let empty : c.new.result.bytes ≡ [] = ap (λ (x : Held). x.bytes) c.new.ensures in (
      tt,
      record {
        lines = λ more ls m k. lines_unended c.args.self.now.reader.bytes more ls some free.0 (m c.if-not-self.false) (subst (λ (x : List ℕ). AreLines (x ++ more) ls) empty k);
        less = some_less _ _ empty some;
      },
    )
