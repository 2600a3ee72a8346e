use Rattle.std.proofs.Common.{◌≡◌, ◌≤◌, ◌∙◌, subst}
use Rattle.std.specs.Prelude.{◌⊎◌, MatchOption}
use Rattle.proof_log.specs.declared.diary.Diary.{Diary}
use Rattle.cube_workers.proofs.Adding.{lowest_same, lowest_more}
use Rattle.cube_workers.proofs.sum.Sum.spend.Goals as goal

pub returns-in-Some-clause-lowest : goal.returns-in-Some-clause-lowest
returns-in-Some-clause-lowest c = λ xs x is h.
    let low = c.lower-low.result in
    let d = c.in-Some.diary in
    lowest_more c.args.self.now.spent xs x d low (is ∙ c.in-Some.is)
    (subst (λ o. MatchOption o (low ≡ d) (λ (e : Diary). ((low ≡ e) × (e.cube ≤ d.cube)) ⊎ ((low ≡ d) × (d.cube ≤ e.cube)))) c.take.ensures.value c.lower-low.ensures) h

pub returns-in_default-clause-lowest : goal.returns-in_default-clause-lowest
returns-in_default-clause-lowest c = λ xs x is h. lowest_same c.args.self.now.spent xs x (is ∙ c.in_default.is) h
