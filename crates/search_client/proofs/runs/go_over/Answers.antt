use Rattle.std.proofs.Common.{ℕ, List, ◌∙◌, subst, arith}
use Rattle.std.specs.Prelude.{Contains}
use Rattle.search_client.proofs.runs.go_over.Goals as goal

pub retarget-requires-clause-known : goal.retarget-requires-clause-known
retarget-requires-clause-known g c = λ p k. c.requires.known p (c.in_ok-positions.ensures.below p (subst (λ (ps : List ℕ). Contains ps p) c.as_slice.ensures.value k))

pub retarget-requires-clause-plain : goal.retarget-requires-clause-plain
retarget-requires-clause-plain g c = λ p k. c.in_ok-positions.ensures.plain p (subst (λ (ps : List ℕ). Contains ps p) c.as_slice.ensures.value k)

pub retarget-requires-clause-below : goal.retarget-requires-clause-below
retarget-requires-clause-below g c = λ p k.
    let lt = c.in_ok-positions.ensures.below p (subst (λ (ps : List ℕ). Contains ps p) c.as_slice.ensures.value k) in
    omega (arith, lt, c.requires.within)

pub returns-clause-opening : goal.returns-clause-opening
returns-clause-opening g c = λ p k.
    let lt = c.in_ok-positions.ensures.below p (subst (λ (ps : List ℕ). Contains ps p) (c.in_ok-retarget.ensures.opening ∙ c.as_slice.ensures.value) k) in
    omega (arith, lt, c.requires.within, c.in_ok-retarget.ensures.from)
