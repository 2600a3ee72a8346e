use Rattle.std.proofs.Common.{ℕ, List, ap, subst, arith}
use Rattle.std.specs.Prelude.{Contains}
use Rattle.cube_search.proofs.Later.{below_later}
use Rattle.search_client.proofs.runs.goes_and_comes.Goals as goal

pub is_run_over-requires-clause-known : goal.is_run_over-requires-clause-known
is_run_over-requires-clause-known g c = λ p lt. c.is_run.ensures.later.knows p (c.requires.known p (omega (arith, lt, c.requires.within)))

pub is_run_over-requires-clause-below : goal.is_run_over-requires-clause-below
is_run_over-requires-clause-below g c = below_later _ _ _ _ _ _ c.args.given.now c.is_run.ensures.later c.requires.below

pub is_run_over-requires-2-clause-known : goal.is_run_over-requires-2-clause-known
is_run_over-requires-2-clause-known g c = λ p lt. c.in_ok-is_model.ensures.later.knows p (c.is_run.ensures.later.knows p (c.requires.known p lt))

pub is_run_over-requires-2-clause-below : goal.is_run_over-requires-2-clause-below
is_run_over-requires-2-clause-below g c = below_later _ _ _ _ _ _ c.args.given.now c.in_ok-is_model.ensures.later (below_later _ _ _ _ _ _ c.args.given.now c.is_run.ensures.later c.requires.below)

pub is_run_over-requires-clause-opening : goal.is_run_over-requires-clause-opening
is_run_over-requires-clause-opening g c = λ p k.
    let lt = c.requires.opening p (subst (λ (ps : List ℕ). Contains ps p) (ap (λ v. v.items) c.is_run.ensures.opening) k) in
    omega (arith, lt, c.is_run.ensures.from)
