use Rattle.std.proofs.Common.{ℕ, List, ap, subst, ⊎_elim, arith}
use Rattle.std.specs.Prelude.{Contains}
use Rattle.cube_search.proofs.Resting.{search_rests}
use Rattle.search_client.proofs.runs.is_run_over.Goals as goal

pub go_over-requires-clause-resting : goal.go_over-requires-clause-resting
go_over-requires-clause-resting g c = search_rests c.args.search.now (g.B.Board.nodes c.args.board.now) (g.B.Board.log c.args.board.now) c.requires.search

pub go_over-requires-clause-stored : goal.go_over-requires-clause-stored
go_over-requires-clause-stored g c = λ id d e plain.
    ⊎_elim
    (λ lt. omega (arith, lt, c.requires.own))
    (λ k. let lt = c.requires.opening id.pos k in omega (arith, lt, c.requires.own))
    (c.requires.search.1.placed.below id d e plain)

pub returns-clause-opening : goal.returns-clause-opening
returns-clause-opening g c = λ p k.
    let lt = c.in_ok-go_over.ensures.opening p (subst (λ (ps : List ℕ). Contains ps p) (ap (λ v. v.items) c.is_run.ensures.opening) k) in
    omega (arith, lt, c.is_run.ensures.from)
