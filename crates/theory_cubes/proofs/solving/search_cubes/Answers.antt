use Rattle.std.proofs.Common.{◌≡◌, ◌+◌, ◌^◌, length, refl, ◌∙◌, ap, subst, arith}
use Rattle.std.specs.Prelude.{MatchOption}
use Rattle.smt_values.specs.Held.{interpretation_of}
use Rattle.proof_log.proofs.Adding.{adds_same, adds_then}
use Rattle.theory_cubes.specs.Searched.{HasModel, AreTried, problem}
use Rattle.theory_cubes.proofs.Cubes.{tried_later}
use Rattle.theory_cubes.proofs.solving.search_cubes.Goals as goal

pub cubes-init : goal.cubes-init
cubes-init c = record {
  nodes = refl;
  adds = adds_same c.args.board.now.log.entries;
  searching = c.requires.searching;
  tried = c.requires.tried (problem c.args.board.now.terms.nodes c.args.from c.args.check.now) c.args.board.now.log.entries;
}

pub cubes-preserved : goal.cubes-preserved
cubes-preserved c =
    let p = problem c.search_cube.new.board.terms.nodes c.args.from c.args.check.now in
    let log = c.search_cube.new.board.log.entries in
    let tried = tried_later (problem c.cubes.board.terms.nodes c.args.from c.args.check.now) p c.cubes.board.log.entries log c.cubes.cube c.cubes.tried.closed.items c.cubes.tried.spent (ap (λ n. problem n c.args.from c.args.check.now) c.in_ok-end.ensures.nodes) c.in_ok-end.ensures.adds c.cubes.invariant.tried in
    record {
      nodes = c.in_ok-end.ensures.nodes ∙ c.cubes.invariant.nodes;
      adds = adds_then c.args.board.now.log.entries c.cubes.board.log.entries log c.cubes.invariant.adds c.in_ok-end.ensures.adds;
      searching = c.in_ok-end.ensures.searching;
      tried =
          subst (λ o. MatchOption o (AreTried p log (c.cubes.cube + 1) c.add.new.self.closed.items c.add.new.self.spent) (λ m. HasModel p log (interpretation_of m))) c.in_default.is
          (c.in_ok-found.ensures p log c.cubes.cube tried c.in_ok-end.ensures.end);
    }

pub returns-in_err-end-clause-adds : goal.returns-in_err-end-clause-adds
returns-in_err-end-clause-adds c = adds_then c.args.board.now.log.entries c.cubes.board.log.entries c.search_cube.new.board.log.entries c.cubes.invariant.adds c.in_err-end.ensures.adds

pub returns-in_err-found-clause-adds : goal.returns-in_err-found-clause-adds
returns-in_err-found-clause-adds c = adds_then c.args.board.now.log.entries c.cubes.board.log.entries c.search_cube.new.board.log.entries c.cubes.invariant.adds c.in_ok-end.ensures.adds

pub returns-in-Some-clause-adds : goal.returns-in-Some-clause-adds
returns-in-Some-clause-adds c = adds_then c.args.board.now.log.entries c.cubes.board.log.entries c.search_cube.new.board.log.entries c.cubes.invariant.adds c.in_ok-end.ensures.adds

pub returns-in-Some-clause-tried : goal.returns-in-Some-clause-tried
returns-in-Some-clause-tried c =
    let p = problem c.search_cube.new.board.terms.nodes c.args.from c.args.check.now in
    let log = c.search_cube.new.board.log.entries in
    let tried = tried_later (problem c.cubes.board.terms.nodes c.args.from c.args.check.now) p c.cubes.board.log.entries log c.cubes.cube c.cubes.tried.closed.items c.cubes.tried.spent (ap (λ n. problem n c.args.from c.args.check.now) c.in_ok-end.ensures.nodes) c.in_ok-end.ensures.adds c.cubes.invariant.tried in
    subst (λ o. MatchOption o (AreTried p log (c.cubes.cube + 1) c.add.new.self.closed.items c.add.new.self.spent) (λ m. HasModel p log (interpretation_of m))) c.in-Some.is
    (c.in_ok-found.ensures p log c.cubes.cube tried c.in_ok-end.ensures.end)

pub returns-clause-tried : goal.returns-clause-tried
returns-clause-tried c =
    let count = c.leaves-cube-end.ensures.count in
    let last = c.cubes-test.false in
    let within = c.cubes.auto.cube-end in
    let all : c.cubes.cube ≡ 2 ^ length c.args.check.now.tree.now = omega (arith, count, last, within) in
    subst (λ n. AreTried (problem c.cubes.board.terms.nodes c.args.from c.args.check.now) c.cubes.board.log.entries n c.cubes.tried.closed.items c.cubes.tried.spent) all c.cubes.invariant.tried
