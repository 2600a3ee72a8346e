use Rattle.std.proofs.Common.{inl, arith}
use Rattle.cdcl_learn.proofs.Tops.{IsInLevel, level_starts, level_goes_on, level_ends}
use Rattle.cdcl_learn.proofs.Standing.{meets_more}
use Rattle.cdcl_learn.proofs.learning.find_unique.Goals as goal

pub overflow_sub-end : goal.overflow_sub-end
overflow_sub-end c =
    let first : IsInLevel c.args.rows.now c.args.walk.now.marks c.args.level c.top-end.result =
    level_starts c.args.rows.now c.args.walk.now.marks c.args.level c.top-end.result c.requires.rising c.top-end.ensures c.requires.present in
    omega (arith, first.some)

pub level-init : goal.level-init
level-init c = record {
  walk = c.requires.walk;
  at = level_starts c.args.rows.now c.args.walk.now.marks c.args.level c.top-end.result c.requires.rising c.top-end.ensures c.requires.present;
  rest = c.top-rest.ensures;
  met = λ id m. inl m;
}

pub overflow_sub-end-in-level-3 : goal.overflow_sub-end-in-level-3
overflow_sub-end-in-level-3 c =
    let next : IsInLevel c.args.rows.now c.resolve.new.self.marks c.args.level c.top-end-in-level.result =
    level_goes_on c.args.rows.now c.level.walk.marks c.resolve.new.self.marks c.args.level c.level.end c.level.rest c.top-end-in-level.result c.requires.rising c.level.invariant.at c.level.invariant.rest c.level-test.ensures.0 c.level-test.ensures.1 c.in_ok-resolve.ensures.resolved c.top-end-in-level.ensures in
    omega (arith, next.some)

pub level-preserved : goal.level-preserved
level-preserved c = record {
  walk = c.in_ok-resolve.ensures.walk;
  at = level_goes_on c.args.rows.now c.level.walk.marks c.resolve.new.self.marks c.args.level c.level.end c.level.rest c.top-end-in-level.result c.requires.rising c.level.invariant.at c.level.invariant.rest c.level-test.ensures.0 c.level-test.ensures.1 c.in_ok-resolve.ensures.resolved c.top-end-in-level.ensures;
  rest = c.top-rest-in-level.ensures;
  met = meets_more c.args.rows.now c.args.walk.now.hints.items c.level.walk.hints.items c.resolve.new.self.hints.items c.level.invariant.met c.in_ok-resolve.ensures.met;
}

pub returns-clause-unique : goal.returns-clause-unique
returns-clause-unique c = level_ends c.args.rows.now c.level.walk.marks c.args.level c.level.end c.level.rest c.requires.rising c.level.invariant.walk.size c.level.invariant.at c.level.invariant.rest c.level-test.ensures
