use Rattle.std.proofs.Common.{rules, ◌≡◌}
use Rattle.cdcl_core.specs.Search.{literals_of, clause_of}
use Rattle.cdcl_learn.proofs.Chaining.{units_skip, units_push}
use Rattle.cdcl_learn.proofs.units.units_against.Goals as goal
use Rattle.cdcl_learn.proofs.units.units_against.Goals.{then-ne+in-Some+in_ok-push, else-ne}

pub literals-preserved : goal.literals-preserved
literals-preserved c =
    let look = clause_of c.args.watches.now in
    let rows = literals_of c.args.trail.now in
    let i = c.literals.l-index in
    let l = c.l-item.result in
    elim c.if-ne.branch [
      | then-ne+in-Some+in_ok-push w ↦ rw (w.units-is, w.in_ok-push.ensures.items) (units_push look rows c.args.end i c.args.clause.now c.args.literal l c.literals.units.items w.in-Some.unit c.literals-test.true c.l-item.is w.in-Some.ensures.0 w.in-Some.ensures.1 c.literals.invariant)
      | else-ne w ↦
          let same : l ≡ c.args.literal = search rules in
          rw w.units-is (units_skip look rows c.args.end i c.args.clause.now c.args.literal l c.literals.units.items c.literals-test.true c.l-item.is same c.literals.invariant)
    ]
