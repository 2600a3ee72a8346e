use Rattle.std.proofs.Common.{◌≡◌, ◌∙◌, ap, sym, Some}
use Rattle.std.specs.Prelude.{slice_get}
use Rattle.cdcl_loop.proofs.Trails.{trail_added}
use Rattle.dimacs_search.proofs.Holding.{held_none, held_more, only_more, only_fresh}
use Rattle.dimacs_search.proofs.loading.watch_all.Goals as goal

pub clauses-init : goal.clauses-init
clauses-init c = record {
  trail = c.requires.trail;
  level = c.requires.level;
  held = held_none c.args.cnf.now c.args.watches.now;
  only = c.requires.only;
}

pub add-requires-clause-fresh : goal.add-requires-clause-fresh
add-requires-clause-fresh c = only_fresh c.args.cnf.now c.clauses.watches c.clauses.place c.clauses.invariant.only

pub clauses-preserved : goal.clauses-preserved
clauses-preserved c =
    let stands : slice_get c.args.cnf.now.clauses c.clauses.place ≡ Some c.in_ok-clause.clause = c.clause.ensures ∙ ap Some (sym c.in_ok-clause.ensures) in
    record {
      trail = trail_added c.clauses.watches c.add.new.self c.clauses.trail c.add.new.trail _ _ c.clauses.invariant.trail c.add.ensures.settled c.in_ok-add.ensures.literals;
      level = c.add.ensures.level ∙ c.clauses.invariant.level;
      held = held_more c.args.cnf.now c.clauses.watches c.add.new.self c.clauses.place _ c.clauses.invariant.held stands c.in_ok-add.ensures.held c.add.ensures.others_held;
      only = only_more c.args.cnf.now c.clauses.watches c.add.new.self c.clauses.place _ c.clauses.invariant.only stands c.in_ok-add.ensures.kept c.add.ensures.others;
    }
