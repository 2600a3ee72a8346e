use Rattle.std.proofs.Common.{◌≡◌, ap, ◌∙◌, sym, subst, length}
use Rattle.dimacs_search.specs.Searching.{AreHeld, AreOnly, AreListed}
use Rattle.dimacs_search.proofs.Holding.{only_none}
use Rattle.dimacs_search.proofs.loading.load.Goals as goal

pub watch_all-requires-clause-only : goal.watch_all-requires-clause-only
watch_all-requires-clause-only c = only_none c.args.cnf.now c.in_ok-watches.watches c.in_ok-watches.ensures.kept

pub returns-clause-searching : goal.returns-clause-searching
returns-clause-searching c =
    let same : c.list_variables.new.engine.watches ≡ c.watch_all.new.watches = c.list_variables.ensures.watches ∙ c.new-engine.ensures.watches in
    record {
      engine = c.list_variables.ensures.engine (rw (c.new-engine.ensures.watches, c.new-engine.ensures.trail) c.in_ok-watch_all.ensures.trail);
      course = c.list_variables.ensures.course c.new-engine.ensures.course;
      free = ap (λ v. v.items) c.list_variables.ensures.given ∙ c.new-engine.ensures.given;
      listed = subst (λ n. AreListed n c.list_variables.new.engine.agenda.list) c.variables.ensures c.in_ok-list_variables.ensures.listed;
      held = subst (AreHeld c.args.cnf.now (length c.args.cnf.now.clauses)) (sym same) c.in_ok-watch_all.ensures.held;
    }

pub returns-clause-only : goal.returns-clause-only
returns-clause-only c =
    let same : c.list_variables.new.engine.watches ≡ c.watch_all.new.watches = c.list_variables.ensures.watches ∙ c.new-engine.ensures.watches in
    subst (AreOnly c.args.cnf.now (length c.args.cnf.now.clauses)) (sym same) c.in_ok-watch_all.ensures.only
