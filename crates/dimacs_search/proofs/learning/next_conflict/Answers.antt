use Rattle.std.proofs.Common.{◌≡◌, List, [], ap, ◌∙◌, subst, sym}
use Rattle.std.specs.Prelude.{Contains}
use Rattle.cnf_base.specs.Literals.{Literal}
use Rattle.cnf_base.proofs.Lists.{Contains-nil}
use Rattle.cdcl_core.specs.declared.trail.Trail.{Trail}
use Rattle.cdcl_core.specs.declared.watches.Watches.{Watches}
use Rattle.cdcl_core.specs.Search.{literals_of, level_of, IsAtRest}
use Rattle.cdcl_core.specs.State.{IsPropagated}
use Rattle.cdcl_loop.specs.Courses.{AreValued}
use Rattle.cdcl_loop.specs.Engines.{IsAssumed}
use Rattle.cdcl_loop.proofs.Assuming.{none_of}
use Rattle.cdcl_loop.proofs.Trails.{store_then}
use Rattle.dimacs_search.proofs.Holding.{task_same, task_then, store_same}
use Rattle.dimacs_search.proofs.learning.next_conflict.Goals as goal

-- no literal is given, so each given one is true
none_given : (w : Watches) (t : Trail) (given : List Literal) → given ≡ [] → IsPropagated w t × IsAtRest w t → IsAssumed w t given
none_given w t given none h = record {
  propagated = h.0;
  rest = h.1;
  all = λ l has. absurd (Contains-nil l (subst (λ (ls : List Literal). Contains ls l) none has));
}

pub decide-requires-clause-assumed : goal.decide-requires-clause-assumed
decide-requires-clause-assumed c =
    none_given c.propagate.new.self.watches c.propagate.new.self.trail c.propagate.new.self.given.items
    (ap (λ v. v.items) (c.propagate.ensures.task.given ∙ c.decisions.invariant.task.given) ∙ c.requires.free)
    (none_of _ c.propagate.result c.in_default.not-Some c.propagate.ensures.rest)

pub decisions-init : goal.decisions-init
decisions-init c = record {
  engine = c.requires.engine;
  course = c.requires.course;
  task = task_same c.args.engine.now;
  store = store_same c.args.engine.now.watches;
}

pub decisions-preserved : goal.decisions-preserved
decisions-preserved c = record {
  engine = c.in_ok-decide.ensures.engine;
  course = c.in_ok-decide.ensures.course;
  task = task_then _ _ _ (task_then _ _ _ c.decisions.invariant.task c.propagate.ensures.task) c.decide.ensures.task;
  store = store_then _ _ _ (store_then _ _ _ c.decisions.invariant.store c.propagate.ensures.store) c.decide.ensures.store;
}

pub returns-in-Some-clause-store : goal.returns-in-Some-clause-store
returns-in-Some-clause-store c = store_then _ _ _ c.decisions.invariant.store c.propagate.ensures.store

pub returns-in_err-decide-clause-store : goal.returns-in_err-decide-clause-store
returns-in_err-decide-clause-store c = store_then _ _ _ (store_then _ _ _ c.decisions.invariant.store c.propagate.ensures.store) c.decide.ensures.store

pub returns-then-not-branch-clause-store : goal.returns-then-not-branch-clause-store
returns-then-not-branch-clause-store c = store_then _ _ _ (store_then _ _ _ c.decisions.invariant.store c.propagate.ensures.store) c.decide.ensures.store

pub returns-then-not-branch-clause-end : goal.returns-then-not-branch-clause-end
returns-then-not-branch-clause-end c =
    let old = c.propagate.new.self in
    let new = c.decide.new.self in
    let none = c.in_ok-decide.ensures.none c.if-not-branch.true in
    let rest = none_of _ c.propagate.result c.in_default.not-Some c.propagate.ensures.rest in (
      subst (λ (t : Trail). IsAtRest new.watches t) (sym none.1) (subst (λ (w : Watches). IsAtRest w old.trail) (sym none.0) rest.1),
      subst (λ (t : Trail). AreValued new.agenda.list (literals_of t) (level_of t)) (sym none.1) (subst (λ xs. AreValued xs (literals_of old.trail) (level_of old.trail)) (sym c.decide.ensures.task.listed) none.2),
    )
