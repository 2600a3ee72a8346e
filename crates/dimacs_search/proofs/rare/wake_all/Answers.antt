use Rattle.std.proofs.Common.{ap}
use Rattle.cdcl_loop.specs.declared.engine.Engine.{Engine}
use Rattle.dimacs_search.proofs.Holding.{keeping_same, keeping_then, keeping_woken, task_same, task_then}
use Rattle.dimacs_search.proofs.rare.wake_all.Goals as goal

pub numbers-init : goal.numbers-init
numbers-init c = record {
  engine = c.requires.engine;
  level = c.requires.level;
  course = λ h. h;
  task = task_same c.args.engine.now;
  keeping = keeping_same c.args.first c.args.engine.now.watches;
}

pub numbers-preserved : goal.numbers-preserved
numbers-preserved c = record {
  engine = c.wake.ensures.engine;
  level = c.wake.ensures.level;
  course = λ h. c.wake.ensures.course (c.numbers.invariant.course h);
  task = task_then _ _ _ c.numbers.invariant.task (record { given = ap (λ (e : Engine). e.given) c.wake.ensures.same; listed = ap (λ (e : Engine). e.agenda.list) c.wake.ensures.same });
  keeping = keeping_then c.args.first c.args.engine.now.watches c.numbers.engine.watches c.wake.new.self.watches c.numbers.invariant.keeping (keeping_woken c.args.first _ c.numbers.engine.watches c.wake.new.self.watches c.wake.ensures.held c.wake.ensures.kept c.wake.ensures.others);
}
