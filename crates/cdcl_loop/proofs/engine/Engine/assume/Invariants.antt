use Rattle.std.proofs.Common.{◌≡◌, drop}
use Rattle.cdcl_core.specs.Search.{level_of}
use Rattle.cdcl_loop.specs.Engines.{IsEngine, IsOnCourse, IsSameStore, IsAssumed}
use Rattle.cdcl_loop.specs.Efforts.{HasWorked}
use Rattle.cdcl_loop.proofs.engine.Engine.assume.Given as goal

abbrev pub invariant-literals : goal.invariant-literals
invariant-literals l = record {
  given : l.self.given ≡ l.fn.self.given;
  listed : l.self.agenda.list ≡ l.fn.self.agenda.list;
  store : IsSameStore l.fn.self.watches l.self.watches;
  work : HasWorked l.fn.self l.self;
  engine : IsEngine l.self;
  course : IsOnCourse l.self;
  at_base : l.self.base ≡ level_of l.self.trail;
  assumed : IsAssumed l.self.watches l.self.trail (drop l.i l.fn.self.given.items);
}
