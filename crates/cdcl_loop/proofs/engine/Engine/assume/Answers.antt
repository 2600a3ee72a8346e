use Rattle.std.proofs.Common.{◌≡◌, ◌-◌, length, drop, get_or, refl, ap, ◌∙◌, subst, arith}
use Rattle.std.specs.Prelude.{Contains}
use Rattle.std.proofs.Math.Seq.{drop-length}
use Rattle.cdcl_core.specs.Search.{literals_of, level_of}
use Rattle.cdcl_loop.specs.Engines.{IsAssumed}
use Rattle.cdcl_loop.proofs.Courses.{true_later}
use Rattle.cdcl_loop.proofs.Assuming.{assumed_more, none_of}
use Rattle.cdcl_loop.proofs.Trails.{store_then}
use Rattle.cdcl_loop.proofs.Working.{worked_none, worked_then}
use Rattle.cdcl_loop.proofs.engine.Engine.assume.Goals as goal
use Rattle.cnf_base.proofs.Lists.{Contains-nil}

pub returns-then-self-level-clause-clash : goal.returns-then-self-level-clause-clash
returns-then-self-level-clause-clash c = record {
  propagated = c.requires.propagated;
  rest = c.requires.rest;
  all = λ l k. true_later (literals_of c.args.self.now.trail) c.args.self.now.base (level_of c.args.self.now.trail) l (omega (arith, c.requires.course.0.lower)) (c.requires.course.0.all (omega (arith, c.if-self-level.true, c.level.ensures)) l k);
}

pub literals-init : goal.literals-init
literals-init c = record {
  given = refl;
  listed = refl;
  store = record { kept = λ id. refl; held = λ id. refl };
  work = worked_none c.args.self.now;
  engine = c.requires.engine;
  course = c.requires.course;
  at_base = omega (arith, c.requires.course.0.lower, c.if-self-level.false, c.level.ensures);
  assumed = record { propagated = c.requires.propagated; rest = c.requires.rest; all = λ l k. absurd (Contains-nil l (subst (λ xs. Contains xs l) (ap (λ n. drop n c.args.self.now.given.items) (let size : c.len-i.result ≡ length c.args.self.now.given.items = omega (arith, c.len-i.ensures) in size) ∙ drop-length c.args.self.now.given.items) k)) };
}

pub literals-preserved : goal.literals-preserved
literals-preserved c =
    let s = c.args.self.now in
    let b = c.literals.self in
    let n = c.assume_one.new.self in
    let given = ap (λ v. v.items) c.literals.invariant.given in
    let done = none_of _ c.in_ok-clash.field-0 c.in_default.not-Some c.in_ok-clash.ensures.clash in
    record {
      given = c.assume_one.ensures.task.given ∙ c.literals.invariant.given;
      listed = c.assume_one.ensures.task.listed ∙ c.literals.invariant.listed;
      store = store_then s.watches b.watches n.watches c.literals.invariant.store c.assume_one.ensures.store;
      work = worked_then s b n c.literals.invariant.work c.in_ok-clash.ensures.work;
      engine = done.0.engine;
      course = done.0.course;
      at_base = done.0.at_base;
      assumed = record {
        propagated = done.1;
        rest = done.2;
        all = assumed_more b.watches b.trail n.trail s.given.items c.literals.i c.index-literal.result.now c.literals-test.true (omega (arith, c.literals.auto.i, c.len-i.ensures)) (c.index-literal.ensures ∙ ap (λ ls. get_or ls (c.literals.i - 1) c.index-literal.result.now) given) c.literals.invariant.assumed done.0.kept done.0.made;
      };
    }

pub returns-in_err-clash-clause-store : goal.returns-in_err-clash-clause-store
returns-in_err-clash-clause-store c = store_then c.args.self.now.watches c.literals.self.watches c.assume_one.new.self.watches c.literals.invariant.store c.assume_one.ensures.store

pub returns-in-Some-clause-store : goal.returns-in-Some-clause-store
returns-in-Some-clause-store c = store_then c.args.self.now.watches c.literals.self.watches c.assume_one.new.self.watches c.literals.invariant.store c.assume_one.ensures.store

pub returns-in-Some-clause-work : goal.returns-in-Some-clause-work
returns-in-Some-clause-work c = worked_then c.args.self.now c.literals.self c.assume_one.new.self c.literals.invariant.work c.in_ok-clash.ensures.work

pub returns-then-self-level-clause-work : goal.returns-then-self-level-clause-work
returns-then-self-level-clause-work c = worked_none c.args.self.now

pub returns-clause-clash : goal.returns-clause-clash
returns-clause-clash c =
    let end : c.literals.i ≡ 0 = omega (arith, c.literals-test.false) in
    subst (λ n. IsAssumed c.literals.self.watches c.literals.self.trail (drop n c.args.self.now.given.items)) end c.literals.invariant.assumed
