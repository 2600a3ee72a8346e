use Rattle.std.proofs.Common.{◌-◌, inl, inr, arith}
use Rattle.std.proofs.lemmas.Bool.{cases_lt}
use Rattle.std.proofs.lemmas.Bool.Decides.{eqb_tells}
use Rattle.cdcl_learn.proofs.Marking.{same_explained, explained_more}
use Rattle.cdcl_learn.proofs.Standing.{meets_more}
use Rattle.cdcl_learn.proofs.walk.Walk.explain.Goals as goal

pub back-init : goal.back-init
back-init c = record {
  reached = c.top-i.ensures.reached;
  walk = record { size = c.requires.walk.size; derived = c.requires.walk.derived };
  explained = same_explained c.args.end c.args.self.now.marks;
  met = λ id m. inl m;
  whole = λ p a b w s. absurd (c.top-i.ensures.above p a b s);
}

pub back-preserved : goal.back-preserved
back-preserved c = record {
  reached = omega (arith, c.top-i-in-back.ensures.reached, c.back.invariant.reached);
  walk = c.in_ok-visit.ensures.walk;
  explained = explained_more c.args.end (c.back.i - 1) c.args.self.now.marks c.back.self.marks c.visit.new.self.marks (omega (arith, c.back.invariant.reached, c.back-test.true)) c.back.invariant.explained c.in_ok-visit.ensures.explained;
  met = meets_more c.args.rows.now c.args.self.now.hints.items c.back.self.hints.items c.visit.new.self.hints.items c.back.invariant.met c.in_ok-visit.ensures.met;
  whole = λ p a b w s. elim (cases_lt p (c.back.i - 1)) [
    | inl u ↦ absurd (c.top-i-in-back.ensures.above p a u s)
    | inr u ↦ elim (eqb_tells p (c.back.i - 1)) [
      | inl e ↦ rw e.1 (c.in_ok-visit.ensures.whole (rw e.1 at w) (rw e.1 at s))
      | inr e ↦ c.back.invariant.whole p (omega (arith, u, e.1)) b w (c.in_ok-visit.ensures.explained.above p (omega (arith, u, e.1)) s)
    ]
  ];
}

pub returns-clause-whole : goal.returns-clause-whole
returns-clause-whole c = λ p b w s. c.back.invariant.whole p (omega (arith, c.back-test.false)) b w s
