use Rattle.std.proofs.Common.{ℕ, List, ◌+◌, sym, subst}
use Rattle.std.specs.Prelude.{Contains, slice_index}
use Rattle.std.proofs.lemmas.List.{get_or_default, take_all}
use Rattle.cnf_base.proofs.Lists.{Contains-nil}
use Rattle.cube_search.proofs.Leaving.{noted_has, noted_only}
use Rattle.cube_search.proofs.parking.note.Goals as goal

pub positions-init : goal.positions-init
positions-init c = record {
  has = λ p k. absurd (Contains-nil p k);
  only = λ p k. absurd (Contains-nil (p + 1) (subst (λ (xs : List ℕ). Contains xs (p + 1)) c.clear.ensures k));
}

pub positions-preserved : goal.positions-preserved
positions-preserved c =
    let ps = c.args.positions.now in
    let i = c.positions.pos-index in
    let p = slice_index ps i in
    let lt = c.positions-test.true in
    let is = get_or_default ps i 0 p lt in
    record {
      has = noted_has c.positions.needed c.add.new.self ps i p lt is c.in_ok-add.ensures.listed c.positions.invariant.has;
      only = noted_only c.positions.needed c.add.new.self ps i p lt is c.in_ok-add.ensures.listed c.positions.invariant.only;
    }

pub returns-clause-has : goal.returns-clause-has
returns-clause-has c = λ p k. c.positions.invariant.has p (subst (λ (xs : List ℕ). Contains xs p) (sym (take_all c.positions.pos-index c.args.positions.now c.positions-test.false)) k)

pub returns-clause-only : goal.returns-clause-only
returns-clause-only c = λ p k. subst (λ (xs : List ℕ). Contains xs p) (take_all c.positions.pos-index c.args.positions.now c.positions-test.false) (c.positions.invariant.only p k)
