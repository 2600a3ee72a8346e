use Rattle.std.proofs.Common.{ℕ, List, [], refl, inl, sym, ◌∙◌, subst}
use Rattle.std.specs.Prelude.{slice_index, Contains}
use Rattle.std.proofs.lemmas.List.{get_or_default, take_all}
use Rattle.cnf_base.proofs.Lists.{Contains-nil}
use Rattle.cdcl_core.specs.Search.{clause_of}
use Rattle.cube_search.specs.Holding.{IsSorted, AreLeft}
use Rattle.cube_search.proofs.Moving.{left_none, left_next}
use Rattle.cube_search.proofs.Waking.{noted_first, sorted_others, sorted_came, sorted_more}
use Rattle.cube_search.proofs.retarget.sort_chains.Goals as goal

pub positions-init : goal.positions-init
positions-init c = record {
  engine = c.requires.engine;
  level = c.requires.level;
  listed = refl;
  given = refl;
  kept = λ q. refl;
  others = λ q un. refl;
  came = λ q d e. inl e;
  sorted = λ p k. absurd (Contains-nil p k);
  left = subst (AreLeft (clause_of c.args.engine.now.watches) []) (sym c.new-left.ensures.items) (left_none (clause_of c.args.engine.now.watches));
}

pub positions-preserved : goal.positions-preserved
positions-preserved c =
    let ps = c.args.positions.now in
    let old = c.args.engine.now in
    let w = c.positions.engine.watches in
    let v = c.sort_chain.new.engine.watches in
    let i = c.positions.at-index in
    let at = slice_index ps i in
    let lt = c.positions-test.true in
    let is = get_or_default ps i 0 at lt in
    let k = c.in_ok-sort_chain.ensures in
    let xs = old.agenda.list in
    record {
      engine = k.engine;
      level = k.level;
      listed = k.listed ∙ c.positions.invariant.listed;
      given = k.given ∙ c.positions.invariant.given;
      kept = λ q. k.kept q ∙ c.positions.invariant.kept q;
      others = sorted_others old.watches w v xs ps i at lt is c.positions.invariant.kept k.others c.positions.invariant.others;
      came = sorted_came old.watches w v xs ps i at lt is c.positions.invariant.kept k.others c.positions.invariant.came;
      sorted = sorted_more old.watches w v xs ps i at lt is c.positions.invariant.kept k.others
          (subst (λ (ys : List ℕ). IsSorted w v ys at) c.positions.invariant.listed k.sorted) c.positions.invariant.sorted;
      left = left_next (clause_of old.watches) ps c.positions.left.items c.sort_chain.new.left.items i at _ _ lt is (noted_first old.watches w at c.positions.left.items c.sort_chain.new.left.items c.positions.invariant.kept k.noted) c.positions.invariant.left;
    }

pub returns-clause-sorted : goal.returns-clause-sorted
returns-clause-sorted c = λ p m. c.positions.invariant.sorted p (subst (λ (xs : List ℕ). Contains xs p) (sym (take_all c.positions.at-index c.args.positions.now c.positions-test.false)) m)

pub returns-clause-given : goal.returns-clause-given
returns-clause-given c = c.positions.invariant.given

pub returns-clause-left : goal.returns-clause-left
returns-clause-left c =
    subst (λ (ps : List ℕ). AreLeft (clause_of c.args.engine.now.watches) ps c.positions.left.items)
    (take_all c.positions.at-index c.args.positions.now c.positions-test.false) c.positions.invariant.left
