use Rattle.std.proofs.Common.{List, ℕ, ◌≤◌, subst}
use Rattle.std.specs.Prelude.{◌⊎◌, Contains}
use Rattle.std.proofs.lemmas.List.{take_all}
use Rattle.cnf_base.specs.Literals.{Literal}
use Rattle.theory_search.specs.Theories.{AreKnown}
use Rattle.theory_search.proofs.Listed.{known_none, known_more}
use Rattle.theory_search.proofs.taking.are_known.Goals as goal

pub literals-init : goal.literals-init
literals-init c = known_none c.args.variables.now c.args.next

pub returns : goal.returns
returns c =
    subst (λ (ls : List Literal). AreKnown c.args.variables.now c.args.next ls)
    (take_all c.literals.literal-index c.args.literals.now c.literals-test.false) c.literals.invariant

pub literals-preserved : goal.literals-preserved
literals-preserved c =
    known_more c.args.variables.now c.args.next c.args.literals.now c.literals.literal-index c.literal-item.result c.literals-test.true c.literal-item.is
    (subst (λ (x : ℕ). Contains c.args.variables.now x ⊎ (c.args.next ≤ x)) c.variable.ensures.value c.if-not-is_known.ensures) c.literals.invariant
