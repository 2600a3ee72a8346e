use Rattle.std.proofs.Common.{ℕ, List, sym, subst, arith}
use Rattle.smt_terms.specs.Terms.{IsTermList}
use Rattle.theory_search.specs.Theories.{AreEnough}
use Rattle.theory_cubes.proofs.Resting.{stored_below}
use Rattle.theory_cubes.proofs.Starting.{searching_begun}
use Rattle.theory_cubes.proofs.solving.begun.Goals as goal

pub retarget-requires-clause-known : goal.retarget-requires-clause-known
retarget-requires-clause-known c = λ p k. let lt = c.requires.problem.positions p k in omega (arith, lt, c.requires.from)

pub retarget-requires-clause-stored : goal.retarget-requires-clause-stored
retarget-requires-clause-stored c = stored_below _ _ _ c.args.from c.requires.from c.requires.resting

pub new-requires-clause-enough : goal.new-requires-clause-enough
new-requires-clause-enough c =
    subst (λ (ps : List ℕ). AreEnough c.args.board.now.terms.nodes c.args.board.now.log.entries c.args.check.now.live.now ps) (sym c.in_ok-retarget.ensures.opening) c.requires.enough

pub retarget-requires-clause-listed : goal.retarget-requires-clause-listed
retarget-requires-clause-listed c = subst IsTermList (sym c.requires.nodes) c.len-count.ensures.terms.list

pub retarget-requires-clause-stands : goal.retarget-requires-clause-stands
retarget-requires-clause-stands c = c.bits-stands.ensures.stands

pub returns : goal.returns
returns c = record {
  searching =
      searching_begun c.args.board.now.terms.nodes c.args.from c.args.next c.args.check.now c.retarget.new.self c.in_ok-theory.theory c.args.board.now
      (subst IsTermList (sym c.requires.nodes) c.len-count.ensures.terms.list) c.bits-stands.ensures.stands c.requires.next c.requires.from c.requires.problem c.requires.apart
      c.in_ok-retarget.ensures.search c.in_ok-retarget.ensures.opening c.in_ok-retarget.ensures.from
      c.in_ok-theory.ensures.theory c.in_ok-theory.ensures.live c.in_ok-theory.ensures.variables c.in_ok-theory.ensures.next;
}
