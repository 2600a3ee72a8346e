use Rattle.std.proofs.Common.{◌+◌, ◌<◌, ◌≤◌, drop, length, subst}
use Rattle.proof_log.specs.Logs.{clause_at}
use Rattle.proof_log.proofs.Growth.{grows_then}
use Rattle.cube_tree.proofs.Levels.{half_of, drop_closing, root_closes}
use Rattle.cube_tree.proofs.joining.join.Goals as goal

pub returns-in_err-places-2-clause-grows : goal.returns-in_err-places-2-clause-grows
returns-in_err-places-2-clause-grows c = grows_then c.args.log.now.entries c.loop-variable.log.entries c.join_pairs.new.log.entries c.loop-variable.invariant.grows c.join_pairs.ensures.grows

pub loop-variable-preserved : goal.loop-variable-preserved
loop-variable-preserved c =
    let i = c.loop-variable.invariant in
    let k = c.loop-variable.variable-index in
    let variables = c.args.tree.now in
    let lt : k < length variables = subst (λ xs. k < length xs) c.variables-variable-items.ensures.variables c.loop-variable-test.true in
    let len = rw c.as_slice.ensures.value at c.in_ok-places-2.ensures.len in
    let closing = rw c.variables-variable-items.ensures.variables at (rw c.as_slice.ensures.value at c.in_ok-places-2.ensures.closing) in
    record {
      stands = c.join_pairs.ensures.stands;
      grows = grows_then c.args.log.now.entries c.loop-variable.log.entries c.join_pairs.new.log.entries i.grows c.join_pairs.ensures.grows;
      clauses = c.in_ok-places-2.ensures.clauses;
      len = half_of variables k 0 (length c.loop-variable.places.items) (length c.in_ok-places-2.places.items) lt i.len len;
      closing = λ assumed all. closing assumed (drop (k + 1) variables) (drop_closing (clause_at c.loop-variable.log.clauses) assumed variables c.loop-variable.places.items k _ lt (i.closing assumed all));
    }

pub returns-clause-closes : goal.returns-clause-closes
returns-clause-closes c = λ assumed all.
    let i = c.loop-variable.invariant in
    let k = c.loop-variable.variable-index in
    let past : length c.args.tree.now ≤ k = subst (λ xs. length xs ≤ k) c.variables-variable-items.ensures.variables c.loop-variable-test.false in
    root_closes (clause_at c.loop-variable.log.clauses) assumed c.args.tree.now c.loop-variable.places.items k c.index.result.now _ past i.len (i.closing assumed all) c.index.ensures
