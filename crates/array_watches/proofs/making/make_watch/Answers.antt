use Rattle.std.proofs.Common.{◌≡◌, subst}
use Rattle.std.proofs.lemmas.Result.{err_from_is_err_and}
use Rattle.array_watches.specs.Needed.{with_watch_by}
use Rattle.array_watches.specs.Making.{value_of, IsRefused}
use Rattle.array_watches.proofs.Sorted.{witness_sorted}
use Rattle.array_watches.proofs.Steps.{equality_arrays, second_at, third_at, first_fails, second_fails, third_fails, all_put}
use Rattle.array_watches.proofs.making.make_watch.Goals as goal

pub put_pair-requires : goal.put_pair-requires
put_pair-requires c =
    let list = c.len-count.ensures.terms.list in
    let are = equality_arrays c.args.terms.now.nodes list c.args.equality c.in-Equating.left c.in-Equating.right c.in-Equating.ensures c.requires.arrays in
    witness_sorted c.args.terms.now.nodes list c.in-Equating.left c.in-Equating.right are

pub put_pair-requires-2 : goal.put_pair-requires-2
put_pair-requires-2 c =
    let list = c.len-count.ensures.terms.list in
    let are = equality_arrays c.args.terms.now.nodes list c.args.equality c.in-Equating.left c.in-Equating.right c.in-Equating.ensures c.requires.arrays in
    second_at c.args.terms.now list c.in-Equating.left c.in-Equating.right are c.in_ok-witness.witness c.put_pair.new.terms c.in_ok-witness.ensures

pub put_pair-requires-3 : goal.put_pair-requires-3
put_pair-requires-3 c =
    let list = c.len-count.ensures.terms.list in
    let are = equality_arrays c.args.terms.now.nodes list c.args.equality c.in-Equating.left c.in-Equating.right c.in-Equating.ensures c.requires.arrays in
    third_at c.args.terms.now list c.in-Equating.left c.in-Equating.right are c.in_ok-witness.witness c.in_ok-put_pair.field-0 c.put_pair.new.terms c.put_pair-2.new.terms c.in_ok-witness.ensures c.in_ok-put_pair.ensures

pub returns-in_err-witness : goal.returns-in_err-witness
returns-in_err-witness c =
    let list = c.len-count.ensures.terms.list in
    let are = equality_arrays c.args.terms.now.nodes list c.args.equality c.in-Equating.left c.in-Equating.right c.in-Equating.ensures c.requires.arrays in
    let p = err_from_is_err_and c.from_residual.result c.from_residual.ensures.1 in
    rw (p.1, p.2)
    (subst (λ s. IsRefused (with_watch_by c.args.terms.now.nodes s) c.in_err-witness.field-0.0 c.args.terms.now c.put_pair.new.terms) c.in-Equating.ensures (first_fails c.args.terms.now list c.in-Equating.left c.in-Equating.right are c.in_err-witness.field-0.0 c.put_pair.new.terms c.in_err-witness.ensures))

pub returns-in_err-put_pair : goal.returns-in_err-put_pair
returns-in_err-put_pair c =
    let list = c.len-count.ensures.terms.list in
    let are = equality_arrays c.args.terms.now.nodes list c.args.equality c.in-Equating.left c.in-Equating.right c.in-Equating.ensures c.requires.arrays in
    let p = err_from_is_err_and c.from_residual-in_err-put_pair.result c.from_residual-in_err-put_pair.ensures.1 in
    rw (p.1, p.2)
    (subst (λ s. IsRefused (with_watch_by c.args.terms.now.nodes s) c.in_err-put_pair.field-0.0 c.args.terms.now c.put_pair-2.new.terms) c.in-Equating.ensures (second_fails c.args.terms.now list c.in-Equating.left c.in-Equating.right are c.in_ok-witness.witness c.put_pair.new.terms c.in_err-put_pair.field-0.0 c.put_pair-2.new.terms c.in_ok-witness.ensures c.in_err-put_pair.ensures))

pub returns-in_err-put_pair-2 : goal.returns-in_err-put_pair-2
returns-in_err-put_pair-2 c =
    let list = c.len-count.ensures.terms.list in
    let are = equality_arrays c.args.terms.now.nodes list c.args.equality c.in-Equating.left c.in-Equating.right c.in-Equating.ensures c.requires.arrays in
    let p = err_from_is_err_and c.from_residual-in_err-put_pair-2.result c.from_residual-in_err-put_pair-2.ensures.1 in
    rw (p.1, p.2)
    (subst (λ s. IsRefused (with_watch_by c.args.terms.now.nodes s) c.in_err-put_pair-2.field-0.0 c.args.terms.now c.put_pair-3.new.terms) c.in-Equating.ensures (third_fails c.args.terms.now list c.in-Equating.left c.in-Equating.right are c.in_ok-witness.witness c.in_ok-put_pair.field-0 c.put_pair.new.terms c.put_pair-2.new.terms c.in_err-put_pair-2.field-0.0 c.put_pair-3.new.terms
    c.in_ok-witness.ensures c.in_ok-put_pair.ensures c.in_err-put_pair-2.ensures))

pub returns : goal.returns
returns c =
    let list = c.len-count.ensures.terms.list in
    let are = equality_arrays c.args.terms.now.nodes list c.args.equality c.in-Equating.left c.in-Equating.right c.in-Equating.ensures c.requires.arrays in
    subst (λ s. c.put_pair-3.new.terms ≡ value_of (with_watch_by c.args.terms.now.nodes s) c.args.terms.now.limit) c.in-Equating.ensures
    (all_put c.args.terms.now list c.in-Equating.left c.in-Equating.right are c.in_ok-witness.witness c.in_ok-put_pair.field-0 c.in_ok-put_pair-2.field-0 c.put_pair.new.terms c.put_pair-2.new.terms c.put_pair-3.new.terms
    c.in_ok-witness.ensures c.in_ok-put_pair.ensures c.in_ok-put_pair-2.ensures)
