use Rattle.std.proofs.Common.{◌≡◌, Err, ap, ◌∙◌, subst}
use Rattle.std.proofs.lemmas.Result.{err_from_is_err_and}
use Rattle.smt_terms.specs.declared.sort.Sort.TheVariants as sort
use Rattle.smt_terms.specs.declared.node.Op.TheVariants.{Word}
use Rattle.smt_terms.specs.Nodes.{leaf}
use Rattle.array_watches.specs.Needed.{with_node}
use Rattle.array_watches.specs.Making.{IsPut, IsWellSorted, value_of}
use Rattle.array_watches.proofs.Growing.{same_long, same_terms}
use Rattle.array_watches.proofs.Sorted.{word_sorted}
use Rattle.array_watches.proofs.Putting.{put_fails}
use Rattle.array_watches.proofs.making.put_word.Goals as goal

pub put_node-requires-clause-sort : goal.put_node-requires-clause-sort
put_node-requires-clause-sort c =
    let wide = c.from.ensures in
    let made = c.leaf.ensures in
    let is : leaf (Word c.args.width c.args.number) ≡ c.leaf.result = cc in
    subst (IsWellSorted c.args.terms.now.nodes) is (sort.Word c.args.width, word_sorted c.args.terms.now.nodes c.args.width c.args.number c.requires.wide.0 c.requires.wide.1 c.requires.fits)

pub returns-in_err-put_node : goal.returns-in_err-put_node
returns-in_err-put_node c =
    let wide = c.from.ensures in
    let made = c.leaf.ensures in
    let is : c.leaf.result ≡ leaf (Word c.args.width c.args.number) = cc in
    let goal = with_node c.args.terms.now.nodes (leaf (Word c.args.width c.args.number)) in
    let p = err_from_is_err_and c.from_residual.result c.from_residual.ensures.1 in
    rw (p.1, p.2)
    (put_fails goal c.args.terms.now c.args.terms.now (leaf (Word c.args.width c.args.number)) c.in_err-put_node.field-0.0 c.put_node.new.terms (same_terms c.args.terms.now)
    (subst (λ n. IsPut c.args.terms.now n (Err c.in_err-put_node.field-0.0) c.put_node.new.terms) is c.in_err-put_node.ensures) (same_long goal))

pub returns : goal.returns
returns c =
    let wide = c.from.ensures in
    let made = c.leaf.ensures in
    let is : c.leaf.result ≡ leaf (Word c.args.width c.args.number) = cc in
    c.in_ok-put_node.ensures.1 ∙ ap (λ n. value_of (with_node c.args.terms.now.nodes n) c.args.terms.now.limit) is
