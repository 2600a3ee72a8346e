use Rattle.std.proofs.Common.{◌≡◌, Some, sym, ap, ◌∙◌}
use Rattle.std.specs.Prelude.{position}
use Rattle.smt_terms.specs.declared.sort.Sort.TheVariants as sort
use Rattle.smt_terms.specs.declared.node.Op.TheVariants.{Word}
use Rattle.smt_terms.specs.Nodes.{leaf}
use Rattle.smt_terms.specs.Same.{same_node}
use Rattle.smt_terms.specs.Terms.{sort_of}
use Rattle.access_walk.proofs.Found.{word_is}
use Rattle.access_walk.proofs.filling.word_with_bits.Goals as goal

pub returns-then-row-width : goal.returns-then-row-width
returns-then-row-width c =
    let wide = c.from.ensures in
    let node = c.leaf-node.ensures in
    let term = c.in-Some.ensures in
    let found : position (same_node (leaf (Word c.args.width c.args.number))) c.args.terms.now.nodes ≡ Some c.in-Some.term = cc in
    let sorted : sort_of c.args.terms.now.nodes c.in-Some.term ≡ sort.Word c.args.width = sym c.in-Word.ensures ∙ ap sort.Word c.if-found-width.true in
    word_is c.args.terms.now.nodes c.args.bits.now c.args.width c.args.number c.in-Some.term c.in-Some-of.row.now c.len-count.ensures.terms.list found sorted (sym c.in-Some-of.ensures) c.if-row-width.true
