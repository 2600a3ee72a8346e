use Rattle.std.proofs.Common.{rules, ◌≡◌, Some, sym, ap, ◌∙◌, subst}
use Rattle.std.specs.Option.{option_copied}
use Rattle.smt_terms.specs.declared.node.Node.{Node}
use Rattle.smt_terms.specs.Bits.{bits_in}
use Rattle.cube_search.specs.Running.{valuation_of}
use Rattle.word_models.proofs.Leaves.{leaf_there, leaf_sorted, leaf_wide, now_read, still_read}
use Rattle.word_models.proofs.model.read_step.Goals as goal

pub node-requires : goal.node-requires
node-requires c =
    let there = sym c.entry.ensures ∙ ap option_copied c.in-Some-Leaf.is ∙ ap Some c.in-Some-Leaf.field-0-is in
    record { held = (leaf_there c.args.terms.now.nodes c.args.log.now c.args.at c.in-Some-Leaf.term c.requires.terms.list c.requires.stands there).0 }

pub unwrap-row-requires : goal.unwrap-row-requires
unwrap-row-requires c =
    let there = sym c.entry.ensures ∙ ap option_copied c.in-Some-Leaf.is ∙ ap Some c.in-Some-Leaf.field-0-is in
    let has = (leaf_there c.args.terms.now.nodes c.args.log.now c.args.at c.in-Some-Leaf.term c.requires.terms.list c.requires.stands there).1 in
    search (rules, has)

pub value_of-requires-clause-sort : goal.value_of-requires-clause-sort
value_of-requires-clause-sort c =
    let there = sym c.entry.ensures ∙ ap option_copied c.in-Some-Leaf.is ∙ ap Some c.in-Some-Leaf.field-0-is in
    let within = (leaf_there c.args.terms.now.nodes c.args.log.now c.args.at c.in-Some-Leaf.term c.requires.terms.list c.requires.stands there).0 in
    leaf_sorted c.args.terms.now.nodes c.in-Some-Leaf.term c.in-Constant.declaration c.in-Constant.sort c.requires.terms.list within (ap (λ (n : Node). n.op) (sym c.node.ensures.node) ∙ c.in-Constant.is)

pub value_of-requires-clause-long : goal.value_of-requires-clause-long
value_of-requires-clause-long c =
    let there = sym c.entry.ensures ∙ ap option_copied c.in-Some-Leaf.is ∙ ap Some c.in-Some-Leaf.field-0-is in
    let within = (leaf_there c.args.terms.now.nodes c.args.log.now c.args.at c.in-Some-Leaf.term c.requires.terms.list c.requires.stands there).0 in
    let row = subst (λ b. bits_in b c.in-Some-Leaf.term ≡ Some c.unwrap-row.result.now) c.bits.ensures (sym c.of.ensures ∙ ap option_copied c.unwrap-row.ensures) in
    leaf_wide c.args.terms.now.nodes c.args.log.now c.in-Some-Leaf.term c.in-Constant.declaration c.in-Constant.sort c.unwrap-row.result.now c.requires.terms.list c.requires.stands within
    (ap (λ (n : Node). n.op) (sym c.node.ensures.node) ∙ c.in-Constant.is) row

pub returns-clause-read : goal.returns-clause-read
returns-clause-read c =
    let there = sym c.entry.ensures ∙ ap option_copied c.in-Some-Leaf.is ∙ ap Some c.in-Some-Leaf.field-0-is in
    let row = subst (λ b. bits_in b c.in-Some-Leaf.term ≡ Some c.unwrap-row.result.now) c.bits.ensures (sym c.of.ensures ∙ ap option_copied c.unwrap-row.ensures) in
    now_read c.args.terms.now c.args.log.now (valuation_of c.args.search.now) c.args.at c.in-Some-Leaf.term c.in-Constant.declaration c.in-Constant.sort c.requires.terms c.requires.stands there
    (ap (λ (n : Node). n.op) (sym c.node.ensures.node) ∙ c.in-Constant.is) c.unwrap-row.result.now row c.in-Some.value c.in-Some.ensures c.args.found.now c.insert.new.self c.in_ok-insert.ensures.updates.0

pub returns-clause-kept : goal.returns-clause-kept
returns-clause-kept c done =
    let there = sym c.entry.ensures ∙ ap option_copied c.in-Some-Leaf.is ∙ ap Some c.in-Some-Leaf.field-0-is in
    let row = subst (λ b. bits_in b c.in-Some-Leaf.term ≡ Some c.unwrap-row.result.now) c.bits.ensures (sym c.of.ensures ∙ ap option_copied c.unwrap-row.ensures) in
    still_read c.args.terms.now c.args.log.now (valuation_of c.args.search.now) c.args.at c.in-Some-Leaf.term c.in-Constant.declaration c.in-Constant.sort c.requires.terms c.requires.stands there
    (ap (λ (n : Node). n.op) (sym c.node.ensures.node) ∙ c.in-Constant.is) c.unwrap-row.result.now row c.in-Some.value c.in-Some.ensures c.args.found.now c.insert.new.self c.in_ok-insert.ensures.updates.0
