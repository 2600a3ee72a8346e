use Rattle.std.proofs.Common.{sym, ap, ◌∙◌, subst}
use Rattle.std.specs.Prelude.{Contains}
use Rattle.std.specs.List.{AllByRecursion}
use Rattle.smt_terms.specs.declared.node.Node.{Node}
use Rattle.smt_terms.specs.Terms.{IsSort}
use Rattle.smt_terms.proofs.Widths.{sort_bounded}
use Rattle.model_build.specs.Drafts.{IsPlainTerm}
use Rattle.model_build.proofs.Given.{declared_sort, applied_arguments, applied_term}
use Rattle.model_build.proofs.entering.enter_own.Goals as goal

pub constant-value-requires-clause-widths : goal.constant-value-requires-clause-widths
constant-value-requires-clause-widths c =
    subst IsSort (declared_sort c.args.terms.now.nodes c.len-count.ensures.terms.list c.args.term c.in-Declaring.declaration c.in-Declaring.sort (sym c.in-Declaring.ensures))
    (sort_bounded c.args.terms.now.nodes c.len-count.ensures.terms.list c.args.term (c.requires.bits.held c.args.term c.requires.here))

pub argument_values-requires : goal.argument_values-requires
argument_values-requires c =
    subst (AllByRecursion (IsPlainTerm c.args.terms.now.nodes c.args.bits.now)) (sym (c.as_slice-args.ensures ∙ ap (λ (n : Node). n.args) c.node.ensures.node))
    (applied_arguments c.args.terms.now.nodes c.len-count.ensures.terms.list c.args.bits.now (Contains c.args.table.now.terms) c.requires.bits c.requires.closed.terms c.args.term c.requires.here c.requires.free
    c.in-Applying.declaration (sym c.in-Applying.ensures))

pub value_of-value-requires-clause-plain : goal.value_of-value-requires-clause-plain
value_of-value-requires-clause-plain c =
    (applied_term c.args.terms.now.nodes c.len-count.ensures.terms.list c.args.bits.now (Contains c.args.table.now.terms) c.requires.bits c.requires.closed.terms c.args.term c.requires.here c.requires.free
    c.in-Applying.declaration (sym c.in-Applying.ensures)).1

pub value_of-value-requires-clause-row : goal.value_of-value-requires-clause-row
value_of-value-requires-clause-row c =
    (applied_term c.args.terms.now.nodes c.len-count.ensures.terms.list c.args.bits.now (Contains c.args.table.now.terms) c.requires.bits c.requires.closed.terms c.args.term c.requires.here c.requires.free
    c.in-Applying.declaration (sym c.in-Applying.ensures)).2
