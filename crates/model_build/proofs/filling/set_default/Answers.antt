use Rattle.std.proofs.Common.{◌∙◌}
use Rattle.std.proofs.lemmas.Result.{on_ok_weaker}
use Rattle.bit_blast.specs.Assigned.{assigned}
use Rattle.model_build.proofs.Given.{word_within, index_wide, default_set}
use Rattle.model_build.proofs.filling.set_default.Goals as goal

pub word_of-at-requires-clause-held : goal.word_of-at-requires-clause-held
word_of-at-requires-clause-held c = word_within c.args.terms.now.nodes c.args.row.index c.requires.access.index c.requires.access.at

pub word_of-default-requires-clause-held : goal.word_of-default-requires-clause-held
word_of-default-requires-clause-held c = word_within c.args.terms.now.nodes c.args.row.value c.requires.access.element c.requires.access.value

pub constant-array-requires-clause-index : goal.constant-array-requires-clause-index
constant-array-requires-clause-index c =
    index_wide c.args.terms.now.nodes c.len-count.ensures.terms.list c.args.bits.now (assigned c.args.assignment.now) c.args.table.now.terms c.args.row c.requires.access c.args.declaration c.args.index c.args.element c.requires.shape

pub returns : goal.returns
returns c =
    on_ok_weaker c.set.result
    (default_set c.args.terms.now.nodes c.len-count.ensures.terms.list c.args.bits.now (assigned c.args.assignment.now) c.args.table.now.terms c.args.row c.requires.access c.args.declaration c.args.index c.args.element c.requires.shape
    c.args.table.now.spares c.args.draft.now c.set.new.self c.in-Some.spare c.word_of-at.result c.word_of-default.result c.in-Some.ensures (c.if-spare-value.false ∙ c.value.ensures) c.word_of-at.ensures c.word_of-default.ensures)
    (rw c.constant-array.ensures at c.set.ensures)
