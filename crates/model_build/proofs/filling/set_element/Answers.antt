use Rattle.std.proofs.lemmas.Result.{on_ok_weaker}
use Rattle.bit_blast.specs.Assigned.{assigned}
use Rattle.model_build.proofs.Given.{word_within, takes_element, element_set}
use Rattle.model_build.proofs.filling.set_element.Goals as goal

pub word_of-at-requires-clause-held : goal.word_of-at-requires-clause-held
word_of-at-requires-clause-held c = word_within c.args.terms.now.nodes c.args.row.index c.requires.access.index c.requires.access.at

pub word_of-value-requires-clause-held : goal.word_of-value-requires-clause-held
word_of-value-requires-clause-held c = word_within c.args.terms.now.nodes c.args.row.value c.requires.access.element c.requires.access.value

pub enter-requires : goal.enter-requires
enter-requires c =
    takes_element c.args.terms.now.nodes c.len-count.ensures.terms.list c.args.bits.now (assigned c.args.assignment.now) c.args.table.now.terms c.args.row c.requires.access c.args.declaration c.args.index c.args.element c.requires.shape
    c.args.draft.now c.word_of-at.result c.word_of-value.result c.requires.ready c.word_of-at.ensures c.word_of-value.ensures

pub returns : goal.returns
returns c =
    on_ok_weaker c.enter.result
    (element_set c.args.terms.now.nodes c.len-count.ensures.terms.list c.args.bits.now (assigned c.args.assignment.now) c.args.table.now.terms c.args.row c.requires.access c.args.declaration c.args.index c.args.element c.requires.shape
    c.args.draft.now c.enter.new.self c.word_of-at.result c.word_of-value.result c.word_of-at.ensures c.word_of-value.ensures)
    c.enter.ensures
