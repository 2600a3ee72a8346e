use Rattle.bit_blast.specs.Assigned.{assigned}
use Rattle.access_tables.proofs.Rows.{word_long, word_is_value}
use Rattle.access_tables.proofs.values.word_of.Goals as goal

pub word_of-requires : goal.word_of-requires
word_of-requires c = word_long c.args.terms.now.nodes c.args.bits.now c.args.term c.len-count.ensures.terms.list c.requires.held c.requires.sort c.requires.row

pub returns : goal.returns
returns c = word_is_value c.args.terms.now.nodes c.args.bits.now (assigned c.args.assignment.now) c.args.term c.word_of.result c.requires.sort c.requires.row c.word_of.ensures
