use Rattle.access_walk.proofs.spares.number_of.Goals as goal

pub sort-requires : goal.sort-requires
sort-requires c = record { held = c.requires.bits.held c.args.term c.requires.here }

pub word_of-requires-clause-held : goal.word_of-requires-clause-held
word_of-requires-clause-held c = c.requires.bits.held c.args.term c.requires.here
