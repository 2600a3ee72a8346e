use Rattle.proof_file.proofs.Reading.{selector_there, named_none, named_one}
use Rattle.proof_file.proofs.noting.read_entry.Goals as goal

pub returns-in-None : goal.returns-in-None
returns-in-None c = named_none c.args.terms.now.nodes c.args.log.now.entries c.args.selected.now.items c.args.entry.now c.in-None.ensures

pub unwrap-literal-requires : goal.unwrap-literal-requires
unwrap-literal-requires c = selector_there c.args.terms.now.nodes c.args.log.now c.args.entry.now c.in-Some.assertion c.selector.result c.requires.stands c.requires.held c.in-Some.ensures c.selector.ensures

pub returns-in_ok-name-in-Some : goal.returns-in_ok-name-in-Some
returns-in_ok-name-in-Some c =
    named_one c.args.terms.now.nodes c.args.log.now c.args.entry.now c.in-Some.assertion c.variable.result c.selector.result c.unwrap-literal.result c.args.selected.now.items c.name.new.selected.items
    c.requires.stands c.requires.held c.in-Some.ensures c.selector.ensures c.unwrap-literal.ensures c.variable.ensures.value c.in_ok-name-in-Some.ensures
