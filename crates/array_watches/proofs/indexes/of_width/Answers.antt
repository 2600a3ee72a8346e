use Rattle.array_watches.specs.Needed.{has_width}
use Rattle.array_watches.proofs.Members.{filter_step, filter_end}
use Rattle.array_watches.proofs.indexes.of_width.Goals as goal

pub loop-term-preserved : goal.loop-term-preserved
loop-term-preserved c =
    filter_step (has_width c.args.terms.now.nodes c.args.width) c.loop-term.found.items c.args.among.now c.loop-term.term-index 0 c.loop-term-test.true c.loop-term.invariant
    c.has_width.result c.has_width.ensures c.put_if.new.found.items c.in_ok-put_if.ensures

pub returns : goal.returns
returns c = filter_end (has_width c.args.terms.now.nodes c.args.width) c.loop-term.found.items c.args.among.now c.loop-term.term-index c.loop-term-test.false c.loop-term.invariant
