use Rattle.array_watches.specs.Needed.{index_at}
use Rattle.array_watches.proofs.Members.{find_step, find_end}
use Rattle.array_watches.proofs.indexes.indexes_among.Goals as goal

pub loop-term-preserved : goal.loop-term-preserved
loop-term-preserved c =
    find_step (index_at c.args.terms.now.nodes) c.loop-term.found.items c.args.among.now c.loop-term.term-index 0 c.loop-term-test.true c.loop-term.invariant
    c.in_ok-index.index c.in_ok-index.ensures c.put.new.list.items c.in_ok-put.ensures

pub returns : goal.returns
returns c = find_end (index_at c.args.terms.now.nodes) c.loop-term.found.items c.args.among.now c.loop-term.term-index c.loop-term-test.false c.loop-term.invariant
