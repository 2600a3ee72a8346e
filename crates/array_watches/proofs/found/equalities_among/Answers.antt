use Rattle.array_watches.specs.Needed.{is_array_equality}
use Rattle.array_watches.proofs.Members.{filter_step, filter_end}
use Rattle.array_watches.proofs.found.equalities_among.Goals as goal

pub loop-term-preserved : goal.loop-term-preserved
loop-term-preserved c =
    filter_step (is_array_equality c.args.terms.now.nodes) c.loop-term.found.items c.args.among.now c.loop-term.term-index 0 c.loop-term-test.true c.loop-term.invariant
    c.is_array_equality.result c.is_array_equality.ensures c.put_if.new.found.items c.in_ok-put_if.ensures

pub returns : goal.returns
returns c = filter_end (is_array_equality c.args.terms.now.nodes) c.loop-term.found.items c.args.among.now c.loop-term.term-index c.loop-term-test.false c.loop-term.invariant
