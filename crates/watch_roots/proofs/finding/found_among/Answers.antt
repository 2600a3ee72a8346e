use Rattle.watch_roots.proofs.Found.{found_all, found_more}
use Rattle.watch_roots.proofs.finding.found_among.Goals as goal

pub terms-preserved : goal.terms-preserved
terms-preserved c =
    found_more c.args.terms.now.nodes c.args.among.now c.terms.term-index 0 c.terms.widths.items c.terms.found.items c.push_for.new.widths.items c.push_for.new.found.items c.terms-test.true c.terms.invariant
    c.in_ok-push_for.ensures.kept c.in_ok-push_for.ensures.selects c.in_ok-push_for.ensures.words c.in_ok-push_for.ensures.scalars c.in_ok-push_for.ensures.widths

pub returns : goal.returns
returns c = found_all c.args.terms.now.nodes c.args.among.now c.terms.term-index c.terms.widths.items c.terms.found.items c.terms-test.false c.terms.invariant
