use Rattle.std.proofs.Common.{length}
use Rattle.term_reach.proofs.Ways.{arguments_acyclic, arguments_held}
use Rattle.term_reach.proofs.Tables.{once_few}
use Rattle.term_reach.proofs.walk.reach_by_arguments.Goals as goal

pub reach-requires-clause-acyclic : goal.reach-requires-clause-acyclic
reach-requires-clause-acyclic c = arguments_acyclic c.args.terms.now.nodes c.len-count.ensures.terms.list

pub returns-clause-held : goal.returns-clause-held
returns-clause-held c = arguments_held c.args.terms.now.nodes c.args.roots.now c.reach.new.reached c.len-count.ensures.terms.list c.requires.held c.in_ok-reach.ensures

pub returns-clause-few : goal.returns-clause-few
returns-clause-few c =
    once_few c.reach.new.reached (length c.args.terms.now.nodes) c.in_ok-reach.ensures.once
    (arguments_held c.args.terms.now.nodes c.args.roots.now c.reach.new.reached c.len-count.ensures.terms.list c.requires.held c.in_ok-reach.ensures)
