use Rattle.std.proofs.Common.{[], refl, rules}
use Rattle.cube_workers.proofs.Answering.{none_rest}
use Rattle.session_terms.proofs.Bare.{empty_in_order}
use Rattle.smt_session.proofs.session.Session.new.Goals as goal

pub invariant_of-result : goal.invariant_of-result
invariant_of-result c = record {
  kept = record {
    session = search rules;
    order = search (rules, empty_in_order c.in_ok-parts.parts.value.state.terms.nodes c.in_ok-log.log (c.in_ok-log.ensures.stands c.in_ok-parts.parts.value.state.terms.nodes) c.in_ok-log.ensures.entries);
    read = search (rules, c.in_ok-steps.ensures c.in_ok-parts.parts.value.state.terms.nodes c.in_ok-log.log.entries);
    resting = search (rules, none_rest c.in_ok-log.log [] refl);
  };
  file = search (rules, c.new-file.ensures.file c.in_ok-parts.parts.value.state.terms.nodes);
  settings = search rules;
  sorted = search rules;
}
