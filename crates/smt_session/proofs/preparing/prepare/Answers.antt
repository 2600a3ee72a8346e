use Rattle.std.proofs.Common.{sym, subst}
use Rattle.std.specs.Prelude.{All, IsSome}
use Rattle.scope_selectors.specs.declared.live.Live.{Live}
use Rattle.script_state.specs.States.{roots}
use Rattle.proof_log.specs.Stored.{selector_in}
use Rattle.smt_session.specs.Growing.{HasBits}
use Rattle.smt_session.proofs.Leading.{roots_led}
use Rattle.smt_session.proofs.Ordered.{order_grows}
use Rattle.smt_session.proofs.Plans.{among_all}
use Rattle.smt_session.proofs.Prepared.{have_selectors, live_bits, selectors_reached, read_led, prepared, session_prepared, encoded_prepared, roots_among}
use Rattle.smt_session.proofs.Resting.{all_led}
use Rattle.smt_session.proofs.preparing.prepare.Goals as goal

pub give-requires-clause-bits : goal.give-requires-clause-bits
give-requires-clause-bits c =
    rw (roots_led c.args.state.now c.encode.new.state c.args.workspace.now.log c.encode.new.workspace.log c.in_ok-live.ensures.prepares.leads)
    (among_all (HasBits c.encode.new.workspace.log) c.in_ok-live.live.items (roots c.args.state.now) c.in_ok-live.ensures.bits c.in_ok-live.ensures.live.own)

pub reach_by_images-requires-clause-session : goal.reach_by_images-requires-clause-session
reach_by_images-requires-clause-session c =
    session_prepared c.args.state.now c.encode.new.state c.args.workspace.now.log c.encode.new.workspace.log c.give.new.log c.requires.kept.session c.in_ok-live.ensures.prepares c.in_ok-given.ensures.grows

pub reach_by_images-requires-clause-order : goal.reach_by_images-requires-clause-order
reach_by_images-requires-clause-order c = order_grows c.encode.new.state c.encode.new.workspace.log c.give.new.log c.in_ok-live.ensures.prepares.leads.stands c.in_ok-given.ensures.grows c.in_ok-live.ensures.order

pub reach_by_images-requires-clause-bits : goal.reach_by_images-requires-clause-bits
reach_by_images-requires-clause-bits c =
    rw c.as_slice.ensures.value
    (live_bits c.encode.new.state c.encode.new.workspace.log c.give.new.log c.in_ok-live.live.items c.in_ok-live.ensures.prepares.leads.stands c.in_ok-given.ensures.grows c.in_ok-live.ensures.bits)

pub update-requires-clause-listed : goal.update-requires-clause-listed
update-requires-clause-listed c =
    rw c.terms-terms.ensures.terms
    (session_prepared c.args.state.now c.encode.new.state c.args.workspace.now.log c.encode.new.workspace.log c.give.new.log c.requires.kept.session c.in_ok-live.ensures.prepares c.in_ok-given.ensures.grows).state.terms

pub update-requires-clause-stands : goal.update-requires-clause-stands
update-requires-clause-stands c = rw c.terms-terms.ensures.terms c.in_ok-given.ensures.grows.stands

pub update-requires-clause-read : goal.update-requires-clause-read
update-requires-clause-read c =
    rw (c.terms-terms.ensures.terms, c.in_ok-live.ensures.steps)
    (read_led c.args.state.now c.encode.new.state c.args.workspace.now.log c.give.new.log c.args.workspace.now.steps c.requires.kept.session
    (prepared c.args.state.now c.encode.new.state c.args.workspace.now.log c.encode.new.workspace.log c.give.new.log c.requires.kept.session c.in_ok-live.ensures.prepares c.in_ok-given.ensures.grows).leads c.requires.kept.read)

pub positions-requires-clause-closed : goal.positions-requires-clause-closed
positions-requires-clause-closed c = rw (c.terms-terms.ensures.terms, c.terms-reached.ensures.terms) c.in_ok-reach_by_images.ensures.closed

pub positions-requires-clause-selectors : goal.positions-requires-clause-selectors
positions-requires-clause-selectors c =
    subst (All (λ (a : Live). IsSome (selector_in c.give.new.log.selectors a.assertion))) (sym c.live.ensures.live)
    (have_selectors c.give.new.log c.encode.new.state.scopes.live c.in_ok-given.ensures.given.selectors c.in_ok-given.ensures.given.chosen)

pub positions-requires-clause-reached : goal.positions-requires-clause-reached
positions-requires-clause-reached c =
    let session = session_prepared c.args.state.now c.encode.new.state c.args.workspace.now.log c.encode.new.workspace.log c.give.new.log c.requires.kept.session c.in_ok-live.ensures.prepares c.in_ok-given.ensures.grows in
    let among = rw c.as_slice.ensures.value at c.in_ok-reach_by_images.ensures.from in
    let from = roots_among c.args.state.now c.encode.new.state c.args.workspace.now.log c.encode.new.workspace.log c.give.new.log c.requires.kept.session c.in_ok-live.ensures.prepares c.in_ok-given.ensures.grows c.in_ok-live.live.items c.reach_by_images.new.reached c.in_ok-live.ensures.live among in
    rw (c.live.ensures.live, c.terms-reached.ensures.terms) (selectors_reached c.encode.new.state c.give.new.log c.reach_by_images.new.reached session from)

pub returns-clause-prepares : goal.returns-clause-prepares
returns-clause-prepares c =
    prepared c.args.state.now c.encode.new.state c.args.workspace.now.log c.encode.new.workspace.log c.give.new.log c.requires.kept.session c.in_ok-live.ensures.prepares c.in_ok-given.ensures.grows

pub returns-clause-kept : goal.returns-clause-kept
returns-clause-kept c = record {
  session = session_prepared c.args.state.now c.encode.new.state c.args.workspace.now.log c.encode.new.workspace.log c.give.new.log c.requires.kept.session c.in_ok-live.ensures.prepares c.in_ok-given.ensures.grows;
  order = order_grows c.encode.new.state c.encode.new.workspace.log c.give.new.log c.in_ok-live.ensures.prepares.leads.stands c.in_ok-given.ensures.grows c.in_ok-live.ensures.order;
  read = rw c.positions.ensures.same (rw c.terms-terms.ensures.terms at c.update.ensures.read);
  resting =
      rw c.in_ok-live.ensures.searches
      (all_led c.args.state.now c.encode.new.state c.args.workspace.now.log c.give.new.log c.args.workspace.now.searches.items c.requires.kept.session.stands
      (prepared c.args.state.now c.encode.new.state c.args.workspace.now.log c.encode.new.workspace.log c.give.new.log c.requires.kept.session c.in_ok-live.ensures.prepares c.in_ok-given.ensures.grows).leads c.requires.kept.resting);
}

pub returns-clause-ready : goal.returns-clause-ready
returns-clause-ready c =
    let order = order_grows c.encode.new.state c.encode.new.workspace.log c.give.new.log c.in_ok-live.ensures.prepares.leads.stands c.in_ok-given.ensures.grows c.in_ok-live.ensures.order in
    let among = rw c.as_slice.ensures.value at c.in_ok-reach_by_images.ensures.from in
    record {
      live = c.in_ok-live.live.items;
      encoded =
          encoded_prepared c.args.state.now c.encode.new.state c.args.workspace.now.log c.encode.new.workspace.log c.give.new.log c.requires.kept.session c.in_ok-live.ensures.prepares c.in_ok-given.ensures.grows
          c.in_ok-live.live.items c.in_ok-live.ensures.made.0 (rw c.terms.ensures.terms at c.len-count.ensures.terms.different) c.in_ok-live.ensures.made.1 order c.in_ok-live.ensures.live c.in_ok-live.ensures.bits;
      enough = record {
        reached = c.reach_by_images.new.reached;
        among = among;
        opening = rw (c.terms-terms.ensures.terms, c.terms-reached.ensures.terms) at c.in_ok-steps.ensures.opening;
        selectors = rw c.live.ensures.live at c.in_ok-steps.ensures.selectors;
      };
    }
