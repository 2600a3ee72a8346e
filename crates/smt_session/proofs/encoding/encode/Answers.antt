use Rattle.std.proofs.Common.{◌<◌, length, sym, ap, ◌∙◌, subst}
use Rattle.std.specs.Prelude.{All}
use Rattle.smt_terms.specs.Terms.{TermsValue}
use Rattle.array_watches.specs.Needed.{watched}
use Rattle.watch_roots.specs.Roots.{AreLive, IsScalar}
use Rattle.script_state.specs.States.{roots}
use Rattle.smt_session.proofs.Leading.{session_led}
use Rattle.smt_session.proofs.Ordered.{made_more, order_adds}
use Rattle.smt_session.proofs.Roots.{roots_held}
use Rattle.smt_session.proofs.Watched.{prepares_watched, roots_scalars, scalars_held, scalars_plain}
use Rattle.smt_session.proofs.encoding.encode.Goals as goal

pub watch-requires-clause-held : goal.watch-requires-clause-held
watch-requires-clause-held c =
    subst (All (λ t. t < length c.args.state.now.terms.nodes)) (sym (c.as_slice.ensures.value ∙ c.in_ok-roots.ensures)) (roots_held c.args.state.now c.requires.session.state)

pub watch-requires-clause-fits : goal.watch-requires-clause-fits
watch-requires-clause-fits c = rw (c.as_slice.ensures.value, c.in_ok-roots.ensures) c.requires.fits

pub live_terms-requires : goal.live_terms-requires
live_terms-requires c =
    subst (λ (v : TermsValue). All (IsScalar v.nodes) c.as_slice-2.result.now) (sym c.terms.ensures.terms)
    (subst (All (IsScalar c.watch.new.state.terms.nodes)) (sym (c.as_slice-2.ensures.value ∙ c.in_ok-roots.ensures))
    (roots_scalars c.args.state.now c.watch.new.state c.args.workspace.now.log c.watch.new.workspace.log c.requires.session.state c.in_ok-watch.ensures.adds))

pub rewrite-requires-clause-session : goal.rewrite-requires-clause-session
rewrite-requires-clause-session c = session_led c.args.state.now c.watch.new.state c.args.workspace.now.log c.watch.new.workspace.log c.requires.session c.in_ok-watch.ensures.adds.leads

pub rewrite-requires-clause-held : goal.rewrite-requires-clause-held
rewrite-requires-clause-held c =
    rw c.as_slice-3.ensures.value
    (scalars_held c.watch.new.state.terms.nodes c.in_ok-live.live.items
    (subst (λ (v : TermsValue). All (IsScalar v.nodes) c.in_ok-live.live.items) c.terms.ensures.terms c.in_ok-live.ensures.scalars))

pub rewrite-requires-clause-plain : goal.rewrite-requires-clause-plain
rewrite-requires-clause-plain c =
    rw c.as_slice-3.ensures.value
    (scalars_plain c.watch.new.state.terms.nodes c.in_ok-live.live.items
    (subst (λ (v : TermsValue). All (IsScalar v.nodes) c.in_ok-live.live.items) c.terms.ensures.terms c.in_ok-live.ensures.scalars))

pub returns-clause-prepares : goal.returns-clause-prepares
returns-clause-prepares c =
    let made = c.in_ok-watch.ensures.made ∙ ap (watched c.args.state.now.terms.nodes) (c.as_slice.ensures.value ∙ c.in_ok-roots.ensures) in
    prepares_watched c.args.state.now c.watch.new.state c.rewrite.new.state c.args.workspace.now.log c.watch.new.workspace.log c.rewrite.new.workspace.log c.requires.session.state c.in_ok-watch.ensures.adds made c.in_ok-rewrite.ensures.encodes

pub returns-clause-live : goal.returns-clause-live
returns-clause-live c =
    let made = c.in_ok-watch.ensures.made ∙ ap (watched c.args.state.now.terms.nodes) (c.as_slice.ensures.value ∙ c.in_ok-roots.ensures) in
    let from = c.as_slice-2.ensures.value ∙ c.in_ok-roots.ensures in
    subst (λ ns. AreLive ns (roots c.args.state.now) c.in_ok-live.live.items) (ap (λ (v : TermsValue). v.nodes) c.terms.ensures.terms ∙ made)
    (subst (λ l. AreLive c.terms.result.now.nodes l c.in_ok-live.live.items) from c.in_ok-live.ensures)

pub returns-clause-bits : goal.returns-clause-bits
returns-clause-bits c = rw c.as_slice-3.ensures.value at c.in_ok-rewrite.ensures.roots

pub rewrite-requires-clause-order : goal.rewrite-requires-clause-order
rewrite-requires-clause-order c = order_adds c.args.state.now c.watch.new.state c.args.workspace.now.log c.watch.new.workspace.log c.in_ok-watch.ensures.adds c.requires.order

pub returns-clause-made : goal.returns-clause-made
returns-clause-made c =
    let made = c.in_ok-watch.ensures.made ∙ ap (watched c.args.state.now.terms.nodes) (c.as_slice.ensures.value ∙ c.in_ok-roots.ensures) in
    made_more c.args.state.now c.watch.new.state c.rewrite.new.state c.watch.new.workspace.log c.rewrite.new.workspace.log made c.in_ok-rewrite.ensures.encodes.leads
