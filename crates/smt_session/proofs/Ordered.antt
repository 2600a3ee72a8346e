-- The terms of a session stay in order.
use Rattle.std.proofs.Common.{◌≡◌, ℕ, ◌<◌, List, [], ◌++◌, length, sym, ap, ◌∙◌, subst}
use Rattle.std.specs.Prelude.{All, is_some}
use Rattle.smt_terms.specs.declared.node.Node.{Node}
use Rattle.smt_terms.specs.Bits.{TermBits, image_in}
use Rattle.smt_terms.specs.Terms.{IsTermList, AreDifferent}
use Rattle.array_watches.specs.Needed.{watched}
use Rattle.watch_roots.specs.Roots.{AreLive}
use Rattle.script_state.specs.Readings.{Reading}
use Rattle.script_state.specs.declared.answer.Answer.{Answer}
use Rattle.script_state.specs.States.{StateValue, roots}
use Rattle.script_state.specs.Steps.{Step, step}
use Rattle.proof_log.specs.Stored.{LogValue, Stands}
use Rattle.proof_log.proofs.Standing.{stands_longer}
use Rattle.reached_images.specs.declared.plan.Planned.{Planned}
use Rattle.session_terms.specs.Placed.{has_bits, IsInOrder}
use Rattle.session_terms.specs.Walked.{IsEncoded}
use Rattle.session_terms.proofs.Bare.{bare_in_order}
use Rattle.session_terms.proofs.Placing.{placed_longer, placed_same}
use Rattle.session_terms.proofs.Planned.{plan_in_order}
use Rattle.smt_session.specs.Growing.{Grows, HasBits, LeadsTo}
use Rattle.smt_session.specs.Planning.{grown_by, AddsTerms, AreTakenOver, IsPlanned}
use Rattle.smt_session.specs.Sessions.{IsSession}
use Rattle.smt_session.proofs.Going.{goes_on}
use Rattle.smt_session.proofs.Leading.{behind_of, session_led}

-- over terms that begin with those
order_over : (nodes more over : List Node) (bits : List TermBits) → over ≡ nodes ++ more → IsInOrder nodes bits → IsInOrder over bits
order_over nodes more over bits e h = subst (λ ns. IsInOrder ns bits) (sym e) (placed_longer nodes more (has_bits bits) (image_in bits) h)

-- where terms are made
pub order_adds : (s s' : StateValue) (old new : LogValue) → AddsTerms s old s' new → IsInOrder s.terms.nodes old.bits → IsInOrder s'.terms.nodes new.bits
order_adds s s' old new adds h =
    let more = behind_of s s' old new adds.leads in
    placed_same s'.terms.nodes (has_bits old.bits) (has_bits new.bits) (image_in old.bits) (image_in new.bits) (λ t. ap is_some (adds.bits t)) adds.images
    (order_over s.terms.nodes more.0 s'.terms.nodes old.bits more.1 h)

-- where steps give no bits
pub order_grows : (s : StateValue) (old new : LogValue) → Stands s.terms.nodes old → Grows s old new → IsInOrder s.terms.nodes old.bits → IsInOrder s.terms.nodes new.bits
order_grows s old new stands g h = bare_in_order s.terms.nodes old new g.added stands g.stands g.entries g.bare h

-- where a plan is taken
pub order_taken : (s s' : StateValue) (old new : LogValue) (made : List Node) (from : List ℕ) (steps : List Planned) → IsSession s old → IsPlanned s.terms old made from steps → AreTakenOver (grown_by s.terms made) old.bits [] s old s' new steps → s'.terms.nodes ≡ s.terms.nodes ++ made
    → IsInOrder s.terms.nodes old.bits → IsInOrder s'.terms.nodes new.bits
order_taken s s' old new made from steps session planned over nodes h =
    let behind = session_led s s' old new session over.taken.leads in
    let all = s.terms.nodes ++ made in
    subst (λ ns. IsInOrder ns new.bits) (sym nodes)
    (plan_in_order all old new steps (subst IsTermList nodes behind.state.terms) (stands_longer s.terms.nodes made old session.stands) (subst (λ ns. Stands ns new) nodes behind.stands)
    (placed_longer s.terms.nodes made (has_bits old.bits) (image_in old.bits) h) planned.plan over.seen.known over.seen.becomes)

-- behind a command
pub order_still : (old new : StateValue) (log : LogValue) (a : Answer) (es : Reading) → IsSession old log → ◌≡◌ {A = Step} (step old es) (a, new) → IsInOrder old.terms.nodes log.bits → IsInOrder new.terms.nodes log.bits
order_still old new log a es h e order =
    let g = goes_on old new a es h.state e in
    order_over old.terms.nodes g.keeps.behind new.terms.nodes log.bits g.keeps.nodes order

-- ---- a check

-- behind the watches of a check more terms
pub made_more : (s t u : StateValue) (b c : LogValue) → t.terms.nodes ≡ watched s.terms.nodes (roots s) → LeadsTo t b u c → (more : List Node) × (u.terms.nodes ≡ watched s.terms.nodes (roots s) ++ more)
made_more s t u b c made l = let more = behind_of t u b c l in (more.0, more.1 ∙ ap (λ ns. ns ++ more.0) made)

-- a check that gave bits to what is live can be walked over
pub is_encoded : (s u : StateValue) (log : LogValue) (live : List ℕ) (more : List Node) → IsTermList u.terms.nodes → AreDifferent u.terms.nodes → u.terms.nodes ≡ watched s.terms.nodes (roots s) ++ more → All (λ t. t < length s.terms.nodes) (roots s)
    → Stands u.terms.nodes log → IsInOrder u.terms.nodes log.bits → AreLive (watched s.terms.nodes (roots s)) (roots s) live → All (HasBits log) live → IsEncoded s.terms.nodes u.terms.nodes log (roots s) live
is_encoded s u log live more list different begins held stands order are bits = record {
  list = list;
  different = different;
  more = more;
  begins = begins;
  held = held;
  stands = stands;
  order = order;
  all = are;
  bits = bits;
}
