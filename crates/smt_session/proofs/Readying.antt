-- What a check has made ready stays so where chains come, and is enough for a search with functions and arrays.
use mathlib.Core.Path.{fun_ext}
use Rattle.std.proofs.Common.{◌≡◌, ℕ, ◌<◌, true, List, [], ◌∷◌, ◌++◌, length, Option, Some, None, refl, sym, ◌∙◌, subst, inl, inr, ⊎_elim, arith}
use Rattle.std.specs.Prelude.{Contains}
use Rattle.std.specs.List.{AllByRecursion}
use Rattle.std.proofs.lemmas.List.Elements.{All-contains, All-weaker}
use Rattle.smt_terms.specs.declared.node.Node.{Node}
use Rattle.smt_terms.specs.Bits.{image_in}
use Rattle.smt_terms.specs.Terms.{IsTermList}
use Rattle.scope_selectors.specs.declared.live.Live.{Live}
use Rattle.script_state.specs.States.{StateValue, roots}
use Rattle.term_reach.specs.Reach.{IsClosed, IsReached}
use Rattle.term_reach.proofs.Ways.{reached_closed}
use Rattle.proof_log.specs.declared.entry.Entry.{Entry}
use Rattle.proof_log.specs.declared.entry.Entry.TheVariants as step
use Rattle.proof_log.specs.Assigned.{AreClosed}
use Rattle.proof_log.specs.Boards.{IsOfSearch, Grows as Prolongs}
use Rattle.proof_log.specs.Diaries.{is_chain}
use Rattle.proof_log.specs.Logs.{entry_at, state_of, IsLog}
use Rattle.proof_log.specs.Stored.{LogValue, Stands, IsKept}
use Rattle.proof_log.proofs.Growth.{entry_within, entry_stays}
use Rattle.proof_log.proofs.Standing.{stands_over}
use Rattle.cube_search.specs.Keeping.{is_theory}
use Rattle.cube_workers.proofs.Cubes.{grown_chain}
use Rattle.access_tables.specs.Encoded.{HaveBits}
use Rattle.access_tables.specs.Leading.{leads}
use Rattle.access_walk.specs.Walked.{IsWalkable}
use Rattle.array_images.specs.Covered.{IsLed}
use Rattle.array_images.specs.Walking.{IsRewritten}
use Rattle.reached_steps.specs.Opening.{AreOpeningSteps, AreTaken, IsSearchStep}
use Rattle.reached_steps.proofs.Separate.{openings_are_apart}
use Rattle.reached_steps.proofs.Taken.{taken_are_opening}
use Rattle.opening_positions.specs.Holding.{IsHeldAssertion}
use Rattle.session_terms.specs.Placed.{by_images}
use Rattle.session_terms.proofs.Walked as walked
use Rattle.session_walks.specs.Words.{HaveWordBits}
use Rattle.theory_search.specs.Theories as theory
use Rattle.theory_cubes.specs.Searched.{AreApart}
use Rattle.smt_session.specs.Growing.{Grows}
use Rattle.smt_session.specs.Searched.{IsReady}
use Rattle.smt_session.specs.Sessions.{IsSession}
use Rattle.smt_session.proofs.Ordered.{order_grows}
use Rattle.smt_session.proofs.Prepared.{live_bits}

-- ---- where chains come

no_chain : (e : Entry) → is_chain (Some e) ≡ true → is_theory (Some e) ≡ true → ⊥
no_chain (step.Equal t u) chain k = let f : ⊥ = cc in f
no_chain (step.Lemma l) chain k = let f : ⊥ = cc in f
no_chain e chain k = let f : ⊥ = cc in f

chains_are_steps : (more : List Entry) → AllByRecursion IsOfSearch more → AllByRecursion IsSearchStep more
chains_are_steps [] h = tt
chains_are_steps (e ∷ more) h = (inl h.0, chains_are_steps more h.1)

module _ (log more : List Entry) (chains : AllByRecursion IsOfSearch more) where
  chain_at : (p : ℕ) (e : Entry) → length log < p → entry_at (log ++ more) p ≡ Some e → is_chain (Some e) ≡ true
  chain_at p e lt at = grown_chain log (log ++ more) p e (record { more = more; is = refl; of_search = chains }) (omega (arith, lt)) at

  no_theory : (p : ℕ) → length log < p → is_theory (entry_at (log ++ more) p) ≡ true → ⊥
  no_theory p lt h = go (entry_at (log ++ more) p) refl h
    where
      go : (o : Option Entry) → entry_at (log ++ more) p ≡ o → is_theory o ≡ true → ⊥
      go None at k = let f : ⊥ = cc in f
      go (Some e) at k = no_chain e (chain_at p e lt at) k

  -- the positions are enough as they are
  taken : (nodes : List Node) (reached positions : List ℕ) → AreTaken nodes log more reached positions positions
  taken nodes reached positions = record {
    steps = chains_are_steps more chains;
    pairs = λ p t u lt at. absurd (no_chain (step.Equal t u) (chain_at p (step.Equal t u) lt at) refl);
    lemmas = λ p k lemma c l lt at found among. absurd (no_chain (step.Lemma lemma) (chain_at p (step.Lemma lemma) lt at) refl);
    kept = λ p held. held;
    all = λ p lt k. absurd (no_theory p lt k);
    only = λ p held. inl held;
  }

opening_stays : (nodes : List Node) (log log' : List Entry) (reached positions : List ℕ) → IsTermList nodes → IsLog nodes log' → Prolongs log log' → AreOpeningSteps nodes log reached positions → AreOpeningSteps nodes log' reached positions
opening_stays nodes log log' reached positions list is g h =
    subst (λ l. AreOpeningSteps nodes l reached positions) (sym g.is)
    (taken_are_opening nodes log g.more reached positions positions list (subst (IsLog nodes) g.is is) h (taken log g.more g.of_search nodes reached positions))

held_stays : (log log' : List Entry) (positions : List ℕ) (a : Live) → Prolongs log log' → IsHeldAssertion log positions a → IsHeldAssertion log' positions a
held_stays log log' positions a g h =
    let at = h.1.1 in
    (h.0, (h.1.0, entry_stays log log' h.0 g (entry_within log h.0 (step.Selector a.assertion h.1.0) at) ∙ at), h.2)

-- what is ready stays so
pub ready_stays : (old : List Node) (s : StateValue) (log new : LogValue) (positions : List ℕ) → IsSession s log → Grows s log new → Prolongs log.entries new.entries → IsReady old s log positions → IsReady old s new positions
ready_stays old s log new positions session grows g h =
    let e = h.encoded in
    let enough = h.enough in
    record {
      live = h.live;
      encoded = record {
        list = e.list;
        different = e.different;
        more = e.more;
        begins = e.begins;
        held = e.held;
        stands = grows.stands;
        order = order_grows s log new session.stands grows e.order;
        all = e.all;
        bits = live_bits s log new h.live session.stands grows e.bits;
      };
      enough = record {
        reached = enough.reached;
        among = enough.among;
        opening = opening_stays s.terms.nodes log.entries new.entries enough.reached positions session.state.terms (stands_over s.terms.nodes new grows.stands).steps g enough.opening;
        selectors = All-weaker (IsHeldAssertion log.entries positions) (IsHeldAssertion new.entries positions) (λ a. held_stays log.entries new.entries positions a g) s.scopes.live enough.selectors;
      };
    }

-- ---- a search with functions and arrays

-- what a session that made its watches before it rewrote may be walked over
abbrev pub SessionsMayWalk : Type 0
SessionsMayWalk =
    (old nodes : List Node) (log : LogValue) (roots : List ℕ) → Stands nodes log → IsRewritten old nodes (image_in log.bits) roots
    → HaveBits nodes log.bits (IsLed nodes (image_in log.bits) roots) → HaveWordBits old nodes log.bits roots → IsWalkable nodes log.bits roots

module _ (old : List Node) (s : StateValue) (log : LogValue) (positions : List ℕ) (session : IsSession s log) (ready : IsReady old s log positions) where
  abbrev nodes : List Node
  nodes = s.terms.nodes

  over : IsKept nodes log
  over = stands_over nodes log session.stands

  same_images : image_in log.bits ≡ (state_of nodes log.entries).images
  same_images = fun_ext over.images

  -- what the live terms reach, with the selects of equalities, is reached by images from what has bits
  led : (t : ℕ) → theory.Reached nodes log.entries (roots s) t → IsLed nodes (image_in log.bits) (roots s) t
  led t h = subst (λ image. IsReached (leads nodes image) (roots s) t) (sym same_images) h

  closed : IsClosed (by_images nodes (image_in log.bits)) (Contains ready.enough.reached)
  closed = subst (λ image. AreClosed nodes image (Contains ready.enough.reached)) (sym same_images) ready.enough.opening.closed

  reaches : (t : ℕ) → theory.Reached nodes log.entries (roots s) t → Contains ready.enough.reached t
  reaches t h =
      reached_closed (by_images nodes (image_in log.bits)) (Contains ready.enough.reached) ready.live closed
      (λ u among. All-contains (Contains ready.enough.reached) ready.live u ready.enough.among among)
      t (walked.led_by_images old nodes log (roots s) ready.live ready.encoded t (led t h))

  pub enough_reached : theory.AreEnough nodes log.entries (roots s) positions
  enough_reached = record { first = ready.enough.opening.first; steps = λ t h some. ready.enough.opening.terms t (reaches t h) some }

  pub apart : AreApart nodes log.entries (roots s) positions
  apart id c plain at =
      ⊎_elim
      (λ held. inl held)
      (λ w. inr (w.0, w.1, w.2, λ b. w.3 (b.0, b.1, b.2, reaches b.0 b.3, b.4, b.5, b.6)))
      (openings_are_apart nodes log.entries ready.enough.reached positions session.state.terms over.steps ready.enough.opening id c plain at)

  pub walkable : SessionsMayWalk → theory.IsWalkableLog nodes log.entries (roots s)
  walkable may =
      let e = ready.encoded in
      record {
        bits = log.bits;
        are = over.bits;
        images = over.images;
        walkable =
            may old nodes log (roots s) session.stands (walked.is_rewritten old nodes log (roots s) ready.live e)
            (walked.have_bits old nodes log (roots s) ready.live e) (walked.word_row old nodes log (roots s) ready.live e);
      }
