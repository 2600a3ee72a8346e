-- Terms that watch arrays are made before the steps that give bits.
use Rattle.std.proofs.Common.{◌≡◌, ℕ, ◌<◌, ◌≤◌, true, List, ◌++◌, get_or, length, length-append, sym, ap, ◌∙◌, subst, inl, inr, ⊎_elim, arith}
use Rattle.std.specs.Prelude.{All}
use Rattle.std.proofs.lemmas.Bool.{cases_lt}
use Rattle.std.proofs.lemmas.List.Elements.{Contains-append_right}
use Rattle.smt_terms.specs.declared.node.Node.{Node}
use Rattle.smt_terms.specs.Nodes.{node_at}
use Rattle.smt_terms.specs.Ranks.{is_plain}
use Rattle.smt_terms.specs.Terms.{sort_of}
use Rattle.smt_terms.proofs.Growing.{node_longer}
use Rattle.array_watches.specs.Needed.{watched}
use Rattle.array_watches.proofs.Whole.{watches_are_made}
use Rattle.watch_roots.specs.Roots.{IsScalar}
use Rattle.script_state.specs.States.{StateValue, IsState, roots}
use Rattle.proof_log.specs.declared.entry.Entry.TheVariants as step
use Rattle.proof_log.specs.Stored.{LogValue}
use Rattle.smt_session.specs.Planning.{AddsTerms, Encodes, Prepares}
use Rattle.smt_session.specs.Thorough.{AreSimplified, IsUsed, IsWatching}
use Rattle.smt_session.proofs.Leading.{behind_of, leads_more}
use Rattle.smt_session.proofs.PlanSteps.{sorted_over}
use Rattle.smt_session.proofs.Reasons.{simplified_append, simplified_bare}
use Rattle.smt_session.proofs.Roots.{roots_held, roots_sorted}

-- what is held stays held
pub held_led : (s t : StateValue) (a b : LogValue) (from : List ℕ) → AddsTerms s a t b → All (λ k. k < length s.terms.nodes) from → All (λ k. k < length t.terms.nodes) from
held_led s t a b from adds h k d lt =
    let more = behind_of s t a b adds.leads in
    let below = h k d lt in
    let longer = ap length more.1 ∙ length-append s.terms.nodes more.0 in
    omega (arith, below, longer)

-- Bools and words stay so
pub plain_led : (s t : StateValue) (a b : LogValue) (from : List ℕ) → AddsTerms s a t b → All (λ k. k < length s.terms.nodes) from → All (λ k. is_plain (sort_of s.terms.nodes k) ≡ true) from → All (λ k. is_plain (sort_of t.terms.nodes k) ≡ true) from
plain_led s t a b from adds h plain k d lt =
    let more = behind_of s t a b adds.leads in
    sorted_over s.terms.nodes t.terms.nodes more.0 (get_or from k d) true more.1 (h k d lt) (plain k d lt)

-- ---- the terms of a check

pub scalars_from : (nodes : List Node) (from : List ℕ) → All (λ k. k < length nodes) from → All (λ k. is_plain (sort_of nodes k) ≡ true) from → All (IsScalar nodes) from
scalars_from nodes from held plain k d lt = record { held = held k d lt; plain = plain k d lt }

pub scalars_held : (nodes : List Node) (from : List ℕ) → All (IsScalar nodes) from → All (λ k. k < length nodes) from
scalars_held nodes from h k d lt = (h k d lt).held

pub scalars_plain : (nodes : List Node) (from : List ℕ) → All (IsScalar nodes) from → All (λ k. is_plain (sort_of nodes k) ≡ true) from
scalars_plain nodes from h k d lt = (h k d lt).plain

-- the terms of a check are Bools where its watches are made
pub roots_scalars : (s t : StateValue) (a b : LogValue) → IsState s → AddsTerms s a t b → All (IsScalar t.terms.nodes) (roots s)
roots_scalars s t a b is adds =
    scalars_from t.terms.nodes (roots s) (held_led s t a b (roots s) adds (roots_held s is)) (plain_led s t a b (roots s) adds (roots_held s is) (roots_sorted s is))

module _ (s t u : StateValue) (a b c : LogValue) (is : IsState s) (adds : AddsTerms s a t b) (made : t.terms.nodes ≡ watched s.terms.nodes (roots s)) (encodes : Encodes t b u c) where
  abbrev nodes : List Node
  nodes = watched s.terms.nodes (roots s)

  watching : (k : ℕ) → length s.terms.nodes ≤ k → k < length t.terms.nodes → IsWatching s.terms.nodes (roots s) (node_at u.terms.nodes k)
  watching k le lt =
      let more = behind_of t u b c encodes.leads in
      let same : node_at u.terms.nodes k ≡ node_at nodes k = ap (λ (ns : List Node). node_at ns k) more.1 ∙ node_longer t.terms.nodes more.0 k lt ∙ ap (λ (ns : List Node). node_at ns k) made in
      subst (IsWatching s.terms.nodes (roots s)) (sym same)
      ((watches_are_made s.terms.nodes (roots s) is.terms (roots_held s is)).only k le (subst (λ (ns : List Node). k < length ns) made lt))

  used : (k : ℕ) → length t.terms.nodes ≤ k → k < length u.terms.nodes → IsUsed u.terms.nodes (adds.leads.added ++ encodes.leads.added) k
  used k le lt =
      let w = encodes.used k le lt in
      record { by = w.by; among = Contains-append_right adds.leads.added encodes.leads.added (step.Rewrite w.by) w.among; is = w.is }

  -- the steps of both
  pub prepares_watched : Prepares s a u c
  prepares_watched = record {
    leads = leads_more s t u a b c adds.leads encodes.leads;
    wanted = λ k le lt.
        ⊎_elim
        (λ (less : k < length t.terms.nodes). inl (watching k le less))
        (λ (more : length t.terms.nodes ≤ k). inr (used k more lt))
        (cases_lt k (length t.terms.nodes));
    simple =
        simplified_append u.terms a.entries adds.leads.added encodes.leads.added (simplified_bare u.terms a.entries adds.leads.added adds.bare)
        (subst (λ l. AreSimplified u.terms l encodes.leads.added) adds.leads.entries encodes.simple);
  }
