-- A search over a log, by what the log has without chains.
use Rattle.std.proofs.Common.{◌≡◌, ℕ, suc, ◌^◌, ◌<◌, ◌≤◌, Bool, true, false, List, [], ◌∷◌, ◌++◌, length, take, flat_map, Option, Some, None, Result, Ok, Err, IfOk, MatchOption, refl, sym, ap, ◌∙◌, subst, inl, inr, arith}
use Rattle.std.specs.Prelude.{◌⊎◌, All}
use Rattle.std.specs.Global.{Vec}
use Rattle.cnf_base.specs.Literals.{Literal}
use Rattle.cnf_base.specs.declared.clause.ClauseId.{ClauseId}
use Rattle.smt_terms.specs.declared.node.Node.{Node}
use Rattle.script_state.specs.declared.answer.Asked.{Asked}
use Rattle.script_state.specs.States.{StateValue, assumptions, roots}
use Rattle.proof_log.specs.declared.entry.Entry.{Entry}
use Rattle.proof_log.specs.declared.entry.Entry.TheVariants as entry
use Rattle.proof_log.specs.Boards.{IsAdded}
use Rattle.proof_log.specs.Diaries.{is_chain}
use Rattle.proof_log.specs.Logs.{LogState, entry_at, state_of}
use Rattle.proof_log.proofs.Growth.{entry_within}
use Rattle.cube_tree.specs.Cubes.{cube_of}
use Rattle.accepted_proof.specs.Searching.{Limits, leaf_variables, split_variables, cube_variables, selector_literals, bits_or_none, given_literals, HasSelector, HasBit, IsSearch}
use Rattle.check_cubes.specs.Searches.{AreAddedFrom}
use Rattle.faded_log.specs.Faded.{FadedValue, plain_steps, IsHeld}
use Rattle.faded_log.proofs.Weaving.{plain_chain, plain_other, held_state}
use Rattle.proof_checker.proofs.Alike.{leaf_with}

of_chain : (f : Entry → List ℕ) → ((c : List Literal) (hints : List ClauseId) → f (entry.Chain c hints) ≡ []) → (e : Entry) → is_chain (Some e) ≡ true → f e ≡ []
of_chain f none (entry.Chain c hints) k = none c hints
of_chain f none (entry.Node n) k = let z : ⊥ = cc in absurd z
of_chain f none (entry.Leaf t) k = let z : ⊥ = cc in absurd z
of_chain f none (entry.Encode t) k = let z : ⊥ = cc in absurd z
of_chain f none (entry.Selector a t) k = let z : ⊥ = cc in absurd z
of_chain f none (entry.Rewrite r) k = let z : ⊥ = cc in absurd z
of_chain f none (entry.Equal t u) k = let z : ⊥ = cc in absurd z
of_chain f none (entry.Lemma l) k = let z : ⊥ = cc in absurd z

-- what is drawn of steps of which chains draw nothing
drawn : (f : Entry → List ℕ) → ((e : Entry) → is_chain (Some e) ≡ true → f e ≡ []) → (es : List Entry) → flat_map f (plain_steps es) ≡ flat_map f es
drawn f none [] = refl
drawn f none (e ∷ es) = by (drawn f none es) (is_chain (Some e)) refl
  where
    by : flat_map f (plain_steps es) ≡ flat_map f es → (b : Bool) → is_chain (Some e) ≡ b → flat_map f (plain_steps (e ∷ es)) ≡ flat_map f (e ∷ es)
    by rest true k = ap (flat_map f) (plain_chain e es k) ∙ rest ∙ ap (λ l. l ++ flat_map f es) (sym (none e k))
    by rest false k = ap (flat_map f) (plain_other e es k) ∙ ap (λ l. f e ++ l) rest

chain_draws : (from : List ℕ) (nodes : List Node) (s : LogState) (e : Entry) → is_chain (Some e) ≡ true → leaf_variables from nodes s e ≡ []
chain_draws from nodes s e = of_chain (leaf_variables from nodes s) (λ c hints. refl) e

module _ (limits : Limits) (s : StateValue) (log : FadedValue) (cube first : ℕ) (held : IsHeld s.terms.nodes log) where
  nodes : List Node
  nodes = s.terms.nodes

  same : state_of s.terms.nodes log.entries ≡ record { next = (state_of s.terms.nodes log.base.entries).next; bits = (state_of s.terms.nodes log.base.entries).bits; images = (state_of s.terms.nodes log.base.entries).images; selectors = (state_of s.terms.nodes log.base.entries).selectors; equals = (state_of s.terms.nodes log.base.entries).equals; clauses = log.clauses }
  same = held_state s.terms.nodes log held

  variables : cube_variables limits s s.terms.nodes log.entries ≡ cube_variables limits s s.terms.nodes log.base.entries
  variables = ap (take limits.cubes) (
      ap (λ (x : LogState). flat_map (leaf_variables (roots s) s.terms.nodes x) log.entries) same
      ∙ ap (λ (f : Entry → List ℕ). flat_map f log.entries) (λ i e. leaf_with (roots s) s.terms.nodes (state_of s.terms.nodes log.base.entries) log.clauses e i)
      ∙ sym (drawn (leaf_variables (roots s) s.terms.nodes (state_of s.terms.nodes log.base.entries)) (chain_draws (roots s) s.terms.nodes (state_of s.terms.nodes log.base.entries)) log.entries)
      ∙ ap (flat_map (leaf_variables (roots s) s.terms.nodes (state_of s.terms.nodes log.base.entries))) (sym held.steps))

  given : given_literals limits s s.terms.nodes log.entries cube ≡ given_literals limits s s.terms.nodes log.base.entries cube
  given =
      ap (λ vs. cube_of vs cube ++ flat_map (selector_literals (state_of s.terms.nodes log.entries)) s.scopes.live ++ flat_map (λ (a : Asked). bits_or_none ((state_of s.terms.nodes log.entries).bits a.term)) (assumptions s)) variables
      ∙ ap (λ (x : LogState). cube_of (cube_variables limits s s.terms.nodes log.base.entries) cube ++ flat_map (selector_literals x) s.scopes.live ++ flat_map (λ (a : Asked). bits_or_none (x.bits a.term)) (assumptions s)) same

  -- at the end of the log without chains no step follows
  none_behind : (p : ℕ) (e : Entry) → suc (length log.base.entries) ≤ p → entry_at log.base.entries p ≡ Some e → IsAdded e
  none_behind p e le is = let within = entry_within log.base.entries p e is in absurd (omega (arith, le, within))

  base_search : (end : ℕ) → end ≡ suc (length log.base.entries) → IsSearch limits s s.terms.nodes log.entries cube first → IsSearch limits s s.terms.nodes log.base.entries cube end
  base_search end e h = subst (λ n. IsSearch limits s s.terms.nodes log.base.entries cube n) (sym e) (record {
    cube_of_check = subst (λ vs. cube < 2 ^ length vs) variables h.cube_of_check;
    selectors = subst (λ (x : LogState). All (HasSelector x) s.scopes.live) same h.selectors;
    bits = subst (λ (x : LogState). All (HasBit x) (assumptions s)) same h.bits;
    within = omega arith;
    added = none_behind;
  })

  whole_search : (end : ℕ) → first ≤ suc (length log.entries) → AreAddedFrom log.entries first → IsSearch limits s s.terms.nodes log.base.entries cube end → IsSearch limits s s.terms.nodes log.entries cube first
  whole_search end within added h = record {
    cube_of_check = subst (λ vs. cube < 2 ^ length vs) (sym variables) h.cube_of_check;
    selectors = subst (λ (x : LogState). All (HasSelector x) s.scopes.live) (sym same) h.selectors;
    bits = subst (λ (x : LogState). All (HasBit x) (assumptions s)) (sym same) h.bits;
    within = within;
    added = λ p e le is. added p e le is;
  }

  -- where steps alone that a search adds stand from the position on
  pub searched : (end : ℕ) → end ≡ suc (length log.base.entries) → first ≤ suc (length log.entries) → AreAddedFrom log.entries first → {E : Type 0} (r : Result (Option (Vec Literal)) E)
      → IfOk r (λ o. MatchOption o (IsSearch limits s s.terms.nodes log.base.entries cube end → ⊥) (λ g. IsSearch limits s s.terms.nodes log.base.entries cube end × (g.items ≡ given_literals limits s s.terms.nodes log.base.entries cube)))
      → IfOk r (λ o. MatchOption o (IsSearch limits s s.terms.nodes log.entries cube first → ⊥) (λ g. IsSearch limits s s.terms.nodes log.entries cube first × (g.items ≡ given_literals limits s s.terms.nodes log.entries cube)))
  searched end e within added (Ok None) h = λ w. h (base_search end e w)
  searched end e within added (Ok (Some g)) h = (whole_search end within added h.0, h.1 ∙ sym given)
  searched end e within added (Err f) h = tt

-- past the end
pub not_within : (limits : Limits) (s : StateValue) (log : List Entry) (cube first n : ℕ) → n ≡ suc (length log) → n < first → IsSearch limits s s.terms.nodes log cube first → ⊥
not_within limits s log cube first n e lt h = let within = h.within in omega (arith, e, lt, within)

pub not_added : (limits : Limits) (s : StateValue) (log : List Entry) (cube first : ℕ) → (AreAddedFrom log first → ⊥) → IsSearch limits s s.terms.nodes log cube first → ⊥
not_added limits s log cube first free h = free (λ p e le is. h.added p e le is)
