-- What a state without terms has beside them fits whatever limit terms have.
use Rattle.std.proofs.Common.{◌≡◌, ℕ, ◌^◌, ap, subst}
use Rattle.smt_terms.specs.Terms.{TermsValue, no_terms}
use Rattle.script_state.specs.States.{StateValue, RestValue, with_terms, no_state, IsState, AreLevels, Fit}

levels_within : (n m : ℕ) (r : RestValue) → AreLevels (with_terms r (no_terms m)) → AreLevels (with_terms r (no_terms n))
levels_within n m r is = record {
  count = is.count;
  rising = is.rising;
  each = λ k l at. let e = is.each k l at in record { names = e.names; definitions = e.definitions; sorts = e.sorts; closed = e.closed };
}

state_within : (n m : ℕ) (r : RestValue) → IsState (with_terms r (no_terms m)) → IsState (with_terms r (no_terms n))
state_within n m r is = record {
  terms = is.terms;
  scopes = is.scopes;
  live = is.live;
  constants = is.constants;
  declared = is.declared;
  bodies = is.bodies;
  sorts = is.sorts;
  held = is.held;
  truths = is.truths;
  closed = is.closed;
  levels = levels_within n m r is.levels;
  assumed = is.assumed;
}

pub fits_within : (n : ℕ) (terms : TermsValue) (r : RestValue) → with_terms r terms ≡ no_state → Fit terms r → Fit (no_terms n) r
fits_within n terms r e f =
    let g : Fit (no_terms (2 ^ 24)) r = subst (λ t. Fit t r) (ap (λ (s : StateValue). s.terms) e) f in
    record { state = state_within n (2 ^ 24) r g.state; marks = g.marks }
