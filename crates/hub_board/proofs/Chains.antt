-- What acting on a call leaves of a history of chains.
use Rattle.std.proofs.Common.{◌≡◌, ℕ, List, [], ◌∷◌, ◌++◌, sym, subst}
use Rattle.std.specs.Prelude.{Result, Ok, Err, MatchResult}
use Rattle.cnf_base.proofs.Lists.{each_append}
use Rattle.shared_history.specs.declared.law.Back.{Back}
use Rattle.hub_core.specs.declared.state.HubState.{HubState}
use Rattle.hub_core.specs.declared.events.Call.{Call}
use Rattle.hub_core.specs.declared.events.Event.{Event}
use Rattle.hub_core.specs.declared.events.Reply.{Reply}
use Rattle.hub_core.specs.Hubs.{HubValue, event, reply}
use Rattle.hub_core.specs.Standing.{IsHub}
use Rattle.hub_board.specs.Chains.{AddsChains, AddChains, IsChainHub}

-- what the hub answered, said of the hub of chains
pub acted : (law : HubValue) (s : HubState) (h : List Event) (n : ℕ) (call : Call) (r : Result (Event × Reply) (Back Call)) → AddChains h → AddsChains call
    → MatchResult r (λ r. (r.0 ≡ event n call) × (r.1 ≡ reply law h call) × IsHub law s (h ++ r.0 ∷ [])) (λ back. (back.kept ≡ call) × IsHub law s h)
    → MatchResult r (λ r. (r.0 ≡ event n call) × (r.1 ≡ reply law h call) × IsChainHub law s (h ++ r.0 ∷ [])) (λ back. (back.kept ≡ call) × IsChainHub law s h)
acted law s h n call (Ok r) all one k =
    let new : AddsChains r.0.call = subst (λ (e : Event). AddsChains e.call) (sym k.0) one in
    (k.0, k.1, record { hub = k.2; chains = each_append (λ (e : Event). AddsChains e.call) h (r.0 ∷ []) all (new, tt) })
acted law s h n call (Err back) all one k = (k.0, record { hub = k.1; chains = all })
