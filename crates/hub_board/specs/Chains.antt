-- Histories of a hub to which chains alone are put.
use Rattle.std.specs.Prelude.{List, [], ◌∷◌, ◌++◌}
use Rattle.std.specs.List.{AllByRecursion}
use Rattle.proof_log.specs.declared.entry.Entry.{Entry}
use Rattle.proof_log.specs.declared.entry.Entry.TheVariants as step
use Rattle.hub_core.specs.declared.state.HubState.{HubState}
use Rattle.hub_core.specs.declared.events.Call.{Call}
use Rattle.hub_core.specs.declared.events.Call.TheVariants.{Define, PutLemma, PutChain, Claim, Close, Spend, Found}
use Rattle.hub_core.specs.declared.events.Event.{Event}
use Rattle.hub_core.specs.Hubs.{HubValue}
use Rattle.hub_core.specs.Standing.{IsHub}

-- the call adds no equality and no lemma to the log
abbrev pub AddsChains : Call → Type 0
AddsChains (Define t u) = ⊥
AddsChains (PutLemma lemma) = ⊥
AddsChains (PutChain c hints) = Unit {0}
AddsChains Claim = Unit {0}
AddsChains (Close c p) = Unit {0}
AddsChains (Spend c) = Unit {0}
AddsChains (Found c) = Unit {0}

abbrev pub AddChains : List Event → Type 0
AddChains events = AllByRecursion (λ e. AddsChains e.call) events

-- the step that a call adds, if it puts a chain
abbrev pub chain_of : Call → List Entry
chain_of (Define t u) = []
chain_of (PutLemma lemma) = []
chain_of (PutChain c hints) = step.Chain c hints ∷ []
chain_of Claim = []
chain_of (Close c p) = []
chain_of (Spend c) = []
chain_of (Found c) = []

-- the chains that events added to the log, in order
abbrev pub chains_of : List Event → List Entry
chains_of [] = []
chains_of (e ∷ es) = chain_of e.call ++ chains_of es

-- the state is that of a hub after this history, in which chains alone were put
pub record IsChainHub (law : HubValue) (s : HubState) (history : List Event) : Type 0 where
  pub hub : IsHub law s history
  pub chains : AddChains history
