-- The steps of a closed history.
use Rattle.std.specs.Prelude.{◌≡◌, ◌<◌, ℕ, List, Some, length, slice_get}
use Rattle.smt_terms.specs.declared.node.Node.{Node}
use Rattle.proof_log.specs.declared.entry.Entry.{Entry}
use Rattle.proof_log.specs.declared.entry.Entry.TheVariants as step
use Rattle.proof_log.specs.Logs.{state_of, IsStep, IsPair, IsLemma}
use Rattle.hub_core.specs.declared.events.Call.{Call}
use Rattle.hub_core.specs.declared.events.Call.TheVariants.{Define, PutLemma, PutChain, Claim, Close, Spend, Found}
use Rattle.hub_core.specs.declared.events.Event.{Event}
use Rattle.hub_core.specs.Hubs.{HubValue, view_of}

-- the step that the call adds, if it adds one, is valid over this log
abbrev pub MayPut : List Node → List Entry → Call → Type 0
MayPut nodes log (Define t u) = IsPair nodes (state_of nodes log) t u
MayPut nodes log (PutLemma lemma) = IsLemma nodes (state_of nodes log) lemma
MayPut nodes log (PutChain c hints) = IsStep nodes (state_of nodes log) (step.Chain c hints)
MayPut nodes log Claim = Unit {0}
MayPut nodes log (Close c p) = Unit {0}
MayPut nodes log (Spend c) = Unit {0}
MayPut nodes log (Found c) = Unit {0}

-- the log is the one that these events made of the old one, in every hub that was opened over it
abbrev pub IsMadeBy : List Event → List Entry → List Entry → Type 0
IsMadeBy events old new = (law : HubValue) → law.log.entries ≡ old → new ≡ (view_of law events).log

-- of each cube that the events closed, the position where its place has one
abbrev pub ArePlaces : HubValue → List Event → List ℕ → Type 0
ArePlaces law events places = (c p : ℕ) → c < length places → (view_of law events).closed c ≡ Some p → slice_get places c ≡ Some p
