-- The hub of a check whose history is closed, and what its workers left.
use Rattle.std.proofs.Common.{◌≡◌, ℕ, suc, ◌<◌, Bool, List, [], Option, Some, None, sym, ap, ◌∙◌, subst}
use Rattle.std.specs.Prelude.{slice_get}
use Rattle.std.specs.List.{AllByRecursion}
use Rattle.shared_history.specs.Events.{of_pass, StartsWith}
use Rattle.shared_history.specs.Known.{Known}
use Rattle.smt_terms.specs.declared.node.Node.{Node}
use Rattle.proof_log.specs.declared.diary.Diary.{Diary}
use Rattle.proof_log.specs.declared.entry.Entry.{Entry}
use Rattle.proof_log.specs.Stored.{LogValue}
use Rattle.hub_core.specs.declared.events.Event.{Event}
use Rattle.hub_core.specs.declared.state.HubState.{HubState}
use Rattle.hub_core.specs.Hubs.{HubValue, by_of, IsOpening}
use Rattle.hub_board.specs.Chains.{IsChainHub}
use Rattle.cube_workers.specs.declared.check.Check.{Check}
use Rattle.cube_workers.specs.declared.kept.KeptSearch.{KeptSearch}
use Rattle.cube_workers.specs.Workers.{problem_over, problem_in, IsOpenFor}
use Rattle.cube_workers.specs.Histories.{IsMadeBy}
use Rattle.cube_workers.specs.Crews.{Left, AreAtRest}
use Rattle.cube_workers.specs.Closed.{IsClosedHub, IsSumOf}
use Rattle.cube_workers.specs.Hired.{AreGathered}
use Rattle.cube_workers.proofs.Gathering.{left_closed}

pub none_rest : (log : LogValue) (xs : List KeptSearch) → xs ≡ [] → AreAtRest log xs
none_rest log xs is i s e = let no : None ≡ Some s = sym (ap (λ l. slice_get l i) is) ∙ e in let f : ⊥ = cc in absurd f

-- the problem of the check over the opened hub
pub same_problem : (law : HubValue) (k : Check) (nodes : List Node) (log : LogValue) → law.nodes ≡ nodes → law.log ≡ log → problem_in law k ≡ problem_over nodes log.entries k
same_problem law k nodes log same is i = problem_over (same i) (is i).entries k

pub closed_hub : (law : HubValue) (k : Check) (nodes : List Node) (old new : List Entry) (all : List Event) (s : HubState) → law.nodes ≡ nodes → IsOpening law → IsOpenFor law k → IsChainHub law s all → law.log.entries ≡ old → IsMadeBy all old new → IsClosedHub law k nodes new all
closed_hub law k nodes old new all s same opened open_for hub log made = record {
  nodes_are = same;
  opened = opened;
  open_for = open_for;
  made = hub.hub.made;
  chains = hub.chains;
  log_is = made law log;
}

pub sum_closed : (law : HubValue) (k : Check) (all : List Event) (first : Known HubValue Event) (searches : List KeptSearch) (model : Option ℕ) (wanting : Bool) (spent : Option Diary) (count : ℕ) (xs : List Left)
    → 0 < count → first.number ≡ 0 → first.mine ≡ [] → first.made ≡ suc count → AreGathered law (problem_in law k) count first searches model wanting spent xs → StartsWith all first.seen → of_pass by_of first.number all ≡ first.mine
    → AllByRecursion (λ q. of_pass by_of q.0 all ≡ q.1) first.ended → (first.number ≡ 0 → AllByRecursion (λ e. by_of e < first.made) all) → IsSumOf law k all searches model wanting spent count xs
sum_closed law k all first searches model wanting spent count xs some number mine made g seen own ended below = record {
  some = some;
  long = g.long;
  first = subst (λ n. of_pass by_of n all ≡ []) number (own ∙ mine);
  below = subst (λ m. AllByRecursion (λ e. by_of e < m) all) made (below number);
  left = left_closed law (problem_in law k) count first all xs seen ended g.merged;
  kept = g.kept;
  lowest = g.lowest;
}
