-- What several workers came to, over the log that comes back.
use Rattle.std.proofs.Common.{◌≡◌, ℕ, Bool, List, take, Option, sym, ap, ◌∙◌, subst}
use Rattle.smt_terms.specs.declared.node.Node.{Node}
use Rattle.proof_log.specs.declared.diary.Diary.{Diary}
use Rattle.proof_log.specs.declared.entry.Entry.{Entry}
use Rattle.proof_log.specs.Boards.{Grows}
use Rattle.proof_log.specs.Stored.{LogValue, Stands}
use Rattle.proof_log.proofs.Growth.{grows_then}
use Rattle.hub_core.specs.declared.events.Event.{Event}
use Rattle.hub_core.specs.declared.state.HubState.{HubState}
use Rattle.hub_core.specs.Hubs.{HubValue, IsOpening}
use Rattle.hub_board.specs.Chains.{IsChainHub}
use Rattle.cube_workers.specs.declared.check.Check.{Check}
use Rattle.cube_workers.specs.declared.kept.KeptSearch.{KeptSearch}
use Rattle.cube_workers.specs.declared.outcome.Found.{Found}
use Rattle.cube_workers.specs.declared.outcome.Lost.{Lost}
use Rattle.cube_workers.specs.Searched.{IsFound}
use Rattle.cube_workers.specs.Workers.{problem_over, problem_in, IsOpenFor}
use Rattle.cube_workers.specs.Histories.{IsMadeBy}
use Rattle.cube_workers.specs.Crews.{Left, AreAtRest, values_in}
use Rattle.cube_workers.specs.Closed.{IsClosedHub, IsSumOf}
use Rattle.cube_workers.proofs.Settling.{made_grows, part_grows, rest_longer}
use Rattle.cube_workers.proofs.Answering.{same_problem, closed_hub}

-- the hub h was opened for the law l over the log, and closed; the log that its law gave back is log0
module _ (l h : HubValue) (k : Check) (nodes : List Node) (log log0 : LogValue) (all : List Event) (s : HubState)
    (same : h ≡ l) (nodes_is : l.nodes ≡ nodes) (log_is : l.log ≡ log) (opening : IsOpening l) (open_for : IsOpenFor l k) (hub : IsChainHub h s all) (back : log0 ≡ h.log) where
  nodes_h : h.nodes ≡ nodes
  nodes_h = ap (λ (x : HubValue). x.nodes) same ∙ nodes_is

  log_h : h.log ≡ log
  log_h = ap (λ (x : HubValue). x.log) same ∙ log_is

  entries_h : h.log.entries ≡ log0.entries
  entries_h = ap (λ (x : LogValue). x.entries) (sym back)

  entries_0 : log0.entries ≡ log.entries
  entries_0 = ap (λ (x : LogValue). x.entries) (back ∙ log_h)

  pub grown_all : (new : List Entry) → IsMadeBy all log0.entries new → Grows log.entries new
  grown_all new made = subst (λ o. Grows o new) entries_0 (made_grows h log0.entries new all entries_h hub.chains made)

  pub grown_part : (new : List Entry) → (i : ℕ) × IsMadeBy (take i all) log0.entries new → Grows log.entries new
  grown_part new made = subst (λ o. Grows o new) entries_0 (part_grows h log0.entries new all made.0 entries_h hub.chains made.1)

  pub is_closed : (new : List Entry) → IsMadeBy all log0.entries new → IsClosedHub h k nodes new all
  is_closed new made = closed_hub h k nodes log0.entries new all s nodes_h (subst IsOpening (sym same) opening) (subst (λ x. IsOpenFor x k) (sym same) open_for) hub entries_h made

  pub problem_is : problem_in h k ≡ problem_over nodes log.entries k
  problem_is = same_problem h k nodes log nodes_h log_h

  pub back_rests : (new : LogValue) (xs : List KeptSearch) → Stands nodes log → Stands nodes new → IsMadeBy all log0.entries new.entries → AreAtRest h.log xs → AreAtRest new xs
  back_rests new xs before after made h_rests = rest_longer nodes log new xs before after (grown_all new.entries made) (subst (λ x. AreAtRest x xs) log_h h_rests)

  pub found_grows : (mid : List Entry) → IsMadeBy all log0.entries mid → (r : Found) → Grows mid r.log.entries → Grows log.entries r.log.entries
  found_grows mid made r g = grows_then log.entries mid r.log.entries (grown_all mid made) g

  pub lost_grows : (mid : List Entry) → IsMadeBy all log0.entries mid → (r : Lost) → Stands nodes r.log × Grows mid r.log.entries × AreAtRest r.log r.searches.items → Stands nodes r.log × Grows log.entries r.log.entries × AreAtRest r.log r.searches.items
  lost_grows mid made r g = (g.0, grows_then log.entries mid r.log.entries (grown_all mid made) g.1, g.2)

  pub found_over : (mid : List Entry) (made : IsMadeBy all log0.entries mid) (searches : List KeptSearch) (model : Option ℕ) (wanting : Bool) (spent : Option Diary) (count : ℕ) (xs : List Left) → IsSumOf h k all searches model wanting spent count xs → (r : Found)
      → ((law : HubValue) (n : ℕ) (ys : List Left) → IsClosedHub law k nodes mid all → IsSumOf law k all searches model wanting spent n ys → IsFound (problem_in law k) r.log.entries (values_in r.searches.items r.by) r.outcome)
      → IsFound (problem_over nodes log.entries k) r.log.entries (values_in r.searches.items r.by) r.outcome
  found_over mid made searches model wanting spent count xs sum r is =
      subst (λ p. IsFound p r.log.entries (values_in r.searches.items r.by) r.outcome) problem_is (is h count xs (is_closed mid made) sum)
