-- What other passes do leaves a pass what it may do.
use Rattle.std.specs.Prelude.{◌≡◌, ℕ, ◌<◌, List, [], ◌++◌}
use Rattle.std.proofs.Common.{subst, sym, ap, ◌∙◌, append-nil}
use Rattle.std.proofs.lemmas.List.Elements.{filter-append}
use Rattle.shared_history.specs.Events.{of_pass}
use Rattle.history_client.specs.declared.law.Call.{Call}
use Rattle.history_client.specs.declared.law.Call.TheVariants.{Note, Claim, Finish}
use Rattle.history_client.specs.declared.law.Event.{Event}
use Rattle.history_client.specs.Pools.{by_of, count, claim, finish, permitted}

pub permitted_stays : (topics : List ℕ) (h more : List Event) (n : ℕ) (c : Call) → of_pass by_of n more ≡ [] → permitted topics h n c → permitted topics (h ++ more) n c
permitted_stays topics h more n (Note t) none may = may
permitted_stays topics h more n Claim none may = may
permitted_stays topics h more n Finish none may =
    subst (λ l. count finish l < count claim l) (sym (filter-append _ h more ∙ (ap (λ l. of_pass by_of n h ++ l) none ∙ append-nil (of_pass by_of n h)))) may
