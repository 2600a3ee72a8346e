use Rattle.std.proofs.Common.{rules, refl, ℕ, Bool}
use Rattle.std.specs.Ordering.{bool_cmp}
use Rattle.std.proofs.lemmas.List.Sorted.{answers_always}
use Rattle.access_walk.specs.declared.values.Entry.{Entry}
use Rattle.access_walk.specs.Valuing.{is_select}
use Rattle.access_walk.proofs.Sorting.{rises}
use Rattle.access_walk.proofs.values.sort.Goals as goal

abbrev key : Entry → ℕ × Bool
key e = (e.start.index, is_select e.origin e.landing)

pub returns-clause-rising : goal.returns-clause-rising
returns-clause-rising c = rises (λ (e : Entry). e.start.index) key bool_cmp (λ e. refl) _ (c.sort_unstable_by_key.ensures.sorted key (answers_always _ _ _ (λ f a r g h. search rules)))
