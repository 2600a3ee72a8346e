use Rattle.std.proofs.Common.{◌≡◌, ◌++◌, flat_map, take}
use Rattle.std.specs.Prelude.{All}
use Rattle.check_cubes.specs.Searches.{kept_selector, IsSelected}
use Rattle.check_cubes.proofs.searches.push_selectors.Given as goal

abbrev pub invariant-loop-assertion : goal.invariant-loop-assertion
invariant-loop-assertion l = All (IsSelected l.log.selectors) (take l.assertion-index l.live) × (l.given.items ≡ l.fn.given.items ++ flat_map (kept_selector l.log.selectors) (take l.assertion-index l.live))
