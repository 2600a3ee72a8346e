use Rattle.std.proofs.Common.{◌≡◌, ◌++◌, flat_map, take}
use Rattle.std.specs.Prelude.{All}
use Rattle.check_cubes.specs.Searches.{kept_bits, IsOneBit}
use Rattle.check_cubes.proofs.searches.push_assumed.Given as goal

abbrev pub invariant-loop-assumption : goal.invariant-loop-assumption
invariant-loop-assumption l = All (IsOneBit l.log.bits) (take l.assumption-index l.assumed) × (l.given.items ≡ l.fn.given.items ++ flat_map (kept_bits l.log.bits) (take l.assumption-index l.assumed))
