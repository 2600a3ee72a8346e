use Rattle.std.proofs.Common.{◌≡◌, map, take}
use Rattle.hint_chain.specs.Packed.{whole_id}
use Rattle.hint_chain.proofs.hints.shortened.Given as goal

abbrev pub invariant-loop-id : goal.invariant-loop-id
invariant-loop-id l = map whole_id l.ids.items ≡ take l.id-index l.hints
