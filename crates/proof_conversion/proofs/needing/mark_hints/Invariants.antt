use Rattle.std.proofs.Common.{◌≡◌, drop}
use Rattle.proof_conversion.specs.Needs.{mark_all, places_of}
use Rattle.proof_conversion.proofs.needing.mark_hints.Given as goal

abbrev pub invariant-loop-hint : goal.invariant-loop-hint
invariant-loop-hint l = mark_all l.part (places_of (drop l.hint-index l.hints)) l.last ≡ mark_all l.part (places_of l.hints) l.fn.last
