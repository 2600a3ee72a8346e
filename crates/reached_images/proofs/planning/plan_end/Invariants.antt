use Rattle.std.proofs.Common.{◌≡◌, take}
use Rattle.reached_images.specs.Settled.{with_own}
use Rattle.reached_images.proofs.Owning.{AreKnownTo, IsBeside}
use Rattle.reached_images.proofs.planning.plan_end.Given as goal

abbrev pub invariant-arguments : goal.invariant-arguments
invariant-arguments l = (IsBeside l.terms l.bits l.fn.plan l.plan × AreKnownTo l.bits l.plan l.args l.argument-index) × (l.plan ≡ with_own l.bits l.fn.plan (take l.argument-index l.args))
