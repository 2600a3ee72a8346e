use Rattle.std.proofs.Common.{take}
use Rattle.written_models.specs.Written.{AreReadings}
use Rattle.written_models.proofs.written.values.Given as goal

abbrev pub invariant-loop-live : goal.invariant-loop-live
invariant-loop-live g l = AreReadings l.state.symbols.signatures (g.S.SetValues.set_for l.found) (take l.live-index l.state.symbols.live) l.items.items
