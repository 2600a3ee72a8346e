use Rattle.proof_file.specs.Held.{file_in}
use Rattle.proof_file.proofs.Placing.{without_next}
use Rattle.proof_file.proofs.places.Places.remove_all.Goals as goal

pub loop-place-preserved : goal.loop-place-preserved
loop-place-preserved c =
    without_next (file_in c.args.self.now) (file_in c.loop-place.self) (file_in c.remove.new.self) c.args.gone.now c.loop-place.place-index c.place-item.result _
    c.loop-place-test.true c.place-item.is c.loop-place.invariant c.remove.ensures
