use Rattle.proof_file.proofs.Lining.{numbers_next, each_next}
use Rattle.proof_file.proofs.writing.write_deletion.Goals as goal

pub loop-place-preserved : goal.loop-place-preserved
loop-place-preserved c = record {
  text =
      numbers_next c.args.places.now c.loop-place.place-index c.place-item.result _ c.number.result c.loop-place-test.true c.place-item.is c.number.ensures
      c.push.new.self c.loop-place.out c.push_spaced.new.out c.loop-place.invariant.text c.in_ok-push_spaced.ensures.ok;
  numbers =
      each_next c.args.places.now c.loop-place.place-index c.place-item.result _ c.number.result c.loop-place-test.true c.place-item.is c.number.ensures
      c.loop-place.invariant.numbers c.in_ok-push_spaced.ensures.number;
}
