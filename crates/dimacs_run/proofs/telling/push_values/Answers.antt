use Rattle.std.proofs.Common.{false, refl}
use Rattle.dimacs_run.proofs.Found.{value_pushed, no_words}
use Rattle.dimacs_run.proofs.telling.push_values.Goals as goal

pub values-init : goal.values-init
values-init c = no_words c.args.out.now

pub values-preserved : goal.values-preserved
values-preserved c = value_pushed c.args.out.now c.values.out c.push_value.new.out c.args.values.now c.values.place _ false c.values-test.true refl c.values.invariant c.in_ok-push_value.ensures
