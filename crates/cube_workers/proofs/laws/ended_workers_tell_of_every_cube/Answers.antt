use Rattle.std.proofs.Common.{refl}
use Rattle.std.specs.Prelude.{Some, None}
use Rattle.cube_workers.proofs.Settling.{all_rest, model_found, tried_all}
use Rattle.cube_workers.proofs.laws.ended_workers_tell_of_every_cube.Goals as goal

pub returns : goal.returns
returns c = record {
  resting = λ law k nodes log all searches model wanting spent count xs hub sum stands. all_rest law k nodes log all searches model wanting spent count xs hub sum stands;
  model = λ law k nodes log all searches by wanting spent count xs hub sum. model_found law k nodes log all searches (Some by) wanting spent count xs hub sum by refl;
  tried = λ law k nodes log all searches wanting spent count xs hub sum calm closed len places. tried_all law k nodes log all searches None wanting spent count xs hub sum refl calm closed places len;
}
