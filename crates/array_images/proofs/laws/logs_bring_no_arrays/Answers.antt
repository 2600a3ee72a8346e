use Rattle.array_images.proofs.Logs.{logs_bring_no_arrays}
use Rattle.array_images.proofs.laws.logs_bring_no_arrays.Goals as goal

pub returns : goal.returns
returns c = λ nodes log list different stands. logs_bring_no_arrays nodes list different log stands
