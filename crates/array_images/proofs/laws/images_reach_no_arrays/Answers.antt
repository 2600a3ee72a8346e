use Rattle.array_images.proofs.Covered.{led_is_covered}
use Rattle.array_images.proofs.laws.images_reach_no_arrays.Goals as goal

pub returns : goal.returns
returns c = λ nodes image roots list are t r. led_is_covered nodes list image are roots t r
