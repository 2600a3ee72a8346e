use Rattle.bv_rewrite.proofs.Made.{made_of_shape, shape_refused}
use Rattle.bv_rewrite.proofs.laws.made_shapes_are_of_their_shape.Goals as goal

pub returns-clause-made : goal.returns-clause-made
returns-clause-made c = made_of_shape

pub returns-clause-refused : goal.returns-clause-refused
returns-clause-refused c = shape_refused
