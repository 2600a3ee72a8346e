use Rattle.smt_terms.specs.Bits.{image_in}
use Rattle.session_terms.specs.Placed.{has_bits}
use Rattle.session_terms.proofs.Placing.{placed_longer}
use Rattle.session_terms.proofs.laws.more_terms_keep_order.Goals as goal

pub returns : goal.returns
returns c = λ nodes more bits h. placed_longer nodes more (has_bits bits) (image_in bits) h
