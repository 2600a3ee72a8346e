use Rattle.smt_terms.proofs.Widths.{sort_bounded}
use Rattle.smt_terms.proofs.laws.widths_are_in_range.Goals as goal

pub returns : goal.returns
returns c nodes t terms lt = sort_bounded nodes terms t lt
