use Rattle.std.proofs.Common.{arith}
use Rattle.std.proofs.lemmas.List.{length-map}
use Rattle.smt_terms.specs.Scalars.{scalar_sort}
use Rattle.smt_terms.proofs.Arities.{four_are_too_many}
use Rattle.smt_terms.proofs.apply.apply_operator.Goals as goal

pub returns-in_default : goal.returns-in_default
returns-in_default c = four_are_too_many c.args.operator _ (omega (arith, c.in_default.len_at_least, length-map c.args.args.now scalar_sort))
