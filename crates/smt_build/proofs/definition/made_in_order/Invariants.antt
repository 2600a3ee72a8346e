use Rattle.std.proofs.Common.{◌≤◌, length}
use Rattle.smt_build.proofs.Growth.{AllGrow}
use Rattle.smt_build.proofs.Images.{IsMadeTo, end_at}
use Rattle.smt_build.proofs.definition.made_in_order.Given as goal

abbrev pub invariant-order : goal.invariant-order
invariant-order l = record {
  within : l.term-index ≤ length l.order;
  grows : AllGrow l.fn.terms l.terms;
  made : IsMadeTo l.fn.terms l.body l.args l.reached (end_at l.order l.term-index) l.images.items l.terms;
}
