use Rattle.circ_muldiv.proofs.Building.{IsProduct}
use Rattle.circ_muldiv.proofs.products.put_product.Given as goal

abbrev pub invariant-loop-i : goal.invariant-loop-i
invariant-loop-i l = IsProduct l.fn.circuit l.circuit l.product.items l.places.items l.a l.b l.i
