use Rattle.std.proofs.Common.{◌≡◌, List, take}
use Rattle.cnf_base.specs.Literals.{Literal}
use Rattle.hint_chain.specs.declared.shape.Shape.TheVariants.{OneOpen}
use Rattle.hint_chain.specs.Faults.{HasShape}
use Rattle.hint_chain.specs.Marks.{Agrees, HasPlace}
use Rattle.hint_chain.proofs.shape.shape_of.Given as goal

abbrev pub invariant-loop-l : goal.invariant-loop-l
invariant-loop-l l = record {
  shape : (known : List Literal) → Agrees l.trues known → HasShape known (take l.l-index l.clause) l.shape;
  room : (k : Literal) → l.shape ≡ OneOpen k → HasPlace l.trues k;
}
