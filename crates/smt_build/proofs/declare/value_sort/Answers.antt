use Rattle.std.proofs.Common.{sym, ap, ◌∙◌}
use Rattle.std.proofs.lemmas.Result.{IfOk-weaker}
use Rattle.smt_build.specs.Declaring.{value_sort}
use Rattle.smt_build.proofs.Declarations.{no_arguments, some_arguments}
use Rattle.smt_build.proofs.declare.value_sort.Goals as goal

pub returns-then-arguments-ne2 : goal.returns-then-arguments-ne2
returns-then-arguments-ne2 c = λ a s e f. sym (some_arguments c.args.symbols.now c.args.arguments.now a s c.if-arguments-ne2.true e)

pub returns : goal.returns
returns c = IfOk-weaker c.sort_of.result _ _ (λ r h a s e f. h s f ∙ sym (ap (λ b. value_sort c.args.symbols.now b s) (no_arguments c.args.arguments.now a c.if-arguments-ne2.false e))) c.sort_of.ensures
