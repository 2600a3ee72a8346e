use Rattle.std.proofs.Common.{sym, ap, ◌∙◌}
use Rattle.std.proofs.lemmas.Result.{IfOk-weaker}
use Rattle.smt_build.specs.Declaring.{of_constant, signature_in}
use Rattle.smt_build.proofs.Declarations.{no_arguments, word_arguments, read_arguments}
use Rattle.smt_build.proofs.declare.signature_in.Goals as goal

pub returns-then-arguments-eq2 : goal.returns-then-arguments-eq2
returns-then-arguments-eq2 c = λ a s e f. c.of_constant.ensures ∙ ap of_constant (c.in_ok-sort.ensures s f) ∙ sym (ap (λ b. signature_in c.args.symbols.now b s) (no_arguments c.args.arguments.now a c.if-arguments-eq2.true e))

pub returns-then-arguments-lt2 : goal.returns-then-arguments-lt2
returns-then-arguments-lt2 c = λ a s e f. sym (word_arguments c.args.symbols.now c.args.arguments.now a s c.if-arguments-lt2.true e)

pub returns : goal.returns
returns c =
    IfOk-weaker c.of_function.result _ _
    (λ r h a s e f. h a s e f ∙ sym (read_arguments c.args.symbols.now c.args.arguments.now a s c.if-arguments-eq2.false c.if-arguments-lt2.false e))
    c.of_function.ensures
