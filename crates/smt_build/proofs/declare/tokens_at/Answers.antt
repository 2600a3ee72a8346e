use Rattle.smt_syntax.proofs.Cuts.{signs_at}
use Rattle.smt_build.proofs.declare.tokens_at.Goals as goal

pub returns : goal.returns
returns c = λ w. signs_at c.args.tokens.now c.args.span.start c.args.span.end
