use Rattle.smt_build.proofs.Growth.{none_declared}
use Rattle.smt_build_rows.proofs.tests.no_terms.Goals as goal

pub returns : goal.returns
returns c = rw c.with_limit.ensures (none_declared c.args.symbols.now.signatures)
