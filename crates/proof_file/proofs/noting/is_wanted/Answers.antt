use Rattle.std.proofs.Common.{◌+◌}
use Rattle.std.specs.Prelude.{Contains}
use Rattle.proof_file.proofs.Calls.{wanted_then, wanted_else}
use Rattle.proof_file.proofs.noting.is_wanted.Goals as goal

pub returns-then-wanted : goal.returns-then-wanted
returns-then-wanted c = wanted_then c.args.wanted c.has-marked.result (Contains c.args.marks.now (c.args.assertion + 1)) c.if-wanted.true c.has-marked.ensures

pub returns-else-wanted : goal.returns-else-wanted
returns-else-wanted c = wanted_else c.args.wanted c.has-marked.result (Contains c.args.marks.now (c.args.assertion + 1)) c.if-wanted.false c.has-marked.ensures
