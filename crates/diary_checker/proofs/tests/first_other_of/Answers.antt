use Rattle.std.proofs.Common.{[]}
use Rattle.diary_checker.proofs.tests.first_other_of.Goals as goal

pub new-requires-2-clause-start : goal.new-requires-2-clause-start
new-requires-2-clause-start c = c.new.ensures.start [] c.args.log.now
