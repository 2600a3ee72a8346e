use Rattle.smt_text.proofs.Spelled.{AreTokens-one, IsBadAt-one, AreTokens-bad}
use Rattle.smt_text.proofs.tokens.one_reading.Goals as goal

pub returns-clause-tokens : goal.returns-clause-tokens
returns-clause-tokens c = AreTokens-one

pub returns-clause-bad : goal.returns-clause-bad
returns-clause-bad c = IsBadAt-one

pub returns-clause-apart : goal.returns-clause-apart
returns-clause-apart c = AreTokens-bad
