use Rattle.std.proofs.Common.{rules}
use Rattle.proof_file.proofs.Noted.{index_none}
use Rattle.proof_file.proofs.stale.StaleChains.new.Goals as goal

pub returns : goal.returns
returns c = λ nodes. index_none _ nodes (search rules) (search rules) (search rules)
