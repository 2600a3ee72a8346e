use Rattle.bit_blast.proofs.Fixing.{clauses_fix}
use Rattle.bit_blast.proofs.laws.clauses_fix_values.Goals as goal

pub returns : goal.returns
returns c = clauses_fix
