use Rattle.std.proofs.Common.{[], sym, subst}
use Rattle.proof_file.specs.Places.{FileValue}
use Rattle.proof_file.specs.Indexed.{IsIndexOf}
use Rattle.proof_file.proofs.file.ProofFile.new.Goals as goal

pub returns-clause-file : goal.returns-clause-file
returns-clause-file c nodes = subst (λ (f : FileValue). IsIndexOf c.new-2.result nodes [] f.places) (sym c.new.ensures) (c.new-2.ensures nodes)
