use Rattle.proof_file.proofs.Files.{over_more_terms}
use Rattle.proof_file.proofs.laws.more_terms_keep_files.Goals as goal

pub returns : goal.returns
returns c = over_more_terms
