use Rattle.bv_rules.proofs.Longer.{matches_more, images_more}
use Rattle.bv_rules.proofs.laws.more_terms_keep_rules.Goals as goal

pub returns-clause-rules : goal.returns-clause-rules
returns-clause-rules c = matches_more

pub returns-clause-images : goal.returns-clause-images
returns-clause-images c = images_more
