use Rattle.access_tables.proofs.Descending.{no_way_back}
use Rattle.access_tables.proofs.laws.terms_without_images_lead_down.Goals as goal

pub returns : goal.returns
returns c = λ nodes terms. no_way_back nodes terms
