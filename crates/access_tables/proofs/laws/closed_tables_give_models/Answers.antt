use Rattle.access_tables.proofs.Modeled.{from_closed}
use Rattle.access_tables.proofs.laws.closed_tables_give_models.Goals as goal

pub returns : goal.returns
returns c = λ nodes bits f table M terms have sat closed from. from_closed nodes bits f table M terms have sat closed from
