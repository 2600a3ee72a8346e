use Rattle.std.proofs.Common.{refl}
use Rattle.std.proofs.lemmas.Option.{slice_get_read}
use Rattle.proof_log.proofs.Flat.{get_row, get_none}
use Rattle.proof_log.proofs.pairs.Pairs.get.Goals as goal

pub returns-in-Some : goal.returns-in-Some
returns-in-Some g c =
    get_row c.self.inside.rows.items c.deref.result.now c.args.self.now c.args.lower c.args.upper c.in-Some.row.now c.get-in-Some.result c.deref.ensures.value c.self.view_is
    (slice_get_read _ _ _ _ refl c.in-Some.ensures.lookup.3.0 c.in-Some.ensures.lookup.1) c.get-in-Some.ensures

pub returns-in-None : goal.returns-in-None
returns-in-None g c = get_none c.self.inside.rows.items c.deref.result.now c.args.self.now c.args.lower c.args.upper c.deref.ensures.value c.self.view_is c.in-None.ensures.lookup.3
