use Rattle.std.proofs.Common.{◌∙◌}
use Rattle.std.proofs.lemmas.Result.{on_ok_weaker}
use Rattle.proof_log.proofs.Flat.{none_kept, insert_found}
use Rattle.proof_log.proofs.pairs.Pairs.insert.Goals as goal

pub insert-requires : goal.insert-requires
insert-requires g c = record { new = none_kept c.grow.new.rows.items c.args.self.now c.args.lower c.args.upper c.index_mut.result.now (c.grow.ensures.same ∙ c.self.view_is) c.index_mut.ensures.value c.in_ok-grow.ensures.room c.requires.new }

pub returns-clause-ok : goal.returns-clause-ok
returns-clause-ok g c =
    on_ok_weaker c.insert.result
    (insert_found c.grow.new.rows.items c.args.self.now c.args.lower c.args.upper c.args.value c.index_mut.result.now c.insert.new.self (c.grow.ensures.same ∙ c.self.view_is) c.index_mut.ensures.value c.in_ok-grow.ensures.room)
    c.insert.ensures.ok
