use Rattle.std.proofs.Common.{subst}
use Rattle.hub_core.specs.declared.events.Call.TheVariants.{Close, Spend}
use Rattle.hub_board.specs.Boards.{view_in}
use Rattle.cube_search.specs.Running.{valuation_of}
use Rattle.cube_workers.specs.Workers.{IsCubeEnd}
use Rattle.cube_workers.proofs.Telling.{on_grows, more_quiet, still_spent_by, other_spent, more_spent, model_stays}
use Rattle.cube_workers.proofs.worker.tell.Goals as goal

pub returns-in-Ok-clause-told : goal.returns-in-Ok-clause-told
returns-in-Ok-clause-told g c = λ p s valid end quiet own.
    let b = c.args.board.now in let b' = c.close.new.self in (
      c.in-Ok.ensures.idle,
      more_quiet b b' (Close c.args.cube c.in-Closed.at) (λ d q. let f : ⊥ = cc in f) c.in-Ok.ensures.told quiet,
      still_spent_by p b b' c.args.spent (on_grows b b' c.facts.ensures c.in-Ok.ensures.on) (other_spent b b' (Close c.args.cube c.in-Closed.at) (λ d q. let f : ⊥ = cc in f) c.in-Ok.ensures.told) own,
    )

pub returns-in-Ok-spend-clause-told : goal.returns-in-Ok-spend-clause-told
returns-in-Ok-spend-clause-told g c = λ p s valid end quiet own.
    let b = c.args.board.now in let b' = c.spend.new.self in
    let is = subst (IsCubeEnd p b (valuation_of s) c.args.cube) c.in-Spent.is end in (
      c.in-Ok-spend.ensures.idle,
      more_quiet b b' (Spend c.args.cube) (λ d q. let f : ⊥ = cc in f) c.in-Ok-spend.ensures.told quiet,
      more_spent p b b' c.args.cube c.args.spent c.in-Spent.diary c.lower.result (on_grows b b' c.facts-in-Spent.ensures c.in-Ok-spend.ensures.on) c.in-Ok-spend.ensures.told is.0 is.1 c.lower.ensures own,
    )

pub returns-in-Model-clause-told : goal.returns-in-Model-clause-told
returns-in-Model-clause-told g c = λ p s valid end quiet own.
    model_stays p (view_in c.args.board.now).log (view_in c.tell_model.new.self).log (valuation_of s) (on_grows c.args.board.now c.tell_model.new.self c.facts-in-Model.ensures c.tell_model.ensures.on) valid (subst (IsCubeEnd p c.args.board.now (valuation_of s) c.args.cube) c.in-Model.is end)
