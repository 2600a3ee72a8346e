use Rattle.std.proofs.Common.{rules, Some, [], ◌∷◌, ap, ◌∙◌}
use Rattle.atomic_table.specs.Table.{rest}
use Rattle.shared_history.specs.declared.view.Stage.TheVariants.{Idle}
use Rattle.shared_history.specs.Moves.{at_stage}
use Rattle.shared_history.proofs.Keeps.{leaves}
use Rattle.shared_history.proofs.turn.Hist+L.leave.Goals as goal

pub fetch_add-requires : goal.fetch_add-requires
fetch_add-requires g c = let t = c.requires.turn in let x = c.args.locked in let v = c.args.seat.now.me.0 in let now = c.exchange.ensures.3 ∙ ap (λ l. (v, (0, Some x) ∷ rest l)) t.out in (
  search rules,
  search rules,
  leaves _ _ _ _ _ _ c.args.self.now.law t.ticket t.all x (ap (λ m. m.0.live) now ∙ t.live) (ap (λ m. m.0.law) now ∙ c.requires.own.1) (ap (λ m. m.0.stage) now ∙ t.turn) (ap (λ m. m.1) now) t.same t.good,
)

pub returns-clause-rest : goal.returns-clause-rest
returns-clause-rest g c = let t = c.requires.turn in let x = c.args.locked in let v = c.args.seat.now.me.0 in let now = c.exchange.ensures.3 ∙ ap (λ l. (v, (0, Some x) ∷ rest l)) t.out in
    c.fetch_add.ensures.2 x (ap (λ m. m.1) now) ∙ ap (λ m. (at_stage m.0 Idle, [])) now
