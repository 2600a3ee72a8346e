use Rattle.std.proofs.Common.{rules, ◌≡◌, Some, [], ◌∷◌, sym, ap, ◌∙◌, subst}
use Rattle.atomic_table.specs.Table.{rest}
use Rattle.std.specs.List.{AllByRecursion}
use Rattle.shared_history.specs.Moves.{rested}
use Rattle.shared_history.proofs.Keeps.{passes}
use Rattle.shared_history.proofs.turn.Hist+L.give.Goals as goal

pub fetch_add-requires : goal.fetch_add-requires
fetch_add-requires g c = let t = c.requires.turn in let x = c.args.locked in let v = c.args.seat.now.me.0 in let now = c.exchange.ensures.3 ∙ ap (λ l. (v, (0, Some x) ∷ rest l)) t.out in (
  search rules,
  search rules,
  passes _ _ _ _ _ _ c.args.self.now.law t.ticket t.all t.more x (ap (λ m. m.0.live) now ∙ t.live) (ap (λ m. m.0.law) now ∙ c.requires.own.1) (ap (λ m. m.0.stage) now ∙ t.turn) (ap (λ m. m.1) now) t.grew
      (subst (λ n. AllByRecursion (λ e. g.L.Law.by e ≡ n) t.more) (sym (ap (λ m. m.0.number) now)) t.own) t.good,
)

pub returns-clause-rest : goal.returns-clause-rest
returns-clause-rest g c = let t = c.requires.turn in let x = c.args.locked in let v = c.args.seat.now.me.0 in let now = c.exchange.ensures.3 ∙ ap (λ l. (v, (0, Some x) ∷ rest l)) t.out in
    c.fetch_add.ensures.2 x (ap (λ m. m.1) now) ∙ ap (λ m. (rested g.L.Law.by m.0 x.entries.items, [])) now
