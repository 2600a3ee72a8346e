use Rattle.std.proofs.Common.{rules, Some, ◌∷◌, sym, ap, ◌∙◌}
use Rattle.atomic_table.specs.Table.{rest}
use Rattle.shared_history.proofs.Keeps.{draws, polls}
use Rattle.shared_history.proofs.Came.{came, took}
use Rattle.shared_history.proofs.turn.Hist+L.take.Goals as goal

pub fetch_add-ticket-requires : goal.fetch_add-ticket-requires
fetch_add-ticket-requires g c = (search rules, search rules, draws g.L.Law.by g.L.Law.stands _ _ _ _ c.requires.rest.live c.requires.rest.idle)

pub load-requires : goal.load-requires
load-requires g c = let is = c.loop.invariant.1.2 in (search rules, search rules, polls g.L.Law.by g.L.Law.stands _ _ _ _ c.loop.invariant.1.0 (ap (λ m. m.0.live) is ∙ c.requires.rest.live) (ap (λ m. m.0.stage) is) (ap (λ m. m.1) is))

pub exchange-requires : goal.exchange-requires
exchange-requires g c = let i = c.loop.invariant.1 in
    let k = came g.L.Law.by g.L.Law.stands c.self.inside.table.shared.table_id.slots c.loop.seat.me i.0 c.load.result c.load.new.seat.me (ap (λ m. m.0.stage) i.2) (c.if-load-ticket.true ∙ i.1) c.load.ensures.2 in
    (search rules, (Some k.0, k.2 ∙ ap (λ l. (0, Some k.0) ∷ rest l) (sym k.2)))

pub returns-in-Some-exchange-clause-took : goal.returns-in-Some-exchange-clause-took
returns-in-Some-exchange-clause-took g c = let i = c.loop.invariant.1 in
    let k = came g.L.Law.by g.L.Law.stands c.self.inside.table.shared.table_id.slots c.loop.seat.me i.0 c.load.result c.load.new.seat.me (ap (λ m. m.0.stage) i.2) (c.if-load-ticket.true ∙ i.1) c.load.ensures.2 in
    took g.L.Law.by g.L.Law.stands c.args.self.now.law c.args.seat.now c.exchange.new.seat c.loop.seat.me c.load.new.seat.me i.0 c.in-Some-exchange.locked c.requires.own.1 i.2 k
    (c.exchange.ensures.2 ∙ ap (λ x. (0, x) ∷ rest c.load.new.seat.me.1) c.in-Some-exchange.is) c.exchange.ensures.3
