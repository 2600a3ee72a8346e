use Rattle.std.proofs.Common.{◌≡◌, ◌<◌, length, sym, subst, arith, inl, inr, ⊎_elim}
use Rattle.std.proofs.lemmas.Bool.{cases_lt}
use Rattle.access_spread.specs.Spreads.{AreTold, HasBegun, IsMet, most_refused, start_at}
use Rattle.access_spread.proofs.Lists.{longer}
use Rattle.access_spread.proofs.Visiting.{single, table, told}
use Rattle.access_spread.proofs.spreading.spread.Goals as goal

pub loop-start-preserved : goal.loop-start-preserved
loop-start-preserved c =
    let h : HasBegun c.args.graph.now c.args.gates.now c.args.lanes.now c.args.starts.now c.loop-start.state c.begin.new.state c.loop-start.start = c.in_ok-begin.ensures in
    let inv = c.loop-start.invariant in
    record {
      fits = h.fits;
      visited = h.visited;
      index = λ s le lt. let r = c.requires.rising c.loop-start.start s (omega (arith, le)) lt in omega (arith, h.index, r);
      met = λ room s lt.
          ⊎_elim
          (λ less.
          let k = longer c.loop-start.state.refused.items c.begin.new.state.refused.items h.refusals in
          let before : length c.loop-start.state.refused.items < most_refused = omega (arith, k, room) in
          ⊎_elim
          (λ k. inl (k.0, k.1, h.kept k.0 k.1 k.2, k.3, k.4, k.5))
          (λ k. inr (k.0, k.1, h.refusals k.0 k.1 k.2, k.3, k.4))
          (inv.met before s less))
          (λ le. let same : s ≡ c.loop-start.start = omega arith in subst (λ z. IsMet c.args.starts.now c.begin.new.state.rows.items c.begin.new.state.refused.items (start_at c.args.starts.now z).array (start_at c.args.starts.now z).index (start_at c.args.starts.now z).value) (sym same) (h.met room))
          (cases_lt s c.loop-start.start);
    }

all_told : (c : goal.After-loop-start) → AreTold c.args.graph.now c.args.gates.now c.args.lanes.now c.args.starts.now c.loop-start.state.rows.items c.loop-start.state.refused.items
all_told c =
    let end = c.loop-start-test.false in
    told c.args.graph.now c.args.gates.now c.args.lanes.now c.args.starts.now c.loop-start.state c.loop-start.invariant.visited (λ room s lt. c.loop-start.invariant.met room s (omega (arith, lt, end)))

pub returns-after-loop-start-clause-spread : goal.returns-after-loop-start-clause-spread
returns-after-loop-start-clause-spread c =
    let fits = c.loop-start.invariant.fits in
    record {
      derived = fits.derived;
      started = fits.started;
      refused_are = fits.refused;
      few = fits.few;
      single = single c.args.graph.now c.args.gates.now c.args.lanes.now c.args.starts.now c.loop-start.state fits;
      table = table c.args.graph.now c.args.gates.now c.args.lanes.now c.args.starts.now c.loop-start.state fits (all_told c);
    }

pub returns-after-loop-start-clause-told : goal.returns-after-loop-start-clause-told
returns-after-loop-start-clause-told c = all_told c
