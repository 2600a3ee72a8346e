use Rattle.std.proofs.Common.{◌≡◌, true, ⊎_elim, inl, inr, sym, subst, arith}
use Rattle.std.specs.Prelude.{Contains}
use Rattle.std.proofs.lemmas.Bool.{cases_lt}
use Rattle.proof_log.specs.Logs.{entry_at}
use Rattle.cube_search.specs.Keeping.{is_theory}
use Rattle.cube_search.proofs.Adding.{adding_none, adding_then}
use Rattle.cube_search.proofs.Told.{longer_has}
use Rattle.cube_search.proofs.search.Search.hold_steps.Goals as goal

pub steps-init : goal.steps-init
steps-init g c = record {
  engine = c.requires.engine;
  level = c.requires.level;
  adding = adding_none (g.B.Board.nodes c.args.board.now) (g.B.Board.log c.args.board.now) c.args.self.now c.requires.filling;
  all = λ p le lt e. absurd (omega (arith, le, lt));
  low = omega arith;
  came = λ p k. inl k;
}

pub steps-preserved : goal.steps-preserved
steps-preserved g c =
    let log = g.B.Board.log c.args.board.now in
    let s = c.steps.self in
    let t = c.take_step.new.self in
    let step = c.in_ok-take_step.ensures.adding in
    record {
      engine = c.in_ok-take_step.ensures.engine;
      level = c.in_ok-take_step.ensures.level;
      adding = adding_then (g.B.Board.nodes c.args.board.now) log c.args.self.now s t c.steps.invariant.adding step;
      all = λ p le lt e. ⊎_elim
          (λ less. longer_has s.opening.items t.opening.items p step.opening (c.steps.invariant.all p le less e))
          (λ ge.
          let q : p ≡ c.steps.at = omega (arith, lt, ge) in
          subst (λ n. Contains t.opening.items n) (sym q) (c.in_ok-take_step.ensures.held (subst (λ n. is_theory (entry_at log n) ≡ true) q e)))
          (cases_lt p c.steps.at);
      low = (let from = c.steps.invariant.low in omega (arith, from));
      came = λ p k. ⊎_elim
          (λ there. ⊎_elim (λ old. inl old) (λ q. inr (q.0, (let less = q.1 in omega (arith, less)), (let test = c.steps-test.true in omega (arith, test)))) (c.steps.invariant.came p there))
          (λ q. inr ((let from = c.steps.invariant.low in omega (arith, q, from)), omega (arith, q), (let test = c.steps-test.true in omega (arith, test))))
          (c.in_ok-take_step.ensures.came p k);
    }

pub returns-clause-all : goal.returns-clause-all
returns-clause-all g c = λ p le lt e. c.steps.invariant.all p le (omega (arith, lt, c.steps-test.false)) e

pub take_step-requires-clause-filling : goal.take_step-requires-clause-filling
take_step-requires-clause-filling g c = c.steps.invariant.adding.filling

pub returns-clause-came : goal.returns-clause-came
returns-clause-came g c = λ p k. ⊎_elim (λ old. inl old) (λ q. inr (q.0, (let less = q.1 in let within = q.2 in omega (arith, less, within)))) (c.steps.invariant.came p k)
