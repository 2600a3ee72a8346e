use Rattle.std.proofs.Common.{◌≡◌, ℕ, false, ⊎_elim, subst, arith}
use Rattle.std.proofs.lemmas.Bool.{cases_lt}
use Rattle.proof_log.specs.Logs.{entry_at}
use Rattle.proof_log.specs.Diaries.{is_chain}
use Rattle.theory_search.proofs.taking.ask_known_from.Goals as goal

pub steps-preserved : goal.steps-preserved
steps-preserved g c = λ id d le lt plain e. ⊎_elim
    (λ less. c.steps.invariant id d le less plain e)
    (λ ge.
    let q : id.pos ≡ c.steps.pos = omega (arith, lt, ge) in
    c.if-not-is_chain_or_known.ensures (subst (λ (n : ℕ). is_chain (entry_at (g.B.Board.log c.args.board.now) n) ≡ false) q plain) id d q e)
    (cases_lt id.pos c.steps.pos)

pub returns : goal.returns
returns g c = λ id d le lt plain e. c.steps.invariant id d le (let end = c.steps-test.false in omega (arith, lt, end)) plain e
