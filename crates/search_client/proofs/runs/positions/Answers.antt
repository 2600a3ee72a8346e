use Rattle.std.proofs.Common.{◌≡◌, ℕ, false, List, ⊎_elim, subst, arith}
use Rattle.std.specs.Prelude.{Contains}
use Rattle.std.proofs.lemmas.List.Elements.{Contains-push_cases}
use Rattle.proof_log.specs.Logs.{entry_at}
use Rattle.proof_log.specs.Diaries.{is_chain}
use Rattle.search_client.proofs.runs.positions.Goals as goal

pub positions-preserved : goal.positions-preserved
positions-preserved g c = record {
  below = λ p k. ⊎_elim
      (λ same. let lt = c.positions.invariant.below p (subst (λ (ps : List ℕ). Contains ps p) same k) in omega (arith, lt))
      (λ more. ⊎_elim
      (λ old. let lt = c.positions.invariant.below p old in omega (arith, lt))
      (λ e. omega (arith, e))
      (Contains-push_cases c.positions.positions.items c.positions.at p (subst (λ (ps : List ℕ). Contains ps p) more.0 k)))
      c.in_ok-add_plain.ensures;
  plain = λ p k. ⊎_elim
      (λ same. c.positions.invariant.plain p (subst (λ (ps : List ℕ). Contains ps p) same k))
      (λ more. ⊎_elim
      (λ old. c.positions.invariant.plain p old)
      (λ e. subst (λ q. is_chain (entry_at (g.B.Board.log c.args.board.now) q) ≡ false) e more.1)
      (Contains-push_cases c.positions.positions.items c.positions.at p (subst (λ (ps : List ℕ). Contains ps p) more.0 k)))
      c.in_ok-add_plain.ensures;
}

pub returns : goal.returns
returns g c = record {
  below = λ p k. let lt = c.positions.invariant.below p k in omega (arith, lt, c.positions-test.false, c.positions.auto.at-end);
  plain = c.positions.invariant.plain;
}
