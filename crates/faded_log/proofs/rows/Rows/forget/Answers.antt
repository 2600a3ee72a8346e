use Rattle.std.proofs.Common.{sym, subst, ◌∙◌}
use Rattle.std.specs.Prelude.{◌==◌}
use Rattle.faded_log.specs.Faded.{FadedValue, IsFaded}
use Rattle.faded_log.proofs.Slots.{set_faded, kept_faded}
use Rattle.faded_log.proofs.rows.Rows.forget.Goals as goal
use Rattle.faded_log.proofs.rows.Rows.forget.Goals.{in-Chain-1, in-Plain-1}

pub returns-then-is_chain_at : goal.returns-then-is_chain_at
returns-then-is_chain_at c =
    let done = set_faded c.self.inside.base c.self.inside.slots.items c.args.at c.args.self.now c.self.view_is (sym c.is_chain_at.ensures ∙ c.if-is_chain_at.true) in
    elim c.match-index_mut.branch [
      | in-Chain-1 w ↦ subst (λ (l : FadedValue). IsFaded (λ p. c.args.at == p) c.args.self.now l) (sym w.self-is) done
      | in-Plain-1 w ↦ subst (λ (l : FadedValue). IsFaded (λ p. c.args.at == p) c.args.self.now l) (sym w.self-is) done
    ]

pub returns-else-is_chain_at : goal.returns-else-is_chain_at
returns-else-is_chain_at c = kept_faded c.args.at c.args.self.now (sym c.is_chain_at.ensures ∙ c.if-is_chain_at.false)
