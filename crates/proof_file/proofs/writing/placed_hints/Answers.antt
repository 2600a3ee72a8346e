use Rattle.std.proofs.Common.{◌≡◌, ◌++◌, ◌∷◌, [], ℕ, ap, ◌∙◌}
use Rattle.cnf_base.specs.declared.clause.ClauseId.{ClauseId}
use Rattle.proof_file.specs.Held.{file_in}
use Rattle.proof_file.specs.Places.{placed_hint}
use Rattle.proof_file.proofs.Lining.{hints_next}
use Rattle.proof_file.proofs.writing.placed_hints.Goals as goal

pub loop-k-preserved : goal.loop-k-preserved
loop-k-preserved c =
    hints_next (placed_hint (file_in c.args.places.now).places) c.args.hints.now c.loop-k.k c.hint-hint.result c.loop-k.placed.items c.push.new.self.items c.hint-hint.ensures c.loop-k.invariant
    (c.in_ok-push.ensures.items ∙ ap (λ (q : ℕ). c.loop-k.placed.items ++ record { pos = q; part = c.hint-hint.result.part } ∷ []) (c.number.ensures ∙ c.place_of.ensures))
