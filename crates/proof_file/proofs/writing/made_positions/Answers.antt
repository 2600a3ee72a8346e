use Rattle.std.proofs.Common.{◌≡◌, ◌-◌, ◌++◌, ◌∷◌, [], drop, ap, ◌∙◌, arith}
use Rattle.std.specs.Prelude.{not, if◌then◌else◌}
use Rattle.proof_file.specs.Trimmed.{made_from}
use Rattle.proof_file.proofs.Lining.{made_next, made_end}
use Rattle.proof_file.proofs.writing.made_positions.Goals as goal

pub loop-at-preserved : goal.loop-at-preserved
loop-at-preserved c =
    made_next c.args.log.now.entries (made_from c.args.from (drop (c.args.from - 1) c.args.log.now.entries)) c.loop-at.at c.loop-at.made.items c.push_made.new.made.items
    (omega (arith, c.requires, c.loop-at.auto.at)) (omega arith) c.loop-at.invariant
    (c.in_ok-push_made.ensures ∙ ap (λ b. if not b then c.loop-at.made.items ++ c.loop-at.at ∷ [] else c.loop-at.made.items) c.is_derived.ensures)

pub returns : goal.returns
returns c = made_end c.args.log.now.entries (made_from c.args.from (drop (c.args.from - 1) c.args.log.now.entries)) c.loop-at.at c.loop-at.made.items (omega arith) c.loop-at.invariant
