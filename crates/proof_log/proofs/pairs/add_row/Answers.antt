use Rattle.std.proofs.Common.{◌∙◌, ap, ◌++◌, ◌∷◌, []}
use Rattle.proof_log.specs.Pairs.{flat}
use Rattle.proof_log.proofs.Flat.{flat_more}
use Rattle.proof_log.proofs.pairs.add_row.Goals as goal

pub returns-clause-same : goal.returns-clause-same
returns-clause-same g c = ap (flat 0) c.in_ok-push.ensures.items ∙ ap (λ r. flat 0 (c.args.rows.now.items ++ r ∷ [])) c.none-row.ensures ∙ flat_more c.args.rows.now.items
