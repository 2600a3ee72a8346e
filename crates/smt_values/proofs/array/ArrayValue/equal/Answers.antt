use Rattle.std.proofs.Common.{◌∙◌, ap, not}
use Rattle.std.specs.Prelude.{is_some}
use Rattle.smt_values.proofs.Differing.{none_is_agree, opposite}
use Rattle.smt_values.proofs.array.ArrayValue.equal.Goals as goal

pub returns : goal.returns
returns c = opposite _ _ c.is_none.ensures ∙ ap (λ o. not (is_some o)) c.difference.ensures ∙ none_is_agree c.args.self.now c.args.other.now
