use Rattle.std.proofs.Common.{not, ap, ◌∙◌, rules}
use Rattle.std.specs.Prelude.{◌==◌, filter}
use Rattle.std.proofs.lemmas.Fn.{filter_same}
use Rattle.cnf_base.specs.declared.clause.ClauseId.{ClauseId}
use Rattle.diary_checker.proofs.watches.Names.remove.Goals as goal

pub returns : goal.returns
returns c =
    let stays = λ (id : ClauseId). not (id.pos == c.args.at) in
    filter_same _ stays _ (λ x b f' k. search rules) _ _ c.retain.ensures.filtered ∙ ap (filter stays) c.self.view_is
