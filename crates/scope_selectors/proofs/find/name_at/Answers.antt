use Rattle.std.proofs.Common.{rules, ◌∙◌}
use Rattle.std.proofs.lemmas.List.Sorted.{answers_always}
use Rattle.scope_selectors.specs.declared.live.Live.{Live}
use Rattle.scope_selectors.proofs.Naming.{name_found, name_missing}
use Rattle.scope_selectors.proofs.find.name_at.Goals as goal

pub returns-in-Ok : goal.returns-in-Ok
returns-in-Ok c =
    c.as_ref.ensures.value
    ∙ name_found c.args.live.now c.args.assertion c.requires c.in-Ok.at _ c.in-Ok.ensures.bound (c.in-Ok.ensures.position (λ (l : Live). l.assertion) (answers_always _ _ _ (λ f a r g called. search rules)))

pub returns-in-Err : goal.returns-in-Err
returns-in-Err c =
    name_missing c.args.live.now c.args.assertion c.requires c.in-Err.field-0 (c.in-Err.ensures.position (λ (l : Live). l.assertion) (answers_always _ _ _ (λ f a r g called. search rules)))
