use Rattle.std.proofs.Common.{refl, sym, ◌∙◌}
use Rattle.tool_words.proofs.WordsTaken.{asked_so, fails_by_memory, nothing_asked, numbers_asked, names_options, names_draw}
use Rattle.tool_words.proofs.command_line.plan.Goals as goal

pub plan_of-requires : goal.plan_of-requires
plan_of-requires c = numbers_asked _ c.in-Ok.found _ c.in_ok-command_line.ensures c.in-Ok.ensures.matches c.in-Ok.ensures.kinds

pub returns-in-Some-clause-options : goal.returns-in-Some-clause-options
returns-in-Some-clause-options c = names_options _ _ _ _ _ _ _ c.in-Some.ensures.some (numbers_asked _ c.in-Ok.found _ c.in_ok-command_line.ensures c.in-Ok.ensures.matches c.in-Ok.ensures.kinds)

pub returns-in-Some-clause-draw : goal.returns-in-Some-clause-draw
returns-in-Some-clause-draw c = names_draw _ _ _ _ _ _ _ c.in-Some.ensures.some (numbers_asked _ c.in-Ok.found _ c.in_ok-command_line.ensures c.in-Ok.ensures.matches c.in-Ok.ensures.kinds)

pub returns-in-Ok-clause-asked : goal.returns-in-Ok-clause-asked
returns-in-Ok-clause-asked c = λ _. nothing_asked _ c.in-Ok.found _ c.in_ok-command_line.ensures c.in-Ok.ensures.matches (c.in-None.ensures.none refl)

pub returns-in-Some-clause-asked : goal.returns-in-Some-clause-asked
returns-in-Some-clause-asked c = asked_so _ c.in-Ok.found _ c.in_ok-command_line.ensures c.in-Ok.ensures.matches c.in-Ok.ensures.kinds _ _ _ _ _ _ c.in-Some.ensures.some

pub returns-clause-asked : goal.returns-clause-asked
returns-clause-asked c = λ usage taken.
    let wanting = (c.refusal.ensures).1 (fails_by_memory _ _ _ c.in_ok-command_line.ensures c.in-Err.ensures.kinds taken) in
    let same = sym usage ∙ wanting in
    let z : ⊥ = cc in z
