use Rattle.std.proofs.Common.{ap, ◌∙◌}
use Rattle.proof_file.specs.Indexed.{StaleIndex}
use Rattle.proof_file.proofs.Calls.{noted_denied, noted_not}
use Rattle.proof_file.proofs.stale.StaleChains.note_literal.Goals as goal

pub returns-in-None : goal.returns-in-None
returns-in-None c = noted_not c.deref.result.now c.args.self.now c.args.literal c.args.position (c.deref.ensures.value ∙ ap (λ (v : StaleIndex). v.selected) c.self.view_is) c.in-None.ensures.found

pub returns-in_ok-note_under-in-Some : goal.returns-in_ok-note_under-in-Some
returns-in_ok-note_under-in-Some c =
    noted_denied c.deref.result.now c.args.self.now c.note_under.new.self c.args.literal c.in-Some.assertion c.args.position (c.deref.ensures.value ∙ ap (λ (v : StaleIndex). v.selected) c.self.view_is)
    c.in-Some.ensures.own c.in-Some.ensures.found c.in_ok-note_under-in-Some.ensures
