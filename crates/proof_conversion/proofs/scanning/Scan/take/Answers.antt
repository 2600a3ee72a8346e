use Rattle.std.proofs.Common.{◌≡◌, ℕ, List, length, drop, sym, ap, ◌∙◌}
use Rattle.std.proofs.lemmas.List.{take_at}
use Rattle.proof_text.specs.declared.line.Line.{Line}
use Rattle.proof_conversion.specs.Needs.{mark_all, needs}
use Rattle.proof_conversion.proofs.Knowing.{length_marked}
use Rattle.proof_conversion.proofs.Reading.{scan_taken}
use Rattle.proof_conversion.proofs.scanning.Scan.take.Goals as goal

pub returns : goal.returns
returns c =
    let marks =
    c.mark_needs.ensures ∙ ap (λ (x : List Line). mark_all c.args.self.now.part (needs x c.args.line) c.as_mut_slice.result.now) c.as_slice.ensures.value
    ∙ ap (λ (x : List ℕ). mark_all c.args.self.now.part (needs c.args.self.now.steps.items c.args.line) x) c.as_mut_slice.ensures.value in
    let size : length c.mark_needs.new.last ≡ c.args.self.now.last.len =
    ap length marks ∙ length_marked c.args.self.now.part (needs c.args.self.now.steps.items c.args.line) c.args.self.now.last.items
    ∙ sym (ap length c.as_mut_slice.ensures.value) ∙ c.as_mut_slice.ensures.len in
    let back = take_at c.mark_needs.new.last (drop (length c.mark_needs.new.last) c.args.self.now.last.items) c.args.self.now.last.len size in
    scan_taken c.settle.result c.args.self.now c.add.new.self c.settle.new.self _ c.push_slice.new.self c.args.bytes.now c.args.line c.args.kind c.args.owed
    c.requires.kind c.requires.bytes (back ∙ marks)
    c.add.ensures.others.part c.add.ensures.others.texts c.add.ensures.others.opened
    c.in_ok-add.ensures.steps c.in_ok-add.ensures.last
    c.in_ok-push_slice.ensures.ok c.settle.ensures.steps c.settle.ensures.last
    c.settle.ensures.owed c.settle.ensures.part c.settle.ensures.texts c.settle.ensures.opened
