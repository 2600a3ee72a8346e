use Rattle.std.proofs.Common.{sym, ap, ◌∙◌}
use Rattle.proof_conversion.specs.Needs.{is_added}
use Rattle.proof_conversion.specs.Parts.{kind_of}
use Rattle.proof_conversion.proofs.Filed.{none_filed, filed_more, filed_same, not_added}
use Rattle.proof_conversion.proofs.deleting.places_due.Goals as goal
use Rattle.proof_conversion.proofs.deleting.places_due.Goals.{in-Added+in_ok-file-in-Added, in_default}

pub loop-k-init : goal.loop-k-init
loop-k-init c = none_filed c.args.parts c.args.steps.now c.args.last.now c.in_ok-lists.lists.items c.in_ok-lists.ensures

pub loop-k-preserved : goal.loop-k-preserved
loop-k-preserved c =
    let kind = ap kind_of (sym c.index-steps-k.is) ∙ sym c.kind_of.ensures in
    elim c.match-kind_of.branch [
      | in-Added+in_ok-file-in-Added w ↦
          rw w.lists-is
          (filed_more c.args.parts c.args.steps.now c.args.last.now c.loop-k.k c.loop-k.lists.items c.requires c.loop-k-test.true c.index-steps-k.result c.loop-k.invariant
          w.file.new.lists.items (kind ∙ w.in-Added.is) w.in_ok-file-in-Added.ensures)
      | in_default w ↦
          rw w.lists-is
          (filed_same c.args.parts c.args.steps.now c.args.last.now c.loop-k.k c.loop-k.lists.items c.requires c.loop-k-test.true c.index-steps-k.result c.loop-k.invariant
          (ap is_added kind ∙ not_added c.kind_of.result w.in_default.not-Added))
    ]
