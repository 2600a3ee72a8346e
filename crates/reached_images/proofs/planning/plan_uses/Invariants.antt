use Rattle.std.proofs.Common.{ℕ, List}
use Rattle.smt_terms.specs.declared.node.Node.{Node}
use Rattle.smt_terms.specs.Terms.{TermsValue}
use Rattle.bv_rewrite.specs.Simplifying.{IsWay}
use Rattle.reached_images.specs.declared.plan.Planned.{Planned}
use Rattle.reached_images.specs.Plans.{known_image, start_at, AreInnerFirst, HasKnownArguments, IsKnown, IsLater, IsPlan, IsPlannedBy, StaysWhole}
use Rattle.reached_images.specs.Settled.{AreOwn}
use Rattle.reached_images.proofs.Needing.{AreUsedFrom}
use Rattle.reached_images.proofs.Owning.{HasWayFrom}
use Rattle.reached_images.proofs.planning.plan_uses.Given as goal

abbrev pub invariant-uses : goal.invariant-uses
invariant-uses l =
    IsLater l.fn.plan l.plan × ((nodes : List Node) (before : List Planned) (last : ℕ)
    → IsPlan nodes l.bits l.fn.plan → IsLater before l.fn.plan → IsWay nodes (known_image l.bits before) l.term l.uses last → IsKnown l.bits l.fn.plan last
    → IsPlannedBy nodes l.bits l.fn.plan l.plan (start_at l.term l.uses l.place)) × ((nodes : List Node) (before : List Planned) (last : ℕ)
    → IsPlan nodes l.bits l.fn.plan → IsLater before l.fn.plan → IsWay nodes (known_image l.bits before) l.term l.uses last → IsKnown l.bits l.fn.plan last
    → AreInnerFirst l.uses → HasKnownArguments nodes l.bits l.fn.plan l.term → StaysWhole nodes l.bits l.fn.plan l.plan) × AreUsedFrom l.uses l.plan l.place
    × HasWayFrom l.fn.plan l.term l.uses l.plan l.place × ((w : TermsValue) → AreOwn w l.bits l.fn.plan → AreOwn w l.bits l.plan)
