use Rattle.std.proofs.Common.{ℕ, ◌<◌, length, sym, ◌∙◌}
use Rattle.bit_blast.specs.Assigned.{assigned}
use Rattle.walk_rows.specs.Fitting.{IsGiven, IsReady}
use Rattle.walk_rows.proofs.Fitted.{ready, matched}
use Rattle.walk_rows.proofs.fitting.is_ready.Goals as goal

pub returns : goal.returns
returns c = matched
    ((t : ℕ) → t < length c.args.terms.now.nodes → IsGiven c.args.terms.now.nodes c.args.bits.now t)
    (Unit {0})
    (IsReady c.args.terms.now.nodes c.args.bits.now (assigned c.args.assignment.now))
    c.are_given.result
    (λ given. ready c.args.terms.now.nodes c.len-count.ensures.terms.list c.args.bits.now c.requires.unlinked (assigned c.args.assignment.now) (sym c.value.ensures ∙ c.if-not-value.false) given)
    c.are_given.ensures
