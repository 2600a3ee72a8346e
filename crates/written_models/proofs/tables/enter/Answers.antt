use Rattle.std.proofs.Common.{ap, sym, ◌∙◌, subst, inl, inr, refl}
use Rattle.smt_values.specs.Tables.{with_row}
use Rattle.accepted_proof.specs.Models.{AreOfKinds}
use Rattle.written_models.specs.Fitting.{are_of}
use Rattle.written_models.proofs.tables.enter.Goals as goal

pub returns-then-not-are_of : goal.returns-then-not-are_of
returns-then-not-are_of c =
    inr ((λ i. are_of (sym c.as_slice-sorts.ensures i) (sym c.as_slice-own.ensures i)) ∙ sym c.are_of.ensures.is ∙ c.if-not-are_of.true, refl)

pub returns : goal.returns
returns c =
    let kinds = c.are_of.ensures.kinds c.if-not-are_of.false in
    let fits : AreOfKinds c.args.signature.now.args c.args.row.now.args =
    subst (AreOfKinds c.args.signature.now.args) c.as_slice-own.ensures (subst (λ ss. AreOfKinds ss c.as_slice-own.result.now) c.as_slice-sorts.ensures kinds) in
    let old = c.args.read.now in
    let x = c.scalar_at-value.result in
    inl (record { value = x; fits = fits; kind = c.scalar_at-value.ensures.kind; reads = c.scalar_at-value.ensures.reads; is = c.in_ok-set.ensures.ok ∙ ap (λ as'. with_row old as' x) (c.in_ok-args.ensures ∙ c.as_slice-own.ensures) })
