use Rattle.std.proofs.Common.{◌≡◌, ◌∷◌, ◌∙◌, sym, ap, subst, None}
use Rattle.proof_log.specs.Pairs.{kept_for, AreRising, Splits}
use Rattle.proof_log.proofs.Rows.{inserted, inserted_rising}
use Rattle.proof_log.proofs.pairs.Row.insert.Goals as goal

pub invariant_of-self-2 : goal.invariant_of-self-2
invariant_of-self-2 g c =
    let none : kept_for c.self.inside.items.items c.args.lower ≡ None = ap (λ es. kept_for es c.args.lower) c.self.view_is ∙ c.requires.new in
    let splits : Splits c.self.inside.items.items c.args.lower c.place_of-place.result = subst (λ es. Splits es c.args.lower c.place_of-place.result) c.as_slice.ensures.value c.place_of-place.ensures.splits in
    subst AreRising (sym c.in_ok-insert.ensures.items) (inserted_rising (c.args.lower, c.args.value) c.self.inside.items.items c.place_of-place.result none c.self.invariant splits)

pub returns-clause-ok : goal.returns-clause-ok
returns-clause-ok g c = λ t.
    (let none : kept_for c.self.inside.items.items c.args.lower ≡ None = ap (λ es. kept_for es c.args.lower) c.self.view_is ∙ c.requires.new in
    ap (λ es. kept_for es t) c.in_ok-insert.ensures.items
    ∙ inserted (c.args.lower, c.args.value) c.self.inside.items.items c.place_of-place.result none t
    ∙ ap (λ es. kept_for ((c.args.lower, c.args.value) ∷ es) t) c.self.view_is)
