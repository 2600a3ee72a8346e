use Rattle.std.proofs.Common.{◌≡◌, ◌-◌, ◌≤◌, ℕ, Some, length, refl, sym, ◌∙◌, subst, eqb-true}
use Rattle.std.specs.Prelude.{slice_get}
use Rattle.std.proofs.lemmas.Bool.{eqb-false}
use Rattle.std.proofs.lemmas.Option.{slice_get_read}
use Rattle.proof_file.proofs.Placing.{row_past, row_there, row_gone}
use Rattle.proof_file.proofs.places.row_of.Goals as goal

pub returns-in_default : goal.returns-in_default
returns-in_default c =
    row_past c.args.places.now c.args.positions.now c.args.place c.requires
    (subst (λ (n : ℕ). length c.args.positions.now ≤ n - 1) c.number.ensures c.in_default.ensures.lookup.3)

pub returns-then-eq : goal.returns-then-eq
returns-then-eq c =
    let h = c.in-Some.ensures.lookup in
    let there = subst (λ (n : ℕ). slice_get c.args.positions.now (n - 1) ≡ Some c.in-Some.at.now) c.number.ensures (slice_get_read c.args.positions.now _ (c.number.result - 1) c.in-Some.at.now refl h.3.0 h.1) in
    row_there c.args.places.now c.args.positions.now c.args.place c.in-Some.at.now c.requires (eqb-false c.args.place 0 (sym c.is_nowhere.ensures ∙ c.if-is_nowhere.false)) there
    (sym c.place_at.ensures ∙ eqb-true c.place_at.result c.args.place (sym c.eq.ensures ∙ c.if-eq.true))

pub returns-else-eq : goal.returns-else-eq
returns-else-eq c =
    let h = c.in-Some.ensures.lookup in
    let there = subst (λ (n : ℕ). slice_get c.args.positions.now (n - 1) ≡ Some c.in-Some.at.now) c.number.ensures (slice_get_read c.args.positions.now _ (c.number.result - 1) c.in-Some.at.now refl h.3.0 h.1) in
    row_gone c.args.places.now c.args.positions.now c.args.place c.in-Some.at.now c.requires (eqb-false c.args.place 0 (sym c.is_nowhere.ensures ∙ c.if-is_nowhere.false)) there
    (λ e. eqb-false c.place_at.result c.args.place (sym c.eq.ensures ∙ c.if-eq.false) (c.place_at.ensures ∙ e))
