use Rattle.std.proofs.Common.{◌≡◌, ◌<◌, Some, length, ap, ◌∙◌, sym, subst}
use Rattle.std.specs.Prelude.{Contains, IfSome}
use Rattle.std.proofs.lemmas.List.{get_or_read}
use Rattle.std.proofs.lemmas.Option.{same_Some}
use Rattle.cdcl_core.specs.Levels.{Row}
use Rattle.cdcl_core.specs.Search.{literals_of, clause_of}
use Rattle.cdcl_core.specs.State.{no_row}
use Rattle.cdcl_learn.specs.Rows.{row_at, literal_at, reason_at, IsHistory}
use Rattle.cdcl_learn.specs.Units.{AreUnits}
use Rattle.cdcl_learn.proofs.Chaining.{unit_at}
use Rattle.cdcl_learn.proofs.Facts.{history_of}
use Rattle.cdcl_learn.proofs.units.unit_clause.Goals as goal

pub returns : goal.returns
returns c =
    let look = clause_of c.args.watches.now in
    let rows = literals_of c.args.trail.now in
    let p = c.args.place in
    let row : Row = c.index-literals-place.result in
    let clause = c.in-Some-clause_at.clause.now in
    let l = c.literal-literal.result in
    let within : p < length c.literals.result.now = rw c.literals.ensures c.requires.within in
    let at : row_at rows p ≡ row = ap (λ xs. row_at xs p) (sym c.literals.ensures) ∙ sym (get_or_read c.literals.result.now p row within c.index-literals-place.is no_row) in
    let here : literal_at rows p ≡ l = ap (λ (r : Row). r.0) at ∙ sym c.literal-literal.ensures in
    let reason : reason_at rows p ≡ Some c.in-Some.id = ap (λ (r : Row). r.2) at ∙ sym c.in-Some.ensures in
    let history : IsHistory look rows = history_of c.args.watches.now c.args.trail.now c.requires.settled in
    let f = history.forced p c.in-Some.id c.requires.within reason in
    let same : f.0 ≡ clause = same_Some f.0 clause (sym f.1.0 ∙ sym c.in-Some-clause_at.ensures) in
    let has : Contains clause l = subst (Contains clause) here (subst (λ xs. Contains xs (literal_at rows p)) same f.1.1.0) in
    let units : AreUnits look rows p c.literals-2.result.now l c.in-Some-2.hints.items = subst (λ o. IfSome o (λ units. AreUnits look rows p c.literals-2.result.now l units.items)) c.in-Some-2.is c.in_ok-hints.ensures in
    rw (c.in_ok-of_one.ensures, c.in_ok-push.ensures.items) (unit_at look rows p l history c.requires.within here c.in-Some.id clause (sym c.in-Some-clause_at.ensures) c.in-Some-2.hints.items has (rw c.literals-2.ensures at units))
