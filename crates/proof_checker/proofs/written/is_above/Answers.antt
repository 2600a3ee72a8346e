use Rattle.std.proofs.Common.{◌≢◌, ◌-◌, length, get_or, refl, sym, ap, ◌∙◌, arith}
use Rattle.std.proofs.lemmas.Bool.{eqb-false}
use Rattle.proof_checker.proofs.WrittenArrays.{above_last}
use Rattle.proof_checker.proofs.written.is_above.Goals as goal

pub returns : goal.returns
returns c =
    let es = c.args.array.now.entries in
    let d = c.index-entries-entries.result in
    let some : length c.entries-entries.result.now ≢ 0 = eqb-false (length c.entries-entries.result.now) 0 (sym c.is_empty.ensures ∙ c.if-is_empty.false) in
    rw (c.value.ensures, c.value-2.ensures)
    (above_last es (length es - 1) d _ c.args.place.value _ c.index_width-index.ensures.array.rising (omega (arith, some, ap length c.entries-entries.ensures))
    (ap (λ xs. get_or xs (length xs - 1) d) c.entries-entries.ensures) refl)
