use Rattle.std.proofs.Common.{◌+◌, length, take, sym, ap, ◌∙◌, arith}
use Rattle.std.proofs.lemmas.Bool.{eqb-false, MatchBool-at_true, MatchBool-at_false}
use Rattle.std.proofs.lemmas.List.{take-append-drop}
use Rattle.proof_checker.proofs.WrittenTables.{few, none_left, not_rising, one_more}
use Rattle.proof_checker.proofs.written.table_of.Goals as goal

pub returns-then-left-width : goal.returns-then-left-width
returns-then-left-width c =
    few c.args.signature.now c.args.default.now c.args.values.now c.rows.left.now c.rows.table (eqb-false (length c.rows.left.now) 0 (sym c.is_empty.ensures ∙ c.rows-test.true)) c.rows.invariant
    (omega (arith, c.if-left-width.true, ap length c.as_slice.ensures))

pub returns-in_default-2 : goal.returns-in_default-2
returns-in_default-2 c =
    none_left c.args.signature.now c.args.default.now c.args.values.now c.rows.left.now c.split_at.result.0.now c.rows.table (eqb-false (length c.rows.left.now) 0 (sym c.is_empty.ensures ∙ c.rows-test.true)) c.rows.invariant
    (c.split_at.ensures.front ∙ ap (λ xs. take (length xs + 1) c.rows.left.now) c.as_slice.ensures) (rw c.in_default-2.is at c.in_ok-row.ensures)

pub returns-then-not-are_above : goal.returns-then-not-are_above
returns-then-not-are_above c =
    let row = rw c.in-Some-2.is at c.in_ok-row.ensures in
    not_rising c.args.signature.now c.args.default.now c.args.values.now c.rows.left.now c.split_at.result.0.now c.rows.table (eqb-false (length c.rows.left.now) 0 (sym c.is_empty.ensures ∙ c.rows-test.true)) c.rows.invariant
    (c.split_at.ensures.front ∙ ap (λ xs. take (length xs + 1) c.rows.left.now) c.as_slice.ensures) c.in-Some-2.row row.0 row.1
    (rw c.as_slice-in-rows.ensures at (MatchBool-at_false _ _ c.if-not-are_above.true c.are_above.ensures))

pub rows-preserved : goal.rows-preserved
rows-preserved c =
    let row = rw c.in-Some-2.is at c.in_ok-row.ensures in
    one_more c.args.signature.now c.args.default.now c.args.values.now c.rows.left.now c.split_at.result.0.now c.split_at.result.1.now c.rows.table c.set.new.self
    (eqb-false (length c.rows.left.now) 0 (sym c.is_empty.ensures ∙ c.rows-test.true)) c.rows.invariant
    (rw (c.split_at.ensures.front, c.split_at.ensures.back) (take-append-drop _ c.rows.left.now)) c.in-Some-2.row row.0 row.1
    (rw c.as_slice-in-rows.ensures at (MatchBool-at_true _ _ c.if-not-are_above.false c.are_above.ensures)) c.in_ok-set.ensures.ok
