use Rattle.std.proofs.Common.{sym, ◌∙◌}
use Rattle.std.proofs.lemmas.Bool.{MatchBool-at_true, MatchBool-at_false}
use Rattle.proof_checker.proofs.WrittenArrays.{no_entry, not_above, entry_taken}
use Rattle.proof_checker.proofs.written.array_of.Goals as goal

pub returns-in_default-entry_of : goal.returns-in_default-entry_of
returns-in_default-entry_of c =
    no_entry c.args.index c.args.element c.args.default.now c.args.entries.now c.loop-entry.entry-index c.entry-item.result c.loop-entry-test.true c.loop-entry.array c.loop-entry.invariant
    (λ e fits says. c.in_default-entry_of.ensures e fits (says ∙ sym c.entry-item.is))

pub returns-then-not-is_above : goal.returns-then-not-is_above
returns-then-not-is_above c =
    not_above c.args.index c.args.element c.args.default.now c.args.entries.now c.loop-entry.entry-index c.entry-item.result c.loop-entry-test.true c.loop-entry.array c.loop-entry.invariant
    _ c.in-Some-entry_of.ensures.0 (c.in-Some-entry_of.ensures.1 ∙ c.entry-item.is) (MatchBool-at_false _ _ c.if-not-is_above.true c.is_above.ensures)

pub loop-entry-preserved : goal.loop-entry-preserved
loop-entry-preserved c =
    entry_taken c.args.index c.args.element c.args.default.now c.args.entries.now c.loop-entry.entry-index c.entry-item.result c.loop-entry-test.true c.loop-entry.array c.loop-entry.invariant
    _ c.set.new.self c.in-Some-entry_of.ensures.0 (c.in-Some-entry_of.ensures.1 ∙ c.entry-item.is) (MatchBool-at_true _ _ c.if-not-is_above.false c.is_above.ensures) c.in_ok-set.ensures.ok
