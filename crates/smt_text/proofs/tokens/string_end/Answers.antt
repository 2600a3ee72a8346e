use Rattle.smt_text.proofs.Strings.{passes_other, passes_pair, ends_here, ends_last, no_end}
use Rattle.smt_text.proofs.tokens.string_end.Goals as goal
use Rattle.smt_text.proofs.tokens.string_end.Goals.{else-i-bytes-via-then-i-bytes+else-bytes-i-eq34, else-i-bytes-via-else-i-bytes}

pub loop-i-preserved-then-bytes-i-ne34 : goal.loop-i-preserved-then-bytes-i-ne34
loop-i-preserved-then-bytes-i-ne34 c = passes_other _ _ c.loop-i.invariant c.loop-i-test.true c.if-bytes-i-ne34.true

pub loop-i-preserved : goal.loop-i-preserved
loop-i-preserved c = passes_pair _ _ c.loop-i.invariant c.loop-i-test.true c.if-i-bytes.true c.if-bytes-i-ne34.false c.if-bytes-i-eq34.true

pub returns-else-i-bytes-clause-value : goal.returns-else-i-bytes-clause-value
returns-else-i-bytes-clause-value c =
    elim c.else-i-bytes.branch [
      | else-i-bytes-via-then-i-bytes+else-bytes-i-eq34 w ↦ ends_here _ _ c.loop-i.invariant c.loop-i-test.true w.if-i-bytes.true c.if-bytes-i-ne34.false w.if-bytes-i-eq34.false
      | else-i-bytes-via-else-i-bytes w ↦ ends_last _ _ c.loop-i.invariant c.loop-i-test.true w.if-i-bytes.false c.if-bytes-i-ne34.false
    ]

pub returns-clause-value : goal.returns-clause-value
returns-clause-value c = no_end _ _ c.loop-i.invariant c.loop-i-test.false
