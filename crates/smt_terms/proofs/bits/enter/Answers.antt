use Rattle.std.proofs.Common.{refl, length, arith, ◌≡◌}
use Rattle.smt_terms.proofs.Spans.{table_push}
use Rattle.smt_terms.proofs.bits.enter.Goals as goal

pub returns-clause-table : goal.returns-clause-table
returns-clause-table c =
    let number : c.len-place.result ≡ length c.args.spans.now.items = omega arith in
    rw c.in_ok-push.ensures.items
    (table_push _ _ _ _ c.args.span _ c.requires.table c.grow.ensures.same c.requires.new c.in_ok-grow.ensures.ok number refl)
