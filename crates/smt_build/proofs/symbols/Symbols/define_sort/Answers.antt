use Rattle.std.proofs.Common.{refl}
use Rattle.smt_build.proofs.Spellings.{at_span}
use Rattle.smt_build.proofs.Definings.{defines_sort, no_sort_command}
use Rattle.smt_build.proofs.symbols.Symbols.define_sort.Goals as goal

pub returns-in_ok-sort-in-DefineSort-clause-defines : goal.returns-in_ok-sort-in-DefineSort-clause-defines
returns-in_ok-sort-in-DefineSort-clause-defines c = rw c.in-DefineSort.is (λ es h.
    defines_sort _ _ _ _ es h _ _ _ c.in_ok-sort-in-DefineSort.sort
    (λ n a. c.name_sort.ensures.defines n (at_span _ _ _ _ n c.as_slice-items.ensures c.tokens_at-in-DefineSort-2.ensures a))
    (λ p s b d. c.in_ok-sort-in-DefineSort.ensures p s (at_span _ _ _ _ p c.as_slice-items.ensures c.tokens_at.ensures b) (at_span _ _ _ _ s c.as_slice-items.ensures c.tokens_at-in-DefineSort.ensures d)))

pub returns-in_default-clause-defines : goal.returns-in_default-clause-defines
returns-in_default-clause-defines c = λ es h. (no_sort_command _ _ c.args.command.now c.in_default.not-DefineSort es h, refl)
