use Rattle.smt_build.proofs.Spellings.{sort_five}
use Rattle.smt_build.proofs.sorts.part_sort.Goals as goal

pub returns-in-len5 : goal.returns-in-len5
returns-in-len5 c = λ s e. sort_five c.args.symbols.now.sorts _ _ _ _ c.in-len5.len_at_least c.in-len5.len_below s e _ c.indexed_sort.ensures
