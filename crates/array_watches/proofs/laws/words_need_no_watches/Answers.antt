use Rattle.array_watches.proofs.Arrayless.{words_need_no_watches}
use Rattle.array_watches.proofs.laws.words_need_no_watches.Goals as goal

pub returns : goal.returns
returns c = words_need_no_watches
