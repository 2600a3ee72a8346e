use Rattle.std.proofs.Common.{rules, ◌<◌, ◌/◌, ◌++◌, length}
use Rattle.std.proofs.lemmas.Option.{slice_get_past}
use Rattle.shared_history.specs.Filed.{joined}
use Rattle.shared_history.proofs.Filing.{got_frozen, got_last, past_frozen}
use Rattle.shared_history.proofs.entries.Entries.get.Goals as goal

pub returns-then-self-at : goal.returns-then-self-at
returns-then-self-at g c = search (rules, slice_get_past)

pub returns-then-piece-count : goal.returns-then-piece-count
returns-then-piece-count g c =
    let ps = c.self.inside.frozen.items in let rest = c.self.inside.last.items in
    let within : c.args.at < length (joined ps ++ rest) = search rules in
    let inside : c.args.at / 256 < length ps = search rules in
    let found = c.index-then-piece-count.ensures in
    search (rules, got_frozen ps rest c.args.at c.index.result.now c.index-then-piece-count.result.now)

pub returns-else-piece-count : goal.returns-else-piece-count
returns-else-piece-count g c =
    let ps = c.self.inside.frozen.items in let rest = c.self.inside.last.items in
    search (rules, got_last ps rest c.args.at c.index-else-piece-count.result.now)

pub index-requires-else-piece-count : goal.index-requires-else-piece-count
index-requires-else-piece-count g c =
    let ps = c.self.inside.frozen.items in let rest = c.self.inside.last.items in
    search (rules, past_frozen ps rest c.self.inside.len c.args.at)
