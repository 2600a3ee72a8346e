use Rattle.std.proofs.Common.{rules, ◌≡◌, ◌≤◌, ◌-◌, ◌/◌, ◌*◌, ◌++◌, length, drop}
use Rattle.shared_history.specs.Filed.{joined, AreWhole}
use Rattle.shared_history.proofs.Filing.{frozen_tail, last_tail, last_filed}
use Rattle.shared_history.proofs.pieces.shared_from.Goals as goal

pub invariant_of-result : goal.invariant_of-result
invariant_of-result g c = let e = c.entries.inside in search (rules, frozen_tail e.frozen.items c.in_ok-frozen.frozen.items e.last.items c.in_ok-last.last.items e.len c.args.from)

pub invariant_of-result-then-first-count : goal.invariant_of-result-then-first-count
invariant_of-result-then-first-count g c = let e = c.entries.inside in search (rules, frozen_tail e.frozen.items c.in_ok-frozen.frozen.items e.last.items c.in_ok-last.last.items e.len c.args.from)

pub returns-in_ok-last : goal.returns-in_ok-last
returns-in_ok-last g c = let e = c.entries.inside in search (rules, frozen_tail e.frozen.items c.in_ok-frozen.frozen.items e.last.items c.in_ok-last.last.items e.len c.args.from)

pub copies-requires-else-first-count : goal.copies-requires-else-first-count
copies-requires-else-first-count g c = let e = c.entries.inside in search (rules, last_tail e.frozen.items e.last.items e.len c.args.from)

pub invariant_of-whole : goal.invariant_of-whole
invariant_of-whole g c = let e = c.entries.inside in
    let same : c.in_ok-last-2.last.items ≡ drop (c.args.from - length e.frozen.items * 256) e.last.items = search rules in
    let past : length e.frozen.items ≤ c.args.from / 256 = search rules in
    let few : length e.last.items ≤ 256 = search rules in
    let long : e.len ≡ length (joined e.frozen.items ++ e.last.items) = search rules in
    let within : c.args.from ≤ e.len = search rules in
    let counted : c.in_ok-last-2.last.len ≡ length c.in_ok-last-2.last.items = search rules in
    let whole : AreWhole e.frozen.items = search rules in
    last_filed e.frozen.items c.new-frozen.result.items e.last.items c.in_ok-last-2.last.items e.len c.in_ok-last-2.last.len c.args.from whole long within past few counted (search rules) same

pub returns-in_ok-last-2 : goal.returns-in_ok-last-2
returns-in_ok-last-2 g c = let e = c.entries.inside in search (rules, last_tail e.frozen.items e.last.items e.len c.args.from)
