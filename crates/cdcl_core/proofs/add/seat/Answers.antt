use Rattle.std.proofs.Common.{◌≡◌, ◌*◌, ◌≤◌, get_or, [], arith}
use Rattle.cdcl_core.specs.Chains.{first_of}
use Rattle.cdcl_core.proofs.add.seat.Goals as goal

pub pop_first-requires-clause-pending : goal.pop_first-requires-clause-pending
pop_first-requires-clause-pending c =
    let e : first_of (get_or c.args.w.now.lists.lists 1 []) ≡ 2 * c.args.slot = c.requires.waiting.first in
    let lo : 1 ≤ c.args.slot = c.requires.waiting.low in
    omega arith
