use Rattle.std.proofs.Common.{◌≡◌, ◌≢◌, ◌+◌, ◌*◌, ◌<◌, ◌≤◌, length, get_or, [], ◌∙◌, arith}
use Rattle.cdcl_core.specs.Chains.{first_of}
use Rattle.cdcl_core.proofs.Slots.{moved_counts}
use Rattle.cdcl_core.proofs.add.hang.Goals as goal

pub push_first-requires-clause-idle : goal.push_first-requires-clause-idle
push_first-requires-clause-idle c =
    let pos : 0 < first_of (get_or c.args.w.now.lists.lists 1 []) = (let e : first_of (get_or c.args.w.now.lists.lists 1 []) ≡ 2 * c.args.slot = c.requires.waiting.first in let lo : 1 ≤ c.args.slot = c.requires.waiting.low in omega arith) in
    let one : 1 < length c.args.w.now.lists.lists = omega (arith, c.requires.a, c.requires.high_a) in
    let apart : c.args.a + 1 ≢ 1 = λ e. omega (arith, e, c.requires.high_a) in
    rw (c.move_first.ensures, c.set_literal.ensures, c.rewatch.ensures) (moved_counts c.args.w.now.lists.lists 1 (c.args.a + 1) (2 * c.args.slot + 1) one c.requires.a apart pos ∙ c.requires.idle)
