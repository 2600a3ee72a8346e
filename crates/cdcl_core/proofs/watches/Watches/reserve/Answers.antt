use Rattle.std.proofs.Common.{rules, ◌≡◌, ◌+◌, ◌-◌, ◌*◌, ◌<◌, ◌≤◌, length, vec_len, arith}
use Rattle.cdcl_core.proofs.Growing.{longer_settled, longer_literals, longer_sizes}
use Rattle.cdcl_core.proofs.watches.Watches.reserve.Goals as goal

pub returns-in_err-lengthen_trail-clause-settled : goal.returns-in_err-lengthen_trail-clause-settled
returns-in_err-lengthen_trail-clause-settled c =
    let size : vec_len c.args.trail.now.stamps ≡ length c.args.trail.now.stamps.items = search rules in
    let less : length c.args.trail.now.stamps.items < 2 * c.args.variables = omega (arith, c.if-len-count.true, c.len.ensures, size) in
    let sizes : (length c.args.trail.now.stamps.items ≤ 2 * length c.lengthen_trail.new.t.codes.items) × (length c.args.trail.now.stamps.items ≤ 2 * length c.lengthen_trail.new.t.rows.items) × (length c.args.trail.now.stamps.items ≤ 2 * length c.lengthen_trail.new.t.spots.items) = longer_sizes c.args.self.now c.args.trail.now c.lengthen_trail.new.t 0 c.requires c.in_err-lengthen_trail.ensures.err in
    rw c.in_ok-grow_lists.ensures.ok (longer_settled c.args.self.now c.args.trail.now c.lengthen_trail.new.t (2 * c.args.variables + 2 - length c.args.self.now.lists.lists) 0 c.requires c.in_err-lengthen_trail.ensures.err
    (omega (arith, sizes.0)) (c.lengthen_trail.ensures.reasons c.requires.reasoned.width) (omega (arith, sizes.1)) (omega (arith, sizes.2)) (omega (arith, c.requires.trail.few)) (omega (arith, c.requires.trail.even)) (omega (arith, c.requires.watched.lists)))

pub returns-in_ok-lengthen_trail-clause-settled : goal.returns-in_ok-lengthen_trail-clause-settled
returns-in_ok-lengthen_trail-clause-settled c =
    let size : vec_len c.args.trail.now.stamps ≡ length c.args.trail.now.stamps.items = search rules in
    let less : length c.args.trail.now.stamps.items < 2 * c.args.variables = omega (arith, c.if-len-count.true, c.len.ensures, size) in
    let up : length c.args.trail.now.stamps.items + (2 * c.args.variables - length c.args.trail.now.stamps.items) ≡ 2 * c.args.variables = omega arith in
    rw c.in_ok-grow_lists.ensures.ok (longer_settled c.args.self.now c.args.trail.now c.lengthen_trail.new.t (2 * c.args.variables + 2 - length c.args.self.now.lists.lists) (2 * c.args.variables - length c.args.trail.now.stamps.items) c.requires c.in_ok-lengthen_trail.ensures.ok
    (rw up c.in_ok-lengthen_trail.ensures.codes) (c.lengthen_trail.ensures.reasons c.requires.reasoned.width) (rw up c.in_ok-lengthen_trail.ensures.rows) (rw up c.in_ok-lengthen_trail.ensures.spots) (rw up (omega (arith, c.if-variables-gt2147483648.false))) (rw up (omega arith)) (rw up (omega arith)))

pub returns-in_err-lengthen_trail-clause-literals : goal.returns-in_err-lengthen_trail-clause-literals
returns-in_err-lengthen_trail-clause-literals c = longer_literals c.args.self.now c.args.trail.now c.lengthen_trail.new.t 0 c.requires c.in_err-lengthen_trail.ensures.err

pub returns-in_ok-lengthen_trail-clause-literals : goal.returns-in_ok-lengthen_trail-clause-literals
returns-in_ok-lengthen_trail-clause-literals c = longer_literals c.args.self.now c.args.trail.now c.lengthen_trail.new.t (2 * c.args.variables - length c.args.trail.now.stamps.items) c.requires c.in_ok-lengthen_trail.ensures.ok
