use Rattle.std.proofs.Common.{rules, ◌≡◌, ◌<◌, length, vec_len, sym, ap, ◌∙◌, arith}
use Rattle.std.proofs.lemmas.List.{get_or_read}
use Rattle.cdcl_core.specs.declared.watches.Kind.TheVariants.{Free}
use Rattle.cdcl_core.specs.Watched.{is_held}
use Rattle.cdcl_core.proofs.Held.{not_held}
use Rattle.cdcl_core.proofs.Parking.{none_kept, past_kinds, past_clauses, holds_slot}
use Rattle.cdcl_core.proofs.watches.Watches.holds.Goals as goal

pub returns-in_default : goal.returns-in_default
returns-in_default c = not_held c.args.self.now c.args.id (none_kept c.args.self.now c.args.id (sym c.in_default.ensures))

pub returns-then-slot-len : goal.returns-then-slot-len
returns-then-slot-len c =
    let size : vec_len c.args.self.now.kinds ≡ length c.args.self.now.kinds.items = search rules in
    past_kinds c.args.self.now c.args.id c.in-Some.slot (sym c.in-Some.ensures) (omega (arith, c.if-slot-len.true, c.len.ensures, size))

pub returns-then-slot-len-2 : goal.returns-then-slot-len-2
returns-then-slot-len-2 c =
    let size : vec_len c.args.self.now.clauses ≡ length c.args.self.now.clauses.items = search rules in
    past_clauses c.args.self.now c.args.id c.in-Some.slot (sym c.in-Some.ensures) (omega (arith, c.if-slot-len-2.true, c.len-2.ensures, size))

pub returns : goal.returns
returns c =
    let some : vec_len c.args.self.now.kinds ≡ length c.args.self.now.kinds.items = search rules in
    let size : vec_len c.args.self.now.clauses ≡ length c.args.self.now.clauses.items = search rules in
    let high : c.in-Some.slot < length c.args.self.now.kinds.items = omega (arith, c.if-slot-len.false, c.len.ensures, some) in
    let within : c.in-Some.slot < length c.args.self.now.clauses.items = omega (arith, c.if-slot-len-2.false, c.len-2.ensures, size) in
    holds_slot c.args.self.now c.args.id c.in-Some.slot c.has_held.result (sym c.in-Some.ensures) within
    (ap is_held (sym (get_or_read c.args.self.now.kinds.items c.in-Some.slot c.index.result.now high c.index.ensures Free)) ∙ sym c.has_held.ensures)
