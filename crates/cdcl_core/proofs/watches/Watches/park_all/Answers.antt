use Rattle.std.proofs.Common.{rules, ◌≡◌, length, vec_len, refl, ◌∙◌, arith}
use Rattle.cdcl_core.specs.declared.watches.Watches.{Watches}
use Rattle.cdcl_core.proofs.Parking.{IsAllParked, all_settled, all_kept, none_held}
use Rattle.cdcl_core.proofs.watches.Watches.park_all.Goals as goal

pub empty_lists-requires : goal.empty_lists-requires
empty_lists-requires c =
    let size : c.len.result ≡ length c.args.trail.now.stamps.items = c.len.ensures ∙ (let s : vec_len c.args.trail.now.stamps ≡ length c.args.trail.now.stamps.items = search rules in s) in
    omega (arith, size, c.requires.settled.watched.lists)

pub returns-clause-settled : goal.returns-clause-settled
returns-clause-settled c =
    let size : c.len.result ≡ length c.args.trail.now.stamps.items = c.len.ensures ∙ (let s : vec_len c.args.trail.now.stamps ≡ length c.args.trail.now.stamps.items = search rules in s) in
    let v : Watches = record { alloc = c.args.self.now.alloc; lists = c.empty_lists.new.lists; kinds = c.park_kinds.new.kinds; clauses = c.args.self.now.clauses; ids = c.args.self.now.ids; slots = c.args.self.now.slots; refuted = c.args.self.now.refuted } in
    let m : IsAllParked c.args.self.now v c.args.trail.now = record {
      settled = c.requires.settled;
      level = c.requires.level;
      emptied = rw size at c.empty_lists.ensures;
      size = c.park_kinds.ensures.size;
      kinds = c.park_kinds.ensures.parked;
      clauses = refl;
      ids = refl;
      slots = refl;
      calm = refl;
    } in
    all_settled c.args.self.now v c.args.trail.now m

pub returns-clause-parked : goal.returns-clause-parked
returns-clause-parked c =
    let size : c.len.result ≡ length c.args.trail.now.stamps.items = c.len.ensures ∙ (let s : vec_len c.args.trail.now.stamps ≡ length c.args.trail.now.stamps.items = search rules in s) in
    let v : Watches = record { alloc = c.args.self.now.alloc; lists = c.empty_lists.new.lists; kinds = c.park_kinds.new.kinds; clauses = c.args.self.now.clauses; ids = c.args.self.now.ids; slots = c.args.self.now.slots; refuted = c.args.self.now.refuted } in
    let m : IsAllParked c.args.self.now v c.args.trail.now = record {
      settled = c.requires.settled;
      level = c.requires.level;
      emptied = rw size at c.empty_lists.ensures;
      size = c.park_kinds.ensures.size;
      kinds = c.park_kinds.ensures.parked;
      clauses = refl;
      ids = refl;
      slots = refl;
      calm = refl;
    } in
    none_held c.args.self.now v c.args.trail.now m

pub returns-clause-kept : goal.returns-clause-kept
returns-clause-kept c =
    let size : c.len.result ≡ length c.args.trail.now.stamps.items = c.len.ensures ∙ (let s : vec_len c.args.trail.now.stamps ≡ length c.args.trail.now.stamps.items = search rules in s) in
    let v : Watches = record { alloc = c.args.self.now.alloc; lists = c.empty_lists.new.lists; kinds = c.park_kinds.new.kinds; clauses = c.args.self.now.clauses; ids = c.args.self.now.ids; slots = c.args.self.now.slots; refuted = c.args.self.now.refuted } in
    let m : IsAllParked c.args.self.now v c.args.trail.now = record {
      settled = c.requires.settled;
      level = c.requires.level;
      emptied = rw size at c.empty_lists.ensures;
      size = c.park_kinds.ensures.size;
      kinds = c.park_kinds.ensures.parked;
      clauses = refl;
      ids = refl;
      slots = refl;
      calm = refl;
    } in
    all_kept c.args.self.now v c.args.trail.now m
