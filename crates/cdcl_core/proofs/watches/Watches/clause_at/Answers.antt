use Rattle.std.proofs.Common.{rules, ◌≡◌, ◌<◌, length, get_or, sym, ◌∙◌}
use Rattle.std.proofs.lemmas.List.{get_or_read}
use Rattle.cnf_base.specs.Clauses.{no_id}
use Rattle.cdcl_core.proofs.Finding.{reason_within, slot_within, clause_within, slot_named}
use Rattle.cdcl_core.proofs.watches.Watches.clause_at.Goals as goal

pub index-slot-requires : goal.index-slot-requires
index-slot-requires c =
    let room : c.args.place < length c.args.trail.now.reasons.items = reason_within c.args.self.now c.args.trail.now c.args.place c.requires c.if-place-trail.true in
    search rules

pub index-requires : goal.index-requires
index-requires c =
    let room : c.args.place < length c.args.trail.now.reasons.items = reason_within c.args.self.now c.args.trail.now c.args.place c.requires c.if-place-trail.true in
    let read : c.index-slot.result.now ≡ get_or c.args.trail.now.reasons.items c.args.place 0 = get_or_read c.args.trail.now.reasons.items c.args.place c.index-slot.result.now room c.index-slot.ensures 0 in
    let within : c.index-slot.result.now < length c.args.self.now.ids.items = slot_within c.args.self.now c.args.trail.now c.args.place c.index-slot.result.now c.requires c.if-place-trail.true read c.if-slot-ne0.true in
    search rules

pub index-requires-then-eq : goal.index-requires-then-eq
index-requires-then-eq c =
    let room : c.args.place < length c.args.trail.now.reasons.items = reason_within c.args.self.now c.args.trail.now c.args.place c.requires c.if-place-trail.true in
    let read : c.index-slot.result.now ≡ get_or c.args.trail.now.reasons.items c.args.place 0 = get_or_read c.args.trail.now.reasons.items c.args.place c.index-slot.result.now room c.index-slot.ensures 0 in
    let within : c.index-slot.result.now < length c.args.self.now.clauses.items = clause_within c.args.self.now c.args.trail.now c.args.place c.index-slot.result.now c.requires c.if-place-trail.true read c.if-slot-ne0.true in
    search rules

pub returns-then-eq : goal.returns-then-eq
returns-then-eq c =
    let room : c.args.place < length c.args.trail.now.reasons.items = reason_within c.args.self.now c.args.trail.now c.args.place c.requires c.if-place-trail.true in
    let read : c.index-slot.result.now ≡ get_or c.args.trail.now.reasons.items c.args.place 0 = get_or_read c.args.trail.now.reasons.items c.args.place c.index-slot.result.now room c.index-slot.ensures 0 in
    let within : c.index-slot.result.now < length c.args.self.now.ids.items = slot_within c.args.self.now c.args.trail.now c.args.place c.index-slot.result.now c.requires c.if-place-trail.true read c.if-slot-ne0.true in
    let name : c.index.result.now ≡ get_or c.args.self.now.ids.items c.index-slot.result.now no_id = get_or_read c.args.self.now.ids.items c.index-slot.result.now c.index.result.now within c.index.ensures no_id in
    let same : c.index.result.now ≡ c.args.id = search rules in
    slot_named c.args.self.now c.args.trail.now c.args.place c.index-slot.result.now c.args.id c.index-then-eq.result.now c.requires c.if-place-trail.true read c.if-slot-ne0.true (sym name ∙ same) c.index-then-eq.ensures
