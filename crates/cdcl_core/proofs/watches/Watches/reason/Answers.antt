use Rattle.std.proofs.Common.{rules, ◌≡◌, ◌<◌, length, get_or, sym, ◌∙◌}
use Rattle.std.proofs.lemmas.List.{get_or_read}
use Rattle.cdcl_core.proofs.Finding.{reason_within, clause_within, reason_past, reason_decided, reason_forced}
use Rattle.cdcl_core.proofs.watches.Watches.reason.Goals as goal

pub returns-then-place-trail : goal.returns-then-place-trail
returns-then-place-trail c = reason_past c.args.self.now c.args.trail.now c.args.place c.requires c.if-place-trail.true

pub index-slot-requires : goal.index-slot-requires
index-slot-requires c =
    let room : c.args.place < length c.args.trail.now.reasons.items = reason_within c.args.self.now c.args.trail.now c.args.place c.requires c.if-place-trail.false in
    search rules

pub returns-then-slot-eq0 : goal.returns-then-slot-eq0
returns-then-slot-eq0 c =
    let room : c.args.place < length c.args.trail.now.reasons.items = reason_within c.args.self.now c.args.trail.now c.args.place c.requires c.if-place-trail.false in
    let read : c.index-slot.result.now ≡ get_or c.args.trail.now.reasons.items c.args.place 0 = get_or_read c.args.trail.now.reasons.items c.args.place c.index-slot.result.now room c.index-slot.ensures 0 in
    reason_decided c.args.self.now c.args.trail.now c.args.place c.requires c.if-place-trail.false (sym read ∙ c.if-slot-eq0.true)

pub index-requires : goal.index-requires
index-requires c =
    let room : c.args.place < length c.args.trail.now.reasons.items = reason_within c.args.self.now c.args.trail.now c.args.place c.requires c.if-place-trail.false in
    let read : c.index-slot.result.now ≡ get_or c.args.trail.now.reasons.items c.args.place 0 = get_or_read c.args.trail.now.reasons.items c.args.place c.index-slot.result.now room c.index-slot.ensures 0 in
    let within : c.index-slot.result.now < length c.args.self.now.clauses.items = clause_within c.args.self.now c.args.trail.now c.args.place c.index-slot.result.now c.requires c.if-place-trail.false read c.if-slot-eq0.false in
    search rules

pub returns : goal.returns
returns c =
    let room : c.args.place < length c.args.trail.now.reasons.items = reason_within c.args.self.now c.args.trail.now c.args.place c.requires c.if-place-trail.false in
    let read : c.index-slot.result.now ≡ get_or c.args.trail.now.reasons.items c.args.place 0 = get_or_read c.args.trail.now.reasons.items c.args.place c.index-slot.result.now room c.index-slot.ensures 0 in
    reason_forced c.args.self.now c.args.trail.now c.args.place c.index-slot.result.now c.index.result.now c.requires c.if-place-trail.false read c.if-slot-eq0.false c.index.ensures
