use Rattle.std.proofs.Common.{◌≡◌, ◌<◌, length, false, refl, ap, ◌∙◌, arith}
use Rattle.std.proofs.lemmas.List.{get_or_read}
use Rattle.cnf_base.specs.Clauses.{no_id}
use Rattle.cdcl_core.proofs.Public.{conflict_at, settled_rest, extended, unrefuted}
use Rattle.cdcl_core.proofs.watches.Watches.propagate.Goals as goal
use Rattle.cdcl_core.proofs.watches.Watches.propagate.Goals.{then-self+else-slot-ne0, else-self}

pub returns-then-slot-ne0-clause-conflict : goal.returns-then-slot-ne0-clause-conflict
returns-then-slot-ne0-clause-conflict c =
    let high : c.refuted_slot-slot.result < length c.args.self.now.kinds.items = c.refuted_slot-slot.ensures.slot c.if-slot-ne0.true in
    let named : c.refuted_slot-slot.result < length c.args.self.now.ids.items = omega (arith, high, c.requires.named.rows) in
    conflict_at c.args.self.now c.args.trail.now c.refuted_slot-slot.result c.id.result c.requires c.if-slot-ne0.true high (c.refuted_slot-slot.ensures.held c.if-slot-ne0.true) (c.refuted_slot-slot.ensures.refuted c.if-slot-ne0.true)
    (c.id.ensures ∙ get_or_read c.args.self.now.ids.items c.refuted_slot-slot.result c.index.result.now named c.index.ensures no_id)

pub empty_queue-slot-requires : goal.empty_queue-slot-requires
empty_queue-slot-requires c = elim c.if-self.branch [
  | then-self+else-slot-ne0 w ↦ rw w.self-is (unrefuted c.args.self.now c.args.trail.now c.requires (w.refuted_slot-slot.ensures.none w.if-slot-ne0.false))
  | else-self w ↦ rw w.self-is c.requires
]

pub returns-then-slot-ne0-2-clause-conflict : goal.returns-then-slot-ne0-2-clause-conflict
returns-then-slot-ne0-2-clause-conflict c =
    let high : c.empty_queue-slot.result < length c.empty_queue-slot.new.w.kinds.items = c.empty_queue-slot.ensures.slot c.if-slot-ne0-2.true in
    let named : c.empty_queue-slot.result < length c.empty_queue-slot.new.w.ids.items = omega (arith, high, c.empty_queue-slot.ensures.settled.named.rows) in
    conflict_at c.empty_queue-slot.new.w c.empty_queue-slot.new.t c.empty_queue-slot.result c.id-then-slot-ne0-2.result c.empty_queue-slot.ensures.settled c.if-slot-ne0-2.true high (c.empty_queue-slot.ensures.held c.if-slot-ne0-2.true) (c.empty_queue-slot.ensures.refuted c.if-slot-ne0-2.true)
    (c.id-then-slot-ne0-2.ensures ∙ get_or_read c.empty_queue-slot.new.w.ids.items c.empty_queue-slot.result c.index-then-slot-ne0-2.result.now named c.index-then-slot-ne0-2.ensures no_id)

pub returns-then-slot-ne0-2-clause-literals : goal.returns-then-slot-ne0-2-clause-literals
returns-then-slot-ne0-2-clause-literals c = extended c.empty_queue-slot.new.w c.args.trail.now c.empty_queue-slot.new.t c.requires.shown c.requires.trail c.empty_queue-slot.ensures.settled c.empty_queue-slot.ensures.grown

pub returns-clause-literals : goal.returns-clause-literals
returns-clause-literals c = extended c.empty_queue-slot.new.w c.args.trail.now c.empty_queue-slot.new.t c.requires.shown c.requires.trail c.empty_queue-slot.ensures.settled c.empty_queue-slot.ensures.grown

pub returns-clause-rest : goal.returns-clause-rest
returns-clause-rest c =
    let calm : c.if-self.self.refuted ≡ false = elim c.if-self.branch [
      | then-self+else-slot-ne0 w ↦ rw w.self-is refl
      | else-self w ↦ rw w.self-is w.if-self.false
    ] in
    let refuted : c.empty_queue-slot.new.w.refuted ≡ false = ap (λ w. w.refuted) c.empty_queue-slot.ensures.same ∙ calm in
    settled_rest c.empty_queue-slot.new.w c.empty_queue-slot.new.t c.empty_queue-slot.ensures.settled (c.empty_queue-slot.ensures.done c.if-slot-ne0-2.false, refuted)
