use Rattle.std.proofs.Common.{ℕ, ◌≡◌, get_or, refl, ◌∙◌, inl, arith}
use Rattle.cdcl_core.specs.declared.watches.Kind.TheVariants.{Fixed}
use Rattle.cdcl_core.specs.Stamps.{codes, Has}
use Rattle.cdcl_core.proofs.Apart.{fixed_not_watched}
use Rattle.cdcl_core.proofs.Clauses.{codes_length}
use Rattle.cdcl_core.proofs.Adding.{rested}
use Rattle.cdcl_core.proofs.Fixing.{seated_placed}
use Rattle.cdcl_core.proofs.add.admit.Goals as goal

pub is_satisfied-requires : goal.is_satisfied-requires
is_satisfied-requires c = record { within = λ l h. rw c.as_slice.ensures.value (c.requires.may_come.within l (rw c.literals.ensures at h)) }

pub seat-requires-clause-rows : goal.seat-requires-clause-rows
seat-requires-clause-rows c = omega (arith, c.requires.waiting.high, c.requires.placed.watched.clauses, codes_length c.args.w.now.clauses.items)

pub returns-then-is_satisfied-clause-placed : goal.returns-then-is_satisfied-clause-placed
returns-then-is_satisfied-clause-placed c =
    let value : (l : ℕ) × (Has (codes c.args.clause) l × (get_or c.args.t.now.stamps.items l 0 ≡ 1)) = rw (c.literals.ensures, c.as_slice.ensures.value) at (c.is_satisfied.ensures.satisfied c.if-is_satisfied.true) in
    seated_placed c.args.w.now c.seat.new.w c.args.t.now c.args.slot Fixed c.args.clause fixed_not_watched (λ _. value) c.requires.placed c.requires.waiting c.requires.lists c.requires.once c.requires.may_come.named c.requires.may_come.within c.seat.ensures.holds c.seat.ensures.calm c.seat.ensures.literals c.seat.ensures.lists

pub returns-then-is_satisfied-clause-holds : goal.returns-then-is_satisfied-clause-holds
returns-then-is_satisfied-clause-holds c = (Fixed, (refl, c.seat.ensures.holds))

pub returns-then-is_satisfied-clause-literals : goal.returns-then-is_satisfied-clause-literals
returns-then-is_satisfied-clause-literals c =
    let value : (l : ℕ) × (Has (codes c.args.clause) l × (get_or c.args.t.now.stamps.items l 0 ≡ 1)) = rw (c.literals.ensures, c.as_slice.ensures.value) at (c.is_satisfied.ensures.satisfied c.if-is_satisfied.true) in
    rested c.args.t.now c.args.id c.args.clause (c.requires.placed.trail, c.requires.placed.shown) (inl (value.0, (value.1.0, (omega (arith, value.1.1), omega (arith, value.1.1)))))

pub returns-then-is_satisfied-clause-propagated : goal.returns-then-is_satisfied-clause-propagated
returns-then-is_satisfied-clause-propagated c = λ _ p. (p.0, c.seat.ensures.calm ∙ p.1)
