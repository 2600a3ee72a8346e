use Rattle.std.proofs.Common.{rules, ℕ, ◌≡◌, ◌<◌, length, get_or, [], vec_len, refl, sym, ap, ◌∙◌, inl, inr, arith}
use Rattle.std.proofs.lemmas.List.{get_or_read}
use Rattle.std.proofs.lemmas.Bool.{cases_lt}
use Rattle.cdcl_core.specs.declared.watches.Kind.TheVariants.{Free, Fixed}
use Rattle.cdcl_core.specs.Stamps.{codes, Has}
use Rattle.cdcl_core.specs.Watched.{kind_at}
use Rattle.cdcl_core.specs.State.{all_codes}
use Rattle.cdcl_core.proofs.Held.{held_if}
use Rattle.cdcl_core.proofs.Clauses.{clause_codes, codes_length}
use Rattle.cdcl_core.proofs.propagate.refuted_slot.Goals as goal
use Rattle.cdcl_core.proofs.propagate.refuted_slot.Goals.{in-Fixed+else-not-is_satisfied, in_default}

pub is_satisfied-requires : goal.is_satisfied-requires
is_satisfied-requires c =
    let size : vec_len c.args.w.now.kinds ≡ length c.args.w.now.kinds.items = search rules in
    let within : c.loop-slot.slot < length c.args.w.now.clauses.items = omega (arith, c.loop-slot-test.true, c.len-slot-end.ensures, size, c.requires.watched.clauses, codes_length c.args.w.now.clauses.items) in
    let read : codes c.literals.result.now ≡ get_or (all_codes c.args.w.now.clauses.items) c.loop-slot.slot [] = ap codes c.literals.ensures ∙ clause_codes c.args.w.now.clauses.items c.loop-slot.slot c.index-in-Fixed.result.now within c.index-in-Fixed.ensures in
    record { within = λ l h. rw c.as_slice.ensures.value (c.requires.watched.within c.loop-slot.slot l (rw read at h)) }

pub returns-then-not-is_satisfied-clause-refuted : goal.returns-then-not-is_satisfied-clause-refuted
returns-then-not-is_satisfied-clause-refuted c = λ _ l h.
    let size : vec_len c.args.w.now.kinds ≡ length c.args.w.now.kinds.items = search rules in
    let high : c.loop-slot.slot < length c.args.w.now.kinds.items = omega (arith, c.loop-slot-test.true, c.len-slot-end.ensures, size) in
    let within : c.loop-slot.slot < length c.args.w.now.clauses.items = omega (arith, high, c.requires.watched.clauses, codes_length c.args.w.now.clauses.items) in
    let read : codes c.literals.result.now ≡ get_or (all_codes c.args.w.now.clauses.items) c.loop-slot.slot [] = ap codes c.literals.ensures ∙ clause_codes c.args.w.now.clauses.items c.loop-slot.slot c.index-in-Fixed.result.now within c.index-in-Fixed.ensures in
    let kind : kind_at c.args.w.now.kinds.items c.loop-slot.slot ≡ Fixed = sym (get_or_read c.args.w.now.kinds.items c.loop-slot.slot c.index.result.now high c.index.ensures Free) ∙ c.in-Fixed.is in
    elim (c.requires.fixed.value c.loop-slot.slot c.loop-slot.auto.slot high kind) [
      | inl a ↦ absurd (c.is_satisfied.ensures.not_satisfied c.if-not-is_satisfied.true a.0 (rw read a.1.0) (rw c.as_slice.ensures.value a.1.1))
      | inr a ↦ omega (arith, a.1 l h)
    ]

pub returns-then-not-is_satisfied-clause-held : goal.returns-then-not-is_satisfied-clause-held
returns-then-not-is_satisfied-clause-held c = λ _.
    let size : vec_len c.args.w.now.kinds ≡ length c.args.w.now.kinds.items = search rules in
    let high : c.loop-slot.slot < length c.args.w.now.kinds.items = omega (arith, c.loop-slot-test.true, c.len-slot-end.ensures, size) in
    let kind : kind_at c.args.w.now.kinds.items c.loop-slot.slot ≡ Fixed = sym (get_or_read c.args.w.now.kinds.items c.loop-slot.slot c.index.result.now high c.index.ensures Free) ∙ c.in-Fixed.is in
    held_if (kind_at c.args.w.now.kinds.items c.loop-slot.slot) Fixed kind refl

pub loop-slot-preserved : goal.loop-slot-preserved
loop-slot-preserved c = λ s lo hi kind. elim (cases_lt s c.loop-slot.slot) [
  | inl h ↦ c.loop-slot.invariant s lo h kind
  | inr h ↦
      let e : s ≡ c.loop-slot.slot = omega arith in
      let size : vec_len c.args.w.now.kinds ≡ length c.args.w.now.kinds.items = search rules in
      let high : c.loop-slot.slot < length c.args.w.now.kinds.items = omega (arith, c.loop-slot-test.true, c.len-slot-end.ensures, size) in
      let within : c.loop-slot.slot < length c.args.w.now.clauses.items = omega (arith, high, c.requires.watched.clauses, codes_length c.args.w.now.clauses.items) in
      let is : c.index.result.now ≡ kind_at c.args.w.now.kinds.items c.loop-slot.slot = get_or_read c.args.w.now.kinds.items c.loop-slot.slot c.index.result.now high c.index.ensures Free in
      elim c.match-index.branch [
        | in-Fixed+else-not-is_satisfied w ↦
            let read : codes w.literals.result.now ≡ get_or (all_codes c.args.w.now.clauses.items) c.loop-slot.slot [] = ap codes w.literals.ensures ∙ clause_codes c.args.w.now.clauses.items c.loop-slot.slot w.index-in-Fixed.result.now within w.index-in-Fixed.ensures in
            let a : (m : ℕ) × (Has (codes w.literals.result.now) m × (get_or w.as_slice.result.now m 0 ≡ 1)) = w.is_satisfied.ensures.satisfied w.if-not-is_satisfied.false in
            (a.0, (rw (e, ← read) a.1.0, rw (← w.as_slice.ensures.value) a.1.1))
        | in_default w ↦ absurd (let k2 : kind_at c.args.w.now.kinds.items c.loop-slot.slot ≡ Fixed = rw e at kind in w.in_default.not-Fixed (is ∙ k2))
      ]
]
