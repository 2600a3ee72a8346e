use Rattle.std.proofs.Common.{ℕ, ◌≡◌, ◌-◌, ◌<◌, ◌⊎◌, IsTrue, false, None, [], ◌∷◌, length, reverse, ap, ◌∙◌, inl, inr, arith}
use Rattle.std.specs.Prelude.{Contains}
use Rattle.std.proofs.lemmas.List.{get_or_read}
use Rattle.cdcl_core.specs.Levels.{Row}
use Rattle.cdcl_core.specs.State.{no_row}
use Rattle.cdcl_core.specs.Search.{literals_of, level_of, clause_of}
use Rattle.cdcl_learn.proofs.Facts.{history_of, rising_of, refuted_of, conflict_now}
use Rattle.cdcl_learn.proofs.Judging.{IsLast, IsJudged, judged, unique_kept}
use Rattle.cnf_base.specs.declared.clause.ClauseId.{ClauseId}
use Rattle.cdcl_learn.specs.Rows.{level_at, reason_at, IsRefutedIn, IsReasonOf}
use Rattle.cdcl_learn.specs.Walks.{IsSet, IsUnique, MeetsReasons}
use Rattle.cdcl_learn.proofs.Derivations.{IsClauseOf}
use Rattle.cdcl_learn.proofs.Standing.{meets_more, hints_met, stands_held}
use Rattle.cdcl_learn.proofs.learning.learn.Goals as goal
use Rattle.cdcl_learn.proofs.learning.learn.Goals.{then-rest-eq0, else-rest-eq0}

pub start-requires-clause-history : goal.start-requires-clause-history
start-requires-clause-history c = rw c.literals-rows.ensures (history_of c.args.watches.now c.args.trail.now c.requires.settled)

pub start-requires-clause-conflict : goal.start-requires-clause-conflict
start-requires-clause-conflict c =
    let refuted : IsRefutedIn (clause_of c.args.watches.now) (literals_of c.args.trail.now) c.args.conflict = refuted_of c.args.watches.now c.args.trail.now c.requires.settled c.args.conflict c.requires.conflict in
    rw c.literals-rows.ensures refuted

pub find_unique-requires-clause-history : goal.find_unique-requires-clause-history
find_unique-requires-clause-history c = rw c.literals-rows.ensures (history_of c.args.watches.now c.args.trail.now c.requires.settled)

pub find_unique-requires-clause-rising : goal.find_unique-requires-clause-rising
find_unique-requires-clause-rising c = rw (c.literals-rows.ensures, c.level.ensures) (rising_of c.args.watches.now c.args.trail.now c.requires.settled)

pub find_unique-requires-clause-present : goal.find_unique-requires-clause-present
find_unique-requires-clause-present c = λ low. conflict_now c.args.watches.now c.args.trail.now c.args.conflict c.in_ok-walk.walk.marks c.requires.settled c.requires.above c.requires.conflict
    (rw c.literals-rows.ensures at c.in_ok-walk.ensures.marked) (rw (c.literals-rows.ensures, c.level.ensures) at low)

pub explain-requires-clause-history : goal.explain-requires-clause-history
explain-requires-clause-history c = rw c.literals-rows.ensures (history_of c.args.watches.now c.args.trail.now c.requires.settled)

judge : (c : goal.After-into_hints-hints) → IsJudged c.args.watches.now c.args.trail.now c.if-rest-eq0.level c.in_ok-clause.clause (reverse c.explain.new.self.hints.items)
judge c =
    let within : c.in_ok-place.place < length c.literals-rows.result.now = c.in_ok-place.ensures.unique.within in
    let last : IsLast c.literals-rows.result.now c.top-rest.result c.if-rest-eq0.level = elim c.if-rest-eq0.branch [
      | then-rest-eq0 w ↦ inr (w.if-rest-eq0.true, w.level-is)
      | else-rest-eq0 w ↦ inl (omega (arith, w.if-rest-eq0.false), w.level-is ∙ (w.level-level.ensures ∙ ap (λ (r : Row). r.1) (get_or_read c.literals-rows.result.now (c.top-rest.result - 1) w.index-rows-rest.result (omega (arith, w.if-rest-eq0.false, c.top-rest.ensures.reached, within)) w.index-rows-rest.is no_row)))
    ] in
    judged c.args.watches.now c.args.trail.now c.literals-rows.result.now c.find_unique.new.walk.marks c.explain.new.self.marks c.level.result c.in_ok-place.place c.top-rest.result c.if-rest-eq0.level c.in_ok-clause.clause (reverse c.explain.new.self.hints.items)
    c.requires.settled c.requires.above c.literals-rows.ensures c.level.ensures c.in_ok-place.ensures.unique c.in_ok-explain.ensures.explained c.top-rest.ensures last c.in_ok-explain.ensures.walk.derived (record { each = c.in_ok-clause.ensures.each; only = c.in_ok-clause.ensures.only })

pub returns-clause-chain : goal.returns-clause-chain
returns-clause-chain c = rw c.into_hints-hints.ensures (judge c).chain

pub returns-clause-good : goal.returns-clause-good
returns-clause-good c = rw c.into_hints-hints.ensures (judge c).good

pub returns-clause-among : goal.returns-clause-among
returns-clause-among c = λ raised.
    let w = c.args.watches.now in
    let t = c.args.trail.now in
    let marks = c.explain.new.self.marks in
    let hints = reverse c.explain.new.self.hints.items in
    let before : IsUnique (literals_of t) c.find_unique.new.walk.marks (level_of t) c.in_ok-place.place = rw (c.literals-rows.ensures, c.level.ensures) at c.in_ok-place.ensures.unique in
    let unique : IsUnique (literals_of t) marks (level_of t) c.in_ok-place.place = unique_kept (literals_of t) c.find_unique.new.walk.marks marks (level_of t) c.in_ok-place.place (rising_of w t c.requires.settled) before c.in_ok-explain.ensures.explained in
    let whole : (p : ℕ) → p < c.in_ok-place.place → ((IsTrue false) ⊎ (level_at (literals_of t) p ≡ 0)) → IsSet marks p → reason_at (literals_of t) p ≡ None = rw c.literals-rows.ensures at c.in_ok-explain.ensures.whole in
    let low : (p : ℕ) → p < c.in_ok-place.place → level_at (literals_of t) p ≡ 0 → IsSet marks p → reason_at (literals_of t) p ≡ None = λ p h zero s. whole p h (inr zero) s in
    let more : MeetsReasons c.literals-rows.result.now c.in_ok-walk.walk.hints.items c.explain.new.self.hints.items = meets_more c.literals-rows.result.now c.in_ok-walk.walk.hints.items c.find_unique.new.walk.hints.items c.explain.new.self.hints.items c.in_ok-place.ensures.met c.in_ok-explain.ensures.met in
    let all : MeetsReasons (literals_of t) (c.args.conflict ∷ []) c.explain.new.self.hints.items = rw (c.literals-rows.ensures, c.in_ok-walk.ensures.first) at more in
    let met : (id : ClauseId) → Contains hints id → (c.args.conflict ≡ id) ⊎ (IsReasonOf (literals_of t) id) = λ id m. hints_met (literals_of t) c.args.conflict c.explain.new.self.hints.items id all m in
    let left : IsClauseOf c.literals-rows.result.now marks c.in_ok-clause.clause = record { each = c.in_ok-clause.ensures.each; only = c.in_ok-clause.ensures.only } in
    let clause : IsClauseOf (literals_of t) marks c.in_ok-clause.clause = rw c.literals-rows.ensures at left in
    rw c.into_hints-hints.ensures (stands_held w t c.args.conflict marks c.in_ok-place.place c.in_ok-clause.clause hints c.requires.settled c.requires.above c.requires.conflict raised unique low met (judge c).good.stands clause)

pub returns-clause-lower : goal.returns-clause-lower
returns-clause-lower c = (judge c).lower

pub returns-clause-unit : goal.returns-clause-unit
returns-clause-unit c = (judge c).unit
