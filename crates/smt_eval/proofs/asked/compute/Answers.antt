use Rattle.std.proofs.Common.{◌≡◌, ◌<◌, ℕ, List, Some, length, get_or, sym, ap, ◌∙◌, subst, arith}
use Rattle.std.specs.Prelude.{Contains, slice_get}
use Rattle.std.proofs.lemmas.List.Elements.{Contains-get_or}
use Rattle.smt_terms.specs.declared.node.Node.{Node}
use Rattle.smt_terms.specs.Nodes.{node_at}
use Rattle.smt_values.specs.Held.{interpretation_of}
use Rattle.term_reach.proofs.Tables.{contains_at}
use Rattle.smt_eval.specs.Evaluated.{IsSuited, IsGiven, given}
use Rattle.smt_eval.proofs.Placing.{next_at, placed_from, next_within, next_taken, next_value, computing_more, computed_all}
use Rattle.smt_eval.proofs.asked.compute.Goals as goal

pub node-node-requires : goal.node-node-requires
node-node-requires c =
    let t = get_or c.terms-term-items.result.now c.loop-term.term-index 0 in
    let at = next_at c.args.reached.now c.terms-term-items.result.now c.loop-term.term-index c.terms-term-items.ensures.terms c.loop-term-test.true in
    let held = c.requires.held t (contains_at c.args.reached.now c.loop-term.term-index t at) in
    record { held = held }

pub places_of-requires-clause-among : goal.places_of-requires-clause-among
places_of-requires-clause-among c k d lt =
    let t = get_or c.terms-term-items.result.now c.loop-term.term-index 0 in
    let at = next_at c.args.reached.now c.terms-term-items.result.now c.loop-term.term-index c.terms-term-items.ensures.terms c.loop-term-test.true in
    let held = c.requires.held t (contains_at c.args.reached.now c.loop-term.term-index t at) in
    let are = c.as_slice.ensures ∙ ap (λ n. n.args) c.node-node.ensures.node in
    let before : (a : ℕ) → Contains c.as_slice.result.now a → (j : ℕ) × (j < c.loop-term.term-index) × (slice_get c.args.reached.now j ≡ Some a) =
    λ a k. c.requires.order c.loop-term.term-index t a at (subst (λ (xs : List ℕ). Contains xs a) are k) in
    let found = before (get_or c.as_slice.result.now k d) (Contains-get_or c.as_slice.result.now k d lt) in
    contains_at c.args.reached.now found.0 (get_or c.as_slice.result.now k d) found.2

pub evaluate-requires-clause-within : goal.evaluate-requires-clause-within
evaluate-requires-clause-within c =
    let t = get_or c.terms-term-items.result.now c.loop-term.term-index 0 in
    let at = next_at c.args.reached.now c.terms-term-items.result.now c.loop-term.term-index c.terms-term-items.ensures.terms c.loop-term-test.true in
    let held = c.requires.held t (contains_at c.args.reached.now c.loop-term.term-index t at) in
    let are = c.as_slice.ensures ∙ ap (λ n. n.args) c.node-node.ensures.node in
    let before : (a : ℕ) → Contains c.as_slice.result.now a → (j : ℕ) × (j < c.loop-term.term-index) × (slice_get c.args.reached.now j ≡ Some a) =
    λ a k. c.requires.order c.loop-term.term-index t a at (subst (λ (xs : List ℕ). Contains xs a) are k) in
    let placed = placed_from (interpretation_of c.args.interp.now) c.args.terms.now.nodes c.args.reached.now c.loop-term.values.items c.loop-term.term-index c.as_slice.result.now c.places_of.new.out.items c.loop-term.invariant c.requires.once before c.in_ok-places_of.ensures in
    let within = next_within (interpretation_of c.args.interp.now) c.args.terms.now.nodes c.node-node.ensures.terms.list c.loop-term.values.items t c.as_slice.result.now c.places_of.new.out.items held are placed in
    rw (c.as_slice-in-loop-term.ensures.value, c.as_slice-in-loop-term-2.ensures.value) within

pub evaluate-requires-clause-taken : goal.evaluate-requires-clause-taken
evaluate-requires-clause-taken c =
    let t = get_or c.terms-term-items.result.now c.loop-term.term-index 0 in
    let at = next_at c.args.reached.now c.terms-term-items.result.now c.loop-term.term-index c.terms-term-items.ensures.terms c.loop-term-test.true in
    let held = c.requires.held t (contains_at c.args.reached.now c.loop-term.term-index t at) in
    let are = c.as_slice.ensures ∙ ap (λ n. n.args) c.node-node.ensures.node in
    let before : (a : ℕ) → Contains c.as_slice.result.now a → (j : ℕ) × (j < c.loop-term.term-index) × (slice_get c.args.reached.now j ≡ Some a) =
    λ a k. c.requires.order c.loop-term.term-index t a at (subst (λ (xs : List ℕ). Contains xs a) are k) in
    let placed = placed_from (interpretation_of c.args.interp.now) c.args.terms.now.nodes c.args.reached.now c.loop-term.values.items c.loop-term.term-index c.as_slice.result.now c.places_of.new.out.items c.loop-term.invariant c.requires.once before c.in_ok-places_of.ensures in
    let taken = next_taken (interpretation_of c.args.interp.now) c.args.terms.now.nodes c.node-node.ensures.terms.list c.loop-term.values.items t c.as_slice.result.now c.places_of.new.out.items held are placed in
    rw (c.as_slice-in-loop-term.ensures.value, c.as_slice-in-loop-term-2.ensures.value, c.node-node.ensures.node) taken

pub evaluate-requires-clause-suited : goal.evaluate-requires-clause-suited
evaluate-requires-clause-suited c =
    let t = get_or c.terms-term-items.result.now c.loop-term.term-index 0 in
    let at = next_at c.args.reached.now c.terms-term-items.result.now c.loop-term.term-index c.terms-term-items.ensures.terms c.loop-term-test.true in
    let held = c.requires.held t (contains_at c.args.reached.now c.loop-term.term-index t at) in
    subst (λ (n : Node). IsSuited n.op c.args.interp.now) (sym c.node-node.ensures.node) (c.requires.suited t held)

pub loop-term-preserved : goal.loop-term-preserved
loop-term-preserved c =
    let t = get_or c.terms-term-items.result.now c.loop-term.term-index 0 in
    let at = next_at c.args.reached.now c.terms-term-items.result.now c.loop-term.term-index c.terms-term-items.ensures.terms c.loop-term-test.true in
    let held = c.requires.held t (contains_at c.args.reached.now c.loop-term.term-index t at) in
    let are = c.as_slice.ensures ∙ ap (λ n. n.args) c.node-node.ensures.node in
    let before : (a : ℕ) → Contains c.as_slice.result.now a → (j : ℕ) × (j < c.loop-term.term-index) × (slice_get c.args.reached.now j ≡ Some a) =
    λ a k. c.requires.order c.loop-term.term-index t a at (subst (λ (xs : List ℕ). Contains xs a) are k) in
    let placed = placed_from (interpretation_of c.args.interp.now) c.args.terms.now.nodes c.args.reached.now c.loop-term.values.items c.loop-term.term-index c.as_slice.result.now c.places_of.new.out.items c.loop-term.invariant c.requires.once before c.in_ok-places_of.ensures in
    let own : IsGiven (interpretation_of c.args.interp.now) (node_at c.args.terms.now.nodes t).op (given c.loop-term.values.items c.places_of.new.out.items) c.in_ok-value.value =
    rw (c.as_slice-in-loop-term.ensures.value, c.as_slice-in-loop-term-2.ensures.value, c.node-node.ensures.node) at c.in_ok-value.ensures in
    let value = next_value (interpretation_of c.args.interp.now) c.args.terms.now.nodes c.node-node.ensures.terms.list c.loop-term.values.items t c.as_slice.result.now c.places_of.new.out.items c.in_ok-value.value held are placed own in
    computing_more (interpretation_of c.args.interp.now) c.args.terms.now.nodes c.args.reached.now c.loop-term.values.items c.push.new.self.items c.loop-term.term-index t c.in_ok-value.value c.loop-term.invariant at own.plain value c.in_ok-push.ensures.items

pub returns : goal.returns
returns c =
    let over = c.loop-term-test.false in
    let same = ap length c.terms-term-items.ensures.terms in
    computed_all (interpretation_of c.args.interp.now) c.args.terms.now.nodes c.args.reached.now c.loop-term.values.items c.loop-term.term-index c.loop-term.invariant (omega (arith, over, same))
