use Rattle.std.proofs.Common.{◌≡◌, ℕ, ◌<◌, ◌≤◌, Option, Some, None, length, refl, ap, ◌∙◌, arith}
use Rattle.std.specs.Prelude.{slice_get, IsSome, MatchOption}
use Rattle.std.proofs.lemmas.Option.{slice_get_read}
use Rattle.bit_blast.specs.Assigned.{assigned}
use Rattle.access_tables.specs.Held.{assigned_value}
use Rattle.access_walk.specs.Valued.{start_of}
use Rattle.access_walk.specs.Valuing.{IsEntry}
use Rattle.access_walk.proofs.Permuted.{entries_none, entries_step, entries_all, access_at, index_word, value_word}
use Rattle.access_walk.proofs.values.Values.enter.Goals as goal

found : (o : Option ℕ) (X : Type 0) (Q : ℕ → Type 0) → MatchOption o (X → ⊥) Q → X → IsSome o
found None X Q h x = absurd (h x)
found (Some k) X Q h x = refl

pub unwrap-array-requires : goal.unwrap-array-requires
unwrap-array-requires c =
    let n = c.args.network.now in
    let lt : c.loop-place.place < length n.landings.items = omega arith in
    let at : slice_get n.landings.items c.loop-place.place ≡ Some c.index-landing.result.now = slice_get_read n.landings.items (length n.landings.items) c.loop-place.place c.index-landing.result.now refl lt c.index-landing.ensures in
    let a = access_at c.args.terms.now.nodes c.args.bits.now (assigned c.args.assignment.now) c.args.reached.now n c.requires c.loop-place.place c.index-landing.result.now at in
    found c.place_of.result _ _ c.place_of.ensures.place a.here

pub start_of-requires-clause-index : goal.start_of-requires-clause-index
start_of-requires-clause-index c =
    let n = c.args.network.now in
    let lt : c.loop-place.place < length n.landings.items = omega arith in
    let at : slice_get n.landings.items c.loop-place.place ≡ Some c.index-landing.result.now = slice_get_read n.landings.items (length n.landings.items) c.loop-place.place c.index-landing.result.now refl lt c.index-landing.ensures in
    let a = access_at c.args.terms.now.nodes c.args.bits.now (assigned c.args.assignment.now) c.args.reached.now n c.requires c.loop-place.place c.index-landing.result.now at in
    index_word c.args.terms.now.nodes c.args.bits.now (assigned c.args.assignment.now) c.args.reached.now n c.index-landing.result.now a

pub start_of-requires-clause-value : goal.start_of-requires-clause-value
start_of-requires-clause-value c =
    let n = c.args.network.now in
    let lt : c.loop-place.place < length n.landings.items = omega arith in
    let at : slice_get n.landings.items c.loop-place.place ≡ Some c.index-landing.result.now = slice_get_read n.landings.items (length n.landings.items) c.loop-place.place c.index-landing.result.now refl lt c.index-landing.ensures in
    let a = access_at c.args.terms.now.nodes c.args.bits.now (assigned c.args.assignment.now) c.args.reached.now n c.requires c.loop-place.place c.index-landing.result.now at in
    value_word c.args.terms.now.nodes c.args.bits.now (assigned c.args.assignment.now) c.args.reached.now n c.index-landing.result.now a

pub loop-place-init : goal.loop-place-init
loop-place-init c = entries_none c.args.terms.now.nodes c.args.bits.now (assigned c.args.assignment.now) c.args.reached.now c.args.network.now _ c.clear.ensures.items

pub loop-place-preserved : goal.loop-place-preserved
loop-place-preserved c =
    let n = c.args.network.now in
    let place = c.loop-place.place in
    let origin = c.index-origin.result.now in
    let landing = c.index-landing.result.now in
    let lt : place < length n.landings.items = omega arith in
    let less : place < length n.origins.items = omega (arith, lt, c.requires.sound.origins) in
    let at : slice_get n.landings.items place ≡ Some landing = slice_get_read n.landings.items (length n.landings.items) place landing refl lt c.index-landing.ensures in
    let begins : slice_get n.origins.items place ≡ Some origin = slice_get_read n.origins.items (length n.origins.items) place origin refl less c.index-origin.ensures in
    let there : slice_get c.args.reached.now c.unwrap-array.result ≡ Some landing.array = rw c.unwrap-array.ensures at c.place_of.ensures.place in
    let one : IsEntry c.args.terms.now.nodes c.args.bits.now (assigned c.args.assignment.now) c.args.reached.now n (record { start = c.start_of.result; origin = origin; landing = landing }) = record {
      place = place;
      origin = begins;
      landing = at;
      array = c.unwrap-array.result;
      at = there;
      start = c.start_of.ensures ∙ ap (start_of (assigned_value c.args.terms.now.nodes c.args.bits.now (assigned c.args.assignment.now)) landing c.unwrap-array.result) c.is_store-wide.ensures;
    } in
    entries_step c.args.terms.now.nodes c.args.bits.now (assigned c.args.assignment.now) c.args.reached.now n place c.loop-place.self.entries.items c.push.new.self.items (record { start = c.start_of.result; origin = origin; landing = landing }) c.loop-place.invariant one at c.in_ok-push.ensures.items

pub returns : goal.returns
returns c =
    let past : length c.args.network.now.landings.items ≤ c.loop-place.place = omega arith in
    entries_all c.args.terms.now.nodes c.args.bits.now (assigned c.args.assignment.now) c.args.reached.now c.args.network.now c.loop-place.place c.loop-place.self.entries.items c.loop-place.invariant past
