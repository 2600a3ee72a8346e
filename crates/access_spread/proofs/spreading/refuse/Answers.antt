use Rattle.std.proofs.Common.{◌≡◌, Some, None, slice_get, slice_index_or, sym, ap, ◌∙◌, arith}
use Rattle.std.proofs.lemmas.Option.{slice_get-get_or, slice_get_within}
use Rattle.access_spread.specs.declared.spreading.Refusal.{Refusal}
use Rattle.access_spread.proofs.Arriving.{is_refused, refused_push}
use Rattle.access_spread.proofs.spreading.refuse.Goals as goal

pub loop-refusal-init : goal.loop-refusal-init
loop-refusal-init c = record {
  apart = λ k r lt q array index. let z : ⊥ = omega (arith, lt) in absurd z;
  started = λ k r q. (c.requires.fits.refused k r (ap (λ xs. slice_get xs k) (sym c.deref-refusal-items.ensures.value) ∙ q)).start;
  items = c.deref-refusal-items.ensures.value;
}

pub is_at-requires : goal.is_at-requires
is_at-requires c =
    let items = c.deref-refusal-items.result.now in
    let k = c.loop-refusal.refusal-index in
    let d : Refusal = record { row = record { array = 0; start = 0; from = None }; standing = 0 } in
    c.loop-refusal.invariant.started k (slice_index_or items k d) (slice_get-get_or items k d c.loop-refusal-test.true)

pub returns : goal.returns
returns c =
    refused_push c.args.graph.now c.args.gates.now c.args.starts.now c.args.state.now c.push.new.self (record { row = c.args.row; standing = c.args.standing }) c.requires.fits c.in_ok-push.ensures.items
    (is_refused c.args.graph.now c.args.gates.now c.args.starts.now c.args.state.now c.args.row c.args.standing c.requires.fits c.requires.start c.requires.from c.requires.stands c.requires.other)
    c.if-is_full.ensures
    (λ k d q.
    let items = c.deref-refusal-items.result.now in
    let at : slice_get items k ≡ Some d = ap (λ xs. slice_get xs k) c.deref-refusal-items.ensures.value ∙ q in
    let lt = slice_get_within items k d at in
    let end = c.loop-refusal-test.false in
    c.loop-refusal.invariant.apart k d (omega (arith, lt, end)) at)
