use Rattle.std.proofs.Common.{◌≡◌, suc, ◌+◌, ◌<◌, length, refl, sym, ap, ◌∙◌, subst, arith}
use Rattle.std.specs.Prelude.{Contains}
use Rattle.std.proofs.lemmas.List.Elements.{All-contains}
use Rattle.std.proofs.lemmas.Result.{err_from_is_err_and}
use Rattle.array_watches.specs.Needed.{with_index_words}
use Rattle.array_watches.specs.Making.{with_width_words}
use Rattle.array_watches.proofs.Growing.{IsLonger, long_count, index_words_up, same_terms, more_terms, made_extends}
use Rattle.array_watches.proofs.Putting.{part_fails}
use Rattle.array_watches.proofs.Counting.{indexes_held, all_of}
use Rattle.array_watches.proofs.Steps.{width_step, width_long}
use Rattle.array_watches.proofs.watches.make_index_words.Goals as goal

pub returns-in_err-indexes : goal.returns-in_err-indexes
returns-in_err-indexes c = λ ts s.
    let p = err_from_is_err_and c.from_residual.result c.from_residual.ensures.1 in
    rw (p.1, p.2) (same_terms c.args.terms.now)

pub returns-in_err-widths : goal.returns-in_err-widths
returns-in_err-widths c = λ ts s.
    let p = err_from_is_err_and c.from_residual-in_err-widths.result c.from_residual-in_err-widths.ensures.1 in
    rw (p.1, p.2) (same_terms c.args.terms.now)

pub loop-below-init : goal.loop-below-init
loop-below-init c = record { words = λ ts s. refl; grown = same_terms c.args.terms.now }

pub make_width-requires-clause-held : goal.make_width-requires-clause-held
make_width-requires-clause-held c =
    let i = c.loop-below.invariant in
    let list = c.len-count.ensures.terms.list in
    let le = long_count c.args.terms.now.nodes c.loop-below.terms.nodes (i.grown.more, i.grown.nodes) in
    all_of c.as_slice.result.now (λ t. t < length c.loop-below.terms.nodes) (λ t k.
    (let lt = indexes_held c.args.terms.now.nodes list c.args.among.now c.in_ok-indexes.indexes.items (λ u j. All-contains (λ a. a < length c.args.terms.now.nodes) c.args.among.now u c.requires.held j) c.in_ok-indexes.ensures.same t (subst (λ l. Contains l t) c.as_slice.ensures.value k) in
    omega (arith, lt, le)))

pub loop-below-preserved : goal.loop-below-preserved
loop-below-preserved c =
    let i = c.loop-below.invariant in
    let cur = c.loop-below.terms in
    let list = c.len-count.ensures.terms.list in
    let one : c.loop-below.below + 1 ≡ suc c.loop-below.below = omega arith in
    let is = c.in_ok-make_width.ensures in
    record {
      words = λ ts s.
          ap (λ t. t.nodes) is
          ∙ ap (λ xs. with_width_words cur.nodes xs c.as_slice-in-loop-below.result.now (c.loop-below.below + 1)) c.as_slice.ensures.value
          ∙ ap (λ xs. with_width_words cur.nodes c.in_ok-indexes.indexes.items xs (c.loop-below.below + 1)) c.as_slice-in-loop-below.ensures.value
          ∙ ap (with_width_words cur.nodes c.in_ok-indexes.indexes.items c.in_ok-widths.widths.items) one
          ∙ width_step c.args.terms.now.nodes list c.args.among.now c.args.among.now ts c.in_ok-indexes.indexes.items c.in_ok-widths.widths.items c.loop-below.below cur.nodes
          (λ u j. All-contains (λ a. a < length c.args.terms.now.nodes) c.args.among.now u c.requires.held j) s c.in_ok-indexes.ensures.once c.in_ok-indexes.ensures.same c.in_ok-widths.ensures (i.words ts s)
          ∙ ap (with_index_words c.args.terms.now.nodes ts) (sym one);
      grown = more_terms c.args.terms.now cur c.make_width.new.terms i.grown
          (made_extends cur c.make_width.new.terms (with_width_words cur.nodes c.as_slice.result.now c.as_slice-in-loop-below.result.now (c.loop-below.below + 1)) is (width_long cur.nodes c.as_slice.result.now c.as_slice-in-loop-below.result.now (c.loop-below.below + 1)));
    }

pub returns-in_err-make_width : goal.returns-in_err-make_width
returns-in_err-make_width c = λ ts s.
    let i = c.loop-below.invariant in
    let cur = c.loop-below.terms in
    let list = c.len-count.ensures.terms.list in
    let one : c.loop-below.below + 1 ≡ suc c.loop-below.below = omega arith in
    let p = err_from_is_err_and c.from_residual-in_err-make_width.result c.from_residual-in_err-make_width.ensures.1 in
    let part = with_width_words cur.nodes c.as_slice.result.now c.as_slice-in-loop-below.result.now (c.loop-below.below + 1) in
    let is : part ≡ with_index_words c.args.terms.now.nodes ts (suc c.loop-below.below) =
    ap (λ xs. with_width_words cur.nodes xs c.as_slice-in-loop-below.result.now (c.loop-below.below + 1)) c.as_slice.ensures.value
    ∙ ap (λ xs. with_width_words cur.nodes c.in_ok-indexes.indexes.items xs (c.loop-below.below + 1)) c.as_slice-in-loop-below.ensures.value
    ∙ ap (with_width_words cur.nodes c.in_ok-indexes.indexes.items c.in_ok-widths.widths.items) one
    ∙ width_step c.args.terms.now.nodes list c.args.among.now c.args.among.now ts c.in_ok-indexes.indexes.items c.in_ok-widths.widths.items c.loop-below.below cur.nodes
    (λ u j. All-contains (λ a. a < length c.args.terms.now.nodes) c.args.among.now u c.requires.held j) s c.in_ok-indexes.ensures.once c.in_ok-indexes.ensures.same c.in_ok-widths.ensures (i.words ts s) in
    let lt = c.loop-below-test.true in
    rw (p.1, p.2)
    (part_fails part (with_index_words c.args.terms.now.nodes ts 128) c.args.terms.now cur c.in_err-make_width.field-0.0 c.make_width.new.terms i.grown c.in_err-make_width.ensures
    (subst (λ l. IsLonger l (with_index_words c.args.terms.now.nodes ts 128)) (sym is) (index_words_up c.args.terms.now.nodes ts (suc c.loop-below.below) 128 (omega (arith, lt)))))

pub returns : goal.returns
returns c = λ ts s.
    let i = c.loop-below.invariant in
    let ge = c.loop-below-test.false in
    let le = c.loop-below.auto.below-end in
    let end : c.loop-below.below ≡ 128 = omega (arith, ge, le) in
    let nodes : c.loop-below.terms.nodes ≡ with_index_words c.args.terms.now.nodes ts 128 = i.words ts s ∙ ap (with_index_words c.args.terms.now.nodes ts) end in
    (λ j. record { nodes = nodes j; limit = i.grown.limit j })
