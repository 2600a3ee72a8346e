use Rattle.std.proofs.Common.{◌≡◌, suc, ◌+◌, length, sym, ap, ◌∙◌, subst, rules, arith}
use Rattle.std.specs.List.{filter}
use Rattle.std.proofs.lemmas.Result.{err_from_is_err_and}
use Rattle.array_watches.specs.Needed.{has_width, with_words}
use Rattle.array_watches.specs.Making.{value_of, IsMaking}
use Rattle.array_watches.proofs.Growing.{same_terms}
use Rattle.array_watches.proofs.Steps.{has_is, width_in, width_out}
use Rattle.array_watches.proofs.watches.make_width.Goals as goal

pub returns-in_err-found : goal.returns-in_err-found
returns-in_err-found c =
    let p = err_from_is_err_and c.from_residual.result c.from_residual.ensures.1 in
    rw (p.1, p.2) (same_terms c.args.terms.now)

pub returns-then-has : goal.returns-then-has
returns-then-has c =
    let nodes = c.args.terms.now.nodes in
    let found = filter (has_width nodes c.args.width) c.args.indexes.now in
    let len : c.len.result ≡ length found = search (rules) in
    let count : c.len.result + 1 ≡ suc (length found) = omega (arith, len) in
    let is = width_in nodes c.args.indexes.now c.args.widths.now c.args.width (sym (has_is c.has.result c.args.widths.now c.args.width c.has.ensures) ∙ c.if-has.true) in
    subst (λ l. IsMaking l c.make_words.result c.args.terms.now c.make_words.new.terms) (ap (with_words nodes c.args.width) count ∙ sym is) c.make_words.ensures

pub returns : goal.returns
returns c =
    let nodes = c.args.terms.now.nodes in
    ap (λ l. value_of l c.args.terms.now.limit) (sym (width_out nodes c.args.indexes.now c.args.widths.now c.args.width (sym (has_is c.has.result c.args.widths.now c.args.width c.has.ensures) ∙ c.if-has.false)))
