use Rattle.std.proofs.Common.{inl}
use Rattle.std.proofs.lemmas.Result.{err_from_is_err_and}
use Rattle.bv_rewrite.specs.Simplifying.{IsRefused}
use Rattle.bv_rewrite.proofs.Following.{begun, went_on, step_of, smaller, stopped_at, stopped_full, grown_more, grown_shape, no_fault}
use Rattle.bv_rewrite.proofs.simplifying.follow.Goals as goal

pub rules-init : goal.rules-init
rules-init g c = begun c.args.terms.now c.args.t c.args.uses.now.items c.requires.terms c.requires.held c.requires.plain

pub returns-in_err-at-clause-refused : goal.returns-in_err-at-clause-refused
returns-in_err-at-clause-refused g c =
    let p = err_from_is_err_and c.from_residual.result c.from_residual.ensures.1 in
    let i = c.rules.invariant in
    rw (p.1, p.2) (stopped_at c.args.terms.now c.rules.terms c.make.new.terms c.in-Some.found.rule c.rules.at c.sort-sort.result c.in-Some.found.shape _ i.grown i.held c.sort-sort.ensures c.in-Some.ensures c.in_err-at.ensures)

pub rules-smaller : goal.rules-smaller
rules-smaller g c =
    let i = c.rules.invariant in
    smaller c.rules.terms c.make.new.terms c.in-Some.found.rule c.rules.at c.in_ok-at.at c.in-Some.found.shape i.grown.terms i.held c.in-Some.ensures
    (step_of c.rules.terms c.make.new.terms c.in-Some.found.rule c.rules.at c.in_ok-at.at c.sort-sort.result c.in-Some.found.shape i.grown.terms i.held c.sort-sort.ensures c.in-Some.ensures c.in_ok-at.ensures)

pub rules-preserved : goal.rules-preserved
rules-preserved g c =
    let i = c.rules.invariant in
    rw c.in_ok-push.ensures.items
    (went_on c.args.terms.now c.rules.terms c.make.new.terms c.args.t c.args.uses.now.items c.rules.uses.items c.rules.at c.in_ok-at.at c.in-Some.found.rule c.in-Some.found.shape i c.in-Some.ensures
    (step_of c.rules.terms c.make.new.terms c.in-Some.found.rule c.rules.at c.in_ok-at.at c.sort-sort.result c.in-Some.found.shape i.grown.terms i.held c.sort-sort.ensures c.in-Some.ensures c.in_ok-at.ensures))

pub returns-in_err-push-clause-refused : goal.returns-in_err-push-clause-refused
returns-in_err-push-clause-refused g c =
    let p = err_from_is_err_and c.from_residual-in_err-push.result c.from_residual-in_err-push.ensures.1 in
    let i = c.rules.invariant in
    let made = step_of c.rules.terms c.make.new.terms c.in-Some.found.rule c.rules.at c.in_ok-at.at c.sort-sort.result c.in-Some.found.shape i.grown.terms i.held c.sort-sort.ensures c.in-Some.ensures c.in_ok-at.ensures in
    let refused : IsRefused c.args.terms.now c.make.new.terms p.0 = record { grown = grown_more c.args.terms.now c.rules.terms c.make.new.terms i.grown (grown_shape c.rules.terms c.make.new.terms _ c.in-Some.found.shape c.in_ok-at.at made); cause = inl p.2 } in
    rw p.1 refused

pub returns-in_err-at-clause-stopped : goal.returns-in_err-at-clause-stopped
returns-in_err-at-clause-stopped g c =
    let p = err_from_is_err_and c.from_residual.result c.from_residual.ensures.1 in
    rw (p.1, p.2) (stopped_full c.args.terms.now c.rules.terms c.make.new.terms c.args.t c.args.uses.now.items c.rules.uses.items c.in-Some.found.rule c.rules.at c.sort-sort.result c.in-Some.found.shape _ c.rules.invariant c.sort-sort.ensures c.in-Some.ensures c.in_err-at.ensures)

pub returns-in_err-push-clause-stopped : goal.returns-in_err-push-clause-stopped
returns-in_err-push-clause-stopped g c =
    let p = err_from_is_err_and c.from_residual-in_err-push.result c.from_residual-in_err-push.ensures.1 in
    rw p.1 (λ f. no_fault p.0 p.2 f)
