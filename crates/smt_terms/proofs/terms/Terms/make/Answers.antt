use Rattle.std.proofs.Common.{arith, refl, sym, ◌<◌, ◌≤◌, ◌≡◌, length, false}
use Rattle.std.specs.List.{list_any}
use Rattle.std.proofs.lemmas.Result.{err_from_is_err_and}
use Rattle.smt_terms.specs.Same.{same_node}
use Rattle.smt_terms.proofs.Making.{gives_fault, gives_held, gives_full, gives_next, kept_next}
use Rattle.smt_terms.proofs.terms.Terms.make.Goals as goal

pub returns-in_err-sort : goal.returns-in_err-sort
returns-in_err-sort c =
    let p = err_from_is_err_and c.from_residual.result c.from_residual.ensures.1 in
    rw (p.1, p.2) (gives_fault _ _ _ c.args.self.now c.args.node c.self.view_is c.self.invariant _ (rw c.deref.ensures.value at c.in_err-sort.ensures), refl)

pub returns-in-Some : goal.returns-in-Some
returns-in-Some c =
    gives_held _ _ _ c.args.self.now c.args.node c.self.view_is c.self.invariant _ _ (rw c.deref.ensures.value at c.in_ok-sort.ensures) c.in-Some.ensures.index

pub returns-then-term-self : goal.returns-then-term-self
returns-then-term-self c =
    let full : c.self.inside.limit ≤ length c.self.inside.sorts.items = omega arith in
    (gives_full _ _ _ c.args.self.now c.args.node c.self.view_is c.self.invariant _ (rw c.deref.ensures.value at c.in_ok-sort.ensures) c.in_default.ensures.index full, refl)

pub invariant_of-self-2 : goal.invariant_of-self-2
invariant_of-self-2 c =
    let room : length c.self.inside.sorts.items < c.self.inside.limit = omega arith in
    let new : list_any (λ k. same_node c.args.node k) c.self.inside.nodes.keys ≡ false = sym c.in_default.ensures.found in
    kept_next _ _ _ c.args.self.now c.args.node c.self.view_is c.self.invariant _ _ _ (rw c.deref.ensures.value at c.in_ok-sort.ensures) new c.requires.declared room c.in_ok-append.ensures.ok.0 c.in_ok-append.ensures.ok.1

pub returns : goal.returns
returns c =
    let room : length c.self.inside.sorts.items < c.self.inside.limit = omega arith in
    let number : c.len-term.result ≡ length c.self.inside.sorts.items = omega arith in
    gives_next _ _ _ c.args.self.now c.args.node c.self.view_is c.self.invariant _ _ _ number (rw c.deref.ensures.value at c.in_ok-sort.ensures) c.in_default.ensures.index room c.in_ok-append.ensures.ok.0
