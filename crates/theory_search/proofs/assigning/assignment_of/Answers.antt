use Rattle.std.proofs.Common.{◌≡◌, ◌<◌, ◌≤◌, ℕ, List, Bool, length, get_or, sym, ap, ◌∙◌, subst}
use Rattle.std.specs.Prelude.{Contains, slice_index}
use Rattle.std.proofs.lemmas.List.{get_or_default, take_all}
use Rattle.cnf_base.specs.Clauses.{lit_true}
use Rattle.bit_blast.specs.Assigned.{assigned}
use Rattle.cube_search.specs.Running.{valuation_of}
use Rattle.theory_search.proofs.Valued.{assigned_more}
use Rattle.theory_search.proofs.assigning.assignment_of.Goals as goal

pub variables-preserved : goal.variables-preserved
variables-preserved c =
    let vs = c.args.variables.now in
    let ws = c.as_slice-variable-items.result.now in
    let same = c.as_slice-variable-items.ensures.items in
    let i = c.variables.variable-index in
    let y = slice_index ws i in
    assigned_more vs i y (valuation_of c.args.search.now) (assigned c.variables.values.items) (assigned c.assign.new.values.items) c.is_true-value.result
    (subst (λ (xs : List ℕ). i < length xs) same c.variables-test.true)
    (subst (λ (xs : List ℕ). y ≡ get_or xs i y) same (get_or_default ws i 0 y c.variables-test.true))
    c.as_slice-variable-items.ensures.variables
    (c.is_true-value.ensures ∙ ap (lit_true (valuation_of c.args.search.now)) c.new.ensures)
    c.in_ok-assign.ensures c.variables.invariant

pub returns : goal.returns
returns c = λ x k.
    let vs = c.args.variables.now in
    subst (λ (values : List Bool). assigned values x ≡ valuation_of c.args.search.now x) (sym c.new-2.ensures)
    (c.variables.invariant x (subst (λ (xs : List ℕ). Contains xs x) (sym (take_all c.variables.variable-index vs (subst (λ (xs : List ℕ). length xs ≤ c.variables.variable-index) c.as_slice-variable-items.ensures.items c.variables-test.false))) k))
