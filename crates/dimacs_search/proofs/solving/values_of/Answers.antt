use Rattle.std.proofs.Common.{[], ◌∷◌, length, ap, ◌∙◌, arith}
use Rattle.std.proofs.lemmas.List.{length-append}
use Rattle.cnf_base.specs.Clauses.{lit_true}
use Rattle.cdcl_loop.specs.Values.{valuation}
use Rattle.dimacs_search.specs.Solving.{assignment}
use Rattle.dimacs_search.proofs.Models.{value_pushed}
use Rattle.dimacs_search.proofs.solving.values_of.Goals as goal

pub variables-init : goal.variables-init
variables-init c = record { from_one = omega arith; count = omega arith; same = λ x low lt. absurd (omega (arith, low, lt)) }

pub variables-preserved : goal.variables-preserved
variables-preserved c =
    let t = c.args.engine.now.trail in
    let inv = c.variables.invariant in
    let pushed = c.in_ok-push.ensures.items in
    let one = length-append c.variables.values.items (c.is_true.result ∷ []) in
    record {
      from_one = omega arith;
      count = ap length pushed ∙ omega (arith, one, inv.count, inv.from_one);
      same = λ x low lt. ap (λ vs. assignment vs x) pushed ∙ value_pushed c.variables.values.items c.is_true.result (valuation t) c.variables.variable inv.from_one inv.count (c.is_true.ensures ∙ ap (lit_true (valuation t)) c.new.ensures) inv.same x low lt;
    }
