use Rattle.std.proofs.Common.{◌≡◌, ℕ, sym, ap, subst, ◌∙◌}
use Rattle.std.specs.Prelude.{◌||◌}
use Rattle.std.specs.List.{list_any, list_all}
use Rattle.proof_log.specs.Stored.{LogValue}
use Rattle.proof_checker.specs.Checkers.{is_against, is_against_bit}
use Rattle.std.specs.Ordering.{nat_cmp}
use Rattle.std.specs.BTreeSet.{contains}
use Rattle.cnf_base.specs.Literals.{code_of}
use Rattle.faded_log.proofs.Weaving.{held_kept}
use Rattle.proof_checker.proofs.Against.{no_refuted, refutation_told}
use Rattle.proof_checker.proofs.refutations.is_refutation.Goals as goal

pub returns-in_default : goal.returns-in_default
returns-in_default c =
    let s = c.args.state.now in
    no_refuted s c.args.log.now (held_kept s.terms.nodes c.args.log.now c.requires) c.args.pos (sym c.in_default.ensures)

pub returns : goal.returns
returns c =
    let s = c.args.state.now in
    let codes = c.in_ok-codes.codes in
    refutation_told s c.args.log.now (held_kept s.terms.nodes c.args.log.now c.requires) c.args.pos c.in-Some.clause.now c.live.result.now c.assumptions.result.now (contains nat_cmp c.in_ok-selectors.selectors) (contains nat_cmp codes) c.are_among.result
    c.live.ensures.live c.assumptions.ensures.assumptions
    (subst (λ (b : LogValue). (q : ℕ) → contains nat_cmp c.in_ok-selectors.selectors q ≡ list_any (λ a. is_against b.selectors a q) c.live.result.now) c.base.ensures c.in_ok-selectors.ensures)
    (subst (λ (b : LogValue). (q : ℕ) → contains nat_cmp codes q ≡ (contains nat_cmp c.in_ok-selectors.selectors q || list_any (λ a. is_against_bit b.bits a q) c.assumptions.result.now)) c.base-2.ensures c.in_ok-codes.ensures) (sym c.in-Some.ensures)
    (c.are_among.ensures ∙ ap (λ ls. list_all (λ l. contains nat_cmp codes (code_of l)) ls) c.literals.ensures)
