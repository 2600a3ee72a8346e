use Rattle.std.proofs.Common.{◌≡◌, [], ◌∷◌, sym, subst, ⊎_elim, arith}
use Rattle.std.specs.Prelude.{Contains}
use Rattle.std.proofs.lemmas.Bool.{cases_lt}
use Rattle.std.proofs.lemmas.List.Elements.{Contains-push, Contains-push_cases, Contains-append_left}
use Rattle.access_walk.specs.Maps.{IsWordOf}
use Rattle.access_walk.specs.Valued.{IsWordTerm}
use Rattle.access_walk.proofs.filling.push_words.Goals as goal

pub returns-in-None-clause-has : goal.returns-in-None-clause-has
returns-in-None-clause-has c = λ k lt held. ⊎_elim
    (λ less. c.loop-number.invariant.has k less)
    (λ more. absurd (c.in-None.ensures (held c.loop-number.number more)))
    (cases_lt k c.loop-number.number)

pub loop-number-preserved : goal.loop-number-preserved
loop-number-preserved c = record {
  words = λ j h. ⊎_elim
      (λ p. c.loop-number.invariant.words j p)
      (λ p. subst (IsWordTerm c.args.terms.now.nodes c.args.bits.now) p c.in-Some.ensures.1)
      (Contains-push_cases c.loop-number.indexes.items c.in-Some.term j (subst (λ xs. Contains xs j) c.in_ok-push-in-Some.ensures.items h));
  kept = λ j h. subst (λ xs. Contains xs j) (sym c.in_ok-push-in-Some.ensures.items) (Contains-append_left c.loop-number.indexes.items (c.in-Some.term ∷ []) j (c.loop-number.invariant.kept j h));
  has = λ k lt. ⊎_elim
      (λ less. (let w = c.loop-number.invariant.has k less in (w.0, w.1, subst (λ xs. Contains xs w.0) (sym c.in_ok-push-in-Some.ensures.items) (Contains-append_left c.loop-number.indexes.items (c.in-Some.term ∷ []) w.0 w.2))))
      (λ more.
      let same : c.loop-number.number ≡ k = omega (arith, lt, more) in
      (c.in-Some.term, subst (λ z. IsWordOf c.args.terms.now.nodes c.args.width z c.in-Some.term) same c.in-Some.ensures.0, subst (λ xs. Contains xs c.in-Some.term) (sym c.in_ok-push-in-Some.ensures.items) (Contains-push c.loop-number.indexes.items c.in-Some.term)))
      (cases_lt k c.loop-number.number);
}
