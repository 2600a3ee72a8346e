use Rattle.std.proofs.Common.{rules, ◌≡◌, true, sym, ap, ◌∙◌, subst}
use Rattle.std.proofs.lemmas.Bool.{MatchBool-at_true, MatchBool-at_false, false≢true}
use denote.Enum.Bare.{sameb, same_true}
use Rattle.proof_text.specs.contracts.line.Format.{the_type}
use Rattle.proof_text.specs.declared.line.Format.TheVariants.{One}
use Rattle.faded_log.specs.Faded.{is_among}
use Rattle.check_cubes.specs.Searches.{limits_of}
use Rattle.accepted_proof.specs.Judged.{Deletes}
use Rattle.diary_checker.specs.Starts.{IsStart}
use Rattle.proof_checker.specs.Checkers.{CheckerValue, owed_of}
use Rattle.proof_checker.specs.Deletions.{AreChainsForgotten, GoesToLike}
use Rattle.proof_checker.proofs.Forgetting.{forgotten_faded, none_forgotten, not_said, not_deleted, are_deleted}
use Rattle.proof_checker.proofs.Starting.{start_left, start_faded}
use Rattle.proof_checker.proofs.checker.Checker.delete.Goals as goal

pub invariant_of-checker : goal.invariant_of-checker
invariant_of-checker c =
    let before = c.checker.inside in (
      c.checker.invariant.0,
      tt,
      tt,
      c.checker.invariant.3,
      tt,
      c.new.ensures.start c.none.result before.log.value,
      subst (λ ds. AreChainsForgotten ds before.log.value.entries) (sym c.none.ensures) (none_forgotten before.log.value.entries),
    )

pub invariant_of-checker-2 : goal.invariant_of-checker-2
invariant_of-checker-2 c =
    let before = c.checker.inside in
    let places = c.args.places.now in
    let told = MatchBool-at_true _ _ c.if-not-done.false (rw c.deref.ensures at c.in-Ok.ensures) in
    let less = rw c.deref_mut.ensures.value at c.forget.ensures.faded in
    let held = rw c.deref_mut.ensures.value at c.forget.ensures.held in
    let start = start_left _ before.deleted c.delete.new.deleted places before.log.value before.start c.in-Ok.done c.in-Ok.ensures c.checker.invariant.5 in (
      held before.state.value.terms.nodes c.checker.invariant.0,
      tt,
      tt,
      c.checker.invariant.3,
      tt,
      start_faded (is_among places) c.delete.new.deleted before.log.value c.forget.new.self before.start less start,
      subst (λ ds. AreChainsForgotten ds c.forget.new.self.entries) (sym told.1)
          (subst (AreChainsForgotten _) (sym less.entries) (forgotten_faded before.deleted places before.log.value.entries c.checker.invariant.6 told.0)),
    )

pub returns-then-eq : goal.returns-then-eq
returns-then-eq c =
    let j = c.args.self.judging in
    let one : c.self.inside.format ≡ One = same_true the_type (search rules) _ _ (sym c.if-eq.ensures) in
    not_said j.format j.limits j.state j.log j.deleted j.owed j.line c.args.self.verdicts c.args.places.now (ap (λ (x : CheckerValue). x.judging.format) (sym c.self.view_is) ∙ one) c.refuse.result c.refuse.ensures

pub returns-then-not-done : goal.returns-then-not-done
returns-then-not-done c =
    let before = c.checker.inside in
    let told = MatchBool-at_false _ _ c.if-not-done.true (rw c.deref.ensures at c.in-Ok.ensures) in
    subst (λ (x : CheckerValue). GoesToLike (Deletes x.judging.format x.judging c.args.places.now) x c.refuse-then-not-done.result) c.checker.view_is
    (not_deleted before.format (limits_of before.limits) before.state.value before.log.value.entries before.deleted (owed_of before.due before.state.value.symbols.live before.values.items) before.line before.verdicts.items c.args.places.now
    (λ e. let z : c.eq.result ≡ true = c.eq.ensures ∙ ap (λ x. sameb the_type x One) (ap (λ (x : CheckerValue). x.judging.format) (c.self.view_is ∙ sym c.checker.view_is) ∙ e) in false≢true (sym c.if-eq.false ∙ z)) c.delete.new.deleted told.1 told.0 c.refuse-then-not-done.result c.refuse-then-not-done.ensures)

pub returns : goal.returns
returns c =
    let before = c.checker.inside in
    let told = MatchBool-at_true _ _ c.if-not-done.false (rw c.deref.ensures at c.in-Ok.ensures) in
    let less = rw c.deref_mut.ensures.value at c.forget.ensures.faded in
    subst (λ (x : CheckerValue). GoesToLike (Deletes x.judging.format x.judging c.args.places.now) x c.go_on.result) c.checker.view_is
    (are_deleted before.format (limits_of before.limits) before.state.value before.log.value.entries before.deleted (owed_of before.due before.state.value.symbols.live before.values.items) before.line before.verdicts.items c.args.places.now
    (λ e. let z : c.eq.result ≡ true = c.eq.ensures ∙ ap (λ x. sameb the_type x One) (ap (λ (x : CheckerValue). x.judging.format) (c.self.view_is ∙ sym c.checker.view_is) ∙ e) in false≢true (sym c.if-eq.false ∙ z)) c.delete.new.deleted told.1 told.0 c.forget.new.self.entries less.entries c.go_on.result c.go_on.ensures)
