use Rattle.std.proofs.Common.{◌≡◌, ℕ, List, Some, sym, ap, ◌∙◌, subst}
use Rattle.std.specs.Prelude.{All, Contains, slice_get, length}
use Rattle.proof_log.specs.declared.entry.Entry.TheVariants as step
use Rattle.proof_log.specs.Logs.{entry_at}
use Rattle.proof_log.proofs.Standing.{stands_over}
use Rattle.reached_steps.specs.Opening.{AreOpeningSteps}
use Rattle.opening_positions.specs.Reading.{ReadSteps, IsRead}
use Rattle.opening_positions.specs.Holding.{IsHeldAssertion}
use Rattle.opening_positions.proofs.Opens.{lemmas_free, IsOpened, opened, ok_with}
use Rattle.opening_positions.proofs.Calls.{held_by_calls}
use Rattle.opening_positions.proofs.theory_steps.TheorySteps.positions.Goals as goal

pub hold_lemmas-requires : goal.hold_lemmas-requires
hold_lemmas-requires c = λ x p lt at among. (
    let s : ReadSteps = record { read = c.self.inside.read; makers = c.self.inside.makers.items; equalities = c.self.inside.equalities.items; lemmas = c.self.inside.lemmas.items } in
    let own : IsRead c.args.terms.now.nodes c.args.log.now.entries s = subst (IsRead c.args.terms.now.nodes c.args.log.now.entries) (sym c.self.view_is) c.requires.read in
    let whole : s.read ≡ length c.args.log.now.entries = ap (λ (v : ReadSteps). v.read) c.self.view_is ∙ c.requires.whole in
    lemmas_free c.args.terms.now.nodes c.args.log.now.entries c.requires.listed (stands_over c.args.terms.now.nodes c.args.log.now c.requires.stands).steps s own whole x p lt
    (ap (λ (l : List ℕ). slice_get l x) (sym c.as_slice-2.ensures.value) ∙ at) (subst (λ (l : List ℕ). Contains l p) c.as_slice-3.ensures.value among))

pub returns-clause-opening : goal.returns-clause-opening
returns-clause-opening c =
    let told : IsOpened c.args.terms.now.nodes c.args.log.now c.args.reached.now c.args.live.now c.hold_lemmas.new.held = (
    let s : ReadSteps = record { read = c.self.inside.read; makers = c.self.inside.makers.items; equalities = c.self.inside.equalities.items; lemmas = c.self.inside.lemmas.items } in
    let own : IsRead c.args.terms.now.nodes c.args.log.now.entries s = subst (IsRead c.args.terms.now.nodes c.args.log.now.entries) (sym c.self.view_is) c.requires.read in
    let whole : s.read ≡ length c.args.log.now.entries = ap (λ (v : ReadSteps). v.read) c.self.view_is ∙ c.requires.whole in
    opened c.args.terms.now.nodes c.args.log.now s c.args.reached.now c.args.live.now c.hold_terms.new.held c.hold_selectors.new.held c.hold_equalities.new.held c.hold_lemmas.new.held
    c.requires.listed c.requires.stands own whole c.requires.closed c.requires.reached
    (held_by_calls c.args.log.now s c.args.reached.now c.args.live.now c.clear.new.self c.hold_terms.new.held c.hold_selectors.new.held c.hold_equalities.new.held c.hold_lemmas.new.held
    c.as_slice.result.now c.as_slice-2.result.now c.as_slice-3.result.now c.clear.ensures c.as_slice.ensures.value c.as_slice-2.ensures.value c.as_slice-3.ensures.value
    c.in_ok-hold_terms.ensures.gains c.in_ok-hold_terms.ensures.all c.in_ok-hold_selectors.ensures.gains c.in_ok-hold_selectors.ensures.all
    c.in_ok-hold_equalities.ensures.gains c.in_ok-hold_equalities.ensures.all c.in_ok-hold_lemmas.ensures.gains c.in_ok-hold_lemmas.ensures.all)) in
    ok_with (λ v. v.items) (λ (l : List ℕ). AreOpeningSteps c.args.terms.now.nodes c.args.log.now.entries c.args.reached.now l) c.hold_lemmas.new.held c.to_vec.result c.to_vec.ensures told.opening

pub returns-clause-selectors : goal.returns-clause-selectors
returns-clause-selectors c =
    let told : IsOpened c.args.terms.now.nodes c.args.log.now c.args.reached.now c.args.live.now c.hold_lemmas.new.held = (
    let s : ReadSteps = record { read = c.self.inside.read; makers = c.self.inside.makers.items; equalities = c.self.inside.equalities.items; lemmas = c.self.inside.lemmas.items } in
    let own : IsRead c.args.terms.now.nodes c.args.log.now.entries s = subst (IsRead c.args.terms.now.nodes c.args.log.now.entries) (sym c.self.view_is) c.requires.read in
    let whole : s.read ≡ length c.args.log.now.entries = ap (λ (v : ReadSteps). v.read) c.self.view_is ∙ c.requires.whole in
    opened c.args.terms.now.nodes c.args.log.now s c.args.reached.now c.args.live.now c.hold_terms.new.held c.hold_selectors.new.held c.hold_equalities.new.held c.hold_lemmas.new.held
    c.requires.listed c.requires.stands own whole c.requires.closed c.requires.reached
    (held_by_calls c.args.log.now s c.args.reached.now c.args.live.now c.clear.new.self c.hold_terms.new.held c.hold_selectors.new.held c.hold_equalities.new.held c.hold_lemmas.new.held
    c.as_slice.result.now c.as_slice-2.result.now c.as_slice-3.result.now c.clear.ensures c.as_slice.ensures.value c.as_slice-2.ensures.value c.as_slice-3.ensures.value
    c.in_ok-hold_terms.ensures.gains c.in_ok-hold_terms.ensures.all c.in_ok-hold_selectors.ensures.gains c.in_ok-hold_selectors.ensures.all
    c.in_ok-hold_equalities.ensures.gains c.in_ok-hold_equalities.ensures.all c.in_ok-hold_lemmas.ensures.gains c.in_ok-hold_lemmas.ensures.all)) in
    ok_with (λ v. v.items) (λ (l : List ℕ). All (IsHeldAssertion c.args.log.now.entries l) c.args.live.now) c.hold_lemmas.new.held c.to_vec.result c.to_vec.ensures told.selectors

pub returns-clause-equalities : goal.returns-clause-equalities
returns-clause-equalities c =
    let told : IsOpened c.args.terms.now.nodes c.args.log.now c.args.reached.now c.args.live.now c.hold_lemmas.new.held = (
    let s : ReadSteps = record { read = c.self.inside.read; makers = c.self.inside.makers.items; equalities = c.self.inside.equalities.items; lemmas = c.self.inside.lemmas.items } in
    let own : IsRead c.args.terms.now.nodes c.args.log.now.entries s = subst (IsRead c.args.terms.now.nodes c.args.log.now.entries) (sym c.self.view_is) c.requires.read in
    let whole : s.read ≡ length c.args.log.now.entries = ap (λ (v : ReadSteps). v.read) c.self.view_is ∙ c.requires.whole in
    opened c.args.terms.now.nodes c.args.log.now s c.args.reached.now c.args.live.now c.hold_terms.new.held c.hold_selectors.new.held c.hold_equalities.new.held c.hold_lemmas.new.held
    c.requires.listed c.requires.stands own whole c.requires.closed c.requires.reached
    (held_by_calls c.args.log.now s c.args.reached.now c.args.live.now c.clear.new.self c.hold_terms.new.held c.hold_selectors.new.held c.hold_equalities.new.held c.hold_lemmas.new.held
    c.as_slice.result.now c.as_slice-2.result.now c.as_slice-3.result.now c.clear.ensures c.as_slice.ensures.value c.as_slice-2.ensures.value c.as_slice-3.ensures.value
    c.in_ok-hold_terms.ensures.gains c.in_ok-hold_terms.ensures.all c.in_ok-hold_selectors.ensures.gains c.in_ok-hold_selectors.ensures.all
    c.in_ok-hold_equalities.ensures.gains c.in_ok-hold_equalities.ensures.all c.in_ok-hold_lemmas.ensures.gains c.in_ok-hold_lemmas.ensures.all)) in
    ok_with (λ v. v.items) (λ (l : List ℕ). (at t u : ℕ) → entry_at c.args.log.now.entries at ≡ Some (step.Equal t u) → Contains c.args.reached.now t → Contains c.args.reached.now u → Contains l at) c.hold_lemmas.new.held c.to_vec.result c.to_vec.ensures told.equalities
