-- An assertion makes more terms and more definitions, over the live declarations.
use Rattle.std.proofs.Common.{◌≡◌, ℕ, ◌<◌, true, List, [], ◌++◌, length, refl, ap, subst, ◌∙◌, Option, Some, Ok, Err}
use Rattle.std.proofs.Math.Seq.{take-append_seam}
use Rattle.smt_syntax.specs.Sexps.{Sexp}
use Rattle.smt_terms.specs.Terms.{TermsValue, IsTermList}
use Rattle.smt_build.specs.declared.definition.Definition.{Definition}
use Rattle.smt_build.specs.Asserting.{Assertion, with_names, as_assertion, assertion}
use Rattle.smt_build.specs.Binding.{Read}
use Rattle.smt_build.specs.Names.{SymbolsValue, Meanings, AreBodies, with_definitions}
use Rattle.smt_build.specs.Scoped.{is_over, AreOver}
use Rattle.smt_build.specs.Terms.{term_in}
use Rattle.smt_build.proofs.Assertions.{KeepsAll, assertion_keeps}
use Rattle.smt_build.proofs.GivenNames.{Adds, adds_names}
use Rattle.smt_build.proofs.KeptTerms.{GoOn}
use Rattle.smt_build.proofs.ScopedCommands.{assertion_is_over}
use Rattle.script_state.specs.declared.answer.Answer.TheVariants.{Refused}
use Rattle.script_state.specs.declared.error_text.ErrorText.{ErrorText}
use Rattle.script_state.specs.States.{StateValue}
use Rattle.script_state.specs.Steps.{Step, objection, asserting}
use Rattle.script_state.proofs.Asserting.{with_more}

module _ (v w : SymbolsValue) (terms new : TermsValue) (e : Sexp) (t : ℕ) where
  pub adds_assertion : assertion v terms e ≡ Ok (t, w, new) → Adds v w
  unfolding assertion
  adds_assertion is = go (term_in v true [] (record { terms = terms; names = []; parameters = [] }) e) is where
    go : (r : Read) → as_assertion v r ≡ Ok (t, w, new) → Adds v w
    go (Ok q) h =
        let same : ◌≡◌ {A = ℕ × SymbolsValue × TermsValue} (q.0, with_names v q.1.names, q.1.terms) (t, w, new) = cc in
        subst (λ (u : SymbolsValue). Adds v u) (ap (λ (r : ℕ × SymbolsValue × TermsValue). r.1) same) (adds_names v q.1.names)
    go (Err f) h = absurd (let z : ⊥ = cc in z)

  -- what an assertion leaves of what is known
  pub record IsAsserted : Type 0 where
    pub more : Meanings Definition
    pub symbols : w ≡ with_more v more
    pub on : GoOn v.signatures terms new
    pub held : t < length new.nodes
    pub bodies : AreBodies (length new.nodes) (v.definitions ++ more)
    pub over : AreOver v.live new.nodes (v.definitions ++ more)
    pub here : is_over v.live new.nodes t ≡ true

  pub assertion_is : IsTermList terms.nodes → AreBodies (length terms.nodes) v.definitions → AreOver v.live terms.nodes v.definitions → assertion v terms e ≡ Ok (t, w, new) → IsAsserted
  assertion_is list bodies over is =
      let adds = adds_assertion is in
      let P : Assertion → Type 0 = KeepsAll v terms in
      let kept : KeepsAll v terms (Ok (t, w, new)) = subst P is (assertion_keeps v terms e bodies) in
      let closed = assertion_is_over v w terms new e t list bodies over is in
      record {
        more = adds.more;
        symbols = adds.same;
        on = kept.0;
        held = kept.1;
        bodies = rw adds.same at kept.2;
        over = rw adds.same at closed.definitions;
        here = rw adds.same at closed.term;
      }

  -- the definitions behind those of before are forgotten
  pub names_back : (back : SymbolsValue) (count : ℕ) → assertion v terms e ≡ Ok (t, w, new) → count ≡ length v.definitions → back ≡ with_definitions w count → back ≡ v
  names_back back count is c f =
      let adds = adds_assertion is in
      f ∙ rw (c, adds.same) (λ i. record { live = v.live; signatures = v.signatures; definitions = take-append_seam v.definitions adds.more i; sorts = v.sorts; levels = v.levels })

-- an assertion that something stands against is refused, and leaves the state
pub asserting_refused : (s new : StateValue) (name : Option (List ℕ)) (e : Sexp) (t : ℕ) (v : SymbolsValue) (w : TermsValue) (x : ErrorText) → assertion s.symbols s.terms e ≡ Ok (t, v, w) → objection w.nodes t ≡ Some x → new ≡ s → ◌≡◌ {A = Step} (asserting s name (assertion s.symbols s.terms e)) (Refused x, new)
asserting_refused s new name e t v w x is o same = rw (is, o, same) refl
