-- A chunk reads one way, a step makes one assertion at most, and what is known where a command is answered so.
use Rattle.std.proofs.Common.{◌≡◌, ℕ, ◌+◌, ◌≤◌, true, List, [], length, refl, sym, ap, subst, ◌∙◌, inl, inr, arith, leb-true, Some, Result, Ok, Err}
use Rattle.std.specs.Prelude.{◌↔◌}
use Rattle.std.proofs.lemmas.Bool.{false≢true}
use Rattle.smt_text.specs.declared.token.CommandName.{CommandName}
use Rattle.smt_text.specs.declared.token.CommandName.TheVariants as name
use Rattle.smt_syntax.specs.declared.command.SyntaxFault.{SyntaxFault}
use Rattle.smt_syntax.specs.Commands.{read}
use Rattle.smt_terms.specs.Terms.{TermsValue, cut_at}
use Rattle.scope_selectors.specs.Scopes.{ScopesValue}
use Rattle.smt_build.specs.Building.{Grows}
use Rattle.smt_build.proofs.Growth.{cut_back}
use Rattle.smt_text.specs.Lexicon.{Lexeme}
use Rattle.smt_text.specs.declared.chunk.Chunk.{Chunk}
use Rattle.smt_text.specs.declared.chunk.ChunkKind.{ChunkKind}
use Rattle.smt_text.specs.declared.chunk.ChunkKind.TheVariants.{Balanced, Stray, Unfinished}
use Rattle.smt_text.proofs.Spelled.{AreTokens-one, AreTokens-bad}
use Rattle.smt_syntax.specs.Sexps.{Sexps, group, signs_of}
use Rattle.smt_syntax.proofs.OneSexp.{spelling-one}
use Rattle.script_state.specs.declared.answer.Answer.{Answer}
use Rattle.script_state.specs.declared.answer.Answer.TheVariants.{Refused, Check, Model, Values, Core, Assumptions, Exit}
use Rattle.script_state.specs.declared.answer.Asked.{Asked}
use Rattle.script_state.specs.declared.answer.Verdict.TheVariants.{Sat, Unsat}
use Rattle.script_state.specs.declared.error_text.ErrorText.{ErrorText}
use Rattle.script_state.specs.Readings.{Spelled, Reading, ReadsBy, ReadsAs, IsNoList}
use Rattle.script_state.specs.States.{StateValue, WatchesFit, IsState}
use Rattle.script_state.specs.Steps.{Step, no_objection, asking, valuing_by, obey, obey_read, step, forgotten, IsAskedValues, is_exit, ends_read, ends}
use Rattle.script_state.proofs.Cases.{of_step}
use Rattle.script_state.proofs.Judging.{valued_is}
use Rattle.script_state.proofs.Leveling.{pushed_is, popped_is}

same_list : (es fs : Sexps) → group es ≡ group fs → es ≡ fs
same_list es fs e = cc

same_spelled : (c d : Spelled) → c.list ≡ d.list → c.tokens ≡ d.tokens → c ≡ d
same_spelled c d e f = λ i. record { list = e i; tokens = f i }

-- what reads as a list reads as no error
not_both : (text : List ℕ) (c : Spelled) (e : ErrorText) → ReadsBy Balanced text (Ok c) → IsNoList text e → ⊥
not_both text c e reads (inl bad) = AreTokens-bad _ _ _ reads.0 bad.1.1
not_both text c e reads (inr spelled) = spelled.1.2 c.list (ap signs_of (AreTokens-one _ _ _ spelled.1.1 reads.0) ∙ reads.1)

-- a bad token and tokens that spell no list are not both there
one_error : (text : List ℕ) (e f : ErrorText) → IsNoList text e → IsNoList text f → e ≡ f
one_error text e f (inl a) (inl b) = a.0 ∙ sym b.0
one_error text e f (inl a) (inr b) = absurd (AreTokens-bad _ _ _ b.1.1 a.1.1)
one_error text e f (inr a) (inl b) = absurd (AreTokens-bad _ _ _ a.1.1 b.1.1)
one_error text e f (inr a) (inr b) = a.0 ∙ sym b.0

one_way : (kind : ChunkKind) (text : List ℕ) (r t : Reading) → ReadsBy kind text r → ReadsBy kind text t → r ≡ t
one_way Unfinished text r t a b = a ∙ sym b
one_way Stray text r t a b = a ∙ sym b
one_way Balanced text (Ok c) (Ok d) a b =
    let tokens : c.tokens ≡ d.tokens = AreTokens-one _ _ _ a.0 b.0 in
    ap Ok (same_spelled c d (same_list c.list d.list (spelling-one (group c.list) (group d.list) (sym a.1 ∙ ap signs_of tokens ∙ b.1))) tokens)
one_way Balanced text (Ok c) (Err f) a b = absurd (not_both text c f a b)
one_way Balanced text (Err e) (Ok d) a b = absurd (not_both text d e b a)
one_way Balanced text (Err e) (Err f) a b = ap Err (one_error text e f a b)

pub reads_one_way : (chunk : Chunk) (r t : Reading) → ReadsAs chunk r → ReadsAs chunk t → r ≡ t
reads_one_way chunk r t a b = one_way chunk.kind chunk.text r t a b

-- ---- steps

abbrev MakesOne : StateValue → Step → Type 0
MakesOne s to = to.1.scopes.made ≤ s.scopes.made + 1

pub makes_one : (s : StateValue) (r : Reading) → (step s r).1.scopes.made ≤ s.scopes.made + 1
makes_one s r = of_step s (MakesOne s) (record {
  refused = λ e. omega arith;
  kept = omega arith;
  checked = λ fit. omega arith;
  declared = λ n es d w k. omega arith;
  named = λ n es w k. omega arith;
  defined = λ n es w t k. omega arith;
  asserted = λ name x t v w k o. omega arith;
  assumed = λ tokens es asked w k fit. omega arith;
  said = λ x. omega arith;
  set = λ o. omega arith;
  begun = λ n v k. omega (arith, ap (λ (u : ScopesValue). u.made) (pushed_is s.scopes v n k).1);
  ended = λ n v k. omega (arith, ap (λ (u : ScopesValue). u.made) (popped_is s.scopes v n k).1);
  emptied = λ o. omega arith;
  modelled = λ a b. omega arith;
  valued = λ tokens es asked w k a b. omega arith;
  refuted = λ a b. omega arith;
  refuted_assumed = λ asked a b c. omega arith;
}) r (λ x. omega arith)

-- ---- answers

-- what is known where a command is answered so, of the state before, of what was read, and of the state then
abbrev Known : StateValue → Reading → StateValue → Answer → Type 0
Known s r new (Refused e) = new ≡ s
Known s r new Check = WatchesFit new
Known s r new Model = (s.standing ≡ Some Sat) × (s.options.produce_models ≡ true)
Known s r new (Values asked) = (s.standing ≡ Some Sat) × (s.options.produce_models ≡ true) × ((tokens : List Lexeme) × (es : Sexps) × (w : TermsValue) × (asking no_objection s.symbols s.terms tokens [] es ≡ Ok (asked, w)) × (new ≡ (valuing_by s asked w (Some Sat)).1))
Known s r new Core = (s.standing ≡ Some Unsat) × (s.options.produce_unsat_cores ≡ true) × (new ≡ s)
Known s r new Assumptions = (s.standing ≡ Some Unsat) × ((asked : List Asked) × (s.assumed ≡ Some asked)) × (s.options.produce_unsat_assumptions ≡ true) × (new ≡ s)
Known s r new Exit = ends r ≡ true
Known s r new _ = Unit {0}

known : (s : StateValue) (r : Reading) → Known s r (step s r).1 (step s r).0
known s r = of_step s (λ to. Known s r to.1 to.0) (record {
  refused = λ e. refl;
  kept = tt;
  checked = λ fit. leb-true _ _ fit;
  declared = λ n es d w k. tt;
  named = λ n es w k. tt;
  defined = λ n es w t k. tt;
  asserted = λ name x t v w k o. tt;
  assumed = λ tokens es asked w k fit. leb-true _ _ fit;
  said = λ x. tt;
  set = λ o. tt;
  begun = λ n v k. tt;
  ended = λ n v k. tt;
  emptied = λ o. tt;
  modelled = λ a b. (a, b);
  valued = λ tokens es asked w k a b. (a, b, (tokens, es, w, k, refl));
  refuted = λ a b. (a, b, refl);
  refuted_assumed = λ asked a b c. (a, (asked, b), c, refl);
}) r (λ e. e)

known_as : (s : StateValue) (r : Reading) (a : Answer) → (step s r).0 ≡ a → Known s r (step s r).1 a
known_as s r a e = subst (λ (b : Answer). Known s r (step s r).1 b) e (known s r)

pub refused_changes_nothing : (s : StateValue) (r : Reading) (e : ErrorText) → (step s r).0 ≡ Refused e → (step s r).1 ≡ s
refused_changes_nothing s r e h = known_as s r (Refused e) h

-- what a check makes before all else can be made
pub checks_fit : (s : StateValue) (r : Reading) → (step s r).0 ≡ Check → WatchesFit (step s r).1
checks_fit s r h = known_as s r Check h

exit_obeyed : (s : StateValue) (tokens : List Lexeme) (n : CommandName) (es : Sexps) → is_exit n ≡ true → (obey s tokens n es).0 ≡ Exit
unfolding obey
exit_obeyed s tokens name.Exit es e = refl
exit_obeyed s tokens _ es e = absurd (false≢true e)

exit_read : (s : StateValue) (tokens : List Lexeme) (r : Result (CommandName × Sexps) SyntaxFault) → ends_read r ≡ true → (obey_read s tokens r).0 ≡ Exit
exit_read s tokens (Ok c) e = exit_obeyed s tokens c.0 c.1 e
exit_read s tokens (Err f) e = absurd (false≢true e)

ends_answered : (s : StateValue) (r : Reading) → ends r ≡ true → (step s r).0 ≡ Exit
ends_answered s (Ok c) e = exit_read s c.tokens (read (group c.list)) e
ends_answered s (Err f) e = absurd (false≢true e)

-- what is answered so ends the run
pub ends_by_exit : (s : StateValue) (r : Reading) → ((step s r).0 ≡ Exit) ↔ (ends r ≡ true)
ends_by_exit s r = (known_as s r Exit, ends_answered s r)

-- a model is to be printed after `sat` alone
pub models_after_sat : (s : StateValue) (r : Reading) → (step s r).0 ≡ Model → (s.standing ≡ Some Sat) × (s.options.produce_models ≡ true)
models_after_sat s r h = known_as s r Model h

-- a core after `unsat`
pub cores_after_unsat : (s : StateValue) (r : Reading) → (step s r).0 ≡ Core → (s.standing ≡ Some Unsat) × (s.options.produce_unsat_cores ≡ true) × ((step s r).1 ≡ s)
cores_after_unsat s r h = known_as s r Core h

-- assumptions after `unsat` of a check that has some
pub assumptions_after_unsat : (s : StateValue) (r : Reading) → (step s r).0 ≡ Assumptions → (s.standing ≡ Some Unsat) × ((asked : List Asked) × (s.assumed ≡ Some asked)) × (s.options.produce_unsat_assumptions ≡ true) × ((step s r).1 ≡ s)
assumptions_after_unsat s r h = known_as s r Assumptions h

-- the terms behind those of before are forgotten
forgotten_back : (s : StateValue) (w : TermsValue) (asked : List Asked) → Grows s.symbols.signatures s.terms w → forgotten (valuing_by s asked w (Some Sat)).1 (length s.terms.nodes) ≡ s
forgotten_back s w asked grows =
    let back : cut_at w (length s.terms.nodes) ≡ s.terms = cut_back s.symbols.signatures s.terms w _ (length s.terms.nodes) grows refl refl in
    ap (λ (t : TermsValue). record { symbols = s.symbols; terms = t; scopes = s.scopes; options = s.options; standing = s.standing; assumed = s.assumed }) back

-- values after `sat`, of terms that are forgotten
pub values_after_sat : (s : StateValue) (r : Reading) (asked : List Asked) → IsState s → (step s r).0 ≡ Values asked → IsAskedValues s (step s r).1 asked
values_after_sat s r asked is h =
    let told = known_as s r (Values asked) h in
    let from = told.2 in
    let on = valued_is s.symbols s.terms from.2 from.0 from.1 asked is.terms is.bodies is.closed.bodies from.3 in
    rw from.4 (record {
      back = forgotten_back s from.2 asked on.0.grows;
      limit = on.0.grows.limit;
      standing = told.0;
      option = told.1;
      each = on.1;
    })
