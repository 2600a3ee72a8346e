-- What is assumed is a Bool over the live declarations, and so is what values are asked of, but for its sort.
use Rattle.std.proofs.Common.{◌≡◌, ℕ, ◌<◌, Bool, true, List, ◌++◌, length, length-append, ◌∙◌, arith, None, Ok}
use Rattle.std.specs.Prelude.{All, []}
use Rattle.smt_text.specs.Lexicon.{Lexeme}
use Rattle.smt_syntax.specs.Sexps.{Sexps}
use Rattle.smt_terms.specs.declared.node.Node.{Node}
use Rattle.smt_terms.specs.Same.{sort_same}
use Rattle.smt_terms.specs.Terms.{TermsValue, IsTermList}
use Rattle.smt_terms.proofs.Growing.{sort_longer}
use Rattle.smt_build.specs.declared.symbols.LiveName.{LiveName}
use Rattle.smt_build.specs.Names.{SymbolsValue, AreBodies}
use Rattle.smt_build.specs.Scoped.{is_over, AreOver}
use Rattle.smt_build.proofs.KeptTerms.{GoOn}
use Rattle.smt_build.proofs.Scoped.{over_longer}
use Rattle.script_state.specs.declared.answer.Asked.{Asked}
use Rattle.script_state.specs.States.{IsAsked, IsAssumption}
use Rattle.script_state.specs.Steps.{objection, no_objection, asking}
use Rattle.script_state.proofs.Asserting.{asserted_truth}
use Rattle.script_state.proofs.Asking.{Judges, may_ask, asked_is}

module _ (live : List LiveName) where
  asked_longer : (nodes more : List Node) (a : Asked) → IsAsked nodes live a → IsAsked (nodes ++ more) live a
  asked_longer nodes more a is = record {
    held = omega (arith, is.held, length-append nodes more);
    closed = over_longer live nodes more a.term is.held ∙ is.closed;
  }

  assumption_longer : (nodes more : List Node) (a : Asked) → IsAssumption nodes live a → IsAssumption (nodes ++ more) live a
  assumption_longer nodes more a is = record {
    held = omega (arith, is.held, length-append nodes more);
    truth = sort_longer nodes more a.term is.held ∙ is.truth;
    closed = over_longer live nodes more a.term is.held ∙ is.closed;
  }

  assumption_judged : (nodes : List Node) (t : ℕ) (text : List ℕ) → t < length nodes → is_over live nodes t ≡ true → objection nodes t ≡ None → IsAssumption nodes live (record { term = t; text = text })
  assumption_judged nodes t text lt over free = record { held = lt; truth = sort_same _ _ (asserted_truth nodes t free); closed = over }

  asked_judged : (nodes : List Node) (t : ℕ) (text : List ℕ) → t < length nodes → is_over live nodes t ≡ true → no_objection nodes t ≡ None → IsAsked nodes live (record { term = t; text = text })
  asked_judged nodes t text lt over free = record { held = lt; closed = over }

module _ (symbols : SymbolsValue) (terms new : TermsValue) (tokens : List Lexeme) (es : Sexps) (asked : List Asked) (list : IsTermList terms.nodes) (bodies : AreBodies (length terms.nodes) symbols.definitions) (over : AreOver symbols.live terms.nodes symbols.definitions) where
  pub assumed_is : asking objection symbols terms tokens [] es ≡ Ok (asked, new) → GoOn symbols.signatures terms new × All (IsAssumption new.nodes symbols.live) asked
  assumed_is e =
      let Is : List Node → Asked → Type 0 = λ nodes a. IsAssumption nodes symbols.live a in
      let judges : Judges symbols objection Is = record { longer = assumption_longer symbols.live; judged = assumption_judged symbols.live } in
      asked_is symbols objection Is judges terms new tokens es asked (may_ask symbols objection Is terms list bodies over) e

  pub valued_is : asking no_objection symbols terms tokens [] es ≡ Ok (asked, new) → GoOn symbols.signatures terms new × All (IsAsked new.nodes symbols.live) asked
  valued_is e =
      let Is : List Node → Asked → Type 0 = λ nodes a. IsAsked nodes symbols.live a in
      let judges : Judges symbols no_objection Is = record { longer = asked_longer symbols.live; judged = asked_judged symbols.live } in
      asked_is symbols no_objection Is judges terms new tokens es asked (may_ask symbols no_objection Is terms list bodies over) e
