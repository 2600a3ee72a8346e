-- A step leads from a state to a state, and keeps what was made.
use Rattle.std.proofs.Common.{◌≡◌, ℕ, List, [], ◌∷◌, ◌++◌, refl, sym, ap, ◌∙◌, subst, append-nil, Option, Some, None, Ok}
use Rattle.std.specs.Prelude.{slice_get}
use Rattle.smt_text.specs.declared.token.CommandName.{CommandName}
use Rattle.smt_text.specs.Lexicon.{Lexeme}
use Rattle.smt_syntax.specs.Sexps.{Sexp, Sexps}
use Rattle.smt_terms.specs.declared.sort.Signature.{Signature}
use Rattle.smt_terms.specs.declared.node.Node.{Node}
use Rattle.smt_terms.specs.Terms.{TermsValue, IsTermList}
use Rattle.scope_selectors.specs.Scopes.{ScopesValue, asserted, pushed, popped}
use Rattle.smt_build.specs.Building.{Grows}
use Rattle.smt_build.specs.Names.{SymbolsValue}
use Rattle.smt_build.specs.Declaring.{declare}
use Rattle.smt_build.specs.Defining.{define_sort, define}
use Rattle.smt_build.specs.Scoped.{AreOver}
use Rattle.smt_build.specs.Asserting.{assertion}
use Rattle.smt_build.proofs.Kept.{IsNext, define_adds}
use Rattle.smt_build.proofs.ScopedCommands.{define_is_over}
use Rattle.script_state.specs.declared.answer.Asked.{Asked}
use Rattle.script_state.specs.declared.answer.Verdict.TheVariants.{Sat}
use Rattle.script_state.specs.Readings.{Reading}
use Rattle.script_state.specs.States.{StateValue, RestValue, with_terms, IsState, Fit}
use Rattle.script_state.specs.Steps.{Step, declaring, naming_sort, defining, objection, asserting_unless, asking, assuming_by, no_objection, valuing_by, pushing_by, popping_by, step}
use Rattle.script_state.proofs.Declared.{declared_kept}
use Rattle.cnf_base.proofs.Lists.{slice_get-longer}
use Rattle.script_state.proofs.Defined.{sort_defined}
use Rattle.script_state.proofs.Marking.{plain_grows}
use Rattle.script_state.proofs.Leveling.{pushed_is, popped_is, popped_signatures, begun_state, ended_state, emptied_state}
use Rattle.script_state.proofs.Asserting.{opted_state, fallen_state, declared_state, named_state, defined_state, grown_state, asserted_state}
use Rattle.script_state.proofs.Naming.{assertion_is}
use Rattle.script_state.proofs.Judging.{assumed_is, valued_is}
use Rattle.script_state.proofs.Cases.{of_step}

-- the terms go on, and each declaration and each assertion keeps its number
pub record Keeps (old new : StateValue) : Type 0 where
  pub behind : List Node
  pub nodes : new.terms.nodes ≡ old.terms.nodes ++ behind
  pub signatures : (d : ℕ) (s : Signature) → slice_get old.symbols.signatures d ≡ Some s → slice_get new.symbols.signatures d ≡ Some s
  pub assertions : (a t : ℕ) → slice_get old.scopes.terms a ≡ Some t → slice_get new.scopes.terms a ≡ Some t

-- a state goes on from a state
pub record GoesOn (old new : StateValue) : Type 0 where
  pub state : IsState new
  pub keeps : Keeps old new

module _ (s : StateValue) (is : IsState s) where
  abbrev Goes : Step → Type 0
  Goes to = GoesOn s to.1

  same : Keeps s s
  same = record { behind = []; nodes = sym (append-nil s.terms.nodes); signatures = λ d r e. e; assertions = λ a t e. e }

  by_declaring : (n : CommandName) (es : Sexps) (d : ℕ) (w : SymbolsValue) → declare s.symbols n es ≡ Ok (d, w) → Goes (declaring s (Ok (d, w)))
  by_declaring n es d w e = record {
    state = declared_state s w n es d e is;
    keeps = record { behind = []; nodes = sym (append-nil s.terms.nodes); signatures = (declared_kept s.symbols w n es d s.terms.nodes is.sorts e).longer; assertions = λ a t e. e };
  }

  by_naming : (n : CommandName) (es : Sexps) (w : SymbolsValue) → define_sort s.symbols n es ≡ Ok w → Goes (naming_sort s (Ok w))
  by_naming n es w e =
      let one = sort_defined s.symbols w n es is.sorts e in
      record {
        state = named_state s w n es e is;
        keeps = record {
          behind = [];
          nodes = sym (append-nil s.terms.nodes);
          signatures = λ d r h. subst (λ (u : SymbolsValue). slice_get u.signatures d ≡ Some r) (sym one.3) h;
          assertions = λ a t h. h;
        };
      }

  pub defined_goes_on : (n : CommandName) (es : Sexps) (w : SymbolsValue) (terms : TermsValue) → define s.symbols s.terms n es ≡ Ok (w, terms) → Goes (defining s (Ok (w, terms)))
  defined_goes_on n es w terms e =
      let one : IsNext s.symbols w s.terms terms = define_adds s.symbols s.terms is.bodies w terms n es e in
      let over = subst (λ (u : SymbolsValue). AreOver u.live terms.nodes u.definitions) one.symbols (define_is_over s.symbols w s.terms terms n es is.terms is.bodies is.closed.bodies e) in
      let grown = grown_state s terms one.terms.grows is (one.terms.list is.terms) in
      subst (λ (u : SymbolsValue). Goes (defining s (Ok (u, terms)))) (sym one.symbols)
      (record {
        state = defined_state s terms one.name _ grown one.held over;
        keeps = record { behind = one.terms.grows.behind; nodes = one.terms.grows.nodes; signatures = λ d r h. h; assertions = λ a u h. h };
      })

  pub asserted_goes_on : (name : Option (List ℕ)) (x : Sexp) (t : ℕ) (v : SymbolsValue) (w : TermsValue) → assertion s.symbols s.terms x ≡ Ok (t, v, w) → objection w.nodes t ≡ None → Goes (asserting_unless None s name t v w)
  asserted_goes_on name x t v w e plain =
      let one = assertion_is s.symbols v s.terms w x t is.terms is.bodies is.closed.bodies e in
      let grown = grown_state s w one.on.grows is (one.on.list is.terms) in
      subst (λ (u : SymbolsValue). Goes (asserting_unless None s name t u w)) (sym one.symbols)
      (record {
        state = asserted_state (record { symbols = s.symbols; terms = w; scopes = s.scopes; options = s.options; standing = s.standing; assumed = s.assumed }) one.more t name (asserted s.scopes t name) grown one.bodies one.over one.held one.here plain refl;
        keeps = record { behind = one.on.grows.behind; nodes = one.on.grows.nodes; signatures = λ d r e. e; assertions = λ a u e. slice_get-longer s.scopes.terms (t ∷ []) a u e };
      })

  -- more terms, that are asked for
  abbrev with_asked : TermsValue → StateValue
  with_asked w = record { symbols = s.symbols; terms = w; scopes = s.scopes; options = s.options; standing = s.standing; assumed = s.assumed }

  pub assumed_goes_on : (tokens : List Lexeme) (es : Sexps) (asked : List Asked) (w : TermsValue) → asking objection s.symbols s.terms tokens [] es ≡ Ok (asked, w) → Goes (assuming_by s (Ok (asked, w)))
  assumed_goes_on tokens es asked w e =
      let on = assumed_is s.symbols s.terms w tokens es asked is.terms is.bodies is.closed.bodies e in
      record {
        state = opted_state (with_asked w) s.options None (Some asked) (grown_state s w on.0.grows is (on.0.list is.terms)) on.1;
        keeps = record { behind = on.0.grows.behind; nodes = on.0.grows.nodes; signatures = λ d r e. e; assertions = λ a t e. e };
      }

  pub valued_goes_on : (tokens : List Lexeme) (es : Sexps) (asked : List Asked) (w : TermsValue) → asking no_objection s.symbols s.terms tokens [] es ≡ Ok (asked, w) → Goes (valuing_by s asked w (Some Sat))
  valued_goes_on tokens es asked w e =
      let on = valued_is s.symbols s.terms w tokens es asked is.terms is.bodies is.closed.bodies e in
      record {
        state = grown_state s w on.0.grows is (on.0.list is.terms);
        keeps = record { behind = on.0.grows.behind; nodes = on.0.grows.nodes; signatures = λ d r e. e; assertions = λ a t e. e };
      }

  -- no term, no declaration and no assertion goes
  goes_same : (to : StateValue) → IsState to → to.terms ≡ s.terms → to.symbols.signatures ≡ s.symbols.signatures → to.scopes.terms ≡ s.scopes.terms → GoesOn s to
  goes_same to state terms signatures assertions = record {
    state = state;
    keeps = record {
      behind = [];
      nodes = ap (λ (t : TermsValue). t.nodes) terms ∙ sym (append-nil s.terms.nodes);
      signatures = λ d r e. rw signatures e;
      assertions = λ a t e. rw assertions e;
    };
  }

  by_pushing : (n : ℕ) (v : ScopesValue) → pushed s.scopes n ≡ Ok v → Goes (pushing_by s n (Ok v))
  by_pushing n v e = goes_same _ (begun_state s n v is s.options None e) refl refl (ap (λ (u : ScopesValue). u.terms) (pushed_is s.scopes v n e).1)

  by_popping : (n : ℕ) (v : ScopesValue) → popped s.scopes n ≡ Ok v → Goes (popping_by s n (Ok v))
  by_popping n v e = goes_same _ (ended_state s n v is s.options None e) refl (popped_signatures s.symbols n) (ap (λ (u : ScopesValue). u.terms) (popped_is s.scopes v n e).1)

  pub step_goes_on : (r : Reading) → GoesOn s (step s r).1
  step_goes_on r = of_step s Goes (record {
    refused = λ e. record { state = is; keeps = same };
    kept = record { state = is; keeps = same };
    checked = λ fit. goes_same _ (fallen_state s is) refl refl refl;
    declared = by_declaring;
    named = by_naming;
    defined = defined_goes_on;
    asserted = asserted_goes_on;
    assumed = λ tokens es asked w e fit. assumed_goes_on tokens es asked w e;
    said = λ x. record { state = is; keeps = same };
    set = λ o. goes_same _ (opted_state s o s.standing s.assumed is is.assumed) refl refl refl;
    begun = by_pushing;
    ended = by_popping;
    emptied = λ o. goes_same _ (emptied_state s o is) refl refl refl;
    modelled = λ a b. record { state = is; keeps = same };
    valued = λ tokens es asked w e a b. valued_goes_on tokens es asked w e;
    refuted = λ a b. record { state = is; keeps = same };
    refuted_assumed = λ asked a b c. record { state = is; keeps = same };
  }) r (λ e. record { state = is; keeps = same })

pub step_state : (s : StateValue) (r : Reading) → IsState s → IsState (step s r).1
step_state s r is = (step_goes_on s is r).state

pub fit_more : (old new : TermsValue) (r : RestValue) → Grows r.symbols.signatures old new → IsTermList new.nodes → Fit old r → Fit new r
fit_more old new r grows list fit = record {
  state = grown_state (with_terms r old) new grows fit.state list;
  marks = plain_grows r.symbols.signatures old new r.marks grows fit.marks;
}
