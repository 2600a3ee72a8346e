-- What is asked for is assumed where what a check of it makes before all else can be made.
use Rattle.std.proofs.Common.{◌≡◌, ◌<◌, Bool, true, false, List, [], length, ap, ◌∙◌, Ok, Err}
use Rattle.std.specs.Prelude.{All, if◌then◌else◌}
use Rattle.smt_text.specs.Lexicon.{Lexeme}
use Rattle.smt_syntax.specs.Sexps.{Sexps}
use Rattle.smt_terms.specs.Terms.{TermsValue}
use Rattle.scope_selectors.specs.declared.live.Live.{Live}
use Rattle.scope_selectors.specs.Scopes.{ScopesValue}
use Rattle.smt_build.specs.Names.{SymbolsValue}
use Rattle.script_state.specs.declared.answer.Asked.{Asked}
use Rattle.script_state.specs.declared.asked.AskError.{AskError}
use Rattle.script_state.specs.declared.asked.AskError.TheVariants.{NoMemory, Refused}
use Rattle.script_state.specs.declared.error_text.ErrorText.TheVariants.{TooManyTerms}
use Rattle.script_state.specs.States.{StateValue, roots_of, watches_fit, IsState}
use Rattle.script_state.specs.Steps.{Asking, objection, asking, watching, assuming_by}
use Rattle.script_state.specs.Asking.{AreOf, Asks}
use Rattle.script_state.proofs.Keeping.{assumed_goes_on}
use Rattle.script_state.proofs.Roots.{all_held}

module _ (live : List Live) where
  abbrev if_fit : Bool → List Asked × TermsValue → Asking
  if_fit b q = if b then Ok q else Err TooManyTerms

  module _ (r : Asking) (new : TermsValue) where
    pub watching_fault : (x : AskError) → Asks r (Err x) new → Asks (watching live r) (Err x) new
    watching_fault NoMemory h = tt
    watching_fault (Refused e) h = ap (watching live) h

    pub watching_fit : (asked : List Asked) → Asks r (Ok asked) new → watches_fit new (roots_of live asked) ≡ true → Asks (watching live r) (Ok asked) new
    watching_fit asked h fit = ap (watching live) h ∙ ap (λ b. if_fit b (asked, new)) fit

    pub watching_over : (asked : List Asked) → Asks r (Ok asked) new → watches_fit new (roots_of live asked) ≡ false → Asks (watching live r) (Err (Refused TooManyTerms)) new
    watching_over asked h fit = ap (watching live) h ∙ ap (λ b. if_fit b (asked, new)) fit

  -- what is assumed was asked for
  pub watching_ok : (r : Asking) (q : List Asked × TermsValue) → watching live r ≡ Ok q → r ≡ Ok q
  watching_ok (Ok p) q e = go (watches_fit p.1 (roots_of live p.0)) e where
    go : (b : Bool) → if_fit b p ≡ Ok q → (let r : Asking = Ok p in r) ≡ Ok q
    go true e = e
    go false e = let f : ⊥ = cc in absurd f
  watching_ok (Err f) q e = let f : ⊥ = cc in absurd f

-- what is asked for may be assumed with what is asserted
module _ (s : StateValue) (is : IsState s) (symbols : SymbolsValue) (scopes : ScopesValue) (terms w : TermsValue) (of : AreOf s symbols scopes terms) (tokens : List Lexeme) (es : Sexps) (asked : List Asked) (e : asking objection symbols terms tokens [] es ≡ Ok (asked, w)) where
  assumed_state : IsState (assuming_by s (Ok (asked, w))).1
  assumed_state = (assumed_goes_on s is tokens es asked w (rw (of.same_symbols, of.same_terms) at e)).state

  pub assumed_held : All (λ t. t < length w.nodes) (roots_of scopes.live asked)
  assumed_held = rw of.same_scopes (all_held _ assumed_state)
