-- What a command asks for is held and over the live declarations, has nothing against it, and leaves the terms before.
use Rattle.std.proofs.Common.{◌≡◌, ℕ, ◌<◌, true, List, [], ◌∷◌, ◌++◌, length, refl, subst, Option, Some, None, Ok, Err}
use Rattle.std.specs.Prelude.{All}
use Rattle.std.proofs.lemmas.List.Elements.{All-nil, All-push}
use Rattle.smt_text.specs.Lexicon.{Lexeme}
use Rattle.smt_syntax.specs.Sexps.{Sexp, Sexps, none, more}
use Rattle.smt_syntax.specs.Walk.{◌>>=◌}
use Rattle.smt_terms.specs.declared.node.Node.{Node}
use Rattle.smt_terms.specs.Terms.{TermsValue, IsTermList}
use Rattle.smt_build.specs.Building.{Built}
use Rattle.smt_build.specs.Names.{SymbolsValue, AreBodies}
use Rattle.smt_build.specs.Scoped.{is_over, AreOver}
use Rattle.smt_build.specs.Terms.{term_of}
use Rattle.smt_build.proofs.Growth.{longer}
use Rattle.smt_build.proofs.KeptTerms.{GoOn, Follows, go_none, go_both}
use Rattle.smt_build.proofs.Longer.{term_longer, term_is_held}
use Rattle.smt_build.proofs.Scoped.{bodies_over_grows, term_is_over}
use Rattle.smt_build.proofs.Uses.{bodies_longer}
use Rattle.script_state.specs.declared.answer.Asked.{Asked}
use Rattle.script_state.specs.declared.error_text.ErrorText.{ErrorText}
use Rattle.script_state.specs.Written.{written, behind}
use Rattle.script_state.specs.Steps.{Asking, asking_unless, asking_built, asking}

module _ (symbols : SymbolsValue) (object : List Node → ℕ → Option ErrorText) (Is : List Node → Asked → Type 0) where
  -- what is asked for stays so as terms are made, and is so where nothing is against the term
  pub record Judges : Type 0 where
    pub longer : (nodes more : List Node) (a : Asked) → Is nodes a → Is (nodes ++ more) a
    pub judged : (nodes : List Node) (t : ℕ) (text : List ℕ) → t < length nodes → is_over symbols.live nodes t ≡ true → object nodes t ≡ None → Is nodes (record { term = t; text = text })

  -- where the terms are well sorted, and bodies are held and over the live declarations
  pub record MayAsk (terms : TermsValue) (found : List Asked) : Type 0 where
    pub list : IsTermList terms.nodes
    pub bodies : AreBodies (length terms.nodes) symbols.definitions
    pub over : AreOver symbols.live terms.nodes symbols.definitions
    pub all : All (Is terms.nodes) found

  abbrev Asks : TermsValue → Asking → Type 0
  Asks terms r = Follows (λ r. GoOn symbols.signatures terms r.1 × All (Is r.1.nodes) r.0) r

  asks_further : (u v : TermsValue) (r : Asking) → GoOn symbols.signatures u v → Asks v r → Asks u r
  asks_further u v (Ok r) p h = (go_both symbols.signatures u v r.1 p h.0, h.1)
  asks_further u v (Err e) p h = tt

  module _ (judges : Judges) where
    all_on : (u v : TermsValue) (found : List Asked) → GoOn symbols.signatures u v → All (Is u.nodes) found → All (Is v.nodes) found
    all_on u v found p h k d lt = rw p.grows.nodes (judges.longer u.nodes p.grows.behind _ (h k d lt))

    may_on : (terms new : TermsValue) (found : List Asked) (e : Sexp) (t : ℕ) (text : List ℕ) → MayAsk terms found → term_of symbols terms e ≡ Ok (t, new) → object new.nodes t ≡ None → MayAsk new (found ++ record { term = t; text = text } ∷ [])
    may_on terms new found e t text may is free =
        let on = term_longer symbols terms new e t may.bodies is in
        let here = judges.judged new.nodes t text (term_is_held symbols terms new e t may.bodies is) (term_is_over symbols terms new e t may.list may.bodies may.over is) free in
        record {
          list = on.list may.list;
          bodies = bodies_longer _ _ symbols.definitions (longer symbols.signatures terms new on.grows) may.bodies;
          over = bodies_over_grows symbols.signatures symbols.live terms new symbols.definitions on.grows may.bodies may.over;
          all = All-push (Is new.nodes) found (record { term = t; text = text }) (all_on terms new found on may.all) here;
        }

    asks : (terms : TermsValue) (tokens : List Lexeme) (found : List Asked) (es : Sexps) → MayAsk terms found → Asks terms (asking object symbols terms tokens found es)
    unfolding asking
    asks terms tokens found none may = (go_none symbols.signatures terms, may.all)
    asks terms tokens found (more e es) may = go (λ w fs further. asks w (behind tokens e) fs es further) (term_of symbols terms e) refl where
      judged : ((w : TermsValue) (fs : List Asked) → MayAsk w fs → Asks w (asking object symbols w (behind tokens e) fs es)) → (b : ℕ × TermsValue) → term_of symbols terms e ≡ Ok b → (o : Option ErrorText) → object b.1.nodes b.0 ≡ o → Asks terms (asking_unless o found (written tokens e) b.0 b.1 >>= λ r. asking object symbols r.1 (behind tokens e) r.0 es)
      judged ih b is (Some f) free = tt
      judged ih b is None free =
          asks_further terms b.1 _ (term_longer symbols terms b.1 e b.0 may.bodies is)
          (ih b.1 (found ++ record { term = b.0; text = written tokens e } ∷ []) (may_on terms b.1 found e b.0 (written tokens e) may is free))

      go : ((w : TermsValue) (fs : List Asked) → MayAsk w fs → Asks w (asking object symbols w (behind tokens e) fs es)) → (b : Built) → term_of symbols terms e ≡ b → Asks terms (asking_built object found (written tokens e) b >>= λ r. asking object symbols r.1 (behind tokens e) r.0 es)
      go ih (Ok b) is = judged ih b is (object b.1.nodes b.0) refl
      go ih (Err f) is = tt

    -- the terms go on, and each that is asked for is so
    pub asked_is : (terms new : TermsValue) (tokens : List Lexeme) (es : Sexps) (asked : List Asked) → MayAsk terms [] → asking object symbols terms tokens [] es ≡ Ok (asked, new) → GoOn symbols.signatures terms new × All (Is new.nodes) asked
    asked_is terms new tokens es asked may e = let P : Asking → Type 0 = Asks terms in subst P e (asks terms tokens [] es may)

  pub may_ask : (terms : TermsValue) → IsTermList terms.nodes → AreBodies (length terms.nodes) symbols.definitions → AreOver symbols.live terms.nodes symbols.definitions → MayAsk terms []
  may_ask terms list bodies over = record { list = list; bodies = bodies; over = over; all = All-nil (Is terms.nodes) }
