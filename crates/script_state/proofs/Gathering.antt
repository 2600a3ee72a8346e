-- Terms that a command asks for, as they are read one after the other.
use Rattle.std.proofs.Common.{◌≡◌, ℕ, ◌+◌, ◌-◌, ◌<◌, ◌≤◌, get_or, List, [], ◌∷◌, ◌++◌, length, take, drop, refl, sym, ap, subst, ◌∙◌, arith, Option, Result, Ok, Err}
use Rattle.std.proofs.lemmas.List.{drop_min}
use Rattle.std.specs.Prelude.{min}
use Rattle.std.proofs.lemmas.List.{length-take, length-drop, take_min, take-map, drop-map, drop_all, drop_more}
use Rattle.smt_text.specs.Lexicon.{Lexeme, lexeme_of, lexemes_of}
use Rattle.smt_text.specs.declared.token.Token.{Token}
use Rattle.smt_syntax.specs.declared.span.Span.{Span}
use Rattle.smt_syntax.specs.Sexps.{Sign, Sexp, Sexps, none, more, signs_of}
use Rattle.smt_syntax.specs.Spans.{Stands, AllStand}
use Rattle.smt_syntax.specs.Walk.{◌>>=◌}
use Rattle.smt_terms.specs.declared.node.Node.{Node}
use Rattle.smt_terms.specs.Terms.{TermsValue}
use Rattle.smt_build.specs.Building.{Grows}
use Rattle.smt_build.specs.Names.{SymbolsValue, AreBodies}
use Rattle.smt_build.specs.Terms.{term_of}
use Rattle.smt_build.proofs.Growth.{grows_both, longer}
use Rattle.smt_build.proofs.Uses.{bodies_longer}
use Rattle.script_state.specs.declared.answer.Asked.{Asked}
use Rattle.script_state.specs.declared.asked.Purpose.{Purpose}
use Rattle.script_state.specs.declared.asked.AskError.{AskError}
use Rattle.script_state.specs.declared.asked.AskError.TheVariants.{NoMemory, Refused}
use Rattle.script_state.specs.declared.error_text.ErrorText.{ErrorText}
use Rattle.script_state.specs.Written.{token_count, tokens_text, written, behind}
use Rattle.script_state.specs.Steps.{Asking, asking_built, asking}
use Rattle.script_state.specs.Asking.{object_to, AsksOne, Asks}

module _ (signs : List Sign) (s : Span) where
  -- a term is written in as many tokens as its span has
  count_is : (e : Sexp) → Stands signs s e → s.end - s.start ≡ token_count e
  count_is e stands = grind (arith, ap length stands.spelled, length-take (s.end - s.start) (drop s.start signs), length-drop s.start signs, stands.within.ordered, stands.within.ends)

  module _ (ts : List Token) (count : ℕ) (counted : count ≡ min (s.end - s.start) (length ts)) (e : Sexp) (stands : Stands signs s e) where
    text_is : tokens_text (lexemes_of (take count ts)) ≡ written (lexemes_of ts) e
    text_is = rw (counted, take_min (s.end - s.start) ts, count_is e stands, take-map lexeme_of (token_count e) ts) refl

    left_is : lexemes_of (drop count ts) ≡ behind (lexemes_of ts) e
    left_is = rw (counted, drop_min (s.end - s.start) ts, count_is e stands, drop-map lexeme_of (token_count e) ts) refl

module _ (object : List Node → ℕ → Option ErrorText) (symbols : SymbolsValue) (signs : List Sign) (first : TermsValue) (spans : List Span) (tokens : List Lexeme) where
  -- all that is asked for is what is asked for still, behind what was found
  abbrev pub AsksOn : TermsValue → List Span → List Lexeme → List Asked → Type 0
  AsksOn terms rest left found = (es : Sexps) → AllStand signs spans es → (fs : Sexps) × AllStand signs rest fs × (asking object symbols first tokens [] es ≡ asking object symbols terms left found fs)

  module _ (terms new : TermsValue) (s : Span) (rest : List Span) (ts : List Token) (found : List Asked) (r : Result ℕ AskError) (one : (e : Sexp) → Stands signs s e → (found : List Asked) (text : List ℕ) → AsksOne (asking_built object found text (term_of symbols terms e)) found text r new) where
    more_of : (t count : ℕ) (text : List ℕ) (fs : Sexps) → r ≡ Ok t → AllStand signs (s ∷ rest) fs → count ≡ min (s.end - s.start) (length ts) → text ≡ tokens_text (lexemes_of (take count ts)) → (gs : Sexps) × AllStand signs rest gs × (asking object symbols terms (lexemes_of ts) found fs ≡ asking object symbols new (lexemes_of (drop count ts)) (found ++ record { term = t; text = text } ∷ []) gs)
    unfolding asking
    more_of t count text none ok stand c w = absurd stand
    more_of t count text (more e es) ok stand c w =
        let here : asking_built object found (written (lexemes_of ts) e) (term_of symbols terms e) ≡ Ok (found ++ record { term = t; text = written (lexemes_of ts) e } ∷ [], new) = subst (λ r. AsksOne (asking_built object found (written (lexemes_of ts) e) (term_of symbols terms e)) found (written (lexemes_of ts) e) r new) ok (one e stand.0 found (written (lexemes_of ts) e)) in
        (es, stand.1, ap (λ (r : Asking). r >>= λ q. asking object symbols q.1 (behind (lexemes_of ts) e) q.0 es) here ∙ rw (w, text_is signs s ts count c e stand.0, left_is signs s ts count c e stand.0) refl)

    pub asks_more : (t count : ℕ) (text : List ℕ) → r ≡ Ok t → count ≡ min (s.end - s.start) (length ts) → text ≡ tokens_text (lexemes_of (take count ts)) → AsksOn terms (s ∷ rest) (lexemes_of ts) found → AsksOn new rest (lexemes_of (drop count ts)) (found ++ record { term = t; text = text } ∷ [])
    asks_more t count text ok c w on es stand =
        let so_far = on es stand in
        let next = more_of t count text so_far.0 ok so_far.1 c w in
        (next.0, next.1, so_far.2 ∙ next.2)

    fault_of : (x : AskError) (fs : Sexps) → r ≡ Err x → AllStand signs (s ∷ rest) fs → Asks (asking object symbols terms (lexemes_of ts) found fs) (Err x) new
    unfolding asking
    fault_of x none err stand = absurd stand
    fault_of NoMemory (more e es) err stand = tt
    fault_of (Refused y) (more e es) err stand =
        let here : asking_built object found (written (lexemes_of ts) e) (term_of symbols terms e) ≡ Err y = subst (λ r. AsksOne (asking_built object found (written (lexemes_of ts) e) (term_of symbols terms e)) found (written (lexemes_of ts) e) r new) err (one e stand.0 found (written (lexemes_of ts) e)) in
        ap (λ (r : Asking). r >>= λ q. asking object symbols q.1 (behind (lexemes_of ts) e) q.0 es) here

    pub asks_fault : (x : AskError) → r ≡ Err x → AsksOn terms (s ∷ rest) (lexemes_of ts) found → (es : Sexps) → AllStand signs spans es → Asks (asking object symbols first tokens [] es) (Err x) new
    asks_fault x err on es stand =
        let so_far = on es stand in
        subst (λ r. Asks r (Err x) new) (sym so_far.2) (fault_of x so_far.0 err so_far.1)

  done_of : (terms : TermsValue) (left : List Lexeme) (found : List Asked) (fs : Sexps) → AllStand signs [] fs → asking object symbols terms left found fs ≡ Ok (found, terms)
  unfolding asking
  done_of terms left found none stand = refl
  done_of terms left found (more e es) stand = absurd stand

  pub asks_done : (terms : TermsValue) (left : List Lexeme) (found : List Asked) → AsksOn terms [] left found → (es : Sexps) → AllStand signs spans es → Asks (asking object symbols first tokens [] es) (Ok found) terms
  asks_done terms left found on es stand = let so_far = on es stand in so_far.2 ∙ done_of terms left found so_far.0 so_far.1

  -- something stands at the next span
  pub next_stands : (terms : TermsValue) (s : Span) (rest : List Span) (left : List Lexeme) (found : List Asked) → (es : Sexps) × AllStand signs spans es → AsksOn terms (s ∷ rest) left found → (e : Sexp) × Stands signs s e
  next_stands terms s rest left found some on = let so_far = on some.0 some.1 in go so_far.0 so_far.1 where
    go : (fs : Sexps) → AllStand signs (s ∷ rest) fs → (e : Sexp) × Stands signs s e
    go none stand = absurd stand
    go (more e es) stand = (e, stand.0)

-- what the loop over the spans keeps
pub record Gathered (purpose : Purpose) (symbols : SymbolsValue) (tokens : List Lexeme) (first : TermsValue) (spans : List Span) (all : List Token) (terms : TermsValue) (rest : List Span) (left : List Token) (found : List Asked) : Type 0 where
  pub on : AsksOn (object_to purpose) symbols (signs_of tokens) first spans (lexemes_of all) terms rest (lexemes_of left) found
  pub grows : Grows symbols.signatures first terms

module _ (purpose : Purpose) (symbols : SymbolsValue) (tokens : List Lexeme) (first : TermsValue) (spans : List Span) (all : List Token) where
  module _ (terms : TermsValue) (left : List Token) (found : List Asked) (i : ℕ) (d : Span) (lt : i < length spans) (so_far : Gathered purpose symbols tokens first spans all terms (drop i spans) left found) where
    abbrev On : List Span → Type 0
    On rest = AsksOn (object_to purpose) symbols (signs_of tokens) first spans (lexemes_of all) terms rest (lexemes_of left) found

    on : On (get_or spans i d ∷ drop (i + 1) spans)
    on = subst On (drop_more spans i d lt) so_far.on

    -- something stands at the next span
    pub gathered_stands : (es : Sexps) × AllStand (signs_of tokens) spans es → (e : Sexp) × Stands (signs_of tokens) (get_or spans i d) e
    gathered_stands some = next_stands (object_to purpose) symbols (signs_of tokens) first spans (lexemes_of all) terms (get_or spans i d) (drop (i + 1) spans) (lexemes_of left) found some on

    module _ (new : TermsValue) (r : Result ℕ AskError) (one : (e : Sexp) → Stands (signs_of tokens) (get_or spans i d) e → (found : List Asked) (text : List ℕ) → AsksOne (asking_built (object_to purpose) found text (term_of symbols terms e)) found text r new) where
      -- a term that cannot be had
      pub gathered_fault : (x : AskError) → r ≡ Err x → (es : Sexps) → AllStand (signs_of tokens) spans es → Asks (asking (object_to purpose) symbols first (lexemes_of all) [] es) (Err x) new
      gathered_fault x err = asks_fault (object_to purpose) symbols (signs_of tokens) first spans (lexemes_of all) terms new (get_or spans i d) (drop (i + 1) spans) left found r one x err on

      -- a term more
      pub gathered_more : (t count : ℕ) (text : List ℕ) → r ≡ Ok t → count ≡ min ((get_or spans i d).end - (get_or spans i d).start) (length left) → text ≡ tokens_text (lexemes_of (take count left)) → Grows symbols.signatures terms new → Gathered purpose symbols tokens first spans all new (drop (i + 1) spans) (drop count left) (found ++ record { term = t; text = text } ∷ [])
      gathered_more t count text ok c w grows = record {
        on = asks_more (object_to purpose) symbols (signs_of tokens) first spans (lexemes_of all) terms new (get_or spans i d) (drop (i + 1) spans) left found r one t count text ok c w on;
        grows = grows_both symbols.signatures first terms new so_far.grows grows;
      }

  -- no span is left
  pub gathered_all : (terms : TermsValue) (left : List Token) (found : List Asked) (i : ℕ) → length spans ≤ i → Gathered purpose symbols tokens first spans all terms (drop i spans) left found → (es : Sexps) → AllStand (signs_of tokens) spans es → asking (object_to purpose) symbols first (lexemes_of all) [] es ≡ Ok (found, terms)
  gathered_all terms left found i le so_far =
      let P : List Span → Type 0 = λ rest. AsksOn (object_to purpose) symbols (signs_of tokens) first spans (lexemes_of all) terms rest (lexemes_of left) found in
      asks_done (object_to purpose) symbols (signs_of tokens) first spans (lexemes_of all) terms (lexemes_of left) found (subst P (drop_all i spans le) so_far.on)

  pub gathered_bodies : (terms : TermsValue) (rest : List Span) (left : List Token) (found : List Asked) → AreBodies (length first.nodes) symbols.definitions → Gathered purpose symbols tokens first spans all terms rest left found → AreBodies (length terms.nodes) symbols.definitions
  gathered_bodies terms rest left found bodies so_far = bodies_longer _ _ symbols.definitions (longer symbols.signatures first terms so_far.grows) bodies

-- as much as is left is as much as stands behind a place
pub left_length : (items : List Token) (place n : ℕ) → min n (length items - place) ≡ min n (length (drop place items))
left_length items place n = ap (min n) (sym (length-drop place items))
