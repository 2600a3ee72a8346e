-- What stands in a list that is a command's argument.
use Rattle.std.proofs.Common.{◌≡◌, ℕ, ◌+◌, ◌-◌, suc, false, Option, Some, None, List, [], ◌∷◌, ◌++◌, length, take, drop, sym, ap, subst, ◌∙◌, arith, length-append}
use Rattle.std.proofs.lemmas.List.{drop_min}
use Rattle.std.specs.Prelude.{min, is_some}
use Rattle.std.proofs.lemmas.List.{length-take, length-drop, take-take, drop-drop, drop-map}
use Rattle.std.proofs.Math.Seq.{take-append_seam}
use Rattle.smt_text.specs.Lexicon.{Lexeme, lexeme_of, lexemes_of}
use Rattle.smt_text.specs.declared.token.Token.{Token}
use Rattle.smt_syntax.specs.declared.span.Span.{Span}
use Rattle.smt_syntax.specs.Sexps.{Sign, open_paren, close_paren, Sexp, Sexps, atom, group, spellings, signs_in, signs_of}
use Rattle.smt_syntax.specs.Spans.{IsWithin, tokens_at, Stands, AllStand}
use Rattle.smt_build.specs.Naming.{IsWordOf}
use Rattle.smt_syntax.proofs.CommandReadings.{signs_same}
use Rattle.script_state.specs.Written.{listed}

between_is : (ds xs : List Sign) (n : ℕ) → n ≡ suc (suc (length xs)) → ◌≡◌ {A = List Sign} (take n ds) (open_paren ∷ (xs ++ close_paren ∷ [])) → take (length xs) (drop 1 ds) ≡ xs
between_is ds xs n e h = go ds (subst (λ m. ◌≡◌ {A = List Sign} (take m ds) (open_paren ∷ (xs ++ close_paren ∷ []))) e h) where
  go : (ds : List Sign) → ◌≡◌ {A = List Sign} (take (suc (suc (length xs))) ds) (open_paren ∷ (xs ++ close_paren ∷ [])) → take (length xs) (drop 1 ds) ≡ xs
  go [] h = absurd (let z : ⊥ = cc in z)
  go (d ∷ ds) h =
      let rest : take (suc (length xs)) ds ≡ xs ++ close_paren ∷ [] = cc in
      sym (take-take (length xs) (suc (length xs)) ds (omega arith)) ∙ ap (take (length xs)) rest ∙ take-append_seam xs (close_paren ∷ [])

abbrev pub inside : Span → Span
inside s = record { start = s.start + 1; end = s.end - 1 }

module _ (ts : List Sign) (s : Span) (es : Sexps) (stands : Stands ts s (group es)) where
  span_is : s.end - s.start ≡ suc (suc (length (spellings es)))
  span_is = grind (arith, ap length stands.spelled, length-take (s.end - s.start) (drop s.start ts), length-drop s.start ts, length-append (spellings es) (close_paren ∷ []), stands.within.ordered, stands.within.ends)

  pub inside_within : IsWithin ts (inside s)
  inside_within = record { ordered = omega (arith, span_is); ends = omega (arith, span_is, stands.within.ends) }

  pub inside_spelled : tokens_at ts (inside s) ≡ spellings es
  inside_spelled =
      let count : s.end - 1 - (s.start + 1) ≡ length (spellings es) = omega (arith, span_is) in
      rw (count, sym (drop-drop 1 s.start ts)) (between_is (drop s.start ts) (spellings es) (s.end - s.start) span_is stands.spelled)

-- the parts of a list stand at their spans
pub parts_stand : (items : List Token) (tokens : List Lexeme) (s : Span) (es : Sexps) (spans now : List Span) → lexemes_of items ≡ tokens → now ≡ spans → ((es : Sexps) → IsWithin (signs_in items) (inside s) → tokens_at (signs_in items) (inside s) ≡ spellings es → AllStand (signs_in items) spans es) → Stands (signs_of tokens) s (group es) → AllStand (signs_of tokens) now es
parts_stand items tokens s es spans now e f stand here =
    let same : signs_of tokens ≡ signs_in items = ap signs_of (sym e) ∙ signs_same items in
    let there : Stands (signs_in items) s (group es) = subst (λ ls. Stands ls s (group es)) same here in
    subst (λ ls. AllStand ls now es) (sym same) (subst (λ ss. AllStand (signs_in items) ss es) (sym f) (stand es (inside_within (signs_in items) s es there) (inside_spelled (signs_in items) s es there)))

-- they begin with the fourth token
pub listed_is : (items : List Token) (tokens : List Lexeme) (first : ℕ) → lexemes_of items ≡ tokens → first ≡ min (length items) 3 → lexemes_of (drop first items) ≡ listed tokens
listed_is items tokens first e f =
    let g : first ≡ min 3 (length items) = grind (arith, f) in
    rw (g, drop_min 3 items, sym e) (sym (drop-map lexeme_of 3 items))

-- what is no word is a list
pub group_of : (signs : List Sign) (s : Span) (some : (e : Sexp) × Stands signs s e) (o : Option Token) → IsWordOf some.0 o → is_some o ≡ false → (es : Sexps) × Stands signs s (group es)
group_of signs s (group es, stands) o is none = (es, stands)
group_of signs s (atom k x, stands) None is none = absurd is
group_of signs s (atom k x, stands) (Some t) is none = absurd (let z : ⊥ = cc in z)
