-- A line is read exactly: as the one that is printed so, if there is one.
use Rattle.std.proofs.Common.{◌≡◌, ℕ, ◌<◌, true, List, [], ◌∷◌, ◌++◌, length, refl, sym, ap, ◌∙◌, arith, Option, Some, None}
use Rattle.std.proofs.lemmas.List.{append_cancel_right}
use Rattle.proof_text.specs.Held.{without_feed}
use Rattle.proof_text.specs.declared.line.Line.{Line}
use Rattle.proof_text.specs.declared.line.Line.TheVariants as line
use Rattle.proof_text.specs.Lines.{joined, words_of, line_text, IsLine}
use Rattle.proof_text.specs.Reading.{fields, line_of}
use Rattle.proof_text.proofs.Fields.{joined_by, fields_joined, joined_fields}
use Rattle.proof_text.proofs.LineWords.{words_read, words_say}
use Rattle.proof_text.proofs.Clear.{AreClear, all_free, joined_free, words_clear}

joined_is : (ws : List (List ℕ)) → joined ws ≡ joined_by 32 ws
joined_is [] = refl
joined_is (w ∷ ws) = refl

pub line_says : (text : List ℕ) (l : Line) → line_of (fields 32 text) ≡ Some l → IsLine l × (text ≡ joined (words_of l))
line_says text l e =
    let s = words_say (fields 32 text) l e in
    (s.fits, sym (joined_fields 32 text) ∙ ap (joined_by 32) s.words ∙ sym (joined_is (words_of l)))

-- ---- what is printed is read

joined_split : (ws : List (List ℕ)) → 0 < length ws → AreClear ws → fields 32 (joined ws) ≡ ws
joined_split [] some h = absurd (omega arith)
joined_split (w ∷ ws) some h = fields_joined 32 w ws (all_free 32 (w ∷ ws) (omega arith) h)

some_words : (l : Line) → 0 < length (words_of l)
some_words (line.Header f c b) = omega arith
some_words (line.Term head args) = omega arith
some_words (line.Leaf n) = omega arith
some_words (line.Encode n) = omega arith
some_words (line.Rewrite r t u) = omega arith
some_words (line.Selector n) = omega arith
some_words (line.Chain clause hints) = omega arith
some_words (line.Equal t u) = omega arith
some_words (line.Congruence t u) = omega arith
some_words (line.Witness t) = omega arith
some_words (line.Accesses a b) = omega arith
some_words (line.Delete ps) = omega arith
some_words (line.Sat n) = omega arith
some_words (line.Value d v) = omega arith
some_words (line.Unsat n) = omega arith
some_words (line.Unknown n g c) = omega arith
some_words (line.Take n) = omega arith
some_words (line.Put n) = omega arith
some_words (line.Drop n) = omega arith

pub line_reads : (l : Line) → IsLine l → line_of (fields 32 (joined (words_of l))) ≡ Some l
line_reads l h = rw (joined_split (words_of l) (some_words l) (words_clear l h)) (words_read l h)

-- a printed line has one line feed, at its end
pub line_free : (l : Line) → IsLine l → without_feed (joined (words_of l)) ≡ true
line_free l h = joined_free (words_of l) (words_clear l h)

-- no two lines are printed alike
pub line_once : (k l : Line) → IsLine k → IsLine l → line_text k ≡ line_text l → k ≡ l
line_once k l h i e =
    let same : joined (words_of k) ≡ joined (words_of l) = append_cancel_right (joined (words_of k)) (joined (words_of l)) (10 ∷ []) e in
    let both_read : ◌≡◌ {A = Option Line} (Some k) (Some l) = sym (line_reads k h) ∙ ap (λ t. line_of (fields 32 t)) same ∙ line_reads l i in
    cc

-- ---- what a reader answers

pub answer_line : (text : List ℕ) (l : Line) → line_of (fields 32 text) ≡ Some l → IsLine l × (text ++ 10 ∷ [] ≡ line_text l)
answer_line text l e = let s = line_says text l e in (s.0, ap (λ t. t ++ 10 ∷ []) s.1)

pub answer_none : (text : List ℕ) → line_of (fields 32 text) ≡ None → (l : Line) → IsLine l → text ++ 10 ∷ [] ≡ line_text l → ⊥
answer_none text e l h k =
    let same : text ≡ joined (words_of l) = append_cancel_right text (joined (words_of l)) (10 ∷ []) k in
    let read : line_of (fields 32 text) ≡ Some l = ap (λ t. line_of (fields 32 t)) same ∙ line_reads l h in
    let z : ⊥ = cc in z
