-- Words that are joined by marks, and split at them.
use Rattle.std.proofs.Common.{◌≡◌, ◌≢◌, ℕ, ◌<◌, Bool, true, false, not, cond, List, [], ◌∷◌, ◌++◌, length, refl, ap, ◌∙◌, arith, append-nil, eqb}
use Rattle.std.proofs.lemmas.Bool.{and_parts, eqb-true, eq-eqb, ne_eqb, not-true}
use Rattle.std.specs.List.{flat_map, list_all, AllByRecursion}
use Rattle.smt_text.specs.Lexicon.{is_digit}
use Rattle.proof_text.specs.Reading.{fields, longer}
use Rattle.proof_text.proofs.Splitting.{in_front, nothing_in_front, some_word}

-- the mark does not stand in the word
abbrev pub is_free : ℕ → List ℕ → Bool
is_free mark w = list_all (λ b. not (eqb b mark)) w

abbrev pub marked : ℕ → List (List ℕ) → List ℕ
marked mark words = flat_map (λ w. mark ∷ w) words

abbrev pub joined_by : ℕ → List (List ℕ) → List ℕ
joined_by mark [] = []
joined_by mark (w ∷ ws) = w ++ marked mark ws

in_front-one : (b : ℕ) (w : List ℕ) (ws : List (List ℕ)) → longer b (in_front w ws) ≡ in_front (b ∷ w) ws
in_front-one b w [] = refl
in_front-one b w (v ∷ vs) = refl

fields_word : (mark : ℕ) (w rest : List ℕ) → is_free mark w ≡ true → fields mark (w ++ rest) ≡ in_front w (fields mark rest)
unfolding fields
fields_word mark [] rest free = nothing_in_front (fields mark rest) (some_word mark rest)
fields_word mark (b ∷ w) rest free =
    let p = and_parts (not (eqb b mark)) (is_free mark w) free in
    let other : eqb b mark ≡ false = not-true (eqb b mark) p.0 in
    rw (other, fields_word mark w rest p.1) (in_front-one b w (fields mark rest))

-- what is joined splits into its words
pub fields_joined : (mark : ℕ) (w : List ℕ) (ws : List (List ℕ)) → AllByRecursion (λ x. is_free mark x ≡ true) (w ∷ ws) → fields mark (joined_by mark (w ∷ ws)) ≡ w ∷ ws
unfolding fields
fields_joined mark w [] free = fields_word mark w [] free.0 ∙ rw (append-nil w) refl
fields_joined mark w (v ∷ vs) free =
    let same : eqb mark mark ≡ true = eq-eqb mark mark refl in
    fields_word mark w (marked mark (v ∷ vs)) free.0 ∙ rw (same, fields_joined mark v vs free.1, append-nil w) refl

not_a_digit : (b mark : ℕ) → is_digit b ≡ true → is_digit mark ≡ false → b ≢ mark
not_a_digit b mark h k e =
    let same : is_digit b ≡ is_digit mark = ap is_digit e in
    let z : ⊥ = cc in z

joined_longer : (mark b : ℕ) (ws : List (List ℕ)) → joined_by mark (longer b ws) ≡ b ∷ joined_by mark ws
joined_longer mark b [] = refl
joined_longer mark b (w ∷ ws) = refl

joined_marked : (mark : ℕ) (ws : List (List ℕ)) → 0 < length ws → joined_by mark ([] ∷ ws) ≡ mark ∷ joined_by mark ws
joined_marked mark [] h = absurd (omega arith)
joined_marked mark (w ∷ ws) h = refl

joined_chosen : (q : Bool) (mark b : ℕ) (bs : List ℕ) → eqb b mark ≡ q → joined_by mark (fields mark bs) ≡ bs → joined_by mark (cond q ([] ∷ fields mark bs) (longer b (fields mark bs))) ≡ b ∷ bs
joined_chosen true mark b bs e h =
    let same : b ≡ mark = eqb-true b mark e in
    joined_marked mark (fields mark bs) (some_word mark bs) ∙ rw (h, same) refl
joined_chosen false mark b bs e h = joined_longer mark b (fields mark bs) ∙ rw h refl

-- the words of a text joined are the text
pub joined_fields : (mark : ℕ) (bs : List ℕ) → joined_by mark (fields mark bs) ≡ bs
unfolding fields
joined_fields mark [] = refl
joined_fields mark (b ∷ bs) = joined_chosen (eqb b mark) mark b bs refl (joined_fields mark bs)

-- digits have no mark that is none
pub digits_free : (mark : ℕ) (w : List ℕ) → is_digit mark ≡ false → list_all is_digit w ≡ true → is_free mark w ≡ true
digits_free mark [] other h = refl
digits_free mark (b ∷ w) other h =
    let p = and_parts (is_digit b) (list_all is_digit w) h in
    let unlike : eqb b mark ≡ false = ne_eqb b mark (not_a_digit b mark p.0 other) in
    rw (unlike, digits_free mark w other p.1) refl
