-- What is told of clauses that were searched.
use Rattle.std.proofs.Common.{◌≡◌, ℕ, ◌+◌, ◌<◌, Bool, List, [], ◌∷◌, ◌++◌, length, take, drop, get_or, Option, Some, None, Ok, Err, sym, ap, ◌∙◌, arith, append_assoc, append-nil, take-append-drop}
use Rattle.std.specs.Io.KnownBytes.{Appends}
use Rattle.std.proofs.lemmas.List.{length-take-le, take_more}
use Rattle.dimacs_run.specs.declared.failure.SearchFailure.TheVariants.{Answers}
use Rattle.dimacs_run.specs.declared.finding.Finding.{Finding}
use Rattle.dimacs_run.specs.Findings.{IsFound, Answered, WroteOf, value_word, value_words, finding_text}

-- ---- the words of values

pub no_words : (out : List ℕ) → out ≡ out ++ value_words 1 []
unfolding value_words
no_words out = sym (append-nil out)

-- one value more
words_more : (x : ℕ) (values : List Bool) (value : Bool) → value_words x (values ++ value ∷ []) ≡ value_words x values ++ (32 ∷ value_word (x + length values) value)
unfolding value_words
words_more x [] value = append-nil (32 ∷ value_word x value) ∙ ap (λ n. 32 ∷ value_word n value) (omega arith)
words_more x (v ∷ vs) value =
    ap (λ ws. (32 ∷ value_word x v) ++ ws) (words_more (x + 1) vs value)
    ∙ sym (append_assoc (32 ∷ value_word x v) (value_words (x + 1) vs) (32 ∷ value_word ((x + 1) + length vs) value))
    ∙ ap (λ n. ((32 ∷ value_word x v) ++ value_words (x + 1) vs) ++ (32 ∷ value_word n value)) (omega arith)

pub value_pushed : (out now new : List ℕ) (values : List Bool) (i : ℕ) (value default : Bool) → i < length values → value ≡ get_or values i default → now ≡ out ++ value_words 1 (take i values)
    → new ≡ now ++ 32 ∷ value_word (i + 1) value → new ≡ out ++ value_words 1 (take (i + 1) values)
value_pushed out now new values i value default h e w k =
    let size : length (take i values) ≡ i = length-take-le i values (omega (arith, h)) in
    let next : 1 + length (take i values) ≡ i + 1 = omega (arith, size) in
    let more : value_words 1 (take (i + 1) values) ≡ value_words 1 (take i values) ++ (32 ∷ value_word (i + 1) value) =
    ap (value_words 1) (take_more values i default h ∙ ap (λ v. take i values ++ v ∷ []) (sym e)) ∙ words_more 1 (take i values) value ∙ ap (λ n. value_words 1 (take i values) ++ (32 ∷ value_word n value)) next in
    k ∙ ap (λ z. z ++ (32 ∷ value_word (i + 1) value)) w ∙ append_assoc out (value_words 1 (take i values)) (32 ∷ value_word (i + 1) value) ∙ ap (λ z. out ++ z) (sym more)

-- ---- the answer

module _ (s p p' a a' : Option (List ℕ)) (x : Finding) where
  pub all_told : (text : List ℕ) → text ≡ finding_text x → WroteOf s p p' (IsFound x) → Appends a a' text → Answered s p p' a a' (Ok x)
  all_told text e f w = go s f
    where
      go : (s : Option (List ℕ)) → WroteOf s p p' (IsFound x) → Answered s p p' a a' (Ok x)
      go None f = (text, w, tt)
      go (Some t) f = (text, w, (f.0, f.1, record { found = f.2; told = e }))

  pub front_told : (text : List ℕ) (n : ℕ) → text ≡ finding_text x → WroteOf s p p' (IsFound x) → Appends a a' (take n text) → Answered s p p' a a' (Err Answers)
  front_told text n e f w = go s f
    where
      go : (s : Option (List ℕ)) → WroteOf s p p' (IsFound x) → Answered s p p' a a' (Err Answers)
      go None f = (take n text, w, tt)
      go (Some t) f = (take n text, w, (f.0, f.1, record { finding = x; found = f.2; rest = drop n text; told = sym e ∙ sym (take-append-drop n text) }))
