-- A line that is written word by word.
use Rattle.std.proofs.Common.{◌≡◌, ℕ, ◌+◌, ◌<◌, ◌≤◌, List, [], ◌∷◌, ◌++◌, length, take, get_or, sym, ap, ◌∙◌, arith, append_assoc, append-nil}
use Rattle.std.specs.Prelude.{codes, map, Result, Ok, Err, OnOk}
use Rattle.std.specs.Fmt.{decimal}
use Rattle.std.proofs.lemmas.Fmt.{decimal_digit}
use Rattle.std.proofs.lemmas.List.{map-append, take_all}
use Rattle.std.proofs.lemmas.List.Concat.{flat_map-append}
use Rattle.cnf_base.specs.Literals.{Literal}
use Rattle.cnf_base.specs.declared.clause.ClauseId.{ClauseId}
use Rattle.cnf_base.proofs.Rows.{take_at}
use Rattle.dimacs_front.specs.declared.number.Number.{Number}
use Rattle.dimacs_search.specs.Writing.{number_in, hint_in, number_text, spaced, ended, added_line, added_text}

-- behind the number these words were written
abbrev pub AreWritten : List ℕ → ℕ → List (List ℕ) → List ℕ → Type 0
AreWritten out n ws now = now ≡ out ++ (decimal n ++ spaced ws)

pub none_written : (out now : List ℕ) (n : ℕ) → now ≡ out ++ decimal n → AreWritten out n [] now
none_written out now n e = e ∙ ap (λ x. out ++ x) (sym (append-nil (decimal n)))

pub word_written : (out now new : List ℕ) (n : ℕ) (ws : List (List ℕ)) (w : List ℕ) → AreWritten out n ws now → new ≡ now ++ 32 ∷ w → AreWritten out n (ws ++ w ∷ []) new
word_written out now new n ws w e f =
    let more : spaced (ws ++ w ∷ []) ≡ spaced ws ++ 32 ∷ w = flat_map-append (λ (v : List ℕ). 32 ∷ v) ws (w ∷ []) ∙ ap (λ x. spaced ws ++ x) (append-nil (32 ∷ w)) in
    f ∙ ap (λ x. x ++ 32 ∷ w) e ∙ append_assoc out (decimal n ++ spaced ws) (32 ∷ w) ∙ ap (λ x. out ++ x) (append_assoc (decimal n) (spaced ws) (32 ∷ w) ∙ ap (λ x. decimal n ++ x) (sym more))

-- one number more of a row
pub row_written : {A : Type 0} (f : A → Number) (out now new : List ℕ) (n : ℕ) (front : List (List ℕ)) (xs : List A) (i : ℕ) (x : A) → i < length xs → x ≡ get_or xs i x
    → AreWritten out n (front ++ map number_text (map f (take i xs))) now → new ≡ now ++ 32 ∷ number_text (f x) → AreWritten out n (front ++ map number_text (map f (take (i + 1) xs))) new
row_written f out now new n front xs i x h e w k =
    let row : map number_text (map f (take (i + 1) xs)) ≡ map number_text (map f (take i xs)) ++ number_text (f x) ∷ [] =
    ap (λ ys. map number_text (map f ys)) (take_at xs i x h e) ∙ ap (map number_text) (map-append f (take i xs) (x ∷ [])) ∙ map-append number_text (map f (take i xs)) (f x ∷ []) in
    let all : front ++ map number_text (map f (take (i + 1) xs)) ≡ (front ++ map number_text (map f (take i xs))) ++ number_text (f x) ∷ [] =
    ap (λ ys. front ++ ys) row ∙ sym (append_assoc front (map number_text (map f (take i xs))) (number_text (f x) ∷ [])) in
    word_written out now new n (front ++ map number_text (map f (take i xs))) (number_text (f x)) w k ∙ ap (λ ys. out ++ (decimal n ++ spaced ys)) (sym all)

-- a row to its end, and 0 behind it
pub row_ended : {A : Type 0} (f : A → Number) (out now new : List ℕ) (n : ℕ) (front : List (List ℕ)) (xs : List A) (i : ℕ) → length xs ≤ i
    → AreWritten out n (front ++ map number_text (map f (take i xs))) now → new ≡ now ++ 32 ∷ decimal 0 → AreWritten out n (front ++ ended (map f xs)) new
row_ended f out now new n front xs i h w k =
    let all : take i xs ≡ xs = take_all i xs h in
    let zero : decimal 0 ≡ codes "0" = decimal_digit 0 (omega arith) in
    word_written out now new n (front ++ map number_text (map f (take i xs))) (decimal 0) w k
    ∙ ap (λ ys. out ++ (decimal n ++ spaced ((front ++ map number_text (map f ys)) ++ decimal 0 ∷ []))) all
    ∙ ap (λ z. out ++ (decimal n ++ spaced ((front ++ map number_text (map f xs)) ++ z ∷ []))) zero
    ∙ ap (λ ys. out ++ (decimal n ++ spaced ys)) (append_assoc front (map number_text (map f xs)) (codes "0" ∷ []))

pub line_written : (out now new : List ℕ) (n : ℕ) (c : List Literal) (is : List ClauseId) → AreWritten out n (ended (map number_in c) ++ ended (map hint_in is)) now → new ≡ now ++ 10 ∷ [] → new ≡ out ++ added_text n c is
line_written out now new n c is w k = k ∙ ap (λ x. x ++ 10 ∷ []) w ∙ append_assoc out (added_line n (map number_in c) (map hint_in is)) (10 ∷ [])

pub ok_more : {A E : Type 0} (r : Result A E) (P Q : Type 0) → (P → Q) → OnOk r P → OnOk r Q
ok_more (Ok x) P Q f h = f h
ok_more (Err e) P Q f h = tt

pub ok_always : {A E : Type 0} (r : Result A E) (Q : Type 0) → Q → OnOk r Q
ok_always (Ok x) Q h = h
ok_always (Err e) Q h = tt
