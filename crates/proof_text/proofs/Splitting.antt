-- Words of a line, and what was read so far before what is left.
use Rattle.std.proofs.Common.{◌≡◌, ◌≢◌, ℕ, suc, ◌+◌, ◌-◌, ◌*◌, ◌<◌, ◌≤◌, Bool, true, false, cond, List, [], ◌∷◌, ◌++◌, length, take, drop, get_or, refl, sym, ap, subst, ◌∙◌, arith, append_assoc, append-nil, eqb, le-ltb, lt-ltb, drop-cons, add-one, Option, Some, None}
use Rattle.std.proofs.lemmas.Bool.{eq-eqb, ne_eqb}
use Rattle.std.proofs.lemmas.List.{take_more, drop_all}
use Rattle.smt_text.specs.Lexicon.{is_digit}
use Rattle.proof_text.specs.Reading.{fields, behind, longer, ◌>>=◌, each_of, literals_at, literal_of, moves_at, move_of, entries_of, entry_of, more_digits, look_up, indexed_names, indexed_at, indexed_head_at, head_at}
use Rattle.proof_text.specs.Operators.{operator_names}
use Rattle.proof_text.specs.declared.keyword.Indexed.{Indexed}
use Rattle.std.specs.Prelude.{nat_lt}
use Rattle.std.specs.Str.{bytes_eq}
use Rattle.proof_text.specs.declared.list.WrittenLiteral.{WrittenLiteral}
use Rattle.proof_text.specs.declared.list.WrittenMove.{WrittenMove}
use Rattle.proof_text.specs.declared.list.WrittenEntry.{WrittenEntry}

-- the first word is longer by these bytes
abbrev pub in_front : List ℕ → List (List ℕ) → List (List ℕ)
in_front bytes [] = bytes ∷ []
in_front bytes (w ∷ ws) = (bytes ++ w) ∷ ws

-- what was read before
abbrev pub with_front : {A : Type 0} → List A → Option (List A) → Option (List A)
with_front front o = o >>= λ rest. Some (front ++ rest)

abbrev pub with_front_and : {A B : Type 0} → List A → Option (List A × B) → Option (List A × B)
with_front_and front o = o >>= λ r. Some (front ++ r.0, r.1)

in_front-longer : (front : List ℕ) (b : ℕ) (ws : List (List ℕ)) → in_front front (longer b ws) ≡ in_front (front ++ b ∷ []) ws
in_front-longer front b [] = refl
in_front-longer front b (w ∷ ws) = ap (λ x. x ∷ ws) (sym (append_assoc front (b ∷ []) w))

-- there is always a word
pub some_word : (mark : ℕ) (bytes : List ℕ) → 0 < length (fields mark bytes)
unfolding fields
some_word mark [] = omega arith
some_word mark (b ∷ bs) = chosen (eqb b mark) (fields mark bs)
  where
    longer_some : (b : ℕ) (ws : List (List ℕ)) → 0 < length (longer b ws)
    longer_some b [] = omega arith
    longer_some b (w ∷ ws) = omega arith

    chosen : (q : Bool) (ws : List (List ℕ)) → 0 < length (cond q ([] ∷ ws) (longer b ws))
    chosen true ws = omega arith
    chosen false ws = longer_some b ws

-- nothing in front of the first word
pub nothing_in_front : (ws : List (List ℕ)) → 0 < length ws → ws ≡ in_front [] ws
nothing_in_front [] h = absurd (omega arith)
nothing_in_front (w ∷ ws) h = refl

-- a byte that is no mark belongs to the word
pub word_goes_on : (mark : ℕ) (bytes : List ℕ) (n : ℕ) → n < length bytes → get_or bytes n 0 ≢ mark
    → fields mark bytes ≡ in_front (take n bytes) (fields mark (drop n bytes))
    → fields mark bytes ≡ in_front (take (n + 1) bytes) (fields mark (drop (n + 1) bytes))
unfolding fields
word_goes_on mark bytes n h k e =
    let b = get_or bytes n 0 in
    let other : eqb b mark ≡ false = ne_eqb b mark k in
    let step : fields mark (drop n bytes) ≡ longer b (fields mark (drop (suc n) bytes)) = rw (drop-cons bytes n 0 h, other) refl in
    e ∙ rw (step, take_more bytes n 0 h, add-one) (in_front-longer (take n bytes) b (fields mark (drop (suc n) bytes)))

-- a mark ends the word
pub word_ends : (mark : ℕ) (bytes : List ℕ) (n : ℕ) → n < length bytes → get_or bytes n 0 ≡ mark
    → fields mark bytes ≡ in_front (take n bytes) (fields mark (drop n bytes))
    → fields mark bytes ≡ take n bytes ∷ behind mark (drop n bytes)
unfolding fields
word_ends mark bytes n h k e =
    let same : eqb (get_or bytes n 0) mark ≡ true = eq-eqb (get_or bytes n 0) mark k in
    e ∙ rw (drop-cons bytes n 0 h, same, append-nil (take n bytes)) refl

-- so does the end
pub word_ends_last : (mark : ℕ) (bytes : List ℕ) (n : ℕ) → length bytes ≤ n
    → fields mark bytes ≡ in_front (take n bytes) (fields mark (drop n bytes))
    → fields mark bytes ≡ take n bytes ∷ behind mark (drop n bytes)
unfolding fields
word_ends_last mark bytes n h e = e ∙ rw (drop_all n bytes h, append-nil (take n bytes)) refl

pub word_begins : (mark : ℕ) (bytes : List ℕ) → fields mark bytes ≡ in_front [] (fields mark bytes)
unfolding fields
word_begins mark [] = refl
word_begins mark (b ∷ bs) = nothing_in_front (fields mark (b ∷ bs)) (some_word mark (b ∷ bs))

-- ---- what each word says

and_more : {A : Type 0} (front : List A) (x : A) (o : Option (List A)) → with_front front (o >>= λ xs. Some (x ∷ xs)) ≡ with_front (front ++ x ∷ []) o
and_more front x None = refl
and_more front x (Some xs) = ap Some (sym (append_assoc front (x ∷ []) xs))

pub each_says : {X A : Type 0} (f : X → Option A) (front : List A) (rest xs : List X) (x : X) (a : A) (all : Option (List A))
    → rest ≡ x ∷ xs → f x ≡ Some a → with_front front (each_of f rest) ≡ all → with_front (front ++ a ∷ []) (each_of f xs) ≡ all
unfolding each_of
each_says f front rest xs x a all e g h = sym (and_more front a (each_of f xs)) ∙ (rw (e, g) at h)

pub each_fails : {X A : Type 0} (f : X → Option A) (front : List A) (rest xs : List X) (x : X) (all : Option (List A))
    → rest ≡ x ∷ xs → f x ≡ None → with_front front (each_of f rest) ≡ all → None ≡ all
unfolding each_of
each_fails f front rest xs x all e g h = rw (e, g) at h

pub each_ends : {X A : Type 0} (f : X → Option A) (front : List A) (rest : List X) (all : Option (List A))
    → rest ≡ [] → with_front front (each_of f rest) ≡ all → Some front ≡ all
unfolding each_of
each_ends f front rest all e h = ap Some (sym (append-nil front)) ∙ (rw e at h)

pub each_begins : {X A : Type 0} (f : X → Option A) (rest : List X) → with_front [] (each_of f rest) ≡ each_of f rest
each_begins f rest = unchanged (each_of f rest)
  where
    unchanged : {A : Type 0} (o : Option (List A)) → with_front [] o ≡ o
    unchanged None = refl
    unchanged (Some xs) = refl

-- ---- literals

more_literals : {A B : Type 0} (front : List A) (x : A) (o : Option (List A × B)) → with_front_and front (o >>= λ r. Some (x ∷ r.0, r.1)) ≡ with_front_and (front ++ x ∷ []) o
more_literals front x None = refl
more_literals front x (Some r) = ap (λ q. Some (q, r.1)) (sym (append_assoc front (x ∷ []) r.0))

pub literal_says : (front : List WrittenLiteral) (rest ws : List (List ℕ)) (w : List ℕ) (l : WrittenLiteral) (all : Option (List WrittenLiteral × List (List ℕ)))
    → rest ≡ w ∷ ws → bytes_eq w (48 ∷ []) ≡ false → literal_of w ≡ Some l → with_front_and front (literals_at rest) ≡ all → with_front_and (front ++ l ∷ []) (literals_at ws) ≡ all
unfolding literals_at
literal_says front rest ws w l all e n g h = sym (more_literals front l (literals_at ws)) ∙ (rw (e, n, g) at h)

pub literal_fails : (front : List WrittenLiteral) (rest ws : List (List ℕ)) (w : List ℕ) (all : Option (List WrittenLiteral × List (List ℕ)))
    → rest ≡ w ∷ ws → bytes_eq w (48 ∷ []) ≡ false → literal_of w ≡ None → with_front_and front (literals_at rest) ≡ all → None ≡ all
unfolding literals_at
literal_fails front rest ws w all e n g h = rw (e, n, g) at h

pub literals_end : (front : List WrittenLiteral) (rest ws : List (List ℕ)) (w : List ℕ) (all : Option (List WrittenLiteral × List (List ℕ)))
    → rest ≡ w ∷ ws → bytes_eq w (48 ∷ []) ≡ true → with_front_and front (literals_at rest) ≡ all → Some (front, ws) ≡ all
unfolding literals_at
literals_end front rest ws w all e y h = ap (λ q. Some (q, ws)) (sym (append-nil front)) ∙ (rw (e, y) at h)

pub literals_missing : (front : List WrittenLiteral) (rest : List (List ℕ)) (all : Option (List WrittenLiteral × List (List ℕ)))
    → rest ≡ [] → with_front_and front (literals_at rest) ≡ all → None ≡ all
unfolding literals_at
literals_missing front rest all e h = rw e at h

-- ---- moves

pub move_says : (front : List WrittenMove) (rest ws vs : List (List ℕ)) (w x : List ℕ) (m : WrittenMove) (all : Option (List WrittenMove × List (List ℕ)))
    → rest ≡ w ∷ ws → bytes_eq w (47 ∷ []) ≡ false → ws ≡ x ∷ vs → move_of w x ≡ Some m → with_front_and front (moves_at rest) ≡ all → with_front_and (front ++ m ∷ []) (moves_at vs) ≡ all
unfolding moves_at
move_says front rest ws vs w x m all e n f g h = sym (more_literals front m (moves_at vs)) ∙ (rw (e, f, n, g) at h)

pub move_fails : (front : List WrittenMove) (rest ws vs : List (List ℕ)) (w x : List ℕ) (all : Option (List WrittenMove × List (List ℕ)))
    → rest ≡ w ∷ ws → bytes_eq w (47 ∷ []) ≡ false → ws ≡ x ∷ vs → move_of w x ≡ None → with_front_and front (moves_at rest) ≡ all → None ≡ all
unfolding moves_at
move_fails front rest ws vs w x all e n f g h = rw (e, f, n, g) at h

-- a letter without a term
pub move_breaks : (front : List WrittenMove) (rest ws : List (List ℕ)) (w : List ℕ) (all : Option (List WrittenMove × List (List ℕ)))
    → rest ≡ w ∷ ws → bytes_eq w (47 ∷ []) ≡ false → ws ≡ [] → with_front_and front (moves_at rest) ≡ all → None ≡ all
unfolding moves_at
move_breaks front rest ws w all e n f h = rw (e, f, n) at h

moves_stop : (front : List WrittenMove) (rest : List (List ℕ)) (all : Option (List WrittenMove × List (List ℕ)))
    → moves_at rest ≡ Some ([], rest) → with_front_and front (moves_at rest) ≡ all → Some (front, rest) ≡ all
moves_stop front rest all e h = ap (λ q. Some (q, rest)) (sym (append-nil front)) ∙ (rw e at h)

ends_there : (w : List ℕ) (ws : List (List ℕ)) → bytes_eq w (47 ∷ []) ≡ true → moves_at (w ∷ ws) ≡ Some ([], w ∷ ws)
unfolding moves_at
ends_there w [] y = rw y refl
ends_there w (x ∷ ws) y = rw y refl

pub moves_end : (front : List WrittenMove) (rest ws : List (List ℕ)) (w : List ℕ) (all : Option (List WrittenMove × List (List ℕ)))
    → rest ≡ w ∷ ws → bytes_eq w (47 ∷ []) ≡ true → with_front_and front (moves_at rest) ≡ all → Some (front, rest) ≡ all
moves_end front rest ws w all e y h = moves_stop front rest all (subst (λ (r : List (List ℕ)). moves_at r ≡ Some ([], r)) (sym e) (ends_there w ws y)) h

no_words : (rest : List (List ℕ)) → rest ≡ [] → moves_at rest ≡ Some ([], rest)
unfolding moves_at
no_words rest e = rw e refl

pub moves_over : (front : List WrittenMove) (rest : List (List ℕ)) (all : Option (List WrittenMove × List (List ℕ)))
    → rest ≡ [] → with_front_and front (moves_at rest) ≡ all → Some (front, rest) ≡ all
moves_over front rest all e h = moves_stop front rest all (no_words rest e) h

-- ---- the entries of an array

pub entry_says : (front : List WrittenEntry) (rest ws vs : List (List ℕ)) (w x : List ℕ) (m : WrittenEntry) (all : Option (List WrittenEntry))
    → rest ≡ w ∷ ws → ws ≡ x ∷ vs → entry_of w x ≡ Some m → with_front front (entries_of rest) ≡ all → with_front (front ++ m ∷ []) (entries_of vs) ≡ all
unfolding entries_of
entry_says front rest ws vs w x m all e f g h = sym (and_more front m (entries_of vs)) ∙ (rw (e, f, g) at h)

pub entry_fails : (front : List WrittenEntry) (rest ws vs : List (List ℕ)) (w x : List ℕ) (all : Option (List WrittenEntry))
    → rest ≡ w ∷ ws → ws ≡ x ∷ vs → entry_of w x ≡ None → with_front front (entries_of rest) ≡ all → None ≡ all
unfolding entries_of
entry_fails front rest ws vs w x all e f g h = rw (e, f, g) at h

-- an index without an element
pub entry_breaks : (front : List WrittenEntry) (rest ws : List (List ℕ)) (w : List ℕ) (all : Option (List WrittenEntry))
    → rest ≡ w ∷ ws → ws ≡ [] → with_front front (entries_of rest) ≡ all → None ≡ all
unfolding entries_of
entry_breaks front rest ws w all e f h = rw (e, f) at h

pub entries_end : (front : List WrittenEntry) (rest : List (List ℕ)) (all : Option (List WrittenEntry))
    → rest ≡ [] → with_front front (entries_of rest) ≡ all → Some front ≡ all
unfolding entries_of
entries_end front rest all e h = ap Some (sym (append-nil front)) ∙ (rw e at h)

-- ---- digits

next_digit : (limit n : ℕ) (digits : List ℕ) (i : ℕ) → i < length digits
    → more_digits limit n (drop i digits) ≡ (let d = get_or digits i 0 in cond (is_digit d) (cond (nat_lt (10 * n + (d - 48)) limit) (more_digits limit (10 * n + (d - 48)) (drop (i + 1) digits)) None) None)
unfolding more_digits
next_digit limit n digits i h = rw (add-one, drop-cons digits i 0 h) refl

pub no_digit : (limit n : ℕ) (digits : List ℕ) (i : ℕ) (all : Option ℕ) → i < length digits → is_digit (get_or digits i 0) ≡ false → more_digits limit n (drop i digits) ≡ all → None ≡ all
no_digit limit n digits i all h d e = rw (next_digit limit n digits i h, d) at e

pub too_great : (limit n : ℕ) (digits : List ℕ) (i : ℕ) (all : Option ℕ) → i < length digits → is_digit (get_or digits i 0) ≡ true → limit ≤ 10 * n + (get_or digits i 0 - 48) → more_digits limit n (drop i digits) ≡ all → None ≡ all
too_great limit n digits i all h d g e =
    let high : nat_lt (10 * n + (get_or digits i 0 - 48)) limit ≡ false = le-ltb _ _ g in
    rw (next_digit limit n digits i h, d, high) at e

pub digit_taken : (limit n : ℕ) (digits : List ℕ) (i : ℕ) (all : Option ℕ) → i < length digits → is_digit (get_or digits i 0) ≡ true → 10 * n + (get_or digits i 0 - 48) < limit → more_digits limit n (drop i digits) ≡ all → more_digits limit (10 * n + (get_or digits i 0 - 48)) (drop (i + 1) digits) ≡ all
digit_taken limit n digits i all h d g e =
    let low : nat_lt (10 * n + (get_or digits i 0 - 48)) limit ≡ true = lt-ltb _ _ g in
    rw (next_digit limit n digits i h, d, low) at e

pub digits_end : (limit n : ℕ) (digits : List ℕ) (i : ℕ) (all : Option ℕ) → length digits ≤ i → more_digits limit n (drop i digits) ≡ all → Some n ≡ all
unfolding more_digits
digits_end limit n digits i all h e = rw (drop_all i digits h) at e

pub next_byte : (bytes : List ℕ) (i : ℕ) → i < length bytes → drop i bytes ≡ get_or bytes i 0 ∷ drop (i + 1) bytes
next_byte bytes i h = rw add-one (drop-cons bytes i 0 h)

-- ---- heads

pub indexed_by : (w : List ℕ) (ws : List (List ℕ)) (name : Indexed) → look_up indexed_names w ≡ Some name → indexed_at name ws ≡ indexed_head_at w ws
indexed_by w ws name e = rw e refl

pub head_by : (words : List (List ℕ)) (w : List ℕ) (ws : List (List ℕ)) → words ≡ w ∷ ws → look_up operator_names w ≡ None → indexed_head_at w ws ≡ head_at words
head_by words w ws e f = rw (e, f) refl
