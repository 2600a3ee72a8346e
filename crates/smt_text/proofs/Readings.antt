-- What is printed reads back as the same token.
use Rattle.std.proofs.Common.{◌≡◌, ℕ, suc, ◌+◌, ◌<◌, Bool, true, false, not, ◌&&◌, ◌||◌, cond, List, [], ◌∷◌, ◌++◌, length, get_or, take, refl, ap, sym, ◌∙◌, subst, arith, rules, append_assoc, length-append, eqb, eqb-true, Option, Some, None, Ok, is_none, IsTrue, inl, inr}
use Rattle.std.specs.Prelude.{nat_lt}
use Rattle.std.specs.List.{list_all, prefix_len}
use Rattle.std.proofs.Math.Seq.{take-append_seam, get_or-append_seam}
use Rattle.std.proofs.lemmas.Bool.Decides.{eqb_tells}
use Rattle.std.proofs.lemmas.List.{take_more, append-nil}
use Rattle.std.proofs.lemmas.List.Concat.{flat_map-append}
use Rattle.smt_text.specs.Search.{stop_at}
use Rattle.smt_text.specs.Chunks.{is_space, begins, beginning}
use Rattle.smt_text.specs.Lexicon.{Lexeme, is_digit, is_symbol_byte, is_word_byte, is_quoted_byte, is_keyword, is_symbol, reserved_kind, kind_of_word, string_end, word_lexeme, first_word, lexeme_at, first_token}
use Rattle.smt_text.specs.Printing.{is_simple, between, symbol_text, symbol_lexeme, doubled_byte, doubled, string_text, string_lexeme_of, string_value, IsApart}
use Rattle.smt_text.specs.declared.token.TokenKind.{TokenKind}
use Rattle.smt_text.specs.declared.token.TokenKind.TheVariants.{Symbol}
use Rattle.smt_text.proofs.Strings.{end_other}

-- one more byte is printed
pub doubled_more : (bytes out old new : List ℕ) (i : ℕ) → i < length bytes → old ≡ out ++ doubled (take i bytes) → new ≡ old ++ doubled_byte (get_or bytes i 0) → new ≡ out ++ doubled (take (i + 1) bytes)
doubled_more bytes out old new i h e f =
    let b = get_or bytes i 0 in
    f ∙ rw (e, take_more bytes i 0 h, flat_map-append doubled_byte (take i bytes) (b ∷ []), append-nil (doubled_byte b)) (append_assoc out (doubled (take i bytes)) (doubled_byte b))

and_left : (a b : Bool) → a && b ≡ true → a ≡ true
and_left true b e = refl
and_left false b e = cc

and_right : (a b : Bool) → a && b ≡ true → b ≡ true
and_right true b e = e
and_right false b e = cc

-- a byte that passes a test is none that fails it
unlike : (test : ℕ → Bool) (k b : ℕ) → test k ≡ false → test b ≡ true → eqb b k ≡ false
unlike test k b f t =
    elim (eqb_tells b k) [
      | inl same ↦ absurd (let g : test k ≡ true = subst (λ (x : ℕ). test x ≡ true) same.1 t in let h : true ≡ false = sym g ∙ f in let z : ⊥ = cc in z)
      | inr other ↦ other.0
    ]

-- ---- names

-- a byte of a symbol is a byte of a word
word_byte : (b : ℕ) → is_symbol_byte b ≡ true → is_word_byte b ≡ true
word_byte b t =
    rw (unlike is_symbol_byte 32 b refl t, unlike is_symbol_byte 9 b refl t, unlike is_symbol_byte 10 b refl t, unlike is_symbol_byte 13 b refl t, unlike is_symbol_byte 40 b refl t, unlike is_symbol_byte 41 b refl t, unlike is_symbol_byte 59 b refl t, unlike is_symbol_byte 34 b refl t, unlike is_symbol_byte 124 b refl t) refl

apart_ends : (a b c d p q r s u : Bool) → IsTrue ((a || b || c || d) || p || q || r) → not (a || b || c || d || p || q || r || s || u) ≡ false
apart_ends true b c d p q r s u h = refl
apart_ends false true c d p q r s u h = refl
apart_ends false false true d p q r s u h = refl
apart_ends false false false true p q r s u h = refl
apart_ends false false false false true q r s u h = refl
apart_ends false false false false false true r s u h = refl
apart_ends false false false false false false true s u h = refl
apart_ends false false false false false false false s u h = cc

word_ends : (rest : List ℕ) → IsApart rest → prefix_len is_word_byte rest ≡ 0
word_ends [] h = refl
word_ends (b ∷ bs) h = rw (apart_ends (eqb b 32) (eqb b 9) (eqb b 10) (eqb b 13) (eqb b 40) (eqb b 41) (eqb b 59) (eqb b 34) (eqb b 124) h) refl

name_prefix : (name rest : List ℕ) → list_all is_symbol_byte name ≡ true → IsApart rest → prefix_len is_word_byte (name ++ rest) ≡ length name
name_prefix [] rest t h = word_ends rest h
name_prefix (b ∷ bs) rest t h =
    rw (word_byte b (and_left (is_symbol_byte b) (list_all is_symbol_byte bs) t), name_prefix bs rest (and_right (is_symbol_byte b) (list_all is_symbol_byte bs) t) h) (omega arith)

-- the text begins with its token
at_once : (b : ℕ) (bs : List ℕ) → begins false b ≡ true → beginning false (b ∷ bs) ≡ Some 0
unfolding stop_at
at_once b bs e = rw e refl

no_keyword : (name : List ℕ) → list_all is_symbol_byte name ≡ true → is_keyword name ≡ false
no_keyword [] t = refl
no_keyword (b ∷ []) t = refl
no_keyword (b ∷ c ∷ bs) t = rw (unlike is_symbol_byte 58 b refl (and_left (is_symbol_byte b) (list_all is_symbol_byte (c ∷ bs)) t)) refl

no_kind : (o : Option TokenKind) → is_none o ≡ true → o ≡ None
no_kind None e = refl
no_kind (Some k) e = cc

name_kind : (name : List ℕ) → is_simple name ≡ true → list_all is_symbol_byte name ≡ true → kind_of_word name ≡ Some Symbol
name_kind name s t = rw (no_keyword name t, and_left (is_symbol name) (is_none (reserved_kind name)) s, no_kind (reserved_kind name) (and_right (is_symbol name) (is_none (reserved_kind name)) s)) refl

name_bytes : (name : List ℕ) → is_symbol name ≡ true → list_all is_symbol_byte name ≡ true
name_bytes [] e = cc
name_bytes (b ∷ bs) e = and_right (not (is_digit b)) (list_all is_symbol_byte (b ∷ bs)) e

word_there : (b : ℕ) (bs : List ℕ) → is_symbol_byte b ≡ true → lexeme_at (b ∷ bs) ≡ word_lexeme (first_word (b ∷ bs)) (kind_of_word (first_word (b ∷ bs)))
unfolding lexeme_at
word_there b bs t = rw (unlike is_symbol_byte 40 b refl t, unlike is_symbol_byte 41 b refl t, unlike is_symbol_byte 34 b refl t, unlike is_symbol_byte 124 b refl t) refl

plain_there : (name rest : List ℕ) → is_simple name ≡ true → list_all is_symbol_byte name ≡ true → IsApart rest → word_lexeme (first_word (name ++ rest)) (kind_of_word (first_word (name ++ rest))) ≡ Some (record { kind = Symbol; text = name; quoted = false }, length name)
plain_there name rest s t h = rw (name_prefix name rest t h, take-append_seam name rest, name_kind name s t) refl

first_there : (b n : ℕ) (bs : List ℕ) (t : Lexeme) → begins false b ≡ true → lexeme_at (b ∷ bs) ≡ Some (t, n) → first_token (b ∷ bs) ≡ Ok (Some (t, n))
unfolding first_token
first_there b n bs t e l = rw (at_once b bs e, l) (ap (λ k. Ok (Some (t, k))) (omega arith))

begins_word : (b : ℕ) → is_symbol_byte b ≡ true → begins false b ≡ true
begins_word b t = rw (unlike is_symbol_byte 32 b refl t, unlike is_symbol_byte 9 b refl t, unlike is_symbol_byte 10 b refl t, unlike is_symbol_byte 13 b refl t, unlike is_symbol_byte 59 b refl t) refl

reads_plain : (name rest : List ℕ) → is_simple name ≡ true → IsApart rest → first_token (name ++ rest) ≡ Ok (Some (record { kind = Symbol; text = name; quoted = false }, length name))
reads_plain [] rest s h = cc
reads_plain (b ∷ bs) rest s h =
    let t = name_bytes (b ∷ bs) (and_left (is_symbol (b ∷ bs)) (is_none (reserved_kind (b ∷ bs))) s) in
    let here = and_left (is_symbol_byte b) (list_all is_symbol_byte bs) t in
    first_there b (length (b ∷ bs)) (bs ++ rest) _ (begins_word b here) (word_there b (bs ++ rest) here ∙ plain_there (b ∷ bs) rest s t h)

-- ---- names in bars

quoted_prefix : (name rest : List ℕ) → list_all is_quoted_byte name ≡ true → prefix_len is_quoted_byte (name ++ 124 ∷ rest) ≡ length name
quoted_prefix [] rest t = refl
quoted_prefix (b ∷ bs) rest t = rw (and_left (is_quoted_byte b) (list_all is_quoted_byte bs) t, quoted_prefix bs rest (and_right (is_quoted_byte b) (list_all is_quoted_byte bs) t)) (omega arith)

in_between : (mark : ℕ) (bytes rest : List ℕ) → between mark bytes ++ rest ≡ mark ∷ (bytes ++ mark ∷ rest)
in_between mark bytes rest = ap (λ l. mark ∷ l) (append_assoc bytes (mark ∷ []) rest)

room_behind : (bytes rest : List ℕ) (mark : ℕ) → nat_lt (length bytes) (length (bytes ++ mark ∷ rest)) ≡ true
room_behind bytes rest mark = rw length-append (let h : length bytes < length bytes + suc (length rest) = omega arith in search (rules, h))

length-between : (mark : ℕ) (bytes : List ℕ) → length bytes + 2 ≡ length (between mark bytes)
length-between mark bytes = rw length-append (omega arith)

reads_bars : (name rest : List ℕ) → list_all is_quoted_byte name ≡ true → first_token (between 124 name ++ rest) ≡ Ok (Some (record { kind = Symbol; text = name; quoted = true }, length (between 124 name)))
unfolding lexeme_at
reads_bars name rest t =
    rw in_between
    (first_there 124 (length (between 124 name)) (name ++ 124 ∷ rest) (record { kind = Symbol; text = name; quoted = true }) refl
    (rw (quoted_prefix name rest t, room_behind name rest 124, get_or-append_seam name 124 rest 0, take-append_seam name (124 ∷ rest)) (ap (λ (n : ℕ). Some (record { kind = Symbol; text = name; quoted = true }, n)) (length-between 124 name))))

chosen : (simple : Bool) (name rest : List ℕ) → is_simple name ≡ simple → list_all is_quoted_byte name ≡ true → IsApart rest → first_token (cond simple name (between 124 name) ++ rest) ≡ Ok (Some (record { kind = Symbol; text = name; quoted = not simple }, length (cond simple name (between 124 name))))
chosen true name rest e t h = reads_plain name rest e h
chosen false name rest e t h = reads_bars name rest t

pub reads_symbol : (name rest : List ℕ) → list_all is_quoted_byte name ≡ true → IsApart rest → first_token (symbol_text name ++ rest) ≡ Ok (Some (symbol_lexeme name, length (symbol_text name)))
reads_symbol name rest t h = chosen (is_simple name) name rest refl t h

-- ---- strings

string_closes : (rest : List ℕ) → IsApart rest → string_end (34 ∷ rest) ≡ Some 0
unfolding string_end
string_closes [] h = refl
string_closes (b ∷ bs) h = rw (unlike (λ x. is_space x || eqb x 40 || eqb x 41 || eqb x 59) 34 b refl h) refl

string_goes_on : (c : Bool) (b n : ℕ) (tail : List ℕ) → eqb b 34 ≡ c → string_end tail ≡ Some n → string_end (cond c (34 ∷ 34 ∷ []) (b ∷ []) ++ tail) ≡ Some (length (cond c (34 ∷ 34 ∷ []) (b ∷ [])) + n)
unfolding string_end
string_goes_on true b n tail e f = rw f (ap Some (omega arith))
string_goes_on false b n tail e f = rw (end_other b tail e, f) (ap Some (omega arith))

string_ends : (value rest : List ℕ) → IsApart rest → string_end (doubled value ++ 34 ∷ rest) ≡ Some (length (doubled value))
string_ends [] rest h = string_closes rest h
string_ends (b ∷ bs) rest h =
    rw (append_assoc (doubled_byte b) (doubled bs) (34 ∷ rest), length-append (doubled_byte b) (doubled bs))
    (string_goes_on (eqb b 34) b (length (doubled bs)) (doubled bs ++ 34 ∷ rest) refl (string_ends bs rest h))

pub reads_string : (value rest : List ℕ) → IsApart rest → first_token (string_text value ++ rest) ≡ Ok (Some (string_lexeme_of value, length (string_text value)))
unfolding lexeme_at
reads_string value rest h =
    rw in_between
    (first_there 34 (length (between 34 (doubled value))) (doubled value ++ 34 ∷ rest) (string_lexeme_of value) refl
    (rw (string_ends value rest h, take-append_seam (doubled value) (34 ∷ rest)) (ap (λ (n : ℕ). Some (string_lexeme_of value, n)) (length-between 34 (doubled value)))))

value_goes_on : (c : Bool) (b : ℕ) (tail : List ℕ) → eqb b 34 ≡ c → string_value (cond c (34 ∷ 34 ∷ []) (b ∷ []) ++ tail) ≡ b ∷ string_value tail
value_goes_on true b tail e = ap (λ x. x ∷ string_value tail) (sym (eqb-true b 34 e))
value_goes_on false b [] e = refl
value_goes_on false b (c ∷ cs) e = rw e refl

pub value_back : (value : List ℕ) → string_value (doubled value) ≡ value
value_back [] = refl
value_back (b ∷ bs) = value_goes_on (eqb b 34) b (doubled bs) refl ∙ ap (λ l. b ∷ l) (value_back bs)
