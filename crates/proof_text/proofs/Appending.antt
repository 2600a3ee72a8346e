-- What several appends make of a text.
use Rattle.std.proofs.Common.{◌≡◌, ℕ, zero, suc, ◌+◌, ◌-◌, ◌/◌, ◌%◌, ◌^◌, ◌<◌, ◌≤◌, List, [], ◌∷◌, ◌++◌, length, get_or, take, map, refl, sym, ap, ◌∙◌, arith, append_assoc, eqb, Option, Some, None, IfSome, IsSome, Result, Ok, Err, OnOk, OnErr, length-append, ◌≢◌, codes}
use Rattle.std.proofs.lemmas.Bool.Decides.{nat_tests}
use Rattle.std.proofs.Math.Seq.{take-append_seam}
use Rattle.std.specs.Prelude.{option_to_list}
use Rattle.std.specs.List.{flat_map}
use Rattle.std.proofs.lemmas.List.{append-nil, map-append, take-take, take_more}
use Rattle.std.proofs.lemmas.List.Concat.{flat_map-append}
use Rattle.std.specs.Option.{option_map}
use Rattle.std.specs.Fmt.{decimal}
use Rattle.smt_values.specs.declared.value.Value.{Value as Kept}
use Rattle.smt_values.specs.declared.value.Value.TheVariants as kept
use Rattle.proof_text.specs.Lines.{spaced, joined, with_number, head_words, scalar_text, value_words, value_text, format_text, line_text, digit_of}
use Rattle.proof_text.specs.Records.{binary, written_value}
use Rattle.proof_text.specs.declared.list.WrittenScalar.{WrittenScalar}
use Rattle.proof_text.specs.declared.line.WrittenValue.{WrittenValue}
use Rattle.proof_text.specs.declared.line.WrittenValue.TheVariants as value
use Rattle.proof_text.specs.declared.line.Head.{Head}
use Rattle.proof_text.specs.declared.line.Head.TheVariants.{Plain, Word, Extract, ZeroExtend, SignExtend, RotateLeft, RotateRight, Repeat, Apply, ConstantArray}
use Rattle.proof_text.specs.declared.line.Format.{Format}
use Rattle.proof_text.specs.declared.line.Line.TheVariants.{Term, Header, Value}

-- the highest digit of so many
pub binary_step : (width x : ℕ) → 0 < width → binary width x ≡ eqb ((x / 2 ^ (width - 1)) % 2) 1 ∷ binary (width - 1) x
unfolding binary
binary_step zero x h = absurd (omega arith)
binary_step (suc n) x h = let same : suc n - 1 ≡ n = omega arith in rw same refl

pub no_digits : (width x : ℕ) → width ≡ 0 → binary width x ≡ []
unfolding binary
no_digits zero x h = refl
no_digits (suc n) x h = absurd (omega arith)

pub binary_length : (n x : ℕ) → length (binary n x) ≡ n
unfolding binary
binary_length zero x = refl
binary_length (suc n) x = ap suc (binary_length n x)

pub digits_more : (out mid new : List ℕ) (width x b : ℕ) → 0 < width → b ≡ digit_of (eqb ((x / 2 ^ (width - 1)) % 2) 1) → mid ≡ out ++ b ∷ [] → new ≡ mid ++ map digit_of (binary (width - 1) x) → new ≡ out ++ map digit_of (binary width x)
digits_more out mid new width x b h d e f =
    f ∙ rw (e, binary_step width x h, d) (append_assoc out (digit_of (eqb ((x / 2 ^ (width - 1)) % 2) 1) ∷ []) (map digit_of (binary (width - 1) x)))

pub digit_is_one : (x : ℕ) → x ≡ 1 → 49 ≡ digit_of (eqb x 1)
digit_is_one x e = rw e refl

pub digit_is_zero : (x : ℕ) → x ≢ 1 → 48 ≡ digit_of (eqb x 1)
digit_is_zero x h = grind (arith, nat_tests)

-- what was there stays in front
pub kept_front : (old mid new more : List ℕ) → mid ≡ old ++ more → take (length mid) new ≡ mid → take (length old) new ≡ old
kept_front old mid new more e h =
    let longer : length old ≤ length mid = rw (e, length-append) (omega arith) in
    let outer : take (length old) (take (length mid) new) ≡ take (length old) new = take-take (length old) (length mid) new longer in
    sym outer ∙ rw (h, e) (take-append_seam old more)

-- a word and a number
pub number_behind : (out mid new w : List ℕ) (n : ℕ) → mid ≡ out ++ w → new ≡ mid ++ 32 ∷ decimal n → new ≡ out ++ joined (with_number w n)
number_behind out mid new w n e f = f ∙ rw (e, append-nil (decimal n)) (append_assoc out w (32 ∷ decimal n))

regroup : (out a f b c d e g : List ℕ) → ((((out ++ a) ++ f) ++ (b ++ c)) ++ (d ++ e)) ++ g ≡ out ++ (a ++ ((f ++ (b ++ (c ++ (d ++ e)))) ++ g))
regroup out a f b c d e g = simp append_assoc

pub header_words : (format : Format) (out a b c d new : List ℕ) (cubes budget : ℕ) → a ≡ out ++ codes "smt_proof " → b ≡ a ++ format_text format → c ≡ b ++ joined (with_number (codes " cubes") cubes) → d ≡ c ++ joined (with_number (codes " budget") budget) → new ≡ d ++ 10 ∷ [] → new ≡ out ++ line_text (Header format cubes budget)
header_words format out a b c d new cubes budget e f g h i =
    i ∙ rw (h, g, f, e, append-nil (decimal cubes), append-nil (decimal budget)) (regroup out (codes "smt_proof ") (format_text format) (codes " cubes") (32 ∷ decimal cubes) (codes " budget") (32 ∷ decimal budget) (10 ∷ []))

pub chain_words : (out a b c d new : List ℕ) (ls hs : List (List ℕ)) → a ≡ out ++ 99 ∷ [] → b ≡ a ++ spaced ls → c ≡ b ++ 32 ∷ 48 ∷ [] → d ≡ c ++ spaced hs → new ≡ d ++ 10 ∷ [] → new ≡ out ++ (99 ∷ (spaced (ls ++ (48 ∷ []) ∷ hs) ++ 10 ∷ []))
chain_words out a b c d new ls hs e f g h i = i ∙ rw (h, g, f, e, flat_map-append (λ w. 32 ∷ w) ls ((48 ∷ []) ∷ hs)) (simp append_assoc)

pub accesses_words : (out a b c d new : List ℕ) (xs ys : List (List ℕ)) → a ≡ out ++ codes "l a" → b ≡ a ++ spaced xs → c ≡ b ++ codes " /" → d ≡ c ++ spaced ys → new ≡ d ++ 10 ∷ []
    → new ≡ out ++ (108 ∷ 32 ∷ 97 ∷ (spaced (xs ++ (47 ∷ []) ∷ ys) ++ 10 ∷ []))
accesses_words out a b c d new xs ys e f g h i = i ∙ rw (h, g, f, e, flat_map-append (λ w. 32 ∷ w) xs ((47 ∷ []) ∷ ys)) (simp append_assoc)

head_spaced : (h : Head) → spaced (head_words h) ≡ 32 ∷ joined (head_words h)
head_spaced (Plain op) = refl
head_spaced (Word w x) = refl
head_spaced (Extract i j) = refl
head_spaced (ZeroExtend i) = refl
head_spaced (SignExtend i) = refl
head_spaced (RotateLeft i) = refl
head_spaced (RotateRight i) = refl
head_spaced (Repeat i) = refl
head_spaced (Apply d) = refl
head_spaced (ConstantArray n) = refl

regroup_term : (out a b c d : List ℕ) → ((out ++ a) ++ b) ++ c ++ d ≡ out ++ (a ++ ((b ++ c) ++ d))
regroup_term out a b c d = simp append_assoc

pub term_words : (o : Option Head) (args : List ℕ) (out a b c new : List ℕ) → a ≡ out ++ 116 ∷ 32 ∷ [] → IfSome o (λ h. b ≡ a ++ joined (head_words h)) → c ≡ b ++ spaced (map decimal args) → new ≡ c ++ 10 ∷ [] → IfSome (option_map (λ h. Term h args) o) (λ l. new ≡ out ++ line_text l)
term_words None args out a b c new e f g h = tt
term_words (Some k) args out a b c new e f g h =
    h ∙ rw (g, f, e, flat_map-append (λ w. 32 ∷ w) (head_words k) (map decimal args), head_spaced k) (regroup_term out (116 ∷ 32 ∷ []) (joined (head_words k)) (spaced (map decimal args)) (10 ∷ []))

-- where its arguments failed
pub term_front : (o : Option Head) (out a b new : List ℕ) → IsSome o → a ≡ out ++ 116 ∷ 32 ∷ [] → IfSome o (λ h. b ≡ a ++ joined (head_words h)) → take (length b) new ≡ b → take (length out) new ≡ out
term_front None out a b new some e f h = absurd (let k : ⊥ = cc in k)
term_front (Some k) out a b new some e f h = kept_front out a new (116 ∷ 32 ∷ []) e (kept_front a b new (joined (head_words k)) f h)

pub on_err : {T E P : Type 0} (r : Result T E) → P → OnErr r P
on_err (Ok x) p = tt
on_err (Err e) p = p

pub on_ok : {T E P : Type 0} (r : Result T E) → P → OnOk r P
on_ok (Ok x) p = p
on_ok (Err e) p = tt

-- ---- values

value_spaced : (v : WrittenValue) → spaced (value_words v) ≡ 32 ∷ value_text v
value_spaced (value.Bool b) = refl
value_spaced (value.Word ds) = refl
value_spaced (value.Array d es) = refl
value_spaced (value.Fun d vs) = refl

regroup_value : (out a v : List ℕ) → (((out ++ a) ++ 32 ∷ []) ++ v) ++ 10 ∷ [] ≡ out ++ (a ++ (32 ∷ v) ++ 10 ∷ [])
regroup_value out a v = simp append_assoc

pub value_line : (d : ℕ) (o : Option WrittenValue) (out a b c new : List ℕ) → IsSome o → a ≡ out ++ joined (with_number (codes "v") d) → b ≡ a ++ 32 ∷ [] → IfSome o (λ v. c ≡ b ++ value_text v) → new ≡ c ++ 10 ∷ []
    → new ≡ out ++ flat_map line_text (map (Value d) (option_to_list o))
value_line d None out a b c new some e f g h = absurd (let k : ⊥ = cc in k)
value_line d (Some v) out a b c new some e f g h =
    h ∙ rw (g, f, e, value_spaced v, append-nil (decimal d), append-nil (codes "v" ++ 32 ∷ decimal d ++ (32 ∷ value_text v) ++ 10 ∷ [])) (regroup_value out (codes "v" ++ 32 ∷ decimal d) (value_text v))

pub is_written : (v : Kept) → IsSome (written_value v)
is_written (kept.Bool b) = refl
is_written (kept.Word w) = refl
is_written (kept.Array a) = refl
is_written (kept.Fun t) = refl

pub scalars_append : (xs ys : List WrittenScalar) → spaced (map scalar_text (xs ++ ys)) ≡ spaced (map scalar_text xs) ++ spaced (map scalar_text ys)
scalars_append xs ys = ap spaced (map-append scalar_text xs ys) ∙ flat_map-append (λ w. 32 ∷ w) (map scalar_text xs) (map scalar_text ys)

pub row_text : (out a new : List ℕ) (xs : List WrittenScalar) (y : WrittenScalar) → a ≡ out ++ spaced (map scalar_text xs) → new ≡ a ++ 32 ∷ scalar_text y → new ≡ out ++ spaced (map scalar_text (xs ++ y ∷ []))
row_text out a new xs y e f =
    let parts : spaced (map scalar_text (xs ++ y ∷ [])) ≡ spaced (map scalar_text xs) ++ 32 ∷ scalar_text y =
    scalars_append xs (y ∷ []) ∙ ap (λ t. spaced (map scalar_text xs) ++ 32 ∷ t) (append-nil (scalar_text y)) in
    f ∙ rw (e, parts) (append_assoc out (spaced (map scalar_text xs)) (32 ∷ scalar_text y))

-- ---- a text of each element

module _ {A : Type 0} (text : List A → List ℕ) (part : A → List ℕ) (none : text [] ≡ []) (more : (y : A) (ys : List A) → text (y ∷ ys) ≡ part y ++ text ys) where
  text_push : (xs : List A) (x : A) → text (xs ++ x ∷ []) ≡ text xs ++ part x
  text_push [] x = more x [] ∙ ap (λ r. part x ++ r) none ∙ append-nil (part x) ∙ sym (ap (λ r. r ++ part x) none)
  text_push (y ∷ xs) x =
      more y (xs ++ x ∷ []) ∙ ap (λ r. part y ++ r) (text_push xs x) ∙ sym (append_assoc (part y) (text xs) (part x)) ∙ sym (ap (λ r. r ++ part x) (more y xs))

  -- the part of the next element was appended
  pub text_more : (xs : List A) (k : ℕ) (d : A) (old out new : List ℕ) → k < length xs → out ≡ old ++ text (take k xs) → new ≡ out ++ part (get_or xs k d) → new ≡ old ++ text (take (k + 1) xs)
  text_more xs k d old out new lt e n =
      n ∙ ap (λ r. r ++ part (get_or xs k d)) e ∙ append_assoc old (text (take k xs)) (part (get_or xs k d)) ∙ ap (λ r. old ++ r) (sym (text_push (take k xs) (get_or xs k d)))
      ∙ ap (λ ys. old ++ text ys) (sym (take_more xs k d lt))
