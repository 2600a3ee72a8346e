-- What stands at the front of a text.
use Rattle.std.proofs.Common.{◌≡◌, ◌≢◌, ℕ, ◌-◌, ◌≤◌, true, not, List, [], ◌∷◌, ◌++◌, length, take, drop, refl, sym, ap, subst, ◌∙◌, arith, append_assoc, append-nil, eqb}
use Rattle.std.proofs.lemmas.Bool.{and_parts, eq-eqb}
use Rattle.std.proofs.lemmas.List.{append_cancel_left, nil_from_length, length-append, take_at, drop_at}
use Rattle.std.specs.List.{flat_map}
use Rattle.smt_text.specs.Framing.{Held}
use Rattle.proof_text.specs.Lines.{joined, words_of, line_text, IsLine}
use Rattle.proof_text.specs.Held.{without_feed, IsNext, IsFirstFault}
use Rattle.proof_text.specs.declared.line.Line.{Line}
use Rattle.proof_text.proofs.Exact.{line_free, line_once}
use Rattle.proof_text.proofs.Running.{Read, read_fault, read_unfinished}
use Rattle.proof_conversion.specs.Conversions.{BeginsWithNone}

-- ---- a line at the front

-- two texts have their first line feed at one place
first_feed : (a b x y : List ℕ) → without_feed a ≡ true → without_feed b ≡ true → a ++ 10 ∷ x ≡ b ++ 10 ∷ y → a ≡ b
first_feed [] [] x y f g e = refl
first_feed [] (c ∷ b) x y f g e =
    let p = and_parts (not (eqb c 10)) (without_feed b) g in
    let same : c ≡ 10 = cc in
    let feed : eqb c 10 ≡ true = eq-eqb c 10 same in
    let z : ⊥ = cc in absurd z
first_feed (d ∷ a) [] x y f g e =
    let p = and_parts (not (eqb d 10)) (without_feed a) f in
    let same : d ≡ 10 = cc in
    let feed : eqb d 10 ≡ true = eq-eqb d 10 same in
    let z : ⊥ = cc in absurd z
first_feed (d ∷ a) (c ∷ b) x y f g e =
    let head : d ≡ c = cc in
    let rest : a ++ 10 ∷ x ≡ b ++ 10 ∷ y = cc in
    let same : a ≡ b = first_feed a b x y (and_parts (not (eqb d 10)) (without_feed a) f).1 (and_parts (not (eqb c 10)) (without_feed b) g).1 rest in
    ap (λ v. v ∷ a) head ∙ ap (λ v. c ∷ v) same

pub after_line : (l : Line) (more : List ℕ) → line_text l ++ more ≡ joined (words_of l) ++ 10 ∷ more
after_line l more = append_assoc (joined (words_of l)) (10 ∷ []) more

pub same_first : (k l : Line) (x y : List ℕ) → IsLine k → IsLine l → line_text k ++ x ≡ line_text l ++ y → k ≡ l
same_first k l x y h i e =
    let same : joined (words_of k) ≡ joined (words_of l) = first_feed (joined (words_of k)) (joined (words_of l)) x y (line_free k h) (line_free l i) (sym (after_line k x) ∙ e ∙ after_line l y) in
    line_once k l h i (ap (λ t. t ++ 10 ∷ []) same)

pub same_behind : (k l : Line) (x y : List ℕ) → k ≡ l → line_text k ++ x ≡ line_text l ++ y → x ≡ y
same_behind k l x y s e = append_cancel_left (line_text k) x y (e ∙ ap (λ m. line_text m ++ y) (sym s))

-- the line that a reader gave, and what it holds behind it
pub next_is : (h g : Held) (t : List ℕ) (l : Line) → IsNext h t g → t ++ 10 ∷ [] ≡ line_text l → h.bytes ≡ line_text l ++ g.bytes
next_is h g t l n e = n.bytes ∙ sym (append_assoc t (10 ∷ []) g.bytes) ∙ ap (λ x. x ++ g.bytes) e

-- ---- no line at the front

none_of_fault : (text : List ℕ) → IsFirstFault text 1 → BeginsWithNone text
none_of_fault text f =
    let short : length f.lines ≡ 0 = (let c = f.count in omega arith) in
    let empty : f.lines ≡ [] = nil_from_length f.lines short in
    let same : f.rest ≡ text = sym (f.whole ∙ ap (λ (ls : List Line). flat_map line_text ls ++ f.rest) empty) in
    record { some = λ e. f.some (same ∙ e); none = λ l more h e. f.none l more h (same ∙ e) }

read_start : (bytes : List ℕ) → Read bytes (record { line = 1; bytes = bytes }) []
read_start bytes = record { printed = refl; each = tt; count = refl }

-- a line that none prints so
pub none_next : (h g : Held) (t : List ℕ) → IsNext h t g → ((l : Line) → IsLine l → t ++ 10 ∷ [] ≡ line_text l → ⊥) → BeginsWithNone h.bytes
none_next h g t n none =
    let here = read_fault h.bytes [] t (record { line = 1; bytes = h.bytes }) (record { line = 2; bytes = g.bytes }) [] 1 (read_start h.bytes) (record { bytes = n.bytes; first = n.first; line = refl }) refl none in
    none_of_fault h.bytes (subst (λ (x : List ℕ). IsFirstFault x 1) (append-nil h.bytes) here)

-- a last line without its line feed
pub none_unfinished : (bytes : List ℕ) → without_feed bytes ≡ true → bytes ≢ [] → BeginsWithNone bytes
none_unfinished bytes e some = none_of_fault bytes (read_unfinished bytes (record { line = 1; bytes = bytes }) [] 1 (read_start bytes) e refl some)

-- ---- what is held, and what stands before it

pub split_front : (rest line bytes : List ℕ) (n : ℕ) → rest ≡ line ++ bytes → n ≡ length rest - length bytes → take n rest ≡ line
split_front rest line bytes n e f =
    let a = ap length e in
    let b = length-append line bytes in
    let size : length line ≡ n = omega arith in
    ap (take n) e ∙ take_at line bytes n size

pub split_behind : (rest line bytes : List ℕ) (n : ℕ) → rest ≡ line ++ bytes → n ≡ length rest - length bytes → drop n rest ≡ bytes
split_behind rest line bytes n e f =
    let a = ap length e in
    let b = length-append line bytes in
    let size : length line ≡ n = omega arith in
    ap (drop n) e ∙ drop_at line bytes n size

pub held_within : (rest line bytes : List ℕ) → rest ≡ line ++ bytes → length bytes ≤ length rest
held_within rest line bytes e = let a = ap length e in let b = length-append line bytes in omega arith
