-- Lines are read from a text in one way, and what is known behind them is one thing.
use Rattle.std.proofs.Common.{◌≡◌, ℕ, List, [], ◌∷◌, ◌++◌, Some, refl, sym, ap₂, subst, ◌∙◌, append_assoc}
use Rattle.std.specs.List.{flat_map, AllByRecursion}
use Rattle.proof_text.specs.Lines.{joined, words_of, line_text, IsLine}
use Rattle.proof_text.specs.declared.line.Line.{Line}
use Rattle.proof_conversion.proofs.Firsts.{after_line, same_first, same_behind}
use Rattle.proof_conversion.specs.declared.kind.Owed.{Owed}
use Rattle.proof_conversion.specs.Needs.{Known, Knows, known_with}

some_byte : (bytes more : List ℕ) → [] ≡ bytes ++ 10 ∷ more → ⊥
some_byte [] more e = let z : ⊥ = cc in z
some_byte (b ∷ bytes) more e = let z : ⊥ = cc in z

-- a line is not nothing
pub some_text : (l : Line) (more : List ℕ) → [] ≡ line_text l ++ more → ⊥
some_text l more e = some_byte (joined (words_of l)) more (e ∙ after_line l more)

abbrev text : List Line → List ℕ
text lines = flat_map line_text lines

pub record IsFront (front all : List Line) (rest : List ℕ) : Type 0 where
  pub more : List Line
  pub all_is : all ≡ front ++ more
  pub rest_is : rest ≡ text more

-- lines at the front of a text of lines are the first of these
pub front_lines : (front all : List Line) (rest : List ℕ) → AllByRecursion IsLine front → AllByRecursion IsLine all → text front ++ rest ≡ text all → IsFront front all rest
front_lines [] all rest h k e = record { more = all; all_is = refl; rest_is = e }
front_lines (l ∷ ls) [] rest h k e = absurd (some_text l (text ls ++ rest) (sym e ∙ append_assoc (line_text l) (text ls) rest))
front_lines (l ∷ ls) (m ∷ ms) rest h k e =
    let both : line_text l ++ (text ls ++ rest) ≡ line_text m ++ text ms = sym (append_assoc (line_text l) (text ls) rest) ∙ e in
    let same = same_first l m (text ls ++ rest) (text ms) h.0 k.0 both in
    let f = front_lines ls ms rest h.1 k.1 (same_behind l m (text ls ++ rest) (text ms) same both) in
    record { more = f.more; all_is = ap₂ (λ (x : Line) (xs : List Line). x ∷ xs) (sym same) f.all_is; rest_is = f.rest_is }

pub same_lines : (xs ys : List Line) → AllByRecursion IsLine xs → AllByRecursion IsLine ys → text xs ≡ text ys → xs ≡ ys
same_lines [] [] h k e = refl
same_lines [] (y ∷ ys) h k e = absurd (some_text y (text ys) e)
same_lines (x ∷ xs) [] h k e = absurd (some_text x (text xs) (sym e))
same_lines (x ∷ xs) (y ∷ ys) h k e =
    let same = same_first x y (text xs) (text ys) h.0 k.0 e in
    ap₂ (λ (z : Line) (zs : List Line). z ∷ zs) same (same_lines xs ys h.1 k.1 (same_behind x y (text xs) (text ys) same e))

-- ---- what is known

some_back : {A : Type 0} (a b : A) → Some a ≡ Some b → a ≡ b
some_back a b e = cc

-- what is known behind the first of the lines
pub record KnowsBetween (k : Known) (front more : List Line) (end : Known) : Type 0 where
  pub mid : Known
  pub first : Knows k front mid
  pub behind : Knows mid more end

pub knows_split : (k : Known) (front more : List Line) (end : Known) → Knows k (front ++ more) end → KnowsBetween k front more end
knows_split k [] more end w = record { mid = k; first = refl; behind = w }
knows_split k (l ∷ ls) more end w =
    let f = knows_split (known_with k l w.0) ls more end w.2 in
    record { mid = f.mid; first = (w.0, w.1, f.first); behind = f.behind }

pub knows_once : (k : Known) (ls : List Line) (m n : Known) → Knows k ls m → Knows k ls n → m ≡ n
knows_once k [] m n v w = sym v ∙ w
knows_once k (l ∷ ls) m n v w =
    let o : v.0 ≡ w.0 = some_back v.0 w.0 (sym v.1 ∙ w.1) in
    knows_once (known_with k l w.0) ls m n (subst (λ (x : Owed). Knows (known_with k l x) ls m) o v.2) w.2
