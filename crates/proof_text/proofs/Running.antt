-- The lines of a whole file, read one by one.
use Rattle.std.proofs.Common.{◌≡◌, ◌≢◌, ℕ, ◌+◌, ◌≤◌, Bool, true, false, not, ◌&&◌, List, [], ◌∷◌, ◌++◌, length, take, drop, refl, sym, ap, subst, ◌∙◌, arith, append_assoc, append-nil, length-append, eqb}
use Rattle.std.proofs.lemmas.Bool.{and_parts, eq-eqb}
use Rattle.std.proofs.lemmas.List.{append_cancel_left, take-append-drop, take_all}
use Rattle.std.proofs.lemmas.List.Concat.{flat_map-append}
use Rattle.std.specs.List.{flat_map, AllByRecursion}
use Rattle.proof_text.specs.Lines.{joined, words_of, line_text, IsLine}
use Rattle.smt_text.specs.Framing.{Held}
use Rattle.proof_text.specs.Held.{without_feed, IsNext, IsFirstFault}
use Rattle.proof_text.specs.declared.line.Line.{Line}
use Rattle.cnf_base.proofs.Lists.{each_append}
use Rattle.proof_text.proofs.Exact.{line_free, line_once}

-- these lines were given of the text, and the rest of it is held
pub record Read (text : List ℕ) (h : Held) (out : List Line) : Type 0 where
  pub printed : text ≡ flat_map line_text out ++ h.bytes
  pub each : AllByRecursion IsLine out
  pub count : h.line ≡ length out + 1

pub read_none : (h : Held) (out : List Line) → h ≡ record { line = 1; bytes = [] } → out ≡ [] → Read [] h out
read_none h out e f = rw (e, f) (record { printed = refl; each = tt; count = refl })

pub read_fed : (text piece : List ℕ) (h g : Held) (out : List Line) → Read text h out → g.line ≡ h.line → g.bytes ≡ h.bytes ++ piece → Read (text ++ piece) g out
read_fed text piece h g out r e f = record {
  printed = rw (f, r.printed) (append_assoc (flat_map line_text out) h.bytes piece);
  each = r.each;
  count = e ∙ r.count;
}

pub read_given : (text t : List ℕ) (h g : Held) (out more : List Line) (l : Line) → Read text h out → IsNext h t g → IsLine l × (t ++ 10 ∷ [] ≡ line_text l) → more ≡ out ++ l ∷ [] → Read text g more
read_given text t h g out more l r n a e =
    let front : flat_map line_text (out ++ l ∷ []) ≡ flat_map line_text out ++ line_text l = flat_map-append line_text out (l ∷ []) ∙ ap (λ x. flat_map line_text out ++ x) (append-nil (line_text l)) in
    let held : h.bytes ≡ line_text l ++ g.bytes = n.bytes ∙ sym (append_assoc t (10 ∷ []) g.bytes) ∙ ap (λ x. x ++ g.bytes) a.1 in
    rw e (record {
      printed = r.printed ∙ rw (front, held) (sym (append_assoc (flat_map line_text out) (line_text l) g.bytes));
      each = each_append IsLine out (l ∷ []) r.each (a.0, tt);
      count = let s = length-append out (l ∷ []) in let c = r.count in let d = n.line in omega arith;
    })

pub read_whole : (text : List ℕ) (h : Held) (out : List Line) → Read text h out → h.bytes ≡ [] → AllByRecursion IsLine out × (text ≡ flat_map line_text out)
read_whole text h out r e = (r.each, r.printed ∙ rw (e, append-nil (flat_map line_text out)) refl)

-- two texts have their first line feed at one place
first_feed : (a b x y : List ℕ) → without_feed a ≡ true → without_feed b ≡ true → a ++ 10 ∷ x ≡ b ++ 10 ∷ y → a ≡ b
first_feed [] [] x y f g e = refl
first_feed [] (c ∷ b) x y f g e =
    let p = and_parts (not (eqb c 10)) (without_feed b) g in
    let same : c ≡ 10 = cc in
    let feed : eqb c 10 ≡ true = eq-eqb c 10 same in
    let z : ⊥ = cc in absurd z
first_feed (d ∷ a) [] x y f g e =
    let p = and_parts (not (eqb d 10)) (without_feed a) f in
    let same : d ≡ 10 = cc in
    let feed : eqb d 10 ≡ true = eq-eqb d 10 same in
    let z : ⊥ = cc in absurd z
first_feed (d ∷ a) (c ∷ b) x y f g e =
    let head : d ≡ c = cc in
    let rest : a ++ 10 ∷ x ≡ b ++ 10 ∷ y = cc in
    let same : a ≡ b = first_feed a b x y (and_parts (not (eqb d 10)) (without_feed a) f).1 (and_parts (not (eqb c 10)) (without_feed b) g).1 rest in
    ap (λ v. v ∷ a) head ∙ ap (λ v. c ∷ v) same

after_line : (l : Line) (more : List ℕ) → line_text l ++ more ≡ joined (words_of l) ++ 10 ∷ more
after_line l more = append_assoc (joined (words_of l)) (10 ∷ []) more

no_line_there : (t rest more : List ℕ) → without_feed t ≡ true → ((l : Line) → IsLine l → t ++ 10 ∷ [] ≡ line_text l → ⊥) → rest ≡ t ++ 10 ∷ more → (l : Line) (behind : List ℕ) → IsLine l → rest ≡ line_text l ++ behind → ⊥
no_line_there t rest more free none e l behind h k =
    let same : t ≡ joined (words_of l) = first_feed t (joined (words_of l)) more behind free (line_free l h) (sym e ∙ k ∙ after_line l behind) in
    none l h (ap (λ x. x ++ 10 ∷ []) same)

pub some_bytes : (t more : List ℕ) → t ++ 10 ∷ more ≡ [] → ⊥
some_bytes [] more e = let z : ⊥ = cc in z
some_bytes (b ∷ t) more e = let z : ⊥ = cc in z

-- a line that none prints so is the first fault, whatever follows
pub read_fault : (text later t : List ℕ) (h g : Held) (out : List Line) (number : ℕ) → Read text h out → IsNext h t g → number ≡ h.line → ((l : Line) → IsLine l → t ++ 10 ∷ [] ≡ line_text l → ⊥) → IsFirstFault (text ++ later) number
read_fault text later t h g out number r n e none =
    let held : h.bytes ++ later ≡ t ++ 10 ∷ (g.bytes ++ later) = ap (λ x. x ++ later) n.bytes ∙ append_assoc t (10 ∷ g.bytes) later in
    record {
      lines = out;
      rest = h.bytes ++ later;
      whole = ap (λ x. x ++ later) r.printed ∙ append_assoc (flat_map line_text out) h.bytes later;
      each = r.each;
      count = e ∙ r.count;
      some = λ z. some_bytes t (g.bytes ++ later) (sym held ∙ z);
      none = no_line_there t (h.bytes ++ later) (g.bytes ++ later) n.first none held;
    }

has_feed : (a more : List ℕ) → without_feed (a ++ 10 ∷ more) ≡ false
has_feed [] more = refl
has_feed (b ∷ a) more = ends (not (eqb b 10)) (without_feed (a ++ 10 ∷ more)) (has_feed a more)
  where
    ends : (p q : Bool) → q ≡ false → p && q ≡ false
    ends true q e = e
    ends false q e = refl

-- a last line without its line feed is the first fault
pub read_unfinished : (text : List ℕ) (h : Held) (out : List Line) (number : ℕ) → Read text h out → without_feed h.bytes ≡ true → number ≡ h.line → h.bytes ≢ [] → IsFirstFault text number
read_unfinished text h out number r free e some = record {
  lines = out;
  rest = h.bytes;
  whole = r.printed;
  each = r.each;
  count = e ∙ r.count;
  some = some;
  none = λ l more k q.
      let feed : without_feed h.bytes ≡ false = ap without_feed (q ∙ after_line l more) ∙ has_feed (joined (words_of l)) more in
      let z : ⊥ = cc in z;
}

same_first : (k l : Line) (x y : List ℕ) → IsLine k → IsLine l → line_text k ++ x ≡ line_text l ++ y → k ≡ l
same_first k l x y h i e =
    let same : joined (words_of k) ≡ joined (words_of l) = first_feed (joined (words_of k)) (joined (words_of l)) x y (line_free k h) (line_free l i) (sym (after_line k x) ∙ e ∙ after_line l y) in
    line_once k l h i (ap (λ t. t ++ 10 ∷ []) same)

some_line : (l : Line) (more : List ℕ) → line_text l ++ more ≡ [] → ⊥
some_line l more e = some_bytes (joined (words_of l)) more (sym (after_line l more) ∙ e)

behind_first : (k l : Line) (x y : List ℕ) → k ≡ l → line_text k ++ x ≡ line_text l ++ y → x ≡ y
behind_first k l x y s e = append_cancel_left (line_text k) x y (e ∙ ap (λ m. line_text m ++ y) (sym s))

-- a text is the printing of one list of lines
pub lines_once : (a b : List Line) → AllByRecursion IsLine a → AllByRecursion IsLine b → flat_map line_text a ≡ flat_map line_text b → a ≡ b
lines_once [] [] h i e = refl
lines_once [] (l ∷ ls) h i e = absurd (some_line l (flat_map line_text ls) (sym e))
lines_once (k ∷ ks) [] h i e = absurd (some_line k (flat_map line_text ks) e)
lines_once (k ∷ ks) (l ∷ ls) h i e =
    let s = same_first k l _ _ h.0 i.0 e in
    ap (λ m. m ∷ ks) s ∙ ap (λ ms. l ∷ ms) (lines_once ks ls h.1 i.1 (behind_first k l _ _ s e))

lines_stop : (front b : List Line) (rest : List ℕ) → AllByRecursion IsLine front → AllByRecursion IsLine b → rest ≢ [] → ((l : Line) (more : List ℕ) → IsLine l → rest ≡ line_text l ++ more → ⊥)
    → flat_map line_text front ++ rest ≡ flat_map line_text b → ⊥
lines_stop [] [] rest h i some none e = some e
lines_stop [] (l ∷ ls) rest h i some none e = none l (flat_map line_text ls) i.0 e
lines_stop (k ∷ ks) [] rest h i some none e = some_line k (flat_map line_text ks ++ rest) (sym (append_assoc (line_text k) (flat_map line_text ks) rest) ∙ e)
lines_stop (k ∷ ks) (l ∷ ls) rest h i some none e =
    let f : line_text k ++ (flat_map line_text ks ++ rest) ≡ line_text l ++ flat_map line_text ls = sym (append_assoc (line_text k) (flat_map line_text ks) rest) ∙ e in
    let s = same_first k l _ _ h.0 i.0 f in
    lines_stop ks ls rest h.1 i.1 some none (behind_first k l _ _ s f)

-- a text with a fault is the printing of no lines
pub fault_stops : (text : List ℕ) (number : ℕ) → IsFirstFault text number → (others : List Line) → AllByRecursion IsLine others → text ≡ flat_map line_text others → ⊥
fault_stops text number f others h e = lines_stop f.lines others f.rest f.each h f.some f.none (sym f.whole ∙ e)

-- ---- at the pieces of a file

abbrev bytes_of : List ℕ → List ℕ
bytes_of piece = piece

pub fault_among : (pieces : List (List ℕ)) (i : ℕ) (t : List ℕ) (h g : Held) (out : List Line) (number : ℕ) → Read (flat_map bytes_of (take i pieces)) h out → IsNext h t g → (number ≡ h.line) × ((l : Line) → IsLine l → t ++ 10 ∷ [] ≡ line_text l → ⊥) → IsFirstFault (flat_map bytes_of pieces) number
fault_among pieces i t h g out number r n e =
    let whole : flat_map bytes_of (take i pieces) ++ flat_map bytes_of (drop i pieces) ≡ flat_map bytes_of pieces = sym (flat_map-append bytes_of (take i pieces) (drop i pieces)) ∙ ap (flat_map bytes_of) (take-append-drop i pieces) in
    subst (λ (x : List ℕ). IsFirstFault x number) whole (read_fault (flat_map bytes_of (take i pieces)) (flat_map bytes_of (drop i pieces)) t h g out number r n e.0 e.1)

pub fault_at_end : (pieces : List (List ℕ)) (i : ℕ) (h : Held) (out : List Line) (number : ℕ) → length pieces ≤ i → Read (flat_map bytes_of (take i pieces)) h out → without_feed h.bytes ≡ true → (number ≡ h.line) × (h.bytes ≢ []) → IsFirstFault (flat_map bytes_of pieces) number
fault_at_end pieces i h out number end r free e =
    subst (λ (x : List (List ℕ)). IsFirstFault (flat_map bytes_of x) number) (take_all i pieces end) (read_unfinished (flat_map bytes_of (take i pieces)) h out number r free e.0 e.1)

pub whole_once : (pieces : List (List ℕ)) (i : ℕ) (h : Held) (out : List Line) → length pieces ≤ i → Read (flat_map bytes_of (take i pieces)) h out → h.bytes ≡ []
    → (others : List Line) → AllByRecursion IsLine others → flat_map bytes_of pieces ≡ flat_map line_text others → out ≡ others
whole_once pieces i h out end r e others k f =
    let w = read_whole (flat_map bytes_of (take i pieces)) h out r e in
    lines_once out others w.0 k (sym w.1 ∙ ap (flat_map bytes_of) (take_all i pieces end) ∙ f)
