-- The lines of a text.
use Rattle.std.proofs.Common.{◌≡◌, ◌≢◌, ℕ, ◌+◌, ◌<◌, Bool, true, false, not, List, [], ◌∷◌, ◌++◌, length, Option, Some, None, refl, sym, ap, ◌∙◌, subst, inl, inr, arith, append_assoc, append-nil, length-append, eqb}
use Rattle.std.specs.Prelude.{Result, Ok, Err}
use Rattle.std.proofs.lemmas.Bool.{eq-eqb, eqb-true, and_parts}
use Rattle.proof_text.specs.declared.line.Line.{Line}
use Rattle.proof_text.specs.declared.reader.LineFault.{LineFault}
use Rattle.proof_text.specs.Held.{without_feed, IsNext, Answers}
use Rattle.proof_text.specs.Reading.{fields, line_of}
use Rattle.proof_text.proofs.Exact.{line_once, answer_line, answer_none}
use Rattle.proof_text.proofs.Running.{some_bytes}
use Rattle.proof_checker.specs.Checkers.{line_in, IsRead}
use Rattle.proof_checker.specs.Checked.{IsLineOf, AreLines}
use Rattle.smt_text.specs.Framing.{Held}

-- ---- one line more

pub line_answered : (a : Result Line LineFault) (n : ℕ) (text : List ℕ) → Answers a n text → IsLineOf text (line_in a)
line_answered (Ok l) n text a = a
line_answered (Err f) n text a = a.1

pub lines_next : (old new : Held) (text : List ℕ) (l : Option Line) → IsNext old text new → IsLineOf text l → (more : List ℕ) (ls : List (Option Line)) → AreLines (new.bytes ++ more) ls → AreLines (old.bytes ++ more) (l ∷ ls)
lines_next old new text l n k more ls h =
    inl (new.bytes ++ more, record { before = text; cut = ap (λ x. x ++ more) n.bytes ∙ append_assoc text (10 ∷ new.bytes) more; first = n.first; line_is = k }, h)

pub less_next : (old new : Held) (text : List ℕ) → IsNext old text new → length new.bytes < length old.bytes
less_next old new text n =
    let e : length old.bytes ≡ length (text ++ 10 ∷ new.bytes) = ap length n.bytes in
    let f : length (text ++ 10 ∷ new.bytes) ≡ length text + length (10 ∷ new.bytes) = length-append text (10 ∷ new.bytes) in
    let g : length (10 ∷ new.bytes) ≡ length new.bytes + 1 = omega arith in
    omega arith

pub lines_nothing : (ls : List (Option Line)) → AreLines [] ls → ls ≡ []
lines_nothing [] h = refl
lines_nothing (l ∷ ls) (inl h) = absurd (some_bytes h.1.before h.0 (sym h.1.cut))
lines_nothing (l ∷ ls) (inr h) = absurd (h.0.some refl)

pub lines_unended : (bytes more : List ℕ) (ls : List (Option Line)) → bytes ≢ [] → without_feed bytes ≡ true → more ≡ [] → AreLines ([] ++ more) ls → AreLines (bytes ++ more) (None ∷ ls)
lines_unended bytes more ls some free e h =
    let whole : bytes ++ more ≡ bytes = ap (λ x. bytes ++ x) e ∙ append-nil bytes in
    let none : ls ≡ [] = lines_nothing ls (subst (λ (x : List ℕ). AreLines x ls) e h) in
    inr (record { some = λ z. some (sym whole ∙ z); without = ap without_feed whole ∙ free }, refl, none)

-- ---- each text has lines

line_by : (text : List ℕ) (o : Option Line) → line_of (fields 32 text) ≡ o → (l : Option Line) × IsLineOf text l
line_by text None e = (None, answer_none text e)
line_by text (Some l) e = (Some l, answer_line text l e)

line_there : (text : List ℕ) → (l : Option Line) × IsLineOf text l
line_there text = line_by text (line_of (fields 32 text)) refl

not_feed : (b : ℕ) → eqb b 10 ≡ false → (x : List ℕ) → without_feed x ≡ true → without_feed (b ∷ x) ≡ true
not_feed b e x h = rw (e, h) refl

longer : (b : ℕ) (bs : List ℕ) (ls : List (Option Line)) → eqb b 10 ≡ false → AreLines bs ls → (ms : List (Option Line)) × AreLines (b ∷ bs) ms
longer b bs [] e h = (None ∷ [], inr (record { some = λ z. let f : ⊥ = cc in f; without = not_feed b e bs (ap without_feed h) }, refl, refl))
longer b bs (l ∷ ls) e (inl h) =
    let m = line_there (b ∷ h.1.before) in
    (m.0 ∷ ls, inl (h.0, record { before = b ∷ h.1.before; cut = ap (λ x. b ∷ x) h.1.cut; first = not_feed b e h.1.before h.1.first; line_is = m.1 }, h.2))
longer b bs (l ∷ ls) e (inr h) = (None ∷ [], inr (record { some = λ z. let f : ⊥ = cc in f; without = not_feed b e bs h.0.without }, refl, refl))

one_more : (t : Bool) (b : ℕ) (bs : List ℕ) (ls : List (Option Line)) → eqb b 10 ≡ t → AreLines bs ls → (ms : List (Option Line)) × AreLines (b ∷ bs) ms
one_more true b bs ls e h =
    let m = line_there [] in
    (m.0 ∷ ls, inl (bs, record { before = []; cut = ap (λ x. x ∷ bs) (eqb-true b 10 e); first = refl; line_is = m.1 }, h))
one_more false b bs ls e h = longer b bs ls e h

pub lines_there : (text : List ℕ) → (ls : List (Option Line)) × AreLines text ls
lines_there [] = ([], refl)
lines_there (b ∷ bs) = let m = lines_there bs in one_more (eqb b 10) b bs m.0 refl m.1

-- ---- and in one way

no_feed_here : (b : ℕ) (bs : List ℕ) → b ≡ 10 → without_feed (b ∷ bs) ≡ true → ⊥
no_feed_here b bs e h =
    let p = and_parts (not (eqb b 10)) (without_feed bs) h in
    let f : eqb b 10 ≡ true = eq-eqb b 10 e in
    let z : ⊥ = cc in z

has_feed : (a more : List ℕ) → without_feed (a ++ 10 ∷ more) ≡ true → ⊥
has_feed [] more h = no_feed_here 10 more refl h
has_feed (b ∷ a) more h = has_feed a more (and_parts (not (eqb b 10)) (without_feed (a ++ 10 ∷ more)) h).1

first_feed : (a b x y : List ℕ) → without_feed a ≡ true → without_feed b ≡ true → a ++ 10 ∷ x ≡ b ++ 10 ∷ y → (a ≡ b) × (x ≡ y)
first_feed [] [] x y f g e = (refl, let z : x ≡ y = cc in z)
first_feed [] (c ∷ b) x y f g e = absurd (no_feed_here c b (let z : c ≡ 10 = cc in z) g)
first_feed (d ∷ a) [] x y f g e = absurd (no_feed_here d a (let z : d ≡ 10 = cc in z) f)
first_feed (d ∷ a) (c ∷ b) x y f g e =
    let head : d ≡ c = cc in
    let rest : a ++ 10 ∷ x ≡ b ++ 10 ∷ y = cc in
    let p = and_parts (not (eqb d 10)) (without_feed a) f in
    let q = and_parts (not (eqb c 10)) (without_feed b) g in
    let same = first_feed a b x y p.1 q.1 rest in
    (ap (λ v. v ∷ a) head ∙ ap (λ v. c ∷ v) same.0, same.1)

one_line : (text : List ℕ) (k l : Option Line) → IsLineOf text k → IsLineOf text l → k ≡ l
one_line text None None h i = refl
one_line text None (Some l) h i = absurd (h l i.0 i.1)
one_line text (Some k) None h i = absurd (i k h.0 h.1)
one_line text (Some k) (Some l) h i = ap Some (line_once k l h.0 i.0 (sym h.1 ∙ i.1))

pub lines_one : (text : List ℕ) (ks ls : List (Option Line)) → AreLines text ks → AreLines text ls → ks ≡ ls
lines_one text [] [] h i = refl
lines_one text [] (l ∷ ls) h i = sym (lines_nothing (l ∷ ls) (subst (λ (x : List ℕ). AreLines x (l ∷ ls)) h i))
lines_one text (k ∷ ks) [] h i = lines_nothing (k ∷ ks) (subst (λ (x : List ℕ). AreLines x (k ∷ ks)) i h)
lines_one text (k ∷ ks) (l ∷ ls) (inl h) (inl i) =
    let s = first_feed h.1.before i.1.before h.0 i.0 h.1.first i.1.first (sym h.1.cut ∙ i.1.cut) in
    let e = one_line i.1.before k l (subst (λ (x : List ℕ). IsLineOf x k) s.0 h.1.line_is) i.1.line_is in
    let f = lines_one i.0 ks ls (subst (λ (x : List ℕ). AreLines x ks) s.1 h.2) i.2 in
    ap (λ v. v ∷ ks) e ∙ ap (λ v. l ∷ v) f
lines_one text (k ∷ ks) (l ∷ ls) (inl h) (inr i) = absurd (has_feed h.1.before h.0 (ap without_feed (sym h.1.cut) ∙ i.0.without))
lines_one text (k ∷ ks) (l ∷ ls) (inr h) (inl i) = absurd (has_feed i.1.before i.0 (ap without_feed (sym i.1.cut) ∙ h.0.without))
lines_one text (k ∷ ks) (l ∷ ls) (inr h) (inr i) = ap (λ v. v ∷ ks) (h.1 ∙ sym i.1) ∙ ap (λ v. l ∷ v) (h.2 ∙ sym i.2)

-- ---- what was read

pub read_answered : (a : Result Line LineFault) (n : ℕ) (text : List ℕ) → Answers a n text → IsRead a
read_answered (Ok l) n text a = a.0
read_answered (Err f) n text a = tt

pub some_less : (a b : List ℕ) → a ≡ [] → b ≢ [] → length a < length b
some_less a [] e f = absurd (f refl)
some_less a (x ∷ b) e f = let z : length a ≡ 0 = ap length e in omega arith
