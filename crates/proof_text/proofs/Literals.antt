-- Numbers, literals and hints are read exactly.
use Rattle.std.proofs.Common.{◌≡◌, ◌≢◌, ℕ, ◌^◌, ◌<◌, Bool, true, false, cond, List, [], ◌∷◌, ◌++◌, map, refl, sym, ap, subst, ◌∙◌, arith, append-nil, eqb, Option, Some, None}
use Rattle.std.proofs.lemmas.Bool.{and_parts, eqb-true, eqb-false, ne_eqb}
use Rattle.std.proofs.lemmas.Slice.Eq.{bytes_eq-Decides}
use Rattle.std.specs.Fmt.{decimal}
use Rattle.std.specs.List.{list_all, AllByRecursion}
use Rattle.std.specs.Str.{bytes_eq}
use Rattle.proof_text.specs.declared.list.WrittenLiteral.{WrittenLiteral}
use Rattle.proof_text.specs.declared.list.WrittenHint.{WrittenHint}
use Rattle.proof_text.specs.Lines.{literal_text, hint_text, IsNumber, IsLiteral, IsHint}
use Rattle.smt_text.specs.Lexicon.{is_digit}
use Rattle.proof_text.specs.Reading.{◌>>=◌, each_of, fields, number_of, number_in, number_at, ended, only_number, signed, literal_of, literals_at, hint_of}
use Rattle.proof_text.proofs.Numerals.{number_reads, number_says, decimal_digits, digit_range}
use Rattle.proof_text.proofs.Fields.{is_free, joined_by, fields_joined, joined_fields, digits_free}

pub bind_some : {A B : Type 0} (o : Option A) (f : A → Option B) (y : B) → (o >>= f) ≡ Some y → (x : A) × (o ≡ Some x) × (f x ≡ Some y)
bind_some None f y e = absurd (let k : ⊥ = cc in k)
bind_some (Some x) f y e = (x, refl, e)

pub bind_is : {A B : Type 0} (o : Option A) (x : A) (f : A → Option B) → o ≡ Some x → (o >>= f) ≡ f x
bind_is o x f e = ap (λ p. p >>= f) e

pub same_text : (a b : List ℕ) → bytes_eq a b ≡ true → a ≡ b
same_text a b e = (bytes_eq-Decides a b).0 e

text_itself : (a : List ℕ) → bytes_eq a a ≡ true
text_itself a = (bytes_eq-Decides a a).1 refl

-- ---- numbers

pub number_in_reads : (n : ℕ) → IsNumber n → number_in (decimal n) ≡ Some n
number_in_reads n h = number_reads (2 ^ 64) n (omega arith) h

pub number_in_says : (w : List ℕ) (n : ℕ) → number_in w ≡ Some n → (w ≡ decimal n) × IsNumber n
number_in_says w n e = number_says (2 ^ 64) w n (omega arith) (omega arith) e

pub record StartsWith (ws : List (List ℕ)) (n : ℕ) (rest : List (List ℕ)) : Type 0 where
  pub words : ws ≡ decimal n ∷ rest
  pub bound : IsNumber n

number_at_reads : (n : ℕ) (ws : List (List ℕ)) → IsNumber n → number_at (decimal n ∷ ws) ≡ Some (n, ws)
number_at_reads n ws h = rw (number_in_reads n h) refl

pub number_at_says : (ws : List (List ℕ)) (r : ℕ × List (List ℕ)) → number_at ws ≡ Some r → StartsWith ws r.0 r.1
number_at_says [] r e = absurd (let k : ⊥ = cc in k)
number_at_says (w ∷ ws) r e =
    let b = bind_some (number_in w) (λ n. Some (n, ws)) r e in
    let same : ◌≡◌ {A = ℕ × List (List ℕ)} (b.0, ws) r = let q = b.2 in cc in
    let s = number_in_says w b.0 b.1 in
    subst (λ (x : ℕ × List (List ℕ)). StartsWith (w ∷ ws) x.0 x.1) same (record { words = ap (λ v. v ∷ ws) s.0; bound = s.1 })

pub ended_says : {A : Type 0} (x y : A) (ws : List (List ℕ)) → ended x ws ≡ Some y → (x ≡ y) × (ws ≡ [])
ended_says x y [] e = (let q : x ≡ y = cc in q, refl)
ended_says x y (w ∷ ws) e = absurd (let k : ⊥ = cc in k)

only_number_reads : (n : ℕ) → IsNumber n → only_number (decimal n ∷ []) ≡ Some n
only_number_reads n h = rw (number_in_reads n h) refl

pub only_number_says : (ws : List (List ℕ)) (n : ℕ) → only_number ws ≡ Some n → StartsWith ws n []
only_number_says ws n e =
    let b = bind_some (number_at ws) (λ r. ended r.0 r.1) n e in
    let s = number_at_says ws b.0 b.1 in
    let q = ended_says b.0.0 n b.0.1 b.2 in
    record { words = s.words ∙ rw (q.0, q.1) refl; bound = subst IsNumber q.0 s.bound }

-- ---- what each word says

pub each_reads : {X A : Type 0} (f : X → Option A) (g : A → X) (P : A → Type 0) → ((a : A) → P a → f (g a) ≡ Some a) → (xs : List A) → AllByRecursion P xs → each_of f (map g xs) ≡ Some xs
unfolding each_of
each_reads f g P h [] all = refl
each_reads f g P h (a ∷ xs) all = rw (h a all.0, each_reads f g P h xs all.1) refl

pub each_says : {X A : Type 0} (f : X → Option A) (g : A → X) (P : A → Type 0) → ((x : X) (a : A) → f x ≡ Some a → (x ≡ g a) × P a) → (xs : List X) (out : List A) → each_of f xs ≡ Some out → (xs ≡ map g out) × AllByRecursion P out
unfolding each_of
each_says f g P h [] [] e = (refl, tt)
each_says f g P h [] (a ∷ more) e = absurd (let k : ⊥ = cc in k)
each_says {X} {A} f g P h (x ∷ xs) out e =
    let b = bind_some (f x) (λ a. each_of f xs >>= λ more. Some (a ∷ more)) out e in
    let d = bind_some (each_of f xs) (λ more. Some (b.0 ∷ more)) out b.2 in
    let same : b.0 ∷ d.0 ≡ out = let q = d.2 in cc in
    let one = h x b.0 b.1 in
    let rest = each_says f g P h xs d.0 d.1 in
    subst (λ (o : List A). (x ∷ xs ≡ map g o) × AllByRecursion P o) same (ap (λ v. v ∷ xs) one.0 ∙ ap (λ vs. g b.0 ∷ vs) rest.0, (one.1, rest.1))

-- ---- literals

signed_chosen : (q : Bool) (p : Bool) (n : ℕ) (l : WrittenLiteral) → eqb n 0 ≡ q → cond q None (Some (record { variable = n; positive = p })) ≡ Some l → (record { variable = n; positive = p } ≡ l) × (0 < n)
signed_chosen true p n l k e = absurd (let z : ⊥ = cc in z)
signed_chosen false p n l k e =
    let same : record { variable = n; positive = p } ≡ l = cc in
    let other : n ≢ 0 = eqb-false n 0 k in
    (same, omega arith)

signed_says : (p : Bool) (n : ℕ) (l : WrittenLiteral) → signed p n ≡ Some l → (record { variable = n; positive = p } ≡ l) × (0 < n)
signed_says p n l e = signed_chosen (eqb n 0) p n l refl e

signed_reads : (p : Bool) (n : ℕ) → 0 < n → signed p n ≡ Some (record { variable = n; positive = p })
signed_reads p n h =
    let other : eqb n 0 ≡ false = ne_eqb n 0 (λ e. absurd (omega arith)) in
    rw other refl

literal_plain : (w : List ℕ) (n : ℕ) → list_all is_digit w ≡ true → number_in w ≡ Some n → literal_of w ≡ signed true n
unfolding number_of
literal_plain [] n d e = absurd (let k : ⊥ = cc in k)
literal_plain (b ∷ bs) n d e =
    let r = digit_range b (and_parts (is_digit b) (list_all is_digit bs) d).0 in
    let other : eqb b 45 ≡ false = ne_eqb b 45 (λ q. absurd (omega arith)) in
    rw (other, e) refl

literal_by : (p : Bool) (n : ℕ) → 0 < n → IsNumber n → literal_of (literal_text (record { variable = n; positive = p })) ≡ Some (record { variable = n; positive = p })
literal_by true n some h = literal_plain (decimal n) n (decimal_digits n (omega arith)) (number_in_reads n h) ∙ signed_reads true n some
literal_by false n some h = rw (number_in_reads n h) (signed_reads false n some)

literal_reads : (l : WrittenLiteral) → IsLiteral l → literal_of (literal_text l) ≡ Some l
literal_reads l h = literal_by l.positive l.variable h.from_one h.bound

literal_chosen : (q : Bool) (b : ℕ) (bs : List ℕ) (l : WrittenLiteral) → eqb b 45 ≡ q
    → cond q (number_in bs >>= λ n. signed false n) (number_in (b ∷ bs) >>= λ n. signed true n) ≡ Some l → (b ∷ bs ≡ literal_text l) × IsLiteral l
literal_chosen true b bs l k e =
    let d = bind_some (number_in bs) (λ n. signed false n) l e in
    let n = number_in_says bs d.0 d.1 in
    let s = signed_says false d.0 l d.2 in
    let byte : b ≡ 45 = eqb-true b 45 k in
    subst (λ (x : WrittenLiteral). (b ∷ bs ≡ literal_text x) × IsLiteral x) s.0
    (rw byte (ap (λ v. 45 ∷ v) n.0), record { from_one = s.1; bound = n.1 })
literal_chosen false b bs l k e =
    let d = bind_some (number_in (b ∷ bs)) (λ n. signed true n) l e in
    let n = number_in_says (b ∷ bs) d.0 d.1 in
    let s = signed_says true d.0 l d.2 in
    subst (λ (x : WrittenLiteral). (b ∷ bs ≡ literal_text x) × IsLiteral x) s.0
    (n.0, record { from_one = s.1; bound = n.1 })

literal_says : (w : List ℕ) (l : WrittenLiteral) → literal_of w ≡ Some l → (w ≡ literal_text l) × IsLiteral l
literal_says [] l e = absurd (let k : ⊥ = cc in k)
literal_says (b ∷ bs) l e = literal_chosen (eqb b 45) b bs l refl e

zero_is_none : literal_of (48 ∷ []) ≡ None
unfolding number_of
zero_is_none = refl

not_the_end : (q : Bool) (w : List ℕ) (l : WrittenLiteral) → bytes_eq w (48 ∷ []) ≡ q → literal_of w ≡ Some l → bytes_eq w (48 ∷ []) ≡ false
not_the_end false w l k e = k
not_the_end true w l k e =
    let same : w ≡ 48 ∷ [] = same_text w (48 ∷ []) k in
    let z : literal_of w ≡ None = rw same zero_is_none in
    absurd (let r : ⊥ = cc in r)

pub literals_read : (ls : List WrittenLiteral) (rest : List (List ℕ)) → AllByRecursion IsLiteral ls → literals_at (map literal_text ls ++ (48 ∷ []) ∷ rest) ≡ Some (ls, rest)
unfolding literals_at
literals_read [] rest all = refl
literals_read (l ∷ ls) rest all =
    let one = literal_reads l all.0 in
    let other = not_the_end (bytes_eq (literal_text l) (48 ∷ [])) (literal_text l) l refl one in
    rw (other, one, literals_read ls rest all.1) refl

pub record AreLiterals (ws : List (List ℕ)) (ls : List WrittenLiteral) (rest : List (List ℕ)) : Type 0 where
  pub words : ws ≡ map literal_text ls ++ (48 ∷ []) ∷ rest
  pub each : AllByRecursion IsLiteral ls

literals_chosen : (q : Bool) (w : List ℕ) (ws : List (List ℕ)) (r : List WrittenLiteral × List (List ℕ)) → bytes_eq w (48 ∷ []) ≡ q
    → ((s : List WrittenLiteral × List (List ℕ)) → literals_at ws ≡ Some s → AreLiterals ws s.0 s.1)
    → cond q (Some ([], ws)) (literal_of w >>= λ l. literals_at ws >>= λ s. Some (l ∷ s.0, s.1)) ≡ Some r → AreLiterals (w ∷ ws) r.0 r.1
literals_chosen true w ws r k ih e =
    let same : ◌≡◌ {A = List WrittenLiteral × List (List ℕ)} ([], ws) r = cc in
    subst (λ (x : List WrittenLiteral × List (List ℕ)). AreLiterals (w ∷ ws) x.0 x.1) same
    (record { words = ap (λ v. v ∷ ws) (same_text w (48 ∷ []) k); each = tt })
literals_chosen false w ws r k ih e =
    let b = bind_some (literal_of w) (λ l. literals_at ws >>= λ s. Some (l ∷ s.0, s.1)) r e in
    let d = bind_some (literals_at ws) (λ s. Some (b.0 ∷ s.0, s.1)) r b.2 in
    let same : ◌≡◌ {A = List WrittenLiteral × List (List ℕ)} (b.0 ∷ d.0.0, d.0.1) r = let q = d.2 in cc in
    let one = literal_says w b.0 b.1 in
    let rest = ih d.0 d.1 in
    subst (λ (x : List WrittenLiteral × List (List ℕ)). AreLiterals (w ∷ ws) x.0 x.1) same
    (record { words = ap (λ v. v ∷ ws) one.0 ∙ ap (λ vs. literal_text b.0 ∷ vs) rest.words; each = (one.1, rest.each) })

pub literals_say : (ws : List (List ℕ)) (r : List WrittenLiteral × List (List ℕ)) → literals_at ws ≡ Some r → AreLiterals ws r.0 r.1
unfolding literals_at
literals_say [] r e = absurd (let k : ⊥ = cc in k)
literals_say (w ∷ ws) r e = literals_chosen (bytes_eq w (48 ∷ [])) w ws r refl (literals_say ws) e

-- ---- hints

pub digits_of_number : (mark n : ℕ) → is_digit mark ≡ false → IsNumber n → is_free mark (decimal n) ≡ true
digits_of_number mark n other h = digits_free mark (decimal n) other (decimal_digits n (omega arith))

pub hint_reads : (h : WrittenHint) → IsHint h → hint_of (hint_text h) ≡ Some h
hint_reads h k =
    let joined_is : joined_by 46 (decimal h.pos ∷ decimal h.part ∷ []) ≡ hint_text h = rw (append-nil (decimal h.part)) refl in
    let split : fields 46 (hint_text h) ≡ decimal h.pos ∷ decimal h.part ∷ [] =
    ap (fields 46) (sym joined_is) ∙ fields_joined 46 (decimal h.pos) (decimal h.part ∷ []) (digits_of_number 46 h.pos refl k.pos, (digits_of_number 46 h.part refl k.part, tt)) in
    rw (split, number_in_reads h.pos k.pos, number_in_reads h.part k.part) refl

pub hint_says : (w : List ℕ) (h : WrittenHint) → hint_of w ≡ Some h → (w ≡ hint_text h) × IsHint h
hint_says w h e =
    let b = bind_some (number_at (fields 46 w)) (λ p. only_number p.1 >>= λ part. Some (record { pos = p.0; part = part })) h e in
    let d = bind_some (only_number b.0.1) (λ part. Some (record { pos = b.0.0; part = part })) h b.2 in
    let same : record { pos = b.0.0; part = d.0 } ≡ h = let q = d.2 in cc in
    let s = number_at_says (fields 46 w) b.0 b.1 in
    let t = only_number_says b.0.1 d.0 d.1 in
    let words : fields 46 w ≡ decimal b.0.0 ∷ decimal d.0 ∷ [] = s.words ∙ ap (λ vs. decimal b.0.0 ∷ vs) t.words in
    let text : w ≡ hint_text (record { pos = b.0.0; part = d.0 }) = sym (joined_fields 46 w) ∙ ap (joined_by 46) words ∙ rw (append-nil (decimal d.0)) refl in
    subst (λ (x : WrittenHint). (w ≡ hint_text x) × IsHint x) same (text, record { pos = s.bound; part = t.bound })
