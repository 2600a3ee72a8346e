-- What is judged of a proof is one thing.
use Rattle.std.proofs.Common.{◌≡◌, ℕ, zero, suc, ◌+◌, ◌*◌, ◌<◌, ◌/◌, ◌%◌, ◌^◌, Bool, true, false, List, [], ◌∷◌, ◌++◌, length, map, slice_get, Option, Some, None, refl, sym, ap, ap₂, ◌∙◌, subst, arith, one-add, mod-eq_of_lt}
use Rattle.std.specs.Prelude.{◌==◌}
use Rattle.std.proofs.Common.{inl, inr}
use Rattle.std.specs.List.{flat_map, AllByRecursion}
use Rattle.std.specs.Option.{option_map, option_and_then}
use Rattle.std.proofs.lemmas.Nat.{mod-pow-add}
use Rattle.cnf_base.specs.Literals.{Literal}
use Rattle.cnf_base.specs.declared.clause.ClauseId.{ClauseId}
use Rattle.cnf_base.proofs.Options.{same_found}
use Rattle.smt_words.specs.Words.{WordValue}
use Rattle.smt_terms.specs.declared.sort.Sort.{Sort}
use Rattle.smt_terms.specs.declared.sort.Sort.TheVariants as sort
use Rattle.smt_terms.specs.declared.sort.Signature.{Signature}
use Rattle.smt_terms.specs.declared.node.Op.{Op}
use Rattle.smt_terms.specs.declared.node.Op.TheVariants as op
use Rattle.smt_terms.specs.declared.node.Node.{Node}
use Rattle.smt_terms.specs.declared.scalar.Scalar.{Scalar}
use Rattle.smt_terms.specs.declared.scalar.Scalar.TheVariants as scalar
use Rattle.smt_values.specs.Arrays.{Entry as Held, ArrayFields, IsOfWidth, IsEntry}
use Rattle.smt_values.specs.Tables.{TableFields}
use Rattle.smt_values.specs.Held.{value_of}
use Rattle.smt_values.specs.declared.table.Row.{Row}
use Rattle.smt_values.specs.declared.value.Value.{Value}
use Rattle.smt_values.specs.declared.value.Value.TheVariants as held
use Rattle.theory_terms.specs.declared.lemma.Move.{Move}
use Rattle.theory_terms.specs.declared.lemma.Move.TheVariants as move
use Rattle.theory_terms.specs.declared.lemma.Start.{Start}
use Rattle.theory_terms.specs.declared.lemma.Start.TheVariants as begins
use Rattle.theory_terms.specs.declared.lemma.Access.{Access}
use Rattle.theory_terms.specs.declared.lemma.Lemma.{Lemma}
use Rattle.theory_terms.specs.declared.lemma.Lemma.TheVariants as lemma
use Rattle.script_state.specs.Readings.{Reading}
use Rattle.smt_build.specs.Names.{IsDeclared}
use Rattle.smt_build.specs.declared.symbols.LiveName.{LiveName}
use Rattle.script_state.specs.States.{StateValue}
use Rattle.proof_log.specs.declared.entry.Entry.{Entry}
use Rattle.proof_log.specs.declared.entry.Entry.TheVariants as entry
use Rattle.proof_log.specs.declared.entry.RuleUse.{RuleUse}
use Rattle.proof_text.specs.declared.list.Letter.{Letter}
use Rattle.proof_text.specs.declared.list.Letter.TheVariants as letter
use Rattle.proof_text.specs.declared.list.WrittenMove.{WrittenMove}
use Rattle.proof_text.specs.declared.list.WrittenAccess.{WrittenAccess}
use Rattle.proof_text.specs.declared.list.WrittenEntry.{WrittenEntry}
use Rattle.proof_text.specs.declared.list.WrittenScalar.{WrittenScalar}
use Rattle.proof_text.specs.declared.line.Head.{Head}
use Rattle.proof_text.specs.declared.line.Head.TheVariants as head
use Rattle.proof_text.specs.declared.line.WrittenValue.{WrittenValue}
use Rattle.proof_text.specs.declared.line.WrittenValue.TheVariants as written
use Rattle.proof_text.specs.declared.line.Format.{Format}
use Rattle.proof_text.specs.declared.line.Format.TheVariants.{One, Two}
use Rattle.proof_text.specs.declared.line.Line.{Line}
use Rattle.proof_text.specs.declared.line.Line.TheVariants as line
use Rattle.proof_text.specs.Entries.{head_of, written_literal, written_hint, written_move, written_start, written_access, lemma_line, entry_line}
use Rattle.proof_text.specs.Records.{binary, digits_of, written_scalar, written_entry, row_scalars, written_value}
use Rattle.proof_text.proofs.Appending.{binary_length}
use Rattle.accepted_proof.specs.declared.refusal.Refusal.{Refusal}
use Rattle.proof_log.specs.declared.diary.DiaryLine.{DiaryLine}
use Rattle.proof_log.specs.declared.diary.DiaryLine.TheVariants as diary
use Rattle.accepted_proof.specs.Searching.{Limits}
use Rattle.accepted_proof.specs.Models.{IsOfKind, AreOfKinds, IsRowOf, IsTableOf, IsFunctionOf, IsOfArguments, IsOfSignature}
use Rattle.accepted_proof.specs.Turns.{IsOfScript}
use Rattle.accepted_proof.specs.Judged.{Owed, Nothing, Steps, Values, Noted, Over, Judging, stepped, Decides, StepsBy, Deletes, Goes, Opens, AtStep, AtValue, Notes, AtDiary, MovesBy, reach, judging_from, IsHeader, Judged, JudgedProof}

-- ---- steps

pub list_back : {A B : Type 0} (f : A → B) → ((a b : A) → f a ≡ f b → a ≡ b) → (xs ys : List A) → map f xs ≡ map f ys → xs ≡ ys
list_back f h [] [] e = refl
list_back f h [] (y ∷ ys) e = let q : ⊥ = cc in absurd q
list_back f h (x ∷ xs) [] e = let q : ⊥ = cc in absurd q
list_back f h (x ∷ xs) (y ∷ ys) e =
    let p : f x ≡ f y = cc in
    let q : map f xs ≡ map f ys = cc in
    let r = h x y p in
    let s = list_back f h xs ys q in cc

literal_back : (a b : Literal) → written_literal a ≡ written_literal b → a ≡ b
literal_back a b e = λ i. record { variable = (e i).variable; positive = (e i).positive }

hint_back : (a b : ClauseId) → written_hint a ≡ written_hint b → a ≡ b
hint_back a b e = λ i. record { pos = (e i).pos; part = (e i).part }

-- the operator of a head, where these are the signatures
abbrev op_of : List Signature → Head → Option Op
op_of signatures (head.Plain o) = Some (op.Plain o)
op_of signatures (head.Word n x) = Some (op.Word n x)
op_of signatures (head.Extract i j) = Some (op.Extract i j)
op_of signatures (head.ZeroExtend i) = Some (op.ZeroExtend i)
op_of signatures (head.SignExtend i) = Some (op.SignExtend i)
op_of signatures (head.RotateLeft i) = Some (op.RotateLeft i)
op_of signatures (head.RotateRight i) = Some (op.RotateRight i)
op_of signatures (head.Repeat i) = Some (op.Repeat i)
op_of signatures (head.ConstantArray n) = Some (op.ConstantArray n)
op_of signatures (head.Apply d) = option_map (λ s. op.Apply d s) (slice_get signatures d)

op_at : (signatures : List Signature) (o : Op) (h : Head) → head_of o ≡ Some h → IsDeclared signatures o → op_of signatures h ≡ Some o
op_at signatures (op.Plain o) h e i = ap (λ x. option_and_then (op_of signatures) x) (sym e)
op_at signatures (op.Word n x) h e i = ap (λ x. option_and_then (op_of signatures) x) (sym e)
op_at signatures (op.Extract k j) h e i = ap (λ x. option_and_then (op_of signatures) x) (sym e)
op_at signatures (op.ZeroExtend k) h e i = ap (λ x. option_and_then (op_of signatures) x) (sym e)
op_at signatures (op.SignExtend k) h e i = ap (λ x. option_and_then (op_of signatures) x) (sym e)
op_at signatures (op.RotateLeft k) h e i = ap (λ x. option_and_then (op_of signatures) x) (sym e)
op_at signatures (op.RotateRight k) h e i = ap (λ x. option_and_then (op_of signatures) x) (sym e)
op_at signatures (op.Repeat k) h e i = ap (λ x. option_and_then (op_of signatures) x) (sym e)
op_at signatures (op.ConstantArray k) h e i = ap (λ x. option_and_then (op_of signatures) x) (sym e)
op_at signatures (op.Constant d s) h e i = let q : ⊥ = cc in absurd q
op_at signatures (op.Apply d s) h e i = ap (λ x. option_and_then (op_of signatures) x) (sym e) ∙ ap (λ x. option_map (λ s. op.Apply d s) x) (i.each d refl)
op_at signatures (op.Param k s) h e i = let q : ⊥ = cc in absurd q

abbrev is_term : Line → Bool
is_term (line.Term h args) = true
is_term _ = false

abbrev is_term_in : Option Line → Bool
is_term_in None = false
is_term_in (Some l) = is_term l

-- the head and the arguments of a term's line
pub record IsTermLine (o : Option Head) (args : List ℕ) (l : Line) : Type 0 where
  pub head : Head
  pub some : o ≡ Some head
  pub written : l ≡ line.Term head args

pub term_line : (o : Option Head) (args : List ℕ) (l : Line) → option_map (λ h. line.Term h args) o ≡ Some l → IsTermLine o args l
term_line None args l e = let q : ⊥ = cc in absurd q
term_line (Some h) args l e = record { head = h; some = refl; written = same_found (Some l) l (line.Term h args) refl (sym e) }

not_term : (o : Option Head) (args : List ℕ) (l : Line) (other : Option Line) → option_map (λ h. line.Term h args) o ≡ Some l → other ≡ Some l → is_term_in other ≡ false → ⊥
not_term o args l other e p n =
    let t = term_line o args l e in
    let a : is_term l ≡ true = ap is_term t.written in
    let b : is_term_in other ≡ is_term l = ap is_term_in p in cc

same_terms : (s : StateValue) (l : Line) (n m : Node) → entry_line (entry.Node n) ≡ Some l → entry_line (entry.Node m) ≡ Some l → IsDeclared s.symbols.signatures n.op → IsDeclared s.symbols.signatures m.op → n ≡ m
same_terms s l n m p q i j =
    let a = term_line (head_of n.op) n.args l p in
    let b = term_line (head_of m.op) m.args l q in
    let e : line.Term a.head n.args ≡ line.Term b.head m.args = sym a.written ∙ b.written in
    let h : a.head ≡ b.head = cc in
    let r : n.args ≡ m.args = cc in
    let c = op_at s.symbols.signatures n.op a.head a.some i in
    let d = op_at s.symbols.signatures m.op b.head b.some j in
    let o : n.op ≡ m.op = same_found (op_of s.symbols.signatures a.head) n.op m.op c (ap (op_of s.symbols.signatures) h ∙ d) in
    (λ k. record { op = o k; args = r k })

same_chains : (c d : List Literal) (hs is : List ClauseId) (l : Line) → entry_line (entry.Chain c hs) ≡ Some l → entry_line (entry.Chain d is) ≡ Some l → entry.Chain c hs ≡ entry.Chain d is
same_chains c d hs is l p q =
    let e : entry_line (entry.Chain c hs) ≡ entry_line (entry.Chain d is) = p ∙ sym q in
    let a : map written_literal c ≡ map written_literal d = cc in
    let b : map written_hint hs ≡ map written_hint is = cc in
    let x = list_back written_literal literal_back c d a in
    let y = list_back written_hint hint_back hs is b in cc

move_of : WrittenMove → Move
move_of m = of_letter m.letter m.term
  where
    of_letter : Letter → ℕ → Move
    of_letter letter.Store t = move.Store t
    of_letter letter.Then t = move.Then t
    of_letter letter.Else t = move.Else t
    of_letter letter.Sides t = move.Sides t

move_is : (m : Move) → move_of (written_move m) ≡ m
unfolding move_of
move_is (move.Store t) = refl
move_is (move.Then t) = refl
move_is (move.Else t) = refl
move_is (move.Sides t) = refl

move_back : (a b : Move) → written_move a ≡ written_move b → a ≡ b
move_back a b e = sym (move_is a) ∙ ap move_of e ∙ move_is b

start_back : (a b : Start) → written_start a ≡ written_start b → a ≡ b
start_back (begins.Term t) (begins.Term u) e = cc
start_back (begins.Const k i) (begins.Const l j) e = cc
start_back _ _ e = let q : ⊥ = cc in absurd q

access_back : (a b : Access) → written_access a ≡ written_access b → a ≡ b
access_back a b e =
    let first = start_back a.start b.start (ap (λ (x : WrittenAccess). x.start) e) in
    let moves = list_back written_move move_back a.path b.path (ap (λ (x : WrittenAccess). x.moves) e) in
    (λ i. record { start = first i; path = moves i })

same_lemmas : (a b : Lemma) (l : Line) → entry_line (entry.Lemma a) ≡ Some l → entry_line (entry.Lemma b) ≡ Some l → a ≡ b
same_lemmas (lemma.Congruence t u) (lemma.Congruence v w) l p q = cc
same_lemmas (lemma.Witness t) (lemma.Witness u) l p q = cc
same_lemmas (lemma.Arrays a b) (lemma.Arrays c d) l p q =
    let e : Some (line.Accesses (written_access a) (written_access b)) ≡ Some (line.Accesses (written_access c) (written_access d)) = p ∙ sym q in
    let f : written_access a ≡ written_access c = cc in
    let g : written_access b ≡ written_access d = cc in
    ap₂ lemma.Arrays (access_back a c f) (access_back b d g)
same_lemmas _ _ l p q = let f : ⊥ = cc in absurd f

-- the line is that of a lemma
abbrev pub is_lemma : Line → Bool
is_lemma (line.Congruence t u) = true
is_lemma (line.Witness t) = true
is_lemma (line.Accesses a b) = true
is_lemma _ = false

abbrev pub is_lemma_in : Option Line → Bool
is_lemma_in None = false
is_lemma_in (Some l) = is_lemma l

pub lemma_is_one : (a : Lemma) → (is_lemma (lemma_line a) ≡ true) × (is_term (lemma_line a) ≡ false)
lemma_is_one (lemma.Congruence t u) = (refl, refl)
lemma_is_one (lemma.Witness t) = (refl, refl)
lemma_is_one (lemma.Arrays a b) = (refl, refl)

not_lemma : (a : Lemma) (l : Line) (other : Option Line) → entry_line (entry.Lemma a) ≡ Some l → other ≡ Some l → is_lemma_in other ≡ false → ⊥
not_lemma a l other e p n =
    let b : is_lemma_in (Some (lemma_line a)) ≡ is_lemma_in other = ap is_lemma_in (e ∙ sym p) in
    let c : is_lemma (lemma_line a) ≡ true = (lemma_is_one a).0 in cc

same_uses : (r d : RuleUse) (l : Line) → entry_line (entry.Rewrite r) ≡ Some l → entry_line (entry.Rewrite d) ≡ Some l → r ≡ d
same_uses r d l p q =
    let e : Some (line.Rewrite r.rule r.from r.to) ≡ Some (line.Rewrite d.rule d.from d.to) = p ∙ sym q in
    let a : r.rule ≡ d.rule = cc in
    let b : r.from ≡ d.from = cc in
    let c : r.to ≡ d.to = cc in
    (λ i. record { rule = a i; from = b i; to = c i })

-- a line is that of one step of the script
pub same_entry : (s : StateValue) (l : Line) (e d : Entry) → entry_line e ≡ Some l → entry_line d ≡ Some l → IsOfScript s e → IsOfScript s d → e ≡ d
same_entry s l (entry.Node n) (entry.Node m) p q i j = ap entry.Node (same_terms s l n m p q i j)
same_entry s l (entry.Lemma a) (entry.Lemma b) p q i j = ap entry.Lemma (same_lemmas a b l p q)
same_entry s l (entry.Node n) (entry.Lemma a) p q i j = absurd (not_term _ _ l _ p q (lemma_is_one a).1)
same_entry s l (entry.Lemma a) (entry.Node n) p q i j = absurd (not_term _ _ l _ q p (lemma_is_one a).1)
same_entry s l (entry.Lemma a) _ p q i j = absurd (not_lemma a l _ p q refl)
same_entry s l _ (entry.Lemma a) p q i j = absurd (not_lemma a l _ q p refl)
same_entry s l (entry.Node n) _ p q i j = absurd (not_term _ _ l _ p q refl)
same_entry s l _ (entry.Node n) p q i j = absurd (not_term _ _ l _ q p refl)
same_entry s l (entry.Leaf t) (entry.Leaf u) p q i j = cc
same_entry s l (entry.Encode t) (entry.Encode u) p q i j = cc
same_entry s l (entry.Selector a t) (entry.Selector b u) p q i j =
    let e : a ≡ b = cc in
    let f : t ≡ u = same_found (slice_get s.scopes.terms a) t u i (ap (slice_get s.scopes.terms) e ∙ j) in cc
same_entry s l (entry.Rewrite r) (entry.Rewrite d) p q i j = ap entry.Rewrite (same_uses r d l p q)
same_entry s l (entry.Equal t u) (entry.Equal v w) p q i j = cc
same_entry s l (entry.Chain c hs) (entry.Chain d is) p q i j = same_chains c d hs is l p q
same_entry s l _ _ p q i j = let f : ⊥ = cc in absurd f

-- ---- values

pub cons_back : {A : Type 0} (a b : A) (xs ys : List A) → a ∷ xs ≡ b ∷ ys → (a ≡ b) × (xs ≡ ys)
cons_back a b xs ys e = let p : a ≡ b = cc in let q : xs ≡ ys = cc in (p, q)

below_two : (m : ℕ) → m % 2 < 2
below_two m = grind arith

bits_back : (m k : ℕ) → m < 2 → k < 2 → (m == 1) ≡ (k == 1) → m ≡ k
bits_back m k a b e = grind arith

-- of two numbers with the same low digits the low parts are the same
binary_back : (n x y : ℕ) → binary n x ≡ binary n y → x % 2 ^ n ≡ y % 2 ^ n
unfolding binary
binary_back zero x y e = grind arith
binary_back (suc n) x y e =
    let h = cons_back ((x / 2 ^ n) % 2 == 1) ((y / 2 ^ n) % 2 == 1) (binary n x) (binary n y) e in
    let r = binary_back n x y h.1 in
    let d = bits_back ((x / 2 ^ n) % 2) ((y / 2 ^ n) % 2) (below_two (x / 2 ^ n)) (below_two (y / 2 ^ n)) h.0 in
    let c : (x / 2 ^ n % 2) * 2 ^ n + x % 2 ^ n ≡ (y / 2 ^ n % 2) * 2 ^ n + y % 2 ^ n = ap₂ (λ u v. u * 2 ^ n + v) d r in
    let q : x % 2 ^ (1 + n) ≡ y % 2 ^ (1 + n) = mod-pow-add x 1 n ∙ c ∙ sym (mod-pow-add y 1 n) in
    subst (λ k. x % 2 ^ k ≡ y % 2 ^ k) (one-add n) q

small_back : (n x y : ℕ) → x < 2 ^ n → y < 2 ^ n → binary n x ≡ binary n y → x ≡ y
small_back n x y a b e = sym (mod-eq_of_lt a) ∙ binary_back n x y e ∙ mod-eq_of_lt b

-- a word that fits its width is told by its digits
pub word_back : (v w : WordValue) → v.value < 2 ^ v.width → w.value < 2 ^ w.width → digits_of v ≡ digits_of w → v ≡ w
word_back v w a b e =
    let width : v.width ≡ w.width = sym (binary_length v.width v.value) ∙ ap length e ∙ binary_length w.width w.value in
    let digits : binary w.width v.value ≡ binary w.width w.value = ap (λ k. binary k v.value) (sym width) ∙ e in
    let small : v.value < 2 ^ w.width = subst (λ k. v.value < 2 ^ k) width a in
    let value = small_back w.width v.value w.value small b digits in
    (λ i. record { width = width i; value = value i })

pub word_fits : (n : ℕ) (w : WordValue) → IsOfWidth n w → w.value < 2 ^ w.width
word_fits n w h = subst (λ k. w.value < 2 ^ k) (sym h.width) h.fits

pub entries_back : (n m k l : ℕ) (es fs : List Held) → AllByRecursion (IsEntry n m) es → AllByRecursion (IsEntry k l) fs → map written_entry es ≡ map written_entry fs → es ≡ fs
entries_back n m k l [] [] a b e = refl
entries_back n m k l [] (f ∷ fs) a b e = let q : ⊥ = cc in absurd q
entries_back n m k l (x ∷ es) [] a b e = let q : ⊥ = cc in absurd q
entries_back n m k l (x ∷ es) (y ∷ fs) a b e =
    let h = cons_back (written_entry x) (written_entry y) (map written_entry es) (map written_entry fs) e in
    let index = word_back x.0 y.0 (word_fits n x.0 a.0.0) (word_fits k y.0 b.0.0) (ap (λ (w : WrittenEntry). w.index) h.0) in
    let element = word_back x.1 y.1 (word_fits m x.1 a.0.1) (word_fits l y.1 b.0.1) (ap (λ (w : WrittenEntry). w.element) h.0) in
    ap₂ (λ z zs. z ∷ zs) (ap₂ (λ i d. (i, d)) index element) (entries_back n m k l es fs a.1 b.1 h.1)

pub array_back : (s : Sort) (a b : ArrayFields) → IsOfKind s (held.Array a) → IsOfKind s (held.Array b) → digits_of a.default ≡ digits_of b.default → map written_entry a.entries ≡ map written_entry b.entries → a ≡ b
array_back s a b h k e f =
    let sorts : sort.Array a.index a.default.width ≡ sort.Array b.index b.default.width = sym h.0 ∙ k.0 in
    let index : a.index ≡ b.index = cc in
    let other = word_back a.default b.default h.1.default.fits k.1.default.fits e in
    let kept = entries_back a.index a.default.width b.index b.default.width a.entries b.entries h.1.entries k.1.entries f in
    (λ i. record { index = index i; default = other i; entries = kept i })

-- a written value is one value of a sort
same_kind : (s : Sort) (v w : Value) (x : WrittenValue) → IsOfKind s v → IsOfKind s w → written_value v ≡ Some x → written_value w ≡ Some x → v ≡ w
same_kind s (held.Bool b) (held.Bool c) x a d p q = cc
same_kind s (held.Word b) (held.Word c) x a d p q =
    let e : written.Word (digits_of b) ≡ written.Word (digits_of c) = same_found (Some x) (written.Word (digits_of b)) (written.Word (digits_of c)) (sym p) (sym q) in
    let f : digits_of b ≡ digits_of c = cc in
    ap held.Word (word_back b c a.1.2 d.1.2 f)
same_kind s (held.Array b) (held.Array c) x a d p q =
    let e : Some (written.Array (digits_of b.default) (map written_entry b.entries)) ≡ Some (written.Array (digits_of c.default) (map written_entry c.entries)) = p ∙ sym q in
    let f : digits_of b.default ≡ digits_of c.default = cc in
    let g : map written_entry b.entries ≡ map written_entry c.entries = cc in
    ap held.Array (array_back s b c a d f g)
same_kind s (held.Fun b) w x a d p q = absurd a
same_kind s v (held.Fun b) x a d p q = absurd d
same_kind s v w x a d p q = let f : ⊥ = cc in absurd f

-- ---- tables of functions

pub scalar_back : (s : Sort) (x y : Scalar) → IsOfKind s (value_of x) → IsOfKind s (value_of y) → written_scalar x ≡ written_scalar y → x ≡ y
scalar_back s (scalar.Bool b) (scalar.Bool c) h k e = cc
scalar_back s (scalar.Word v) (scalar.Word w) h k e =
    let f : digits_of v ≡ digits_of w = cc in
    ap scalar.Word (word_back v w h.1.2 k.1.2 f)
scalar_back s x y h k e = let f : ⊥ = cc in absurd f

-- the first row of a list of values, and those behind it
pub record AreCut (xs ys : List Scalar) (v w : Scalar) (fs gs : List WrittenScalar) : Type 0 where
  pub args : xs ≡ ys
  pub value : v ≡ w
  pub more : fs ≡ gs

pub row_cut : (args : List Sort) (s : Sort) (xs ys : List Scalar) (v w : Scalar) (fs gs : List WrittenScalar) → AreOfKinds args xs → AreOfKinds args ys → IsOfKind s (value_of v) → IsOfKind s (value_of w)
    → (map written_scalar xs ++ written_scalar v ∷ []) ++ fs ≡ (map written_scalar ys ++ written_scalar w ∷ []) ++ gs → AreCut xs ys v w fs gs
row_cut [] s [] [] v w fs gs a b h k e =
    let p = cons_back (written_scalar v) (written_scalar w) fs gs e in
    record { args = refl; value = scalar_back s v w h k p.0; more = p.1 }
row_cut [] s [] (y ∷ ys) v w fs gs a b h k e = absurd b
row_cut [] s (x ∷ xs) ys v w fs gs a b h k e = absurd a
row_cut (r ∷ args) s [] ys v w fs gs a b h k e = absurd a
row_cut (r ∷ args) s (x ∷ xs) [] v w fs gs a b h k e = absurd b
row_cut (r ∷ args) s (x ∷ xs) (y ∷ ys) v w fs gs a b h k e =
    let p = cons_back (written_scalar x) (written_scalar y) _ _ e in
    let rest = row_cut args s xs ys v w fs gs a.1 b.1 h k p.1 in
    record { args = ap₂ (λ z zs. z ∷ zs) (scalar_back r x y a.0 b.0 p.0) rest.args; value = rest.value; more = rest.more }

pub some_row : (xs : List WrittenScalar) (v : WrittenScalar) (fs : List WrittenScalar) → [] ≡ (xs ++ v ∷ []) ++ fs → ⊥
some_row [] v fs e = let f : ⊥ = cc in f
some_row (x ∷ xs) v fs e = let f : ⊥ = cc in f

pub rows_back : (args : List Sort) (s : Sort) (rs qs : List Row) → AllByRecursion (IsRowOf args s) rs → AllByRecursion (IsRowOf args s) qs → flat_map row_scalars rs ≡ flat_map row_scalars qs → rs ≡ qs
rows_back args s [] [] a b e = refl
rows_back args s [] (q ∷ qs) a b e = absurd (some_row (map written_scalar q.args) (written_scalar q.value) (flat_map row_scalars qs) e)
rows_back args s (r ∷ rs) [] a b e = absurd (some_row (map written_scalar r.args) (written_scalar r.value) (flat_map row_scalars rs) (sym e))
rows_back args s (r ∷ rs) (q ∷ qs) a b e =
    let cut = row_cut args s r.args q.args r.value q.value (flat_map row_scalars rs) (flat_map row_scalars qs) a.0.0 b.0.0 a.0.1 b.0.1 e in
    let row : r ≡ q = (λ i. record { args = cut.args i; value = cut.value i }) in
    ap₂ (λ z zs. z ∷ zs) row (rows_back args s rs qs a.1 b.1 cut.more)

table_back : (g : Signature) (t u : TableFields) → IsTableOf g t → IsTableOf g u → written_scalar t.default ≡ written_scalar u.default → flat_map row_scalars t.rows ≡ flat_map row_scalars u.rows → t ≡ u
table_back g t u h k e f =
    let other = scalar_back g.value t.default u.default h.default k.default e in
    let rows = rows_back g.args g.value t.rows u.rows h.rows k.rows f in
    (λ i. record { default = other i; rows = rows i })

same_function : (g : Signature) (v w : Value) (x : WrittenValue) → IsFunctionOf g v → IsFunctionOf g w → written_value v ≡ Some x → written_value w ≡ Some x → v ≡ w
same_function g (held.Fun t) (held.Fun u) x a b p q =
    let e : Some (written.Fun (written_scalar t.default) (flat_map row_scalars t.rows)) ≡ Some (written.Fun (written_scalar u.default) (flat_map row_scalars u.rows)) = p ∙ sym q in
    let f : written_scalar t.default ≡ written_scalar u.default = cc in
    let h : flat_map row_scalars t.rows ≡ flat_map row_scalars u.rows = cc in
    ap held.Fun (table_back g t u a b f h)
same_function g (held.Bool c) w x a b p q = absurd a
same_function g (held.Word c) w x a b p q = absurd a
same_function g (held.Array c) w x a b p q = absurd a
same_function g v (held.Bool c) x a b p q = absurd b
same_function g v (held.Word c) x a b p q = absurd b
same_function g v (held.Array c) x a b p q = absurd b

same_of : (args : List Sort) (g : Signature) (v w : Value) (x : WrittenValue) → IsOfArguments args g v → IsOfArguments args g w → written_value v ≡ Some x → written_value w ≡ Some x → v ≡ w
same_of [] g v w x a b p q = same_kind g.value v w x a b p q
same_of (s ∷ ss) g v w x a b p q = same_function g v w x a b p q

pub same_value : (o : Option Signature) (v w : Value) (x : WrittenValue) → IsOfSignature v o → IsOfSignature w o → written_value v ≡ Some x → written_value w ≡ Some x → v ≡ w
same_value None v w x a b p q = absurd a
same_value (Some g) v w x a b p q = same_of g.args g v w x a b p q

-- ---- lines

decided_once : (P : Type 0) (a b k m : Judging) → Decides P a b k → Decides P a b m → k ≡ m
decided_once P a b k m (inl x) (inl y) = x.1 ∙ sym y.1
decided_once P a b k m (inl x) (inr y) = absurd (y.0 x.0)
decided_once P a b k m (inr x) (inl y) = absurd (x.0 y.0)
decided_once P a b k m (inr x) (inr y) = x.1 ∙ sym y.1

stepped_once : (j : Judging) (l : Line) (k m : Judging) → StepsBy j l k → StepsBy j l m → k ≡ m
stepped_once j l k m (inl x) (inl y) =
    let e = same_entry j.state l x.0 y.0 x.1.written y.1.written x.1.script y.1.script in
    x.2 ∙ ap (stepped j) e ∙ sym y.2
stepped_once j l k m (inl x) (inr y) = absurd (y.0 x.0 x.1)
stepped_once j l k m (inr x) (inl y) = absurd (x.0 y.0 y.1)
stepped_once j l k m (inr x) (inr y) = x.1 ∙ sym y.1

gone_once : (j : Judging) (left : List LiveName) (values : List (ℕ × Value)) (k m : Judging) → Goes j left values k → Goes j left values m → k ≡ m
gone_once j [] values k m a b = decided_once _ _ _ k m a b
gone_once j (next ∷ left) values k m a b = a ∙ sym b

begun_once : (j : Judging) (count : ℕ) (k m : Judging) → AtStep j (line.Sat count) k → AtStep j (line.Sat count) m → k ≡ m
begun_once j count k m (inl x) (inl y) = gone_once j _ _ k m x.1 y.1
begun_once j count k m (inl x) (inr y) = absurd (y.0 x.0)
begun_once j count k m (inr x) (inl y) = absurd (x.0 y.0)
begun_once j count k m (inr x) (inr y) = x.1 ∙ sym y.1

opened_once : (j : Judging) (cube start count : ℕ) (k m : Judging) → Opens j cube start count k → Opens j cube start count m → k ≡ m
opened_once j cube start zero k m x y = x ∙ sym y
opened_once j cube start (suc left) k m x y = decided_once _ _ _ k m x y

deleted_once : (format : Format) (j : Judging) (places : List ℕ) (k m : Judging) → Deletes format j places k → Deletes format j places m → k ≡ m
deleted_once One j places k m x y = x ∙ sym y
deleted_once Two j places k m x y = decided_once _ _ _ k m x y

at_step_once : (j : Judging) (l : Line) (k m : Judging) → AtStep j l k → AtStep j l m → k ≡ m
at_step_once j (line.Header f c b) k m x y = x ∙ sym y
at_step_once j (line.Term h args) k m x y = stepped_once j _ k m x y
at_step_once j (line.Leaf t) k m x y = stepped_once j _ k m x y
at_step_once j (line.Encode t) k m x y = stepped_once j _ k m x y
at_step_once j (line.Rewrite r t u) k m x y = stepped_once j _ k m x y
at_step_once j (line.Selector a) k m x y = stepped_once j _ k m x y
at_step_once j (line.Chain c hs) k m x y = stepped_once j _ k m x y
at_step_once j (line.Equal t u) k m x y = stepped_once j _ k m x y
at_step_once j (line.Congruence t u) k m x y = stepped_once j _ k m x y
at_step_once j (line.Witness t) k m x y = stepped_once j _ k m x y
at_step_once j (line.Accesses a b) k m x y = stepped_once j _ k m x y
at_step_once j (line.Delete ps) k m x y = deleted_once j.format j ps k m x y
at_step_once j (line.Sat n) k m x y = begun_once j n k m x y
at_step_once j (line.Value d w) k m x y = x ∙ sym y
at_step_once j (line.Unsat p) k m x y = decided_once _ _ _ k m x y
at_step_once j (line.Unknown c g n) k m x y = opened_once j c g n k m x y
at_step_once j (line.Take p) k m x y = x ∙ sym y
at_step_once j (line.Put p) k m x y = x ∙ sym y
at_step_once j (line.Drop p) k m x y = x ∙ sym y

one_value : (j : Judging) (next : LiveName) (left : List LiveName) (values : List (ℕ × Value)) (d : ℕ) (w : WrittenValue) (k m : Judging) → AtValue j next left values (line.Value d w) k → AtValue j next left values (line.Value d w) m → k ≡ m
one_value j next left values d w k m (inl x) (inl y) =
    let e = same_value (slice_get j.state.symbols.signatures d) x.0 y.0 w x.1.sorted y.1.sorted x.1.written y.1.written in
    gone_once j left (values ++ (d, y.0) ∷ []) k m (subst (λ v. Goes j left (values ++ (d, v) ∷ []) k) e x.2) y.2
one_value j next left values d w k m (inl x) (inr y) = absurd (y.0 x.0 x.1)
one_value j next left values d w k m (inr x) (inl y) = absurd (x.0 y.0 y.1)
one_value j next left values d w k m (inr x) (inr y) = x.1 ∙ sym y.1

at_value_once : (j : Judging) (next : LiveName) (left : List LiveName) (values : List (ℕ × Value)) (l : Line) (k m : Judging) → AtValue j next left values l k → AtValue j next left values l m → k ≡ m
at_value_once j next left values (line.Value d w) k m x y = one_value j next left values d w k m x y
at_value_once j next left values _ k m x y = x ∙ sym y

noted_once : (j : Judging) (cube start left : ℕ) (lines : List DiaryLine) (l : DiaryLine) (k m : Judging) → Notes j cube start left lines l k → Notes j cube start left lines l m → k ≡ m
noted_once j cube start zero lines l k m x y = decided_once _ _ _ k m x y
noted_once j cube start (suc left) lines l k m x y = decided_once _ _ _ k m x y

at_diary_once : (j : Judging) (cube start left : ℕ) (lines : List DiaryLine) (l : Line) (k m : Judging) → AtDiary j cube start left lines l k → AtDiary j cube start left lines l m → k ≡ m
at_diary_once j cube start left lines (line.Take p) k m x y = noted_once j cube start left lines (diary.Take p) k m x y
at_diary_once j cube start left lines (line.Put p) k m x y = noted_once j cube start left lines (diary.Put p) k m x y
at_diary_once j cube start left lines (line.Drop p) k m x y = noted_once j cube start left lines (diary.Drop p) k m x y
at_diary_once j cube start left lines _ k m x y = x ∙ sym y

pub moved_once : (o : Owed) (j : Judging) (l : Option Line) (k m : Judging) → MovesBy o j l k → MovesBy o j l m → k ≡ m
moved_once Nothing j l k m x y = x ∙ sym y
moved_once Steps j None k m x y = x ∙ sym y
moved_once Steps j (Some l) k m x y = at_step_once j l k m x y
moved_once (Values next left values) j None k m x y = x ∙ sym y
moved_once (Values next left values) j (Some l) k m x y = at_value_once j next left values l k m x y
moved_once (Noted cube start left lines) j None k m x y = x ∙ sym y
moved_once (Noted cube start left lines) j (Some l) k m x y = at_diary_once j cube start left lines l k m x y
moved_once (Over r) j l k m x y = x ∙ sym y

-- at most one thing is judged
pub judged_once : (ls : List (Option Line)) (j : Judging) (cs : List Reading) (o p : Option Refusal) → Judged j cs ls o → Judged j cs ls p → o ≡ p
judged_once [] j cs o p a b = a ∙ sym b
judged_once (l ∷ ls) j cs o p a b =
    let e = moved_once (reach j cs).0.owed (reach j cs).0 l a.0 b.0 a.1 b.1 in
    judged_once ls b.0 (reach j cs).1 o p (subst (λ k. Judged k (reach j cs).1 ls o) e a.2) b.2

-- a header has one format and one pair of limits
pub same_format : (l : Option Line) (f g : Format) (limits bounds : Limits) → IsHeader l f limits → IsHeader l g bounds → f ≡ g
same_format l f g limits bounds h k =
    let e : line.Header f limits.cubes limits.budget ≡ line.Header g bounds.cubes bounds.budget = same_found l _ _ h.written k.written in
    cc

pub same_limits : (l : Option Line) (f g : Format) (limits bounds : Limits) → IsHeader l f limits → IsHeader l g bounds → limits ≡ bounds
same_limits l f g limits bounds h k =
    let e : line.Header f limits.cubes limits.budget ≡ line.Header g bounds.cubes bounds.budget = same_found l _ _ h.written k.written in
    let c : limits.cubes ≡ bounds.cubes = cc in
    let b : limits.budget ≡ bounds.budget = cc in
    (λ i. record { cubes = c i; budget = b i })

-- so it is judged from one place on
pub same_start : (l : Option Line) (f g : Format) (limits bounds : Limits) → IsHeader l f limits → IsHeader l g bounds → judging_from f limits ≡ judging_from g bounds
same_start l f g limits bounds h k = ap₂ judging_from (same_format l f g limits bounds h k) (same_limits l f g limits bounds h k)

-- the same of whole proofs
pub proof_judged_once : (cs : List Reading) (ls : List (Option Line)) (o p : Option Refusal) → JudgedProof cs ls o → JudgedProof cs ls p → o ≡ p
proof_judged_once cs [] o p a b = a ∙ sym b
proof_judged_once cs (l ∷ ls) o p (inl x) (inl y) = judged_once ls (judging_from y.0 y.1) cs o p (subst (λ v. Judged v cs ls o) (same_start l x.0 y.0 x.1 y.1 x.2 y.2) x.3) y.3
proof_judged_once cs (l ∷ ls) o p (inl x) (inr y) = absurd (y.0 x.0 x.1 x.2)
proof_judged_once cs (l ∷ ls) o p (inr x) (inl y) = absurd (x.0 y.0 y.1 y.2)
proof_judged_once cs (l ∷ ls) o p (inr x) (inr y) = x.1 ∙ sym y.1
