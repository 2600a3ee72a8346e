-- Names and terms are read exactly.
use Rattle.std.proofs.Common.{◌≡◌, ℕ, ◌^◌, ◌<◌, Bool, true, false, cond, List, [], ◌∷◌, ◌++◌, refl, sym, ap, subst, ◌∙◌, arith, codes, Option, Some, None}
use Rattle.std.proofs.lemmas.Bool.{and_parts}
use Rattle.std.specs.Fmt.{decimal}
use Rattle.std.specs.List.{list_all}
use Rattle.std.specs.Str.{bytes_eq}
use Rattle.smt_terms.specs.declared.operator.Operator.{Operator}
use Rattle.smt_terms.specs.declared.operator.Operator.TheVariants as plain
use Rattle.proof_text.specs.Operators.{operator_names, name_of}
use Rattle.proof_text.specs.declared.keyword.Keyword.{Keyword}
use Rattle.proof_text.specs.declared.keyword.Keyword.TheVariants as key
use Rattle.proof_text.specs.declared.keyword.Indexed.{Indexed}
use Rattle.proof_text.specs.declared.keyword.Indexed.TheVariants as indexed
use Rattle.proof_text.specs.declared.line.Head.{Head}
use Rattle.proof_text.specs.declared.line.Head.TheVariants.{Plain, Word, Extract, ZeroExtend, SignExtend, RotateLeft, RotateRight, Repeat, Apply, ConstantArray}
use Rattle.proof_text.specs.Lines.{with_number, head_words, IsNumber, IsHead}
use Rattle.proof_text.specs.Reading.{◌>>=◌, look_up, number_of, number_at, wide_at, indexed_names, with_index, indexed_at, named_at, head_at, keywords}
use Rattle.proof_text.proofs.Numerals.{number_reads, number_says}
use Rattle.proof_text.proofs.Literals.{bind_some, number_at_says, number_in_reads, same_text}

-- ---- names

table_chosen : {A : Type 0} (name : A → List ℕ) (q : Bool) (x : List ℕ × A) (o : Option A) (w : List ℕ) (a : A) → bytes_eq w x.0 ≡ q → bytes_eq x.0 (name x.1) ≡ true → (o ≡ Some a → w ≡ name a) → cond q (Some x.1) o ≡ Some a → w ≡ name a
table_chosen name true x o w a k b ih e = same_text w x.0 k ∙ same_text x.0 (name x.1) b ∙ (let q : x.1 ≡ a = cc in ap name q)
table_chosen name false x o w a k b ih e = ih e

pub table_says : {A : Type 0} (name : A → List ℕ) (es : List (List ℕ × A)) → list_all (λ e. bytes_eq e.0 (name e.1)) es ≡ true → (w : List ℕ) (a : A) → look_up es w ≡ Some a → w ≡ name a
table_says name [] all w a e = absurd (let k : ⊥ = cc in k)
table_says name (x ∷ es) all w a e =
    let b = and_parts (bytes_eq x.0 (name x.1)) (list_all (λ e. bytes_eq e.0 (name e.1)) es) all in
    table_chosen name (bytes_eq w x.0) x (look_up es w) w a refl b.0 (table_says name es b.1 w a) e

operator_found : (op : Operator) → look_up operator_names (name_of op) ≡ Some op
operator_found plain.True = refl
operator_found plain.False = refl
operator_found plain.Not = refl
operator_found plain.And = refl
operator_found plain.Or = refl
operator_found plain.Xor = refl
operator_found plain.Implies = refl
operator_found plain.Ite = refl
operator_found plain.Equal = refl
operator_found plain.Bvnot = refl
operator_found plain.Bvneg = refl
operator_found plain.Bvadd = refl
operator_found plain.Bvsub = refl
operator_found plain.Bvmul = refl
operator_found plain.Bvand = refl
operator_found plain.Bvor = refl
operator_found plain.Bvxor = refl
operator_found plain.Bvnand = refl
operator_found plain.Bvnor = refl
operator_found plain.Bvxnor = refl
operator_found plain.Bvudiv = refl
operator_found plain.Bvurem = refl
operator_found plain.Bvsdiv = refl
operator_found plain.Bvsrem = refl
operator_found plain.Bvsmod = refl
operator_found plain.Bvshl = refl
operator_found plain.Bvlshr = refl
operator_found plain.Bvashr = refl
operator_found plain.Bvult = refl
operator_found plain.Bvule = refl
operator_found plain.Bvugt = refl
operator_found plain.Bvuge = refl
operator_found plain.Bvslt = refl
operator_found plain.Bvsle = refl
operator_found plain.Bvsgt = refl
operator_found plain.Bvsge = refl
operator_found plain.Bvcomp = refl
operator_found plain.Concat = refl
operator_found plain.Select = refl
operator_found plain.Store = refl
operator_found plain.Witness = refl

operator_says : (w : List ℕ) (op : Operator) → look_up operator_names w ≡ Some op → w ≡ name_of op
operator_says w op e = table_says name_of operator_names refl w op e

indexed_name : Indexed → List ℕ
indexed_name indexed.Word = codes "word"
indexed_name indexed.Extract = codes "extract"
indexed_name indexed.ZeroExtend = codes "zero_extend"
indexed_name indexed.SignExtend = codes "sign_extend"
indexed_name indexed.RotateLeft = codes "rotate_left"
indexed_name indexed.RotateRight = codes "rotate_right"
indexed_name indexed.Repeat = codes "repeat"
indexed_name indexed.Apply = codes "apply"
indexed_name indexed.ConstantArray = codes "const"

indexed_says : (w : List ℕ) (name : Indexed) → look_up indexed_names w ≡ Some name → w ≡ indexed_name name
unfolding indexed_name
indexed_says w name e = table_says indexed_name indexed_names refl w name e

unfoldable pub keyword_name : Keyword → List ℕ
keyword_name key.Header = codes "smt_proof"
keyword_name key.Term = codes "t"
keyword_name key.Leaf = codes "f"
keyword_name key.Encode = codes "e"
keyword_name key.Rewrite = codes "r"
keyword_name key.Selector = codes "s"
keyword_name key.Chain = codes "c"
keyword_name key.Equal = codes "q"
keyword_name key.Lemma = codes "l"
keyword_name key.Delete = codes "d"
keyword_name key.Sat = codes "sat"
keyword_name key.Value = codes "v"
keyword_name key.Unsat = codes "unsat"
keyword_name key.Unknown = codes "unknown"
keyword_name key.Take = codes "="
keyword_name key.Put = codes "+"
keyword_name key.Drop = codes "-"

pub keyword_says : (w : List ℕ) (k : Keyword) → look_up keywords w ≡ Some k → w ≡ keyword_name k
unfolding keyword_name
keyword_says w k e = table_says keyword_name keywords refl w k e

-- ---- terms

pub record StartsWithHead (ws : List (List ℕ)) (h : Head) (rest : List (List ℕ)) : Type 0 where
  pub words : ws ≡ head_words h ++ rest
  pub fits : IsHead h

wide_at_reads : (n : ℕ) (ws : List (List ℕ)) → n < 2 ^ 128 → wide_at (decimal n ∷ ws) ≡ Some (n, ws)
wide_at_reads n ws h = rw (number_reads (2 ^ 128) n (omega arith) h) refl

record StartsWithWide (ws : List (List ℕ)) (n : ℕ) (rest : List (List ℕ)) : Type 0 where
  words : ws ≡ decimal n ∷ rest
  bound : n < 2 ^ 128

wide_at_says : (ws : List (List ℕ)) (r : ℕ × List (List ℕ)) → wide_at ws ≡ Some r → StartsWithWide ws r.0 r.1
wide_at_says [] r e = absurd (let k : ⊥ = cc in k)
wide_at_says (w ∷ ws) r e =
    let b = bind_some (number_of (2 ^ 128) w) (λ n. Some (n, ws)) r e in
    let same : ◌≡◌ {A = ℕ × List (List ℕ)} (b.0, ws) r = let q = b.2 in cc in
    let s = number_says (2 ^ 128) w b.0 (omega arith) (omega arith) b.1 in
    subst (λ (x : ℕ × List (List ℕ)). StartsWithWide (w ∷ ws) x.0 x.1) same (record { words = ap (λ v. v ∷ ws) s.0; bound = s.1 })

pub head_reads : (h : Head) (ws : List (List ℕ)) → IsHead h → head_at (head_words h ++ ws) ≡ Some (h, ws)
head_reads (Plain op) ws k = rw (operator_found op) refl
head_reads (Word n x) ws k = rw (number_in_reads n k.0, number_reads (2 ^ 128) x (omega arith) k.1) refl
head_reads (Extract i j) ws k = rw (number_in_reads i k.0, number_in_reads j k.1) refl
head_reads (ZeroExtend i) ws k = rw (number_in_reads i k) refl
head_reads (SignExtend i) ws k = rw (number_in_reads i k) refl
head_reads (RotateLeft i) ws k = rw (number_in_reads i k) refl
head_reads (RotateRight i) ws k = rw (number_in_reads i k) refl
head_reads (Repeat i) ws k = rw (number_in_reads i k) refl
head_reads (Apply i) ws k = rw (number_in_reads i k) refl
head_reads (ConstantArray i) ws k = rw (number_in_reads i k) refl

with_index_says : (make : ℕ → Head) (name : List ℕ) → ((n : ℕ) → head_words (make n) ≡ with_number name n) → ((n : ℕ) → IsNumber n → IsHead (make n))
    → (ws : List (List ℕ)) (r : Head × List (List ℕ)) → with_index make ws ≡ Some r → StartsWithHead (name ∷ ws) r.0 r.1
with_index_says make name words fits ws r e =
    let b = bind_some (number_at ws) (λ q. Some (make q.0, q.1)) r e in
    let same : ◌≡◌ {A = Head × List (List ℕ)} (make b.0.0, b.0.1) r = let q = b.2 in cc in
    let s = number_at_says ws b.0 b.1 in
    subst (λ (x : Head × List (List ℕ)). StartsWithHead (name ∷ ws) x.0 x.1) same
    (record { words = ap (λ vs. name ∷ vs) s.words ∙ ap (λ vs. vs ++ b.0.1) (sym (words b.0.0)); fits = fits b.0.0 s.bound })

indexed_at_says : (name : Indexed) (ws : List (List ℕ)) (r : Head × List (List ℕ)) → indexed_at name ws ≡ Some r → StartsWithHead (indexed_name name ∷ ws) r.0 r.1
unfolding indexed_name
indexed_at_says indexed.Word ws r e =
    let b = bind_some (number_at ws) (λ q. wide_at q.1 >>= λ s. Some (Word q.0 s.0, s.1)) r e in
    let d = bind_some (wide_at b.0.1) (λ s. Some (Word b.0.0 s.0, s.1)) r b.2 in
    let same : ◌≡◌ {A = Head × List (List ℕ)} (Word b.0.0 d.0.0, d.0.1) r = let q = d.2 in cc in
    let s = number_at_says ws b.0 b.1 in
    let t = wide_at_says b.0.1 d.0 d.1 in
    subst (λ (x : Head × List (List ℕ)). StartsWithHead (codes "word" ∷ ws) x.0 x.1) same
    (record { words = ap (λ vs. codes "word" ∷ vs) (s.words ∙ ap (λ vs. decimal b.0.0 ∷ vs) t.words); fits = (s.bound, t.bound) })
indexed_at_says indexed.Extract ws r e =
    let b = bind_some (number_at ws) (λ q. number_at q.1 >>= λ s. Some (Extract q.0 s.0, s.1)) r e in
    let d = bind_some (number_at b.0.1) (λ s. Some (Extract b.0.0 s.0, s.1)) r b.2 in
    let same : ◌≡◌ {A = Head × List (List ℕ)} (Extract b.0.0 d.0.0, d.0.1) r = let q = d.2 in cc in
    let s = number_at_says ws b.0 b.1 in
    let t = number_at_says b.0.1 d.0 d.1 in
    subst (λ (x : Head × List (List ℕ)). StartsWithHead (codes "extract" ∷ ws) x.0 x.1) same
    (record { words = ap (λ vs. codes "extract" ∷ vs) (s.words ∙ ap (λ vs. decimal b.0.0 ∷ vs) t.words); fits = (s.bound, t.bound) })
indexed_at_says indexed.ZeroExtend ws r e = with_index_says ZeroExtend (codes "zero_extend") (λ n. refl) (λ n k. k) ws r e
indexed_at_says indexed.SignExtend ws r e = with_index_says SignExtend (codes "sign_extend") (λ n. refl) (λ n k. k) ws r e
indexed_at_says indexed.RotateLeft ws r e = with_index_says RotateLeft (codes "rotate_left") (λ n. refl) (λ n k. k) ws r e
indexed_at_says indexed.RotateRight ws r e = with_index_says RotateRight (codes "rotate_right") (λ n. refl) (λ n k. k) ws r e
indexed_at_says indexed.Repeat ws r e = with_index_says Repeat (codes "repeat") (λ n. refl) (λ n k. k) ws r e
indexed_at_says indexed.Apply ws r e = with_index_says Apply (codes "apply") (λ n. refl) (λ n k. k) ws r e
indexed_at_says indexed.ConstantArray ws r e = with_index_says ConstantArray (codes "const") (λ n. refl) (λ n k. k) ws r e

named_says : (o : Option Operator) (w : List ℕ) (ws : List (List ℕ)) (r : Head × List (List ℕ)) → look_up operator_names w ≡ o → named_at o w ws ≡ Some r → StartsWithHead (w ∷ ws) r.0 r.1
named_says (Some op) w ws r k e =
    let same : ◌≡◌ {A = Head × List (List ℕ)} (Plain op, ws) r = cc in
    subst (λ (x : Head × List (List ℕ)). StartsWithHead (w ∷ ws) x.0 x.1) same
    (record { words = ap (λ v. v ∷ ws) (operator_says w op k); fits = tt })
named_says None w ws r k e =
    let b = bind_some (look_up indexed_names w) (λ name. indexed_at name ws) r e in
    let same : w ≡ indexed_name b.0 = indexed_says w b.0 b.1 in
    subst (λ (v : List ℕ). StartsWithHead (v ∷ ws) r.0 r.1) (sym same) (indexed_at_says b.0 ws r b.2)

pub head_says : (ws : List (List ℕ)) (r : Head × List (List ℕ)) → head_at ws ≡ Some r → StartsWithHead ws r.0 r.1
head_says [] r e = absurd (let k : ⊥ = cc in k)
head_says (w ∷ ws) r e = named_says (look_up operator_names w) w ws r refl e
