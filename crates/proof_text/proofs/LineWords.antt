-- The words of a line are read exactly.
use Rattle.std.proofs.Common.{◌≡◌, ℕ, Bool, true, false, cond, List, [], ◌∷◌, ◌++◌, map, length, ◌<◌, arith, refl, sym, ap, subst, ◌∙◌, append-nil, codes, Some, None}
use Rattle.std.specs.Fmt.{decimal}
use Rattle.std.specs.Str.{bytes_eq}
use Rattle.proof_text.specs.declared.keyword.Keyword.{Keyword}
use Rattle.proof_text.specs.declared.keyword.Keyword.TheVariants as key
use Rattle.proof_text.specs.declared.keyword.LemmaKind.{LemmaKind}
use Rattle.proof_text.specs.declared.keyword.LemmaKind.TheVariants as kind
use Rattle.proof_text.specs.declared.list.WrittenAccess.{WrittenAccess}
use Rattle.proof_text.specs.declared.line.Format.{Format}
use Rattle.proof_text.specs.declared.line.Format.TheVariants.{One, Two}
use Rattle.proof_text.specs.declared.line.Line.{Line}
use Rattle.proof_text.specs.declared.line.Line.TheVariants as line
use Rattle.proof_text.specs.Lines.{with_number, head_words, literal_text, hint_text, access_words, format_text, words_of, IsNumber, IsHint, IsAccess, IsLine}
use Rattle.proof_text.specs.Reading.{◌>>=◌, look_up, number_in, number_at, ended, only_number, numbers_of, literals_at, hint_of, hints_of, chain_of, head_at, term_of, value_of, declared_of, exactly, access_at, accesses_of, two_numbers, one_number, lemma_names, lemma_by, lemma_of, formats, limits_of, header_of, deletion, delete_of, unknown_of, rewrite_of, keywords, line_by, line_of}
use Rattle.proof_text.proofs.Literals.{bind_is, bind_some, each_reads, each_says, ended_says, hint_reads, hint_says, literals_read, literals_say, number_at_says, number_in_reads, number_in_says, only_number_says, same_text}
use Rattle.proof_text.proofs.Heads.{head_reads, head_says, keyword_name, keyword_says, table_says}
use Rattle.proof_text.proofs.WrittenValues.{value_reads, value_says}
use Rattle.proof_text.proofs.Accesses.{moves_end, access_reads, access_ends, access_says}

-- ---- lines

pub record IsReadLine (ws : List (List ℕ)) (l : Line) : Type 0 where
  pub words : ws ≡ words_of l
  pub fits : IsLine l

accesses_read : (a b : WrittenAccess) → IsAccess a → IsAccess b → accesses_of (access_words a ++ codes "/" ∷ access_words b) ≡ Some (line.Accesses a b)
accesses_read a b h k =
    bind_is (access_at (access_words a ++ codes "/" ∷ access_words b)) (a, codes "/" ∷ access_words b)
    (λ r. exactly (codes "/") r.1 >>= λ q. access_at q >>= λ c. ended (line.Accesses r.0 c.0) c.1) (access_reads a (codes "/" ∷ access_words b) h (moves_end (access_words b)))
    ∙ bind_is (access_at (access_words b)) (b, []) (λ c. ended (line.Accesses a c.0) c.1) (access_ends b k)

format_reads : (f : Format) → look_up formats (format_text f) ≡ Some f
format_reads One = refl
format_reads Two = refl

pub words_read : (l : Line) → IsLine l → line_of (words_of l) ≡ Some l
words_read (line.Header f c b) h = rw (format_reads f, number_in_reads c h.0, number_in_reads b h.1) refl
words_read (line.Term head args) h = rw (head_reads head (map decimal args) h.0, each_reads number_in decimal IsNumber number_in_reads args h.1) refl
words_read (line.Leaf t) h = rw (number_in_reads t h) refl
words_read (line.Encode t) h = rw (number_in_reads t h) refl
words_read (line.Rewrite r t u) h = rw (number_in_reads r h.0, number_in_reads t h.1, number_in_reads u h.2) refl
words_read (line.Selector a) h = rw (number_in_reads a h) refl
words_read (line.Chain clause hints) h = rw (literals_read clause (map hint_text hints) h.0, each_reads hint_of hint_text IsHint hint_reads hints h.1) refl
words_read (line.Equal t u) h = rw (number_in_reads t h.0, number_in_reads u h.1) refl
words_read (line.Congruence t u) h = rw (number_in_reads t h.0, number_in_reads u h.1) refl
words_read (line.Witness t) h = rw (number_in_reads t h) refl
words_read (line.Accesses a b) h = accesses_read a b h.0 h.1
words_read (line.Delete []) h = absurd (let none = h.0 in omega arith)
words_read (line.Delete (p ∷ ps)) h = rw (each_reads number_in decimal IsNumber number_in_reads (p ∷ ps) h.1) refl
words_read (line.Sat n) h = rw (number_in_reads n h) refl
words_read (line.Value d v) h = rw (number_in_reads d h.0, value_reads v h.1) refl
words_read (line.Unsat p) h = rw (number_in_reads p h) refl
words_read (line.Unknown n g c) h = rw (number_in_reads n h.0, number_in_reads g h.1, number_in_reads c h.2) refl
words_read (line.Take p) h = rw (number_in_reads p h) refl
words_read (line.Put p) h = rw (number_in_reads p h) refl
words_read (line.Drop p) h = rw (number_in_reads p h) refl

exactly_says : (word : List ℕ) (ws rest : List (List ℕ)) → exactly word ws ≡ Some rest → ws ≡ word ∷ rest
exactly_says word [] rest e = absurd (let z : ⊥ = cc in z)
exactly_says word (w ∷ ws) rest e = exactly_by (bytes_eq w word) word w ws rest refl e
  where
    exactly_by : (q : Bool) (word w : List ℕ) (ws rest : List (List ℕ)) → bytes_eq w word ≡ q → cond q (Some ws) None ≡ Some rest → w ∷ ws ≡ word ∷ rest
    exactly_by true word w ws rest k e =
        let same : ws ≡ rest = cc in
        ap (λ v. v ∷ ws) (same_text w word k) ∙ ap (λ vs. word ∷ vs) same
    exactly_by false word w ws rest k e = absurd (let z : ⊥ = cc in z)

one_number_says : (make : ℕ → Line) (name : List ℕ) → ((n : ℕ) → words_of (make n) ≡ with_number name n) → ((n : ℕ) → IsNumber n → IsLine (make n))
    → (ws : List (List ℕ)) (l : Line) → one_number make ws ≡ Some l → IsReadLine (name ∷ ws) l
one_number_says make name words fits ws l e =
    let b = bind_some (only_number ws) (λ n. Some (make n)) l e in
    let same : make b.0 ≡ l = let q = b.2 in cc in
    let s = only_number_says ws b.0 b.1 in
    subst (IsReadLine (name ∷ ws)) same (record { words = ap (λ vs. name ∷ vs) s.words ∙ sym (words b.0); fits = fits b.0 s.bound })

format_says : (w : List ℕ) (f : Format) → look_up formats w ≡ Some f → w ≡ format_text f
format_says w f e = table_says format_text formats refl w f e

header_says : (ws : List (List ℕ)) (l : Line) → header_of ws ≡ Some l → IsReadLine (codes "smt_proof" ∷ ws) l
header_says [] l e = absurd (let z : ⊥ = cc in z)
header_says (w ∷ ws) l e =
    let a = bind_some (look_up formats w) (λ f. limits_of f ws) l e in
    let f = a.0 in
    let b = bind_some (exactly (codes "cubes") ws) _ l a.2 in
    let c = bind_some (number_at b.0) _ l b.2 in
    let d = bind_some (exactly (codes "budget") c.0.1) _ l c.2 in
    let n = bind_some (only_number d.0) (λ n. Some (line.Header f c.0.0 n)) l d.2 in
    let same : line.Header f c.0.0 n.0 ≡ l = let q = n.2 in cc in
    let s = number_at_says b.0 c.0 c.1 in
    let t = only_number_says d.0 n.0 n.1 in
    let one = format_says w f a.1 in
    let two = exactly_says (codes "cubes") ws b.0 b.1 in
    let three = exactly_says (codes "budget") c.0.1 d.0 d.1 in
    subst (IsReadLine (codes "smt_proof" ∷ w ∷ ws)) same
    (record {
      words = ap (λ v. codes "smt_proof" ∷ v ∷ ws) one
          ∙ ap (λ vs. codes "smt_proof" ∷ format_text f ∷ vs) two
          ∙ ap (λ vs. codes "smt_proof" ∷ format_text f ∷ codes "cubes" ∷ vs) s.words
          ∙ ap (λ vs. codes "smt_proof" ∷ format_text f ∷ codes "cubes" ∷ decimal c.0.0 ∷ vs) three
          ∙ ap (λ vs. codes "smt_proof" ∷ format_text f ∷ codes "cubes" ∷ decimal c.0.0 ∷ codes "budget" ∷ vs) t.words;
      fits = (s.bound, t.bound);
    })

deletion_says : (ps : List ℕ) (l : Line) → deletion ps ≡ Some l → (0 < length ps) × (line.Delete ps ≡ l)
deletion_says [] l e = absurd (let z : ⊥ = cc in z)
deletion_says (p ∷ ps) l e = (omega arith, let q : line.Delete (p ∷ ps) ≡ l = cc in q)

delete_says : (ws : List (List ℕ)) (l : Line) → delete_of ws ≡ Some l → IsReadLine (codes "d" ∷ ws) l
delete_says ws l e =
    let b = bind_some (numbers_of ws) (λ ps. deletion ps) l e in
    let d = deletion_says b.0 l b.2 in
    let t = each_says number_in decimal IsNumber number_in_says ws b.0 b.1 in
    subst (IsReadLine (codes "d" ∷ ws)) d.1 (record { words = ap (λ vs. codes "d" ∷ vs) t.0; fits = (d.0, t.1) })

term_says : (ws : List (List ℕ)) (l : Line) → term_of ws ≡ Some l → IsReadLine (codes "t" ∷ ws) l
term_says ws l e =
    let b = bind_some (head_at ws) (λ r. numbers_of r.1 >>= λ args. Some (line.Term r.0 args)) l e in
    let d = bind_some (numbers_of b.0.1) (λ args. Some (line.Term b.0.0 args)) l b.2 in
    let same : line.Term b.0.0 d.0 ≡ l = let q = d.2 in cc in
    let s = head_says ws b.0 b.1 in
    let t = each_says number_in decimal IsNumber number_in_says b.0.1 d.0 d.1 in
    subst (IsReadLine (codes "t" ∷ ws)) same
    (record { words = ap (λ vs. codes "t" ∷ vs) (s.words ∙ ap (λ vs. head_words b.0.0 ++ vs) t.0); fits = (s.fits, t.1) })

chain_says : (ws : List (List ℕ)) (l : Line) → chain_of ws ≡ Some l → IsReadLine (codes "c" ∷ ws) l
chain_says ws l e =
    let b = bind_some (literals_at ws) (λ r. hints_of r.1 >>= λ hs. Some (line.Chain r.0 hs)) l e in
    let d = bind_some (hints_of b.0.1) (λ hs. Some (line.Chain b.0.0 hs)) l b.2 in
    let same : line.Chain b.0.0 d.0 ≡ l = let q = d.2 in cc in
    let s = literals_say ws b.0 b.1 in
    let t = each_says hint_of hint_text IsHint hint_says b.0.1 d.0 d.1 in
    subst (IsReadLine (codes "c" ∷ ws)) same
    (record { words = ap (λ vs. codes "c" ∷ vs) (s.words ∙ ap (λ vs. map literal_text b.0.0 ++ (48 ∷ []) ∷ vs) t.0); fits = (s.each, t.1) })

declared_says : (ws : List (List ℕ)) (l : Line) → declared_of ws ≡ Some l → IsReadLine (codes "v" ∷ ws) l
declared_says ws l e =
    let b = bind_some (number_at ws) (λ r. value_of r.1 >>= λ v. Some (line.Value r.0 v)) l e in
    let d = bind_some (value_of b.0.1) (λ v. Some (line.Value b.0.0 v)) l b.2 in
    let same : line.Value b.0.0 d.0 ≡ l = let q = d.2 in cc in
    let s = number_at_says ws b.0 b.1 in
    let t = value_says b.0.1 d.0 d.1 in
    subst (IsReadLine (codes "v" ∷ ws)) same
    (record { words = ap (λ vs. codes "v" ∷ vs) (s.words ∙ ap (λ vs. decimal b.0.0 ∷ vs) t.words); fits = (s.bound, t.fits) })

unknown_says : (ws : List (List ℕ)) (l : Line) → unknown_of ws ≡ Some l → IsReadLine (codes "unknown" ∷ ws) l
unknown_says ws l e =
    let a = bind_some (number_at ws) (λ a. number_at a.1 >>= λ b. only_number b.1 >>= λ n. Some (line.Unknown a.0 b.0 n)) l e in
    let b = bind_some (number_at a.0.1) (λ b. only_number b.1 >>= λ n. Some (line.Unknown a.0.0 b.0 n)) l a.2 in
    let n = bind_some (only_number b.0.1) (λ n. Some (line.Unknown a.0.0 b.0.0 n)) l b.2 in
    let same : line.Unknown a.0.0 b.0.0 n.0 ≡ l = let q = n.2 in cc in
    let s = number_at_says ws a.0 a.1 in
    let t = number_at_says a.0.1 b.0 b.1 in
    let u = only_number_says b.0.1 n.0 n.1 in
    subst (IsReadLine (codes "unknown" ∷ ws)) same
    (record { words = ap (λ vs. codes "unknown" ∷ vs) (s.words ∙ ap (λ vs. decimal a.0.0 ∷ vs) (t.words ∙ ap (λ vs. decimal b.0.0 ∷ vs) u.words)); fits = (s.bound, t.bound, u.bound) })

rewrite_says : (ws : List (List ℕ)) (l : Line) → rewrite_of ws ≡ Some l → IsReadLine (codes "r" ∷ ws) l
rewrite_says ws l e =
    let a = bind_some (number_at ws) (λ a. number_at a.1 >>= λ b. only_number b.1 >>= λ n. Some (line.Rewrite a.0 b.0 n)) l e in
    let b = bind_some (number_at a.0.1) (λ b. only_number b.1 >>= λ n. Some (line.Rewrite a.0.0 b.0 n)) l a.2 in
    let n = bind_some (only_number b.0.1) (λ n. Some (line.Rewrite a.0.0 b.0.0 n)) l b.2 in
    let same : line.Rewrite a.0.0 b.0.0 n.0 ≡ l = let q = n.2 in cc in
    let s = number_at_says ws a.0 a.1 in
    let t = number_at_says a.0.1 b.0 b.1 in
    let u = only_number_says b.0.1 n.0 n.1 in
    subst (IsReadLine (codes "r" ∷ ws)) same
    (record { words = ap (λ vs. codes "r" ∷ vs) (s.words ∙ ap (λ vs. decimal a.0.0 ∷ vs) (t.words ∙ ap (λ vs. decimal b.0.0 ∷ vs) u.words)); fits = (s.bound, t.bound, u.bound) })

-- ---- lemmas

two_numbers_say : (make : ℕ → ℕ → Line) (front : List (List ℕ)) → ((t u : ℕ) → words_of (make t u) ≡ front ++ decimal t ∷ decimal u ∷ []) → ((t u : ℕ) → IsNumber t → IsNumber u → IsLine (make t u))
    → (ws : List (List ℕ)) (l : Line) → two_numbers make ws ≡ Some l → IsReadLine (front ++ ws) l
two_numbers_say make front words fits ws l e =
    let b = bind_some (number_at ws) (λ r. only_number r.1 >>= λ u. Some (make r.0 u)) l e in
    let d = bind_some (only_number b.0.1) (λ u. Some (make b.0.0 u)) l b.2 in
    let same : make b.0.0 d.0 ≡ l = let q = d.2 in cc in
    let s = number_at_says ws b.0 b.1 in
    let t = only_number_says b.0.1 d.0 d.1 in
    subst (IsReadLine (front ++ ws)) same
    (record { words = ap (λ vs. front ++ vs) (s.words ∙ ap (λ vs. decimal b.0.0 ∷ vs) t.words) ∙ sym (words b.0.0 d.0); fits = fits b.0.0 d.0 s.bound t.bound })

witness_says : (ws : List (List ℕ)) (l : Line) → one_number line.Witness ws ≡ Some l → IsReadLine (codes "l" ∷ codes "w" ∷ ws) l
witness_says ws l e =
    let b = bind_some (only_number ws) (λ n. Some (line.Witness n)) l e in
    let same : line.Witness b.0 ≡ l = let q = b.2 in cc in
    let s = only_number_says ws b.0 b.1 in
    subst (IsReadLine (codes "l" ∷ codes "w" ∷ ws)) same (record { words = ap (λ vs. codes "l" ∷ codes "w" ∷ vs) s.words; fits = s.bound })

accesses_say : (ws : List (List ℕ)) (l : Line) → accesses_of ws ≡ Some l → IsReadLine (codes "l" ∷ codes "a" ∷ ws) l
accesses_say ws l e =
    let a = bind_some (access_at ws) _ l e in
    let b = bind_some (exactly (codes "/") a.0.1) _ l a.2 in
    let c = bind_some (access_at b.0) (λ c. ended (line.Accesses a.0.0 c.0) c.1) l b.2 in
    let q = ended_says (line.Accesses a.0.0 c.0.0) l c.0.1 c.2 in
    let s = access_says ws a.0 a.1 in
    let t = access_says b.0 c.0 c.1 in
    let between = exactly_says (codes "/") a.0.1 b.0 b.1 in
    let last = t.words ∙ ap (λ vs. access_words c.0.0 ++ vs) q.1 ∙ append-nil (access_words c.0.0) in
    subst (IsReadLine (codes "l" ∷ codes "a" ∷ ws)) q.0
    (record {
      words = ap (λ vs. codes "l" ∷ codes "a" ∷ vs) (s.words ∙ ap (λ vs. access_words a.0.0 ++ vs) (between ∙ ap (λ vs. codes "/" ∷ vs) last));
      fits = (s.fits, t.fits);
    })

lemma_name : LemmaKind → List ℕ
lemma_name kind.Congruence = codes "c"
lemma_name kind.Witness = codes "w"
lemma_name kind.Accesses = codes "a"

lemma_name_says : (w : List ℕ) (k : LemmaKind) → look_up lemma_names w ≡ Some k → w ≡ lemma_name k
unfolding lemma_name
lemma_name_says w k e = table_says lemma_name lemma_names refl w k e

lemma_read : (k : LemmaKind) (ws : List (List ℕ)) (l : Line) → lemma_by k ws ≡ Some l → IsReadLine (codes "l" ∷ lemma_name k ∷ ws) l
unfolding lemma_name
lemma_read kind.Congruence ws l e = two_numbers_say line.Congruence (codes "l" ∷ codes "c" ∷ []) (λ t u. refl) (λ t u h k. (h, k)) ws l e
lemma_read kind.Witness ws l e = witness_says ws l e
lemma_read kind.Accesses ws l e = accesses_say ws l e

lemma_says : (ws : List (List ℕ)) (l : Line) → lemma_of ws ≡ Some l → IsReadLine (codes "l" ∷ ws) l
lemma_says [] l e = absurd (let z : ⊥ = cc in z)
lemma_says (w ∷ ws) l e =
    let b = bind_some (look_up lemma_names w) (λ k. lemma_by k ws) l e in
    subst (λ (v : List ℕ). IsReadLine (codes "l" ∷ v ∷ ws) l) (sym (lemma_name_says w b.0 b.1)) (lemma_read b.0 ws l b.2)

-- ---- all lines

keyword_read : (k : Keyword) (ws : List (List ℕ)) (l : Line) → line_by k ws ≡ Some l → IsReadLine (keyword_name k ∷ ws) l
unfolding keyword_name
keyword_read key.Header ws l e = header_says ws l e
keyword_read key.Term ws l e = term_says ws l e
keyword_read key.Leaf ws l e = one_number_says line.Leaf (codes "f") (λ n. refl) (λ n k. k) ws l e
keyword_read key.Encode ws l e = one_number_says line.Encode (codes "e") (λ n. refl) (λ n k. k) ws l e
keyword_read key.Rewrite ws l e = rewrite_says ws l e
keyword_read key.Selector ws l e = one_number_says line.Selector (codes "s") (λ n. refl) (λ n k. k) ws l e
keyword_read key.Chain ws l e = chain_says ws l e
keyword_read key.Equal ws l e = two_numbers_say line.Equal (codes "q" ∷ []) (λ t u. refl) (λ t u h k. (h, k)) ws l e
keyword_read key.Lemma ws l e = lemma_says ws l e
keyword_read key.Delete ws l e = delete_says ws l e
keyword_read key.Sat ws l e = one_number_says line.Sat (codes "sat") (λ n. refl) (λ n k. k) ws l e
keyword_read key.Value ws l e = declared_says ws l e
keyword_read key.Unsat ws l e = one_number_says line.Unsat (codes "unsat") (λ n. refl) (λ n k. k) ws l e
keyword_read key.Unknown ws l e = unknown_says ws l e
keyword_read key.Take ws l e = one_number_says line.Take (codes "=") (λ n. refl) (λ n k. k) ws l e
keyword_read key.Put ws l e = one_number_says line.Put (codes "+") (λ n. refl) (λ n k. k) ws l e
keyword_read key.Drop ws l e = one_number_says line.Drop (codes "-") (λ n. refl) (λ n k. k) ws l e

pub words_say : (ws : List (List ℕ)) (l : Line) → line_of ws ≡ Some l → IsReadLine ws l
words_say [] l e = absurd (let z : ⊥ = cc in z)
words_say (w ∷ ws) l e =
    let b = bind_some (look_up keywords w) (λ k. line_by k ws) l e in
    subst (λ (v : List ℕ). IsReadLine (v ∷ ws) l) (sym (keyword_says w b.0 b.1)) (keyword_read b.0 ws l b.2)
