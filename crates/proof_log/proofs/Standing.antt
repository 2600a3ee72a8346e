-- What a stored log stands for, before and after a step.
use Rattle.std.proofs.Common.{◌≡◌, ℕ, suc, ◌+◌, ◌<◌, ◌≤◌, Bool, true, false, List, [], ◌∷◌, ◌++◌, length, take, drop, Option, Some, None, Ok, refl, sym, ap, ◌∙◌, subst, ⊎_elim, arith, length-append}
use Rattle.std.specs.Prelude.{◌==◌, ◌&&◌, if◌then◌else◌, unwrap_or}
use Rattle.std.proofs.lemmas.Bool.{eq-eqb, ne_eqb}
use Rattle.std.proofs.lemmas.List.{take-append-drop, take-append-le}
use Rattle.std.proofs.Math.Seq.{take-length}
use Rattle.cnf_base.specs.Literals.{Literal, positive_of, true_literal}
use Rattle.cnf_base.specs.Choices.{equal_gates, equal_bit}
use Rattle.cnf_base.specs.Assignments.{AreBelow, fresh_bits}
use Rattle.cnf_base.specs.Gates.{gates_clauses}
use Rattle.cnf_base.specs.declared.clause.ClauseId.{ClauseId}
use Rattle.cnf_base.proofs.Lists.{each_append}
use Rattle.cnf_base.proofs.Options.{some_value}
use Rattle.smt_terms.specs.declared.sort.Sort.{Sort}
use Rattle.smt_terms.specs.declared.sort.Sort.TheVariants as sort
use Rattle.smt_terms.specs.declared.node.Node.{Node}
use Rattle.smt_terms.specs.Nodes.{node_at}
use Rattle.smt_terms.specs.Terms.{IsSort, IsTermList, sort_of}
use Rattle.smt_terms.specs.Values.{Value, value}
use Rattle.smt_terms.specs.Bits.{TermBits, bits_in, image_in, with_bits}
use Rattle.smt_terms.proofs.Widths.{sort_bounded}
use Rattle.bit_blast.specs.Blocks.{Block, block_of, EachShort}
use Rattle.bit_blast.specs.Meanings.{AreBitsOf}
use Rattle.theory_terms.specs.declared.lemma.Lemma.{Lemma}
use Rattle.theory_lemmas.specs.Clauses.{clause_of}
use Rattle.proof_log.specs.declared.equals.EqualRow.{EqualRow}
use Rattle.proof_log.specs.declared.entry.RuleUse.{RuleUse}
use Rattle.proof_log.specs.declared.entry.Entry.{Entry}
use Rattle.proof_log.specs.declared.entry.Entry.TheVariants as step
use Rattle.proof_log.specs.Pairs.{found, with_pair}
use Rattle.proof_log.specs.Logs.{Asserted, LogState, start, clause_at, entry_at, with_value, with_row, selector_clause, plain_width, leaf_width, IsStep, IsPair, leaf_after, block_after, selector_after, equal_after, rewrite_after, lemma_after, after, state_of, IsLog}
use Rattle.proof_log.specs.Meanings.{meaning, IsSound}
use Rattle.proof_log.specs.Stored.{LogValue, selector_in, literal_of, row_literal, equal_in, IsKept, Stands, clauses_of, with_leaf, with_block, with_lemma, with_rewrite, with_plain, HaveEqualBits, IsPairedBy, IsSelected}
use Rattle.proof_log.proofs.Placing.{entry_more, entry_last}
use Rattle.proof_log.proofs.Sound.{eqb_flip, pair_cases, log_suits, leaf_sort, log_is_sound}
use Rattle.proof_log.proofs.Staying.{state_from-append, steps_append, same_state, steps_longer}
use Rattle.proof_log.proofs.Ordered.{any_interpretation, log_is_ordered}

-- ---- what a table has at a number

pub value_here : {A : Type 0} (f : ℕ → Option A) (x : ℕ) (a : A) → with_value f x a x ≡ Some a
value_here f x a = ap (λ b. if b then Some a else f x) (eq-eqb x x refl)

-- where no literal is found, nothing is stored
pub no_literal : (o : Option Asserted) → literal_of o ≡ None → o ≡ None
no_literal None e = refl
no_literal (Some r) e = let q : ⊥ = cc in absurd q

-- the assertion whose literal is found
pub some_literal : (o : Option Asserted) (l : Literal) → literal_of o ≡ Some l → (r : Asserted) × (o ≡ Some r) × (r.literal ≡ l)
some_literal None l e = let q : ⊥ = cc in absurd q
some_literal (Some r) l e = let q : r.literal ≡ l = cc in (r, refl, q)

-- ---- more terms

pub kept_longer : (nodes more : List Node) (l : LogValue) → IsTermList nodes → IsKept nodes l → IsKept (nodes ++ more) l
kept_longer nodes more l all k =
    let e : state_of nodes l.entries ≡ state_of (nodes ++ more) l.entries = sym (same_state nodes more start l.entries k.steps) in
    record {
      steps = steps_longer nodes more all start l.entries k.steps;
      next = k.next ∙ ap (λ s. s.next) e;
      bits = λ t. k.bits t ∙ ap (λ s. s.bits t) e;
      images = λ t. k.images t ∙ ap (λ s. s.images t) e;
      selectors = λ a. k.selectors a ∙ ap (λ s. literal_of (s.selectors a)) e;
      equals = λ t u. k.equals t u ∙ ap (λ s. s.equals t u) e;
      pairs = k.pairs;
      clauses = k.clauses ∙ ap (λ s. s.clauses) e;
      short = k.short;
    }

-- what is kept stands over all terms
pub stands_over : (nodes : List Node) (l : LogValue) → Stands nodes l → IsKept nodes l
stands_over nodes l h =
    subst (λ ns. IsKept ns l) (take-append-drop l.over nodes) (kept_longer (take l.over nodes) (drop l.over nodes) l h.terms h.kept)

pub stands_all : (nodes : List Node) (l : LogValue) → l.over ≡ length nodes → IsTermList nodes → IsKept nodes l → Stands nodes l
stands_all nodes l e all k =
    let whole = sym (ap (λ n. take n nodes) e ∙ take-length nodes) in
    record {
      within = omega arith;
      terms = subst IsTermList whole all;
      kept = subst (λ ns. IsKept ns l) whole k;
    }

pub stands_longer : (nodes more : List Node) (l : LogValue) → Stands nodes l → Stands (nodes ++ more) l
stands_longer nodes more l h =
    let same = sym (take-append-le l.over nodes more h.within) in
    record {
      within = omega (arith, h.within, length-append nodes more);
      terms = subst IsTermList same h.terms;
      kept = subst (λ ns. IsKept ns l) same h.kept;
    }

-- ---- widths

sort_bits : (f : ℕ → Bool) (s : Sort) (b : List Literal) (v : Value) → AreBitsOf f s b v → plain_width s ≡ Some (length b)
sort_bits f sort.Bool b v h = ap (λ c. Some (length c)) (sym h.1)
sort_bits f (sort.Word n) b v h = ap Some (sym h.0)
sort_bits f (sort.Array n m) b v h = absurd h

-- the bits of a term are as many as its sort has
pub bits_width : (nodes : List Node) (log : List Entry) (t : ℕ) (b : List Literal) → IsTermList nodes → IsLog nodes log → (state_of nodes log).bits t ≡ Some b → plain_width (sort_of nodes t) ≡ Some (length b)
bits_width nodes log t b all i e =
    let h = log_suits any_interpretation nodes all log i in
    sort_bits (meaning any_interpretation nodes log) (sort_of nodes t) b (value any_interpretation nodes t) (h.bits t b e).1

pub width_small : (s : Sort) (n : ℕ) → IsSort s → plain_width s ≡ Some n → n ≤ 128
width_small sort.Bool n h e = let q : 1 ≡ n = cc in omega arith
width_small (sort.Word m) n h e = let q : m ≡ n = cc in omega (arith, h.1)
width_small (sort.Array m k) n h e = let q : ⊥ = cc in absurd q

bits_short : (nodes : List Node) (log : List Entry) (t : ℕ) (b : List Literal) → IsTermList nodes → IsLog nodes log → (state_of nodes log).bits t ≡ Some b → length b ≤ 128
bits_short nodes log t b all i e =
    let h = log_suits any_interpretation nodes all log i in
    width_small (sort_of nodes t) (length b) (sort_bounded nodes all t (h.terms t b e)) (bits_width nodes log t b all i e)

-- a leaf has 128 bits at most
pub leaf_small : (nodes : List Node) (t n : ℕ) → IsTermList nodes → t < length nodes → leaf_width nodes t ≡ Some n → n ≤ 128
leaf_small nodes t n all within e =
    width_small (sort_of nodes t) n (sort_bounded nodes all t within) (leaf_sort nodes t n all e)

-- ---- one step more

-- a term's new bits are the last, whether its own or those of an image
bits_more : (held : List TermBits) (t : ℕ) (row : List Literal) (o : Option ℕ) (u : ℕ) → bits_in held t ≡ None → bits_in (held ++ record { term = t; bits = row; image = o } ∷ []) u ≡ with_value (bits_in held) t row u
bits_more [] t row o u n = ap (λ b. if b then Some row else None) (eqb_flip t u)
bits_more (e ∷ held) t row o u n = go (e.term == u) (e.term == t) refl refl n (bits_more held t row o u)
  where
    go : (b c : Bool) → (e.term == u) ≡ b → (e.term == t) ≡ c → (if c then Some e.bits else bits_in held t) ≡ None
        → (bits_in held t ≡ None → bits_in (held ++ record { term = t; bits = row; image = o } ∷ []) u ≡ with_value (bits_in held) t row u)
        → (if b then Some e.bits else bits_in (held ++ record { term = t; bits = row; image = o } ∷ []) u) ≡ (if u == t then Some row else (if b then Some e.bits else bits_in held u))
    go b true p q m rest = let f : ⊥ = cc in absurd f
    go true false p q m rest =
        let ne : u ≡ t → ⊥ = λ x. (let r : (e.term == t) ≡ true = ap (λ w. e.term == w) (sym x) ∙ p in let f : ⊥ = cc in f) in
        sym (ap (λ b. if b then Some row else Some e.bits) (ne_eqb u t ne))
    go false false p q m rest = rest m

-- bits of its own give a term no image
own_image : (held : List TermBits) (t : ℕ) (row : List Literal) (u : ℕ) → image_in (with_bits held t row) u ≡ image_in held u
own_image [] t row u = go (t == u)
  where
    go : (b : Bool) → (let o : Option ℕ = if b then None else None in o) ≡ None
    go true = refl
    go false = refl
own_image (e ∷ held) t row u = ap (λ o. if e.term == u then e.image else o) (own_image held t row u)

-- the bits of another give it that one as its image
linked_image : (held : List TermBits) (t : ℕ) (row : List Literal) (w u : ℕ) → bits_in held t ≡ None → image_in (held ++ record { term = t; bits = row; image = Some w } ∷ []) u ≡ with_value (image_in held) t w u
linked_image [] t row w u n = ap (λ b. if b then Some w else None) (eqb_flip t u)
linked_image (e ∷ held) t row w u n = go (e.term == u) (e.term == t) refl refl n (linked_image held t row w u)
  where
    go : (b c : Bool) → (e.term == u) ≡ b → (e.term == t) ≡ c → (if c then Some e.bits else bits_in held t) ≡ None
        → (bits_in held t ≡ None → image_in (held ++ record { term = t; bits = row; image = Some w } ∷ []) u ≡ with_value (image_in held) t w u)
        → (if b then e.image else image_in (held ++ record { term = t; bits = row; image = Some w } ∷ []) u) ≡ (if u == t then Some w else (if b then e.image else image_in held u))
    go b true p q m rest = let f : ⊥ = cc in absurd f
    go true false p q m rest =
        let ne : u ≡ t → ⊥ = λ x. (let r : (e.term == t) ≡ true = ap (λ z. e.term == z) (sym x) ∙ p in let f : ⊥ = cc in f) in
        sym (ap (λ b. if b then Some w else e.image) (ne_eqb u t ne))
    go false false p q m rest = rest m

short_more : (held : List TermBits) (t : ℕ) (row : List Literal) (o : Option ℕ) → EachShort held → length row ≤ 128 → EachShort (held ++ record { term = t; bits = row; image = o } ∷ [])
short_more held t row o h le = each_append (λ e. length e.bits ≤ 128) held (record { term = t; bits = row; image = o } ∷ []) h (le, tt)

same_value : {A : Type 0} (f g : ℕ → Option A) (t : ℕ) (row : A) (u : ℕ) → f u ≡ g u → with_value f t row u ≡ with_value g t row u
same_value f g t row u e = ap (λ o. if u == t then Some row else o) e

-- the stored log has what the state has
pub record Matches (l : LogValue) (s : LogState) : Type 0 where
  pub next : l.next ≡ s.next
  pub bits : (t : ℕ) → bits_in l.bits t ≡ s.bits t
  pub images : (t : ℕ) → image_in l.bits t ≡ s.images t
  pub selectors : (a : ℕ) → selector_in l.selectors a ≡ literal_of (s.selectors a)
  pub equals : (t u : ℕ) → equal_in l.equals t u ≡ s.equals t u
  pub clauses : l.clauses ≡ s.clauses

-- each equality that is kept stands at its position
abbrev pub ArePairs : LogValue → Type 0
ArePairs l = (t u : ℕ) (r : EqualRow) → found l.equals t u ≡ Some r → entry_at l.entries r.place ≡ Some (step.Equal t u)

-- one step more leaves them
pairs_longer : (l new : LogValue) (e : Entry) → new.entries ≡ l.entries ++ e ∷ [] → new.equals ≡ l.equals → ArePairs l → ArePairs new
pairs_longer l new e more same h t u r q =
    ap (λ es. entry_at es r.place) more ∙ entry_more l.entries e (step.Equal t u) r.place (h t u r (sym (ap (λ f. found f t u) same) ∙ q))

goes_on : (nodes : List Node) (log : List Entry) (e : Entry) → state_of nodes (log ++ e ∷ []) ≡ after nodes (state_of nodes log) e
goes_on nodes log e = state_from-append nodes start log (e ∷ [])

-- a step that is kept with what it leaves
kept_after : (nodes : List Node) (l new : LogValue) (e : Entry) → IsKept nodes l → IsStep nodes (state_of nodes l.entries) e → new.entries ≡ l.entries ++ e ∷ [] → ArePairs new → Matches new (after nodes (state_of nodes l.entries) e) → EachShort new.bits → IsKept nodes new
kept_after nodes l new e k i ee pairs m short =
    let g : after nodes (state_of nodes l.entries) e ≡ state_of nodes new.entries = sym (ap (state_of nodes) ee ∙ goes_on nodes l.entries e) in
    record {
      steps = subst (IsLog nodes) (sym ee) (steps_append nodes start l.entries (e ∷ []) k.steps (i, tt));
      next = m.next ∙ ap (λ s. s.next) g;
      bits = λ t. m.bits t ∙ ap (λ s. s.bits t) g;
      images = λ t. m.images t ∙ ap (λ s. s.images t) g;
      selectors = λ a. m.selectors a ∙ ap (λ s. literal_of (s.selectors a)) g;
      equals = λ t u. m.equals t u ∙ ap (λ s. s.equals t u) g;
      pairs = pairs;
      clauses = m.clauses ∙ ap (λ s. s.clauses) g;
      short = short;
    }

-- the bits that a step gives are 128 at most
new_short : (nodes : List Node) (l : LogValue) (e : Entry) (t : ℕ) (row : List Literal) → IsTermList nodes → IsKept nodes l → IsStep nodes (state_of nodes l.entries) e → (after nodes (state_of nodes l.entries) e).bits t ≡ Some row → length row ≤ 128
new_short nodes l e t row all k i b =
    bits_short nodes (l.entries ++ e ∷ []) t row all (steps_append nodes start l.entries (e ∷ []) k.steps (i, tt))
    (ap (λ s. s.bits t) (goes_on nodes l.entries e) ∙ b)

pub kept_plain : (nodes : List Node) (l : LogValue) (e : Entry) → IsKept nodes l → IsStep nodes (state_of nodes l.entries) e → after nodes (state_of nodes l.entries) e ≡ with_row (state_of nodes l.entries) (clauses_of e []) → IsKept nodes (with_plain l (length nodes) e)
kept_plain nodes l e k i a =
    kept_after nodes l (with_plain l (length nodes) e) e k i refl (pairs_longer l (with_plain l (length nodes) e) e refl refl k.pairs)
    (subst (Matches (with_plain l (length nodes) e)) (sym a) (record { next = k.next; bits = k.bits; images = k.images; selectors = k.selectors; equals = k.equals; clauses = ap (λ cs. cs ++ clauses_of e [] ∷ []) k.clauses }))
    k.short

pub kept_leaf : (nodes : List Node) (l : LogValue) (t n : ℕ) → IsTermList nodes → IsKept nodes l → IsStep nodes (state_of nodes l.entries) (step.Leaf t) → leaf_width nodes t ≡ Some n → IsKept nodes (with_leaf l (length nodes) t n)
kept_leaf nodes l t n all k i w =
    let s = state_of nodes l.entries in
    let goes : leaf_after (state_of nodes l.entries) t (Some n) ≡ leaf_after (state_of nodes l.entries) t (leaf_width nodes t) = ap (leaf_after s t) (sym w) in
    let here : (after nodes (state_of nodes l.entries) (step.Leaf t)).bits t ≡ Some (fresh_bits (state_of nodes l.entries).next n) = ap (λ r. r.bits t) (sym goes) ∙ value_here s.bits t (fresh_bits s.next n) in
    let none : bits_in l.bits t ≡ None = k.bits t ∙ i.new in
    let new = with_leaf l (length nodes) t n in
    let row : fresh_bits l.next n ≡ fresh_bits (state_of nodes l.entries).next n = ap (λ x. fresh_bits x n) k.next in
    kept_after nodes l (with_leaf l (length nodes) t n) (step.Leaf t) k i refl (pairs_longer l (with_leaf l (length nodes) t n) (step.Leaf t) refl refl k.pairs)
    (subst (Matches new) goes (record {
      next = ap (λ x. x + n) k.next;
      bits = λ u. bits_more l.bits t (fresh_bits l.next n) None u none ∙ same_value (bits_in l.bits) s.bits t (fresh_bits l.next n) u (k.bits u) ∙ ap (λ r. with_value s.bits t r u) row;
      images = λ u. own_image l.bits t (fresh_bits l.next n) u ∙ k.images u;
      selectors = k.selectors;
      equals = k.equals;
      clauses = ap (λ cs. cs ++ [] ∷ []) k.clauses;
    }))
    (short_more l.bits t (fresh_bits l.next n) None k.short (subst (λ r. length r ≤ 128) (sym row) (new_short nodes l (step.Leaf t) t _ all k i here)))

pub kept_block : (nodes : List Node) (l : LogValue) (t : ℕ) (b : Block) → IsTermList nodes → IsKept nodes l → IsStep nodes (state_of nodes l.entries) (step.Encode t) → block_of (state_of nodes l.entries).next (state_of nodes l.entries).bits (node_at nodes t) ≡ Some b → IsKept nodes (with_block l (length nodes) t b)
kept_block nodes l t b all k i w =
    let s = state_of nodes l.entries in
    let goes : block_after (state_of nodes l.entries) t (Some b) ≡ block_after (state_of nodes l.entries) t (block_of (state_of nodes l.entries).next (state_of nodes l.entries).bits (node_at nodes t)) = ap (block_after s t) (sym w) in
    let here : (after nodes (state_of nodes l.entries) (step.Encode t)).bits t ≡ Some b.bits = ap (λ r. r.bits t) (sym goes) ∙ value_here s.bits t b.bits in
    let none : bits_in l.bits t ≡ None = k.bits t ∙ i.new in
    kept_after nodes l (with_block l (length nodes) t b) (step.Encode t) k i refl (pairs_longer l (with_block l (length nodes) t b) (step.Encode t) refl refl k.pairs)
    (subst (Matches (with_block l (length nodes) t b)) goes (record {
      next = ap (λ x. x + length b.gates) k.next;
      bits = λ u. bits_more l.bits t b.bits None u none ∙ same_value (bits_in l.bits) s.bits t b.bits u (k.bits u);
      images = λ u. own_image l.bits t b.bits u ∙ k.images u;
      selectors = k.selectors;
      equals = k.equals;
      clauses = ap (λ cs. cs ++ gates_clauses l.next b.gates ∷ []) k.clauses ∙ ap (λ x. s.clauses ++ gates_clauses x b.gates ∷ []) k.next;
    }))
    (short_more l.bits t b.bits None k.short (new_short nodes l (step.Encode t) t b.bits all k i here))

literal_more : (f : ℕ → Option Literal) (g : ℕ → Option Asserted) (a : ℕ) (r : Asserted) (x : ℕ) → f x ≡ literal_of (g x) → with_value f a r.literal x ≡ literal_of (with_value g a r x)
literal_more f g a r x e = go (x == a)
  where
    go : (b : Bool) → (if b then Some r.literal else f x) ≡ literal_of (if b then Some r else g x)
    go true = refl
    go false = e

pub kept_selector : (nodes : List Node) (l new : LogValue) (a t : ℕ) (bit : Literal) → IsKept nodes l → IsStep nodes (state_of nodes l.entries) (step.Selector a t) → (state_of nodes l.entries).bits t ≡ Some (bit ∷ []) → IsSelected l new (length nodes) a t bit → IsKept nodes new
kept_selector nodes l new a t bit k i w h =
    let s = state_of nodes l.entries in
    let goes : selector_after (state_of nodes l.entries) a t (Some (bit ∷ [])) ≡ selector_after (state_of nodes l.entries) a t ((state_of nodes l.entries).bits t) = ap (selector_after s a t) (sym w) in
    kept_after nodes l new (step.Selector a t) k i h.entries (pairs_longer l new (step.Selector a t) h.entries h.equals k.pairs)
    (subst (Matches new) goes (record {
      next = h.next ∙ ap suc k.next;
      bits = λ u. ap (λ b. bits_in b u) h.bits ∙ k.bits u;
      images = λ u. ap (λ b. image_in b u) h.bits ∙ k.images u;
      selectors = λ x.
          h.selectors x ∙ ap (λ n. with_value (selector_in l.selectors) a (positive_of n) x) k.next
          ∙ literal_more (selector_in l.selectors) s.selectors a (record { literal = positive_of s.next; term = t }) x (k.selectors x);
      equals = λ x y. ap (λ f. equal_in f x y) h.equals ∙ k.equals x y;
      clauses = h.clauses ∙ ap (λ n. l.clauses ++ (selector_clause n bit ∷ []) ∷ []) k.next ∙ ap (λ cs. cs ++ (selector_clause s.next bit ∷ []) ∷ []) k.clauses;
    }))
    (subst EachShort (sym h.bits) k.short)

-- both terms of a pair have bits, as many
pub pair_bits : (nodes : List Node) (l : LogValue) (t u : ℕ) → IsTermList nodes → IsKept nodes l → IsPair nodes (state_of nodes l.entries) t u → HaveEqualBits l.bits t u
pair_bits nodes l t u all k p =
    let s = state_of nodes l.entries in
    let a = some_value ((state_of nodes l.entries).bits t) p.left in
    let b = some_value ((state_of nodes l.entries).bits u) p.right in
    let first = bits_width nodes l.entries t a.0 all k.steps a.1 in
    let second = bits_width nodes l.entries u b.0 all k.steps b.1 in
    let whole : Some (length a.0) ≡ Some (length b.0) = sym first ∙ ap plain_width p.sort ∙ second in
    let same : length a.0 ≡ length b.0 = cc in
    (a.0, b.0, k.bits t ∙ a.1, k.bits u ∙ b.1, same)

-- one equality more, which is the last step's
pairs_push : (l : LogValue) (t u : ℕ) (r : Literal) → ArePairs l → (x y : ℕ) (q : EqualRow) → with_pair (found l.equals) t u (record { literal = r; place = suc (length l.entries) }) x y ≡ Some q → entry_at (l.entries ++ step.Equal t u ∷ []) q.place ≡ Some (step.Equal x y)
pairs_push l t u r h x y q e =
    ⊎_elim
    (λ p. ap (λ (k : EqualRow). entry_at (l.entries ++ step.Equal t u ∷ []) k.place) (sym p.2) ∙ entry_last l.entries (step.Equal t u) ∙ ap (λ z. Some (step.Equal z u)) (sym p.0) ∙ ap (λ z. Some (step.Equal x z)) (sym p.1))
    (λ p. entry_more l.entries (step.Equal t u) (step.Equal x y) q.place (h x y q p))
    (pair_cases (found l.equals) t u (record { literal = r; place = suc (length l.entries) }) x y q e)

-- one literal more
pair_literal : (f : ℕ → ℕ → Option EqualRow) (g : ℕ → ℕ → Option Literal) (t u : ℕ) (r : EqualRow) (x y : ℕ) → row_literal (f x y) ≡ g x y → row_literal (with_pair f t u r x y) ≡ with_pair g t u r.literal x y
pair_literal f g t u r x y e = go ((x == t) && (y == u))
  where
    go : (c : Bool) → row_literal (if c then Some r else f x y) ≡ (if c then Some r.literal else g x y)
    go true = refl
    go false = e

pub kept_equal : (nodes : List Node) (l new : LogValue) (t u : ℕ) (a b : List Literal) → IsKept nodes l → IsStep nodes (state_of nodes l.entries) (step.Equal t u) → bits_in l.bits t ≡ Some a → bits_in l.bits u ≡ Some b → IsPairedBy l new (length nodes) t u a b → IsKept nodes new
kept_equal nodes l new t u a b k i e f h =
    let s = state_of nodes l.entries in
    let first : (state_of nodes l.entries).bits t ≡ Some a = sym (k.bits t) ∙ e in
    let second : (state_of nodes l.entries).bits u ≡ Some b = sym (k.bits u) ∙ f in
    let goes : equal_after (state_of nodes l.entries) t u (Some a) (Some b) ≡ equal_after (state_of nodes l.entries) t u ((state_of nodes l.entries).bits t) ((state_of nodes l.entries).bits u) =
    ap (equal_after s t u (Some a)) (sym second) ∙ ap (λ o. equal_after s t u o (s.bits u)) (sym first) in
    let row : EqualRow = record { literal = equal_bit l.next true_literal a b; place = suc (length l.entries) } in
    kept_after nodes l new (step.Equal t u) k i h.entries
    (λ x y q g. ap (λ es. entry_at es q.place) h.entries ∙ pairs_push l t u (equal_bit l.next true_literal a b) k.pairs x y q (sym (h.equals x y) ∙ g))
    (subst (Matches new) goes (record {
      next = h.next ∙ ap (λ n. n + length (equal_gates n true_literal a b)) k.next;
      bits = λ x. ap (λ bs. bits_in bs x) h.bits ∙ k.bits x;
      images = λ x. ap (λ bs. image_in bs x) h.bits ∙ k.images x;
      selectors = λ x. ap (λ ss. selector_in ss x) h.selectors ∙ k.selectors x;
      equals = λ x y. ap row_literal (h.equals x y) ∙ pair_literal (found l.equals) s.equals t u row x y (k.equals x y) ∙ ap (λ n. with_pair s.equals t u (equal_bit n true_literal a b) x y) k.next;
      clauses =
          h.clauses
          ∙ ap (λ cs. cs ++ gates_clauses l.next (equal_gates l.next true_literal a b) ∷ []) k.clauses
          ∙ ap (λ n. s.clauses ++ gates_clauses n (equal_gates n true_literal a b) ∷ []) k.next;
    }))
    (subst EachShort (sym h.bits) k.short)

pub kept_lemma : (nodes : List Node) (l : LogValue) (a : Lemma) (c : List Literal) → IsKept nodes l → IsStep nodes (state_of nodes l.entries) (step.Lemma a) → clause_of nodes (state_of nodes l.entries).bits (state_of nodes l.entries).equals a ≡ Ok c → IsKept nodes (with_lemma l (length nodes) a c)
kept_lemma nodes l a c k i e =
    let s = state_of nodes l.entries in
    let goes : with_row (state_of nodes l.entries) (c ∷ []) ≡ after nodes (state_of nodes l.entries) (step.Lemma a) = ap (lemma_after s) (sym e) in
    kept_after nodes l (with_lemma l (length nodes) a c) (step.Lemma a) k i refl (pairs_longer l (with_lemma l (length nodes) a c) (step.Lemma a) refl refl k.pairs)
    (subst (Matches (with_lemma l (length nodes) a c)) goes (record { next = k.next; bits = k.bits; images = k.images; selectors = k.selectors; equals = k.equals; clauses = ap (λ cs. cs ++ (c ∷ []) ∷ []) k.clauses }))
    k.short

-- a term with the bits of the one to which a rule takes it
pub kept_rewrite : (nodes : List Node) (l : LogValue) (r : RuleUse) → IsTermList nodes → IsKept nodes l → IsStep nodes (state_of nodes l.entries) (step.Rewrite r) → IsKept nodes (with_rewrite l (length nodes) r)
kept_rewrite nodes l r all k i =
    let s = state_of nodes l.entries in
    let b = some_value ((state_of nodes l.entries).bits r.to) i.held in
    let goes : rewrite_after (state_of nodes l.entries) r (Some b.0) ≡ rewrite_after (state_of nodes l.entries) r ((state_of nodes l.entries).bits r.to) = ap (rewrite_after s r) (sym b.1) in
    let here : (after nodes (state_of nodes l.entries) (step.Rewrite r)).bits r.from ≡ Some b.0 = ap (λ x. x.bits r.from) (sym goes) ∙ value_here s.bits r.from b.0 in
    let none : bits_in l.bits r.from ≡ None = k.bits r.from ∙ i.new in
    let row : unwrap_or (bits_in l.bits r.to) [] ≡ b.0 = ap (λ o. unwrap_or o []) (k.bits r.to ∙ b.1) in
    kept_after nodes l (with_rewrite l (length nodes) r) (step.Rewrite r) k i refl (pairs_longer l (with_rewrite l (length nodes) r) (step.Rewrite r) refl refl k.pairs)
    (subst (Matches (with_rewrite l (length nodes) r)) goes (record {
      next = k.next;
      bits = λ u. bits_more l.bits r.from (unwrap_or (bits_in l.bits r.to) []) (Some r.to) u none ∙ same_value (bits_in l.bits) s.bits r.from (unwrap_or (bits_in l.bits r.to) []) u (k.bits u) ∙ ap (λ x. with_value s.bits r.from x u) row;
      images = λ u. linked_image l.bits r.from (unwrap_or (bits_in l.bits r.to) []) r.to u none ∙ same_value (image_in l.bits) s.images r.from r.to u (k.images u);
      selectors = k.selectors;
      equals = k.equals;
      clauses = ap (λ cs. cs ++ [] ∷ []) k.clauses;
    }))
    (short_more l.bits r.from (unwrap_or (bits_in l.bits r.to) []) (Some r.to) k.short (subst (λ x. length x ≤ 128) (sym row) (new_short nodes l (step.Rewrite r) r.from b.0 all k i here)))

-- ---- what a stored log has

pub next_above : (nodes : List Node) (l : LogValue) → IsTermList nodes → IsKept nodes l → 1 < l.next
next_above nodes l all k =
    subst (λ n. 1 < n) (sym k.next) (log_suits any_interpretation nodes all l.entries k.steps).next

pub clauses_below : (nodes : List Node) (l : LogValue) (id : ClauseId) (c : List Literal) → IsTermList nodes → IsKept nodes l → clause_at l.clauses id ≡ Some c → AreBelow l.next c
clauses_below nodes l id c all k e =
    subst (λ n. AreBelow n c) (sym k.next)
    ((log_is_ordered nodes l.entries all k.steps).clauses id c (ap (λ cs. clause_at cs id) (sym k.clauses) ∙ e))

pub clause_is_sound : (nodes : List Node) (l : LogValue) (id : ClauseId) (c : List Literal) → IsTermList nodes → Stands nodes l → clause_at l.clauses id ≡ Some c → IsSound nodes l.entries c
clause_is_sound nodes l id c all h e =
    let k = stands_over nodes l h in
    (log_is_sound nodes l.entries all k.steps).clauses id c (ap (λ cs. clause_at cs id) (sym k.clauses) ∙ e)
