-- Terms that are made stand behind those that were there.
use Rattle.std.proofs.Common.{◌≡◌, ℕ, zero, suc, ◌+◌, ◌<◌, ◌≤◌, Bool, true, false, List, [], ◌∷◌, ◌++◌, length, append_assoc, append-nil, length-append, Option, Some, None, refl, sym, ap, ◌∙◌, subst, ⊎_elim, arith}
use Rattle.std.specs.Prelude.{◌^◌, nat_lt, if◌then◌else◌}
use Rattle.std.proofs.lemmas.Bool.{cases_lt}
use Rattle.smt_terms.specs.declared.node.Op.TheVariants.{Word}
use Rattle.smt_terms.specs.declared.node.Node.{Node}
use Rattle.smt_terms.specs.Nodes.{leaf}
use Rattle.smt_terms.specs.Terms.{TermsValue}
use Rattle.theory_terms.specs.declared.shape.Shape.{Shape}
use Rattle.theory_terms.specs.declared.shape.Shape.TheVariants.{Equating}
use Rattle.theory_terms.specs.Shapes.{shape_at, term_of}
use Rattle.theory_terms.specs.Lemmas.{witness_node, select_node}
use Rattle.array_watches.specs.Reaching.{reached}
use Rattle.array_watches.specs.Needed.{with_new, with_node, with_selects, with_watch, with_watch_by, with_watches, equalities, with_word, with_words, is_filled, index_count, with_index_words, number_in, watched}
use Rattle.array_watches.specs.Making.{value_of, Extends}

-- the second list begins with the first
abbrev pub IsLonger : List Node → List Node → Type 0
IsLonger old new = (more : List Node) × (new ≡ old ++ more)

pub same_long : (nodes : List Node) → IsLonger nodes nodes
same_long nodes = ([], sym (append-nil nodes))

pub long_long : (a b c : List Node) → IsLonger a b → IsLonger b c → IsLonger a c
long_long a b c h k = (h.0 ++ k.0, k.1 ∙ ap (λ l. l ++ k.0) h.1 ∙ append_assoc a h.0 k.0)

pub long_count : (a b : List Node) → IsLonger a b → length a ≤ length b
long_count a b h = let e : length b ≡ length a + length h.0 = ap length h.1 ∙ length-append a h.0 in omega (arith, e)

new_long : (nodes : List Node) (n : Node) (o : Option ℕ) → IsLonger nodes (with_new nodes n o)
new_long nodes n None = (n ∷ [], refl)
new_long nodes n (Some t) = same_long nodes

pub node_long : (nodes : List Node) (n : Node) → IsLonger nodes (with_node nodes n)
node_long nodes n = new_long nodes n (term_of nodes n)

pub selects_long : (nodes : List Node) (a b i : ℕ) → IsLonger nodes (with_selects nodes a b i)
selects_long nodes a b i = long_long nodes (with_node nodes (select_node a i)) (with_selects nodes a b i) (node_long nodes (select_node a i)) (node_long (with_node nodes (select_node a i)) (select_node b i))

pub watch_long : (nodes : List Node) (a b : ℕ) → IsLonger nodes (with_watch nodes a b)
watch_long nodes a b =
    let first = with_node nodes (witness_node a b) in
    long_long nodes first (with_watch nodes a b) (node_long nodes (witness_node a b)) (selects_long first a b (number_in nodes (witness_node a b)))

pub watch_by_long : (nodes : List Node) (s : Shape) → IsLonger nodes (with_watch_by nodes s)
watch_by_long nodes (Equating a b) = watch_long nodes a b
watch_by_long nodes s = same_long nodes

pub watches_long : (nodes : List Node) (ts : List ℕ) → IsLonger nodes (with_watches nodes ts)
watches_long nodes [] = same_long nodes
watches_long nodes (t ∷ ts) =
    let first = with_watch_by nodes (shape_at nodes t) in
    long_long nodes first (with_watches first ts) (watch_by_long nodes (shape_at nodes t)) (watches_long first ts)

pub word_long : (nodes : List Node) (n x : ℕ) → IsLonger nodes (with_word nodes n x)
word_long nodes n x = go (nat_lt x (2 ^ n))
  where
    go : (b : Bool) → IsLonger nodes (if b then with_node nodes (leaf (Word n x)) else nodes)
    go true = node_long nodes (leaf (Word n x))
    go false = same_long nodes

pub words_long : (nodes : List Node) (n count : ℕ) → IsLonger nodes (with_words nodes n count)
words_long nodes n zero = same_long nodes
words_long nodes n (suc x) = long_long nodes (with_words nodes n x) (with_words nodes n (suc x)) (words_long nodes n x) (word_long (with_words nodes n x) n x)

-- fewer words come before more
pub words_up : (nodes : List Node) (n x count : ℕ) → x ≤ count → IsLonger (with_words nodes n x) (with_words nodes n count)
words_up nodes n x zero le = let e : 0 ≡ x = omega (arith, le) in subst (λ k. IsLonger (with_words nodes n k) (with_words nodes n 0)) e (same_long (with_words nodes n 0))
words_up nodes n x (suc c) le =
    ⊎_elim
    (λ (lt : x < suc c). long_long (with_words nodes n x) (with_words nodes n c) (with_words nodes n (suc c)) (words_up nodes n x c (omega (arith, lt))) (word_long (with_words nodes n c) n c))
    (λ (ge : suc c ≤ x). (let e : suc c ≡ x = omega (arith, ge, le) in subst (λ k. IsLonger (with_words nodes n k) (with_words nodes n (suc c))) e (same_long (with_words nodes n (suc c)))))
    (cases_lt x (suc c))

pub index_words_next : (made : List Node) (terms : List ℕ) (n : ℕ) → IsLonger (with_index_words made terms n) (with_index_words made terms (suc n))
index_words_next made terms n = go (is_filled made terms (suc n))
  where
    go : (b : Bool) → IsLonger (with_index_words made terms n) (if b then with_words (with_index_words made terms n) (suc n) (suc (index_count made terms (suc n))) else with_index_words made terms n)
    go true = words_long (with_index_words made terms n) (suc n) (suc (index_count made terms (suc n)))
    go false = same_long (with_index_words made terms n)

pub index_words_long : (made : List Node) (terms : List ℕ) (n : ℕ) → IsLonger made (with_index_words made terms n)
index_words_long made terms zero = same_long made
index_words_long made terms (suc n) = long_long made (with_index_words made terms n) (with_index_words made terms (suc n)) (index_words_long made terms n) (index_words_next made terms n)

-- words of lesser widths come before those of greater ones
pub index_words_up : (made : List Node) (terms : List ℕ) (n count : ℕ) → n ≤ count → IsLonger (with_index_words made terms n) (with_index_words made terms count)
index_words_up made terms n zero le = let e : 0 ≡ n = omega (arith, le) in subst (λ k. IsLonger (with_index_words made terms k) (with_index_words made terms 0)) e (same_long (with_index_words made terms 0))
index_words_up made terms n (suc c) le =
    ⊎_elim
    (λ (lt : n < suc c). long_long (with_index_words made terms n) (with_index_words made terms c) (with_index_words made terms (suc c)) (index_words_up made terms n c (omega (arith, lt))) (index_words_next made terms c))
    (λ (ge : suc c ≤ n). (let e : suc c ≡ n = omega (arith, ge, le) in subst (λ k. IsLonger (with_index_words made terms k) (with_index_words made terms (suc c))) e (same_long (with_index_words made terms (suc c)))))
    (cases_lt n (suc c))

pub watched_long : (nodes : List Node) (roots : List ℕ) → IsLonger nodes (watched nodes roots)
unfolding watched
watched_long nodes roots =
    let made = with_watches nodes (equalities nodes roots) in
    long_long nodes made (watched nodes roots) (watches_long nodes (equalities nodes roots)) (index_words_long made (reached nodes roots) 128)

-- ---- lists of terms

pub same_terms : (v : TermsValue) → Extends v v
same_terms v = record { more = []; nodes = sym (append-nil v.nodes); limit = refl }

pub more_terms : (v w x : TermsValue) → Extends v w → Extends w x → Extends v x
more_terms v w x h k = record {
  more = h.more ++ k.more;
  nodes = k.nodes ∙ ap (λ l. l ++ k.more) h.nodes ∙ append_assoc v.nodes h.more k.more;
  limit = k.limit ∙ h.limit;
}

pub made_extends : (v w : TermsValue) (goal : List Node) → w ≡ value_of goal v.limit → IsLonger v.nodes goal → Extends v w
made_extends v w goal e h = record { more = h.0; nodes = ap (λ u. u.nodes) e ∙ h.1; limit = ap (λ u. u.limit) e }
