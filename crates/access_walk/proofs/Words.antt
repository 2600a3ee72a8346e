-- The values of terms that have bits.
use Rattle.std.proofs.Common.{◌≡◌, ℕ, ◌<◌, ◌≤◌, Bool, List, length, refl, sym, ap, ◌∙◌, subst, ⊎_elim}
use Rattle.std.proofs.lemmas.Bool.{cases_lt}
use Rattle.std.proofs.lemmas.List.{get_or_past}
use Rattle.smt_terms.specs.declared.sort.Sort.TheVariants as sort
use Rattle.smt_terms.specs.declared.node.Node.{Node}
use Rattle.smt_terms.specs.Bits.{TermBits}
use Rattle.smt_terms.specs.Nodes.{node_at, no_node}
use Rattle.smt_terms.specs.Ranks.{is_word}
use Rattle.smt_terms.specs.Terms.{sort_of, op_sort}
use Rattle.smt_terms.specs.Values.{Value, VWord, HasSort, number_of}
use Rattle.smt_terms.proofs.Recursion.{at_term_is}
use Rattle.access_tables.specs.Held.{HasRow, assigned_value, value_by}
use Rattle.access_tables.proofs.Building.{word_is}
use Rattle.access_tables.proofs.Encoded.{row_sort}
use Rattle.access_walk.specs.Valued.{IsWordTerm}

past_sort : (nodes : List Node) (t : ℕ) → length nodes ≤ t → sort_of nodes t ≡ sort.Bool
past_sort nodes t le =
    let e : node_at nodes t ≡ no_node = get_or_past nodes t no_node le in
    at_term_is sort.Bool (λ u. op_sort) nodes t (rw e tt) ∙ rw e refl

-- a word is held
pub word_within : (nodes : List Node) (t n : ℕ) → sort_of nodes t ≡ sort.Word n → t < length nodes
word_within nodes t n e =
    ⊎_elim (λ lt. lt) (λ le. (let q : sort.Word n ≡ sort.Bool = sym e ∙ past_sort nodes t le in let f : ⊥ = cc in absurd f)) (cases_lt t (length nodes))

-- a term with bits has a value of its sort
pub row_value : (nodes : List Node) (bits : List TermBits) (f : ℕ → Bool) (t : ℕ) → HasRow nodes bits t → HasSort (sort_of nodes t) (assigned_value nodes bits f t)
row_value nodes bits f t h = subst (HasSort (sort_of nodes t)) (sym (ap (value_by f (sort_of nodes t)) h.1)) (row_sort f (sort_of nodes t) h.0 h.2)

pub word_value : (nodes : List Node) (bits : List TermBits) (f : ℕ → Bool) (t n : ℕ) → sort_of nodes t ≡ sort.Word n → HasRow nodes bits t → HasSort (sort.Word n) (assigned_value nodes bits f t)
word_value nodes bits f t n e h = subst (λ s. HasSort s (assigned_value nodes bits f t)) e (row_value nodes bits f t h)

pub word_term : (nodes : List Node) (bits : List TermBits) (t n : ℕ) → sort_of nodes t ≡ sort.Word n → HasRow nodes bits t → IsWordTerm nodes bits t
word_term nodes bits t n e h = (word_within nodes t n e, ap is_word e, h)

-- words of one width with one number are equal
pub equal_words : (n : ℕ) (x y : Value) → HasSort (sort.Word n) x → HasSort (sort.Word n) y → number_of x ≡ number_of y → x ≡ y
equal_words n x y h k e = word_is n x h ∙ ap (VWord n) e ∙ sym (word_is n y k)
