-- Words that are found and have bits.
use Rattle.std.proofs.Common.{◌≡◌, ℕ, ◌<◌, ◌≤◌, List, length, Some, None, sym, ap, ◌∙◌, subst, arith}
use Rattle.cnf_base.specs.Literals.{Literal}
use Rattle.smt_terms.specs.declared.sort.Sort.TheVariants as sort
use Rattle.smt_terms.specs.declared.node.Op.TheVariants.{Word}
use Rattle.smt_terms.specs.declared.node.Node.{Node}
use Rattle.smt_terms.specs.Nodes.{leaf}
use Rattle.smt_terms.specs.Bits.{TermBits, bits_in}
use Rattle.smt_terms.specs.Ranks.{is_word}
use Rattle.smt_terms.specs.Terms.{sort_of, IsTermList, IsSort}
use Rattle.smt_terms.proofs.Made.{at_place}
use Rattle.smt_terms.proofs.Widths.{sort_bounded}
use Rattle.theory_terms.specs.Shapes.{term_of}
use Rattle.bit_blast.specs.Meanings.{IsRowOf}
use Rattle.access_tables.specs.Held.{HasRow}
use Rattle.access_walk.specs.Maps.{IsWordOf}
use Rattle.access_walk.specs.Valued.{IsWordTerm}
use Rattle.access_walk.specs.Walked.{IsHeldWord}

module _ (nodes : List Node) (bits : List TermBits) (n k : ℕ) where
  -- the one term of the word has its sort and bits
  found_held : (w : ℕ) → term_of nodes (leaf (Word n k)) ≡ Some w → IsHeldWord nodes bits n k → (sort_of nodes w ≡ sort.Word n) × HasRow nodes bits w
  found_held w e h =
      let same : h.0 ≡ w = let z : Some h.0 ≡ Some w = sym h.1.0 ∙ e in cc in
      (subst (λ t. sort_of nodes t ≡ sort.Word n) same h.1.1, subst (HasRow nodes bits) same h.2)

  pub none_found : term_of nodes (leaf (Word n k)) ≡ None → IsHeldWord nodes bits n k → ⊥
  none_found e h = let z : None ≡ Some h.0 = sym e ∙ h.1.0 in let f : ⊥ = cc in f

  pub other_sort : (w : ℕ) → term_of nodes (leaf (Word n k)) ≡ Some w → (sort_of nodes w ≡ sort.Word n → ⊥) → IsHeldWord nodes bits n k → ⊥
  other_sort w e ne h = ne (found_held w e h).0

  pub no_bits : (w : ℕ) → term_of nodes (leaf (Word n k)) ≡ Some w → bits_in bits w ≡ None → IsHeldWord nodes bits n k → ⊥
  no_bits w e none h = let r = (found_held w e h).1 in let z : None ≡ Some r.0 = sym none ∙ r.1 in let f : ⊥ = cc in f

  pub other_length : (w : ℕ) (row : List Literal) → term_of nodes (leaf (Word n k)) ≡ Some w → bits_in bits w ≡ Some row → (length row ≡ n → ⊥) → IsHeldWord nodes bits n k → ⊥
  other_length w row e is ne h =
      let p = found_held w e h in
      let same : p.1.0 ≡ row = let z : Some p.1.0 ≡ Some row = sym p.1.1 ∙ is in cc in
      let fits : (0 < n) × (length p.1.0 ≡ n) = subst (λ s. IsRowOf s p.1.0) p.0 p.1.2 in
      ne (ap length (sym same) ∙ fits.1)

  pub word_is : (w : ℕ) (row : List Literal) → IsTermList nodes → term_of nodes (leaf (Word n k)) ≡ Some w → sort_of nodes w ≡ sort.Word n → bits_in bits w ≡ Some row → length row ≡ n → IsWordOf nodes n k w × IsWordTerm nodes bits w
  word_is w row terms e s is long =
      let lt = (at_place nodes (leaf (Word n k)) w e).0 in
      let bound : (1 ≤ n) × (n ≤ 128) = subst IsSort s (sort_bounded nodes terms w lt) in
      let fits : IsRowOf (sort.Word n) row = (omega (arith, bound.0), long) in
      ((e, s), (lt, ap is_word s, (row, is, subst (λ q. IsRowOf q row) (sym s) fits)))
