-- The steps that give assertions selectors are valid.
use Rattle.std.proofs.Common.{◌≡◌, ℕ, ◌<◌, List, [], ◌∷◌, length, Some, None, refl, sym, ap, ◌∙◌, subst, arith}
use Rattle.std.specs.Prelude.{IsSome}
use Rattle.cnf_base.specs.Literals.{Literal, positive_of}
use Rattle.cnf_base.proofs.Options.{some_value, IsSome-from}
use Rattle.smt_terms.specs.declared.sort.Sort.{Sort}
use Rattle.smt_terms.specs.declared.sort.Sort.TheVariants as sort
use Rattle.smt_terms.specs.declared.node.Node.{Node}
use Rattle.smt_terms.specs.Terms.{TermsValue, IsSort, IsTermList, sort_of}
use Rattle.smt_terms.specs.Bits.{bits_in}
use Rattle.smt_terms.proofs.Widths.{sort_bounded}
use Rattle.bit_blast.specs.Meanings.{IsRowOf}
use Rattle.script_state.specs.States.{StateValue}
use Rattle.proof_log.specs.declared.entry.Entry.{Entry}
use Rattle.proof_log.specs.declared.entry.Entry.TheVariants as step
use Rattle.proof_log.specs.Logs.{start, plain_width, selector_after, state_of}
use Rattle.proof_log.specs.Faults.{IsValid}
use Rattle.proof_log.specs.Stored.{LogValue, Stands, IsPushed, selector_in, literal_of}
use Rattle.proof_log.proofs.Settled.{stands_settled}
use Rattle.proof_log.proofs.Standing.{stands_over, no_literal, value_here}
use Rattle.proof_log.proofs.Staying.{state_from-append}
use Rattle.smt_session.specs.Growing.{HasBits}

-- ---- rows of arguments

row_of : (s : Sort) (b : List Literal) → plain_width s ≡ Some (length b) → IsSort s → IsRowOf s b
row_of sort.Bool b e i = let q : 1 ≡ length b = cc in sym q
row_of (sort.Word n) b e i = let q : n ≡ length b = cc in (omega (arith, i.0), sym q)
row_of (sort.Array n m) b e i = let q : ⊥ = cc in absurd q

module _ (nodes : List Node) (l : LogValue) (all : IsTermList nodes) (h : Stands nodes l) where
  here_row : (a : ℕ) → IsSome (bits_in l.bits a) → (b : List Literal) × (bits_in l.bits a ≡ Some b) × IsRowOf (sort_of nodes a) b
  here_row a has =
      let r = some_value (bits_in l.bits a) has in
      let s = (stands_settled nodes l all h).bits a r.0 r.1 in
      (r.0, r.1, row_of (sort_of nodes a) r.0 s.1 (sort_bounded nodes all a s.0))

  one_bit : (b : List Literal) → length b ≡ 1 → (x : Literal) × (b ≡ x ∷ [])
  one_bit [] e = absurd (omega (arith, e))
  one_bit (x ∷ []) e = (x, refl)
  one_bit (x ∷ y ∷ b) e = absurd (omega (arith, e))

-- ---- steps

pub select_valid : (v : TermsValue) (l : LogValue) (a t : ℕ) → IsTermList v.nodes → Stands v.nodes l → t < length v.nodes → sort_of v.nodes t ≡ sort.Bool → selector_in l.selectors a ≡ None → HasBits l t → IsValid v (state_of v.nodes l.entries) (step.Selector a t)
select_valid v l a t all h lt s new has =
    let k = stands_over v.nodes l h in
    let r = here_row v.nodes l all h t has in
    let one = one_bit v.nodes l all h r.0 (subst (λ x. IsRowOf x r.0) s r.2) in
    record { term = lt; sort = s; new = no_literal _ (sym (k.selectors a) ∙ new); bit = one.0; encoded = sym (k.bits t) ∙ r.1 ∙ ap Some one.1 }

-- ---- what the steps leave

pub select_leaves : (v : TermsValue) (old new : LogValue) (a t p : ℕ) → IsValid v (state_of v.nodes old.entries) (step.Selector a t) → IsPushed v.nodes old new (step.Selector a t) p → IsSome (selector_in new.selectors a)
select_leaves v old new a t p i q =
    let s = state_of v.nodes old.entries in
    IsSome-from (selector_in new.selectors a) (positive_of (state_of v.nodes old.entries).next)
    ((stands_over v.nodes new q.stands).selectors a
    ∙ ap (λ es. literal_of ((state_of v.nodes es).selectors a)) q.entries
    ∙ ap (λ r. literal_of (r.selectors a)) (state_from-append v.nodes start old.entries (step.Selector a t ∷ []))
    ∙ ap (λ o. literal_of ((selector_after s a t o).selectors a)) i.encoded
    ∙ ap literal_of (value_here s.selectors a (record { literal = positive_of s.next; term = t })))

-- ---- over the terms of a state

-- what holds over the terms of a state holds over the terms that it shows
pub valid_over : (s : StateValue) (v : TermsValue) (l : LogValue) (e : Entry) → v ≡ s.terms → IsValid s.terms (state_of s.terms.nodes l.entries) e → IsValid v (state_of v.nodes l.entries) e
valid_over s v l e same i = subst (λ x. IsValid x (state_of x.nodes l.entries) e) (sym same) i

pub pushed_over : (s : StateValue) (v : TermsValue) (old new : LogValue) (e : Entry) (p : ℕ) → v ≡ s.terms → IsPushed v.nodes old new e p → IsPushed s.terms.nodes old new e p
pushed_over s v old new e p same q = subst (λ x. IsPushed x.nodes old new e p) same q
