-- An index stays one as steps are read.
use Rattle.std.proofs.Common.{◌≡◌, ℕ, suc, ◌<◌, ◌≤◌, List, length, Option, Some, None, refl, sym, ap, ◌∙◌, subst, ⊎_elim, arith}
use Rattle.std.specs.Prelude.{Contains, IsSome, slice_get}
use Rattle.std.proofs.lemmas.Bool.{cases_eq, cases_lt}
use Rattle.std.proofs.lemmas.Option.{slice_get_within}
use Rattle.cnf_base.specs.Literals.{Literal, positive_of}
use Rattle.cnf_base.proofs.Lists.{Contains-slice_get}
use Rattle.smt_terms.specs.declared.node.Node.{Node}
use Rattle.smt_terms.specs.Terms.{IsTermList}
use Rattle.proof_log.specs.declared.entry.Entry.{Entry}
use Rattle.proof_log.specs.declared.entry.Entry.TheVariants as step
use Rattle.proof_log.specs.Logs.{Asserted, IsLog, entry_at, with_value}
use Rattle.proof_log.specs.Stored.{LogValue, Stands, selector_in}
use Rattle.proof_log.proofs.Staying.{elsewhere}
use Rattle.proof_log.proofs.Standing.{value_here}
use Rattle.proof_log.proofs.Selecting.{log_selects}
use Rattle.proof_file.specs.Indexed.{StaleIndex, selected_by, noted_under, IsSelectorOf, IsIndexOf, KnowsAll}
use Rattle.proof_file.specs.Noting.{assertion_of, IsNamed, KeepsIndex}
use Rattle.proof_file.proofs.Selectors.{asserted, found_at, assertion_is, one_assertion, told_selector}

-- what is known of a step that was read
abbrev Knows : List Node → List Entry → List (Option ℕ) → ℕ → Type 0
Knows nodes log rows a = (x : ℕ) × IsSelectorOf nodes log a x × (selected_by rows x ≡ Some a)

module _ (nodes : List Node) (log : List Entry) (list : IsTermList nodes) (is : IsLog nodes log) (old new : List (Option ℕ)) (own : (x a : ℕ) → selected_by old x ≡ Some a → IsSelectorOf nodes log a x) where
  known_still : (o : Option ℕ) → IsNamed nodes log old new o → (a : ℕ) → Knows nodes log old a → Knows nodes log new a
  known_still None h a k = (k.0, k.1, h k.0 ∙ k.2)
  known_still (Some b) h a k = (
    k.0,
    k.1,
    ⊎_elim
        (λ (e : k.0 ≡ h.0).
        let same : b ≡ a = one_assertion nodes log is list b a h.0 h.1 (subst (IsSelectorOf nodes log a) e k.1) in
        ap (selected_by new) e ∙ h.2 h.0 ∙ value_here (selected_by old) h.0 b ∙ ap Some same)
        (λ (ne : k.0 ≡ h.0 → ⊥). h.2 k.0 ∙ elsewhere (selected_by old) h.0 b k.0 ne ∙ k.2)
        (cases_eq k.0 h.0),
  )

  own_still : (o : Option ℕ) → IsNamed nodes log old new o → (x a : ℕ) → selected_by new x ≡ Some a → IsSelectorOf nodes log a x
  own_still None h x a g = own x a (sym (h x) ∙ g)
  own_still (Some b) h x a g =
      ⊎_elim
      (λ (e : x ≡ h.0).
      let two : Some b ≡ Some a = sym (value_here (selected_by old) h.0 b) ∙ sym (h.2 h.0) ∙ ap (selected_by new) (sym e) ∙ g in
      let same : b ≡ a = cc in
      subst (λ y. IsSelectorOf nodes log a y) (sym e) (subst (λ y. IsSelectorOf nodes log y h.0) same h.1))
      (λ (ne : x ≡ h.0 → ⊥). own x a (sym (elsewhere (selected_by old) h.0 b x ne) ∙ sym (h.2 x) ∙ g))
      (cases_eq x h.0)

  known_here : (o : Option ℕ) → IsNamed nodes log old new o → (a : ℕ) → o ≡ Some a → Knows nodes log new a
  known_here None h a e = let f : ⊥ = cc in absurd f
  known_here (Some b) h a e =
      let same : b ≡ a = cc in
      subst (Knows nodes log new) same (h.0, h.1, h.2 h.0 ∙ value_here (selected_by old) h.0 b)

-- one step more is read
pub reads_one : (nodes : List Node) (log : List Entry) → IsTermList nodes → IsLog nodes log → (old new : StaleIndex) (e : Entry)
    → slice_get log old.read ≡ Some e → new.read ≡ suc old.read → IsNamed nodes log old.selected new.selected (assertion_of e)
    → new.noted ≡ old.noted → new.watched ≡ old.watched → KeepsIndex nodes log old new
reads_one nodes log list is old new e at one named noted watched places h = record {
  within = let lt = slice_get_within log old.read e at in omega (arith, lt, one);
  known = λ p a t lt g.
      ⊎_elim
      (λ (less : p < old.read). known_still nodes log list is old.selected new.selected h.own (assertion_of e) named a (h.known p a t less g))
      (λ (ge : old.read ≤ p).
      let same : p ≡ old.read = omega (arith, lt, one, ge) in
      let two : Some e ≡ Some (step.Selector a t) = sym at ∙ ap (slice_get log) (sym same) ∙ g in
      let it : e ≡ step.Selector a t = cc in
      known_here nodes log list is old.selected new.selected h.own (assertion_of e) named a (ap assertion_of it))
      (cases_lt p old.read);
  own = own_still nodes log list is old.selected new.selected h.own (assertion_of e) named;
  placed = h.placed;
  each = λ a p c. h.each a p (subst (λ rows. Contains (noted_under rows a) p) noted c);
  every = λ a p r ne. subst (λ rows. Contains (noted_under rows a) p) (sym noted) (h.every a p r ne);
  watched = λ a p c. subst (λ xs. Contains xs a) (sym watched) (h.watched a p (subst (λ rows. Contains (noted_under rows a) p) noted c));
}

-- all steps are read
pub knows_all : (nodes : List Node) (log : List Entry) → (v : StaleIndex) (places : ℕ → ℕ) → v.read ≡ length log → IsIndexOf v nodes log places → KnowsAll v nodes log
knows_all nodes log v places whole h a r e =
    let among : Contains log (step.Selector a r.term) = (log_selects nodes log a r e).1 in
    let lt = among.1 in
    let k = h.known among.0 a r.term (omega (arith, lt, whole)) (found_at log (step.Selector a r.term) among) in
    let two : Some r ≡ Some (asserted k.0 k.1.0) = sym e ∙ k.1.1 in
    let it : r ≡ asserted k.0 k.1.0 = cc in
    ap (λ (q : Asserted). selected_by v.selected q.literal.variable) it ∙ k.2

-- ---- a step that is read

-- the selector of the assertion that a step names is there
pub selector_there : (nodes : List Node) (log : LogValue) (e : Entry) (a : ℕ) (o : Option Literal) → Stands nodes log → Contains log.entries e → Some a ≡ assertion_of e → o ≡ selector_in log.selectors a → IsSome o
selector_there nodes log e a o stands held names is =
    let k = assertion_is e a (sym names) in
    let s = told_selector nodes log stands a k.0 (subst (Contains log.entries) k.1 held) in
    subst IsSome (sym (is ∙ s.2)) refl

pub named_none : (nodes : List Node) (log : List Entry) (rows : List (Option ℕ)) (e : Entry) → None ≡ assertion_of e → IsNamed nodes log rows rows (assertion_of e)
named_none nodes log rows e none = subst (IsNamed nodes log rows rows) none (λ x. refl)

pub named_one : (nodes : List Node) (log : LogValue) (e : Entry) (a n : ℕ) (o : Option Literal) (l : Literal) (old new : List (Option ℕ)) → Stands nodes log → Contains log.entries e → Some a ≡ assertion_of e
    → o ≡ selector_in log.selectors a → o ≡ Some l → n ≡ l.variable → ((y : ℕ) → selected_by new y ≡ with_value (selected_by old) n a y) → IsNamed nodes log.entries old new (assertion_of e)
named_one nodes log e a n o l old new stands held names is some own table =
    let k = assertion_is e a (sym names) in
    let s = told_selector nodes log stands a k.0 (subst (Contains log.entries) k.1 held) in
    let two : Some l ≡ Some (positive_of s.0) = sym some ∙ is ∙ s.2 in
    let it : l ≡ positive_of s.0 = cc in
    let x : n ≡ s.0 = own ∙ ap (λ (m : Literal). m.variable) it in
    subst (IsNamed nodes log.entries old new) names (s.0, s.1, λ y. table y ∙ ap (λ m. with_value (selected_by old) m a y) x)

-- the step at a position behind those that were read
pub next_step : (log : List Entry) (at n : ℕ) (e : Entry) → at ≡ suc n → Some e ≡ entry_at log at → slice_get log n ≡ Some e
next_step log at n e next is = sym (is ∙ ap (entry_at log) next)

pub next_held : (log : List Entry) (at n : ℕ) (e : Entry) → at ≡ suc n → Some e ≡ entry_at log at → Contains log e
next_held log at n e next is = Contains-slice_get log n e (next_step log at n e next is)
