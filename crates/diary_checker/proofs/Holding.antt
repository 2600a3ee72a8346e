-- What is held after one position more, and what is filed.
use Rattle.std.proofs.Common.{◌≡◌, ℕ, ◌+◌, Bool, true, false, not, List, Option, Some, sym, ap, ◌∙◌, ⊎_elim, arith}
use Rattle.std.specs.Prelude.{◌&&◌, ltb, if◌then◌else◌, Contains}
use Rattle.std.proofs.lemmas.Bool.{cases_lt, lt-ltb, le-ltb, eq-eqb, ne_eqb, cases_eq}
use Rattle.cnf_base.specs.Literals.{Literal}
use Rattle.cnf_base.specs.declared.clause.ClauseId.{ClauseId}
use Rattle.hint_chain.specs.Chains.{Lookup}
use Rattle.proof_log.specs.Diaries.{with_held}
use Rattle.proof_log.proofs.Lines.{held_cases}
use Rattle.diary_checker.specs.Tables.{filed_under, IsFiled}
use Rattle.diary_checker.specs.Uses.{AreFiled}
use Rattle.std.proofs.Math.Bool.{and-false}

ltb_same : (p at : ℕ) → (p ≡ at → ⊥) → ltb p at ≡ ltb p (at + 1)
ltb_same p at ne =
    ⊎_elim
    (λ lt. lt-ltb p at lt ∙ sym (lt-ltb p (at + 1) (omega arith)))
    (λ le. le-ltb p at le ∙ sym (le-ltb p (at + 1) (omega arith)))
    (cases_lt p at)

pub chain_more : (chain old : ℕ → Bool) (at : ℕ) → chain at ≡ true → ((p : ℕ) → old p ≡ (ltb p at && not (chain p))) → (p : ℕ) → old p ≡ (ltb p (at + 1) && not (chain p))
chain_more chain old at is h p =
    ⊎_elim
    (λ e.
    let here : chain p ≡ true = ap chain e ∙ is in
    h p ∙ (ap (λ b. ltb p at && not b) here ∙ (and-false (ltb p at) ∙ sym (ap (λ b. ltb p (at + 1) && not b) here ∙ and-false (ltb p (at + 1))))))
    (λ ne. h p ∙ ap (λ b. b && not (chain p)) (ltb_same p at ne))
    (cases_eq p at)

pub plain_more : (chain old new : ℕ → Bool) (at : ℕ) → chain at ≡ false → ((p : ℕ) → new p ≡ with_held old at true p) → ((p : ℕ) → old p ≡ (ltb p at && not (chain p))) → (p : ℕ) → new p ≡ (ltb p (at + 1) && not (chain p))
plain_more chain old new at is w h p =
    ⊎_elim
    (λ e.
    let here : chain p ≡ false = ap chain e ∙ is in
    let left : new p ≡ true = w p ∙ ap (λ b. if b then true else old p) (eq-eqb p at e) in
    let right : (ltb p (at + 1) && not (chain p)) ≡ true = ap (λ b. ltb p (at + 1) && not b) here ∙ ap (λ b. b && true) (lt-ltb p (at + 1) (omega arith)) in
    left ∙ sym right)
    (λ ne. w p ∙ (ap (λ b. if b then true else old p) (ne_eqb p at ne) ∙ (h p ∙ ap (λ b. b && not (chain p)) (ltb_same p at ne))))
    (cases_eq p at)

pub filed_more : (look : Lookup) (old new : ℕ → Bool) (lists lists' : List (List ClauseId)) (at : ℕ) →
    ((p : ℕ) → new p ≡ with_held old at true p) →
    ((k : Option Literal) (i : ClauseId) → Contains (filed_under lists k) i → Contains (filed_under lists' k) i) →
    ((id : ClauseId) (c : List Literal) → id.pos ≡ at → look id ≡ Some c → IsFiled lists' id c) →
    AreFiled look old lists → AreFiled look new lists'
filed_more look old new lists lists' at w kept here h id c held is =
    ⊎_elim
    (λ e. here id c e is)
    (λ before. let f = h id c before is in (f.0, f.1, kept f.0 id f.2))
    (held_cases old at true id.pos (sym (w id.pos) ∙ held))

-- a position less, where what is filed of others stays
pub filed_less : (look : Lookup) (old new : ℕ → Bool) (lists lists' : List (List ClauseId)) (at : ℕ) →
    ((p : ℕ) → new p ≡ with_held old at false p) →
    ((k : Option Literal) (i : ClauseId) → (i.pos ≡ at → ⊥) → Contains (filed_under lists k) i → Contains (filed_under lists' k) i) →
    AreFiled look old lists → AreFiled look new lists'
filed_less look old new lists lists' at w kept h id c held is =
    ⊎_elim
    (λ e. let a = sym (w id.pos) ∙ held in let b = ap (λ t. if t then false else old id.pos) (eq-eqb id.pos at e) in let f : false ≡ true = sym b ∙ a in absurd (true_is_not_false f))
    (λ ne.
    let was : old id.pos ≡ true = sym (w id.pos ∙ ap (λ t. if t then false else old id.pos) (ne_eqb id.pos at ne)) ∙ held in
    let f = h id c was is in
    (f.0, f.1, kept f.0 id ne f.2))
    (cases_eq id.pos at)
  where
    true_is_not_false : false ≡ true → ⊥
    true_is_not_false f = cc
