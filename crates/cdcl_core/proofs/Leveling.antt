-- The level to which a clause that comes sends the trail back.
use Rattle.std.proofs.Common.{ℕ, ◌≡◌, ◌≢◌, ◌+◌, ◌-◌, ◌^◌, ◌<◌, ◌≤◌, ◌⊎◌, List, sym, ◌∙◌, inl, inr, arith}
use Rattle.std.proofs.Math.ListN.{get_or}
use Rattle.std.proofs.lemmas.Bool.{cases_lt}
use Rattle.std.proofs.lemmas.Bool.Decides.{eqb_tells}
use Rattle.cdcl_core.specs.Stamps.{neg, Has, IsTrueAt, RestsAt, IsTrail, rank}
use Rattle.cdcl_core.proofs.Ranks.{rank_open, rank_set}

-- at the end of the level each literal but this one is false, and at the end of no lower level is that so of any other one
pub record IsUnitFrom (ss c : List ℕ) (last level : ℕ) : Type 0 where
  pub others : (l : ℕ) → Has c l → l ≢ last → rank ss l ≤ level + 1
  pub before : (j : ℕ) → j < level → RestsAt ss j c

not_by : (ss : List ℕ) (j l : ℕ) → j + 1 < rank ss l → IsTrueAt ss j (neg l) → ⊥
not_by ss j l h t = omega (arith, h, t.1, rank_set ss l (λ z. omega (arith, z, t.0)))

false_by : (ss : List ℕ) (level l : ℕ) → level + 2 < 2 ^ 64 → rank ss l ≤ level + 1 → IsTrueAt ss level (neg l)
false_by ss level l small h = elim (eqb_tells (get_or ss (neg l) 0) 0) [
  | inl p ↦ absurd (omega (arith, rank_open ss l p.1, h, small))
  | inr p ↦ (omega (arith, p.1), omega (arith, rank_set ss l p.1, h))
]

unit_of_two : (ss c : List ℕ) (a b level : ℕ) → Has c a → Has c b → b ≢ a → rank ss b ≤ rank ss a → ((l : ℕ) → Has c l → l ≢ a → rank ss l ≤ rank ss b) → level ≡ rank ss b - 1 → IsUnitFrom ss c a level
unit_of_two ss c a b level has_a has_b differ le second e = record {
  others = λ l h n. omega (arith, second l h n, e);
  before = λ j h. inr (a, (b, (has_a, (has_b, ((λ u. differ (sym u)), (not_by ss j a (omega (arith, h, e, le)), not_by ss j b (omega (arith, h, e))))))));
}

-- of the literals other than one, this one became false last
pub record IsLastBut (c ss : List ℕ) (except found : ℕ) : Type 0 where
  pub none : found ≡ 0 → (l : ℕ) → Has c l → l ≡ except
  pub has : found ≢ 0 → Has c found
  pub other : found ≢ 0 → found ≢ except
  pub latest : (l : ℕ) → Has c l → l ≢ except → rank ss l ≤ rank ss found

pub unit_from : (ss c : List ℕ) (a b level : ℕ) → IsLastBut c ss 0 a → IsLastBut c ss a b → ((b ≡ 0) × (level ≡ 0)) ⊎ ((b ≢ 0) × (level ≡ rank ss b - 1)) → IsUnitFrom ss c a level
unit_from ss c a b level first second e = elim e [
  | inl z ↦ record { others = λ l h n. absurd (n (second.none z.0 l h)); before = λ j h. absurd (omega (arith, h, z.1)) }
  | inr z ↦
      let has_b : Has c b = second.has z.0 in
      let some : a ≢ 0 = λ n. z.0 (first.none n b has_b) in
      unit_of_two ss c a b level (first.has some) has_b (second.other z.0) (first.latest b has_b z.0) second.latest z.1
]

-- where the last literal is not true by then, the clause is not at rest
pub unit_no_rest : (ss es c : List ℕ) (len head top last level : ℕ) → IsTrail ss es len head top → level + 2 < 2 ^ 64 → IsUnitFrom ss c last level → (IsTrueAt ss level last → ⊥) → RestsAt ss level c → ⊥
unit_no_rest ss es c len head top last level tr small u not_true r = elim r [
  | inl x ↦ elim (eqb_tells x.0 last) [
    | inl e ↦ not_true (rw e.1 at x.1.1)
    | inr n ↦ omega (arith, tr.apart x.0 x.1.1.0, (false_by ss level x.0 small (u.others x.0 x.1.0 n.1)).0)
  ]
  | inr x ↦ elim (eqb_tells x.0 last) [
    | inr n ↦ x.1.1.1.1.1.0 (false_by ss level x.0 small (u.others x.0 x.1.1.0 n.1))
    | inl e ↦ x.1.1.1.1.1.1 (false_by ss level x.1.0 small (u.others x.1.0 x.1.1.1.0 (λ v. x.1.1.1.1.0 (e.1 ∙ sym v))))
  ]
]

-- where it is true by then, the clause is at rest at the end of every level
pub true_rests : (ss c : List ℕ) (last level j : ℕ) → IsUnitFrom ss c last level → Has c last → IsTrueAt ss level last → RestsAt ss j c
true_rests ss c last level j u has t = elim (cases_lt j level) [
  | inl h ↦ u.before j h
  | inr h ↦ inl (last, (has, (t.0, omega (arith, t.1, h))))
]
