-- How late literals became false, and what follows for a clause that comes.
use Rattle.std.proofs.Common.{ℕ, ◌≡◌, ◌≢◌, ◌+◌, ◌-◌, ◌^◌, ◌<◌, ◌≤◌, List, length, take, eqb, refl, inl, inr, arith}
use Rattle.std.proofs.Math.ListN.{get_or}
use Rattle.std.proofs.lemmas.List.{take_all}
use Rattle.std.proofs.lemmas.Bool.Decides.{eqb_tells}
use Rattle.cdcl_core.specs.Chains.{times}
use Rattle.cdcl_core.specs.Stamps.{neg, Has, rank}
use Rattle.cdcl_core.proofs.Counting.{times_nil, each_more}
use Rattle.std.proofs.lemmas.Bool.{cond-true, cond-false}

pub rank_open : (ss : List ℕ) (l : ℕ) → get_or ss (neg l) 0 ≡ 0 → rank ss l ≡ 2 ^ 64 - 1
unfolding rank
rank_open ss l e = elim (eqb_tells (get_or ss (neg l) 0) 0) [ inl p ↦ cond-true (eqb (get_or ss (neg l) 0) 0) (2 ^ 64 - 1) (get_or ss (neg l) 0) p.0 | inr p ↦ absurd (p.1 e) ]

pub rank_set : (ss : List ℕ) (l : ℕ) → get_or ss (neg l) 0 ≢ 0 → rank ss l ≡ get_or ss (neg l) 0
unfolding rank
rank_set ss l n = elim (eqb_tells (get_or ss (neg l) 0) 0) [ inl p ↦ absurd (n p.1) | inr p ↦ cond-false (eqb (get_or ss (neg l) 0) 0) (2 ^ 64 - 1) (get_or ss (neg l) 0) p.0 ]

pub rank_above : (ss : List ℕ) (l : ℕ) → 0 < rank ss l
rank_above ss l = elim (eqb_tells (get_or ss (neg l) 0) 0) [
  | inl p ↦ rw (rank_open ss l p.1) (omega arith)
  | inr p ↦ rw (rank_set ss l p.1) (omega (arith, p.1))
]

-- among the first i literals other than e, the found one became false last
pub record IsLatest (c ss : List ℕ) (e i found highest : ℕ) : Type 0 where
  pub has : found ≢ 0 → Has c found
  pub other : found ≢ 0 → found ≢ e
  pub best : found ≢ 0 → highest ≡ rank ss found
  pub none : found ≡ 0 → highest ≡ 0
  pub above : (m : ℕ) → 0 < times m (take i c) → m ≢ e → rank ss m ≤ highest

pub latest_start : (c ss : List ℕ) (e : ℕ) → IsLatest c ss e 0 0 0
latest_start c ss e = record {
  has = λ z. absurd (z refl);
  other = λ z. absurd (z refl);
  best = λ z. absurd (z refl);
  none = λ _. refl;
  above = λ m h. absurd (omega (arith, h, times_nil m));
}

pub latest_taken : (c ss : List ℕ) (e i found highest x own : ℕ) → i < length c → get_or c i 0 ≡ x → IsLatest c ss e i found highest → Has c x → 2 ≤ x → x ≢ e → own ≡ rank ss x → highest < own → IsLatest c ss e (i + 1) x own
latest_taken c ss e i found highest x own hi read l has two ne eo up = record {
  has = λ _. has;
  other = λ _. ne;
  best = λ _. eo;
  none = λ z. absurd (omega (arith, z, two));
  above = each_more (λ m. m ≢ e → rank ss m ≤ own) c i x hi read (λ m h n. omega (arith, l.above m h n, up)) (λ _. omega (arith, eo));
}

pub latest_kept : (c ss : List ℕ) (e i found highest x : ℕ) → i < length c → get_or c i 0 ≡ x → IsLatest c ss e i found highest → (x ≢ e → rank ss x ≤ highest) → IsLatest c ss e (i + 1) found highest
latest_kept c ss e i found highest x hi read l low = record {
  has = l.has;
  other = l.other;
  best = l.best;
  none = l.none;
  above = each_more (λ m. m ≢ e → rank ss m ≤ highest) c i x hi read l.above low;
}

pub latest_none : (c ss : List ℕ) (e found highest l : ℕ) → IsLatest c ss e (length c) found highest → found ≡ 0 → Has c l → l ≡ e
latest_none c ss e found highest l best z has = elim (eqb_tells l e) [
  | inl p ↦ p.1
  | inr p ↦ absurd (let h : 0 < times l (take (length c) c) = rw (take_all (length c) c (omega arith)) has in omega (arith, best.above l h p.1, best.none z, rank_above ss l))
]

pub latest_above : (c ss : List ℕ) (e found highest l : ℕ) → IsLatest c ss e (length c) found highest → Has c l → l ≢ e → rank ss l ≤ rank ss found
latest_above c ss e found highest l best has ne =
    let h : 0 < times l (take (length c) c) = rw (take_all (length c) c (omega arith)) has in
    elim (eqb_tells found 0) [
      | inl p ↦ absurd (omega (arith, best.above l h ne, best.none p.1, rank_above ss l))
      | inr p ↦ omega (arith, best.above l h ne, best.best p.1)
    ]
