-- Marks, one write after the other.
use Rattle.std.proofs.Common.{ℕ, ◌≡◌, ◌≢◌, ◌+◌, ◌-◌, ◌<◌, ◌≤◌, ◌++◌, Bool, true, List, [], ◌∷◌, length, take, refl, sym, ap, ◌∙◌, inl, inr, arith}
use Rattle.std.specs.Prelude.{Contains}
use Rattle.std.proofs.Math.ListN.{get_or, set, length-set}
use Rattle.std.proofs.lemmas.Bool.{cases_lt}
use Rattle.std.proofs.lemmas.Bool.Decides.{eqb_tells}
use Rattle.std.proofs.lemmas.List.{take_more}
use Rattle.std.proofs.lemmas.List.Elements.{Contains-push, Contains-push_cases, Contains-append_left}
use Rattle.cnf_base.specs.Literals.{Literal, negated}
use Rattle.cnf_base.proofs.Codes.{negated-negated}
use Rattle.cdcl_core.specs.Levels.{Row}
use Rattle.cdcl_learn.specs.Rows.{literal_at}
use Rattle.cdcl_learn.specs.Walks.{IsSet, IsMarked, IsResolved, IsExplained, IsTop}
use Rattle.cdcl_learn.proofs.Lists.{front_cases, put_cases}
use Rattle.cnf_base.proofs.Lists.{Contains-nil}

pub none_marked : (rows : List Row) (c : List Literal) (ms : List Bool) → IsMarked rows (take 0 c) ms ms
none_marked rows c ms = record { size = refl; kept = λ p h. h; joined = λ p h m. absurd (Contains-nil (negated (literal_at rows p)) m); from = λ p h. inl h }

-- a literal that is not false has no place
pub skip_marked : (rows : List Row) (c : List Literal) (old ms : List Bool) (i : ℕ) (l : Literal) → i < length c → l ≡ get_or c i l → ((k : ℕ) → k < length rows → literal_at rows k ≢ negated l) → IsMarked rows (take i c) old ms → IsMarked rows (take (i + 1) c) old ms
skip_marked rows c old ms i l hi at none k = record {
  size = k.size;
  kept = k.kept;
  joined = λ p hp m. elim (front_cases c i l (negated (literal_at rows p)) hi m) [
    | inl a ↦ k.joined p hp a
    | inr a ↦ absurd (none p hp (sym (ap negated (at ∙ a) ∙ negated-negated (literal_at rows p))))
  ];
  from = λ p s. elim (k.from p s) [
    | inl a ↦ inl a
    | inr a ↦ inr (rw (take_more c i l hi) (Contains-append_left (take i c) (get_or c i l ∷ []) (negated (literal_at rows p)) a))
  ];
}

pub more_marked : (rows : List Row) (c : List Literal) (old ms : List Bool) (i : ℕ) (l : Literal) (place : ℕ) → ((j k : ℕ) → j < length rows → k < length rows → literal_at rows j ≡ literal_at rows k → j ≡ k) → length ms ≡ length rows → i < length c → l ≡ get_or c i l →
    place < length rows → literal_at rows place ≡ negated l → IsMarked rows (take i c) old ms → IsMarked rows (take (i + 1) c) old (set ms place true)
more_marked rows c old ms i l place once wide hi at within there k =
    let room : place < length ms = omega (arith, within, wide) in
    record {
      size = rw length-set k.size;
      kept = λ p s. elim (put_cases ms place true p room) [ inl q ↦ q.1 | inr q ↦ q.1 ∙ k.kept p s ];
      joined = λ p hp m. elim (put_cases ms place true p room) [
        | inl q ↦ q.1
        | inr q ↦ elim (front_cases c i l (negated (literal_at rows p)) hi m) [
          | inl a ↦ q.1 ∙ k.joined p hp a
          | inr a ↦
              let same : negated l ≡ literal_at rows p = ap negated (at ∙ a) ∙ negated-negated (literal_at rows p) in
              absurd (q.0 (once p place hp within (sym same ∙ sym there)))
        ]
      ];
      from = λ p s. elim (put_cases ms place true p room) [
        | inl q ↦
            let back : get_or c i l ≡ negated (literal_at rows p) = sym at ∙ (sym (negated-negated l) ∙ ap negated (sym there ∙ ap (literal_at rows) (sym q.0))) in
            inr (rw (take_more c i l hi, back) (Contains-push (take i c) (negated (literal_at rows p))))
        | inr q ↦ elim (k.from p (sym q.1 ∙ s)) [
          | inl a ↦ inl a
          | inr a ↦ inr (rw (take_more c i l hi) (Contains-append_left (take i c) (get_or c i l ∷ []) (negated (literal_at rows p)) a))
        ]
      ];
    }

-- the opposites of the marked literals from a place on
pub record IsCollected (rows : List Row) (marks : List Bool) (c : List Literal) (from : ℕ) : Type 0 where
  pub each : (p : ℕ) → from ≤ p → p < length rows → IsSet marks p → Contains c (negated (literal_at rows p))
  pub only : (l : Literal) → Contains c l → (p : ℕ) × ((p < length rows) × (IsSet marks p × (l ≡ negated (literal_at rows p))))

pub none_collected : (rows : List Row) (marks : List Bool) (top : ℕ) → IsTop marks (length rows) top → IsCollected rows marks [] top
none_collected rows marks top t = record { each = λ p a b s. absurd (t.above p a b s); only = λ l m. absurd (Contains-nil l m) }

-- one literal more, and the marked place before its
pub more_collected : (rows : List Row) (marks : List Bool) (c : List Literal) (i next : ℕ) (l : Literal) → 0 < i → i ≤ length rows → IsSet marks (i - 1) → l ≡ negated (literal_at rows (i - 1)) → IsTop marks (i - 1) next → IsCollected rows marks c i → IsCollected rows marks (c ++ l ∷ []) next
more_collected rows marks c i next l pos within on is t k = record {
  each = λ p a b s. elim (cases_lt p (i - 1)) [
    | inl u ↦ absurd (t.above p a u s)
    | inr u ↦ elim (eqb_tells p (i - 1)) [
      | inl e ↦ rw (e.1, ← is) (Contains-push c l)
      | inr e ↦ Contains-append_left c (l ∷ []) (negated (literal_at rows p)) (k.each p (omega (arith, u, e.1)) b s)
    ]
  ];
  only = λ x m. elim (Contains-push_cases c l x m) [
    | inl a ↦ k.only x a
    | inr a ↦ (i - 1, (omega arith, (on, sym a ∙ is)))
  ];
}

-- one visit
pub same_explained : (n : ℕ) (ms : List Bool) → IsExplained n ms ms
same_explained n ms = record { kept = λ p h s. s; above = λ p h s. s; below = λ p h s. (p, (omega arith, (h, s))) }

pub resolved_explained : (i : ℕ) (old new : List Bool) → IsSet old i → IsResolved i old new → IsExplained (i + 1) old new
resolved_explained i old new on r = record {
  kept = λ p h s. r.kept p (λ e. omega (arith, e, h)) s;
  above = λ p h s. elim (r.from p s) [ inl a ↦ a.1 | inr a ↦ absurd (omega (arith, a, h)) ];
  below = λ p h s. elim (r.from p s) [ inl a ↦ (p, (omega arith, (h, a.1))) | inr a ↦ (i, (omega (arith, a), (omega arith, on))) ];
}

pub explained_more : (end i : ℕ) (a b c : List Bool) → i < end → IsExplained end a b → IsExplained (i + 1) b c → IsExplained end a c
explained_more end i a b c low x y = record {
  kept = λ p h s. y.kept p (omega (arith, h, low)) (x.kept p h s);
  above = λ p h s. x.above p h (y.above p (omega (arith, h, low)) s);
  below = λ p h s. elim (cases_lt p (i + 1)) [
    | inl u ↦
        let q : (q : ℕ) × ((p ≤ q) × ((q < i + 1) × IsSet b q)) = y.below p u s in
        let r : (r : ℕ) × ((q.0 ≤ r) × ((r < end) × IsSet a r)) = x.below q.0 (omega (arith, q.1.1.0, low)) q.1.1.1 in
        (r.0, (omega (arith, q.1.0, r.1.0), (r.1.1.0, r.1.1.1)))
    | inr u ↦ x.below p h (y.above p u s)
  ];
}
