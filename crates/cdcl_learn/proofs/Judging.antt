-- What is true of the clause that is left.
use Rattle.std.proofs.Common.{ℕ, ◌≡◌, ◌≢◌, ◌-◌, ◌<◌, ◌≤◌, ◌⊎◌, Bool, List, Some, length, map, sym, ap, ◌∙◌, inl, inr, arith}
use Rattle.std.specs.Prelude.{Contains}
use Rattle.std.proofs.lemmas.Bool.{cases_lt}
use Rattle.std.proofs.lemmas.Bool.Decides.{eqb_tells}
use Rattle.cnf_base.specs.Literals.{Literal, negated}
use Rattle.cnf_base.specs.declared.clause.ClauseId.{ClauseId}
use Rattle.cnf_base.proofs.Codes.{negated-negated, same_literal_or_not}
use Rattle.hint_chain.specs.Chains.{IsChain}
use Rattle.cdcl_core.specs.declared.trail.Trail.{Trail}
use Rattle.cdcl_core.specs.declared.watches.Watches.{Watches}
use Rattle.cdcl_core.specs.Levels.{Row, IsTrueBy, IsFalseBy, RestsBy}
use Rattle.cdcl_core.specs.Search.{literals_of, level_of, clause_of, held_of}
use Rattle.cdcl_core.specs.State.{IsSettled}
use Rattle.cdcl_learn.specs.Rows.{literal_at, level_at, AreRising, IsHistory}
use Rattle.cdcl_learn.specs.Puts.{IsGoodPut, IsUnitAfter}
use Rattle.cdcl_learn.specs.Walks.{IsSet, IsDerived, IsExplained, IsTop, IsUnique}
use Rattle.cdcl_learn.proofs.Facts.{place_of_true, true_at_place, history_of, rising_of, lower_rest}
use Rattle.cdcl_learn.proofs.Derivations.{IsClauseOf, uses_held, clause_uses, clause_chain, no_pair}

-- below the place of the unique literal nothing of its level comes
pub unique_kept : (rows : List Row) (old new : List Bool) (level place : ℕ) → AreRising rows level → IsUnique rows old level place → IsExplained place old new → IsUnique rows new level place
unique_kept rows old new level place r u x = record {
  within = u.within;
  marked = x.kept place (omega arith) u.marked;
  stands_at = u.stands_at;
  above = λ p a s. u.above p a (x.above p (omega (arith, a)) s);
  below = λ p a s.
      let q : (q : ℕ) × ((p ≤ q) × ((q < place) × IsSet old q)) = x.below p a s in
      omega (arith, u.below q.0 q.1.1.0 q.1.1.1, r.rise p q.0 q.1.0 (omega (arith, q.1.1.0, u.within)));
}

-- the level of the last of the other marked literals, 0 where there is none
abbrev pub IsLast : List Row → ℕ → ℕ → Type 0
IsLast rows rest b = ((0 < rest) × (b ≡ level_at rows (rest - 1))) ⊎ ((rest ≡ 0) × (b ≡ 0))

module _ (w : Watches) (t : Trail) (marks : List Bool) (place rest b : ℕ) (c : List Literal) (hints : List ClauseId) (st : IsSettled w t) (above : 0 < level_of t) (unique : IsUnique (literals_of t) marks (level_of t) place) (top : IsTop marks place rest) (last : IsLast (literals_of t) rest b) (derived : IsDerived (clause_of w) (literals_of t) marks hints) (clause : IsClauseOf (literals_of t) marks c) where
  history : IsHistory (clause_of w) (literals_of t)
  history = history_of w t st

  pub lower_level : b < level_of t
  lower_level = elim last [
    | inl a ↦ omega (arith, a.1, unique.below (rest - 1) (omega (arith, a.0, top.reached)) (top.marked a.0))
    | inr a ↦ omega (arith, a.1, above)
  ]

  under : (p : ℕ) → p < place → IsSet marks p → level_at (literals_of t) p ≤ b
  under p a s = elim (cases_lt p rest) [
    | inr u ↦ absurd (top.above p u a s)
    | inl u ↦ elim last [
      | inl v ↦ omega (arith, v.1, (rising_of w t st).rise p (rest - 1) (omega (arith, u)) (omega (arith, v.0, top.reached, unique.within)))
      | inr v ↦ omega (arith, u, v.0)
    ]
  ]

  false_level : (j p : ℕ) → p < length (literals_of t) → IsFalseBy (literals_of t) j (negated (literal_at (literals_of t) p)) → level_at (literals_of t) p ≤ j
  false_level j p h f =
      let k : (k : ℕ) × ((k < length (literals_of t)) × ((literal_at (literals_of t) k ≡ negated (negated (literal_at (literals_of t) p))) × (level_at (literals_of t) k ≤ j))) = place_of_true (literals_of t) j (negated (negated (literal_at (literals_of t) p))) f in
      let e : k.0 ≡ p = history.once k.0 p k.1.0 h (k.1.1.0 ∙ negated-negated (literal_at (literals_of t) p)) in
      let low : level_at (literals_of t) k.0 ≤ j = k.1.1.1 in
      rw e at low

  not_true_by : (j p : ℕ) → p < length (literals_of t) → IsTrueBy (literals_of t) j (negated (literal_at (literals_of t) p)) → ⊥
  not_true_by j p h f =
      let k : (k : ℕ) × ((k < length (literals_of t)) × ((literal_at (literals_of t) k ≡ negated (literal_at (literals_of t) p)) × (level_at (literals_of t) k ≤ j))) = place_of_true (literals_of t) j (negated (literal_at (literals_of t) p)) f in
      history.apart k.0 p k.1.0 h k.1.1.0

  other_false : (m : Literal) → Contains c m → m ≢ negated (literal_at (literals_of t) place) → IsFalseBy (literals_of t) b m
  other_false m h ne =
      let p : (p : ℕ) × ((p < length (literals_of t)) × (IsSet marks p × (m ≡ negated (literal_at (literals_of t) p)))) = clause.only m h in
      let back : literal_at (literals_of t) p.0 ≡ negated m = sym (ap negated p.1.1.1 ∙ negated-negated (literal_at (literals_of t) p.0)) in
      elim (cases_lt p.0 place) [
        | inl u ↦ true_at_place (literals_of t) b p.0 (negated m) p.1.0 back (under p.0 u p.1.1.0)
        | inr u ↦ elim (eqb_tells p.0 place) [
          | inl e ↦ absurd (ne (p.1.1.1 ∙ ap (λ x. negated (literal_at (literals_of t) x)) e.1))
          | inr e ↦ absurd (unique.above p.0 (omega (arith, u, e.1)) p.1.1.0)
        ]
      ]

  has_own : Contains c (negated (literal_at (literals_of t) place))
  has_own = clause.each place unique.within unique.marked

  rests_before : (j : ℕ) → j < b → RestsBy (literals_of t) j c
  rests_before j h = elim last [
    | inr v ↦ absurd (omega (arith, h, v.1))
    | inl v ↦
        let q : ℕ = rest - 1 in
        let low : q < place = omega (arith, v.0, top.reached) in
        let within : q < length (literals_of t) = omega (arith, low, unique.within) in
        inr (
          negated (literal_at (literals_of t) place),
          (
            negated (literal_at (literals_of t) q),
            (
              has_own,
              (
                clause.each q within (top.marked v.0),
                (
                  (λ e.
                      let same : literal_at (literals_of t) place ≡ literal_at (literals_of t) q = sym (negated-negated (literal_at (literals_of t) place)) ∙ (ap negated e ∙ negated-negated (literal_at (literals_of t) q)) in
                      omega (arith, low, history.once place q unique.within within same)),
                  (
                    (λ f. omega (arith, h, lower_level, unique.stands_at, false_level j place unique.within f)),
                    (λ f. omega (arith, h, v.1, false_level j q within f)),
                  ),
                ),
              ),
            ),
          ),
        )
  ]

  pub unit_after : IsUnitAfter (literals_of t) b c
  unit_after = record {
    literal = negated (literal_at (literals_of t) place);
    among = has_own;
    open_yet = (not_true_by b place unique.within, λ f. omega (arith, lower_level, unique.stands_at, false_level b place unique.within f));
    others = other_false;
    rests = rests_before;
  }

  none_true : (j : ℕ) (l : Literal) → Contains c l → IsTrueBy (literals_of t) j l → ⊥
  none_true j l h f =
      let p : (p : ℕ) × ((p < length (literals_of t)) × (IsSet marks p × (l ≡ negated (literal_at (literals_of t) p)))) = clause.only l h in
      not_true_by j p.0 p.1.0 (rw p.1.1.1 at f)

  not_held : (id : ClauseId) (d : List Literal) → held_of w id ≡ Some d → ((l : Literal) → Contains d l → Contains c l) → ⊥
  not_held id d at within = elim (lower_rest w t st id d b at lower_level) [
    | inl a ↦ none_true b a.0 (within a.0 a.1.0) a.1.1
    | inr a ↦
        let l : Literal = a.0 in
        let m : Literal = a.1.0 in
        elim (same_literal_or_not l (negated (literal_at (literals_of t) place))) [
          | inr y ↦ a.1.1.1.1.1.0 (other_false l (within l a.1.1.0) y)
          | inl y ↦ elim (same_literal_or_not m (negated (literal_at (literals_of t) place))) [
            | inr z ↦ a.1.1.1.1.1.1 (other_false m (within m a.1.1.1.0) z)
            | inl z ↦ a.1.1.1.1.0 (y ∙ sym z)
          ]
        ]
  ]

  pub good_put : IsGoodPut (clause_of w) (held_of w) (literals_of t) (level_of t) c hints
  good_put =
      let uses = clause_uses (clause_of w) (literals_of t) marks hints c derived clause in
      record {
        no_pair = no_pair (clause_of w) (literals_of t) marks c history clause;
        kept = λ id h. uses_held (clause_of w) (map negated c) hints id uses h;
        stands = λ l h. let p : (p : ℕ) × ((p < length (literals_of t)) × (IsSet marks p × (l ≡ negated (literal_at (literals_of t) p)))) = clause.only l h in rw p.1.1.1 (derived.stands p.0 p.1.0 p.1.1.0);
        uses = uses;
        is_new = not_held;
        not_true = none_true (level_of t);
      }

-- what the caller of `learn` is told
pub record IsJudged (w : Watches) (t : Trail) (b : ℕ) (c : List Literal) (hints : List ClauseId) : Type 0 where
  pub chain : IsChain (clause_of w) c hints
  pub good : IsGoodPut (clause_of w) (held_of w) (literals_of t) (level_of t) c hints
  pub lower : b < level_of t
  pub unit : IsUnitAfter (literals_of t) b c

pub judged : (w : Watches) (t : Trail) (rows : List Row) (old new : List Bool) (level place rest b : ℕ) (c : List Literal) (hints : List ClauseId) → IsSettled w t → 0 < level_of t → rows ≡ literals_of t → level ≡ level_of t →
    IsUnique rows old level place → IsExplained place old new → IsTop new place rest → IsLast rows rest b → IsDerived (clause_of w) rows new hints → IsClauseOf rows new c → IsJudged w t b c hints
judged w t rows old new level place rest b c hints st above e el u x top last derived clause =
    let u2 : IsUnique (literals_of t) old (level_of t) place = rw (e, el) at u in
    let u3 : IsUnique (literals_of t) new (level_of t) place = unique_kept (literals_of t) old new (level_of t) place (rising_of w t st) u2 x in
    let last2 : IsLast (literals_of t) rest b = rw e at last in
    let derived2 : IsDerived (clause_of w) (literals_of t) new hints = rw e at derived in
    let clause2 : IsClauseOf (literals_of t) new c = rw e at clause in
    record {
      chain = clause_chain (clause_of w) (literals_of t) new hints c (history_of w t st) derived2 clause2;
      good = good_put w t new place rest b c hints st above u3 top last2 derived2 clause2;
      lower = lower_level w t new place rest b c hints st above u3 top last2 derived2 clause2;
      unit = unit_after w t new place rest b c hints st above u3 top last2 derived2 clause2;
    }
