-- Rows of which one of level 0 has another reason.
use Rattle.std.proofs.Common.{◌≡◌, ◌≢◌, ℕ, ◌<◌, ◌≤◌, ◌⊎◌, List, [], ◌∷◌, length, Option, Some, None, ap, ◌∙◌, sym, subst, inl, inr, arith}
use Rattle.std.specs.Prelude.{Contains, IfSome}
use Rattle.std.proofs.Math.ListN.{set, length-set}
use Rattle.std.proofs.lemmas.Bool.Decides.{eqb_tells}
use Rattle.std.proofs.lemmas.List.{get_or-set_other, get_or-set_same}
use Rattle.cnf_base.specs.Literals.{Literal}
use Rattle.cnf_base.specs.declared.clause.ClauseId.{ClauseId}
use Rattle.cdcl_core.specs.declared.trail.Trail.{Trail}
use Rattle.cdcl_core.specs.declared.watches.Watches.{Watches}
use Rattle.cnf_base.proofs.Lists.{Contains-one}
use Rattle.cdcl_core.specs.Levels.{Row, IsTrueBy, IsAdded}
use Rattle.cdcl_core.specs.Search.{literals_of, level_of}
use Rattle.cdcl_core.specs.State.{no_row, IsSettled}
use Rattle.cdcl_learn.specs.Rows.{row_at, literal_at, level_at, reason_at, AreDecidedFirst}
use Rattle.cdcl_learn.proofs.Facts.{place_of_true, true_at_place}
use Rattle.cdcl_loop.specs.Courses.{AreRaised, IsCourse}
use Rattle.cdcl_loop.specs.Engines.{IsTrailOf}
use Rattle.cdcl_loop.proofs.Trails.{levels_below}

module _ (rows : List Row) (p : ℕ) (id : ClauseId) (within : p < length rows) (low : level_at rows p ≡ 0) where
  abbrev now : List Row
  now = set rows p (literal_at rows p, 0, Some id)

  row_cases : (k : ℕ) → ((k ≡ p) × (row_at now k ≡ (literal_at rows p, 0, Some id))) ⊎ ((k ≢ p) × (row_at now k ≡ row_at rows k))
  row_cases k = elim (eqb_tells k p) [
    | inl q ↦ inl (q.1, rw q.1 (get_or-set_same rows p (literal_at rows p, 0, Some id) no_row within))
    | inr q ↦ inr (q.1, get_or-set_other rows p k (literal_at rows p, 0, Some id) no_row q.1)
  ]

  literal_same : (k : ℕ) → literal_at now k ≡ literal_at rows k
  literal_same k = elim (row_cases k) [
    | inl q ↦ ap (λ (r : Row). r.0) q.1 ∙ ap (literal_at rows) (sym q.0)
    | inr q ↦ ap (λ (r : Row). r.0) q.1
  ]

  level_same : (k : ℕ) → level_at now k ≡ level_at rows k
  level_same k = elim (row_cases k) [
    | inl q ↦ ap (λ (r : Row). r.1) q.1 ∙ (sym low ∙ ap (level_at rows) (sym q.0))
    | inr q ↦ ap (λ (r : Row). r.1) q.1
  ]

  decided_before : (k : ℕ) → reason_at now k ≡ None → reason_at rows k ≡ None
  decided_before k e = elim (row_cases k) [
    | inl q ↦ absurd (let z : Some id ≡ None = sym (ap (λ (r : Row). r.2) q.1) ∙ e in cc)
    | inr q ↦ sym (ap (λ (r : Row). r.2) q.1) ∙ e
  ]

  size : length now ≡ length rows
  size = length-set rows p (literal_at rows p, 0, Some id)

  pub restated_true : (j : ℕ) (l : Literal) → IsTrueBy rows j l → IsTrueBy now j l
  restated_true j l t =
      let k = place_of_true rows j l t in
      true_at_place now j k.0 l (rw size k.1.0) (literal_same k.0 ∙ k.1.1.0) (rw (level_same k.0) k.1.1.1)

  pub restated_raised : AreRaised rows → AreRaised now
  restated_raised h = λ i lt e. rw (level_same i) (h i (rw size at lt) (decided_before i e))

  pub restated_first : AreDecidedFirst rows → AreDecidedFirst now
  restated_first h = λ i k lt less e. rw (level_same i, level_same k) (h i k (rw size at lt) less (decided_before i e))

  pub restated_course : (level base : ℕ) (given : List Literal) → IsCourse rows level base given → IsCourse now level base given
  restated_course level base given h = record {
    lower = h.lower;
    assumed = λ i lt e le. rw (literal_same i) (h.assumed i (rw size at lt) (decided_before i e) (rw (level_same i) at le));
    all = λ lt l c. restated_true base l (h.all lt l c);
  }

pub trail_restated : (w v : Watches) (t u : Trail) (p : ℕ) (id : ClauseId) → IsTrailOf w t → IsSettled v u → p < length (literals_of t) → level_at (literals_of t) p ≡ 0 → literals_of u ≡ set (literals_of t) p (literal_at (literals_of t) p, 0, Some id) → IsTrailOf v u
trail_restated w v t u p id h s within low e = record {
  settled = s;
  decided = rw e (restated_first (literals_of t) p id within low h.decided);
  raised = rw e (restated_raised (literals_of t) p id within low h.raised);
}

-- a clause of a literal alone that is true already leaves the rows as they are
pub added_still : (rows new : List Row) (level p : ℕ) (id : ClauseId) (c : List Literal) → p < length rows → level_at rows p ≤ level → c ≡ literal_at rows p ∷ [] → IsAdded rows level id c new → new ≡ rows
added_still rows new level p id c within low one x = elim x [
  | inl a ↦ a.0
  | inr a ↦ absurd (let e : literal_at rows p ≡ a.0 = Contains-one (literal_at rows p) a.0 (subst (λ (ls : List Literal). Contains ls a.0) one a.1.0) in a.1.1.0.0 (true_at_place rows level p a.0 within e low))
]

-- what holds of a value beside another thing
pub some_both : {X A : Type 0} (o : Option X) (P : X → Type 0) → A → IfSome o P → IfSome o (λ x. A × P x)
some_both None P a h = tt
some_both (Some x) P a h = (a, h)

pub unit_still : (w : Watches) (t u : Trail) (p : ℕ) (id : ClauseId) (c : List Literal) → IsTrailOf w t → p < length (literals_of t) → c ≡ literal_at (literals_of t) p ∷ [] → IsAdded (literals_of t) (level_of t) id c (literals_of u) → literals_of u ≡ literals_of t
unit_still w t u p id c h within one x = added_still (literals_of t) (literals_of u) (level_of t) p id c within (levels_below w t h.settled p within) one x

pub unit_low : (w : Watches) (t : Trail) (p : ℕ) → IsTrailOf w t → p < length (literals_of t) → level_of t ≡ 0 → level_at (literals_of t) p ≡ 0
unit_low w t p h within zero = omega (arith, levels_below w t h.settled p within, zero)
