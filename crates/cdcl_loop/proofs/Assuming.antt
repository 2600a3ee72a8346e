-- Literals that are decided.
use Rattle.std.proofs.Common.{◌≡◌, ℕ, ◌+◌, ◌-◌, ◌<◌, ◌≤◌, List, [], ◌∷◌, ◌++◌, length, drop, Option, Some, None, refl, ap, ◌∙◌, subst, inl, inr, arith, get_or}
use Rattle.std.specs.Prelude.{Contains, MatchOption, slice_get}
use Rattle.cnf_base.specs.Literals.{Literal}
use Rattle.cdcl_core.specs.declared.trail.Trail.{Trail}
use Rattle.cdcl_core.specs.declared.watches.Watches.{Watches}
use Rattle.cdcl_core.specs.Levels.{Row, IsTrueBy, IsOpen, IsExtended}
use Rattle.cdcl_core.specs.Search.{literals_of, level_of}
use Rattle.cdcl_core.specs.State.{IsSettled}
use Rattle.cdcl_learn.specs.Puts.{DecidesOnly}
use Rattle.cdcl_learn.proofs.Lists.{member_cases}
use Rattle.cnf_base.proofs.Rows.{drop_at}
use Rattle.cdcl_loop.specs.declared.agenda.Agenda.{Agenda}
use Rattle.cdcl_loop.specs.declared.engine.Engine.{Engine}
use Rattle.cdcl_loop.specs.Agendas.{IsScanned}
use Rattle.cdcl_loop.specs.Courses.{IsCourse}
use Rattle.cdcl_loop.specs.Engines.{IsTrailOf, IsAssumed}
use Rattle.cdcl_loop.proofs.Agendas.{scanned_grown, scanned_extended}
use Rattle.cdcl_loop.proofs.Courses.{true_more, true_later, true_extended, course_given, course_free, course_grew, decides_given}
use Rattle.cdcl_loop.proofs.Trails.{trail_same, trail_decided, trail_extended, levels_below}

abbrev Decided : Trail → Trail → Literal → Type 0
Decided t u l = literals_of u ≡ literals_of t ++ (l, level_of t + 1, None) ∷ []

last_true : (rows : List Row) (l : Literal) (level : ℕ) → IsTrueBy (rows ++ (l, level, None) ∷ []) level l
last_true rows l level = (length rows, (level, (None, (end rows, omega arith))))
  where
    end : (xs : List Row) → slice_get (xs ++ (l, level, None) ∷ []) (length xs) ≡ Some (l, level, None)
    end [] = refl
    end (x ∷ xs) = end xs

-- a reserve, a decision and a propagation
module _ (s : Engine) (w1 w2 : Watches) (t1 t2 t3 : Trail) (l : Literal) (h : IsTrailOf s.watches s.trail) (settled1 : IsSettled w1 t1) (same : literals_of t1 ≡ literals_of s.trail) (level1 : level_of t1 ≡ level_of s.trail) (settled2 : IsSettled w1 t2) (decided : Decided t1 t2 l) (level2 : level_of t2 ≡ level_of t1 + 1) where
  pub decided_trail : IsTrailOf w1 t2
  decided_trail = trail_decided w1 w1 t1 t2 l (trail_same s.watches w1 s.trail t1 h settled1 same) settled2 decided

  from_start : Decided s.trail t2 l
  from_start = decided ∙ ap (λ rows. rows ++ (l, level_of t1 + 1, None) ∷ []) same ∙ ap (λ n. literals_of s.trail ++ (l, n + 1, None) ∷ []) level1

  higher : level_of t2 ≡ level_of s.trail + 1
  higher = omega (arith, level1, level2)

  pub decided_free : ((m : Literal) → Contains s.given.items m → IsTrueBy (literals_of s.trail) (level_of s.trail) m) → IsCourse (literals_of s.trail) (level_of s.trail) s.base s.given.items → IsCourse (literals_of t2) (level_of t2) s.base s.given.items
  decided_free all course = rw higher (course_free (literals_of s.trail) (literals_of t2) (level_of s.trail) s.base l s.given.items all from_start course)

  -- the agenda, which kept its place of the level before
  pub decided_scanned : (a : Agenda) → IsScanned a (literals_of s.trail) (level_of s.trail + 1) → IsScanned a (literals_of t2) (level_of t2)
  decided_scanned a =
      scanned_grown a (literals_of s.trail) (literals_of t2) (level_of s.trail + 1) (level_of t2) higher
      (λ j m k. rw from_start (true_more (literals_of s.trail) ((l, level_of s.trail + 1, None) ∷ []) j m k))

  module _ (b : ℕ) (based : b ≡ level_of t2) (settled3 : IsSettled w2 t3) (grown : IsExtended (literals_of t2) (level_of t2) (literals_of t3)) (level3 : level_of t3 ≡ level_of t2) (has : Contains s.given.items l) (at_base : s.base ≡ level_of s.trail) (course : IsCourse (literals_of s.trail) (level_of s.trail) s.base s.given.items) where
    given_course : IsCourse (literals_of t2) (level_of t2) b s.given.items
    given_course =
        let e : b ≡ s.base + 1 = omega (arith, based, at_base, higher) in
        rw (e, higher) (course_given (literals_of s.trail) (literals_of t2) (level_of s.trail) s.base l s.given.items at_base (levels_below s.watches s.trail h.settled) from_start has course)

    pub assumed_course : IsCourse (literals_of t3) (level_of t3) b s.given.items
    assumed_course = course_grew (literals_of t2) (literals_of t3) (level_of t2) (level_of t3) b s.given.items grown level3 given_course

    pub assumed_scanned : (a : Agenda) → IsScanned a (literals_of s.trail) (level_of s.trail + 1) → IsScanned a (literals_of t3) (level_of t3)
    assumed_scanned a k = scanned_extended a (literals_of t2) (literals_of t3) (level_of t2) (level_of t3) grown level3 (decided_scanned a k)

    pub assumed_trail : IsTrailOf w2 t3
    assumed_trail = trail_extended w1 w2 t2 t3 decided_trail settled3 grown

    pub assumed_base : b ≡ level_of t3
    assumed_base = omega (arith, based, level3)

    pub assumed_literal : IsTrueBy (literals_of t3) (level_of t3) l
    assumed_literal = rw level3 (true_extended (literals_of t2) (literals_of t3) (level_of t2) (level_of t2) l grown (rw (from_start, higher) (last_true (literals_of s.trail) l (level_of s.trail + 1))))

    pub assumed_still : (m : Literal) → IsTrueBy (literals_of s.trail) (level_of s.trail) m → IsTrueBy (literals_of t3) (level_of t3) m
    assumed_still m k =
        true_later (literals_of t3) (level_of s.trail) (level_of t3) m (omega (arith, higher, level3))
        (true_extended (literals_of t2) (literals_of t3) (level_of t2) (level_of s.trail) m grown (rw from_start (true_more (literals_of s.trail) ((l, level_of s.trail + 1, None) ∷ []) (level_of s.trail) m k)))

    pub assumed_only : DecidesOnly s.given.items (literals_of t3)
    assumed_only = decides_given (literals_of t3) (level_of t3) b s.given.items assumed_base (levels_below w2 t3 settled3) assumed_course

-- an open literal is open on the same trail
pub open_same : (t u : Trail) (l : Literal) → literals_of u ≡ literals_of t → level_of u ≡ level_of t → IsOpen (literals_of t) (level_of t) l → IsOpen (literals_of u) (level_of u) l
open_same t u l e f h = rw (e, f) h

-- the last given literals, and one more before them
pub assumed_more : (w : Watches) (t u : Trail) (given : List Literal) (i : ℕ) (l : Literal) → 0 < i → i ≤ length given → l ≡ get_or given (i - 1) l → IsAssumed w t (drop i given) → ((m : Literal) → IsTrueBy (literals_of t) (level_of t) m → IsTrueBy (literals_of u) (level_of u) m) → IsTrueBy (literals_of u) (level_of u) l → (m : Literal) → Contains (drop (i - 1) given) m → IsTrueBy (literals_of u) (level_of u) m
assumed_more w t u given i l pos within is h kept made m k =
    let here : i - 1 < length given = omega (arith, pos, within) in
    let next : i - 1 + 1 ≡ i = omega (arith, pos) in
    let row : drop (i - 1) given ≡ l ∷ drop i given = drop_at given (i - 1) l here is ∙ ap (λ n. l ∷ drop n given) next in
    elim (member_cases l m (drop i given) (subst (λ xs. Contains xs m) row k)) [
      | inl e ↦ subst (IsTrueBy (literals_of u) (level_of u)) e made
      | inr old ↦ kept m (h.all m old)
    ]

-- ---- the loop over the given literals

pub none_of : {A B : Type 0} (C : B → Type 0) (o : Option B) → ((x : B) → o ≡ Some x → ⊥) → MatchOption o A C → A
none_of C None not_some m = m
none_of C (Some x) not_some m = absurd (not_some x refl)
