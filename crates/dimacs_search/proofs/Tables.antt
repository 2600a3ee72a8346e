-- A table of clauses by number to which a number is added.
use Rattle.std.proofs.Common.{◌≡◌, ℕ, zero, suc, ◌+◌, ◌-◌, ◌<◌, Bool, true, false, cond, List, [], ◌∷◌, ◌++◌, length, Option, Some, None, refl, sym, ◌∙◌, subst, arith}
use Rattle.std.specs.Prelude.{slice_get, map}
use Rattle.std.proofs.lemmas.List.{length-append, length-map}
use Rattle.std.proofs.lemmas.Option.{slice_get-map}
use Rattle.cnf_base.specs.Literals.{Literal}
use Rattle.cnf_base.proofs.Lists.{slice_get-longer, slice_get-push}
use Rattle.dimacs_front.specs.Lrat.{TableValue, is_live, held, with_clause, padded, with_number}

live_place : (live : List Bool) (place : ℕ) → is_live (slice_get live place) ≡ true → slice_get live place ≡ Some true
live_place live place h = chosen (slice_get live place) h
  where
    chosen : (o : Option Bool) → is_live o ≡ true → o ≡ Some true
    chosen None h = cc
    chosen (Some true) h = refl
    chosen (Some false) h = cc

held_parts : (t : TableValue) (n : ℕ) (c : List Literal) → held t n ≡ Some c → (is_live (slice_get t.live (n - 1)) ≡ true) × (slice_get t.clauses (n - 1) ≡ Some c)
held_parts t n c e = chosen (is_live (slice_get t.live (n - 1))) e
  where
    chosen : (q : Bool) → cond q (slice_get t.clauses (n - 1)) None ≡ Some c → (q ≡ true) × (slice_get t.clauses (n - 1) ≡ Some c)
    chosen true e = (refl, e)
    chosen false e = cc

pub held_from : (t : TableValue) (n : ℕ) (c : List Literal) → slice_get t.live (n - 1) ≡ Some true → slice_get t.clauses (n - 1) ≡ Some c → held t n ≡ Some c
held_from t n c l e = rw (l, e) refl

held_longer : (t : TableValue) (d : List Literal) (b : Bool) (n : ℕ) (c : List Literal) → held t n ≡ Some c → held (with_clause t d b) n ≡ Some c
held_longer t d b n c e =
    let p = held_parts t n c e in
    held_from (with_clause t d b) n c
    (slice_get-longer t.live (b ∷ []) (n - 1) true (live_place t.live (n - 1) p.0))
    (slice_get-longer t.clauses (d ∷ []) (n - 1) c p.1)

held_padded : (k : ℕ) (t : TableValue) (n : ℕ) (c : List Literal) → held t n ≡ Some c → held (padded k t) n ≡ Some c
unfolding padded
held_padded zero t n c e = e
held_padded (suc k) t n c e = held_padded k (with_clause t [] false) n c (held_longer t [] false n c e)

padded_size : (k : ℕ) (t : TableValue) → length (padded k t).clauses ≡ k + length t.clauses
unfolding padded
padded_size zero t = omega arith
padded_size (suc k) t =
    let rest : length (padded k (with_clause t [] false)).clauses ≡ k + length (t.clauses ++ [] ∷ []) = padded_size k (with_clause t [] false) in
    let one : length (t.clauses ++ [] ∷ []) ≡ length t.clauses + 1 = length-append t.clauses ([] ∷ []) in
    rest ∙ omega (arith, one)

padded_even : (k : ℕ) (t : TableValue) → length t.live ≡ length t.clauses → length (padded k t).live ≡ length (padded k t).clauses
unfolding padded
padded_even zero t e = e
padded_even (suc k) t e =
    let lives : length (t.live ++ false ∷ []) ≡ length t.live + 1 = length-append t.live (false ∷ []) in
    let rows : length (t.clauses ++ [] ∷ []) ≡ length t.clauses + 1 = length-append t.clauses ([] ∷ []) in
    padded_even k (with_clause t [] false) (omega (arith, lives, rows, e))

module _ (t : TableValue) (n : ℕ) (d : List Literal) (lt : length t.clauses < n) where
  abbrev gap : TableValue
  gap = padded (n - 1 - length t.clauses) t

  gap_size : length gap.clauses ≡ n - 1
  gap_size = padded_size (n - 1 - length t.clauses) t ∙ omega (arith, lt)

  pub number_size : length (with_number t n d).clauses ≡ n
  number_size =
      let one : length (gap.clauses ++ d ∷ []) ≡ length gap.clauses + 1 = length-append gap.clauses (d ∷ []) in
      one ∙ omega (arith, gap_size, lt)

  pub number_even : length t.live ≡ length t.clauses → length (with_number t n d).live ≡ length (with_number t n d).clauses
  number_even e =
      let lives : length (gap.live ++ true ∷ []) ≡ length gap.live + 1 = length-append gap.live (true ∷ []) in
      let rows : length (gap.clauses ++ d ∷ []) ≡ length gap.clauses + 1 = length-append gap.clauses (d ∷ []) in
      let even : length gap.live ≡ length gap.clauses = padded_even (n - 1 - length t.clauses) t e in
      omega (arith, lives, rows, even)

  pub held_before : (k : ℕ) (c : List Literal) → held t k ≡ Some c → held (with_number t n d) k ≡ Some c
  held_before k c e = held_longer gap d true k c (held_padded (n - 1 - length t.clauses) t k c e)

  pub held_now : length t.live ≡ length t.clauses → held (with_number t n d) n ≡ Some d
  held_now e =
      let even : length gap.live ≡ length gap.clauses = padded_even (n - 1 - length t.clauses) t e in
      held_from (with_number t n d) n d
      (subst (λ k. slice_get (gap.live ++ true ∷ []) k ≡ Some true) (even ∙ gap_size) (slice_get-push gap.live true))
      (subst (λ k. slice_get (gap.clauses ++ d ∷ []) k ≡ Some d) gap_size (slice_get-push gap.clauses d))

-- at the beginning each clause is held
pub held_first : (cs : List (List Literal)) (i : ℕ) (c : List Literal) → slice_get cs i ≡ Some c → held (record { clauses = cs; live = map (λ k. true) cs }) (i + 1) ≡ Some c
held_first cs i c e =
    let place : i + 1 - 1 ≡ i = omega arith in
    held_from (record { clauses = cs; live = map (λ k. true) cs }) (i + 1) c
    (subst (λ k. slice_get (map (λ k. true) cs) k ≡ Some true) (sym place) (slice_get-map (λ k. true) cs i ∙ rw e refl))
    (subst (λ k. slice_get cs k ≡ Some c) (sym place) e)

pub first_even : (cs : List (List Literal)) → length (map (λ k. true) cs) ≡ length cs
first_even cs = length-map cs (λ k. true)
