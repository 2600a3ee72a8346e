-- The literals of a cube.
use Rattle.std.proofs.Common.{◌≡◌, ℕ, suc, ◌+◌, ◌-◌, ◌*◌, ◌/◌, ◌%◌, ◌^◌, ◌<◌, ◌≤◌, List, [], ◌∷◌, ◌++◌, length, drop, get_or, sym, ap, ap₂, ◌∙◌, subst, inl, inr, arith, append_assoc, append-nil, drop-cons}
use Rattle.std.specs.Prelude.{◌==◌}
use Rattle.std.proofs.Math.Nat.{pow-suc}
use Rattle.std.proofs.lemmas.Bool.{cases_lt}
use Rattle.std.proofs.lemmas.List.{drop_all}
use Rattle.cnf_base.specs.Literals.{Literal}
use Rattle.cnf_base.proofs.Lists.{each_append}
use Rattle.cube_tree.specs.Cubes.{cube_of, AreVariables}

-- one variable more
pub variables_more : (variables : List ℕ) (x : ℕ) → AreVariables variables → 0 < x → x < 2 ^ 63 → AreVariables (variables ++ x ∷ [])
variables_more variables x h some bound = each_append (λ v. (0 < v) × (v < 2 ^ 63)) variables (x ∷ []) h ((some, bound), tt)

-- the literals so far, and those that the rest of the number gives
pub record IsCubeSo (variables : List ℕ) (cube : ℕ) (at rest : ℕ) (literals : List Literal) : Type 0 where
  pub all : literals ++ cube_of (drop at variables) rest ≡ cube_of variables cube
  pub small : cube < 2 ^ length variables → rest < 2 ^ (length variables - at)
  pub back : rest < 2 ^ (length variables - at) → cube < 2 ^ length variables

pub cube_first : (variables : List ℕ) (cube : ℕ) (literals : List Literal) → literals ≡ [] → IsCubeSo variables cube 0 cube literals
cube_first variables cube literals e = record {
  all = ap (λ x. x ++ cube_of variables cube) e;
  small = λ lt. subst (λ k. cube < 2 ^ k) whole lt;
  back = λ lt. subst (λ k. cube < 2 ^ k) (sym whole) lt;
} where
  whole : length variables ≡ length variables - 0
  whole = omega arith

pub cube_next : (variables : List ℕ) (cube at rest : ℕ) (old new : List Literal) (v d : ℕ) → at < length variables → v ≡ get_or variables at d → IsCubeSo variables cube at rest old
    → new ≡ old ++ record { variable = v; positive = rest % 2 == 0 } ∷ [] → IsCubeSo variables cube (at + 1) (rest / 2) new
cube_next variables cube at rest old new v d lt is h e =
    let first : Literal = record { variable = v; positive = rest % 2 == 0 } in
    let behind : List Literal = cube_of (drop (at + 1) variables) (rest / 2) in
    let one : suc at ≡ at + 1 = omega arith in
    let here : drop at variables ≡ v ∷ drop (at + 1) variables = drop-cons variables at d lt ∙ ap₂ (λ x k. x ∷ drop k variables) (sym is) one in
    let split : cube_of (drop at variables) rest ≡ first ∷ behind = ap (λ x. cube_of x rest) here in
    let one_more : length variables - at ≡ suc (length variables - (at + 1)) = omega (arith, lt) in
    let double : 2 ^ (length variables - at) ≡ 2 ^ (length variables - (at + 1)) * 2 = ap (λ k. 2 ^ k) one_more ∙ pow-suc 2 (length variables - (at + 1)) in
    record {
      all = ap (λ x. x ++ behind) e ∙ append_assoc old (first ∷ []) behind ∙ ap (λ x. old ++ x) (sym split) ∙ h.all;
      small = λ less. let m = h.small less in omega (arith, m, double);
      back = λ less. h.back (omega (arith, less, double));
    }

pub cube_done : (variables : List ℕ) (cube at rest : ℕ) (literals : List Literal) → length variables ≤ at → rest ≡ 0 → IsCubeSo variables cube at rest literals
    → (cube < 2 ^ length variables) × (literals ≡ cube_of variables cube)
cube_done variables cube at rest literals le e h =
    let none : length variables - at ≡ 0 = omega (arith, le) in (
      h.back (subst (λ k. rest < 2 ^ k) (sym none) (omega (arith, e))),
      sym (append-nil literals) ∙ ap (λ x. literals ++ cube_of x rest) (sym (drop_all at variables le)) ∙ h.all,
    )

pub no_cube : (variables : List ℕ) (cube at rest : ℕ) (literals : List Literal) → length variables ≤ at → (rest ≡ 0 → ⊥) → IsCubeSo variables cube at rest literals → 2 ^ length variables ≤ cube
no_cube variables cube at rest literals le some h = elim (cases_lt cube (2 ^ length variables)) [
  | inl lt ↦ absurd (
      let none : length variables - at ≡ 0 = omega (arith, le) in
      let m : rest < 2 ^ 0 = subst (λ k. rest < 2 ^ k) none (h.small lt) in
      some (omega (arith, m)))
  | inr ge ↦ ge
]
