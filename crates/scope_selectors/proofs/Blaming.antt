-- Tests that agree blame alike.
use Rattle.std.proofs.Common.{◌≡◌, ℕ, Bool, List, [], ◌∷◌, refl, ap, cond}
use Rattle.std.specs.Prelude.{◌&&◌, ◌||◌, ◌==◌, is_some, filter, map}
use Rattle.std.specs.List.{list_any}
use Rattle.cnf_base.specs.Literals.{Literal, negated}
use Rattle.scope_selectors.specs.declared.live.Live.{Live}
use Rattle.scope_selectors.specs.Cores.{is_blamed, core_among}

module _ {X : Type 0} (f g : X → Bool) (same : (x : X) → f x ≡ g x) where
  same_filter : (xs : List X) → filter f xs ≡ filter g xs
  same_filter [] = refl
  same_filter (x ∷ xs) = rw (same x) (ap (λ ys. cond (g x) (x ∷ ys) ys) (same_filter xs))

  same_any : (xs : List X) → list_any f xs ≡ list_any g xs
  same_any [] = refl
  same_any (x ∷ xs) = rw (same x) (ap (λ b. g x || b) (same_any xs))

pub same_blame : (p q : Literal → Bool) → ((l : Literal) → p l ≡ q l) → (selectors : List (ℕ × Literal)) (a : ℕ) → is_blamed p selectors a ≡ is_blamed q selectors a
same_blame p q same selectors a = same_any (λ (s : ℕ × Literal). (s.0 == a) && p (negated s.1)) (λ (s : ℕ × Literal). (s.0 == a) && q (negated s.1)) (λ s. ap (λ b. (s.0 == a) && b) (same (negated s.1))) selectors

pub same_core : (p q : ℕ → Bool) → ((a : ℕ) → p a ≡ q a) → (live : List Live) → core_among p live ≡ core_among q live
same_core p q same live = ap (λ (xs : List Live). map (λ (a : Live). a.assertion) xs) (same_filter (λ (a : Live). is_some a.name && p a.assertion) (λ (a : Live). is_some a.name && q a.assertion) (λ a. ap (λ b. is_some a.name && b) (same a.assertion)) live)
