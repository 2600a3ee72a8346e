-- Rows of lists, after one row more and after a change of one.
use Rattle.std.proofs.Common.{◌≡◌, ℕ, zero, suc, ◌<◌, List, [], ◌∷◌, ◌++◌, length, refl, sym, subst, arith}
use Rattle.std.specs.Prelude.{Contains, slice_index_or, slice_set}

pub empty_row : {A : Type 0} (lists : List (List A)) (k : ℕ) → slice_index_or (lists ++ [] ∷ []) k [] ≡ slice_index_or lists k []
empty_row [] zero = refl
empty_row [] (suc k) = refl
empty_row (r ∷ rs) zero = refl
empty_row (r ∷ rs) (suc k) = empty_row rs k

pub set_keeps : {A : Type 0} (lists : List (List A)) (at k : ℕ) (old new : List A) (x : A) → at < length lists → old ≡ slice_index_or lists at old → (Contains old x → Contains new x) → Contains (slice_index_or lists k []) x → Contains (slice_index_or (slice_set lists at new) k []) x
set_keeps [] at k old new x lt e f h = absurd (omega arith)
set_keeps (r ∷ rs) zero zero old new x lt e f h = f (subst (λ ys. Contains ys x) (sym e) h)
set_keeps (r ∷ rs) zero (suc k) old new x lt e f h = h
set_keeps (r ∷ rs) (suc at) zero old new x lt e f h = h
set_keeps (r ∷ rs) (suc at) (suc k) old new x lt e f h = set_keeps rs at k old new x (omega arith) e f h

pub set_has : {A : Type 0} (lists : List (List A)) (at : ℕ) (new : List A) (x : A) → at < length lists → Contains new x → Contains (slice_index_or (slice_set lists at new) at []) x
set_has [] at new x lt h = absurd (omega arith)
set_has (r ∷ rs) zero new x lt h = h
set_has (r ∷ rs) (suc at) new x lt h = set_has rs at new x (omega arith) h

pub set_only : {A : Type 0} (lists : List (List A)) (at : ℕ) (new : List A) (x : A) → at < length lists → Contains (slice_index_or (slice_set lists at new) at []) x → Contains new x
set_only [] at new x lt h = absurd (omega arith)
set_only (r ∷ rs) zero new x lt h = h
set_only (r ∷ rs) (suc at) new x lt h = set_only rs at new x (omega arith) h

pub set_comes : {A : Type 0} (lists : List (List A)) (at k : ℕ) (old new : List A) (x : A) → at < length lists → old ≡ slice_index_or lists at old → (Contains new x → Contains old x) → Contains (slice_index_or (slice_set lists at new) k []) x → Contains (slice_index_or lists k []) x
set_comes [] at k old new x lt e f h = absurd (omega arith)
set_comes (r ∷ rs) zero zero old new x lt e f h = subst (λ ys. Contains ys x) e (f h)
set_comes (r ∷ rs) zero (suc k) old new x lt e f h = h
set_comes (r ∷ rs) (suc at) zero old new x lt e f h = h
set_comes (r ∷ rs) (suc at) (suc k) old new x lt e f h = set_comes rs at k old new x (omega arith) e f h
