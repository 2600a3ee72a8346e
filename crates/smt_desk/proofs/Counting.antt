-- A count of listed calls never falls, and rises at a call that fails.
use Rattle.std.proofs.Common.{◌≡◌, ℕ, zero, suc, ◌+◌, ◌-◌, ◌≤◌, Bool, true, false, List, arith, add-zero, add-suc, refl, subst, if◌then◌else◌, not, ◌&&◌, eqb, Result, Ok, Err}
use Rattle.std.proofs.lemmas.Bool.{eqb-false}
use Rattle.smt_desk.specs.Faults.{HasCause}
use Rattle.smt_desk.specs.Memory.{listed_below, is_listed, fails, one_more, last_count}

next_listed : (failing : List ℕ) (call : ℕ) → listed_below failing (suc call) ≡ listed_below failing call + (if is_listed failing call then 1 else 0)
unfolding listed_below
next_listed failing call = refl

below_more : (failing : List ℕ) (call more : ℕ) → listed_below failing call ≤ listed_below failing (call + more)
below_more failing call zero = rw add-zero (omega arith)
below_more failing call (suc more) = rw (add-suc, next_listed) (omega (arith, below_more failing call more))

pub grows : (failing : List ℕ) (call : ℕ) → call ≤ last_count → listed_below failing call ≤ listed_below failing (one_more call)
grows failing call h =
    let step : call + (one_more call - call) ≡ one_more call = omega (arith, h) in
    subst (λ (n : ℕ). listed_below failing call ≤ listed_below failing n) step (below_more failing call (one_more call - call))

both : (a b : Bool) → not a && b ≡ true → (a ≡ false) × (b ≡ true)
both true b e = cc
both false true e = (refl, refl)
both false false e = cc

pub rises : (failing : List ℕ) (call : ℕ) → call ≤ last_count → fails failing call ≡ true → listed_below failing (one_more call) ≡ listed_below failing call + 1
rises failing call h f =
    let b = both (eqb call last_count) (is_listed failing call) f in
    let step : one_more call ≡ suc call = omega (arith, h, eqb-false call last_count b.0) in
    rw (step, next_listed failing call, b.1) refl

-- the cause of a call's answer: nothing failed, a listed call, or want of memory
module _ {T E : Type 0} (failing : List ℕ) (call next : ℕ) (small : call ≤ last_count) (step : next ≡ one_more call) where
  pub none_fails : (refused : ℕ) (n : T) → HasCause {T = T} {E = E} (listed_below failing call + refused) (listed_below failing next + refused) (Ok n)
  none_fails refused n = rw step (let g = grows failing call small in record { later = omega (arith, g); failed = tt })

  pub listed_fails : (refused : ℕ) (e : E) → fails failing call ≡ true → HasCause {T = T} {E = E} (listed_below failing call + refused) (listed_below failing next + refused) (Err e)
  listed_fails refused e f = rw step (let r = rises failing call small f in record { later = omega (arith, r); failed = omega (arith, r) })

  pub memory_fails : (refused more : ℕ) (e : E) → refused ≤ last_count → more ≡ one_more refused → HasCause {T = T} {E = E} (listed_below failing call + refused) (listed_below failing next + more) (Err e)
  memory_fails refused more e h m = rw step (let g = grows failing call small in record { later = omega (arith, g, m, h); failed = omega (arith, g, m, h) })

pub without_refusals : {T E : Type 0} (before now : ℕ) (result : Result T E) → HasCause (before + 0) (now + 0) result → HasCause before now result
without_refusals before now result h = rw (add-zero, add-zero) at h
