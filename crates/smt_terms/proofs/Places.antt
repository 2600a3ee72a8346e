-- Ranks by places are ranks by lists.
use Rattle.std.proofs.Common.{◌≡◌, ◌∙◌, ℕ, suc, ◌<◌, ◌≤◌, true, false, List, ◌∷◌, length, get_or, drop, refl, Option, Some, None, Result, Ok, Err, rules, tests, ⊎_elim}
use Rattle.std.specs.Prelude.{nat_le, if◌then◌else◌}
use Rattle.std.proofs.lemmas.Bool.{cases_lt}
use Rattle.std.proofs.lemmas.Option.{slice_get_past, slice_get-get_or}
use Rattle.std.proofs.Math.Seq.{drop-cons}
use Rattle.std.proofs.Math.ListN.{drop_of_length-le}
use Rattle.smt_terms.specs.declared.sort.Sort.{Sort}
use Rattle.smt_terms.specs.declared.rank.Demand.{Demand}
use Rattle.smt_terms.specs.declared.rank.Demand.TheVariants.{Argument}
use Rattle.smt_terms.specs.declared.fault.MakeFault.{MakeFault}
use Rattle.smt_terms.specs.declared.fault.MakeFault.TheVariants.{WrongSort}
use Rattle.smt_terms.specs.Ranks.{Rank, Gives, Takes, allows, ranked, each_of, and_then}
use Rattle.smt_terms.specs.Places.{demanded, taken, ended, ranked_at}

is_le : (n m : ℕ) → n ≤ m → nat_le n m ≡ true
is_le n m h = search (rules, tests)

not_le : (n m : ℕ) → m < n → nat_le n m ≡ false
not_le n m h = search (rules, tests)

ends : (r : Rank) (k : ℕ) (args : List (Option Sort)) → length args ≤ k → ranked_at r k args ≡ ranked r k (drop k args)
ends (Gives r) k args le = rw (drop_of_length-le args le, is_le (length args) k le) refl
ends (Takes d next) k args le = rw (drop_of_length-le args le, slice_get_past args k le) refl

gives : (r : Result Sort MakeFault) (k : ℕ) (args : List (Option Sort)) → k < length args → ranked_at (Gives r) k args ≡ ranked (Gives r) k (drop k args)
gives r k args lt = rw (drop-cons args k None lt, not_le (length args) k lt) refl

takes : (d : Demand) (next : Sort → Rank) (k : ℕ) (args : List (Option Sort)) → ((s : Sort) → ranked_at (next s) (suc k) args ≡ ranked (next s) (suc k) (drop (suc k) args)) → k < length args → ranked_at (Takes d next) k args ≡ ranked (Takes d next) k (drop k args)
takes d next k args ih lt = rw (drop-cons args k None lt, slice_get-get_or args k None lt) (go (get_or args k None)) where
  go : (x : Option Sort) → and_then (demanded k d (Some x)) (λ s. ranked_at (next s) (suc k) args) ≡ ranked (Takes d next) k (x ∷ drop (suc k) args)
  go None = refl
  go (Some s) = elim (allows d s) as (λ b. and_then (if b then Ok s else Err (WrongSort k)) (λ s. ranked_at (next s) (suc k) args) ≡ (if b then ranked (next s) (suc k) (drop (suc k) args) else Err (WrongSort k))) [
    | true ↦ ih s
    | false ↦ refl
  ]

pub by_places : (r : Rank) (k : ℕ) (args : List (Option Sort)) → ranked_at r k args ≡ ranked r k (drop k args)
by_places (Gives r) k args = ⊎_elim (λ lt. gives r k args lt) (λ le. ends (Gives r) k args le) (cases_lt k (length args))
by_places (Takes d next) k args = ⊎_elim (λ lt. takes d next k args (λ s. by_places (next s) (suc k) args) lt) (λ le. ends (Takes d next) k args le) (cases_lt k (length args))

-- from the first place on
pub from_first : (r : Rank) (args : List (Option Sort)) → ranked_at r 0 args ≡ ranked r 0 args
from_first r args = by_places r 0 args

-- what a loop over the sorts of a signature knows, from where it stands
module _ (wanted : List Sort) (r : Result Sort MakeFault) (args : List (Option Sort)) (k : ℕ) (so_far : ranked_at (each_of wanted r) 0 args ≡ ranked_at (each_of (drop k wanted) r) k args) where
  pub each_taken : (d s : Sort) → k < length wanted → Ok s ≡ taken args k (Argument (get_or wanted k d)) → ranked_at (each_of wanted r) 0 args ≡ ranked_at (each_of (drop (suc k) wanted) r) (suc k) args
  each_taken d s lt e = so_far ∙ rw (drop-cons wanted k d lt) (rw (← e) refl)

  pub each_refused : (d : Sort) (f : MakeFault) → k < length wanted → Err f ≡ taken args k (Argument (get_or wanted k d)) → ranked_at (each_of wanted r) 0 args ≡ Err f
  each_refused d f lt e = so_far ∙ rw (drop-cons wanted k d lt) (rw (← e) refl)

  pub each_ended : length wanted ≤ k → ranked_at (each_of wanted r) 0 args ≡ ended (length args) k r
  each_ended le = so_far ∙ rw (drop_of_length-le wanted le) refl
