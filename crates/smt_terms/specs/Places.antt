-- Ranks, read by the places of the arguments.
use Rattle.std.specs.Prelude.{ℕ, suc, nat_le, if◌then◌else◌, List, map, length, Option, Some, None, slice_get, Result, Ok, Err}
use Rattle.smt_terms.specs.declared.sort.Sort.{Sort}
use Rattle.smt_terms.specs.declared.rank.Demand.{Demand}
use Rattle.smt_terms.specs.declared.fault.MakeFault.{MakeFault}
use Rattle.smt_terms.specs.declared.fault.MakeFault.TheVariants.{WrongSort}
use Rattle.smt_terms.specs.Ranks.{Rank, Gives, Takes, allows, and_then}

-- the sorts of arguments over terms of these sorts, None where there is no such term
abbrev pub sorts_at : List Sort → List ℕ → List (Option Sort)
sorts_at held args = map (slice_get held) args

-- a sort at a place, if there is one and it meets the demand
abbrev pub demanded : ℕ → Demand → Option (Option Sort) → Result Sort MakeFault
demanded k d None = Err (WrongSort k)
demanded k d (Some None) = Err (WrongSort k)
demanded k d (Some (Some s)) = if allows d s then Ok s else Err (WrongSort k)

abbrev pub taken : List (Option Sort) → ℕ → Demand → Result Sort MakeFault
taken args k d = demanded k d (slice_get args k)

-- what is given where no argument stands at this place
abbrev pub ended : ℕ → ℕ → Result Sort MakeFault → Result Sort MakeFault
ended count k r = if nat_le count k then r else Err (WrongSort k)

abbrev pub ranked_at : Rank → ℕ → List (Option Sort) → Result Sort MakeFault
ranked_at (Gives r) k args = ended (length args) k r
ranked_at (Takes d next) k args = and_then (taken args k d) λ s. ranked_at (next s) (suc k) args
