-- Guards and accesses that have values.
use Rattle.std.specs.Prelude.{◌≡◌, ◌<◌, ℕ, Bool, true, List, length}
use Rattle.smt_terms.specs.declared.sort.Sort.TheVariants as sort
use Rattle.smt_terms.specs.declared.node.Node.{Node}
use Rattle.smt_terms.specs.Bits.{TermBits}
use Rattle.smt_terms.specs.Ranks.{is_word}
use Rattle.smt_terms.specs.Terms.{sort_of}
use Rattle.smt_terms.specs.Values.{Value, number_of}
use Rattle.theory_terms.specs.declared.atom.Landing.{Landing}
use Rattle.access_spread.specs.declared.spreading.Start.{Start}
use Rattle.access_tables.specs.Held.{HasRow}
use Rattle.access_walk.specs.declared.guard.Guard.{Guard}
use Rattle.access_walk.specs.declared.guard.Guard.TheVariants.{Differs, Holds, Fails}

-- a held word that has bits
abbrev pub IsWordTerm : List Node → List TermBits → ℕ → Type 0
IsWordTerm nodes bits t = (t < length nodes) × (is_word (sort_of nodes t) ≡ true) × HasRow nodes bits t

-- a Bool that has bits
abbrev pub IsTruthTerm : List Node → List TermBits → ℕ → Type 0
IsTruthTerm nodes bits t = (sort_of nodes t ≡ sort.Bool) × HasRow nodes bits t

abbrev pub IsGuarded : List Node → List TermBits → Guard → Type 0
IsGuarded nodes bits (Differs j) = IsWordTerm nodes bits j
IsGuarded nodes bits (Holds c) = IsTruthTerm nodes bits c
IsGuarded nodes bits (Fails c) = IsTruthTerm nodes bits c

-- the start of an access of the array with this number, which takes the edges for wide accesses or does not
abbrev pub start_of : (ℕ → Value) → Landing → ℕ → Bool → Start
start_of val l place wide = record { array = place; index = number_of (val l.index); value = number_of (val l.value); wide = wide }
