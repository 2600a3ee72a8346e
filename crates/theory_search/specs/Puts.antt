-- What a lemma wants before its clause may be put.
use Rattle.std.specs.Prelude.{List}
use Rattle.smt_terms.specs.declared.node.Node.{Node}
use Rattle.theory_terms.specs.declared.lemma.Lemma.{Lemma}
use Rattle.proof_log.specs.declared.entry.Entry.{Entry}
use Rattle.proof_log.specs.Logs.{state_of, IsPair, IsLemma}
use Rattle.theory_search.specs.declared.putting.Wanted.{Wanted}
use Rattle.theory_search.specs.declared.putting.Wanted.TheVariants.{Equality, Nothing}

-- the equality of two terms may be given a variable; or nothing, and the lemma has its clause
abbrev pub IsWanted : List Node → List Entry → Lemma → Wanted → Type 0
IsWanted nodes log lemma (Equality t u) = IsPair nodes (state_of nodes log) t u
IsWanted nodes log lemma (Nothing c) = IsLemma nodes (state_of nodes log) lemma
