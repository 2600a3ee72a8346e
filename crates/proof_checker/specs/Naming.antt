-- Lines of lemmas that name held terms alone.
use Rattle.std.specs.Prelude.{ℕ, ◌<◌}
use Rattle.std.specs.List.{AllByRecursion}
use Rattle.proof_text.specs.declared.list.WrittenStart.{WrittenStart}
use Rattle.proof_text.specs.declared.list.WrittenStart.TheVariants as start
use Rattle.proof_text.specs.declared.list.WrittenMove.{WrittenMove}
use Rattle.proof_text.specs.declared.list.WrittenAccess.{WrittenAccess}
use Rattle.proof_text.specs.declared.line.Line.{Line}
use Rattle.proof_text.specs.declared.line.Line.TheVariants as line

-- so many terms are held, and a start names some of them
abbrev pub IsStartOver : ℕ → WrittenStart → Type 0
IsStartOver held (start.Term t) = t < held
IsStartOver held (start.Const k j) = (k < held) × (j < held)

abbrev pub IsMoveOver : ℕ → WrittenMove → Type 0
IsMoveOver held m = m.term < held

abbrev pub IsAccessOver : ℕ → WrittenAccess → Type 0
IsAccessOver held a = IsStartOver held a.start × AllByRecursion (IsMoveOver held) a.moves

-- the line is that of a lemma which names held terms alone
abbrev pub IsLemmaOver : ℕ → Line → Type 0
IsLemmaOver held (line.Congruence t u) = (t < held) × (u < held)
IsLemmaOver held (line.Witness t) = t < held
IsLemmaOver held (line.Accesses a b) = IsAccessOver held a × IsAccessOver held b
IsLemmaOver held _ = ⊥
