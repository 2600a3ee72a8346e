use Rattle.std.proofs.Common.{take}
use Rattle.std.specs.Prelude.{All}
use Rattle.opening_positions.specs.Positions.{Gains}
use Rattle.opening_positions.specs.Holding.{IsHeldLemma, IsDecided}
use Rattle.opening_positions.proofs.holding.hold_lemmas.Given as goal

abbrev pub invariant-lemmas : goal.invariant-lemmas
invariant-lemmas l = record {
  gains : Gains l.fn.held (IsHeldLemma l.log.clauses l.makers l.lemmas l.held) l.held;
  all : All (IsDecided l.log.clauses l.makers l.held) (take l.at-index l.lemmas);
}
