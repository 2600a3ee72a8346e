use Rattle.std.proofs.Common.{◌≡◌, ◌++◌, take, map}
use Rattle.std.specs.List.{flat_map, AllByRecursion}
use Rattle.theory_terms.specs.declared.lemma.Move.{Move}
use Rattle.proof_text.specs.Lines.{spaced, move_words, IsMove}
use Rattle.proof_text.specs.Entries.{written_move}
use Rattle.proof_text.proofs.entry.push_moves.Given as goal

abbrev pub invariant-loop-passed : goal.invariant-loop-passed
invariant-loop-passed l = record {
  text : l.out ≡ l.fn.out ++ spaced (flat_map move_words (map written_move (take l.passed-index l.moves)));
  moves : AllByRecursion (λ (m : Move). IsMove (written_move m)) (take l.passed-index l.moves);
}
