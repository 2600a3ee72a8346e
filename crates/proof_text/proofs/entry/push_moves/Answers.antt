use Rattle.std.proofs.Common.{List, ◌∷◌, map, refl}
use Rattle.std.specs.List.{flat_map}
use Rattle.std.proofs.lemmas.List.Concat.{flat_map-append}
use Rattle.cnf_base.proofs.Lists.{each_map}
use Rattle.theory_terms.specs.declared.lemma.Move.{Move}
use Rattle.proof_text.specs.Lines.{spaced, move_words, IsMove}
use Rattle.proof_text.specs.Entries.{written_move}
use Rattle.proof_text.proofs.Appending.{text_more}
use Rattle.proof_text.proofs.Readable.{each_more, each_all}
use Rattle.proof_text.proofs.entry.push_moves.Goals as goal

pub loop-passed-preserved : goal.loop-passed-preserved
loop-passed-preserved c = record {
  text =
      text_more (λ (xs : List Move). spaced (flat_map move_words (map written_move xs))) (λ (x : Move). spaced (move_words (written_move x))) refl
      (λ y ys. flat_map-append (λ w. 32 ∷ w) (move_words (written_move y)) (flat_map move_words (map written_move ys))) c.args.moves.now c.loop-passed.passed-index _ _ _ _
      c.loop-passed-test.true c.loop-passed.invariant.text c.in_ok-push_move.ensures.ok;
  moves =
      each_more (λ (x : Move). IsMove (written_move x)) c.args.moves.now c.loop-passed.passed-index _ c.loop-passed-test.true c.loop-passed.invariant.moves c.in_ok-push_move.ensures.term;
}

pub returns-clause-terms : goal.returns-clause-terms
returns-clause-terms c =
    each_map written_move IsMove c.args.moves.now
    (each_all (λ (x : Move). IsMove (written_move x)) c.args.moves.now c.loop-passed.passed-index c.loop-passed-test.false c.loop-passed.invariant.moves)
