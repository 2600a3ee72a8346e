use Rattle.std.proofs.Common.{ℕ, List, [], sym, subst, ◌≡◌}
use Rattle.std.specs.Prelude.{slice_index}
use Rattle.std.proofs.lemmas.List.{get_or_default, take_all}
use Rattle.cnf_base.proofs.Lists.{Contains-nil}
use Rattle.cdcl_core.specs.Search.{clause_of}
use Rattle.cube_search.specs.Holding.{AreLeft}
use Rattle.cube_search.specs.Keeping.{NotesTaken, IsTaken}
use Rattle.cube_search.proofs.Moving.{left_none, left_next}
use Rattle.cube_search.proofs.Beginning.{noted_none, taken_noted, taken_held}
use Rattle.cube_search.proofs.news.note_taken.Goals as goal

pub positions-init : goal.positions-init
positions-init c = record {
  noted = λ nodes log given from variables opening seen holding placed noting. (noted_none _ c.args.engine.now.watches variables c.args.diary.now noting, λ id d k. absurd (Contains-nil id.pos k));
  left = subst (AreLeft (clause_of c.args.engine.now.watches) []) (sym c.new-left.ensures.items) (left_none (clause_of c.args.engine.now.watches));
}

pub positions-preserved : goal.positions-preserved
positions-preserved c =
    let ps = c.args.positions.now in
    let w = c.args.engine.now.watches in
    let at = slice_index ps c.positions.at-index in
    let is = get_or_default ps c.positions.at-index 0 at c.positions-test.true in
    let diary = c.positions.diary in
    let new = c.note_kept.new.diary in
    let items = c.positions.left.items in
    let items' = c.note_kept.new.left.items in
    record {
      noted = λ nodes log given from variables opening seen holding placed noting.
          let h = c.positions.invariant.noted nodes log given from variables opening seen holding placed noting in (
            taken_noted nodes log given from w opening ps variables seen holding placed c.args.diary.now diary new c.positions.at-index c.positions-test.true at is h.0 items items' c.in_ok-note_kept.ensures,
            taken_held nodes log given from w opening ps variables seen holding placed c.args.diary.now diary new c.positions.at-index c.positions-test.true at is h.0 items items' c.in_ok-note_kept.ensures h.1,
          );
      left = left_next (clause_of w) ps items items' c.positions.at-index at (new ≡ diary) (IsTaken diary new at) c.positions-test.true is c.in_ok-note_kept.ensures c.positions.invariant.left;
    }

pub returns-clause-noted : goal.returns-clause-noted
returns-clause-noted c =
    subst (λ (ps : List ℕ). NotesTaken c.args.engine.now.watches c.args.positions.now ps c.args.diary.now c.positions.diary)
    (take_all c.positions.at-index c.args.positions.now c.positions-test.false) c.positions.invariant.noted

pub returns-clause-left : goal.returns-clause-left
returns-clause-left c =
    subst (λ (ps : List ℕ). AreLeft (clause_of c.args.engine.now.watches) ps c.positions.left.items)
    (take_all c.positions.at-index c.args.positions.now c.positions-test.false) c.positions.invariant.left
