use Rattle.std.proofs.Common.{ℕ, List, subst}
use Rattle.std.specs.Prelude.{slice_index}
use Rattle.std.proofs.lemmas.List.{get_or_default, take_all}
use Rattle.cnf_base.proofs.Lists.{Contains-nil}
use Rattle.cube_search.specs.Keeping.{NotesAdded}
use Rattle.cube_search.proofs.Beginning.{noted_none, added_next}
use Rattle.cube_search.proofs.Told.{take_less, take_has}
use Rattle.cube_search.proofs.news.note_added.Goals as goal

pub positions-init : goal.positions-init
positions-init c = record { noted = λ w nodes log given variables opening taken seen among holding placed noting. (noted_none _ w variables c.args.diary.now noting, λ p k. absurd (Contains-nil p k)) }

pub positions-preserved : goal.positions-preserved
positions-preserved c =
    let ps = c.args.positions.now in
    let i = c.positions.at-index in
    let lt = c.positions-test.true in
    let at = slice_index ps i in
    record {
      noted = λ w nodes log given variables opening taken seen among holding placed noting.
          let h = c.positions.invariant.noted w nodes log given variables opening taken seen (λ p k. among p (take_less ps i 0 p lt k)) holding placed noting in
          added_next nodes log given c.args.bound w opening taken variables seen holding placed c.args.diary.now c.positions.diary ps i lt at (get_or_default ps i 0 at lt) (among at (take_has ps i 0 lt)) h.0 h.1 c.note_from.new.diary c.in_ok-note_from.ensures;
    }

pub returns : goal.returns
returns c = λ w. subst (λ (ps : List ℕ). NotesAdded w ps c.args.diary.now c.positions.diary c.args.bound) (take_all c.positions.at-index c.args.positions.now c.positions-test.false) (c.positions.invariant.noted w)
