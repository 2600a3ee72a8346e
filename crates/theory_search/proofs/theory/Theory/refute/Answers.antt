use Rattle.std.proofs.Common.{List, refl, subst}
use Rattle.std.specs.Prelude.{Contains}
use Rattle.theory_terms.specs.declared.lemma.Lemma.{Lemma}
use Rattle.theory_search.proofs.Grown.{longer_by_chains, more_then, ready_more, theory_more, theory_like}
use Rattle.theory_search.proofs.Taken.{search_between, search_behind, apart_between, writing_behind}
use Rattle.theory_search.proofs.theory.Theory.refute.Goals as goal

pub returns-in_err-told-clause-later : goal.returns-in_err-told-clause-later
returns-in_err-told-clause-later g c = longer_by_chains (g.B.Board.nodes c.args.board.now) (g.B.Board.nodes c.sync.new.self) (g.B.Board.log c.args.board.now) (g.B.Board.log c.sync.new.self) (g.B.Board.knows c.args.board.now) (g.B.Board.knows c.sync.new.self) c.sync.ensures.later

pub put_all-requires-clause-ready : goal.put_all-requires-clause-ready
put_all-requires-clause-ready g c = λ l k.
    ready_more l (g.B.Board.nodes c.args.board.now) (g.B.Board.nodes c.sync.new.self) (g.B.Board.log c.args.board.now) (g.B.Board.log c.sync.new.self) (g.B.Board.knows c.args.board.now) (g.B.Board.knows c.sync.new.self) (longer_by_chains (g.B.Board.nodes c.args.board.now) (g.B.Board.nodes c.sync.new.self) (g.B.Board.log c.args.board.now) (g.B.Board.log c.sync.new.self) (g.B.Board.knows c.args.board.now) (g.B.Board.knows c.sync.new.self) c.sync.ensures.later) (c.requires.falses l (subst (λ (xs : List Lemma). Contains xs l) c.as_slice.ensures.value k))

pub returns-in_err-put_all-clause-later : goal.returns-in_err-put_all-clause-later
returns-in_err-put_all-clause-later g c = (more_then (g.B.Board.nodes c.args.board.now) (g.B.Board.nodes c.sync.new.self) (g.B.Board.nodes c.put_all.new.board) (g.B.Board.log c.args.board.now) (g.B.Board.log c.sync.new.self) (g.B.Board.log c.put_all.new.board) (g.B.Board.knows c.args.board.now) (g.B.Board.knows c.sync.new.self) (g.B.Board.knows c.put_all.new.board) (longer_by_chains (g.B.Board.nodes c.args.board.now) (g.B.Board.nodes c.sync.new.self) (g.B.Board.log c.args.board.now) (g.B.Board.log c.sync.new.self) (g.B.Board.knows c.args.board.now) (g.B.Board.knows c.sync.new.self) c.sync.ensures.later) c.put_all.ensures)

pub put_all-requires-2-clause-ready : goal.put_all-requires-2-clause-ready
put_all-requires-2-clause-ready g c = λ l k.
    ready_more l (g.B.Board.nodes c.args.board.now) (g.B.Board.nodes c.put_all.new.board) (g.B.Board.log c.args.board.now) (g.B.Board.log c.put_all.new.board) (g.B.Board.knows c.args.board.now) (g.B.Board.knows c.put_all.new.board) (more_then (g.B.Board.nodes c.args.board.now) (g.B.Board.nodes c.sync.new.self) (g.B.Board.nodes c.put_all.new.board) (g.B.Board.log c.args.board.now) (g.B.Board.log c.sync.new.self) (g.B.Board.log c.put_all.new.board) (g.B.Board.knows c.args.board.now) (g.B.Board.knows c.sync.new.self) (g.B.Board.knows c.put_all.new.board) (longer_by_chains (g.B.Board.nodes c.args.board.now) (g.B.Board.nodes c.sync.new.self) (g.B.Board.log c.args.board.now) (g.B.Board.log c.sync.new.self) (g.B.Board.knows c.args.board.now) (g.B.Board.knows c.sync.new.self) c.sync.ensures.later) c.put_all.ensures) (c.requires.siblings l (subst (λ (xs : List Lemma). Contains xs l) c.as_slice-2.ensures.value k))

pub returns-in_err-put_all-2-clause-later : goal.returns-in_err-put_all-2-clause-later
returns-in_err-put_all-2-clause-later g c = (more_then (g.B.Board.nodes c.args.board.now) (g.B.Board.nodes c.put_all.new.board) (g.B.Board.nodes c.put_all-2.new.board) (g.B.Board.log c.args.board.now) (g.B.Board.log c.put_all.new.board) (g.B.Board.log c.put_all-2.new.board) (g.B.Board.knows c.args.board.now) (g.B.Board.knows c.put_all.new.board) (g.B.Board.knows c.put_all-2.new.board) (more_then (g.B.Board.nodes c.args.board.now) (g.B.Board.nodes c.sync.new.self) (g.B.Board.nodes c.put_all.new.board) (g.B.Board.log c.args.board.now) (g.B.Board.log c.sync.new.self) (g.B.Board.log c.put_all.new.board) (g.B.Board.knows c.args.board.now) (g.B.Board.knows c.sync.new.self) (g.B.Board.knows c.put_all.new.board) (longer_by_chains (g.B.Board.nodes c.args.board.now) (g.B.Board.nodes c.sync.new.self) (g.B.Board.log c.args.board.now) (g.B.Board.log c.sync.new.self) (g.B.Board.knows c.args.board.now) (g.B.Board.knows c.sync.new.self) c.sync.ensures.later) c.put_all.ensures) c.put_all-2.ensures)

pub take-requires : goal.take-requires
take-requires g c = record { search = search_behind (g.B.Board.nodes c.args.board.now) (g.B.Board.nodes c.sync.new.self) (g.B.Board.nodes c.put_all-2.new.board) (g.B.Board.log c.args.board.now) (g.B.Board.log c.sync.new.self) (g.B.Board.log c.put_all-2.new.board) (g.B.Board.knows c.args.board.now) (g.B.Board.knows c.sync.new.self) (g.B.Board.knows c.put_all-2.new.board) c.sync.ensures.later (more_then (g.B.Board.nodes c.sync.new.self) (g.B.Board.nodes c.put_all.new.board) (g.B.Board.nodes c.put_all-2.new.board) (g.B.Board.log c.sync.new.self) (g.B.Board.log c.put_all.new.board) (g.B.Board.log c.put_all-2.new.board) (g.B.Board.knows c.sync.new.self) (g.B.Board.knows c.put_all.new.board) (g.B.Board.knows c.put_all-2.new.board) c.put_all.ensures c.put_all-2.ensures) c.args.search.now c.requires.search }

pub returns-in_err-take-clause-later : goal.returns-in_err-take-clause-later
returns-in_err-take-clause-later g c = (more_then (g.B.Board.nodes c.args.board.now) (g.B.Board.nodes c.put_all-2.new.board) (g.B.Board.nodes c.take.new.board) (g.B.Board.log c.args.board.now) (g.B.Board.log c.put_all-2.new.board) (g.B.Board.log c.take.new.board) (g.B.Board.knows c.args.board.now) (g.B.Board.knows c.put_all-2.new.board) (g.B.Board.knows c.take.new.board) (more_then (g.B.Board.nodes c.args.board.now) (g.B.Board.nodes c.put_all.new.board) (g.B.Board.nodes c.put_all-2.new.board) (g.B.Board.log c.args.board.now) (g.B.Board.log c.put_all.new.board) (g.B.Board.log c.put_all-2.new.board) (g.B.Board.knows c.args.board.now) (g.B.Board.knows c.put_all.new.board) (g.B.Board.knows c.put_all-2.new.board) (more_then (g.B.Board.nodes c.args.board.now) (g.B.Board.nodes c.sync.new.self) (g.B.Board.nodes c.put_all.new.board) (g.B.Board.log c.args.board.now) (g.B.Board.log c.sync.new.self) (g.B.Board.log c.put_all.new.board) (g.B.Board.knows c.args.board.now) (g.B.Board.knows c.sync.new.self) (g.B.Board.knows c.put_all.new.board) (longer_by_chains (g.B.Board.nodes c.args.board.now) (g.B.Board.nodes c.sync.new.self) (g.B.Board.log c.args.board.now) (g.B.Board.log c.sync.new.self) (g.B.Board.knows c.args.board.now) (g.B.Board.knows c.sync.new.self) c.sync.ensures.later) c.put_all.ensures) c.put_all-2.ensures) (longer_by_chains (g.B.Board.nodes c.put_all-2.new.board) (g.B.Board.nodes c.take.new.board) (g.B.Board.log c.put_all-2.new.board) (g.B.Board.log c.take.new.board) (g.B.Board.knows c.put_all-2.new.board) (g.B.Board.knows c.take.new.board) c.take.ensures.later))

pub returns-clause-later : goal.returns-clause-later
returns-clause-later g c = (more_then (g.B.Board.nodes c.args.board.now) (g.B.Board.nodes c.put_all-2.new.board) (g.B.Board.nodes c.take.new.board) (g.B.Board.log c.args.board.now) (g.B.Board.log c.put_all-2.new.board) (g.B.Board.log c.take.new.board) (g.B.Board.knows c.args.board.now) (g.B.Board.knows c.put_all-2.new.board) (g.B.Board.knows c.take.new.board) (more_then (g.B.Board.nodes c.args.board.now) (g.B.Board.nodes c.put_all.new.board) (g.B.Board.nodes c.put_all-2.new.board) (g.B.Board.log c.args.board.now) (g.B.Board.log c.put_all.new.board) (g.B.Board.log c.put_all-2.new.board) (g.B.Board.knows c.args.board.now) (g.B.Board.knows c.put_all.new.board) (g.B.Board.knows c.put_all-2.new.board) (more_then (g.B.Board.nodes c.args.board.now) (g.B.Board.nodes c.sync.new.self) (g.B.Board.nodes c.put_all.new.board) (g.B.Board.log c.args.board.now) (g.B.Board.log c.sync.new.self) (g.B.Board.log c.put_all.new.board) (g.B.Board.knows c.args.board.now) (g.B.Board.knows c.sync.new.self) (g.B.Board.knows c.put_all.new.board) (longer_by_chains (g.B.Board.nodes c.args.board.now) (g.B.Board.nodes c.sync.new.self) (g.B.Board.log c.args.board.now) (g.B.Board.log c.sync.new.self) (g.B.Board.knows c.args.board.now) (g.B.Board.knows c.sync.new.self) c.sync.ensures.later) c.put_all.ensures) c.put_all-2.ensures) (longer_by_chains (g.B.Board.nodes c.put_all-2.new.board) (g.B.Board.nodes c.take.new.board) (g.B.Board.log c.put_all-2.new.board) (g.B.Board.log c.take.new.board) (g.B.Board.knows c.put_all-2.new.board) (g.B.Board.knows c.take.new.board) c.take.ensures.later))

pub returns-clause-kept : goal.returns-clause-kept
returns-clause-kept g c = record {
  search = c.in_ok-take.ensures.search;
  theory = theory_like c.args.self.now _ (g.B.Board.nodes c.take.new.board) (g.B.Board.log c.take.new.board) c.take.new.search.opening.items refl refl refl refl
      (theory_more c.args.self.now (g.B.Board.nodes c.args.board.now) (g.B.Board.nodes c.take.new.board) (g.B.Board.log c.args.board.now) (g.B.Board.log c.take.new.board) (g.B.Board.knows c.args.board.now) (g.B.Board.knows c.take.new.board) c.args.search.now.opening.items c.take.new.search.opening.items (more_then (g.B.Board.nodes c.args.board.now) (g.B.Board.nodes c.put_all-2.new.board) (g.B.Board.nodes c.take.new.board) (g.B.Board.log c.args.board.now) (g.B.Board.log c.put_all-2.new.board) (g.B.Board.log c.take.new.board) (g.B.Board.knows c.args.board.now) (g.B.Board.knows c.put_all-2.new.board) (g.B.Board.knows c.take.new.board) (more_then (g.B.Board.nodes c.args.board.now) (g.B.Board.nodes c.put_all.new.board) (g.B.Board.nodes c.put_all-2.new.board) (g.B.Board.log c.args.board.now) (g.B.Board.log c.put_all.new.board) (g.B.Board.log c.put_all-2.new.board) (g.B.Board.knows c.args.board.now) (g.B.Board.knows c.put_all.new.board) (g.B.Board.knows c.put_all-2.new.board) (more_then (g.B.Board.nodes c.args.board.now) (g.B.Board.nodes c.sync.new.self) (g.B.Board.nodes c.put_all.new.board) (g.B.Board.log c.args.board.now) (g.B.Board.log c.sync.new.self) (g.B.Board.log c.put_all.new.board) (g.B.Board.knows c.args.board.now) (g.B.Board.knows c.sync.new.self) (g.B.Board.knows c.put_all.new.board) (longer_by_chains (g.B.Board.nodes c.args.board.now) (g.B.Board.nodes c.sync.new.self) (g.B.Board.log c.args.board.now) (g.B.Board.log c.sync.new.self) (g.B.Board.knows c.args.board.now) (g.B.Board.knows c.sync.new.self) c.sync.ensures.later) c.put_all.ensures) c.put_all-2.ensures) (longer_by_chains (g.B.Board.nodes c.put_all-2.new.board) (g.B.Board.nodes c.take.new.board) (g.B.Board.log c.put_all-2.new.board) (g.B.Board.log c.take.new.board) (g.B.Board.knows c.put_all-2.new.board) (g.B.Board.knows c.take.new.board) c.take.ensures.later)) c.in_ok-take.ensures.longer c.requires.theory);
  from = c.in_ok-take.ensures.from;
  longer = c.in_ok-take.ensures.longer;
  apart = λ h. c.in_ok-take.ensures.apart (g.B.Board.log c.sync.new.self) ((more_then (g.B.Board.nodes c.sync.new.self) (g.B.Board.nodes c.put_all.new.board) (g.B.Board.nodes c.put_all-2.new.board) (g.B.Board.log c.sync.new.self) (g.B.Board.log c.put_all.new.board) (g.B.Board.log c.put_all-2.new.board) (g.B.Board.knows c.sync.new.self) (g.B.Board.knows c.put_all.new.board) (g.B.Board.knows c.put_all-2.new.board) c.put_all.ensures c.put_all-2.ensures)).adds c.in_ok-told.ensures.upto
      (search_between (g.B.Board.nodes c.args.board.now) (g.B.Board.nodes c.sync.new.self) (g.B.Board.nodes c.put_all-2.new.board) (g.B.Board.log c.args.board.now) (g.B.Board.log c.sync.new.self) (g.B.Board.log c.put_all-2.new.board) (g.B.Board.knows c.args.board.now) (g.B.Board.knows c.sync.new.self) (g.B.Board.knows c.put_all-2.new.board) c.sync.ensures.later (more_then (g.B.Board.nodes c.sync.new.self) (g.B.Board.nodes c.put_all.new.board) (g.B.Board.nodes c.put_all-2.new.board) (g.B.Board.log c.sync.new.self) (g.B.Board.log c.put_all.new.board) (g.B.Board.log c.put_all-2.new.board) (g.B.Board.knows c.sync.new.self) (g.B.Board.knows c.put_all.new.board) (g.B.Board.knows c.put_all-2.new.board) c.put_all.ensures c.put_all-2.ensures) c.args.search.now c.requires.search)
      (apart_between (g.B.Board.nodes c.args.board.now) (g.B.Board.nodes c.sync.new.self) (g.B.Board.nodes c.put_all-2.new.board) (g.B.Board.log c.args.board.now) (g.B.Board.log c.sync.new.self) (g.B.Board.log c.put_all-2.new.board) (g.B.Board.knows c.args.board.now) (g.B.Board.knows c.sync.new.self) (g.B.Board.knows c.put_all-2.new.board) c.sync.ensures.later (more_then (g.B.Board.nodes c.sync.new.self) (g.B.Board.nodes c.put_all.new.board) (g.B.Board.nodes c.put_all-2.new.board) (g.B.Board.log c.sync.new.self) (g.B.Board.log c.put_all.new.board) (g.B.Board.log c.put_all-2.new.board) (g.B.Board.knows c.sync.new.self) (g.B.Board.knows c.put_all.new.board) (g.B.Board.knows c.put_all-2.new.board) c.put_all.ensures c.put_all-2.ensures) c.args.search.now c.requires.search c.args.self.now.variables c.args.self.now.next h);
}

pub returns-clause-writing : goal.returns-clause-writing
returns-clause-writing g c = λ h w.
    c.in_ok-take.ensures.writing (g.B.Board.log c.sync.new.self) ((more_then (g.B.Board.nodes c.sync.new.self) (g.B.Board.nodes c.put_all.new.board) (g.B.Board.nodes c.put_all-2.new.board) (g.B.Board.log c.sync.new.self) (g.B.Board.log c.put_all.new.board) (g.B.Board.log c.put_all-2.new.board) (g.B.Board.knows c.sync.new.self) (g.B.Board.knows c.put_all.new.board) (g.B.Board.knows c.put_all-2.new.board) c.put_all.ensures c.put_all-2.ensures)).adds c.in_ok-told.ensures.upto
    (search_between (g.B.Board.nodes c.args.board.now) (g.B.Board.nodes c.sync.new.self) (g.B.Board.nodes c.put_all-2.new.board) (g.B.Board.log c.args.board.now) (g.B.Board.log c.sync.new.self) (g.B.Board.log c.put_all-2.new.board) (g.B.Board.knows c.args.board.now) (g.B.Board.knows c.sync.new.self) (g.B.Board.knows c.put_all-2.new.board) c.sync.ensures.later (more_then (g.B.Board.nodes c.sync.new.self) (g.B.Board.nodes c.put_all.new.board) (g.B.Board.nodes c.put_all-2.new.board) (g.B.Board.log c.sync.new.self) (g.B.Board.log c.put_all.new.board) (g.B.Board.log c.put_all-2.new.board) (g.B.Board.knows c.sync.new.self) (g.B.Board.knows c.put_all.new.board) (g.B.Board.knows c.put_all-2.new.board) c.put_all.ensures c.put_all-2.ensures) c.args.search.now c.requires.search)
    (apart_between (g.B.Board.nodes c.args.board.now) (g.B.Board.nodes c.sync.new.self) (g.B.Board.nodes c.put_all-2.new.board) (g.B.Board.log c.args.board.now) (g.B.Board.log c.sync.new.self) (g.B.Board.log c.put_all-2.new.board) (g.B.Board.knows c.args.board.now) (g.B.Board.knows c.sync.new.self) (g.B.Board.knows c.put_all-2.new.board) c.sync.ensures.later (more_then (g.B.Board.nodes c.sync.new.self) (g.B.Board.nodes c.put_all.new.board) (g.B.Board.nodes c.put_all-2.new.board) (g.B.Board.log c.sync.new.self) (g.B.Board.log c.put_all.new.board) (g.B.Board.log c.put_all-2.new.board) (g.B.Board.knows c.sync.new.self) (g.B.Board.knows c.put_all.new.board) (g.B.Board.knows c.put_all-2.new.board) c.put_all.ensures c.put_all-2.ensures) c.args.search.now c.requires.search c.args.self.now.variables c.args.self.now.next h)
    (writing_behind (g.B.Board.nodes c.args.board.now) (g.B.Board.nodes c.sync.new.self) (g.B.Board.nodes c.put_all-2.new.board) (g.B.Board.log c.args.board.now) (g.B.Board.log c.sync.new.self) (g.B.Board.log c.put_all-2.new.board) (g.B.Board.knows c.args.board.now) (g.B.Board.knows c.sync.new.self) (g.B.Board.knows c.put_all-2.new.board) c.sync.ensures.later (more_then (g.B.Board.nodes c.sync.new.self) (g.B.Board.nodes c.put_all.new.board) (g.B.Board.nodes c.put_all-2.new.board) (g.B.Board.log c.sync.new.self) (g.B.Board.log c.put_all.new.board) (g.B.Board.log c.put_all-2.new.board) (g.B.Board.knows c.sync.new.self) (g.B.Board.knows c.put_all.new.board) (g.B.Board.knows c.put_all-2.new.board) c.put_all.ensures c.put_all-2.ensures) c.args.search.now c.requires.search w)
