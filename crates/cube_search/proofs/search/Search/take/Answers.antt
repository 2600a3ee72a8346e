use Rattle.std.proofs.Common.{refl, sym, ap, ◌∙◌, subst}
use Rattle.cube_search.specs.declared.keeper.Keeper.{Keeper}
use Rattle.cube_search.specs.declared.search.Search.{Search}
use Rattle.cube_search.specs.Keeping.{IsTaken}
use Rattle.cube_search.specs.Running.{variables_in, subject_of}
use Rattle.cube_search.proofs.Keeping.{own_line}
use Rattle.cube_search.proofs.Steps.{on_ok, no_chain, took_running, took_writing, took_line, took_still}
use Rattle.cube_search.proofs.search.Search.take.Goals as goal

pub returns-in-Some-clause-lined : goal.returns-in-Some-clause-lined
returns-in-Some-clause-lined g c = λ w chain.
    let s = c.args.self.now in
    own_line (subject_of s (g.B.Board.nodes c.args.board.now) (g.B.Board.log c.args.board.now)) s.engine.watches (variables_in s) s.diary s.seen c.args.at _ w chain (sym c.in-Some.ensures)

pub returns-in_default-clause-clause-lined : goal.returns-in_default-clause-clause-lined
returns-in_default-clause-clause-lined g c = λ w chain. absurd (no_chain (g.B.Board.nodes c.args.board.now) (g.B.Board.log c.args.board.now) c.args.at chain (c.in_default-clause.ensures c.requires.known))

pub returns-clause-running : goal.returns-clause-running
returns-clause-running g c =
    let s = c.args.self.now in
    let t = c.admit.new.self in
    took_running s t (g.B.Board.nodes c.args.board.now) (g.B.Board.log c.args.board.now) c.args.at c.in-Some-clause.clause.now c.requires.running (c.if-not-is_chain.ensures.shown refl) c.in-Some-clause.ensures
    (ap (λ (x : Search). x.opening.items) c.admit.ensures.same) (ap (λ (x : Search). x.taken.items) c.admit.ensures.same ∙ c.in_ok-push.ensures.items)
    (ap (λ (x : Search). x.from) c.admit.ensures.same) (ap (λ (x : Search). x.seen) c.admit.ensures.same) c.admit.ensures.task
    c.admit.result c.admit.ensures.engine c.admit.ensures.course c.admit.ensures.admitted

pub returns-clause-writing : goal.returns-clause-writing
returns-clause-writing g c =
    let s = c.args.self.now in
    let t = c.admit.new.self in
    took_writing s t (g.B.Board.nodes c.args.board.now) (g.B.Board.log c.args.board.now) c.args.at c.in-Some-clause.clause.now c.requires.running (c.if-not-is_chain.ensures.shown refl) c.in-Some-clause.ensures
    (ap (λ (x : Search). x.opening.items) c.admit.ensures.same) (ap (λ (x : Search). x.taken.items) c.admit.ensures.same ∙ c.in_ok-push.ensures.items)
    (ap (λ (x : Search). x.from) c.admit.ensures.same) (ap (λ (x : Search). x.seen) c.admit.ensures.same) c.admit.ensures.task
    c.admit.result c.admit.ensures.admitted
    (subst (λ (k : Keeper). IsTaken s.diary k c.args.at) (sym (ap (λ (x : Search). x.diary) c.admit.ensures.same))
    (record { lines = c.in_ok-take.ensures.lines; start = c.in_ok-take.ensures.start; puts = c.in_ok-take.ensures.puts; chains = c.in_ok-take.ensures.chains; left = c.in_ok-take.ensures.left }))

pub returns-clause-lined : goal.returns-clause-lined
returns-clause-lined g c =
    let s = c.args.self.now in
    let t = c.admit.new.self in
    on_ok c.admit.result _
    (λ w chain. took_line s.diary t.diary c.args.at
    (subst (λ (k : Keeper). IsTaken s.diary k c.args.at) (sym (ap (λ (x : Search). x.diary) c.admit.ensures.same))
    (record { lines = c.in_ok-take.ensures.lines; start = c.in_ok-take.ensures.start; puts = c.in_ok-take.ensures.puts; chains = c.in_ok-take.ensures.chains; left = c.in_ok-take.ensures.left })))

pub returns-clause-kept : goal.returns-clause-kept
returns-clause-kept g c =
    let s = c.args.self.now in
    let t = c.admit.new.self in
    on_ok c.admit.result _
    (λ p. took_still s.diary t.diary c.args.at p
    (subst (λ (k : Keeper). IsTaken s.diary k c.args.at) (sym (ap (λ (x : Search). x.diary) c.admit.ensures.same))
    (record { lines = c.in_ok-take.ensures.lines; start = c.in_ok-take.ensures.start; puts = c.in_ok-take.ensures.puts; chains = c.in_ok-take.ensures.chains; left = c.in_ok-take.ensures.left })))
