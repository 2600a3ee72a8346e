use Rattle.std.proofs.Common.{refl, sym, subst, arith}
use Rattle.proof_log.specs.Logs.{entry_at}
use Rattle.cdcl_core.specs.Search.{clause_of}
use Rattle.cdcl_loop.specs.declared.engine.Engine.{Engine}
use Rattle.cdcl_loop.specs.Engines.{IsEngine}
use Rattle.cnf_base.proofs.Options.{some_value}
use Rattle.cube_search.specs.Running.{variables_in, subject_of, IsRunning, IsWriting}
use Rattle.cube_search.proofs.Later.{chain_entry}
use Rattle.cube_search.proofs.Keeping.{kept_drop}
use Rattle.cube_search.proofs.Moving.{search_dropped}
use Rattle.cube_search.proofs.search.Search.drop_idle.Goals as goal

pub returns-clause-running : goal.returns-clause-running
returns-clause-running g c =
    let s = c.args.self.now in
    let n = c.drop_idle.new.self in
    let nodes = g.B.Board.nodes c.args.board.now in
    let log = g.B.Board.log c.args.board.now in
    let dropped = c.if-not-drop_idle.ensures.dropped in
    subst (λ (x : Engine). IsRunning (record s { engine = x }) nodes log) (sym c.if-not-drop_idle.ensures.same) (
      subst IsEngine c.if-not-drop_idle.ensures.same c.if-not-drop_idle.ensures.engine,
      search_dropped s.engine.watches n.watches (variables_in s) s.opening.items s.taken.items s.from s.seen nodes log c.args.at
          (c.if-not-is_chain.ensures.shown refl) c.requires.running.1 c.if-not-drop_idle.ensures.others dropped.1,
      c.requires.running.2,
      c.requires.running.3,
    )

pub returns-clause-writing : goal.returns-clause-writing
returns-clause-writing g c = λ w.
    let s = c.args.self.now in
    let n = c.drop_idle.new.self in
    let nodes = g.B.Board.nodes c.args.board.now in
    let log = g.B.Board.log c.args.board.now in
    let dropped = c.if-not-drop_idle.ensures.dropped in
    let e = chain_entry (entry_at log c.args.at) (c.if-not-is_chain.ensures.shown refl) in
    let was = some_value (clause_of s.engine.watches (record { pos = c.args.at; part = 0 })) dropped.0.kept in
    subst (λ (x : Engine). IsWriting (record s { engine = x; diary = c.drop_chain.new.self }) nodes log) (sym c.if-not-drop_idle.ensures.same)
    (kept_drop (subject_of s nodes log) s.engine.watches n.watches (variables_in s) s.diary c.drop_chain.new.self s.seen c.args.at e.0 e.1 e.2
    c.if-not-drop_idle.ensures.others c.drop_chain.ensures.start w
    c.in_ok-drop_chain.ensures.lines c.in_ok-drop_chain.ensures.puts c.in_ok-drop_chain.ensures.chains c.in_ok-drop_chain.ensures.left (omega arith)
    c.requires.running.1.holding.sound was.0 was.1 dropped.1)
