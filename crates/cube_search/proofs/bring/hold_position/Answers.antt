use Rattle.std.proofs.Common.{◌≡◌, Some, refl, sym, ◌∙◌}
use Rattle.cnf_base.specs.declared.clause.ClauseId.{ClauseId}
use Rattle.proof_log.specs.Logs.{state_of}
use Rattle.cube_search.proofs.Filling.{bringing_start, bringing_more, bringing_all}
use Rattle.cube_search.proofs.bring.hold_position.Goals as goal

pub returns-in_default-clause-brought : goal.returns-in_default-clause-brought
returns-in_default-clause-brought g c = λ sound.
    bringing_all c.args.engine.now.watches c.parts.engine.watches (state_of (g.B.Board.nodes c.args.board.now) (g.B.Board.log c.args.board.now)).clauses c.args.engine.now.agenda.list c.parts.engine.agenda.list c.args.pos c.parts.part
    (c.in_default.ensures c.requires.known) (c.parts.invariant.bringing sound)

pub returns-in_default-clause-given : goal.returns-in_default-clause-given
returns-in_default-clause-given g c = c.parts.invariant.given

pub parts-init : goal.parts-init
parts-init g c = record {
  engine = c.requires.engine;
  level = c.requires.level;
  given = refl;
  bringing = λ sound. bringing_start c.args.engine.now.watches (state_of (g.B.Board.nodes c.args.board.now) (g.B.Board.log c.args.board.now)).clauses c.args.engine.now.agenda.list c.args.pos sound;
}

pub parts-preserved : goal.parts-preserved
parts-preserved g c = record {
  engine = c.in_ok-hold.ensures.engine;
  level = c.in_ok-hold.ensures.level;
  given = c.in_ok-hold.ensures.given ∙ c.parts.invariant.given;
  bringing = λ sound.
      let h = c.parts.invariant.bringing sound in
      let id : ClauseId = record { pos = c.args.pos; part = c.parts.part } in
      let at = c.in-Some.ensures in
      let both = c.in_ok-hold.ensures.held (λ d e. let r : Some d ≡ Some c.in-Some.clause.now = sym (h.sound id d e) ∙ at in let s : d ≡ c.in-Some.clause.now = cc in s) in
      bringing_more c.args.engine.now.watches c.parts.engine.watches c.hold.new.engine.watches (state_of (g.B.Board.nodes c.args.board.now) (g.B.Board.log c.args.board.now)).clauses
      c.args.engine.now.agenda.list c.parts.engine.agenda.list c.hold.new.engine.agenda.list id c.in-Some.clause.now at both.0 both.1 c.in_ok-hold.ensures.others c.in_ok-hold.ensures.listing h;
}
