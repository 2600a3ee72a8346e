use Rattle.std.proofs.Common.{◌++◌, ◌∷◌, [], List, ℕ, refl, sym, ap, ◌∙◌, subst}
use Rattle.std.specs.Prelude.{Contains}
use Rattle.std.proofs.lemmas.List.Elements.{Contains-push}
use Rattle.cube_search.proofs.Adding.{adding_one}
use Rattle.cube_search.proofs.search.Search.hold_step.Goals as goal

pub returns-clause-adding : goal.returns-clause-adding
returns-clause-adding g c =
    let s = c.args.self.now in
    let t = record s { engine = c.bring.new.engine; ends = c.push.new.self; opening = c.push-2.new.self; diary = c.take.new.self } in
    adding_one (g.B.Board.nodes c.args.board.now) (g.B.Board.log c.args.board.now) s t c.args.at c.requires.theory c.requires.filling
    (c.in_ok-bring.ensures.brought (λ id d e. c.requires.filling.sound id d e))
    c.in_ok-push-2.ensures.items (c.in_ok-push.ensures.items ∙ ap (λ n. s.ends.items ++ n ∷ []) c.listed-end.ensures)
    (record { lines = c.in_ok-take.ensures.lines; start = c.in_ok-take.ensures.start; puts = c.in_ok-take.ensures.puts; chains = c.in_ok-take.ensures.chains; left = c.in_ok-take.ensures.left })
    refl refl refl c.in_ok-bring.ensures.given

pub returns-clause-held : goal.returns-clause-held
returns-clause-held g c = subst (λ (ps : List ℕ). Contains ps c.args.at) (sym c.in_ok-push-2.ensures.items) (Contains-push c.args.self.now.opening.items c.args.at)

pub returns-clause-pushed : goal.returns-clause-pushed
returns-clause-pushed g c = c.in_ok-push-2.ensures.items
