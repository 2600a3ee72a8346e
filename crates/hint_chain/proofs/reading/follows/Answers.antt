use Rattle.std.proofs.Common.{◌∙◌, sym, inl, length}
use Rattle.std.proofs.lemmas.Bool.{eqb-true}
use Rattle.std.proofs.lemmas.List.{nil_from_length}
use Rattle.hint_chain.proofs.Marking.{room_same, room_below}
use Rattle.hint_chain.proofs.Sound.{IsChain-follows}
use Rattle.hint_chain.proofs.Stepping.{read_whole, read_sound}
use Rattle.hint_chain.proofs.reading.follows.Goals as goal

pub read-requires : goal.read-requires
read-requires g c = λ i h e.
    let start = room_below c.marks.inside.rounds c.args.marks.now h (sym c.marks.view_is) (c.requires.rooms i h e) in
    room_same c.marks.inside.rounds c.negate.new.trues h (c.negate.ensures.room ∙ c.begin.ensures.room) start

pub returns-then-not-negate-clause-exactly : goal.returns-then-not-negate-clause-exactly
returns-then-not-negate-clause-exactly g c =
    let alone = rw c.literals.ensures at c.if-not-negate.ensures.pair in
    let agrees = rw c.literals.ensures at c.if-not-negate.ensures.agrees in
    read_whole (g.C.Clauses.look c.args.clauses.now) c.args.clause.now c.args.hints.now c.read.result alone (c.read.ensures.exactly _ agrees)

pub returns-then-not-negate-clause-sound : goal.returns-then-not-negate-clause-sound
returns-then-not-negate-clause-sound g c =
    read_sound (g.C.Clauses.look c.args.clauses.now) c.args.clause.now c.args.hints.now c.read.result (returns-then-not-negate-clause-exactly g c)

pub returns-then-is_empty-clause-sound : goal.returns-then-is_empty-clause-sound
returns-then-is_empty-clause-sound g c =
    let pair = rw c.literals.ensures at c.if-not-negate.ensures.pair in
    let none = eqb-true (length c.args.hints.now) 0 (sym c.is_empty.ensures ∙ c.if-is_empty.true) in
    IsChain-follows (g.C.Clauses.look c.args.clauses.now) c.args.clause.now c.args.hints.now (inl (pair, nil_from_length c.args.hints.now none))
