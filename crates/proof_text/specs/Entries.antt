-- Which line a step of a log is.
use Rattle.std.specs.Prelude.{map, Option, Some, None}
use Rattle.std.specs.Option.{option_map}
use Rattle.cnf_base.specs.Literals.{Literal}
use Rattle.cnf_base.specs.declared.clause.ClauseId.{ClauseId}
use Rattle.smt_terms.specs.declared.node.Op.{Op}
use Rattle.smt_terms.specs.declared.node.Op.TheVariants as op
use Rattle.theory_terms.specs.declared.lemma.Move.{Move}
use Rattle.theory_terms.specs.declared.lemma.Move.TheVariants as move
use Rattle.theory_terms.specs.declared.lemma.Start.{Start}
use Rattle.theory_terms.specs.declared.lemma.Start.TheVariants as start
use Rattle.theory_terms.specs.declared.lemma.Access.{Access}
use Rattle.theory_terms.specs.declared.lemma.Lemma.{Lemma}
use Rattle.theory_terms.specs.declared.lemma.Lemma.TheVariants as lemma
use Rattle.proof_log.specs.declared.entry.Entry.{Entry}
use Rattle.proof_log.specs.declared.entry.Entry.TheVariants as entry
use Rattle.proof_text.specs.declared.list.WrittenLiteral.{WrittenLiteral}
use Rattle.proof_text.specs.declared.list.WrittenHint.{WrittenHint}
use Rattle.proof_text.specs.declared.list.WrittenStart.{WrittenStart}
use Rattle.proof_text.specs.declared.list.WrittenStart.TheVariants as access
use Rattle.proof_text.specs.declared.list.Letter.TheVariants.{Store, Then, Else, Sides}
use Rattle.proof_text.specs.declared.list.WrittenMove.{WrittenMove}
use Rattle.proof_text.specs.declared.list.WrittenAccess.{WrittenAccess}
use Rattle.proof_text.specs.declared.line.Head.{Head}
use Rattle.proof_text.specs.declared.line.Head.TheVariants.{Plain, Word, Extract, ZeroExtend, SignExtend, RotateLeft, RotateRight, Repeat, Apply, ConstantArray}
use Rattle.proof_text.specs.declared.line.Line.{Line}
use Rattle.proof_text.specs.declared.line.Line.TheVariants.{Term, Leaf, Encode, Rewrite, Selector, Chain, Equal, Congruence, Witness, Accesses}

-- the head that is written for an operator; no line makes a declared constant or a parameter
abbrev pub head_of : Op → Option Head
head_of (op.Plain o) = Some (Plain o)
head_of (op.Word width x) = Some (Word width x)
head_of (op.Extract high low) = Some (Extract high low)
head_of (op.ZeroExtend i) = Some (ZeroExtend i)
head_of (op.SignExtend i) = Some (SignExtend i)
head_of (op.RotateLeft i) = Some (RotateLeft i)
head_of (op.RotateRight i) = Some (RotateRight i)
head_of (op.Repeat i) = Some (Repeat i)
head_of (op.ConstantArray width) = Some (ConstantArray width)
head_of (op.Constant d sort) = None
head_of (op.Apply d signature) = Some (Apply d)
head_of (op.Param place sort) = None

abbrev pub written_literal : Literal → WrittenLiteral
written_literal l = record { variable = l.variable; positive = l.positive }

abbrev pub written_hint : ClauseId → WrittenHint
written_hint id = record { pos = id.pos; part = id.part }

abbrev pub written_move : Move → WrittenMove
written_move (move.Store t) = record { letter = Store; term = t }
written_move (move.Then t) = record { letter = Then; term = t }
written_move (move.Else t) = record { letter = Else; term = t }
written_move (move.Sides t) = record { letter = Sides; term = t }

abbrev pub written_start : Start → WrittenStart
written_start (start.Term t) = access.Term t
written_start (start.Const k j) = access.Const k j

abbrev pub written_access : Access → WrittenAccess
written_access a = record { start = written_start a.start; moves = map written_move a.path }

abbrev pub lemma_line : Lemma → Line
lemma_line (lemma.Congruence t u) = Congruence t u
lemma_line (lemma.Witness t) = Witness t
lemma_line (lemma.Arrays a b) = Accesses (written_access a) (written_access b)

-- the line of a step
abbrev pub entry_line : Entry → Option Line
entry_line (entry.Node n) = option_map (λ head. Term head n.args) (head_of n.op)
entry_line (entry.Leaf t) = Some (Leaf t)
entry_line (entry.Encode t) = Some (Encode t)
entry_line (entry.Selector a t) = Some (Selector a)
entry_line (entry.Chain clause hints) = Some (Chain (map written_literal clause) (map written_hint hints))
entry_line (entry.Rewrite r) = Some (Rewrite r.rule r.from r.to)
entry_line (entry.Equal t u) = Some (Equal t u)
entry_line (entry.Lemma l) = Some (lemma_line l)
