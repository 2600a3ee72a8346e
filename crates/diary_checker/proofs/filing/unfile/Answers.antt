use Rattle.std.proofs.Common.{◌≡◌, ℕ, ◌+◌, ◌<◌, List, length, take, get_or, sym, subst, ⊎_elim, arith}
use Rattle.std.specs.Prelude.{◌≢◌, Option, Some, None, Contains}
use Rattle.std.proofs.lemmas.List.{take_all}
use Rattle.cnf_base.specs.Literals.{Literal}
use Rattle.cnf_base.specs.declared.clause.ClauseId.{ClauseId}
use Rattle.diary_checker.specs.Tables.{filed_under}
use Rattle.diary_checker.specs.Uses.{MayBeUnder}
use Rattle.diary_checker.proofs.Sets.{in_more}
use Rattle.diary_checker.proofs.filing.unfile.Goals as goal

none_taken : (clause : List Literal) (lists : List (List ClauseId)) (at : ℕ) → ((i : ClauseId) → Contains (filed_under lists None) i → i.pos ≢ at) →
    (k : Option Literal) (i : ClauseId) → MayBeUnder (take 0 clause) k → Contains (filed_under lists k) i → i.pos ≢ at
none_taken clause lists at gone None i m c = gone i c
none_taken clause lists at gone (Some l) i m c = absurd (omega (arith, m.1))

one_more : (clause : List Literal) (n : ℕ) (x : Literal) (lists lists' : List (List ClauseId)) (at : ℕ) → n < length clause → x ≡ get_or clause n x →
    ((k : Option Literal) (i : ClauseId) → MayBeUnder (take n clause) k → Contains (filed_under lists k) i → i.pos ≢ at) →
    ((i : ClauseId) → Contains (filed_under lists' (Some x)) i → i.pos ≢ at) →
    ((k : Option Literal) (i : ClauseId) → Contains (filed_under lists' k) i → Contains (filed_under lists k) i) →
    (k : Option Literal) (i : ClauseId) → MayBeUnder (take (n + 1) clause) k → Contains (filed_under lists' k) i → i.pos ≢ at
one_more clause n x lists lists' at lt e before gone none None i m c = before None i m (none None i c)
one_more clause n x lists lists' at lt e before gone none (Some l) i m c =
    ⊎_elim
    (λ old. before (Some l) i old (none (Some l) i c))
    (λ same. gone i (subst (λ y. Contains (filed_under lists' (Some y)) i) (sym same) c))
    (in_more clause n x l lt e m)

pub loop-l-init : goal.loop-l-init
loop-l-init c = record {
  kept = c.remove.ensures.kept;
  gone = none_taken c.args.clause.now c.remove.new.self c.args.at c.remove.ensures.gone;
}

pub loop-l-preserved : goal.loop-l-preserved
loop-l-preserved c = record {
  kept = λ k i ne h. c.remove-in-loop-l.ensures.kept k i ne (c.loop-l.invariant.kept k i ne h);
  gone =
      one_more c.args.clause.now c.loop-l.l-index c.l-item.result c.loop-l.watches c.remove-in-loop-l.new.self c.args.at c.loop-l-test.true c.l-item.is c.loop-l.invariant.gone
      c.remove-in-loop-l.ensures.gone c.remove-in-loop-l.ensures.none;
}

pub returns-clause-gone : goal.returns-clause-gone
returns-clause-gone c = rw (take_all c.loop-l.l-index c.args.clause.now c.loop-l-test.false) at c.loop-l.invariant.gone
