use Rattle.std.proofs.Common.{◌≡◌, ◌+◌, refl, sym, subst, arith}
use Rattle.proof_log.specs.declared.diary.DiaryLine.TheVariants.{Put}
use Rattle.diary_checker.specs.Readers.{IsSetUp}
use Rattle.diary_checker.proofs.Reading.{put_taken, put_not_good, at_old, keeps_start, look_is, filed_here, wanting, undecided_same, undecided_held}
use Rattle.diary_checker.proofs.reader.DiaryReader.put.Goals as goal

pub returns-then-not-branch : goal.returns-then-not-branch
returns-then-not-branch c = λ g about set_up.
    let set_up' = subst (IsSetUp g) (sym c.self.view_is) set_up in
    let bad = rw c.if-not-branch.true at c.in_ok-is_good_put.ensures in
    let not_good = rw c.literals.ensures at (bad g (sym (look_is g c.args.log.now about)) set_up'.given (filed_here g c.args.log.now _ about set_up')) in
    record {
      invalid = put_not_good g c.args.log.now c.args.at _ _ c.in-Some.clause.now c.in-Some.hints.now c.self.view_is about c.in-Some.ensures not_good;
      same = c.self.view_is;
    }

pub returns : goal.returns
returns c = λ g about set_up.
    let set_up' = subst (IsSetUp g) (sym c.self.view_is) set_up in
    let ok = rw c.if-not-branch.false at c.in_ok-is_good_put.ensures in
    let good = rw c.literals.ensures at (ok g (sym (look_is g c.args.log.now about)) set_up'.given (filed_here g c.args.log.now _ about set_up')) in
    let chains : c.in-Some-checked_add.chains ≡ c.self.inside.chains + 1 = omega (arith, c.in-Some-checked_add.ensures) in
    let puts : c.in-Some-checked_add-2.puts ≡ c.self.inside.puts + 1 = omega (arith, c.in-Some-checked_add-2.ensures) in
    let drops = rw (chains, puts) at c.droppable-self-inside.ensures in
    at_old g _ _ _ (Put c.args.at) c.self.view_is
    (put_taken g c.args.log.now c.args.at _ _ about set_up' refl c.in-Some.clause.now c.in-Some.hints.now c.in-Some.ensures good c.in_ok-bring.ensures.held c.in_ok-bring.ensures.filed chains puts drops refl (keeps_start g _ _ refl c.bring.ensures.back))

pub returns-in_err-is_good_put : goal.returns-in_err-is_good_put
returns-in_err-is_good_put c = λ g about set_up.
    wanting _ _ c.from_residual.result c.from_residual.ensures.1 (undecided_same g _ _ c.self.view_is set_up)

pub returns-in_default-checked_add : goal.returns-in_default-checked_add
returns-in_default-checked_add c = λ g about set_up. undecided_same g _ _ c.self.view_is set_up

pub returns-in_default-checked_add-2 : goal.returns-in_default-checked_add-2
returns-in_default-checked_add-2 c = λ g about set_up. undecided_same g _ _ c.self.view_is set_up

pub returns-in_err-bring : goal.returns-in_err-bring
returns-in_err-bring c = λ g about set_up.
    wanting _ _ c.from_residual-in_err-bring.result c.from_residual-in_err-bring.ensures.1
    (undecided_held g _ _ _ c.self.view_is set_up refl c.in_err-bring.ensures.err c.bring.ensures.kept refl refl refl refl (keeps_start g _ _ refl c.bring.ensures.back))
