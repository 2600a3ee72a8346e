use Rattle.std.proofs.Common.{refl, sym, subst, arith}
use Rattle.proof_log.specs.declared.diary.DiaryLine.TheVariants.{Take}
use Rattle.diary_checker.specs.Readers.{IsSetUp}
use Rattle.diary_checker.proofs.Reading.{take_taken, at_old, keeps_start, wanting, undecided_same, undecided_held}
use Rattle.diary_checker.proofs.reader.DiaryReader.take.Goals as goal

pub returns : goal.returns
returns c = λ g about set_up.
    let set_up' = subst (IsSetUp g) (sym c.self.view_is) set_up in
    let chains = rw (c.is_chain_at.ensures, c.has.ensures) at c.in-Some.ensures in
    at_old g _ _ _ (Take c.args.at) c.self.view_is
    (take_taken g c.args.log.now c.args.at _ _ about set_up' refl (omega arith) c.in_ok-bring.ensures.held c.in_ok-bring.ensures.filed chains refl refl refl (keeps_start g _ _ refl c.bring.ensures.back))

pub returns-in_default : goal.returns-in_default
returns-in_default c = λ g about set_up. undecided_same g _ _ refl set_up

pub returns-in_err-bring : goal.returns-in_err-bring
returns-in_err-bring c = λ g about set_up.
    wanting _ _ c.from_residual.result c.from_residual.ensures.1
    (undecided_held g _ _ _ c.self.view_is set_up refl c.in_err-bring.ensures.err c.bring.ensures.kept refl refl refl refl (keeps_start g _ _ refl c.bring.ensures.back))
