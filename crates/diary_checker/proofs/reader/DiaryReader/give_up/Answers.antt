use Rattle.std.proofs.Common.{◌∙◌, refl, sym, ap, subst, arith}
use Rattle.proof_log.specs.declared.diary.DiaryLine.TheVariants.{Drop}
use Rattle.proof_log.specs.Diaries.{is_chain}
use Rattle.proof_log.specs.Logs.{clause_at}
use Rattle.diary_checker.specs.Readers.{IsSetUp}
use Rattle.diary_checker.proofs.Holding.{filed_less}
use Rattle.diary_checker.proofs.Reading.{drop_taken, at_old, keeps_start, wanting, undecided_same, undecided_held}
use Rattle.diary_checker.proofs.Starting.{back_same}
use Rattle.diary_checker.proofs.reader.DiaryReader.give_up.Goals as goal

pub returns : goal.returns
returns c = λ g about set_up.
    let set_up' = subst (IsSetUp g) (sym c.self.view_is) set_up in
    let held = c.in_ok-set.ensures.ok in
    at_old g _ _ _ (Drop c.args.at) c.self.view_is
    (drop_taken g c.args.log.now c.args.at _ _ about set_up' refl (omega arith) (sym c.has.ensures ∙ c.if-not-has.false) (ap is_chain c.in-Some.ensures) held
    (filed_less (clause_at c.args.log.now.clauses) _ _ _ c.unfile.new.watches c.args.at held c.unfile.ensures.kept) c.saturating_sub-self-inside.ensures refl refl refl refl refl)

pub returns-in_err-collect : goal.returns-in_err-collect
returns-in_err-collect c = λ g about set_up.
    wanting _ _ c.from_residual.result c.from_residual.ensures.1 (undecided_same g _ _ c.self.view_is set_up)

pub returns-in_err-set : goal.returns-in_err-set
returns-in_err-set c = λ g about set_up.
    wanting _ _ c.from_residual-in_err-set.result c.from_residual-in_err-set.ensures.1
    (undecided_held g _ _ _ c.self.view_is set_up refl c.in_err-set.ensures.err (λ k i h. h) refl refl refl refl
    (keeps_start g _ _ refl (λ start h. back_same start _ _ _ c.in_err-set.ensures.err h)))
