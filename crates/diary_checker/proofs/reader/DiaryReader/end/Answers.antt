use Rattle.std.proofs.Common.{refl, sym, subst, arith}
use Rattle.proof_text.specs.Deletions.{is_deleted}
use Rattle.diary_checker.specs.Readers.{HasRead}
use Rattle.diary_checker.proofs.Reading.{ended_start}
use Rattle.diary_checker.proofs.reader.DiaryReader.end.Goals as goal

pub returns : goal.returns
returns c = λ places g lines about known read.
    let read' = subst (HasRead (is_deleted places) g lines) (sym c.self.view_is) read in
    ended_start places g lines _ c.args.log.now _ about read' known refl (omega arith) (rw c.as_slice.ensures.value at c.in_ok-take_all_back.ensures.held) c.in_ok-take_all_back.ensures.filed
