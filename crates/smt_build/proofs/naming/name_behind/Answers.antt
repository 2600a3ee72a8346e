use Rattle.smt_build.proofs.NameReadings.{behind_some, behind_nothing}
use Rattle.smt_build.proofs.naming.name_behind.Goals as goal

pub returns-in-Some : goal.returns-in-Some
returns-in-Some c = λ es h. behind_some _ _ _ c.in-len1-up.len_at_least es h _ c.in-Some.word c.in-Some.is c.word_at.ensures

pub returns-in-None : goal.returns-in-None
returns-in-None c = λ es h. behind_nothing _ _ _ c.in-len1-up.len_at_least es h _ c.in-None.is c.word_at.ensures
