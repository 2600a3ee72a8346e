use Rattle.smt_build.proofs.NameReadings.{annotated_short}
use Rattle.smt_build.proofs.naming.annotated_name.Goals as goal

pub returns-in_default : goal.returns-in_default
returns-in_default c = λ es h. annotated_short _ _ c.in_default.len_below es h
