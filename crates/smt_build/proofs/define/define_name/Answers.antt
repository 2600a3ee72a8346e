use Rattle.smt_build.proofs.Declarations.{not_defined}
use Rattle.smt_build.proofs.Growth.{cut_back, grows_same}
use Rattle.smt_build.proofs.define.define_name.Goals as goal

pub add_definition-requires : goal.add_definition-requires
add_definition-requires c = not_defined _ _ c.requires.name

pub returns-in-Err-clause-grows : goal.returns-in-Err-clause-grows
returns-in-Err-clause-grows c = grows_same _ _ _ (cut_back _ _ _ _ _ c.in_ok-body.ensures.grows c.len-before.ensures.length c.cut.ensures)
