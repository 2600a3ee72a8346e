use Rattle.smt_session.proofs.Made.{cut_again, held_before, made_behind}
use Rattle.smt_session.proofs.watching.watches_over.Goals as goal

pub nodes_from-requires : goal.nodes_from-requires
nodes_from-requires c =
    held_before c.args.terms.now c.make.new.terms c.args.roots.now c.len-from.result c.in_ok-make.ensures.made c.in_ok-make.ensures.limit c.len-from.ensures.length

pub returns-clause-same : goal.returns-clause-same
returns-clause-same c =
    cut_again c.args.terms.now c.make.new.terms c.args.roots.now c.len-from.result c.in_ok-make.ensures.made c.in_ok-make.ensures.limit c.len-from.ensures.length c.cut.new.self c.cut.ensures

pub returns-clause-made : goal.returns-clause-made
returns-clause-made c =
    made_behind c.args.terms.now c.make.new.terms c.args.roots.now c.len-from.result c.in_ok-make.ensures.made c.in_ok-make.ensures.limit c.len-from.ensures.length c.in_ok-made.made.items c.in_ok-made.ensures

pub cut-requires : goal.cut-requires
cut-requires c =
    held_before c.args.terms.now c.make.new.terms c.args.roots.now c.len-from.result c.in_ok-make.ensures.made c.in_ok-make.ensures.limit c.len-from.ensures.length
