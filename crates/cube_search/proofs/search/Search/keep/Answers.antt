use Rattle.std.proofs.Common.{refl}
use Rattle.cdcl_loop.specs.Engines.{IsEngine}
use Rattle.cube_search.proofs.Steps.{on_ok, kept_at}
use Rattle.cube_search.proofs.search.Search.keep.Goals as goal

pub returns-clause-engine : goal.returns-clause-engine
returns-clause-engine c = on_ok c.put.result (IsEngine c.keep.new.self) c.in_ok-keep.ensures.engine

pub returns-clause-course : goal.returns-clause-course
returns-clause-course c = on_ok c.put.result _ c.in_ok-keep.ensures.course

pub returns-clause-kept : goal.returns-clause-kept
returns-clause-kept c =
    kept_at c.args.self.now _ c.put.result c.args.clause c.args.level c.args.at
    c.in_ok-keep.ensures.kept c.in_ok-keep.ensures.held c.keep.ensures.others c.in_ok-push.ensures.items refl c.put.ensures.start c.put.ensures.lines c.put.ensures.puts c.put.ensures.chains c.put.ensures.left
