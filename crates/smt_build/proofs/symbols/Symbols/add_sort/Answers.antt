use Rattle.std.proofs.Common.{ap, ◌∙◌}
use Rattle.smt_build.specs.Names.{meaning_in}
use Rattle.smt_build.proofs.NameLemmas.{meaning_put}
use Rattle.smt_build.proofs.Levels.{sort_defined}
use Rattle.smt_build.proofs.symbols.Symbols.add_sort.Goals as goal

pub returns-clause-ok : goal.returns-clause-ok
returns-clause-ok c = sort_defined _ _ _ _ _ c.self.view_is (meaning_put c.in_ok-key.key _ c.args.name.now _ _ c.in_ok-key.ensures.items (ap (λ v. meaning_in v.sorts c.args.name.now) c.self.view_is ∙ c.requires) c.in_ok-insert.ensures.entries)
