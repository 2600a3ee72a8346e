use Rattle.std.proofs.Common.{ap, ◌∙◌}
use Rattle.smt_build.specs.Names.{meaning_in}
use Rattle.smt_build.proofs.NameLemmas.{meaning_put}
use Rattle.smt_build.proofs.Levels.{defined}
use Rattle.smt_build.proofs.symbols.Symbols.add_definition.Goals as goal

pub returns-clause-ok : goal.returns-clause-ok
returns-clause-ok c = defined _ _ _ _ _ c.self.view_is (meaning_put c.in_ok-key.key _ c.args.name.now _ _ c.in_ok-key.ensures.items (ap (λ v. meaning_in v.definitions c.args.name.now) c.self.view_is ∙ c.requires) c.in_ok-insert.ensures.entries)
