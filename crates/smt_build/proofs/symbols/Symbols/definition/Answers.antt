use Rattle.std.proofs.Common.{ap, ◌∙◌}
use Rattle.smt_build.specs.Names.{meaning_in}
use Rattle.smt_build.proofs.NameLemmas.{lookup-meaning}
use Rattle.smt_build.proofs.symbols.Symbols.definition.Goals as goal

pub returns : goal.returns
returns c = c.get.ensures.value ∙ lookup-meaning c.args.name.now c.self.inside.definitions.entries ∙ ap (λ v. meaning_in v.definitions c.args.name.now) c.self.view_is
