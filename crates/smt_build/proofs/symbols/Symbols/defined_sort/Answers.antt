use Rattle.std.proofs.Common.{ap, ◌∙◌}
use Rattle.smt_build.specs.Names.{meaning_in}
use Rattle.smt_build.proofs.NameLemmas.{lookup-meaning}
use Rattle.smt_build.proofs.symbols.Symbols.defined_sort.Goals as goal

pub returns : goal.returns
returns c = c.copied.ensures ∙ c.get.ensures.value ∙ lookup-meaning c.args.name.now c.self.inside.sorts.entries ∙ ap (λ v. meaning_in v.sorts c.args.name.now) c.self.view_is
