use Rattle.std.proofs.Common.{ap, ◌∙◌}
use Rattle.smt_build.specs.Names.{meaning_in}
use Rattle.smt_build.proofs.NameLemmas.{lookup-meaning}
use Rattle.smt_build.proofs.parameters.Parameters.get.Goals as goal

pub returns : goal.returns
returns c = c.copied.ensures ∙ c.get.ensures.value ∙ lookup-meaning c.args.name.now c.self.inside.entries.entries ∙ ap (λ ps. meaning_in ps c.args.name.now) c.self.view_is
