use Rattle.std.proofs.Common.{ap, ◌∙◌}
use Rattle.smt_build.specs.Names.{declaration_of}
use Rattle.smt_build.proofs.NameLemmas.{lookup-declaration}
use Rattle.smt_build.proofs.symbols.Symbols.declaration.Goals as goal

pub returns : goal.returns
returns c = c.copied.ensures ∙ c.get.ensures.value ∙ lookup-declaration c.args.name.now c.self.inside.live.items c.self.inside.numbers.entries c.self.invariant ∙ ap (λ v. declaration_of v.live c.args.name.now) c.self.view_is
