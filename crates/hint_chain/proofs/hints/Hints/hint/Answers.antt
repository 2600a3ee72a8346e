use Rattle.std.proofs.Common.{◌∙◌, sym, ap}
use Rattle.hint_chain.specs.Packed.{ids_of}
use Rattle.hint_chain.proofs.Packing.{whole_at}
use Rattle.hint_chain.proofs.hints.Hints.hint.Goals as goal

pub returns-in-Short : goal.returns-in-Short
returns-in-Short c =
    whole_at c.in-Short.ids.items c.args.self.now c.args.place c.index-short.result.now (ap ids_of (sym c.in-Short.is) ∙ c.self.view_is) c.requires c.index-short.ensures
