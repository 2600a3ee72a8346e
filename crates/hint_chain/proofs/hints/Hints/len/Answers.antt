use Rattle.std.proofs.Common.{◌∙◌, sym, ap, arith}
use Rattle.hint_chain.specs.Packed.{ids_of}
use Rattle.hint_chain.proofs.Packing.{same_length}
use Rattle.hint_chain.proofs.hints.Hints.len.Goals as goal

pub returns-in-Short : goal.returns-in-Short
returns-in-Short c =
    let same = same_length c.in-Short.ids.items c.args.self.now (ap ids_of (sym c.in-Short.is) ∙ c.self.view_is) in
    omega (arith, same, c.in-Short.ids.ok.0)
