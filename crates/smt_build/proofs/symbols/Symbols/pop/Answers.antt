use Rattle.std.proofs.Common.{arith, sym, refl, length}
use Rattle.std.proofs.lemmas.Option.{slice_get_read, slice_get_past}
use Rattle.smt_build.proofs.Levels.{numbers_cut, meanings_cut, pops, pops_none}
use Rattle.smt_build.proofs.symbols.Symbols.pop.Goals as goal

pub invariant_of-self : goal.invariant_of-self
invariant_of-self c = numbers_cut _ _ _ _ _ c.self.invariant c.truncate.ensures.items c.truncate-in-Some.ensures.entries

pub returns-in-Some : goal.returns-in-Some
returns-in-Some c =
    let h = rw c.deref.ensures.value at c.in-Some.ensures.lookup in
    pops _ _ _ _ _ _ c.args.count _ _ c.self.view_is (omega (arith, c.len.ensures)) (sym (slice_get_read c.self.inside.levels.items (length c.self.inside.levels.items) _ _ refl h.3.0 h.1)) c.truncate.ensures.items (meanings_cut _ _ _ c.truncate-in-Some-2.ensures.entries) (meanings_cut _ _ _ c.truncate-in-Some-3.ensures.entries) c.truncate-in-Some-4.ensures.items

pub returns-in_default : goal.returns-in_default
returns-in_default c =
    let h = rw c.deref.ensures.value at c.in_default.ensures.lookup in
    pops_none _ _ c.args.count _ c.self.view_is (omega (arith, c.len.ensures)) (sym (slice_get_past c.self.inside.levels.items _ h.3))
