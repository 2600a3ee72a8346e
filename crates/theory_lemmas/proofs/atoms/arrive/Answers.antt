use Rattle.std.proofs.Common.{◌≡◌, Some, slice_get, slice_index_or, sym, arith, add-one}
use Rattle.std.proofs.lemmas.Option.{slice_get-get_or}
use Rattle.theory_terms.specs.declared.lemma.Move.{Move}
use Rattle.theory_terms.specs.declared.lemma.Move.TheVariants as by
use Rattle.theory_lemmas.proofs.Arriving.{goes_on}
use Rattle.theory_lemmas.proofs.atoms.arrive.Goals as goal

pub loop-by-preserved : goal.loop-by-preserved
loop-by-preserved c =
    let path = c.as_slice-by-items.result.now in
    let n = c.loop-by.by-index in
    let m : Move = slice_index_or path n (by.Store 0) in
    let at : slice_get path n ≡ Some m = slice_get-get_or path n (by.Store 0) (omega arith) in
    record { way = rw add-one (goes_on c.args.terms.now.nodes c.in-Some.landing path c.args.atoms.now.items c.loop-by.atoms.items n c.loop-by.here c.loop-by.invariant.way m c.in-Some-turn_of.turn c.push.new.self.items at (sym c.in-Some-turn_of.ensures) c.in_ok-push.ensures.items) }
