use Rattle.std.proofs.Common.{◌≡◌, None, Some, refl, sym}
use Rattle.std.specs.Prelude.{Contains}
use Rattle.theory_terms.specs.Lemmas.{watch}
use Rattle.access_walk.proofs.Joined.{watch_there, is_watched}
use Rattle.access_walk.proofs.witnesses.watched_own.Goals as goal

pub returns-in-Some : goal.returns-in-Some
returns-in-Some c =
    let e : watch c.args.terms.now.nodes c.in-Equating.left c.in-Equating.right ≡ Some c.in-Some.watch = let p = c.in-Some.is in let q = c.in_ok-watch.ensures in cc in (
      is_watched c.args.terms.now.nodes c.len-count.ensures.terms.list c.args.bits.now (Contains c.args.reached.now) c.requires.bits c.requires.closed c.args.term c.in-Equating.left c.in-Equating.right _ _
          c.requires.here c.requires.free (sym c.in-Equating.ensures) (sym c.in-Array.ensures) c.in-Some.watch e,
      refl,
    )

pub returns-in-None : goal.returns-in-None
returns-in-None c = λ a b n m i s q.
    let e : watch c.args.terms.now.nodes c.in-Equating.left c.in-Equating.right ≡ None = let p = c.in-None.is in let q = c.in_ok-watch.ensures in cc in
    watch_there c.args.terms.now.nodes c.len-count.ensures.terms.list c.args.bits.now (Contains c.args.reached.now) c.requires.bits c.requires.closed c.args.term c.in-Equating.left c.in-Equating.right _ _
    c.requires.here c.requires.free (sym c.in-Equating.ensures) (sym c.in-Array.ensures) c.requires.watches e
