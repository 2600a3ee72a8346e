use Rattle.std.proofs.Common.{subst}
use Rattle.std.specs.List.{AllByRecursion}
use Rattle.theory_terms.specs.Lemmas.{atoms_of}
use Rattle.theory_lemmas.specs.Arriving.{AreAtoms}
use Rattle.access_walk.specs.Walked.{IsEncodedAtom}
use Rattle.access_walk.proofs.Encoded.{encoded_lemma, one_more}
use Rattle.access_walk.proofs.siblings.put_encoded.Goals as goal

pub returns-in_ok-push : goal.returns-in_ok-push
returns-in_ok-push c =
    let nodes = c.args.terms.now.nodes in
    let bits = c.args.bits.now in
    let are = subst (AreAtoms (atoms_of nodes c.args.lemma)) c.in-Some.is c.in_ok-atoms.ensures in
    let all : AllByRecursion (IsEncodedAtom nodes bits) c.deref.result.now = rw c.if-are_encoded.true at c.are_encoded.ensures in
    one_more nodes bits c.args.lemmas.now.items c.push.new.self.items c.args.lemma c.requires
    (encoded_lemma nodes bits c.args.lemma c.in-Some.atoms are (subst (AllByRecursion (IsEncodedAtom nodes bits)) c.deref.ensures.value all))
    c.in_ok-push.ensures.items
