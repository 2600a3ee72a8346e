-- What each step leaves to those behind it.
use Rattle.proof_log.specs.declared.entry.Entry.{Entry}
use Rattle.proof_log.specs.declared.entry.Entry.TheVariants as step
use Rattle.proof_log.specs.declared.entry.Role.{Role}
use Rattle.proof_log.specs.declared.entry.Role.TheVariants as role

-- The role of a step: it makes a term, gives a term bits, gives an assertion a selector, or is one of a search. What is said of
-- steps by their role alone is said by this function, so that a further kind of step is told of here.
abbrev pub role_of : Entry → Role
role_of (step.Node n) = role.Term
role_of (step.Leaf t) = role.Bits t
role_of (step.Encode t) = role.Bits t
role_of (step.Rewrite r) = role.Bits r.from
role_of (step.Selector a t) = role.Selector a
role_of (step.Chain c hints) = role.Search
role_of (step.Equal t u) = role.Search
role_of (step.Lemma l) = role.Search
