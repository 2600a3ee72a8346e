use Rattle.proof_checker.proofs.checker.Checker.refute.Goals as goal

pub is_refutation-requires : goal.is_refutation-requires
is_refutation-requires c = rw (c.deref.ensures, c.deref-2.ensures) c.self.invariant.0
