-- One part of a run after another.
use Rattle.std.proofs.Common.{◌≡◌, ℕ, ◌+◌, ◌≤◌, List, [], ◌++◌, length, Option, refl, ap, ◌∙◌, inl, inr, arith, ⊎_elim, length-append}
use Rattle.std.proofs.KnownBytes.{Appends-nil, Appends-trans, Consumes-nil, Consumes-trans}
use Rattle.smt_desk.specs.Faults.{Rose}
use Rattle.smt_check.specs.declared.status.Status.{Status}
use Rattle.smt_check.specs.declared.status.Status.TheVariants.{Done, Refused, Usage, ReadFault, WriteFault, NoMemory, TooLong}
use Rattle.smt_check.specs.Runs.{AddsTo, ReadsBytes, Counts, IsLater, HasCause}

pub adds_none : (a : Option (List ℕ)) → AddsTo a a
adds_none a = ([], Appends-nil a)

pub adds_more : (a b c : Option (List ℕ)) → AddsTo a b → AddsTo b c → AddsTo a c
adds_more a b c p q = (p.0 ++ q.0, Appends-trans a b c p.0 q.0 p.1 q.1)

pub reads_none : (a : Option (List ℕ)) → ReadsBytes 0 a a
reads_none a = ([], Consumes-nil a, refl)

pub reads_more : (n m k : ℕ) (a b c : Option (List ℕ)) → ReadsBytes n a b → ReadsBytes m b c → n + m ≡ k → ReadsBytes k a c
reads_more n m k a b c p q e = (p.0 ++ q.0, Consumes-trans a b c p.0 q.0 p.1 q.1, length-append p.0 q.0 ∙ ap (λ x. x + length q.0) p.2 ∙ ap (λ x. n + x) q.2 ∙ e)

pub later_same : (a : Counts) → IsLater a a
later_same a = record { script = omega arith; answers = omega arith; proof = omega arith }

pub later_more : (a b c : Counts) → IsLater a b → IsLater b c → IsLater a c
later_more a b c p q = record { script = omega arith; answers = omega arith; proof = omega arith }

pub rose_after : (a b c : ℕ) → a ≤ b → Rose b c → Rose a c
rose_after a b c p q = omega arith

-- what rose in a part rose in the whole
pub cause_after : (a b c : Counts) (s : Status) → IsLater a b → HasCause b c s → HasCause a c s
cause_after a b c Done p q = tt
cause_after a b c Refused p q = tt
cause_after a b c Usage p q = tt
cause_after a b c ReadFault p q = rose_after a.script b.script c.script p.script q
cause_after a b c WriteFault p q = ⊎_elim (λ r. inl (rose_after a.answers b.answers c.answers p.answers r)) (λ r. inr (rose_after a.proof b.proof c.proof p.proof r)) q
cause_after a b c NoMemory p q = tt
cause_after a b c TooLong p q = tt
