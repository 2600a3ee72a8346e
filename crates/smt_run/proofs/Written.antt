-- What a part of a run read and wrote, and that no count fell.
use Rattle.std.proofs.Common.{◌≡◌, ℕ, ◌+◌, ◌-◌, ◌<◌, ◌≤◌, Bool, List, Option, ⊎_elim, sym, subst, arith}
use Rattle.std.specs.Prelude.{Result, Ok, Err, IfErr}
use Rattle.std.specs.Io.KnownBytes.{Appends, Consumes}
use Rattle.std.proofs.KnownBytes.{Appends-trans}
use Rattle.smt_desk.specs.Faults.{Rose}
use Rattle.smt_check.specs.declared.status.Status.{Status}
use Rattle.smt_check.specs.declared.status.Status.TheVariants.{Done, Refused, Usage, ReadFault, WriteFault, NoMemory, TooLong}
use Rattle.smt_check.specs.Runs.{AddsTo, ReadsBytes, ReadsWithin, ReadsPiece, HasCause, Counts, IsLater, counts, input_limit}
use Rattle.smt_run.specs.Solving.{BeginsWith, IsRead, StopsWriting}
use Rattle.smt_check.proofs.Parts.{adds_none, adds_more, reads_none, reads_more, later_same, later_more}

pub begins_with : (front : List ℕ) (a b c : Option (List ℕ)) → Appends a b front → AddsTo b c → BeginsWith front a c
begins_with front a b c p q = (q.0, Appends-trans a b c front q.0 p q.1)

pub record Written (a a' p p' : Option (List ℕ)) (old new : Counts) : Type 0 where
  pub answers : AddsTo a a'
  pub proof : AddsTo p p'
  pub later : IsLater old new

pub Written-none : (a p : Option (List ℕ)) (old : Counts) → Written a a p p old old
Written-none a p old = record { answers = adds_none a; proof = adds_none p; later = later_same old }

pub Written-more : (a b c p q r : Option (List ℕ)) (old mid new : Counts) → Written a b p q old mid → AddsTo b c → AddsTo q r → IsLater mid new → Written a c p r old new
Written-more a b c p q r old mid new w x y z = record { answers = adds_more a b c w.answers x; proof = adds_more p q r w.proof y; later = later_more old mid new w.later z }

-- how much of a script was read where so many bytes may still be read, with room for more
pub record Progress (size left : ℕ) (s s' : Option (List ℕ)) : Type 0 where
  pub room : 0 < size
  pub within : left ≤ input_limit
  pub read : ReadsBytes (input_limit - left) s s'

pub Progress-none : (room : ℕ) (s : Option (List ℕ)) → 0 < room → Progress room input_limit s s
Progress-none room s h = record { room = h; within = omega arith; read = reads_none s }

pub Progress-more : (room left n : ℕ) (a b c : Option (List ℕ)) → Progress room left a b → n ≤ left → ReadsBytes n b c → Progress room (left - n) a c
Progress-more room left n a b c p le q = record {
  room = p.room;
  within = omega (arith, p.within);
  read = reads_more (input_limit - left) n (input_limit - (left - n)) a b c p.read q (omega (arith, p.within));
}

-- the same where so many may be read then
pub Progress-counted : (room left n rest : ℕ) (a b c : Option (List ℕ)) → Progress room left a b → n ≤ left → left - n ≡ rest → ReadsBytes n b c → Progress room rest a c
Progress-counted room left n rest a b c p le e q = subst (λ (x : ℕ). Progress room x a c) e (Progress-more room left n a b c p le q)

-- ---- how a script was read

pub at_most : (size left : ℕ) (s s' : Option (List ℕ)) → Progress size left s s' → ReadsWithin s s'
at_most size left s s' p = (input_limit - left, omega arith, p.read)

pub within_none : (s : Option (List ℕ)) → ReadsWithin s s
within_none s = (0, omega arith, reads_none s)

pub within_more : (size left n : ℕ) (a b c : Option (List ℕ)) → Progress size left a b → n ≤ left → ReadsBytes n b c → ReadsWithin a c
within_more size left n a b c p le q = at_most size (left - n) a c (Progress-more size left n a b c p le q)

pub read_stopped : (old new : Option (List ℕ)) (s : Status) → StopsWriting s → ReadsWithin old new → IsRead old new (Err s)
read_stopped old new s h w = ⊎_elim (λ e. subst (λ x. IsRead old new (Err x)) (sym e) w) (λ e. subst (λ x. IsRead old new (Err x)) (sym e) w) h

-- a read that failed
pub read_failed : (size left : ℕ) (a b c : Option (List ℕ)) (s : Status) → Progress size left a b → ReadsPiece left b c (Err s) → IsRead a c (Err s)
read_failed size left a b c Done p q = q
read_failed size left a b c Refused p q = q
read_failed size left a b c Usage p q = q
read_failed size left a b c ReadFault p q = within_more size left 0 a b c p (omega arith) q
read_failed size left a b c WriteFault p q = absurd q
read_failed size left a b c NoMemory p q = absurd q
read_failed size left a b c TooLong p q = reads_more (input_limit - left) 1 (input_limit + 1) a b c p.read q.1 (omega (arith, q.0))

-- the bytes of a read that failed
pub piece_read : (left : ℕ) (b c : Option (List ℕ)) (s : Status) → ReadsPiece left b c (Err s) → (bytes : List ℕ) × Consumes b c bytes
piece_read left b c Done q = absurd q
piece_read left b c Refused q = absurd q
piece_read left b c Usage q = absurd q
piece_read left b c ReadFault q = (q.0, q.1)
piece_read left b c WriteFault q = absurd q
piece_read left b c NoMemory q = absurd q
piece_read left b c TooLong q = (q.1.0, q.1.1)

-- what is answered behind the end of the script
pub read_whole : (old new : Option (List ℕ)) (r : Result Bool Status) → IfErr r StopsWriting → ReadsWithin old new → IsRead old new r
read_whole old new (Ok refused) h w = w
read_whole old new (Err s) h w = read_stopped old new s h w

-- a cause that only the script has
pub script_cause : (a b w w' q q' : ℕ) (s : Status) → HasCause (counts a 0 0) (counts b 0 0) s → HasCause (counts a w q) (counts b w' q') s
script_cause a b w w' q q' Done h = tt
script_cause a b w w' q q' Refused h = tt
script_cause a b w w' q q' Usage h = tt
script_cause a b w w' q q' ReadFault h = h
script_cause a b w w' q q' WriteFault h = ⊎_elim (λ r. absurd (none r)) (λ r. absurd (none r)) h
  where
    none : Rose 0 0 → ⊥
    none r = omega arith
script_cause a b w w' q q' NoMemory h = tt
script_cause a b w w' q q' TooLong h = tt

-- a cause that only the sinks have
pub sinks_cause : (a b w w' q q' : ℕ) (s : Status) → HasCause (counts 0 w q) (counts 0 w' q') s → StopsWriting s → HasCause (counts a w q) (counts b w' q') s
sinks_cause a b w w' q q' Done h k = tt
sinks_cause a b w w' q q' Refused h k = tt
sinks_cause a b w w' q q' Usage h k = tt
sinks_cause a b w w' q q' ReadFault h k = ⊎_elim (λ e. let f : ⊥ = cc in absurd f) (λ e. let f : ⊥ = cc in absurd f) k
sinks_cause a b w w' q q' WriteFault h k = h
sinks_cause a b w w' q q' NoMemory h k = tt
sinks_cause a b w w' q q' TooLong h k = tt

-- the same with a buffer of another size
pub Progress-resize : (size new left : ℕ) (s s' : Option (List ℕ)) → 0 < new → Progress size left s s' → Progress new left s s'
Progress-resize size new left s s' h p = record { room = h; within = p.within; read = p.read }
