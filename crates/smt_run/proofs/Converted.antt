-- Of a conversion of a proof, and its status.
use Rattle.std.proofs.Common.{◌≡◌, ℕ, ◌+◌, ◌-◌, ◌<◌, List, [], ◌++◌, length, take, drop, Option, Some, None, refl, sym, ap, ◌∙◌, subst, inl, inr, arith, append-nil, take-append-drop}
use Rattle.std.specs.Prelude.{Result, Ok, Err, IfErr, MatchResult}
use Rattle.std.specs.Io.KnownBytes.{Appends, Consumes, IsAtEnd}
use Rattle.std.proofs.KnownBytes.{Appends-nil}
use Rattle.smt_check.specs.declared.status.Status.{Status}
use Rattle.smt_check.specs.declared.status.Status.TheVariants.{Done, Refused, Usage, ReadFault, WriteFault, NoMemory, TooLong}
use Rattle.smt_check.specs.Runs.{ReadsPiece, input_limit}
use Rattle.smt_check.specs.Checks.{StopsReading}
use Rattle.smt_check.proofs.Parts.{reads_more}
use Rattle.smt_run.specs.Beside.{Told}
use Rattle.smt_run.specs.Converting.{Becomes, IsLeft, AddsFronts}
use Rattle.smt_run.proofs.Written.{Progress, within_more}

-- ---- the text is read

pub unread : (size left : ℕ) (a b c : Option (List ℕ)) (s : Status) → Progress size left a b → ReadsPiece left b c (Err s) → StopsReading input_limit a c s
unread size left a b c Done p q = q
unread size left a b c Refused p q = q
unread size left a b c Usage p q = q
unread size left a b c ReadFault p q = within_more size left 0 a b c p (omega arith) q
unread size left a b c WriteFault p q = absurd q
unread size left a b c NoMemory p q = absurd q
unread size left a b c TooLong p q = reads_more (input_limit - left) 1 (input_limit + 1) a b c p.read q.1 (omega (arith, q.0))

-- ---- the two writes

-- the proof was not written whole
pub fronts_of_proof : (line proof : List ℕ) (n : ℕ) (a q q' : Option (List ℕ)) → Appends q q' (take n proof) → AddsFronts line proof a a q q'
fronts_of_proof line proof n a q q' h = record {
  told = [];
  written = take n proof;
  rest = line;
  left = drop n proof;
  answers_are = Appends-nil a;
  out_is = h;
  line_is = refl;
  proof_is = sym (take-append-drop n proof);
  order = inl refl;
}

-- the line was not told whole
fronts_of_line : (line proof : List ℕ) (n : ℕ) (a a' q q' : Option (List ℕ)) → Appends a a' (take n line) → Appends q q' proof → AddsFronts line proof a a' q q'
fronts_of_line line proof n a a' q q' h k = record {
  told = take n line;
  written = proof;
  rest = drop n line;
  left = [];
  answers_are = h;
  out_is = k;
  line_is = sym (take-append-drop n line);
  proof_is = sym (append-nil proof);
  order = inr refl;
}

pub fronts_behind : {E : Type 0} (r : Result (Unit {0}) E) (line proof : List ℕ) (a a' q q' : Option (List ℕ)) → MatchResult r (λ _. Appends a a' line) (λ _. (n : ℕ) × (n < length line) × Appends a a' (take n line)) → Appends q q' proof → IfErr r (λ _. AddsFronts line proof a a' q q')
fronts_behind (Ok u) line proof a a' q q' m h = tt
fronts_behind (Err e) line proof a a' q q' m h = fronts_of_line line proof m.0 a a' q q' m.2 h

-- ---- what was read becomes something

becomes_left : (text line proof : List ℕ) (t : Status) → Becomes text line proof t → IsLeft text line proof t
becomes_left text line proof Done h = h
becomes_left text line proof Refused h = h
becomes_left text line proof Usage h = h
becomes_left text line proof ReadFault h = absurd h
becomes_left text line proof WriteFault h = absurd h
becomes_left text line proof NoMemory h = absurd h
becomes_left text line proof TooLong h = absurd h

-- where the text is told, and read to its end, what was read is all of it
whole_is : (x text y : List ℕ) → x ≡ text ++ y → y ≡ [] → text ≡ x
whole_is x text y e f = sym (e ∙ ap (λ l. text ++ l) f ∙ append-nil text)

pub ended_told : (s s' a a' q q' : Option (List ℕ)) (text line proof : List ℕ) (t : Status) → Consumes s s' text → IsAtEnd s' → Becomes text line proof t → Appends a a' line → Appends q q' proof → Told s a a' q q' (λ x told written. IsLeft x told written t)
ended_told None s' a a' q q' text line proof t c e b h k = tt
ended_told (Some x) None a a' q q' text line proof t c e b h k = absurd c
ended_told (Some x) (Some y) None a' q q' text line proof t c e b h k = tt
ended_told (Some x) (Some y) (Some z) a' None q' text line proof t c e b h k = tt
ended_told (Some x) (Some y) (Some z) None (Some w) q' text line proof t c e b h k = absurd h
ended_told (Some x) (Some y) (Some z) (Some z') (Some w) None text line proof t c e b h k = absurd k
ended_told (Some x) (Some y) (Some z) (Some z') (Some w) (Some w') text line proof t c e b h k = (line, proof, ap Some h, ap Some k, subst (λ l. IsLeft l line proof t) (whole_is x text y c e) (becomes_left text line proof t b))

pub cut_told : (s s' a a' q q' : Option (List ℕ)) (text line proof : List ℕ) (t : Status) → Consumes s s' text → IsAtEnd s' → Becomes text line proof t → AddsFronts line proof a a' q q' → Told s a a' q q' (λ x told written. IsLeft x told written WriteFault)
cut_told None s' a a' q q' text line proof t c e b f = tt
cut_told (Some x) None a a' q q' text line proof t c e b f = absurd c
cut_told (Some x) (Some y) None a' q q' text line proof t c e b f = tt
cut_told (Some x) (Some y) (Some z) a' None q' text line proof t c e b f = tt
cut_told (Some x) (Some y) (Some z) None (Some w) q' text line proof t c e b f = absurd f.answers_are
cut_told (Some x) (Some y) (Some z) (Some z') (Some w) None text line proof t c e b f = absurd f.out_is
cut_told (Some x) (Some y) (Some z) (Some z') (Some w) (Some w') text line proof t c e b f = (
  f.told,
  f.written,
  ap Some f.answers_are,
  ap Some f.out_is,
  record {
    line = line;
    proof = proof;
    status = t;
    becomes = subst (λ l. Becomes l line proof t) (whole_is x text y c e) b;
    rest = f.rest;
    left = f.left;
    line_is = f.line_is;
    proof_is = f.proof_is;
    order = f.order;
  },
)
