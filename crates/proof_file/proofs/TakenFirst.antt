-- A diary takes equalities before what it puts behind them.
use Rattle.std.proofs.Common.{◌≡◌, ℕ, ◌≤◌, ◌<◌, List, [], ◌∷◌, ◌++◌, append_assoc, append-nil, Some, refl, sym, ap, subst, arith}
use Rattle.std.specs.Prelude.{Contains}
use Rattle.cnf_base.proofs.Lists.{Contains-first, Contains-later}
use Rattle.proof_log.specs.declared.entry.Entry.{Entry}
use Rattle.proof_log.specs.declared.entry.Entry.TheVariants as step
use Rattle.proof_log.specs.declared.diary.DiaryLine.{DiaryLine}
use Rattle.proof_log.specs.declared.diary.DiaryLine.TheVariants.{Take, Put, Drop}
use Rattle.proof_log.specs.Logs.{entry_at}
use Rattle.proof_text.specs.declared.record.Record.{Record}
use Rattle.proof_text.specs.declared.record.Record.TheVariants.{Sat, Unsat, Unknown}
use Rattle.proof_file.specs.Equalities.{AreTakenFirst, HasTakenFirst}

-- the same of the lines behind others
abbrev ComeFirst : List Entry → ℕ → List DiaryLine → List DiaryLine → Type 0
ComeFirst log start before ls =
    (front behind : List DiaryLine) (p q t u : ℕ) → ls ≡ front ++ Put p ∷ behind → start ≤ q → q < p → entry_at log q ≡ Some (step.Equal t u) → Contains (before ++ front) (Take q)

come_later : (log : List Entry) (start : ℕ) (before ls : List DiaryLine) (l : DiaryLine) → ComeFirst log start before (l ∷ ls) → ComeFirst log start (before ++ l ∷ []) ls
come_later log start before ls l h = λ front behind p q t u e le lt there.
    subst (λ (bs : List DiaryLine). Contains bs (Take q)) (sym (append_assoc before (l ∷ []) front))
    (h (l ∷ front) behind p q t u (ap (λ zs. l ∷ zs) e) le lt there)

taken_behind : (log : List Entry) (start : ℕ) (before ls : List DiaryLine) → ((p : ℕ) → Contains ls (Put p) → start ≤ p) → ComeFirst log start before ls → AreTakenFirst log start before ls
taken_behind log start before [] later first = tt
taken_behind log start before (Take x ∷ ls) later first =
    taken_behind log start (before ++ Take x ∷ []) ls (λ p c. later p (Contains-later (Take x) (Put p) ls c)) (come_later log start before ls (Take x) first)
taken_behind log start before (Put x ∷ ls) later first = (
  later x (Contains-first (Put x) ls),
  (λ q t u le lt there. subst (λ (bs : List DiaryLine). Contains bs (Take q)) (append-nil before) (first [] ls x q t u refl le lt there)),
  taken_behind log start (before ++ Put x ∷ []) ls (λ p c. later p (Contains-later (Put x) (Put p) ls c)) (come_later log start before ls (Put x) first),
)
taken_behind log start before (Drop x ∷ ls) later first =
    taken_behind log start (before ++ Drop x ∷ []) ls (λ p c. later p (Contains-later (Drop x) (Put p) ls c)) (come_later log start before ls (Drop x) first)

pub taken_in_order : (log : List Entry) (start : ℕ) (ls : List DiaryLine) → ((p : ℕ) → Contains ls (Put p) → start ≤ p)
    → ((front behind : List DiaryLine) (p q t u : ℕ) → ls ≡ front ++ Put p ∷ behind → start ≤ q → q < p → entry_at log q ≡ Some (step.Equal t u) → Contains front (Take q)) → AreTakenFirst log start [] ls
taken_in_order log start ls later first = taken_behind log start [] ls later first

-- where a check's own steps began before
pub taken_before : (low high : ℕ) (log : List Entry) (r : Record) → low ≤ high → HasTakenFirst high log (Some r) → HasTakenFirst low log (Some r)
taken_before low high log (Sat values) le h = tt
taken_before low high log (Unsat p) le h = tt
taken_before low high log (Unknown d) le h = ((let start = h.0 in omega (arith, le, start)), h.1)
