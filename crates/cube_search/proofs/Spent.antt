-- What a diary that has spent its budget says of other subjects.
use Rattle.std.proofs.Common.{◌≡◌, ℕ, zero, suc, ◌<◌, ◌≤◌, Bool, true, false, not, List, [], ◌∷◌, length, Some, refl, sym, ap, ◌∙◌, subst, ⊎_elim, arith}
use Rattle.std.specs.Prelude.{◌&&◌, ltb, slice_get}
use Rattle.std.proofs.lemmas.Bool.{cases_lt, lt-ltb, ltb-true}
use Rattle.cnf_base.specs.Literals.{Literal}
use Rattle.cnf_base.specs.declared.clause.ClauseId.{ClauseId}
use Rattle.proof_log.specs.declared.board.Sync.{Sync}
use Rattle.proof_log.specs.declared.diary.Diary.{Diary}
use Rattle.proof_log.specs.declared.diary.DiaryLine.{DiaryLine}
use Rattle.proof_log.specs.declared.diary.DiaryLine.TheVariants.{Take, Put, Drop}
use Rattle.proof_log.specs.declared.entry.Entry.{Entry}
use Rattle.proof_log.specs.Logs.{entry_at}
use Rattle.proof_log.specs.Diaries.{Subject, DiaryState, is_chain, blank, IsGoodPut, line_after, AreLines, lines_after, IsSpent}
use Rattle.proof_log.proofs.Lines.{IsProlonged, diary_longer}
use Rattle.cube_search.specs.Ends.{IsSpentDiary}
use Rattle.cube_search.specs.Holding.{AreOwnHeld}
use Rattle.cube_search.specs.Keeping.{IsInOrder}

-- the same log and the same literals, from another position on
abbrev pub started_at : Subject → ℕ → Subject
started_at g start = record { nodes = g.nodes; log = g.log; given = g.given; from = start }

good_same : (g : Subject) (start : ℕ) (held : ℕ → Bool) (c : List Literal) (hints : List ClauseId) → IsGoodPut g held c hints → IsGoodPut (started_at g start) held c hints
good_same g start held c hints h = record {
  no_pair = h.no_pair;
  from_held = h.from_held;
  from_hints = h.from_hints;
  used = h.used;
  is_new = h.is_new;
  not_given = h.not_given;
}

lines_same : (g : Subject) (start : ℕ) (s : DiaryState) (ls : List DiaryLine) → AreLines g s ls → AreLines (started_at g start) s ls × (lines_after (started_at g start) s ls ≡ lines_after g s ls)
lines_same g start s [] h = (tt, refl)
lines_same g start s (Take p ∷ ls) h = let k = lines_same g start (line_after g s (Take p)) ls h.1 in ((h.0, k.0), k.1)
lines_same g start s (Put p ∷ ls) h = let k = lines_same g start (line_after g s (Put p)) ls h.1 in (((h.0.0, h.0.1, h.0.2, good_same g start s.held h.0.0 h.0.1 h.0.3), k.0), k.1)
lines_same g start s (Drop p ∷ ls) h = let k = lines_same g start (line_after g s (Drop p)) ls h.1 in ((h.0, k.0), k.1)

-- where chains alone stand between two positions, what is held at the start is the same from each of them
blank_same : (g : Subject) (start : ℕ) → g.from ≤ start → ((p : ℕ) → g.from ≤ p → p < start → is_chain (entry_at g.log p) ≡ true) → blank (started_at g start) ≡ blank g
blank_same g start le chains = λ i. record { held = λ p. same p i; chains = 0; puts = 0; drops = 0 }
  where
    both : (a b c : Bool) → a ≡ b → (a && not c) ≡ (b && not c)
    both a b c e = ap (λ x. x && not c) e

    neither : (a b c : Bool) → c ≡ true → (a && not c) ≡ (b && not c)
    neither true true c e = refl
    neither true false c e = ap not e
    neither false true c e = sym (ap not e)
    neither false false c e = refl

    apart : (p q : ℕ) → q ≤ p → ltb p q ≡ false
    apart p q ge = go (ltb p q) refl
      where
        go : (b : Bool) → ltb p q ≡ b → b ≡ false
        go true e = let lt = ltb-true p q e in absurd (omega (arith, lt, ge))
        go false e = refl

    same : (p : ℕ) → (ltb p start && not (is_chain (entry_at g.log p))) ≡ (ltb p g.from && not (is_chain (entry_at g.log p)))
    same p = ⊎_elim
        (λ lt. both (ltb p start) (ltb p g.from) (is_chain (entry_at g.log p)) (lt-ltb p start (omega (arith, lt, le)) ∙ sym (lt-ltb p g.from lt)))
        (λ ge. ⊎_elim
        (λ lt. neither (ltb p start) (ltb p g.from) (is_chain (entry_at g.log p)) (chains p ge lt))
        (λ past. both (ltb p start) (ltb p g.from) (is_chain (entry_at g.log p)) (apart p start past ∙ sym (apart p g.from ge)))
        (cases_lt p start))
        (cases_lt p g.from)

pub spent_from : (g : Subject) (start budget : ℕ) (ls : List DiaryLine) → g.from ≤ start → ((p : ℕ) → g.from ≤ p → p < start → is_chain (entry_at g.log p) ≡ true) → IsSpent g budget ls → IsSpent (record { nodes = g.nodes; log = g.log; given = g.given; from = start }) budget ls
spent_from g start budget ls le chains h =
    let e = blank_same g start le chains in
    let k = lines_same g start (blank g) ls h.stand in
    record {
      stand = subst (λ (s : DiaryState). AreLines (started_at g start) s ls) (sym e) k.0;
      puts = ap (λ (s : DiaryState). (lines_after (started_at g start) s ls).puts) e ∙ ap (λ (s : DiaryState). s.puts) k.1 ∙ h.puts;
      last = h.last;
    }

-- every position of a log but the first has its step
entry_here : (log : List Entry) (p : ℕ) → 0 < p → p ≤ length log → (e : Entry) × (entry_at log p ≡ Some e)
entry_here log zero one le = absurd (omega (arith, one))
entry_here log (suc p) one le = go log p (omega (arith, le))
  where
    go : (es : List Entry) (k : ℕ) → k < length es → (e : Entry) × (slice_get es k ≡ Some e)
    go [] k lt = absurd (omega (arith, lt))
    go (e ∷ es) zero lt = (e, refl)
    go (e ∷ es) (suc k) lt = go es k (omega (arith, lt))

-- A diary of a search has spent its budget from its own start on, where from the search's position on there are chains alone.
pub spent_from_start : (g : Subject) (knows : ℕ → Type 0) (told : Sync) (budget : ℕ) (d : Diary) → 0 < g.from → ((at : ℕ) (e : Entry) → g.from ≤ at → entry_at g.log at ≡ Some e → is_chain (Some e) ≡ true) → IsSpentDiary g knows told budget d → IsSpent (record { nodes = g.nodes; log = g.log; given = g.given; from = d.start }) budget d.lines
spent_from_start g knows told budget d one chains h = spent_from g d.start budget d.lines h.start here h.spent
  where
    here : (p : ℕ) → g.from ≤ p → p < d.start → is_chain (entry_at g.log p) ≡ true
    here p ge lt = let q = entry_here g.log p (omega (arith, one, ge)) (omega (arith, lt, h.within)) in ap is_chain q.1 ∙ chains p q.0 ge q.1

-- a diary that starts at its own start, or before it at the search's own position, takes equalities first
pub order_from : (g : Subject) (knows : ℕ → Type 0) (told : Sync) (budget : ℕ) (d : Diary) (start : ℕ) → g.from ≤ start → start ≤ d.start → IsSpentDiary g knows told budget d → IsInOrder g.log start d.lines
order_from g knows told budget d start low high h = record {
  later = λ p c. (let le = h.later p c in omega (arith, high, le));
  first = λ before behind p q t u e le lt there. h.first before behind p q t u e (omega (arith, low, le)) lt there;
}

-- where from a position on there are chains alone, no other step is the search's own
pub own_chains : (log : List Entry) (positions : List ℕ) (from : ℕ) → 0 < from → ((at : ℕ) (e : Entry) → from ≤ at → entry_at log at ≡ Some e → is_chain (Some e) ≡ true) → AreOwnHeld log positions from
own_chains log positions from one chains = λ p ge le plain.
    let q = entry_here log p (omega (arith, one, ge)) le in
    let f : true ≡ false = sym (chains p q.0 ge q.1) ∙ sym (ap is_chain q.1) ∙ plain in
    let x : ⊥ = cc in absurd x

-- and it has where more was put on the log since
pub spent_longer : (g g' : Subject) (budget : ℕ) (ls : List DiaryLine) → IsProlonged g g' → g.from ≤ suc (length g.log) → IsSpent g budget ls → IsSpent g' budget ls
spent_longer g g' budget ls p le h =
    let k = diary_longer g g' p le ls h.stand in
    record { stand = k.0; puts = ap (λ (s : DiaryState). s.puts) k.1 ∙ h.puts; last = h.last }
