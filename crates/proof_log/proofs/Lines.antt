-- A diary that is kept line by line, over a log that grows.
use Rattle.std.proofs.Common.{◌≡◌, ℕ, suc, ◌+◌, ◌≤◌, Bool, true, false, not, List, [], ◌∷◌, ◌++◌, length, map, refl, sym, ap, ◌∙◌, subst, inl, inr, ⊎_elim, arith}
use Rattle.std.specs.Prelude.{◌==◌, ◌&&◌, ◌⊎◌, ltb, if◌then◌else◌, Contains}
use Rattle.std.proofs.lemmas.Bool.{eqb-true, ltb-true, and_parts}
use Rattle.std.proofs.lemmas.List.Elements.{Contains-append_left, Contains-append_right, Contains-push}
use Rattle.cnf_base.specs.Literals.{Literal, negated}
use Rattle.cnf_base.specs.declared.clause.ClauseId.{ClauseId}
use Rattle.proof_log.specs.declared.diary.DiaryLine.{DiaryLine}
use Rattle.proof_log.specs.declared.diary.DiaryLine.TheVariants.{Take, Put, Drop}
use Rattle.proof_log.specs.Logs.{entry_at}
use Rattle.proof_log.specs.Boards.{Grows}
use Rattle.proof_log.specs.Diaries.{Subject, look_of, is_chain, DiaryState, blank, with_held, count_new, StandsIn, EachIsUsed, IsGoodPut, IsLine, line_after, AreLines, lines_after, EndsInPut, IsSpent}
use Rattle.proof_log.proofs.Growth.{grown_length, entry_within, entry_stays, clause_stays}

-- ---- one line more

pub are_lines_snoc : (g : Subject) (s : DiaryState) (ls : List DiaryLine) (l : DiaryLine) → AreLines g s ls → IsLine g (lines_after g s ls) l → AreLines g s (ls ++ l ∷ [])
are_lines_snoc g s [] l h k = (k, tt)
are_lines_snoc g s (m ∷ ls) l h k = (h.0, are_lines_snoc g (line_after g s m) ls l h.1 k)

pub lines_after_snoc : (g : Subject) (s : DiaryState) (ls : List DiaryLine) (l : DiaryLine) → lines_after g s (ls ++ l ∷ []) ≡ line_after g (lines_after g s ls) l
lines_after_snoc g s [] l = refl
lines_after_snoc g s (m ∷ ls) l = lines_after_snoc g (line_after g s m) ls l

pub ends_in_put : (ls : List DiaryLine) (p : ℕ) → EndsInPut (ls ++ Put p ∷ [])
ends_in_put [] p = tt
ends_in_put (Take q ∷ []) p = tt
ends_in_put (Put q ∷ []) p = tt
ends_in_put (Drop q ∷ []) p = tt
ends_in_put (Take q ∷ m ∷ ls) p = ends_in_put (m ∷ ls) p
ends_in_put (Put q ∷ m ∷ ls) p = ends_in_put (m ∷ ls) p
ends_in_put (Drop q ∷ m ∷ ls) p = ends_in_put (m ∷ ls) p

pub held_cases : (held : ℕ → Bool) (p : ℕ) (b : Bool) (q : ℕ) → with_held held p b q ≡ true → (q ≡ p) ⊎ (held q ≡ true)
held_cases held p b q h = go (q == p) refl
  where
    go : (c : Bool) → (q == p) ≡ c → (q ≡ p) ⊎ (held q ≡ true)
    go true e = inl (eqb-true q p e)
    go false e = inr (subst (λ c. (if c then b else held q) ≡ true) e h)

-- ---- positions of the log

-- nothing past the log is held
abbrev pub AreWithin : Subject → DiaryState → Type 0
AreWithin g s = (p : ℕ) → s.held p ≡ true → p ≤ length g.log

pub line_within : (g : Subject) (s : DiaryState) (l : DiaryLine) → IsLine g s l → AreWithin g s → AreWithin g (line_after g s l)
line_within g s (Take q) k h p e = ⊎_elim (λ same. omega (arith, same, k)) (λ old. h p old) (held_cases s.held q true p e)
line_within g s (Put q) k h p e = ⊎_elim (λ same. let w = entry_within g.log q _ k.2 in omega (arith, same, w)) (λ old. h p old) (held_cases s.held q true p e)
line_within g s (Drop q) k h p e = ⊎_elim (λ same. let w = h q k.0 in omega (arith, same, w)) (λ old. h p old) (held_cases s.held q false p e)

pub lines_within : (g : Subject) (s : DiaryState) (ls : List DiaryLine) → AreLines g s ls → AreWithin g s → AreWithin g (lines_after g s ls)
lines_within g s [] h w = w
lines_within g s (l ∷ ls) h w = lines_within g (line_after g s l) ls h.1 (line_within g s l h.0 w)

pub blank_within : (g : Subject) → g.from ≤ suc (length g.log) → AreWithin g (blank g)
blank_within g le p e = let lt = ltb-true p g.from (and_parts (ltb p g.from) (not (is_chain (entry_at g.log p))) e).0 in omega (arith, lt, le)

-- ---- over a log that grew

-- the same over a log that steps of searches were added to
pub record IsProlonged (g g' : Subject) : Type 0 where
  pub nodes : g'.nodes ≡ g.nodes
  pub given : g'.given ≡ g.given
  pub from : g'.from ≡ g.from
  pub grows : Grows g.log g'.log

module _ (g g' : Subject) (h : IsProlonged g g') where
  look_stays : (i : ClauseId) → i.pos ≤ length g.log → look_of g' i ≡ look_of g i
  look_stays i le = ap (λ n. look_of (record g' { nodes = n }) i) h.nodes ∙ clause_stays g.nodes g.log g'.log i h.grows le

  stands_longer : (hints : List ClauseId) (l : Literal) → ((i : ClauseId) → Contains hints i → i.pos ≤ length g.log) → StandsIn (look_of g) hints l → StandsIn (look_of g') hints l
  stands_longer hints l w k = (k.0, k.1, k.2, look_stays k.0 (w k.0 k.2) ∙ k.3, k.4)

  used_longer : (trues : List Literal) (hints : List ClauseId) → ((i : ClauseId) → Contains hints i → i.pos ≤ length g.log) → EachIsUsed (look_of g) trues hints → EachIsUsed (look_of g') trues hints
  used_longer trues [] w u = tt
  used_longer trues (i ∷ []) w u = tt
  used_longer trues (i ∷ j ∷ is) w u =
      let rest = λ (k : ClauseId) (e : Contains (j ∷ is) k). w k (Contains-append_right (i ∷ []) (j ∷ is) k e) in
      (u.0, u.1, look_stays i (w i (Contains-append_left (i ∷ []) (j ∷ is) i (Contains-push [] i))) ∙ u.2, u.3, stands_longer (j ∷ is) (negated u.1) rest u.4, used_longer (trues ++ u.1 ∷ []) (j ∷ is) rest u.5)

  good_longer : (s : DiaryState) → AreWithin g s → (c : List Literal) (hints : List ClauseId) → IsGoodPut g s.held c hints → IsGoodPut g' s.held c hints
  good_longer s w c hints k =
      let within = λ (i : ClauseId) (e : Contains hints i). w i.pos (k.from_held i e) in
      record {
        no_pair = k.no_pair;
        from_held = k.from_held;
        from_hints = λ l e. stands_longer hints l within (k.from_hints l e);
        used = used_longer (map negated c) hints within k.used;
        is_new = λ i d held e. k.is_new i d held (sym (look_stays i (w i.pos held)) ∙ e);
        not_given = λ l e f. k.not_given l e (subst (λ (b : List Literal). Contains b l) h.given f);
      }

  entry_longer : (p : ℕ) → p ≤ length g.log → entry_at g'.log p ≡ entry_at g.log p
  entry_longer p le = entry_stays g.log g'.log p h.grows le

  line_longer : (s : DiaryState) → AreWithin g s → (l : DiaryLine) → IsLine g s l → IsLine g' s l
  line_longer s w (Take p) k = let n = grown_length g.log g'.log h.grows in omega (arith, k, n)
  line_longer s w (Put p) k = (k.0, k.1, entry_longer p (entry_within g.log p _ k.2) ∙ k.2, good_longer s w k.0 k.1 k.3)
  line_longer s w (Drop p) k = (k.0, ap is_chain (entry_longer p (w p k.0)) ∙ k.1, k.2)

  after_longer : (s : DiaryState) (l : DiaryLine) → IsLine g s l → line_after g' s l ≡ line_after g s l
  after_longer s (Take p) k = ap (λ o. record { held = with_held s.held p true; chains = s.chains + count_new (is_chain o) (s.held p); puts = s.puts; drops = 0 }) (entry_longer p k)
  after_longer s (Put p) k = refl
  after_longer s (Drop p) k = refl

  pub lines_longer : (s : DiaryState) → AreWithin g s → (ls : List DiaryLine) → AreLines g s ls → AreLines g' s ls × (lines_after g' s ls ≡ lines_after g s ls)
  lines_longer s w [] k = (tt, refl)
  lines_longer s w (l ∷ ls) k =
      let same = after_longer s l k.0 in
      let rest = lines_longer (line_after g s l) (line_within g s l k.0 w) ls k.1 in
      ((line_longer s w l k.0, subst (λ r. AreLines g' r ls) (sym same) rest.0), ap (λ r. lines_after g' r ls) same ∙ rest.1)

  -- the start is the same
  pub blank_longer : g.from ≤ suc (length g.log) → blank g' ≡ blank g
  blank_longer le = λ i. record { held = λ p. same p i; chains = 0; puts = 0; drops = 0 }
    where
      same : (p : ℕ) → (ltb p g'.from && not (is_chain (entry_at g'.log p))) ≡ (ltb p g.from && not (is_chain (entry_at g.log p)))
      same p = ap (λ n. ltb p n && not (is_chain (entry_at g'.log p))) h.from ∙ go (ltb p g.from) refl
        where
          go : (b : Bool) → ltb p g.from ≡ b → (ltb p g.from && not (is_chain (entry_at g'.log p))) ≡ (ltb p g.from && not (is_chain (entry_at g.log p)))
          go true e = let lt = ltb-true p g.from e in ap (λ o. ltb p g.from && not (is_chain o)) (entry_longer p (omega (arith, lt, le)))
          go false e = ap (λ b. b && not (is_chain (entry_at g'.log p))) e ∙ sym (ap (λ b. b && not (is_chain (entry_at g.log p))) e)

  -- a diary so far stays one, and leaves the same
  pub diary_longer : g.from ≤ suc (length g.log) → (ls : List DiaryLine) → AreLines g (blank g) ls → AreLines g' (blank g') ls × (lines_after g' (blank g') ls ≡ lines_after g (blank g) ls)
  diary_longer le ls k =
      let same = blank_longer le in
      let all = lines_longer (blank g) (blank_within g le) ls k in
      (subst (λ s. AreLines g' s ls) (sym same) all.0, ap (λ s. lines_after g' s ls) same ∙ all.1)

-- ---- the last put

-- the put that uses the budget up
pub spent : (g : Subject) (ls : List DiaryLine) (p budget : ℕ) → AreLines g (blank g) ls → IsLine g (lines_after g (blank g) ls) (Put p) → (lines_after g (blank g) ls).puts ≡ budget → IsSpent g budget (ls ++ Put p ∷ [])
spent g ls p budget h k e = record {
  stand = are_lines_snoc g (blank g) ls (Put p) h k;
  puts = ap (λ (r : DiaryState). r.puts) (lines_after_snoc g (blank g) ls (Put p)) ∙ ap suc e;
  last = ends_in_put ls p;
}
