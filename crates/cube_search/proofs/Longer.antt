-- A log to which steps of any kind were added, and a diary over it.
use Rattle.std.proofs.Common.{◌≡◌, ℕ, suc, ◌+◌, ◌<◌, ◌≤◌, Bool, true, false, not, List, [], ◌∷◌, ◌++◌, length, map, refl, sym, ap, ◌∙◌, subst, arith, length-append}
use Rattle.std.specs.Prelude.{◌&&◌, ltb, slice_get, Contains}
use Rattle.std.proofs.lemmas.Bool.{ltb-true}
use Rattle.std.proofs.lemmas.List.Elements.{Contains-append_left, Contains-append_right, Contains-push}
use Rattle.cnf_base.specs.Literals.{Literal, negated}
use Rattle.cnf_base.specs.declared.clause.ClauseId.{ClauseId}
use Rattle.cnf_base.proofs.Lists.{slice_get-append_left}
use Rattle.smt_terms.specs.declared.node.Node.{Node}
use Rattle.proof_log.specs.declared.entry.Entry.{Entry}
use Rattle.proof_log.specs.declared.diary.DiaryLine.{DiaryLine}
use Rattle.proof_log.specs.declared.diary.DiaryLine.TheVariants.{Take, Put, Drop}
use Rattle.proof_log.specs.Logs.{clause_in, clause_at, entry_at, start, state_of, IsLog}
use Rattle.proof_log.specs.Diaries.{Subject, look_of, is_chain, DiaryState, blank, with_held, count_new, StandsIn, EachIsUsed, IsGoodPut, IsLine, line_after, AreLines, lines_after}
use Rattle.proof_log.proofs.Growth.{entry_within, entry_left, positions, steps_rows}
use Rattle.proof_log.proofs.Lines.{AreWithin, line_within, blank_within}
use Rattle.proof_log.proofs.Staying.{Holds, state_from-append, steps_parts, steps_hold}

-- ---- the log

module _ (log log' more : List Entry) (is : log' ≡ log ++ more) where
  pub log_longer : length log ≤ length log'
  log_longer = omega (arith, ap length is, length-append log more)

  pub entry_longer : (p : ℕ) → p ≤ length log → entry_at log' p ≡ entry_at log p
  entry_longer p le = ap (λ (l : List Entry). entry_at l p) is ∙ entry_left log more p le

module _ (nodes : List Node) (log log' more : List Entry) (is : log' ≡ log ++ more) where
  -- what the log has, the longer one has
  pub longer_holds : IsLog nodes log' → Holds (state_of nodes log) (state_of nodes log')
  longer_holds h =
      let parts = steps_parts nodes start log more (subst (IsLog nodes) is h) in
      let same = ap (state_of nodes) is ∙ state_from-append nodes start log more in
      subst (Holds (state_of nodes log)) (sym same) (steps_hold nodes (state_of nodes log) more parts.1)

  -- the clause of a name at an old position stays, also where there is none
  pub clause_longer : (id : ClauseId) → id.pos ≤ length log → clause_at (state_of nodes log').clauses id ≡ clause_at (state_of nodes log).clauses id
  clause_longer id le =
      let same = ap (λ (l : List Entry). (state_of nodes l).clauses) is ∙ ap (λ s. s.clauses) (state_from-append nodes start log more) in
      let k = steps_rows nodes (state_of nodes log) more in
      let lt : id.pos < length (state_of nodes log).clauses = omega (arith, le, positions nodes log) in
      ap (λ o. clause_in o id.part) (ap (λ rs. slice_get rs id.pos) (same ∙ k.1) ∙ slice_get-append_left (state_of nodes log).clauses k.0 id.pos lt)

-- ---- the diary

-- the same over a log that steps were added to
pub record IsExtended (g g' : Subject) : Type 0 where
  pub nodes : g'.nodes ≡ g.nodes
  pub given : g'.given ≡ g.given
  pub from : g'.from ≡ g.from
  pub more : List Entry
  pub is : g'.log ≡ g.log ++ more

module _ (g g' : Subject) (h : IsExtended g g') where
  look_stays : (i : ClauseId) → i.pos ≤ length g.log → look_of g' i ≡ look_of g i
  look_stays i le = ap (λ n. look_of (record g' { nodes = n }) i) h.nodes ∙ clause_longer g.nodes g.log g'.log h.more h.is i le

  stands_longer : (hints : List ClauseId) (l : Literal) → ((i : ClauseId) → Contains hints i → i.pos ≤ length g.log) → StandsIn (look_of g) hints l → StandsIn (look_of g') hints l
  stands_longer hints l w k = (k.0, k.1, k.2, look_stays k.0 (w k.0 k.2) ∙ k.3, k.4)

  used_longer : (trues : List Literal) (hints : List ClauseId) → ((i : ClauseId) → Contains hints i → i.pos ≤ length g.log) → EachIsUsed (look_of g) trues hints → EachIsUsed (look_of g') trues hints
  used_longer trues [] w u = tt
  used_longer trues (i ∷ []) w u = tt
  used_longer trues (i ∷ j ∷ is) w u =
      let rest = λ (k : ClauseId) (e : Contains (j ∷ is) k). w k (Contains-append_right (i ∷ []) (j ∷ is) k e) in
      (u.0, u.1, look_stays i (w i (Contains-append_left (i ∷ []) (j ∷ is) i (Contains-push [] i))) ∙ u.2, u.3, stands_longer (j ∷ is) (negated u.1) rest u.4, used_longer (trues ++ u.1 ∷ []) (j ∷ is) rest u.5)

  good_longer : (s : DiaryState) → AreWithin g s → (c : List Literal) (hints : List ClauseId) → IsGoodPut g s.held c hints → IsGoodPut g' s.held c hints
  good_longer s w c hints k =
      let within = λ (i : ClauseId) (e : Contains hints i). w i.pos (k.from_held i e) in
      record {
        no_pair = k.no_pair;
        from_held = k.from_held;
        from_hints = λ l e. stands_longer hints l within (k.from_hints l e);
        used = used_longer (map negated c) hints within k.used;
        is_new = λ i d held e. k.is_new i d held (sym (look_stays i (w i.pos held)) ∙ e);
        not_given = λ l e f. k.not_given l e (subst (λ (b : List Literal). Contains b l) h.given f);
      }

  step_longer : (p : ℕ) → p ≤ length g.log → entry_at g'.log p ≡ entry_at g.log p
  step_longer p le = entry_longer g.log g'.log h.more h.is p le

  line_longer : (s : DiaryState) → AreWithin g s → (l : DiaryLine) → IsLine g s l → IsLine g' s l
  line_longer s w (Take p) k = let n = log_longer g.log g'.log h.more h.is in omega (arith, k, n)
  line_longer s w (Put p) k = (k.0, k.1, step_longer p (entry_within g.log p _ k.2) ∙ k.2, good_longer s w k.0 k.1 k.3)
  line_longer s w (Drop p) k = (k.0, ap is_chain (step_longer p (w p k.0)) ∙ k.1, k.2)

  after_longer : (s : DiaryState) (l : DiaryLine) → IsLine g s l → line_after g' s l ≡ line_after g s l
  after_longer s (Take p) k = ap (λ o. record { held = with_held s.held p true; chains = s.chains + count_new (is_chain o) (s.held p); puts = s.puts; drops = 0 }) (step_longer p k)
  after_longer s (Put p) k = refl
  after_longer s (Drop p) k = refl

  pub lines_longer : (s : DiaryState) → AreWithin g s → (ls : List DiaryLine) → AreLines g s ls → AreLines g' s ls × (lines_after g' s ls ≡ lines_after g s ls)
  lines_longer s w [] k = (tt, refl)
  lines_longer s w (l ∷ ls) k =
      let same = after_longer s l k.0 in
      let rest = lines_longer (line_after g s l) (line_within g s l k.0 w) ls k.1 in
      ((line_longer s w l k.0, subst (λ r. AreLines g' r ls) (sym same) rest.0), ap (λ r. lines_after g' r ls) same ∙ rest.1)

  -- the start is the same
  pub blank_longer : g.from ≤ suc (length g.log) → blank g' ≡ blank g
  blank_longer le = λ i. record { held = λ p. same p i; chains = 0; puts = 0; drops = 0 }
    where
      same : (p : ℕ) → (ltb p g'.from && not (is_chain (entry_at g'.log p))) ≡ (ltb p g.from && not (is_chain (entry_at g.log p)))
      same p = ap (λ n. ltb p n && not (is_chain (entry_at g'.log p))) h.from ∙ go (ltb p g.from) refl
        where
          go : (b : Bool) → ltb p g.from ≡ b → (ltb p g.from && not (is_chain (entry_at g'.log p))) ≡ (ltb p g.from && not (is_chain (entry_at g.log p)))
          go true e = let lt = ltb-true p g.from e in ap (λ o. ltb p g.from && not (is_chain o)) (step_longer p (omega (arith, lt, le)))
          go false e = ap (λ b. b && not (is_chain (entry_at g'.log p))) e ∙ sym (ap (λ b. b && not (is_chain (entry_at g.log p))) e)

  -- a diary so far stays one, and leaves the same
  pub diary_longer : g.from ≤ suc (length g.log) → (ls : List DiaryLine) → AreLines g (blank g) ls → AreLines g' (blank g') ls × (lines_after g' (blank g') ls ≡ lines_after g (blank g) ls)
  diary_longer le ls k =
      let same = blank_longer le in
      let all = lines_longer (blank g) (blank_within g le) ls k in
      (subst (λ s. AreLines g' s ls) (sym same) all.0, ap (λ s. lines_after g' s ls) same ∙ all.1)
