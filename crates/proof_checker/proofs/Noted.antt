-- Diaries over logs that are alike: no line names a position that is gone, and none is held.
use Rattle.std.proofs.Common.{◌≡◌, ℕ, zero, suc, ◌<◌, ◌≤◌, Bool, true, false, not, List, [], ◌∷◌, ◌++◌, length, Option, Some, None, refl, sym, ap, ◌∙◌, subst, inl, inr, arith}
use Rattle.std.specs.Prelude.{◌⊎◌, ◌≢◌, ◌+◌, ◌||◌, ◌&&◌, ◌==◌, ltb, if◌then◌else◌, Contains}
use Rattle.std.specs.List.{AllByRecursion}
use Rattle.std.proofs.lemmas.Bool.{cases_eq, eq-eqb, ne_eqb, and_parts}
use Rattle.cnf_base.specs.Literals.{Literal, negated}
use Rattle.cnf_base.specs.declared.clause.ClauseId.{ClauseId}
use Rattle.cnf_base.proofs.Lists.{Contains-first, Contains-later}
use Rattle.hint_chain.specs.Chains.{Lookup}
use Rattle.smt_terms.specs.declared.node.Node.{Node}
use Rattle.proof_log.specs.declared.entry.Entry.{Entry}
use Rattle.proof_log.specs.declared.entry.Entry.TheVariants as entry
use Rattle.proof_log.specs.declared.diary.DiaryLine.{DiaryLine}
use Rattle.proof_log.specs.declared.diary.DiaryLine.TheVariants.{Take, Put, Drop}
use Rattle.proof_log.specs.Logs.{entry_at, clause_at, state_of}
use Rattle.proof_log.specs.Diaries.{Subject, DiaryState, look_of, is_chain, with_held, count_new, StandsIn, EachIsUsed, IsGoodPut, IsLine, line_after, lines_after, AreLines}
use Rattle.proof_text.specs.Deletions.{IsSpentFrom, IsSpentWithout, blank_without, is_deleted, place_of}
use Rattle.proof_checker.specs.Deletions.{AreAlike}
use Rattle.proof_checker.proofs.Alike.{alike_length, clause_alike, kind_alike, entry_alike}

-- each hint is used, as far as the clauses that are named are the same
used_same : (look other : Lookup) (trues : List Literal) (hints : List ClauseId) → ((id : ClauseId) → Contains hints id → other id ≡ look id) → EachIsUsed look trues hints → EachIsUsed other trues hints
used_same look other trues [] same u = tt
used_same look other trues (i ∷ []) same u = tt
used_same look other trues (i ∷ j ∷ is) same u =
    let s = u.4 in
    let behind = λ (id : ClauseId) (c : Contains (j ∷ is) id). same id (Contains-later i id (j ∷ is) c) in
    (u.0, u.1, same i (Contains-first i (j ∷ is)) ∙ u.2, u.3, (s.0, s.1, s.2, behind s.0 s.2 ∙ s.3, s.4), used_same look other (trues ++ u.1 ∷ []) (j ∷ is) behind u.5)

-- no position is held that is gone
abbrev pub HoldsNone : (ℕ → Bool) → (ℕ → Bool) → Type 0
HoldsNone gone held = (p : ℕ) → held p ≡ true → gone p ≡ false

held_now : (gone held : ℕ → Bool) (p : ℕ) (b : Bool) → gone p ≡ false → HoldsNone gone held → HoldsNone gone (with_held held p b)
held_now gone held p b free h q is = by (cases_eq q p)
  where
    by : (q ≡ p) ⊎ (q ≢ p) → gone q ≡ false
    by (inl same) = ap gone same ∙ free
    by (inr ne) = h q (sym (ap (λ t. if t then b else held q) (ne_eqb q p ne)) ∙ is)

module _ (nodes : List Node) (gone : ℕ → Bool) (es fs : List Entry) (alike : AreAlike gone 1 es fs) (given : List Literal) (from : ℕ) where
  abbrev first : Subject
  first = record { nodes = nodes; log = es; given = given; from = from }

  abbrev second : Subject
  second = record { nodes = nodes; log = fs; given = given; from = from }

  pub blank_alike : blank_without gone second ≡ blank_without gone first
  blank_alike = λ i. record { held = λ p. ltb p from && not (gone p || kind_alike nodes gone es fs alike p i); chains = 0; puts = 0; drops = 0 }

  -- what is held at the start is not gone
  pub blank_holds : HoldsNone gone (blank_without gone first).held
  blank_holds p is = left (gone p) (is_chain (entry_at es p)) (and_parts (ltb p from) (not (gone p || is_chain (entry_at es p))) is).1
    where
      left : (g c : Bool) → not (g || c) ≡ true → g ≡ false
      left true c h = let f : ⊥ = cc in absurd f
      left false c h = refl

  after_alike : (s : DiaryState) (l : DiaryLine) → line_after second s l ≡ line_after first s l
  after_alike s (Take p) = λ i. record { held = with_held s.held p true; chains = s.chains + count_new (kind_alike nodes gone es fs alike p i) (s.held p); puts = s.puts; drops = 0 }
  after_alike s (Put p) = refl
  after_alike s (Drop p) = refl

  pub lines_after_alike : (s : DiaryState) (ls : List DiaryLine) → lines_after second s ls ≡ lines_after first s ls
  lines_after_alike s [] = refl
  lines_after_alike s (l ∷ ls) = ap (λ x. lines_after second x ls) (after_alike s l) ∙ lines_after_alike (line_after first s l) ls

  holds_after : (s : DiaryState) (l : DiaryLine) → gone (place_of l) ≡ false → HoldsNone gone s.held → HoldsNone gone (line_after first s l).held
  holds_after s (Take p) free h = held_now gone s.held p true free h
  holds_after s (Put p) free h = held_now gone s.held p true free h
  holds_after s (Drop p) free h = held_now gone s.held p false free h

  pub lines_hold : (s : DiaryState) (ls : List DiaryLine) → AllByRecursion (λ l. gone (place_of l) ≡ false) ls → HoldsNone gone s.held → HoldsNone gone (lines_after first s ls).held
  lines_hold s [] left h = h
  lines_hold s (l ∷ ls) left h = lines_hold (line_after first s l) ls left.1 (holds_after s l left.0 h)

  look_alike : (id : ClauseId) → gone id.pos ≡ false → look_of second id ≡ look_of first id
  look_alike id free = clause_alike nodes gone es fs alike id free

  good_alike : (held : ℕ → Bool) (c : List Literal) (hints : List ClauseId) → HoldsNone gone held → IsGoodPut first held c hints → IsGoodPut second held c hints
  good_alike held c hints h g = record {
    no_pair = g.no_pair;
    from_held = g.from_held;
    from_hints = λ l m. let s = g.from_hints l m in (s.0, s.1, s.2, named s.0 s.2 ∙ s.3, s.4);
    used = used_same (look_of first) (look_of second) _ hints named g.used;
    is_new = λ id d is_held is. g.is_new id d is_held (sym (look_alike id (h id.pos is_held)) ∙ is);
    not_given = g.not_given;
  }
    where
      named : (id : ClauseId) → Contains hints id → look_of second id ≡ look_of first id
      named id m = look_alike id (h id.pos (g.from_held id m))

  pub line_alike : (s : DiaryState) (l : DiaryLine) → gone (place_of l) ≡ false → HoldsNone gone s.held → IsLine first s l → IsLine second s l
  line_alike s (Take p) free h i = subst (λ n. p ≤ n) (sym (alike_length gone 1 es fs alike)) i
  line_alike s (Put p) free h i = (i.0, i.1, entry_alike nodes gone es fs alike p free ∙ i.2, good_alike s.held i.0 i.1 h i.3)
  line_alike s (Drop p) free h i = (i.0, kind_alike nodes gone es fs alike p ∙ i.1, i.2)

  lines_alike : (s : DiaryState) (ls : List DiaryLine) → AllByRecursion (λ l. gone (place_of l) ≡ false) ls → HoldsNone gone s.held → AreLines first s ls → AreLines second s ls
  lines_alike s [] left h a = tt
  lines_alike s (l ∷ ls) left h a = (
    line_alike s l left.0 h a.0,
    subst (λ (x : DiaryState). AreLines second x ls) (sym (after_alike s l)) (lines_alike (line_after first s l) ls left.1 (holds_after s l left.0 h) a.1),
  )

  pub spent_alike : (deleted : List ℕ) → gone ≡ is_deleted deleted → (budget : ℕ) (ls : List DiaryLine) → IsSpentWithout deleted first budget ls → IsSpentWithout deleted second budget ls
  spent_alike deleted is budget ls h =
      let left = subst (λ (g : ℕ → Bool). AllByRecursion (λ l. g (place_of l) ≡ false) ls) (sym is) h.left in
      let was : IsSpentFrom (blank_without gone first) first budget ls = subst (λ (g : ℕ → Bool). IsSpentFrom (blank_without g first) first budget ls) (sym is) h.spent in
      let now : IsSpentFrom (blank_without gone first) second budget ls = record {
        stand = lines_alike (blank_without gone first) ls left blank_holds was.stand;
        puts = ap (λ (x : DiaryState). x.puts) (lines_after_alike (blank_without gone first) ls) ∙ was.puts;
        last = was.last;
      } in
      record {
        spent = subst (λ (g : ℕ → Bool). IsSpentFrom (blank_without g second) second budget ls) is (subst (λ (x : DiaryState). IsSpentFrom x second budget ls) (sym blank_alike) now);
        left = h.left;
      }

  -- a line that may stand behind these, of which none names a position that is gone
  pub stands_alike : (ls : List DiaryLine) (l : DiaryLine) → AllByRecursion (λ x. gone (place_of x) ≡ false) ls → gone (place_of l) ≡ false →
      IsLine first (lines_after first (blank_without gone first) ls) l → IsLine second (lines_after second (blank_without gone second) ls) l
  stands_alike ls l left free i =
      subst (λ (x : DiaryState). IsLine second x l) (sym (ap (λ (x : DiaryState). lines_after second x ls) blank_alike ∙ lines_after_alike (blank_without gone first) ls))
      (line_alike (lines_after first (blank_without gone first) ls) l free (lines_hold (blank_without gone first) ls left blank_holds) i)
