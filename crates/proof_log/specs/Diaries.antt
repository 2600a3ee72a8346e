-- Diaries: what a search held and put, line by line, and when it has spent its budget.
use Rattle.std.specs.Prelude.{◌≡◌, ◌==◌, ◌<◌, ◌≤◌, ◌+◌, ◌-◌, ◌/◌, ◌%◌, ◌&&◌, ℕ, suc, ltb, Bool, true, false, not, if◌then◌else◌, List, [], ◌∷◌, ◌++◌, length, map, Option, Some, Contains}
use Rattle.cnf_base.specs.Literals.{Literal, negated}
use Rattle.cnf_base.specs.declared.clause.ClauseId.{ClauseId}
use Rattle.hint_chain.specs.Chains.{Lookup, HasPair, IsUnit}
use Rattle.smt_terms.specs.declared.node.Node.{Node}
use Rattle.proof_log.specs.declared.entry.Entry.{Entry}
use Rattle.proof_log.specs.declared.entry.Entry.TheVariants as step
use Rattle.proof_log.specs.declared.diary.DiaryLine.{DiaryLine}
use Rattle.proof_log.specs.declared.diary.DiaryLine.TheVariants.{Take, Put, Drop}
use Rattle.proof_log.specs.Logs.{clause_at, entry_at, state_of}

-- What a diary is about: a log over its terms; the literals that a search takes as true, which are those of its cube, the
-- selectors of the live assertions and the bits of the assumptions; and the position at which it starts.
pub record Subject : Type 0 where
  pub nodes : List Node
  pub log : List Entry
  pub given : List Literal
  pub from : ℕ

abbrev pub look_of : Subject → Lookup
look_of g = clause_at (state_of g.nodes g.log).clauses

abbrev pub is_chain : Option Entry → Bool
is_chain (Some (step.Chain c hints)) = true
is_chain _ = false

-- ---- what is held

-- Which positions are held, with all their clauses; how many of them are chains'; how many chains were put; and how many may be
-- dropped before a line of another kind.
pub record DiaryState : Type 0 where
  pub held : ℕ → Bool
  pub chains : ℕ
  pub puts : ℕ
  pub drops : ℕ

-- at the start all positions are held before the diary's own that are no chain's
abbrev pub blank : Subject → DiaryState
blank g = record { held = λ p. ltb p g.from && not (is_chain (entry_at g.log p)); chains = 0; puts = 0; drops = 0 }

abbrev pub with_held : (ℕ → Bool) → ℕ → Bool → ℕ → Bool
with_held held p b q = if q == p then b else held q

-- one more chain is held, where the position is a chain's and was not held
abbrev pub count_new : Bool → Bool → ℕ
count_new true false = 1
count_new true true = 0
count_new false b = 0

-- ---- what may be put

-- a hint has the literal
abbrev pub StandsIn : Lookup → List ClauseId → Literal → Type 0
StandsIn look hints l = (id : ClauseId) × (h : List Literal) × Contains hints id × (look id ≡ Some h) × Contains h l

-- from these true literals, the literal that a hint before the last adds stands negated in a later hint
abbrev pub EachIsUsed : Lookup → List Literal → List ClauseId → Type 0
EachIsUsed look trues [] = Unit {0}
EachIsUsed look trues (i ∷ []) = Unit {0}
EachIsUsed look trues (i ∷ j ∷ is) =
    (h : List Literal) × (l : Literal) × (look i ≡ Some h) × IsUnit trues h l × StandsIn look (j ∷ is) (negated l) × EachIsUsed look (trues ++ l ∷ []) (j ∷ is)

-- A put is good that no search could do without: it has no literal beside its opposite; its hints are held, each of its literals
-- stands in one, and each of them is used; no held clause says as much; and the given literals do not make it true.
pub record IsGoodPut (g : Subject) (held : ℕ → Bool) (clause : List Literal) (hints : List ClauseId) : Type 0 where
  pub no_pair : HasPair clause → ⊥
  pub from_held : (id : ClauseId) → Contains hints id → held id.pos ≡ true
  pub from_hints : (l : Literal) → Contains clause l → StandsIn (look_of g) hints l
  pub used : EachIsUsed (look_of g) (map negated clause) hints
  pub is_new : (id : ClauseId) (c : List Literal) → held id.pos ≡ true → look_of g id ≡ Some c → ((l : Literal) → Contains c l → Contains clause l) → ⊥
  pub not_given : (l : Literal) → Contains clause l → Contains g.given l → ⊥

-- ---- lines

-- the line may stand here
abbrev pub IsLine : Subject → DiaryState → DiaryLine → Type 0
IsLine g s (Take p) = p ≤ length g.log
IsLine g s (Put p) = (c : List Literal) × (hints : List ClauseId) × (entry_at g.log p ≡ Some (step.Chain c hints)) × IsGoodPut g s.held c hints
IsLine g s (Drop p) = (s.held p ≡ true) × (is_chain (entry_at g.log p) ≡ true) × (0 < s.drops)

-- how many chains may be dropped after so many puts, where so many are held: at each multiple of 2000, half of them
abbrev pub allowed : ℕ → ℕ → ℕ
allowed puts chains = if puts % 2000 == 0 then chains / 2 else 0

-- what is held after the line
abbrev pub line_after : Subject → DiaryState → DiaryLine → DiaryState
line_after g s (Take p) = record { held = with_held s.held p true; chains = s.chains + count_new (is_chain (entry_at g.log p)) (s.held p); puts = s.puts; drops = 0 }
line_after g s (Put p) = record { held = with_held s.held p true; chains = suc s.chains; puts = suc s.puts; drops = allowed (suc s.puts) (suc s.chains) }
line_after g s (Drop p) = record { held = with_held s.held p false; chains = s.chains - 1; puts = s.puts; drops = s.drops - 1 }

abbrev pub AreLines : Subject → DiaryState → List DiaryLine → Type 0
AreLines g s [] = Unit {0}
AreLines g s (l ∷ ls) = IsLine g s l × AreLines g (line_after g s l) ls

abbrev pub lines_after : Subject → DiaryState → List DiaryLine → DiaryState
lines_after g s [] = s
lines_after g s (l ∷ ls) = lines_after g (line_after g s l) ls

-- the last line is a put
abbrev pub EndsInPut : List DiaryLine → Type 0
EndsInPut [] = ⊥
EndsInPut (Take p ∷ []) = ⊥
EndsInPut (Put p ∷ []) = Unit {0}
EndsInPut (Drop p ∷ []) = ⊥
EndsInPut (l ∷ m ∷ ls) = EndsInPut (m ∷ ls)

-- The lines are a diary, and it has spent the budget: one more chain was put than the budget allows, and nothing came after.
pub record IsSpent (g : Subject) (budget : ℕ) (lines : List DiaryLine) : Type 0 where
  pub stand : AreLines g (blank g) lines
  pub puts : (lines_after g (blank g) lines).puts ≡ suc budget
  pub last : EndsInPut lines
