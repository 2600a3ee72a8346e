-- A diary that is kept while a search goes on.
use Rattle.std.specs.Prelude.{◌≡◌, ◌≤◌, ◌<◌, ◌⊎◌, ◌++◌, ◌∷◌, [], ℕ, Bool, true, false, List, Option, Some, Contains}
use Rattle.cnf_base.specs.Literals.{Literal}
use Rattle.cnf_base.specs.declared.clause.ClauseId.{ClauseId}
use Rattle.hint_chain.specs.Chains.{Lookup}
use Rattle.smt_terms.specs.declared.node.Node.{Node}
use Rattle.proof_log.specs.declared.entry.Entry.{Entry}
use Rattle.proof_log.specs.declared.entry.Entry.TheVariants as step
use Rattle.proof_log.specs.declared.diary.DiaryLine.{DiaryLine}
use Rattle.proof_log.specs.declared.diary.DiaryLine.TheVariants.{Take, Put}
use Rattle.proof_log.specs.Logs.{entry_at, state_of}
use Rattle.proof_log.specs.Diaries.{Subject, look_of, is_chain, DiaryState, blank, AreLines, lines_after}
use Rattle.cube_search.specs.declared.keeper.Keeper.{Keeper}
use Rattle.cdcl_core.specs.declared.watches.Watches.{Watches}
use Rattle.cdcl_core.specs.Search.{clause_of, held_of}
use Rattle.cube_search.specs.Holding.{IsForeign, IsHolding, ArePlaced}

-- the position was taken or put
abbrev pub HasLine : List DiaryLine → ℕ → Type 0
HasLine lines p = Contains lines (Take p) ⊎ Contains lines (Put p)

-- each equality that stands from this position on and before a put was taken in a line before that put
abbrev pub AreEqualitiesFirst : List Entry → ℕ → List DiaryLine → Type 0
AreEqualitiesFirst log from lines =
    (before behind : List DiaryLine) (p q t u : ℕ) → lines ≡ before ++ Put p ∷ behind → from ≤ q → q < p → entry_at log q ≡ Some (step.Equal t u) → Contains before (Take q)

-- the puts are from this position on, and the equalities that stand from there on come first
pub record IsInOrder (log : List Entry) (start : ℕ) (lines : List DiaryLine) : Type 0 where
  pub later : (p : ℕ) → Contains lines (Put p) → start ≤ p
  pub first : AreEqualitiesFirst log start lines

-- the state after the lines so far
abbrev pub state_in : Subject → Keeper → DiaryState
state_in g k = lines_after g (blank g) k.lines.items

-- the clause of each chain that is held by the lines is kept
abbrev pub AreChainsKept : Subject → Lookup → Keeper → Type 0
AreChainsKept g look k = (p : ℕ) → (state_in g k).held p ≡ true → is_chain (entry_at g.log p) ≡ true → (c : List Literal) × (look (record { pos = p; part = 0 }) ≡ Some c)

-- The lines stand; the numbers are theirs, or less; what the search keeps is held by them, and what is held by them is what the search
-- holds, and clauses with a variable that it does not have, of which it keeps the chains'; from the start on each chain that was seen has
-- a line; and the search's own equalities were taken before what is put behind them.
pub record IsKept (g : Subject) (w : Watches) (variables : List ℕ) (k : Keeper) (seen : ℕ) : Type 0 where
  pub stand : AreLines g (blank g) k.lines.items
  pub puts : (state_in g k).puts ≡ k.puts
  pub chains : k.chains ≤ (state_in g k).chains
  pub drops : k.left ≤ (state_in g k).drops
  pub held : (id : ClauseId) (c : List Literal) → clause_of w id ≡ Some c → (state_in g k).held id.pos ≡ true
  pub complete : (id : ClauseId) (c : List Literal) → (state_in g k).held id.pos ≡ true → look_of g id ≡ Some c → (held_of w id ≡ Some c) ⊎ IsForeign variables c
  pub stored : AreChainsKept g (clause_of w) k
  pub lined : (p : ℕ) → k.start ≤ p → p < seen → is_chain (entry_at g.log p) ≡ true → HasLine k.lines.items p
  pub start : g.from ≤ k.start
  pub begun : k.start ≤ seen
  pub later : (p : ℕ) → Contains k.lines.items (Put p) → k.start ≤ p
  pub first : AreEqualitiesFirst g.log g.from k.lines.items

-- from the start on each chain that is known has a line
abbrev pub AreImported : List DiaryLine → List Entry → (ℕ → Type 0) → ℕ → Type 0
AreImported lines log knows start = (p : ℕ) → start ≤ p → knows p → is_chain (entry_at log p) ≡ true → HasLine lines p

-- The lines that a run begins with take what is kept already: nothing is put, and what is held by them is what was held without a line, or
-- each of its clauses is held by the search or has a variable that it does not have.
pub record IsNoting (g : Subject) (w : Watches) (variables : List ℕ) (k : Keeper) : Type 0 where
  pub stand : AreLines g (blank g) k.lines.items
  pub no_puts : (state_in g k).puts ≡ 0
  pub puts : k.puts ≡ 0
  pub chains : k.chains ≡ 0
  pub left : k.left ≡ 0
  pub grown : (p : ℕ) → (blank g).held p ≡ true → (state_in g k).held p ≡ true
  pub only : (p : ℕ) → (state_in g k).held p ≡ true → ((blank g).held p ≡ true) ⊎ ((id : ClauseId) (c : List Literal) → id.pos ≡ p → look_of g id ≡ Some c → (held_of w id ≡ Some c) ⊎ IsForeign variables c)
  pub takes : (p : ℕ) → Contains k.lines.items (Put p) → ⊥
  pub stored : AreChainsKept g (clause_of w) k

-- one position more is taken
pub record IsTaken (old new : Keeper) (at : ℕ) : Type 0 where
  pub lines : new.lines.items ≡ old.lines.items ++ Take at ∷ []
  pub start : new.start ≡ old.start
  pub puts : new.puts ≡ old.puts
  pub chains : new.chains ≡ old.chains
  pub left : new.left ≡ 0

-- more of what is kept is noted
pub record IsNotedAll (g : Subject) (w : Watches) (variables : List ℕ) (old new : Keeper) : Type 0 where
  pub noting : IsNoting g w variables new
  pub kept : (p : ℕ) → (state_in g old).held p ≡ true → (state_in g new).held p ≡ true
  pub start : new.start ≡ old.start

-- these of the positions that were taken are noted, where they are kept
abbrev pub NotesTaken : Watches → List ℕ → List ℕ → Keeper → Keeper → Type 0
NotesTaken w taken done old new =
    (nodes : List Node) (log : List Entry) (given : List Literal) (from : ℕ) (variables opening : List ℕ) (seen : ℕ) →
    IsHolding w (state_of nodes log).clauses variables opening taken → ArePlaced (clause_of w) log opening taken from seen →
    IsNoting (record { nodes = nodes; log = log; given = given; from = from }) w variables old →
    IsNotedAll (record { nodes = nodes; log = log; given = given; from = from }) w variables old new
    × ((id : ClauseId) (c : List Literal) → Contains done id.pos → clause_of w id ≡ Some c → (state_in (record { nodes = nodes; log = log; given = given; from = from }) new).held id.pos ≡ true)

-- those of these positions that are not below the start of the search's own are noted
abbrev pub NotesAdded : Watches → List ℕ → Keeper → Keeper → ℕ → Type 0
NotesAdded w done old new from =
    (nodes : List Node) (log : List Entry) (given : List Literal) (variables opening taken : List ℕ) (seen : ℕ) →
    ((p : ℕ) → Contains done p → Contains opening p) →
    IsHolding w (state_of nodes log).clauses variables opening taken → ArePlaced (clause_of w) log opening taken from seen →
    IsNoting (record { nodes = nodes; log = log; given = given; from = from }) w variables old →
    IsNotedAll (record { nodes = nodes; log = log; given = given; from = from }) w variables old new
    × ((p : ℕ) → Contains done p → from ≤ p → (state_in (record { nodes = nodes; log = log; given = given; from = from }) new).held p ≡ true)

-- ---- equalities and lemmas

-- a step that gives an equality a variable, or adds the clause of a lemma
abbrev pub is_theory : Option Entry → Bool
is_theory (Some (step.Equal t u)) = true
is_theory (Some (step.Lemma l)) = true
is_theory _ = false

-- The lines of further positions, which are no chains', came behind the others: each of these positions is held by them, and no other is
-- held besides.
pub record IsNotedMore (g : Subject) (old new : Keeper) (positions positions' : List ℕ) : Type 0 where
  pub stand : AreLines g (blank g) old.lines.items → AreLines g (blank g) new.lines.items
  pub counts : ((state_in g new).puts ≡ (state_in g old).puts) × ((state_in g new).chains ≡ (state_in g old).chains)
  pub start : new.start ≡ old.start
  pub puts : new.puts ≡ old.puts
  pub chains : new.chains ≡ old.chains
  pub drops : old.left ≤ (state_in g old).drops → new.left ≤ (state_in g new).drops
  pub grown : (p : ℕ) → (state_in g old).held p ≡ true → (state_in g new).held p ≡ true
  pub only : (p : ℕ) → (state_in g new).held p ≡ true → ((state_in g old).held p ≡ true) ⊎ (Contains positions' p × (is_chain (entry_at g.log p) ≡ false))
  pub noted : (p : ℕ) → Contains positions' p → Contains positions p ⊎ ((state_in g new).held p ≡ true)
  pub lined : (p : ℕ) → Contains positions' p → Contains positions p ⊎ HasLine new.lines.items p
  pub lines : (p : ℕ) → HasLine old.lines.items p → HasLine new.lines.items p
  pub later : (p : ℕ) → Contains new.lines.items (Put p) → Contains old.lines.items (Put p)
  pub first : AreEqualitiesFirst g.log g.from old.lines.items → AreEqualitiesFirst g.log g.from new.lines.items
