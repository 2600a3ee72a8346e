-- What a search needs to look at its models by functions and arrays, and what it may put on its board.
use Rattle.std.specs.Prelude.{◌≡◌, ◌≤◌, ◌<◌, ◌⊎◌, ℕ, true, false, Bool, List, [], ◌∷◌, Option, Some, IsSome, Contains}
use Rattle.std.specs.List.{AllByRecursion}
use Rattle.cnf_base.specs.Literals.{Literal}
use Rattle.cnf_base.specs.declared.clause.ClauseId.{ClauseId}
use Rattle.smt_terms.specs.declared.node.Node.{Node}
use Rattle.smt_terms.specs.Bits.{TermBits, image_in}
use Rattle.smt_terms.specs.Terms.{sort_of}
use Rattle.theory_terms.specs.declared.lemma.Lemma.{Lemma}
use Rattle.theory_terms.specs.declared.atom.Atom.{Atom}
use Rattle.theory_terms.specs.declared.atom.Atom.TheVariants.{Same, Differ, Holds, Fails}
use Rattle.theory_terms.specs.Lemmas.{atoms_of}
use Rattle.term_reach.specs.Reach.{IsReached, IsReach}
use Rattle.proof_log.specs.declared.entry.Entry.{Entry}
use Rattle.proof_log.specs.Logs.{clause_at, entry_at, state_of}
use Rattle.proof_log.specs.Places.{GivesBits}
use Rattle.proof_log.specs.Boards.{AreBitsIn, AreImagesIn}
use Rattle.proof_log.specs.Diaries.{is_chain}
use Rattle.cube_search.specs.Holding.{AreAmong, Occurs, IsLonger, AreOwnHeld}
use Rattle.cube_search.specs.Running.{IsSearch}
use Rattle.cube_search.specs.declared.search.Search.{Search}
use Rattle.access_tables.specs.Leading.{leads}
use Rattle.access_walk.specs.Walked.{IsWalkable, HaveWordValues}
use Rattle.access_walk.specs.Searched.{IsPrepared}
use Rattle.theory_search.specs.declared.theory.Theory.{Theory}

-- ---- before a search

-- what these terms reach in a log: images, arguments of terms without one, and the selects of equalities of arrays at their witness
abbrev pub Reached : List Node → List Entry → List ℕ → ℕ → Type 0
Reached nodes log live = IsReached (leads nodes (state_of nodes log).images) live

-- the bits of a log, over which these terms may be walked
pub record IsWalkableLog (nodes : List Node) (log : List Entry) (live : List ℕ) : Type 0 where
  pub bits : List TermBits
  pub are : AreBitsIn nodes log bits
  pub images : AreImagesIn nodes log bits
  pub walkable : IsWalkable nodes bits live

-- a word that has bits has its number as value, wherever variable 1 is true
abbrev pub AreNumbered : List Node → List TermBits → Type 0
AreNumbered nodes bits = (f : ℕ → Bool) → f 1 ≡ true → HaveWordValues nodes bits f

-- the step that gave the term its bits stands at one of these positions
abbrev pub IsStepHeld : List Entry → List ℕ → ℕ → Type 0
IsStepHeld log positions t = (p : ℕ) × GivesBits log t p × Contains positions p

-- position 0 is among these positions, and so is the step of each term with bits that these terms reach
pub record AreEnough (nodes : List Node) (log : List Entry) (live positions : List ℕ) : Type 0 where
  pub first : Contains positions 0
  pub steps : (t : ℕ) → Reached nodes log live t → IsSome ((state_of nodes log).bits t) → IsStepHeld log positions t

-- ---- variables

-- the variable is one of the bits of these terms
abbrev pub IsOfBits : (ℕ → Option (List Literal)) → List ℕ → ℕ → Type 0
IsOfBits bits terms x = (t : ℕ) × (row : List Literal) × (l : Literal) × Contains terms t × (bits t ≡ Some row) × Contains row l × (l.variable ≡ x)

-- the variables of the bits of these terms are listed behind the others
pub record IsNaming (bits : ℕ → Option (List Literal)) (old new terms : List ℕ) : Type 0 where
  pub longer : IsLonger old new
  pub only : (x : ℕ) → Contains new x → Contains old x ⊎ IsOfBits bits terms x
  pub named : (t : ℕ) (row : List Literal) → Contains terms t → bits t ≡ Some row → AreAmong new row

-- Variable 1 is listed, and so are the variables of the bits of these terms and of the clauses at these positions, and no other.
pub record AreListed (nodes : List Node) (log : List Entry) (variables terms positions : List ℕ) : Type 0 where
  pub one : Contains variables 1
  pub bits : (t : ℕ) (row : List Literal) → Contains terms t → (state_of nodes log).bits t ≡ Some row → AreAmong variables row
  pub clauses : (id : ClauseId) (c : List Literal) → Contains positions id.pos → clause_at (state_of nodes log).clauses id ≡ Some c → AreAmong variables c
  pub only : (x : ℕ) → Contains variables x → (x ≡ 1) ⊎ (IsOfBits (state_of nodes log).bits terms x ⊎ Occurs (state_of nodes log).clauses positions x)

-- ---- beside a search

-- the step that gave the term its bits is held, and the variables of its clauses and of the bits are listed
pub record IsGiven (nodes : List Node) (log : List Entry) (variables opening : List ℕ) (t : ℕ) : Type 0 where
  pub place : ℕ
  pub gives : GivesBits log t place
  pub held : Contains opening place
  pub clauses : (id : ClauseId) (c : List Literal) → id.pos ≡ place → clause_at (state_of nodes log).clauses id ≡ Some c → AreAmong variables c
  pub bits : (row : List Literal) → (state_of nodes log).bits t ≡ Some row → AreAmong variables row

-- What is kept for the walks of a search that holds these opening positions: all that the live terms reach, made ready for walks, and
-- the variables on which its values stand.
pub record IsTheory (nodes : List Node) (log : List Entry) (opening : List ℕ) (t : Theory) : Type 0 where
  pub bits : List TermBits
  pub are : AreBitsIn nodes log bits
  pub images : AreImagesIn nodes log bits
  pub walkable : IsWalkable nodes bits t.live.items
  pub numbered : AreNumbered nodes bits
  pub reach : IsReach (leads nodes (image_in bits)) t.live.items t.reached
  pub prepared : IsPrepared nodes bits t.reached t.prepared
  pub first : Contains opening 0
  pub one : Contains t.variables 1
  pub given : (u : ℕ) → Contains t.reached u → IsSome ((state_of nodes log).bits u) → IsGiven nodes log t.variables opening u

-- a variable is listed, or one of the equalities that came since
abbrev pub AreKnown : List ℕ → ℕ → List Literal → Type 0
AreKnown variables next c = (l : Literal) → Contains c l → Contains variables l.variable ⊎ (next ≤ l.variable)

-- A clause that is not held and no chain's, and stands before the search's own, has a variable that is not listed and that there was
-- before. The clauses that are held have no such variable, and of the search's own steps all are held that are no chains. So a search
-- that takes equalities and lemmas over listed variables needs no other clause.
pub record IsApart (nodes : List Node) (log : List Entry) (variables : List ℕ) (next : ℕ) (opening : List ℕ) (from : ℕ) : Type 0 where
  pub apart : (id : ClauseId) (c : List Literal) → id.pos < from → is_chain (entry_at log id.pos) ≡ false → clause_at (state_of nodes log).clauses id ≡ Some c
      → Contains opening id.pos ⊎ ((l : Literal) × Contains c l × (Contains variables l.variable → ⊥) × (l.variable < next))
  pub known : (id : ClauseId) (c : List Literal) → Contains opening id.pos → clause_at (state_of nodes log).clauses id ≡ Some c → AreKnown variables next c
  pub own : AreOwnHeld log opening from

-- of a search and what is kept for its walks
abbrev pub IsTheoryApart : List Node → List Entry → Theory → Search → Type 0
IsTheoryApart nodes log t s = IsApart nodes log t.variables t.next s.opening.items s.from

-- ---- lemmas

-- the terms that an atom names have bits, and those that it compares have one sort; a truth value has one bit
abbrev pub IsNamed : List Node → (ℕ → Option (List Literal)) → Atom → Type 0
IsNamed nodes bits (Same t u) = IsSome (bits t) × IsSome (bits u) × (sort_of nodes t ≡ sort_of nodes u)
IsNamed nodes bits (Differ t u) = IsSome (bits t) × IsSome (bits u) × (sort_of nodes t ≡ sort_of nodes u)
IsNamed nodes bits (Holds t) = (l : Literal) × (bits t ≡ Some (l ∷ []))
IsNamed nodes bits (Fails t) = (l : Literal) × (bits t ≡ Some (l ∷ []))

-- a lemma that has a clause as soon as its equalities have variables
pub record IsReady (nodes : List Node) (log : List Entry) (lemma : Lemma) : Type 0 where
  pub atoms : List Atom
  pub are : atoms_of nodes lemma ≡ Some atoms
  pub named : AllByRecursion (IsNamed nodes (state_of nodes log).bits) atoms

-- ---- parts of a run

-- A search went on beside a board, with what is kept for its walks: it is a search of the log then, from the same position on, it holds
-- the positions that it held, and further ones behind them, and what was said of their variables stays.
pub record GoesOn (nodes nodes' : List Node) (log log' : List Entry) (t t' : Theory) (s s' : Search) : Type 0 where
  pub search : IsSearch s' nodes' log'
  pub theory : IsTheory nodes' log' s'.opening.items t'
  pub from : s'.from ≡ s.from
  pub longer : IsLonger s.opening.items s'.opening.items
  pub apart : IsTheoryApart nodes log t s → IsTheoryApart nodes' log' t' s'
