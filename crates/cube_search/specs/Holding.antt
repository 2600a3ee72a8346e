-- Which clauses of a log a search keeps, and which of them it holds.
use Rattle.std.specs.Prelude.{◌≡◌, ◌≢◌, ◌≤◌, ◌<◌, ◌⊎◌, ◌++◌, ◌∷◌, [], ℕ, suc, true, false, List, length, take, slice_index_or, Some, None, Contains}
use Rattle.cnf_base.specs.Literals.{Literal}
use Rattle.cnf_base.specs.declared.clause.ClauseId.{ClauseId}
use Rattle.hint_chain.specs.Chains.{Lookup}
use Rattle.proof_log.specs.declared.entry.Entry.{Entry}
use Rattle.proof_log.specs.Logs.{clause_at, entry_at}
use Rattle.proof_log.specs.Diaries.{is_chain}
use Rattle.cdcl_core.specs.declared.watches.Watches.{Watches}
use Rattle.cdcl_core.specs.Search.{clause_of, held_of}
use Rattle.cdcl_loop.specs.Engines.{IsSameBut}

-- every variable of the clause is one of these
abbrev pub AreAmong : List ℕ → List Literal → Type 0
AreAmong variables c = (l : Literal) → Contains c l → Contains variables l.variable

-- a variable of the clause is none of these
abbrev pub IsForeign : List ℕ → List Literal → Type 0
IsForeign variables c = (l : Literal) × Contains c l × (Contains variables l.variable → ⊥)

-- the list is the same, or more came behind it
abbrev pub IsLonger : List ℕ → List ℕ → Type 0
IsLonger old new = (more : List ℕ) × (new ≡ old ++ more)

-- the variables of the clause are listed behind the others
pub record IsListing (old : List ℕ) (c : List Literal) (new : List ℕ) : Type 0 where
  pub longer : IsLonger old new
  pub only : (x : ℕ) → Contains new x → Contains old x ⊎ ((l : Literal) × Contains c l × (l.variable ≡ x))
  pub among : AreAmong new c

-- some chains are kept no longer, the rest is as it was
pub record IsThinned (log : List Entry) (old new : Watches) : Type 0 where
  pub kept : (id : ClauseId) (c : List Literal) → clause_of new id ≡ Some c → clause_of old id ≡ Some c
  pub held : (id : ClauseId) (c : List Literal) → held_of new id ≡ Some c → held_of old id ≡ Some c
  pub plain : (id : ClauseId) → is_chain (entry_at log id.pos) ≡ false → held_of new id ≡ held_of old id

-- the same is kept, and of what was held some no longer
pub record IsParking (old new : Watches) : Type 0 where
  pub kept : (id : ClauseId) → clause_of new id ≡ clause_of old id
  pub held : (id : ClauseId) (c : List Literal) → held_of new id ≡ Some c → held_of old id ≡ Some c

-- a part of the position that is kept comes behind no other that is not
abbrev pub IsGapless : Lookup → ℕ → Type 0
IsGapless look pos = (j k : ℕ) (c : List Literal) → look (record { pos = pos; part = j }) ≡ None → j ≤ k → look (record { pos = pos; part = k }) ≡ Some c → ⊥

-- the variable stands in a clause of one of these positions
abbrev pub Occurs : List (List (List Literal)) → List ℕ → ℕ → Type 0
Occurs rows positions x = (id : ClauseId) × (c : List Literal) × (l : Literal) × Contains positions id.pos × (clause_at rows id ≡ Some c) × Contains c l × (l.variable ≡ x)

-- A search that holds these positions needs no other before its own: each clause of another that is no chain's has a variable
-- that stands in no clause of these.
abbrev pub AreSeparate : List (List (List Literal)) → List Entry → List ℕ → ℕ → Type 0
AreSeparate rows log positions from =
    (id : ClauseId) (c : List Literal) → id.pos < from → is_chain (entry_at log id.pos) ≡ false → clause_at rows id ≡ Some c →
    Contains positions id.pos ⊎ ((l : Literal) × Contains c l × (Occurs rows positions l.variable → ⊥))

-- each step from this position on that is no chain's is one of these positions
abbrev pub AreOwnHeld : List Entry → List ℕ → ℕ → Type 0
AreOwnHeld log positions from = (p : ℕ) → from ≤ p → p ≤ length log → is_chain (entry_at log p) ≡ false → Contains positions p

-- A search that holds these positions needs no other but chains: none before its own, and of its own it holds all that are no chains'.
abbrev pub NeedNoOther : List (List (List Literal)) → List Entry → List ℕ → ℕ → Type 0
NeedNoOther rows log positions from = AreSeparate rows log positions from × AreOwnHeld log positions from

-- What is kept are clauses of the log. Those that are held are of the opening positions and of some that were taken, and have only
-- these variables; of the opening positions every clause is held, and each of the variables stands in one; and of what was taken,
-- a clause that is kept and not held has another variable.
pub record IsHolding (w : Watches) (rows : List (List (List Literal))) (variables opening taken : List ℕ) : Type 0 where
  pub sound : (id : ClauseId) (c : List Literal) → clause_of w id ≡ Some c → clause_at rows id ≡ Some c
  pub among : (id : ClauseId) (c : List Literal) → held_of w id ≡ Some c → AreAmong variables c
  pub covered : (id : ClauseId) (c : List Literal) → held_of w id ≡ Some c → Contains opening id.pos ⊎ Contains taken id.pos
  pub complete : (id : ClauseId) (c : List Literal) → Contains opening id.pos → clause_at rows id ≡ Some c → held_of w id ≡ Some c
  pub waiting : (id : ClauseId) (c : List Literal) → Contains taken id.pos → clause_of w id ≡ Some c → (held_of w id ≡ Some c) ⊎ IsForeign variables c
  pub occurs : (x : ℕ) → Contains variables x → Occurs rows opening x

-- how many variables were listed before the position at this place: all of them, where it is past the last
abbrev pub listed_before : List ℕ → List ℕ → ℕ → ℕ
listed_before variables ends k = slice_index_or ends k (length variables)

-- Before each opening position, and after the last, the variables that are listed are those of the clauses at the positions so far.
pub record IsTold (rows : List (List (List Literal))) (variables opening ends : List ℕ) : Type 0 where
  pub size : length ends ≡ length opening
  pub rising : (j k : ℕ) → j ≤ k → listed_before variables ends j ≤ listed_before variables ends k
  pub among : (k : ℕ) (id : ClauseId) (c : List Literal) → Contains (take k opening) id.pos → clause_at rows id ≡ Some c → AreAmong (take (listed_before variables ends k) variables) c
  pub occurs : (k x : ℕ) → Contains (take (listed_before variables ends k) variables) x → Occurs rows (take k opening) x

-- The clauses of one position more are held, those of its parts that are done, and their variables are listed behind the others.
pub record IsBringing (done : ℕ → Type 0) (old new : Watches) (rows : List (List (List Literal))) (variables variables' : List ℕ) (pos : ℕ) : Type 0 where
  pub longer : IsLonger variables variables'
  pub only : (x : ℕ) → Contains variables' x → Contains variables x ⊎ Occurs rows (pos ∷ []) x
  pub kept : (id : ClauseId) → id.pos ≢ pos → clause_of new id ≡ clause_of old id
  pub others : (id : ClauseId) → id.pos ≢ pos → held_of new id ≡ held_of old id
  pub sound : (id : ClauseId) (c : List Literal) → clause_of new id ≡ Some c → clause_at rows id ≡ Some c
  pub held : (id : ClauseId) (c : List Literal) → id.pos ≡ pos → done id.part → clause_at rows id ≡ Some c → held_of new id ≡ Some c
  pub among : (id : ClauseId) (c : List Literal) → id.pos ≡ pos → done id.part → clause_at rows id ≡ Some c → AreAmong variables' c

-- all its parts are
abbrev pub IsBrought : Watches → Watches → List (List (List Literal)) → List ℕ → List ℕ → ℕ → Type 0
IsBrought = IsBringing (λ part. Unit {0})

-- Of the positions that a check needs, those so far are opening: every clause of these is held. What is held besides is of the others,
-- or was taken.
pub record IsFilling (w : Watches) (rows : List (List (List Literal))) (variables opening ends needed taken : List ℕ) : Type 0 where
  pub sound : (id : ClauseId) (c : List Literal) → clause_of w id ≡ Some c → clause_at rows id ≡ Some c
  pub covered : (id : ClauseId) (c : List Literal) → held_of w id ≡ Some c → Contains needed id.pos ⊎ Contains taken id.pos
  pub complete : (id : ClauseId) (c : List Literal) → Contains opening id.pos → clause_at rows id ≡ Some c → held_of w id ≡ Some c
  pub told : IsTold rows variables opening ends

-- what is kept is a step's that is no chain, or was taken
abbrev pub AreStored : Lookup → List Entry → List ℕ → Type 0
AreStored look log taken = (id : ClauseId) (c : List Literal) → look id ≡ Some c → (is_chain (entry_at log id.pos) ≡ false) ⊎ Contains taken id.pos

-- a step whose clauses are kept stands below this position, where it is no chain
abbrev pub AreStoredBelow : Lookup → List Entry → ℕ → Type 0
AreStoredBelow look log from = (id : ClauseId) (c : List Literal) → look id ≡ Some c → is_chain (entry_at log id.pos) ≡ false → id.pos < from

-- it stands below this position or is one of these, where it is no chain
abbrev pub AreStoredAt : Lookup → List Entry → List ℕ → ℕ → Type 0
AreStoredAt look log positions from = (id : ClauseId) (c : List Literal) → look id ≡ Some c → is_chain (entry_at log id.pos) ≡ false → (id.pos < from) ⊎ Contains positions id.pos

-- The opening positions are of the log and no chains', and those that were taken are chains'; what is kept was taken, or is no chain's,
-- and is of an opening position or before the search's own. Of its own it has seen those below `seen`.
pub record ArePlaced (look : Lookup) (log : List Entry) (opening taken : List ℕ) (from seen : ℕ) : Type 0 where
  pub before : (p : ℕ) → Contains opening p → p < suc (length log)
  pub plain : (p : ℕ) → Contains opening p → is_chain (entry_at log p) ≡ false
  pub chains : (p : ℕ) → Contains taken p → is_chain (entry_at log p) ≡ true
  pub stored : AreStored look log taken
  pub below : AreStoredAt look log opening from
  pub from_seen : from ≤ seen
  pub within : seen ≤ suc (length log)

-- of these positions, those are left whose clause is kept
pub record AreLeft (look : Lookup) (positions left : List ℕ) : Type 0 where
  pub among : (p : ℕ) → Contains left p → Contains positions p
  pub all : (p : ℕ) (c : List Literal) → Contains positions p → look (record { pos = p; part = 0 }) ≡ Some c → Contains left p

-- The clause of a chain at this position came, beside the others: it is held where all its variables are among these, and kept alone
-- where another is.
pub record IsAdmitted (old new : Watches) (variables : List ℕ) (at : ℕ) (clause : List Literal) : Type 0 where
  pub others : IsSameBut (record { pos = at; part = 0 }) old new
  pub kept : clause_of new (record { pos = at; part = 0 }) ≡ Some clause
  pub came : ((held_of new (record { pos = at; part = 0 }) ≡ Some clause) × AreAmong variables clause)
      ⊎ ((held_of new (record { pos = at; part = 0 }) ≡ None) × IsForeign variables clause)

-- The chain at this position, where it is kept, is held where all its variables are among these, and not held else.
abbrev pub IsSorted : Watches → Watches → List ℕ → ℕ → Type 0
IsSorted old new variables at = (c : List Literal) → clause_of old (record { pos = at; part = 0 }) ≡ Some c →
    ((held_of new (record { pos = at; part = 0 }) ≡ Some c) × AreAmong variables c) ⊎ ((held_of new (record { pos = at; part = 0 }) ≡ None) × IsForeign variables c)
