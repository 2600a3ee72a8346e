-- What contracts see of a history and of a pass.
use Rattle.std.specs.Prelude.{◌≡◌, ℕ, List, [], Option, Some}
use Rattle.atomic_table.specs.Seated.{TableId}

-- which history it is, and its law
pub record Story (K : Type 0) : Type 0 where
  pub table : TableId
  pub law : K

-- what a pass knows: the history and its law, its number, up to which place reads have given it entries, of the first pass how many were made, what it has seen, its own events, and the number and the events of each pass that was merged into it
pub record Known (K E : Type 0) : Type 0 where
  pub table : TableId
  pub law : Option K
  pub number : ℕ
  pub got : ℕ
  pub made : ℕ
  pub seen : List E
  pub mine : List E
  pub ended : List (ℕ × List E)

module _ {K E : Type 0} where
  -- it is a pass of this history
  abbrev pub IsPassOf : Story K → Known K E → Type 0
  IsPassOf hist p = (p.table ≡ hist.table) × (p.law ≡ Some hist.law)

  -- what stays in a turn
  abbrev pub IsSamePass : Known K E → Known K E → Type 0
  IsSamePass p q = (q.table ≡ p.table) × (q.law ≡ p.law) × (q.number ≡ p.number) × (q.made ≡ p.made) × (q.ended ≡ p.ended)

  abbrev pub first_pass : Story K → Known K E
  first_pass hist = record { table = hist.table; law = Some hist.law; number = 0; got = 0; made = 1; seen = []; mine = []; ended = [] }
