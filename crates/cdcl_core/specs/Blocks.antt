-- The tables behind the slots of names: a row, of which each position has a block.
use Rattle.std.specs.Prelude.{ℕ, ◌≡◌, ◌+◌, ◌-◌, ◌<◌, ◌≤◌, ◌⊎◌, ◌++◌, List, [], length, map, take, drop, replicate, slice_set, slice_index_or}
use Rattle.cnf_base.specs.declared.clause.ClauseId.{ClauseId}
use Rattle.cdcl_core.specs.declared.slot_table.Block.{Block}

abbrev pub no_block : Block
no_block = record { first = 0; room = 0 }

abbrev pub block_at : List Block → ℕ → Block
block_at bs p = slice_index_or bs p no_block

-- what stands in a block
abbrev pub block_of : List ℕ → Block → List ℕ
block_of row b = take b.room (drop b.first row)

abbrev pub blocks_of : List Block → List ℕ → List (List ℕ)
blocks_of bs row = map (block_of row) bs

-- the name's place in the row
abbrev pub HasPlace : List Block → ClauseId → ℕ → Type 0
HasPlace bs id i = (id.part < (block_at bs id.pos).room) × (i ≡ (block_at bs id.pos).first + id.part)

-- the blocks stand in the row, and no place is of two names
pub record AreBlocks (bs : List Block) (row : List ℕ) : Type 0 where
  pub within : (p : ℕ) → (block_at bs p).first + (block_at bs p).room ≤ length row
  pub apart : (a b : ClauseId) (i : ℕ) → HasPlace bs a i → HasPlace bs b i → a ≡ b

-- the block ends the row: it did, or it was copied there
pub record IsLast (row : List ℕ) (start stop : ℕ) (row2 : List ℕ) (first : ℕ) : Type 0 where
  pub more : List ℕ
  pub longer : row2 ≡ row ++ more
  pub place : (first ≡ length row) ⊎ ((first ≡ start) × (stop ≡ length row))
  pub slots : drop first row2 ≡ take (stop - start) (drop start row)
  pub end : length row2 ≡ first + (stop - start)

-- a position has a wider block, with its slots and then none, which ends the row
pub record IsWidened (bs : List Block) (row : List ℕ) (p count : ℕ) (bs2 : List Block) (row2 : List ℕ) : Type 0 where
  pub block : Block
  pub blocks : bs2 ≡ slice_set bs p block
  pub room : count ≤ block.room
  pub place : (block.first ≡ length row) ⊎ ((block.first ≡ (block_at bs p).first) × ((block_at bs p).first + (block_at bs p).room ≡ length row))
  pub more : List ℕ
  pub longer : row2 ≡ row ++ more
  pub zeros : ℕ
  pub slots : drop block.first row2 ≡ block_of row (block_at bs p) ++ replicate zeros 0
  pub end : length row2 ≡ block.first + block.room
