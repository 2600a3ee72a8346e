-- The indexes of selects and stores, and the index widths of constant arrays.
use Rattle.std.specs.Prelude.{◌≡◌, ◌⊎◌, ◌<◌, ◌^◌, ℕ, List, Option, Some, None, Contains}
use Rattle.smt_words.specs.Words.{WordValue}
use Rattle.smt_terms.specs.declared.sort.Sort.TheVariants as sort
use Rattle.smt_terms.specs.declared.node.Node.{Node}
use Rattle.smt_terms.specs.Bits.{TermBits, image_in}
use Rattle.smt_terms.specs.Terms.{sort_of}
use Rattle.smt_terms.specs.Values.{Value}
use Rattle.theory_terms.specs.declared.atom.Landing.{Landing}
use Rattle.theory_terms.specs.declared.shape.Shape.TheVariants.{Filling}
use Rattle.theory_terms.specs.Shapes.{shape_at}
use Rattle.theory_terms.specs.Lemmas.{start_of}
use Rattle.access_tables.specs.Tables.{IsTaken, IsSpareOf}
use Rattle.access_walk.specs.declared.spares.Indexes.{Indexes}

-- the index of this select or store, which has no image
abbrev pub HasIndexTerm : List Node → List TermBits → ℕ → ℕ → Type 0
HasIndexTerm nodes bits t i = (l : Landing) × (image_in bits t ≡ None) × (start_of t (shape_at nodes t) ≡ Some l) × (l.index ≡ i)

-- the index width of this constant array, which has no image
abbrev pub HasWidth : List Node → List TermBits → ℕ → ℕ → Type 0
HasWidth nodes bits t n = (x : ℕ) × (m : ℕ) × (image_in bits t ≡ None) × (shape_at nodes t ≡ Filling x) × (sort_of nodes t ≡ sort.Array n m)

-- the numbers are the old ones and this one, if there is one
abbrev pub Widens : List ℕ → List ℕ → Option ℕ → Type 0
Widens old new o = ((n : ℕ) → Contains new n → Contains old n ⊎ (o ≡ Some n)) × ((n : ℕ) → Contains old n → Contains new n) × ((n : ℕ) → o ≡ Some n → Contains new n)

-- exactly the indexes of selects and stores among these terms
pub record AreIndexTerms (nodes : List Node) (bits : List TermBits) (Here : ℕ → Type 0) (indexes : List ℕ) : Type 0 where
  pub each : (j : ℕ) → Contains indexes j → (t : ℕ) × Here t × HasIndexTerm nodes bits t j
  pub all : (t j : ℕ) → Here t → HasIndexTerm nodes bits t j → Contains indexes j

-- exactly the index widths of constant arrays among these terms
pub record AreFilledWidths (nodes : List Node) (bits : List TermBits) (Here : ℕ → Type 0) (widths : List ℕ) : Type 0 where
  pub each : (n : ℕ) → Contains widths n → (t : ℕ) × Here t × HasWidth nodes bits t n
  pub all : (t n : ℕ) → Here t → HasWidth nodes bits t n → Contains widths n

abbrev pub AreIndexesOf : List Node → List TermBits → (ℕ → Type 0) → Indexes → Type 0
AreIndexesOf nodes bits Here i = AreIndexTerms nodes bits Here i.terms.items × AreFilledWidths nodes bits Here i.widths.items

-- exactly the numbers of the indexes of a width
pub record AreTaken (nodes : List Node) (bits : List TermBits) (Here : ℕ → Type 0) (val : ℕ → Value) (n : ℕ) (numbers : List ℕ) : Type 0 where
  pub each : (k : ℕ) → Contains numbers k → IsTaken nodes Here (image_in bits) val n k
  pub all : (k : ℕ) → IsTaken nodes Here (image_in bits) val n k → Contains numbers k

-- the least number that is not among these
pub record IsGap (numbers : List ℕ) (gap : ℕ) : Type 0 where
  pub apart : Contains numbers gap → ⊥
  pub least : (k : ℕ) → k < gap → Contains numbers k

-- the spare index of the width, as a word of it, or none where every number is an index
abbrev pub IsSpareWord : List Node → List TermBits → (ℕ → Type 0) → (ℕ → Value) → ℕ → Option WordValue → Type 0
IsSpareWord nodes bits Here val n None = (k : ℕ) → k < 2 ^ n → IsTaken nodes Here (image_in bits) val n k
IsSpareWord nodes bits Here val n (Some w) = (w.width ≡ n) × IsSpareOf nodes Here (image_in bits) val n (Some w.value)
