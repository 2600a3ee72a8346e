-- What a walk asks for, and what it answers: a table that is closed under the assignment, or a lemma that is false under it.
use Rattle.std.specs.Prelude.{◌≡◌, ◌<◌, ◌≤◌, ◌^◌, ℕ, Bool, false, List, length, Some, IsSome}
use Rattle.std.specs.List.{AllByRecursion}
use Rattle.smt_terms.specs.declared.sort.Sort.TheVariants as sort
use Rattle.smt_terms.specs.declared.node.Node.{Node}
use Rattle.smt_terms.specs.Bits.{TermBits, image_in}
use Rattle.smt_terms.specs.Terms.{sort_of}
use Rattle.smt_terms.specs.Values.{number_of}
use Rattle.theory_terms.specs.declared.shape.Shape.TheVariants.{Filling, Equating}
use Rattle.theory_terms.specs.declared.lemma.Lemma.{Lemma}
use Rattle.theory_terms.specs.declared.atom.Atom.{Atom}
use Rattle.theory_terms.specs.declared.atom.Atom.TheVariants.{Same, Differ, Holds, Fails}
use Rattle.theory_terms.specs.Shapes.{shape_at}
use Rattle.theory_terms.specs.Lemmas.{watch, atoms_of, some_true}
use Rattle.term_reach.specs.Reach.{IsReached, IsReach}
use Rattle.access_tables.specs.Leading.{leads}
use Rattle.access_tables.specs.Ready.{IsOwn}
use Rattle.access_tables.specs.Encoded.{HaveBits}
use Rattle.access_tables.specs.Held.{TableValue, HasRow, assigned_value, IsClosedUnder}
use Rattle.access_walk.specs.Maps.{IsWordOf, AreAllIndexes}

-- ---- conditions

-- what these terms reach
abbrev pub Reached : List Node → List TermBits → List ℕ → ℕ → Type 0
Reached nodes bits live = IsReached (leads nodes (image_in bits)) live

-- the word of this width and number is made and has bits
abbrev pub IsHeldWord : List Node → List TermBits → ℕ → ℕ → Type 0
IsHeldWord nodes bits n k = (w : ℕ) × IsWordOf nodes n k w × HasRow nodes bits w

-- Each index of the width becomes one of some terms, and the words of the width from 0 up to the number of these, or up to its last,
-- are made and have bits.
pub record HasHeldWords (nodes : List Node) (bits : List TermBits) (Here : ℕ → Type 0) (n : ℕ) : Type 0 where
  pub indexes : List ℕ
  pub among : AreAllIndexes nodes (image_in bits) Here n indexes
  pub words : (k : ℕ) → k < 2 ^ n → k ≤ length indexes → IsHeldWord nodes bits n k

-- What these terms reach has bits, and images are held. Each reached equality of arrays has the selects of its sides at their
-- witness, and where a constant array is reached the index words of its width are made.
pub record IsWalkable (nodes : List Node) (bits : List TermBits) (live : List ℕ) : Type 0 where
  pub bits_are : HaveBits nodes bits (Reached nodes bits live)
  pub images : (t u : ℕ) → image_in bits t ≡ Some u → u < length nodes
  pub watches : (t a b n m : ℕ) → IsOwn (Reached nodes bits live) (image_in bits) t → shape_at nodes t ≡ Equating a b → sort_of nodes a ≡ sort.Array n m → IsSome (watch nodes a b)
  pub words : (t x n m : ℕ) → IsOwn (Reached nodes bits live) (image_in bits) t → shape_at nodes t ≡ Filling x → sort_of nodes t ≡ sort.Array n m → HasHeldWords nodes bits (Reached nodes bits live) n

-- a word that has bits has its number as value
abbrev pub HaveWordValues : List Node → List TermBits → (ℕ → Bool) → Type 0
HaveWordValues nodes bits f = (n k w : ℕ) → IsWordOf nodes n k w → HasRow nodes bits w → number_of (assigned_value nodes bits f w) ≡ k

-- ---- answers

-- the terms that an atom names have bits, and those that it compares have one sort
abbrev pub IsEncodedAtom : List Node → List TermBits → Atom → Type 0
IsEncodedAtom nodes bits (Same t u) = HasRow nodes bits t × HasRow nodes bits u × (sort_of nodes t ≡ sort_of nodes u)
IsEncodedAtom nodes bits (Differ t u) = HasRow nodes bits t × HasRow nodes bits u × (sort_of nodes t ≡ sort_of nodes u)
IsEncodedAtom nodes bits (Holds t) = HasRow nodes bits t
IsEncodedAtom nodes bits (Fails t) = HasRow nodes bits t

-- the lemma has its shape, and nothing that it says is true under the assignment; its terms have bits
pub record IsFalseLemma (nodes : List Node) (bits : List TermBits) (f : ℕ → Bool) (lemma : Lemma) : Type 0 where
  pub atoms : List Atom
  pub are : atoms_of nodes lemma ≡ Some atoms
  pub falses : some_true (assigned_value nodes bits f) atoms ≡ false
  pub encoded : AllByRecursion (IsEncodedAtom nodes bits) atoms

-- a table of exactly what these terms reach, which is closed under the assignment
pub record IsWalkedTable (nodes : List Node) (bits : List TermBits) (f : ℕ → Bool) (live : List ℕ) (table : TableValue) : Type 0 where
  pub reach : IsReach (leads nodes (image_in bits)) live table.terms
  pub closed : IsClosedUnder nodes bits f table
