-- Terms in an order, in which each that is placed stands behind all on which its bits stand.
use Rattle.std.specs.Prelude.{◌≡◌, ◌<◌, ℕ, Bool, true, List, length, Option, Some, IsSome, is_some, Contains}
use Rattle.smt_terms.specs.declared.node.Node.{Node}
use Rattle.smt_terms.specs.Bits.{TermBits, bits_in, image_in}
use Rattle.smt_terms.specs.Ranks.{is_plain}
use Rattle.smt_terms.specs.Terms.{sort_of}
use Rattle.term_reach.specs.Reach.{Reaches, IsAcyclic}
use Rattle.proof_log.specs.declared.entry.Entry.{Entry}
use Rattle.proof_log.specs.Assigned.{stands_on}
use Rattle.proof_log.specs.Places.{IsForTerm}

-- a term leads to its image, if it has one, and else to its arguments
abbrev pub by_images : List Node → (ℕ → Option ℕ) → ℕ → List ℕ
by_images nodes image t = stands_on nodes t (image t)

-- Terms have places below a number: a Bool or a word exactly where it is one of these, and any other where it is needed. With a term
-- all to which it leads have earlier places.
pub record ArePlaced (nodes : List Node) (here : ℕ → Bool) (image : ℕ → Option ℕ) (places : ℕ → Option ℕ) (end : ℕ) : Type 0 where
  pub held : (t p : ℕ) → places t ≡ Some p → (t < length nodes) × (p < end)
  pub plain : (t : ℕ) → is_plain (sort_of nodes t) ≡ true → is_some (places t) ≡ here t
  pub all : (t : ℕ) → here t ≡ true → IsSome (places t)
  pub earlier : (t p u : ℕ) → places t ≡ Some p → Contains (by_images nodes image t) u → (q : ℕ) × (places u ≡ Some q) × (q < p)

pub record HavePlaces (nodes : List Node) (here : ℕ → Bool) (image : ℕ → Option ℕ) : Type 0 where
  pub places : ℕ → Option ℕ
  pub end : ℕ
  pub are : ArePlaced nodes here image places end

abbrev pub has_bits : List TermBits → ℕ → Bool
has_bits bits t = is_some (bits_in bits t)

-- so it is of the terms with bits
abbrev pub IsInOrder : List Node → List TermBits → Type 0
IsInOrder nodes bits = HavePlaces nodes (has_bits bits) (image_in bits)

-- the step gives no term bits
abbrev pub GivesNoBits : Entry → Type 0
GivesNoBits e = (t : ℕ) → IsForTerm t e → ⊥

-- ---- what that says

-- from a term with bits images and arguments lead to no Bool or word without
abbrev pub IsComplete : List Node → List TermBits → Type 0
IsComplete nodes bits = (t u : ℕ) → has_bits bits t ≡ true → Reaches (by_images nodes (image_in bits)) t u → is_plain (sort_of nodes u) ≡ true → has_bits bits u ≡ true

-- no way through images and arguments leads back
abbrev pub NeverLeadsBack : List Node → List TermBits → Type 0
NeverLeadsBack nodes bits = IsAcyclic (by_images nodes (image_in bits))
