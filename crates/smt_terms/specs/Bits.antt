-- The bits of terms, in the order in which the terms got them.
use Rattle.std.specs.Prelude.{ℕ, ◌==◌, if◌then◌else◌, List, [], ◌∷◌, ◌++◌, Option, Some, None, unwrap_or}
use Rattle.cnf_base.specs.Literals.{Literal}

-- a term, its literals, the lowest bit first, and the term whose bits it was given
pub record TermBits : Type 0 where
  pub term : ℕ
  pub bits : List Literal
  pub image : Option ℕ

-- the bits of a term
abbrev pub bits_in : List TermBits → ℕ → Option (List Literal)
bits_in [] t = None
bits_in (e ∷ es) t = if e.term == t then Some e.bits else bits_in es t

-- the term whose bits a term was given
abbrev pub image_in : List TermBits → ℕ → Option ℕ
image_in [] t = None
image_in (e ∷ es) t = if e.term == t then e.image else image_in es t

-- a term gets bits
abbrev pub with_bits : List TermBits → ℕ → List Literal → List TermBits
with_bits held t bits = held ++ record { term = t; bits = bits; image = None } ∷ []

-- a term gets the bits of its image
abbrev pub with_image : List TermBits → ℕ → ℕ → List TermBits
with_image held t u = held ++ record { term = t; bits = unwrap_or (bits_in held u) []; image = Some u } ∷ []
