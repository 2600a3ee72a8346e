-- Marks on literals, by their codes: a literal is marked where its stamp is the number of the
-- round.
use Rattle.std.specs.Prelude.{◌≡◌, ℕ, ◌==◌, Bool, List, slice_index}
use Rattle.cnf_base.specs.Literals.{Literal, code_of}
use Rattle.dimacs_front.specs.Lrat.{among}

pub record MarksValue : Type 0 where
  pub stamps : List ℕ
  pub round : ℕ

abbrev pub is_marked : MarksValue → Literal → Bool
is_marked m l = slice_index m.stamps (code_of l) == m.round

-- the marked literals are these
abbrev pub AreMarked : MarksValue → List Literal → Type 0
AreMarked m ls = (l : Literal) → is_marked m l ≡ among ls l
