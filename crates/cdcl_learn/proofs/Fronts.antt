-- Rows that are a front of the trail, but for the last one.
use Rattle.std.proofs.Common.{ℕ, ◌≡◌, ◌+◌, ◌<◌, List, Some, length, refl, sym, ap, ◌∙◌, arith}
use Rattle.std.proofs.lemmas.Option.{slice_get-get_or, get_or_from_slice_get, slice_get_within}
use Rattle.cnf_base.specs.Literals.{Literal}
use Rattle.cdcl_core.specs.Levels.{Row, StandsAt}
use Rattle.cdcl_core.specs.State.{no_row}
use Rattle.cdcl_learn.specs.Rows.{row_at, literal_at, IsFrontOf}

pub own_front : (rows : List Row) → IsFrontOf rows rows
own_front rows i h = (omega (arith, h), refl)

-- what stands at a place
pub stands_row : (rows : List Row) (k : ℕ) (l : Literal) → StandsAt rows k l → (k < length rows) × (literal_at rows k ≡ l)
stands_row rows k l a = (slice_get_within rows k (l, a.0, a.1.0) a.1.1, ap (λ (r : Row). r.0) (get_or_from_slice_get rows k (l, a.0, a.1.0) no_row a.1.1))

-- a literal of a front stands there
pub front_stands : (base rows : List Row) (k : ℕ) (l : Literal) → IsFrontOf base rows → k + 1 < length rows → literal_at rows k ≡ l → StandsAt base k l
front_stands base rows k l front h e =
    let f : (k < length base) × (literal_at rows k ≡ literal_at base k) = front k h in
    let row : Row = row_at base k in
    (row.1, (row.2, slice_get-get_or base k no_row f.0 ∙ ap (λ (x : Literal). Some (x, row.1, row.2)) (sym f.1 ∙ e)))
