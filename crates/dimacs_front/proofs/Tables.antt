-- Rows of a table, as it grows.
use Rattle.std.proofs.Common.{◌≡◌, ℕ, zero, suc, ◌+◌, ◌-◌, ◌<◌, ◌≤◌, List, [], ◌∷◌, ◌++◌, length, take, drop, get_or, refl, sym, ap, ◌∙◌, arith, length-append, length-drop, eqb, ⊎_elim, Some}
use Rattle.std.specs.Prelude.{slice_get}
use Rattle.std.proofs.lemmas.Bool.{cases_eq, eq-eqb, ne_eqb}
use Rattle.std.proofs.lemmas.List.{take-append-le, drop-append-le, take_all, drop_all}
use Rattle.cnf_base.specs.Literals.{Literal}
use Rattle.dimacs_front.specs.Rows.{RowsValue, rows_from, last_end, AreEnds, IsStart, with_literal, ended, with_row}

pub ends_within : (at size : ℕ) (ends : List ℕ) → AreEnds at size ends → (at ≤ last_end at ends) × (last_end at ends ≤ size)
unfolding last_end
ends_within at size [] h = (omega arith, h)
ends_within at size (end ∷ ends) h = let r = ends_within end size ends h.1 in (omega (arith, h.0, r.0), r.1)

ends_more : (at size more : ℕ) (ends : List ℕ) → size ≤ more → AreEnds at size ends → AreEnds at more ends
ends_more at size more [] le h = omega arith
ends_more at size more (end ∷ ends) le h = (h.0, ends_more end size more ends le h.1)

longer : (table more : List Literal) → length table ≤ length (table ++ more)
longer table more = let e : length (table ++ more) ≡ length table + length more = rw length-append refl in omega (arith, e)

pub ends_longer : (ends : List ℕ) (table more : List Literal) → AreEnds 0 (length table) ends → AreEnds 0 (length (table ++ more)) ends
ends_longer ends table more h = ends_more 0 (length table) (length (table ++ more)) ends (longer table more) h

pub ends_push : (at size : ℕ) (ends : List ℕ) → AreEnds at size ends → AreEnds at size (ends ++ size ∷ [])
ends_push at size [] h = (h, omega arith)
ends_push at size (end ∷ ends) h = (h.0, ends_push end size ends h.1)

last_push : (at size : ℕ) (ends : List ℕ) → last_end at (ends ++ size ∷ []) ≡ size
unfolding last_end
last_push at size [] = refl
last_push at size (end ∷ ends) = last_push end size ends

-- a table that grows keeps its rows
rows_same : (at : ℕ) (ends : List ℕ) (table more : List Literal) → AreEnds at (length table) ends → rows_from at ends (table ++ more) ≡ rows_from at ends table
unfolding rows_from
rows_same at [] table more h = refl
rows_same at (end ∷ ends) table more h =
    let w = ends_within end (length table) ends h.1 in
    let le : end ≤ length table = omega (arith, w.0, w.1) in
    rw (take-append-le end table more le, rows_same end ends table more h.1) refl

-- one row more
rows_push : (at : ℕ) (ends : List ℕ) (table : List Literal) → rows_from at (ends ++ length table ∷ []) table ≡ rows_from at ends table ++ drop (last_end at ends) table ∷ []
unfolding rows_from last_end
rows_push at [] table = rw (take_all (length table) table (omega arith)) refl
rows_push at (end ∷ ends) table = ap (λ rs. drop at (take end table) ∷ rs) (rows_push end ends table)

pub rows_count : (at : ℕ) (ends : List ℕ) (table : List Literal) → length (rows_from at ends table) ≡ length ends
unfolding rows_from
rows_count at [] table = refl
rows_count at (end ∷ ends) table = ap suc (rows_count end ends table)

-- ---- one row

pub row_found : (at : ℕ) (ends : List ℕ) (table : List Literal) (place start : ℕ) → place < length ends → IsStart at ends place start
    → slice_get (rows_from at ends table) place ≡ Some (drop start (take (get_or ends place 0) table))
unfolding rows_from
row_found at [] table place start h s = absurd (omega arith)
row_found at (end ∷ ends) table zero start h s = rw s refl
row_found at (end ∷ ends) table (suc zero) start h s = row_found end ends table zero start (omega arith) s
row_found at (end ∷ ends) table (suc (suc place)) start h s = row_found end ends table (suc place) start (omega arith) s

pub row_within : (at size : ℕ) (ends : List ℕ) (place start : ℕ) → AreEnds at size ends → place < length ends → IsStart at ends place start
    → (start ≤ get_or ends place 0) × (get_or ends place 0 ≤ size)
row_within at size [] place start a h s = absurd (omega arith)
row_within at size (end ∷ ends) zero start a h s = let w = ends_within end size ends a.1 in (omega (arith, a.0, s), omega (arith, w.0, w.1))
row_within at size (end ∷ ends) (suc zero) start a h s = row_within end size ends zero start a.1 (omega arith) s
row_within at size (end ∷ ends) (suc (suc place)) start a h s = row_within end size ends (suc place) start a.1 (omega arith) s

-- behind the last row
pub last_start : (at : ℕ) (ends : List ℕ) (start : ℕ) → IsStart at ends (length ends) start → start ≡ last_end at ends
unfolding last_end
last_start at [] start s = s
last_start at (end ∷ []) start s = s
last_start at (end ∷ next ∷ ends) start s = last_start end (next ∷ ends) start s

pub start_zero : (ends : List ℕ) (place : ℕ) → place ≡ 0 → IsStart 0 ends place 0
start_zero ends zero e = refl
start_zero ends (suc place) e = absurd (omega arith)

pub start_later : (ends : List ℕ) (place : ℕ) → (place ≡ 0 → ⊥) → IsStart 0 ends place (get_or ends (place - 1) 0)
start_later ends zero e = absurd (e refl)
start_later ends (suc place) e = let same : suc place - 1 ≡ place = omega arith in rw same refl

-- ---- the view

abbrev pub rows_view : List ℕ → List Literal → RowsValue
rows_view ends table = record { clauses = rows_from 0 ends table; begun = drop (last_end 0 ends) table }

pub none_view : rows_view [] [] ≡ record { clauses = []; begun = [] }
unfolding rows_from last_end
none_view = refl

pub push_view : (ends : List ℕ) (table : List Literal) (l : Literal) → AreEnds 0 (length table) ends → rows_view ends (table ++ l ∷ []) ≡ with_literal (rows_view ends table) l
push_view ends table l h =
    rw (rows_same 0 ends table (l ∷ []) h, drop-append-le (last_end 0 ends) table (l ∷ []) (ends_within 0 (length table) ends h).1) refl

pub end_view : (ends : List ℕ) (table : List Literal) → rows_view (ends ++ length table ∷ []) table ≡ ended (rows_view ends table)
end_view ends table = rw (rows_push 0 ends table, last_push 0 (length table) ends, drop_all (length table) table (omega arith)) refl

pub clause_view : (ends : List ℕ) (table clause : List Literal) → AreEnds 0 (length table) ends → drop (last_end 0 ends) table ≡ []
    → rows_view (ends ++ length (table ++ clause) ∷ []) (table ++ clause) ≡ with_row (rows_view ends table) clause
clause_view ends table clause h e =
    end_view ends (table ++ clause) ∙ rw (rows_same 0 ends table clause h, drop-append-le (last_end 0 ends) table clause (ends_within 0 (length table) ends h).1, e) refl

pub ends_pushed : (ends : List ℕ) (table more : List Literal) → AreEnds 0 (length table) ends → AreEnds 0 (length (table ++ more)) (ends ++ length (table ++ more) ∷ [])
ends_pushed ends table more h = ends_push 0 (length (table ++ more)) ends (ends_longer ends table more h)

-- the last row is ended where nothing is behind it
pub ended_test : (a b : ℕ) (rest : List Literal) → a ≤ b → length rest ≡ b - a → eqb a b ≡ eqb (length rest) 0
ended_test a b rest h e =
    ⊎_elim
    (λ same. eq-eqb a b same ∙ sym (eq-eqb (length rest) 0 (omega (arith, same, e))))
    (λ other. ne_eqb a b other ∙ sym (ne_eqb (length rest) 0 (λ z. other (omega (arith, z, e, h)))))
    (cases_eq a b)

pub dropped : (n : ℕ) (table : List Literal) → length (drop n table) ≡ length table - n
dropped n table = rw length-drop refl
