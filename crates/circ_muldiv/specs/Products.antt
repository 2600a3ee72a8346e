-- The circuit of a product: long multiplication in binary, one partial product a row.
use Rattle.std.specs.Prelude.{ℕ, ◌+◌, List, [], ◌∷◌, ◌++◌, length, take, drop}
use Rattle.cnf_base.specs.Literals.{Literal, false_literal}
use Rattle.cnf_base.specs.Assignments.{fresh_bits}
use Rattle.cnf_base.specs.declared.gate.GateKind.{GateKind}
use Rattle.cnf_base.specs.declared.gate.GateKind.TheVariants.{And}
use Rattle.cnf_base.specs.Adders.{add_gates, add_bits}

-- a partial product: each bit of the first factor with one bit of the second
abbrev pub row_gates : List Literal → Literal → List GateKind
row_gates [] b = []
row_gates (a ∷ as') b = And a b ∷ row_gates as' b

-- a partial product is added to the places p
abbrev pub sum_gates : ℕ → List Literal → List Literal → Literal → List GateKind
sum_gates g p a b = row_gates a b ++ add_gates (g + length a) p (fresh_bits g (length a)) false_literal

abbrev pub sum_bits : ℕ → List Literal → List Literal → List Literal
sum_bits g p a = add_bits (g + length a) p (fresh_bits g (length a))

-- the further rows, added to the places p that are left: each row leaves one place less, and takes one bit less of the first factor
abbrev pub rows_gates : ℕ → List Literal → List Literal → List Literal → List GateKind
rows_gates g p a [] = []
rows_gates g p a (b ∷ bs) =
    let ks = sum_gates g p a b in
    ks ++ rows_gates (g + length ks) (drop 1 (sum_bits g p a)) (take (length bs) a) bs

abbrev pub rows_bits : ℕ → List Literal → List Literal → List Literal → List Literal
rows_bits g p a [] = []
rows_bits g p a (b ∷ bs) =
    let s = sum_bits g p a in
    take 1 s ++ rows_bits (g + length (sum_gates g p a b)) (drop 1 s) (take (length bs) a) bs

-- the gates of a product, the first partial product first
abbrev pub mul_gates : ℕ → List Literal → List Literal → List GateKind
mul_gates g a [] = []
mul_gates g a (b ∷ bs) = row_gates a b ++ rows_gates (g + length a) (drop 1 (fresh_bits g (length a))) (take (length bs) a) bs

-- the bits of a product
abbrev pub mul_bits : ℕ → List Literal → List Literal → List Literal
mul_bits g a [] = []
mul_bits g a (b ∷ bs) =
    let p = fresh_bits g (length a) in
    take 1 p ++ rows_bits (g + length a) (drop 1 p) (take (length bs) a) bs
