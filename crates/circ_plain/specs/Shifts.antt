-- Shifts by a number of places that is itself a row of bits (barrel shifters), from the next variable g on.
use Rattle.std.specs.Prelude.{ℕ, zero, suc, ◌+◌, ◌-◌, ◌^◌, ◌<◌, nat_le, if◌then◌else◌, List, [], ◌∷◌, ◌++◌, length, take, drop, replicate}
use Rattle.cnf_base.specs.Literals.{Literal, negative_of, negated, false_literal}
use Rattle.cnf_base.specs.declared.gate.GateKind.{GateKind}
use Rattle.cnf_base.specs.declared.gate.GateKind.TheVariants.{And}
use Rattle.cnf_base.specs.Assignments.{fresh_bits}
use Rattle.cnf_base.specs.Choices.{mux_gates}
use Rattle.circ_plain.specs.declared.moves.Direction.{Direction}
use Rattle.circ_plain.specs.declared.moves.Direction.TheVariants.{Up, Down}
use Rattle.circ_plain.specs.Signs.{sign_of}

-- the least m up to k with n ≤ 2 ^ m, or k where there is none
abbrev pub least_power : ℕ → ℕ → ℕ
least_power n zero = 0
least_power n (suc k) = if nat_le n (2 ^ least_power n k) then least_power n k else suc k

-- how many low bits of an amount move n bits by less than n places: the least m with n ≤ 2 ^ m
abbrev pub stages : ℕ → ℕ
stages n = least_power n n

-- the bits moved by d places towards the higher or the lower ones, with `fill` at the places that are left
abbrev pub moved : Direction → Literal → ℕ → List Literal → List Literal
moved Up fill d r = replicate d fill ++ take (length r - d) r
moved Down fill d r = drop d r ++ replicate d fill

-- these bits of an amount, from place j of it on, move n bits by less than n places
abbrev pub AreNear : ℕ → ℕ → List Literal → Type 0
AreNear n j ts = (i : ℕ) → i < j + length ts → 2 ^ i < n

-- one stage a bit of the amount, from place j of it on: the row moved by 2 ^ j where the bit is true, else the row
abbrev pub stage_gates : Direction → Literal → ℕ → ℕ → List Literal → List Literal → List GateKind
stage_gates way fill g j r [] = []
stage_gates way fill g j r (t ∷ ts) =
    mux_gates t (moved way fill (2 ^ j) r) r ++ stage_gates way fill (g + length r) (suc j) (fresh_bits g (length r)) ts

-- the row after the last stage
abbrev pub stage_bits : ℕ → List Literal → List Literal → List Literal
stage_bits g r [] = r
stage_bits g r (t ∷ ts) = stage_bits (g + length r) (fresh_bits g (length r)) ts

-- one gate a bit: whether it or one before it is true
abbrev pub any_gates : ℕ → Literal → List Literal → List GateKind
any_gates g o [] = []
any_gates g o (t ∷ ts) = And (negated o) (negated t) ∷ any_gates (suc g) (negative_of g) ts

abbrev pub any_bit : ℕ → Literal → List Literal → Literal
any_bit g o [] = o
any_bit g o (t ∷ ts) = any_bit (suc g) (negative_of g) ts

-- one gate a bit: the bit where `keep` is true, else false
abbrev pub mask_gates : Literal → List Literal → List GateKind
mask_gates keep [] = []
mask_gates keep (r ∷ rs) = And r keep ∷ mask_gates keep rs

-- the stages of the low bits of the amount, and whether one of the others is true
abbrev pub move_gates : Direction → Literal → ℕ → List Literal → List Literal → List GateKind
move_gates way fill g a t =
    stage_gates way fill g 0 a (take (stages (length a)) t)
    ++ any_gates (g + length (stage_gates way fill g 0 a (take (stages (length a)) t))) false_literal (drop (stages (length a)) t)

abbrev pub move_bits : ℕ → List Literal → List Literal → List Literal
move_bits g a t = stage_bits g a (take (stages (length a)) t)

-- the amount is above all stages
abbrev pub over_bit : Direction → Literal → ℕ → List Literal → List Literal → Literal
over_bit way fill g a t = any_bit (g + length (stage_gates way fill g 0 a (take (stages (length a)) t))) false_literal (drop (stages (length a)) t)

-- a logical shift: false comes in, and nothing is left by an amount above all stages
abbrev pub logical_gates : Direction → ℕ → List Literal → List Literal → List GateKind
logical_gates way g a t =
    move_gates way false_literal g a t ++ mask_gates (negated (over_bit way false_literal g a t)) (move_bits g a t)

abbrev pub logical_bits : Direction → ℕ → List Literal → List Literal → List Literal
logical_bits way g a t = fresh_bits (g + length (move_gates way false_literal g a t)) (length a)

abbrev pub shl_gates : ℕ → List Literal → List Literal → List GateKind
shl_gates g a t = logical_gates Up g a t

abbrev pub shl_bits : ℕ → List Literal → List Literal → List Literal
shl_bits g a t = logical_bits Up g a t

abbrev pub lshr_gates : ℕ → List Literal → List Literal → List GateKind
lshr_gates g a t = logical_gates Down g a t

abbrev pub lshr_bits : ℕ → List Literal → List Literal → List Literal
lshr_bits g a t = logical_bits Down g a t

-- an arithmetic shift: the sign comes in, and is all that is left by an amount above all stages
abbrev pub ashr_gates : ℕ → List Literal → List Literal → List GateKind
ashr_gates g a t =
    move_gates Down (sign_of a) g a t
    ++ mux_gates (over_bit Down (sign_of a) g a t) (replicate (length a) (sign_of a)) (move_bits g a t)

abbrev pub ashr_bits : ℕ → List Literal → List Literal → List Literal
ashr_bits g a t = fresh_bits (g + length (move_gates Down (sign_of a) g a t)) (length a)
