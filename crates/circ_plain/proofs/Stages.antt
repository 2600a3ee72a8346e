-- The shifters' gates one place or one part after another, for the code that makes them.
use Rattle.std.proofs.Common.{◌≡◌, ℕ, suc, ◌+◌, ◌*◌, ◌%◌, ◌^◌, ◌<◌, ◌≤◌, List, [], ◌∷◌, ◌++◌, length, drop, inl, inr, refl, sym, ap, ◌∙◌, arith}
use Rattle.std.proofs.lemmas.Bool.{cases_lt}
use Rattle.std.proofs.Math.Nat.{mul-le-mul_left, mod-eq_of_lt}
use Rattle.std.proofs.Math.Pow.{pow-lt}
use Rattle.cnf_base.specs.Literals.{Literal, negative_of, negated}
use Rattle.cnf_base.specs.declared.gate.GateKind.TheVariants.{And}
use Rattle.cnf_base.specs.Assignments.{fresh_bits}
use Rattle.cnf_base.specs.Choices.{mux_gates}
use Rattle.cnf_base.specs.Circuits.{CircuitValue, Gains}
use Rattle.cnf_base.proofs.Rows.{length-fresh_bits}
use Rattle.cnf_base.proofs.Choosing.{length-mux_gates}
use Rattle.smt_words.proofs.Numbers.{pow_le}
use Rattle.circ_plain.specs.declared.moves.Direction.{Direction}
use Rattle.circ_plain.specs.Shifts.{moved, stage_gates, stage_bits, any_gates, any_bit}
use Rattle.circ_plain.proofs.Shifting.{length-moved}

-- the first bit of a disjunction, and the disjunction of the rest
pub record AnyPlace (g h : ℕ) (ts : List Literal) (t : Literal) (rest : List Literal) (before after : Literal) : Type 0 where
  pub gates : any_gates g before ts ≡ (And (negated before) (negated t) ∷ []) ++ any_gates h after rest
  pub last : any_bit g before ts ≡ any_bit h after rest

pub any_place : (g h : ℕ) (ts : List Literal) (t : Literal) (rest : List Literal) (before after : Literal) → ts ≡ t ∷ rest → h ≡ g + 1 → after ≡ negative_of g → AnyPlace g h ts t rest before after
any_place g h ts t rest before after et eh ea =
    let one : h ≡ suc g = omega (arith, eh) in
    rw (et, one, ea) (record { gates = refl; last = refl })

-- the first stage, and the other ones
pub record Stage (way : Direction) (fill : Literal) (g h j k : ℕ) (row next : List Literal) (ts : List Literal) (t : Literal) (rest : List Literal) : Type 0 where
  pub gates : stage_gates way fill g j row ts ≡ mux_gates t (moved way fill (2 ^ j) row) row ++ stage_gates way fill h k next rest
  pub bits : stage_bits g row ts ≡ stage_bits h next rest

pub stage : (way : Direction) (fill : Literal) (g h j k : ℕ) (row next : List Literal) (ts : List Literal) (t : Literal) (rest : List Literal) → ts ≡ t ∷ rest → h ≡ g + length row → k ≡ j + 1 → next ≡ fresh_bits g (length row) → Stage way fill g h j k row next ts t rest
stage way fill g h j k row next ts t rest et eh ek en =
    let one : k ≡ suc j = omega (arith, ek) in
    rw (et, eh, one, en) (record { gates = refl; bits = refl })

-- a distance within a width of memory is a shift of a machine word
pub distance_fits : (place n : ℕ) → 2 ^ place < n → n ≤ 2 ^ 63 → place < 64
distance_fits place n h le = elim (cases_lt place 64) [
  | inl lt ↦ lt
  | inr ge ↦ let much = pow_le 64 place ge in absurd (omega arith)
]

-- one row more of so many
pub one_row_more : (n k m : ℕ) → k < m → n * k + n ≤ n * m
one_row_more n k m h = omega (arith, mul-le-mul_left {m = suc k} {n = m} n h)

pub a_row : (n m : ℕ) → 0 < m → n ≤ n * m
a_row n m h = omega (arith, one_row_more n 0 m h)

-- the opposite of a gate's literal
pub negative_from : (l gate after : Literal) → after ≡ negated gate → gate ≡ l → after ≡ negated l
negative_from l gate after e f = e ∙ ap negated f

-- a power of two in a machine word
pub distance_is : (place : ℕ) → place < 64 → 1 * 2 ^ place % 2 ^ 64 ≡ 2 ^ place
distance_is place h =
    let one : 1 * 2 ^ place ≡ 2 ^ place = omega arith in
    ap (λ k. k % 2 ^ 64) one ∙ mod-eq_of_lt (pow-lt h)

-- what one stage of the loop adds
pub record Staged (way : Direction) (fill : Literal) (now then : CircuitValue) (place : ℕ) (row next near : List Literal) (t : Literal) : Type 0 where
  pub count : then.next ≡ now.next + length row
  pub width : length next ≡ length row
  pub gains : Gains now then (mux_gates t (moved way fill (2 ^ place) row) row)
  pub split : Stage way fill now.next then.next place (place + 1) row next (drop place near) t (drop (place + 1) near)

pub staged : (way : Direction) (fill : Literal) (now then : CircuitValue) (place : ℕ) (row next near x y : List Literal) (t : Literal) → 2 ^ place ≤ length row → drop place near ≡ t ∷ drop (place + 1) near → x ≡ moved way fill (2 ^ place) row → y ≡ row → Gains now then (mux_gates t x y) → next ≡ fresh_bits now.next (length x) → Staged way fill now then place row next near t
staged way fill now then place row next near x y t room split ex ey gains bits =
    let lx : length x ≡ length row = ap length ex ∙ length-moved way fill (2 ^ place) row room in
    let count : then.next ≡ now.next + length row = omega (arith, gains.next, length-mux_gates t x y (lx ∙ sym (ap length ey)), lx) in
    let fresh : next ≡ fresh_bits now.next (length row) = bits ∙ ap (λ n. fresh_bits now.next n) lx in
    record {
      count = count;
      width = ap length fresh ∙ length-fresh_bits (length row) now.next;
      gains = rw (ex, ey) at gains;
      split = stage way fill now.next then.next place (place + 1) row next (drop place near) t (drop (place + 1) near) split count refl fresh;
    }
