-- Divisions that are built place by place: what one place more adds.
use Rattle.std.proofs.Common.{◌≡◌, ℕ, suc, ◌+◌, ◌-◌, ◌*◌, ◌^◌, ◌<◌, ◌≤◌, List, [], ◌∷◌, ◌++◌, length, get_or, drop, reverse, refl, sym, ap, ◌∙◌, subst, arith}
use Rattle.std.proofs.lemmas.List.{length-drop}
use Rattle.std.proofs.lemmas.Grind.{reverse_onto}
use Rattle.std.proofs.Math.Nat.{mul-le-mul_right}
use Rattle.cnf_base.specs.Literals.{Literal, true_literal}
use Rattle.cnf_base.specs.Assignments.{fresh_bits}
use Rattle.cnf_base.specs.Adders.{add_gates, add_bits, add_carry}
use Rattle.cnf_base.specs.Choices.{mux_gates}
use Rattle.cnf_base.specs.Circuits.{CircuitValue, Gains}
use Rattle.cnf_base.proofs.Growing.{Gains-then}
use Rattle.cnf_base.proofs.Adding.{length-add_bits}
use Rattle.cnf_base.proofs.Rows.{drop_at}
use Rattle.circ_muldiv.specs.Quotients.{shifted, complement_of, difference_gates, place_gates, place_bit, place_rest, divided}
use Rattle.circ_muldiv.specs.Sizes.{divide_size}
use Rattle.circ_muldiv.proofs.Dividing.{length-complement, length-shifted, length-divided_rest}
use Rattle.circ_muldiv.proofs.Counting.{length-difference_gates, length-divided_gates}

-- ---- one place

-- the two rows that the adder of a place takes
pub record AreOperands (a : Literal) (r b up complement : List Literal) : Type 0 where
  pub longer : length r ≡ length b + 1
  pub shift : up ≡ shifted a r b
  pub opposite : complement ≡ complement_of b

pub are_operands : (a : Literal) (r b up up_slice complement complement_slice : List Literal) → length r ≡ length b + 1 → up_slice ≡ up → up ≡ shifted a r b → complement_slice ≡ complement → complement ≡ complement_of b → AreOperands a r b up_slice complement_slice
are_operands a r b up up_slice complement complement_slice longer e f g h = record { longer = longer; shift = e ∙ f; opposite = g ∙ h }

pub operands_long : (a : Literal) (r b up complement : List Literal) → AreOperands a r b up complement → (length up ≡ length b + 1) × (length complement ≡ length b + 1)
operands_long a r b up complement o =
    let more : length b + 1 ≡ suc (length b) = omega arith in
    (ap length o.shift ∙ length-shifted a r b (o.longer ∙ more) ∙ sym more, ap length o.opposite ∙ length-complement b ∙ sym more)

pub difference_long : (g : ℕ) (a : Literal) (r b up complement difference : List Literal) → AreOperands a r b up complement → difference ≡ add_bits g up complement → length difference ≡ length b + 1
difference_long g a r b up complement difference o e =
    let l = operands_long a r b up complement o in
    ap length e ∙ length-add_bits g up complement (l.0 ∙ sym l.1) ∙ l.0

pub difference_after : (old mid : CircuitValue) (a : Literal) (r b up complement : List Literal) → AreOperands a r b up complement → Gains old mid (add_gates old.next up complement true_literal) → Gains old mid (difference_gates old.next a r b)
difference_after old mid a r b up complement o h =
    subst (λ x. Gains old mid (add_gates old.next x (complement_of b) true_literal)) o.shift (subst (λ y. Gains old mid (add_gates old.next up y true_literal)) o.opposite h)

pub difference_room : (old mid : CircuitValue) (a : Literal) (r b up complement : List Literal) → AreOperands a r b up complement → Gains old mid (add_gates old.next up complement true_literal) → mid.next ≡ old.next + 3 * (length b + 1)
difference_room old mid a r b up complement o h =
    let more : length b + 1 ≡ suc (length b) = omega arith in
    omega (arith, (difference_after old mid a r b up complement o h).next, length-difference_gates old.next a r b (o.longer ∙ more))

pub place_gained : (old mid new : CircuitValue) (a carry : Literal) (r b up complement difference up' difference' : List Literal) → AreOperands a r b up complement → Gains old mid (add_gates old.next up complement true_literal) → difference ≡ add_bits old.next up complement → carry ≡ add_carry old.next up complement true_literal → difference' ≡ difference → up' ≡ up → Gains mid new (mux_gates carry difference' up') → Gains old new (place_gates old.next a r b)
place_gained old mid new a carry r b up complement difference up' difference' o h ed ec same_difference same_up k' =
    let k = subst (λ x. Gains mid new (mux_gates carry x up)) same_difference (subst (λ x. Gains mid new (mux_gates carry difference' x)) same_up k') in
    let g = old.next in
    let bits : difference ≡ add_bits g (shifted a r b) (complement_of b) = ed ∙ rw (o.shift, o.opposite) refl in
    let bit : carry ≡ place_bit g a r b = ec ∙ rw (o.shift, o.opposite) refl in
    let k1 = subst (λ x. Gains mid new (mux_gates carry difference x)) o.shift k in
    let k2 = subst (λ x. Gains mid new (mux_gates carry x (shifted a r b))) bits k1 in
    let k3 = subst (λ x. Gains mid new (mux_gates x (add_bits g (shifted a r b) (complement_of b)) (shifted a r b))) bit k2 in
    Gains-then old mid new (difference_gates g a r b) _ (difference_after old mid a r b up complement o h) k3

pub place_left : (old mid : CircuitValue) (a : Literal) (r b up complement difference left : List Literal) → AreOperands a r b up complement → Gains old mid (add_gates old.next up complement true_literal) → difference ≡ add_bits old.next up complement → left ≡ fresh_bits mid.next (length difference) → left ≡ place_rest old.next a r b
place_left old mid a r b up complement difference left o h ed el =
    el
    ∙ ap (fresh_bits mid.next) (difference_long old.next a r b up complement difference o ed)
    ∙ ap (λ n. fresh_bits n (length b + 1)) (difference_after old mid a r b up complement o h).next

-- ---- all places

-- the places from i on are done; the bits of the quotient stand highest first
pub record IsDivision (start now : CircuitValue) (quotient rest a b : List Literal) (i : ℕ) : Type 0 where
  pub gains : Gains start now (divided start.next (drop i a) b).gates
  pub bits : quotient ≡ reverse (divided start.next (drop i a) b).quotient
  pub left : rest ≡ (divided start.next (drop i a) b).rest

pub division_rest : (start now : CircuitValue) (quotient rest a b : List Literal) (i : ℕ) → IsDivision start now quotient rest a b i → length rest ≡ length b + 1
division_rest start now quotient rest a b i h =
    let more : suc (length b) ≡ length b + 1 = omega arith in
    ap length h.left ∙ length-divided_rest start.next (drop i a) b ∙ more

room_for : (g n m i left : ℕ) → 0 < i → i ≤ n → left ≡ n - i → g + 4 * n * m ≤ 2 ^ 63 → g + 4 * left * m + 4 * m ≤ 2 ^ 63
room_for g n m i left pos le e h =
    let fewer : left + 1 ≤ n = omega arith in
    let times : (left + 1) * m ≤ n * m = mul-le-mul_right m fewer in
    omega (arith, times, h)

pub division_room : (start now : CircuitValue) (quotient rest a b : List Literal) (i : ℕ) → length a ≡ length b → 0 < i → i ≤ length a → start.next + divide_size (length a) ≤ 2 ^ 63 → IsDivision start now quotient rest a b i → now.next + 4 * (length b + 1) ≤ 2 ^ 63
division_room start now quotient rest a b i same pos le room h =
    let room' = subst (λ m. start.next + 4 * length a * (m + 1) ≤ 2 ^ 63) same room in
    let next = h.gains.next ∙ ap (λ n. start.next + n) (length-divided_gates start.next (drop i a) b) in
    rw next (room_for start.next (length a) (length b + 1) i (length (drop i a)) pos le (length-drop i a) room')

division_step : (start now new : CircuitValue) (quotient quotient' rest rest' a b : List Literal) (x c : Literal) (i : ℕ) → drop i a ≡ x ∷ drop (i + 1) a → IsDivision start now quotient rest a b (i + 1) → Gains now new (place_gates now.next x rest b) → c ≡ place_bit now.next x rest b → rest' ≡ place_rest now.next x rest b → quotient' ≡ quotient ++ c ∷ [] → IsDivision start new quotient' rest' a b i
division_step start now new quotient quotient' rest rest' a b x c i split h gains ec er eq =
    let d = divided start.next (drop (i + 1) a) b in
    let k = start.next + length d.gates in
    let whole = ap (λ t. divided start.next t b) split in
    let gains1 = subst (λ n. Gains now new (place_gates n x rest b)) h.gains.next gains in
    let gains2 = subst (λ r. Gains now new (place_gates k x r b)) h.left gains1 in
    let bit : c ≡ place_bit k x d.rest b = ec ∙ ap (λ n. place_bit n x rest b) h.gains.next ∙ ap (λ r. place_bit k x r b) h.left in
    let left : rest' ≡ place_rest k x d.rest b = er ∙ ap (λ n. place_rest n x rest b) h.gains.next ∙ ap (λ r. place_rest k x r b) h.left in
    record {
      gains = subst (λ t. Gains start new t) (sym (ap (λ t. t.gates) whole)) (Gains-then start now new d.gates (place_gates k x d.rest b) h.gains gains2);
      bits =
          eq
          ∙ ap (λ t. t ++ c ∷ []) h.bits
          ∙ ap (λ y. reverse d.quotient ++ y ∷ []) bit
          ∙ sym (reverse_onto d.quotient (place_bit k x d.rest b) [])
          ∙ sym (ap (λ t. reverse t.quotient) whole);
      left = left ∙ sym (ap (λ t. t.rest) whole);
    }

-- the place's remainder was handed in as a slice
pub division_more : (start now new : CircuitValue) (quotient quotient' rest slice rest' a b : List Literal) (x c : Literal) (i : ℕ) → 0 < i → i ≤ length a → x ≡ get_or a (i - 1) x → IsDivision start now quotient rest a b i → slice ≡ rest → Gains now new (place_gates now.next x slice b) → c ≡ place_bit now.next x slice b → rest' ≡ place_rest now.next x slice b → quotient' ≡ quotient ++ c ∷ [] → IsDivision start new quotient' rest' a b (i - 1)
division_more start now new quotient quotient' rest slice rest' a b x c i pos le at h same gains ec er eq =
    let next : i ≡ i - 1 + 1 = omega arith in
    let h' = subst (λ r. IsDivision start now quotient r a b i) (sym same) h in
    division_step start now new quotient quotient' slice rest' a b x c (i - 1) (drop_at a (i - 1) x (omega arith) at) (subst (λ n. IsDivision start now quotient slice a b n) next h') gains ec er eq
