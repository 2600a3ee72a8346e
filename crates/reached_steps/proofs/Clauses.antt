-- The clauses of gates, and so those of a block, are of the variables of the gates and of what these read.
use Rattle.std.proofs.Common.{◌≡◌, ℕ, suc, ◌+◌, ◌<◌, ◌≤◌, List, [], ◌∷◌, length, refl, inl, inr, ⊎_elim, arith}
use Rattle.std.specs.Prelude.{◌⊎◌, Contains}
use Rattle.std.specs.List.{AllByRecursion}
use Rattle.std.proofs.lemmas.List.Elements.{recursion_from_All, All-weaker, All-contains_itself}
use Rattle.cnf_base.specs.Literals.{Literal, positive_of, negative_of, true_literal}
use Rattle.cnf_base.specs.declared.gate.GateKind.{GateKind}
use Rattle.cnf_base.specs.declared.gate.GateKind.TheVariants.{And, Xor, Ite}
use Rattle.cnf_base.specs.Assignments.{AreBelow}
use Rattle.cnf_base.specs.Gates.{gate_clauses, gates_clauses, InputsBelow, AreOrdered}
use Rattle.cnf_base.proofs.Lists.{each_append, each_member}
use Rattle.cnf_base.proofs.Equating.{equal_gates-ordered, equal_bit-below}
use Rattle.bit_blast.specs.Circuits.{equality}
use Rattle.bit_blast.specs.Blocks.{Block}
use Rattle.bit_blast.proofs.Ordered.{op_ordered}
use Rattle.reached_steps.specs.Circuits.{IsInRow, IsOfBlock, StandsOnArguments, BlocksStandOnArguments}
use Rattle.reached_steps.proofs.Inputs.{AreOf, Reads, EachReads}
use Rattle.reached_steps.proofs.Plain.{equal_gates-read, equal_bit-of}
use Rattle.reached_steps.proofs.Blocks.{block_is_of}

-- ---- lists

pub each_if : {A : Type 0} (P : A → Type 0) (xs : List A) → ((x : A) → Contains xs x → P x) → AllByRecursion P xs
each_if P xs f = recursion_from_All P xs (All-weaker (Contains xs) P f xs (All-contains_itself xs))

-- ---- what gates read

-- a gate reads what holds of what it reads and of what stands before it
gate_narrowed : (S T : ℕ → Type 0) (g : ℕ) (k : GateKind) → ((x : ℕ) → S x → x < g → T x) → Reads S k → InputsBelow g k → Reads T k
gate_narrowed S T g (And a b) f h i = (f a.variable h.0 i.0, f b.variable h.1 i.1)
gate_narrowed S T g (Xor a b) f h i = (f a.variable h.0 i.0, f b.variable h.1 i.1)
gate_narrowed S T g (Ite c a b) f h i = (f c.variable h.0 i.0, f a.variable h.1 i.1, f b.variable h.2 i.2)

narrowed : (S T : ℕ → Type 0) (n : ℕ) → ((x : ℕ) → S x → x < n → T x) → (ks : List GateKind) (g : ℕ) → g + length ks ≤ n → EachReads S ks → AreOrdered g ks → EachReads T ks
narrowed S T n f [] g le h o = tt
narrowed S T n f (k ∷ ks) g le h o = (gate_narrowed S T g k (λ x s lt. f x s (omega arith)) h.0 o.0, narrowed S T n f ks (suc g) (omega arith) h.1 o.1)

row_narrowed : (S T : ℕ → Type 0) (n : ℕ) → ((x : ℕ) → S x → x < n → T x) → (a : List Literal) → AreOf S a → AreBelow n a → AreOf T a
row_narrowed S T n f [] h o = tt
row_narrowed S T n f (l ∷ a) h o = (f l.variable h.0 o.0, row_narrowed S T n f a h.1 o.1)

-- ---- the clauses of gates

gate_clauses-of : (T : ℕ → Type 0) (g : ℕ) (k : GateKind) → T g → Reads T k → AllByRecursion (AreOf T) (gate_clauses g k)
gate_clauses-of T g (And a b) own h = ((own, (h.0, tt)), ((own, (h.1, tt)), ((own, (h.0, (h.1, tt))), tt)))
gate_clauses-of T g (Xor a b) own h = ((own, (h.0, (h.1, tt))), ((own, (h.0, (h.1, tt))), ((own, (h.0, (h.1, tt))), ((own, (h.0, (h.1, tt))), tt))))
gate_clauses-of T g (Ite c a b) own h = ((own, (h.0, (h.1, tt))), ((own, (h.0, (h.1, tt))), ((own, (h.0, (h.2, tt))), ((own, (h.0, (h.2, tt))), tt))))

gates_clauses-of : (T : ℕ → Type 0) (ks : List GateKind) (g : ℕ) → ((x : ℕ) → g ≤ x → x < g + length ks → T x) → EachReads T ks → AllByRecursion (AreOf T) (gates_clauses g ks)
gates_clauses-of T [] g own h = tt
gates_clauses-of T (k ∷ ks) g own h =
    each_append (AreOf T) (gate_clauses g k) (gates_clauses (suc g) ks) (gate_clauses-of T g k (own g (omega arith) (omega arith)) h.0)
    (gates_clauses-of T ks (suc g) (λ x le lt. own x (omega arith) (omega arith)) h.1)

-- the clause has a literal of such a variable
abbrev pub Names : ℕ → ℕ → List Literal → Type 0
Names g h c = (l : Literal) × Contains c l × ((g ≤ l.variable) × (l.variable < h))

gate_clauses-name : (g n h : ℕ) (k : GateKind) → n ≤ g → g < h → AllByRecursion (Names n h) (gate_clauses g k)
gate_clauses-name g n h (And a b) le lt = (
  (negative_of g, (0, omega arith, refl), (le, lt)),
  ((negative_of g, (0, omega arith, refl), (le, lt)), ((positive_of g, (0, omega arith, refl), (le, lt)), tt)),
)
gate_clauses-name g n h (Xor a b) le lt = (
  (negative_of g, (0, omega arith, refl), (le, lt)),
  (
    (negative_of g, (0, omega arith, refl), (le, lt)),
    ((positive_of g, (0, omega arith, refl), (le, lt)), ((positive_of g, (0, omega arith, refl), (le, lt)), tt)),
  ),
)
gate_clauses-name g n h (Ite c a b) le lt = (
  (negative_of g, (0, omega arith, refl), (le, lt)),
  (
    (positive_of g, (0, omega arith, refl), (le, lt)),
    ((negative_of g, (0, omega arith, refl), (le, lt)), ((positive_of g, (0, omega arith, refl), (le, lt)), tt)),
  ),
)

gates_clauses-name : (ks : List GateKind) (g n h : ℕ) → n ≤ g → g + length ks ≤ h → AllByRecursion (Names n h) (gates_clauses g ks)
gates_clauses-name [] g n h le ge = tt
gates_clauses-name (k ∷ ks) g n h le ge =
    each_append (Names n h) (gate_clauses g k) (gates_clauses (suc g) ks) (gate_clauses-name g n h k le (omega arith)) (gates_clauses-name ks (suc g) n h (omega arith) (omega arith))

-- ---- blocks

-- the variables that a block may read, before it is known how many it makes
abbrev MayRead : ℕ → List (List Literal) → ℕ → Type 0
MayRead g rows x = (x ≡ 1) ⊎ (IsInRow rows x ⊎ (g ≤ x))

rows_in : (rows : List (List Literal)) (g : ℕ) → AllByRecursion (AreOf (MayRead g rows)) rows
rows_in rows g = each_if (AreOf (MayRead g rows)) rows (λ row k. each_if (λ l. MayRead g rows l.variable) row (λ l m. inr (inl (row, l, k, m, refl))))

read_of : (g : ℕ) (rows : List (List Literal)) (b : Block) (x : ℕ) → MayRead g rows x → x < g + length b.gates → IsOfBlock g rows b x
read_of g rows b x h lt = ⊎_elim (λ p. inl p) (λ p. ⊎_elim (λ q. inr (inl q)) (λ q. inr (inr (q, lt))) p) h

stands_of : (g : ℕ) (rows : List (List Literal)) (b : Block) → EachReads (MayRead g rows) b.gates → AreOf (MayRead g rows) b.bits → AreOrdered g b.gates → AreBelow (g + length b.gates) b.bits → StandsOnArguments g rows b
stands_of g rows b gates of ordered below =
    let S = MayRead g rows in
    let T = IsOfBlock g rows b in
    let n = g + length b.gates in
    let reads = narrowed S T n (read_of g rows b) b.gates g (omega arith) gates ordered in
    let bits = row_narrowed S T n (read_of g rows b) b.bits of below in
    let clauses = gates_clauses-of T b.gates g (λ x le lt. inr (inr (le, lt))) reads in
    record {
      bits = λ l k. each_member (λ m. T m.variable) b.bits l bits k;
      clauses = λ c l k m. each_member (λ m. T m.variable) c l (each_member (AreOf T) (gates_clauses g b.gates) c clauses k) m;
      own = λ c k. each_member (Names g n) (gates_clauses g b.gates) c (gates_clauses-name b.gates g g n (omega arith) (omega arith)) k;
    }

pub blocks_stand : BlocksStandOnArguments
blocks_stand g op rows b up all is =
    let ordered = op_ordered g op rows b up all is in
    let of = block_is_of (MayRead g rows) (inl refl) g (λ x le. inr (inr le)) op rows b (rows_in rows g) is in
    stands_of g rows b of.0 of.1 ordered.0 ordered.1

-- so it is for the circuit of `=`, whatever the lengths of the rows are
pub equality_stands : (g : ℕ) (a b : List Literal) → 1 < g → AreBelow g a → AreBelow g b → StandsOnArguments g (a ∷ b ∷ []) (equality a b g)
equality_stands g a b up ha hb =
    let rows = a ∷ b ∷ [] in
    let in_rows = rows_in (a ∷ b ∷ []) g in
    stands_of g rows (equality a b g)
    (equal_gates-read (MayRead g (a ∷ b ∷ [])) (inl refl) a b g true_literal (λ x le. inr (inr le)) in_rows.0 in_rows.1.0 (inl refl))
    (equal_bit-of (MayRead g (a ∷ b ∷ [])) (inl refl) a b g true_literal (λ x le. inr (inr le)) (inl refl), tt)
    (equal_gates-ordered a b g true_literal ha hb up)
    (equal_bit-below a b g true_literal up, tt)
