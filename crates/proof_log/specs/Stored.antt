-- What contracts see of a stored log, and when it stands over a list of terms.
use Rattle.std.specs.Prelude.{◌≡◌, ℕ, suc, ◌+◌, ◌<◌, ◌≤◌, Contains, Bool, true, false, List, ◌++◌, [], ◌∷◌, length, take, Option, Some, None, IsSome, slice_index_or}
use Rattle.cnf_base.specs.Literals.{Literal, positive_of, true_literal}
use Rattle.cnf_base.specs.Clauses.{lit_true}
use Rattle.cnf_base.specs.Assignments.{AreBelow, fresh_bits}
use Rattle.cnf_base.specs.Choices.{equal_gates, equal_bit}
use Rattle.cnf_base.specs.declared.clause.ClauseId.{ClauseId}
use Rattle.cnf_base.specs.Gates.{gates_clauses}
use Rattle.smt_terms.specs.declared.node.Node.{Node}
use Rattle.smt_terms.specs.Terms.{IsTermList, sort_of}
use Rattle.smt_terms.specs.Values.{Interpretation, is_true, same_value, value}
use Rattle.smt_terms.specs.Bits.{TermBits, bits_in, image_in, with_bits, with_image}
use Rattle.bv_rules.specs.Matches.{KeepValues}
use Rattle.bit_blast.specs.Blocks.{Block, EachShort}
use Rattle.bit_blast.specs.Meanings.{AreBitsOf}
use Rattle.theory_terms.specs.declared.lemma.Lemma.{Lemma}
use Rattle.proof_log.specs.declared.entry.RuleUse.{RuleUse}
use Rattle.proof_log.specs.declared.entry.Entry.{Entry}
use Rattle.proof_log.specs.declared.entry.Entry.TheVariants as step
use Rattle.proof_log.specs.declared.equals.EqualRow.{EqualRow}
use Rattle.proof_log.specs.Pairs.{found, with_pair}
use Rattle.proof_log.specs.Logs.{Asserted, clause_at, entry_at, with_value, plain_width, selector_clause, state_of, IsLog}
use Rattle.proof_log.specs.Meanings.{meaning, IsSound}

-- the equalities that have a variable: the upper term, the lower one, and the literal with the position of its step
abbrev pub EqualRows : Type 0
EqualRows = List (ℕ × (ℕ × EqualRow))

-- The next variable, how many terms the log stands over, the bits of terms with their images, the selectors of assertions by number, the
-- equalities that have a variable, the steps, and the clauses of each position.
pub record LogValue : Type 0 where
  pub next : ℕ
  pub over : ℕ
  pub bits : List TermBits
  pub selectors : List (Option Literal)
  pub equals : EqualRows
  pub entries : List Entry
  pub clauses : List (List (List Literal))

-- the selector of an assertion
abbrev pub selector_in : List (Option Literal) → ℕ → Option Literal
selector_in held a = slice_index_or held a None

-- the literal of an equality, and the position of the step that made it
abbrev pub row_literal : Option EqualRow → Option Literal
row_literal None = None
row_literal (Some r) = Some r.literal

abbrev pub equal_in : EqualRows → ℕ → ℕ → Option Literal
equal_in equals t u = row_literal (found equals t u)

abbrev pub row_place : Option EqualRow → Option ℕ
row_place None = None
row_place (Some r) = Some r.place

abbrev pub pair_place : EqualRows → ℕ → ℕ → Option ℕ
pair_place equals t u = row_place (found equals t u)

abbrev pub literal_of : Option Asserted → Option Literal
literal_of None = None
literal_of (Some r) = Some r.literal

-- the steps are a log over these terms, and what is kept is what they leave
pub record IsKept (nodes : List Node) (log : LogValue) : Type 0 where
  pub steps : IsLog nodes log.entries
  pub next : log.next ≡ (state_of nodes log.entries).next
  pub bits : (t : ℕ) → bits_in log.bits t ≡ (state_of nodes log.entries).bits t
  pub images : (t : ℕ) → image_in log.bits t ≡ (state_of nodes log.entries).images t
  pub selectors : (a : ℕ) → selector_in log.selectors a ≡ literal_of ((state_of nodes log.entries).selectors a)
  pub equals : (t u : ℕ) → equal_in log.equals t u ≡ (state_of nodes log.entries).equals t u
  pub pairs : (t u : ℕ) (r : EqualRow) → found log.equals t u ≡ Some r → entry_at log.entries r.place ≡ Some (step.Equal t u)
  pub clauses : log.clauses ≡ (state_of nodes log.entries).clauses
  pub short : EachShort log.bits

-- these terms begin with those that the log stands over, each of which is over earlier ones
pub record Stands (nodes : List Node) (log : LogValue) : Type 0 where
  pub within : log.over ≤ length nodes
  pub terms : IsTermList (take log.over nodes)
  pub kept : IsKept (take log.over nodes) log

-- What a stored log has that stands over these terms: clauses that are sound, terms with the bits of their values, as
-- many as their sorts have, images that have the bits and the values of their terms, selectors that are variables and the
-- values of the terms of their assertions, and equalities whose variables tell whether their terms have one value.
pub record IsSettled (nodes : List Node) (log : LogValue) : Type 0 where
  pub kept : IsKept nodes log
  pub next : 1 < log.next
  pub clauses : (id : ClauseId) (c : List Literal) → clause_at log.clauses id ≡ Some c → AreBelow log.next c × IsSound nodes log.entries c
  pub bits : (t : ℕ) (b : List Literal) → bits_in log.bits t ≡ Some b →
      (t < length nodes)
      × (plain_width (sort_of nodes t) ≡ Some (length b))
      × AreBelow log.next b
      × ((M : Interpretation) → AreBitsOf (meaning M nodes log.entries) (sort_of nodes t) b (value M nodes t))
  pub images : (M : Interpretation) → KeepValues nodes (value M nodes) (image_in log.bits)
  pub linked : (t u : ℕ) → image_in log.bits t ≡ Some u → IsSome (bits_in log.bits u) × (bits_in log.bits t ≡ bits_in log.bits u)
  pub selectors : (a : ℕ) (s : Literal) → selector_in log.selectors a ≡ Some s →
      (t : ℕ)
      × Contains log.entries (step.Selector a t)
      × (s.positive ≡ true)
      × (s.variable < log.next)
      × ((M : Interpretation) → lit_true (meaning M nodes log.entries) s ≡ is_true (value M nodes t))
  pub equals : (t u : ℕ) (l : Literal) → equal_in log.equals t u ≡ Some l →
      Contains log.entries (step.Equal t u)
      × (l.positive ≡ true)
      × (l.variable < log.next)
      × ((M : Interpretation) → lit_true (meaning M nodes log.entries) l ≡ same_value (value M nodes t) (value M nodes u))

-- ---- what a stored step has

pub record StepValue : Type 0 where
  pub entry : Entry
  pub clauses : List (List Literal)

-- the clauses of a step: a chain has its own clause, another step those that were made with it
abbrev pub clauses_of : Entry → List (List Literal) → List (List Literal)
clauses_of (step.Chain c hints) made = c ∷ []
clauses_of _ made = made

-- the steps in order, and the clauses of each position
pub record StepsValue : Type 0 where
  pub entries : List Entry
  pub clauses : List (List (List Literal))

-- one step more
abbrev pub with_step : StepsValue → Entry → List (List Literal) → StepsValue
with_step v e made = record { entries = v.entries ++ e ∷ []; clauses = v.clauses ++ clauses_of e made ∷ [] }

-- ---- what a log is after a step over so many terms

-- new variables for the bits of a term
abbrev pub with_leaf : LogValue → ℕ → ℕ → ℕ → LogValue
with_leaf l over t n = record {
  next = l.next + n;
  over = over;
  bits = with_bits l.bits t (fresh_bits l.next n);
  selectors = l.selectors;
  equals = l.equals;
  entries = l.entries ++ step.Leaf t ∷ [];
  clauses = l.clauses ++ [] ∷ [];
}

-- the circuit of a term
abbrev pub with_block : LogValue → ℕ → ℕ → Block → LogValue
with_block l over t b = record {
  next = l.next + length b.gates;
  over = over;
  bits = with_bits l.bits t b.bits;
  selectors = l.selectors;
  equals = l.equals;
  entries = l.entries ++ step.Encode t ∷ [];
  clauses = l.clauses ++ gates_clauses l.next b.gates ∷ [];
}

-- the bits of the term to which a rule takes another, for that other
abbrev pub with_rewrite : LogValue → ℕ → RuleUse → LogValue
with_rewrite l over r = record {
  next = l.next;
  over = over;
  bits = with_image l.bits r.from r.to;
  selectors = l.selectors;
  equals = l.equals;
  entries = l.entries ++ step.Rewrite r ∷ [];
  clauses = l.clauses ++ [] ∷ [];
}

-- the term got this circuit, if there is one, else all is as before
abbrev pub Encodes : Option Block → Bool → ℕ → ℕ → LogValue → LogValue → Type 0
Encodes None done over t old new = (done ≡ false) × (new ≡ old)
Encodes (Some b) done over t old new = (done ≡ true) × (new ≡ with_block old over t b)

-- a variable for an assertion
pub record IsSelected (old new : LogValue) (over a t : ℕ) (bit : Literal) : Type 0 where
  pub next : new.next ≡ suc old.next
  pub terms : new.over ≡ over
  pub bits : new.bits ≡ old.bits
  pub equals : new.equals ≡ old.equals
  pub selectors : (x : ℕ) → selector_in new.selectors x ≡ with_value (selector_in old.selectors) a (positive_of old.next) x
  pub entries : new.entries ≡ old.entries ++ step.Selector a t ∷ []
  pub clauses : new.clauses ≡ old.clauses ++ (selector_clause old.next bit ∷ []) ∷ []

-- a variable for the equality of two terms with these bits
pub record IsPairedBy (old new : LogValue) (over t u : ℕ) (a b : List Literal) : Type 0 where
  pub next : new.next ≡ old.next + length (equal_gates old.next true_literal a b)
  pub terms : new.over ≡ over
  pub bits : new.bits ≡ old.bits
  pub selectors : new.selectors ≡ old.selectors
  pub equals : (x y : ℕ) →
      found new.equals x y ≡ with_pair (found old.equals) t u (record { literal = equal_bit old.next true_literal a b; place = suc (length old.entries) }) x y
  pub entries : new.entries ≡ old.entries ++ step.Equal t u ∷ []
  pub clauses : new.clauses ≡ old.clauses ++ gates_clauses old.next (equal_gates old.next true_literal a b) ∷ []

-- both terms have bits, as many
abbrev pub HaveEqualBits : List TermBits → ℕ → ℕ → Type 0
HaveEqualBits bits t u = (a : List Literal) × (b : List Literal) × (bits_in bits t ≡ Some a) × (bits_in bits u ≡ Some b) × (length a ≡ length b)

-- the pair got its variable over the bits of its terms
abbrev pub IsPaired : LogValue → LogValue → ℕ → ℕ → ℕ → Type 0
IsPaired old new over t u = (a b : List Literal) → bits_in old.bits t ≡ Some a → bits_in old.bits u ≡ Some b → IsPairedBy old new over t u a b

-- the clause of a lemma
abbrev pub with_lemma : LogValue → ℕ → Lemma → List Literal → LogValue
with_lemma l over lemma c = record {
  next = l.next;
  over = over;
  bits = l.bits;
  selectors = l.selectors;
  equals = l.equals;
  entries = l.entries ++ step.Lemma lemma ∷ [];
  clauses = l.clauses ++ (c ∷ []) ∷ [];
}

-- a step that makes no variable and no clause but a chain's own
abbrev pub with_plain : LogValue → ℕ → Entry → LogValue
with_plain l over e = record {
  next = l.next;
  over = over;
  bits = l.bits;
  selectors = l.selectors;
  equals = l.equals;
  entries = l.entries ++ e ∷ [];
  clauses = l.clauses ++ clauses_of e [] ∷ [];
}

-- ---- what a call tells

-- the step was added at this position, over these terms
pub record IsPushed (nodes : List Node) (old new : LogValue) (e : Entry) (p : ℕ) : Type 0 where
  pub position : p ≡ suc (length old.entries)
  pub entries : new.entries ≡ old.entries ++ e ∷ []
  pub over : new.over ≡ length nodes
  pub stands : Stands nodes new
