-- Operators on two or more arguments, as applications to two (SMT-LIB 2.6, section 3.7.1: the attributes left-assoc,
-- right-assoc, chainable and pairwise). Terms are made in the order that is written here.
use Rattle.std.specs.Prelude.{◌≡◌, ℕ, ◌+◌, Bool, true, false, ◌&&◌, nat_le, List, [], ◌∷◌, ◌++◌, Option, Some, None, Result, Ok, Err, if◌then◌else◌}
use Rattle.std.specs.List.{list_all}
use Rattle.smt_syntax.specs.Walk.{◌>>=◌}
use Rattle.smt_terms.specs.declared.sort.Sort.{Sort}
use Rattle.smt_terms.specs.declared.operator.Operator.{Operator}
use Rattle.smt_terms.specs.declared.operator.Operator.TheVariants.{True, Not, And, Equal, Concat}
use Rattle.smt_terms.specs.declared.node.Op.TheVariants.{Plain}
use Rattle.smt_terms.specs.declared.node.Node.{Node}
use Rattle.smt_terms.specs.Nodes.{node_of}
use Rattle.smt_terms.specs.Same.{same_sort}
use Rattle.smt_terms.specs.Ranks.{is_word, width_of}
use Rattle.smt_terms.specs.Terms.{TermsValue, held_sort}
use Rattle.smt_build.specs.declared.fault.BuildFault.{BuildFault}
use Rattle.smt_build.specs.declared.fault.BuildFault.TheVariants.{WrongSort, Width}
use Rattle.smt_build.specs.declared.fault.BuildError.{BuildError}
use Rattle.smt_build.specs.declared.fault.BuildError.TheVariants.{NoMemory, Fault}
use Rattle.smt_build.specs.declared.operators.Arity.{Arity}
use Rattle.smt_build.specs.declared.operators.Arity.TheVariants.{Ranked, LeftAssociative, RightAssociative, Chainable, Pairwise, Joining}
use Rattle.smt_build.specs.Building.{Built, made}

-- ---- sorts of arguments

abbrev pub has_sort : Sort → Option Sort → Bool
has_sort s None = false
has_sort s (Some t) = same_sort s t

-- these terms have the sort of the first
abbrev pub are_alike_by : List Node → Option Sort → List ℕ → Bool
are_alike_by nodes None ts = false
are_alike_by nodes (Some s) ts = list_all (λ t. has_sort s (held_sort nodes t)) ts

abbrev pub are_alike : List Node → ℕ → List ℕ → Bool
are_alike nodes t ts = are_alike_by nodes (held_sort nodes t) ts

abbrev pub is_word_sort : Option Sort → Bool
is_word_sort None = false
is_word_sort (Some s) = is_word s

abbrev pub are_words : List Node → List ℕ → Bool
are_words nodes ts = list_all (λ t. is_word_sort (held_sort nodes t)) ts

abbrev pub width_in : Option Sort → ℕ
width_in None = 0
width_in (Some s) = width_of s

-- behind so many bits, all these words have 128 bits at most
abbrev pub joins_within : List Node → ℕ → List ℕ → Bool
joins_within nodes n [] = true
joins_within nodes n (t ∷ ts) = let m = n + width_in (held_sort nodes t) in nat_le m 128 && joins_within nodes m ts

-- ---- applications to two

-- the term of an operator and one or two terms
abbrev pub of_one : Operator → TermsValue → ℕ → Built
of_one o terms a = made terms (node_of (Plain o) (a ∷ []))

abbrev pub of_two : Operator → TermsValue → ℕ → ℕ → Built
of_two o terms a b = made terms (node_of (Plain o) (a ∷ b ∷ []))

-- one step for each of a list, from the first on; the first fault ends them
unfoldable pub each : {S E : Type 0} → (S → ℕ → Result S E) → S → List ℕ → Result S E
each step s [] = Ok s
each step s (t ∷ ts) = step s t >>= λ r. each step r ts

-- grouped from the left, behind this term
abbrev pub left : Operator → TermsValue → ℕ → List ℕ → Built
left o terms a bs = each (λ r b. of_two o r.1 r.0 b) (a, terms) bs

-- grouped from the right
abbrev pub right : Operator → TermsValue → ℕ → List ℕ → Built
right o terms a [] = Ok (a, terms)
right o terms a (b ∷ bs) = right o terms b bs >>= λ r. of_two o r.1 a r.0

-- the equalities of neighbours that were found, with the last term and the terms then
pub record Chain : Type 0 where
  pub found : List ℕ
  pub last : ℕ
  pub terms : TermsValue

abbrev pub next_equal : Chain → ℕ → Result Chain BuildFault
next_equal c b = of_two Equal c.terms c.last b >>= λ r. Ok (record { found = c.found ++ r.0 ∷ []; last = b; terms = r.1 })

-- the equalities of neighbours, from left to right
abbrev pub chain : TermsValue → ℕ → List ℕ → Result Chain BuildFault
chain terms a bs = each next_equal (record { found = []; last = a; terms = terms }) bs

-- a list of terms with the terms then, or a fault
abbrev pub Listed : Type 0
Listed = Result (List ℕ × TermsValue) BuildFault

-- two terms are not equal
abbrev pub apart : TermsValue → ℕ → ℕ → Built
apart terms a b = of_two Equal terms a b >>= λ r. of_one Not r.1 r.0

-- a term is none of these, each behind those found
abbrev pub next_apart : ℕ → List ℕ × TermsValue → ℕ → Listed
next_apart a r b = apart r.1 a b >>= λ q. Ok (r.0 ++ q.0 ∷ [], q.1)

abbrev pub apart_from : ℕ → TermsValue → List ℕ → List ℕ → Listed
apart_from a terms found bs = each (next_apart a) (found, terms) bs

-- no two of these are equal: each is none of those behind it
abbrev pub all_apart : TermsValue → List ℕ → List ℕ → Listed
all_apart terms found [] = Ok (found, terms)
all_apart terms found (a ∷ bs) = apart_from a terms found bs >>= λ r. all_apart r.1 r.0 bs

-- all of these are true
abbrev pub all_true : TermsValue → List ℕ → Built
all_true terms [] = made terms (node_of (Plain True) [])
all_true terms (t ∷ ts) = left And terms t ts

abbrev pub chained : TermsValue → ℕ → List ℕ → Built
chained terms a bs = chain terms a bs >>= λ c. all_true c.terms c.found

abbrev pub pairwise : TermsValue → ℕ → List ℕ → Built
pairwise terms a bs = all_apart terms [] (a ∷ bs) >>= λ r. all_true r.1 r.0

-- ---- applications

-- Joined words may be of any widths, which sum to 128 at most.
abbrev pub joined : TermsValue → ℕ → List ℕ → Built
joined terms a bs = if joins_within terms.nodes 0 (a ∷ bs) then left Concat terms a bs else Err Width

abbrev pub by_arity : Operator → Arity → TermsValue → ℕ → List ℕ → Built
by_arity o Ranked terms a bs = Err WrongSort
by_arity o LeftAssociative terms a bs = left o terms a bs
by_arity o RightAssociative terms a bs = right o terms a bs
by_arity o Chainable terms a bs = chained terms a bs
by_arity o Pairwise terms a bs = pairwise terms a bs
by_arity o Joining terms a bs = joined terms a bs

abbrev pub are_taken : Arity → List Node → ℕ → List ℕ → Bool
are_taken Joining nodes a bs = are_words nodes (a ∷ bs)
are_taken _ nodes a bs = are_alike nodes a bs

-- two or more arguments; faults of their number and sorts come before that of the width, and this before that of the limit
abbrev pub grouped : Operator → Arity → TermsValue → List ℕ → Built
grouped o arity terms [] = Err WrongSort
grouped o arity terms (a ∷ []) = Err WrongSort
grouped o arity terms (a ∷ b ∷ bs) = if are_taken arity terms.nodes a (b ∷ bs) then by_arity o arity terms a (b ∷ bs) else Err WrongSort

-- the term of an operator and its arguments
abbrev pub operation : Operator → Arity → TermsValue → List ℕ → Built
operation o Ranked terms args = made terms (node_of (Plain o) args)
operation o arity terms args = grouped o arity terms args

-- ---- what the code answers

-- The answer is what is listed, with the terms then.
abbrev pub Lists : Listed → Result (Unit {0}) BuildError → List ℕ → TermsValue → Type 0
Lists to (Ok u) found terms = to ≡ Ok (found, terms)
Lists to (Err (Fault f)) found terms = to ≡ Err f
Lists to (Err NoMemory) found terms = Unit {0}

-- The answer is what the chain finds, with the terms then.
abbrev pub Chains : Result Chain BuildFault → Result (Unit {0}) BuildError → List ℕ → TermsValue → Type 0
Chains to (Ok u) found terms = (last : ℕ) × (to ≡ Ok (record { found = found; last = last; terms = terms }))
Chains to (Err (Fault f)) found terms = to ≡ Err f
Chains to (Err NoMemory) found terms = Unit {0}
