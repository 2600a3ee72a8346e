-- The keys of applications under an assignment, one behind another, and where each stands.
use Rattle.std.specs.Prelude.{◌≡◌, ◌-◌, ◌≤◌, ℕ, List, length, take, drop, Contains}
use Rattle.std.specs.Ordering.{nat_cmp}
use Rattle.std.specs.declared.cmp.Ordering.{Ordering}
use Rattle.std.specs.Cmp.Lexicographic.{slice_cmp}
use Rattle.smt_terms.specs.declared.node.Node.{Node}
use Rattle.smt_terms.specs.Values.{Value}
use Rattle.access_walk.specs.declared.congruence.Application.{Application}
use Rattle.access_walk.specs.declared.congruence.Call.{Call}
use Rattle.access_walk.specs.Congruent.{code_of, key_of}

-- the key of a call among the keys
abbrev pub key_in : List ℕ → Call → List ℕ
key_in keys c = take (c.to - c.from) (drop c.from keys)

-- calls by their keys
abbrev pub call_cmp : List ℕ → Call → Call → Ordering
call_cmp keys a b = slice_cmp nat_cmp (key_in keys a) (key_in keys b)

-- the call is of this application, whose key stands there
pub record IsCallOf (nodes : List Node) (val : ℕ → Value) (keys : List ℕ) (a : Application) (c : Call) : Type 0 where
  pub term : c.term ≡ a.term
  pub rising : c.from ≤ c.to
  pub within : c.to ≤ length keys
  pub key : key_in keys c ≡ key_of nodes val a

-- each call is of one of the applications, and each of these has one
pub record AreCalls (nodes : List Node) (val : ℕ → Value) (applications : List Application) (keys : List ℕ) (calls : List Call) : Type 0 where
  pub each : (c : Call) → Contains calls c → (a : Application) × Contains applications a × IsCallOf nodes val keys a c
  pub all : (a : Application) → Contains applications a → (c : Call) × Contains calls c × IsCallOf nodes val keys a c

-- two calls that have one number where they have one key
abbrev pub IsWhole : (ℕ → Value) → List ℕ → Call → Call → Type 0
IsWhole val keys a b = key_in keys a ≡ key_in keys b → code_of (val a.term) ≡ code_of (val b.term)

-- two calls of one key and different numbers
abbrev pub IsBroken : (ℕ → Value) → List ℕ → Call → Call → Type 0
IsBroken val keys a b = (key_in keys a ≡ key_in keys b) × (code_of (val a.term) ≡ code_of (val b.term) → ⊥)
