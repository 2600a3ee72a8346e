-- The hub: which calls a pass may make, what each adds to the log, and what it answers.
use Rattle.std.specs.Prelude.{◌≡◌, ◌==◌, ◌&&◌, ◌⊎◌, ◌<◌, ◌^◌, ℕ, suc, ltb, Bool, true, false, not, if◌then◌else◌, List, [], ◌∷◌, ◌++◌, length, Option, Some, None, slice_index_or}
use Rattle.cnf_base.specs.Literals.{Literal}
use Rattle.cnf_base.specs.Assignments.{AreBelow, ClausesBelow}
use Rattle.smt_terms.specs.declared.node.Node.{Node}
use Rattle.smt_terms.specs.Terms.{IsTermList}
use Rattle.proof_log.specs.declared.entry.Entry.{Entry}
use Rattle.proof_log.specs.declared.entry.Entry.TheVariants as step
use Rattle.proof_log.specs.Logs.{clause_at, state_of, IsStep, IsPair, IsLemma, IsLog}
use Rattle.proof_log.specs.Meanings.{LogIsSound, LogIsOrdered}
use Rattle.proof_log.specs.Places.{place_of_pair}
use Rattle.proof_log.specs.Stored.{LogValue, Stands}
use Rattle.cube_tree.specs.Closing.{Closes}
use Rattle.proof_log.specs.LemmaBoards.{Adds}
use Rattle.hub_core.specs.declared.events.Call.{Call}
use Rattle.hub_core.specs.declared.events.Call.TheVariants.{Define, PutLemma, PutChain, Claim, Close, Spend, Found}
use Rattle.hub_core.specs.declared.events.Reply.{Reply}
use Rattle.hub_core.specs.declared.events.Reply.TheVariants.{At, Cube, Done}
use Rattle.hub_core.specs.declared.events.Event.{Event}

-- what the hub is opened over: the terms, the log, the literals of each cube, and those that the check assumes
pub record HubValue : Type 0 where
  pub nodes : List Node
  pub log : LogValue
  pub cubes : List (List Literal)
  pub assumed : List Literal

-- The terms are well sorted, and begin with those that the log stands over. There are fewer than 2^32 cubes. Cubes and
-- assumed literals are of variables that the log has.
pub record IsOpening (law : HubValue) : Type 0 where
  pub listed : IsTermList law.nodes
  pub stands : Stands law.nodes law.log
  pub count : length law.cubes < 2 ^ 32
  pub cubes_below : ClausesBelow law.log.next law.cubes
  pub assumed_below : AreBelow law.log.next law.assumed

-- What a history makes: the steps of the whole log, how many cubes are claimed, which pass has which of them open, the
-- position at which each was closed, which are spent, and whether a model was found.
pub record HubView : Type 0 where
  pub log : List Entry
  pub claimed : ℕ
  pub open_for : ℕ → ℕ → Bool
  pub closed : ℕ → Option ℕ
  pub spent : ℕ → Bool
  pub found : Bool

abbrev pub opening : HubValue → HubView
opening law = record { log = law.log.entries; claimed = 0; open_for = λ n c. false; closed = λ c. None; spent = λ c. false; found = false }

-- ---- what a call does

-- the step that gives the equality of two terms a variable, where no step of the log has
abbrev pub new_pair : Option ℕ → ℕ → ℕ → List Entry
new_pair None t u = step.Equal t u ∷ []
new_pair (Some p) t u = []

-- the steps that a call adds to the log
abbrev pub added : List Entry → Call → List Entry
added log (Define t u) = new_pair (place_of_pair log t u) t u
added log (PutLemma lemma) = step.Lemma lemma ∷ []
added log (PutChain c hints) = step.Chain c hints ∷ []
added log Claim = []
added log (Close c p) = []
added log (Spend c) = []
added log (Found c) = []

-- whether a claim gives a cube
abbrev pub has_next : HubValue → HubView → Bool
has_next law v = not v.found && ltb v.claimed (length law.cubes)

-- another value for one pass and one cube
abbrev pub with_open : (ℕ → ℕ → Bool) → ℕ → ℕ → Bool → ℕ → ℕ → Bool
with_open f n c b m d = if (m == n) && (d == c) then b else f m d

-- another value for one cube
abbrev pub set_at : {A : Type 0} → (ℕ → A) → ℕ → A → ℕ → A
set_at f c x d = if d == c then x else f d

abbrev pub claim_after : HubView → ℕ → Bool → HubView
claim_after v n true = record v { claimed = suc v.claimed; open_for = with_open v.open_for n v.claimed true }
claim_after v n false = v

-- what a call of a pass makes of it
abbrev pub call_after : HubValue → HubView → ℕ → Call → HubView
call_after law v n (Define t u) = record v { log = v.log ++ added v.log (Define t u) }
call_after law v n (PutLemma lemma) = record v { log = v.log ++ added v.log (PutLemma lemma) }
call_after law v n (PutChain c hints) = record v { log = v.log ++ added v.log (PutChain c hints) }
call_after law v n Claim = claim_after v n (has_next law v)
call_after law v n (Close c p) = record v { open_for = with_open v.open_for n c false; closed = set_at v.closed c (Some p) }
call_after law v n (Spend c) = record v { open_for = with_open v.open_for n c false; spent = set_at v.spent c true }
call_after law v n (Found c) = record v { open_for = with_open v.open_for n c false; found = true }

abbrev pub run_from : HubValue → HubView → List Event → HubView
run_from law v [] = v
run_from law v (e ∷ es) = run_from law (call_after law v e.pass e.call) es

-- what the hub has after a history
abbrev pub view_of : HubValue → List Event → HubView
view_of law history = run_from law (opening law) history

-- ---- what is permitted

-- the first clause of the position closes the cube
abbrev pub IsClosedAt : HubValue → List Entry → ℕ → ℕ → Type 0
IsClosedAt law log c p = Closes (clause_at (state_of law.nodes log).clauses) law.assumed (slice_index_or law.cubes c []) p

-- The pass may make this call. A pair may be defined again; a lemma and a chain are valid steps; what became of a cube is told
-- once, by the pass that claimed it.
abbrev pub may : HubValue → HubView → ℕ → Call → Type 0
may law v n (Define t u) = IsPair law.nodes (state_of law.nodes v.log) t u
may law v n (PutLemma lemma) = IsLemma law.nodes (state_of law.nodes v.log) lemma
may law v n (PutChain c hints) = IsStep law.nodes (state_of law.nodes v.log) (step.Chain c hints)
may law v n Claim = Unit {0}
may law v n (Close c p) = (v.open_for n c ≡ true) × IsClosedAt law v.log c p
may law v n (Spend c) = v.open_for n c ≡ true
may law v n (Found c) = v.open_for n c ≡ true

abbrev pub permitted : HubValue → List Event → ℕ → Call → Type 0
permitted law history n call = may law (view_of law history) n call

-- each event was permitted when it came
abbrev pub AreMade : HubValue → HubView → List Event → Type 0
AreMade law v [] = Unit {0}
AreMade law v (e ∷ es) = may law v e.pass e.call × AreMade law (call_after law v e.pass e.call) es

abbrev pub IsHistory : HubValue → List Event → Type 0
IsHistory law history = AreMade law (opening law) history

-- ---- events and replies

abbrev pub by_of : Event → ℕ
by_of e = e.pass

abbrev pub event : ℕ → Call → Event
event n call = record { pass = n; call = call }

abbrev pub claim_reply : Bool → ℕ → Reply
claim_reply true c = Cube (Some c)
claim_reply false c = Cube None

-- the position of a pair: that of its step, else the next one
abbrev pub pair_or : Option ℕ → ℕ → ℕ
pair_or None next = next
pair_or (Some p) next = p

-- the answer to a call
abbrev pub answer : HubValue → HubView → Call → Reply
answer law v (Define t u) = At (pair_or (place_of_pair v.log t u) (suc (length v.log)))
answer law v (PutLemma lemma) = At (suc (length v.log))
answer law v (PutChain c hints) = At (suc (length v.log))
answer law v Claim = claim_reply (has_next law v) v.claimed
answer law v (Close c p) = Done
answer law v (Spend c) = Done
answer law v (Found c) = Done

abbrev pub reply : HubValue → List Event → Call → Reply
reply law history call = answer law (view_of law history) call

-- ---- what holds of every history

-- each cube that was closed is closed by the clause at its position
abbrev pub AreClosed : HubValue → HubView → Type 0
AreClosed law v = (c p : ℕ) → v.closed c ≡ Some p → IsClosedAt law v.log c p

-- a pass has the cube open, or it is closed, or spent, or a model was found
abbrev pub IsAccounted : HubView → ℕ → Type 0
IsAccounted v c = ((n : ℕ) × (v.open_for n c ≡ true)) ⊎ (((p : ℕ) × (v.closed c ≡ Some p)) ⊎ ((v.spent c ≡ true) ⊎ (v.found ≡ true)))

-- so it is with each cube that was claimed
abbrev pub AreAccounted : HubView → Type 0
AreAccounted v = (c : ℕ) → c < v.claimed → IsAccounted v c

-- The steps are a log: those that the hub was opened over, then chains, lemmas and equalities. Each clause is true in every
-- interpretation, each variable was made by one step, and hints are of earlier positions.
pub record IsSoundHistory (law : HubValue) (history : List Event) : Type 0 where
  pub steps : IsLog law.nodes (view_of law history).log
  pub grows : Adds law.log.entries (view_of law history).log
  pub sound : LogIsSound law.nodes (view_of law history).log
  pub ordered : LogIsOrdered law.nodes (view_of law history).log
  pub closed : AreClosed law (view_of law history)
  pub accounted : AreAccounted (view_of law history)

-- ---- when all is told

-- no pass has a cube open, and a claim would give none
pub record IsDone (law : HubValue) (v : HubView) : Type 0 where
  pub none_open : (n c : ℕ) → v.open_for n c ≡ false
  pub none_left : has_next law v ≡ false

-- the cube is closed by the clause at a position, or it is spent
abbrev pub IsTold : HubValue → HubView → ℕ → Type 0
IsTold law v c = ((p : ℕ) × (v.closed c ≡ Some p) × IsClosedAt law v.log c p) ⊎ (v.spent c ≡ true)

-- a model was found, or what became of each cube is told
abbrev pub IsAllTold : HubValue → HubView → Type 0
IsAllTold law v = (v.found ≡ true) ⊎ ((c : ℕ) → c < length law.cubes → IsTold law v c)
