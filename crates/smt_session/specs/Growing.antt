-- A log that grows by the steps of a check.
use Rattle.std.specs.Prelude.{◌≡◌, ◌<◌, ℕ, List, [], ◌∷◌, ◌++◌, length, map, slice_get, Some, IsSome}
use Rattle.std.specs.List.{AllByRecursion}
use Rattle.cnf_base.specs.Literals.{Literal}
use Rattle.smt_terms.specs.declared.sort.Sort.TheVariants as sort
use Rattle.smt_terms.specs.Terms.{sort_of}
use Rattle.smt_terms.specs.Bits.{bits_in}
use Rattle.scope_selectors.specs.declared.live.Live.{Live}
use Rattle.script_state.specs.declared.answer.Asked.{Asked}
use Rattle.script_state.specs.States.{StateValue, assumptions}
use Rattle.proof_log.specs.declared.entry.Entry.{Entry}
use Rattle.proof_log.specs.Faults.{MakesNoTerm}
use Rattle.proof_log.specs.Places.{IsForTerm}
use Rattle.proof_log.specs.Stored.{LogValue, Stands, selector_in}
use Rattle.proof_text.specs.Entries.{entry_line}
use Rattle.accepted_proof.specs.Turns.{IsOfScript, AreStepsOf, with_steps}

-- what the step names of the script is as the script has it, and it has a line
abbrev pub IsStepFor : StateValue → Entry → Type 0
IsStepFor s e = IsOfScript s e × IsSome (entry_line e)

abbrev pub AreStepsFor : StateValue → List Entry → Type 0
AreStepsFor s = AllByRecursion (IsStepFor s)

-- the step gives no term bits
abbrev pub GivesNoBits : Entry → Type 0
GivesNoBits e = (t : ℕ) → IsForTerm t e → ⊥

-- the log has more steps, all of them for the script, none of which makes a term or gives one bits, and stands over its terms
pub record Grows (s : StateValue) (old new : LogValue) : Type 0 where
  pub added : List Entry
  pub entries : new.entries ≡ old.entries ++ added
  pub each : AreStepsFor s added
  pub still : AllByRecursion MakesNoTerm added
  pub bare : AllByRecursion GivesNoBits added
  pub stands : Stands s.terms.nodes new

-- the log has more steps, which may follow one after the other in the one state, and lead to the other
pub record LeadsTo (s : StateValue) (old : LogValue) (s' : StateValue) (new : LogValue) : Type 0 where
  pub added : List Entry
  pub entries : new.entries ≡ old.entries ++ added
  pub steps : AreStepsOf s old.entries added
  pub state : s' ≡ with_steps s added
  pub stands : Stands s'.terms.nodes new

-- the term has bits
abbrev pub HasBits : LogValue → ℕ → Type 0
HasBits log t = IsSome (bits_in log.bits t)

-- the assertion's term is held, of sort Bool, and the one that the script has under the assertion's number
pub record IsAsserted (s : StateValue) (a : Live) : Type 0 where
  pub held : a.term < length s.terms.nodes
  pub truth : sort_of s.terms.nodes a.term ≡ sort.Bool
  pub known : slice_get s.scopes.terms a.assertion ≡ Some a.term

-- these are the selectors of the assertions, in order
abbrev pub AreSelectors : LogValue → List Live → List Literal → Type 0
AreSelectors log live given = map (λ (a : Live). selector_in log.selectors a.assertion) live ≡ map Some given

-- ---- what a check assumes

-- the term has one bit
abbrev pub HasBit : LogValue → ℕ → Type 0
HasBit log t = (l : Literal) × (bits_in log.bits t ≡ Some (l ∷ []))

-- these are the bits of the assumptions, in order
abbrev pub AreBits : LogValue → List Asked → List Literal → Type 0
AreBits log asked given = map (λ (a : Asked). bits_in log.bits a.term) asked ≡ map (λ l. Some (l ∷ [])) given

-- these are the selectors of the live assertions, and then the bits of the assumptions
pub record AreGiven (s : StateValue) (log : LogValue) (given : List Literal) : Type 0 where
  pub selectors : List Literal
  pub bits : List Literal
  pub all : given ≡ selectors ++ bits
  pub chosen : AreSelectors log s.scopes.live selectors
  pub assumed : AreBits log (assumptions s) bits
