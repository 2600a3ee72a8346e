-- The state of a session (SMT-LIB 2.6, section 4.1).
use Rattle.std.specs.Prelude.{◌≡◌, ℕ, ◌<◌, ◌≤◌, ◌^◌, ◌++◌, Bool, true, List, [], length, map, nat_le, slice_get, take, All, AllPairs, Option, Some, None}
use Rattle.std.specs.List.{AllByRecursion}
use Rattle.smt_terms.specs.declared.sort.Sort.{Sort}
use Rattle.smt_terms.specs.declared.sort.Sort.TheVariants as sort
use Rattle.smt_terms.specs.declared.sort.Signature.{Signature}
use Rattle.smt_terms.specs.declared.node.Node.{Node}
use Rattle.smt_terms.specs.Terms.{TermsValue, IsSort, IsTermList, no_terms, sort_of}
use Rattle.scope_selectors.specs.declared.live.Live.{Live}
use Rattle.scope_selectors.specs.Scopes.{ScopesValue, AreScopes, no_scopes, made_within}
use Rattle.smt_build.specs.declared.definition.Definition.{Definition}
use Rattle.smt_build.specs.declared.symbols.LiveName.{LiveName}
use Rattle.smt_build.specs.declared.symbols.Level.{Level}
use Rattle.smt_build.specs.Names.{SymbolsValue, Meanings, AreDeclared, AreBodies, no_symbols}
use Rattle.smt_build.specs.Scoped.{is_over, AreOver}
use Rattle.script_state.specs.declared.answer.Asked.{Asked}
use Rattle.script_state.specs.declared.answer.Verdict.{Verdict}
use Rattle.script_state.specs.declared.options.Options.{Options}
use Rattle.script_state.specs.Options.{first_options}
use Rattle.smt_terms.specs.Ranks as ranks
use Rattle.array_watches.specs.Needed.{watched}
use Rattle.script_state.specs.Plain.{HavePlain}

-- the names and declarations with their levels, the terms, the live assertions with their levels, the options, the verdict
-- of the check that stands, and what that check assumes, or the one that is begun; there is no such list where it was asked
-- without assumptions
pub record StateValue : Type 0 where
  pub symbols : SymbolsValue
  pub terms : TermsValue
  pub scopes : ScopesValue
  pub options : Options
  pub standing : Option Verdict
  pub assumed : Option (List Asked)

abbrev pub all_asked : Option (List Asked) → List Asked
all_asked None = []
all_asked (Some asked) = asked

-- the assumptions of the check that stands, or of the one that is begun
abbrev pub assumptions : StateValue → List Asked
assumptions s = all_asked s.assumed

-- the terms of these assertions, and then those of these assumptions
abbrev pub roots_of : List Live → List Asked → List ℕ
roots_of live assumed = map (λ (a : Live). a.term) live ++ map (λ (a : Asked). a.term) assumed

-- the terms that a check is about: those of the live assertions, and then those of the assumptions
abbrev pub roots : StateValue → List ℕ
roots s = roots_of s.scopes.live (assumptions s)

-- the terms, with those that a check of these makes before all else, are no more than may be held
abbrev pub watches_fit : TermsValue → List ℕ → Bool
watches_fit terms roots = nat_le (length (watched terms.nodes roots)) terms.limit

-- a check of the state can make the terms that it makes before all else
abbrev pub WatchesFit : StateValue → Type 0
WatchesFit s = length (watched s.terms.nodes (roots s)) ≤ s.terms.limit

-- the live names stand for declarations that were made, in the order in which they were
pub record AreLive (v : SymbolsValue) : Type 0 where
  pub rising : AllPairs (λ (a b : LiveName). a.declaration < b.declaration) v.live
  pub made : All (λ (l : LiveName). l.declaration < length v.signatures) v.live

-- the bodies of these definitions and the terms of these assertions are over these live declarations
pub record IsClosed (nodes : List Node) (live : List LiveName) (definitions : Meanings Definition) (asserted : List Live) : Type 0 where
  pub bodies : AreOver live nodes definitions
  pub terms : All (λ (a : Live). is_over live nodes a.term ≡ true) asserted

-- the level above so many others begins with names, definitions and assertions that stand, and these are closed
pub record IsLevel (v : StateValue) (k : ℕ) (l : Level) : Type 0 where
  pub names : l.names ≤ length v.symbols.live
  pub definitions : l.definitions ≤ length v.symbols.definitions
  pub sorts : l.sorts ≤ length v.symbols.sorts
  pub closed : IsClosed v.terms.nodes (take l.names v.symbols.live) (take l.definitions v.symbols.definitions) (made_within k v.scopes.live)

-- a level begins with all that the one before it began with
pub record IsBehind (a b : Level) : Type 0 where
  pub names : a.names ≤ b.names
  pub definitions : a.definitions ≤ b.definitions
  pub sorts : a.sorts ≤ b.sorts

-- names and assertions have the same levels
pub record AreLevels (v : StateValue) : Type 0 where
  pub count : length v.symbols.levels ≡ v.scopes.levels
  pub rising : AllPairs IsBehind v.symbols.levels
  pub each : (k : ℕ) (l : Level) → slice_get v.symbols.levels k ≡ Some l → IsLevel v k l

-- a name of a sort stands for one whose widths are in range
abbrev pub IsTakenName : List ℕ × Sort → Type 0
IsTakenName m = IsSort m.1

-- the signature of a constant, or of a function over Bools and words; the widths are in range
pub record IsTaken (s : Signature) : Type 0 where
  pub value : IsSort s.value
  pub args : All (λ (a : Sort). (ranks.is_plain a ≡ true) × IsSort a) s.args
  pub plain : (s.args ≡ [] → ⊥) → ranks.is_plain s.value ≡ true

-- a term over the live declarations
pub record IsAsked (nodes : List Node) (live : List LiveName) (a : Asked) : Type 0 where
  pub held : a.term < length nodes
  pub closed : is_over live nodes a.term ≡ true

-- a term of sort Bool over the live declarations
pub record IsAssumption (nodes : List Node) (live : List LiveName) (a : Asked) : Type 0 where
  pub held : a.term < length nodes
  pub truth : sort_of nodes a.term ≡ sort.Bool
  pub closed : is_over live nodes a.term ≡ true

-- The terms are a list of well-sorted terms and name declarations as they were made, which are of constants and of functions;
-- the bodies of definitions are terms; each live assertion is a term of sort Bool, and so is each assumption. What is live
-- names live declarations alone, and so it will where levels are popped.
pub record IsState (v : StateValue) : Type 0 where
  pub terms : IsTermList v.terms.nodes
  pub scopes : AreScopes v.scopes
  pub live : AreLive v.symbols
  pub constants : All IsTaken v.symbols.signatures
  pub declared : AreDeclared v.symbols.signatures v.terms.nodes
  pub bodies : AreBodies (length v.terms.nodes) v.symbols.definitions
  pub sorts : AllByRecursion IsTakenName v.symbols.sorts
  pub held : All (λ (a : Live). a.term < length v.terms.nodes) v.scopes.live
  pub truths : All (λ (a : Live). sort_of v.terms.nodes a.term ≡ sort.Bool) v.scopes.live
  pub closed : IsClosed v.terms.nodes v.symbols.live v.symbols.definitions v.scopes.live
  pub levels : AreLevels v
  pub assumed : All (IsAssumption v.terms.nodes v.symbols.live) (assumptions v)

-- nothing declared, no terms, nothing asserted, the first options, and no check that stands
abbrev pub no_state : StateValue
no_state = record { symbols = no_symbols; terms = no_terms (2 ^ 24); scopes = no_scopes; options = first_options; standing = None; assumed = None }

-- a check with this verdict stands
abbrev pub concluded : StateValue → Verdict → StateValue
concluded s v = record { symbols = s.symbols; terms = s.terms; scopes = s.scopes; options = s.options; standing = Some v; assumed = s.assumed }

-- ---- a state and its terms apart

-- what a state has beside its terms, and for each of the first terms whether it is plain
pub record RestValue : Type 0 where
  pub symbols : SymbolsValue
  pub scopes : ScopesValue
  pub options : Options
  pub standing : Option Verdict
  pub assumed : Option (List Asked)
  pub marks : List Bool

-- the state that has these terms
abbrev pub with_terms : RestValue → TermsValue → StateValue
with_terms r terms = record { symbols = r.symbols; terms = terms; scopes = r.scopes; options = r.options; standing = r.standing; assumed = r.assumed }

-- the terms and the rest are those of a state
pub record Fit (terms : TermsValue) (r : RestValue) : Type 0 where
  pub state : IsState (with_terms r terms)
  pub marks : HavePlain terms.nodes r.marks
