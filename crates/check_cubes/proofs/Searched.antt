-- Which literals the search of a cube takes as true, and where it may start.
use Rattle.std.proofs.Common.{◌≡◌, ℕ, suc, ◌+◌, ◌^◌, ◌<◌, ◌≤◌, Bool, true, false, List, [], ◌∷◌, ◌++◌, length, map, flat_map, take, take_all, get_or, Option, Some, None, MatchBool, refl, sym, ap, ap₂, ◌∙◌, subst, inl, inr, arith, append_assoc, append-nil}
use Rattle.std.specs.Prelude.{All, option_to_list}
use Rattle.std.proofs.lemmas.Bool.{cases_lt}
use Rattle.std.proofs.lemmas.Grind.{flat_map-append}
use Rattle.std.proofs.lemmas.List.{take_more}
use Rattle.std.proofs.lemmas.List.Elements.{All-weaker, All-more}
use Rattle.cnf_base.specs.Literals.{Literal}
use Rattle.smt_terms.specs.Bits.{TermBits, bits_in}
use Rattle.scope_selectors.specs.declared.live.Live.{Live}
use Rattle.script_state.specs.declared.answer.Asked.{Asked}
use Rattle.script_state.specs.States.{StateValue, assumptions}
use Rattle.proof_log.specs.declared.entry.Entry.{Entry}
use Rattle.proof_log.specs.Logs.{Asserted, LogState, entry_at, state_of}
use Rattle.proof_log.specs.Boards.{IsAdded}
use Rattle.proof_log.specs.Stored.{LogValue, IsKept, literal_of, selector_in}
use Rattle.proof_log.proofs.Growth.{entry_within}
use Rattle.proof_log.proofs.Standing.{some_literal}
use Rattle.cube_tree.specs.Cubes.{cube_of}
use Rattle.accepted_proof.specs.Searching.{Limits, cube_variables, selector_literals, bits_or_none, HasSelector, HasBit, given_literals, IsSearch}
use Rattle.check_cubes.specs.Searches.{only, kept_selector, IsSelected, kept_bits, IsOneBit, AreAddedFrom}

-- ---- where a search starts

-- the steps from one position to another are such
abbrev pub AreAddedTo : List Entry → ℕ → ℕ → Type 0
AreAddedTo log start at = (p : ℕ) (e : Entry) → start ≤ p → p < at → entry_at log p ≡ Some e → IsAdded e

pub added_none : (log : List Entry) (start : ℕ) → AreAddedTo log start start
added_none log start p e le lt at = absurd (omega (arith, le, lt))

pub added_more : (log : List Entry) (start at : ℕ) → AreAddedTo log start at → ((e : Entry) → entry_at log at ≡ Some e → IsAdded e) → AreAddedTo log start (at + 1)
added_more log start at h here p e le lt is = elim (cases_lt p at) [
  | inl less ↦ h p e le less is
  | inr ge ↦ let same : p ≡ at = omega (arith, ge, lt) in here e (subst (λ q. entry_at log q ≡ Some e) same is)
]

pub added_all : (log : List Entry) (start at : ℕ) → suc (length log) ≤ at → AreAddedTo log start at → AreAddedFrom log start
added_all log start at all h p e le is = let within = entry_within log p e is in h p e le (omega (arith, within, all)) is

pub not_added : (log : List Entry) (start at : ℕ) → start ≤ at → (e : Entry) × (entry_at log at ≡ Some e) × (IsAdded e → ⊥) → AreAddedFrom log start → ⊥
not_added log start at le found h = found.2 (h at found.0 le found.1)

pub added_told : (log : List Entry) (at : ℕ) (e : Entry) (b : Bool) → Some e ≡ entry_at log at → MatchBool b (IsAdded e) (IsAdded e → ⊥)
    → MatchBool b ((d : Entry) → entry_at log at ≡ Some d → IsAdded d) ((d : Entry) × (entry_at log at ≡ Some d) × (IsAdded d → ⊥))
added_told log at e true here is = λ d h. let whole : Some e ≡ Some d = here ∙ h in let same : e ≡ d = cc in subst IsAdded same is
added_told log at e false here is = (e, sym here, is)

pub no_step : (log : List Entry) (at : ℕ) → ◌≡◌ {A = Option Entry} None (entry_at log at) → (d : Entry) → entry_at log at ≡ Some d → IsAdded d
no_step log at none d h = absurd (let z : ◌≡◌ {A = Option Entry} None (Some d) = none ∙ h in let f : ⊥ = cc in f)

-- ---- what is given

-- the literals of one more
more_given : {A : Type 0} (f : A → List Literal) (xs : List A) (i : ℕ) (a : A) (base old new add : List Literal) → i < length xs → a ≡ get_or xs i a → f a ≡ add
    → old ≡ base ++ flat_map f (take i xs) → new ≡ old ++ add → new ≡ base ++ flat_map f (take (i + 1) xs)
more_given f xs i a base old new add lt is e h more =
    let all : take (i + 1) xs ≡ take i xs ++ a ∷ [] = take_more xs i a lt ∙ ap (λ x. take i xs ++ x ∷ []) (sym is) in
    let one : flat_map f (a ∷ []) ≡ add = append-nil (f a) ∙ e in
    let split : flat_map f (take (i + 1) xs) ≡ flat_map f (take i xs) ++ add = ap (flat_map f) all ∙ flat_map-append f (take i xs) (a ∷ []) ∙ ap (λ x. flat_map f (take i xs) ++ x) one in
    more ∙ ap (λ x. x ++ add) h ∙ append_assoc base (flat_map f (take i xs)) add ∙ ap (λ x. base ++ x) (sym split)

pub all_given : {A : Type 0} (P : A → Type 0) (f : A → List Literal) (xs : List A) (n : ℕ) (base given : List Literal) → length xs ≤ n → All P (take n xs) × (given ≡ base ++ flat_map f (take n xs)) → All P xs × (given ≡ base ++ flat_map f xs)
all_given {A = A} P f xs n base given le h = subst (λ (ys : List A). All P ys × (given ≡ base ++ flat_map f ys)) (take_all n xs le) h

one_selector : (o : Option Literal) (l : Literal) → Some l ≡ o → option_to_list o ≡ l ∷ []
one_selector o l e = ap option_to_list (sym e)

pub unselected : (selectors : List (Option Literal)) (live : List Live) (i : ℕ) (a : Live) → i < length live → a ≡ get_or live i a → ◌≡◌ {A = Option Literal} None (selector_in selectors a.assertion) → All (IsSelected selectors) live → ⊥
unselected selectors live i a lt is none h =
    let has = subst (IsSelected selectors) (sym is) (h i a lt) in
    let z : ◌≡◌ {A = Option Literal} None (Some has.0) = none ∙ has.1 in cc

pub selected_more : (selectors : List (Option Literal)) (live : List Live) (i : ℕ) (a : Live) (l : Literal) (base old new : List Literal) → i < length live → a ≡ get_or live i a → Some l ≡ selector_in selectors a.assertion
    → All (IsSelected selectors) (take i live) × (old ≡ base ++ flat_map (kept_selector selectors) (take i live)) → new ≡ old ++ l ∷ []
    → All (IsSelected selectors) (take (i + 1) live) × (new ≡ base ++ flat_map (kept_selector selectors) (take (i + 1) live))
selected_more selectors live i a l base old new lt is here h more = (
  All-more (IsSelected selectors) live i a lt h.0 (subst (IsSelected selectors) is (l, sym here)),
  more_given (kept_selector selectors) live i a base old new (l ∷ []) lt is (one_selector (selector_in selectors a.assertion) l here) h.1 more,
)

-- just one bit
pub only_found : (o : Option (List Literal)) (m : Literal) → only o ≡ Some m → o ≡ Some (m ∷ [])
only_found None m e = let f : ⊥ = cc in absurd f
only_found (Some []) m e = let f : ⊥ = cc in absurd f
only_found (Some (l ∷ [])) m e = let q : l ≡ m = cc in ap (λ x. Some (x ∷ [])) q
only_found (Some (l ∷ k ∷ ks)) m e = let f : ⊥ = cc in absurd f

pub not_one_bit : (bits : List TermBits) (asked : List Asked) (i : ℕ) (a : Asked) → i < length asked → a ≡ get_or asked i a → ◌≡◌ {A = Option Literal} None (only (bits_in bits a.term)) → All (IsOneBit bits) asked → ⊥
not_one_bit bits asked i a lt is none h =
    let has = subst (IsOneBit bits) (sym is) (h i a lt) in
    let z : ◌≡◌ {A = Option Literal} None (Some has.0) = none ∙ ap only has.1 in cc

pub one_bit_more : (bits : List TermBits) (asked : List Asked) (i : ℕ) (a : Asked) (l : Literal) (base old new : List Literal) → i < length asked → a ≡ get_or asked i a → Some l ≡ only (bits_in bits a.term)
    → All (IsOneBit bits) (take i asked) × (old ≡ base ++ flat_map (kept_bits bits) (take i asked)) → new ≡ old ++ l ∷ []
    → All (IsOneBit bits) (take (i + 1) asked) × (new ≡ base ++ flat_map (kept_bits bits) (take (i + 1) asked))
one_bit_more bits asked i a l base old new lt is here h more =
    let found : bits_in bits a.term ≡ Some (l ∷ []) = only_found (bits_in bits a.term) l (sym here) in (
      All-more (IsOneBit bits) asked i a lt h.0 (subst (IsOneBit bits) is (l, found)),
      more_given (kept_bits bits) asked i a base old new (l ∷ []) lt is (ap bits_or_none found) h.1 more,
    )

selected_literal : (o : Option Asserted) → option_to_list (literal_of o) ≡ map (λ (r : Asserted). r.literal) (option_to_list o)
selected_literal None = refl
selected_literal (Some r) = refl

module _ (s : StateValue) (log : LogValue) (kept : IsKept s.terms.nodes log) where
  abbrev after : LogState
  after = state_of s.terms.nodes log.entries

  has_selector : (a : Live) → IsSelected log.selectors a → HasSelector after a
  has_selector a h = let r = some_literal (after.selectors a.assertion) h.0 (sym (kept.selectors a.assertion) ∙ h.1) in (r.0, r.1)

  is_selected : (a : Live) → HasSelector after a → IsSelected log.selectors a
  is_selected a h = (h.0.literal, kept.selectors a.assertion ∙ ap literal_of h.1)

  has_bit : (a : Asked) → IsOneBit log.bits a → HasBit after a
  has_bit a h = (h.0, sym (kept.bits a.term) ∙ h.1)

  is_one_bit : (a : Asked) → HasBit after a → IsOneBit log.bits a
  is_one_bit a h = (h.0, kept.bits a.term ∙ h.1)

  selectors_same : (a : Live) → kept_selector log.selectors a ≡ selector_literals after a
  selectors_same a = ap option_to_list (kept.selectors a.assertion) ∙ selected_literal (after.selectors a.assertion)

  bits_same : (a : Asked) → kept_bits log.bits a ≡ bits_or_none (after.bits a.term)
  bits_same a = ap bits_or_none (kept.bits a.term)

  module _ (limits : Limits) (cube start : ℕ) where
    abbrev Searches : Type 0
    Searches = IsSearch limits s s.terms.nodes log.entries cube start

    -- each assertion and each assumption has its literal
    pub is_search : (variables : List ℕ) (first second given : List Literal) (live : List Live) (asked : List Asked) → live ≡ s.scopes.live → asked ≡ assumptions s
        → variables ≡ cube_variables limits s s.terms.nodes log.entries
        → start ≤ suc (length log.entries) → AreAddedFrom log.entries start
        → (cube < 2 ^ length variables) × (first ≡ cube_of variables cube)
        → All (IsSelected log.selectors) live × (second ≡ first ++ flat_map (kept_selector log.selectors) live)
        → All (IsOneBit log.bits) asked × (given ≡ second ++ flat_map (kept_bits log.bits) asked)
        → Searches × (given ≡ given_literals limits s s.terms.nodes log.entries cube)
    is_search variables first second given live asked same assumed are within added cubes selected one = (
      record {
        cube_of_check = subst (λ (vs : List ℕ). cube < 2 ^ length vs) are cubes.0;
        selectors = subst (λ (ls : List Live). All (HasSelector after) ls) same (All-weaker (IsSelected log.selectors) (HasSelector after) has_selector live selected.0);
        bits = subst (λ (ls : List Asked). All (HasBit after) ls) assumed (All-weaker (IsOneBit log.bits) (HasBit after) has_bit asked one.0);
        within = within;
        added = added;
      },
      one.1
          ∙ ap₂ (λ x y. x ++ y)
          (selected.1 ∙ ap₂ (λ x y. x ++ y) (cubes.1 ∙ ap (λ vs. cube_of vs cube) are) (ap₂ (λ (f : Live → List Literal) (ls : List Live). flat_map f ls) (λ i a. selectors_same a i) same))
          (ap₂ (λ (f : Asked → List Literal) (ls : List Asked). flat_map f ls) (λ i a. bits_same a i) assumed),
    )

    pub late_start : suc (length log.entries) < start → Searches → ⊥
    late_start lt h = let w = h.within in omega (arith, lt, w)

    pub other_start : (AreAddedFrom log.entries start → ⊥) → Searches → ⊥
    other_start none h = none h.added

    pub other_cube : (variables : List ℕ) → variables ≡ cube_variables limits s s.terms.nodes log.entries → 2 ^ length variables ≤ cube → Searches → ⊥
    other_cube variables are ge h =
        let c : cube < 2 ^ length variables = subst (λ (vs : List ℕ). cube < 2 ^ length vs) (sym are) h.cube_of_check in
        omega (arith, c, ge)

    pub no_selector : (live : List Live) → live ≡ s.scopes.live → (All (IsSelected log.selectors) live → ⊥) → Searches → ⊥
    no_selector live same none h = none (subst (All (IsSelected log.selectors)) (sym same) (All-weaker (HasSelector after) (IsSelected log.selectors) is_selected s.scopes.live h.selectors))

    pub no_bit : (asked : List Asked) → asked ≡ assumptions s → (All (IsOneBit log.bits) asked → ⊥) → Searches → ⊥
    no_bit asked same none h = none (subst (All (IsOneBit log.bits)) (sym same) (All-weaker (HasBit after) (IsOneBit log.bits) is_one_bit (assumptions s) h.bits))
