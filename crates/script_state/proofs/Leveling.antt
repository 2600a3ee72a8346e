-- A state stays one as levels begin and end, and as all of them end.
use Rattle.std.proofs.Common.{◌≡◌, ℕ, zero, suc, ◌+◌, ◌-◌, ◌<◌, ◌≤◌, ◌^◌, Bool, true, false, List, [], ◌∷◌, length, refl, sym, ap, ◌∙◌, arith, leb-true, Option, Some, None, Result, Ok, Err}
use Rattle.std.proofs.lemmas.Option.{slice_get_within}
use Rattle.std.specs.Prelude.{OnOk, IfErr, nat_le, slice_get, take, if◌then◌else◌}
use Rattle.std.specs.List.{AllByRecursion}
use Rattle.std.proofs.lemmas.Bool.{le-leb}
use Rattle.std.proofs.lemmas.List.{length-take-le, get_or-take}
use Rattle.std.proofs.lemmas.List.Elements.{All-filter, All-nil, All-take}
use Rattle.smt_terms.specs.declared.sort.Sort.{Sort}
use Rattle.smt_terms.specs.declared.sort.Sort.TheVariants as sort
use Rattle.smt_terms.specs.Nodes.{node_at}
use Rattle.smt_terms.specs.Terms.{declaration_of, no_terms, sort_of}
use Rattle.scope_selectors.specs.declared.live.Live.{Live}
use Rattle.scope_selectors.specs.declared.fault.OutOfRange.{OutOfRange}
use Rattle.scope_selectors.specs.Scopes.{ScopesValue, AreScopes, most_levels, out_of_range, made_within, pushed, popped, without_assertions, no_scopes}
use Rattle.scope_selectors.proofs.Keeping.{fewer_levels}
use Rattle.smt_build.specs.declared.symbols.LiveName.{LiveName}
use Rattle.smt_build.specs.declared.symbols.Level.{Level}
use Rattle.smt_build.specs.Names.{SymbolsValue, Meanings, no_symbols, emptied, popped_to, popped as symbols_popped}
use Rattle.smt_build.proofs.Uses.{bodies_take}
use Rattle.script_state.specs.declared.answer.Verdict.{Verdict}
use Rattle.script_state.specs.declared.options.Options.{Options}
use Rattle.script_state.specs.Options.{first_options}
use Rattle.script_state.specs.States.{StateValue, AreLive, IsTaken, IsTakenName, IsState, no_state}
use Rattle.script_state.proofs.Asserting.{none_assumed, none_asked, opted_state}
use Rattle.script_state.proofs.Closing.{closed_none}
use Rattle.script_state.proofs.Standing.{within_all, begun, ended, levels_begun, levels_ended}

-- ---- the levels of assertions

abbrev more_levels : ScopesValue → ℕ → ScopesValue
more_levels v n = record { levels = v.levels + n; live = v.live; made = v.made; terms = v.terms }

abbrev fewer : ScopesValue → ℕ → ScopesValue
fewer v n = record { levels = v.levels - n; live = made_within (v.levels - n) v.live; made = v.made; terms = v.terms }

-- what so many levels more are
pub pushed_is : (v w : ScopesValue) (n : ℕ) → pushed v n ≡ Ok w → (v.levels + n ≤ most_levels) × (w ≡ more_levels v n)
pushed_is v w n = go (nat_le (v.levels + n) most_levels) refl where
  go : (b : Bool) → nat_le (v.levels + n) most_levels ≡ b → ◌≡◌ {A = Result ScopesValue OutOfRange} (if b then Ok (more_levels v n) else Err (out_of_range v)) (Ok w) → (v.levels + n ≤ most_levels) × (w ≡ more_levels v n)
  go true p e = let f : more_levels v n ≡ w = cc in (leb-true (v.levels + n) most_levels p, sym f)
  go false p e = absurd (let z : ⊥ = cc in z)

-- what so many levels less are
pub popped_is : (v w : ScopesValue) (n : ℕ) → popped v n ≡ Ok w → (n ≤ v.levels) × (w ≡ fewer v n)
popped_is v w n = go (nat_le n v.levels) refl where
  go : (b : Bool) → nat_le n v.levels ≡ b → ◌≡◌ {A = Result ScopesValue OutOfRange} (if b then Ok (fewer v n) else Err (out_of_range v)) (Ok w) → (n ≤ v.levels) × (w ≡ fewer v n)
  go true p e = let f : fewer v n ≡ w = cc in (leb-true n v.levels p, sym f)
  go false p e = absurd (let z : ⊥ = cc in z)

more_are : (v : ScopesValue) (n : ℕ) → AreScopes v → v.levels + n ≤ most_levels → AreScopes (more_levels v n)
more_are v n are le = record {
  numbered = are.numbered;
  made = are.made;
  counted = are.counted;
  known = are.known;
  leveled = are.leveled;
  standing = λ k d lt. omega (arith, are.standing k d lt);
  within = le;
}

-- levels that were just begun end again
pub pushed_popped : (v w : ScopesValue) (n : ℕ) → AreScopes v → w ≡ more_levels v n → popped w n ≡ Ok v
pushed_popped v w n are e =
    let back : v.levels + n - n ≡ v.levels = omega arith in
    rw (e, le-leb n (v.levels + n) (omega arith), back, within_all v.levels v.live are.standing) refl

-- whatever is told of the levels that end, these are the levels before
pub undone : {A : Type 0} (v w u : ScopesValue) (n : ℕ) (r : Result A OutOfRange) → AreScopes v → pushed v n ≡ Ok w → OnOk r (popped w n ≡ Ok u) → IfErr r (λ (f : OutOfRange). popped w n ≡ Err f) → u ≡ v
undone v w u n (Ok x) are e ok err =
    let back : ◌≡◌ {A = Result ScopesValue OutOfRange} (Ok u) (Ok v) = sym ok ∙ pushed_popped v w n are (pushed_is v w n e).1 in
    let same : u ≡ v = cc in
    same
undone v w u n (Err f) are e ok err =
    let back : ◌≡◌ {A = Result ScopesValue OutOfRange} (Err f) (Ok v) = sym err ∙ pushed_popped v w n are (pushed_is v w n e).1 in
    absurd (let z : ⊥ = cc in z)

-- ---- begin

pub begun_state : (v : StateValue) (n : ℕ) (w : ScopesValue) → IsState v → (o : Options) (s : Option Verdict) → pushed v.scopes n ≡ Ok w → IsState (begun v n w o s)
begun_state v n w is o s e =
    let p = pushed_is v.scopes w n e in
    rw p.1 (record {
      terms = is.terms;
      scopes = more_are v.scopes n is.scopes p.0;
      live = record { rising = is.live.rising; made = is.live.made };
      constants = is.constants;
      declared = is.declared;
      bodies = is.bodies;
      sorts = is.sorts;
      held = is.held;
      truths = is.truths;
      closed = is.closed;
      levels = levels_begun v n is o s;
      assumed = none_assumed v.terms.nodes v.symbols.live;
    })

-- ---- end

names_take : (k : ℕ) (ms : Meanings Sort) → AllByRecursion IsTakenName ms → AllByRecursion IsTakenName (take k ms)
names_take zero ms h = tt
names_take (suc k) [] h = tt
names_take (suc k) (m ∷ ms) h = (h.0, names_take k ms h.1)

live_take : (v : SymbolsValue) (n : ℕ) (w : SymbolsValue) → AreLive v → n ≤ length v.live → w.live ≡ take n v.live → w.signatures ≡ v.signatures → AreLive w
live_take v n w are le live signatures = record {
  rising = rw live (λ i j d lt within.
      let counted = length-take-le n v.live le in
      rw (get_or-take n v.live i d (omega (arith, lt, within, counted)), get_or-take n v.live j d (omega (arith, within, counted)))
      (are.rising i j d lt (omega (arith, within, counted, le))));
  made = rw (live, signatures) (All-take (λ (l : LiveName). l.declaration < length v.signatures) n v.live are.made);
}

-- the level above so many others is the innermost one then
to_level : (v : StateValue) (k : ℕ) (l : Level) → IsState v → (o : Options) (s : Option Verdict) → k ≤ v.scopes.levels → slice_get v.symbols.levels k ≡ Some l → IsState (ended v k l o s)
to_level v k l is o s le here =
    let level = is.levels.each k l here in
    record {
      terms = is.terms;
      scopes = fewer_levels v.scopes.levels k v.scopes.made v.scopes.terms v.scopes.live (made_within k v.scopes.live) is.scopes le refl;
      live = live_take v.symbols l.names _ is.live level.names refl refl;
      constants = is.constants;
      declared = is.declared;
      bodies = bodies_take (length v.terms.nodes) l.definitions v.symbols.definitions is.bodies;
      sorts = names_take l.sorts v.symbols.sorts is.sorts;
      held = All-filter (λ (a : Live). nat_le a.level k) (λ (a : Live). a.term < length v.terms.nodes) v.scopes.live is.held;
      truths = All-filter (λ (a : Live). nat_le a.level k) (λ (a : Live). sort_of v.terms.nodes a.term ≡ sort.Bool) v.scopes.live is.truths;
      closed = level.closed;
      levels = levels_ended v k l is here o s;
      assumed = none_assumed v.terms.nodes (take l.names v.symbols.live);
    }

-- these levels less
abbrev pub left : StateValue → ℕ → Options → Option Verdict → StateValue
left v n o s = record { symbols = symbols_popped v.symbols n; terms = v.terms; scopes = fewer v.scopes n; options = o; standing = s; assumed = None }

get_none : {X : Type 0} (xs : List X) (i : ℕ) → slice_get xs i ≡ None → length xs ≤ i
get_none [] i e = omega arith
get_none (x ∷ xs) zero e = absurd (let z : ⊥ = cc in z)
get_none (x ∷ xs) (suc i) e = omega (arith, get_none xs i e)

left_state : (v : StateValue) (n : ℕ) → IsState v → (o : Options) (s : Option Verdict) → n ≤ v.scopes.levels → IsState (left v n o s)
left_state v n is o s le =
    let same : length v.symbols.levels - n ≡ v.scopes.levels - n = ap (λ k. k - n) is.levels.count in
    rw same (go (slice_get v.symbols.levels (v.scopes.levels - n)) refl)
  where
    -- no level is left out only where none ends
    none_ends : slice_get v.symbols.levels (v.scopes.levels - n) ≡ None → v.scopes.levels - n ≡ v.scopes.levels
    none_ends e = omega (arith, get_none v.symbols.levels (v.scopes.levels - n) e, is.levels.count)

    go : (l : Option Level) → slice_get v.symbols.levels (v.scopes.levels - n) ≡ l → IsState (record { symbols = popped_to v.symbols (v.scopes.levels - n) l; terms = v.terms; scopes = fewer v.scopes n; options = o; standing = s; assumed = None })
    go (Some l) e = to_level v (v.scopes.levels - n) l is o s (omega arith) e
    go None e = rw (none_ends e, within_all v.scopes.levels v.scopes.live is.scopes.standing) (opted_state v o s None is (none_asked v))

pub ended_state : (v : StateValue) (n : ℕ) (w : ScopesValue) → IsState v → (o : Options) (s : Option Verdict) → popped v.scopes n ≡ Ok w → IsState (record { symbols = symbols_popped v.symbols n; terms = v.terms; scopes = w; options = o; standing = s; assumed = None })
ended_state v n w is o s e = let p = popped_is v.scopes w n e in rw p.1 (left_state v n is o s p.0)

pub popped_signatures : (v : SymbolsValue) (n : ℕ) → (symbols_popped v n).signatures ≡ v.signatures
popped_signatures v n = go (slice_get v.levels (length v.levels - n)) where
  go : (l : Option Level) → (popped_to v (length v.levels - n) l).signatures ≡ v.signatures
  go None = refl
  go (Some l) = refl

-- ---- all levels end

pub emptied_state : (v : StateValue) (o : Options) → IsState v → IsState (record { symbols = emptied v.symbols; terms = v.terms; scopes = without_assertions v.scopes; options = o; standing = None; assumed = None })
emptied_state v o is = record {
  terms = is.terms;
  scopes = record {
    numbered = λ i j d lt within. absurd (omega (arith, within));
    made = All-nil (λ (a : Live). a.assertion < v.scopes.made);
    counted = is.scopes.counted;
    known = All-nil (λ (a : Live). slice_get v.scopes.terms a.assertion ≡ Some a.term);
    leveled = λ i j d le within. absurd (omega (arith, within));
    standing = All-nil (λ (a : Live). a.level ≤ 0);
    within = omega arith;
  };
  live = record { rising = λ i j d lt within. absurd (omega (arith, within)); made = All-nil (λ (l : LiveName). l.declaration < length v.symbols.signatures) };
  constants = is.constants;
  declared = is.declared;
  bodies = tt;
  sorts = tt;
  held = All-nil (λ (a : Live). a.term < length v.terms.nodes);
  truths = All-nil (λ (a : Live). sort_of v.terms.nodes a.term ≡ sort.Bool);
  closed = closed_none v.terms.nodes;
  levels = record { count = refl; rising = λ i j d lt within. absurd (omega (arith, within)); each = λ k l e. absurd (omega (arith, slice_get_within [] k l e)) };
  assumed = none_assumed v.terms.nodes [];
}

-- ---- the first state

-- with room for so many terms
abbrev start_within : ℕ → StateValue
start_within limit = record { symbols = no_symbols; terms = no_terms limit; scopes = no_scopes; options = first_options; standing = None; assumed = None }

pub first_state_within : (limit : ℕ) → IsState (start_within limit)
first_state_within limit = record {
  terms = λ t lt. absurd (omega (arith, lt));
  scopes = record {
    numbered = λ i j d lt within. absurd (omega (arith, within));
    made = All-nil (λ (a : Live). a.assertion < 0);
    counted = refl;
    known = All-nil (λ (a : Live). slice_get [] a.assertion ≡ Some a.term);
    leveled = λ i j d le within. absurd (omega (arith, within));
    standing = All-nil (λ (a : Live). a.level ≤ 0);
    within = omega arith;
  };
  live = record { rising = λ i j d lt within. absurd (omega (arith, within)); made = All-nil (λ (l : LiveName). l.declaration < 0) };
  constants = All-nil IsTaken;
  declared = record { each = λ t d e. absurd (none_declared t d e) };
  bodies = tt;
  sorts = tt;
  held = All-nil (λ (a : Live). a.term < 0);
  truths = All-nil (λ (a : Live). sort_of [] a.term ≡ sort.Bool);
  closed = closed_none [];
  levels = record { count = refl; rising = λ i j d lt within. absurd (omega (arith, within)); each = λ k l e. absurd (omega (arith, slice_get_within [] k l e)) };
  assumed = none_assumed [] [];
} where
  none_declared : (t d : ℕ) → declaration_of (node_at [] t).op ≡ Some d → ⊥
  none_declared t d e = cc

pub first_state : IsState no_state
first_state = first_state_within (2 ^ 24)
