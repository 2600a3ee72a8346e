-- Levels stand as what is live grows, as more levels begin, and as levels end.
use Rattle.std.proofs.Common.{◌≡◌, ℕ, zero, suc, ◌+◌, ◌-◌, ◌<◌, ◌≤◌, Bool, true, false, List, [], ◌∷◌, ◌++◌, length, get_or, refl, sym, ap, subst, ◌∙◌, ◌⊎◌, inl, inr, arith, append-nil, length-append, leb-true, Option, Some, None}
use Rattle.std.proofs.lemmas.Option.{slice_get_within, get_or_from_slice_get}
use Rattle.std.specs.Prelude.{nat_le, replicate, slice_get, take, All, AllPairs}
use Rattle.std.proofs.lemmas.Bool.{cases_lt, le-leb, lt-leb, leb-false}
use Rattle.std.proofs.lemmas.List.{take_all, take-take, take-append-le, length-take-le, length-replicate, get_or-replicate, get_or_append_left, get_or-append_right, get_or-take}
use Rattle.std.proofs.lemmas.List.Elements.{All-filter, All-head, All-tail, filter-append}
use Rattle.cnf_base.proofs.Lists.{slice_get-take}
use Rattle.smt_terms.specs.declared.node.Node.{Node}
use Rattle.scope_selectors.specs.declared.live.Live.{Live}
use Rattle.scope_selectors.specs.Scopes.{ScopesValue, made_within}
use Rattle.smt_terms.specs.declared.sort.Sort.{Sort}
use Rattle.smt_build.specs.declared.definition.Definition.{Definition}
use Rattle.smt_build.specs.declared.symbols.LiveName.{LiveName}
use Rattle.smt_build.specs.declared.symbols.Level.{Level}
use Rattle.smt_build.specs.Names.{Meanings, level_of, pushed}
use Rattle.smt_build.proofs.Uses.{bodies_take}
use Rattle.script_state.specs.declared.answer.Verdict.{Verdict}
use Rattle.script_state.specs.declared.options.Options.{Options}
use Rattle.script_state.specs.States.{StateValue, IsState, IsLevel, IsBehind, AreLevels}
use Rattle.script_state.proofs.Closing.{closed_longer}

-- ---- lists

get_at : {X : Type 0} (xs : List X) (i : ℕ) (x d : X) → i < length xs → get_or xs i d ≡ x → slice_get xs i ≡ Some x
get_at [] i x d lt e = absurd (omega (arith, lt))
get_at (y ∷ xs) zero x d lt e = ap Some e
get_at (y ∷ xs) (suc i) x d lt e = get_at xs i x d (omega (arith, lt)) e

get_copied : {X : Type 0} (xs : List X) (n : ℕ) (y : X) (i : ℕ) (x : X) → slice_get (xs ++ replicate n y) i ≡ Some x → (slice_get xs i ≡ Some x) ⊎ ((length xs ≤ i) × (x ≡ y))
get_copied [] zero y i x e = absurd (let z : ⊥ = cc in z)
get_copied [] (suc n) y zero x e = inr (omega arith, cc)
get_copied [] (suc n) y (suc i) x e = let h = get_copied [] n y i x e in elim h [ inl old ↦ absurd (let z : ⊥ = cc in z) | inr new ↦ inr (omega arith, new.1) ]
get_copied (z ∷ xs) n y zero x e = inl e
get_copied (z ∷ xs) n y (suc i) x e = elim (get_copied xs n y i x e) [ inl old ↦ inl old | inr new ↦ inr (omega (arith, new.0), new.1) ]

-- ---- assertions by their levels

pub within_all : (k : ℕ) (xs : List Live) → All (λ (a : Live). a.level ≤ k) xs → made_within k xs ≡ xs
within_all k [] h = refl
within_all k (a ∷ xs) h = rw (le-leb a.level k (All-head (λ (a : Live). a.level ≤ k) a xs h)) (ap (λ xs. a ∷ xs) (within_all k xs (All-tail (λ (a : Live). a.level ≤ k) a xs h)))

within_none : (k : ℕ) (xs : List Live) → All (λ (a : Live). k < a.level) xs → made_within k xs ≡ []
within_none k [] h = refl
within_none k (a ∷ xs) h = rw (lt-leb a.level k (All-head (λ (a : Live). k < a.level) a xs h)) (within_none k xs (All-tail (λ (a : Live). k < a.level) a xs h))

within_front : (k : ℕ) (xs more : List Live) → All (λ (a : Live). k < a.level) more → made_within k (xs ++ more) ≡ made_within k xs
within_front k xs more h = filter-append (λ (a : Live). nat_le a.level k) xs more ∙ ap (λ ys. made_within k xs ++ ys) (within_none k more h) ∙ append-nil (made_within k xs)

pub within_both : (k m : ℕ) (xs : List Live) → k ≤ m → made_within k (made_within m xs) ≡ made_within k xs
within_both k m [] le = refl
within_both k m (a ∷ xs) le = go (nat_le a.level m) (nat_le a.level k) refl refl (within_both k m xs le) where
  go : (b c : Bool) → nat_le a.level m ≡ b → nat_le a.level k ≡ c → made_within k (made_within m xs) ≡ made_within k xs → made_within k (made_within m (a ∷ xs)) ≡ made_within k (a ∷ xs)
  go true true p q h = rw (p, q) (ap (λ xs. a ∷ xs) h)
  go true false p q h = rw (p, q) h
  go false false p q h = rw (p, q) h
  go false true p q h = absurd (omega (arith, leb-false a.level m p, leb-true a.level k q, le))

-- ---- more is live

-- what stands goes on, and more stands behind it
pub record Extends (v w : StateValue) : Type 0 where
  pub behind : List Node
  pub nodes : w.terms.nodes ≡ v.terms.nodes ++ behind
  pub names : List LiveName
  pub live : w.symbols.live ≡ v.symbols.live ++ names
  pub meanings : Meanings Definition
  pub definitions : w.symbols.definitions ≡ v.symbols.definitions ++ meanings
  pub renamed : Meanings Sort
  pub sorts : w.symbols.sorts ≡ v.symbols.sorts ++ renamed
  pub asserted : List Live
  pub assertions : w.scopes.live ≡ v.scopes.live ++ asserted
  pub above : All (λ (a : Live). v.scopes.levels ≤ a.level) asserted
  pub levels : w.symbols.levels ≡ v.symbols.levels
  pub count : w.scopes.levels ≡ v.scopes.levels

module _ (v w : StateValue) (more : Extends v w) (is : IsState v) where
  level_extends : (k : ℕ) (l : Level) → k < v.scopes.levels → IsLevel v k l → IsLevel w k l
  level_extends k l lt level = record {
    names = omega (arith, length-append v.symbols.live more.names, ap length more.live, level.names);
    definitions = omega (arith, length-append v.symbols.definitions more.meanings, ap length more.definitions, level.definitions);
    sorts = omega (arith, length-append v.symbols.sorts more.renamed, ap length more.sorts, level.sorts);
    closed =
        rw (more.nodes, more.live, more.definitions, more.assertions, take-append-le l.names v.symbols.live more.names level.names, take-append-le l.definitions v.symbols.definitions more.meanings level.definitions, within_front k v.scopes.live more.asserted (λ j d h. omega (arith, more.above j d h, lt)))
        (closed_longer (take l.names v.symbols.live) v.terms.nodes (take l.definitions v.symbols.definitions) (made_within k v.scopes.live) more.behind
        (bodies_take (length v.terms.nodes) l.definitions v.symbols.definitions is.bodies)
        (All-filter (λ (a : Live). nat_le a.level k) (λ (a : Live). a.term < length v.terms.nodes) v.scopes.live is.held)
        level.closed);
  }

  pub levels_extend : AreLevels w
  levels_extend = record {
    count = ap length more.levels ∙ is.levels.count ∙ sym more.count;
    rising = rw more.levels is.levels.rising;
    each = λ k l e.
        let old : slice_get v.symbols.levels k ≡ Some l = rw more.levels at e in
        level_extends k l (omega (arith, slice_get_within v.symbols.levels k l old, is.levels.count)) (is.levels.each k l old);
  }

-- ---- more levels

copied_left : (xs : List Level) (n : ℕ) (y : Level) (i : ℕ) (d : Level) → i < length xs → get_or (xs ++ replicate n y) i d ≡ get_or xs i d
copied_left xs n y i d lt = get_or_append_left xs (replicate n y) d i lt

copied_right : (xs : List Level) (n : ℕ) (y : Level) (i : ℕ) (d : Level) → length xs ≤ i → i < length (xs ++ replicate n y) → get_or (xs ++ replicate n y) i d ≡ y
copied_right xs n y i d le lt = get_or-append_right xs (replicate n y) (length xs) i d refl le ∙ get_or-replicate n (i - length xs) y d (omega (arith, length-append xs (replicate n y), length-replicate n y, le, lt))

rising_pushed : (xs : List Level) (n : ℕ) (y : Level) → AllPairs IsBehind xs → All (λ (l : Level). IsBehind l y) xs → AllPairs IsBehind (xs ++ replicate n y)
rising_pushed xs n y rising behind i j d lt within =
    elim (cases_lt j (length xs)) [
      | inl below ↦ rw (copied_left xs n y i d (omega (arith, lt, below)), copied_left xs n y j d below) (rising i j d lt below)
      | inr above ↦ rw (copied_right xs n y j d above within) (before above)
    ]
  where
    before : length xs ≤ j → IsBehind (get_or (xs ++ replicate n y) i d) y
    before above =
        elim (cases_lt i (length xs)) [
          | inl below ↦ rw (copied_left xs n y i d below) (behind i d below)
          | inr late ↦ rw (copied_right xs n y i d late (omega (arith, lt, within))) (record { names = omega arith; definitions = omega arith; sorts = omega arith })
        ]

-- these levels more, none of them with an assertion, and nothing is assumed
abbrev pub begun : StateValue → ℕ → ScopesValue → Options → Option Verdict → StateValue
begun v n scopes o s = record { symbols = pushed v.symbols n; terms = v.terms; scopes = scopes; options = o; standing = s; assumed = None }

module _ (v : StateValue) (n : ℕ) (is : IsState v) (o : Options) (s : Option Verdict) where
  abbrev new_scopes : ScopesValue
  new_scopes = record { levels = v.scopes.levels + n; live = v.scopes.live; made = v.scopes.made; terms = v.scopes.terms }

  level_new : (k : ℕ) → v.scopes.levels ≤ k → IsLevel v k (level_of v.symbols)
  level_new k le = record {
    names = omega arith;
    definitions = omega arith;
    sorts = omega arith;
    closed =
        rw (take_all (length v.symbols.live) v.symbols.live (omega arith), take_all (length v.symbols.definitions) v.symbols.definitions (omega arith), within_all k v.scopes.live (λ j d h. omega (arith, is.scopes.standing j d h, le)))
        is.closed;
  }

  level_old : (l : Level) (k : ℕ) → slice_get v.symbols.levels k ≡ Some l → IsBehind l (level_of v.symbols)
  level_old l k e = let level = is.levels.each k l e in record { names = level.names; definitions = level.definitions; sorts = level.sorts }

  as_begun : (k : ℕ) (l : Level) → IsLevel v k l → IsLevel (begun v n new_scopes o s) k l
  as_begun k l level = record { names = level.names; definitions = level.definitions; sorts = level.sorts; closed = level.closed }

  pub levels_begun : AreLevels (begun v n new_scopes o s)
  levels_begun = record {
    count = omega (arith, length-append v.symbols.levels (replicate n (level_of v.symbols)), length-replicate n (level_of v.symbols), is.levels.count);
    rising = rising_pushed v.symbols.levels n (level_of v.symbols) is.levels.rising (λ k d lt. level_old (get_or v.symbols.levels k d) k (get_at v.symbols.levels k (get_or v.symbols.levels k d) d lt refl));
    each = λ k l e.
        elim (get_copied v.symbols.levels n (level_of v.symbols) k l e) [
          | inl old ↦ as_begun k l (is.levels.each k l old)
          | inr new ↦ as_begun k l (subst (λ (m : Level). IsLevel v k m) (sym new.1) (level_new k (omega (arith, new.0, is.levels.count))))
        ];
  }

-- ---- fewer levels

-- what a level began with
abbrev pub ended : StateValue → ℕ → Level → Options → Option Verdict → StateValue
ended v k l o s = record {
  symbols = record { live = take l.names v.symbols.live; signatures = v.symbols.signatures; definitions = take l.definitions v.symbols.definitions; sorts = take l.sorts v.symbols.sorts; levels = take k v.symbols.levels };
  terms = v.terms;
  scopes = record { levels = k; live = made_within k v.scopes.live; made = v.scopes.made; terms = v.scopes.terms };
  options = o;
  standing = s;
  assumed = None;
}

module _ (v : StateValue) (k : ℕ) (l : Level) (is : IsState v) (here : slice_get v.symbols.levels k ≡ Some l) (o : Options) (s : Option Verdict) where
  abbrev level : IsLevel v k l
  level = is.levels.each k l here

  level_earlier : (j : ℕ) (m : Level) → j < k → slice_get v.symbols.levels j ≡ Some m → IsLevel (ended v k l o s) j m
  level_earlier j m lt e =
      let behind : IsBehind m l = subst (λ (a : Level). IsBehind a l) (get_or_from_slice_get v.symbols.levels j m m e) (subst (λ (b : Level). IsBehind (get_or v.symbols.levels j m) b) (get_or_from_slice_get v.symbols.levels k l m here) (is.levels.rising j k m lt (slice_get_within v.symbols.levels k l here))) in
      let old = is.levels.each j m e in
      record {
        names = omega (arith, length-take-le l.names v.symbols.live level.names, behind.names);
        definitions = omega (arith, length-take-le l.definitions v.symbols.definitions level.definitions, behind.definitions);
        sorts = omega (arith, length-take-le l.sorts v.symbols.sorts level.sorts, behind.sorts);
        closed =
            rw (take-take m.names l.names v.symbols.live behind.names, take-take m.definitions l.definitions v.symbols.definitions behind.definitions, within_both j k v.scopes.live (omega (arith, lt)))
            old.closed;
      }

  pub levels_ended : AreLevels (ended v k l o s)
  levels_ended = record {
    count = length-take-le k v.symbols.levels (omega (arith, slice_get_within v.symbols.levels k l here));
    rising = rising;
    each = λ j m e. let old = slice_get-take k v.symbols.levels j m e in level_earlier j m old.0 old.1;
  } where
    rising : AllPairs IsBehind (take k v.symbols.levels)
    rising i j d lt within =
        let counted = length-take-le k v.symbols.levels (omega (arith, slice_get_within v.symbols.levels k l here)) in
        rw (get_or-take k v.symbols.levels i d (omega (arith, lt, within, counted)), get_or-take k v.symbols.levels j d (omega (arith, within, counted)))
        (is.levels.rising i j d lt (omega (arith, within, counted, slice_get_within v.symbols.levels k l here)))
