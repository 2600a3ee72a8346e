-- Positions that come one after the other to those which are held.
use Rattle.std.proofs.Common.{◌≡◌, ℕ, ◌+◌, ◌<◌, ◌≤◌, Bool, true, false, List, [], length, take, get_or, Option, Some, None, refl, sym, ap, ◌∙◌, subst, inl, inr, ⊎_elim}
use Rattle.std.specs.Prelude.{All, Contains, MatchBool, IfSome, IsSome, slice_get}
use Rattle.std.proofs.lemmas.List.{take_all}
use Rattle.std.proofs.lemmas.List.Elements.{All-more, All-weaker, Contains-get_or}
use Rattle.cnf_base.specs.Literals.{Literal}
use Rattle.cnf_base.proofs.Lists.{Contains-nil}
use Rattle.cnf_base.proofs.Options.{some_value}
use Rattle.scope_selectors.specs.declared.live.Live.{Live}
use Rattle.smt_terms.specs.declared.node.Node.{Node}
use Rattle.proof_log.specs.declared.entry.Entry.{Entry}
use Rattle.proof_log.specs.declared.entry.Entry.TheVariants as step
use Rattle.proof_log.specs.declared.entry.Role.TheVariants as role
use Rattle.proof_log.specs.Roles.{role_of}
use Rattle.proof_log.specs.Logs.{clause_at, entry_at}
use Rattle.proof_log.specs.Places.{GivesBits, GivesSelector, IsPlaceOf}
use Rattle.proof_log.specs.Stored.{LogValue, Stands, selector_in}
use Rattle.proof_log.proofs.Placed.{selector_placed}
use Rattle.opening_positions.specs.Positions.{IsWith, Gains}
use Rattle.opening_positions.specs.Holding.{IsTermStep, IsAssertionStep, IsHeldTerm, IsHeldWithBits, IsHeldAssertion, pair_of, IsHeldPair, IsHeldMaker, AreHeld, HasOther, first_at, IsClauseHeld, HasOtherMaker, IsHeldLemma, IsDecided}
use Rattle.opening_positions.proofs.Behind.{front_cases}

-- ---- gains

pub gains_none : (held : List ℕ) (Kind : ℕ → Type 0) → Gains held Kind held
gains_none held Kind = record { kept = λ p k. k; only = λ p k. inl k }

pub gains_more : (old now new : List ℕ) (Kind Own : ℕ → Type 0) → Gains old Kind now → Gains now Own new → ((p : ℕ) → Own p → Kind p) → Gains old Kind new
gains_more old now new Kind Own g h weaker = record {
  kept = λ p k. h.kept p (g.kept p k);
  only = λ p k. ⊎_elim (λ (a : Contains now p). g.only p a) (λ (o : Own p). inr (weaker p o)) (h.only p k);
}

pub gains_weaker : (old new : List ℕ) (Kind Other : ℕ → Type 0) → ((p : ℕ) → Kind p → Other p) → Gains old Kind new → Gains old Other new
gains_weaker old new Kind Other weaker g = gains_more old old new Other Kind (gains_none old Other) g weaker

pub gains_with : (old new : List ℕ) (at : ℕ) (Kind : ℕ → Type 0) → Kind at → IsWith old at new → Gains old Kind new
gains_with old new at Kind own h = record { kept = h.kept; only = λ p k. ⊎_elim (λ (a : Contains old p). inl a) (λ (e : p ≡ at). inr (subst Kind (sym e) own)) (h.only p k) }

pub gains_all : {A : Type 0} (old new : List ℕ) (Kind : List A → ℕ → Type 0) (xs : List A) (i : ℕ) → length xs ≤ i → Gains old (Kind (take i xs)) new → Gains old (Kind xs) new
gains_all {A} old new Kind xs i le h = subst (λ (l : List A). Gains old (Kind l) new) (take_all i xs le) h

pub all_of : {A : Type 0} (P : A → Type 0) (xs : List A) (i : ℕ) → length xs ≤ i → All P (take i xs) → All P xs
all_of P xs i le h = subst (All P) (take_all i xs le) h

-- ---- terms

pub no_bits : (log : List Entry) (held : List ℕ) (t : ℕ) (o : Option ℕ) → o ≡ None → IsPlaceOf (GivesBits log t) o → IsHeldWithBits log held t
no_bits log held t o e h = (None, subst (IsPlaceOf (GivesBits log t)) e h, tt)

pub has_bits : (log : List Entry) (held : List ℕ) (t p : ℕ) (o : Option ℕ) → o ≡ Some p → IsPlaceOf (GivesBits log t) o → Contains held p → IsHeldWithBits log held t
has_bits log held t p o e h c = (Some p, subst (IsPlaceOf (GivesBits log t)) e h, c)

bits_more : (log : List Entry) (old new : List ℕ) → ((p : ℕ) → Contains old p → Contains new p) → (t : ℕ) → IsHeldWithBits log old t → IsHeldWithBits log new t
bits_more log old new more t h = (h.0, h.1, still h.0 h.2)
  where
    still : (o : Option ℕ) → IfSome o (Contains old) → IfSome o (Contains new)
    still None k = k
    still (Some p) k = more p k

pub terms_more : (log : List Entry) (reached old now new : List ℕ) (i : ℕ) → i < length reached → Gains old (IsTermStep log reached) now → Gains now (GivesBits log (get_or reached i 0)) new → Gains old (IsTermStep log reached) new
terms_more log reached old now new i lt g h = gains_more old now new (IsTermStep log reached) (GivesBits log (get_or reached i 0)) g h (λ p k. (get_or reached i 0, Contains-get_or reached i 0 lt, k))

pub terms_held : (log : List Entry) (reached now new : List ℕ) (i : ℕ) → i < length reached → Gains now (GivesBits log (get_or reached i 0)) new → IsHeldWithBits log new (get_or reached i 0)
    → All (IsHeldWithBits log now) (take i reached) → All (IsHeldWithBits log new) (take (i + 1) reached)
terms_held log reached now new i lt g own h =
    All-more (IsHeldWithBits log new) reached i 0 lt
    (All-weaker (IsHeldWithBits log now) (IsHeldWithBits log new) (bits_more log now new g.kept) (take i reached) h) own

-- ---- assertions

pub assertion_placed : (nodes : List Node) (log : LogValue) (a : ℕ) (o : Option ℕ) → Stands nodes log → IsSome (selector_in log.selectors a) → IsPlaceOf (GivesSelector log.entries a) o → IsSome o
assertion_placed nodes log a o stands has h = let l = some_value (selector_in log.selectors a) has in selector_placed nodes log a l.0 o stands l.1 h

pub assertions_more : (log : List Entry) (live : List Live) (old now new : List ℕ) (i p : ℕ) (a : Live) (o : Option ℕ) → i < length live → a ≡ get_or live i a → o ≡ Some p → IsPlaceOf (GivesSelector log a.assertion) o → IsWith now p new
    → Gains old (IsAssertionStep log live) now → Gains old (IsAssertionStep log live) new
assertions_more log live old now new i p a o lt at found place w g =
    let in_live : Contains live a = subst (Contains live) (sym at) (Contains-get_or live i a lt) in
    gains_more old now new (IsAssertionStep log live) (IsAssertionStep log live) g
    (gains_with now new p (IsAssertionStep log live) (a, in_live, subst (IsPlaceOf (GivesSelector log a.assertion)) found place) w) (λ q k. k)

pub assertions_held : (log : List Entry) (live : List Live) (now new : List ℕ) (i p : ℕ) (a : Live) (o : Option ℕ) → i < length live → a ≡ get_or live i a → o ≡ Some p → IsPlaceOf (GivesSelector log a.assertion) o → IsWith now p new
    → All (IsHeldAssertion log now) (take i live) → All (IsHeldAssertion log new) (take (i + 1) live)
assertions_held log live now new i p a o lt at found place w h =
    All-more (IsHeldAssertion log new) live i a lt
    (All-weaker (IsHeldAssertion log now) (IsHeldAssertion log new) (λ b k. (k.0, k.1, w.kept k.0 k.2)) (take i live) h)
    (subst (IsHeldAssertion log new) at (p, subst (IsPlaceOf (GivesSelector log a.assertion)) found place, w.here))

-- ---- equalities

-- an equality gives no term bits
pub pair_is_no_bits : (log : List Entry) (p t u v : ℕ) → entry_at log p ≡ Some (step.Equal t u) → GivesBits log v p → ⊥
pair_is_no_bits log p t u v e h =
    let both : Some (step.Equal t u) ≡ Some h.0 = sym e ∙ h.1 in
    let same : step.Equal t u ≡ h.0 = cc in
    let r : role.Search ≡ role.Bits v = ap role_of same ∙ h.2 in
    let f : ⊥ = cc in f

pub held_more : (log : List Entry) (old new : List ℕ) → ((p : ℕ) → Contains old p → Contains new p) → (t : ℕ) → IsHeldTerm log old t → IsHeldTerm log new t
held_more log old new more t h = (h.0, h.1, more h.0 h.2)

pair_more : (log : List Entry) (old new : List ℕ) → ((p : ℕ) → Contains old p → Contains new p) → (p : ℕ) → IsHeldPair log old p → IsHeldPair log new p
pair_more log old new more p h = (h.0, h.1, h.2, held_more log old new more h.0 h.3, held_more log old new more h.1 h.4)

pair_parts : (a b : ℕ × ℕ) → Some a ≡ Some b → (a.0 ≡ b.0) × (a.1 ≡ b.1)
pair_parts a b e = let r : a ≡ b = cc in (ap (λ (z : ℕ × ℕ). z.0) r, ap (λ (z : ℕ × ℕ). z.1) r)

-- the step of an equality is known by its terms
pair_is : (log : List Entry) (p t u : ℕ) (e : Entry) → entry_at log p ≡ Some e → pair_of e ≡ Some (t, u) → entry_at log p ≡ Some (step.Equal t u)
pair_is log p t u (step.Equal x y) there q =
    let parts = pair_parts (x, y) (t, u) q in
    there ∙ ap (λ z. Some (step.Equal z y)) parts.0 ∙ ap (λ z. Some (step.Equal t z)) parts.1
pair_is log p t u (step.Node n) there q = let f : ⊥ = cc in absurd f
pair_is log p t u (step.Leaf v) there q = let f : ⊥ = cc in absurd f
pair_is log p t u (step.Encode v) there q = let f : ⊥ = cc in absurd f
pair_is log p t u (step.Selector v w) there q = let f : ⊥ = cc in absurd f
pair_is log p t u (step.Chain c hints) there q = let f : ⊥ = cc in absurd f
pair_is log p t u (step.Rewrite r) there q = let f : ⊥ = cc in absurd f
pair_is log p t u (step.Lemma l) there q = let f : ⊥ = cc in absurd f

module _ (log : List Entry) (held : List ℕ) (p t u : ℕ) (e : Entry) (there : entry_at log p ≡ Some e) (q : pair_of e ≡ Some (t, u)) where
  same : (w : IsHeldPair log held p) → (w.0 ≡ t) × (w.1 ≡ u)
  same w =
      let r : Some (step.Equal w.0 w.1) ≡ Some (step.Equal t u) = sym w.2 ∙ pair_is log p t u e there q in
      let s : w.0 ≡ t = cc in
      let z : w.1 ≡ u = cc in
      (s, z)

  pub lower_out : (IsHeldTerm log held t → ⊥) → IsHeldPair log held p → ⊥
  lower_out h w = h (subst (IsHeldTerm log held) (same w).0 w.3)

  pub both_told : (b : Bool) → IsHeldTerm log held t → MatchBool b (IsHeldTerm log held u) (IsHeldTerm log held u → ⊥) → MatchBool b (IsHeldPair log held p) (IsHeldPair log held p → ⊥)
  both_told true h k = (t, u, pair_is log p t u e there q, h, k)
  both_told false h k = λ w. k (subst (IsHeldTerm log held) (same w).1 w.4)

no_pair : (a : ℕ × ℕ) → Some a ≡ None → ⊥
no_pair a e = cc

-- another step is of no equality
pub has_no_pair : (log : List Entry) (held : List ℕ) (p : ℕ) (e : Entry) → entry_at log p ≡ Some e → pair_of e ≡ None → IsHeldPair log held p → ⊥
has_no_pair log held p e there q w =
    let both : Some (step.Equal w.0 w.1) ≡ Some e = sym w.2 ∙ there in
    let same : step.Equal w.0 w.1 ≡ e = cc in
    no_pair (w.0, w.1) (ap pair_of same ∙ q)

pub no_step_no_pair : (log : List Entry) (held : List ℕ) (p : ℕ) → entry_at log p ≡ None → IsHeldPair log held p → ⊥
no_step_no_pair log held p e w = let r : Some (step.Equal w.0 w.1) ≡ None = sym w.2 ∙ e in let f : ⊥ = cc in f

-- positions of one kind, each held where it is wanted
where_gains : (now new : List ℕ) (at : ℕ) (wanted : Bool) (Kind : ℕ → Type 0) → MatchBool wanted (IsWith now at new) (new ≡ now) → (wanted ≡ true → Kind at) → Gains now Kind new
where_gains now new at true Kind h own = gains_with now new at Kind (own refl) h
where_gains now new at false Kind h own = subst (Gains now Kind) (sym h) (gains_none now Kind)

told : (P Q : Type 0) (b : Bool) → MatchBool b P Q → b ≡ true → P
told P Q true h e = h
told P Q false h e = let f : ⊥ = cc in absurd f

pub pairs_more : (log : List Entry) (old now new : List ℕ) (at : ℕ) (wanted : Bool) → MatchBool wanted (IsHeldPair log now at) (IsHeldPair log now at → ⊥) → MatchBool wanted (IsWith now at new) (new ≡ now)
    → Gains old (IsHeldPair log now) now → Gains old (IsHeldPair log new) new
pairs_more log old now new at wanted pair h g =
    let own = where_gains now new at wanted (IsHeldPair log now) h (told (IsHeldPair log now at) (IsHeldPair log now at → ⊥) wanted pair) in
    gains_weaker old new (IsHeldPair log now) (IsHeldPair log new) (pair_more log now new own.kept)
    (gains_more old now new (IsHeldPair log now) (IsHeldPair log now) g own (λ p k. k))

pub pairs_held : (log : List Entry) (old now new equalities : List ℕ) (i : ℕ) (wanted : Bool) → i < length equalities
    → MatchBool wanted (IsHeldPair log now (get_or equalities i 0)) (IsHeldPair log now (get_or equalities i 0) → ⊥) → MatchBool wanted (IsWith now (get_or equalities i 0) new) (new ≡ now)
    → Gains old (IsHeldPair log now) now → All (λ p. IsHeldPair log old p → Contains now p) (take i equalities) → All (λ p. IsHeldPair log old p → Contains new p) (take (i + 1) equalities)
pairs_held log old now new equalities i wanted lt pair h g before =
    All-more (λ p. IsHeldPair log old p → Contains new p) equalities i 0 lt
    (All-weaker (λ p. IsHeldPair log old p → Contains now p) (λ p. IsHeldPair log old p → Contains new p) (λ p k w. more wanted h p (k w)) (take i equalities) before)
    (λ w. here wanted pair h (pair_more log old now g.kept (get_or equalities i 0) w))
  where
    more : (b : Bool) → MatchBool b (IsWith now (get_or equalities i 0) new) (new ≡ now) → (p : ℕ) → Contains now p → Contains new p
    more true h p k = h.kept p k
    more false h p k = subst (λ (l : List ℕ). Contains l p) (sym h) k

    here : (b : Bool) → MatchBool b (IsHeldPair log now (get_or equalities i 0)) (IsHeldPair log now (get_or equalities i 0) → ⊥) → MatchBool b (IsWith now (get_or equalities i 0) new) (new ≡ now) → IsHeldPair log now (get_or equalities i 0) → Contains new (get_or equalities i 0)
    here true pair h w = h.here
    here false pair h w = absurd (pair w)

-- ---- variables

pub no_maker : (makers held : List ℕ) (x : ℕ) → slice_get makers x ≡ None → IsHeldMaker makers held x → ⊥
no_maker makers held x e h = let r : Some h.0 ≡ None = sym h.1 ∙ e in let f : ⊥ = cc in f

pub maker_told : (makers held : List ℕ) (x p : ℕ) (b : Bool) → slice_get makers x ≡ Some p → MatchBool b (Contains held p) (Contains held p → ⊥) → MatchBool b (IsHeldMaker makers held x) (IsHeldMaker makers held x → ⊥)
maker_told makers held x p true e h = (p, e, h)
maker_told makers held x p false e h = λ k. (let r : Some k.0 ≡ Some p = sym k.1 ∙ e in let s : k.0 ≡ p = cc in h (subst (Contains held) s k.2))

pub makers_none : (makers held : List ℕ) → AreHeld makers held []
makers_none makers held l k = absurd (Contains-nil l k)

pub makers_more : (makers held : List ℕ) (c : List Literal) (i : ℕ) (l : Literal) → i < length c → l ≡ get_or c i l → 0 < l.variable → IsHeldMaker makers held l.variable → AreHeld makers held (take i c) → AreHeld makers held (take (i + 1) c)
makers_more makers held c i l lt is positive here h m k = ⊎_elim
    (λ a. h m a)
    (λ e. subst (λ (n : Literal). (0 < n.variable) × IsHeldMaker makers held n.variable) e (positive, here))
    (front_cases c i l lt is m k)

pub makers_all : (makers held : List ℕ) (c : List Literal) (i : ℕ) → length c ≤ i → AreHeld makers held (take i c) → AreHeld makers held c
makers_all makers held c i le h = subst (AreHeld makers held) (take_all i c le) h

pub other_here : (makers held : List ℕ) (c : List Literal) (i : ℕ) (l : Literal) → i < length c → l ≡ get_or c i l → 0 < l.variable → (IsHeldMaker makers held l.variable → ⊥) → HasOther makers held c
other_here makers held c i l lt is positive out = (l, subst (Contains c) (sym is) (Contains-get_or c i l lt), positive, out)

-- ---- lemmas

-- whether the clause at a position is of variables whose makers are held
pub clause_told : (rows : List (List (List Literal))) (makers held : List ℕ) (p : ℕ) (clause : List Literal) (b : Bool) → clause_at rows (first_at p) ≡ Some clause
    → MatchBool b (AreHeld makers held clause) (HasOther makers held clause) → MatchBool b (IsClauseHeld rows makers held p) (HasOtherMaker rows makers held p)
clause_told rows makers held p clause true e h = λ c k. (let r : Some clause ≡ Some c = sym e ∙ k in let s : clause ≡ c = cc in subst (AreHeld makers held) s h)
clause_told rows makers held p clause false e h = λ c k. (let r : Some clause ≡ Some c = sym e ∙ k in let s : clause ≡ c = cc in subst (HasOther makers held) s h)

pub no_clause : (rows : List (List (List Literal))) (makers held : List ℕ) (p : ℕ) → clause_at rows (first_at p) ≡ None → HasOtherMaker rows makers held p
no_clause rows makers held p e c k = let r : Some c ≡ None = sym k ∙ e in let f : ⊥ = cc in absurd f

maker_more : (makers old new : List ℕ) → ((p : ℕ) → Contains old p → Contains new p) → (x : ℕ) → IsHeldMaker makers old x → IsHeldMaker makers new x
maker_more makers old new more x h = (h.0, h.1, more h.0 h.2)

clause_more : (rows : List (List (List Literal))) (makers lemmas old new : List ℕ) → ((p : ℕ) → Contains old p → Contains new p) → (p : ℕ) → IsHeldLemma rows makers lemmas old p → IsHeldLemma rows makers lemmas new p
clause_more rows makers lemmas old new more p h = (h.0, (λ c e l m. (let k = h.1 c e l m in (k.0, maker_more makers old new more l.variable k.1))))

module _ (rows : List (List (List Literal))) (makers lemmas : List ℕ) (free : (x p : ℕ) → 0 < x → slice_get makers x ≡ Some p → Contains lemmas p → ⊥) (now new : List ℕ) (i : ℕ) (lt : i < length lemmas) where
  abbrev at : ℕ
  at = get_or lemmas i 0

  pub lemmas_gain : (old : List ℕ) (wanted : Bool) → MatchBool wanted (IsClauseHeld rows makers now at) (HasOtherMaker rows makers now at) → MatchBool wanted (IsWith now at new) (new ≡ now)
      → Gains old (IsHeldLemma rows makers lemmas now) now → Gains old (IsHeldLemma rows makers lemmas new) new
  lemmas_gain old wanted own h g =
      let step = where_gains now new at wanted (IsHeldLemma rows makers lemmas now) h (λ e. (Contains-get_or lemmas i 0 lt, told (IsClauseHeld rows makers now at) (HasOtherMaker rows makers now at) wanted own e)) in
      gains_weaker old new (IsHeldLemma rows makers lemmas now) (IsHeldLemma rows makers lemmas new) (clause_more rows makers lemmas now new step.kept)
      (gains_more old now new (IsHeldLemma rows makers lemmas now) (IsHeldLemma rows makers lemmas now) g step (λ p k. k))

  -- a variable whose maker was not held stays such a one
  other_stays : (b : Bool) → MatchBool b (IsWith now at new) (new ≡ now) → (c : List Literal) → HasOther makers now c → HasOther makers new c
  other_stays true h c o = (
    o.0,
    o.1,
    o.2,
    (λ k. ⊎_elim
        (λ (a : Contains now k.0). o.3 (k.0, k.1, a))
        (λ (e : k.0 ≡ at). free o.0.variable k.0 o.2 k.1 (subst (Contains lemmas) (sym e) (Contains-get_or lemmas i 0 lt)))
        (h.only k.0 k.2)),
  )
  other_stays false h c o = (o.0, o.1, o.2, (λ k. o.3 (k.0, k.1, subst (λ (l : List ℕ). Contains l k.0) h k.2)))

  still : (b : Bool) → MatchBool b (IsWith now at new) (new ≡ now) → (p : ℕ) → Contains now p → Contains new p
  still true h p k = h.kept p k
  still false h p k = subst (λ (l : List ℕ). Contains l p) (sym h) k

  decided_stays : (b : Bool) → MatchBool b (IsWith now at new) (new ≡ now) → (p : ℕ) → IsDecided rows makers now p → IsDecided rows makers new p
  decided_stays b h p (inl k) = inl (still b h p k)
  decided_stays b h p (inr o) = inr (λ c e. other_stays b h c (o c e))

  decided_here : (b : Bool) → MatchBool b (IsClauseHeld rows makers now at) (HasOtherMaker rows makers now at) → MatchBool b (IsWith now at new) (new ≡ now) → IsDecided rows makers new at
  decided_here true own h = inl h.here
  decided_here false own h = inr (λ c e. other_stays false h c (own c e))

  pub lemmas_decided : (wanted : Bool) → MatchBool wanted (IsClauseHeld rows makers now at) (HasOtherMaker rows makers now at) → MatchBool wanted (IsWith now at new) (new ≡ now)
      → All (IsDecided rows makers now) (take i lemmas) → All (IsDecided rows makers new) (take (i + 1) lemmas)
  lemmas_decided wanted own h before =
      All-more (IsDecided rows makers new) lemmas i 0 lt
      (All-weaker (IsDecided rows makers now) (IsDecided rows makers new) (decided_stays wanted h) (take i lemmas) before)
      (decided_here wanted own h)
