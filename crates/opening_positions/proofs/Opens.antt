-- The positions that are held are those that a search holds from its beginning.
use Rattle.std.proofs.Common.{◌≡◌, ℕ, zero, suc, ◌+◌, ◌<◌, ◌≤◌, Bool, true, false, List, [], ◌∷◌, length, take, drop, Option, Some, None, Result, Ok, Err, refl, sym, ap, ◌∙◌, subst, inl, inr, ⊎_elim, arith}
use Rattle.std.specs.Prelude.{◌⊎◌, All, Contains, MatchBool, IfSome, IfOk, IsSome, is_some, slice_get}
use Rattle.std.proofs.lemmas.List.{take-append-drop, take_all}
use Rattle.std.proofs.lemmas.List.Elements.{All-contains, All-weaker}
use Rattle.std.proofs.lemmas.Option.{slice_get_within}
use Rattle.cnf_base.specs.Literals.{Literal}
use Rattle.cnf_base.specs.Assignments.{fresh_bits}
use Rattle.cnf_base.proofs.Lists.{Contains-one, slice_get-there}
use Rattle.cnf_base.proofs.Options.{some_value}
use Rattle.scope_selectors.specs.declared.live.Live.{Live}
use Rattle.smt_terms.specs.declared.node.Node.{Node}
use Rattle.smt_terms.specs.Terms.{IsTermList}
use Rattle.smt_terms.specs.Bits.{image_in}
use Rattle.theory_terms.specs.declared.lemma.Lemma.{Lemma}
use Rattle.theory_lemmas.specs.Clauses.{clause_of}
use Rattle.proof_log.specs.declared.entry.Entry.{Entry}
use Rattle.proof_log.specs.declared.entry.Entry.TheVariants as step
use Rattle.proof_log.specs.declared.entry.Role.TheVariants as role
use Rattle.proof_log.specs.Roles.{role_of}
use Rattle.proof_log.specs.Logs.{LogState, start, clause_in, clause_at, entry_at, IsStep, IsLeaf, IsEncoding, IsRewrite, IsLemma, leaf_after, block_after, rewrite_after, after, state_of, IsLog}
use Rattle.proof_log.specs.Meanings.{Owns}
use Rattle.proof_log.specs.Places.{GivesBits, IsPlaceOf, IsForTerm}
use Rattle.proof_log.specs.Stored.{LogValue, Stands}
use Rattle.proof_log.specs.Assigned.{AreClosed, stands_on}
use Rattle.proof_log.proofs.Growth.{entry_within, lemma_row}
use Rattle.proof_log.proofs.Ordered.{log_is_ordered}
use Rattle.proof_log.proofs.Placed.{given_earlier, bits_placed}
use Rattle.proof_log.proofs.Standing.{value_here, stands_over}
use Rattle.proof_log.proofs.Staying.{log_stays}
use Rattle.reached_steps.specs.Reached.{IsOfTerms}
use Rattle.reached_steps.specs.Opening.{IsMadeAt, IsOfPair, IsOfLemma, AreOpeningSteps}
use Rattle.reached_steps.proofs.Steps.{before_step, made, one_before, equal_step, bits_stay}
use Rattle.opening_positions.specs.Positions.{Gains}
use Rattle.opening_positions.specs.Reading.{ReadSteps, IsMaker, IsLemmaAt, IsRead}
use Rattle.opening_positions.specs.Holding.{IsTermStep, IsAssertionStep, IsHeldTerm, IsHeldWithBits, IsHeldAssertion, IsOfReached, IsHeldPair, IsHeldMaker, first_at, HasOtherMaker, IsHeldLemma, IsDecided}
use Rattle.opening_positions.proofs.Nexts.{lemma_next}
use Rattle.opening_positions.proofs.Holds.{pair_is_no_bits}

-- ---- a term gets bits at one position

gives_some : (nodes : List Node) (s : LogState) (t : ℕ) (e : Entry) → IsStep nodes s e → IsForTerm t e → IsSome ((after nodes s e).bits t)
gives_some nodes s t (step.Leaf u) h k =
    let own : u ≡ t = cc in
    let i : IsLeaf nodes s u = h in
    subst (λ x. IsSome ((after nodes s (step.Leaf u)).bits x)) own (ap is_some (ap (λ o. (leaf_after s u o).bits u) i.constant ∙ value_here s.bits u (fresh_bits s.next i.width)))
gives_some nodes s t (step.Encode u) h k =
    let own : u ≡ t = cc in
    let i : IsEncoding nodes s u = h in
    subst (λ x. IsSome ((after nodes s (step.Encode u)).bits x)) own (ap is_some (ap (λ o. (block_after s u o).bits u) i.circuit ∙ value_here s.bits u i.block.bits))
gives_some nodes s t (step.Rewrite r) h k =
    let own : r.from ≡ t = cc in
    let i : IsRewrite nodes s r = h in
    let b = some_value (s.bits r.to) i.held in
    subst (λ x. IsSome ((after nodes s (step.Rewrite r)).bits x)) own (ap is_some (ap (λ o. (rewrite_after s r o).bits r.from) b.1 ∙ value_here s.bits r.from b.0))
gives_some nodes s t (step.Node n) h k = let f : ⊥ = cc in absurd f
gives_some nodes s t (step.Selector a u) h k = let f : ⊥ = cc in absurd f
gives_some nodes s t (step.Chain c hints) h k = let f : ⊥ = cc in absurd f
gives_some nodes s t (step.Equal u v) h k = let f : ⊥ = cc in absurd f
gives_some nodes s t (step.Lemma l) h k = let f : ⊥ = cc in absurd f

module _ (nodes : List Node) (log : List Entry) (is : IsLog nodes log) (t : ℕ) where
  not_later : (p q : ℕ) → GivesBits log t p → GivesBits log t q → q ≤ p
  not_later zero q (e, there, is_for) k = let f : ⊥ = cc in absurd f
  not_later (suc i) q (e, there, is_for) k =
      let m = made nodes start log i e is there in
      given_earlier nodes log (suc i) t q is (subst (λ (r : LogState). IsSome (r.bits t)) (sym m.leaves) (gives_some nodes (before_step nodes log i) t e m.step is_for)) k

  pub one_place : (p q : ℕ) → GivesBits log t p → GivesBits log t q → p ≡ q
  one_place p q g k = let a = not_later p q g k in let b = not_later q p k g in omega (arith, a, b)

pub term_told : (nodes : List Node) (log : LogValue) (held : List ℕ) (t p : ℕ) (o : Option ℕ) (b : Bool) → Stands nodes log → o ≡ Some p → IsPlaceOf (GivesBits log.entries t) o
    → MatchBool b (Contains held p) (Contains held p → ⊥) → MatchBool b (IsHeldTerm log.entries held t) (IsHeldTerm log.entries held t → ⊥)
term_told nodes log held t p o true stands e place h = (p, subst (IsPlaceOf (GivesBits log.entries t)) e place, h)
term_told nodes log held t p o false stands e place h = λ k. h (subst (Contains held) (one_place nodes log.entries (stands_over nodes log stands).steps t k.0 p k.1 (subst (IsPlaceOf (GivesBits log.entries t)) e place)) k.2)

pub term_not_told : (log : List Entry) (held : List ℕ) (t : ℕ) (o : Option ℕ) → o ≡ None → IsPlaceOf (GivesBits log t) o → IsHeldTerm log held t → ⊥
term_not_told log held t o e place k = (subst (IsPlaceOf (GivesBits log t)) e place) k.0 k.1

-- ---- makers

module _ (nodes : List Node) (log : List Entry) (all : IsTermList nodes) (is : IsLog nodes log) (s : ReadSteps) (read : IsRead nodes log s) (whole : s.read ≡ length log) where
  next_is : length s.makers ≡ (state_of nodes log).next
  next_is = read.next ∙ ap (λ (l : List Entry). (state_of nodes l).next) (take_all s.read log (omega (arith, whole)))

  later_next : (p : ℕ) → (before_step nodes log p).next ≤ (state_of nodes log).next
  later_next p =
      let both = take-append-drop p log in
      let h = (log_stays nodes (take p log) (drop p log) (subst (IsLog nodes) (sym both) is)).next in
      subst (λ (l : List Entry). (before_step nodes log p).next ≤ (state_of nodes l).next) both h

  -- a variable whose maker is held was made at a held position
  held_made : (held : List ℕ) (x : ℕ) → 0 < x → IsHeldMaker s.makers held x → IsMadeAt nodes log held x
  held_made held x lt h = ⊎_elim
      (λ (one : (x ≡ 1) × (h.0 ≡ 0)). inl one.0)
      (λ (w : (q : ℕ) × (h.0 ≡ suc q) × Owns nodes log q x). inr (w.0, subst (Contains held) w.1 h.2, w.2))
      (read.makers x h.0 lt h.1)

  made_held : (held : List ℕ) (x : ℕ) → Contains held 0 → IsMadeAt nodes log held x → IsHeldMaker s.makers held x
  made_held held x zero_in (inl one) =
      let more = later_next 0 in
      let low = one_before nodes log all is 0 in
      let there = slice_get-there s.makers x (omega (arith, next_is, more, low, one)) in (
        there.0,
        there.1,
        ⊎_elim
            (λ (k : (x ≡ 1) × (there.0 ≡ 0)). subst (Contains held) (sym k.1) zero_in)
            (λ (w : (q : ℕ) × (there.0 ≡ suc q) × Owns nodes log q x). (let b = one_before nodes log all is w.0 in let f = w.2.from in absurd (omega (arith, b, f, one))))
            (read.makers x there.0 (omega (arith, one)) there.1),
      )
  made_held held x zero_in (inr (p, held_p, owns)) =
      let more = later_next (suc p) in
      let up = owns.upto in
      let low = one_before nodes log all is p in
      let from = owns.from in
      let there = slice_get-there s.makers x (omega (arith, next_is, more, up)) in (
        there.0,
        there.1,
        ⊎_elim
            (λ (k : (x ≡ 1) × (there.0 ≡ 0)). (let one = k.0 in absurd (omega (arith, low, from, one))))
            (λ (w : (q : ℕ) × (there.0 ≡ suc q) × Owns nodes log q x). (let same : p ≡ w.0 = (log_is_ordered nodes log all is).once x p w.0 owns w.2 in subst (Contains held) (ap suc same ∙ sym w.1) held_p))
            (read.makers x there.0 (omega (arith, low, from)) there.1),
      )

  -- no lemma made a variable
  pub lemmas_free : (x p : ℕ) → 0 < x → slice_get s.makers x ≡ Some p → Contains s.lemmas p → ⊥
  lemmas_free x p lt at among = made_none p (All-contains (IsLemmaAt log) s.lemmas p read.lemmas among) (read.makers x p lt at)
    where
      made_none : (p : ℕ) → IsLemmaAt log p → IsMaker nodes log x p → ⊥
      made_none p (a, there) (inl one) = let r : None ≡ Some (step.Lemma a) = ap (entry_at log) (sym one.1) ∙ there in let f : ⊥ = cc in f
      made_none p (a, there) (inr (q, e, owns)) =
          let at : slice_get log q ≡ Some (step.Lemma a) = ap (entry_at log) (sym e) ∙ there in
          let m = made nodes start log q (step.Lemma a) is at in
          let r = before_step nodes log q in
          let same : (before_step nodes log (suc q)).next ≡ (before_step nodes log q).next = ap (λ (z : LogState). z.next) m.leaves ∙ lemma_next r (clause_of nodes r.bits r.equals a) in
          let up = owns.upto in
          let from = owns.from in
          omega (arith, same, up, from)

  -- a lemma has one clause
  lone : (p k : ℕ) (a : Lemma) (c : List Literal) → entry_at log p ≡ Some (step.Lemma a) → clause_in (slice_get (state_of nodes log).clauses p) k ≡ Some c → clause_at (state_of nodes log).clauses (first_at p) ≡ Some c
  lone zero k a c there at = let f : ⊥ = cc in absurd f
  lone (suc p) k a c there at =
      let m = made nodes start log p (step.Lemma a) is there in
      let r = before_step nodes log p in
      let i : IsLemma nodes (before_step nodes log p) a = m.step in
      let n : 1 + p ≡ suc p = omega arith in
      let row : slice_get (state_of nodes log).clauses (suc p) ≡ Some (i.clause ∷ []) = subst (λ q. slice_get (state_of nodes log).clauses q ≡ Some (i.clause ∷ [])) n (m.row ∙ ap (λ o. Some (lemma_row o)) i.is) in
      let one : slice_get (i.clause ∷ []) k ≡ Some c = ap (λ o. clause_in o k) (sym row) ∙ at in
      ap (λ o. clause_in o 0) row ∙ first k i.clause c one
    where
      first : (k : ℕ) (b c : List Literal) → slice_get (b ∷ []) k ≡ Some c → slice_get (b ∷ []) 0 ≡ Some c
      first zero b c h = h
      first (suc k) b c h = let f : ⊥ = cc in absurd f

  module _ (reached : List ℕ) (live : List Live) (closed : AreClosed nodes (state_of nodes log).images (Contains reached)) (of_reached : All (IsOfReached log reached) live) (begun terms given pairs held : List ℕ) (first : begun ≡ 0 ∷ [])
      (gain_terms : Gains begun (IsTermStep log reached) terms) (gain_given : Gains terms (IsAssertionStep log live) given) (gain_pairs : Gains given (IsHeldPair log pairs) pairs) (gain_lemmas : Gains pairs (IsHeldLemma (state_of nodes log).clauses s.makers s.lemmas held) held)
      (all_terms : All (IsHeldWithBits log terms) reached) (all_given : All (IsHeldAssertion log given) live) (all_pairs : All (λ p. IsHeldPair log given p → Contains pairs p) s.equalities) (all_lemmas : All (IsDecided (state_of nodes log).clauses s.makers held) s.lemmas)
      (placed : (t : ℕ) (o : Option ℕ) → IsSome ((state_of nodes log).bits t) → IsPlaceOf (GivesBits log t) o → IsSome o) where
    zero_held : Contains held 0
    zero_held = gain_lemmas.kept 0 (gain_pairs.kept 0 (gain_given.kept 0 (gain_terms.kept 0 (subst (λ (l : List ℕ). Contains l 0) (sym first) (0, omega arith, refl)))))

    -- a reached term with bits has its step among the first
    term_among : (t : ℕ) → Contains reached t → IsSome ((state_of nodes log).bits t) → IsHeldTerm log terms t
    term_among t is_in has = go w.0 w.1 w.2
      where
        w : IsHeldWithBits log terms t
        w = All-contains (IsHeldWithBits log terms) reached t all_terms is_in

        go : (o : Option ℕ) → IsPlaceOf (GivesBits log t) o → IfSome o (Contains terms) → IsHeldTerm log terms t
        go None place k = let r = placed t None has place in let f : ⊥ = cc in absurd f
        go (Some p) place k = (p, place, k)

    -- what is held before the lemmas
    begun_is : (p : ℕ) → Contains begun p → p ≡ 0
    begun_is p k = sym (Contains-one 0 p (subst (λ (l : List ℕ). Contains l p) first k))

    given_only : (p : ℕ) → Contains given p → IsOfTerms log reached p
    given_only p k = ⊎_elim
        (λ (a : Contains terms p). ⊎_elim
        (λ (b : Contains begun p). inl (begun_is p b))
        (λ (b : IsTermStep log reached p). inr (inl b))
        (gain_terms.only p a))
        (λ (a : IsAssertionStep log live p). inr (inr (a.0.assertion, a.2.0, All-contains (IsOfReached log reached) live a.0 of_reached a.1 p a.2.0 a.2.1, a.2.1)))
        (gain_given.only p k)

    -- a term whose step is held is reached
    reached_by : (t p : ℕ) → GivesBits log t p → IsOfTerms log reached p → Contains reached t
    reached_by t p g (inl z) = let r : None ≡ Some g.0 = ap (entry_at log) (sym z) ∙ g.1 in let f : ⊥ = cc in absurd f
    reached_by t p g (inr (inl (u, is_in, k))) =
        let both : Some k.0 ≡ Some g.0 = sym k.1 ∙ g.1 in
        let same : k.0 ≡ g.0 = cc in
        let r : role.Bits u ≡ role.Bits t = sym k.2 ∙ ap role_of same ∙ g.2 in
        let q : u ≡ t = cc in
        subst (Contains reached) q is_in
    reached_by t p g (inr (inr (a, u, is_in, k))) =
        let both : Some (step.Selector a u) ≡ Some g.0 = sym k ∙ g.1 in
        let same : step.Selector a u ≡ g.0 = cc in
        let r : role.Selector a ≡ role.Bits t = ap role_of same ∙ g.2 in
        let f : ⊥ = cc in absurd f

    pair_reached : (t : ℕ) → IsHeldTerm log pairs t → Contains reached t
    pair_reached t h = ⊎_elim
        (λ (a : Contains given h.0). reached_by t h.0 h.1 (given_only h.0 a))
        (λ (w : IsHeldPair log pairs h.0). absurd (pair_is_no_bits log h.0 w.0 w.1 t w.2 h.1))
        (gain_pairs.only h.0 h.2)

    pairs_only : (p : ℕ) → Contains pairs p → IsOfTerms log reached p ⊎ (IsOfPair log reached p ⊎ IsOfLemma nodes log held p)
    pairs_only p k = ⊎_elim
        (λ (a : Contains given p). inl (given_only p a))
        (λ (w : IsHeldPair log pairs p). inr (inl (w.0, w.1, pair_reached w.0 w.3, pair_reached w.1 w.4, w.2)))
        (gain_pairs.only p k)

    lemma_only : (p : ℕ) → IsHeldLemma (state_of nodes log).clauses s.makers s.lemmas held p → IsOfLemma nodes log held p
    lemma_only p h =
        let a = All-contains (IsLemmaAt log) s.lemmas p read.lemmas h.0 in
        record {
          lemma = a.0;
          is = a.1;
          own = λ k c l at m. (let w = h.1 c (lone p k a.0 c a.1 at) l m in held_made held l.variable w.0 w.1);
        }

    lemma_decided : (p k : ℕ) (a : Lemma) (c : List Literal) → entry_at log p ≡ Some (step.Lemma a) → clause_in (slice_get (state_of nodes log).clauses p) k ≡ Some c
        → Contains held p ⊎ ((l : Literal) × Contains c l × (IsMadeAt nodes log held l.variable → ⊥))
    lemma_decided p k a c there at =
        let within = entry_within log p (step.Lemma a) there in
        let among = read.each_lemma p (omega (arith, within, whole)) (a, there) in
        ⊎_elim
        (λ (h : Contains held p). inl h)
        (λ (o : HasOtherMaker (state_of nodes log).clauses s.makers held p). (let w = o c (lone p k a c there at) in inr (w.0, w.1, (λ m. w.3 (made_held held w.0.variable zero_held m)))))
        (All-contains (IsDecided (state_of nodes log).clauses s.makers held) s.lemmas p all_lemmas among)

    pub opening : AreOpeningSteps nodes log reached held
    opening = record {
      closed = closed;
      first = zero_held;
      terms = λ t is_in has. (let w = term_among t is_in has in (w.0, w.1, gain_lemmas.kept w.0 (gain_pairs.kept w.0 (gain_given.kept w.0 w.2))));
      lemmas = lemma_decided;
      only = λ p k. ⊎_elim
          (λ (a : Contains pairs p). pairs_only p a)
          (λ (w : IsHeldLemma (state_of nodes log).clauses s.makers s.lemmas held p). inr (inr (lemma_only p w)))
          (gain_lemmas.only p k);
    }

    pub selectors_held : All (IsHeldAssertion log held) live
    selectors_held = All-weaker (IsHeldAssertion log given) (IsHeldAssertion log held) (λ a k. (k.0, k.1, gain_lemmas.kept k.0 (gain_pairs.kept k.0 k.2))) live all_given

    pub equalities_held : (at t u : ℕ) → entry_at log at ≡ Some (step.Equal t u) → Contains reached t → Contains reached u → Contains held at
    equalities_held zero t u there in_t in_u = let f : ⊥ = cc in absurd f
    equalities_held (suc p) t u there in_t in_u =
        let r = equal_step nodes log all is p t u there in
        let within = slice_get_within log p (step.Equal t u) there in
        let among = read.each_equality (suc p) (omega (arith, within, whole)) (t, u, there) in
        let left = term_among t in_t (ap is_some (bits_stay nodes log is p t r.left r.left_bits)) in
        let right = term_among u in_u (ap is_some (bits_stay nodes log is p u r.right r.right_bits)) in
        gain_lemmas.kept (suc p) (All-contains (λ q. IsHeldPair log given q → Contains pairs q) s.equalities (suc p) all_pairs among
        (t, u, there, (left.0, left.1, gain_given.kept left.0 left.2), (right.0, right.1, gain_given.kept right.0 right.2)))

-- ---- over a stored log

-- What is held after each part: terms, assertions, equalities and lemmas.
pub record AreHoldings (log : LogValue) (s : ReadSteps) (reached : List ℕ) (live : List Live) (terms given pairs held : List ℕ) : Type 0 where
  pub gain_terms : Gains (0 ∷ []) (IsTermStep log.entries reached) terms
  pub gain_given : Gains terms (IsAssertionStep log.entries live) given
  pub gain_pairs : Gains given (IsHeldPair log.entries pairs) pairs
  pub gain_lemmas : Gains pairs (IsHeldLemma log.clauses s.makers s.lemmas held) held
  pub all_terms : All (IsHeldWithBits log.entries terms) reached
  pub all_given : All (IsHeldAssertion log.entries given) live
  pub all_pairs : All (λ p. IsHeldPair log.entries given p → Contains pairs p) s.equalities
  pub all_lemmas : All (IsDecided log.clauses s.makers held) s.lemmas

-- what a check is told
pub record IsOpened (nodes : List Node) (log : LogValue) (reached : List ℕ) (live : List Live) (held : List ℕ) : Type 0 where
  pub opening : AreOpeningSteps nodes log.entries reached held
  pub selectors : All (IsHeldAssertion log.entries held) live
  pub equalities : (at t u : ℕ) → entry_at log.entries at ≡ Some (step.Equal t u) → Contains reached t → Contains reached u → Contains held at

pub opened : (nodes : List Node) (log : LogValue) (s : ReadSteps) (reached : List ℕ) (live : List Live) (terms given pairs held : List ℕ) → IsTermList nodes → Stands nodes log → IsRead nodes log.entries s → s.read ≡ length log.entries
    → AreClosed nodes (image_in log.bits) (Contains reached) → All (IsOfReached log.entries reached) live → AreHoldings log s reached live terms given pairs held → IsOpened nodes log reached live held
opened nodes log s reached live terms given pairs held all stands read whole closed of_reached h =
    let k = stands_over nodes log stands in
    let over = λ (t u : ℕ) (a : Contains reached t) (b : Contains (stands_on nodes t ((state_of nodes log.entries).images t)) u). closed t u a (subst (λ (o : Option ℕ). Contains (stands_on nodes t o) u) (sym (k.images t)) b) in
    let lemmas = subst (λ (rows : List (List (List Literal))). Gains pairs (IsHeldLemma rows s.makers s.lemmas held) held) k.clauses h.gain_lemmas in
    let decided = subst (λ (rows : List (List (List Literal))). All (IsDecided rows s.makers held) s.lemmas) k.clauses h.all_lemmas in
    let placed = λ (t : ℕ) (o : Option ℕ) (has : IsSome ((state_of nodes log.entries).bits t)) (place : IsPlaceOf (GivesBits log.entries t) o). (let b = some_value ((state_of nodes log.entries).bits t) has in bits_placed nodes log t b.0 o stands (k.bits t ∙ b.1) place) in
    record {
      opening = opening nodes log.entries all k.steps s read whole reached live over of_reached (0 ∷ []) terms given pairs held refl h.gain_terms h.gain_given h.gain_pairs lemmas h.all_terms h.all_given h.all_pairs decided placed;
      selectors = selectors_held nodes log.entries all k.steps s read whole reached live over of_reached (0 ∷ []) terms given pairs held refl h.gain_terms h.gain_given h.gain_pairs lemmas h.all_terms h.all_given h.all_pairs decided placed;
      equalities = equalities_held nodes log.entries all k.steps s read whole reached live over of_reached (0 ∷ []) terms given pairs held refl h.gain_terms h.gain_given h.gain_pairs lemmas h.all_terms h.all_given h.all_pairs decided placed;
    }

-- what is given is a copy of what is held
pub ok_with : {V E : Type 0} (items : V → List ℕ) (P : List ℕ → Type 0) (held : List ℕ) (r : Result V E) → IfOk r (λ v. items v ≡ held) → P held → IfOk r (λ v. P (items v))
ok_with items P held (Ok v) e h = subst P (sym e) h
ok_with items P held (Err x) e h = tt
