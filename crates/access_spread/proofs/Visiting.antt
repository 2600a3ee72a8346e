-- Edges from a row, one more at a time.
use Rattle.std.proofs.Common.{◌≡◌, ℕ, zero, suc, ◌+◌, ◌<◌, ◌≤◌, true, List, [], ◌∷◌, length, Some, refl, sym, ap, ◌∙◌, subst, inl, inr, ⊎_elim, arith}
use Rattle.std.specs.Prelude.{slice_get}
use Rattle.std.proofs.lemmas.Bool.{cases_lt}
use Rattle.std.proofs.lemmas.Option.{slice_get_within}
use Rattle.access_spread.specs.declared.graph.Edge.{Edge}
use Rattle.access_spread.specs.declared.graph.Gate.{Gate}
use Rattle.access_spread.specs.declared.graph.Graph.{Graph}
use Rattle.access_spread.specs.declared.spreading.Start.{Start}
use Rattle.access_spread.specs.declared.lane.Lane.{Lane}
use Rattle.access_spread.specs.declared.spreading.Refusal.{Refusal}
use Rattle.access_spread.specs.declared.spreading.Row.{Row}
use Rattle.access_spread.specs.declared.spreading.State.{State}
use Rattle.access_spread.specs.Graphs.{passes, gate_at, takes}
use Rattle.access_spread.specs.Spreads.{index_in, value_in, start_at, HasRow, IsMet, IsRoomy, IsComplete, Fits, Grows, Meets, AreVisited, AreSingle, IsTable, AreTold, most_refused}
use Rattle.access_spread.proofs.Lists.{longer}

-- what fits where there is room did so before
pub roomy : (old new : State) → Grows old new → IsRoomy new → IsRoomy old
roomy old new grows room = let h = longer old.refused.items new.refused.items grows.refusals in omega (arith, h, room)

pub met_grows : (starts : List Start) (old new : State) → Grows old new → (a k x : ℕ) → IsMet starts old.rows.items old.refused.items a k x → IsMet starts new.rows.items new.refused.items a k x
met_grows starts old new grows a k x =
    ⊎_elim
    (λ h. inl (h.0, h.1, grows.rows h.0 h.1 h.2, h.3, h.4, h.5))
    (λ h. inr (h.0, h.1, grows.refusals h.0 h.1 h.2, h.3, h.4))

pub row_there : (xs : List Row) (i : ℕ) → i < length xs → (x : Row) × (slice_get xs i ≡ Some x)
row_there [] i lt = absurd (omega arith)
row_there (x ∷ xs) zero lt = (x, refl)
row_there (x ∷ xs) (suc i) lt = row_there xs i (omega arith)

module _ (g : Graph) (gates : List Gate) (lanes : List Lane) (starts : List Start) where
  -- the edges of a fan before a place are met
  abbrev pub MeetsBefore : List ℕ → ℕ → State → Row → Type 0
  MeetsBefore fan n st r =
      (i j : ℕ) (e : Edge) → i < n → slice_get fan i ≡ Some j → slice_get g.edges.items j ≡ Some e → takes lanes j (start_at starts r.start).wide ≡ true → passes (gate_at gates e.gate) (index_in starts r) ≡ true
      → IsMet starts st.rows.items st.refused.items e.to (index_in starts r) (value_in starts r)

  pub grows_refl : (st : State) → Grows st st
  grows_refl st = record { rows = λ p r e. e; refusals = λ k c e. e; begun = refl; index = refl }

  pub grows_trans : (a b c : State) → Grows a b → Grows b c → Grows a c
  grows_trans a b c h k = record { rows = λ p r e. k.rows p r (h.rows p r e); refusals = λ i d e. k.refusals i d (h.refusals i d e); begun = k.begun ∙ h.begun; index = k.index ∙ h.index }

  pub meets_next : (fan : List ℕ) (n j : ℕ) (e : Edge) (old new : State) (r : Row) → Grows old new → slice_get fan n ≡ Some j → slice_get g.edges.items j ≡ Some e
      → (takes lanes j (start_at starts r.start).wide ≡ true → passes (gate_at gates e.gate) (index_in starts r) ≡ true → IsMet starts new.rows.items new.refused.items e.to (index_in starts r) (value_in starts r))
      → MeetsBefore fan n old r → MeetsBefore fan (n + 1) new r
  meets_next fan n j e old new r grows here edge own before i k d lt at get taken pass =
      ⊎_elim
      (λ less. met_grows starts old new grows d.to (index_in starts r) (value_in starts r) (before i k d less at get taken pass))
      (λ more.
      let same : i ≡ n = omega arith in
      let q : Some j ≡ Some k = sym here ∙ ap (slice_get fan) (sym same) ∙ at in
      let is : j ≡ k = cc in
      let w : Some e ≡ Some d = sym edge ∙ ap (slice_get g.edges.items) is ∙ get in
      let de : e ≡ d = cc in
      subst (λ z. IsMet starts new.rows.items new.refused.items z.to (index_in starts r) (value_in starts r)) de
      (own (ap (λ z. takes lanes z (start_at starts r.start).wide) is ∙ taken) (ap (λ z. passes (gate_at gates z.gate) (index_in starts r)) de ∙ pass)))
      (cases_lt i n)

  pub visited_grows : (old new : State) (at : ℕ) → Grows old new → at ≤ length old.rows.items → AreVisited g gates lanes starts old.rows.items old.refused.items at → AreVisited g gates lanes starts new.rows.items new.refused.items at
  visited_grows old new at grows le v p r lt e j d get from taken pass =
      let old_at = row_there old.rows.items p (omega (arith, lt, le)) in
      let same : old_at.0 ≡ r = let x : Some old_at.0 ≡ Some r = sym (grows.rows p old_at.0 old_at.1) ∙ e in cc in
      let h = v p r lt (old_at.1 ∙ ap Some same) j d get from taken pass in
      met_grows starts old new grows d.to (index_in starts r) (value_in starts r) h

  pub visited_next : (st : State) (at : ℕ) → AreVisited g gates lanes starts st.rows.items st.refused.items at → ((r : Row) → slice_get st.rows.items at ≡ Some r → Meets g gates lanes starts st.rows.items st.refused.items r)
      → AreVisited g gates lanes starts st.rows.items st.refused.items (at + 1)
  visited_next st at v h p r lt e =
      ⊎_elim
      (λ less. v p r less e)
      (λ more. let same : p ≡ at = omega arith in h r (ap (slice_get st.rows.items) (sym same) ∙ e))
      (cases_lt p at)

  pub grows_within : (old new : State) → Grows old new → (at : ℕ) → at < length old.rows.items → at < length new.rows.items
  grows_within old new grows at lt =
      let r = row_there old.rows.items at lt in
      slice_get_within new.rows.items at r.0 (grows.rows at r.0 r.1)

  pub grows_length : (old new : State) → Grows old new → length old.rows.items ≤ length new.rows.items
  grows_length old new grows = longer old.rows.items new.rows.items grows.rows

  pub told : (st : State) → (IsRoomy st → AreVisited g gates lanes starts st.rows.items st.refused.items (length st.rows.items))
      → (IsRoomy st → (s : ℕ) → s < length starts → IsMet starts st.rows.items st.refused.items (start_at starts s).array (start_at starts s).index (start_at starts s).value)
      → AreTold g gates lanes starts st.rows.items st.refused.items
  told st visited met = record { starts_met = met; rows_met = λ room p r e. visited room p r (slice_get_within st.rows.items p r e) e }

  pub single : (st : State) → Fits g gates starts st → AreSingle starts st.rows.items
  single st fits p q r s e f same k =
      ⊎_elim
      (λ lt. let h = fits.rising p q r s lt e f same in omega (arith, h, k))
      (λ le.
      ⊎_elim
      (λ lt. let h = fits.rising q p s r lt f e (sym same) in omega (arith, h, k))
      (λ le'. omega arith)
      (cases_lt q p))
      (cases_lt p q)

  -- where none is refused, what is met is a row
  met_row : (rows : List Row) (refused : List Refusal) (a k x : ℕ) → refused ≡ [] → IsMet starts rows refused a k x → HasRow starts rows a k x
  met_row rows refused a k x none =
      ⊎_elim
      (λ h. h)
      (λ h. let q : slice_get [] h.0 ≡ Some h.1 = ap (λ cs. slice_get cs h.0) (sym none) ∙ h.2 in let z : ⊥ = nothing h.0 h.1 q in absurd z) where
        nothing : (i : ℕ) (c : Refusal) → slice_get [] i ≡ Some c → ⊥
        nothing i c q = let z : ⊥ = cc in z

  pub table : (st : State) → Fits g gates starts st → AreTold g gates lanes starts st.rows.items st.refused.items → IsComplete lanes st.refused.items → IsTable g gates starts st.rows.items
  table st fits all complete = record {
    starts_have = λ s lt. met_row st.rows.items st.refused.items _ _ _ complete.1 (all.starts_met room s lt);
    closed = λ p r e j d get from pass. met_row st.rows.items st.refused.items _ _ _ complete.1 (all.rows_met room p r e j d get from (ap (λ ls. takes ls j (start_at starts r.start).wide) complete.0) pass);
    single = single st fits;
    derived = fits.derived;
    started = fits.started;
  } where
    room : length st.refused.items < most_refused
    room = let z : length st.refused.items ≡ 0 = ap length complete.1 in omega (arith, z)
