-- Where all leaves that a search holds are read, each reached term has the value of its bits.
use Rattle.std.proofs.Common.{◌≡◌, ℕ, zero, suc, ◌+◌, ◌<◌, ◌≤◌, Bool, true, false, List, [], ◌∷◌, length, take, get_or, Option, Some, None, refl, sym, ap, ◌∙◌, subst, inl, inr, ⊎_elim}
use Rattle.std.specs.Prelude.{◌⊎◌, All, Contains, IsSome, is_some}
use Rattle.std.specs.List.{AllByRecursion}
use Rattle.std.proofs.lemmas.List.{take_all}
use Rattle.std.proofs.lemmas.List.Elements.{All-contains, All-more, All-weaker}
use Rattle.cnf_base.specs.Literals.{Literal}
use Rattle.cnf_base.proofs.Lists.{Contains-nil, Contains-one, each_member}
use Rattle.cnf_base.proofs.Options.{some_value}
use Rattle.smt_terms.specs.declared.sort.Sort.TheVariants as sort
use Rattle.smt_terms.specs.declared.node.Node.{Node}
use Rattle.smt_terms.specs.Nodes.{node_at}
use Rattle.smt_terms.specs.Terms.{IsTermList, sort_of}
use Rattle.smt_terms.specs.Bits.{bits_in, image_in}
use Rattle.smt_terms.specs.Values.{Interpretation, VBool, value}
use Rattle.bit_blast.specs.Blocks.{with_first, all_bits}
use Rattle.bit_blast.specs.Meanings.{AreBitsOf}
use Rattle.cnf_base.specs.Clauses.{lit_true}
use Rattle.proof_log.specs.declared.entry.Entry.{Entry}
use Rattle.proof_log.specs.declared.entry.Entry.TheVariants as step
use Rattle.proof_log.specs.Assigned.{IsTrueAt, stands_on, AreClosed, Satisfies}
use Rattle.proof_log.specs.Logs.{constant_width, entry_at, state_of}
use Rattle.proof_log.specs.Places.{GivesBits, IsForTerm}
use Rattle.proof_log.specs.Stored.{LogValue, IsKept, Stands}
use Rattle.proof_log.proofs.Assigned.{terms_valued}
use Rattle.proof_log.proofs.Settled.{stands_settled}
use Rattle.proof_log.proofs.Standing.{stands_over}
use Rattle.reached_steps.specs.Opening.{AreOpeningSteps}
use Rattle.reached_steps.proofs.Steps.{before_step, bits_stay, encode_step, rewrite_step}
use Rattle.opening_positions.proofs.Opens.{one_place}
use Rattle.word_models.specs.Models.{HasOtherLeaf, HasItsBits, HaveTheirBits, IsReadLeaf, KeepsRead}
use Rattle.word_models.proofs.Constants.{constant_by, constant_term}
use Rattle.word_models.proofs.Leaves.{leaf_there}

-- ---- the leaves at the positions

-- one leaf more is read
pub reads_more : (nodes : List Node) (log : LogValue) (v : ℕ → Bool) (old new : Interpretation) (positions : List ℕ) (i : ℕ) → i < length positions → KeepsRead nodes log v old new → IsReadLeaf new nodes log v (get_or positions i 0)
    → All (IsReadLeaf old nodes log v) (take i positions) → All (IsReadLeaf new nodes log v) (take (i + 1) positions)
reads_more nodes log v old new positions i lt keeps own h =
    All-more (IsReadLeaf new nodes log v) positions i 0 lt (All-weaker (IsReadLeaf old nodes log v) (IsReadLeaf new nodes log v) keeps (take i positions) h) own

-- at the end of the positions all were read
pub all_read : (M : Interpretation) (nodes : List Node) (log : LogValue) (v : ℕ → Bool) (positions : List ℕ) (i : ℕ) → length positions ≤ i → All (IsReadLeaf M nodes log v) (take i positions) → All (IsReadLeaf M nodes log v) positions
all_read M nodes log v positions i le h = subst (All (IsReadLeaf M nodes log v)) (take_all i positions le) h

-- where all were read, none is
pub no_other : (M : Interpretation) (nodes : List Node) (log : LogValue) (v : ℕ → Bool) (positions : List ℕ) → All (IsReadLeaf M nodes log v) positions → HasOtherLeaf nodes log.entries positions → ⊥
no_other M nodes log v positions read h =
    let k = (All-contains (IsReadLeaf M nodes log v) positions h.0 read h.1 h.2.0 h.2.1).0 in
    let q : true ≡ false = sym k ∙ ap is_some h.2.2 in
    let f : ⊥ = cc in f

-- ---- the reached terms

-- rows of all terms are rows of each
rows_each : (bits : ℕ → Option (List Literal)) (args : List ℕ) (rows : List (List Literal)) → all_bits bits args ≡ Some rows → AllByRecursion (λ u. IsSome (bits u)) args
rows_each bits [] rows e = tt
rows_each bits (t ∷ ts) rows e = go (bits t) (all_bits bits ts) refl (λ bs q. rows_each bits ts bs q) e
  where
    go : (o : Option (List Literal)) (os : Option (List (List Literal))) → bits t ≡ o → ((bs : List (List Literal)) → os ≡ Some bs → AllByRecursion (λ u. IsSome (bits u)) ts) → with_first o os ≡ Some rows → IsSome (bits t) × AllByRecursion (λ u. IsSome (bits u)) ts
    go (Some b) (Some bs) p q r = (ap is_some p, q bs refl)
    go (Some b) None p q r = let f : ⊥ = cc in absurd f
    go None os p q r = let f : ⊥ = cc in absurd f

module _ (M : Interpretation) (nodes : List Node) (log : LogValue) (v : ℕ → Bool) (reached positions : List ℕ) (all : IsTermList nodes) (stands : Stands nodes log) (opening : AreOpeningSteps nodes log.entries reached positions) (model : (p : ℕ) → Contains positions p → IsTrueAt log v p)
    (read : All (IsReadLeaf M nodes log v) positions) where
  kept : IsKept nodes log
  kept = stands_over nodes log stands

  -- a reached term that has bits
  abbrev Known : ℕ → Type 0
  Known t = Contains reached t × IsSome (bits_in log.bits t)

  step_of : (t : ℕ) → Known t → (p : ℕ) × GivesBits log.entries t p × Contains positions p
  step_of t k = opening.terms t k.0 (subst (λ (o : Option (List Literal)). IsSome o) (kept.bits t) k.1)

  leaf_at : (t p : ℕ) → Contains positions p → entry_at log.entries p ≡ Some (step.Leaf t) → IsSome (constant_width (node_at nodes t).op) × HasItsBits M nodes log v t
  leaf_at t p here there = All-contains (IsReadLeaf M nodes log v) positions p read here t there

  -- a leaf has no arguments
  leaf_bare : (t u p : ℕ) → Contains positions p → entry_at log.entries p ≡ Some (step.Leaf t) → Contains (node_at nodes t).args u → ⊥
  leaf_bare t u p here there c =
      let k = constant_by (node_at nodes t).op (leaf_at t p here there).0 in
      let own = (constant_term nodes t k.0 k.1 all (leaf_there nodes log p t all stands there).0 k.2).0 in
      Contains-nil u (subst (λ (n : Node). Contains n.args u) own c)

  -- the arguments of a circuit have bits
  circuit_known : (t u p : ℕ) → entry_at log.entries p ≡ Some (step.Encode t) → Contains (node_at nodes t).args u → IsSome (bits_in log.bits u)
  circuit_known t u zero there c = let f : ⊥ = cc in absurd f
  circuit_known t u (suc q) there c =
      let s = encode_step nodes log.entries all kept.steps q t there in
      let bits = (before_step nodes log.entries q).bits in
      let args = (node_at nodes t).args in
      let b = some_value (bits u) (each_member (λ a. IsSome (bits a)) args u (rows_each bits args s.rows s.arguments) c) in
      ap is_some (kept.bits u ∙ bits_stay nodes log.entries kept.steps q u b.0 b.1)

  -- what gave a term without an image its bits
  made_by : (t p : ℕ) → (e : Entry) → entry_at log.entries p ≡ Some e → IsForTerm t e → image_in log.bits t ≡ None → (entry_at log.entries p ≡ Some (step.Leaf t)) ⊎ (entry_at log.entries p ≡ Some (step.Encode t))
  made_by t p (step.Leaf x) there is_for none = let own : x ≡ t = cc in inl (there ∙ ap (λ y. Some (step.Leaf y)) own)
  made_by t p (step.Encode x) there is_for none = let own : x ≡ t = cc in inr (there ∙ ap (λ y. Some (step.Encode y)) own)
  made_by t zero (step.Rewrite r) there is_for none = let f : ⊥ = cc in absurd f
  made_by t (suc q) (step.Rewrite r) there is_for none =
      let own : r.from ≡ t = cc in
      let image : image_in log.bits t ≡ Some r.to = kept.images t ∙ ap (state_of nodes log.entries).images (sym own) ∙ (rewrite_step nodes log.entries all kept.steps q r there).image in
      let f : ⊥ = cc in absurd f
  made_by t p e there is_for none = let f : ⊥ = cc in absurd f

  -- on what a reached term with bits stands has bits
  below_known : (t u : ℕ) (o : Option ℕ) → Known t → image_in log.bits t ≡ o → Contains (stands_on nodes t o) u → IsSome (bits_in log.bits u)
  below_known t u (Some w) k image c = subst (λ x. IsSome (bits_in log.bits x)) (Contains-one w u c) ((stands_settled nodes log all stands).linked t w image).0
  below_known t u None k image c =
      let s = step_of t k in
      ⊎_elim (λ e. absurd (leaf_bare t u s.0 s.2 e c)) (λ e. circuit_known t u s.0 e c) (made_by t s.0 s.1.0 s.1.1 s.1.2 image)

  closed : AreClosed nodes (image_in log.bits) Known
  closed t u k c = (opening.closed t u k.0 (subst (λ o. Contains (stands_on nodes t o) u) (kept.images t) c), below_known t u (image_in log.bits t) k refl c)

  leaf_bits : (t p : ℕ) (b : List Literal) → Known t → entry_at log.entries p ≡ Some (step.Leaf t) → bits_in log.bits t ≡ Some b → AreBitsOf v (sort_of nodes t) b (value M nodes t)
  leaf_bits t p b k e has =
      let s = step_of t k in
      let same : s.0 ≡ p = one_place nodes log.entries kept.steps t s.0 p s.1 (step.Leaf t, e, refl) in
      (leaf_at t p (subst (Contains positions) same s.2) e).1 b has

  satisfied : Satisfies M nodes Known log v
  satisfied = record {
    first = model 0 opening.first;
    closed = closed;
    steps = λ t k. (let s = step_of t k in (s.0, s.1, model s.0 s.2));
    leaves = leaf_bits;
  }

  values : (t : ℕ) → Contains reached t → HasItsBits M nodes log v t
  values t c row e = (terms_valued M nodes Known log v all stands satisfied).bits t row (c, ap is_some e) e

-- whichever terms these are
pub have_bits : (M : Interpretation) (nodes : List Node) (log : LogValue) (v : ℕ → Bool) (positions : List ℕ) → IsTermList nodes → Stands nodes log → ((p : ℕ) → Contains positions p → IsTrueAt log v p) → All (IsReadLeaf M nodes log v) positions
    → HaveTheirBits M nodes log v positions
have_bits M nodes log v positions all stands model read reached t opening c = values M nodes log v reached positions all stands opening model read t c

-- the value of a Bool that has its bits
pub truth : (M : Interpretation) (nodes : List Node) (log : LogValue) (v : ℕ → Bool) (t : ℕ) (bit : Literal) → HasItsBits M nodes log v t → sort_of nodes t ≡ sort.Bool → bits_in log.bits t ≡ Some (bit ∷ []) → value M nodes t ≡ VBool (lit_true v bit)
truth M nodes log v t bit h is has =
    let own = subst (λ s. AreBitsOf v s (bit ∷ []) (value M nodes t)) is (h (bit ∷ []) has) in
    let same : bit ≡ own.0 = let q = own.1 in cc in
    own.2 ∙ ap (λ l. VBool (lit_true v l)) (sym same)
