-- What an assignment that makes the clauses of held steps true says of terms that got their bits by them.
use Rattle.std.proofs.Common.{◌≡◌, ℕ, zero, suc, Bool, true, false, not, ◌&&◌, ◌||◌, ◌+◌, ◌*◌, List, [], ◌∷◌, ◌++◌, length, Option, Some, None, refl, sym, ap, ◌∙◌, subst, inl, inr, arith}
use Rattle.std.specs.Prelude.{◌⊎◌, if◌then◌else◌, ltb, Contains, IsSome, is_some, slice_get}
use Rattle.cnf_base.specs.Literals.{Literal}
use Rattle.cnf_base.specs.Clauses.{no_id, lit_true, clause_true, all_true, number, bit}
use Rattle.cnf_base.specs.Gates.{gates_clauses}
use Rattle.cnf_base.specs.declared.clause.ClauseId.{ClauseId}
use Rattle.cnf_base.proofs.Lists.{slice_get-push, Contains-first, Contains-later}
use Rattle.smt_terms.specs.declared.sort.Sort.{Sort}
use Rattle.smt_terms.specs.declared.sort.Sort.TheVariants as sort
use Rattle.smt_terms.specs.declared.node.Node.{Node}
use Rattle.smt_terms.specs.Nodes.{node_at}
use Rattle.smt_terms.specs.Ranks.{is_array}
use Rattle.smt_terms.specs.Terms.{IsTermList, AreDifferent, sort_of}
use Rattle.smt_terms.specs.Values.{VBool, VWord}
use Rattle.smt_terms.specs.Bits.{TermBits, bits_in, image_in}
use Rattle.theory_terms.specs.declared.shape.Shape.{Shape}
use Rattle.theory_terms.specs.declared.shape.Shape.TheVariants.{Selecting, Storing, Filling, Choosing, Equating, Witnessing, Applying, Declaring, Other}
use Rattle.theory_terms.specs.Shapes.{shape_at}
use Rattle.bit_blast.specs.Blocks.{Block, with_first, all_bits, block_over, block_of}
use Rattle.access_tables.specs.Encoded.{HaveBits, IsSatisfied, AreSatisfied}
use Rattle.access_tables.specs.Held.{assigned_value, value_with, value_by}
use Rattle.access_tables.specs.Ready.{AreImages, AreKept, IsFreeShape, IsFree}
use Rattle.access_walk.specs.Maps.{AreLinked}
use Rattle.proof_log.specs.declared.entry.RuleUse.{RuleUse}
use Rattle.proof_log.specs.declared.entry.Entry.{Entry}
use Rattle.proof_log.specs.declared.entry.Entry.TheVariants as step
use Rattle.proof_log.specs.Logs.{LogState, start, clause_in, clause_at, entry_at, width_by, IsStep, IsLeaf, IsEncoding, IsRewrite, block_after, rewrite_after, after, state_from, state_of, IsLog}
use Rattle.proof_log.specs.Meanings.{GivesMore}
use Rattle.proof_log.specs.Places.{IsForTerm}
use Rattle.proof_log.specs.Boards.{AreBitsIn, AreImagesIn}
use Rattle.proof_log.proofs.Ordered.{steps_length}
use Rattle.proof_log.proofs.Staying.{Holds, state_from-append, steps_parts, steps_hold}
use Rattle.proof_log.proofs.Standing.{value_here}
use Rattle.proof_log.proofs.Linked.{images_are, log_linked, linked_bits}
use Rattle.cube_search.specs.Holding.{AreAmong}
use Rattle.cube_search.specs.Ends.{IsModel}
use Rattle.theory_search.specs.Theories.{IsGiven}

-- ---- values go by the variables of bits

abbrev pub AgreeOn : (ℕ → Bool) → (ℕ → Bool) → List Literal → Type 0
AgreeOn f v c = (l : Literal) → Contains c l → f l.variable ≡ v l.variable

first_agrees : (f v : ℕ → Bool) (l : Literal) (c : List Literal) → AgreeOn f v (l ∷ c) → lit_true f l ≡ lit_true v l
first_agrees f v l c h = ap (λ (b : Bool). if l.positive then b else not b) (h l (Contains-first l c))

rest_agrees : (f v : ℕ → Bool) (l : Literal) (c : List Literal) → AgreeOn f v (l ∷ c) → AgreeOn f v c
rest_agrees f v l c h k there = h k (Contains-later l k c there)

pub clause_agrees : (f v : ℕ → Bool) (c : List Literal) → AgreeOn f v c → clause_true f c ≡ clause_true v c
clause_agrees f v [] h = refl
clause_agrees f v (l ∷ c) h = ap (λ b. b || clause_true f c) (first_agrees f v l c h) ∙ ap (λ b. lit_true v l || b) (clause_agrees f v c (rest_agrees f v l c h))

number_agrees : (f v : ℕ → Bool) (row : List Literal) → AgreeOn f v row → number f row ≡ number v row
number_agrees f v [] h = refl
number_agrees f v (l ∷ row) h =
    let one = first_agrees f v l row h in
    let rest = number_agrees f v row (rest_agrees f v l row h) in
    ap (λ (b : Bool). bit b + 2 * number f row) one ∙ ap (λ (m : ℕ). bit (lit_true v l) + 2 * m) rest

bool_agrees : (f v : ℕ → Bool) (row : List Literal) → AgreeOn f v row → value_with f sort.Bool row ≡ value_with v sort.Bool row
bool_agrees f v [] h = refl
bool_agrees f v (l ∷ row) h = ap VBool (first_agrees f v l row h)

row_agrees : (f v : ℕ → Bool) (s : Sort) (row : List Literal) → AgreeOn f v row → value_with f s row ≡ value_with v s row
row_agrees f v sort.Bool row h = bool_agrees f v row h
row_agrees f v (sort.Word n) row h = ap (VWord n) (number_agrees f v row h)
row_agrees f v (sort.Array n m) row h = refl

pub value_agrees : (f v : ℕ → Bool) (s : Sort) (o : Option (List Literal)) → ((row : List Literal) → o ≡ Some row → AgreeOn f v row) → value_by f s o ≡ value_by v s o
value_agrees f v s None h = refl
value_agrees f v s (Some row) h = row_agrees f v s row (h row refl)

-- ---- the log before a step and behind it

record Parts (log : List Entry) (p : ℕ) (e : Entry) : Type 0 where
  pub before : List Entry
  pub more : List Entry
  pub whole : log ≡ before ++ e ∷ more
  pub place : p ≡ suc (length before)

parts : (log : List Entry) (p : ℕ) (e : Entry) → entry_at log p ≡ Some e → Parts log p e
parts log zero e h = let q : ⊥ = cc in absurd q
parts [] (suc p) e h = let q : ⊥ = cc in absurd q
parts (x ∷ log) (suc zero) e h = let q : x ≡ e = cc in record { before = []; more = log; whole = ap (λ y. y ∷ log) q; place = refl }
parts (x ∷ log) (suc (suc p)) e h =
    let k = parts log (suc p) e h in
    record { before = x ∷ k.before; more = k.more; whole = ap (λ l. x ∷ l) k.whole; place = ap suc k.place }

-- what stands before the step, that it may stand there, and that what it leaves stays
pub record StepAt (nodes : List Node) (log : List Entry) (p : ℕ) (e : Entry) : Type 0 where
  pub state : LogState
  pub step : IsStep nodes state e
  pub place : p ≡ length state.clauses
  pub before : Holds state (state_of nodes log)
  pub behind : Holds (after nodes state e) (state_of nodes log)

pub step_at : (nodes : List Node) (log : List Entry) (p : ℕ) (e : Entry) → IsLog nodes log → entry_at log p ≡ Some e → StepAt nodes log p e
step_at nodes log p e is h =
    let k = parts log p e h in
    let whole : IsLog nodes (k.before ++ e ∷ k.more) = subst (IsLog nodes) k.whole is in
    let split = steps_parts nodes start k.before (e ∷ k.more) whole in
    let s = state_of nodes k.before in
    let all : state_of nodes log ≡ state_from nodes s (e ∷ k.more) = ap (state_of nodes) k.whole ∙ state_from-append nodes start k.before (e ∷ k.more) in
    record {
      state = state_of nodes k.before;
      step = split.1.0;
      place = k.place ∙ sym (steps_length nodes start k.before ∙ omega arith);
      before = subst (Holds (state_of nodes k.before)) (sym all) (steps_hold nodes (state_of nodes k.before) (e ∷ k.more) split.1);
      behind = subst (Holds (after nodes (state_of nodes k.before) e)) (sym all) (steps_hold nodes (after nodes (state_of nodes k.before) e) k.more split.1.1);
    }

-- ---- blocks over more bits

rows_more : (f g : ℕ → Option (List Literal)) → GivesMore f g → (args : List ℕ) (rows : List (List Literal)) → all_bits f args ≡ Some rows → all_bits g args ≡ Some rows
rows_more f g more [] rows e = e
rows_more f g more (t ∷ ts) rows e = go (f t) (all_bits f ts) refl (λ bs q. rows_more f g more ts bs q) e
  where
    go : (o : Option (List Literal)) (os : Option (List (List Literal))) → f t ≡ o → ((bs : List (List Literal)) → os ≡ Some bs → all_bits g ts ≡ Some bs) → with_first o os ≡ Some rows → with_first (g t) (all_bits g ts) ≡ Some rows
    go None os p ih e = let r : ⊥ = cc in absurd r
    go (Some b) None p ih e = let r : ⊥ = cc in absurd r
    go (Some b) (Some bs) p ih e = ap (λ x. with_first x (all_bits g ts)) (more t b p) ∙ ap (λ y. with_first (Some b) y) (ih bs refl) ∙ e

pub block_more : (n : ℕ) (f g : ℕ → Option (List Literal)) → GivesMore f g → (node : Node) (b : Block) → block_of n f node ≡ Some b → block_of n g node ≡ Some b
block_more n f g more node b e = go (all_bits f node.args) refl e
  where
    go : (o : Option (List (List Literal))) → all_bits f node.args ≡ o → block_over node.op n o ≡ Some b → block_over node.op n (all_bits g node.args) ≡ Some b
    go None p e = let r : ⊥ = cc in absurd r
    go (Some rows) p e = ap (block_over node.op n) (rows_more f g more node.args rows p) ∙ e

-- ---- leaves

if_leaf : (b : Bool) (w : ℕ) → (if b then Some 1 else None) ≡ Some w → b ≡ true
if_leaf true w e = refl
if_leaf false w e = let f : ⊥ = cc in absurd f

and_right : (a b : Bool) → (a && b) ≡ true → b ≡ true
and_right true b e = e
and_right false b e = let f : ⊥ = cc in absurd f

leaf_free : (nodes : List Node) (t w : ℕ) (k : Shape) → width_by nodes t k ≡ Some w → IsFreeShape (sort_of nodes) k
leaf_free nodes t w (Selecting a i) e = tt
leaf_free nodes t w (Storing b j x) e = let f : ⊥ = cc in absurd f
leaf_free nodes t w (Filling x) e = let f : ⊥ = cc in absurd f
leaf_free nodes t w (Choosing c a b) e = let f : ⊥ = cc in absurd f
leaf_free nodes t w (Equating a b) e = and_right (ltb a t) (is_array (sort_of nodes a)) (if_leaf (ltb a t && is_array (sort_of nodes a)) w e)
leaf_free nodes t w (Witnessing a b) e = tt
leaf_free nodes t w (Applying d) e = tt
leaf_free nodes t w (Declaring d q) e = tt
leaf_free nodes t w Other e = let f : ⊥ = cc in absurd f

-- ---- terms of held steps

row_true : (f : ℕ → Bool) (row : List (List Literal)) → ((k : ℕ) (c : List Literal) → slice_get row k ≡ Some c → clause_true f c ≡ true) → all_true f row ≡ true
row_true f [] h = refl
row_true f (c ∷ cs) h = rw (h 0 c refl) (row_true f cs (λ k d e. h (suc k) d e))

module _ (nodes : List Node) (terms : IsTermList nodes) (different : AreDifferent nodes) (log : List Entry) (stands : IsLog nodes log)
    (bits : List TermBits) (are : AreBitsIn nodes log bits) (images : AreImagesIn nodes log bits)
    (opening : List ℕ) (given : List Literal) (v : ℕ → Bool) (model : IsModel (state_of nodes log).clauses opening given v)
    (variables : List ℕ) (f : ℕ → Bool) (agrees : (x : ℕ) → Contains variables x → f x ≡ v x) where
  known_agrees : (c : List Literal) → AreAmong variables c → AgreeOn f v c
  known_agrees c h l k = agrees l.variable (h l k)

  first_true : Contains opening 0 → Contains variables 1 → f 1 ≡ true
  first_true k one =
      let e : (v 1 || false) ≡ true = model.clauses no_id _ k ((steps_hold nodes start log stands).clauses no_id _ refl) in
      agrees 1 one ∙ holds (v 1) e
    where
      holds : (b : Bool) → (b || false) ≡ true → b ≡ true
      holds true e = refl
      holds false e = e

  -- the clauses of a held step
  true_row : (t : ℕ) (g : IsGiven nodes log variables opening t) (s r : LogState) (row : List (List Literal)) → r.clauses ≡ s.clauses ++ row ∷ [] → Holds r (state_of nodes log) → g.place ≡ length s.clauses
      → (k : ℕ) (c : List Literal) → slice_get row k ≡ Some c → clause_true f c ≡ true
  true_row t g s r row rows holds place k c e =
      let id : ClauseId = record { pos = g.place; part = k } in
      let own : clause_at r.clauses (record { pos = length s.clauses; part = k }) ≡ Some c = ap (λ x. clause_at x (record { pos = length s.clauses; part = k })) rows ∙ ap (λ o. clause_in o k) (slice_get-push s.clauses row) ∙ e in
      let there : clause_at (state_of nodes log).clauses id ≡ Some c = ap (λ q. clause_at (state_of nodes log).clauses (record { pos = q; part = k })) place ∙ holds.clauses (record { pos = length s.clauses; part = k }) c own in
      clause_agrees f v c (known_agrees c (g.clauses id c refl there)) ∙ model.clauses id c g.held there

  leaf_given : (t p : ℕ) → entry_at log p ≡ Some (step.Leaf t) → IsFree nodes t
  leaf_given t p e =
      let r = step_at nodes log p (step.Leaf t) stands e in
      let i : IsLeaf nodes r.state t = r.step in
      leaf_free nodes t i.width (shape_at nodes t) i.constant

  encode_given : (t : ℕ) (g : IsGiven nodes log variables opening t) → entry_at log g.place ≡ Some (step.Encode t) → IsSatisfied nodes bits f t
  encode_given t g e =
      let r = step_at nodes log g.place (step.Encode t) stands e in
      let i : IsEncoding nodes r.state t = r.step in
      let s = r.state in
      let behind : Holds (block_after s t (Some i.block)) (state_of nodes log) = subst (λ o. Holds (block_after s t o) (state_of nodes log)) i.circuit r.behind in
      record {
        first = s.next;
        block = i.block;
        is = block_more s.next s.bits (bits_in bits) (λ u b q. are u ∙ r.before.bits u b q) (node_at nodes t) i.block i.circuit;
        own = are t ∙ behind.bits t i.block.bits (value_here s.bits t i.block.bits);
        clauses = row_true f (gates_clauses s.next i.block.gates) (true_row t g s (block_after s t (Some i.block)) (gates_clauses s.next i.block.gates) refl behind r.place);
      }

  -- a term that a rule took to another has an image
  rewrite_given : (x : RuleUse) (p : ℕ) → entry_at log p ≡ Some (step.Rewrite x) → image_in bits x.from ≡ None → ⊥
  rewrite_given x p e none =
      let r = step_at nodes log p (step.Rewrite x) stands e in
      let i : IsRewrite nodes r.state x = r.step in
      let s = r.state in
      go s r.behind (s.bits x.to) refl i.held
    where
      go : (s : LogState) → Holds (after nodes s (step.Rewrite x)) (state_of nodes log) → (o : Option (List Literal)) → s.bits x.to ≡ o → IsSome o → ⊥
      go s behind None q has = let f : ⊥ = cc in f
      go s behind (Some row) q has =
          let left = rewrite_after s x (Some row) in
          let there : Holds left (state_of nodes log) = subst (λ o. Holds (rewrite_after s x o) (state_of nodes log)) q behind in
          let bits_are : left.bits x.from ≡ Some row = value_here s.bits x.from row in
          let image : (state_of nodes log).images x.from ≡ Some x.to = there.images x.from (ap is_some bits_are) ∙ value_here s.images x.from x.to in
          let both : None ≡ Some x.to = sym none ∙ images x.from ∙ image in
          let f : ⊥ = cc in f

  own_given : (t : ℕ) (g : IsGiven nodes log variables opening t) (e : Entry) → entry_at log g.place ≡ Some e → IsForTerm t e → image_in bits t ≡ None → IsFree nodes t ⊎ IsSatisfied nodes bits f t
  own_given t g (step.Leaf u) at for_term none =
      let own : u ≡ t = cc in
      inl (leaf_given t g.place (at ∙ ap (λ x. Some (step.Leaf x)) own))
  own_given t g (step.Encode u) at for_term none =
      let own : u ≡ t = cc in
      inr (encode_given t g (at ∙ ap (λ x. Some (step.Encode x)) own))
  own_given t g (step.Rewrite r) at for_term none =
      let own : r.from ≡ t = cc in
      absurd (rewrite_given r g.place at (subst (λ u. image_in bits u ≡ None) (sym own) none))
  own_given t g other at for_term none = let f : ⊥ = cc in absurd f

  kept_images : AreKept nodes (image_in bits)
  kept_images M w ev t u e = sym ((images_are nodes log terms different stands t u (sym (images t) ∙ e)).value M w ev)

  linked_images : (t u : ℕ) → image_in bits t ≡ Some u → bits_in bits t ≡ bits_in bits u
  linked_images t u e =
      let k = log_linked nodes log stands t u (sym (images t) ∙ e) in
      are t ∙ k.own ∙ sym (linked_bits nodes log t u stands k) ∙ sym (are u)

  -- a term has the value of its image
  pub linked_values : AreImages nodes (image_in bits) → AreLinked (image_in bits) (assigned_value nodes bits f)
  linked_values sorts t u e = ap (value_by f (sort_of nodes t)) (linked_images t u e) ∙ ap (λ s. value_by f s (bits_in bits u)) (sym (sorts.sort t u e))

  pub satisfied : (Here : ℕ → Type 0) → HaveBits nodes bits Here → Contains opening 0 → Contains variables 1 → ((t : ℕ) → Here t → IsSome ((state_of nodes log).bits t) → IsGiven nodes log variables opening t) → AreSatisfied nodes bits f Here
  satisfied Here have k one steps = record {
    first = first_true k one;
    kept = kept_images;
    linked = λ t u here e. linked_images t u e;
    each = λ t own plain.
        let row = have.rows t own.0 plain in
        let g = steps t own.0 (ap is_some (sym (are t) ∙ row.1)) in
        own_given t g g.gives.0 g.gives.1 g.gives.2 own.1;
  }

  pub one_true : Contains opening 0 → Contains variables 1 → f 1 ≡ true
  one_true = first_true
