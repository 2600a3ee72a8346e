-- Ways that grow at their end, over terms that grow.
use Rattle.std.proofs.Common.{◌≡◌, ℕ, zero, suc, ◌+◌, ◌-◌, ◌<◌, Bool, true, false, List, [], ◌∷◌, ◌++◌, length, map, refl, sym, ap, ◌∙◌, subst, arith, append_assoc, append-nil, length-append, ⊎_elim, Option, Some, None, Ok, Err, inl, inr}
use Rattle.std.specs.Prelude.{◌≤◌, ◌⊎◌, Contains, ◌==◌, ◌&&◌, ◌||◌, nat_lt, if◌then◌else◌, slice_index_or, Result}
use Rattle.std.specs.Cmp.Lexicographic.{pointwise}
use Rattle.std.proofs.lemmas.Bool.{and_parts, eq-eqb, eqb-true, lt-ltb, cases_lt}
use Rattle.std.proofs.lemmas.List.Elements.{Contains-append_left, Contains-append_right}
use Rattle.smt_terms.specs.declared.sort.Sort.TheVariants as sort
use Rattle.smt_terms.specs.declared.operator.Operator.TheVariants as plain
use Rattle.smt_terms.specs.declared.node.Op.{Op}
use Rattle.smt_terms.specs.declared.node.Op.TheVariants as op
use Rattle.smt_terms.specs.declared.fault.MakeFault.{MakeFault}
use Rattle.smt_terms.specs.Same.{same_op, same_sort, sort_same, sort_itself, node_itself}
use Rattle.smt_terms.specs.Nodes.{node_at, node_of}
use Rattle.std.specs.List.{AllByRecursion}
use Rattle.smt_terms.specs.declared.sort.Sort.{Sort}
use Rattle.smt_terms.specs.declared.node.Node.{Node}
use Rattle.smt_terms.specs.declared.fault.MakeError.{MakeError}
use Rattle.smt_terms.specs.declared.fault.MakeError.TheVariants.{NoMemory, Fault}
use Rattle.smt_terms.specs.declared.fault.MakeFault.TheVariants.{TermLimit}
use Rattle.smt_terms.specs.Ranks.{is_plain, is_word, ranked, two_words, two_truths, truth}
use Rattle.smt_terms.specs.Terms.{TermsValue, AreTerms, IsTermList, make, Makes, op_rank, sort_of}
use Rattle.smt_terms.proofs.Growing.{sort_longer, node_longer}
use Rattle.smt_terms.proofs.Typing.{guard_ok}
use Rattle.bv_rules.specs.declared.rule.Rule.{Rule}
use Rattle.bv_rules.specs.declared.rule.Rule.TheVariants.{Inner}
use Rattle.bv_rules.specs.Matches.{matches, AreImages}
use Rattle.bv_rules.proofs.Longer.{matches_more, reaches_more}
use Rattle.bv_rules.specs.Reading.{op_at}
use Rattle.bv_rules.specs.Arguments.{at_some, reaches, commutes_in, leads, has_reached}
use Rattle.bv_rewrite.specs.declared.shape.Shape.{Shape}
use Rattle.bv_rewrite.specs.declared.simplifying.Use.{Use}
use Rattle.bv_rewrite.specs.declared.simplifying.Simplified.{Simplified}
use Rattle.bv_rewrite.specs.Becoming.{becomes}
use Rattle.bv_rewrite.specs.Making.{made_shape, IsRanked, IsOfShape}
use Rattle.bv_rewrite.specs.Simplifying.{from_image, end_in, in_order, settled, first_use, IsSimplified, IsWay, AreNeeded, AreOfTable, IsCrowded, IsGrown, IsNeeded, IsOnWay, IsFollowed, IsRefused, IsStopped}
use Rattle.bv_rewrite.proofs.Fitting.{made, not_inner}
use Rattle.bv_rewrite.specs.Weights.{weight}
use Rattle.bv_rewrite.proofs.Ranking.{ranked_shape}
use Rattle.bv_rewrite.proofs.Lighter.{lighter_shape}
use Rattle.bv_rewrite.proofs.Made.{IsReady, IsThere, there, refused, refused_full, made_of_shape, shape_full, shape_refused}
use Rattle.bv_rewrite.proofs.Lasting.{becomes_longer}

both : (a b : Bool) → a ≡ true → b ≡ true → (a && b) ≡ true
both a b p q = λ i. p i && q i

op_itself : (n : Node) → same_op n.op n.op ≡ true
op_itself n = (and_parts (same_op n.op n.op) _ (node_itself n)).0

-- ---- growing

pub grown_none : (v : TermsValue) → AreTerms v → IsGrown v v
grown_none v h = record { terms = h; more = []; nodes = sym (append-nil v.nodes); limit = refl }

pub grown_more : (v w x : TermsValue) → IsGrown v w → IsGrown w x → IsGrown v x
grown_more v w x g h = record {
  terms = h.terms;
  more = g.more ++ h.more;
  nodes = h.nodes ∙ ap (λ l. l ++ h.more) g.nodes ∙ append_assoc v.nodes g.more h.more;
  limit = h.limit ∙ g.limit;
}

pub grown_shape : (v w : TermsValue) (s : Sort) (z : Shape) (u : ℕ) → IsOfShape v w s z u → IsGrown v w
grown_shape v w s z u h = record { terms = h.terms; more = h.more; nodes = h.grown; limit = h.limit }

held_grown : (v w : TermsValue) (t : ℕ) → IsGrown v w → t < length v.nodes → t < length w.nodes
held_grown v w t g lt = let n = ap length g.nodes ∙ length-append v.nodes g.more in omega (arith, n, lt)

-- ---- ways

-- a way that grows at its end
pub way_push : (nodes : List Node) (images : ℕ → Option ℕ) (t : ℕ) (uses : List Use) (u : ℕ) (s : Use) → IsWay nodes images t uses u → matches nodes images s.rule u s.to ≡ true → IsWay nodes images t (uses ++ s ∷ []) s.to
way_push nodes images t [] u s h m = (subst (λ x. matches nodes images s.rule x s.to ≡ true) (sym h) m, refl)
way_push nodes images t (r ∷ uses) u s h m = (h.0, way_push nodes images r.to uses u s h.1 m)

pub way_longer : (nodes more : List Node) (images : ℕ → Option ℕ) → IsTermList nodes → (t : ℕ) (uses : List Use) (u : ℕ) → IsWay nodes images t uses u → IsWay (nodes ++ more) images t uses u
way_longer nodes more images terms t [] u h = h
way_longer nodes more images terms t (s ∷ uses) u h = (matches_more nodes more images s.rule t s.to terms h.0, way_longer nodes more images terms s.to uses u h.1)

table_push : (uses : List Use) (s : Use) → AreOfTable uses → (s.rule ≡ Inner → ⊥) → AreOfTable (uses ++ s ∷ [])
table_push [] s h n = (n, tt)
table_push (r ∷ uses) s h n = (h.0, table_push uses s h.1 n)

-- ---- terms that are needed

none_between : (n k : ℕ) → n ≤ k → k < n → ⊥
none_between n k le lt = omega (arith, le, lt)

-- what a use needs is needed by more uses, over more terms
needed_more : (nodes more : List Node) (uses all : List Use) (k : ℕ) → ((s : Use) → Contains uses s → Contains all s) → IsNeeded nodes uses k → IsNeeded (nodes ++ more) all k
needed_more nodes more uses all k among h = record {
  by = h.by;
  among = among h.by h.among;
  held = let l = length-append nodes more in let x = h.held in omega (arith, l, x);
  is = ⊎_elim inl (λ c. inr (subst (λ (n : Node). Contains n.args k) (sym (node_longer nodes more h.by.to h.held)) c)) h.is;
}

needed_grown : (v w : TermsValue) (uses all : List Use) (k : ℕ) → IsGrown v w → ((s : Use) → Contains uses s → Contains all s) → IsNeeded v.nodes uses k → IsNeeded w.nodes all k
needed_grown v w uses all k g among h = subst (λ l. IsNeeded l all k) (sym g.nodes) (needed_more v.nodes g.more uses all k among h)

last_needed : (w : TermsValue) (uses : List Use) (s : Use) (k : ℕ) → s.to < length w.nodes → (s.to ≡ k) ⊎ Contains (node_at w.nodes s.to).args k → IsNeeded w.nodes (uses ++ s ∷ []) k
last_needed w uses s k lt h = record { by = s; among = Contains-append_right uses (s ∷ []) s (0, omega arith, refl); held = lt; is = h }

-- ---- the rules of the table, one after the other

pub begun : (v : TermsValue) (t : ℕ) (uses : List Use) → AreTerms v → t < length v.nodes → is_plain (sort_of v.nodes t) ≡ true → IsOnWay v v t uses uses t
begun v t uses h lt p = record { grown = grown_none v h; rest = []; added = sym (append-nil uses); table = tt; way = λ images. refl; held = lt; plain = p; needed = λ k le more. absurd (none_between (length v.nodes) k le more) }

pub went_on : (v w x : TermsValue) (t : ℕ) (before uses : List Use) (u n : ℕ) (rule : Rule) (z : Shape) → IsOnWay v w t before uses u → becomes w.nodes rule u ≡ Some z → IsOfShape w x (sort_of w.nodes u) z n
    → IsOnWay v x t before (uses ++ record { rule = rule; to = n } ∷ []) n
went_on v w x t before uses u n rule z h e m =
    let g = grown_shape w x (sort_of w.nodes u) z n m in
    let lu : u < length x.nodes = held_grown w x u g h.held in
    let su : sort_of x.nodes u ≡ sort_of w.nodes u = ap (λ l. sort_of l u) m.grown ∙ sort_longer w.nodes m.more u h.held in
    let pu : is_plain (sort_of x.nodes u) ≡ true = ap is_plain su ∙ h.plain in
    let eu : becomes x.nodes rule u ≡ Some z = (λ i. becomes (m.grown i) rule u) ∙ becomes_longer w.nodes m.more h.grown.terms.list rule u h.held ∙ e in
    let s : Use = record { rule = rule; to = n } in
    record {
      grown = grown_more v w x h.grown g;
      rest = h.rest ++ s ∷ [];
      added = ap (λ l. l ++ s ∷ []) h.added ∙ append_assoc before h.rest (s ∷ []);
      table = table_push h.rest s h.table (not_inner w.nodes u rule z e);
      way = λ images. way_push x.nodes images t h.rest u s (subst (λ l. IsWay l images t h.rest u) (sym m.grown) (way_longer w.nodes m.more images h.grown.terms.list t h.rest u (h.way images)))
          (made x.nodes images rule u n z m.terms.list lu m.held pu (m.sort ∙ sym su) eu m.has);
      held = m.held;
      plain = ap is_plain m.sort ∙ h.plain;
      needed = λ k le lt. ⊎_elim
          (λ less. needed_grown w x h.rest (h.rest ++ s ∷ []) k g (λ r c. Contains-append_left h.rest (s ∷ []) r c) (h.needed k le less))
          (λ more. last_needed x h.rest s k m.held (m.needed k more lt))
          (cases_lt k (length w.nodes));
    }

-- a shape that was not made
pub stopped : (t v x : TermsValue) (s : Sort) (z : Shape) (e : MakeError) → IsGrown t v → IsRanked v.nodes s z → Makes (made_shape v s z) (Err e) v x → IsRefused t x e
stopped t v x s z NoMemory g r h = record { grown = subst (IsGrown t) (sym h) g; cause = inl refl }
stopped t v x s z (Fault f) g r h = record { grown = subst (IsGrown t) (sym h.1) g; cause = inr (ap Fault (shape_refused v s z f g.terms r h.0)) }

-- and no room for it
pub stopped_full : (t v x : TermsValue) (from : ℕ) (before uses : List Use) (rule : Rule) (u : ℕ) (s : Sort) (z : Shape) (e : MakeError) → IsOnWay t v from before uses u → s ≡ sort_of v.nodes u → becomes v.nodes rule u ≡ Some z
    → Makes (made_shape v s z) (Err e) v x → e ≡ Fault TermLimit → IsStopped t from before
stopped_full t v x from before uses rule u s z e o q b h f =
    let m : Makes (made_shape v (sort_of v.nodes u) z) (Err (Fault TermLimit)) v x = subst (λ d. Makes (made_shape v (sort_of v.nodes u) z) (Err d) v x) f (subst (λ r. Makes (made_shape v r z) (Err e) v x) q h) in
    record { terms = v; uses = uses; at = u; on_way = o; full = shape_full v (sort_of v.nodes u) z TermLimit o.grown.terms (ranked_shape v.nodes rule u z o.grown.terms.list o.held b) m.0 }

-- want of memory is no fault
pub no_fault : {A : Type 0} (e : MakeError) → e ≡ NoMemory → e ≡ Fault TermLimit → A
no_fault e p q = let z : NoMemory ≡ Fault TermLimit = sym p ∙ q in let n : ⊥ = cc in absurd n

-- a step to an image
pub stepped : (images : ℕ → Option ℕ) (n i a c : ℕ) → i < n → Some c ≡ images a → end_in images (n - (i + 1)) c ≡ end_in images (n - i) a
stepped images n i a c lt e =
    let m : n - i ≡ suc (n - (i + 1)) = omega (arith, lt) in
    sym (ap (λ k. end_in images k a) m ∙ (λ j. from_image a (sym e j) (λ d. end_in images (n - (i + 1)) d)))

-- a shape that was made
pub step_of : (v w : TermsValue) (rule : Rule) (u n : ℕ) (s : Sort) (z : Shape) → AreTerms v → u < length v.nodes → s ≡ sort_of v.nodes u → becomes v.nodes rule u ≡ Some z → Makes (made_shape v s z) (Ok n) v w → IsOfShape v w (sort_of v.nodes u) z n
step_of v w rule u n s z terms lt e b h =
    made_of_shape v w (sort_of v.nodes u) z n terms (ranked_shape v.nodes rule u z terms.list lt b) (subst (λ q. made_shape v q z ≡ Ok (n, w)) e h)

pub smaller : (v w : TermsValue) (rule : Rule) (u n : ℕ) (z : Shape) → AreTerms v → u < length v.nodes → becomes v.nodes rule u ≡ Some z → IsOfShape v w (sort_of v.nodes u) z n → weight w.nodes n < weight v.nodes u
smaller v w rule u n z terms lt b m = subst (λ k. k < weight v.nodes u) (sym m.weight) (lighter_shape v.nodes rule u z terms.list lt b)

pub stopped_at : (t v x : TermsValue) (rule : Rule) (u : ℕ) (s : Sort) (z : Shape) (e : MakeError) → IsGrown t v → u < length v.nodes → s ≡ sort_of v.nodes u → becomes v.nodes rule u ≡ Some z → Makes (made_shape v s z) (Err e) v x → IsRefused t x e
stopped_at t v x rule u s z e g lt q b h =
    stopped t v x (sort_of v.nodes u) z e g (ranked_shape v.nodes rule u z g.terms.list lt b) (subst (λ r. Makes (made_shape v r z) (Err e) v x) q h)

-- ---- arguments

pub settled_is : (nodes : List Node) (images : ℕ → Option ℕ) (t : ℕ) (n : Node) (o : Op) (args ends : List ℕ) → n ≡ node_at nodes t → o ≡ n.op → args ≡ in_order n.op ends → ends ≡ map (end_in images (length nodes)) n.args → node_of o args ≡ settled nodes images t
settled_is nodes images t n o args ends e p q r =
    (λ i. node_of (p i) (q i))
    ∙ ap (λ l. node_of n.op (in_order n.op l)) r
    ∙ ap (λ m. node_of m.op (in_order m.op (map (end_in images (length nodes)) m.args))) e

-- an end has the sort of its term, and is held
end_kept : (nodes : List Node) (images : ℕ → Option ℕ) → AreImages nodes images → (k a : ℕ) → a < length nodes → (end_in images k a < length nodes) × (sort_of nodes (end_in images k a) ≡ sort_of nodes a)
end_kept nodes images h zero a lt = (lt, refl)
end_kept nodes images h (suc k) a lt = go (images a) refl (λ c lc. end_kept nodes images h k c lc)
  where
    go : (o : Option ℕ) → images a ≡ o → ((c : ℕ) → c < length nodes → (end_in images k c < length nodes) × (sort_of nodes (end_in images k c) ≡ sort_of nodes c)) → (from_image a o (λ c. end_in images k c) < length nodes) × (sort_of nodes (from_image a o (λ c. end_in images k c)) ≡ sort_of nodes a)
    go None e ih = (lt, refl)
    go (Some c) e ih = let m = h a c e in let r = ih c m.to in (r.0, r.1 ∙ m.sort)

-- and is reached from it
end_reached : (images : ℕ → Option ℕ) (k a : ℕ) → reaches images k a (end_in images k a) ≡ true
end_reached images zero a = eq-eqb a a refl
end_reached images (suc k) a = go (images a) (λ c. end_reached images k c)
  where
    either : (b c : Bool) → c ≡ true → (b || c) ≡ true
    either true c p = refl
    either false c p = p

    go : (o : Option ℕ) → ((c : ℕ) → reaches images k c (end_in images k c) ≡ true) → ((a == from_image a o (λ c. end_in images k c)) || at_some o (λ c. reaches images k c (from_image a o (λ d. end_in images k d)))) ≡ true
    go None ih = ap (λ b. b || false) (eq-eqb a a refl)
    go (Some c) ih = either (a == end_in images k c) (reaches images k c (end_in images k c)) (ih c)

-- ---- the order of two arguments

words_same : (f : Sort → Result Sort MakeFault) (p q s : Sort) → ranked (two_words f) 0 (Some p ∷ Some q ∷ []) ≡ Ok s → p ≡ q
words_same f p q s r =
    let a = guard_ok (is_word p) _ _ s r in
    let b = guard_ok (same_sort p q) (f p) _ s a.1 in
    sort_same p q b.0

truths_same : (p q s : Sort) → ranked two_truths 0 (Some p ∷ Some q ∷ []) ≡ Ok s → p ≡ q
truths_same p q s r =
    let a = guard_ok (same_sort sort.Bool p) _ _ s r in
    let b = guard_ok (same_sort sort.Bool q) truth _ s a.1 in
    sym (sort_same sort.Bool p a.0) ∙ sort_same sort.Bool q b.0

-- an operator that commutes takes two arguments of one sort
one_sort : (o : Op) (p q s : Sort) → commutes_in o ≡ true → op_rank o (p ∷ q ∷ []) ≡ Ok s → p ≡ q
one_sort (op.Plain plain.Bvand) p q s e r = words_same Ok p q s r
one_sort (op.Plain plain.Bvor) p q s e r = words_same Ok p q s r
one_sort (op.Plain plain.Bvxor) p q s e r = words_same Ok p q s r
one_sort (op.Plain plain.Bvadd) p q s e r = words_same Ok p q s r
one_sort (op.Plain plain.Bvmul) p q s e r = words_same Ok p q s r
one_sort (op.Plain plain.And) p q s e r = truths_same p q s r
one_sort (op.Plain plain.Or) p q s e r = truths_same p q s r
one_sort _ p q s e r = let z : ⊥ = cc in absurd z

ordered_ready : (nodes : List Node) (o : Op) (s : Sort) (xs : List ℕ) → AllByRecursion (λ a. a < length nodes) xs → op_rank o (map (sort_of nodes) xs) ≡ Ok s
    → AllByRecursion (λ a. a < length nodes) (in_order o xs) × (op_rank o (map (sort_of nodes) (in_order o xs)) ≡ Ok s)
ordered_ready nodes o s [] h r = (h, r)
ordered_ready nodes o s (x ∷ []) h r = (h, r)
ordered_ready nodes o s (x ∷ y ∷ []) h r = go (commutes_in o && nat_lt y x) refl
  where
    go : (b : Bool) → (commutes_in o && nat_lt y x) ≡ b → AllByRecursion (λ a. a < length nodes) (if b then y ∷ x ∷ [] else x ∷ y ∷ []) × (op_rank o (map (sort_of nodes) (if b then y ∷ x ∷ [] else x ∷ y ∷ [])) ≡ Ok s)
    go true e =
        let c = and_parts (commutes_in o) (nat_lt y x) e in
        let q = one_sort o (sort_of nodes x) (sort_of nodes y) s c.0 r in
        ((h.1.0, (h.0, tt)), (λ i. op_rank o (sym q i ∷ q i ∷ [])) ∙ r)
    go false e = (h, r)
ordered_ready nodes o s (x ∷ y ∷ z ∷ xs) h r = (h, r)

-- what the rule on arguments sees of two nodes
abbrev reached_by : (ℕ → ℕ → Bool) → Node → Node → Bool
reached_by lead n m =
    same_op n.op m.op
    && (pointwise lead n.args m.args
    || (commutes_in n.op && (lead (slice_index_or n.args 0 0) (slice_index_or m.args 1 0) && lead (slice_index_or n.args 1 0) (slice_index_or m.args 0 0))))

abbrev crossed : (ℕ → ℕ → Bool) → Op → List ℕ → List ℕ → Bool
crossed lead o ps qs = commutes_in o && (lead (slice_index_or ps 0 0) (slice_index_or qs 1 0) && lead (slice_index_or ps 1 0) (slice_index_or qs 0 0))

ordered_reached : (lead : ℕ → ℕ → Bool) (o : Op) (xs ys : List ℕ) → pointwise lead xs ys ≡ true → reached_by lead (node_of o xs) (node_of o (in_order o ys)) ≡ true
ordered_reached lead o xs ys h = both (same_op o o) (pointwise lead xs (in_order o ys) || crossed lead o xs (in_order o ys)) (op_itself (node_of o xs)) (go xs ys h)
  where
    first : (b c : Bool) → b ≡ true → (b || c) ≡ true
    first b c e = ap (λ d. d || c) e

    second : (b c : Bool) → c ≡ true → (b || c) ≡ true
    second true c e = refl
    second false c e = e

    go : (ps qs : List ℕ) → pointwise lead ps qs ≡ true → (pointwise lead ps (in_order o qs) || crossed lead o ps (in_order o qs)) ≡ true
    go ps [] e = first (pointwise lead ps []) (crossed lead o ps []) e
    go ps (q ∷ []) e = first (pointwise lead ps (q ∷ [])) (crossed lead o ps (q ∷ [])) e
    go ps (q ∷ r ∷ s ∷ qs) e = first (pointwise lead ps (q ∷ r ∷ s ∷ qs)) (crossed lead o ps (q ∷ r ∷ s ∷ qs)) e
    go [] (q ∷ r ∷ []) e = let z : ⊥ = cc in absurd z
    go (a ∷ []) (q ∷ r ∷ []) e = let p = and_parts (lead a q) _ e in let x = p.1 in let z : ⊥ = cc in absurd z
    go (a ∷ b ∷ c ∷ ps) (q ∷ r ∷ []) e = let p = and_parts (lead a q) _ e in let x = and_parts (lead b r) _ p.1 in let y = x.1 in let z : ⊥ = cc in absurd z
    go (a ∷ b ∷ []) (q ∷ r ∷ []) e = turn (commutes_in o && nat_lt r q) refl
      where
        turn : (t : Bool) → (commutes_in o && nat_lt r q) ≡ t → (pointwise lead (a ∷ b ∷ []) (if t then r ∷ q ∷ [] else q ∷ r ∷ []) || crossed lead o (a ∷ b ∷ []) (if t then r ∷ q ∷ [] else q ∷ r ∷ [])) ≡ true
        turn true f =
            let c = and_parts (commutes_in o) (nat_lt r q) f in
            let p = and_parts (lead a q) _ e in
            let x = and_parts (lead b r) true p.1 in
            second (pointwise lead (a ∷ b ∷ []) (r ∷ q ∷ [])) (crossed lead o (a ∷ b ∷ []) (r ∷ q ∷ [])) (λ i. c.0 i && (p.0 i && x.0 i))
        turn false f = first (pointwise lead (a ∷ b ∷ []) (q ∷ r ∷ [])) (crossed lead o (a ∷ b ∷ []) (q ∷ r ∷ [])) e

module _ (v : TermsValue) (images : ℕ → Option ℕ) (h : AreImages v.nodes images) (terms : AreTerms v) (t : ℕ) (lt : t < length v.nodes) where
  abbrev ends : List ℕ → List ℕ
  ends args = map (end_in images (length v.nodes)) args

  ends_held : (n : ℕ) (args : List ℕ) → n < length v.nodes → AllByRecursion (λ a. a < n) args → AllByRecursion (λ a. a < length v.nodes) (ends args)
  ends_held n [] l e = tt
  ends_held n (a ∷ args) l e = ((end_kept v.nodes images h (length v.nodes) a (let x = e.0 in omega (arith, x, l))).0, ends_held n args l e.1)

  ends_sorts : (n : ℕ) (args : List ℕ) → n < length v.nodes → AllByRecursion (λ a. a < n) args → map (sort_of v.nodes) (ends args) ≡ map (sort_of v.nodes) args
  ends_sorts n [] l e = refl
  ends_sorts n (a ∷ args) l e = λ i. (end_kept v.nodes images h (length v.nodes) a (let x = e.0 in omega (arith, x, l))).1 i ∷ ends_sorts n args l e.1 i

  -- the node that is made
  settled_ready : IsReady v.nodes (settled v.nodes images t) (sort_of v.nodes t)
  settled_ready =
      let o = op_at v.nodes t in
      let args = (node_at v.nodes t).args in
      let early = (terms.list t lt).earlier in
      let rank : op_rank o (map (sort_of v.nodes) (ends args)) ≡ Ok (sort_of v.nodes t) = ap (op_rank o) (ends_sorts t args lt early) ∙ (terms.list t lt).rank in
      let r = ordered_ready v.nodes o (sort_of v.nodes t) (ends args) (ends_held t args lt early) rank in
      record { agrees = terms.declared t; held = r.0; rank = r.1 }

  module _ (w : TermsValue) (u : ℕ) (e : make v (settled v.nodes images t) ≡ Ok (u, w)) where
    start : IsThere v w (settled v.nodes images t) (sort_of v.nodes t) u
    start = there v w (settled v.nodes images t) (sort_of v.nodes t) u terms settled_ready e

    pub start_grown : IsGrown v w
    start_grown = record { terms = start.terms; more = start.more; nodes = start.grown; limit = start.limit }

    pub start_held : u < length w.nodes
    start_held = start.held

    pub start_plain : is_plain (sort_of v.nodes t) ≡ true → is_plain (sort_of w.nodes u) ≡ true
    start_plain p = ap is_plain start.sort ∙ p

    pub start_settles : (x : TermsValue) → IsGrown w x → node_at x.nodes u ≡ settled v.nodes images t
    start_settles x g = ap (λ l. node_at l u) g.nodes ∙ node_longer w.nodes g.more u start.held ∙ start.node

    steps : (a : ℕ) → leads w.nodes images a (end_in images (length v.nodes) a) ≡ true
    steps a =
        ap (λ k. reaches images k a (end_in images (length v.nodes) a)) (ap length start.grown ∙ length-append v.nodes start.more)
        ∙ reaches_more images (length v.nodes) (length start.more) a (end_in images (length v.nodes) a) (end_reached images (length v.nodes) a)

    each_step : (args : List ℕ) → pointwise (leads w.nodes images) args (ends args) ≡ true
    each_step [] = refl
    each_step (a ∷ args) = λ i. steps a i && each_step args i

    -- the rule on arguments takes the term there
    pub start_matches : is_plain (sort_of v.nodes t) ≡ true → matches w.nodes images Inner t u ≡ true
    start_matches p =
        let N = w.nodes in
        let at_t : node_at N t ≡ node_at v.nodes t = ap (λ l. node_at l t) start.grown ∙ node_longer v.nodes start.more t lt in
        let st : sort_of N t ≡ sort_of v.nodes t = ap (λ l. sort_of l t) start.grown ∙ sort_longer v.nodes start.more t lt in
        let l : t < length N = let n = ap length start.grown ∙ length-append v.nodes start.more in omega (arith, n, lt) in
        let pn : is_plain (sort_of N t) ≡ true = ap is_plain st ∙ p in
        let same : same_sort (sort_of N t) (sort_of N u) ≡ true = (λ i. same_sort (st i) (start.sort i)) ∙ sort_itself (sort_of v.nodes t) in
        let r : has_reached N images t u ≡ true =
        (λ i. reached_by (leads N images) (at_t i) (start.node i))
        ∙ ordered_reached (leads N images) (op_at v.nodes t) (node_at v.nodes t).args (ends (node_at v.nodes t).args) (each_step (node_at v.nodes t).args) in
        both (nat_lt t (length N)) (nat_lt u (length N) && (is_plain (sort_of N t) && (same_sort (sort_of N t) (sort_of N u) && has_reached N images t u))) (lt-ltb t (length N) l)
        (both (nat_lt u (length N)) (is_plain (sort_of N t) && (same_sort (sort_of N t) (sort_of N u) && has_reached N images t u)) (lt-ltb u (length N) start.held)
        (both (is_plain (sort_of N t)) (same_sort (sort_of N t) (sort_of N u) && has_reached N images t u) pn
        (both (same_sort (sort_of N t) (sort_of N u)) (has_reached N images t u) same r)))

    first_needed : (x : TermsValue) (before uses : List Use) (z : ℕ) (o : IsOnWay w x u before uses z) (k : ℕ) → length v.nodes ≤ k → k < length w.nodes → IsNeeded x.nodes (first_use t u ++ o.rest) k
    first_needed x before uses z o k le less = go (t == u) refl
      where
        is : u ≡ k
        is = start.new k le less

        go : (c : Bool) → (t == u) ≡ c → IsNeeded x.nodes ((if c then [] else record { rule = Inner; to = u } ∷ []) ++ o.rest) k
        go true e = let same = eqb-true t u e in absurd (none_between (length v.nodes) t (subst (λ y. length v.nodes ≤ y) (sym (same ∙ is)) le) lt)
        go false e = record { by = record { rule = Inner; to = u }; among = (0, omega arith, refl); held = held_grown w x u o.grown start.held; is = inl is }

    all_needed : (x : TermsValue) (before uses : List Use) (z : ℕ) (o : IsOnWay w x u before uses z) → AreNeeded (length v.nodes) x.nodes (first_use t u ++ o.rest)
    all_needed x before uses z o k le more = ⊎_elim
        (λ less. first_needed x before uses z o k le less)
        (λ later. needed_grown x x o.rest (first_use t u ++ o.rest) k (grown_none x o.grown.terms) (λ e c. Contains-append_right (first_use t u) o.rest e c) (o.needed k later more))
        (cases_lt k (length w.nodes))

    first_way : is_plain (sort_of v.nodes t) ≡ true → (x : TermsValue) (before uses : List Use) (z : ℕ) (o : IsOnWay w x u before uses z) → IsWay x.nodes images t (first_use t u ++ o.rest) z
    first_way p x before uses z o = go (t == u) refl
      where
        go : (c : Bool) → (t == u) ≡ c → IsWay x.nodes images t ((if c then [] else record { rule = Inner; to = u } ∷ []) ++ o.rest) z
        go true c = subst (λ y. IsWay x.nodes images y o.rest z) (sym (eqb-true t u c)) (o.way images)
        go false c = (subst (λ l. matches l images Inner t u ≡ true) (sym o.grown.nodes) (matches_more w.nodes o.grown.more images Inner t u start.terms.list (start_matches p)), o.way images)

    -- the whole way
    pub simplified : (keeps : List Node → ℕ → Bool) (x : TermsValue) (before uses : List Use) (z : ℕ) (s : Simplified) → is_plain (sort_of v.nodes t) ≡ true → before ≡ first_use t u → IsFollowed keeps w x u before uses z → s.term ≡ z → s.uses.items ≡ uses → IsSimplified keeps v x images t s
    simplified keeps x before uses z s p b f q r =
        let o = f.on_way in
        let all : s.uses.items ≡ first_use t u ++ o.rest = r ∙ o.added ∙ ap (λ l. l ++ o.rest) b in
        record {
          grown = grown_more v w x start_grown o.grown;
          start = u;
          settles = start_settles x o.grown;
          rest = o.rest;
          uses = all;
          table = o.table;
          way = rw (all, q) (first_way p x before uses z o);
          held = rw q o.held;
          end = rw q f.end;
          needed = rw all (all_needed x before uses z o);
        }

    -- a way that leaves no room to go on
    pub start_crowded : (before : List Use) → is_plain (sort_of v.nodes t) ≡ true → IsStopped w u before → IsCrowded v images t
    start_crowded before p h =
        let o = h.on_way in
        record {
          terms = h.terms;
          grown = grown_more v w h.terms start_grown o.grown;
          uses = first_use t u ++ o.rest;
          at = h.at;
          way = first_way p h.terms before h.uses h.at o;
          needed = all_needed h.terms before h.uses h.at o;
          full = h.full;
        }

  -- and the limit alone refuses it
  pub start_refused : (w : TermsValue) (e : MakeError) → Makes (make v (settled v.nodes images t)) (Err e) v w → IsRefused v w e
  start_refused w NoMemory m = record { grown = subst (IsGrown v) (sym m) (grown_none v terms); cause = inl refl }
  start_refused w (Fault f) m = record { grown = subst (IsGrown v) (sym m.1) (grown_none v terms); cause = inr (ap Fault (refused v (settled v.nodes images t) (sort_of v.nodes t) f settled_ready m.0)) }

  -- and where it does, there is no room to begin
  pub start_full : (w : TermsValue) (e : MakeError) → Makes (make v (settled v.nodes images t)) (Err e) v w → e ≡ Fault TermLimit → IsCrowded v images t
  start_full w e m f =
      let q : Makes (make v (settled v.nodes images t)) (Err (Fault TermLimit)) v w = subst (λ d. Makes (make v (settled v.nodes images t)) (Err d) v w) f m in
      let full = refused_full v (settled v.nodes images t) (sort_of v.nodes t) TermLimit settled_ready q.0 in
      record { terms = v; grown = grown_none v terms; uses = []; at = t; way = refl; needed = λ k le more. absurd (none_between (length v.nodes) k le more); full = omega (arith, full) }

pub refused_more : (v w x : TermsValue) (e : MakeError) → IsGrown v w → IsRefused w x e → IsRefused v x e
refused_more v w x e g r = record { grown = grown_more v w x g r.grown; cause = r.cause }

pub no_memory : (v w : TermsValue) (e : MakeError) → IsGrown v w → e ≡ NoMemory → IsRefused v w e
no_memory v w e g p = record { grown = g; cause = inl p }
