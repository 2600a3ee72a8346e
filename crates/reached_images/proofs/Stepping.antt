-- Steps that may stand one behind the other, the images that they give, and ways of uses.
use Rattle.std.proofs.Common.{append_assoc, ◌≡◌, ℕ, zero, suc, ◌<◌, ◌-◌, Bool, true, false, List, [], ◌∷◌, ◌++◌, length, length-append, Option, Some, None, refl, sym, ap, ◌∙◌, subst, arith, ⊎_elim}
use Rattle.std.specs.Prelude.{◌==◌, ◌&&◌, ◌||◌, nat_lt, is_some, if◌then◌else◌, All, Contains, slice_get, slice_index_or}
use Rattle.std.specs.Cmp.Lexicographic.{pointwise}
use Rattle.std.proofs.lemmas.Bool.{and_parts, lt-ltb}
use Rattle.std.proofs.lemmas.List.{append-nil}
use Rattle.std.proofs.lemmas.List.Elements.{Contains-append_right}
use Rattle.smt_terms.specs.declared.node.Node.{Node}
use Rattle.smt_terms.specs.Nodes.{node_at}
use Rattle.smt_terms.specs.Ranks.{is_plain}
use Rattle.smt_terms.specs.Same.{same_op, same_sort}
use Rattle.smt_terms.specs.Bits.{TermBits, bits_in, image_in}
use Rattle.smt_terms.specs.Terms.{AreDifferent, IsTermList, TermsValue, sort_of}
use Rattle.smt_terms.proofs.Growing.{node_longer}
use Rattle.bv_rules.specs.declared.rule.Rule.{Rule}
use Rattle.bv_rules.specs.declared.rule.Rule.TheVariants.{BvnotTwice, BvnegTwice, AndSame, AndZero, AndOnes, OrSame, OrZero, OrOnes, XorSame, XorZero, XorOnes, AddZero, AddOpposite, Subtract, AddSame, MultiplyZero, MultiplyOne, MultiplyPower, DivideOne, DivideZero, DividePower, RemainderZero, RemainderOne, RemainderPower, ShiftZero, ShiftPast, ExtractAll, ExtractExtract, ExtractConcat, Idle, Less, AtMost, Greater, EqualSame, NotTwice, Connective, Choice, SelectStore, Fold, Inner}
use Rattle.bv_rules.specs.Arguments.{at_some, reaches, commutes_in, leads, has_reached}
use Rattle.bv_rules.specs.Reading.{op_at, arg}
use Rattle.bv_rules.specs.Rules.{takes}
use Rattle.bv_rules.specs.Matches.{matches, AreImages, IsImage}
use Rattle.bv_rules.proofs.Known.{or_cases, never}
use Rattle.bv_rules.proofs.Keeping.{matched, makes_image}
use Rattle.bv_rules.proofs.Longer.{matches_more, images_more}
use Rattle.bv_rewrite.specs.declared.simplifying.Use.{Use}
use Rattle.bv_rewrite.specs.Simplifying.{IsWay, IsGrown}
use Rattle.reached_images.specs.declared.plan.Planned.{Planned}
use Rattle.reached_images.specs.Plans.{known_image, led_to, start_at, AreNext, AreNextWhole, HasWhatItNeeds, IsKnown, IsNext, IsNextWhole, IsPlan, IsWholePlan}
use Rattle.reached_images.proofs.Knowing.{image_last}

-- ---- more images

both : (a b : Bool) → a ≡ true → b ≡ true → (a && b) ≡ true
both a b p q = λ i. p i && q i

first_or : (b c : Bool) → b ≡ true → (b || c) ≡ true
first_or b c e = ap (λ d. d || c) e

second_or : (b c : Bool) → c ≡ true → (b || c) ≡ true
second_or true c e = refl
second_or false c e = e

module _ (S : ℕ → Type 0) (p q : ℕ → ℕ → Bool) (f : (a b : ℕ) → S a → p a b ≡ true → q a b ≡ true) where
  each_on : (xs ys : List ℕ) → ((a : ℕ) → Contains xs a → S a) → pointwise p xs ys ≡ true → pointwise q xs ys ≡ true
  each_on [] [] all h = refl
  each_on [] (y ∷ ys) all h = never h
  each_on (x ∷ xs) [] all h = never h
  each_on (x ∷ xs) (y ∷ ys) all h =
      let r = and_parts (p x y) (pointwise p xs ys) h in
      both (q x y) (pointwise q xs ys) (f x y (all x (0, omega arith, refl)) r.0) (each_on xs ys (λ a c. all a (Contains-append_right (x ∷ []) xs a c)) r.1)

-- the arguments of a term, in either order where they are two that may be exchanged, are some of these
abbrev pub HasArguments : List Node → (ℕ → Type 0) → ℕ → Type 0
HasArguments nodes S t = ((a : ℕ) → Contains (node_at nodes t).args a → S a) × (commutes_in (op_at nodes t) ≡ true → S (arg nodes 0 t) × S (arg nodes 1 t))

-- where the others have the images of some terms, which are some of these again
module _ (images others : ℕ → Option ℕ) (S : ℕ → Type 0) (more : (t u : ℕ) → S t → images t ≡ Some u → (others t ≡ Some u) × S u) where
  reaches_on : (n a b : ℕ) → S a → reaches images n a b ≡ true → reaches others n a b ≡ true
  reaches_on zero a b s h = h
  reaches_on (suc n) a b s h =
      or_cases (a == b) (at_some (images a) (λ c. reaches images n c b)) h
      (λ p. first_or (a == b) (at_some (others a) (λ c. reaches others n c b)) p)
      (λ p. second_or (a == b) (at_some (others a) (λ c. reaches others n c b)) (step (images a) refl (reaches_on n) p))
    where
      step : (o : Option ℕ) → images a ≡ o → ((c d : ℕ) → S c → reaches images n c d ≡ true → reaches others n c d ≡ true) → at_some o (λ c. reaches images n c b) ≡ true → at_some (others a) (λ c. reaches others n c b) ≡ true
      step None e ih p = never p
      step (Some c) e ih p = let m = more a c s e in ap (λ o. at_some o (λ d. reaches others n d b)) m.0 ∙ ih c b m.1 p

  module _ (nodes : List Node) (t u : ℕ) where
    reached_on : HasArguments nodes S t → has_reached nodes images t u ≡ true → has_reached nodes others t u ≡ true
    reached_on some h =
        let xs = (node_at nodes t).args in
        let ys = (node_at nodes u).args in
        let turn : (ℕ → Option ℕ) → Bool = λ im. commutes_in (op_at nodes t) && (leads nodes im (arg nodes 0 t) (arg nodes 1 u) && leads nodes im (arg nodes 1 t) (arg nodes 0 u)) in
        let r = and_parts (same_op (op_at nodes t) (op_at nodes u)) (pointwise (leads nodes images) xs ys || turn images) h in
        both (same_op (op_at nodes t) (op_at nodes u)) (pointwise (leads nodes others) xs ys || turn others) r.0
        (or_cases (pointwise (leads nodes images) xs ys) (turn images) r.1
        (λ p. first_or (pointwise (leads nodes others) xs ys) (turn others) (each_on S (leads nodes images) (leads nodes others) (reaches_on (length nodes)) xs ys some.0 p))
        (λ p. second_or (pointwise (leads nodes others) xs ys) (turn others) (turned p)))
      where
        turned : (commutes_in (op_at nodes t) && (leads nodes images (arg nodes 0 t) (arg nodes 1 u) && leads nodes images (arg nodes 1 t) (arg nodes 0 u))) ≡ true → (commutes_in (op_at nodes t) && (leads nodes others (arg nodes 0 t) (arg nodes 1 u) && leads nodes others (arg nodes 1 t) (arg nodes 0 u))) ≡ true
        turned h =
            let r = and_parts (commutes_in (op_at nodes t)) (leads nodes images (arg nodes 0 t) (arg nodes 1 u) && leads nodes images (arg nodes 1 t) (arg nodes 0 u)) h in
            let s = and_parts (leads nodes images (arg nodes 0 t) (arg nodes 1 u)) (leads nodes images (arg nodes 1 t) (arg nodes 0 u)) r.1 in
            let k = some.1 r.0 in
            both (commutes_in (op_at nodes t)) (leads nodes others (arg nodes 0 t) (arg nodes 1 u) && leads nodes others (arg nodes 1 t) (arg nodes 0 u)) r.0
            (both (leads nodes others (arg nodes 0 t) (arg nodes 1 u)) (leads nodes others (arg nodes 1 t) (arg nodes 0 u))
            (reaches_on (length nodes) (arg nodes 0 t) (arg nodes 1 u) k.0 s.0) (reaches_on (length nodes) (arg nodes 1 t) (arg nodes 0 u) k.1 s.1))

    takes_on : (rule : Rule) → (rule ≡ Inner → HasArguments nodes S t) → takes nodes images rule t u ≡ true → takes nodes others rule t u ≡ true
    takes_on BvnotTwice some h = h
    takes_on BvnegTwice some h = h
    takes_on AndSame some h = h
    takes_on AndZero some h = h
    takes_on AndOnes some h = h
    takes_on OrSame some h = h
    takes_on OrZero some h = h
    takes_on OrOnes some h = h
    takes_on XorSame some h = h
    takes_on XorZero some h = h
    takes_on XorOnes some h = h
    takes_on AddZero some h = h
    takes_on AddOpposite some h = h
    takes_on Subtract some h = h
    takes_on AddSame some h = h
    takes_on MultiplyZero some h = h
    takes_on MultiplyOne some h = h
    takes_on MultiplyPower some h = h
    takes_on DivideOne some h = h
    takes_on DivideZero some h = h
    takes_on DividePower some h = h
    takes_on RemainderZero some h = h
    takes_on RemainderOne some h = h
    takes_on RemainderPower some h = h
    takes_on ShiftZero some h = h
    takes_on ShiftPast some h = h
    takes_on ExtractAll some h = h
    takes_on ExtractExtract some h = h
    takes_on ExtractConcat some h = h
    takes_on Idle some h = h
    takes_on Less some h = h
    takes_on AtMost some h = h
    takes_on Greater some h = h
    takes_on EqualSame some h = h
    takes_on NotTwice some h = h
    takes_on Connective some h = h
    takes_on Choice some h = h
    takes_on SelectStore some h = h
    takes_on Fold some h = h
    takes_on Inner some h = reached_on (some refl) h

    pub matches_on : (rule : Rule) → (rule ≡ Inner → HasArguments nodes S t) → matches nodes images rule t u ≡ true → matches nodes others rule t u ≡ true
    matches_on rule some h =
        let m = matched nodes images rule t u h in
        both (nat_lt t (length nodes)) (nat_lt u (length nodes) && (is_plain (sort_of nodes t) && (same_sort (sort_of nodes t) (sort_of nodes u) && takes nodes others rule t u))) (lt-ltb t (length nodes) m.from)
        (both (nat_lt u (length nodes)) (is_plain (sort_of nodes t) && (same_sort (sort_of nodes t) (sort_of nodes u) && takes nodes others rule t u)) (lt-ltb u (length nodes) m.to)
        (both (is_plain (sort_of nodes t)) (same_sort (sort_of nodes t) (sort_of nodes u) && takes nodes others rule t u) m.plain
        (both (same_sort (sort_of nodes t) (sort_of nodes u)) (takes nodes others rule t u) m.same (takes_on rule some m.takes))))

-- what becomes another over some images becomes it over more
pub matches_later : (images others : ℕ → Option ℕ) → ((t u : ℕ) → images t ≡ Some u → others t ≡ Some u) → (nodes : List Node) (t u : ℕ) (rule : Rule) → matches nodes images rule t u ≡ true → matches nodes others rule t u ≡ true
matches_later images others more nodes t u rule h = matches_on images others (λ a. Unit {0}) (λ a b s e. (more a b e, tt)) nodes t u rule (λ e. (λ a c. tt, λ k. (tt, tt))) h

-- ---- one step more, and more terms

pub next_push : (nodes : List Node) (bits : List TermBits) (before xs : List Planned) (p : Planned) → AreNext nodes bits before xs → IsNext nodes bits (before ++ xs) p → AreNext nodes bits before (xs ++ p ∷ [])
next_push nodes bits before [] p h n = (subst (λ l. IsNext nodes bits l p) (append-nil before) n, tt)
next_push nodes bits before (x ∷ xs) p h n = (h.0, next_push nodes bits (before ++ x ∷ []) xs p h.1 (subst (λ l. IsNext nodes bits l p) (sym (append_assoc before (x ∷ []) xs)) n))

pub whole_push : (nodes : List Node) (bits : List TermBits) (before xs : List Planned) (p : Planned) → AreNextWhole nodes bits before xs → IsNextWhole nodes bits (before ++ xs) p → AreNextWhole nodes bits before (xs ++ p ∷ [])
whole_push nodes bits before [] p h n = (subst (λ l. IsNextWhole nodes bits l p) (append-nil before) n, tt)
whole_push nodes bits before (x ∷ xs) p h n = (h.0, whole_push nodes bits (before ++ x ∷ []) xs p h.1 (subst (λ l. IsNextWhole nodes bits l p) (sym (append_assoc before (x ∷ []) xs)) n))

next_plain : (nodes : List Node) (bits : List TermBits) (before xs : List Planned) → AreNextWhole nodes bits before xs → AreNext nodes bits before xs
next_plain nodes bits before [] h = tt
next_plain nodes bits before (x ∷ xs) h = (h.0.next, next_plain nodes bits (before ++ x ∷ []) xs h.1)

pub whole_is_plan : (nodes : List Node) (bits : List TermBits) (steps : List Planned) → IsWholePlan nodes bits steps → IsPlan nodes bits steps
whole_is_plan nodes bits steps h = next_plain nodes bits [] steps h

one_longer : (nodes more : List Node) (bits : List TermBits) (before : List Planned) (p : Planned) → IsTermList nodes → IsNext nodes bits before p → IsNext (nodes ++ more) bits before p
one_longer nodes more bits before p list n = record { held = omega (arith, n.held, length-append nodes more); new = n.new; needs = go p.used n.needs } where
  go : (o : Option Use) → HasWhatItNeeds nodes bits before p.term o → HasWhatItNeeds (nodes ++ more) bits before p.term o
  go None h = subst (λ (n : Node). All (IsKnown bits before) n.args) (sym (node_longer nodes more p.term n.held)) h
  go (Some u) h = (matches_more nodes more (known_image bits before) u.rule p.term u.to list h.0, h.1)

next_longer : (nodes more : List Node) (bits : List TermBits) (before xs : List Planned) → IsTermList nodes → AreNext nodes bits before xs → AreNext (nodes ++ more) bits before xs
next_longer nodes more bits before [] list h = tt
next_longer nodes more bits before (x ∷ xs) list h = (one_longer nodes more bits before x list h.0, next_longer nodes more bits (before ++ x ∷ []) xs list h.1)

one_whole : (nodes more : List Node) (bits : List TermBits) (before : List Planned) (p : Planned) → IsTermList nodes → IsNextWhole nodes bits before p → IsNextWhole (nodes ++ more) bits before p
one_whole nodes more bits before p list n = record {
  next = one_longer nodes more bits before p list n.next;
  arguments = λ i. subst (λ (m : Node). All (IsKnown bits before) m.args) (sym (node_longer nodes more p.term n.next.held)) (n.arguments i);
}

whole_longer : (nodes more : List Node) (bits : List TermBits) (before xs : List Planned) → IsTermList nodes → AreNextWhole nodes bits before xs → AreNextWhole (nodes ++ more) bits before xs
whole_longer nodes more bits before [] list h = tt
whole_longer nodes more bits before (x ∷ xs) list h = (one_whole nodes more bits before x list h.0, whole_longer nodes more bits (before ++ x ∷ []) xs list h.1)

pub plan_grown : (v w : TermsValue) (bits : List TermBits) (steps : List Planned) → IsTermList v.nodes → IsGrown v w → IsPlan v.nodes bits steps → IsPlan w.nodes bits steps
plan_grown v w bits steps list g h = subst (λ n. IsPlan n bits steps) (sym g.nodes) (next_longer v.nodes g.more bits [] steps list h)

pub whole_grown : (v w : TermsValue) (bits : List TermBits) (steps : List Planned) → IsTermList v.nodes → IsGrown v w → IsWholePlan v.nodes bits steps → IsWholePlan w.nodes bits steps
whole_grown v w bits steps list g h = subst (λ n. IsWholePlan n bits steps) (sym g.nodes) (whole_longer v.nodes g.more bits [] steps list h)

pub images_grown : (v w : TermsValue) (images : ℕ → Option ℕ) → IsTermList v.nodes → IsGrown v w → AreImages v.nodes images → AreImages w.nodes images
images_grown v w images list g h = subst (λ n. AreImages n images) (sym g.nodes) (images_more v.nodes g.more images list h)

-- ---- the images of a plan

module _ (nodes : List Node) (bits : List TermBits) (list : IsTermList nodes) (different : AreDifferent nodes) where
  last_image : (before : List Planned) (p : Planned) → IsNext nodes bits before p → AreImages nodes (known_image bits before) → AreImages nodes (known_image bits (before ++ p ∷ []))
  last_image before p n images t u e = ⊎_elim (λ q. images t u q) (λ q. subst (λ s. IsImage nodes s u) q.0 (of_step p.used n.needs q.1)) (image_last bits before p t u e) where
    of_step : (o : Option Use) → HasWhatItNeeds nodes bits before p.term o → led_to o ≡ Some u → IsImage nodes p.term u
    of_step None h f = let z : ⊥ = cc in absurd z
    of_step (Some s) h f =
        let to : s.to ≡ u = cc in
        subst (IsImage nodes p.term) to (makes_image nodes (known_image bits before) s.rule p.term s.to list different images h.0)

  steps_images : (before xs : List Planned) → AreNext nodes bits before xs → AreImages nodes (known_image bits before) → AreImages nodes (known_image bits (before ++ xs))
  steps_images before [] h images = subst (λ l. AreImages nodes (known_image bits l)) (sym (append-nil before)) images
  steps_images before (x ∷ xs) h images = subst (λ l. AreImages nodes (known_image bits l)) (append_assoc before (x ∷ []) xs) (steps_images (before ++ x ∷ []) xs h.1 (last_image before x h.0 images))

  none_images : AreImages nodes (image_in bits) → AreImages nodes (known_image bits [])
  none_images images t u = go (is_some (bits_in bits t)) where
    go : (b : Bool) → (if b then image_in bits t else None) ≡ Some u → IsImage nodes t u
    go true e = images t u e
    go false e = let z : ⊥ = cc in absurd z

  pub plan_images : (steps : List Planned) → IsPlan nodes bits steps → AreImages nodes (image_in bits) → AreImages nodes (known_image bits steps)
  plan_images steps h images = steps_images [] steps h (none_images images)

-- ---- ways of uses

pub way_end : (nodes : List Node) (images : ℕ → Option ℕ) (t : ℕ) (uses : List Use) (u : ℕ) → IsWay nodes images t uses u → start_at t uses (length uses) ≡ u
way_end nodes images t [] u h = h
way_end nodes images t (s ∷ ss) u h = way_end nodes images s.to ss u h.1

pub way_use : (nodes : List Node) (images : ℕ → Option ℕ) (t : ℕ) (uses : List Use) (u k : ℕ) (s : Use) → IsWay nodes images t uses u → slice_get uses k ≡ Some s → matches nodes images s.rule (start_at t uses k) s.to ≡ true
way_use nodes images t [] u k s h e = let z : ⊥ = cc in absurd z
way_use nodes images t (x ∷ xs) u zero s h e = let q : x ≡ s = cc in subst (λ y. matches nodes images y.rule t y.to ≡ true) q h.0
way_use nodes images t (x ∷ xs) u (suc k) s h e = way_use nodes images x.to xs u k s h.1 e

pub start_first : (t : ℕ) (uses : List Use) → start_at t uses 0 ≡ t
start_first t [] = refl
start_first t (s ∷ ss) = refl

pub start_later : (t : ℕ) (uses : List Use) (k : ℕ) (s : Use) → slice_get uses k ≡ Some s → start_at t uses (suc k) ≡ s.to
start_later t [] k s e = let z : ⊥ = cc in absurd z
start_later t (x ∷ xs) zero s e = let q : x ≡ s = cc in start_first x.to xs ∙ ap (λ y. y.to) q
start_later t (x ∷ xs) (suc k) s e = start_later x.to xs k s e

pub start_before : (t : ℕ) (uses : List Use) (k : ℕ) (d : Use) → (k ≡ 0 → ⊥) → k < length uses → (slice_index_or uses (k - 1) d).to ≡ start_at t uses k
start_before t [] k d ne lt = absurd (omega (arith, lt))
start_before t (s ∷ ss) zero d ne lt = absurd (ne refl)
start_before t (s ∷ ss) (suc zero) d ne lt = sym (start_first s.to ss)
start_before t (s ∷ ss) (suc (suc k)) d ne lt =
    let e : suc (suc k) - 1 ≡ suc k = omega arith in
    let f : suc k - 1 ≡ k = omega arith in
    let rest = start_before s.to ss (suc k) d (λ q. omega (arith, q)) (omega (arith, lt)) in
    subst (λ j. (slice_index_or (s ∷ ss) j d).to ≡ start_at s.to ss (suc k)) (sym e) (subst (λ j. (slice_index_or ss j d).to ≡ start_at s.to ss (suc k)) f rest)
