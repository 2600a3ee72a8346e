-- What stands for the terms of a body, made in rising order for those that it reaches.
use Rattle.std.proofs.Common.{◌≡◌, ◌≢◌, ℕ, zero, suc, ◌+◌, ◌-◌, ◌<◌, ◌≤◌, Bool, true, false, List, [], ◌∷◌, ◌++◌, length, map, get_or, set, refl, ap, ap₂, sym, ◌∙◌, subst, arith, ⊎_elim, length-append, Option, Some, None, Result, Ok, Err}
use Rattle.std.specs.Prelude.{◌&&◌, ◌||◌, ◌==◌, if◌then◌else◌, All, Contains, slice_get}
use Rattle.std.specs.List.{list_any, AllByRecursion}
use Rattle.std.specs.List.Sorted.{IsPermutation, IsNonDecreasing}
use Rattle.std.proofs.lemmas.Bool.{cases_lt, le-ltb, eq-eqb, ne_eqb}
use Rattle.std.proofs.lemmas.Option.{slice_get_within}
use Rattle.std.proofs.lemmas.List.{get_or_append_left, get_or_default, get_or-set_same, get_or-set_other, length-set}
use Rattle.std.proofs.lemmas.List.Elements.{recursion_from_All, Contains-get_or}
use Rattle.std.proofs.lemmas.List.Sorted.{IsPermutation-sym, Contains-permutation, length_permutation}
use Rattle.std.proofs.lemmas.Map.Keys.{IsDistinct-IsPermutation}
use Rattle.std.proofs.Math.Seq.{get_or-append_seam}
use Rattle.cnf_base.proofs.Lists.{Contains-first, Contains-later}
use Rattle.smt_terms.specs.declared.sort.Signature.{Signature}
use Rattle.smt_terms.specs.declared.node.Op.{Op}
use Rattle.smt_terms.specs.declared.node.Node.{Node}
use Rattle.smt_terms.specs.Nodes.{node_of, node_at, at_term}
use Rattle.smt_terms.specs.Terms.{TermsValue, IsTermList}
use Rattle.smt_terms.proofs.Growing.{node_longer}
use Rattle.term_reach.specs.Reach.{arguments, IsWay, IsReached, IsOnce, IsReach}
use Rattle.term_reach.proofs.Tables.{at_contained}
use Rattle.term_reach.proofs.Ways.{argument_earlier, reached_closed}
use Rattle.term_reach.proofs.Rising.{equal_flips, sorted_rises, once_rest, all_apart}
use Rattle.smt_build.specs.declared.fault.BuildFault.{BuildFault}
use Rattle.smt_build.specs.declared.fault.BuildError.{BuildError}
use Rattle.smt_build.specs.declared.fault.BuildError.TheVariants.{NoMemory, Fault}
use Rattle.smt_build.specs.Building.{Means, made}
use Rattle.smt_build.specs.Names.{AreDeclared, IsDeclared}
use Rattle.smt_build.specs.Grouping.{Listed}
use Rattle.smt_build.specs.Definitions.{reaches, image, argument, made_again, image_of, images, instance}
use Rattle.smt_build.specs.Reached.{placed, made_over, again, AreRising}
use Rattle.smt_build.proofs.Growth.{AllGrow}
use Rattle.smt_build.proofs.Ways.{reach_itself, reach_arguments, told_way, way_told}

-- ---- what is placed

pub placed_at : (us xs : List ℕ) (k t : ℕ) → IsOnce us → slice_get us k ≡ Some t → get_or xs k 0 ≡ placed us xs t
placed_at [] xs k t once e = let f : ⊥ = cc in absurd f
placed_at (u ∷ us) [] k t once e = refl
placed_at (u ∷ us) (x ∷ xs) zero t once e =
    let same : u ≡ t = cc in
    sym (ap (λ (b : Bool). if b then x else placed us xs t) (eq-eqb u t same))
placed_at (u ∷ us) (x ∷ xs) (suc k) t once e =
    placed_at us xs k t (once_rest u us once) e
    ∙ sym (ap (λ (b : Bool). if b then x else placed us xs t) (ne_eqb u t (λ (same : u ≡ t). (let s : 0 ≡ suc k = once 0 (suc k) t (ap Some same) e in omega (arith, s)))))

pub placed_none : (us xs : List ℕ) (t : ℕ) → (Contains us t → ⊥) → 0 ≡ placed us xs t
placed_none [] xs t none = refl
placed_none (u ∷ us) [] t none = refl
placed_none (u ∷ us) (x ∷ xs) t none =
    placed_none us xs t (λ c. none (Contains-later u t us c))
    ∙ sym (ap (λ (b : Bool). if b then x else placed us xs t) (ne_eqb u t (λ (same : u ≡ t). none (subst (Contains (u ∷ us)) same (Contains-first u us)))))

-- a number is put at the place of a term
module _ (us xs : List ℕ) (k t x : ℕ) (once : IsOnce us) (at : slice_get us k ≡ Some t) (size : length xs ≡ length us) where
  pub put_within : k < length xs
  put_within = omega (arith, slice_get_within us k t at, size)

  module _ (new : List ℕ) (put : new ≡ set xs k x) where
    pub put_size : length new ≡ length us
    put_size = ap length put ∙ length-set xs k x ∙ size

    pub put_here : placed us new t ≡ x
    put_here = sym (placed_at us new k t once at) ∙ ap (λ l. get_or l k 0) put ∙ get_or-set_same xs k x 0 put_within

    pub put_other : (u : ℕ) → Contains us u → u ≢ t → placed us new u ≡ placed us xs u
    put_other u c ne =
        let there = at_contained us u c in
        let apart : there.0 ≢ k = λ (e : there.0 ≡ k). (let both : Some u ≡ Some t = sym there.1 ∙ ap (slice_get us) e ∙ at in let same : u ≡ t = cc in ne same) in
        sym (placed_at us new there.0 u once there.1) ∙ ap (λ l. get_or l there.0 0) put ∙ get_or-set_other xs k there.0 x 0 apart ∙ placed_at us xs there.0 u once there.1

-- ---- the terms that a body reaches, in rising order

-- the arguments of a held term are held
pub arguments_within : (nodes : List Node) → IsTermList nodes → (body : ℕ) → body < length nodes → All (λ t. t < length nodes) (arguments nodes body)
arguments_within nodes list body lt k d less =
    let before = argument_earlier nodes list body (get_or (arguments nodes body) k d) (Contains-get_or (arguments nodes body) k d less) in
    let within : get_or (arguments nodes body) k d < length nodes = omega (arith, before, lt) in
    within

below_body : (next : ℕ → List ℕ) (body t : ℕ) (way : List ℕ) → IsWay next body way t → t < body → IsReached next (next body) t
below_body next body t [] e lt = let same : body ≡ t = e in absurd (omega (arith, same, lt))
below_body next body t (s ∷ way) h lt = (s, h.0, (way, h.1))

pub are_rising : (nodes : List Node) → IsTermList nodes → (body : ℕ) (reached found order : List ℕ) → body < length nodes → IsReach (arguments nodes) (arguments nodes body) reached → found ≡ reached → IsPermutation found order → IsNonDecreasing order → AreRising nodes body reached order
are_rising nodes list body reached found order lt walk same moved_found sorted =
    let moved : IsPermutation reached order = subst (λ (xs : List ℕ). IsPermutation xs order) same moved_found in
    record {
      list = list;
      once = walk.once;
      below = λ t c. reached_closed (arguments nodes) (λ u. u < body) (arguments nodes body)
          (λ (u v : ℕ) (less : u < body) (k : Contains (arguments nodes u) v). (let before = argument_earlier nodes list u v k in let lower : v < body = omega (arith, before, less) in lower))
          (λ u k. argument_earlier nodes list body u k) t (walk.only t c);
      only = λ t c. (let h = walk.only t c in told_way nodes list body t lt (h.0 ∷ h.2.0, (h.1, h.2.1)));
      all = λ t less e. (let way = way_told nodes list body t e in walk.all t (below_body (arguments nodes) body t way.0 way.1 less));
      rises = sorted_rises order sorted (IsDistinct-IsPermutation (λ x y. x == y) equal_flips reached order moved (all_apart reached walk.once));
      size = length_permutation reached order moved;
      listed = λ t c. Contains-permutation reached order t moved c;
      held = λ t c. Contains-permutation order reached t (IsPermutation-sym reached order moved) c;
    }

-- the number behind the terms before a place
abbrev pub end_at : List ℕ → ℕ → ℕ
end_at order zero = 0
end_at order (suc i) = get_or order i 0 + 1

module _ (nodes : List Node) (body : ℕ) (reached order : List ℕ) (are : AreRising nodes body reached order) where
  pub order_reached : (i : ℕ) → i < length order → Contains reached (get_or order i 0)
  order_reached i less = are.held (get_or order i 0) (Contains-get_or order i 0 less)

  pub order_below : (i : ℕ) → i < length order → get_or order i 0 < body
  order_below i less = are.below (get_or order i 0) (order_reached i less)

  order_le : (j k : ℕ) → j ≤ k → k < length order → get_or order j 0 ≤ get_or order k 0
  order_le j k le less = ⊎_elim
      (λ (lt : j < k). (let h : get_or order j 0 < get_or order k 0 = are.rises j k 0 lt less in omega (arith, h)))
      (λ (ge : k ≤ j). (let e : j ≡ k = omega (arith, le, ge) in let h : get_or order j 0 ≡ get_or order k 0 = ap (λ n. get_or order n 0) e in omega (arith, h)))
      (cases_lt j k)

  end_past : (i k : ℕ) → k < i → i ≤ length order → get_or order k 0 < end_at order i
  end_past zero k lt le = absurd (omega (arith, lt))
  end_past (suc j) k lt le =
      let h : get_or order k 0 ≤ get_or order j 0 = order_le k j (omega (arith, lt)) (omega (arith, le)) in
      let g : get_or order k 0 < get_or order j 0 + 1 = omega (arith, h) in
      g

  end_le : (i : ℕ) → i < length order → end_at order i ≤ get_or order i 0
  end_le zero less = let g : 0 ≤ get_or order 0 0 = omega arith in g
  end_le (suc j) less =
      let h : get_or order j 0 < get_or order (suc j) 0 = are.rises j (suc j) 0 (omega arith) less in
      let g : get_or order j 0 + 1 ≤ get_or order (suc j) 0 = omega (arith, h) in
      g

  end_below : (i : ℕ) → i ≤ length order → end_at order i ≤ body
  end_below zero le = let g : 0 ≤ body = omega arith in g
  end_below (suc j) le =
      let h = order_below j (omega (arith, le)) in
      let g : get_or order j 0 + 1 ≤ body = omega (arith, h) in
      g

  -- where a reached term stands
  place : (v : ℕ) → Contains reached v → (k : ℕ) × (k < length order) × (get_or order k 0 ≡ v)
  place v c = let there = are.listed v c in (there.0, there.1, get_or_default order there.0 0 v there.1 ∙ there.2)

  -- between a term of the order and the one before none is reached
  none_between : (i : ℕ) → i < length order → (v : ℕ) → end_at order i ≤ v → v < get_or order i 0 → Contains reached v → ⊥
  none_between i less v from to c =
      let there = place v c in
      ⊎_elim
      (λ (before : there.0 < i). (let h = end_past i there.0 before (omega (arith, less)) in let e = there.2 in omega (arith, h, e, from)))
      (λ (behind : i ≤ there.0). (let h = order_le i there.0 behind there.1 in let e = there.2 in omega (arith, h, e, to)))
      (cases_lt there.0 i)

  -- nor behind the last
  none_behind : (i : ℕ) → i ≤ length order → length order ≤ i → (v : ℕ) → end_at order i ≤ v → Contains reached v → ⊥
  none_behind i le past v from c =
      let there = place v c in
      let less = there.1 in
      let h = end_past i there.0 (omega (arith, less, past)) le in
      let e = there.2 in
      omega (arith, h, e, from)

-- ---- one term

-- an operator that stands names what was declared
pub op_declared : (signatures : List Signature) (nodes : List Node) (t : ℕ) (op : Op) → op ≡ (node_at nodes t).op → AreDeclared signatures nodes → IsDeclared signatures op
op_declared signatures nodes t op e h = record { each = λ d f. rw e (h.each t d (rw e at f)) }

same_map : (f g : ℕ → ℕ) (xs : List ℕ) → AllByRecursion (λ a. f a ≡ g a) xs → map f xs ≡ map g xs
same_map f g [] h = refl
same_map f g (x ∷ xs) h = ap₂ (λ y ys. y ∷ ys) h.0 (same_map f g xs h.1)

-- where the same stands for its arguments
made_same : (f : ℕ → ℕ) (found : List ℕ) (terms : TermsValue) (n : Node) (o : Option ℕ) → AllByRecursion (λ a. f a ≡ image found a) n.args → made_again found terms n o ≡ made_over f terms n o
made_same f found terms n (Some a) h = refl
made_same f found terms n None h = ap (λ (more : List ℕ). made terms (node_of n.op more)) (sym (same_map f (image found) n.args h))

-- ---- all terms

-- the terms below a number, each for itself
abbrev themselves : ℕ → List ℕ
themselves zero = []
themselves (suc n) = themselves n ++ n ∷ []

module _ (terms : TermsValue) (body : ℕ) (args : List ℕ) where
  abbrev all : ℕ → Listed
  all u = images terms.nodes body args terms u

  -- terms that are not reached stand for themselves
  images_before : (first : ℕ) → ((u : ℕ) → u < first → reaches terms.nodes body u ≡ false) → all first ≡ Ok (themselves first, terms)
  unfolding images
  images_before zero h = refl
  images_before (suc n) h = rw (images_before n (λ u lt. h u (omega (arith, lt))), h n (omega arith)) refl

  pub images_next : (u t : ℕ) (found : List ℕ) (now new : TermsValue) → all u ≡ Ok (found, now) → image_of terms.nodes body args (found, now) u ≡ Ok (t, new) → all (u + 1) ≡ Ok (found ++ t ∷ [], new)
  unfolding images
  images_next u t found now new e f = let s : u + 1 ≡ suc u = omega arith in rw s (rw (e, f) refl)

  -- a fault ends them
  images_end : (k u n : ℕ) (f : BuildFault) → n ≡ k + u → all u ≡ Err f → all n ≡ Err f
  unfolding images
  images_end zero u n f s e = let same : n ≡ u = omega (arith, s) in rw same e
  images_end (suc k) u n f s e = let same : n ≡ suc (k + u) = omega (arith, s) in rw same (rw (images_end k u (k + u) f refl e) refl)

  pub images_fail : (u : ℕ) (f : BuildFault) (found : List ℕ) (now : TermsValue) → u < body → all u ≡ Ok (found, now) → image_of terms.nodes body args (found, now) u ≡ Err f → instance terms body args ≡ Err f
  unfolding images instance
  images_fail u f found now lt e g =
      let next : all (suc u) ≡ Err f = rw (e, g) refl in
      let end : all body ≡ Err f = images_end (body - suc u) (suc u) body f (omega (arith, lt)) next in
      rw end refl

  pub images_last : (found : List ℕ) (now : TermsValue) → all body ≡ Ok (found, now) → instance terms body args ≡ image_of terms.nodes body args (found, now) body
  unfolding instance
  images_last found now e = rw e refl

  -- a body that is not held stands for itself
  pub instance_past : length terms.nodes ≤ body → instance terms body args ≡ Ok (body, terms)
  unfolding instance
  instance_past le = rw (images_before body (λ u lt. none u), none body) refl where
    none : (u : ℕ) → reaches terms.nodes body u ≡ false
    none u = ap (λ b. b && at_term false (λ v op found. (v == u) || list_any (λ b. b) found) terms.nodes body) (le-ltb body (length terms.nodes) le)

-- ---- the walk over the terms of a body

-- what stands for the terms below a number is made, and what stands for those that are reached is placed
pub record IsMadeTo (terms : TermsValue) (body : ℕ) (args reached : List ℕ) (bound : ℕ) (table : List ℕ) (now : TermsValue) : Type 0 where
  pub found : List ℕ
  pub count : length found ≡ bound
  pub done : images terms.nodes body args terms bound ≡ Ok (found, now)
  pub size : length table ≡ length reached
  pub same : (t : ℕ) → Contains reached t → t < bound → placed reached table t ≡ image found t

pub made_none : (terms : TermsValue) (body : ℕ) (args reached table : List ℕ) → length table ≡ length reached → IsMadeTo terms body args reached 0 table terms
unfolding images
made_none terms body args reached table size = record { found = []; count = refl; done = refl; size = size; same = λ t c lt. absurd (omega (arith, lt)) }

module _ (terms : TermsValue) (body : ℕ) (args reached order : List ℕ) (held : body < length terms.nodes) (are : AreRising terms.nodes body reached order) where
  abbrev Made : ℕ → List ℕ → TermsValue → Type 0
  Made bound table now = IsMadeTo terms body args reached bound table now

  unreached : (v : ℕ) → v < body → (Contains reached v → ⊥) → reaches terms.nodes body v ≡ false
  unreached v less none = go (reaches terms.nodes body v) refl where
    go : (b : Bool) → reaches terms.nodes body v ≡ b → reaches terms.nodes body v ≡ false
    go true e = absurd (none (are.all v less e))
    go false e = e

  -- a term that is not reached stands for itself
  skip_one : (v : ℕ) (table : List ℕ) (now : TermsValue) → reaches terms.nodes body v ≡ false → Made v table now → Made (v + 1) table now
  skip_one v table now none m = record {
    found = m.found ++ v ∷ [];
    count = length-append m.found (v ∷ []) ∙ ap (λ n. n + 1) m.count;
    done = images_next terms body args v v m.found now now m.done itself;
    size = m.size;
    same = λ t c lt. ⊎_elim
        (λ (less : t < v). (let e = m.count in let within : t < length m.found = omega (arith, less, e) in m.same t c less ∙ sym (get_or_append_left m.found (v ∷ []) 0 t within)))
        (λ (ge : v ≤ t). (let e : t ≡ v = omega (arith, lt, ge) in let z : ◌≡◌ {A = Bool} false true = sym none ∙ ap (reaches terms.nodes body) (sym e) ∙ are.only t c in let f : ⊥ = cc in absurd f))
        (cases_lt t v);
  } where
    itself : image_of terms.nodes body args (m.found, now) v ≡ Ok (v, now)
    itself = rw none refl

  skip : (k u : ℕ) (table : List ℕ) (now : TermsValue) → ((v : ℕ) → u ≤ v → v < u + k → reaches terms.nodes body v ≡ false) → Made u table now → Made (u + k) table now
  skip zero u table now none m = let same : u ≡ u + 0 = omega arith in subst (λ n. Made n table now) same m
  skip (suc k) u table now none m =
      let before : Made (u + k) table now = skip k u table now (λ v le less. none v le (omega (arith, less))) m in
      let same : (u + k) + 1 ≡ u + suc k = omega arith in
      subst (λ n. Made n table now) same (skip_one (u + k) table now (none (u + k) (omega arith) (omega arith)) before)

  skip_to : (u t : ℕ) (table : List ℕ) (now : TermsValue) → u ≤ t → t ≤ body → ((v : ℕ) → u ≤ v → v < t → Contains reached v → ⊥) → Made u table now → Made t table now
  skip_to u t table now le within none m =
      let same : u + (t - u) ≡ t = omega (arith, le) in
      subst (λ n. Made n table now) same (skip (t - u) u table now (λ v from to. (let less : v < t = omega (arith, to, le) in unreached v (omega (arith, less, within)) (none v from less))) m)

  -- one term that is reached, or the body
  module _ (t : ℕ) (table slice : List ℕ) (now : TermsValue) (le : t ≤ body) (here : reaches terms.nodes body t ≡ true) (grows : AllGrow terms now) (is : slice ≡ table) (m : Made t table now) where
    same_term : node_at now.nodes t ≡ node_at terms.nodes t
    same_term = let g = grows [] in ap (λ l. node_at l t) g.nodes ∙ node_longer terms.nodes g.behind t (omega (arith, le, held))

    argument_placed : (a : ℕ) → reaches terms.nodes body a ≡ true → a < t → placed reached slice a ≡ image m.found a
    argument_placed a e less = ap (λ xs. placed reached xs a) is ∙ m.same a (are.all a (omega (arith, less, le)) e) less

    arguments_placed : AllByRecursion (λ a. placed reached slice a ≡ image m.found a) (node_at terms.nodes t).args
    arguments_placed = recursion_from_All (λ a. placed reached slice a ≡ image m.found a) (node_at terms.nodes t).args
        (λ k d less. argument_placed (get_or (node_at terms.nodes t).args k d) (reach_arguments terms.nodes are.list body t held here k d less)
        (argument_earlier terms.nodes are.list t (get_or (node_at terms.nodes t).args k d) (Contains-get_or (node_at terms.nodes t).args k d less)))

    step_is : image_of terms.nodes body args (m.found, now) t ≡ again (placed reached slice) args now t
    step_is = rw here
        (made_same (placed reached slice) m.found now (node_at terms.nodes t) (argument args (node_at terms.nodes t).op) arguments_placed
        ∙ ap (λ (n : Node). made_over (placed reached slice) now n (argument args n.op)) (sym same_term))

    step_fails : t < body → (x : BuildError) (new : TermsValue) → Means (again (placed reached slice) args now t) (Err x) new → Means (instance terms body args) (Err x) new
    step_fails less NoMemory new k = tt
    step_fails less (Fault f) new k = images_fail terms body args t f m.found now less m.done (step_is ∙ k)

    step_more : (x : ℕ) (later : TermsValue) (new : List ℕ) → again (placed reached slice) args now t ≡ Ok (x, later) → length new ≡ length reached → placed reached new t ≡ x → ((u : ℕ) → Contains reached u → u ≢ t → placed reached new u ≡ placed reached table u) → Made (t + 1) new later
    step_more x later new e size own others = record {
      found = m.found ++ x ∷ [];
      count = length-append m.found (x ∷ []) ∙ ap (λ n. n + 1) m.count;
      done = images_next terms body args t x m.found now later m.done (step_is ∙ e);
      size = size;
      same = λ u c lt. ⊎_elim
          (λ (less : u < t).
          let ne : u ≢ t = λ (q : u ≡ t). omega (arith, q, less) in
          let q = m.count in
          let within : u < length m.found = omega (arith, less, q) in
          others u c ne ∙ m.same u c less ∙ sym (get_or_append_left m.found (x ∷ []) 0 u within))
          (λ (ge : t ≤ u). (let q : u ≡ t = omega (arith, lt, ge) in subst (λ v. placed reached new v ≡ get_or (m.found ++ x ∷ []) v 0) (sym q) (own ∙ sym last)))
          (cases_lt u t);
    } where
      last : get_or (m.found ++ x ∷ []) t 0 ≡ x
      last = subst (λ k. get_or (m.found ++ x ∷ []) k 0 ≡ x) m.count (get_or-append_seam m.found x [] 0)

  -- the term at a place of the order
  module _ (i : ℕ) (less : i < length order) (table slice : List ℕ) (now : TermsValue) (grows : AllGrow terms now) (is : slice ≡ table) (m : Made (end_at order i) table now) where
    abbrev term : ℕ
    term = get_or order i 0

    term_le : term ≤ body
    term_le = let lt = order_below terms.nodes body reached order are i less in omega (arith, lt)

    arrived : Made term table now
    arrived = skip_to (end_at order i) term table now (end_le terms.nodes body reached order are i less) term_le (none_between terms.nodes body reached order are i less) m

    term_here : reaches terms.nodes body term ≡ true
    term_here = are.only term (order_reached terms.nodes body reached order are i less)

    pub walk_fails : (x : BuildError) (new : TermsValue) → Means (again (placed reached slice) args now (get_or order i 0)) (Err x) new → Means (instance terms body args) (Err x) new
    walk_fails x new k = step_fails term table slice now term_le term_here grows is arrived (order_below terms.nodes body reached order are i less) x new k

    pub walk_more : (x : ℕ) (later : TermsValue) (new : List ℕ) → again (placed reached slice) args now (get_or order i 0) ≡ Ok (x, later) → length new ≡ length reached → placed reached new (get_or order i 0) ≡ x → ((u : ℕ) → Contains reached u → u ≢ get_or order i 0 → placed reached new u ≡ placed reached table u) → IsMadeTo terms body args reached (end_at order (i + 1)) new later
    walk_more x later new e size own others =
        let s : i + 1 ≡ suc i = omega arith in
        let next : end_at order (i + 1) ≡ term + 1 = ap (end_at order) s in
        subst (λ n. Made n new later) (sym next) (step_more term table slice now term_le term_here grows is arrived x later new e size own others)

  -- the body
  pub walk_ends : (i : ℕ) → i ≤ length order → length order ≤ i → (table slice : List ℕ) (now : TermsValue) → AllGrow terms now → slice ≡ table → IsMadeTo terms body args reached (end_at order i) table now → (new : TermsValue) (r : Result ℕ BuildError) → Means (again (placed reached slice) args now body) r new → Means (instance terms body args) r new
  walk_ends i le past table slice now grows is m new r k =
      let none = λ (v : ℕ) (from : end_at order i ≤ v) (to : v < body). none_behind terms.nodes body reached order are i le past v from in
      let whole : Made body table now = skip_to (end_at order i) body table now (end_below terms.nodes body reached order are i le) (omega arith) none m in
      let last : image_of terms.nodes body args (whole.found, now) body ≡ again (placed reached slice) args now body = step_is body table slice now (omega arith) (reach_itself terms.nodes body held) grows is whole in
      subst (λ b. Means b r new) (sym (images_last terms body args whole.found now whole.done ∙ last)) k
