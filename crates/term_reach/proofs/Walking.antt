-- A walk on its way.
use Rattle.std.proofs.Common.{◌≡◌, ℕ, zero, suc, ◌+◌, ◌<◌, ◌≤◌, List, [], ◌∷◌, ◌++◌, length, get_or, Some, None, refl, sym, ap, ◌∙◌, subst, arith, inl, inr, ⊎_elim, length-append}
use Rattle.std.specs.Prelude.{◌⊎◌, Contains, AllPairs, slice_get}
use Rattle.std.proofs.lemmas.Bool.{cases_lt}
use Rattle.std.proofs.lemmas.Option.{slice_get-get_or, slice_get_within}
use Rattle.std.proofs.lemmas.List.{get_or_append_left, get_or_push}
use Rattle.std.proofs.lemmas.List.Elements.{Contains-append_left, Contains-push, Contains-push_cases, Contains-get_or}
use Rattle.std.proofs.lemmas.List.Quantifiers.{all_pairs_push}
use Rattle.indexmap.proofs.IndexTableLemmas.Probe.{pigeonhole, Into, OneToOne}
use Rattle.term_reach.specs.declared.walk.Frame.{Frame}
use Rattle.term_reach.specs.Reach.{IsReached, IsReach, IsRank, IsAcyclic, LeadsBelow, IsClosed}
use Rattle.term_reach.specs.Walks.{AreDone, IsOpen, IsPart, IsFrame, Falls, IsWalking, IsSeen, left}
use Rattle.term_reach.proofs.Tables.{contains_at, at_contained, push_cases, once_push}
use Rattle.term_reach.proofs.Ways.{root_reached, reached_further, reached_closed}

-- ---- the last of a list

keeps_more : (xs more : List ℕ) (k x : ℕ) → slice_get xs k ≡ Some x → slice_get (xs ++ more) k ≡ Some x
keeps_more [] more k x e = let q : ⊥ = cc in absurd q
keeps_more (y ∷ ys) more zero x e = e
keeps_more (y ∷ ys) more (suc k) x e = keeps_more ys more k x e

module _ (R : Frame → Frame → Type 0) (xs : List Frame) (y : Frame) (all : AllPairs R (xs ++ y ∷ [])) where
  pairs_front : AllPairs R xs
  pairs_front i j d lt within =
      let long = length-append xs (y ∷ []) in
      let h : R (get_or (xs ++ y ∷ []) i d) (get_or (xs ++ y ∷ []) j d) = all i j d lt (omega (arith, within, long)) in
      subst (λ b. R (get_or xs i d) b) (get_or_append_left xs (y ∷ []) d j within)
      (subst (λ a. R a (get_or (xs ++ y ∷ []) j d)) (get_or_append_left xs (y ∷ []) d i (omega (arith, lt, within))) h)

  pairs_last : (k : ℕ) (d : Frame) → k < length xs → R (get_or xs k d) y
  pairs_last k d lt =
      let long = length-append xs (y ∷ []) in
      let h : R (get_or (xs ++ y ∷ []) k d) (get_or (xs ++ y ∷ []) (length xs) d) = all k (length xs) d lt (omega (arith, long)) in
      subst (λ b. R (get_or xs k d) b) (get_or_push xs y d (length xs) refl)
      (subst (λ a. R a (get_or (xs ++ y ∷ []) (length xs) d)) (get_or_append_left xs (y ∷ []) d k lt) h)

-- ---- how many terms there are on the way and done

-- the terms on the way, and then those that are done
abbrev named : List Frame → List ℕ → ℕ → ℕ
named [] reached k = get_or reached k 0
named (f ∷ path) reached zero = f.term
named (f ∷ path) reached (suc k) = named path reached k

abbrev OnWay : List Frame → List ℕ → Frame → ℕ → Type 0
OnWay path reached d k = (k < length path) × (named path reached k ≡ (get_or path k d).term)

abbrev AmongDone : List Frame → List ℕ → ℕ → Type 0
AmongDone path reached k = (j : ℕ) × (k ≡ length path + j) × (slice_get reached j ≡ Some (named path reached k))

named_is : (path : List Frame) (reached : List ℕ) (d : Frame) (k : ℕ) → k < length path + length reached → OnWay path reached d k ⊎ AmongDone path reached k
named_is [] reached d k lt = let own : k ≡ length {A = Frame} [] + k = omega arith in inr (k, own, slice_get-get_or reached k 0 (omega (arith, lt)))
named_is (f ∷ path) reached d zero lt = inl (let z : 0 < length (f ∷ path) = omega arith in z, refl)
named_is (f ∷ path) reached d (suc k) lt =
    ⊎_elim
    (λ (h : OnWay path reached d k). inl (let z : suc k < length (f ∷ path) = omega (arith, h.0) in z, h.1))
    (λ (h : AmongDone path reached k). (let own : suc k ≡ length (f ∷ path) + h.0 = omega (arith, h.1) in inr (h.0, own, h.2)))
    (named_is path reached d k (omega (arith, lt)))

module _ (count : ℕ) (next : ℕ → List ℕ) (roots : List ℕ) (acyclic : IsAcyclic next) where
  abbrev rank : ℕ → ℕ
  rank = acyclic.0

  module _ (path : List Frame) (reached : List ℕ) (h : IsWalking count next roots path reached) where
    at_frame : (k : ℕ) (d : Frame) → k < length path → IsFrame count next roots reached (get_or path k d)
    at_frame k d lt = h.frames (get_or path k d) (Contains-get_or path k d lt)

    into : (d : Frame) → Into (named path reached) (length path + length reached) count
    into d k lt = ⊎_elim
        (λ (w : OnWay path reached d k). subst (λ x. x < count) (sym w.1) (at_frame k d w.0).below)
        (λ (w : AmongDone path reached k). h.part.below (named path reached k) (contains_at reached w.0 (named path reached k) w.2))
        (named_is path reached d k lt)

    apart : (d : Frame) (i j : ℕ) → OnWay path reached d i → AmongDone path reached j → named path reached i ≡ named path reached j → ⊥
    apart d i j v w e = (at_frame i d v.0).apart (subst (Contains reached) (sym e ∙ v.1) (contains_at reached w.0 (named path reached j) w.2))

    lower : (d : Frame) (i j : ℕ) → OnWay path reached d i → OnWay path reached d j → i < j → named path reached i ≡ named path reached j → ⊥
    lower d i j v w lt e =
        let less : rank (get_or path j d).term < rank (get_or path i d).term = h.falls rank acyclic.1 i j d lt w.0 in
        let same : rank (get_or path i d).term ≡ rank (get_or path j d).term = ap rank (sym v.1 ∙ e ∙ w.1) in
        omega (arith, less, same)

    one : (d : Frame) → OneToOne (named path reached) (length path + length reached)
    one d i j p q e = ⊎_elim
        (λ (v : OnWay path reached d i). ⊎_elim
        (λ (w : OnWay path reached d j). ⊎_elim
        (λ (lt : i < j). absurd (lower d i j v w lt e))
        (λ (le : j ≤ i). ⊎_elim (λ (lt : j < i). absurd (lower d j i w v lt (sym e))) (λ (ge : i ≤ j). (let same : i ≡ j = omega (arith, le, ge) in same)) (cases_lt j i))
        (cases_lt i j))
        (λ (w : AmongDone path reached j). absurd (apart d i j v w e))
        (named_is path reached d j q))
        (λ (v : AmongDone path reached i). ⊎_elim
        (λ (w : OnWay path reached d j). absurd (apart d j i w v (sym e)))
        (λ (w : AmongDone path reached j).
        let same : v.0 ≡ w.0 = h.part.once v.0 w.0 (named path reached j) (v.2 ∙ ap Some e) w.2 in
        v.1 ∙ ap (λ n. length path + n) same ∙ sym w.1)
        (named_is path reached d j q))
        (named_is path reached d i p)

    pub few : length path + length reached ≤ count
    few = let d : Frame = record { term = 0; place = 0 } in pigeonhole (length path + length reached) count (named path reached) (into d) (one d)

  -- ---- one step

  module _ (within : LeadsBelow count next) (base : List Frame) (reached : List ℕ) (f : Frame) (h : IsWalking count next roots (base ++ f ∷ []) reached) where
    pub own : IsFrame count next roots reached f
    own = h.frames f (Contains-push base f)

    below_base : (r : ℕ → ℕ) → IsRank next r → (k : ℕ) (d : Frame) → k < length base → r f.term < r (get_or base k d).term
    below_base r is = pairs_last (λ (a b : Frame). r b.term < r a.term) base f (h.falls r is)

    base_falls : (r : ℕ → ℕ) → IsRank next r → Falls r base
    base_falls r is = pairs_front (λ (a b : Frame). r b.term < r a.term) base f (h.falls r is)

    module _ (place : ℕ) (g : Frame) (free : IsOpen next reached f.term (Some g)) (same : place ≡ g.place) where
      abbrev pub on : Frame
      on = record { term = f.term; place = place }

      abbrev pub first : Frame
      first = record { term = g.term; place = 0 }

      leads : Contains (next f.term) g.term
      leads = contains_at (next f.term) g.place g.term free.0

      pub goes_on : IsWalking count next roots ((base ++ on ∷ []) ++ first ∷ []) reached
      goes_on = record {
        part = h.part;
        frames = λ x c. ⊎_elim
            (λ (p : Contains (base ++ on ∷ []) x). ⊎_elim
            (λ (q : Contains base x). h.frames x (Contains-append_left base (f ∷ []) x q))
            (λ (e : on ≡ x). subst (IsFrame count next roots reached) e
            (record { below = own.below; found = own.found; apart = own.apart; done = subst (AreDone next reached f.term) (sym same) free.2 }))
            (Contains-push_cases base on x p))
            (λ (e : first ≡ x). subst (IsFrame count next roots reached) e
            (record {
              below = within f.term g.term leads;
              found = reached_further next roots f.term g.term own.found leads;
              apart = free.1;
              done = λ j u lt s. absurd (omega arith);
            }))
            (Contains-push_cases (base ++ on ∷ []) first x c);
        falls = λ r is.
            all_pairs_push (λ (a b : Frame). r b.term < r a.term) (base ++ on ∷ []) first
            (all_pairs_push (λ (a b : Frame). r b.term < r a.term) base on (base_falls r is) (below_base r is))
            (λ k d lt. ⊎_elim
            (λ (less : k < length base).
            (let low = below_base r is k d less in
            let last = is f.term g.term leads in
            subst (λ (a : Frame). r g.term < r a.term) (sym (get_or_append_left base (on ∷ []) d k less)) (omega (arith, low, last))))
            (λ (ge : length base ≤ k).
            (let long = length-append base (on ∷ []) in
            let at : length base ≡ k = omega (arith, ge, lt, long) in
            subst (λ (a : Frame). r g.term < r a.term) (sym (get_or_push base on d k at)) (is f.term g.term leads)))
            (cases_lt k (length base)));
      }

      pub goes_on_seen : (t : ℕ) → IsSeen (base ++ f ∷ []) reached t → IsSeen ((base ++ on ∷ []) ++ first ∷ []) reached t
      goes_on_seen t = ⊎_elim
          (λ c. inl c)
          (λ (w : (x : Frame) × Contains (base ++ f ∷ []) x × (x.term ≡ t)). ⊎_elim
          (λ (p : Contains base w.0). inr (w.0, Contains-append_left (base ++ on ∷ []) (first ∷ []) w.0 (Contains-append_left base (on ∷ []) w.0 p), w.2))
          (λ (e : f ≡ w.0). inr (on, Contains-append_left (base ++ on ∷ []) (first ∷ []) on (Contains-push base on), ap (λ (x : Frame). x.term) e ∙ w.2))
          (Contains-push_cases base f w.0 w.1))

      pub goes_on_less : left count ((base ++ on ∷ []) ++ first ∷ []) reached < left count (base ++ f ∷ []) reached
      goes_on_less =
          let n = few ((base ++ on ∷ []) ++ first ∷ []) reached goes_on in
          let a = length-append (base ++ on ∷ []) (first ∷ []) in
          let b = length-append base (on ∷ []) in
          let c = length-append base (f ∷ []) in
          omega (arith, n, a, b, c)

    module _ (free : IsOpen next reached f.term None) where
      abbrev pub more : List ℕ
      more = reached ++ f.term ∷ []

      other : (x : Frame) → Contains base x → x.term ≡ f.term → ⊥
      other x c e =
          let low : rank f.term < rank (get_or base c.0 x).term = below_base rank acyclic.1 c.0 x c.1 in
          let same : rank (get_or base c.0 x).term ≡ rank f.term = ap (λ (y : Frame). rank y.term) c.2 ∙ ap rank e in
          omega (arith, low, same)

      pub goes_back : IsWalking count next roots base more
      goes_back = record {
        part = record {
          below = λ t c. ⊎_elim (λ p. h.part.below t p) (λ (e : f.term ≡ t). subst (λ x. x < count) e own.below) (Contains-push_cases reached f.term t c);
          found = λ t c. ⊎_elim (λ p. h.part.found t p) (λ (e : f.term ≡ t). subst (IsReached next roots) e own.found) (Contains-push_cases reached f.term t c);
          once = once_push reached f.term h.part.once own.apart;
          order = λ k t u e c. ⊎_elim
              (λ (p : slice_get reached k ≡ Some t). (let j = h.part.order k t u p c in (j.0, j.1, keeps_more reached (f.term ∷ []) j.0 u j.2)))
              (λ (p : (k ≡ length reached) × (t ≡ f.term)).
              (let at = at_contained reached u (free u (subst (λ x. Contains (next x) u) p.1 c)) in
              let lt = slice_get_within reached at.0 u at.1 in
              let less : at.0 < k = omega (arith, lt, p.0) in
              (at.0, less, keeps_more reached (f.term ∷ []) at.0 u at.1)))
              (push_cases reached f.term k t e);
        };
        frames = λ x c.
            let old = h.frames x (Contains-append_left base (f ∷ []) x c) in
            record {
              below = old.below;
              found = old.found;
              apart = λ q. ⊎_elim (λ p. old.apart p) (λ (e : f.term ≡ x.term). other x c (sym e)) (Contains-push_cases reached f.term x.term q);
              done = λ j u lt e. Contains-append_left reached (f.term ∷ []) u (old.done j u lt e);
            };
        falls = base_falls;
      }

      pub goes_back_seen : (t : ℕ) → IsSeen (base ++ f ∷ []) reached t → IsSeen base more t
      goes_back_seen t = ⊎_elim
          (λ c. inl (Contains-append_left reached (f.term ∷ []) t c))
          (λ (w : (x : Frame) × Contains (base ++ f ∷ []) x × (x.term ≡ t)). ⊎_elim
          (λ (p : Contains base w.0). inr (w.0, p, w.2))
          (λ (e : f ≡ w.0). inl (subst (Contains more) (ap (λ (x : Frame). x.term) e ∙ w.2) (Contains-push reached f.term)))
          (Contains-push_cases base f w.0 w.1))

      pub goes_back_less : left count base more < left count (base ++ f ∷ []) reached
      goes_back_less =
          let n = few (base ++ f ∷ []) reached h in
          let a = length-append base (f ∷ []) in
          let b = length-append reached (f.term ∷ []) in
          omega (arith, n, a, b)

-- ---- from begin to end

module _ (count : ℕ) (next : ℕ → List ℕ) (roots : List ℕ) where
  pub nothing_done : IsPart count next roots []
  nothing_done = record {
    below = λ t c. absurd (omega (arith, c.1));
    found = λ t c. absurd (omega (arith, c.1));
    once = λ j k t p q. let f : ⊥ = cc in absurd f;
    order = λ k t u p c. let f : ⊥ = cc in absurd f;
  }

  pub begins : (path : List Frame) (reached : List ℕ) (f : Frame) → path ≡ f ∷ [] → f.place ≡ 0 → f.term < count → Contains roots f.term → (Contains reached f.term → ⊥) → IsPart count next roots reached → IsWalking count next roots path reached
  begins path reached f e start lt root new part = subst (λ p. IsWalking count next roots p reached) (sym e)
      (record {
        part = part;
        frames = λ x c. subst (IsFrame count next roots reached) (only x c)
            (record { below = lt; found = root_reached next roots f.term root; apart = new; done = λ j u less s. absurd (omega (arith, start, less)) });
        falls = λ r is i j d less within. absurd (omega (arith, less, within));
      })
    where
      only : (x : Frame) → Contains (f ∷ []) x → f ≡ x
      only x c = ⊎_elim (λ (p : Contains [] x). absurd (omega (arith, p.1))) (λ s. s) (Contains-push_cases [] f x c)

  pub none_on_way : (path : List Frame) (reached : List ℕ) (t : ℕ) → length path ≡ 0 → IsSeen path reached t → Contains reached t
  none_on_way path reached t e = ⊎_elim (λ c. c) (λ (w : (x : Frame) × Contains path x × (x.term ≡ t)). absurd (omega (arith, w.1.1, e)))

  pub all_done : (reached : List ℕ) → IsPart count next roots reached → ((t : ℕ) → Contains roots t → Contains reached t) → IsReach next roots reached
  all_done reached part begun = record {
    only = part.found;
    all = reached_closed next (Contains reached) roots closed begun;
    once = part.once;
    order = part.order;
  } where
    closed : IsClosed next (Contains reached)
    closed t u c l = let at = at_contained reached t c in let j = part.order at.0 t u at.1 l in contains_at reached j.0 u j.2

-- ---- what is free

pub done_none : (next : ℕ → List ℕ) (reached : List ℕ) (t place : ℕ) → AreDone next reached t place → None ≡ slice_get (next t) place → IsOpen next reached t None
done_none next reached t place done none u c =
    let at = at_contained (next t) u c in
    ⊎_elim
    (λ (lt : at.0 < place). done at.0 u lt at.1)
    (λ (le : place ≤ at.0). absurd (past (next t) place at.0 u none le at.1))
    (cases_lt at.0 place)
  where
    past : (xs : List ℕ) (p k u : ℕ) → None ≡ slice_get xs p → p ≤ k → slice_get xs k ≡ Some u → ⊥
    past [] p k u n le e = let q : ⊥ = cc in q
    past (x ∷ xs) zero k u n le e = let q : ⊥ = cc in q
    past (x ∷ xs) (suc p) zero u n le e = omega arith
    past (x ∷ xs) (suc p) (suc k) u n le e = past xs p k u n (omega (arith, le)) e

pub done_more : (next : ℕ → List ℕ) (reached : List ℕ) (t place u : ℕ) → AreDone next reached t place → Some u ≡ slice_get (next t) place → Contains reached u → AreDone next reached t (place + 1)
done_more next reached t place u done at c j v lt e =
    ⊎_elim
    (λ (less : j < place). done j v less e)
    (λ (le : place ≤ j).
    let same : j ≡ place = omega (arith, le, lt) in
    let both : Some v ≡ Some u = sym e ∙ ap (slice_get (next t)) same ∙ sym at in
    let own : v ≡ u = cc in
    subst (Contains reached) (sym own) c)
    (cases_lt j place)
