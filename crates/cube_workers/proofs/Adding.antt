-- One worker more is added to what others came to.
use Rattle.std.proofs.Common.{◌≡◌, ℕ, ◌≤◌, Bool, true, false, List, [], ◌∷◌, ◌++◌, length, Option, Some, None, refl, sym, ap, ◌∙◌, subst, ⊎_elim, inl, inr, arith, length-append}
use Rattle.std.specs.Prelude.{◌⊎◌, ◌≢◌, slice_get, MatchOption}
use Rattle.std.proofs.lemmas.Option.{same_Some, slice_get_within}
use Rattle.cnf_base.proofs.Lists.{slice_get-push, slice_get-push_cases, slice_get-longer}
use Rattle.proof_log.specs.declared.diary.Diary.{Diary}
use Rattle.cube_workers.specs.declared.kept.KeptSearch.{KeptSearch}
use Rattle.cube_workers.specs.declared.worker.Reached.{Reached}
use Rattle.cube_workers.specs.declared.worker.Reached.TheVariants as reached
use Rattle.cube_workers.specs.Crews.{Each, Left, IsModelAmong, RestsAnywhere, AreKept, IsLowest}

-- ---- lists by place

module _ {X : Type 0} where
  pub each_none : (P : ℕ → X → Type 0) → Each P []
  each_none P k x e = let f : ⊥ = cc in absurd f

  pub each_push : (P : ℕ → X → Type 0) (xs : List X) (x : X) → Each P xs → P (length xs) x → Each P (xs ++ x ∷ [])
  each_push P xs x h last k y e =
      ⊎_elim
      (λ was. h k y was)
      (λ (new : (k ≡ length xs) × (x ≡ y)). subst (λ (q : ℕ × X). P q.0 q.1) (λ i. (sym new.0 i, new.1 i)) last)
      (slice_get-push_cases xs x y k e)

  pub each_pushed : (P : ℕ → X → Type 0) (xs new : List X) (x : X) → new ≡ xs ++ x ∷ [] → Each P xs → P (length xs) x → Each P new
  each_pushed P xs new x is h last = subst (Each P) (sym is) (each_push P xs x h last)

  pub each_weaker : (P Q : ℕ → X → Type 0) (xs : List X) → ((k : ℕ) (x : X) → P k x → Q k x) → Each P xs → Each Q xs
  each_weaker P Q xs to h k x e = to k x (h k x e)

  -- the last leaves
  pub each_fewer : (P : ℕ → X → Type 0) (all xs : List X) (x : X) → all ≡ xs ++ x ∷ [] → Each P all → Each P xs
  each_fewer P all xs x is h k y e = h k y (ap (λ l. slice_get l k) is ∙ slice_get-longer xs (x ∷ []) k y e)

  pub each_last : (P : ℕ → X → Type 0) (all xs : List X) (x : X) → all ≡ xs ++ x ∷ [] → Each P all → P (length xs) x
  each_last P all xs x is h = h (length xs) x (ap (λ l. slice_get l (length xs)) is ∙ slice_get-push xs x)

-- ---- searches

abbrev IsLeftBy : List Left → KeptSearch → Type 0
IsLeftBy xs s = (k : ℕ) × (x : Left) × (slice_get xs k ≡ Some x) × (x.reached ≢ reached.NoMemory) × (x.kept ≡ s)

abbrev IsOwn : List Left → ℕ → KeptSearch → Type 0
IsOwn xs i s = RestsAnywhere s ⊎ IsLeftBy xs s

own_longer : (xs : List Left) (x : Left) (i : ℕ) (s : KeptSearch) → IsOwn xs i s → IsOwn (xs ++ x ∷ []) i s
own_longer xs x i s h = ⊎_elim (λ new. inl new) (λ (o : IsLeftBy xs s). inr (o.0, o.1, slice_get-longer xs (x ∷ []) o.0 o.1 o.2, o.3, o.4)) h

-- one search more, for one worker more
count_pushed : (old new : List KeptSearch) (kept : KeptSearch) (xs : List Left) (x : Left) → new ≡ old ++ kept ∷ [] → length old ≡ length xs → length new ≡ length (xs ++ x ∷ [])
count_pushed old new kept xs x is was = omega (arith, was, ap length is, length-append old (kept ∷ []), length-append xs (x ∷ []))

found_pushed : (old new : List KeptSearch) (kept : KeptSearch) → new ≡ old ++ kept ∷ [] → (i : ℕ) (s : KeptSearch) → slice_get old i ≡ Some s → slice_get new i ≡ Some s
found_pushed old new kept is i s e = ap (λ l. slice_get l i) is ∙ slice_get-longer old (kept ∷ []) i s e

-- a worker that found no model is added
model_longer : (model : Option ℕ) (old new : List KeptSearch) (xs : List Left) (x : Left) → ((i : ℕ) (s : KeptSearch) → slice_get old i ≡ Some s → slice_get new i ≡ Some s) → x.reached ≢ reached.Model → IsModelAmong model old xs → IsModelAmong model new (xs ++ x ∷ [])
model_longer None old new xs x more other h = each_push (λ k y. y.reached ≢ reached.Model) xs x h other
model_longer (Some i) old new xs x more other h = (
  h.0,
  h.1,
  slice_get-longer xs (x ∷ []) h.0 h.1 h.2,
  h.3,
  more i h.1.kept h.4,
  each_push (λ j y. y.reached ≡ reached.Model → j ≤ h.0) xs x h.5 (λ is. absurd (other is)),
)

pub kept_none : AreKept [] None false []
kept_none = record { own = each_none (IsOwn []); count = refl; found = each_none (λ k x. x.reached ≢ reached.Model); memory = λ calm. each_none (λ k x. x.reached ≢ reached.NoMemory) }

-- one that had no memory: a new search is kept
pub kept_without : (old new : List KeptSearch) (fresh : KeptSearch) (model : Option ℕ) (wanting : Bool) (xs : List Left) (x : Left) (r : Reached) → new ≡ old ++ fresh ∷ [] → RestsAnywhere fresh → r ≡ reached.NoMemory → x.reached ≡ r → AreKept old model wanting xs → AreKept new model true (xs ++ x ∷ [])
kept_without old new fresh model wanting xs x r is rests none reached_is h = record {
  own = each_pushed (IsOwn (xs ++ x ∷ [])) old new fresh is (each_weaker (IsOwn xs) (IsOwn (xs ++ x ∷ [])) old (own_longer xs x) h.own) (inl rests);
  count = count_pushed old new fresh xs x is h.count;
  found = model_longer model old new xs x (found_pushed old new fresh is) (λ m. let e : reached.NoMemory ≡ reached.Model = sym none ∙ sym reached_is ∙ m in let f : ⊥ = cc in f) h.found;
  memory = λ calm. let f : ⊥ = cc in absurd f;
}

-- one that had memory
module _ (old new : List KeptSearch) (kept : KeptSearch) (wanting : Bool) (xs : List Left) (x : Left) (is : new ≡ old ++ kept ∷ []) (same : x.kept ≡ kept) (memory : x.reached ≢ reached.NoMemory) where
  own_pushed : Each (IsOwn xs) old → Each (IsOwn (xs ++ x ∷ [])) new
  own_pushed h =
      each_pushed (IsOwn (xs ++ x ∷ [])) old new kept is (each_weaker (IsOwn xs) (IsOwn (xs ++ x ∷ [])) old (own_longer xs x) h)
      (inr (length xs, x, slice_get-push xs x, memory, same))

  wanting_pushed : (wanting ≡ false → Each (λ k y. y.reached ≢ reached.NoMemory) xs) → wanting ≡ false → Each (λ k y. y.reached ≢ reached.NoMemory) (xs ++ x ∷ [])
  wanting_pushed h calm = each_push (λ k y. y.reached ≢ reached.NoMemory) xs x (h calm) memory

  pub kept_other : (model : Option ℕ) → x.reached ≢ reached.Model → AreKept old model wanting xs → AreKept new model wanting (xs ++ x ∷ [])
  kept_other model other h = record {
    own = own_pushed h.own;
    count = count_pushed old new kept xs x is h.count;
    found = model_longer model old new xs x (found_pushed old new kept is) other h.found;
    memory = wanting_pushed h.memory;
  }

  pub kept_model : (model : Option ℕ) (place : ℕ) → place ≡ length old → x.reached ≡ reached.Model → AreKept old model wanting xs → AreKept new (Some place) wanting (xs ++ x ∷ [])
  kept_model model place at found h = record {
    own = own_pushed h.own;
    count = count_pushed old new kept xs x is h.count;
    found = (
      length xs,
      x,
      slice_get-push xs x,
      found,
      ap (λ l. slice_get l place) is ∙ ap (slice_get (old ++ kept ∷ [])) at ∙ slice_get-push old kept ∙ ap Some (sym same),
      each_push (λ j y. y.reached ≡ reached.Model → j ≤ length xs) xs x (λ j y e m. let lt = slice_get_within xs j y e in omega (arith, lt)) (λ m. omega arith),
    );
    memory = wanting_pushed h.memory;
  }

-- ---- spent cubes

pub lowest_none : IsLowest None []
lowest_none = each_none (λ k x. x.spent ≡ None)

-- one that told no cube as spent
pub lowest_same : (o : Option Diary) (xs : List Left) (x : Left) → x.spent ≡ None → IsLowest o xs → IsLowest o (xs ++ x ∷ [])
lowest_same None xs x none h = each_push (λ k y. y.spent ≡ None) xs x h none
lowest_same (Some d) xs x none h = (
  (h.0.0, h.0.1, slice_get-longer xs (x ∷ []) h.0.0 h.0.1 h.0.2, h.0.3),
  each_push (λ k y. (e : Diary) → y.spent ≡ Some e → d.cube ≤ e.cube) xs x h.1 (λ e some. let no : None ≡ Some e = sym none ∙ some in let f : ⊥ = cc in absurd f),
)

low_of : (xs : List Left) (x : Left) (d low : Diary) → x.spent ≡ Some d → low.cube ≤ d.cube → (k : ℕ) × (y : Left) × (slice_get (xs ++ x ∷ []) k ≡ Some y) × (y.spent ≡ Some low)
    → Each (λ k y. (e : Diary) → y.spent ≡ Some e → low.cube ≤ e.cube) xs → IsLowest (Some low) (xs ++ x ∷ [])
low_of xs x d low is le among h = (
  among,
  each_push (λ k y. (e : Diary) → y.spent ≡ Some e → low.cube ≤ e.cube) xs x h (λ e some. let same : d.cube ≡ e.cube = ap (λ (z : Diary). z.cube) (same_Some d e (sym is ∙ some)) in omega (arith, same, le)),
)

-- one that did: the lower diary is kept
pub lowest_more : (o : Option Diary) (xs : List Left) (x : Left) (d low : Diary) → x.spent ≡ Some d → MatchOption o (low ≡ d) (λ e. ((low ≡ e) × (e.cube ≤ d.cube)) ⊎ ((low ≡ d) × (d.cube ≤ e.cube))) → IsLowest o xs → IsLowest (Some low) (xs ++ x ∷ [])
lowest_more None xs x d low is own h =
    let same : low.cube ≡ d.cube = ap (λ (z : Diary). z.cube) own in
    low_of xs x d low is (omega (arith, same)) (length xs, x, slice_get-push xs x, is ∙ ap Some (sym own))
    (λ k y e f some. let no : None ≡ Some f = sym (h k y e) ∙ some in let g : ⊥ = cc in absurd g)
lowest_more (Some e) xs x d low is own h =
    ⊎_elim
    (λ (kept : (low ≡ e) × (e.cube ≤ d.cube)).
    let same : low.cube ≡ e.cube = ap (λ (z : Diary). z.cube) kept.0 in
    let le = kept.1 in
    low_of xs x d low is (omega (arith, same, le)) (h.0.0, h.0.1, slice_get-longer xs (x ∷ []) h.0.0 h.0.1 h.0.2, h.0.3 ∙ ap Some (sym kept.0))
    (λ k y q f some. let l = h.1 k y q f some in omega (arith, same, l)))
    (λ (new : (low ≡ d) × (d.cube ≤ e.cube)).
    let same : low.cube ≡ d.cube = ap (λ (z : Diary). z.cube) new.0 in
    let le = new.1 in
    low_of xs x d low is (omega (arith, same)) (length xs, x, slice_get-push xs x, is ∙ ap Some (sym new.0))
    (λ k y q f some. let l = h.1 k y q f some in omega (arith, same, le, l)))
    own
