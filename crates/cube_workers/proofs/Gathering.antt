-- Passes that are merged, and what their workers came to.
use Rattle.std.proofs.Common.{◌≡◌, ℕ, suc, ◌+◌, Bool, List, [], ◌∷◌, ◌++◌, length, Option, refl, sym, ap, ◌∙◌, subst, arith, append_assoc, length-append}
use Rattle.std.specs.Prelude.{Contains}
use Rattle.std.specs.List.{AllByRecursion}
use Rattle.std.proofs.lemmas.List.Elements.{Contains-append_left, Contains-append_right}
use Rattle.cnf_base.proofs.Lists.{Contains-first, each_member}
use Rattle.shared_history.specs.Events.{of_pass, StartsWith}
use Rattle.shared_history.specs.Known.{Story, Known, IsPassOf}
use Rattle.proof_log.specs.declared.diary.Diary.{Diary}
use Rattle.hub_core.specs.declared.events.Event.{Event}
use Rattle.hub_core.specs.Hubs.{HubValue, by_of}
use Rattle.hub_board.specs.Boards.{BoardValue, IsBoard}
use Rattle.cube_workers.specs.declared.check.Check.{Check}
use Rattle.cube_workers.specs.declared.kept.KeptSearch.{KeptSearch}
use Rattle.cube_workers.specs.declared.crew.Worker.{Worker}
use Rattle.cube_workers.specs.Searched.{Problem}
use Rattle.cube_workers.specs.Workers.{problem_in}
use Rattle.cube_workers.specs.Crews.{Left, IsLeft, AreLeft, AreKept, IsLowest}
use Rattle.cube_workers.specs.Hired.{HasEnded, AreMerged}
use Rattle.cube_workers.proofs.Adding.{each_none, each_push}

pub starts_then : {E : Type 0} (a b c : List E) → StartsWith b a → StartsWith c b → StartsWith c a
starts_then a b c h k = (h.0 ++ k.0, k.1 ∙ ap (λ l. l ++ k.0) h.1 ∙ append_assoc a h.0 k.0)

abbrev pub left_of : {R : Type 0} → Worker R → Left
left_of w = record { kept = w.kept; spent = w.spent; reached = w.reached }

-- what a worker that has ended leaves
is_left : {R : Type 0} (hist : Story HubValue) (k : Check) (n : ℕ) (w : Worker R) → IsBoard w.board → HasEnded hist k n w → IsLeft hist.law (problem_in hist.law k) (suc n) w.board (left_of w)
is_left hist k n w valid h = record { law_is = ap (λ (s : Story HubValue). s.law) h.hist_is; number = h.number; valid = valid; reached = h.reached; resting = h.resting }

-- the pass of the worker is one of the history
pub own_pass : {R : Type 0} (hist : Story HubValue) (k : Check) (n : ℕ) (w : Worker R) → IsBoard w.board → HasEnded hist k n w → IsPassOf hist w.board.pass
own_pass hist k n w valid h = subst (λ (s : Story HubValue). IsPassOf s w.board.pass) h.hist_is valid.own

-- nothing was merged yet
pub merged_none : (law : HubValue) (p : Problem) (count : ℕ) (first : Known HubValue Event) → AreMerged law p count first []
merged_none law p count first = each_none (λ k x. (n : ℕ) → n + k ≡ count → (b : BoardValue) × IsLeft law p n b x × StartsWith first.seen b.pass.seen × Contains first.ended (n, b.pass.mine))

-- one pass more is merged
merged_more : (law : HubValue) (p : Problem) (count n : ℕ) (old new : Known HubValue Event) (xs : List Left) (x : Left) (b : BoardValue) → IsLeft law p n b x → n + length xs ≡ count → StartsWith new.seen old.seen → StartsWith new.seen b.pass.seen
    → new.ended ≡ old.ended ++ (b.pass.number, b.pass.mine) ∷ b.pass.ended → AreMerged law p count old xs → AreMerged law p count new (xs ++ x ∷ [])
merged_more law p count n old new xs x b is place seen_old seen_new ended before = each_push (λ k y. (m : ℕ) → m + k ≡ count → (d : BoardValue) × IsLeft law p m d y × StartsWith new.seen d.pass.seen × Contains new.ended (m, d.pass.mine)) xs x
    (λ k y e m at.
    let h = before k y e m at in (
      h.0,
      h.1,
      starts_then h.0.pass.seen old.seen new.seen h.2 seen_old,
      subst (λ l. Contains l (m, h.0.pass.mine)) (sym ended) (Contains-append_left old.ended ((b.pass.number, b.pass.mine) ∷ b.pass.ended) (m, h.0.pass.mine) h.3),
    ))
    (λ m at.
    let same : n ≡ m = omega (arith, at, place) in
    let here : Contains new.ended (b.pass.number, b.pass.mine) =
    subst (λ l. Contains l (b.pass.number, b.pass.mine)) (sym ended)
    (Contains-append_right old.ended ((b.pass.number, b.pass.mine) ∷ b.pass.ended) (b.pass.number, b.pass.mine) (Contains-first (b.pass.number, b.pass.mine) b.pass.ended)) in (
      b,
      subst (λ q. IsLeft law p q b x) same is,
      seen_new,
      subst (λ q. Contains new.ended (q, b.pass.mine)) (is.number ∙ same) here,
    ))

-- one worker more is merged and added
pub gathered_more : {R : Type 0} (hist : Story HubValue) (k : Check) (count m : ℕ) (w : Worker R) (old new : Known HubValue Event) (searches searches' : List KeptSearch) (model model' : Option ℕ) (wanting wanting' : Bool) (spent spent' : Option Diary) (xs : List Left)
    → IsBoard w.board → HasEnded hist k m w → suc (length xs + m) ≡ count → StartsWith new.seen old.seen → StartsWith new.seen w.board.pass.seen → new.ended ≡ old.ended ++ (w.board.pass.number, w.board.pass.mine) ∷ w.board.pass.ended
    → ((ys : List Left) (x : Left) → x ≡ left_of w → AreKept searches model wanting ys → AreKept searches' model' wanting' (ys ++ x ∷ []))
    → ((ys : List Left) (x : Left) → x ≡ left_of w → IsLowest spent ys → IsLowest spent' (ys ++ x ∷ []))
    → AreMerged hist.law (problem_in hist.law k) count old xs → AreKept searches model wanting xs → IsLowest spent xs
    → (zs : List Left) × (length zs + m ≡ count) × AreMerged hist.law (problem_in hist.law k) count new zs × AreKept searches' model' wanting' zs × IsLowest spent' zs
gathered_more hist k count m w old new searches searches' model model' wanting wanting' spent spent' xs valid h place seen_old seen_new ended keeps lowers merged kept lowest =
    let x = left_of w in
    let long = length-append xs (x ∷ []) in (
      xs ++ x ∷ [],
      omega (arith, long, place),
      merged_more hist.law (problem_in hist.law k) count (suc m) old new xs x w.board (is_left hist k m w valid h) (omega (arith, place)) seen_old seen_new ended merged,
      keeps xs x refl kept,
      lowers xs x refl lowest,
    )

-- in the closed history
pub left_closed : (law : HubValue) (p : Problem) (count : ℕ) (first : Known HubValue Event) (all : List Event) (xs : List Left) → StartsWith all first.seen → AllByRecursion (λ q. of_pass by_of q.0 all ≡ q.1) first.ended → AreMerged law p count first xs → AreLeft law p count all xs
left_closed law p count first all xs seen ended h k x e n at =
    let q = h k x e n at in (
      q.0,
      q.1,
      starts_then q.0.pass.seen first.seen all q.2 seen,
      each_member (λ (r : ℕ × List Event). of_pass by_of r.0 all ≡ r.1) first.ended (n, q.0.pass.mine) ended q.3,
    )
