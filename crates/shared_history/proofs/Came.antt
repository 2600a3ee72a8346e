-- What a pass knows once its turn came.
use Rattle.std.proofs.Common.{◌≡◌, ℕ, ◌%◌, ◌<◌, List, [], ◌∷◌, Option, Some, None, sym, ap, ◌∙◌, subst}
use mathlib.Core.Option.{none}
use Rattle.atomic_table.specs.Table.{step, rest}
use Rattle.atomic_table.specs.declared.shared.Seat.{Seat}
use Rattle.std.specs.List.{AllByRecursion}
use Rattle.shared_history.specs.declared.view.Stage.{Stage}
use Rattle.shared_history.specs.declared.view.Stage.TheVariants.{Waiting, Turn}
use Rattle.shared_history.specs.declared.view.View.{View}
use Rattle.shared_history.specs.declared.view.Locked.{Locked}
use Rattle.shared_history.specs.Rule.{round, Knows}
use Rattle.shared_history.specs.Moves.{Sat, at_stage, Came, polled}
use Rattle.shared_history.specs.Seated.{Took}

module _ {T K E : Type 0} (by : E → ℕ) (stands : K → T → List E → Type 0) where
  abbrev V : Type 0
  V = View K E

  abbrev S : Type 0
  S = Option (Locked T E)

  abbrev Place : Type 0
  Place = Seat S V

  abbrev second : S → List (ℕ × S) → S
  second d [] = d
  second d (p ∷ ps) = p.1

  pub one_held : (x y : Locked T E) (more : List (ℕ × S)) → Path (List (ℕ × S)) ((0, Some x) ∷ []) ((0, Some y) ∷ more) → x ≡ y
  one_held x y more e = let same : Path S (Some x) (Some y) = ap (second (Some x)) e in cc

  knows_at : (log : List E) (v : V) (st : Stage E) → Knows by log (at_stage v st) → Knows by log v
  knows_at log v st k = record { seen = k.seen; other = k.other; mine = k.mine; ended = k.ended }

  pub came : (n : ℕ) (m : Sat T K E) (t r : ℕ) (m' : Sat T K E) → m.0.stage ≡ Waiting t → r ≡ t % round → polled by stands (step n 0 0 0 none) m r m' → Came by stands m t m'
  came n m t r m' stage is told = (told t stage).0 is

  pub took : (law : K) (p q : Place) (m m' : Sat T K E) (t : ℕ) (x : Locked T E) → p.me.0.law ≡ Some law → m ≡ (at_stage p.me.0 (Waiting t), []) → Came by stands m t m' → m'.1 ≡ (0, Some x) ∷ rest m'.1 → q.me ≡ (m'.0, (0, None) ∷ rest m'.1)
      → Took by stands law p x q
  took law p q m m' t x law_is is c has left =
      let v : V = p.me.0 in let y : Locked T E = c.0 in let same : y ≡ x = one_held y x (rest m'.1) (sym c.2 ∙ has) in let was : m.0 ≡ at_stage v (Waiting t) = ap (λ (z : Sat T K E). z.0) is in record {
        ticket = t;
        me = left ∙ (λ i. ((c.1 ∙ (λ j. at_stage (was j) (Turn t (same j).entries.items))) i, (0, None) ∷ ap rest c.2 i));
        good = subst (λ (z : Locked T E). stands law z.state z.entries.items) same (c.3 law (ap (λ (z : V). z.law) was ∙ law_is));
        knows = knows_at x.entries.items v (Waiting t) (subst (λ (z : List E × V). Knows by z.0 z.1) (λ i. ((same i).entries.items, was i)) c.4);
        below = λ first. subst (λ (z : List E × ℕ). AllByRecursion (λ e. by e < z.1) z.0) (λ i. ((same i).entries.items, (was i).made)) (c.5 (ap (λ (z : V). z.number) was ∙ first));
      }
