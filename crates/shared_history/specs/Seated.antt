-- The seat of a pass: at rest between two calls, and in its turn.
use Rattle.std.specs.Prelude.{◌≡◌, ℕ, ◌<◌, ◌≤◌, nat_eq, true, List, [], ◌∷◌, ◌++◌, length, Option, None}
use Rattle.std.specs.List.{AllByRecursion, IsDistinct}
use Rattle.atomic_table.specs.declared.shared.Seat.{Seat}
use Rattle.shared_history.specs.Events.{of_pass, numbers}
use Rattle.shared_history.specs.declared.view.Stage.TheVariants.{Idle, Turn}
use Rattle.shared_history.specs.declared.view.View.{View}
use Rattle.shared_history.specs.declared.view.Locked.{Locked}
use Rattle.shared_history.specs.Known.{Known}
use Rattle.shared_history.specs.Rule.{Knows}
use Rattle.shared_history.specs.Moves.{at_stage}

module _ {T K E : Type 0} where
  abbrev pub known : Seat (Option (Locked T E)) (View K E) → ℕ → Known K E
  known seat got = let v = seat.me.0 in record { table = seat.table_id; law = v.law; number = v.number; got = got; made = v.made; seen = v.seen; mine = v.mine; ended = v.ended }

  -- the seat has no ticket and no slot
  pub record AtRest (seat : Seat (Option (Locked T E)) (View K E)) : Type 0 where
    pub empty : seat.me.1 ≡ []
    pub idle : seat.me.0.stage ≡ Idle
    pub live : seat.me.0.live ≡ true

  -- the seat of a pass with this number, which has got entries up to a place and has made so many passes
  pub record IsPass (by : E → ℕ) (n place count : ℕ) (seat : Seat (Option (Locked T E)) (View K E)) : Type 0 where
    pub rest : AtRest seat
    pub number : seat.me.0.number ≡ n
    pub made : seat.me.0.made ≡ count
    pub got : place ≤ length seat.me.0.seen
    pub mine : of_pass by seat.me.0.number seat.me.0.seen ≡ seat.me.0.mine
    pub ended : AllByRecursion (λ p. of_pass by p.0 seat.me.0.seen ≡ p.1) seat.me.0.ended
    pub differ : IsDistinct nat_eq (numbers seat.me.0.number seat.me.0.ended)
    pub below : seat.me.0.number ≡ 0 → (0 < seat.me.0.made) × AllByRecursion (λ e. by e < seat.me.0.made) seat.me.0.seen

  abbrev pub IsSameSeat : Seat (Option (Locked T E)) (View K E) → Seat (Option (Locked T E)) (View K E) → Type 0
  IsSameSeat p q = (q.table_id ≡ p.table_id) × (q.id ≡ p.id)

  -- the seat's turn came, and it took what lies in the slot
  pub record Took (by : E → ℕ) (stands : K → T → List E → Type 0) (law : K) (p : Seat (Option (Locked T E)) (View K E)) (x : Locked T E) (q : Seat (Option (Locked T E)) (View K E)) : Type 0 where
    pub ticket : ℕ
    pub me : q.me ≡ (at_stage p.me.0 (Turn ticket x.entries.items), (0, None) ∷ [])
    pub good : stands law x.state x.entries.items
    pub knows : Knows by x.entries.items p.me.0
    pub below : p.me.0.number ≡ 0 → AllByRecursion (λ e. by e < p.me.0.made) x.entries.items

  -- its turn came, and events of its own may have been added
  pub record HasTurn (by : E → ℕ) (stands : K → T → List E → Type 0) (law : K) (p : Seat (Option (Locked T E)) (View K E)) (x : Locked T E) : Type 0 where
    pub ticket : ℕ
    pub all : List E
    pub more : List E
    pub live : p.me.0.live ≡ true
    pub turn : p.me.0.stage ≡ Turn ticket all
    pub out : p.me.1 ≡ (0, None) ∷ []
    pub grew : x.entries.items ≡ all ++ more
    pub own : AllByRecursion (λ e. by e ≡ p.me.0.number) more
    pub good : stands law x.state x.entries.items

  -- its turn came, and nothing was added
  pub record KeepsTurn (stands : K → T → List E → Type 0) (law : K) (p : Seat (Option (Locked T E)) (View K E)) (x : Locked T E) : Type 0 where
    pub ticket : ℕ
    pub all : List E
    pub live : p.me.0.live ≡ true
    pub turn : p.me.0.stage ≡ Turn ticket all
    pub out : p.me.1 ≡ (0, None) ∷ []
    pub same : x.entries.items ≡ all
    pub good : stands law x.state x.entries.items
