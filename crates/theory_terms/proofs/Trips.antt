-- The parts of paths, of accesses, and of lemmas on two accesses.
use Rattle.std.proofs.Common.{◌≡◌, ℕ, Bool, true, false, List, [], ◌∷◌, ◌++◌, Option, Some, None, refl, sym, ap, ⊎_elim}
use Rattle.std.specs.Prelude.{◌==◌, if◌then◌else◌}
use Rattle.smt_terms.specs.declared.node.Node.{Node}
use Rattle.theory_terms.specs.declared.lemma.Access.{Access}
use Rattle.theory_terms.specs.declared.atom.Atom.{Atom}
use Rattle.theory_terms.specs.declared.atom.Atom.TheVariants.{Same, Differ}
use Rattle.theory_terms.specs.declared.atom.Landing.{Landing}
use Rattle.theory_terms.specs.declared.atom.Turn.{Turn}
use Rattle.theory_terms.specs.Lemmas.{landing_of, between, Trip, longer, then_trip, trip_of, Arrival, arrive, from_landing, arrival_of, arrays_atoms}
use Rattle.theory_terms.proofs.Sound.{between_is}

-- the atom of a move between two arrays
pub between_unless : (here a b : ℕ) (atom : Atom) (w : Turn) → between here a b atom ≡ Some w → w.unless ≡ atom
between_unless here a b atom w e =
    ⊎_elim
    (λ p. let q : w.unless ≡ atom = ap (λ t. t.unless) p.1 in q)
    (λ p. let q : w.unless ≡ atom = ap (λ t. t.unless) p.1 in q)
    (between_is here a b atom w e)

-- a path that begins with this move
pub record IsGoing (o : Option Turn) (f : ℕ → Option Trip) (r : Trip) : Type 0 where
  pub turn : Turn
  pub rest : Trip
  pub turns : o ≡ Some turn
  pub goes : f turn.to ≡ Some rest
  pub is : r ≡ record { to = rest.to; unless = turn.unless ∷ rest.unless }

pub going_is : (o : Option Turn) (f : ℕ → Option Trip) (r : Trip) → then_trip o f ≡ Some r → IsGoing o f r
going_is None f r e = let z : ⊥ = cc in absurd z
going_is (Some w) f r e = go (f w.to) refl e where
  go : (o : Option Trip) → f w.to ≡ o → longer w.unless o ≡ Some r → IsGoing (Some w) f r
  go None h k = let z : ⊥ = cc in absurd z
  go (Some q) h k =
      let same : record { to = q.to; unless = w.unless ∷ q.unless } ≡ r = cc in
      record { turn = w; rest = q; turns = refl; goes = h; is = sym same }

-- an access that arrives: where it starts, and where its path leads
pub record IsComing (nodes : List Node) (a : Access) (p : Arrival) : Type 0 where
  pub start : Landing
  pub trip : Trip
  pub starts : landing_of nodes a.start ≡ Some start
  pub comes : trip_of nodes start.index start.array a.path ≡ Some trip
  pub is : p ≡ record { landing = record start { array = trip.to }; unless = trip.unless }

module _ (nodes : List Node) (a : Access) (p : Arrival) where
  came : (l : Landing) → landing_of nodes a.start ≡ Some l → (o : Option Trip) → trip_of nodes l.index l.array a.path ≡ o → arrive l o ≡ Some p → IsComing nodes a p
  came l s None t e = let z : ⊥ = cc in absurd z
  came l s (Some r) t e =
      let same : record { landing = record l { array = r.to }; unless = r.unless } ≡ p = cc in
      record { start = l; trip = r; starts = s; comes = t; is = sym same }

  started : (o : Option Landing) → landing_of nodes a.start ≡ o → from_landing nodes o a.path ≡ Some p → IsComing nodes a p
  started None s e = let z : ⊥ = cc in absurd z
  started (Some l) s e = came l s (trip_of nodes l.index l.array a.path) refl e

  pub arrival_is : arrival_of nodes a ≡ Some p → IsComing nodes a p
  arrival_is e = started (landing_of nodes a.start) refl e

-- two accesses that arrive at one array, and the atoms of their lemma
pub record IsMeeting (o w : Option Arrival) (atoms : List Atom) : Type 0 where
  pub left : Arrival
  pub right : Arrival
  pub first : o ≡ Some left
  pub second : w ≡ Some right
  pub is : atoms ≡ left.unless ++ right.unless ++ Differ left.landing.index right.landing.index ∷ Same left.landing.value right.landing.value ∷ []

pub meeting_is : (o w : Option Arrival) (atoms : List Atom) → arrays_atoms o w ≡ Some atoms → IsMeeting o w atoms
meeting_is None w atoms e = let z : ⊥ = cc in absurd z
meeting_is (Some p) None atoms e = let z : ⊥ = cc in absurd z
meeting_is (Some p) (Some q) atoms e = go (p.landing.array == q.landing.array) e where
  go : (b : Bool) → (if b then Some (p.unless ++ q.unless ++ Differ p.landing.index q.landing.index ∷ Same p.landing.value q.landing.value ∷ []) else None) ≡ Some atoms → IsMeeting (Some p) (Some q) atoms
  go true k =
      let same : p.unless ++ q.unless ++ Differ p.landing.index q.landing.index ∷ Same p.landing.value q.landing.value ∷ [] ≡ atoms = cc in
      record { left = p; right = q; first = refl; second = refl; is = sym same }
  go false k = let z : ⊥ = cc in absurd z
