-- A trip, one move after the other.
use Rattle.std.proofs.Common.{◌≡◌, ℕ, suc, ◌≤◌, List, [], ◌∷◌, ◌++◌, length, Option, Some, None, refl, sym, ap, ◌∙◌}
use Rattle.std.specs.Prelude.{drop, slice_get}
use Rattle.std.proofs.lemmas.List.{append_assoc, append-nil}
use Rattle.smt_terms.specs.declared.node.Node.{Node}
use Rattle.theory_terms.specs.declared.lemma.Move.{Move}
use Rattle.theory_terms.specs.declared.lemma.Access.{Access}
use Rattle.theory_terms.specs.declared.atom.Atom.{Atom}
use Rattle.theory_terms.specs.declared.atom.Landing.{Landing}
use Rattle.theory_terms.specs.declared.atom.Turn.{Turn}
use Rattle.theory_terms.specs.Lemmas.{turn_of, Trip, longer, then_trip, trip_of, arrive, from_landing, landing_of, arrival_of}
use Rattle.theory_lemmas.specs.Arriving.{HasArrived}
use Rattle.theory_lemmas.proofs.Each.{drop_next, drop_all}

-- atoms of moves that were made already
abbrev pub behind : List Atom → Option Trip → Option Trip
behind before None = None
behind before (Some r) = Some (record { to = r.to; unless = before ++ r.unless })

-- after so many moves the access is here, with these atoms put behind the old ones
pub record IsUnderway (nodes : List Node) (l : Landing) (path : List Move) (old new : List Atom) (n here : ℕ) : Type 0 where
  pub before : List Atom
  pub atoms : new ≡ old ++ before
  pub trip : trip_of nodes l.index l.array path ≡ behind before (trip_of nodes l.index here (drop n path))

pub begins : (nodes : List Node) (l : Landing) (path : List Move) (old : List Atom) → IsUnderway nodes l path old old 0 l.array
begins nodes l path old = record { before = []; atoms = sym (append-nil old); trip = same (trip_of nodes l.index l.array path) } where
  same : (o : Option Trip) → o ≡ behind [] o
  same None = refl
  same (Some r) = refl

module _ (nodes : List Node) (l : Landing) (path : List Move) (old new : List Atom) (n here : ℕ) (way : IsUnderway nodes l path old new n here) where
  pub goes_on : (m : Move) (w : Turn) (later : List Atom) → slice_get path n ≡ Some m → turn_of nodes l.index here m ≡ Some w → later ≡ new ++ w.unless ∷ [] → IsUnderway nodes l path old later (suc n) w.to
  goes_on m w later at turn e = record {
    before = way.before ++ w.unless ∷ [];
    atoms = e ∙ ap (λ xs. xs ++ w.unless ∷ []) way.atoms ∙ append_assoc old way.before (w.unless ∷ []);
    trip =
        way.trip ∙ ap (λ ms. behind way.before (trip_of nodes l.index here ms)) (drop_next path n m at)
        ∙ ap (λ o. behind way.before (then_trip o (λ to. trip_of nodes l.index to (drop (suc n) path)))) turn
        ∙ join (trip_of nodes l.index w.to (drop (suc n) path));
  } where
    join : (o : Option Trip) → behind way.before (longer w.unless o) ≡ behind (way.before ++ w.unless ∷ []) o
    join None = refl
    join (Some r) = ap (λ xs. Some (record { to = r.to; unless = xs })) (sym (append_assoc way.before (w.unless ∷ []) r.unless))

  pub stops : (m : Move) → slice_get path n ≡ Some m → turn_of nodes l.index here m ≡ None → trip_of nodes l.index l.array path ≡ None
  stops m at turn =
      way.trip ∙ ap (λ ms. behind way.before (trip_of nodes l.index here ms)) (drop_next path n m at)
      ∙ ap (λ o. behind way.before (then_trip o (λ to. trip_of nodes l.index to (drop (suc n) path)))) turn

  pub ends : length path ≤ n → (a : Access) → landing_of nodes a.start ≡ Some l → a.path ≡ path → HasArrived (arrival_of nodes a) old (Some (record { array = here; index = l.index; value = l.value })) new
  ends le a land same =
      let t : trip_of nodes l.index l.array path ≡ Some (record { to = here; unless = way.before ++ [] }) = way.trip ∙ ap (λ ms. behind way.before (trip_of nodes l.index here ms)) (drop_all path n le) in
      let is : arrival_of nodes a ≡ Some (record { landing = record l { array = here }; unless = way.before ++ [] }) = ap (λ o. from_landing nodes o a.path) land ∙ ap (λ ms. arrive l (trip_of nodes l.index l.array ms)) same ∙ ap (arrive l) t in
      rw is (refl, way.atoms ∙ ap (λ xs. old ++ xs) (sym (append-nil way.before)))

pub none_arrives : (nodes : List Node) (l : Landing) (a : Access) (old new : List Atom) → landing_of nodes a.start ≡ Some l → trip_of nodes l.index l.array a.path ≡ None → HasArrived (arrival_of nodes a) old None new
none_arrives nodes l a old new land trip = rw (land, trip) tt
