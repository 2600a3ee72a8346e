-- Two accesses that came to one array with equal indexes and different values give a lemma that is false.
use Rattle.std.proofs.Common.{◌≡◌, ℕ, Bool, true, false, not, ◌||◌, List, [], ◌∷◌, ◌++◌, Option, Some, None, refl, sym, ap, ◌∙◌}
use Rattle.std.specs.Prelude.{if◌then◌else◌}
use Rattle.std.proofs.lemmas.Bool.{eq-eqb}
use Rattle.smt_terms.specs.declared.node.Node.{Node}
use Rattle.theory_terms.specs.declared.atom.Atom.{Atom}
use Rattle.theory_terms.specs.declared.atom.Atom.TheVariants.{Same, Differ}
use Rattle.theory_terms.specs.declared.atom.Turn.{Turn}
use Rattle.theory_terms.specs.declared.lemma.Move.{Move}
use Rattle.theory_terms.specs.declared.lemma.Access.{Access}
use Rattle.theory_terms.specs.declared.lemma.Lemma.TheVariants.{Arrays}
use Rattle.smt_terms.specs.Values.{Value, same_value}
use Rattle.theory_terms.specs.Lemmas.{atom_true, some_true, turn_of, Trip, longer, then_trip, trip_of, Arrival, arrival_of, arrays_atoms, atoms_of}

abbrev pub after_turn : Trip → Turn → Trip
after_turn r w = record { to = w.to; unless = r.unless ++ w.unless ∷ [] }

module _ (nodes : List Node) (i : ℕ) where
  push_first : (w : Turn) (o : Option Trip) (r : Trip) (x : Turn) (q : Option Trip) → ((p : Trip) → o ≡ Some p → q ≡ Some (after_turn p x)) → longer w.unless o ≡ Some r → longer w.unless q ≡ Some (after_turn r x)
  push_first w None r x q f e = let z : ⊥ = cc in absurd z
  push_first w (Some p) r x q f e =
      let same : record { to = p.to; unless = w.unless ∷ p.unless } ≡ r = cc in
      ap (longer w.unless) (f p refl) ∙ ap (λ t. Some (after_turn t x)) same

  push_then : (o : Option Turn) (f g : ℕ → Option Trip) (r : Trip) (x : Turn) → ((to : ℕ) (p : Trip) → f to ≡ Some p → p.to ≡ r.to → g to ≡ Some (after_turn p x)) → then_trip o f ≡ Some r → then_trip o g ≡ Some (after_turn r x)
  push_then None f g r x h e = let z : ⊥ = cc in absurd z
  push_then (Some w) f g r x h e = push_first w (f w.to) r x (g w.to) (λ p q. h w.to p q (ends w.unless (f w.to) p r q e)) e where
    ends : (a : Atom) (o : Option Trip) (p r : Trip) → o ≡ Some p → longer a o ≡ Some r → p.to ≡ r.to
    ends a None p r q e = let z : ⊥ = cc in absurd z
    ends a (Some k) p r q e = let same : k ≡ p = cc in let last : record { to = k.to; unless = a ∷ k.unless } ≡ r = cc in ap (λ t. t.to) (sym same) ∙ ap (λ t. t.to) last

  -- a path and one move more
  pub trip_push : (here : ℕ) (ms : List Move) (r : Trip) (m : Move) (w : Turn) → trip_of nodes i here ms ≡ Some r → turn_of nodes i r.to m ≡ Some w → trip_of nodes i here (ms ++ m ∷ []) ≡ Some (after_turn r w)
  trip_push here [] r m w e t =
      let same : record { to = here; unless = [] } ≡ r = cc in
      let at : turn_of nodes i here m ≡ Some w = ap (λ k. turn_of nodes i k m) (ap (λ k. k.to) same) ∙ t in
      ap (λ o. then_trip o (λ to. Some (record { to = to; unless = [] }))) at ∙ ap (λ k. Some (record { to = w.to; unless = k ++ w.unless ∷ [] })) (ap (λ k. k.unless) same)
  trip_push here (n ∷ ms) r m w e t =
      push_then (turn_of nodes i here n) (λ to. trip_of nodes i to ms) (λ to. trip_of nodes i to (ms ++ m ∷ [])) r w
      (λ to p q end. trip_push to ms p m w q (ap (λ k. turn_of nodes i k m) end ∙ t)) e

or_both : (a b : Bool) → a ≡ false → b ≡ false → (a || b) ≡ false
or_both a b p q = ap (λ x. x || b) p ∙ q

parts : (a b : Bool) → (a || b) ≡ false → (a ≡ false) × (b ≡ false)
parts true b h = let z : ⊥ = cc in absurd z
parts false b h = (refl, h)

pub append_false : (v : ℕ → Value) (xs ys : List Atom) → some_true v xs ≡ false → some_true v ys ≡ false → some_true v (xs ++ ys) ≡ false
append_false v [] ys p q = q
append_false v (x ∷ xs) ys p q = let h = parts (atom_true v x) (some_true v xs) p in or_both (atom_true v x) (some_true v (xs ++ ys)) h.0 (append_false v xs ys h.1 q)

-- the lemma of two accesses that clash is false
pub clash_is_false : (nodes : List Node) (v : ℕ → Value) (a b : Access) (p q : Arrival) → arrival_of nodes a ≡ Some p → arrival_of nodes b ≡ Some q → some_true v p.unless ≡ false → some_true v q.unless ≡ false → p.landing.array ≡ q.landing.array → same_value (v p.landing.index) (v q.landing.index) ≡ true → same_value (v p.landing.value) (v q.landing.value) ≡ false → (atoms : List Atom) × (atoms_of nodes (Arrays a b) ≡ Some atoms) × (some_true v atoms ≡ false)
clash_is_false nodes v a b p q ea eb fa fb same index value =
    let atoms : List Atom = p.unless ++ q.unless ++ Differ p.landing.index q.landing.index ∷ Same p.landing.value q.landing.value ∷ [] in
    let is : arrays_atoms (Some p) (Some q) ≡ Some atoms = ap (λ t. if t then Some atoms else None) (eq-eqb p.landing.array q.landing.array same) in
    let last : some_true v (Differ p.landing.index q.landing.index ∷ Same p.landing.value q.landing.value ∷ []) ≡ false = or_both (not (same_value (v p.landing.index) (v q.landing.index))) _ (ap not index) (or_both (same_value (v p.landing.value) (v q.landing.value)) false value refl) in
    (atoms, rw (ea, eb) is, append_false v (p.unless ++ q.unless) _ (append_false v p.unless q.unless fa fb) last)
