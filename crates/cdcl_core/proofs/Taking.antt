-- A place that is taken out of its list.
use Rattle.std.proofs.Common.{ℕ, ◌≡◌, ◌≢◌, ◌+◌, ◌<◌, List, [], ◌∷◌, length, refl, sym, ◌∙◌, inl, inr, arith}
use Rattle.std.proofs.Math.ListN.{get_or, set, length-set}
use Rattle.std.proofs.lemmas.List.{get_or-set_other, get_or-set_same}
use Rattle.std.proofs.lemmas.Bool.Decides.{eqb_tells}
use Rattle.cdcl_core.specs.Chains.{times, first_of, rest_of}
use Rattle.cdcl_core.specs.Lists.{Lists}
use Rattle.cdcl_core.proofs.Counting.{same_or_not, times_cons, times_nil, taken_apart}

-- while the places of a list are gone through: list 0 has those to come, and the place is none of those that went back
pub record IsTaking (old now : Lists) (list place : ℕ) : Type 0 where
  pub literals : now.literals ≡ old.literals
  pub size : length now.lists ≡ length old.lists
  pub both : (q : ℕ) → q ≢ place → times q (get_or now.lists 0 []) + times q (get_or now.lists list []) ≡ times q (get_or old.lists list [])
  pub gone : times place (get_or now.lists list []) ≡ 0
  pub others : (i q : ℕ) → i ≢ 0 → i ≢ list → times q (get_or now.lists i []) ≡ times q (get_or old.lists i [])

pub taking_starts : (old : Lists) (list place : ℕ) → list < length old.lists → list ≢ 0 → get_or old.lists 0 [] ≡ [] → IsTaking old (record { lists = set (set old.lists 0 (get_or old.lists list [])) list (get_or old.lists 0 []); literals = old.literals }) list place
taking_starts old list place h ne idle =
    let L : List (List ℕ) = old.lists in
    let zero_in : 0 < length L = omega arith in
    let h2 : list < length (set L 0 (get_or L list [])) = rw length-set h in
    let at_zero : get_or (set (set L 0 (get_or L list [])) list (get_or L 0 [])) 0 [] ≡ get_or L list [] = get_or-set_other (set L 0 (get_or L list [])) list 0 (get_or L 0 []) [] (λ e. ne (sym e)) ∙ get_or-set_same L 0 (get_or L list []) [] zero_in in
    let at_list : get_or (set (set L 0 (get_or L list [])) list (get_or L 0 [])) list [] ≡ [] = get_or-set_same (set L 0 (get_or L list [])) list (get_or L 0 []) [] h2 ∙ idle in
    record {
      literals = refl;
      size = rw (length-set, length-set) refl;
      both = λ q nq. rw (at_zero, at_list) (omega (arith, times_nil q));
      gone = rw at_list (times_nil place);
      others = λ i q a b. rw (get_or-set_other (set L 0 (get_or L list [])) list i (get_or L 0 []) [] b, get_or-set_other L 0 i (get_or L list []) [] a) refl;
    }

pub taking_drops : (old now : Lists) (list place : ℕ) → IsTaking old now list place → 0 < length now.lists → list ≢ 0 → 0 < first_of (get_or now.lists 0 []) → first_of (get_or now.lists 0 []) ≡ place → IsTaking old (record { lists = set now.lists 0 (rest_of (get_or now.lists 0 [])); literals = now.literals }) list place
taking_drops old now list place t h ne pos e =
    let L : List (List ℕ) = now.lists in
    let same : (i : ℕ) → i ≢ 0 → get_or (set L 0 (rest_of (get_or L 0 []))) i [] ≡ get_or L i [] = λ i n. get_or-set_other L 0 i (rest_of (get_or L 0 [])) [] n in
    record {
      literals = t.literals;
      size = rw length-set t.size;
      both = λ q nq. elim (same_or_not (first_of (get_or L 0 [])) q) [
        | inl y ↦ absurd (nq (sym y.0 ∙ e))
        | inr y ↦ rw (get_or-set_same L 0 (rest_of (get_or L 0 [])) [] h, same list ne) (omega (arith, t.both q nq, taken_apart (get_or L 0 []) q pos, y.1))
      ];
      gone = rw (same list ne) t.gone;
      others = λ i q a b. rw (same i a) (t.others i q a b);
    }

pub taking_keeps : (old now : Lists) (list place : ℕ) → IsTaking old now list place → list < length now.lists → list ≢ 0 → 0 < first_of (get_or now.lists 0 []) → first_of (get_or now.lists 0 []) ≢ place →
    IsTaking old (record { lists = set (set now.lists 0 (rest_of (get_or now.lists 0 []))) list (first_of (get_or now.lists 0 []) ∷ get_or now.lists list []); literals = now.literals }) list place
taking_keeps old now list place t h ne pos np =
    let L : List (List ℕ) = now.lists in
    let F : ℕ = first_of (get_or L 0 []) in
    let M : List (List ℕ) = set (set L 0 (rest_of (get_or L 0 []))) list (F ∷ get_or L list []) in
    let zero_in : 0 < length L = omega arith in
    let h2 : list < length (set L 0 (rest_of (get_or L 0 []))) = rw length-set h in
    let at_zero : get_or M 0 [] ≡ rest_of (get_or L 0 []) = get_or-set_other (set L 0 (rest_of (get_or L 0 []))) list 0 (F ∷ get_or L list []) [] (λ e. ne (sym e)) ∙ get_or-set_same L 0 (rest_of (get_or L 0 [])) [] zero_in in
    let at_list : get_or M list [] ≡ F ∷ get_or L list [] = get_or-set_same (set L 0 (rest_of (get_or L 0 []))) list (F ∷ get_or L list []) [] h2 in
    record {
      literals = t.literals;
      size = rw (length-set, length-set) t.size;
      both = λ q nq. rw (at_zero, at_list) (omega (arith, t.both q nq, taken_apart (get_or L 0 []) q pos, times_cons q F (get_or L list [])));
      gone = elim (same_or_not F place) [
        | inl y ↦ absurd (np y.0)
        | inr y ↦ rw at_list (omega (arith, times_cons place F (get_or L list []), y.1, t.gone))
      ];
      others = λ i q a b. rw (get_or-set_other (set L 0 (rest_of (get_or L 0 []))) list i (F ∷ get_or L list []) [] b, get_or-set_other L 0 i (rest_of (get_or L 0 [])) [] a) (t.others i q a b);
    }

-- the way through the list ends
pub taken_gone : (old now : Lists) (list place i : ℕ) → IsTaking old now list place → get_or now.lists 0 [] ≡ [] → ((m : ℕ) → m ≢ list → times place (get_or old.lists m []) ≡ 0) → times place (get_or now.lists i []) ≡ 0
taken_gone old now list place i t done lone = elim (eqb_tells i list) [
  | inl e ↦ rw e.1 t.gone
  | inr e ↦ elim (eqb_tells i 0) [
    | inl z ↦ rw (z.1, done) (times_nil place)
    | inr z ↦ t.others i place z.1 e.1 ∙ lone i e.1
  ]
]

pub taken_others : (old now : Lists) (list place i q : ℕ) → IsTaking old now list place → get_or now.lists 0 [] ≡ [] → get_or old.lists 0 [] ≡ [] → list ≢ 0 → q ≢ place → times q (get_or now.lists i []) ≡ times q (get_or old.lists i [])
taken_others old now list place i q t done idle ne nq = elim (eqb_tells i 0) [
  | inl z ↦ rw (z.1, done, idle) refl
  | inr z ↦ elim (eqb_tells i list) [
    | inl e ↦ rw e.1 (let b : times q (get_or now.lists 0 []) ≡ 0 = rw done (times_nil q) in omega (arith, t.both q nq, b))
    | inr e ↦ t.others i q z.1 e.1
  ]
]
