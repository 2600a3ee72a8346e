-- The literals of a clause and their codes.
use Rattle.std.proofs.Common.{ℕ, ◌≡◌, ◌<◌, ◌≤◌, List, [], Option, Some, None, length, sym, ap, ◌∙◌, arith, inl, inr}
use Rattle.std.specs.Option.{MatchOption}
use Rattle.std.proofs.lemmas.Bool.{cases_lt}
use Rattle.std.proofs.Math.ListN.{get_or}
use Rattle.std.proofs.lemmas.List.{get_or-map, length-map}
use Rattle.cnf_base.specs.Literals.{Literal, code_of}
use Rattle.cdcl_core.specs.Stamps.{codes, Has, IsFalseBut}
use Rattle.cdcl_core.specs.State.{all_codes}
use Rattle.cdcl_core.proofs.Counting.{item_in}
use Rattle.cdcl_core.proofs.Trails.{found_at}

-- what is read of a clause is what the codes say
pub clause_codes : (cs : List (List Literal)) (s : ℕ) (x : List Literal) → s < length cs → x ≡ get_or cs s x → codes x ≡ get_or (all_codes cs) s []
clause_codes cs s x h e = ap codes e ∙ sym (get_or-map codes cs s x [] h)

pub codes_length : (cs : List (List Literal)) → length (all_codes cs) ≡ length cs
codes_length cs = length-map cs codes

pub code_read : (c : List Literal) (i : ℕ) (l : Literal) (x : ℕ) → i < length c → l ≡ get_or c i l → x ≡ code_of l → get_or (codes c) i 0 ≡ x
code_read c i l x h e ex = get_or-map code_of c i l 0 h ∙ (ap code_of (sym e) ∙ sym ex)

pub code_in : (c : List Literal) (i : ℕ) (l : Literal) (x : ℕ) → i < length c → l ≡ get_or c i l → x ≡ code_of l → Has (codes c) x
code_in c i l x h e ex =
    let within : i < length (codes c) = rw length-map h in
    rw (← code_read c i l x h e ex) (item_in (codes c) i 0 within)

-- where there is no value, what follows from what is known then
pub none_weaker : {X P R : Type 0} (Q : X → Type 0) (r : Option X) → (P → R) → MatchOption r P Q → MatchOption r R Q
none_weaker Q None f m = f m
none_weaker Q (Some x) f m = m

-- what holds of the literals of a clause from a place on, and of those before it
pub two_parts : (c : List Literal) (ss : List ℕ) (o s : ℕ) → ((i : ℕ) → s ≤ i → i < length c → IsFalseBut ss o (get_or (codes c) i 0)) → ((i : ℕ) → 0 ≤ i → i < s → IsFalseBut ss o (get_or (codes c) i 0)) → (l : ℕ) → Has (codes c) l → IsFalseBut ss o l
two_parts c ss o s late early l h =
    let r = found_at l (codes c) h in
    let within : r.0 < length c = rw length-map at r.1.0 in
    rw (← r.1.1) (elim (cases_lt r.0 s) [ inl a ↦ early r.0 (omega arith) a | inr a ↦ late r.0 a within ])
