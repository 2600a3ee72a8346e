-- Which arguments a rank asks for, and when it gives no array.
use Rattle.std.proofs.Common.{◌≡◌, ℕ, zero, suc, ◌<◌, ◌≤◌, Bool, true, false, List, [], ◌∷◌, length, map, sym, ap, ◌∙◌, subst, arith, ⊎_elim, Option, Some, None, Result, Ok, Err}
use Rattle.std.specs.Prelude.{Contains, IsErr, if◌then◌else◌}
use Rattle.std.proofs.lemmas.Bool.{cases_lt}
use Rattle.std.proofs.lemmas.Grind.{get_or_default_zero}
use Rattle.std.proofs.lemmas.List.{length-map}
use Rattle.smt_terms.specs.declared.sort.Sort.{Sort}
use Rattle.smt_terms.specs.declared.node.Op.{Op}
use Rattle.smt_terms.specs.declared.node.Node.{Node}
use Rattle.smt_terms.specs.declared.fault.MakeFault.{MakeFault}
use Rattle.smt_terms.specs.declared.fault.MakeFault.TheVariants.{WrongSort}
use Rattle.smt_terms.specs.Nodes.{node_at}
use Rattle.smt_terms.specs.Ranks.{Rank, Gives, Takes, allows, ranked, rank_of, is_array}
use Rattle.smt_terms.specs.Terms.{op_rank, sort_of, IsTermList}
use Rattle.smt_terms.proofs.Arities.{AtMost, too_many}
use Rattle.term_reach.specs.Reach.{arguments}
use Rattle.bv_rules.specs.Reading.{op_at, arg}
use Rattle.bv_rules.proofs.Known.{never}

-- a rank takes so many arguments at least
abbrev pub AtLeast : ℕ → Rank → Type 0
AtLeast zero r = Unit {0}
AtLeast (suc n) (Gives r) = ⊥
AtLeast (suc n) (Takes d next) = (s : Sort) → AtLeast n (next s)

-- a rank gives Bool or a word
abbrev pub GivesNoArray : Rank → Type 0
GivesNoArray (Gives r) = (s : Sort) → r ≡ Ok s → is_array s ≡ false
GivesNoArray (Takes d next) = (s : Sort) → GivesNoArray (next s)

no_result : {C : Type 0} (f : MakeFault) (s : Sort) → (let r : Result Sort MakeFault = Err f in r) ≡ Ok s → C
no_result f s e = let q : ⊥ = cc in absurd q

enough : (n : ℕ) (r : Rank) → AtLeast n r → (k : ℕ) (args : List (Option Sort)) (s : Sort) → ranked r k args ≡ Ok s → n ≤ length args
enough zero r h k args s e = omega arith
enough (suc n) (Gives r) h k args s e = absurd h
enough (suc n) (Takes d next) h k [] s e = no_result (WrongSort k) s e
enough (suc n) (Takes d next) h k (None ∷ args) s e = no_result (WrongSort k) s e
enough (suc n) (Takes d next) h k (Some p ∷ args) s e = go (allows d p) (λ q. enough n (next p) (h p) (suc k) args s q) e
  where
    go : (b : Bool) → (ranked (next p) (suc k) args ≡ Ok s → n ≤ length args) → (if b then ranked (next p) (suc k) args else Err (WrongSort k)) ≡ Ok s → suc n ≤ suc (length args)
    go true f q = let le = f q in omega (arith, le)
    go false f q = no_result (WrongSort k) s q

no_array : (r : Rank) → GivesNoArray r → (k : ℕ) (args : List (Option Sort)) (s : Sort) → ranked r k args ≡ Ok s → is_array s ≡ false
no_array (Gives r) h k [] s e = h s e
no_array (Gives r) h k (a ∷ args) s e = no_result (WrongSort k) s e
no_array (Takes d next) h k [] s e = no_result (WrongSort k) s e
no_array (Takes d next) h k (None ∷ args) s e = no_result (WrongSort k) s e
no_array (Takes d next) h k (Some p ∷ args) s e = go (allows d p) (λ q. no_array (next p) (h p) (suc k) args s q) e
  where
    go : (b : Bool) → (ranked (next p) (suc k) args ≡ Ok s → is_array s ≡ false) → (if b then ranked (next p) (suc k) args else Err (WrongSort k)) ≡ Ok s → is_array s ≡ false
    go true f q = f q
    go false f q = no_result (WrongSort k) s q

module _ (nodes : List Node) (list : IsTermList nodes) (t : ℕ) (lt : t < length nodes) (o : Op) (e : op_at nodes t ≡ o) where
  rank_is : op_rank o (map (sort_of nodes) (node_at nodes t).args) ≡ Ok (sort_of nodes t)
  rank_is = ap (λ p. op_rank p (map (sort_of nodes) (node_at nodes t).args)) (sym e) ∙ (list t lt).rank

  given : List (Option Sort)
  given = map Some (map (sort_of nodes) (node_at nodes t).args)

  given_long : length given ≡ length (arguments nodes t)
  unfolding given
  given_long = length-map (map (sort_of nodes) (node_at nodes t).args) Some ∙ length-map (node_at nodes t).args (sort_of nodes)

  -- so many arguments are there
  pub arg_in : (n k : ℕ) → AtLeast n (rank_of o) → k < n → Contains (arguments nodes t) (arg nodes k t)
  unfolding given
  arg_in n k h less =
      let le = enough n (rank_of o) h 0 given (sort_of nodes t) rank_is in
      let within : k < length (arguments nodes t) = omega (arith, le, less, given_long) in
      (k, within, get_or_default_zero (arguments nodes t) k (arg nodes k t) within)

  -- and no more
  pub arg_of : (n : ℕ) → AtMost n (rank_of o) → (a : ℕ) → Contains (arguments nodes t) a → (k : ℕ) × (k < n) × (arg nodes k t ≡ a)
  unfolding given
  arg_of n h a c = ⊎_elim
      (λ (less : n < length (arguments nodes t)). never (subst IsErr rank_is (too_many n (rank_of o) h 0 given (omega (arith, less, given_long)))))
      (λ (le : length (arguments nodes t) ≤ n). (c.0, (let lt = c.1 in omega (arith, lt, le)), sym (get_or_default_zero (arguments nodes t) c.0 a c.1) ∙ c.2))
      (cases_lt n (length (arguments nodes t)))

  pub plain_of : GivesNoArray (rank_of o) → is_array (sort_of nodes t) ≡ false
  plain_of h = no_array (rank_of o) h 0 (map Some (map (sort_of nodes) (node_at nodes t).args)) (sort_of nodes t) rank_is
