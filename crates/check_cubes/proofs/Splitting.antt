-- The variables that split a check.
use Rattle.std.proofs.Common.{◌≡◌, ℕ, ◌^◌, Bool, true, false, List, [], ◌∷◌, ◌++◌, map, flat_map, take, Option, Some, None, refl, sym, ap, ◌∙◌, subst, append-nil}
use Rattle.std.specs.Prelude.{◌&&◌, ◌==◌, ◌<◌, if◌then◌else◌, is_some, length, All, Contains}
use Rattle.std.specs.List.Sorted.{IsPermutation, IsNonDecreasing}
use Rattle.std.proofs.lemmas.Bool.{and_parts}
use Rattle.std.specs.List.{IsDistinct}
use Rattle.std.proofs.lemmas.List.Elements.{All-from_recursion, recursion_from_All, All-take}
use Rattle.std.proofs.lemmas.List.Sorted.{IsPermutation-sym, Contains-permutation, All-permutation}
use Rattle.std.proofs.lemmas.Map.Keys.{IsDistinct-IsPermutation}
use Rattle.cnf_base.specs.Literals.{Literal}
use Rattle.cnf_base.proofs.Lists.{Contains-nil, Contains-first}
use Rattle.smt_terms.specs.declared.node.Node.{Node}
use Rattle.smt_terms.specs.Nodes.{node_at}
use Rattle.smt_terms.specs.Terms.{TermsValue, IsTermList, AreDifferent, AreTerms}
use Rattle.smt_terms.specs.Bits.{bits_in}
use Rattle.term_reach.specs.Reach.{arguments, IsReach}
use Rattle.term_reach.proofs.Rising.{AreApart, equal_flips, sorted_rises}
use Rattle.smt_build.proofs.Ways.{way_from_told, told_from_way}
use Rattle.cube_tree.specs.Cubes.{AreVariables}
use Rattle.script_state.specs.States.{StateValue, IsState, roots}
use Rattle.proof_log.specs.declared.entry.Entry.{Entry}
use Rattle.proof_log.specs.declared.entry.Entry.TheVariants as entry
use Rattle.proof_log.specs.Logs.{LogState, constant_width, state_of, start}
use Rattle.proof_log.specs.Stored.{LogValue, IsKept}
use Rattle.proof_log.proofs.Staying.{Holds-refl}
use Rattle.accepted_proof.specs.Searching.{Limits, Rise, is_reached, variables_of, leaf_variables, split_variables, cube_variables}
use Rattle.accepted_proof.proofs.Splitting.{rise_take, steps_rise}
use Rattle.check_cubes.specs.Searches.{declared_variables}
use Rattle.check_cubes.proofs.Rising.{member_owner, member_given, same_rising, rise_rises, part_rises, one_owner, rises_apart, parts_apart}
use Rattle.check_cubes.proofs.Drawn.{drawn}

-- where none may split, none does
pub no_variables : (limits : Limits) (s : StateValue) (nodes : List Node) (log : List Entry) → limits.cubes ≡ 0 → cube_variables limits s nodes log ≡ []
no_variables limits s nodes log none = ap (λ n. take n (split_variables (roots s) nodes log)) none

pub declared_none : (b : Bool) (o : Option (List Literal)) (old : List ℕ) → b ≡ false → old ≡ old ++ (if b then variables_of o else [])
declared_none b o old e = sym (append-nil old) ∙ ap (λ (x : Bool). old ++ (if x then variables_of o else [])) (sym e)

pub declared_bits : (b : Bool) (o : Option (List Literal)) (bits : List Literal) (old new : List ℕ) → b ≡ true → Some bits ≡ o → new ≡ old ++ map (λ (l : Literal). l.variable) bits → new ≡ old ++ (if b then variables_of o else [])
declared_bits b o bits old new e is more = more ∙ ap (λ x. old ++ variables_of x) is ∙ ap (λ (x : Bool). old ++ (if x then variables_of o else [])) (sym e)

pub declared_without : (b : Bool) (o : Option (List Literal)) (old : List ℕ) → ◌≡◌ {A = Option (List Literal)} None o → old ≡ old ++ (if b then variables_of o else [])
declared_without true o old is = sym (append-nil old) ∙ ap (λ x. old ++ variables_of x) is
declared_without false o old is = sym (append-nil old)

-- what a reached term gives is what its step gives
same_choice : (b r : Bool) (o q : Option (List Literal)) → r ≡ true → o ≡ q → (if b && r then variables_of q else []) ≡ (if b then variables_of o else [])
same_choice true r o q e is = ap (λ (x : Bool). if x then variables_of q else []) e ∙ ap variables_of (sym is)
same_choice false r o q e is = refl

chosen_some : (b : Bool) (o : Option (List Literal)) (x : ℕ) → Contains (if b then variables_of o else []) x → (b ≡ true) × (bits : List Literal) × (o ≡ Some bits)
chosen_some true (Some bits) x c = (refl, bits, refl)
chosen_some true None x c = absurd (Contains-nil x c)
chosen_some false o x c = absurd (Contains-nil x c)

chosen_so : (b : Bool) (xs : List ℕ) (x : ℕ) → Contains (if b then xs else []) x → b ≡ true
chosen_so true xs x c = refl
chosen_so false xs x c = absurd (Contains-nil x c)

module _ (nodes : List Node) (log : LogValue) (kept : IsKept nodes log) where
  abbrev left : LogState
  left = state_of nodes log.entries

  all_rise : (from : List ℕ) → Rise 2 left.next (split_variables from nodes log.entries)
  all_rise from = steps_rise from nodes left start log.entries kept.steps (Holds-refl left)

  -- they rise, below the next variable of the log
  pub variables_rise : (limits : Limits) (s : StateValue) (variables : List ℕ) → variables ≡ cube_variables limits s nodes log.entries → Rise 2 log.next variables
  variables_rise limits s variables e =
      subst (λ n. Rise 2 n variables) (sym kept.next)
      (subst (Rise 2 left.next) (sym e) (rise_take 2 left.next limits.cubes (split_variables (roots s) nodes log.entries) (all_rise (roots s))))

  module _ (list : IsTermList nodes) (different : AreDifferent nodes) (from reached : List ℕ) (held : All (λ t. t < length nodes) from) (reach : IsReach (arguments nodes) from reached) where
    abbrev own : ℕ → List ℕ
    own = declared_variables nodes log.bits

    abbrev drew : Entry → List ℕ
    drew = leaf_variables from nodes left

    own_drawn : (t : ℕ) → Contains reached t → drew (entry.Leaf t) ≡ own t
    own_drawn t c = same_choice (is_some (constant_width (node_at nodes t).op)) (is_reached from nodes t) (bits_in log.bits t) (left.bits t) (told_from_way nodes list from t held (reach.only t c)) (kept.bits t)

    -- its step is in the log
    own_step : (t x : ℕ) → Contains (own t) x → Contains log.entries (entry.Leaf t)
    own_step t x c =
        let h = chosen_some (is_some (constant_width (node_at nodes t).op)) (bits_in log.bits t) x c in
        drawn nodes list different t h.0 log.entries h.1 kept.steps (sym (kept.bits t) ∙ h.2)

    step_variable : (t x : ℕ) → Contains reached t → Contains (own t) x → Contains (drew (entry.Leaf t)) x
    step_variable t x c h = subst (λ xs. Contains xs x) (sym (own_drawn t c)) h

    all_found : (x : ℕ) → Contains (flat_map own reached) x → Contains (split_variables from nodes log.entries) x
    all_found x c =
        let h = member_owner own reached x c in
        member_given drew log.entries (entry.Leaf h.0) x (own_step h.0 x h.2) (step_variable h.0 x h.1 h.2)

    step_found : (e : Entry) (x : ℕ) → Contains (drew e) x → Contains (flat_map own reached) x
    step_found (entry.Leaf t) x c =
        let both = chosen_so (is_some (constant_width (node_at nodes t).op) && is_reached from nodes t) (variables_of (left.bits t)) x c in
        let told = (and_parts (is_some (constant_width (node_at nodes t).op)) (is_reached from nodes t) both).1 in
        let among : Contains reached t = reach.all t (way_from_told nodes list from t told) in
        member_given own reached t x among (subst (λ xs. Contains xs x) (own_drawn t among) c)
    step_found e x c = absurd (Contains-nil x c)

    none_left : (x : ℕ) → Contains (split_variables from nodes log.entries) x → Contains (flat_map own reached) x
    none_left x c = let h = member_owner drew log.entries x c in step_found h.0 x h.2

    own_apart : (t : ℕ) → Contains reached t → AreApart (own t)
    unfolding IsDistinct
    own_apart t c = go (own t) refl where
      go : (xs : List ℕ) → own t ≡ xs → AreApart xs
      go [] e = tt
      go (x ∷ xs) e =
          let there : Contains log.entries (entry.Leaf t) = own_step t x (subst (λ ys. Contains ys x) (sym e) (Contains-first x xs)) in
          subst AreApart (own_drawn t c ∙ e) (rises_apart (drew (entry.Leaf t)) (part_rises drew 2 left.next log.entries (entry.Leaf t) (all_rise from) there))

    one_term : (t u x : ℕ) → Contains reached t → Contains reached u → Contains (own t) x → Contains (own u) x → t ≡ u
    one_term t u x ct cu xt xu =
        let e : entry.Leaf t ≡ entry.Leaf u = one_owner drew 2 left.next log.entries (entry.Leaf t) (entry.Leaf u) x (all_rise from) (own_step t x xt) (own_step u x xu) (step_variable t x ct xt) (step_variable u x cu xu) in
        cc

    -- sorted, they are those of the log
    pub sorted_split : (sorted : List ℕ) → IsPermutation (flat_map own reached) sorted → IsNonDecreasing sorted → sorted ≡ split_variables from nodes log.entries
    sorted_split sorted moved order =
        same_rising sorted (split_variables from nodes log.entries)
        (sorted_rises sorted order (IsDistinct-IsPermutation (λ x y. x == y) equal_flips (flat_map own reached) sorted moved (parts_apart own reached reach.once own_apart one_term)))
        (rise_rises 2 left.next (split_variables from nodes log.entries) (all_rise from))
        (λ x c. all_found x (Contains-permutation sorted (flat_map own reached) x (IsPermutation-sym (flat_map own reached) sorted moved) c))
        (λ x c. Contains-permutation (flat_map own reached) sorted x moved (none_left x c))

  -- what was found, sorted and cut, splits the check
  pub cut_split : (limits : Limits) (s : StateValue) (terms : TermsValue) (from reached found sorted cut : List ℕ) → IsState s → nodes ≡ s.terms.nodes → terms ≡ s.terms → AreTerms terms → from ≡ roots s → All (λ t. t < length s.terms.nodes) (roots s)
      → IsReach (arguments terms.nodes) from reached → found ≡ flat_map (declared_variables terms.nodes log.bits) reached → IsPermutation found sorted → IsNonDecreasing sorted → cut ≡ take limits.cubes sorted
      → cut ≡ cube_variables limits s nodes log.entries
  cut_split limits s terms from reached found sorted cut is same e apart are held reach is_found moved order is_cut =
      let own : terms.nodes ≡ nodes = ap (λ (v : TermsValue). v.nodes) e ∙ sym same in
      let list : IsTermList nodes = subst IsTermList (sym same) is.terms in
      let within : All (λ t. t < length nodes) (roots s) = subst (λ (ns : List Node). All (λ t. t < length ns) (roots s)) (sym same) held in
      let walk : IsReach (arguments nodes) (roots s) reached = subst (λ (ns : List Node). IsReach (arguments ns) (roots s) reached) own (subst (λ ts. IsReach (arguments terms.nodes) ts reached) are reach) in
      let all : flat_map (declared_variables nodes log.bits) reached ≡ found = ap (λ (ns : List Node). flat_map (declared_variables ns log.bits) reached) (sym own) ∙ sym is_found in
      is_cut ∙ ap (take limits.cubes) (sorted_split list (subst AreDifferent own apart.different) (roots s) reached within walk sorted (subst (λ vs. IsPermutation vs sorted) (sym all) moved) order)

-- sorting and cutting keeps them variables
pub still_variables : (found sorted cut : List ℕ) (n : ℕ) → AreVariables found → IsPermutation found sorted → cut ≡ take n sorted → AreVariables cut
still_variables found sorted cut n each moved is =
    let P = λ (x : ℕ). (0 < x) × (x < 2 ^ 63) in
    subst AreVariables (sym is) (recursion_from_All P (take n sorted) (All-take P n sorted (All-permutation P found sorted moved (All-from_recursion P found each))))
