-- What a check is given: the selectors of live assertions, and the bits of assumptions.
use Rattle.std.proofs.Common.{◌≡◌, ℕ, zero, suc, ◌+◌, ◌<◌, Bool, true, List, [], ◌∷◌, ◌++◌, length, get_or, take, Option, Some, refl, sym, ap, ◌∙◌, subst, arith}
use Rattle.std.specs.Prelude.{map, All, Contains}
use Rattle.std.specs.List.{AllByRecursion}
use Rattle.std.proofs.lemmas.List.{take_more, map_push}
use Rattle.cnf_base.specs.Literals.{Literal}
use Rattle.cnf_base.specs.Clauses.{lit_true}
use Rattle.cnf_base.specs.Assignments.{AreBelow}
use Rattle.cnf_base.proofs.Lists.{each_append, each_front, each_behind}
use Rattle.cnf_base.proofs.Options.{some_value}
use Rattle.smt_terms.specs.declared.sort.Sort.{Sort}
use Rattle.smt_terms.specs.declared.sort.Sort.TheVariants as sort
use Rattle.smt_terms.specs.declared.node.Node.{Node}
use Rattle.smt_terms.specs.Bits.{bits_in}
use Rattle.smt_terms.specs.Terms.{IsTermList, sort_of}
use Rattle.scope_selectors.specs.declared.live.Live.{Live}
use Rattle.script_state.specs.declared.answer.Asked.{Asked}
use Rattle.script_state.specs.States.{StateValue, IsState, IsAssumption, assumptions, roots}
use Rattle.proof_log.specs.Logs.{plain_width, state_of}
use Rattle.proof_log.specs.Stored.{LogValue, Stands, selector_in}
use Rattle.proof_log.proofs.Ordered.{log_is_ordered}
use Rattle.proof_log.proofs.Settled.{stands_settled}
use Rattle.proof_log.proofs.Standing.{stands_over, some_literal}
use Rattle.smt_session.specs.Growing.{Grows, HasBit, HasBits, AreBits, AreGiven, AreSelectors}
use Rattle.written_models.specs.Found.{IsGiven}
use Rattle.smt_session.proofs.Roots.{roots_assumed}
use Rattle.smt_session.proofs.Staying.{bit_stays, bits_stay, selectors_stay}

-- ---- bits

one_bit : (s : Sort) (b : List Literal) → s ≡ sort.Bool → plain_width s ≡ Some (length b) → (x : Literal) × (b ≡ x ∷ [])
one_bit s b e w = go b (width_is (length b) (sym (ap plain_width e) ∙ w))
  where
    width_is : (n : ℕ) → Some 1 ≡ Some n → n ≡ 1
    width_is n q = cc

    go : (b : List Literal) → length b ≡ 1 → (x : Literal) × (b ≡ x ∷ [])
    go [] q = absurd (omega (arith, q))
    go (x ∷ []) q = (x, refl)
    go (x ∷ y ∷ b) q = absurd (omega (arith, q))

-- an assumption that has bits has one
assumed_bit : (s : StateValue) (l : LogValue) (a : Asked) → IsState s → Stands s.terms.nodes l → IsAssumption s.terms.nodes s.symbols.live a → HasBits l a.term → HasBit l a.term
assumed_bit s l a is h own has =
    let r = some_value (bits_in l.bits a.term) has in
    let settled = (stands_settled s.terms.nodes l is.terms h).bits a.term r.0 r.1 in
    let one = one_bit (sort_of s.terms.nodes a.term) r.0 own.truth settled.1 in
    (one.0, r.1 ∙ ap Some one.1)

pub assumed_bits : (s : StateValue) (old new : LogValue) → IsState s → Stands s.terms.nodes old → Grows s old new → All (HasBits old) (roots s) → All (λ (a : Asked). HasBit new a.term) (assumptions s)
assumed_bits s old new is h g has = λ k d lt.
    assumed_bit s new (get_or (assumptions s) k d) is g.stands (is.assumed k d lt) (bits_stay s old new (get_or (assumptions s) k d).term h g (roots_assumed (HasBits old) s has k d lt))

abbrev one : Literal → Option (List Literal)
one l = Some (l ∷ [])

pub bits_more : (l : LogValue) (asked : List Asked) (bits more : List Literal) (k : ℕ) (a : Asked) (x : Literal) → k < length asked → a ≡ get_or asked k a → AreBits l (take k asked) bits → bits_in l.bits a.term ≡ Some (x ∷ []) → more ≡ bits ++ x ∷ [] → AreBits l (take (k + 1) asked) more
bits_more l asked bits more k a x lt at h here e =
    ap (map (λ (b : Asked). bits_in l.bits b.term)) (take_more asked k a lt)
    ∙ map_push (λ (b : Asked). bits_in l.bits b.term) (take k asked) (get_or asked k a)
    ∙ ap (λ r. r ++ bits_in l.bits (get_or asked k a).term ∷ []) h
    ∙ ap (λ (b : Asked). map one bits ++ bits_in l.bits b.term ∷ []) (sym at)
    ∙ ap (λ o. map one bits ++ o ∷ []) here
    ∙ sym (map_push one bits x)
    ∙ ap (map one) (sym e)

-- whose bit a given literal is
pub bit_of : (l : LogValue) (asked : List Asked) (given : List Literal) (x : Literal) (k : ℕ) → AreBits l asked given → k < length given → get_or given k x ≡ x → (a : Asked) × Contains asked a × (bits_in l.bits a.term ≡ Some (x ∷ []))
bit_of l [] [] x k e lt at = absurd (omega arith)
bit_of l [] (g ∷ given) x k e lt at = let q : ⊥ = cc in absurd q
bit_of l (a ∷ asked) [] x k e lt at = absurd (omega arith)
bit_of l (a ∷ asked) (g ∷ given) x zero e lt at =
    let first : bits_in l.bits a.term ≡ Some (g ∷ []) = cc in
    (a, (zero, omega arith, refl), first ∙ ap one at)
bit_of l (a ∷ asked) (g ∷ given) x (suc k) e lt at =
    let rest : map (λ (y : Asked). bits_in l.bits y.term) asked ≡ map one given = cc in
    let r = bit_of l asked given x k rest (omega arith) at in
    (r.0, (suc r.1.0, omega (arith, r.1.1), r.1.2), r.2)

-- ---- what is given

-- every selector is of a variable that there is
pub selector_below : (nodes : List Node) (l : LogValue) (a : ℕ) (s : Literal) → IsTermList nodes → Stands nodes l → selector_in l.selectors a ≡ Some s → s.variable < l.next
selector_below nodes l a s listed h e =
    let k = stands_over nodes l h in
    let r = some_literal _ s (sym (k.selectors a) ∙ e) in
    let lt = (log_is_ordered nodes l.entries listed k.steps).selectors a r.0 r.1 in
    subst (λ n. s.variable < n) (sym k.next) (subst (λ (x : Literal). x.variable < (state_of nodes l.entries).next) r.2 lt.1)

pub selectors_below : (nodes : List Node) (l : LogValue) (live : List Live) (given : List Literal) → IsTermList nodes → Stands nodes l → AreSelectors l live given → AreBelow l.next given
selectors_below nodes l [] [] listed h e = tt
selectors_below nodes l [] (g ∷ given) listed h e = let q : ⊥ = cc in absurd q
selectors_below nodes l (a ∷ live) [] listed h e = let q : ⊥ = cc in absurd q
selectors_below nodes l (a ∷ live) (g ∷ given) listed h e =
    let first : selector_in l.selectors a.assertion ≡ Some g = cc in
    let rest : map (λ (x : Live). selector_in l.selectors x.assertion) live ≡ map Some given = cc in
    (selector_below nodes l a.assertion g listed h first, selectors_below nodes l live given listed h rest)

bits_below : (nodes : List Node) (l : LogValue) (asked : List Asked) (bits : List Literal) → IsTermList nodes → Stands nodes l → AreBits l asked bits → AreBelow l.next bits
bits_below nodes l [] [] listed h e = tt
bits_below nodes l [] (b ∷ bits) listed h e = let q : ⊥ = cc in absurd q
bits_below nodes l (a ∷ asked) [] listed h e = let q : ⊥ = cc in absurd q
bits_below nodes l (a ∷ asked) (b ∷ bits) listed h e =
    let first : bits_in l.bits a.term ≡ Some (b ∷ []) = cc in
    let rest : map (λ (y : Asked). bits_in l.bits y.term) asked ≡ map one bits = cc in
    (((stands_settled nodes l listed h).bits a.term (b ∷ []) first).2.0, bits_below nodes l asked bits listed h rest)

pub given_below : (s : StateValue) (l : LogValue) (given : List Literal) → IsTermList s.terms.nodes → Stands s.terms.nodes l → AreGiven s l given → AreBelow l.next given
given_below s l given listed h g =
    subst (AreBelow l.next) (sym g.all)
    (each_append (λ (x : Literal). x.variable < l.next) g.selectors g.bits
    (selectors_below s.terms.nodes l s.scopes.live g.selectors listed h g.chosen)
    (bits_below s.terms.nodes l (assumptions s) g.bits listed h g.assumed))

assumed_stay : (s : StateValue) (old new : LogValue) (asked : List Asked) (bits : List Literal) → Stands s.terms.nodes old → Grows s old new → AreBits old asked bits → AreBits new asked bits
assumed_stay s old new [] [] h g e = refl
assumed_stay s old new [] (b ∷ bits) h g e = let q : ⊥ = cc in absurd q
assumed_stay s old new (a ∷ asked) [] h g e = let q : ⊥ = cc in absurd q
assumed_stay s old new (a ∷ asked) (b ∷ bits) h g e =
    let first : bits_in old.bits a.term ≡ Some (b ∷ []) = cc in
    let rest : map (λ (y : Asked). bits_in old.bits y.term) asked ≡ map one bits = cc in
    let now : bits_in new.bits a.term ≡ Some (b ∷ []) = bit_stays s old new a.term (b ∷ []) h g first in
    let more : map (λ (y : Asked). bits_in new.bits y.term) asked ≡ map one bits = assumed_stay s old new asked bits h g rest in
    cc

-- what is given stays so where a log grows
pub given_stays : (s : StateValue) (old new : LogValue) (given : List Literal) → Stands s.terms.nodes old → Grows s old new → AreGiven s old given → AreGiven s new given
given_stays s old new given h g e = record {
  selectors = e.selectors;
  bits = e.bits;
  all = e.all;
  chosen = selectors_stay s old new s.scopes.live e.selectors h g e.chosen;
  assumed = assumed_stay s old new (assumptions s) e.bits h g e.assumed;
}

-- where the given literals are true
pub selectors_true : (s : StateValue) (l : LogValue) (v : ℕ → Bool) (given : List Literal) (g : AreGiven s l given) → AllByRecursion (λ x. lit_true v x ≡ true) given → AllByRecursion (λ x. lit_true v x ≡ true) g.selectors
selectors_true s l v given g h = each_front (λ x. lit_true v x ≡ true) g.selectors g.bits (subst (AllByRecursion (λ x. lit_true v x ≡ true)) g.all h)

true_each : (l : LogValue) (v : ℕ → Bool) (asked : List Asked) (bits : List Literal) → AreBits l asked bits → AllByRecursion (λ x. lit_true v x ≡ true) bits → AllByRecursion (IsGiven l v) asked
true_each l v [] bits e h = tt
true_each l v (a ∷ asked) [] e h = let q : ⊥ = cc in absurd q
true_each l v (a ∷ asked) (b ∷ bits) e h =
    let first : bits_in l.bits a.term ≡ Some (b ∷ []) = cc in
    let rest : map (λ (y : Asked). bits_in l.bits y.term) asked ≡ map one bits = cc in
    (record { bit = b; bits = first; holds = h.0 }, true_each l v asked bits rest h.1)

pub true_bits : (s : StateValue) (l : LogValue) (v : ℕ → Bool) (given : List Literal) → AreGiven s l given → AllByRecursion (λ x. lit_true v x ≡ true) given → AllByRecursion (IsGiven l v) (assumptions s)
true_bits s l v given g h =
    true_each l v (assumptions s) g.bits g.assumed (each_behind (λ x. lit_true v x ≡ true) g.selectors g.bits (subst (AllByRecursion (λ x. lit_true v x ≡ true)) g.all h))
