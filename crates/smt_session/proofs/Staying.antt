-- Bits and selectors stay where a log grows.
use Rattle.std.proofs.Common.{◌≡◌, ℕ, zero, suc, ◌+◌, ◌<◌, false, take, List, [], ◌∷◌, ◌++◌, length, get_or, Option, Some, None, refl, sym, ap, ◌∙◌, subst, append_assoc, append-nil, arith}
use Rattle.std.specs.Prelude.{map, IsSome, is_some, Contains}
use Rattle.std.specs.Option.{option_map}
use Rattle.std.proofs.lemmas.List.{take_more, map_push}
use Rattle.cnf_base.specs.Literals.{Literal}
use Rattle.cnf_base.proofs.Lists.{each_append}
use Rattle.cnf_base.proofs.Options.{some_value, IsSome-from}
use Rattle.smt_terms.specs.Bits.{bits_in}
use Rattle.scope_selectors.specs.declared.live.Live.{Live}
use Rattle.script_state.specs.States.{StateValue}
use Rattle.proof_log.specs.declared.entry.Entry.{Entry}
use Rattle.proof_log.specs.Faults.{MakesNoTerm}
use Rattle.proof_log.specs.Logs.{state_of, IsLog}
use Rattle.proof_log.specs.Meanings.{StaysLog}
use Rattle.proof_log.specs.Stored.{LogValue, Stands, IsPushed, selector_in, literal_of}
use Rattle.proof_log.proofs.Standing.{stands_over, some_literal}
use Rattle.proof_log.proofs.Staying.{log_stays}
use Rattle.smt_session.specs.Growing.{IsStepFor, AreStepsFor, GivesNoBits, Grows, HasBits, AreSelectors}

pub none_of_not : {A : Type 0} (o : Option A) → (IsSome o → ⊥) → o ≡ None
none_of_not None h = refl
none_of_not (Some x) h = absurd (h refl)

-- ---- growing

pub grows_none : (s : StateValue) (l : LogValue) → Stands s.terms.nodes l → Grows s l l
grows_none s l h = record { added = []; entries = sym (append-nil l.entries); each = tt; still = tt; bare = tt; stands = h }

pub grows_one : (s : StateValue) (old new : LogValue) (e : Entry) (p : ℕ) → IsStepFor s e → MakesNoTerm e → GivesNoBits e → IsPushed s.terms.nodes old new e p → Grows s old new
grows_one s old new e p step none bare h = record { added = e ∷ []; entries = h.entries; each = (step, tt); still = (none, tt); bare = (bare, tt); stands = h.stands }

pub grows_more : (s : StateValue) (a b c : LogValue) → Grows s a b → Grows s b c → Grows s a c
grows_more s a b c g h = record {
  added = g.added ++ h.added;
  entries = h.entries ∙ ap (λ x. x ++ h.added) g.entries ∙ append_assoc a.entries g.added h.added;
  each = each_append (IsStepFor s) g.added h.added g.each h.each;
  still = each_append MakesNoTerm g.added h.added g.still h.still;
  bare = each_append GivesNoBits g.added h.added g.bare h.bare;
  stands = h.stands;
}

-- ---- staying

grown : (s : StateValue) (old new : LogValue) (g : Grows s old new) → StaysLog s.terms.nodes old.entries g.added
grown s old new g = log_stays s.terms.nodes old.entries g.added (subst (IsLog s.terms.nodes) g.entries (stands_over s.terms.nodes new g.stands).steps)

pub bit_stays : (s : StateValue) (old new : LogValue) (t : ℕ) (row : List Literal) → Stands s.terms.nodes old → Grows s old new → bits_in old.bits t ≡ Some row → bits_in new.bits t ≡ Some row
bit_stays s old new t row h g e =
    let nodes = s.terms.nodes in
    let a = stands_over s.terms.nodes old h in
    let b = stands_over s.terms.nodes new g.stands in
    b.bits t ∙ ap (λ es. (state_of nodes es).bits t) g.entries ∙ (grown s old new g).bits t row (sym (a.bits t) ∙ e)

pub bits_stay : (s : StateValue) (old new : LogValue) (t : ℕ) → Stands s.terms.nodes old → Grows s old new → HasBits old t → HasBits new t
bits_stay s old new t h g has =
    let r = some_value (bits_in old.bits t) has in
    IsSome-from (bits_in new.bits t) r.0 (bit_stays s old new t r.0 h g r.1)

pub selector_stays : (s : StateValue) (old new : LogValue) (a : ℕ) (l : Literal) → Stands s.terms.nodes old → Grows s old new → selector_in old.selectors a ≡ Some l → selector_in new.selectors a ≡ Some l
selector_stays s old new a l h g e =
    let nodes = s.terms.nodes in
    let k = stands_over s.terms.nodes old h in
    let b = stands_over s.terms.nodes new g.stands in
    let r = some_literal _ l (sym (k.selectors a) ∙ e) in
    b.selectors a
    ∙ ap (λ es. literal_of ((state_of nodes es).selectors a)) g.entries
    ∙ ap literal_of ((grown s old new g).selectors a r.0 r.1)
    ∙ ap Some r.2

pub selectors_stay : (s : StateValue) (old new : LogValue) (live : List Live) (given : List Literal) → Stands s.terms.nodes old → Grows s old new → AreSelectors old live given → AreSelectors new live given
selectors_stay s old new [] [] h g e = refl
selectors_stay s old new [] (x ∷ given) h g e = let q : ⊥ = cc in absurd q
selectors_stay s old new (a ∷ live) [] h g e = let q : ⊥ = cc in absurd q
selectors_stay s old new (a ∷ live) (x ∷ given) h g e =
    let first : selector_in old.selectors a.assertion ≡ Some x = cc in
    let rest : map (λ (y : Live). selector_in old.selectors y.assertion) live ≡ map Some given = cc in
    let now : selector_in new.selectors a.assertion ≡ Some x = selector_stays s old new a.assertion x h g first in
    let more : map (λ (y : Live). selector_in new.selectors y.assertion) live ≡ map Some given = selectors_stay s old new live given h g rest in
    cc

-- one assertion more

pub selectors_push : (l : LogValue) (live : List Live) (a : Live) (given : List Literal) (x : Literal) → AreSelectors l live given → selector_in l.selectors a.assertion ≡ Some x → AreSelectors l (live ++ a ∷ []) (given ++ x ∷ [])
selectors_push l live a given x e here =
    map_push (λ (y : Live). selector_in l.selectors y.assertion) live a
    ∙ ap (λ r. r ++ selector_in l.selectors a.assertion ∷ []) e
    ∙ ap (λ o. map Some given ++ o ∷ []) here
    ∙ sym (map_push Some given x)

-- whose selector a given literal is
pub selector_of : (l : LogValue) (live : List Live) (given : List Literal) (x : Literal) (k : ℕ) → AreSelectors l live given → k < length given → get_or given k x ≡ x → (a : Live) × Contains live a × (selector_in l.selectors a.assertion ≡ Some x)
selector_of l [] [] x k e lt at = absurd (omega arith)
selector_of l [] (g ∷ given) x k e lt at = let q : ⊥ = cc in absurd q
selector_of l (a ∷ live) [] x k e lt at = absurd (omega arith)
selector_of l (a ∷ live) (g ∷ given) x zero e lt at =
    let first : selector_in l.selectors a.assertion ≡ Some g = cc in
    (a, (zero, omega arith, refl), first ∙ ap Some at)
selector_of l (a ∷ live) (g ∷ given) x (suc k) e lt at =
    let rest : map (λ (y : Live). selector_in l.selectors y.assertion) live ≡ map Some given = cc in
    let r = selector_of l live given x k rest (omega arith) at in
    (r.0, (suc r.1.0, omega (arith, r.1.1), r.1.2), r.2)

-- what look-ups tell
pub none_mapped : {A B : Type 0} (f : A → B) (r : Option A) (o : Option B) → option_map f r ≡ o → is_some r ≡ false → o ≡ None
none_mapped f None o e h = sym e
none_mapped f (Some x) o e h = let q : ⊥ = cc in absurd q

-- one assertion more has its selector
pub chosen_more : (s : StateValue) (mid new : LogValue) (live : List Live) (given more : List Literal) (k : ℕ) (a : Live) (x : Literal) → k < length live → a ≡ get_or live k a → Stands s.terms.nodes mid → Grows s mid new → AreSelectors mid (take k live) given → selector_in new.selectors a.assertion ≡ Some x → more ≡ given ++ x ∷ [] → AreSelectors new (take (k + 1) live) more
chosen_more s mid new live given more k a x lt at h g chosen here e =
    subst (AreSelectors new (take (k + 1) live)) (sym e)
    (subst (λ ys. AreSelectors new ys (given ++ x ∷ [])) (sym (take_more live k a lt))
    (selectors_push new (take k live) (get_or live k a) given x (selectors_stay s mid new (take k live) given h g chosen) (subst (λ (b : Live). selector_in new.selectors b.assertion ≡ Some x) at here)))

pub grown_steps : (s : StateValue) (old new : LogValue) → AreStepsFor s old.entries → Grows s old new → AreStepsFor s new.entries
grown_steps s old new each g = subst (AreStepsFor s) (sym g.entries) (each_append (IsStepFor s) old.entries g.added each g.each)
