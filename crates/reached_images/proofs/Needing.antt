-- The uses of steps, the terms that they need, and steps and terms that are undone.
use Rattle.std.proofs.Common.{◌≡◌, ℕ, zero, suc, ◌-◌, ◌<◌, ◌≤◌, Bool, true, false, List, [], ◌∷◌, ◌++◌, length, length-append, get_or, Some, refl, sym, ap, ◌∙◌, subst, arith, inl, inr, ⊎_elim}
use Rattle.std.specs.Prelude.{◌==◌, not, take, if◌then◌else◌, Contains, slice_get}
use Rattle.std.proofs.Math.Seq.{take-append_seam}
use Rattle.std.proofs.lemmas.Option.{slice_get-get_or, slice_get_within}
use Rattle.std.proofs.lemmas.Bool.{cases_lt}
use Rattle.std.proofs.lemmas.List.Elements.{Contains-append_left, Contains-append_right, filter_map-append}
use Rattle.smt_terms.specs.declared.node.Node.{Node}
use Rattle.smt_terms.specs.Bits.{TermBits}
use Rattle.smt_terms.specs.Terms.{TermsValue, cut_at}
use Rattle.smt_terms.proofs.Growing.{node_longer}
use Rattle.bv_rules.specs.declared.rule.Rule.TheVariants.{Inner}
use Rattle.bv_rules.proofs.Known.{never}
use Rattle.bv_rewrite.specs.declared.simplifying.Use.{Use}
use Rattle.bv_rewrite.specs.Simplifying.{first_use, AreNeeded, AreOfTable, IsGrown, IsNeeded}
use Rattle.reached_images.specs.declared.plan.Planned.{Planned}
use Rattle.reached_images.specs.Plans.{is_known, uses_of, with_step, AreAmong, AreInnerFirst, IsLater}
use Rattle.reached_images.proofs.Knowing.{later_itself, later_on}

-- ---- the uses of more steps

pub uses_later : (old new : List Planned) → IsLater old new → AreAmong (uses_of old) (uses_of new)
uses_later old new l s c =
    subst (λ x. Contains (uses_of x) s) (sym l.1)
    (subst (λ x. Contains x s) (sym (filter_map-append (λ (p : Planned). p.used) old l.0)) (Contains-append_left (uses_of old) (uses_of l.0) s c))

use_last : (steps : List Planned) (t : ℕ) (s : Use) → Contains (uses_of (steps ++ record { term = t; used = Some s } ∷ [])) s
use_last steps t s =
    let p : Planned = record { term = t; used = Some s } in
    subst (λ x. Contains x s) (sym (filter_map-append (λ (p : Planned). p.used) steps (p ∷ []))) (Contains-append_right (uses_of steps) (s ∷ []) s (0, omega arith, refl))

pub later_with : (bits : List TermBits) (steps : List Planned) (p : Planned) → IsLater steps (with_step bits steps p)
later_with bits steps p = go (is_known bits steps p.term) where
  go : (b : Bool) → IsLater steps (if b then steps else steps ++ p ∷ [])
  go true = later_itself steps
  go false = (p ∷ [], refl)

pub later_step : (bits : List TermBits) (old plan new : List Planned) (p : Planned) → IsLater old plan → new ≡ with_step bits plan p → IsLater old new
later_step bits old plan new p l e = subst (IsLater old) (sym e) (later_on old plan (with_step bits plan p) l (later_with bits plan p))

-- a step that was added
open_of : (x b : Bool) → b ≡ not x → b ≡ true → x ≡ false
open_of true b e h = never (sym e ∙ h)
open_of false b e h = refl

pub added_is : (bits : List TermBits) (plan new : List Planned) (p : Planned) (b : Bool) → new ≡ with_step bits plan p → b ≡ not (is_known bits plan p.term) → b ≡ true → new ≡ plan ++ p ∷ []
added_is bits plan new p b e n h = e ∙ ap (λ x. if x then plan else plan ++ p ∷ []) (open_of (is_known bits plan p.term) b n h)

-- ---- a way of uses, from its end

-- the uses from a place on are among those of the plan
abbrev pub AreUsedFrom : List Use → List Planned → ℕ → Type 0
AreUsedFrom uses plan i = (k : ℕ) (s : Use) → i ≤ k → slice_get uses k ≡ Some s → Contains (uses_of plan) s

pub used_begun : (uses : List Use) (plan : List Planned) → AreUsedFrom uses plan (length uses)
used_begun uses plan k s le e = let lt = slice_get_within uses k s e in absurd (omega (arith, le, lt))

pub used_step : (bits : List TermBits) (uses : List Use) (plan new : List Planned) (i : ℕ) (d : Use) (from : ℕ) (b : Bool) → 0 < i → i ≤ length uses → AreUsedFrom uses plan i
    → new ≡ with_step bits plan (record { term = from; used = Some (get_or uses (i - 1) d) }) → b ≡ not (is_known bits plan from) → b ≡ true → AreUsedFrom uses new (i - 1)
used_step bits uses plan new i d from b some le h e n added k s low at =
    let u = get_or uses (i - 1) d in
    let p : Planned = record { term = from; used = Some u } in
    let is : new ≡ plan ++ p ∷ [] = added_is bits plan new p b e n added in
    subst (λ x. Contains (uses_of x) s) (sym is)
    (⊎_elim
    (λ less. (let same : k ≡ i - 1 = omega (arith, some, low, less) in
    let own : Some u ≡ Some s = sym (slice_get-get_or uses (i - 1) d (omega (arith, some, le))) ∙ ap (slice_get uses) (sym same) ∙ at in
    let q : u ≡ s = cc in
    subst (Contains (uses_of (plan ++ p ∷ []))) q (use_last plan from u)))
    (λ more. uses_later plan (plan ++ p ∷ []) (p ∷ [], refl) s (h k s more at))
    (cases_lt k i))

pub used_ended : (uses : List Use) (plan : List Planned) (i : ℕ) → i ≤ 0 → AreUsedFrom uses plan i → AreAmong uses (uses_of plan)
used_ended uses plan i none h s c = h c.0 s (omega (arith, none)) (slice_get-get_or uses c.0 s c.1 ∙ ap Some c.2)

-- ---- the rule on arguments

table_at : (uses : List Use) (k : ℕ) (s : Use) → AreOfTable uses → slice_get uses k ≡ Some s → s.rule ≡ Inner → ⊥
table_at [] k s h e = let z : ⊥ = cc in absurd z
table_at (x ∷ xs) zero s h e = let q : x ≡ s = cc in subst (λ (y : Use). y.rule ≡ Inner → ⊥) q h.0
table_at (x ∷ xs) (suc k) s h e = table_at xs k s h.1 e

-- only the first of the uses of a simplified term may be of it
pub inner_first : (t u : ℕ) (rest uses : List Use) → uses ≡ first_use t u ++ rest → AreOfTable rest → AreInnerFirst uses
inner_first t u rest uses e h k s at = go (t == u) (ap (λ l. slice_get l (suc k)) (sym e) ∙ at) where
  go : (b : Bool) → slice_get ((if b then [] else record { rule = Inner; to = u } ∷ []) ++ rest) (suc k) ≡ Some s → s.rule ≡ Inner → ⊥
  go true f = table_at rest (suc k) s h f
  go false f = table_at rest k s h f

pub none_first : AreInnerFirst []
none_first k s e = let z : ⊥ = cc in absurd z

-- ---- terms that are needed

pub none_new : (nodes : List Node) (uses : List Use) → AreNeeded (length nodes) nodes uses
none_new nodes uses k le lt = absurd (omega (arith, le, lt))

pub needed_among : (count : ℕ) (nodes : List Node) (uses all : List Use) → AreAmong uses all → AreNeeded count nodes uses → AreNeeded count nodes all
needed_among count nodes uses all among h k le lt = let n = h k le lt in record { by = n.by; among = among n.by n.among; held = n.held; is = n.is }

needed_on : (v w : TermsValue) (uses all : List Use) (k : ℕ) → IsGrown v w → AreAmong uses all → IsNeeded v.nodes uses k → IsNeeded w.nodes all k
needed_on v w uses all k g among n = subst (λ l. IsNeeded l all k) (sym g.nodes) (record {
  by = n.by;
  among = among n.by n.among;
  held = let l = length-append v.nodes g.more in let x = n.held in omega (arith, l, x);
  is = ⊎_elim inl (λ c. inr (subst (λ (m : Node). Contains m.args k) (sym (node_longer v.nodes g.more n.by.to n.held)) c)) n.is;
})

pub needed_next : (v w x : TermsValue) (plan new : List Planned) → IsGrown w x → IsLater plan new → AreNeeded (length v.nodes) w.nodes (uses_of plan) → AreNeeded (length w.nodes) x.nodes (uses_of new) → AreNeeded (length v.nodes) x.nodes (uses_of new)
needed_next v w x plan new g l h n k le lt = ⊎_elim
    (λ less. needed_on w x (uses_of plan) (uses_of new) k g (uses_later plan new l) (h k le less))
    (λ more. n k more lt)
    (cases_lt k (length w.nodes))

-- ---- steps and terms that are undone

pub plan_undone : (old new cut : List Planned) (n : ℕ) → IsLater old new → n ≡ length old → cut ≡ take n new → cut ≡ old
plan_undone old new cut n l e c = c ∙ (λ i. take (e i) (l.1 i)) ∙ take-append_seam old l.0

pub terms_undone : (v w cut : TermsValue) (n : ℕ) → IsGrown v w → n ≡ length v.nodes → cut ≡ cut_at w n → cut ≡ v
terms_undone v w cut n g e c =
    let nodes : take n w.nodes ≡ v.nodes = (λ i. take (e i) (g.nodes i)) ∙ take-append_seam v.nodes g.more in
    let limit : w.limit ≡ v.limit = g.limit in
    c ∙ (λ i. record { nodes = nodes i; limit = limit i })
