-- Putting nodes one after the other, until one is refused.
use Rattle.std.proofs.Common.{◌≡◌, ℕ, ◌<◌, ◌≤◌, Bool, true, false, List, [], ◌∷◌, ◌++◌, length, length-append, Option, Some, None, Result, Ok, Err, refl, sym, ap, ◌∙◌, subst, ⊎_elim, arith}
use Rattle.std.specs.Prelude.{nat_lt, if◌then◌else◌, position, take}
use Rattle.std.proofs.Math.Seq.{take-append_seam}
use Rattle.std.proofs.lemmas.Bool.{lt-ltb, cases_lt}
use Rattle.smt_terms.specs.declared.sort.Sort.{Sort}
use Rattle.smt_terms.specs.declared.node.Op.{Op}
use Rattle.smt_terms.specs.declared.node.Node.{Node}
use Rattle.smt_terms.specs.declared.fault.MakeFault.{MakeFault}
use Rattle.smt_terms.specs.declared.fault.MakeFault.TheVariants.{TermLimit}
use Rattle.smt_terms.specs.declared.fault.MakeError.{MakeError}
use Rattle.smt_terms.specs.declared.fault.MakeError.TheVariants.{NoMemory, Fault}
use Rattle.smt_terms.specs.Same.{same_node}
use Rattle.smt_terms.specs.Terms.{TermsValue, node_sort, declaration_of, Agrees, make, Makes, with_node as pushed_node, cut_at}
use Rattle.theory_terms.specs.Shapes.{term_of}
use Rattle.array_watches.specs.Needed.{or_next, with_new, with_node}
use Rattle.array_watches.specs.Making.{value_of, Extends, IsPut, IsRefused, IsUnmade}
use Rattle.array_watches.proofs.Growing.{IsLonger, long_count, node_long, more_terms, made_extends}

-- an operator that names no declaration agrees with all terms
pub unnamed_agrees : (nodes : List Node) (op : Op) → declaration_of op ≡ None → Agrees nodes op
unnamed_agrees nodes op none t d e f = let z : None ≡ Some d = sym none ∙ f in let y : ⊥ = cc in absurd y

pair_of : (a b : ℕ) (v w : TermsValue) → (let r : Result (ℕ × TermsValue) MakeFault = Ok (a, v) in r) ≡ Ok (b, w) → (a ≡ b) × (v ≡ w)
pair_of a b v w e = let q : (let p : ℕ × TermsValue = (a, v) in p) ≡ (b, w) = cc in (ap (λ p. p.0) q, ap (λ p. p.1) q)

module _ (v w : TermsValue) (n : Node) where
  abbrev Numbered : Option ℕ → Bool → Result (ℕ × TermsValue) MakeFault
  Numbered (Some t) b = Ok (t, v)
  Numbered None b = if b then Ok (length v.nodes, pushed_node v n) else Err TermLimit

  not_below : nat_lt (length v.nodes) v.limit ≡ false → v.limit < length (v.nodes ++ n ∷ [])
  not_below e =
      let long = length-append v.nodes (n ∷ []) in
      let le : v.limit ≤ length v.nodes = above (length v.nodes) v.limit e in
      omega (arith, long, le)
    where
      above : (a b : ℕ) → nat_lt a b ≡ false → b ≤ a
      above a b e = ⊎_elim (λ (lt : a < b). let q : true ≡ false = sym (lt-ltb a b lt) ∙ e in let r : ⊥ = cc in absurd r) (λ le. le) (cases_lt a b)

  put_ok : (t : ℕ) (o : Option ℕ) (b : Bool) → Numbered o b ≡ Ok (t, w) → (t ≡ or_next (length v.nodes) o) × (w ≡ value_of (with_new v.nodes n o) v.limit)
  put_ok t (Some u) b e = let p = pair_of u t v w e in (sym p.0, sym p.1)
  put_ok t None true e = let p = pair_of (length v.nodes) t (pushed_node v n) w e in (sym p.0, sym p.1)
  put_ok t None false e = let f : ⊥ = cc in absurd f

  put_err : (f : MakeFault) (o : Option ℕ) (b : Bool) → nat_lt (length v.nodes) v.limit ≡ b → Numbered o b ≡ Err f → (f ≡ TermLimit) × (v.limit < length (with_new v.nodes n o))
  put_err f (Some u) b q e = let g : ⊥ = cc in absurd g
  put_err f None true q e = let g : ⊥ = cc in absurd g
  put_err f None false q e = (let g : f ≡ TermLimit = cc in g, not_below q)

  numbers : (s : Sort) → node_sort v.nodes n ≡ Ok s → (o : Option ℕ) → position (same_node n) v.nodes ≡ o → make v n ≡ Numbered o (nat_lt (length v.nodes) v.limit)
  unfolding make
  numbers s ok (Some t) e = rw (ok, e) refl
  numbers s ok None e = rw (ok, e) refl

  pub made_put : (s : Sort) → node_sort v.nodes n ≡ Ok s → (r : Result ℕ MakeError) → Makes (make v n) r v w → IsPut v n r w
  made_put s ok (Ok t) h = put_ok t (term_of v.nodes n) (nat_lt (length v.nodes) v.limit) (sym (numbers s ok (term_of v.nodes n) refl) ∙ h)
  made_put s ok (Err (Fault f)) h =
      let p = put_err f (term_of v.nodes n) (nat_lt (length v.nodes) v.limit) refl (sym (numbers s ok (term_of v.nodes n) refl) ∙ h.0) in
      (p.0, p.1, h.1)
  made_put s ok (Err NoMemory) h = h

-- ---- on the way to a goal

-- a node is refused on the way
pub put_fails : (goal : List Node) (old mid : TermsValue) (n : Node) (e : MakeError) (new : TermsValue) → Extends old mid → IsPut mid n (Err e) new → IsLonger (with_node mid.nodes n) goal → IsRefused goal e old new
put_fails goal old mid n (Fault f) new h p long =
    let le = long_count (with_node mid.nodes n) goal long in
    let lim = h.limit in
    let lt = p.1 in
    let over : old.limit < length goal = omega (arith, le, lim, lt) in
    (p.0, over, subst (Extends old) (sym p.2) h)
put_fails goal old mid n NoMemory new h p long = subst (Extends old) (sym p) h

-- a part of the way is refused
pub part_fails : (part goal : List Node) (old mid : TermsValue) (e : MakeError) (new : TermsValue) → Extends old mid → IsRefused part e mid new → IsLonger part goal → IsRefused goal e old new
part_fails part goal old mid (Fault f) new h p long =
    let le = long_count part goal long in
    let lim = h.limit in
    let lt = p.1 in
    let over : old.limit < length goal = omega (arith, le, lim, lt) in
    (p.0, over, more_terms old mid new h p.2)
part_fails part goal old mid NoMemory new h p long = more_terms old mid new h p

-- a node that was put is on the way
pub put_on : (old : TermsValue) (n : Node) (t : ℕ) (new : TermsValue) → IsPut old n (Ok t) new → Extends old new
put_on old n t new p = made_extends old new (with_node old.nodes n) p.1 (node_long old.nodes n)

-- ---- the end

-- what was made is cut off
pub cut_back : (old new cut : TermsValue) (count : ℕ) → Extends old new → count ≡ length old.nodes → cut ≡ cut_at new count → cut ≡ old
cut_back old new cut count h c e =
    let nodes : take count new.nodes ≡ old.nodes = ap (λ k. take k new.nodes) c ∙ ap (take (length old.nodes)) h.nodes ∙ take-append_seam old.nodes h.more in
    e ∙ (λ i. record { nodes = nodes i; limit = h.limit i })

pub all_fails : (goal : List Node) (old new cut : TermsValue) (e : MakeError) (count : ℕ) → IsRefused goal e old new → count ≡ length old.nodes → cut ≡ cut_at new count → IsUnmade goal e old cut
all_fails goal old new cut (Fault f) count h c e = (h.0, h.1, cut_back old new cut count h.2 c e)
all_fails goal old new cut NoMemory count h c e = cut_back old new cut count h c e
