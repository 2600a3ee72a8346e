-- The term of a use of a definition has a property that its body and the arguments have.
use Rattle.std.proofs.Common.{◌≡◌, ℕ, zero, suc, ◌<◌, Bool, true, false, List, [], ◌∷◌, ◌++◌, length, map, refl, sym, ap, ◌∙◌, subst, arith, inl, inr, ⊎_elim, length-append, Option, Some, None, Result, Ok, Err}
use Rattle.std.specs.Prelude.{◌⊎◌, slice_get, if◌then◌else◌}
use Rattle.std.specs.List.{AllByRecursion}
use Rattle.std.proofs.lemmas.Bool.{cases_lt}
use Rattle.std.proofs.lemmas.List.{get_or_append_left}
use Rattle.std.proofs.Math.Seq.{get_or-append_seam}
use Rattle.smt_syntax.specs.Walk.{◌>>=◌}
use Rattle.smt_terms.specs.declared.sort.Signature.{Signature}
use Rattle.smt_terms.specs.declared.node.Op.{Op}
use Rattle.smt_terms.specs.declared.node.Op.TheVariants.{Plain, Word, Extract, ZeroExtend, SignExtend, RotateLeft, RotateRight, Repeat, ConstantArray, Constant, Apply, Param}
use Rattle.smt_terms.specs.declared.node.Node.{Node}
use Rattle.smt_terms.specs.declared.fault.MakeFault.{MakeFault}
use Rattle.smt_terms.specs.Nodes.{node_of, node_at}
use Rattle.smt_terms.specs.Terms.{TermsValue, IsTermList, make, declaration_of, signature_of}
use Rattle.smt_terms.proofs.Growing.{node_past, node_longer}
use Rattle.smt_terms.proofs.Made as making
use Rattle.smt_build.specs.declared.fault.BuildFault.TheVariants.{WrongSort}
use Rattle.smt_build.specs.declared.definition.Definition.{Definition}
use Rattle.smt_build.specs.Names.{SymbolsValue, AreDeclared, IsDeclared}
use Rattle.smt_build.specs.Building.{Built, as_built, made}
use Rattle.smt_build.specs.Grouping.{Listed}
use Rattle.smt_build.specs.Definitions.{have_sorts, reaches, image, argument, made_again, image_of, images, instance, with_arguments, used}
use Rattle.smt_build.proofs.Reaching.{all_among, all_from, earlier, reaches_args, reached_has}
use Rattle.smt_build.proofs.KeptTerms as kept_terms
use Rattle.smt_build.proofs.KeptTerms.{GoOn, Follows, IsKept, go_none, go_both, go_made, list_before}

-- what a term before names was made, where what all terms then name was
declared_before : (signatures : List Signature) (first old : TermsValue) → GoOn signatures first old → (u : ℕ) → AreDeclared signatures old.nodes → IsDeclared signatures (node_at first.nodes u).op
declared_before signatures first old p u are = record { each = each } where
  each : (d : ℕ) → declaration_of (node_at first.nodes u).op ≡ Some d → slice_get signatures d ≡ Some (signature_of (node_at first.nodes u).op)
  each d e = ⊎_elim
      (λ lt.
      let same : node_at old.nodes u ≡ node_at first.nodes u = ap (λ nodes. node_at nodes u) p.grows.nodes ∙ node_longer first.nodes p.grows.behind u lt in
      subst (λ (n : Node). slice_get signatures d ≡ Some (signature_of n.op)) same (are.each u d (ap (λ (n : Node). declaration_of n.op) same ∙ e)))
      (λ le. let q = subst (λ (n : Node). declaration_of n.op ≡ Some d) (node_past first.nodes u le) e in absurd (let z : ⊥ = cc in z))
      (cases_lt u (length first.nodes))

module _ (symbols : SymbolsValue) (Has : TermsValue → ℕ → Type 0) (kept : IsKept symbols Has) where
  abbrev Longer : TermsValue → TermsValue → Type 0
  Longer v w = kept_terms.Longer symbols Has v w

  abbrev AllHave : TermsValue → List ℕ → Type 0
  AllHave v ts = kept_terms.AllHave symbols Has v ts

  abbrev Keeps : TermsValue → Built → Type 0
  Keeps v r = kept_terms.Keeps symbols Has v r

  -- a term is made again over others
  keeps_again : (first old : TermsValue) (u : ℕ) (args : List ℕ) → Longer first old → (IsTermList old.nodes → Has first u × AllHave old args) → Keeps old (made old (node_of (node_at first.nodes u).op args))
  unfolding made
  keeps_again first old u args p have = go (make old (node_of (node_at first.nodes u).op args)) refl where
    go : (r : Result (ℕ × TermsValue) MakeFault) → make old (node_of (node_at first.nodes u).op args) ≡ r → Keeps old (as_built r)
    go (Ok r) e =
        let going = go_made symbols.signatures old r.1 (node_of (node_at first.nodes u).op args) r.0 (declared_before symbols.signatures first old p u) e in
        let within = (making.made old r.1 (node_of (node_at first.nodes u).op args) r.0 e).within in
        (going, kept.sorted r.1 r.0 within (λ list. let k = have (list_before symbols.signatures old r.1 going list) in kept.again first old r.1 u args r.0 p going list k.0 k.1 e))
    go (Err f) e = tt

  -- what stands at a place has it
  abbrev FoundHas : TermsValue → Option ℕ → Type 0
  FoundHas v None = Unit {0}
  FoundHas v (Some t) = Has v t

  found_has : (v : TermsValue) (ts : List ℕ) (i : ℕ) → AllHave v ts → FoundHas v (slice_get ts i)
  found_has v [] i h = tt
  found_has v (t ∷ ts) zero h = h.0
  found_has v (t ∷ ts) (suc i) h = found_has v ts i h.1

  argument_has : (v : TermsValue) (args : List ℕ) (op : Op) → AllHave v args → FoundHas v (argument args op)
  argument_has v args (Param place s) h = found_has v args place h
  argument_has v args (Plain o) h = tt
  argument_has v args (Word n x) h = tt
  argument_has v args (Extract i j) h = tt
  argument_has v args (ZeroExtend i) h = tt
  argument_has v args (SignExtend i) h = tt
  argument_has v args (RotateLeft i) h = tt
  argument_has v args (RotateRight i) h = tt
  argument_has v args (Repeat i) h = tt
  argument_has v args (ConstantArray k) h = tt
  argument_has v args (Constant d s) h = tt
  argument_has v args (Apply d s) h = tt

  all_images : (v : TermsValue) (found ts : List ℕ) → AllByRecursion (λ a. Has v (image found a)) ts → AllHave v (map (image found) ts)
  all_images v found [] h = tt
  all_images v found (t ∷ ts) h = (h.0, all_images v found ts h.1)

  -- ---- the terms that stand for those of a body

  module _ (first : TermsValue) (body : ℕ) (args : List ℕ) (has : Has first body) (given : AllHave first args) where
    -- what stands for the reached terms so far has it
    abbrev ImagesHave : TermsValue → List ℕ → Type 0
    ImagesHave v found = (u : ℕ) → u < length found → reaches first.nodes body u ≡ true → Has v (image found u)

    abbrev Stands : ℕ → Listed → Type 0
    Stands n r = Follows (λ r. Longer first r.1 × (length r.0 ≡ n) × ImagesHave r.1 r.0) r

    -- so has what stands for a term that is reached, or that has it
    abbrev StandsFor : ℕ → TermsValue → Built → Type 0
    StandsFor u v r = Follows (λ q. Longer v q.1 × ((reaches first.nodes body u ≡ true) ⊎ Has first u → Has q.1 q.0)) r

    args_have : (u : ℕ) (v : TermsValue) (found : List ℕ) → length found ≡ u → ImagesHave v found → reaches first.nodes body u ≡ true → IsTermList first.nodes → AllHave v (map (image found) (node_at first.nodes u).args)
    args_have u v found count images_have reached list =
        all_images v found (node_at first.nodes u).args (all_from (λ a. Has v (image found a)) (node_at first.nodes u).args (λ a k.
        let less = all_among (λ a. a < u) (node_at first.nodes u).args a (earlier first.nodes list u) k in
        images_have a (omega (arith, less, count)) (reaches_args first.nodes list body u a reached k)))

    again_has : (u : ℕ) (v : TermsValue) (found : List ℕ) → Longer first v → length found ≡ u → ImagesHave v found → reaches first.nodes body u ≡ true → Keeps v (made_again found v (node_at first.nodes u) (argument args (node_at first.nodes u).op))
    again_has u v found p count images_have reached = go (argument args (node_at first.nodes u).op) (argument_has v args (node_at first.nodes u).op (kept_terms.all_on symbols Has kept first v args p given)) where
      go : (o : Option ℕ) → FoundHas v o → Keeps v (made_again found v (node_at first.nodes u) o)
      go (Some a) h = (go_none symbols.signatures v, h)
      go None h = keeps_again first v u (map (image found) (node_at first.nodes u).args) p (λ list.
          let before = list_before symbols.signatures first v p list in
          (reached_has first.nodes before (Has first) (λ t k. kept.parts first t before k) body u reached has, args_have u v found count images_have reached before))

    image_has : (u : ℕ) (v : TermsValue) (found : List ℕ) → Longer first v → length found ≡ u → ImagesHave v found → StandsFor u v (image_of first.nodes body args (found, v) u)
    image_has u v found p count images_have = go (reaches first.nodes body u) refl where
      whole : (r : Built) → Keeps v r → StandsFor u v r
      whole (Ok q) h = (h.0, λ _. h.1)
      whole (Err e) h = tt

      go : (b : Bool) → reaches first.nodes body u ≡ b → StandsFor u v (if b then made_again found v (node_at first.nodes u) (argument args (node_at first.nodes u).op) else Ok (u, v))
      go true e = whole _ (again_has u v found p count images_have e)
      go false e = (go_none symbols.signatures v, λ h. ⊎_elim (λ k. absurd (let z : ⊥ = cc in z)) (λ k. kept.on first v u p k) h)

    -- one more
    next_has : (u : ℕ) (v : TermsValue) (found : List ℕ) → Longer first v → length found ≡ u → ImagesHave v found → (r : Built) → StandsFor u v r → Stands (suc u) (r >>= λ q. Ok (found ++ q.0 ∷ [], q.1))
    next_has u v found p count images_have (Err e) h = tt
    next_has u v found p count images_have (Ok q) h = (go_both symbols.signatures first v q.1 p h.0, omega (arith, length-append found (q.0 ∷ []), count), λ w lt reached. each w lt reached) where
      each : ImagesHave q.1 (found ++ q.0 ∷ [])
      each w lt reached = ⊎_elim
          (λ less. subst (Has q.1) (sym (get_or_append_left found (q.0 ∷ []) 0 w less)) (kept.on v q.1 (image found w) h.0 (images_have w less reached)))
          (λ le.
          let last : w ≡ length found = omega (arith, length-append found (q.0 ∷ []), lt) in
          let at_u : reaches first.nodes body u ≡ true = subst (λ x. reaches first.nodes body x ≡ true) (last ∙ count) reached in
          let here : image (found ++ q.0 ∷ []) w ≡ q.0 = ap (image (found ++ q.0 ∷ [])) last ∙ get_or-append_seam found q.0 [] 0 in
          subst (Has q.1) (sym here) (h.1 (inl at_u)))
          (cases_lt w (length found))

    images_stand : (n : ℕ) → Stands n (images first.nodes body args first n)
    unfolding images
    images_stand zero = (go_none symbols.signatures first, refl, λ u lt reached. absurd (omega arith))
    images_stand (suc u) = go (images first.nodes body args first u) (images_stand u) where
      go : (r : Listed) → Stands u r → Stands (suc u) (r >>= λ r. image_of first.nodes body args r u >>= λ q. Ok (r.0 ++ q.0 ∷ [], q.1))
      go (Ok r) h = next_has u r.1 r.0 h.0 h.1 h.2 (image_of first.nodes body args r u) (image_has u r.1 r.0 h.0 h.1 h.2)
      go (Err e) h = tt

    keeps_instance : Keeps first (instance first body args)
    unfolding instance
    keeps_instance = go (images first.nodes body args first body) (images_stand body) where
      end : (v : TermsValue) (r : Built) → Longer first v → StandsFor body v r → Keeps first r
      end v (Ok q) p h = (go_both symbols.signatures first v q.1 p h.0, h.1 (inr has))
      end v (Err e) p h = tt

      go : (r : Listed) → Stands body r → Keeps first (r >>= λ r. image_of first.nodes body args r body)
      go (Ok r) h = end r.1 (image_of first.nodes body args r body) h.0 (image_has body r.1 r.0 h.0 h.1 h.2)
      go (Err e) h = tt

  -- ---- uses

  keeps_with : (terms : TermsValue) (f : Definition) (args : List ℕ) → Has terms f.body → AllHave terms args → Keeps terms (with_arguments terms f args)
  keeps_with terms f [] h k = (go_none symbols.signatures terms, h)
  keeps_with terms f (a ∷ args) h k = keeps_instance terms f.body (a ∷ args) h k

  pub keeps_used : (terms : TermsValue) (f : Definition) (args : List ℕ) → Has terms f.body → AllHave terms args → Keeps terms (used terms f args)
  keeps_used terms f args h k = kept_terms.keeps_if symbols Has terms (have_sorts terms.nodes f.parameters args) WrongSort _ (keeps_with terms f args h k)
