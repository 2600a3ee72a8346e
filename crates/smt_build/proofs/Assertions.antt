-- What the assertion of a term keeps: the terms go on, and what the bodies of definitions have the asserted term has, with
-- the definitions then.
use Rattle.std.proofs.Common.{◌≡◌, ℕ, ◌<◌, Bool, true, false, List, [], ◌∷◌, ◌++◌, length, refl, ◌∙◌, Ok, Err}
use Rattle.std.specs.Prelude.{is_some, if◌then◌else◌}
use Rattle.smt_syntax.specs.Sexps.{Sexp}
use Rattle.smt_terms.specs.Terms.{TermsValue}
use Rattle.smt_build.specs.declared.definition.Definition.{Definition}
use Rattle.smt_build.specs.Names.{Meanings, SymbolsValue, AreBodies, meaning_in, with_definition}
use Rattle.smt_build.specs.Binding.{Bound, Read}
use Rattle.smt_build.specs.Terms.{term_in}
use Rattle.smt_build.specs.Asserting.{Assertion, with_name, with_names, as_assertion, assertion}
use Rattle.smt_build.proofs.KeptTerms as kept_terms
use Rattle.smt_build.proofs.KeptTerms.{GoOn, Follows, IsKept}
use Rattle.smt_build.proofs.KeptReadings as kept_readings
use Rattle.smt_build.proofs.Longer.{IsHeld, held_kept, bodies_held, bodies_are}

-- names that are given leave the live declarations
name_live : (v : SymbolsValue) (b : List ℕ × ℕ) → (with_name v b).live ≡ v.live
name_live v b = go (is_some (meaning_in v.definitions b.0)) where
  go : (known : Bool) → (if known then v else with_definition v b.0 (record { parameters = []; body = b.1 })).live ≡ v.live
  go true = refl
  go false = refl

pub names_leave : (v : SymbolsValue) (bs : Bound) → (with_names v bs).live ≡ v.live
names_leave v [] = refl
names_leave v (b ∷ bs) = names_leave (with_name v b) bs ∙ name_live v b

module _ (symbols : SymbolsValue) (Has : TermsValue → ℕ → Type 0) where
  abbrev BodiesHave : TermsValue → Meanings Definition → Type 0
  BodiesHave terms ds = kept_terms.BodiesHave symbols Has terms ds

  pub bodies_more : (terms : TermsValue) (ds : Meanings Definition) (x : List ℕ) (f : Definition) → BodiesHave terms ds → Has terms f.body → BodiesHave terms (ds ++ (x, f) ∷ [])
  bodies_more terms [] x f h k = (k, tt)
  bodies_more terms (d ∷ ds) x f h k = (h.0, bodies_more terms ds x f h.1 k)

  bodies_name : (terms : TermsValue) (v : SymbolsValue) (b : List ℕ × ℕ) → BodiesHave terms v.definitions → Has terms b.1 → BodiesHave terms (with_name v b).definitions
  bodies_name terms v b h k = go (is_some (meaning_in v.definitions b.0)) where
    go : (known : Bool) → BodiesHave terms (if known then v else with_definition v b.0 (record { parameters = []; body = b.1 })).definitions
    go true = h
    go false = bodies_more terms v.definitions b.0 (record { parameters = []; body = b.1 }) h k

  bodies_names : (terms : TermsValue) (v : SymbolsValue) (bs : Bound) → BodiesHave terms v.definitions → kept_readings.NamesHave symbols Has terms bs → BodiesHave terms (with_names v bs).definitions
  bodies_names terms v [] h k = h
  bodies_names terms v (b ∷ bs) h k = bodies_names terms (with_name v b) bs (bodies_name terms v b h k.0) k.1

  -- the terms go on, the asserted term has it, and so have the bodies then
  abbrev pub AllKept : TermsValue → Assertion → Type 0
  AllKept terms r = Follows (λ r. GoOn symbols.signatures terms r.2 × Has r.2 r.0 × BodiesHave r.2 r.1.definitions × (r.1.live ≡ symbols.live)) r

  module _ (kept : IsKept symbols Has) where
    pub assertion_has : (terms : TermsValue) (e : Sexp) → BodiesHave terms symbols.definitions → AllKept terms (assertion symbols terms e)
    unfolding assertion
    assertion_has terms e bodies = go (term_in symbols true [] (record { terms = terms; names = []; parameters = [] }) e) (kept_readings.reads_first symbols Has kept true terms [] e bodies) where
      go : (r : Read) → kept_readings.ReadsOn symbols Has (record { terms = terms; names = []; parameters = [] }) r → AllKept terms (as_assertion symbols r)
      go (Ok q) h = (h.0.longer, h.1, bodies_names q.1.terms symbols q.1.names (kept_terms.bodies_on symbols Has kept terms q.1.terms symbols.definitions h.0.longer bodies) (h.0.names tt), names_leave symbols q.1.names)
      go (Err f) h = tt

-- the terms go on, the asserted term is held, and so are the bodies then
abbrev pub KeepsAll : SymbolsValue → TermsValue → Assertion → Type 0
KeepsAll v terms r = Follows (λ r. GoOn v.signatures terms r.2 × (r.0 < length r.2.nodes) × AreBodies (length r.2.nodes) r.1.definitions) r

pub assertion_keeps : (v : SymbolsValue) (terms : TermsValue) (e : Sexp) → AreBodies (length terms.nodes) v.definitions → KeepsAll v terms (assertion v terms e)
assertion_keeps v terms e bodies = go (assertion v terms e) (assertion_has v IsHeld (held_kept v) terms e (bodies_held v terms v.definitions bodies)) where
  go : (r : Assertion) → AllKept v IsHeld terms r → KeepsAll v terms r
  go (Ok q) h = (h.0, h.1, bodies_are v q.2 q.1.definitions h.2)
  go (Err f) h = tt
