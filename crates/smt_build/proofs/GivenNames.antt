-- Names that become definitions.
use Rattle.std.proofs.Common.{◌≡◌, ℕ, ◌+◌, ◌<◌, Bool, true, false, List, [], ◌∷◌, ◌++◌, length, map, take, get_or, refl, ap, sym, ◌∙◌, append_assoc, append-nil, subst, Ok, Err}
use Rattle.std.proofs.Math.Seq.{take-append_seam}
use Rattle.std.specs.Prelude.{is_some, if◌then◌else◌}
use Rattle.std.proofs.lemmas.List.{take_more, map-append}
use Rattle.smt_syntax.specs.Sexps.{Sexp}
use Rattle.smt_terms.specs.Terms.{TermsValue}
use Rattle.smt_build.specs.declared.fault.BuildError.{BuildError}
use Rattle.smt_build.specs.declared.fault.BuildError.TheVariants.{NoMemory, Fault}
use Rattle.smt_build.specs.declared.definition.Definition.{Definition}
use Rattle.smt_build.specs.declared.scope.Variable.{Variable}
use Rattle.smt_build.specs.Names.{SymbolsValue, Meanings, meaning_in, with_definition, with_definitions}
use Rattle.smt_build.specs.Pairs.{Bound, pair_of}
use Rattle.smt_build.specs.Parameters.{Parameters}
use Rattle.smt_build.specs.Binding.{Progress, Read}
use Rattle.smt_build.specs.Terms.{term_in}
use Rattle.smt_build.specs.Views.{ReadsTerm}
use Rattle.smt_build.specs.Asserting.{with_name, with_names, as_assertion, assertion, Asserts}

names_push : (v : SymbolsValue) (bs : Bound) (b : List ℕ × ℕ) → with_names v (bs ++ b ∷ []) ≡ with_name (with_names v bs) b
names_push v [] b = refl
names_push v (c ∷ bs) b = names_push (with_name v c) bs b

pub given_more : (v now new : SymbolsValue) (names : List Variable) (i : ℕ) (d : Variable) → i < length names → now ≡ with_names v (map pair_of (take i names)) → new ≡ with_name now (pair_of (get_or names i d)) → new ≡ with_names v (map pair_of (take (i + 1) names))
given_more v now new names i d h e f = f ∙ rw e (sym (names_push v (map pair_of (take i names)) (pair_of (get_or names i d)))) ∙ ap (with_names v) (sym (map-append pair_of (take i names) (get_or names i d ∷ []))) ∙ ap (λ l. with_names v (map pair_of l)) (sym (take_more names i d h))

-- ---- only definitions come in addition

pub record Adds (v w : SymbolsValue) : Type 0 where
  pub more : Meanings Definition
  pub same : w ≡ record { live = v.live; signatures = v.signatures; definitions = v.definitions ++ more; sorts = v.sorts; levels = v.levels }

adds_none : (v : SymbolsValue) → Adds v v
adds_none v = record { more = []; same = λ i. record { live = v.live; signatures = v.signatures; definitions = sym (append-nil v.definitions) i; sorts = v.sorts; levels = v.levels } }

adds_both : (u v w : SymbolsValue) → Adds u v → Adds v w → Adds u w
adds_both u v w p q = record {
  more = p.more ++ q.more;
  same = q.same ∙ rw p.same (λ i. record { live = u.live; signatures = u.signatures; definitions = append_assoc u.definitions p.more q.more i; sorts = u.sorts; levels = u.levels });
}

adds_name : (v : SymbolsValue) (b : List ℕ × ℕ) → Adds v (with_name v b)
adds_name v b = go (is_some (meaning_in v.definitions b.0)) where
  go : (known : Bool) → Adds v (if known then v else with_definition v b.0 (record { parameters = []; body = b.1 }))
  go true = adds_none v
  go false = record { more = (b.0, record { parameters = []; body = b.1 }) ∷ []; same = refl }

pub adds_names : (v : SymbolsValue) (bs : Bound) → Adds v (with_names v bs)
adds_names v [] = adds_none v
adds_names v (b ∷ bs) = adds_both v (with_name v b) (with_names (with_name v b) bs) (adds_name v b) (adds_names (with_name v b) bs)

pub given_cut : (v now new : SymbolsValue) (bs : Bound) (count : ℕ) → count ≡ length v.definitions → now ≡ with_names v bs → new ≡ with_definitions now count → new ≡ v
given_cut v now new bs count c e f = f ∙ rw (c, e ∙ (adds_names v bs).same) (λ i. record { live = v.live; signatures = v.signatures; definitions = take-append_seam v.definitions (adds_names v bs).more i; sorts = v.sorts; levels = v.levels })

pub given_signatures : (v new : SymbolsValue) (bs : Bound) → new ≡ with_names v bs → new.signatures ≡ v.signatures
given_signatures v new bs e = ap (λ s. s.signatures) (e ∙ (adds_names v bs).same)

-- ---- what is read is asserted

reads_ok : (v new : SymbolsValue) (to : Read) (t : ℕ) (p : Progress) (bs : Bound) → ReadsTerm to (Ok t) p → bs ≡ p.names → new ≡ with_names v bs → as_assertion v to ≡ Ok (t, new, p.terms)
reads_ok v new to t p bs m b e = rw (m, e, b) refl

reads_fault : (v : SymbolsValue) (to : Read) (x : BuildError) (old new : TermsValue) (p : Progress) → ReadsTerm to (Err x) p → new ≡ old → Asserts (as_assertion v to) (Err x) (v, old) (v, new)
reads_fault v to NoMemory old new p m e = (refl, e)
reads_fault v to (Fault f) old new p m e = (rw m refl, refl, e)

-- where there are no parameters
module _ (v : SymbolsValue) (old : TermsValue) (e : Sexp) (ps : Parameters) (none : ps ≡ []) where
  abbrev reading : Parameters → Read
  reading qs = term_in v true [] (record { terms = old; names = []; parameters = qs }) e

  pub asserts_ok : (new : SymbolsValue) (t : ℕ) (p : Progress) (bs : Bound) → ReadsTerm (reading ps) (Ok t) p → bs ≡ p.names → new ≡ with_names v bs → assertion v old e ≡ Ok (t, new, p.terms)
  unfolding assertion
  asserts_ok new t p bs m b q = reads_ok v new (reading []) t p bs (subst (λ (qs : Parameters). ReadsTerm (reading qs) (Ok t) p) none m) b q

  pub asserts_fault : (x : BuildError) (new : TermsValue) (p : Progress) → ReadsTerm (reading ps) (Err x) p → new ≡ old → Asserts (assertion v old e) (Err x) (v, old) (v, new)
  unfolding assertion
  asserts_fault x new p m q = reads_fault v (reading []) x old new p (subst (λ (qs : Parameters). ReadsTerm (reading qs) (Err x) p) none m) q
