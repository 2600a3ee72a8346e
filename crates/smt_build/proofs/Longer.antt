-- The terms that stand before a reading stand behind it and go on well sorted, and the term that is read is one of them.
use Rattle.std.proofs.Common.{◌≡◌, ℕ, ◌<◌, [], ◌∷◌, length, subst, arith, Ok}
use Rattle.smt_syntax.specs.Sexps.{Sexp}
use Rattle.smt_terms.specs.Terms.{TermsValue}
use Rattle.smt_terms.specs.Nodes.{node_of, node_at}
use Rattle.smt_terms.proofs.Growing.{all_within}
use Rattle.smt_terms.proofs.Made as making
use Rattle.smt_build.specs.declared.definition.Definition.{Definition}
use Rattle.smt_build.specs.Names.{Meanings, SymbolsValue, AreBodies}
use Rattle.smt_build.specs.Parameters.{Parameters}
use Rattle.smt_build.specs.Building.{Built}
use Rattle.smt_build.specs.Terms.{term_over, term_of}
use Rattle.smt_build.proofs.Growth.{longer}
pub use Rattle.smt_build.proofs.KeptTerms.{GoOn, list_made, Follows}
use Rattle.smt_build.proofs.KeptTerms as kept_terms
use Rattle.smt_build.proofs.KeptTerms.{IsKept}
use Rattle.smt_build.proofs.KeptReadings as kept_readings

abbrev pub IsHeld : TermsValue → ℕ → Type 0
IsHeld v t = t < length v.nodes

pub held_kept : (symbols : SymbolsValue) → IsKept symbols IsHeld
held_kept symbols = record {
  on = λ old new t p h. omega (arith, h, longer symbols.signatures old new p.grows);
  parts = λ terms t list h. all_within t (length terms.nodes) (omega (arith, h)) (node_at terms.nodes t).args (list t h).earlier;
  made = λ old new n t k h e. (making.made old new n t e).within;
  again = λ first old new u args t p q list h k e. (making.made old new (node_of (node_at first.nodes u).op args) t e).within;
  sorted = λ terms t lt h. lt;
}

pub bodies_held : (symbols : SymbolsValue) (v : TermsValue) (ds : Meanings Definition) → AreBodies (length v.nodes) ds → kept_terms.BodiesHave symbols IsHeld v ds
bodies_held symbols v [] h = tt
bodies_held symbols v (d ∷ ds) h = (h.0, bodies_held symbols v ds h.1)

pub bodies_are : (symbols : SymbolsValue) (v : TermsValue) (ds : Meanings Definition) → kept_terms.BodiesHave symbols IsHeld v ds → AreBodies (length v.nodes) ds
bodies_are symbols v [] h = tt
bodies_are symbols v (d ∷ ds) h = (h.0, bodies_are symbols v ds h.1)

module _ (symbols : SymbolsValue) where
  -- the number is one of the terms then, and those before stand
  abbrev pub Keeps : TermsValue → Built → Type 0
  Keeps v r = kept_terms.Keeps symbols IsHeld v r

  pub keeps_term : (terms : TermsValue) (ps : Parameters) (e : Sexp) → AreBodies (length terms.nodes) symbols.definitions → Keeps terms (term_over symbols terms ps e)
  keeps_term terms ps e bodies = kept_readings.keeps_term symbols IsHeld (held_kept symbols) terms ps e (bodies_held symbols terms symbols.definitions bodies)

  -- where the bodies of all definitions are held, the terms before a reading stand behind it
  pub term_longer : (terms new : TermsValue) (e : Sexp) (t : ℕ) → AreBodies (length terms.nodes) symbols.definitions → term_of symbols terms e ≡ Ok (t, new) → GoOn symbols.signatures terms new
  term_longer terms new e t bodies is = let P : Built → Type 0 = Keeps terms in (subst P is (keeps_term terms [] e bodies)).0

  -- and a term that is read is held
  pub term_is_held : (terms new : TermsValue) (e : Sexp) (t : ℕ) → AreBodies (length terms.nodes) symbols.definitions → term_of symbols terms e ≡ Ok (t, new) → t < length new.nodes
  term_is_held terms new e t bodies is = let P : Built → Type 0 = Keeps terms in (subst P is (keeps_term terms [] e bodies)).1
