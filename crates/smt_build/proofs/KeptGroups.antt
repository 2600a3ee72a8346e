-- What operators that are no witnesses make has a property that their arguments have.
use Rattle.std.proofs.Common.{◌≡◌, ℕ, Bool, false, List, [], ◌∷◌, ◌++◌, refl, Result, Ok, Err}
use Rattle.smt_syntax.specs.Walk.{◌>>=◌}
use Rattle.smt_terms.specs.declared.operator.Operator.{Operator}
use Rattle.smt_terms.specs.declared.operator.Operator.TheVariants.{True, Not, And, Equal, Concat}
use Rattle.smt_terms.specs.declared.node.Op.TheVariants.{Plain}
use Rattle.smt_terms.specs.Terms.{TermsValue}
use Rattle.smt_terms.specs.Evaluations.{is_witness}
use Rattle.smt_build.specs.declared.fault.BuildFault.{BuildFault}
use Rattle.smt_build.specs.declared.fault.BuildFault.TheVariants.{WrongSort, Width}
use Rattle.smt_build.specs.declared.operators.Arity.{Arity}
use Rattle.smt_build.specs.declared.operators.Arity.TheVariants.{Ranked, LeftAssociative, RightAssociative, Chainable, Pairwise, Joining}
use Rattle.smt_build.specs.declared.operators.Named.{Named}
use Rattle.smt_build.specs.declared.operators.Named.TheVariants.{Applies, Indexed}
use Rattle.smt_build.specs.Names.{SymbolsValue}
use Rattle.smt_build.specs.Building.{Built}
use Rattle.smt_build.specs.Grouping.{each, of_one, of_two, left, right, Chain, next_equal, chain, chained, Listed, apart, apart_from, all_apart, all_true, joins_within, by_arity, are_taken, grouped, operation}
use Rattle.smt_build.specs.Applying.{applied}
use Rattle.smt_build.proofs.KeptTerms as kept_terms
use Rattle.smt_build.proofs.KeptTerms.{IsKept, IsNoWitness, go_none}

abbrev pub names_witness : Named → Bool
names_witness (Applies o arity) = is_witness (Plain o)
names_witness (Indexed k) = false

module _ (symbols : SymbolsValue) (Has : TermsValue → ℕ → Type 0) (kept : IsKept symbols Has) where
  abbrev Longer : TermsValue → TermsValue → Type 0
  Longer v w = kept_terms.Longer symbols Has v w

  abbrev AllHave : TermsValue → List ℕ → Type 0
  AllHave v ts = kept_terms.AllHave symbols Has v ts

  abbrev Keeps : TermsValue → Built → Type 0
  Keeps v r = kept_terms.Keeps symbols Has v r

  abbrev Collects : TermsValue → Listed → Type 0
  Collects v r = kept_terms.Collects symbols Has v r

  on : (v w : TermsValue) (t : ℕ) → Longer v w → Has v t → Has w t
  on v w t p h = kept.on v w t p h

  all_on : (v w : TermsValue) (ts : List ℕ) → Longer v w → AllHave v ts → AllHave w ts
  all_on v w ts p h = kept_terms.all_on symbols Has kept v w ts p h

  keeps_bind : (v : TermsValue) (r : Built) (f : ℕ × TermsValue → Built) → Keeps v r → ((a : ℕ × TermsValue) → Longer v a.1 → Has a.1 a.0 → Keeps a.1 (f a)) → Keeps v (r >>= f)
  keeps_bind v r f h k = kept_terms.keeps_bind symbols Has v r f h k

  keeps_one : (o : Operator) (terms : TermsValue) (a : ℕ) → IsNoWitness o → Has terms a → Keeps terms (of_one o terms a)
  keeps_one o terms a other h = kept_terms.keeps_operator symbols Has kept o terms (a ∷ []) other (h, tt)

  keeps_two : (o : Operator) (terms : TermsValue) (a b : ℕ) → IsNoWitness o → Has terms a → Has terms b → Keeps terms (of_two o terms a b)
  keeps_two o terms a b other h k = kept_terms.keeps_operator symbols Has kept o terms (a ∷ b ∷ []) other (h, (k, tt))

  -- ---- from the left, and from the right

  keeps_left : (o : Operator) (terms : TermsValue) (a : ℕ) (bs : List ℕ) → IsNoWitness o → Has terms a → AllHave terms bs → Keeps terms (left o terms a bs)
  unfolding each
  keeps_left o terms a [] other h k = (go_none symbols.signatures terms, h)
  keeps_left o terms a (b ∷ bs) other h k = keeps_bind terms (of_two o terms a b) _ (keeps_two o terms a b other h k.0) (λ r p m. keeps_left o r.1 r.0 bs other m (all_on terms r.1 bs p k.1))

  keeps_right : (o : Operator) (terms : TermsValue) (a : ℕ) (bs : List ℕ) → IsNoWitness o → Has terms a → AllHave terms bs → Keeps terms (right o terms a bs)
  keeps_right o terms a [] other h k = (go_none symbols.signatures terms, h)
  keeps_right o terms a (b ∷ bs) other h k = keeps_bind terms (right o terms b bs) _ (keeps_right o terms b bs other k.0 k.1) (λ r p m. keeps_two o r.1 a r.0 other (on terms r.1 a p h) m)

  keeps_true : (terms : TermsValue) (ts : List ℕ) → AllHave terms ts → Keeps terms (all_true terms ts)
  keeps_true terms [] h = kept_terms.keeps_operator symbols Has kept True terms [] refl tt
  keeps_true terms (t ∷ ts) h = keeps_left And terms t ts refl h.0 h.1

  collects_true : (v : TermsValue) (r : Listed) → Collects v r → Keeps v (r >>= λ r. all_true r.1 r.0)
  collects_true v r h = kept_terms.lists_bind symbols Has v r _ h (λ a k. keeps_true a.1 a.0 k)

  -- ---- neighbours

  abbrev listed : Result Chain BuildFault → Listed
  listed r = r >>= λ c. Ok (c.found, c.terms)

  collects_chain : (c : Chain) (bs : List ℕ) → AllHave c.terms c.found → Has c.terms c.last → AllHave c.terms bs → Collects c.terms (listed (each next_equal c bs))
  unfolding each
  collects_chain c [] h l k = (go_none symbols.signatures c.terms, h)
  collects_chain c (b ∷ bs) h l k = go (of_two Equal c.terms c.last b) (keeps_two Equal c.terms c.last b refl l k.0) (λ d p m. collects_chain d bs m) where
    next : ℕ × TermsValue → Chain
    next r = record { found = c.found ++ r.0 ∷ []; last = b; terms = r.1 }

    go : (r : Built) → Keeps c.terms r → ((d : Chain) → Longer c.terms d.terms → AllHave d.terms d.found → Has d.terms d.last → AllHave d.terms bs → Collects d.terms (listed (each next_equal d bs))) → Collects c.terms (listed ((r >>= λ r. Ok (record { found = c.found ++ r.0 ∷ []; last = b; terms = r.1 })) >>= λ d. each next_equal d bs))
    go (Ok r) m rest = kept_terms.collects_further symbols Has c.terms r.1 (listed (each next_equal (next r) bs)) m.0 (rest (next r) m.0 (kept_terms.all_push symbols Has r.1 c.found r.0 (all_on c.terms r.1 c.found m.0 h) m.1) (on c.terms r.1 b m.0 k.0) (all_on c.terms r.1 bs m.0 k.1))
    go (Err e) m rest = tt

  keeps_chained : (terms : TermsValue) (a : ℕ) (bs : List ℕ) → Has terms a → AllHave terms bs → Keeps terms (chained terms a bs)
  keeps_chained terms a bs h k = go (chain terms a bs) (collects_chain (record { found = []; last = a; terms = terms }) bs tt h k) where
    go : (r : Result Chain BuildFault) → Collects terms (listed r) → Keeps terms (r >>= λ c. all_true c.terms c.found)
    go (Ok c) m = collects_true terms (Ok (c.found, c.terms)) m
    go (Err e) m = tt

  -- ---- no two

  keeps_apart : (terms : TermsValue) (a b : ℕ) → Has terms a → Has terms b → Keeps terms (apart terms a b)
  keeps_apart terms a b h k = keeps_bind terms (of_two Equal terms a b) _ (keeps_two Equal terms a b refl h k) (λ r p m. keeps_one Not r.1 r.0 refl m)

  -- a term more, and what follows
  collects_more : (v : TermsValue) (r : Built) (found : List ℕ) (f : List ℕ × TermsValue → Listed) → AllHave v found → Keeps v r → ((a : List ℕ × TermsValue) → Longer v a.1 → AllHave a.1 a.0 → Collects a.1 (f a)) → Collects v ((r >>= λ q. Ok (found ++ q.0 ∷ [], q.1)) >>= f)
  collects_more v (Ok q) found f h k rest = kept_terms.collects_further symbols Has v q.1 (f (found ++ q.0 ∷ [], q.1)) k.0 (rest (found ++ q.0 ∷ [], q.1) k.0 (kept_terms.all_push symbols Has q.1 found q.0 (all_on v q.1 found k.0 h) k.1))
  collects_more v (Err e) found f h k rest = tt

  collects_apart_from : (a : ℕ) (terms : TermsValue) (found bs : List ℕ) → Has terms a → AllHave terms found → AllHave terms bs → Collects terms (apart_from a terms found bs)
  unfolding each
  collects_apart_from a terms found [] l h k = (go_none symbols.signatures terms, h)
  collects_apart_from a terms found (b ∷ bs) l h k = collects_more terms (apart terms a b) found _ h (keeps_apart terms a b l k.0) (λ r p m. collects_apart_from a r.1 r.0 bs (on terms r.1 a p l) m (all_on terms r.1 bs p k.1))

  collects_all_apart : (terms : TermsValue) (found bs : List ℕ) → AllHave terms found → AllHave terms bs → Collects terms (all_apart terms found bs)
  collects_all_apart terms found [] h k = (go_none symbols.signatures terms, h)
  collects_all_apart terms found (a ∷ bs) h k = go (apart_from a terms found bs) (collects_apart_from a terms found bs k.0 h k.1) (λ r p m. collects_all_apart r.1 r.0 bs m (all_on terms r.1 bs p k.1)) where
    go : (r : Listed) → Collects terms r → ((r : List ℕ × TermsValue) → Longer terms r.1 → AllHave r.1 r.0 → Collects r.1 (all_apart r.1 r.0 bs)) → Collects terms (r >>= λ r. all_apart r.1 r.0 bs)
    go (Ok r) m rest = kept_terms.collects_further symbols Has terms r.1 (all_apart r.1 r.0 bs) m.0 (rest r m.0 m.1)
    go (Err e) m rest = tt

  -- ---- applications

  keeps_by_arity : (o : Operator) (arity : Arity) (terms : TermsValue) (a b : ℕ) (bs : List ℕ) → IsNoWitness o → AllHave terms (a ∷ b ∷ bs) → Keeps terms (by_arity o arity terms a (b ∷ bs))
  keeps_by_arity o Ranked terms a b bs other h = tt
  keeps_by_arity o LeftAssociative terms a b bs other h = keeps_left o terms a (b ∷ bs) other h.0 h.1
  keeps_by_arity o RightAssociative terms a b bs other h = keeps_right o terms a (b ∷ bs) other h.0 h.1
  keeps_by_arity o Chainable terms a b bs other h = keeps_chained terms a (b ∷ bs) h.0 h.1
  keeps_by_arity o Pairwise terms a b bs other h = collects_true terms (all_apart terms [] (a ∷ b ∷ bs)) (collects_all_apart terms [] (a ∷ b ∷ bs) tt h)
  keeps_by_arity o Joining terms a b bs other h = kept_terms.keeps_if symbols Has terms (joins_within terms.nodes 0 (a ∷ b ∷ bs)) Width _ (keeps_left Concat terms a (b ∷ bs) refl h.0 h.1)

  keeps_grouped : (o : Operator) (arity : Arity) (terms : TermsValue) (args : List ℕ) → IsNoWitness o → AllHave terms args → Keeps terms (grouped o arity terms args)
  keeps_grouped o arity terms [] other h = tt
  keeps_grouped o arity terms (a ∷ []) other h = tt
  keeps_grouped o arity terms (a ∷ b ∷ bs) other h = kept_terms.keeps_if symbols Has terms (are_taken arity terms.nodes a (b ∷ bs)) WrongSort _ (keeps_by_arity o arity terms a b bs other h)

  keeps_operation : (o : Operator) (arity : Arity) (terms : TermsValue) (args : List ℕ) → IsNoWitness o → AllHave terms args → Keeps terms (operation o arity terms args)
  keeps_operation o Ranked terms args other h = kept_terms.keeps_operator symbols Has kept o terms args other h
  keeps_operation o LeftAssociative terms args other h = keeps_grouped o LeftAssociative terms args other h
  keeps_operation o RightAssociative terms args other h = keeps_grouped o RightAssociative terms args other h
  keeps_operation o Chainable terms args other h = keeps_grouped o Chainable terms args other h
  keeps_operation o Pairwise terms args other h = keeps_grouped o Pairwise terms args other h
  keeps_operation o Joining terms args other h = keeps_grouped o Joining terms args other h

  pub keeps_applied : (terms : TermsValue) (named : Named) (args : List ℕ) → names_witness named ≡ false → AllHave terms args → Keeps terms (applied terms named args)
  keeps_applied terms (Indexed k) args other h = tt
  keeps_applied terms (Applies o arity) args other h = keeps_operation o arity terms args other h
