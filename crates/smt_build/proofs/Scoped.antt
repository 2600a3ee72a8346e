-- A term over the live declarations stays one as more is made and declared, and a term that is read is one, where the bodies
-- of definitions are. No witness stands in it.
use Rattle.std.proofs.Common.{◌≡◌, ℕ, zero, suc, ◌<◌, Bool, true, false, List, [], ◌∷◌, ◌++◌, length, map, refl, sym, ap, ◌∙◌, subst, arith, Option, Some, None, Ok}
use Rattle.std.proofs.lemmas.Bool.{or_left, and_parts, and_from}
use Rattle.std.specs.Prelude.{◌==◌, not, ◌&&◌, if◌then◌else◌}
use Rattle.std.specs.List.{list_all, AllByRecursion}
use Rattle.std.proofs.lemmas.List.Folds.{list_all-map, list_any-append}
use Rattle.smt_syntax.specs.Sexps.{Sexp}
use Rattle.smt_terms.specs.declared.sort.Signature.{Signature}
use Rattle.smt_terms.specs.declared.node.Op.{Op}
use Rattle.smt_terms.specs.declared.node.Node.{Node}
use Rattle.smt_terms.specs.Nodes.{node_of, node_at, below}
use Rattle.smt_terms.specs.Terms.{TermsValue, IsTermList, make, declaration_of}
use Rattle.smt_terms.specs.Evaluations.{is_witness, each_true, has_no_witness}
use Rattle.smt_terms.proofs.Recursion.{at_term_is, at_term_longer}
use Rattle.smt_terms.proofs.Growing.{all_within}
use Rattle.smt_terms.proofs.Made as making
use Rattle.smt_build.specs.declared.symbols.LiveName.{LiveName}
use Rattle.smt_build.specs.declared.definition.Definition.{Definition}
use Rattle.smt_build.specs.Names.{Meanings, SymbolsValue, AreBodies}
use Rattle.smt_build.specs.Scoped.{is_live, names_live, is_scripted, is_over, AreOver}
use Rattle.smt_build.specs.Parameters.{Parameters}
use Rattle.smt_build.specs.Building.{Built, Grows}
use Rattle.smt_build.specs.Terms.{term_over, term_of}
use Rattle.smt_build.proofs.Growth.{longer}
use Rattle.smt_build.proofs.Reaching.{earlier}
use Rattle.smt_build.proofs.KeptTerms.{GoOn, IsKept, BodiesHave, Keeps, go_made, list_before}
use Rattle.smt_build.proofs.KeptReadings as kept_readings

-- a term is over the live declarations where its node is no witness and names one or none, and each argument is
over_is : (live : List LiveName) (nodes : List Node) (t : ℕ) → AllByRecursion (λ a. a < t) (node_at nodes t).args → is_over live nodes t ≡ (is_scripted live (node_at nodes t).op && list_all (is_over live nodes) (node_at nodes t).args)
over_is live nodes t args =
    at_term_is false (λ u op args. is_scripted live op && list_all (λ b. b) args) nodes t args
    ∙ ap (λ b. is_scripted live (node_at nodes t).op && b) (list_all-map (λ b. b) (is_over live nodes) (node_at nodes t).args)

-- the node of a term over the live declarations, and its arguments
pub over_node : (live : List LiveName) (nodes : List Node) → IsTermList nodes → (t : ℕ) → is_over live nodes t ≡ true → (is_scripted live (node_at nodes t).op ≡ true) × (list_all (is_over live nodes) (node_at nodes t).args ≡ true)
over_node live nodes list t h = and_parts (is_scripted live (node_at nodes t).op) (list_all (is_over live nodes) (node_at nodes t).args) (sym (over_is live nodes t (earlier nodes list t)) ∙ h)

pub scripted_names : (live : List LiveName) (op : Op) → is_scripted live op ≡ true → names_live live (declaration_of op) ≡ true
scripted_names live op h = (and_parts (not (is_witness op)) (names_live live (declaration_of op)) h).1

-- ---- more terms

pub over_longer : (live : List LiveName) (old behind : List Node) (t : ℕ) → t < length old → is_over live (old ++ behind) t ≡ is_over live old t
over_longer live old behind t lt = at_term_longer false (λ u op args. is_scripted live op && list_all (λ b. b) args) old behind t lt

pub bodies_over_longer : (live : List LiveName) (old behind : List Node) (ds : Meanings Definition) → AreBodies (length old) ds → AreOver live old ds → AreOver live (old ++ behind) ds
bodies_over_longer live old behind [] held over = tt
bodies_over_longer live old behind (d ∷ ds) held over = (over_longer live old behind d.1.body held.0 ∙ over.0, bodies_over_longer live old behind ds held.1 over.1)

pub over_grows : (signatures : List Signature) (live : List LiveName) (old new : TermsValue) (t : ℕ) → Grows signatures old new → t < length old.nodes → is_over live new.nodes t ≡ is_over live old.nodes t
over_grows signatures live old new t grows lt = ap (λ nodes. is_over live nodes t) grows.nodes ∙ over_longer live old.nodes grows.behind t lt

pub bodies_over_grows : (signatures : List Signature) (live : List LiveName) (old new : TermsValue) (ds : Meanings Definition) → Grows signatures old new → AreBodies (length old.nodes) ds → AreOver live old.nodes ds → AreOver live new.nodes ds
bodies_over_grows signatures live old new ds grows held over = rw grows.nodes (bodies_over_longer live old.nodes grows.behind ds held over)

-- ---- more live declarations

pub live_more : (live more : List LiveName) (d : ℕ) → is_live live d ≡ true → is_live (live ++ more) d ≡ true
live_more live more d h = list_any-append (λ (l : LiveName). l.declaration == d) live more ∙ or_left (is_live live d) (is_live more d) h

names_more : (live more : List LiveName) (d : Option ℕ) → names_live live d ≡ true → names_live (live ++ more) d ≡ true
names_more live more None h = refl
names_more live more (Some d) h = live_more live more d h

all_more : (f g : ℕ → Bool) → ((a : ℕ) → f a ≡ true → g a ≡ true) → (args : List ℕ) → list_all (λ b. b) (map f args) ≡ true → list_all (λ b. b) (map g args) ≡ true
all_more f g more [] h = refl
all_more f g more (a ∷ args) h = let p = and_parts (f a) (list_all (λ b. b) (map f args)) h in and_from (g a) (list_all (λ b. b) (map g args)) (more a p.0) (all_more f g more args p.1)

scripted_more : (live more : List LiveName) (op : Op) → is_scripted live op ≡ true → is_scripted (live ++ more) op ≡ true
scripted_more live more op h = let p = and_parts (not (is_witness op)) (names_live live (declaration_of op)) h in and_from _ _ p.0 (names_more live more (declaration_of op) p.1)

module _ (d : Bool) (f g : ℕ → Op → List Bool → Bool) (nodes : List Node) where
  abbrev first : ℕ → ℕ → Bool
  first n t = below false f nodes n t

  abbrev second : ℕ → ℕ → Bool
  second n t = below d g nodes n t

  -- what a recursion that begins with false finds true, another finds true too, where it does so at each node
  below_too : ((u : ℕ) (op : Op) (found wider : ℕ → Bool) → ((a : ℕ) → found a ≡ true → wider a ≡ true) → (args : List ℕ) → f u op (map found args) ≡ true → g u op (map wider args) ≡ true) → (n t : ℕ) → first n t ≡ true → second n t ≡ true
  unfolding below
  below_too too zero t h = absurd (let z : ⊥ = cc in z)
  below_too too (suc n) t h = go (t == n) (λ u. below_too too n u) h where
    go : (b : Bool) → ((u : ℕ) → first n u ≡ true → second n u ≡ true) → (if b then f n (node_at nodes n).op (map (first n) (node_at nodes n).args) else first n t) ≡ true → (if b then g n (node_at nodes n).op (map (second n) (node_at nodes n).args) else second n t) ≡ true
    go true ih k = too n (node_at nodes n).op (first n) (second n) ih (node_at nodes n).args k
    go false ih k = ih t k

pub over_more : (live more : List LiveName) (nodes : List Node) (t : ℕ) → is_over live nodes t ≡ true → is_over (live ++ more) nodes t ≡ true
over_more live more nodes t h =
    below_too false (λ u op args. is_scripted live op && list_all (λ b. b) args) (λ u op args. is_scripted (live ++ more) op && list_all (λ b. b) args) nodes
    (λ u op found wider ih args k.
    let p = and_parts (is_scripted live op) (list_all (λ b. b) (map found args)) k in
    and_from (is_scripted (live ++ more) op) (list_all (λ b. b) (map wider args)) (scripted_more live more op p.0) (all_more found wider ih args p.1))
    (suc t) t h

pub bodies_over_more : (live more : List LiveName) (nodes : List Node) (ds : Meanings Definition) → AreOver live nodes ds → AreOver (live ++ more) nodes ds
bodies_over_more live more nodes [] over = tt
bodies_over_more live more nodes (d ∷ ds) over = (over_more live more nodes d.1.body over.0, bodies_over_more live more nodes ds over.1)

-- ---- witnesses

each_is_all : (bs : List Bool) → each_true bs ≡ list_all (λ b. b) bs
each_is_all [] = refl
each_is_all (b ∷ bs) = ap (λ c. b && c) (each_is_all bs)

-- no witness stands in a term over the live declarations
pub over_has_no_witness : (live : List LiveName) (nodes : List Node) (t : ℕ) → is_over live nodes t ≡ true → has_no_witness nodes t ≡ true
over_has_no_witness live nodes t h =
    below_too true (λ u op args. is_scripted live op && list_all (λ b. b) args) (λ u op bs. not (is_witness op) && each_true bs) nodes
    (λ u op found wider ih args k.
    let p = and_parts (is_scripted live op) (list_all (λ b. b) (map found args)) k in
    let q = and_parts (not (is_witness op)) (names_live live (declaration_of op)) p.0 in
    and_from (not (is_witness op)) (each_true (map wider args)) q.0 (each_is_all (map wider args) ∙ all_more found wider ih args p.1))
    (suc t) t h

-- ---- terms that are read

-- the term is held, and over the live declarations where the terms are well sorted
abbrev pub IsOver : List LiveName → TermsValue → ℕ → Type 0
IsOver live v t = (t < length v.nodes) × (IsTermList v.nodes → is_over live v.nodes t ≡ true)

over_on : (signatures : List Signature) (live : List LiveName) (old new : TermsValue) (t : ℕ) → GoOn signatures old new → IsOver live old t → IsOver live new t
over_on signatures live old new t p h = (
  omega (arith, h.0, longer signatures old new p.grows),
  λ list. over_grows signatures live old new t p.grows h.0 ∙ h.1 (list_before signatures old new p list),
)

-- of a list all terms are
all_over : (live : List LiveName) (v : TermsValue) (args : List ℕ) → IsTermList v.nodes → AllByRecursion (IsOver live v) args → list_all (is_over live v.nodes) args ≡ true
all_over live v [] list h = refl
all_over live v (a ∷ args) list h = and_from (is_over live v.nodes a) (list_all (is_over live v.nodes) args) (h.0.1 list) (all_over live v args list h.1)

all_over_on : (signatures : List Signature) (live : List LiveName) (old new : TermsValue) (args : List ℕ) → GoOn signatures old new → AllByRecursion (IsOver live old) args → AllByRecursion (IsOver live new) args
all_over_on signatures live old new [] p h = tt
all_over_on signatures live old new (a ∷ args) p h = (over_on signatures live old new a p h.0, all_over_on signatures live old new args p h.1)

each_over : (live : List LiveName) (v : TermsValue) (args : List ℕ) → AllByRecursion (λ a. a < length v.nodes) args → list_all (is_over live v.nodes) args ≡ true → AllByRecursion (IsOver live v) args
each_over live v [] held h = tt
each_over live v (a ∷ args) held h = let p = and_parts (is_over live v.nodes a) (list_all (is_over live v.nodes) args) h in ((held.0, λ list. p.0), each_over live v args held.1 p.1)

over_parts : (live : List LiveName) (v : TermsValue) (t : ℕ) → IsTermList v.nodes → IsOver live v t → AllByRecursion (IsOver live v) (node_at v.nodes t).args
over_parts live v t list h = each_over live v (node_at v.nodes t).args (all_within t (length v.nodes) (omega (arith, h.0)) (node_at v.nodes t).args (list t h.0).earlier) (over_node live v.nodes list t (h.1 list)).1

over_made : (signatures : List Signature) (live : List LiveName) (old new : TermsValue) (n : Node) (t : ℕ) → GoOn signatures old new → (IsTermList new.nodes → is_scripted live n.op ≡ true) → AllByRecursion (IsOver live old) n.args → make old n ≡ Ok (t, new) → IsOver live new t
over_made signatures live old new n t p scripted h e =
    let m = making.made old new n t e in (
      m.within,
      λ list.
          over_is live new.nodes t (list t m.within).earlier
          ∙ ap (λ (x : Node). is_scripted live x.op && list_all (is_over live new.nodes) x.args) m.node
          ∙ and_from _ _ (scripted list) (all_over live new n.args list (all_over_on signatures live old new n.args p h)),
    )

pub over_kept : (symbols : SymbolsValue) → IsKept symbols (IsOver symbols.live)
over_kept symbols = record {
  on = over_on symbols.signatures symbols.live;
  parts = over_parts symbols.live;
  made = λ old new n t k h e. over_made symbols.signatures symbols.live old new n t (go_made symbols.signatures old new n t (λ _. k.declared) e) (λ list. k.scripted) h e;
  again = λ first old new u args t p q list h k e. over_made symbols.signatures symbols.live old new (node_of (node_at first.nodes u).op args) t q
      (λ sorted. (let before = list_before symbols.signatures first old p (list_before symbols.signatures old new q sorted) in (over_node symbols.live first.nodes before u (h.1 before)).0)) k e;
  sorted = λ terms t lt h. (lt, λ list. (h list).1 list);
}

pub bodies_are_over : (symbols : SymbolsValue) (v : TermsValue) (ds : Meanings Definition) → AreBodies (length v.nodes) ds → AreOver symbols.live v.nodes ds → BodiesHave symbols (IsOver symbols.live) v ds
bodies_are_over symbols v [] held over = tt
bodies_are_over symbols v (d ∷ ds) held over = ((held.0, λ list. over.0), bodies_are_over symbols v ds held.1 over.1)

pub bodies_over : (symbols : SymbolsValue) (v : TermsValue) (ds : Meanings Definition) → IsTermList v.nodes → BodiesHave symbols (IsOver symbols.live) v ds → AreOver symbols.live v.nodes ds
bodies_over symbols v [] list h = tt
bodies_over symbols v (d ∷ ds) list h = (h.0.1 list, bodies_over symbols v ds list h.1)

-- where the bodies of definitions are over the live declarations, so is a term that is read
pub read_is_over : (symbols : SymbolsValue) (terms new : TermsValue) (ps : Parameters) (e : Sexp) (t : ℕ) → IsTermList terms.nodes → AreBodies (length terms.nodes) symbols.definitions → AreOver symbols.live terms.nodes symbols.definitions → term_over symbols terms ps e ≡ Ok (t, new) → is_over symbols.live new.nodes t ≡ true
read_is_over symbols terms new ps e t list bodies over is =
    let P : Built → Type 0 = Keeps symbols (IsOver symbols.live) terms in
    let h = subst P is (kept_readings.keeps_term symbols (IsOver symbols.live) (over_kept symbols) terms ps e (bodies_are_over symbols terms symbols.definitions bodies over)) in
    h.1.1 (h.0.list list)

pub term_is_over : (symbols : SymbolsValue) (terms new : TermsValue) (e : Sexp) (t : ℕ) → IsTermList terms.nodes → AreBodies (length terms.nodes) symbols.definitions → AreOver symbols.live terms.nodes symbols.definitions → term_of symbols terms e ≡ Ok (t, new) → is_over symbols.live new.nodes t ≡ true
term_is_over symbols terms new e t list bodies over is = read_is_over symbols terms new [] e t list bodies over is
