-- The values of declarations in an interpretation that is a model are a written model.
use Rattle.std.proofs.Common.{◌≡◌, ℕ, zero, suc, ◌+◌, ◌<◌, Bool, true, false, List, [], ◌∷◌, ◌++◌, length, get_or, map, take, Some, Ok, refl, sym, ap, ◌∙◌, subst, arith}
use Rattle.std.specs.Prelude.{◌==◌, ◌||◌, if◌then◌else◌, All, Option, IsSome, slice_get}
use Rattle.std.specs.List.{AllByRecursion}
use Rattle.std.proofs.lemmas.Bool.{eqb-true, eq-eqb}
use Rattle.std.proofs.lemmas.List.{take_more, map_push}
use Rattle.std.proofs.lemmas.Option.{slice_get-get_or, slice_get_within}
use Rattle.cnf_base.proofs.Lists.{each_append}
use Rattle.smt_terms.specs.declared.sort.Sort.{Sort}
use Rattle.smt_terms.specs.declared.sort.Sort.TheVariants as sort
use Rattle.smt_terms.specs.declared.sort.Signature.{Signature}
use Rattle.smt_terms.specs.declared.node.Op.{Op}
use Rattle.smt_terms.specs.declared.node.Op.TheVariants.{Plain, Word, Extract, ZeroExtend, SignExtend, RotateLeft, RotateRight, Repeat, ConstantArray, Constant, Apply, Param}
use Rattle.smt_terms.specs.Nodes.{node_at}
use Rattle.smt_terms.specs.Ranks.{is_plain}
use Rattle.smt_terms.specs.Terms.{op_rank, sort_of, declaration_of, constant_signature, signature_of}
use Rattle.smt_terms.specs.Values.{Interpretation, is_true, read_at, value}
use Rattle.smt_values.specs.declared.value.Value.{Value}
use Rattle.smt_values.specs.declared.value.Value.TheVariants as held
use Rattle.smt_values.specs.Held.{meaning, function, constant_of, function_of}
use Rattle.smt_build.specs.declared.symbols.LiveName.{LiveName}
use Rattle.smt_build.specs.Scoped.{is_live, names_live, is_over}
use Rattle.script_state.specs.States.{StateValue, IsState, IsTaken, assumptions}
use Rattle.proof_text.specs.Records.{written_value, AreWritten}
use Rattle.proof_text.specs.declared.record.Record.TheVariants.{Sat}
use Rattle.accepted_proof.specs.Models.{IsModel, IsOfSignature, IsWrittenModel, value_for, interpretation_of}
use Rattle.written_models.specs.Alike.{AreAlike}
use Rattle.written_models.specs.Reading.{IsDeclarable, IsReading}
use Rattle.written_models.specs.Written.{interpretation_by, IsDeclaredReading, AreReadings}
use Rattle.written_models.proofs.Likeness.{IsLike}
use Rattle.written_models.proofs.LikeTerms.{alike_values}
use Rattle.written_models.proofs.Reading.{kind_read, read_again}

-- ---- the values of all

-- a declaration that was made has such a signature
pub made_declarable : (s : StateValue) (d : ℕ) (g : Signature) → IsState s → slice_get s.symbols.signatures d ≡ Some g → IsDeclarable g
made_declarable s d g state made =
    let lt = slice_get_within s.symbols.signatures d g made in
    let same : Some (get_or s.symbols.signatures d g) ≡ Some g = sym (slice_get-get_or s.symbols.signatures d g lt) ∙ made in
    let own : get_or s.symbols.signatures d g ≡ g = cc in
    let h : IsTaken (get_or s.symbols.signatures d g) = state.constants d g lt in
    subst IsDeclarable own (record { value = h.value; args = h.args; plain = h.plain })

items_more : (signatures : List Signature) (found : ℕ → Option Value) (live : List LiveName) (items : List (ℕ × Value)) (l : LiveName) (x : Value) → AreReadings signatures found live items → IsDeclaredReading signatures found (l.declaration, x)
    → AreReadings signatures found (live ++ l ∷ []) (items ++ (l.declaration, x) ∷ [])
items_more signatures found live items l x h k = record {
  listed = map_push (λ (p : ℕ × Value). p.0) items (l.declaration, x) ∙ ap (λ r. r ++ l.declaration ∷ []) h.listed ∙ sym (map_push (λ (y : LiveName). y.declaration) live l);
  each = each_append (IsDeclaredReading signatures found) items ((l.declaration, x) ∷ []) h.each (k, tt);
}

pub items_next : (signatures : List Signature) (found : ℕ → Option Value) (whole live : List LiveName) (items : List (ℕ × Value)) (k : ℕ) (l : LiveName) (g : Signature) (x : Value) → whole ≡ live → k < length whole → l ≡ get_or whole k l
    → slice_get signatures l.declaration ≡ Some g → IsReading g (found l.declaration) x → AreReadings signatures found (take k live) items → AreReadings signatures found (take (k + 1) live) (items ++ (l.declaration, x) ∷ [])
items_next signatures found whole live items k l g x same lt at declared is h =
    let within : k < length live = subst (λ ls. k < length ls) same lt in
    let item : l ≡ get_or live k l = subst (λ ls. l ≡ get_or ls k l) same at in
    let front : take (k + 1) live ≡ take k live ++ l ∷ [] = take_more live k l within ∙ ap (λ y. take k live ++ y ∷ []) (sym item) in
    subst (λ ls. AreReadings signatures found ls (items ++ (l.declaration, x) ∷ [])) (sym front) (items_more signatures found (take k live) items l x h (record { signature = g; declared = declared; is = is }))

-- ---- a live declaration has a value

value_found : (P : ℕ × Value → Type 0) (values : List (ℕ × Value)) (d k : ℕ) → AllByRecursion P values → slice_get (map (λ (p : ℕ × Value). p.0) values) k ≡ Some d → (x : Value) × (value_for values d ≡ Some x) × P (d, x)
value_found P [] d k h e = let q : ⊥ = cc in absurd q
value_found P (p ∷ ps) d k h e = go (d == p.0) refl k (λ j q. value_found P ps d j h.1 q) e
  where
    go : (b : Bool) → (d == p.0) ≡ b → (k : ℕ) → ((j : ℕ) → slice_get (map (λ (p : ℕ × Value). p.0) ps) j ≡ Some d → (x : Value) × (value_for ps d ≡ Some x) × P (d, x))
        → slice_get (p.0 ∷ map (λ (p : ℕ × Value). p.0) ps) k ≡ Some d → (x : Value) × ((if b then Some p.1 else value_for ps d) ≡ Some x) × P (d, x)
    go true q k rest e = (p.1, refl, subst (λ y. P (y, p.1)) (sym (eqb-true d p.0 q)) h.0)
    go false q zero rest e = let r : p.0 ≡ d = cc in let t : (d == p.0) ≡ true = eq-eqb d p.0 (sym r) in let f : ⊥ = cc in absurd f
    go false q (suc k) rest e = rest k e

-- where a live name has a declaration
live_at : (live : List LiveName) (d : ℕ) → is_live live d ≡ true → (k : ℕ) × (slice_get (map (λ (l : LiveName). l.declaration) live) k ≡ Some d)
live_at [] d h = let q : ⊥ = cc in absurd q
live_at (l ∷ live) d h = go (l.declaration == d) refl (λ q. live_at live d q) h
  where
    go : (b : Bool) → (l.declaration == d) ≡ b → (is_live live d ≡ true → (k : ℕ) × (slice_get (map (λ (l : LiveName). l.declaration) live) k ≡ Some d)) → (b || is_live live d) ≡ true
        → (k : ℕ) × (slice_get (l.declaration ∷ map (λ (l : LiveName). l.declaration) live) k ≡ Some d)
    go true q rest h = (0, ap Some (eqb-true l.declaration d q))
    go false q rest h = let r = rest h in (suc r.0, r.1)

-- a function has arguments
some_arguments : (d : ℕ) (g : Signature) (ss : List Sort) (s : Sort) → op_rank (Apply d g) ss ≡ Ok s → g.args ≡ [] → ⊥
some_arguments d g ss s e none = bad ss (subst (λ as'. op_rank (Apply d (record { args = as'; value = g.value })) ss ≡ Ok s) none e) where
  bad : (ss : List Sort) → op_rank (Apply d (record { args = []; value = g.value })) ss ≡ Ok s → ⊥
  bad [] h = let f : ⊥ = cc in f
  bad (x ∷ ss) h = let f : ⊥ = cc in f

-- ---- the model

module _ (s : StateValue) (found : ℕ → Option Value) (values : List (ℕ × Value)) (state : IsState s) (items : AreReadings s.symbols.signatures found s.symbols.live values) where
  abbrev M : Interpretation
  M = interpretation_by found

  abbrev N : Interpretation
  N = interpretation_of values

  -- a live declaration has a value, which is what is set for it, read at this signature
  reading : (d : ℕ) (g : Signature) → is_live s.symbols.live d ≡ true → slice_get s.symbols.signatures d ≡ Some g → (x : Value) × (value_for values d ≡ Some x) × IsReading g (found d) x
  reading d g live declared =
      let name = live_at s.symbols.live d live in
      let r = value_found (IsDeclaredReading s.symbols.signatures found) values d name.0 items.each (ap (λ xs. slice_get xs name.0) items.listed ∙ name.1) in
      let same : Some r.2.signature ≡ Some g = sym r.2.declared ∙ declared in
      let own : r.2.signature ≡ g = cc in
      let x = r.0 in
      (r.0, r.1, subst (λ h. IsReading h (found d) x) own r.2.is)

  constant_like : (d : ℕ) (q : Sort) → is_live s.symbols.live d ≡ true → slice_get s.symbols.signatures d ≡ Some (constant_signature q) → IsLike M N (Constant d q)
  constant_like d q live declared =
      let r = reading d (constant_signature q) live declared in
      let x = r.0 in
      let reads : read_at q (constant_of (value_for values d)) ≡ meaning r.0 = ap (λ o. read_at q (constant_of o)) r.1 ∙ kind_read q x r.2.own in
      subst (AreAlike q (read_at q (constant_of (found d)))) (sym reads) (r.2.constant refl)

  function_like : (d : ℕ) (g : Signature) → (g.args ≡ [] → ⊥) → is_plain g.value ≡ true → is_live s.symbols.live d ≡ true → slice_get s.symbols.signatures d ≡ Some g → IsLike M N (Apply d g)
  function_like d g some plain live declared vs sorted =
      let r = reading d g live declared in
      let x = r.0 in
      let own : read_at g.value (function_of (found d) vs) ≡ function r.0 vs = r.2.function some vs sorted in
      sym (read_again g.value (function_of (found d) vs) plain) ∙ ap (read_at g.value) own ∙ sym (ap (λ o. read_at g.value (function_of o vs)) r.1)

  -- what terms over the live declarations name is alike
  like_by : (op : Op) (ss : List Sort) (q : Sort) → op_rank op ss ≡ Ok q → ((d : ℕ) → declaration_of op ≡ Some d → slice_get s.symbols.signatures d ≡ Some (signature_of op)) → names_live s.symbols.live (declaration_of op) ≡ true → IsLike M N op
  like_by (Plain o) ss q e declared live = tt
  like_by (Word n x) ss q e declared live = tt
  like_by (Extract i j) ss q e declared live = tt
  like_by (ZeroExtend i) ss q e declared live = tt
  like_by (SignExtend i) ss q e declared live = tt
  like_by (RotateLeft i) ss q e declared live = tt
  like_by (RotateRight i) ss q e declared live = tt
  like_by (Repeat i) ss q e declared live = tt
  like_by (ConstantArray k) ss q e declared live = tt
  like_by (Constant d r) ss q e declared live = constant_like d r live (declared d refl)
  like_by (Apply d g) ss q e declared live =
      let some = some_arguments d g ss q e in
      let made : slice_get s.symbols.signatures d ≡ Some g = declared d refl in
      function_like d g some ((made_declarable s d g state made).plain some) live made
  like_by (Param k t) ss q e declared live = tt

  like : (t : ℕ) → t < length s.terms.nodes → names_live s.symbols.live (declaration_of (node_at s.terms.nodes t).op) ≡ true → IsLike M N (node_at s.terms.nodes t).op
  like t lt live = like_by (node_at s.terms.nodes t).op (map (sort_of s.terms.nodes) (node_at s.terms.nodes t).args) (sort_of s.terms.nodes t) (state.terms t lt).rank (λ d e. state.declared.each t d e) live

  same_truth : (t : ℕ) → t < length s.terms.nodes → sort_of s.terms.nodes t ≡ sort.Bool → is_over s.symbols.live s.terms.nodes t ≡ true → is_true (value M s.terms.nodes t) ≡ true → is_true (value N s.terms.nodes t) ≡ true
  same_truth t lt bool over h =
      let own = alike_values s.symbols.live s.terms.nodes state.terms M N like t lt over in
      let same : value M s.terms.nodes t ≡ value N s.terms.nodes t = subst (λ q. AreAlike q (value M s.terms.nodes t) (value N s.terms.nodes t)) bool own in
      sym (ap is_true same) ∙ h

  model : IsModel s M → IsModel s N
  model h = record {
    asserted = λ k a lt. same_truth (get_or s.scopes.live k a).term (state.held k a lt) (state.truths k a lt) (state.closed.terms k a lt) (h.asserted k a lt);
    assumed = λ k a lt. (let own = state.assumed k a lt in same_truth (get_or (assumptions s) k a).term own.held own.truth own.closed (h.assumed k a lt));
  }

  sorted_of : (xs : List (ℕ × Value)) → AllByRecursion (IsDeclaredReading s.symbols.signatures found) xs → All (λ (p : ℕ × Value). IsOfSignature p.1 (slice_get s.symbols.signatures p.0)) xs
  sorted_of [] h k d lt = absurd (omega (arith, lt))
  sorted_of (p ∷ ps) h zero d lt = subst (IsOfSignature p.1) (sym h.0.declared) h.0.is.own
  sorted_of (p ∷ ps) h (suc k) d lt = sorted_of ps h.1 k d (omega (arith, lt))

  is_written : (v : Value) → IsSome (written_value v)
  is_written (held.Bool b) = refl
  is_written (held.Word w) = refl
  is_written (held.Array a) = refl
  is_written (held.Fun t) = refl

  written_all : (xs : List (ℕ × Value)) → AreWritten (Sat xs)
  written_all [] = tt
  written_all (p ∷ ps) = (is_written p.1, written_all ps)

  pub written : IsModel s M → AreWritten (Sat values) × IsWrittenModel s values
  written h = (written_all values, record { listed = items.listed; sorted = sorted_of values items.each; model = model h })
