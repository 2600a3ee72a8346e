-- What a checker holds of a text to which lines are added.
use Rattle.std.proofs.Common.{◌≡◌, ℕ, ◌+◌, ◌^◌, ◌<◌, ◌≤◌, Bool, true, false, List, [], ◌∷◌, ◌++◌, length, Option, Some, None, Ok, Err, refl, sym, ap, ◌∙◌, subst, inl, inr, ⊎_elim, arith, append-nil, append_assoc}
use Rattle.std.specs.Prelude.{◌⊎◌, ◌||◌, if◌then◌else◌, Contains, map, Result, IfErr, IsErrAnd}
use Rattle.std.specs.List.{AllByRecursion}
use Rattle.std.specs.Io.KnownBytes.{Appends}
use Rattle.std.proofs.KnownBytes.{Appends-nil, Appends-trans}
use Rattle.cnf_base.specs.Literals.{Literal, negated}
use Rattle.cnf_base.specs.declared.clause.ClauseId.{ClauseId}
use Rattle.cnf_base.proofs.Lists.{Contains-nil, Contains-first, Contains-later, Contains-slice_get}
use Rattle.hint_chain.specs.Chains.{Lookup, ChainFrom, IsChain}
use Rattle.hint_chain.proofs.Growing.{IsChain-grows}
use Rattle.cdcl_core.specs.declared.watches.Watches.{Watches}
use Rattle.cdcl_core.specs.Search.{clause_of}
use Rattle.cdcl_learn.specs.Puts.{StandsIn, IsAgainst}
use Rattle.dimacs_front.specs.Cnf.{CnfValue}
use Rattle.dimacs_front.specs.Lrat.{Judged, nothing_judged, lrat_of, lrat_goes_on}
use Rattle.dimacs_front.specs.Chains.{look_in}
use Rattle.dimacs_front.proofs.Hints.{lrat_rest_none, lrat_end_ok}
use Rattle.dimacs_search.specs.Writing.{IsWritable, MayBeAdded, added_text, with_line}
use Rattle.dimacs_search.specs.declared.outcome.Failure.{Failure}
use Rattle.dimacs_search.specs.declared.outcome.Failure.TheVariants.{Unwritten, NoMemory}
use Rattle.dimacs_search.specs.Solving.{AreOf, HaveTheirVariables, AddsTo, HasCause, IsRefuted}
use Rattle.dimacs_search.specs.Searching.{at_number, AreOnly, AreFresh, IsRead, IsTelling}
use Rattle.dimacs_search.proofs.Reading.{line_reads_back}
use Rattle.dimacs_search.proofs.Tables.{number_size, number_even, held_before, held_now, held_first, first_even}

each_from : {A : Type 0} (P : A → Type 0) (xs : List A) → ((x : A) → Contains xs x → P x) → AllByRecursion P xs
each_from P [] f = tt
each_from P (x ∷ xs) f = (f x (Contains-first x xs), each_from P xs (λ y c. f y (Contains-later x y xs c)))

-- ---- a line may be added

chain_writable : (look : Lookup) (trues : List Literal) (hints : List ClauseId) → ((id : ClauseId) (c : List Literal) → look id ≡ Some c → IsWritable id.pos) → ChainFrom look trues hints → AllByRecursion (λ i. IsWritable i.pos) hints
chain_writable look trues [] f k = absurd k
chain_writable look trues (i ∷ []) f k = (f i k.0 k.1, tt)
chain_writable look trues (i ∷ j ∷ is) f k = (f i k.0 k.2, chain_writable look (trues ++ k.1 ∷ []) (j ∷ is) f k.4)

hints_writable : (look : Lookup) (clause : List Literal) (hints : List ClauseId) → ((id : ClauseId) (c : List Literal) → look id ≡ Some c → IsWritable id.pos) → IsChain look clause hints → AllByRecursion (λ i. IsWritable i.pos) hints
hints_writable look clause hints f (inl p) = subst (AllByRecursion (λ i. IsWritable i.pos)) (sym p.1) tt
hints_writable look clause hints f (inr p) = chain_writable look (map negated clause) hints f p.1

may_be_added : (cnf : CnfValue) (look : Lookup) (n : ℕ) (text : List ℕ) (c : List Literal) (hints : List ClauseId) (r : IsRead cnf look n text) → IsChain look c hints → AreOf cnf.variables c → IsWritable n → MayBeAdded r.judged n c hints
may_be_added cnf look n text c hints r chain among writable = record {
  above = r.below;
  writable = writable;
  literals = each_from (λ l. (0 < l.variable) × (l.variable ≤ r.judged.variables)) c (λ l m. let a = among l m in (a.0, omega (arith, a.1, r.variables)));
  few = omega (arith, r.few, r.variables);
  names = hints_writable look c hints (λ id d e. let k = r.numbers id d e in (k.0, omega (arith, k.1, writable.1))) chain;
  chain = IsChain-grows look (look_in r.judged.judging.table) r.finds c hints chain;
}

reads_line : (cnf : CnfValue) (look : Lookup) (n : ℕ) (text : List ℕ) (c : List Literal) (hints : List ClauseId) (r : IsRead cnf look n text) → IsChain look c hints → AreOf cnf.variables c → IsWritable n → (rest : List ℕ) → lrat_of cnf ((text ++ added_text n c hints) ++ rest) ≡ lrat_goes_on (with_line r.judged n c) rest
reads_line cnf look n text c hints r chain among writable rest =
    ap (lrat_of cnf) (append_assoc text (added_text n c hints) rest) ∙ r.reads (added_text n c hints ++ rest)
    ∙ line_reads_back r.judged n c hints rest r.whole (may_be_added cnf look n text c hints r chain among writable)

-- ---- what is read

-- what can be looked up then could before, or is the clause that came
abbrev pub MoreBy : ℕ → List Literal → Lookup → Lookup → Type 0
MoreBy n c look more = (id : ClauseId) (d : List Literal) → more id ≡ Some d → (look id ≡ Some d) ⊎ ((id ≡ at_number n) × (d ≡ c))

pub read_more : (cnf : CnfValue) (look more : Lookup) (n : ℕ) (text : List ℕ) (c : List Literal) (hints : List ClauseId) → IsRead cnf look n text → IsChain look c hints → AreOf cnf.variables c → IsWritable n → MoreBy n c look more → IsRead cnf more (n + 1) (text ++ added_text n c hints)
read_more cnf look more n text c hints r chain among writable came =
    let t = r.judged.judging.table in
    record {
      judged = with_line r.judged n c;
      reads = reads_line cnf look n text c hints r chain among writable;
      whole = refl;
      variables = r.variables;
      few = r.few;
      below = omega (arith, number_size t n c r.below);
      even = number_even t n c r.below r.even;
      finds = λ id d e. ⊎_elim
          (λ p. held_before t n c r.below id.pos d (r.finds id d p))
          (λ p. rw (p.0, p.1) (held_now t n c r.below r.even))
          (came id d e);
      numbers = λ id d e. ⊎_elim
          (λ p. let k = r.numbers id d p in (k.0, omega (arith, k.1)))
          (λ p. let k : id.pos ≡ n = ap (λ (q : ClauseId). q.pos) p.0 in (omega (arith, k, writable.0), omega (arith, k)))
          (came id d e);
      literals = λ id d e. ⊎_elim
          (λ p. r.literals id d p)
          (λ p. subst (AreOf cnf.variables) (sym p.1) among)
          (came id d e);
    }

or_true : (b : Bool) → (b || true) ≡ true
or_true true = refl
or_true false = refl

-- where the empty clause was added the text refutes the clauses
pub read_refutes : (cnf : CnfValue) (look : Lookup) (n : ℕ) (text : List ℕ) (c : List Literal) (hints : List ClauseId) → IsRead cnf look n text → IsChain look c hints → c ≡ [] → IsWritable n → lrat_of cnf (text ++ added_text n c hints) ≡ Ok tt
read_refutes cnf look n text c hints r chain none writable =
    let among : AreOf cnf.variables c = λ l m. absurd (Contains-nil l (subst (λ (ls : List Literal). Contains ls l) none m)) in
    let j : Judged = with_line r.judged n c in
    let refuted : j.judging.is_refuted ≡ true = rw none (or_true r.judged.judging.is_refuted) in
    ap (lrat_of cnf) (sym (append-nil (text ++ added_text n c hints)))
    ∙ reads_line cnf look n text c hints r chain among writable []
    ∙ lrat_rest_none j refl ∙ lrat_end_ok j refuted

pub read_same : (cnf : CnfValue) (look more : Lookup) (n : ℕ) (text : List ℕ) → ((id : ClauseId) → more id ≡ look id) → IsRead cnf look n text → IsRead cnf more n text
read_same cnf look more n text same r = record {
  judged = r.judged;
  reads = r.reads;
  whole = r.whole;
  variables = r.variables;
  few = r.few;
  below = r.below;
  even = r.even;
  finds = λ id c e. r.finds id c (sym (same id) ∙ e);
  numbers = λ id c e. r.numbers id c (sym (same id) ∙ e);
  literals = λ id c e. r.literals id c (sym (same id) ∙ e);
}

-- before anything is written a checker holds the clauses
pub read_first : (cnf : CnfValue) (w : Watches) (n : ℕ) → n ≡ length cnf.clauses + 1 → HaveTheirVariables cnf → cnf.variables < 2 ^ 60 → AreOnly cnf (length cnf.clauses) w → IsRead cnf (clause_of w) n []
read_first cnf w n size theirs few only = record {
  judged = nothing_judged cnf;
  reads = λ rest. refl;
  whole = refl;
  variables = refl;
  few = few;
  below = omega (arith, size);
  even = first_even cnf.clauses;
  finds = λ id c e. let o = only id c e in rw o.2 (held_first cnf.clauses o.0 c o.3);
  numbers = λ id c e. let o = only id c e in let p : id.pos ≡ o.0 + 1 = ap (λ (q : ClauseId). q.pos) o.2 in (omega (arith, p), omega (arith, p, o.1, size));
  literals = λ id c e. let o = only id c e in theirs c (Contains-slice_get cnf.clauses o.0 c o.3);
}

-- the literals of a learnt clause are those of its hints
pub learnt_of : (cnf : CnfValue) (look : Lookup) (n : ℕ) (text : List ℕ) (c : List Literal) (hints : List ClauseId) → IsRead cnf look n text → ((l : Literal) → Contains c l → StandsIn look hints l) → AreOf cnf.variables c
learnt_of cnf look n text c hints r stands l m = let s = stands l m in r.literals s.0 s.1.0 s.1.1.1.0 l s.1.1.1.1

-- under no later number a clause is kept
pub read_fresh : (cnf : CnfValue) (w : Watches) (n : ℕ) (text : List ℕ) → IsRead cnf (clause_of w) n text → AreFresh w n
read_fresh cnf w n text r id le = go (clause_of w id) refl
  where
    go : (o : Option (List Literal)) → clause_of w id ≡ o → clause_of w id ≡ None
    go None e = e
    go (Some c) e = let k = r.numbers id c e in absurd (omega (arith, k.1, le))

-- ---- what is told

pub telling_first : (cnf : CnfValue) (look : Lookup) (n : ℕ) (old : Option (List ℕ)) (waiting : List ℕ) → waiting ≡ [] → IsRead cnf look n [] → IsTelling cnf look n old old waiting
telling_first cnf look n old waiting none r = record { told = []; written = Appends-nil old; read = rw none r }

-- lines of those that wait were written
pub telling_written : (cnf : CnfValue) (look : Lookup) (n : ℕ) (old mid new : Option (List ℕ)) (waiting told rest : List ℕ) → IsTelling cnf look n old mid waiting → Appends mid new told → waiting ≡ told ++ rest → IsTelling cnf look n old new rest
telling_written cnf look n old mid new waiting told rest t a e = record {
  told = t.told ++ told;
  written = Appends-trans old mid new t.told told t.written a;
  read = subst (IsRead cnf look n) (ap (λ x. t.told ++ x) e ∙ sym (append_assoc t.told told rest)) t.read;
}

-- no literal is the opposite of one that is given, where none is
pub against_none : (given clause : List Literal) → given ≡ [] → IsAgainst given clause → clause ≡ []
against_none given [] none h = refl
against_none given (l ∷ ls) none h = absurd (Contains-nil (negated l) (subst (λ (xs : List Literal). Contains xs (negated l)) none (h l (Contains-first l ls))))

-- ---- bytes that were written

pub adds_none : (old : Option (List ℕ)) → AddsTo old old
adds_none old = ([], Appends-nil old)

pub adds_then : (old mid new : Option (List ℕ)) → AddsTo old mid → AddsTo mid new → AddsTo old new
adds_then old mid new a b = (a.0 ++ b.0, Appends-trans old mid new a.0 b.0 a.1 b.1)

pub telling_adds : (cnf : CnfValue) (look : Lookup) (n : ℕ) (old new : Option (List ℕ)) (waiting : List ℕ) → IsTelling cnf look n old new waiting → AddsTo old new
telling_adds cnf look n old new waiting t = (t.told, t.written)

-- the last lines were written
pub telling_refuted : (cnf : CnfValue) (look : Lookup) (n : ℕ) (old mid new : Option (List ℕ)) (waiting last : List ℕ) → (t : IsTelling cnf look n old mid waiting) → lrat_of cnf (t.told ++ last) ≡ Ok tt → Appends mid new last → IsRefuted cnf old new
telling_refuted cnf look n old mid new waiting last t e a = (t.told ++ last, Appends-trans old mid new t.told last t.written a, e)

-- a clause came, and its line
pub telling_more : (cnf : CnfValue) (look more : Lookup) (n m : ℕ) (old mid : Option (List ℕ)) (waiting now : List ℕ) → IsTelling cnf look n old mid waiting → ((told : List ℕ) → IsRead cnf look n (told ++ waiting) → IsRead cnf more m (told ++ now)) → IsTelling cnf more m old mid now
telling_more cnf look more n m old mid waiting now t f = record { told = t.told; written = t.written; read = f t.told t.read }

pub telling_same : (cnf : CnfValue) (look more : Lookup) (n : ℕ) (old new : Option (List ℕ)) (waiting : List ℕ) → ((id : ClauseId) → more id ≡ look id) → IsTelling cnf look n old new waiting → IsTelling cnf more n old new waiting
telling_same cnf look more n old new waiting same t = record { told = t.told; written = t.written; read = read_same cnf look more n (t.told ++ waiting) same t.read }

pub cause_later : (a b c : ℕ) (f : Failure) → a ≤ b → HasCause b c f → HasCause a c f
cause_later a b c Unwritten le h = omega (arith, le, h)
cause_later a b c NoMemory le h = tt

-- what holds of an error that is answered
pub err_more : {T E : Type 0} (r : Result T E) (P Q : E → Type 0) → ((e : E) → Q e → P e) → IsErrAnd r Q → IfErr r P
err_more (Ok x) P Q f h = tt
err_more (Err e) P Q f h = f e h

-- where a line was put the next number is one more
pub telling_put : (cnf : CnfValue) (look more : Lookup) (n : ℕ) (old mid : Option (List ℕ)) (waiting now : List ℕ) (put b : Bool) → put ≡ b → IsTelling cnf look n old mid waiting → ((told : List ℕ) → IsRead cnf look n (told ++ waiting) → IsRead cnf more (if put then n + 1 else n) (told ++ now)) → IsTelling cnf more (if b then n + 1 else n) old mid now
telling_put cnf look more n old mid waiting now put b e t f =
    telling_more cnf look more n (if b then n + 1 else n) old mid waiting now t (λ told r. subst (λ (x : Bool). IsRead cnf more (if x then n + 1 else n) (told ++ now)) e (f told r))
