-- What a clause blames.
use Rattle.std.proofs.Common.{◌≡◌, ℕ, ◌+◌, ◌<◌, Bool, true, false, List, [], ◌∷◌, ◌++◌, length, map, get_or, take, Option, Some, None, refl, sym, ap, ◌∙◌, append-nil}
use Rattle.std.specs.Prelude.{cond, filter, option_to_list}
use Rattle.std.specs.List.{flat_map}
use Rattle.std.proofs.lemmas.List.{map-append, take_more}
use Rattle.std.proofs.lemmas.List.Elements.{filter-append}
use Rattle.std.specs.Ordering.{nat_cmp}
use Rattle.std.specs.BTreeSet.{BTreeSet, contains}
use Rattle.std.proofs.lemmas.Grind.{flat_map-append}
use Rattle.cnf_base.specs.Literals.{Literal, negated, code_of}
use Rattle.smt_terms.specs.declared.node.Node.{Node}
use Rattle.smt_terms.specs.Bits.{bits_in}
use Rattle.smt_text.specs.Printing.{symbol_text}
use Rattle.scope_selectors.specs.declared.live.Live.{Live}
use Rattle.scope_selectors.specs.Cores.{stands}
use Rattle.script_state.specs.declared.answer.Asked.{Asked}
use Rattle.proof_log.specs.Logs.{Asserted, state_of, clause_at}
use Rattle.proof_log.specs.Stored.{LogValue, Stands, selector_in, literal_of}
use Rattle.proof_log.proofs.Standing.{stands_over}
use Rattle.proof_text.specs.declared.record.Record.{Record}
use Rattle.proof_text.specs.declared.record.Record.TheVariants.{Unsat}
use Rattle.accepted_proof.specs.Cores.{negation_stands, bit_stands, is_blamed, is_blamed_assumption, refuting_clause}
use Rattle.smt_session.specs.Blaming.{AreCodes}

-- ---- one of them

selector_told : (clause : List Literal) (o : Option Asserted) (l : Literal) → literal_of o ≡ Some l → negation_stands clause o ≡ stands clause (negated l)
selector_told clause None l e = let q : ⊥ = cc in absurd q
selector_told clause (Some r) l e = let q : r.literal ≡ l = cc in ap (λ x. stands clause (negated x)) q

selector_missing : (clause : List Literal) (o : Option Asserted) → literal_of o ≡ None → negation_stands clause o ≡ false
selector_missing clause None e = refl
selector_missing clause (Some r) e = let q : ⊥ = cc in absurd q

module _ (nodes : List Node) (log : LogValue) (h : Stands nodes log) (clause : List Literal) where
  pub blamed_by : (a : Live) (l : Literal) (b : Bool) → Some l ≡ selector_in log.selectors a.assertion → b ≡ stands clause (negated l) → b ≡ is_blamed (state_of nodes log.entries) clause a
  blamed_by a l b e told =
      let k = stands_over nodes log h in
      told ∙ sym (selector_told clause ((state_of nodes log.entries).selectors a.assertion) l (sym (k.selectors a.assertion) ∙ sym e))

  pub not_blamed : (a : Live) → None ≡ selector_in log.selectors a.assertion → false ≡ is_blamed (state_of nodes log.entries) clause a
  not_blamed a e =
      let k = stands_over nodes log h in
      sym (selector_missing clause ((state_of nodes log.entries).selectors a.assertion) (sym (k.selectors a.assertion) ∙ sym e))

  pub clause_told : (shown : Option Record) (p : ℕ) (o : Option (List Literal)) → shown ≡ Some (Unsat p) → o ≡ clause_at log.clauses (record { pos = p; part = 0 }) → o ≡ refuting_clause (state_of nodes log.entries) shown
  clause_told shown p o e told =
      let k = stands_over nodes log h in
      told ∙ ap (λ rows. clause_at rows (record { pos = p; part = 0 })) k.clauses ∙ ap (refuting_clause (state_of nodes log.entries)) (sym e)

  pub assumption_told : (a : Asked) (row : Option (List Literal)) (b : Bool) → row ≡ bits_in log.bits a.term → b ≡ bit_stands clause row → b ≡ is_blamed_assumption (state_of nodes log.entries) clause a
  assumption_told a row b e told =
      let k = stands_over nodes log h in
      told ∙ ap (bit_stands clause) (e ∙ k.bits a.term)

-- ---- by codes

pub code_stands : (codes : BTreeSet ℕ) (clause : List Literal) (x y : Literal) (n : ℕ) (b : Bool) → AreCodes codes clause → y ≡ negated x → n ≡ code_of y → b ≡ contains nat_cmp codes n → b ≡ stands clause (negated x)
code_stands codes clause x y n b are negation code told = told ∙ ap (contains nat_cmp codes) (code ∙ ap code_of negation) ∙ are (code_of (negated x))

-- ---- all of them

abbrev names : Live → List (List ℕ)
names a = option_to_list a.name

abbrev name_texts : List Live → List (List ℕ)
name_texts live = map symbol_text (flat_map names live)

filter_more : {A : Type 0} (test : A → Bool) (xs : List A) (k : ℕ) (x : A) → k < length xs → x ≡ get_or xs k x → filter test (take (k + 1) xs) ≡ filter test (take k xs) ++ cond (test x) (x ∷ []) []
filter_more test xs k x lt at =
    ap (filter test) (take_more xs k x lt)
    ∙ filter-append test (take k xs) (get_or xs k x ∷ [])
    ∙ ap (λ y. filter test (take k xs) ++ cond (test y) (y ∷ []) []) (sym at)

texts_append : (xs ys : List Live) → name_texts (xs ++ ys) ≡ name_texts xs ++ name_texts ys
texts_append xs ys = ap (map symbol_text) (flat_map-append names xs ys) ∙ map-append symbol_text (flat_map names xs) (flat_map names ys)

pub names_more : (test : Live → Bool) (live : List Live) (items more : List (List ℕ)) (k : ℕ) (a : Live) → k < length live → a ≡ get_or live k a → test a ≡ true → items ≡ name_texts (filter test (take k live)) → more ≡ items ++ map symbol_text (option_to_list a.name) → more ≡ name_texts (filter test (take (k + 1) live))
names_more test live items more k a lt at blamed before e =
    e
    ∙ ap (λ r. r ++ map symbol_text (option_to_list a.name)) before
    ∙ ap (λ r. name_texts (filter test (take k live)) ++ map symbol_text r) (sym (append-nil (option_to_list a.name)))
    ∙ sym (texts_append (filter test (take k live)) (a ∷ []))
    ∙ ap (λ b. name_texts (filter test (take k live) ++ cond b (a ∷ []) [])) (sym blamed)
    ∙ ap name_texts (sym (filter_more test live k a lt at))

pub names_same : (test : Live → Bool) (live : List Live) (items : List (List ℕ)) (k : ℕ) (a : Live) → k < length live → a ≡ get_or live k a → test a ≡ false → items ≡ name_texts (filter test (take k live)) → items ≡ name_texts (filter test (take (k + 1) live))
names_same test live items k a lt at other before =
    before
    ∙ ap name_texts (sym (append-nil (filter test (take k live))))
    ∙ ap (λ b. name_texts (filter test (take k live) ++ cond b (a ∷ []) [])) (sym other)
    ∙ ap name_texts (sym (filter_more test live k a lt at))

abbrev asked_texts : List Asked → List (List ℕ)
asked_texts asked = map (λ (a : Asked). a.text) asked

pub texts_more : (test : Asked → Bool) (asked : List Asked) (items more : List (List ℕ)) (k : ℕ) (a : Asked) (text : List ℕ) → k < length asked → a ≡ get_or asked k a → test a ≡ true → text ≡ a.text → items ≡ asked_texts (filter test (take k asked)) → more ≡ items ++ text ∷ [] → more ≡ asked_texts (filter test (take (k + 1) asked))
texts_more test asked items more k a text lt at blamed own before e =
    e
    ∙ ap (λ r. r ++ text ∷ []) before
    ∙ ap (λ r. asked_texts (filter test (take k asked)) ++ r ∷ []) own
    ∙ sym (map-append (λ (b : Asked). b.text) (filter test (take k asked)) (a ∷ []))
    ∙ ap (λ b. asked_texts (filter test (take k asked) ++ cond b (a ∷ []) [])) (sym blamed)
    ∙ ap asked_texts (sym (filter_more test asked k a lt at))

pub texts_same : (test : Asked → Bool) (asked : List Asked) (items : List (List ℕ)) (k : ℕ) (a : Asked) → k < length asked → a ≡ get_or asked k a → test a ≡ false → items ≡ asked_texts (filter test (take k asked)) → items ≡ asked_texts (filter test (take (k + 1) asked))
texts_same test asked items k a lt at other before =
    before
    ∙ ap asked_texts (sym (append-nil (filter test (take k asked))))
    ∙ ap (λ b. asked_texts (filter test (take k asked) ++ cond b (a ∷ []) [])) (sym other)
    ∙ ap asked_texts (sym (filter_more test asked k a lt at))
