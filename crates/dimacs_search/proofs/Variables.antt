-- The clauses of a text are of the variables that its header tells.
use Rattle.std.proofs.Common.{◌≡◌, ℕ, zero, suc, ◌+◌, ◌<◌, ◌≤◌, Bool, true, false, cond, List, [], ◌∷◌, length, Option, Some, None, Ok, Err, refl, ap, ◌∙◌, subst, ⊎_elim, arith, eqb, leb, ltb}
use Rattle.std.specs.Prelude.{Contains, Result}
use Rattle.std.proofs.lemmas.Bool.{leb-true}
use Rattle.std.proofs.lemmas.List.Elements.{Contains-push_cases}
use Rattle.cnf_base.specs.Literals.{Literal}
use Rattle.cnf_base.proofs.Lists.{Contains-nil}
use Rattle.dimacs_front.specs.Words.{lines_of, begins_with, words_of, number_of}
use Rattle.dimacs_front.specs.Rows.{RowsValue, no_rows, with_literal, ended}
use Rattle.dimacs_front.specs.Cnf.{CnfValue, literal_of, with_number, with_words, Reading, reading, with_header, with_rows, of_words, header_of, with_line, whole_cnf, cnf_in, at_line, at_end, last_line, with_lines, cnf_of, and_then}
use Rattle.dimacs_front.specs.declared.number.Number.{Number}
use Rattle.dimacs_front.specs.declared.cnf.Header.{Header}
use Rattle.dimacs_front.specs.declared.cnf.CnfKind.{CnfKind}
use Rattle.dimacs_front.specs.declared.cnf.CnfKind.TheVariants as fault
use Rattle.dimacs_search.specs.Solving.{AreOf, HaveTheirVariables}

-- ended clauses and the one that is begun
record AreIn (v : ℕ) (r : RowsValue) : Type 0 where
  pub whole : (c : List Literal) → Contains r.clauses c → AreOf v c
  pub begun : AreOf v r.begun

none_of_nil : (v : ℕ) → AreOf v []
none_of_nil v l m = absurd (Contains-nil l m)

ended_in : (v : ℕ) (r : RowsValue) → AreIn v r → AreIn v (ended r)
ended_in v r k = record {
  whole = λ c m. ⊎_elim (λ a. k.whole c a) (λ a. subst (AreOf v) a k.begun) (Contains-push_cases r.clauses r.begun c m);
  begun = none_of_nil v;
}

literal_in : (v : ℕ) (r : RowsValue) (l : Literal) → (0 < l.variable) × (l.variable ≤ v) → AreIn v r → AreIn v (with_literal r l)
literal_in v r l h k = record {
  whole = k.whole;
  begun = λ m c. ⊎_elim (λ a. k.begun m a) (λ a. subst (λ (x : Literal). (0 < x.variable) × (x.variable ≤ v)) a h) (Contains-push_cases r.begun l m c);
}

number_in : (h : Header) (r s : RowsValue) (o : Option Number) → AreIn h.variables r → with_number h r o ≡ Ok s → AreIn h.variables s
number_in h r s None k e = absurd (let q : ⊥ = cc in q)
number_in h r s (Some n) k e = split (eqb n.size 0) refl e
  where
    counted : (q : Bool) → cond q (Ok (ended r)) (Err fault.Count) ≡ Ok s → AreIn h.variables s
    counted true f = let same : ended r ≡ s = cc in subst (AreIn h.variables) same (ended_in h.variables r k)
    counted false f = absurd (let q : ⊥ = cc in q)

    placed : (q : Bool) → leb n.size h.variables ≡ q → eqb n.size 0 ≡ false → cond q (Ok (with_literal r (literal_of n))) (Err fault.Literal) ≡ Ok s → AreIn h.variables s
    placed true le some f =
        let same : with_literal r (literal_of n) ≡ s = cc in
        let low : 0 < n.size = not_zero n.size some in
        subst (AreIn h.variables) same (literal_in h.variables r (literal_of n) (low, leb-true n.size h.variables le) k)
      where
        not_zero : (x : ℕ) → eqb x 0 ≡ false → 0 < x
        not_zero zero q = absurd (let z : ⊥ = cc in z)
        not_zero (suc x) q = omega arith
    placed false le some f = absurd (let q : ⊥ = cc in q)

    split : (q : Bool) → eqb n.size 0 ≡ q → cond q (cond (ltb (length r.clauses) h.clauses) (Ok (ended r)) (Err fault.Count)) (cond (leb n.size h.variables) (Ok (with_literal r (literal_of n))) (Err fault.Literal)) ≡ Ok s → AreIn h.variables s
    split true z f = counted (ltb (length r.clauses) h.clauses) f
    split false z f = placed (leb n.size h.variables) refl z f

words_in : (h : Header) (r s : RowsValue) (ws : List (List ℕ)) → AreIn h.variables r → with_words h r ws ≡ Ok s → AreIn h.variables s
unfolding with_words
words_in h r s [] k e = let same : r ≡ s = cc in subst (AreIn h.variables) same k
words_in h r s (w ∷ ws) k e = step (λ m a f. words_in h m s ws a f) (with_number h r (number_of w)) refl e
  where
    step : ((m : RowsValue) → AreIn h.variables m → with_words h m ws ≡ Ok s → AreIn h.variables s) → (x : Result RowsValue CnfKind) → with_number h r (number_of w) ≡ x → and_then x (λ more. with_words h more ws) ≡ Ok s → AreIn h.variables s
    step go (Ok m) p f = go m (number_in h r m (number_of w) k p) f
    step go (Err z) p f = absurd (let q : ⊥ = cc in q)

-- ---- lines

-- no clause yet, or clauses of the header's variables
abbrev AreBehind : Option Header → RowsValue → Type 0
AreBehind None r = (v : ℕ) → AreIn v r
AreBehind (Some h) r = AreIn h.variables r

line_words_in : (o : Option Header) (r : RowsValue) (ws : List (List ℕ)) (s : Reading) → AreBehind o r → of_words o r ws ≡ Ok s → AreBehind s.header s.rows
line_words_in (Some h) r ws s k e = step (with_words h r ws) refl e
  where
    step : (x : Result RowsValue CnfKind) → with_words h r ws ≡ x → with_rows h x ≡ Ok s → AreBehind s.header s.rows
    step (Ok m) p f = let same : reading (Some h) m ≡ s = cc in subst (λ (x : Reading). AreBehind x.header x.rows) same (words_in h r m ws k p)
    step (Err z) p f = absurd (let q : ⊥ = cc in q)
line_words_in None r [] s k e = let same : reading None r ≡ s = cc in subst (λ (x : Reading). AreBehind x.header x.rows) same k
line_words_in None r (w ∷ ws) s k e = step (header_of (w ∷ ws)) e
  where
    step : (x : Result Header CnfKind) → with_header r x ≡ Ok s → AreBehind s.header s.rows
    step (Ok h) f = let same : reading (Some h) r ≡ s = cc in subst (λ (x : Reading). AreBehind x.header x.rows) same (k h.variables)
    step (Err z) f = absurd (let q : ⊥ = cc in q)

line_in : (r s : Reading) (line : List ℕ) → AreBehind r.header r.rows → with_line r line ≡ Ok s → AreBehind s.header s.rows
line_in r s line k e = split (begins_with 99 line) e
  where
    split : (q : Bool) → cond q (Ok r) (of_words r.header r.rows (words_of line)) ≡ Ok s → AreBehind s.header s.rows
    split true f = let same : r ≡ s = cc in subst (λ (x : Reading). AreBehind x.header x.rows) same k
    split false f = line_words_in r.header r.rows (words_of line) s k f

-- ---- the end

whole_in : (h : Header) (r : RowsValue) (cnf : CnfValue) → AreIn h.variables r → whole_cnf h r ≡ Ok cnf → HaveTheirVariables cnf
whole_in h r cnf k e = split (eqb (length r.begun) 0) e
  where
    counted : (q : Bool) → cond q (Ok (record { variables = h.variables; clauses = r.clauses })) (Err fault.Count) ≡ Ok cnf → HaveTheirVariables cnf
    counted true f = let same : record { variables = h.variables; clauses = r.clauses } ≡ cnf = cc in subst HaveTheirVariables same k.whole
    counted false f = absurd (let q : ⊥ = cc in q)

    split : (q : Bool) → cond q (cond (eqb (length r.clauses) h.clauses) (Ok (record { variables = h.variables; clauses = r.clauses })) (Err fault.Count)) (Err fault.Unfinished) ≡ Ok cnf → HaveTheirVariables cnf
    split true f = counted (eqb (length r.clauses) h.clauses) f
    split false f = absurd (let q : ⊥ = cc in q)

end_in : (n : ℕ) (s : Reading) (cnf : CnfValue) → AreBehind s.header s.rows → at_end n s ≡ Ok cnf → HaveTheirVariables cnf
end_in n s cnf k e = split s.header k e
  where
    told : (h : Header) (x : Result CnfValue CnfKind) → whole_cnf h s.rows ≡ x → at_line (last_line n) x ≡ Ok cnf → whole_cnf h s.rows ≡ Ok cnf
    told h (Ok c) p f = let same : c ≡ cnf = cc in p ∙ ap Ok same
    told h (Err z) p f = absurd (let q : ⊥ = cc in q)

    split : (o : Option Header) → AreBehind o s.rows → at_line (last_line n) (cnf_in o s.rows) ≡ Ok cnf → HaveTheirVariables cnf
    split None b f = absurd (let q : ⊥ = cc in q)
    split (Some h) b f = whole_in h s.rows cnf b (told h (whole_cnf h s.rows) refl f)

lines_in : (n : ℕ) (s : Reading) (ls : List (List ℕ)) (cnf : CnfValue) → AreBehind s.header s.rows → with_lines n s ls ≡ Ok cnf → HaveTheirVariables cnf
unfolding with_lines
lines_in n s [] cnf k e = end_in n s cnf k e
lines_in n s (l ∷ ls) cnf k e = split (λ m a f. lines_in (n + 1) m ls cnf a f) (begins_with 37 l) e
  where
    step : ((m : Reading) → AreBehind m.header m.rows → with_lines (n + 1) m ls ≡ Ok cnf → HaveTheirVariables cnf) → (x : Result Reading CnfKind) → with_line s l ≡ x → and_then (at_line (n + 1) x) (λ more. with_lines (n + 1) more ls) ≡ Ok cnf → HaveTheirVariables cnf
    step go (Ok m) p f = go m (line_in s m l k p) f
    step go (Err z) p f = absurd (let q : ⊥ = cc in q)

    split : ((m : Reading) → AreBehind m.header m.rows → with_lines (n + 1) m ls ≡ Ok cnf → HaveTheirVariables cnf) → (q : Bool) → cond q (at_end (n + 1) s) (and_then (at_line (n + 1) (with_line s l)) (λ more. with_lines (n + 1) more ls)) ≡ Ok cnf → HaveTheirVariables cnf
    split go true f = end_in (n + 1) s cnf k f
    split go false f = step go (with_line s l) refl f

pub read_in : (text : List ℕ) (cnf : CnfValue) → cnf_of text ≡ Ok cnf → HaveTheirVariables cnf
read_in text cnf e = lines_in 0 (reading None no_rows) (lines_of text) cnf (λ v. record { whole = λ c m. absurd (Contains-nil c m); begun = none_of_nil v }) e
