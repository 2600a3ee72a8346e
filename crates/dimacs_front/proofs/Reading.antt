-- What a text of clauses says, as its lines and words are read.
use Rattle.std.proofs.Common.{◌≡◌, ℕ, ◌+◌, Bool, true, false, cond, List, [], ◌∷◌, length, refl, sym, subst, ◌∙◌, suc, eqb, not, arith, Result, Ok, Err}
use Rattle.std.specs.Prelude.{◌&&◌}
use Rattle.std.proofs.lemmas.Bool.{ne_eqb}
use Rattle.dimacs_front.specs.Words.{lines_from, begins_with, number_of}
use Rattle.dimacs_front.specs.Rows.{RowsValue}
use Rattle.dimacs_front.specs.Cnf.{CnfValue, Reading, Held, with_number, with_words, with_line, with_lines, on_lines, goes_on, at_end, last_line, has_rest, cnf_in, StopsAt}
use Rattle.dimacs_front.specs.declared.cnf.Header.{Header}
use Rattle.dimacs_front.specs.declared.cnf.CnfKind.{CnfKind}
use Rattle.dimacs_front.specs.declared.cnf.CnfFault.{CnfFault}
use Rattle.dimacs_front.specs.declared.stop.Stop.{Stop}
use Rattle.dimacs_front.specs.declared.stop.Stop.TheVariants.{Fault, NoMemory}

-- of want of memory nothing is said
pub stops_memory : {A E : Type 0} (r : Result A E) (s : Stop E) → s ≡ NoMemory → StopsAt r s
stops_memory r s e = subst (StopsAt r) (sym e) tt

-- ---- words

pub word_taken : (h : Header) (r s : RowsValue) (w : List ℕ) (ws left : List (List ℕ)) (all : Result RowsValue CnfKind) → left ≡ w ∷ ws → with_number h r (number_of w) ≡ Ok s → with_words h r left ≡ all → with_words h s ws ≡ all
unfolding with_words
word_taken h r s w ws left all e f k = rw (e, f) at k

pub word_stops : (h : Header) (r : RowsValue) (w : List ℕ) (ws left : List (List ℕ)) (all : Result RowsValue CnfKind) (stop : Stop CnfKind) → left ≡ w ∷ ws → StopsAt (with_number h r (number_of w)) stop → with_words h r left ≡ all → StopsAt all stop
unfolding with_words
word_stops h r w ws left all (Fault kind) e f k = sym (rw (e, f) at k)
word_stops h r w ws left all NoMemory e f k = tt

pub words_end : (h : Header) (r : RowsValue) (left : List (List ℕ)) (all : Result RowsValue CnfKind) → left ≡ [] → with_words h r left ≡ all → all ≡ Ok r
unfolding with_words
words_end h r left all e k = sym (rw e at k)

-- ---- lines

pub text_over : (n : ℕ) (s : Reading) (l : List ℕ) (ls : List (List ℕ)) → begins_with 37 l ≡ true → with_lines n s (l ∷ ls) ≡ at_end (n + 1) s
unfolding with_lines
text_over n s l ls b = rw b refl

pub line_fails : (n : ℕ) (s : Reading) (l : List ℕ) (ls : List (List ℕ)) (kind : CnfKind) → begins_with 37 l ≡ false → with_line s l ≡ Err kind → with_lines n s (l ∷ ls) ≡ Err (record { line = n + 1; kind = kind })
unfolding with_lines
line_fails n s l ls kind b f = rw (b, f) refl

pub line_read : (n : ℕ) (s t : Reading) (l : List ℕ) (ls : List (List ℕ)) (over : Bool) → begins_with 37 l ≡ false → with_line s l ≡ Ok t → over ≡ false → with_lines n s (l ∷ ls) ≡ cond over (at_end (n + 1) t) (with_lines (n + 1) t ls)
unfolding with_lines
line_read n s t l ls over b f o = rw (b, f, o) refl

pub line_fed : (h : Held) (bytes begun : List ℕ) (ls : List (List ℕ)) (all : Result CnfValue CnfFault) → h.is_over ≡ false → lines_from h.begun bytes ≡ begun ∷ ls → goes_on h bytes ≡ all → with_lines h.lines h.reading (begun ∷ ls) ≡ all
line_fed h bytes begun ls all o e k = rw (o, e) at k

pub stops_same : {A E : Type 0} (r all : Result A E) (s : Stop E) → r ≡ all → StopsAt r s → StopsAt all s
stops_same r all s e h = subst (λ q. StopsAt q s) e h

-- ---- the end

on_none : (h : Held) → on_lines h [] ≡ at_end h.lines h.reading
unfolding with_lines
on_none h = chosen h.is_over
  where
    chosen : (q : Bool) → cond q (at_end h.lines h.reading) (with_lines h.lines h.reading []) ≡ at_end h.lines h.reading
    chosen true = refl
    chosen false = refl

pub end_ok : (h : Held) (cnf : CnfValue) → Ok cnf ≡ cnf_in h.reading.header h.reading.rows → on_lines h [] ≡ Ok cnf
end_ok h cnf e = on_none h ∙ rw (← e) refl

pub end_fails : (h : Held) (kind : CnfKind) → Err kind ≡ cnf_in h.reading.header h.reading.rows → on_lines h [] ≡ Err (record { line = last_line h.lines; kind = kind })
end_fails h kind e = on_none h ∙ rw (← e) refl

pub rest_none : (h : Held) → has_rest h ≡ false → on_lines h [] ≡ goes_on h []
unfolding lines_from
rest_none h r = chosen h.is_over h.begun r
  where
    chosen : (q : Bool) (begun : List ℕ) → (not q && not (eqb (length begun) 0)) ≡ false → cond q (at_end h.lines h.reading) (with_lines h.lines h.reading []) ≡ cond q (at_end h.lines h.reading) (with_lines h.lines h.reading (lines_from begun []))
    chosen true begun r = refl
    chosen false [] r = refl
    chosen false (b ∷ bs) r = let some : eqb (suc (length bs)) 0 ≡ false = ne_eqb (suc (length bs)) 0 (λ (e : suc (length bs) ≡ 0). omega arith) in let z : ⊥ = cc in absurd z

pub rest_open : (h : Held) → has_rest h ≡ true → h.is_over ≡ false
rest_open h r = chosen h.is_over r
  where
    chosen : (q : Bool) → (not q && not (eqb (length h.begun) 0)) ≡ true → q ≡ false
    chosen true r = cc
    chosen false r = refl

pub rest_some : (h : Held) → has_rest h ≡ true → goes_on h [] ≡ with_lines h.lines h.reading (h.begun ∷ [])
unfolding lines_from
rest_some h r = chosen h.is_over h.begun r
  where
    chosen : (q : Bool) (begun : List ℕ) → (not q && not (eqb (length begun) 0)) ≡ true → cond q (at_end h.lines h.reading) (with_lines h.lines h.reading (lines_from begun [])) ≡ with_lines h.lines h.reading (begun ∷ [])
    chosen true begun r = cc
    chosen false [] r = cc
    chosen false (b ∷ bs) r = let some : eqb (suc (length bs)) 0 ≡ false = ne_eqb (suc (length bs)) 0 (λ (e : suc (length bs) ≡ 0). omega arith) in rw some refl
