-- Marks, shapes and hints, as they are read.
use Rattle.std.proofs.Common.{◌≡◌, ℕ, zero, suc, ◌+◌, ◌-◌, ◌<◌, ◌≤◌, Bool, true, false, cond, List, [], ◌∷◌, ◌++◌, length, drop, get_or, set, refl, sym, ap, ◌∙◌, arith, add-one, eqb, Result, Ok, Err, append_assoc, append-nil, ⊎_elim, Option, Some, None}
use Rattle.std.proofs.lemmas.List.{drop_all}
use Rattle.std.proofs.lemmas.Bool.{cases_eq, eq-eqb, ne_eqb}
use Rattle.std.proofs.Math.Bool.{or-false, or-true}
use Rattle.std.specs.Prelude.{◌||◌, slice_set, slice_get, map}
use Rattle.std.specs.List.{list_all, list_any}
use Rattle.std.proofs.Math.ListN.{replicate}
use Rattle.dimacs_front.specs.Cnf.{literal_of}
use Rattle.cnf_base.specs.Literals.{Literal, negated, code_of}
use Rattle.dimacs_front.specs.Marks.{MarksValue, AreMarked}
use Rattle.cnf_base.proofs.Rows.{drop_at}
use Rattle.dimacs_front.specs.declared.number.Number.{Number}
use Rattle.dimacs_front.specs.declared.shape.Shape.{Shape}
use Rattle.dimacs_front.specs.declared.shape.Shape.TheVariants.{AllFalse}
use Rattle.dimacs_front.specs.Words.{number_of, lines_from}
use Rattle.dimacs_front.specs.declared.lrat.LratKind.{LratKind}
use Rattle.dimacs_front.specs.declared.lrat.LratKind.TheVariants as fault
use Rattle.dimacs_front.specs.declared.lrat.LratFault.{LratFault}
use Rattle.dimacs_front.specs.Lrat.{Judging, Judged, judge_line, judge_lines, lrat_on_lines, lrat_goes_on, is_empty}
use Rattle.dimacs_front.specs.Lrat.{clause_in, is_in, padded, with_clause, without, and_front, numbers_in, TableValue, among, joined, shape_from, opposites, by_shape, leads, held}

shape_next : (ts : List Literal) (s : Shape) (l : Literal) (ls : List Literal) → shape_from ts s (l ∷ ls) ≡ shape_from ts (cond (among ts (negated l)) s (joined s l)) ls
unfolding shape_from
shape_next ts s l ls = refl

pub shape_open : (ts ls : List Literal) (i : ℕ) (l : Literal) (s all : Shape) → i < length ls → l ≡ get_or ls i l → among ts (negated l) ≡ false → shape_from ts s (drop i ls) ≡ all → shape_from ts (joined s l) (drop (i + 1) ls) ≡ all
shape_open ts ls i l s all h e f k =
    ap (λ (q : Bool). shape_from ts (cond q s (joined s l)) (drop (i + 1) ls)) (sym f) ∙ sym (shape_next ts s l (drop (i + 1) ls)) ∙ (rw (drop_at ls i l h e) at k)

pub shape_false : (ts ls : List Literal) (i : ℕ) (l : Literal) (s all : Shape) → i < length ls → l ≡ get_or ls i l → among ts (negated l) ≡ true → shape_from ts s (drop i ls) ≡ all → shape_from ts s (drop (i + 1) ls) ≡ all
shape_false ts ls i l s all h e f k =
    ap (λ (q : Bool). shape_from ts (cond q s (joined s l)) (drop (i + 1) ls)) (sym f) ∙ sym (shape_next ts s l (drop (i + 1) ls)) ∙ (rw (drop_at ls i l h e) at k)

pub shape_end : (ts ls : List Literal) (i : ℕ) (s all : Shape) → length ls ≤ i → shape_from ts s (drop i ls) ≡ all → s ≡ all
unfolding shape_from
shape_end ts ls i s all h k = rw (drop_all i ls h) at k

-- ---- opposites

pub pair_found : (ts ls : List Literal) (i : ℕ) (l : Literal) (all : Option (List Literal)) → i < length ls → l ≡ get_or ls i l → among ts l ≡ true → opposites ts (drop i ls) ≡ all → all ≡ None
unfolding opposites
pair_found ts ls i l all h e f k = sym (rw (drop_at ls i l h e, f) at k)

pub opposite_more : (ts ls : List Literal) (i : ℕ) (l : Literal) (all : Option (List Literal)) → i < length ls → l ≡ get_or ls i l → among ts l ≡ false → opposites ts (drop i ls) ≡ all → opposites (ts ++ negated l ∷ []) (drop (i + 1) ls) ≡ all
unfolding opposites
opposite_more ts ls i l all h e f k = rw (drop_at ls i l h e, f) at k

pub opposites_end : (ts ls : List Literal) (i : ℕ) (all : Option (List Literal)) → length ls ≤ i → opposites ts (drop i ls) ≡ all → all ≡ Some ts
unfolding opposites
opposites_end ts ls i all h k = sym (rw (drop_all i ls h) at k)

-- ---- hints

pub hint_missing : (t : TableValue) (ts : List Literal) (n : Number) (rest left : List Number) (all : Bool) → left ≡ n ∷ rest → held t n.size ≡ None → leads t ts left ≡ all → false ≡ all
unfolding leads
hint_missing t ts n rest left all e f k = rw (e, f) at k

pub hint_shape : (t : TableValue) (ts : List Literal) (n : Number) (rest left : List Number) (c : List Literal) (s : Shape) (all : Bool) → left ≡ n ∷ rest → held t n.size ≡ Some c → s ≡ shape_from ts AllFalse c → leads t ts left ≡ all → by_shape s (λ l. leads t (ts ++ l ∷ []) rest) ≡ all
unfolding leads
hint_shape t ts n rest left c s all e f g k = rw (e, f, ← g) at k

pub hints_end : (t : TableValue) (ts : List Literal) (left : List Number) (all : Bool) → left ≡ [] → leads t ts left ≡ all → false ≡ all
unfolding leads
hints_end t ts left all e k = rw e at k

-- ---- marks

or_three : (a b c : Bool) → (a || (b || c)) ≡ ((a || b) || c)
or_three true b c = refl
or_three false b c = refl

pub among_push : (ls : List Literal) (l k : Literal) → among (ls ++ l ∷ []) k ≡ (among ls k || eqb (code_of l) (code_of k))
among_push [] l k = or-false (eqb (code_of l) (code_of k))
among_push (m ∷ ls) l k = ap (λ b. eqb (code_of m) (code_of k) || b) (among_push ls l k) ∙ or_three (eqb (code_of m) (code_of k)) (among ls k) (eqb (code_of l) (code_of k))

stamp_beyond : (stamps : List ℕ) (j : ℕ) → get_or (stamps ++ 0 ∷ []) j 0 ≡ get_or stamps j 0
stamp_beyond [] zero = refl
stamp_beyond [] (suc j) = refl
stamp_beyond (x ∷ xs) zero = refl
stamp_beyond (x ∷ xs) (suc j) = stamp_beyond xs j

pub marks_longer : (m : MarksValue) (known : List Literal) → AreMarked m known → AreMarked (record { stamps = m.stamps ++ 0 ∷ []; round = m.round }) known
marks_longer m known a l = ap (λ x. eqb x m.round) (stamp_beyond m.stamps (code_of l)) ∙ a l

stamp_same : (stamps : List ℕ) (i x : ℕ) → i < length stamps → get_or (set stamps i x) i 0 ≡ x
stamp_same [] i x h = absurd (omega arith)
stamp_same (y ∷ ys) zero x h = refl
stamp_same (y ∷ ys) (suc i) x h = stamp_same ys i x (omega arith)

stamp_other : (stamps : List ℕ) (i j x : ℕ) → (j ≡ i → ⊥) → get_or (set stamps i x) j 0 ≡ get_or stamps j 0
stamp_other [] i j x h = refl
stamp_other (y ∷ ys) zero zero x h = absurd (h refl)
stamp_other (y ∷ ys) zero (suc j) x h = refl
stamp_other (y ∷ ys) (suc i) zero x h = refl
stamp_other (y ∷ ys) (suc i) (suc j) x h = stamp_other ys i j x (λ e. h (ap suc e))

pub marks_more : (m : MarksValue) (known : List Literal) (l : Literal) (place : ℕ) → place ≡ code_of l → place < length m.stamps → AreMarked m known
    → AreMarked (record { stamps = slice_set m.stamps place m.round; round = m.round }) (known ++ l ∷ [])
marks_more m known l place e h a k =
    ⊎_elim
    (λ same.
    let here : get_or (set m.stamps place m.round) (code_of k) 0 ≡ m.round = ap (λ j. get_or (set m.stamps place m.round) j 0) same ∙ stamp_same m.stamps place m.round h in
    let listed : eqb (code_of l) (code_of k) ≡ true = eq-eqb (code_of l) (code_of k) (sym (same ∙ e)) in
    eq-eqb _ _ here ∙ sym (among_push known l k ∙ ap (λ b. among known k || b) listed ∙ or-true (among known k)))
    (λ other.
    let unlisted : eqb (code_of l) (code_of k) ≡ false = ne_eqb (code_of l) (code_of k) (λ q. other (sym (e ∙ q))) in
    ap (λ x. eqb x m.round) (stamp_other m.stamps place (code_of k) m.round other) ∙ a k ∙ sym (among_push known l k ∙ ap (λ b. among known k || b) unlisted ∙ or-false (among known k)))
    (cases_eq (code_of k) place)

-- ---- lines

-- behind numbers that were read
abbrev pub behind : {B : Type 0} → List Number → Option (List Number × B) → Option (List Number × B)
behind front None = None
behind front (Some r) = Some (front ++ r.0, r.1)

behind_more : {B : Type 0} (front : List Number) (n : Number) (o : Option (List Number × B)) → behind front (and_front n o) ≡ behind (front ++ n ∷ []) o
behind_more front n None = refl
behind_more front n (Some r) = ap (λ q. Some (q, r.1)) (sym (append_assoc front (n ∷ []) r.0))

pub nothing_behind : {B : Type 0} (o : Option (List Number × B)) → behind [] o ≡ o
nothing_behind None = refl
nothing_behind (Some r) = refl

pub number_taken : (front : List Number) (left ws : List (List ℕ)) (w : List ℕ) (n : Number) (all : Option (List Number × List (List ℕ)))
    → left ≡ w ∷ ws → number_of w ≡ Some n → eqb n.size 0 ≡ false → behind front (numbers_in left) ≡ all → behind (front ++ n ∷ []) (numbers_in ws) ≡ all
unfolding numbers_in
number_taken front left ws w n all e f z k = sym (behind_more front n (numbers_in ws)) ∙ (rw (e, f, z) at k)

pub zero_taken : (front : List Number) (left ws : List (List ℕ)) (w : List ℕ) (n : Number) (all : Option (List Number × List (List ℕ)))
    → left ≡ w ∷ ws → number_of w ≡ Some n → eqb n.size 0 ≡ true → behind front (numbers_in left) ≡ all → Some (front, ws) ≡ all
unfolding numbers_in
zero_taken front left ws w n all e f z k = ap (λ q. Some (q, ws)) (sym (append-nil front)) ∙ (rw (e, f, z) at k)

pub no_number : (front : List Number) (left ws : List (List ℕ)) (w : List ℕ) (all : Option (List Number × List (List ℕ)))
    → left ≡ w ∷ ws → number_of w ≡ None → behind front (numbers_in left) ≡ all → None ≡ all
unfolding numbers_in
no_number front left ws w all e f k = rw (e, f) at k

pub no_zero : (front : List Number) (left : List (List ℕ)) (all : Option (List Number × List (List ℕ))) → left ≡ [] → behind front (numbers_in left) ≡ all → None ≡ all
unfolding numbers_in
no_zero front left all e k = rw e at k

-- behind literals that were made
abbrev pub with_literals : List Literal → Option (List Literal) → Option (List Literal)
with_literals front None = None
with_literals front (Some ls) = Some (front ++ ls)

pub literal_made : (variables : ℕ) (front : List Literal) (ns : List Number) (i : ℕ) (n : Number) (all : Option (List Literal)) → i < length ns → drop i ns ≡ n ∷ drop (i + 1) ns → is_in variables n ≡ true
    → with_literals front (clause_in variables (drop i ns)) ≡ all → with_literals (front ++ literal_of n ∷ []) (clause_in variables (drop (i + 1) ns)) ≡ all
literal_made variables front ns i n all h e f k = next (list_all (is_in variables) (drop (i + 1) ns)) ∙ (rw (e, f) at k)
  where
    next : (q : Bool) → with_literals (front ++ literal_of n ∷ []) (cond q (Some (map literal_of (drop (i + 1) ns))) None) ≡ with_literals front (cond q (Some (literal_of n ∷ map literal_of (drop (i + 1) ns))) None)
    next true = ap Some (append_assoc front (literal_of n ∷ []) (map literal_of (drop (i + 1) ns)))
    next false = refl

pub no_literal : (variables : ℕ) (front : List Literal) (ns : List Number) (i : ℕ) (n : Number) (all : Option (List Literal)) → drop i ns ≡ n ∷ drop (i + 1) ns → is_in variables n ≡ false
    → with_literals front (clause_in variables (drop i ns)) ≡ all → None ≡ all
no_literal variables front ns i n all e f k = rw (e, f) at k

pub literals_end : (variables : ℕ) (front : List Literal) (ns : List Number) (i : ℕ) (all : Option (List Literal)) → length ns ≤ i → with_literals front (clause_in variables (drop i ns)) ≡ all → Some front ≡ all
literals_end variables front ns i all h k = ap Some (sym (append-nil front)) ∙ (rw (drop_all i ns h) at k)

-- ---- places

drop_get : {A : Type 0} (xs : List A) (k : ℕ) (x : A) → slice_get xs k ≡ Some x → drop k xs ≡ x ∷ drop (suc k) xs
drop_get [] k x e = let z : ⊥ = cc in absurd z
drop_get (y ∷ ys) zero x e = let q : y ≡ x = cc in ap (λ w. w ∷ ys) q
drop_get (y ∷ ys) (suc k) x e = drop_get ys k x e

pub drop_here : {A : Type 0} (xs : List A) (k : ℕ) (x : A) → slice_get xs k ≡ Some x → drop k xs ≡ x ∷ drop (k + 1) xs
drop_here xs k x e = rw add-one (drop_get xs k x e)

pub empty_found : (cs : List (List Literal)) (k : ℕ) (c : List Literal) (q all : Bool) → slice_get cs k ≡ Some c → q ≡ is_empty c → q ≡ true → list_any is_empty (drop k cs) ≡ all → true ≡ all
empty_found cs k c q all e f t h = let g : is_empty c ≡ true = sym f ∙ t in rw (drop_here cs k c e, g) at h

pub empty_passed : (cs : List (List Literal)) (k : ℕ) (c : List Literal) (q all : Bool) → slice_get cs k ≡ Some c → q ≡ is_empty c → q ≡ false → list_any is_empty (drop k cs) ≡ all → list_any is_empty (drop (k + 1) cs) ≡ all
empty_passed cs k c q all e f t h = let g : is_empty c ≡ false = sym f ∙ t in rw (drop_here cs k c e, g) at h

pub empty_nowhere : (cs : List (List Literal)) (k : ℕ) (all : Bool) → length cs ≤ k → list_any is_empty (drop k cs) ≡ all → false ≡ all
empty_nowhere cs k all e h = rw (drop_all k cs e) at h

-- ---- texts

pub lrat_line_fails : (variables n : ℕ) (j : Judging) (l : List ℕ) (ls : List (List ℕ)) (kind : LratKind) → judge_line variables j l ≡ Err kind → judge_lines variables n j (l ∷ ls) ≡ Err (record { line = n + 1; kind = kind })
unfolding judge_lines
lrat_line_fails variables n j l ls kind f = rw f refl

pub lrat_line_read : (variables n : ℕ) (j m : Judging) (l : List ℕ) (ls : List (List ℕ)) → judge_line variables j l ≡ Ok m → judge_lines variables n j (l ∷ ls) ≡ judge_lines variables (n + 1) m ls
unfolding judge_lines
lrat_line_read variables n j m l ls f = rw f refl

pub lrat_fed : (j : Judged) (bytes begun : List ℕ) (ls : List (List ℕ)) (all : Result Unit LratFault) → lines_from j.begun bytes ≡ begun ∷ ls → lrat_goes_on j bytes ≡ all → judge_lines j.variables j.lines j.judging (begun ∷ ls) ≡ all
lrat_fed j bytes begun ls all e k = rw e at k

pub lrat_rest_none : (j : Judged) → length j.begun ≡ 0 → lrat_goes_on j [] ≡ lrat_on_lines j []
unfolding lines_from
lrat_rest_none j e = chosen j.begun e
  where
    chosen : (begun : List ℕ) → length begun ≡ 0 → judge_lines j.variables j.lines j.judging (lines_from begun []) ≡ judge_lines j.variables j.lines j.judging []
    chosen [] e = refl
    chosen (b ∷ bs) e = absurd (omega arith)

pub lrat_rest_some : (j : Judged) → (length j.begun ≡ 0 → ⊥) → lrat_goes_on j [] ≡ lrat_on_lines j (j.begun ∷ [])
unfolding lines_from
lrat_rest_some j e = chosen j.begun e
  where
    chosen : (begun : List ℕ) → (length begun ≡ 0 → ⊥) → judge_lines j.variables j.lines j.judging (lines_from begun []) ≡ judge_lines j.variables j.lines j.judging (begun ∷ [])
    chosen [] e = absurd (e refl)
    chosen (b ∷ bs) e = let some : eqb (suc (length bs)) 0 ≡ false = ne_eqb (suc (length bs)) 0 (λ (q : suc (length bs) ≡ 0). omega arith) in rw some refl

pub lrat_end_ok : (j : Judged) → j.judging.is_refuted ≡ true → lrat_on_lines j [] ≡ Ok tt
unfolding judge_lines
lrat_end_ok j e = rw e refl

pub lrat_end_fails : (j : Judged) → j.judging.is_refuted ≡ false → lrat_on_lines j [] ≡ Err (record { line = j.lines + 1; kind = fault.Empty })
unfolding judge_lines
lrat_end_fails j e = rw e refl

-- ---- tables

pub pad_more : (n : ℕ) (t u : TableValue) (all : TableValue) → 0 < n → u ≡ with_clause t [] false → padded n t ≡ all → padded (n - 1) u ≡ all
unfolding padded
pad_more zero t u all h e k = absurd (omega arith)
pad_more (suc n) t u all h e k = let same : suc n - 1 ≡ n = omega arith in rw (same, e) k

pub pad_end : (n : ℕ) (t all : TableValue) → n ≡ 0 → padded n t ≡ all → t ≡ all
unfolding padded
pad_end zero t all e k = k
pad_end (suc n) t all e k = absurd (omega arith)

pub number_gone : (t u : TableValue) (ns : List Number) (i : ℕ) (n : Number) (all : TableValue) → drop i ns ≡ n ∷ drop (i + 1) ns → u ≡ record { clauses = t.clauses; live = slice_set t.live (n.size - 1) false }
    → without t (drop i ns) ≡ all → without u (drop (i + 1) ns) ≡ all
unfolding without
number_gone t u ns i n all e f k = rw f (rw e at k)

pub numbers_gone : (t : TableValue) (ns : List Number) (i : ℕ) (all : TableValue) → length ns ≤ i → without t (drop i ns) ≡ all → t ≡ all
unfolding without
numbers_gone t ns i all h k = rw (drop_all i ns h) at k

pub all_live : (cs : List (List Literal)) → replicate (length cs) true ≡ map (λ c. true) cs
all_live [] = refl
all_live (c ∷ cs) = ap (λ bs. true ∷ bs) (all_live cs)

pub hints_over : (t : TableValue) (ts : List Literal) (ns : List Number) (i : ℕ) (all : Bool) → length ns ≤ i → leads t ts (drop i ns) ≡ all → false ≡ all
hints_over t ts ns i all h k = hints_end t ts (drop i ns) all (drop_all i ns h) k
