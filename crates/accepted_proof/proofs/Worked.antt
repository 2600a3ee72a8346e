-- A worked check: the four clauses over p and q, which no assignment makes true together.
use Rattle.std.proofs.Common.{◌≡◌, ℕ, ◌<◌, ◌≤◌, ◌^◌, Bool, true, false, not, List, [], ◌∷◌, ◌++◌, map, length, get_or, Option, Some, None, refl, sym, ap, ◌∙◌, subst, inl, inr, arith}
use Rattle.std.specs.Prelude.{◌⊎◌, All, Contains, ltb}
use Rattle.std.specs.List.{list_any, list_all, AllByRecursion}
use Rattle.std.proofs.lemmas.Bool.{false≢true, ltb-true, and_parts}
use Rattle.std.proofs.lemmas.List.Elements.{All-cons, All-nil, Contains-get_or}
use Rattle.std.proofs.lemmas.List.Folds.{list_any_none}
use Rattle.cnf_base.specs.Literals.{Literal, negated, positive_of, negative_of}
use Rattle.cnf_base.specs.declared.clause.ClauseId.{ClauseId}
use Rattle.cnf_base.proofs.Lists.{each_member}
use Rattle.hint_chain.specs.Chains.{IsFalse, IsUnit}
use Rattle.smt_terms.specs.declared.sort.Sort.TheVariants as sort
use Rattle.smt_terms.specs.declared.operator.Operator.TheVariants as plain
use Rattle.smt_terms.specs.declared.node.Op.TheVariants.{Plain, Constant}
use Rattle.smt_terms.specs.declared.node.Node.{Node}
use Rattle.smt_terms.specs.Nodes.{leaf, node_of, below}
use Rattle.scope_selectors.specs.declared.live.Live.{Live}
use Rattle.scope_selectors.specs.Cores.{stands}
use Rattle.scope_selectors.proofs.Standing.{standing_contained, contains_standing}
use Rattle.script_state.specs.States.{StateValue, no_state, roots}
use Rattle.proof_log.specs.declared.entry.Entry.{Entry}
use Rattle.proof_log.specs.declared.entry.Entry.TheVariants as step
use Rattle.proof_log.specs.declared.diary.Diary.{Diary}
use Rattle.proof_log.specs.declared.diary.DiaryLine.TheVariants.{Put}
use Rattle.proof_log.specs.Logs.{clause_at, entry_at, state_of}
use Rattle.proof_log.specs.Boards.{Grows}
use Rattle.proof_log.specs.Diaries.{look_of, is_chain, blank, StandsIn, EachIsUsed, IsGoodPut}
use Rattle.proof_log.proofs.Growing.{clause_each}
use Rattle.proof_log.proofs.Growth.{chain_is_added, clause_stays, entry_within}
use Rattle.proof_text.specs.declared.line.Line.TheVariants as line
use Rattle.proof_text.specs.declared.record.Record.TheVariants as shown
use Rattle.proof_text.specs.Records.{record_lines}
use Rattle.accepted_proof.specs.Searching.{Limits, split_variables, cube_variables, given_literals, HasSelector, HasBit, IsSearch, subject_of, IsUnknown}

-- p, q, then `(or p q)`, `(not q)`, `(or p (not q))`, `(not p)`, `(or (not p) q)` and `(or (not p) (not q))`
abbrev terms : List Node
terms =
    leaf (Constant 0 sort.Bool)
    ∷ leaf (Constant 1 sort.Bool)
    ∷ node_of (Plain plain.Or) (0 ∷ 1 ∷ [])
    ∷ node_of (Plain plain.Not) (1 ∷ [])
    ∷ node_of (Plain plain.Or) (0 ∷ 3 ∷ [])
    ∷ node_of (Plain plain.Not) (0 ∷ [])
    ∷ node_of (Plain plain.Or) (5 ∷ 1 ∷ [])
    ∷ node_of (Plain plain.Or) (5 ∷ 3 ∷ [])
    ∷ []

abbrev asserted : List Live
asserted =
    record { assertion = 0; term = 2; name = None; level = 0 }
    ∷ record { assertion = 1; term = 4; name = None; level = 0 }
    ∷ record { assertion = 2; term = 6; name = None; level = 0 }
    ∷ record { assertion = 3; term = 7; name = None; level = 0 }
    ∷ []

abbrev state : StateValue
state = record {
  symbols = no_state.symbols;
  terms = record { nodes = terms; limit = 2 ^ 24 };
  scopes = record { levels = 0; live = asserted; made = 4; terms = 2 ∷ 4 ∷ 6 ∷ 7 ∷ [] };
  options = no_state.options;
  standing = None;
  assumed = None;
}

abbrev steps : List Entry
steps =
    step.Leaf 0 ∷ step.Leaf 1
    ∷ step.Encode 2 ∷ step.Encode 3 ∷ step.Encode 4 ∷ step.Encode 5 ∷ step.Encode 6 ∷ step.Encode 7
    ∷ step.Selector 0 2 ∷ step.Selector 1 4 ∷ step.Selector 2 6 ∷ step.Selector 3 7
    ∷ []

all_each : {A : Type 0} (P : A → Type 0) (xs : List A) → AllByRecursion P xs → All P xs
all_each P [] h = All-nil P
all_each P (x ∷ xs) h = All-cons P x xs h.0 (all_each P xs h.1)

-- ---- cubes

-- p and q have the variables 2 and 3, and the assertions are stood for by 8 to 11
variables : split_variables (roots state) terms steps ≡ 2 ∷ 3 ∷ []
unfolding below
variables = refl

-- a check of q alone is not split by p
variables_of_one : split_variables (1 ∷ []) terms steps ≡ 3 ∷ []
unfolding below
variables_of_one = refl

one_split : cube_variables (record { cubes = 1; budget = 0 }) state terms steps ≡ 2 ∷ []
unfolding below
one_split = refl

given_in_one : given_literals (record { cubes = 1; budget = 0 }) state terms steps 1 ≡ negative_of 2 ∷ positive_of 8 ∷ positive_of 9 ∷ positive_of 10 ∷ positive_of 11 ∷ []
unfolding below
given_in_one = refl

-- one variable makes two cubes
no_third : (log : List Entry) → cube_variables (record { cubes = 1; budget = 0 }) state terms log ≡ 2 ∷ [] → IsSearch (record { cubes = 1; budget = 0 }) state terms log 2 13 → ⊥
no_third log e h = let small : 2 < 2 ^ length {A = ℕ} (2 ∷ []) = subst (λ (xs : List ℕ). 2 < 2 ^ length xs) e h.cube_of_check in absurd (omega (arith, small))

-- ---- a diary

-- p follows from the first two assertions
abbrev learnt : List Literal
learnt = positive_of 2 ∷ negative_of 8 ∷ negative_of 9 ∷ []

abbrev part_of : ℕ → ℕ → ClauseId
part_of p k = record { pos = p; part = k }

abbrev hints : List ClauseId
hints = part_of 9 0 ∷ part_of 3 2 ∷ part_of 10 0 ∷ part_of 5 2 ∷ []

abbrev log : List Entry
log = steps ++ step.Chain learnt hints ∷ []

-- no variable splits the check, and no clause may be learnt
abbrev limits : Limits
limits = record { cubes = 0; budget = 0 }

abbrev diary : Diary
diary = record { cube = 0; start = 13; lines = Put 13 ∷ [] }

printed : record_lines (shown.Unknown diary) ≡ line.Unknown 0 13 1 ∷ line.Put 13 ∷ []
printed = refl

search : IsSearch limits state terms log 0 13
search = record {
  cube_of_check = omega arith;
  selectors = all_each (HasSelector (state_of terms log)) asserted ((record { literal = positive_of 8; term = 2 }, refl), ((record { literal = positive_of 9; term = 4 }, refl), ((record { literal = positive_of 10; term = 6 }, refl), ((record { literal = positive_of 11; term = 7 }, refl), tt))));
  bits = All-nil (HasBit (state_of terms log));
  within = omega arith;
  added = λ p e le h. chain_is_added e (last_is_chain p e le h (entry_within log p e h));
}
  where
    last_is_chain : (p : ℕ) (e : Entry) → 13 ≤ p → entry_at log p ≡ Some e → p ≤ length log → is_chain (Some e) ≡ true
    last_is_chain p e le h within =
        let same : p ≡ 13 = omega (arith, le, within) in
        let own : entry_at log 13 ≡ Some e = subst (λ q. entry_at log q ≡ Some e) same h in
        sym (ap is_chain own)

-- ---- what was put is good

absent : (clause : List Literal) (l : Literal) → stands clause l ≡ false → Contains clause l → ⊥
absent clause l e c = false≢true (sym e ∙ standing_contained clause l c)

-- some literal of the clause is none of what was learnt
abbrev escapes : List Literal → Bool
escapes clause = list_any (λ l. not (stands learnt l)) clause

abbrev IsNew : List Literal → Type 0
IsNew clause = ((l : Literal) → Contains clause l → Contains learnt l) → ⊥

module _ (clause : List Literal) (within : (l : Literal) → Contains clause l → Contains learnt l) where
  within_passes : All (λ l. not (stands learnt l) ≡ false) clause
  within_passes k d lt = ap not (standing_contained learnt (get_or clause k d) (within (get_or clause k d) (Contains-get_or clause k d lt)))

  no_escape : escapes clause ≡ true → ⊥
  no_escape e = false≢true (sym (list_any_none (λ l. not (stands learnt l)) clause within_passes) ∙ e)

row_new : (row : List (List Literal)) → list_all escapes row ≡ true → AllByRecursion IsNew row
row_new [] e = tt
row_new (c ∷ row) e = let p = and_parts (escapes c) (list_all escapes row) e in ((λ within. no_escape c within p.0), row_new row p.1)

rows_new : (rows : List (List (List Literal))) → list_all (list_all escapes) rows ≡ true → AllByRecursion (AllByRecursion IsNew) rows
rows_new [] e = tt
rows_new (row ∷ rows) e = let p = and_parts (list_all escapes row) (list_all (list_all escapes) rows) e in (row_new row p.0, rows_new rows p.1)

-- the log before the chain
grown : Grows steps log
grown = record { more = step.Chain learnt hints ∷ []; is = refl; of_search = (refl, tt) }

abbrev looked : ClauseId → Option (List Literal)
looked = look_of (subject_of limits state terms log 0 13)

abbrev held : ℕ → Bool
held = (blank (subject_of limits state terms log 0 13)).held

is_new : (id : ClauseId) (c : List Literal) → held id.pos ≡ true → looked id ≡ Some c → IsNew c
is_new id c h e =
    let before : id.pos < 13 = ltb-true id.pos 13 (and_parts (ltb id.pos 13) (not (is_chain (entry_at log id.pos))) h).0 in
    let old : clause_at (state_of terms steps).clauses id ≡ Some c = sym (clause_stays terms steps log id grown (omega (arith, before))) ∙ e in
    clause_each IsNew (state_of terms steps).clauses id c (rows_new (state_of terms steps).clauses refl) old

-- from these true literals each literal of the clause but one is false
unit_by : (trues clause : List Literal) (l : Literal) → stands clause l ≡ true → stands trues (negated l) ≡ false → AllByRecursion (λ k. (k ≡ l) ⊎ IsFalse trues k) clause → IsUnit trues clause l
unit_by trues clause l a b h = record { among = contains_standing clause l a; open_yet = absent trues (negated l) b; others = all_each (λ k. (k ≡ l) ⊎ IsFalse trues k) clause h }

false_by : (trues : List Literal) (k l : Literal) → stands trues (negated k) ≡ true → (k ≡ l) ⊎ IsFalse trues k
false_by trues k l e = inr (contains_standing trues (negated k) e)

-- the clauses of the hints, and what is true before each of them
abbrev first : List Literal
first = negative_of 8 ∷ negative_of 4 ∷ []

abbrev second : List Literal
second = positive_of 4 ∷ positive_of 2 ∷ positive_of 3 ∷ []

abbrev third : List Literal
third = negative_of 9 ∷ negative_of 5 ∷ []

abbrev fourth : List Literal
fourth = positive_of 5 ∷ positive_of 2 ∷ negative_of 3 ∷ []

abbrev at_first : List Literal
at_first = map negated learnt

abbrev at_second : List Literal
at_second = at_first ++ negative_of 4 ∷ []

abbrev at_third : List Literal
at_third = at_second ++ positive_of 3 ∷ []

used_third : EachIsUsed looked at_third (part_of 10 0 ∷ part_of 5 2 ∷ [])
used_third = (
  third,
  negative_of 5,
  refl,
  unit_by at_third third (negative_of 5) refl refl (false_by at_third (negative_of 9) (negative_of 5) refl, (inl refl, tt)),
  (part_of 5 2, fourth, (0, omega arith, refl), refl, contains_standing fourth (positive_of 5) refl),
  tt,
)

used_second : EachIsUsed looked at_second (part_of 3 2 ∷ part_of 10 0 ∷ part_of 5 2 ∷ [])
used_second = (
  second,
  positive_of 3,
  refl,
  unit_by at_second second (positive_of 3) refl refl (false_by at_second (positive_of 4) (positive_of 3) refl, (false_by at_second (positive_of 2) (positive_of 3) refl, (inl refl, tt))),
  (part_of 5 2, fourth, (1, omega arith, refl), refl, contains_standing fourth (negative_of 3) refl),
  used_third,
)

used_first : EachIsUsed looked at_first hints
used_first = (
  first,
  negative_of 4,
  refl,
  unit_by at_first first (negative_of 4) refl refl (false_by at_first (negative_of 8) (negative_of 4) refl, (inl refl, tt)),
  (part_of 3 2, second, (0, omega arith, refl), refl, contains_standing second (positive_of 4) refl),
  used_second,
)

abbrev taken : List Literal
taken = given_literals limits state terms log 0

good : IsGoodPut (subject_of limits state terms log 0 13) held learnt hints
good = record {
  no_pair = λ p. each_member (λ l. Contains learnt (negated l) → ⊥) learnt p.0 (absent learnt (negative_of 2) refl, (absent learnt (positive_of 8) refl, (absent learnt (positive_of 9) refl, tt))) p.1 p.2;
  from_held = λ id. each_member (λ id. held id.pos ≡ true) hints id (refl, (refl, (refl, (refl, tt))));
  from_hints = λ l. each_member (StandsIn looked hints) learnt l (
    (part_of 3 2, second, (1, omega arith, refl), refl, contains_standing second (positive_of 2) refl),
    (
      (part_of 9 0, first, (0, omega arith, refl), refl, contains_standing first (negative_of 8) refl),
      ((part_of 10 0, third, (2, omega arith, refl), refl, contains_standing third (negative_of 9) refl), tt),
    ),
  );
  used = used_first;
  is_new = is_new;
  not_given = λ l. each_member (λ l. Contains taken l → ⊥) learnt l (absent taken (positive_of 2) refl, (absent taken (negative_of 8) refl, (absent taken (negative_of 9) refl, tt)));
}

-- so the check may be answered `unknown` with one `+` line
unknown : IsUnknown limits state terms log diary
unknown = record { search = search; spent = record { stand = ((learnt, hints, refl, good), tt); puts = refl; last = tt } }

-- but not where the first variable splits it, in the cube in which p is true: the clause that was put is true there
not_given_in_one : IsGoodPut (subject_of (record { cubes = 1; budget = 0 }) state terms log 0 13) held learnt hints → ⊥
unfolding below
not_given_in_one h = h.not_given (positive_of 2) (0, omega arith, refl) (0, omega arith, refl)
