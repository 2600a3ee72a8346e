-- A search that begins over the positions of a check needs no other clause, whatever equalities and lemmas it takes.
use mathlib.Core.Path.{fun_ext}
use Rattle.std.proofs.Common.{◌≡◌, ℕ, suc, List, [], ◌∷◌, length, Some, sym, ap, ◌∙◌, subst, inl, inr, ⊎_elim, arith}
use Rattle.std.specs.Prelude.{Contains, slice_get}
use Rattle.cnf_base.specs.Literals.{true_literal}
use Rattle.cnf_base.proofs.Lists.{Contains-first}
use Rattle.smt_terms.specs.declared.node.Node.{Node}
use Rattle.smt_terms.specs.Bits.{image_in}
use Rattle.smt_terms.specs.Terms.{TermsValue, IsTermList}
use Rattle.term_reach.specs.Reach.{IsReached}
use Rattle.access_tables.specs.Leading.{leads}
use Rattle.proof_log.specs.declared.entry.Entry.{Entry}
use Rattle.proof_log.specs.Logs.{start, clause_in, clause_at, state_of, IsLog}
use Rattle.proof_log.specs.Stored.{LogValue}
use Rattle.proof_log.specs.Boards.{LogBoardValue}
use Rattle.proof_log.proofs.Growing.{below_member}
use Rattle.proof_log.proofs.Growth.{clauses_exist, steps_rows}
use Rattle.cube_search.specs.declared.search.Search.{Search}
use Rattle.cube_search.specs.Holding.{Occurs}
use Rattle.cube_search.specs.Running.{IsSearch}
use Rattle.cube_search.proofs.Told.{longer_same}
use Rattle.theory_search.specs.declared.theory.Theory.{Theory}
use Rattle.theory_search.specs.Theories.{Reached, IsOfBits, AreListed, IsTheory, IsApart}
use Rattle.theory_cubes.specs.declared.check.TheoryCheck.{TheoryCheck}
use Rattle.theory_cubes.specs.Searched.{IsProblem, IsOfReached, AreApart, IsSearching, problem, problem_over}

-- variable 1 stands in the clause of the first position
first_clause : (nodes : List Node) (log : List Entry) → clause_at (state_of nodes log).clauses (record { pos = 0; part = 0 }) ≡ Some (true_literal ∷ [])
first_clause nodes log = ap (λ rows. clause_in (slice_get rows 0) 0) (steps_rows nodes start log).1

one_occurs : (nodes : List Node) (log : List Entry) (positions : List ℕ) (x : ℕ) → Contains positions 0 → x ≡ 1 → Occurs (state_of nodes log).clauses positions x
one_occurs nodes log positions x first e = (record { pos = 0; part = 0 }, true_literal ∷ [], true_literal, first, first_clause nodes log, Contains-first true_literal [], sym e)

module _ (nodes : List Node) (log : List Entry) (live positions : List ℕ) (t : Theory) (theory : IsTheory nodes log positions t) (same : t.live.items ≡ live) (listed : AreListed nodes log t.variables t.reached positions) where
  reached_here : (u : ℕ) → Contains t.reached u → Reached nodes log live u
  reached_here u k =
      subst (λ image. IsReached (leads nodes image) live u) (fun_ext theory.images)
      (subst (λ (l : List ℕ). IsReached (leads nodes (image_in theory.bits)) l u) same (theory.reach.only u k))

  of_reached : (x : ℕ) → IsOfBits (state_of nodes log).bits t.reached x → IsOfReached nodes log live x
  of_reached x b = (b.0, b.1, b.2, reached_here b.0 b.3, b.4, b.5, b.6)

  -- a variable that stands in no clause at the positions, and is of no bit of a reached term, is not listed
  unlisted : (x : ℕ) → (Occurs (state_of nodes log).clauses positions x → ⊥) → (IsOfReached nodes log live x → ⊥) → Contains t.variables x → ⊥
  unlisted x absent other k =
      ⊎_elim
      (λ e. absent (one_occurs nodes log positions x theory.first e))
      (λ more. ⊎_elim (λ b. other (of_reached x b)) absent more)
      (listed.only x k)

  pub begins_apart : (next from : ℕ) → IsTermList nodes → IsLog nodes log → next ≡ (state_of nodes log).next → from ≡ suc (length log) → AreApart nodes log live positions → IsApart nodes log t.variables next positions from
  begins_apart next from all stands count end h = record {
    apart = λ id c lt plain e.
        ⊎_elim
        (λ k. inl k)
        (λ w. inr (w.0, w.1, unlisted w.0.variable w.2 w.3, (let under = below_member (state_of nodes log).next c w.0 (clauses_exist nodes log all stands id c e) w.1 in omega (arith, under, count))))
        (h id c plain e);
    known = λ id c k e l there. inl (listed.clauses id c k e l there);
    own = λ p le within plain. absurd (omega (arith, le, within, end));
  }

-- a search that went over to a check, and what was made ready for its walks
pub searching_begun : (nodes : List Node) (from next : ℕ) (k : TheoryCheck) (s : Search) (t : Theory) (b : LogBoardValue)
    → IsTermList nodes → IsLog nodes b.log.entries → next ≡ (state_of nodes b.log.entries).next → from ≡ suc (length b.log.entries)
    → IsProblem (problem nodes from k) b.log.entries → AreApart nodes b.log.entries k.live.now k.positions.now
    → IsSearch s nodes b.log.entries → s.opening.items ≡ k.positions.now → s.from ≡ from
    → IsTheory nodes b.log.entries s.opening.items t → t.live.items ≡ k.live.now → AreListed nodes b.log.entries t.variables t.reached s.opening.items → t.next ≡ next
    → IsSearching (problem nodes from k) s t b
searching_begun nodes from next k s t b all stands count end problem_is apart search opening begins theory live listed same = record {
  search = search;
  theory = theory;
  apart =
      subst (λ (x : ℕ). IsApart nodes b.log.entries t.variables x s.opening.items s.from) (sym same)
      (subst (λ (ps : List ℕ). IsApart nodes b.log.entries t.variables next ps s.from) (sym opening)
      (subst (λ (x : ℕ). IsApart nodes b.log.entries t.variables next k.positions.now x) (sym begins)
      (begins_apart nodes b.log.entries k.live.now k.positions.now t
      (subst (λ (ps : List ℕ). IsTheory nodes b.log.entries ps t) opening theory) live
      (subst (λ (ps : List ℕ). AreListed nodes b.log.entries t.variables t.reached ps) opening listed) next from all stands count end apart)));
  live = live;
  longer = longer_same k.positions.now s.opening.items opening;
  from = begins;
  within = problem_is.from;
  variables = problem_is.variables;
  assumed = problem_is.assumed;
}

-- ---- a board over the log

pub on_board : (terms own : TermsValue) (log own_log : LogValue) (P : List Node → List Entry → Type 0) → own ≡ terms → own_log ≡ log → P terms.nodes log.entries → P own.nodes own_log.entries
on_board terms own log own_log P e f h = subst (λ (v : TermsValue). P v.nodes own_log.entries) (sym e) (subst (λ (v : LogValue). P terms.nodes v.entries) (sym f) h)

pub same_problem : (n n' : List Node) (from : ℕ) (log : List Entry) (k : TheoryCheck) → n ≡ n' → from ≡ suc (length log) → problem n from k ≡ problem_over n' log k
same_problem n n' from log k e f = ap (λ (m : List Node). problem m from k) e ∙ ap (λ (x : ℕ). problem n' x k) f
