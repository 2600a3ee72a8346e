-- A search that takes equalities and lemmas over listed variables needs no other clause.
use Rattle.std.proofs.Common.{◌≡◌, ℕ, suc, ◌≤◌, ◌<◌, false, List, length, Some, sym, ap, ◌∙◌, subst, inl, inr, ⊎_elim, arith}
use Rattle.std.specs.Prelude.{◌⊎◌, Contains}
use Rattle.std.proofs.lemmas.Bool.{cases_lt}
use Rattle.cnf_base.specs.Literals.{Literal}
use Rattle.cnf_base.specs.declared.clause.ClauseId.{ClauseId}
use Rattle.smt_terms.specs.declared.node.Node.{Node}
use Rattle.proof_log.specs.declared.entry.Entry.{Entry}
use Rattle.proof_log.specs.Logs.{clause_at, entry_at, state_of}
use Rattle.proof_log.specs.LemmaBoards.{Adds}
use Rattle.proof_log.specs.Diaries.{is_chain}
use Rattle.proof_log.proofs.Growth.{clause_place}
use Rattle.cube_search.specs.Holding.{AreSeparate, NeedNoOther, IsLonger, Occurs}
use Rattle.theory_search.specs.Theories.{AreKnown, IsApart}
use Rattle.theory_search.proofs.Grown.{clause_before, clause_after, entry_same, longer_log}
use Rattle.cube_search.proofs.Told.{longer_has}

module _ (nodes : List Node) (log : List Entry) (variables : List ℕ) (next : ℕ) (opening : List ℕ) (from : ℕ) (h : IsApart nodes log variables next opening from) where
  -- what is held has no other variable
  foreign : (x : ℕ) → (Contains variables x → ⊥) → x < next → Occurs (state_of nodes log).clauses opening x → ⊥
  foreign x un lt o =
      ⊎_elim
      (λ k. un (subst (Contains variables) o.6 k))
      (λ le. let q = o.6 in absurd (omega (arith, le, lt, q)))
      (h.known o.0 o.1 o.3 o.4 o.2 o.5)

  pub apart_separate : AreSeparate (state_of nodes log).clauses log opening from
  apart_separate id c lt plain e = ⊎_elim (λ k. inl k) (λ w. inr (w.0, w.1, foreign w.0.variable w.2 w.3)) (h.apart id c lt plain e)

  pub apart_alone : NeedNoOther (state_of nodes log).clauses log opening from
  apart_alone = (apart_separate, h.own)

  pub apart_all : AreSeparate (state_of nodes log).clauses log opening (suc (length log))
  apart_all id c lt plain e =
      ⊎_elim
      (λ less. apart_separate id c less plain e)
      (λ le. inl (h.own id.pos le (omega (arith, lt)) plain))
      (cases_lt id.pos from)

-- ---- before steps were added, of which each that is no chain is of another position

module _ (nodes : List Node) (log log' : List Entry) (g : Adds log log') (variables : List ℕ) (next : ℕ) (opening : List ℕ) (from : ℕ) (h : IsApart nodes log' variables next opening from) where
  pub apart_before : IsApart nodes log variables next opening from
  apart_before = record {
    apart = λ id c lt plain e. h.apart id c lt (ap is_chain (entry_same nodes log log' g id.pos (clause_place nodes log id c e)) ∙ plain) (clause_after nodes log log' g id c e);
    known = λ id c k e. h.known id c k (clause_after nodes log log' g id c e);
    own = λ p le within plain. h.own p le (let far = longer_log nodes log log' g in omega (arith, within, far)) (ap is_chain (entry_same nodes log log' g p within) ∙ plain);
  }

-- ---- behind steps that were added, of which all that are no chains are held

module _ (nodes : List Node) (log log' : List Entry) (g : Adds log log') (variables : List ℕ) (next : ℕ) (opening opening' : List ℕ) (from : ℕ)
    (longer : IsLonger opening opening')
    (only : (p : ℕ) → Contains opening' p → Contains opening p ⊎ ((from ≤ p) × (p ≤ length log') × (is_chain (entry_at log' p) ≡ false)))
    (all : (p : ℕ) → length log < p → p ≤ length log' → is_chain (entry_at log' p) ≡ false → Contains opening' p)
    (known : (id : ClauseId) (c : List Literal) → length log < id.pos → id.pos ≤ length log' → is_chain (entry_at log' id.pos) ≡ false → clause_at (state_of nodes log').clauses id ≡ Some c → AreKnown variables next c)
    (within : from ≤ suc (length log))
    (places : (p : ℕ) → Contains opening p → p ≤ length log)
    (h : IsApart nodes log variables next opening from) where
  old_known : (id : ClauseId) (c : List Literal) → Contains opening id.pos → clause_at (state_of nodes log').clauses id ≡ Some c → AreKnown variables next c
  old_known id c k e = h.known id c k (clause_before nodes log log' g id c (places id.pos k) e)

  new_known : (id : ClauseId) (c : List Literal) → Contains opening' id.pos → clause_at (state_of nodes log').clauses id ≡ Some c → AreKnown variables next c
  new_known id c k e = ⊎_elim
      (λ old. old_known id c old e)
      (λ q. ⊎_elim
      (λ less. known id c less q.1 q.2 e)
      (λ le. old_known id c (h.own id.pos q.0 le (sym (ap is_chain (entry_same nodes log log' g id.pos le)) ∙ q.2)) e)
      (cases_lt (length log) id.pos))
      (only id.pos k)

  pub apart_more : IsApart nodes log' variables next opening' from
  apart_more = record {
    apart = λ id c lt plain e.
        let le : id.pos ≤ length log = omega (arith, lt, within) in
        ⊎_elim (λ k. inl (longer_has opening opening' id.pos longer k)) (λ w. inr w)
        (h.apart id c lt (sym (ap is_chain (entry_same nodes log log' g id.pos le)) ∙ plain) (clause_before nodes log log' g id c le e));
    known = new_known;
    own = λ p le far plain. ⊎_elim
        (λ less. all p less far plain)
        (λ near. longer_has opening opening' p longer (h.own p le near (sym (ap is_chain (entry_same nodes log log' g p near)) ∙ plain)))
        (cases_lt (length log) p);
  }
