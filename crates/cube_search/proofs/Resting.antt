-- A search between two checks.
use Rattle.std.proofs.Common.{◌≡◌, ℕ, suc, ◌≤◌, List, [], ◌++◌, length, Some, None, sym, ap, ◌∙◌, subst, inl, inr, ⊎_elim, arith}
use Rattle.std.specs.Prelude.{Contains}
use Rattle.std.proofs.lemmas.List.{length-append}
use Rattle.cnf_base.specs.Literals.{Literal}
use Rattle.cnf_base.specs.declared.clause.ClauseId.{ClauseId}
use Rattle.cnf_base.proofs.Lists.{Contains-nil, slice_get-append_left}
use Rattle.smt_terms.specs.declared.node.Node.{Node}
use Rattle.proof_log.specs.declared.entry.Entry.{Entry}
use Rattle.proof_log.specs.Logs.{clause_in, clause_at, state_of}
use Rattle.proof_log.specs.Diaries.{is_chain}
use Rattle.proof_log.proofs.Growth.{entry_left}
use Rattle.proof_log.proofs.Growing.{clause_more, clause_within}
use Rattle.cdcl_core.specs.Search.{clause_of, held_of}
use Rattle.cdcl_loop.specs.Engines.{IsEngine}
use Rattle.cube_search.specs.declared.search.Search.{Search}
use Rattle.cube_search.specs.Running.{IsSearch, IsResting}
use Rattle.cube_search.proofs.Later.{chain_within}
use Rattle.cube_search.proofs.Told.{told_none, told_agrees}

pub search_rests : (s : Search) (nodes : List Node) (log : List Entry) → IsSearch s nodes log → IsResting s (state_of nodes log).clauses log
search_rests s nodes log h = record {
  engine = h.0;
  sound = h.1.holding.sound;
  covered = h.1.holding.covered;
  plain = λ p k. (let lt = h.1.placed.before p k in omega (arith, lt), h.1.placed.plain p k);
  chains = h.1.placed.chains;
  stored = h.1.placed.stored;
  whole = h.1.holding.complete;
  told = h.2;
}

-- it rests beside a log that has become longer
pub rests_longer : (s : Search) (rows more : List (List (List Literal))) (log steps : List Entry) → length rows ≡ suc (length log) → IsResting s rows log → IsResting s (rows ++ more) (log ++ steps)
rests_longer s rows more log steps size h = record {
  engine = h.engine;
  sound = λ id c e. clause_more rows more id c (h.sound id c e);
  covered = h.covered;
  plain = λ p k. let q = h.plain p k in (omega (arith, q.0, longer), ap is_chain (entry_left log steps p q.0) ∙ q.1);
  chains = λ p k. let q = h.chains p k in ap is_chain (entry_left log steps p (chain_within log p q)) ∙ q;
  stored = λ id c e. ⊎_elim (λ x. inl (ap is_chain (entry_left log steps id.pos (place id c e)) ∙ x)) (λ x. inr x) (h.stored id c e);
  whole = λ id c k e. h.whole id c k (sym (same id (h.plain id.pos k).0) ∙ e);
  told = told_agrees rows s.engine.agenda.list s.opening.items s.ends.items h.told (rows ++ more) (clause_more rows more) (λ id k. same id (h.plain id.pos k).0);
}
  where
    same : (id : ClauseId) → id.pos ≤ length log → clause_at (rows ++ more) id ≡ clause_at rows id
    same id le = ap (λ o. clause_in o id.part) (slice_get-append_left rows more id.pos (omega (arith, le, size)))

    longer : length log ≤ length (log ++ steps)
    longer = omega (arith, length-append log steps)

    place : (id : ClauseId) (c : List Literal) → clause_of s.engine.watches id ≡ Some c → id.pos ≤ length log
    place id c e = omega (arith, clause_within rows id c (h.sound id c e), size)

-- what rests beside every log keeps nothing
pub keeps_nothing : (s : Search) → ((rows : List (List (List Literal))) (log : List Entry) → IsResting s rows log) → (id : ClauseId) (c : List Literal) → clause_of s.engine.watches id ≡ Some c → ⊥
keeps_nothing s h id c e = let lt = clause_within [] id c ((h [] []).sound id c e) in omega (arith, lt)

-- what keeps nothing rests beside every log
pub nothing_rests : (s : Search) → IsEngine s.engine → ((id : ClauseId) → clause_of s.engine.watches id ≡ None) → ((id : ClauseId) → held_of s.engine.watches id ≡ None) → s.engine.agenda.list ≡ [] → s.opening.items ≡ [] → s.ends.items ≡ [] → s.taken.items ≡ [] → (rows : List (List (List Literal))) (log : List Entry) → IsResting s rows log
nothing_rests s engine none unheld list opening ends taken rows log = record {
  engine = engine;
  sound = λ id c e. not_kept id c e;
  covered = λ id c e. let f : Some c ≡ None = sym e ∙ unheld id in let z : ⊥ = cc in absurd z;
  plain = λ p k. absurd (Contains-nil p (subst (λ (ps : List ℕ). Contains ps p) opening k));
  chains = λ p k. absurd (Contains-nil p (subst (λ (ps : List ℕ). Contains ps p) taken k));
  stored = λ id c e. not_kept id c e;
  whole = λ id c k e. absurd (Contains-nil id.pos (subst (λ (ps : List ℕ). Contains ps id.pos) opening k));
  told = told_none rows s.engine.agenda.list s.opening.items s.ends.items list opening ends;
}
  where
    not_kept : {A : Type 0} (id : ClauseId) (c : List Literal) → clause_of s.engine.watches id ≡ Some c → A
    not_kept id c e = let f : Some c ≡ None = sym e ∙ none id in let z : ⊥ = cc in absurd z
