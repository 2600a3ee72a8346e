-- Which lemmas lines say.
use Rattle.std.proofs.Common.{◌≡◌, ℕ, ◌<◌, true, false, List, [], ◌∷◌, length, map, sym, ap, ◌∙◌, subst}
use Rattle.std.specs.List.{AllByRecursion}
use Rattle.std.proofs.lemmas.Bool.{false≢true}
use Rattle.smt_terms.specs.declared.node.Node.{Node}
use Rattle.theory_terms.specs.declared.lemma.Move.{Move}
use Rattle.theory_terms.specs.declared.lemma.Move.TheVariants as move
use Rattle.theory_terms.specs.declared.lemma.Start.{Start}
use Rattle.theory_terms.specs.declared.lemma.Start.TheVariants as begins
use Rattle.theory_terms.specs.declared.lemma.Access.{Access}
use Rattle.theory_terms.specs.declared.lemma.Lemma.{Lemma}
use Rattle.theory_terms.specs.declared.lemma.Lemma.TheVariants as lemma
use Rattle.theory_terms.specs.Lemmas.{atoms_of}
use Rattle.theory_terms.specs.Named.{mover, IsHeldStart, IsHeldAccess, AreHeld}
use Rattle.theory_terms.proofs.Held.{lemma_held}
use Rattle.theory_lemmas.proofs.Parts.{atoms_are}
use Rattle.script_state.specs.States.{StateValue}
use Rattle.proof_log.specs.declared.entry.Entry.{Entry}
use Rattle.proof_log.specs.declared.entry.Entry.TheVariants as entry
use Rattle.proof_log.specs.Logs.{LogState, IsLemma, state_of}
use Rattle.proof_text.specs.declared.line.Line.{Line}
use Rattle.proof_text.specs.Entries.{head_of, written_move, written_start, written_access, lemma_line}
use Rattle.accepted_proof.specs.Judged.{IsStepOf}
use Rattle.accepted_proof.proofs.Once.{is_lemma, is_lemma_in, term_line}
use Rattle.proof_checker.specs.Naming.{IsStartOver, IsMoveOver, IsAccessOver, IsLemmaOver}

-- ---- what lemmas name

moves_over : (n : ℕ) (ms : List Move) → AllByRecursion (λ m. mover m < n) ms → AllByRecursion (IsMoveOver n) (map written_move ms)
moves_over n [] h = tt
moves_over n (move.Store t ∷ ms) h = (h.0, moves_over n ms h.1)
moves_over n (move.Then t ∷ ms) h = (h.0, moves_over n ms h.1)
moves_over n (move.Else t ∷ ms) h = (h.0, moves_over n ms h.1)
moves_over n (move.Sides t ∷ ms) h = (h.0, moves_over n ms h.1)

module _ (nodes : List Node) where
  start_over : (s : Start) → IsHeldStart nodes s → IsStartOver (length nodes) (written_start s)
  start_over (begins.Term t) h = h
  start_over (begins.Const k j) h = h

  access_over : (a : Access) → IsHeldAccess nodes a → IsAccessOver (length nodes) (written_access a)
  access_over a h = (start_over a.start h.0, moves_over (length nodes) a.path h.1)

  lemma_over : (a : Lemma) → AreHeld nodes a → IsLemmaOver (length nodes) (lemma_line a)
  lemma_over (lemma.Congruence t u) h = h
  lemma_over (lemma.Witness t) h = h
  lemma_over (lemma.Arrays a b) h = (access_over a h.0, access_over b h.1)

  -- a lemma that has a clause names held terms
  valid_over : (s : LogState) (a : Lemma) → IsLemma nodes s a → IsLemmaOver (length nodes) (lemma_line a)
  valid_over s a is = let h = atoms_are s.bits s.equals (atoms_of nodes a) is.clause is.is in lemma_over a (lemma_held nodes a h.atoms h.is)

-- ---- lines

module _ (s : StateValue) (log : List Entry) (l : Line) (held : ℕ) (count : held ≡ length s.terms.nodes) where
  -- the line of a step that is no lemma is that of none
  other_line : is_lemma l ≡ true → false ≡ is_lemma l → ⊥
  other_line w e = false≢true (e ∙ w)

  -- no valid step is written as a lemma with the number of no term
  pub no_lemma_line : is_lemma l ≡ true → (IsLemmaOver held l → ⊥) → (deleted : List ℕ) (e : Entry) → IsStepOf s log deleted l e → ⊥
  no_lemma_line w none deleted (entry.Node n) is = other_line w (sym (ap is_lemma (term_line (head_of n.op) n.args l is.written).written))
  no_lemma_line w none deleted (entry.Leaf t) is = other_line w (ap is_lemma_in is.written)
  no_lemma_line w none deleted (entry.Encode t) is = other_line w (ap is_lemma_in is.written)
  no_lemma_line w none deleted (entry.Selector a t) is = other_line w (ap is_lemma_in is.written)
  no_lemma_line w none deleted (entry.Chain c hints) is = other_line w (ap is_lemma_in is.written)
  no_lemma_line w none deleted (entry.Rewrite r) is = other_line w (ap is_lemma_in is.written)
  no_lemma_line w none deleted (entry.Equal t u) is = other_line w (ap is_lemma_in is.written)
  no_lemma_line w none deleted (entry.Lemma a) is =
      let over = valid_over s.terms.nodes (state_of s.terms.nodes log) a is.valid in
      let written : lemma_line a ≡ l = cc in
      none (subst (IsLemmaOver held) written (subst (λ n. IsLemmaOver n (lemma_line a)) (sym count) over))
