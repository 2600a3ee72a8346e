-- What steps leave, from what the steps leave that are no chains.
use Rattle.std.proofs.Common.{◌≡◌, ℕ, suc, Bool, true, false, List, [], ◌∷◌, ◌++◌, length, Option, Some, None, refl, sym, ap, ◌∙◌, subst, append_assoc, append-nil, arith}
use Rattle.std.specs.Prelude.{if◌then◌else◌}
use Rattle.cnf_base.specs.Literals.{Literal}
use Rattle.smt_terms.specs.declared.node.Node.{Node}
use Rattle.proof_log.specs.declared.entry.Entry.{Entry}
use Rattle.proof_log.specs.declared.entry.Entry.TheVariants as step
use Rattle.proof_log.specs.Diaries.{is_chain}
use Rattle.proof_log.specs.Logs.{LogState, start, after, state_from, state_of}
use Rattle.smt_terms.specs.Bits.{bits_in}
use Rattle.proof_log.specs.Stored.{LogValue, Stands, clauses_of, literal_of, selector_in}
use Rattle.proof_log.proofs.Growth.{row_of}
use Rattle.proof_log.proofs.Standing.{stands_over}
use Rattle.faded_log.specs.Faded.{FadedValue, plain_steps, first_of, behind_first, woven, with_chains, IsHeld}
use Rattle.faded_log.proofs.States.{with_clauses, after_with, rows_from, state_rows}

-- ---- lists of steps, by whether the first is a chain

pub plain_chain : (e : Entry) (es : List Entry) → is_chain (Some e) ≡ true → plain_steps (e ∷ es) ≡ plain_steps es
plain_chain e es h = ap (λ (b : Bool). if b then plain_steps es else e ∷ plain_steps es) h

pub plain_other : (e : Entry) (es : List Entry) → is_chain (Some e) ≡ false → plain_steps (e ∷ es) ≡ e ∷ plain_steps es
plain_other e es h = ap (λ (b : Bool). if b then plain_steps es else e ∷ plain_steps es) h

module _ (rows : List (List (List Literal))) where
  pub woven_chain : (e : Entry) (es : List Entry) → is_chain (Some e) ≡ true → woven (e ∷ es) rows ≡ clauses_of e [] ∷ woven es rows
  woven_chain e es h = ap (λ (b : Bool). if b then clauses_of e [] ∷ woven es rows else first_of rows ∷ woven es (behind_first rows)) h

  pub woven_other : (e : Entry) (es : List Entry) → is_chain (Some e) ≡ false → woven (e ∷ es) rows ≡ first_of rows ∷ woven es (behind_first rows)
  woven_other e es h = ap (λ (b : Bool). if b then clauses_of e [] ∷ woven es rows else first_of rows ∷ woven es (behind_first rows)) h

-- ---- what they leave

-- a chain leaves its clause alone
pub chain_after : (nodes : List Node) (s : LogState) (rows : List (List (List Literal))) (e : Entry) → is_chain (Some e) ≡ true → after nodes (with_clauses s rows) e ≡ with_clauses s (rows ++ clauses_of e [] ∷ [])
chain_after nodes s rows (step.Chain c hints) h = refl
chain_after nodes s rows (step.Node n) h = let f : ⊥ = cc in absurd f
chain_after nodes s rows (step.Leaf t) h = let f : ⊥ = cc in absurd f
chain_after nodes s rows (step.Encode t) h = let f : ⊥ = cc in absurd f
chain_after nodes s rows (step.Selector a t) h = let f : ⊥ = cc in absurd f
chain_after nodes s rows (step.Rewrite r) h = let f : ⊥ = cc in absurd f
chain_after nodes s rows (step.Equal t u) h = let f : ⊥ = cc in absurd f
chain_after nodes s rows (step.Lemma l) h = let f : ⊥ = cc in absurd f

pub state_with : (nodes : List Node) (es : List Entry) (s : LogState) (rows : List (List (List Literal))) →
    state_from nodes (with_clauses s rows) es ≡ with_clauses (state_from nodes s (plain_steps es)) (rows ++ woven es (rows_from nodes s (plain_steps es)))
state_with nodes [] s rows = ap (with_clauses s) (sym (append-nil rows))
state_with nodes (e ∷ es) s rows = by_kind (state_with nodes es) (is_chain (Some e)) refl
  where
    by_kind : ((t : LogState) (rs : List (List (List Literal))) → state_from nodes (with_clauses t rs) es ≡ with_clauses (state_from nodes t (plain_steps es)) (rs ++ woven es (rows_from nodes t (plain_steps es)))) → (b : Bool) → is_chain (Some e) ≡ b → state_from nodes (with_clauses s rows) (e ∷ es) ≡ with_clauses (state_from nodes s (plain_steps (e ∷ es))) (rows ++ woven (e ∷ es) (rows_from nodes s (plain_steps (e ∷ es))))
    by_kind rest true h =
        ap (λ x. state_from nodes x es) (chain_after nodes s rows e h)
        ∙ rest s (rows ++ clauses_of e [] ∷ [])
        ∙ ap (with_clauses (state_from nodes s (plain_steps es))) (append_assoc rows (clauses_of e [] ∷ []) (woven es (rows_from nodes s (plain_steps es))))
        ∙ ap (λ xs. with_clauses (state_from nodes s (plain_steps es)) (rows ++ xs)) (sym (woven_chain (rows_from nodes s (plain_steps es)) e es h))
        ∙ ap (λ ps. with_clauses (state_from nodes s ps) (rows ++ woven (e ∷ es) (rows_from nodes s ps))) (sym (plain_chain e es h))
    by_kind rest false h =
        let next = after nodes s e in
        let more = rows_from nodes (after nodes s e) (plain_steps es) in
        ap (λ x. state_from nodes x es) (after_with s rows nodes e)
        ∙ rest next (rows ++ row_of nodes s e ∷ [])
        ∙ ap (with_clauses (state_from nodes next (plain_steps es))) (append_assoc rows (row_of nodes s e ∷ []) (woven es more))
        ∙ ap (λ xs. with_clauses (state_from nodes next (plain_steps es)) (rows ++ xs)) (sym (woven_other (row_of nodes s e ∷ more) e es h))
        ∙ ap (λ ps. with_clauses (state_from nodes s ps) (rows ++ woven (e ∷ es) (rows_from nodes s ps))) (sym (plain_other e es h))

-- what the steps of a stored log leave: what those leave that are no chains, and the clauses that are kept
pub held_state : (nodes : List Node) (l : FadedValue) → IsHeld nodes l → state_of nodes l.entries ≡ with_clauses (state_of nodes l.base.entries) l.clauses
held_state nodes l h = state_with nodes l.entries start start.clauses ∙ ap (with_clauses (state_of nodes (plain_steps l.entries))) (sym rows) ∙ ap (λ ps. with_clauses (state_of nodes ps) l.clauses) (sym h.steps)
  where
    plain : List Entry
    plain = plain_steps l.entries

    below : l.base.clauses ≡ start.clauses ++ rows_from nodes start plain
    below = (stands_over nodes l.base h.base).clauses ∙ ap (λ ps. (state_of nodes ps).clauses) h.steps ∙ state_rows nodes start plain

    rows : l.clauses ≡ start.clauses ++ woven l.entries (rows_from nodes start plain)
    rows = h.clauses ∙ ap (with_chains l.entries) below

pub held_clauses : (nodes : List Node) (l : FadedValue) → IsHeld nodes l → l.clauses ≡ (state_of nodes l.entries).clauses
held_clauses nodes l h = sym (ap (λ (s : LogState). s.clauses) (held_state nodes l h))

pub held_next : (nodes : List Node) (l : FadedValue) → IsHeld nodes l → l.base.next ≡ (state_of nodes l.entries).next
held_next nodes l h = (stands_over nodes l.base h.base).next ∙ sym (ap (λ (s : LogState). s.next) (held_state nodes l h))

-- what is kept is what all steps leave
pub record IsKeptHere (nodes : List Node) (l : FadedValue) : Type 0 where
  pub next : l.base.next ≡ (state_of nodes l.entries).next
  pub bits : (t : ℕ) → bits_in l.base.bits t ≡ (state_of nodes l.entries).bits t
  pub selectors : (a : ℕ) → selector_in l.base.selectors a ≡ literal_of ((state_of nodes l.entries).selectors a)
  pub clauses : l.clauses ≡ (state_of nodes l.entries).clauses

pub held_kept : (nodes : List Node) (l : FadedValue) → IsHeld nodes l → IsKeptHere nodes l
held_kept nodes l h =
    let k = stands_over nodes l.base h.base in
    record {
      next = held_next nodes l h;
      bits = λ t. k.bits t ∙ sym (ap (λ (s : LogState). s.bits t) (held_state nodes l h));
      selectors = λ a. k.selectors a ∙ sym (ap (λ (s : LogState). literal_of (s.selectors a)) (held_state nodes l h));
      clauses = held_clauses nodes l h;
    }
