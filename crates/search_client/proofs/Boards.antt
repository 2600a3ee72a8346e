-- Searches on the board of a log.
use Rattle.std.proofs.Common.{◌≡◌, ℕ, suc, ◌<◌, ◌≤◌, List, length, Option, Some, None, sym, subst, arith}
use Rattle.std.specs.Prelude.{IfSome}
use Rattle.cnf_base.specs.Literals.{Literal}
use Rattle.cnf_base.specs.Assignments.{AreBelow}
use Rattle.smt_terms.specs.declared.node.Node.{Node}
use Rattle.smt_terms.specs.Terms.{TermsValue, IsTermList}
use Rattle.proof_log.specs.declared.entry.Entry.{Entry}
use Rattle.proof_log.specs.declared.entry.Entry.TheVariants as step
use Rattle.proof_log.specs.Logs.{state_of}
use Rattle.proof_log.specs.Stored.{LogValue, Stands}
use Rattle.proof_log.specs.Boards.{IsLater}
use Rattle.proof_log.proofs.Growth.{step_stays}
use Rattle.proof_log.proofs.Standing.{stands_over}
use Rattle.search_client.specs.Putting.{MayBePut}

-- ---- a board has the terms and the log that it was made of

pub board_listed : (terms own : TermsValue) → own ≡ terms → IsTermList terms.nodes → IsTermList own.nodes
board_listed terms own e h = subst (λ (v : TermsValue). IsTermList v.nodes) (sym e) h

pub board_knows : (log own : LogValue) (from p : ℕ) → own ≡ log → from ≡ suc (length log.entries) → p < from → p < suc (length own.entries)
board_knows log own from p e places lt = subst (λ (v : LogValue). p < suc (length v.entries)) (sym e) (omega (arith, lt, places))

pub board_from : (log own : LogValue) (from : ℕ) → own ≡ log → from ≡ suc (length log.entries) → from ≤ suc (length own.entries)
board_from log own from e places = subst (λ (v : LogValue). from ≤ suc (length v.entries)) (sym e) (omega (arith, places))

pub board_below : (terms own : TermsValue) (log own_log : LogValue) (given : List Literal) → own ≡ terms → own_log ≡ log → Stands terms.nodes log → AreBelow log.next given → AreBelow (state_of own.nodes own_log.entries).next given
board_below terms own log own_log given e e_log stands h =
    subst (λ (v : TermsValue). AreBelow (state_of v.nodes own_log.entries).next given) (sym e)
    (subst (λ (v : LogValue). AreBelow (state_of terms.nodes v.entries).next given) (sym e_log)
    (subst (λ (n : ℕ). AreBelow n given) (stands_over terms.nodes log stands).next h))

pub board_waits : (terms own : TermsValue) (log own_log : LogValue) (chain : Option Entry) → own ≡ terms → own_log ≡ log → IfSome chain (MayBePut terms.nodes log.entries) → IfSome chain (MayBePut own.nodes own_log.entries)
board_waits terms own log own_log chain e e_log h =
    subst (λ (v : TermsValue). IfSome chain (MayBePut v.nodes own_log.entries)) (sym e)
    (subst (λ (v : LogValue). IfSome chain (MayBePut terms.nodes v.entries)) (sym e_log) h)

-- ---- after a call

pub waits_later : (chain : Option Entry) (nodes nodes' : List Node) (log log' : List Entry) (known known' : ℕ → Type 0) → IsLater nodes nodes' log log' known known' → IfSome chain (MayBePut nodes log) → IfSome chain (MayBePut nodes' log')
waits_later None nodes nodes' log log' known known' l h = h
waits_later (Some (step.Chain c hints)) nodes nodes' log log' known known' l h = (h.0, step_stays nodes nodes' log log' known known' l c hints h.1)
waits_later (Some e) nodes nodes' log log' known known' l h = let q = h.0 in let f : ⊥ = cc in absurd f
