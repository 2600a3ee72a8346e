-- Logs to which equalities and lemmas are added, and what the calls of a board keep that takes them.
use Rattle.std.proofs.Common.{◌≡◌, ℕ, suc, ◌<◌, List, [], ◌∷◌, ◌++◌, length, Some, None, refl, sym, ap, ◌∙◌, subst, arith, append_assoc, append-nil, length-append}
use Rattle.std.specs.Prelude.{Result, Ok, Err, IfOk, OnErr}
use Rattle.std.specs.declared.alloc.AllocError.{AllocError}
use Rattle.cnf_base.proofs.Lists.{each_append}
use Rattle.cnf_base.proofs.Options.{IsSome-from}
use Rattle.smt_terms.specs.declared.node.Node.{Node}
use Rattle.proof_log.specs.declared.entry.Entry.{Entry}
use Rattle.proof_log.specs.declared.entry.Entry.TheVariants as step
use Rattle.proof_log.specs.Logs.{entry_at, state_of, IsPair, IsEqual}
use Rattle.proof_log.specs.Stored.{LogValue, pair_place, Stands, IsPushed}
use Rattle.proof_log.specs.Boards.{IsAdded}
use Rattle.proof_log.specs.LemmaBoards.{Adds, IsLaterByMore, AreEqualsIn}
use Rattle.proof_log.proofs.Equalities.{variable_there, held_place, no_held}
use Rattle.proof_log.proofs.Growth.{board_stands, entry_within}
use Rattle.proof_log.proofs.Placing.{entry_last}
use Rattle.proof_log.proofs.Standing.{stands_over}

-- ---- growth

pub adds_same : (log : List Entry) → Adds log log
adds_same log = record { more = []; is = sym (append-nil log); added = tt }

pub adds_then : (a b c : List Entry) → Adds a b → Adds b c → Adds a c
adds_then a b c g h = record {
  more = g.more ++ h.more;
  is = h.is ∙ ap (λ l. l ++ h.more) g.is ∙ append_assoc a g.more h.more;
  added = each_append IsAdded g.more h.more g.added h.added;
}

pub adds_one : (log : List Entry) (e : Entry) → IsAdded e → Adds log (log ++ e ∷ [])
adds_one log e k = record { more = e ∷ []; is = refl; added = (k, tt) }

-- ---- a log alone

pub more_same : (nodes : List Node) (l : LogValue) → Stands nodes l → IsLaterByMore nodes nodes l.entries l.entries (λ q. q < suc (length l.entries)) (λ q. q < suc (length l.entries))
more_same nodes l h = record { nodes = refl; adds = adds_same l.entries; knows = λ p k. k; stands = board_stands nodes l h }

more_pushed : (nodes : List Node) (old new : LogValue) (e : Entry) (p : ℕ) → IsAdded e → IsPushed nodes old new e p → IsLaterByMore nodes nodes old.entries new.entries (λ q. q < suc (length old.entries)) (λ q. q < suc (length new.entries))
more_pushed nodes old new e p k h = record {
  nodes = refl;
  adds = record { more = e ∷ []; is = h.entries; added = (k, tt) };
  knows = λ q lt. omega (arith, lt, ap length h.entries, length-append old.entries (e ∷ []));
  stands = board_stands nodes new h.stands;
}

pub more_later : (nodes : List Node) (old new : LogValue) (e : Entry) (r : Result ℕ AllocError) → Stands nodes old → IsAdded e → IfOk r (IsPushed nodes old new e) → OnErr r (new ≡ old) → IsLaterByMore nodes nodes old.entries new.entries (λ q. q < suc (length old.entries)) (λ q. q < suc (length new.entries))
more_later nodes old new e (Ok p) h k pushed same = more_pushed nodes old new e p k pushed
more_later nodes old new e (Err x) h k pushed same = subst (λ l. IsLaterByMore nodes nodes old.entries l.entries (λ q. q < suc (length old.entries)) (λ q. q < suc (length l.entries))) (sym same) (more_same nodes old h)

-- a step that was pushed stands at its position
pushed_entry : (nodes : List Node) (old new : LogValue) (e : Entry) (p : ℕ) → IsPushed nodes old new e p → entry_at new.entries p ≡ Some e
pushed_entry nodes old new e p h = ap (λ l. entry_at l p) h.entries ∙ ap (entry_at (old.entries ++ e ∷ [])) h.position ∙ entry_last old.entries e

pub pushed_entries : (nodes : List Node) (old new : LogValue) (e : Entry) (r : Result ℕ AllocError) → IfOk r (IsPushed nodes old new e) → IfOk r (λ p. entry_at new.entries p ≡ Some e)
pushed_entries nodes old new e (Ok p) h = pushed_entry nodes old new e p h
pushed_entries nodes old new e (Err x) h = h

-- a pair of which nothing is kept may have its step
pub pair_is_new : (nodes : List Node) (l : LogValue) (t u : ℕ) → Stands nodes l → IsPair nodes (state_of nodes l.entries) t u → pair_place l.equals t u ≡ None → IsEqual nodes (state_of nodes l.entries) t u
pair_is_new nodes l t u h p e = record { pair = p; new = no_held nodes l t u h e }

-- the position that is kept of a pair is one of the log
pub held_known : (nodes : List Node) (l : LogValue) (t u p : ℕ) → Stands nodes l → pair_place l.equals t u ≡ Some p → p < suc (length l.entries)
held_known nodes l t u p h e = let k = entry_within l.entries p (step.Equal t u) (held_place nodes l t u p h e) in omega (arith, k)

pub equals_shown : (nodes : List Node) (l : LogValue) → Stands nodes l → AreEqualsIn nodes l.entries (λ p. p < suc (length l.entries)) l.equals
equals_shown nodes l h =
    let k = stands_over nodes l h in
    record {
      literals = λ t u x e. sym (k.equals t u) ∙ e;
      places = λ t u p e. held_place nodes l t u p h e;
      known = λ t u p lt e.
          let v = variable_there nodes l.entries p t u k.steps e in
          IsSome-from _ v.0 (k.equals t u ∙ v.1);
    }
