-- One step more is read.
use Rattle.std.proofs.Common.{◌≡◌, ℕ, suc, ◌-◌, ◌<◌, List, ◌++◌, length, take, replicate, Some, None, sym, ap, ◌∙◌}
use Rattle.cnf_base.proofs.Lists.{slice_get-there}
use Rattle.smt_terms.specs.declared.node.Node.{Node}
use Rattle.proof_log.specs.declared.entry.Entry.{Entry}
use Rattle.proof_log.specs.Logs.{entry_at, state_of}
use Rattle.proof_log.specs.Stored.{LogValue, Stands}
use Rattle.proof_log.proofs.Standing.{stands_over}
use Rattle.opening_positions.specs.Reading.{ReadSteps, IsRead, adds_equality, adds_lemma}
use Rattle.opening_positions.proofs.Kept.{IsNoted, noted_here, read_equality, read_lemma, read_more}

-- the next step is there
pub step_missing : (log : List Entry) (at n : ℕ) → at ≡ suc n → n < length log → entry_at log at ≡ None → ⊥
step_missing log at n e lt none =
    let w = slice_get-there log n lt in
    let r : None ≡ Some w.0 = sym none ∙ ap (entry_at log) e ∙ w.1 in
    cc

pub stepped : (nodes : List Node) (log : LogValue) (s : ReadSteps) (e : Entry) (at n : ℕ) (es ls ms : List ℕ) → Stands nodes log → IsRead nodes log.entries s → at ≡ suc s.read → entry_at log.entries at ≡ Some e
    → ((p : ℕ) → at ≡ suc p → length s.makers ≡ (state_of nodes (take p log.entries)).next → n ≡ (state_of nodes (take (suc p) log.entries)).next)
    → IsNoted s.equalities (adds_equality e) at es → IsNoted s.lemmas (adds_lemma e) at ls → ms ≡ take n s.makers ++ replicate (n - length s.makers) at → length ms ≡ n
    → IsRead nodes log.entries (record { read = at; makers = ms; equalities = es; lemmas = ls })
stepped nodes log s e at n es ls ms stands h is_at there next equality lemma_put are long =
    let first = read_equality nodes log.entries s e at es there equality h in
    let second = read_lemma nodes log.entries (record { read = s.read; makers = s.makers; equalities = es; lemmas = s.lemmas }) e at ls there lemma_put first in
    read_more nodes log.entries (stands_over nodes log stands).steps (record { read = s.read; makers = s.makers; equalities = es; lemmas = ls }) second e (sym (ap (entry_at log.entries) is_at) ∙ there) n at ms is_at (next s.read is_at h.next) are long
    (noted_here s.equalities es (adds_equality e) at equality) (noted_here s.lemmas ls (adds_lemma e) at lemma_put)
