use Rattle.std.proofs.Common.{ℕ, ◌≡◌, ◌++◌, List, [], ◌∷◌, false, sym, ap, ◌∙◌, length, reverse}
use Rattle.std.specs.Prelude.{Contains}
use Rattle.std.proofs.lemmas.List.{length-replicate}
use Rattle.cnf_base.specs.Literals.{Literal}
use Rattle.cdcl_core.specs.Search.{clause_of}
use Rattle.cdcl_learn.specs.Rows.{IsFalseBefore}
use Rattle.cdcl_learn.specs.Walks.{IsSet, IsMarked}
use Rattle.cdcl_learn.proofs.Lists.{unset_all}
use Rattle.cdcl_learn.proofs.Derivations.{derived_start}
use Rattle.cdcl_learn.proofs.walk.Walk.start.Goals as goal
use Rattle.std.proofs.lemmas.Option.{same_Some}

pub returns-clause-walk : goal.returns-clause-walk
returns-clause-walk c =
    let f = c.requires.conflict in
    let d : List Literal = c.in-Some.clause.now in
    let e : f.0 ≡ d = same_Some f.0 d (sym f.1.0 ∙ sym c.in-Some.ensures) in
    let refuted : (m : Literal) → Contains d m → IsFalseBefore c.args.rows.now (length c.args.rows.now) m = λ m h. f.1.1 m (rw e h) in
    let k : IsMarked c.args.rows.now d c.in_ok-marks.marks c.mark.new.marks = rw c.literals.ensures at c.mark.ensures in
    let clear : (p : ℕ) → IsSet c.in_ok-marks.marks p → ⊥ = λ p s. unset_all (length c.args.rows.now) p (rw c.in_ok-marks.ensures at s) in
    let turned : reverse c.push.new.self.items ≡ c.args.conflict ∷ [] = ap reverse (c.in_ok-push.ensures.items ∙ ap (λ hs. hs ++ c.args.conflict ∷ []) c.in_ok-hints.ensures.items) in
    rw c.marks-2.view_is (record {
      size = k.size ∙ (ap length c.in_ok-marks.ensures ∙ length-replicate (length c.args.rows.now) false);
      derived = rw turned (derived_start (clause_of c.args.watches.now) c.args.rows.now c.in_ok-marks.marks c.mark.new.marks c.args.conflict d (sym c.in-Some.ensures) refuted clear k);
    })

pub returns-clause-first : goal.returns-clause-first
returns-clause-first c = c.in_ok-push.ensures.items ∙ ap (λ hs. hs ++ c.args.conflict ∷ []) c.in_ok-hints.ensures.items
