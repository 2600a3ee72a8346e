use Rattle.std.proofs.Common.{◌≡◌, ℕ, List, map, subst, Bor}
use Rattle.theory_rows.specs.Rows.{lines_text, changed_lines}
use Rattle.theory_rows.proofs.Lines.{changed_is}
use Rattle.theory_rows.proofs.table.changed_text.Goals as goal

pub returns : goal.returns
returns c =
    let front = c.args.change.now.front in
    let count = c.args.change.now.count in
    subst (λ (ls : List (Bor (List ℕ))). c.push_lines-3.new.text ≡ lines_text (changed_lines front count (map (λ (l : Bor (List ℕ)). l.now) ls) (map (λ (l : Bor (List ℕ)). l.now) c.args.proof.now)))
    c.as_slice.ensures.value
    (changed_is (λ (l : Bor (List ℕ)). l.now) front count c.args.proof.now c.as_slice.result.now _ _ _ _ c.new-text.ensures c.in_ok-push_lines.ensures
    c.in_ok-push_lines-2.ensures c.in_ok-push_lines-3.ensures)
