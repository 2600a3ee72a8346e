use Rattle.std.proofs.Common.{◌≡◌, Bool, true, List, ap, ◌∙◌, length}
use Rattle.std.proofs.Math.ListN.{replicate}
use Rattle.dimacs_front.proofs.Hints.{all_live}
use Rattle.dimacs_front.proofs.table.Table.new.Goals as goal

pub returns : goal.returns
returns c =
    let cs = c.args.rows.clauses in
    let made : c.in_ok-live.live.items ≡ replicate c.len.result true = c.in_ok-live.ensures.items_if_clones_equal (λ y e. cc) in
    let size : c.len.result ≡ length cs = c.len.ensures in
    ap (λ (bs : List Bool). record { clauses = cs; live = bs }) (made ∙ ap (λ n. replicate n true) size ∙ all_live cs)
