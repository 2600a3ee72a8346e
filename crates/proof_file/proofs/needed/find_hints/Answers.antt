use Rattle.std.proofs.Common.{List, ℕ, map, subst, arith}
use Rattle.std.proofs.lemmas.List.{take_all}
use Rattle.cnf_base.specs.declared.clause.ClauseId.{ClauseId}
use Rattle.proof_file.specs.Finding.{AreFound}
use Rattle.proof_file.specs.Held.{file_in}
use Rattle.proof_file.proofs.Finding.{found_nothing, found_next}
use Rattle.proof_file.proofs.needed.find_hints.Goals as goal

pub loop-k-init : goal.loop-k-init
loop-k-init c = found_nothing c.args.log.now.entries (file_in c.args.places.now).places c.args.found.now

pub loop-k-preserved : goal.loop-k-preserved
loop-k-preserved c =
    found_next c.args.log.now.entries (file_in c.args.places.now).places (λ (h : ClauseId). h.pos) c.args.hints.now c.loop-k.k c.hint.result
    c.args.found.now c.loop-k.found c.find_one.new.found c.hint.ensures c.loop-k.invariant c.in_ok-find_one.ensures

pub returns : goal.returns
returns c =
    subst (λ (hs : List ClauseId). AreFound c.args.log.now.entries (file_in c.args.places.now).places (map (λ (h : ClauseId). h.pos) hs) c.args.found.now c.loop-k.found)
    (take_all c.loop-k.k c.args.hints.now (omega arith)) c.loop-k.invariant
