use Rattle.std.proofs.Common.{◌≡◌, ◌+◌, ◌<◌, length, [], ◌∷◌, ◌++◌, refl, sym, inl, inr, arith}
use Rattle.std.proofs.lemmas.Option.{get_or_from_slice_get}
use Rattle.cnf_base.specs.Clauses.{no_id}
use Rattle.cnf_base.specs.Literals.{negated}
use Rattle.proof_log.specs.Logs.{clause_at}
use Rattle.diary_checker.proofs.Sets.{set_more}
use Rattle.diary_checker.proofs.Using.{used_last, used_none, used_unused, used_more, used_rest}
use Rattle.diary_checker.proofs.uses.are_used.Goals as goal

pub loop-k-init : goal.loop-k-init
loop-k-init c = record { more = inl refl; rest = λ known set. record { now = known; set = set; forth = λ u. u; back = λ u. u } }

pub returns-then-k-count : goal.returns-then-k-count
returns-then-k-count c = λ known set.
    let look = clause_at c.args.log.now.clauses in
    let inv = c.loop-k.invariant.rest known set in
    let last : c.loop-k.k + 1 ≡ length c.args.hints.now = omega arith in
    inv.forth (used_last look inv.now c.args.hints.now c.loop-k.k last)

pub returns-in_default : goal.returns-in_default
returns-in_default c = λ known set u.
    let look = clause_at c.args.log.now.clauses in
    let inv = c.loop-k.invariant.rest known set in
    let more : c.loop-k.k + 1 < length c.args.hints.now = omega arith in
    let same = sym (get_or_from_slice_get c.args.hints.now c.loop-k.k c.hint.result no_id c.hint.ensures) in
    used_none look inv.now c.args.hints.now c.loop-k.k more (rw same at (c.in_default.ensures inv.now inv.set)) (inv.back u)

pub returns-then-get-k : goal.returns-then-get-k
returns-then-get-k c = λ known set u.
    let look = clause_at c.args.log.now.clauses in
    let inv = c.loop-k.invariant.rest known set in
    let more : c.loop-k.k + 1 < length c.args.hints.now = omega arith in
    let l = c.in-Some.l in
    let got = rw c.negated.ensures at c.get.ensures in
    let same = sym (get_or_from_slice_get c.args.hints.now c.loop-k.k c.hint.result no_id c.hint.ensures) in
    used_unused look inv.now c.args.hints.now c.loop-k.k l more (rw same at (c.in-Some.ensures inv.now inv.set)) (λ s. let lt = (c.requires (negated l) (c.loop-k.k + 1)).1 s in absurd (omega arith)) (inv.back u)

pub loop-k-preserved : goal.loop-k-preserved
loop-k-preserved c =
    let look = clause_at c.args.log.now.clauses in
    let k = c.loop-k.k in
    let l = c.in-Some.l in
    let more : k + 1 < length c.args.hints.now = omega arith in
    let got = rw c.negated.ensures at c.get.ensures in
    let stands = (c.requires (negated l) (k + 1)).0 (omega arith) in
    let same = sym (get_or_from_slice_get c.args.hints.now k c.hint.result no_id c.hint.ensures) in
    record {
      more = inr more;
      rest = λ known set.
          let inv = c.loop-k.invariant.rest known set in
          let adds = rw same at (c.in-Some.ensures inv.now inv.set) in
          record {
            now = inv.now ++ l ∷ [];
            set = set_more c.loop-k.trues c.set.new.self inv.now l inv.set c.in_ok-set.ensures.here c.set.ensures.others;
            forth = λ u. inv.forth (used_more look inv.now c.args.hints.now k l more adds stands u);
            back = λ u. used_rest look inv.now c.args.hints.now k l more adds (inv.back u);
          };
    }
