use Rattle.std.proofs.Common.{◌≡◌, ◌<◌, ◌∙◌, ◌++◌, ◌∷◌, [], sym, subst, arith}
use Rattle.diary_checker.specs.Tables.{AreEach, number_of}
use Rattle.diary_checker.proofs.Each.{each_new, each_old}
use Rattle.diary_checker.proofs.literals.ClauseLiterals.add.Goals as goal

pub returns-in_ok-set : goal.returns-in_ok-set
returns-in_ok-set c = λ clause h.
    let zero : number_of c.args.self.now.table c.args.l ≡ 0 = sym c.get.ensures ∙ (omega arith) in
    subst (λ ls. AreEach c.set.new.self ls (clause ++ c.args.l ∷ [])) (sym c.in_ok-push.ensures.items)
    (each_new c.args.self.now.table c.set.new.self c.args.self.now.each.items clause c.args.l zero c.in_ok-set.ensures.here c.set.ensures.others h)

pub returns-else-get-eq0 : goal.returns-else-get-eq0
returns-else-get-eq0 c = λ clause h.
    each_old c.args.self.now.table c.args.self.now.each.items clause c.args.l (subst (λ n. 0 < n) c.get.ensures (omega arith)) h
