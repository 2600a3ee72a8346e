use Rattle.std.proofs.Common.{◌≡◌, ℕ, refl, sym, subst}
use Rattle.proof_log.specs.Logs.{clause_at}
use Rattle.diary_checker.specs.Tables.{bit_in}
use Rattle.diary_checker.specs.Uses.{AreFiled}
use Rattle.diary_checker.specs.Starts.{StartValue, is_at_start}
use Rattle.diary_checker.proofs.Reading.{begun}
use Rattle.diary_checker.proofs.reader.DiaryReader.new.Goals as goal

pub returns : goal.returns
returns c = λ g about given from.
    let log = c.args.log.now in
    let held = subst (λ (x : StartValue). (p : ℕ) → bit_in x.held p ≡ is_at_start (bit_in c.args.deleted.now) log.entries c.args.from p) (sym c.start.view_is) c.in_ok-start.ensures.held in
    let filed = subst (λ (x : StartValue). AreFiled (clause_at log.clauses) (bit_in x.held) x.filed) (sym c.start.view_is) c.in_ok-start.ensures.filed in
    begun (bit_in c.args.deleted.now) g log c.args.given.now c.args.from _ about given from c.in_ok-insert.ensures held filed refl refl refl refl refl c.new.ensures.items
