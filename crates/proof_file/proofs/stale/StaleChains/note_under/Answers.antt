use Rattle.std.proofs.Common.{◌≡◌, ℕ, List, refl, ap, ◌∙◌, subst}
use Rattle.proof_file.specs.Indexed.{StaleIndex, noted_under}
use Rattle.proof_file.specs.Noting.{HasNoted}
use Rattle.proof_file.proofs.Calls.{noted_one}
use Rattle.proof_file.proofs.stale.StaleChains.note_under.Goals as goal

pub returns : goal.returns
returns c =
    let s : StaleIndex = record { read = c.self.inside.read; selected = c.self.inside.selected.items; noted = c.self.inside.noted.items; watched = c.self.inside.watched.items } in
    let t : StaleIndex = record { read = c.self.inside.read; selected = c.self.inside.selected.items; noted = c.hold.new.noted.items; watched = c.watch.new.watched.items } in
    subst (λ (v : StaleIndex). HasNoted c.args.position (λ (b : ℕ). b ≡ c.args.assertion) v t) c.self.view_is
    (noted_one s t c.args.assertion c.args.position refl refl c.in_ok-hold.ensures c.in_ok-watch.ensures.kept (λ e. c.in_ok-watch.ensures.first (ap (λ (rows : List (List ℕ)). noted_under rows c.args.assertion) c.deref.ensures.value ∙ e)))
