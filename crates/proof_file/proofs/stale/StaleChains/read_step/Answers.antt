use Rattle.std.proofs.Common.{suc, refl, sym, ap, ◌∙◌, subst}
use Rattle.proof_log.proofs.Standing.{stands_over}
use Rattle.proof_file.specs.Indexed.{StaleIndex}
use Rattle.proof_file.specs.Noting.{KeepsIndex}
use Rattle.proof_file.proofs.Reading.{reads_one, next_step}
use Rattle.proof_file.proofs.stale.StaleChains.read_step.Goals as goal

pub returns-clause-keeps : goal.returns-clause-keeps
returns-clause-keeps c =
    let s : StaleIndex = record { read = c.self.inside.read; selected = c.self.inside.selected.items; noted = c.self.inside.noted.items; watched = c.self.inside.watched.items } in
    let t : StaleIndex = record { read = c.args.at; selected = c.read_entry.new.selected.items; noted = c.self.inside.noted.items; watched = c.self.inside.watched.items } in
    let next = c.requires.at ∙ ap (λ (v : StaleIndex). suc v.read) (sym c.self.view_is) in
    subst (λ (v : StaleIndex). KeepsIndex c.args.terms.now.nodes c.args.log.now.entries v t) c.self.view_is
    (reads_one c.args.terms.now.nodes c.args.log.now.entries c.requires.listed (stands_over c.args.terms.now.nodes c.args.log.now c.requires.stands).steps s t c.in-Some.entry.now
    (next_step c.args.log.now.entries c.args.at c.self.inside.read c.in-Some.entry.now next c.in-Some.ensures) next c.in_ok-read_entry.ensures refl refl)
