use Rattle.std.proofs.Common.{rules, ◌≡◌, ℕ, suc, ◌-◌, Bool, List, [], ◌∷◌, ◌++◌, length, vec_len, take, replicate, sym, ap, ◌∙◌, subst}
use Rattle.std.specs.Prelude.{if◌then◌else◌}
use Rattle.opening_positions.specs.Reading.{ReadSteps, IsRead, adds_equality, adds_lemma}
use Rattle.opening_positions.proofs.Kept.{IsNoted, read_equality, read_lemma}
use Rattle.opening_positions.proofs.Stepping.{stepped}
use Rattle.opening_positions.proofs.theory_steps.TheorySteps.read_step.Goals as goal

pub returns-in_err-note-2-clause-read : goal.returns-in_err-note-2-clause-read
returns-in_err-note-2-clause-read c =
    let s : ReadSteps = record { read = c.self.inside.read; makers = c.self.inside.makers.items; equalities = c.self.inside.equalities.items; lemmas = c.self.inside.lemmas.items } in
    let own : IsRead c.args.terms.now.nodes c.args.log.now.entries s = subst (IsRead c.args.terms.now.nodes c.args.log.now.entries) (sym c.self.view_is) c.requires.read in
    let noted : IsNoted c.self.inside.equalities.items (adds_equality c.in-Some.entry.now) c.args.at c.note.new.positions.items =
    c.in_ok-note.ensures.ok ∙ ap (λ (b : Bool). if b then c.self.inside.equalities.items ++ c.args.at ∷ [] else c.self.inside.equalities.items) c.is_equality.ensures in
    subst (λ (l : List ℕ). IsRead c.args.terms.now.nodes c.args.log.now.entries (record { read = c.self.inside.read; makers = c.self.inside.makers.items; equalities = c.note.new.positions.items; lemmas = l })) (sym c.in_err-note-2.ensures.err)
    (read_equality c.args.terms.now.nodes c.args.log.now.entries s c.in-Some.entry.now c.args.at c.note.new.positions.items (sym c.in-Some.ensures) noted own)

pub returns-in_err-resize-clause-read : goal.returns-in_err-resize-clause-read
returns-in_err-resize-clause-read c =
    let s : ReadSteps = record { read = c.self.inside.read; makers = c.self.inside.makers.items; equalities = c.self.inside.equalities.items; lemmas = c.self.inside.lemmas.items } in
    let own : IsRead c.args.terms.now.nodes c.args.log.now.entries s = subst (IsRead c.args.terms.now.nodes c.args.log.now.entries) (sym c.self.view_is) c.requires.read in
    let noted : IsNoted c.self.inside.equalities.items (adds_equality c.in-Some.entry.now) c.args.at c.note.new.positions.items =
    c.in_ok-note.ensures.ok ∙ ap (λ (b : Bool). if b then c.self.inside.equalities.items ++ c.args.at ∷ [] else c.self.inside.equalities.items) c.is_equality.ensures in
    let put : IsNoted c.self.inside.lemmas.items (adds_lemma c.in-Some.entry.now) c.args.at c.note-2.new.positions.items =
    c.in_ok-note-2.ensures.ok ∙ ap (λ (b : Bool). if b then c.self.inside.lemmas.items ++ c.args.at ∷ [] else c.self.inside.lemmas.items) c.is_lemma.ensures in
    let t : ReadSteps = record { read = c.self.inside.read; makers = c.self.inside.makers.items; equalities = c.note.new.positions.items; lemmas = c.self.inside.lemmas.items } in
    subst (λ (l : List ℕ). IsRead c.args.terms.now.nodes c.args.log.now.entries (record { read = c.self.inside.read; makers = l; equalities = c.note.new.positions.items; lemmas = c.note-2.new.positions.items })) (sym c.in_err-resize.ensures.items)
    (read_lemma c.args.terms.now.nodes c.args.log.now.entries t c.in-Some.entry.now c.args.at c.note-2.new.positions.items (sym c.in-Some.ensures) put
    (read_equality c.args.terms.now.nodes c.args.log.now.entries s c.in-Some.entry.now c.args.at c.note.new.positions.items (sym c.in-Some.ensures) noted own))

pub returns-clause-read : goal.returns-clause-read
returns-clause-read c =
    let s : ReadSteps = record { read = c.self.inside.read; makers = c.self.inside.makers.items; equalities = c.self.inside.equalities.items; lemmas = c.self.inside.lemmas.items } in
    let own : IsRead c.args.terms.now.nodes c.args.log.now.entries s = subst (IsRead c.args.terms.now.nodes c.args.log.now.entries) (sym c.self.view_is) c.requires.read in
    let noted : IsNoted c.self.inside.equalities.items (adds_equality c.in-Some.entry.now) c.args.at c.note.new.positions.items =
    c.in_ok-note.ensures.ok ∙ ap (λ (b : Bool). if b then c.self.inside.equalities.items ++ c.args.at ∷ [] else c.self.inside.equalities.items) c.is_equality.ensures in
    let put : IsNoted c.self.inside.lemmas.items (adds_lemma c.in-Some.entry.now) c.args.at c.note-2.new.positions.items =
    c.in_ok-note-2.ensures.ok ∙ ap (λ (b : Bool). if b then c.self.inside.lemmas.items ++ c.args.at ∷ [] else c.self.inside.lemmas.items) c.is_lemma.ensures in
    let same : vec_len c.self.inside.makers ≡ length c.self.inside.makers.items = search rules in
    let long : vec_len c.resize.new.self ≡ length c.resize.new.self.items = search rules in
    let n = c.in_ok-next.next in
    stepped c.args.terms.now.nodes c.args.log.now s c.in-Some.entry.now c.args.at c.in_ok-next.next c.note.new.positions.items c.note-2.new.positions.items c.resize.new.self.items c.requires.stands own
    (c.requires.at ∙ ap (λ (v : ReadSteps). suc v.read) (sym c.self.view_is)) (sym c.in-Some.ensures) (λ p q k. c.in_ok-next.ensures p q (c.len.ensures ∙ same ∙ k)) noted put
    (c.in_ok-resize.ensures.items ∙ ap (λ i. take n c.self.inside.makers.items ++ replicate (n - i) c.args.at) same) (sym long ∙ c.in_ok-resize.ensures.len)
