use Rattle.std.proofs.Common.{◌≡◌, ◌-◌, ◌++◌, List, ℕ, suc, take, drop, sym, ap, ◌∙◌, subst}
use Rattle.std.proofs.lemmas.List.{take-append-drop}
use Rattle.proof_log.proofs.Growth.{board_stands}
use Rattle.proof_log.specs.declared.entry.Entry.{Entry}
use Rattle.proof_file.specs.Places.{FileValue, without_places}
use Rattle.proof_file.specs.Held.{file_in}
use Rattle.proof_file.specs.Indexed.{IsIndexOf, KnowsAll, place_in}
use Rattle.proof_file.specs.Needed.{AreNeeded}
use Rattle.std.specs.List.{flat_map, AllByRecursion}
use Rattle.proof_text.specs.Lines.{line_text, IsLine}
use Rattle.proof_text.specs.Records.{record_lines}
use Rattle.accepted_proof.specs.Turns.{item_lines}
use Rattle.proof_file.specs.Trimmed.{deletion, placed_record}
use Rattle.proof_file.specs.Files.{KeptFile, AreStepsWritten, IsFileOf, IsWrittenPart, file_of}
use Rattle.proof_file.proofs.Files.{index_of_all, made_all, stale_of}
use Rattle.proof_file.proofs.Parts.{part_is}
use Rattle.proof_file.proofs.Lining.{made_lines, needed_lines}
use Rattle.proof_file.proofs.file.ProofFile.write_part.Goals as goal

pub learn-requires-clause-read : goal.learn-requires-clause-read
learn-requires-clause-read c =
    let nodes = c.args.terms.now.nodes in
    let es = c.args.log.now.entries in
    let index : IsIndexOf c.self.inside.chains nodes (take (c.args.from - 1) es) (file_in c.self.inside.places).places =
    subst (λ (k : KeptFile). IsFileOf nodes (take (c.args.from - 1) es) k) (sym c.self.view_is) c.requires.file in
    let stale = stale_of nodes (take (c.args.from - 1) es) c.args.live.now c.table.result.now c.in_ok-gone.gone.items c.self.inside.chains c.stale.new.self (file_in c.self.inside.places) (ap place_in c.table.ensures) c.in_ok-gone.ensures index in
    (index_of_all nodes es (c.args.from - 1) c.stale.new.self (without_places (file_in c.self.inside.places) c.in_ok-gone.gone.items).places c.requires.listed (board_stands nodes c.args.log.now c.requires.stands) stale.1).within

pub write_steps-requires : goal.write_steps-requires
write_steps-requires c = rw c.deref-3.ensures.value (rw c.in_ok-made.ensures (made_lines c.args.log.now.entries c.args.from c.requires.from c.requires.lined))

pub write_steps-requires-2 : goal.write_steps-requires-2
write_steps-requires-2 c =
    rw c.deref-4.ensures.value
    (needed_lines c.args.log.now.entries (file_in c.remove_all.new.self).places c.args.shown.now c.in_ok-needed.needed.items c.requires.lined c.in_ok-needed.ensures)

pub returns-clause-part : goal.returns-clause-part
returns-clause-part c =
    let nodes = c.args.terms.now.nodes in
    let es = c.args.log.now.entries in
    let n = c.args.from - 1 in
    let held = file_in c.self.inside.places in
    let gone = c.in_ok-gone.gone.items in
    let needed = c.in_ok-needed.needed.items in
    let made = c.in_ok-made.made.items in
    let f = file_in c.write_steps.new.places in
    let g = file_in c.write_steps-2.new.places in
    let a = c.args.out.now in
    let b = c.write_deletion.new.out in
    let d = c.write_steps.new.out in
    let e = c.write_steps-2.new.out in
    let index : IsIndexOf c.self.inside.chains nodes (take n es) held.places =
    subst (λ (k : KeptFile). IsFileOf nodes (take n es) k) (sym c.self.view_is) c.requires.file in
    let stale = stale_of nodes (take n es) c.args.live.now c.table.result.now gone c.self.inside.chains c.stale.new.self held (ap place_in c.table.ensures) c.in_ok-gone.ensures index in
    let removed : file_in c.remove_all.new.self ≡ without_places held gone = c.remove_all.ensures ∙ ap (without_places held) c.deref.ensures.value in
    let wanted : AreNeeded es (without_places held gone).places c.args.shown.now needed =
    subst (λ (h : FileValue). AreNeeded es h.places c.args.shown.now needed) removed c.in_ok-needed.ensures in
    let text = subst (λ (qs : List ℕ). b ≡ a ++ flat_map line_text (flat_map item_lines (deletion qs))) c.deref-2.ensures.value c.in_ok-write_deletion.ensures.text in
    let line = subst (λ (qs : List ℕ). AllByRecursion IsLine (flat_map item_lines (deletion qs))) c.deref-2.ensures.value c.in_ok-write_deletion.ensures.line in
    let first : AreStepsWritten es (file_in c.remove_all.new.self) f made b d =
    subst (λ (ps : List ℕ). AreStepsWritten es (file_in c.remove_all.new.self) f ps b d) c.deref-3.ensures.value c.in_ok-write_steps.ensures.steps in
    let then : AreStepsWritten es f g needed d e =
    subst (λ (ps : List ℕ). AreStepsWritten es f g ps d e) c.deref-4.ensures.value c.in_ok-write_steps-2.ensures.steps in
    let end = subst (λ (ps : List ℕ). c.write_shown.new.out ≡ e ++ flat_map line_text (record_lines (placed_record es g.places c.next-start.result ps c.args.shown.now))) c.deref-5.ensures.value c.in_ok-write_shown.ensures.text in
    let ends = subst (λ (ps : List ℕ). AllByRecursion IsLine (record_lines (placed_record es g.places c.next-start.result ps c.args.shown.now))) c.deref-5.ensures.value c.in_ok-write_shown.ensures.lines in
    subst (λ (k : KeptFile). IsWrittenPart nodes c.args.live.now (take n es) (drop n es) c.args.shown.now (file_of k) g a c.write_shown.new.out) c.self.view_is
    (part_is nodes c.args.live.now (take n es) (drop n es) c.args.shown.now held f g gone needed c.next-start.result es made a b d e c.write_shown.new.out
    (sym (take-append-drop n es)) (made_all es c.args.from made c.requires.from c.requires.within c.in_ok-made.ensures)
    stale.0 wanted text line
    (subst (λ (h : FileValue). AreStepsWritten es h f made b d) removed first) then c.next-start.ensures end ends)

pub returns-clause-file : goal.returns-clause-file
returns-clause-file c =
    let nodes = c.args.terms.now.nodes in
    let es = c.args.log.now.entries in
    let n = c.args.from - 1 in
    let held = file_in c.self.inside.places in
    let gone = c.in_ok-gone.gone.items in
    let index : IsIndexOf c.self.inside.chains nodes (take n es) held.places =
    subst (λ (k : KeptFile). IsFileOf nodes (take n es) k) (sym c.self.view_is) c.requires.file in
    let stale = stale_of nodes (take n es) c.args.live.now c.table.result.now gone c.self.inside.chains c.stale.new.self held (ap place_in c.table.ensures) c.in_ok-gone.ensures index in
    let removed : file_in c.remove_all.new.self ≡ without_places held gone = c.remove_all.ensures ∙ ap (without_places held) c.deref.ensures.value in
    let whole : IsIndexOf c.stale.new.self nodes es (without_places held gone).places =
    index_of_all nodes es n c.stale.new.self (without_places held gone).places c.requires.listed (board_stands nodes c.args.log.now c.requires.stands) stale.1 in
    let learned : IsIndexOf c.learn.new.self nodes es (without_places held gone).places × KnowsAll c.learn.new.self nodes es =
    c.in_ok-learn.ensures (without_places held gone).places whole in
    let moved = subst (λ (h : FileValue). IsIndexOf c.learn.new.self nodes es h.places) (sym removed) learned.0 in
    let first = c.in_ok-write_steps.ensures.index nodes moved learned.1 in
    (c.in_ok-write_steps-2.ensures.index nodes first.0 first.1).0
