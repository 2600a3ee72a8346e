-- From the parts of an accepted proof to its text.
use Rattle.std.proofs.Common.{◌≡◌, ℕ, zero, suc, ◌+◌, ◌<◌, List, [], ◌∷◌, ◌++◌, length, Some, None, refl, sym, ap, ap₂, subst, ◌∙◌, arith, ⊎_elim}
use Rattle.std.specs.List.{flat_map, AllByRecursion}
use Rattle.cnf_base.proofs.Lists.{each_append, each_front, each_behind}
use Rattle.script_state.specs.States.{StateValue, no_state}
use Rattle.proof_log.specs.declared.entry.Entry.{Entry}
use Rattle.proof_text.specs.declared.line.Format.{Format}
use Rattle.proof_text.specs.declared.line.Format.TheVariants.{One, Two}
use Rattle.proof_text.specs.declared.line.Line.{Line}
use Rattle.proof_text.specs.declared.line.Line.TheVariants.{Header}
use Rattle.proof_text.specs.Lines.{IsLine, line_text}
use Rattle.proof_conversion.specs.declared.fault.Fault.{Fault}
use Rattle.proof_conversion.specs.declared.fault.Rule.{Rule}
use Rattle.proof_conversion.specs.declared.header.Numbers.{Numbers}
use Rattle.proof_conversion.specs.declared.kind.Owed.TheVariants as owed
use Rattle.proof_conversion.specs.Headers.{AreWithin, header_of}
use Rattle.proof_conversion.specs.Parts.{kind_of, owed_behind}
use Rattle.proof_conversion.specs.Needs.{Known, Knows, nothing_known, due_in, deletion, with_deletions}
use Rattle.proof_conversion.specs.Conversions.{BeginsWrong, HasHeader, IsBroken, IsConverted, IsFirstBad, IsUnconverted, converted_lines}
use Rattle.proof_conversion.proofs.Firsts.{same_first, same_behind}
use Rattle.proof_conversion.proofs.Headings.{header_line}
use Rattle.accepted_proof.specs.Searching.{Limits, AreLimits}
use Rattle.accepted_proof.specs.Turns.{Part, Turn, AreParts, deleted_behind, part_lines, state_after, steps_in, turn_of}
use Rattle.accepted_proof.specs.Accepted.{Accepted}
use Rattle.converted_proofs.proofs.Texts.{front_lines, knows_once, knows_split, same_lines, some_text}
use Rattle.converted_proofs.proofs.Parting.{AreConverted, parts_converted}
use Rattle.converted_proofs.proofs.Placed.{owes_known, parts_owe}

-- ---- lines that can be read

readable_parts : (format : Format) (limits : Limits) (ps : List Part) (s : StateValue) (log : List Entry) (deleted : List ℕ) → AreParts format limits s log deleted ps → AllByRecursion IsLine (flat_map part_lines ps)
readable_parts format limits [] s log deleted h = tt
readable_parts format limits (p ∷ ps) s log deleted h =
    each_append IsLine (part_lines p) (flat_map part_lines ps) h.0.readable
    (readable_parts format limits ps (state_after s (turn_of p)) (log ++ steps_in p.items) (deleted_behind deleted p.items) h.1)

-- each deletion can be read
readable_deletions : (due : ℕ → List ℕ) (n : ℕ) (parts : List (List Line)) → AllByRecursion IsLine (with_deletions due n parts) → (i : ℕ) → i < length parts → AllByRecursion IsLine (deletion (due (n + i)))
readable_deletions due n [] h i lt = absurd (omega (arith, lt))
readable_deletions due n (ls ∷ parts) h zero lt =
    subst (λ (x : ℕ). AllByRecursion IsLine (deletion (due x))) (let z : n ≡ n + 0 = omega arith in z)
    (each_front IsLine (deletion (due n)) ls (each_front IsLine (deletion (due n) ++ ls) (with_deletions due (suc n) parts) h))
readable_deletions due n (ls ∷ parts) h (suc i) lt =
    subst (λ (x : ℕ). AllByRecursion IsLine (deletion (due x))) (let z : suc n + i ≡ n + suc i = omega arith in z)
    (readable_deletions due (suc n) parts (each_behind IsLine (deletion (due n) ++ ls) (with_deletions due (suc n) parts) h) i (let z : i < length parts = omega (arith, lt) in z))

-- ---- the header

abbrev numbers_of : Limits → Numbers
numbers_of limits = record { cubes = limits.cubes; budget = limits.budget }

within : (limits : Limits) → AreLimits limits → AreWithin (numbers_of limits)
within limits h = record { cubes = h.cubes; budget = h.budget }

-- an accepted proof with a header of the first format is one of the first format, and what stands behind the header are its lines
record IsOfFirst (limits : Limits) (parts : List Part) (n : Numbers) (rest : List ℕ) : Type 0 where
  run : AreParts One limits no_state [] [] parts
  each : AllByRecursion IsLine (flat_map part_lines parts)
  cubes : n.cubes ≡ limits.cubes
  budget : n.budget ≡ limits.budget
  rest_is : rest ≡ flat_map line_text (flat_map part_lines parts)

is_of_first : (limits : Limits) (script proof rest : List ℕ) (turns : List Turn) (n : Numbers) → (a : Accepted limits script proof turns) → AreWithin n → proof ≡ header_of One n ++ rest → IsOfFirst limits a.parts n rest
is_of_first limits script proof rest turns n a w e =
    let behind = flat_map line_text (flat_map part_lines a.parts) in
    let both : line_text (Header a.format limits.cubes limits.budget) ++ behind ≡ line_text (Header One n.cubes n.budget) ++ rest = sym a.lines ∙ e in
    let same : Header a.format limits.cubes limits.budget ≡ Header One n.cubes n.budget = same_first (Header a.format limits.cubes limits.budget) (Header One n.cubes n.budget) behind rest (header_line a.format (numbers_of limits) (within limits a.allowed)) (header_line One n w) both in
    let format : a.format ≡ One = cc in
    let cubes : n.cubes ≡ limits.cubes = cc in
    let budget : n.budget ≡ limits.budget = cc in
    let run : AreParts One limits no_state [] [] a.parts = subst (λ (f : Format). AreParts f limits no_state [] [] a.parts) format a.run in
    record {
      run = run;
      each = readable_parts One limits a.parts no_state [] [] run;
      cubes = cubes;
      budget = budget;
      rest_is = sym (same_behind (Header a.format limits.cubes limits.budget) (Header One n.cubes n.budget) behind rest same both);
    }

-- ---- it stays accepted

pub stays_accepted : (limits : Limits) (script proof out : List ℕ) (records : ℕ) (turns : List Turn) → Accepted limits script proof turns → IsConverted proof out records → Accepted limits script out turns
stays_accepted limits script proof out records turns a c = record {
  allowed = a.allowed;
  chunks = a.chunks;
  cut = a.cut;
  read = a.read;
  last = a.last;
  format = Two;
  parts = v.parts;
  turns_are = v.turns ∙ a.turns_are;
  run = v.run;
  lines =
      c.out_is
      ∙ ap₂ (λ (x y : ℕ). line_text (Header Two x y) ++ flat_map line_text (converted_lines c.known)) f.cubes f.budget
      ∙ ap (λ (x : List Line). line_text (Header Two limits.cubes limits.budget) ++ flat_map line_text x) (ap (with_deletions (due_in c.known) 0) v.ended ∙ sym v.lines);
}
  where
    f : IsOfFirst limits a.parts c.numbers c.rest
    f = is_of_first limits script proof c.rest turns c.numbers a c.within c.header

    lines_are : c.lines ≡ flat_map part_lines a.parts
    lines_are = same_lines c.lines (flat_map part_lines a.parts) c.read.each f.each (sym c.read.text_is ∙ f.rest_is)

    v : AreConverted limits no_state [] [] a.parts nothing_known c.known
    v =
        parts_converted limits c.known (λ n lt. subst (λ (x : ℕ). AllByRecursion IsLine (deletion (due_in c.known x))) (let z : 0 + n ≡ n = omega arith in z) (readable_deletions (due_in c.known) 0 c.known.parts c.readable n lt)) a.parts no_state [] [] nothing_known 0 f.run (subst (λ (x : List Line). Knows nothing_known x c.known) lines_are c.read.knows)
        (record { lines = refl; same = refl; most = tt }) refl refl tt (omega arith)

-- ---- it is not refused

-- what an accepted proof goes on with breaks no rule
no_break : (k end : Known) (more : List Line) (rest : List ℕ) (rule : Rule) → Knows k more end → end.owed ≡ owed.Nothing → AllByRecursion IsLine more → rest ≡ flat_map line_text more → IsBroken k.owed rest rule → ⊥
no_break k end [] rest rule w o h e b = ⊎_elim (λ x. ⊎_elim (λ y. y.some e) (λ y. some_text y.next y.more (sym e ∙ y.begins)) x.1) (λ x. x.2 (ap (λ (z : Known). z.owed) w ∙ o)) b
no_break k end (l ∷ ls) rest rule w o h e b =
    ⊎_elim
    (λ x. ⊎_elim (λ y. y.none l (flat_map line_text ls) h.0 e) wrong x.1)
    (λ x. some_text l (flat_map line_text ls) (sym x.1 ∙ e)) b
  where
    wrong : BeginsWrong k.owed rest → ⊥
    wrong y =
        let same : l ≡ y.next = same_first l y.next (flat_map line_text ls) y.more h.0 y.readable (sym e ∙ y.begins) in
        let z : Some w.0 ≡ None = sym w.1 ∙ ap (λ (x : Line). owed_behind k.owed (kind_of x)) same ∙ y.misplaced in
        let q : ⊥ = cc in q

pub never_refused : (limits : Limits) (script proof rest : List ℕ) (turns : List Turn) (fault : Fault) → Accepted limits script proof turns → HasHeader proof rest → IsUnconverted proof fault → ⊥
never_refused limits script proof rest turns fault a has bad = ⊎_elim (λ x. x.0 rest has) (λ x. first_bad x.0 x.1 x.2) bad
  where
    first_bad : (other : List ℕ) → HasHeader proof other → IsFirstBad other fault → ⊥
    first_bad other h b =
        let f = is_of_first limits script proof other turns h.numbers a h.within h.begins in
        let all = flat_map part_lines a.parts in
        let front = front_lines b.lines all b.rest b.each f.each (sym b.text_is ∙ f.rest_is) in
        let known = owes_known nothing_known all owed.Nothing (parts_owe limits a.parts no_state [] f.run) in
        let split = knows_split nothing_known b.lines front.more known.0 (subst (λ (x : List Line). Knows nothing_known x known.0) front.all_is known.1) in
        let same : split.mid ≡ b.known = knows_once nothing_known b.lines split.mid b.known split.first b.knows in
        let each : AllByRecursion IsLine front.more = each_behind IsLine b.lines front.more (subst (AllByRecursion IsLine) front.all_is f.each) in
        no_break split.mid known.0 front.more b.rest fault.rule split.behind known.2 each front.rest_is (subst (λ (x : Known). IsBroken x.owed b.rest fault.rule) (sym same) b.broken)
