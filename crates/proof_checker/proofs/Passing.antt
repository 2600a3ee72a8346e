-- Of laws on what is judged of two texts.
use Rattle.std.proofs.Common.{◌≡◌, ℕ, List, [], ◌∷◌, ◌++◌, map, length, Option, Some, None, refl, sym, ap, ◌∙◌, subst, inl, inr, arith, append_assoc, append-nil}
use Rattle.std.specs.Prelude.{◌⊎◌, ◌||◌, true, Err}
use Rattle.std.specs.List.{list_any, flat_map, AllByRecursion}
use Rattle.std.proofs.lemmas.List.{length-map, length-append, nil_from_length}
use Rattle.smt_text.specs.declared.chunk.Chunk.{Chunk}
use Rattle.smt_text.specs.Script.{AreChunks}
use Rattle.smt_text.proofs.Cuts.{AreCut-one}
use Rattle.script_state.specs.declared.answer.Verdict.{Verdict}
use Rattle.script_state.specs.States.{StateValue, no_state}
use Rattle.script_state.specs.Steps.{ends}
use Rattle.script_state.proofs.Deciding.{reads_one_way}
use Rattle.cnf_base.proofs.Lists.{each_append}
use Rattle.proof_log.specs.declared.entry.Entry.{Entry}
use Rattle.proof_text.specs.declared.line.Format.{Format}
use Rattle.proof_text.specs.declared.line.Line.{Line}
use Rattle.proof_text.specs.declared.line.Line.TheVariants as line
use Rattle.proof_text.specs.Lines.{joined, words_of, line_text, IsLine}
use Rattle.proof_text.proofs.Exact.{line_free}
use Rattle.accepted_proof.specs.declared.refusal.Refusal.{Refusal}
use Rattle.accepted_proof.specs.Searching.{Limits, AreLimits}
use Rattle.accepted_proof.specs.Turns.{Turn, Part, AreParts, deleted_behind, part_lines, state_after, steps_in, turn_of}
use Rattle.accepted_proof.specs.Answers.{written_of}
use Rattle.accepted_proof.specs.Accepted.{AreRead, has_ended, AreAll, Accepted}
use Rattle.accepted_proof.specs.Right.{AreRight}
use Rattle.accepted_proof.proofs.Fronts.{front_fewer}
use Rattle.accepted_proof.specs.Judged.{judging_from, Judged, AreReadable, ReadEach, AreAllSaid}
use Rattle.script_state.specs.Readings.{ReadsAs}
use Rattle.script_state.specs.declared.error_text.ErrorText.TheVariants.{UnfinishedCommand}
use Rattle.proof_checker.specs.Checkers.{Says}
use Rattle.proof_checker.specs.Checked.{AreLines, Tells, TellsProof, IsJudged, IsAccepted, verdicts_of}
use Rattle.proof_checker.proofs.Splits.{lines_one}
use Rattle.proof_checker.proofs.Chunking.{cut_there, cut_behind}
use Rattle.proof_checker.proofs.Telling.{tells_more, tells_less}
use Rattle.proof_checker.proofs.Verdicts.{judged_of, tells_there, one_proof_telling, proof_verdicts, line_verdict, of_parts}

-- ---- one thing at most

abbrev no_reading : Says
no_reading = Err UnfinishedCommand

-- any readings of these chunks
abbrev some_readings : List Chunk → List Says
some_readings cs = map (λ _. no_reading) cs

read_length : (cs : List Chunk) (ss : List Says) → ReadEach cs ss → length ss ≡ length cs
read_length [] [] r = refl
read_length [] (s ∷ ss) r = absurd r
read_length (c ∷ cs) [] r = absurd r
read_length (c ∷ cs) (s ∷ ss) r = let e = read_length cs ss r.1 in omega arith

-- readings of all chunks, however many of the first ones were read in either way
pub record AreReadings (ss ts : List Says) (ms ns : List Chunk) : Type 0 where
  pub rest : List Says
  pub other : List Says
  pub same : ss ++ rest ≡ ts ++ other
  pub long : length rest ≡ length ms
  pub too : length other ≡ length ns

pub readings : (cs es ms ns : List Chunk) (ss ts : List Says) → cs ++ ms ≡ es ++ ns → ReadEach cs ss → ReadEach es ts → AreReadings ss ts ms ns
readings [] es ms ns [] ts e r q = record {
  rest = ts ++ some_readings ns;
  other = some_readings ns;
  same = refl;
  long =
      let a = length-append ts (some_readings ns) in
      let b = read_length es ts q in
      let c = length-map ns (λ (x : Chunk). no_reading) in
      let d = length-append es ns in
      let f = ap length e in omega arith;
  too = length-map ns (λ (x : Chunk). no_reading);
}
readings [] es ms ns (s ∷ ss) ts e r q = absurd r
readings (c ∷ cs) es ms ns [] ts e r q = absurd r
readings (c ∷ cs) [] ms ns (s ∷ ss) [] e r q = record {
  rest = some_readings ms;
  other = (s ∷ ss) ++ some_readings ms;
  same = refl;
  long = length-map ms (λ (x : Chunk). no_reading);
  too =
      let a = length-append (s ∷ ss) (some_readings ms) in
      let b = read_length (c ∷ cs) (s ∷ ss) r in
      let d = length-map ms (λ (x : Chunk). no_reading) in
      let g = length-append (c ∷ cs) ms in
      let f = ap length e in omega arith;
}
readings (c ∷ cs) [] ms ns (s ∷ ss) (t ∷ ts) e r q = absurd q
readings (c ∷ cs) (d ∷ es) ms ns (s ∷ ss) [] e r q = absurd q
readings (c ∷ cs) (d ∷ es) ms ns (s ∷ ss) (t ∷ ts) e r q =
    let head : c ≡ d = cc in
    let tail : cs ++ ms ≡ es ++ ns = cc in
    let m = readings cs es ms ns ss ts tail r.1 q.1 in
    let one : s ≡ t = reads_one_way d s t (subst (λ x. ReadsAs x s) head r.0) q.0 in
    record { rest = m.rest; other = m.other; same = ap (λ x. x ∷ (ss ++ m.rest)) one ∙ ap (λ x. t ∷ x) m.same; long = m.long; too = m.too }

pub judged_one_way : (script proof : List ℕ) (vs us : List Verdict) (o q : Option Refusal) → IsJudged script proof vs o → IsJudged script proof us q → (vs ≡ us) × (o ≡ q)
judged_one_way script proof vs us o q a b =
    let cuts = AreCut-one (record { line = 1; bytes = script }) (a.chunks ++ a.behind) (b.chunks ++ b.behind) a.cut b.cut in
    let lines = lines_one proof a.lines b.lines a.split b.split in
    let all = readings a.chunks b.chunks a.behind b.behind a.says b.says cuts a.read b.read in
    let t : TellsProof (b.says ++ all.other) a.lines vs o = subst (λ x. TellsProof x a.lines vs o) all.same (a.told all.rest all.long) in
    one_proof_telling b.lines (b.says ++ all.other) vs us o q (subst (λ x. TellsProof (b.says ++ all.other) x vs o) lines t) (b.told all.other all.too)

-- ---- what is accepted is right

pub none_some : (r : Refusal) → ◌≡◌ {A = Option Refusal} None (Some r) → ⊥
none_some r e = cc

-- the lines behind the header
pub record IsHeaderTold (lines : List (Option Line)) (cs : List Says) (vs : List Verdict) : Type 0 where
  pub format : Format
  pub limits : Limits
  pub allowed : AreLimits limits
  pub rest : List (Option Line)
  pub header : lines ≡ Some (line.Header format limits.cubes limits.budget) ∷ rest
  pub told : Tells (judging_from format limits) cs rest vs None

pub header_told : (ls : List (Option Line)) (cs : List Says) (vs : List Verdict) → TellsProof cs ls vs None → IsHeaderTold ls cs vs
header_told [] cs vs h = absurd (none_some _ h.1)
header_told (l ∷ ls) cs vs (inl h) = record { format = h.0; limits = h.1; allowed = h.2.allowed; rest = ls; header = ap (λ x. x ∷ ls) h.2.written; told = h.3 }
header_told (l ∷ ls) cs vs (inr h) = absurd (none_some _ h.2)

-- a text whose lines can all be read is the text of these lines
text_of_lines : (ls : List Line) (text : List ℕ) → AreLines text (map (λ l. Some l) ls) → text ≡ flat_map line_text ls
text_of_lines [] text h = h
text_of_lines (l ∷ ls) text (inl h) =
    h.1.cut
    ∙ sym (append_assoc h.1.before (10 ∷ []) h.0)
    ∙ ap (λ x. x ++ h.0) h.1.line_is.1
    ∙ ap (λ x. line_text l ++ x) (text_of_lines ls h.0 h.2)
text_of_lines (l ∷ ls) text (inr h) = absurd (line_there l h.1)
  where
    line_there : (l : Line) → ◌≡◌ {A = Option Line} (Some l) None → ⊥
    line_there l e = cc

-- the lines of a text are within bounds
pub lines_readable : (ls : List (Option Line)) (text : List ℕ) → AreLines text ls → AreReadable ls
lines_readable [] text h = tt
lines_readable (None ∷ ls) text (inl h) = (tt, lines_readable ls h.0 h.2)
lines_readable (Some l ∷ ls) text (inl h) = (h.1.line_is.0, lines_readable ls h.0 h.2)
lines_readable (l ∷ ls) text (inr h) = subst (λ x. AreReadable (x ∷ ls)) (sym h.1) (subst (λ x. AreReadable (None ∷ x)) (sym h.2) (tt, tt))

-- so are those of parts
pub parts_readable : (format : Format) (limits : Limits) (parts : List Part) (s : StateValue) (log : List Entry) (deleted : List ℕ) → AreParts format limits s log deleted parts → AllByRecursion IsLine (flat_map part_lines parts)
parts_readable format limits [] s log deleted h = tt
parts_readable format limits (p ∷ ps) s log deleted h = each_append IsLine (part_lines p) (flat_map part_lines ps) h.0.readable (parts_readable format limits ps (state_after s (turn_of p)) (log ++ steps_in p.items) (deleted_behind deleted p.items) h.1)

abbrev pub JudgedLaw : Type 0
JudgedLaw = (format : Format) (limits : Limits) (script : List ℕ) (chunks : List Chunk) (says : List Says) (lines : List (Option Line))
    → AreLimits limits → AreAllSaid script chunks says → ReadEach chunks says → AreReadable lines → Judged (judging_from format limits) says lines None
    → (parts : List Part) × (lines ≡ map (λ l. Some l) (flat_map part_lines parts)) × Accepted limits script (written_of format limits parts) (map turn_of parts)

abbrev pub RightLaw : Type 0
RightLaw = (limits : Limits) (script proof : List ℕ) (turns : List Turn) → Accepted limits script proof turns → AreRight no_state turns

-- the commands that are read, and what is told where no others are
record IsAllTold (script : List ℕ) (chunks : List Chunk) (says : List Says) (lines : List (Option Line)) (vs : List Verdict) : Type 0 where
  pub all : AreAllSaid script chunks says
  pub format : Format
  pub limits : Limits
  pub allowed : AreLimits limits
  pub rest : List (Option Line)
  pub header : lines ≡ Some (line.Header format limits.cubes limits.budget) ∷ rest
  pub told : Tells (judging_from format limits) says rest vs None

all_told : (script proof : List ℕ) (vs : List Verdict) (h : IsAccepted script proof vs) → (h.behind ≡ []) ⊎ (list_any ends h.says ≡ true) → IsAllTold script h.chunks h.says h.lines vs
all_told script proof vs h (inl none) =
    let said : TellsProof h.says h.lines vs None = subst (λ x. TellsProof x h.lines vs None) (append-nil h.says) (h.told [] (sym (ap length none))) in
    let m = header_told h.lines h.says vs said in
    record {
      all = inl (subst (AreChunks script) (ap (λ x. h.chunks ++ x) none ∙ append-nil h.chunks) h.cut);
      format = m.format;
      limits = m.limits;
      allowed = m.allowed;
      rest = m.rest;
      header = m.header;
      told = m.told;
    }
all_told script proof vs h (inr ended) =
    let more = some_readings h.behind in
    let m = header_told h.lines (h.says ++ more) vs (h.told more (length-map h.behind (λ (x : Chunk). no_reading))) in
    record {
      all = inr (ended, front_fewer script h.chunks h.behind (inr h.cut));
      format = m.format;
      limits = m.limits;
      allowed = m.allowed;
      rest = m.rest;
      header = m.header;
      told = tells_less m.rest more None (judging_from m.format m.limits) h.says vs ended m.told;
    }

pub accepted_right : JudgedLaw → RightLaw → (script proof : List ℕ) (vs : List Verdict) → IsAccepted script proof vs → (limits : Limits) × (turns : List Turn) × Accepted limits script proof turns × AreRight no_state turns × (vs ≡ verdicts_of turns)
accepted_right law right script proof vs h =
    let m = all_told script proof vs h (h.whole refl) in
    let readable : AreReadable m.rest = (subst AreReadable m.header (lines_readable h.lines proof h.split)).1 in
    let t = law m.format m.limits script h.chunks h.says m.rest m.allowed m.all h.read readable (judged_of m.rest (judging_from m.format m.limits) h.says vs None m.told) in
    let header : Line = line.Header m.format m.limits.cubes m.limits.budget in
    let turns = map turn_of t.0 in
    let lines : h.lines ≡ map (λ l. Some l) (header ∷ flat_map part_lines t.0) = m.header ∙ ap (λ ls. Some header ∷ ls) t.1 in
    let text : proof ≡ written_of m.format m.limits t.0 = text_of_lines (header ∷ flat_map part_lines t.0) proof (subst (AreLines proof) lines h.split) in
    let accepted = subst (λ p. Accepted m.limits script p turns) (sym text) t.2 in
    (m.limits, turns, accepted, right m.limits script proof turns accepted, proof_verdicts m.format m.limits m.rest h.says vs m.told ∙ ap (flat_map line_verdict) t.1 ∙ of_parts t.0)

-- ---- accepted proofs pass

read_says : (cs : List Chunk) (ts : List Turn) → AreRead cs ts → ReadEach cs (map (λ (t : Turn). t.says) ts)
read_says [] [] r = tt
read_says [] (t ∷ ts) r = absurd r
read_says (c ∷ cs) [] r = absurd r
read_says (c ∷ cs) (t ∷ ts) r = (r.1, read_says cs ts r.2)

line_first : (l : Line) (more : List ℕ) (ls : List (Option Line)) → IsLine l → AreLines more ls → AreLines (line_text l ++ more) (Some l ∷ ls)
line_first l more ls h k =
    inl (more, record { before = joined (words_of l); cut = append_assoc (joined (words_of l)) (10 ∷ []) more; first = line_free l h; line_is = (h, refl) }, k)

lines_printed : (ls : List Line) → AllByRecursion IsLine ls → AreLines (flat_map line_text ls) (map (λ l. Some l) ls)
lines_printed [] h = refl
lines_printed (l ∷ ls) h = line_first l (flat_map line_text ls) (map (λ l. Some l) ls) h.0 (lines_printed ls h.1)

abbrev pub TurnsLaw : Type 0
TurnsLaw = (limits : Limits) (script proof : List ℕ) (turns : List Turn) (accepted : Accepted limits script proof turns) → Judged (judging_from accepted.format limits) (map (λ (t : Turn). t.says) turns) (map (λ l. Some l) (flat_map part_lines accepted.parts)) None

-- a turn ends the run where its reading does
ended_says : (turns : List Turn) → list_any ends (map (λ (t : Turn). t.says) turns) ≡ has_ended turns
ended_says [] = refl
ended_says (t ∷ ts) = ap (λ b. ends t.says || b) (ended_says ts)

-- what is behind the chunks that are read, and that it does not matter
record IsBehind (script : List ℕ) (chunks : List Chunk) (turns : List Turn) : Type 0 where
  pub behind : List Chunk
  pub cut : AreChunks script (chunks ++ behind)
  pub none : (behind ≡ []) ⊎ (list_any ends (map (λ (t : Turn). t.says) turns) ≡ true)

whole_behind : (script : List ℕ) (chunks : List Chunk) (turns : List Turn) → AreChunks script chunks → IsBehind script chunks turns
whole_behind script chunks turns a = record { behind = []; cut = record { whole = a.whole; rest = a.rest; begins = a.begins; ends = a.ends; all = append-nil chunks ∙ a.all }; none = inl refl }

is_behind : (script : List ℕ) (chunks : List Chunk) (turns : List Turn) → AreAll script chunks turns → IsBehind script chunks turns
is_behind script chunks turns (inl a) = whole_behind script chunks turns a
is_behind script chunks turns (inr (e, inr a)) = whole_behind script chunks turns a
is_behind script chunks turns (inr (e, inl b)) =
    let k = cut_there b.0 in
    record { behind = k.0; cut = cut_behind (record { line = 1; bytes = script }) chunks k.0 b.0 b.1 k.1; none = inr (ended_says turns ∙ e) }

told_behind : (format : Format) (limits : Limits) (lines : List (Option Line)) (says rest : List Says) (behind : List Chunk) (vs : List Verdict) → (behind ≡ []) ⊎ (list_any ends says ≡ true) → length rest ≡ length behind → Tells (judging_from format limits) says lines vs None → Tells (judging_from format limits) (says ++ rest) lines vs None
told_behind format limits lines says rest behind vs (inl none) n h = subst (λ x. Tells (judging_from format limits) x lines vs None) (sym (ap (λ x. says ++ x) (nil_from_length rest (n ∙ ap length none)) ∙ append-nil says)) h
told_behind format limits lines says rest behind vs (inr ended) n h = tells_more lines rest None (judging_from format limits) says vs ended h

pub accepted_pass : TurnsLaw → (limits : Limits) (script proof : List ℕ) (turns : List Turn) → Accepted limits script proof turns → IsAccepted script proof (verdicts_of turns)
accepted_pass law limits script proof turns h =
    let says = map (λ (t : Turn). t.says) turns in
    let format = h.format in
    let lines = map (λ l. Some l) (flat_map part_lines h.parts) in
    let header = line.Header format limits.cubes limits.budget in
    let t = tells_there lines (judging_from format limits) says None (law limits script proof turns h) in
    let same : t.0 ≡ verdicts_of turns = proof_verdicts format limits lines says t.0 t.1 ∙ of_parts h.parts ∙ ap verdicts_of h.turns_are in
    let told : Tells (judging_from format limits) says lines (verdicts_of turns) None = subst (λ x. Tells (judging_from format limits) says lines x None) same t.1 in
    let k = is_behind script h.chunks turns h.cut in
    record {
      chunks = h.chunks;
      behind = k.behind;
      says = says;
      lines = Some header ∷ lines;
      cut = k.cut;
      read = read_says h.chunks turns h.read;
      split = subst (λ (x : List ℕ). AreLines x (Some header ∷ lines)) (sym h.lines) (line_first header _ lines (omega (arith, h.allowed.cubes), omega (arith, h.allowed.budget)) (lines_printed (flat_map part_lines h.parts) (parts_readable format limits h.parts no_state [] [] h.run)));
      told = λ rest n. inl (format, limits, record { written = refl; allowed = h.allowed }, told_behind format limits lines says rest k.behind (verdicts_of turns) k.none n told);
      whole = λ z. k.none;
    }
