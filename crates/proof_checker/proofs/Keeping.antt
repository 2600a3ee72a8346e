-- What is judged behind a step is judged before it.
use Rattle.std.proofs.Common.{◌≡◌, ℕ, ◌<◌, ◌≤◌, Bool, true, false, List, [], ◌∷◌, ◌++◌, length, Option, Some, None, refl, sym, ap, ◌∙◌, subst, inl, inr, arith, append-nil}
use Rattle.std.specs.Prelude.{◌⊎◌, ◌||◌, Result, Ok, Err, IfOk, MatchResult}
use Rattle.std.specs.Result.{result_err}
use Rattle.std.specs.List.{list_any}
use Rattle.smt_text.specs.declared.chunk.Chunk.{Chunk}
use Rattle.smt_text.specs.Framing.{Held, and_more}
use Rattle.smt_text.specs.Script.{AreCut}
use Rattle.smt_text.proofs.Cuts.{AreCut-one}
use Rattle.script_state.specs.declared.answer.Verdict.{Verdict}
use Rattle.script_state.specs.Readings.{ReadsAs}
use Rattle.script_state.specs.Steps.{ends}
use Rattle.proof_text.specs.declared.line.Format.{Format}
use Rattle.proof_text.specs.declared.line.Line.{Line}
use Rattle.accepted_proof.specs.declared.refusal.Refusal.{Refusal}
use Rattle.accepted_proof.specs.Searching.{Limits}
use Rattle.accepted_proof.specs.Judged.{Judging, judging_from, commanded, is_idle, ending, Moves, IsHeader, bad_header, ReadEach}
use Rattle.accepted_proof.proofs.Following.{reach_here}
use Rattle.proof_checker.specs.Checkers.{Says, CheckerValue, and_shown, no_records, judged_so, GoesTo, answer_by, at_end}
use Rattle.proof_checker.specs.Deletions.{IsLikened, GoesToLike}
use Rattle.proof_checker.proofs.Likening.{likened_over, likened_back, shown_alike, tells_alike}
use Rattle.proof_checker.specs.Checked.{shown_at, AreLines, Tells, IsTold, IsToldSoFar}
use Rattle.proof_checker.specs.Checkings.{MayCome, to_be_done, told_from, IsJudgedFrom, IsAcceptedFrom, AreToCome, Keeps, verdicts_by, Concludes, AddsVerdicts, GoesOn, held_by, IsSameScript, IsSameProof, TakesLine, TakesChunk, IsProofAtEnd, IsScriptAtEnd, IsLeft, HasNoCommand, IsAtLine, Stops, Advances}
use Rattle.proof_checker.specs.declared.inputs.Inputs.{Inputs}
use Rattle.proof_checker.specs.declared.checking.Checking.{Checking}
use Rattle.proof_checker.specs.declared.checking.Judgement.{Judgement}
use Rattle.proof_checker.specs.declared.checking.Progress.{Progress}
use Rattle.proof_checker.specs.declared.checking.Progress.TheVariants as progress
use Rattle.proof_checker.specs.declared.checking.Step.{Step}
use Rattle.proof_checker.specs.declared.checking.Step.TheVariants as step
use Rattle.proof_checker.proofs.Splits.{lines_there}
use Rattle.proof_checker.proofs.Chunking.{more_none, cut_there}
use Rattle.proof_checker.proofs.Telling.{IsReached, tells_line, tells_end, tells_command, tells_over, over_of, over_shown, ending_none, shown_behind, shown_ending}

-- ---- steps after steps

pub keeps_none : (i : Inputs) (c : Option CheckerValue) (k : Checking) → k.inputs ≡ i → k.checker ≡ c → Keeps i c k
keeps_none i c k e f = record {
  judged = λ s p vs o t h. subst (λ (x : Option CheckerValue). IsJudgedFrom i x s p vs o) f (subst (λ (x : Inputs). IsJudgedFrom x k.checker s p vs o) e h);
  accepted = λ s p vs t h. subst (λ (x : Option CheckerValue). IsAcceptedFrom i x s p vs) f (subst (λ (x : Inputs). IsAcceptedFrom x k.checker s p vs) e h);
  script = ap (λ (x : Inputs). x.script_ended) e;
  proof = ap (λ (x : Inputs). x.proof_ended) e;
  held = subst (λ (x : Inputs). held_by x ≤ held_by i) (sym e) (omega arith);
}

-- no verdict came
pub adds_none : (c d : Option CheckerValue) → verdicts_by d ≡ verdicts_by c → AddsVerdicts c d []
adds_none c d e = e ∙ sym (append-nil (verdicts_by c))

pub adds_more : (c d b : Option CheckerValue) (vs : List Verdict) → AddsVerdicts c d [] → AddsVerdicts d b vs → AddsVerdicts c b vs
adds_more c d b vs e f = f ∙ ap (λ us. us ++ vs) (e ∙ append-nil (verdicts_by c))

still : (i j : Inputs) (s p : List ℕ) → j.script_ended ≡ i.script_ended → j.proof_ended ≡ i.proof_ended → AreToCome i s p → AreToCome j s p
still i j s p e f t = record { script = λ h. t.script (sym e ∙ h); proof = λ h. t.proof (sym f ∙ h) }

module _ (i : Inputs) (c : Option CheckerValue) (k : Checking) (a : Keeps i c k) where
  pub keeps_more : (m : Checking) → Keeps k.inputs k.checker m → Keeps i c m
  keeps_more m b = record {
    judged = λ s p vs o t h. a.judged s p vs o t (b.judged s p vs o (still i k.inputs s p a.script a.proof t) h);
    accepted = λ s p vs t h. a.accepted s p vs t (b.accepted s p vs (still i k.inputs s p a.script a.proof t) h);
    script = b.script ∙ a.script;
    proof = b.proof ∙ a.proof;
    held = omega (arith, a.held, b.held);
  }

  pub stops_more : AddsVerdicts c k.checker [] → (p : Progress) → Stops k.inputs k.checker p → Stops i c p
  stops_more e (progress.Script m) b = (keeps_more m b.0, adds_more c k.checker m.checker [] e b.1, b.2)
  stops_more e (progress.Proof m) b = (keeps_more m b.0, adds_more c k.checker m.checker [] e b.1, b.2)
  stops_more e (progress.Shown m v) b = (
    keeps_more m b.0,
    adds_more c k.checker m.checker (v ∷ []) e b.1,
    (λ s p t. a.accepted s p (verdicts_by m.checker) t (b.2 s p (still i k.inputs s p a.script a.proof t))),
    omega (arith, a.held, b.3),
  )
  stops_more e (progress.Done j) b = (
    (λ s p t. a.judged s p (verdicts_by j.checker) j.refusal t (b.0 s p (still i k.inputs s p a.script a.proof t))),
    adds_more c k.checker j.checker [] e b.1,
  )

-- ---- where a line is read

-- at the end of the script there is no command
none_behind : (a b : List Chunk) → a ++ b ≡ [] → (a ≡ []) × (b ≡ [])
none_behind [] b e = (refl, e)
none_behind (x ∷ a) b e = absurd (let z : ⊥ = cc in z)

no_chunks : (i : Inputs) (s : List ℕ) (cs : List Chunk) → IsScriptAtEnd i → MayCome i.script_ended s → AreCut (and_more i.framer s) cs → cs ≡ []
no_chunks i s cs e t k = AreCut-one i.framer cs [] (subst (λ (x : Held). AreCut x cs) (more_none i.framer s (t e.ended)) k) e.cut

no_readings : (cs : List Chunk) (says : List Says) → cs ≡ [] → ReadEach cs says → says ≡ []
no_readings [] [] e r = refl
no_readings [] (s ∷ ss) e r = absurd r
no_readings (c ∷ cs) says e r = absurd (let z : ⊥ = cc in z)

no_rest : (rest : List Says) (behind : List Chunk) → behind ≡ [] → length rest ≡ length behind → rest ≡ []
no_rest [] behind e h = refl
no_rest (r ∷ rest) behind e h = absurd (let f : length (r ∷ rest) ≡ 0 = h ∙ ap length e in omega arith)

none_reached : (j : Judging) (ended : Bool) → IsReached j (to_be_done ended [])
none_reached j true = refl
none_reached j false = refl

reached : (i : Inputs) (c : CheckerValue) → IsAtLine i c → (s : List ℕ) (chunks behind : List Chunk) (says rest : List Says) → MayCome i.script_ended s → AreCut (and_more i.framer s) (chunks ++ behind) → ReadEach chunks says → length rest ≡ length behind → IsReached c.judging (to_be_done i.run_ended (says ++ rest))
reached i c (inl e) s chunks behind says rest t k r n = reach_here c.judging (to_be_done i.run_ended (says ++ rest)) e
reached i c (inr (inl e)) s chunks behind says rest t k r n = subst (λ b. IsReached c.judging (to_be_done b (says ++ rest))) (sym e) refl
reached i c (inr (inr e)) s chunks behind says rest t k r n =
    let b = none_behind chunks behind (no_chunks i s (chunks ++ behind) e t k) in
    let none : says ++ rest ≡ [] = ap (λ x. x ++ rest) (no_readings chunks says b.0 r) ∙ no_rest rest behind b.1 n in
    subst (λ x. IsReached c.judging (to_be_done i.run_ended x)) (sym none) (none_reached c.judging i.run_ended)

-- the same, where the commands alone count that were done
reached_alone : (i : Inputs) (c : CheckerValue) → IsAtLine i c → (s : List ℕ) (chunks behind : List Chunk) (says : List Says) → MayCome i.script_ended s → AreCut (and_more i.framer s) (chunks ++ behind) → ReadEach chunks says → IsReached c.judging (to_be_done i.run_ended says)
reached_alone i c (inl e) s chunks behind says t k r = reach_here c.judging (to_be_done i.run_ended says) e
reached_alone i c (inr (inl e)) s chunks behind says t k r = subst (λ b. IsReached c.judging (to_be_done b says)) (sym e) refl
reached_alone i c (inr (inr e)) s chunks behind says t k r =
    let b = none_behind chunks behind (no_chunks i s (chunks ++ behind) e t k) in
    subst (λ x. IsReached c.judging (to_be_done i.run_ended x)) (sym (no_readings chunks says b.0 r)) (none_reached c.judging i.run_ended)

-- what is judged where the run ended, or did not
abbrev ToldBy : Bool → Held → List ℕ → Option CheckerValue → List Verdict → Option Refusal → Type 0
ToldBy ended script proof c vs o = IsTold (told_from ended c) ended script proof vs o

-- ---- a line

module _ (old new : Inputs) (l : Option Line) (same : IsSameScript old new) (takes : TakesLine old new l) where
  cut_back : (s : List ℕ) (cs : List Chunk) → AreCut (and_more new.framer s) cs → AreCut (and_more old.framer s) cs
  cut_back s cs k = subst (λ (x : Held). AreCut (and_more x s) cs) same.framer k

  -- the run ended or did not, as before
  told_back : (c : Option CheckerValue) (cs : List Says) (ls : List (Option Line)) (vs : List Verdict) (o : Option Refusal) → told_from new.run_ended c cs ls vs o → told_from old.run_ended c cs ls vs o
  told_back c cs ls vs o h = subst (λ b. told_from b c cs ls vs o) same.run h

  whole_back : (behind : List Chunk) (says : List Says) (o : Option Refusal) → (o ≡ None → (behind ≡ []) ⊎ ((new.run_ended || list_any ends says) ≡ true)) → o ≡ None → (behind ≡ []) ⊎ ((old.run_ended || list_any ends says) ≡ true)
  whole_back behind says o h = subst (λ b. o ≡ None → (behind ≡ []) ⊎ ((b || list_any ends says) ≡ true)) same.run h

  fewer : held_by new < held_by old
  fewer = let e : length new.framer.bytes ≡ length old.framer.bytes = ap (λ (x : Held). length x.bytes) same.framer in let f = takes.less in omega arith

  no_more : (k : Checking) → k.inputs ≡ new → held_by k.inputs ≤ held_by old
  no_more k ki = subst (λ (x : Inputs). held_by x ≤ held_by old) (sym ki) (omega (arith, fewer))

  -- the header
  pub begun : (c : CheckerValue) (format : Format) (limits : Limits) → IsHeader l format limits → c ≡ no_records format limits → (k : Checking) → k.inputs ≡ new → k.checker ≡ Some c → Advances old None (step.On k)
  begun c format limits head e k ki kc = (
    record {
      judged = λ s p vs o t h'.
          let h : IsJudgedFrom new (Some (no_records format limits)) s p vs o = subst (λ (x : CheckerValue). IsJudgedFrom new (Some x) s p vs o) e (subst (λ (x : Option CheckerValue). IsJudgedFrom new x s p vs o) kc (subst (λ (x : Inputs). IsJudgedFrom x k.checker s p vs o) ki h')) in
          record {
            chunks = h.chunks;
            behind = h.behind;
            says = h.says;
            lines = l ∷ h.lines;
            cut = cut_back s (h.chunks ++ h.behind) h.cut;
            read = h.read;
            split = takes.lines p h.lines t.proof h.split;
            told = λ rest n. let q = told_back (Some (no_records format limits)) (h.says ++ rest) h.lines vs o (h.told rest n) in inl (format, limits, head, subst (λ x. Tells (judging_from format limits) (to_be_done old.run_ended (h.says ++ rest)) h.lines x o) (sym q.1) q.2);
            whole = whole_back h.behind h.says o h.whole;
          };
      accepted = λ s p vs t h'.
          let h : IsAcceptedFrom new (Some (no_records format limits)) s p vs = subst (λ (x : CheckerValue). IsAcceptedFrom new (Some x) s p vs) e (subst (λ (x : Option CheckerValue). IsAcceptedFrom new x s p vs) kc (subst (λ (x : Inputs). IsAcceptedFrom x k.checker s p vs) ki h')) in
          let q = told_back (Some (no_records format limits)) h.says h.lines vs None h.told in
          record {
            chunks = h.chunks;
            behind = h.behind;
            says = h.says;
            lines = l ∷ h.lines;
            later = h.later;
            cut = cut_back s (h.chunks ++ h.behind) h.cut;
            read = h.read;
            split = takes.lines p (h.lines ++ h.later) t.proof h.split;
            told = inl (format, limits, head, subst (λ x. Tells (judging_from format limits) (to_be_done old.run_ended h.says) h.lines x None) (sym q.1) q.2);
          };
      script = ap (λ (x : Inputs). x.script_ended) ki ∙ same.script;
      proof = ap (λ (x : Inputs). x.proof_ended) ki ∙ same.proof;
      held = no_more k ki;
    },
    ap verdicts_by kc ∙ ap (λ (x : CheckerValue). x.verdicts) e,
    subst (λ (x : Inputs). held_by x < held_by old) (sym ki) fewer,
  )

  -- no header
  unbegun_so : (f : Refusal) → ((format : Format) (limits : Limits) → IsHeader l format limits → ⊥) → f ≡ bad_header → (j : Judgement) → j.checker ≡ None → j.refusal ≡ Some f → Concludes old None j
  unbegun_so f head e j jc jr s p t =
      let cs = cut_there (and_more old.framer s) in
      let ls = lines_there (new.reader.bytes ++ p) in
      subst (λ (x : Option CheckerValue). IsJudgedFrom old None s p (verdicts_by x) j.refusal) (sym jc)
      (subst (λ (x : Option Refusal). IsJudgedFrom old None s p [] x) (sym (jr ∙ ap Some e))
      (record {
        chunks = [];
        behind = cs.0;
        says = [];
        lines = l ∷ ls.0;
        cut = cs.1;
        read = tt;
        split = takes.lines p ls.0 t.proof ls.1;
        told = λ rest n. inr (head, refl, refl);
        whole = λ z. absurd (let y : ⊥ = cc in y);
      }))

  pub unbegun : (f : Refusal) → ((format : Format) (limits : Limits) → IsHeader l format limits → ⊥) → f ≡ bad_header → (j : Judgement) → j.checker ≡ None → j.refusal ≡ Some f → Concludes old None j × AddsVerdicts None j.checker []
  unbegun f head e j jc jr = (unbegun_so f head e j jc jr, ap verdicts_by jc)

  module _ (c d : CheckerValue) (at : IsAtLine old c) (goes : GoesTo (Moves c.judging l) c d) where
    lined_keeps : (k : Checking) → k.inputs ≡ new → k.checker ≡ Some d → Keeps old (Some c) k
    lined_keeps k ki kc = record {
      judged = λ s p vs o t h'.
          let h : IsJudgedFrom new (Some d) s p vs o = subst (λ (x : Option CheckerValue). IsJudgedFrom new x s p vs o) kc (subst (λ (x : Inputs). IsJudgedFrom x k.checker s p vs o) ki h') in
          let k' = cut_back s (h.chunks ++ h.behind) h.cut in
          record {
            chunks = h.chunks;
            behind = h.behind;
            says = h.says;
            lines = l ∷ h.lines;
            cut = k';
            read = h.read;
            split = takes.lines p h.lines t.proof h.split;
            told = λ rest n.
                let q = told_back (Some d) (h.says ++ rest) h.lines vs o (h.told rest n) in
                let r = reached old c at s h.chunks h.behind h.says rest t.script k' h.read n in
                (shown_at d.judging ++ q.0, q.1 ∙ shown_behind (Moves c.judging l) c d q.0 goes, tells_line c.judging d.judging (to_be_done old.run_ended (h.says ++ rest)) l h.lines q.0 o r goes.judged q.2);
            whole = whole_back h.behind h.says o h.whole;
          };
      accepted = λ s p vs t h'.
          let h : IsAcceptedFrom new (Some d) s p vs = subst (λ (x : Option CheckerValue). IsAcceptedFrom new x s p vs) kc (subst (λ (x : Inputs). IsAcceptedFrom x k.checker s p vs) ki h') in
          let k' = cut_back s (h.chunks ++ h.behind) h.cut in
          let q = told_back (Some d) h.says h.lines vs None h.told in
          let r = reached_alone old c at s h.chunks h.behind h.says t.script k' h.read in
          record {
            chunks = h.chunks;
            behind = h.behind;
            says = h.says;
            lines = l ∷ h.lines;
            later = h.later;
            cut = k';
            read = h.read;
            split = takes.lines p (h.lines ++ h.later) t.proof h.split;
            told = (shown_at d.judging ++ q.0, q.1 ∙ shown_behind (Moves c.judging l) c d q.0 goes, tells_line c.judging d.judging (to_be_done old.run_ended h.says) l h.lines q.0 None r goes.judged q.2);
          };
      script = ap (λ (x : Inputs). x.script_ended) ki ∙ same.script;
      proof = ap (λ (x : Inputs). x.proof_ended) ki ∙ same.proof;
      held = no_more k ki;
    }

    -- the verdicts are those before and the one that is shown
    verdicts_are : d.verdicts ≡ c.verdicts ++ shown_at d.judging
    verdicts_are = sym (append-nil d.verdicts) ∙ shown_behind (Moves c.judging l) c d [] goes ∙ ap (λ x. c.verdicts ++ x) (append-nil (shown_at d.judging))

    -- where the line ended a check, so much is accepted
    line_shows : (v : Verdict) → shown_at d.judging ≡ v ∷ [] → (s p : List ℕ) → AreToCome old s p → IsAcceptedFrom old (Some c) s p d.verdicts
    line_shows v e s p t =
        let cs = cut_there (and_more old.framer s) in
        let ls = lines_there (new.reader.bytes ++ p) in
        let none : Tells d.judging (to_be_done old.run_ended []) [] [] None = subst (λ o. Tells d.judging (to_be_done old.run_ended []) [] [] o) (shown_ending d.judging v e) (tells_end d.judging (to_be_done old.run_ended []) (none_reached d.judging old.run_ended)) in
        record {
          chunks = [];
          behind = cs.0;
          says = [];
          lines = l ∷ [];
          later = ls.0;
          cut = cs.1;
          read = tt;
          split = takes.lines p ls.0 t.proof ls.1;
          told = (shown_at d.judging ++ [], sym (append-nil d.verdicts) ∙ shown_behind (Moves c.judging l) c d [] goes, tells_line c.judging d.judging (to_be_done old.run_ended []) l [] [] None (none_reached c.judging old.run_ended) goes.judged none);
        }

    pub lined : (r : Step) → GoesOn new d r → Advances old (Some c) r
    lined (step.On k) h = (
      lined_keeps k h.0 h.1,
      adds_none (Some c) k.checker (ap verdicts_by h.1 ∙ verdicts_are ∙ ap (λ x. c.verdicts ++ x) h.2 ∙ append-nil c.verdicts),
      subst (λ (x : Inputs). held_by x < held_by old) (sym h.0) fewer,
    )
    lined (step.Stop (progress.Shown k v)) h = (
      lined_keeps k h.0 h.1,
      ap verdicts_by h.1 ∙ verdicts_are ∙ ap (λ x. c.verdicts ++ x) h.2,
      (λ s p t. subst (λ (x : Option CheckerValue). IsAcceptedFrom old (Some c) s p (verdicts_by x)) (sym h.1) (line_shows v h.2 s p t)),
      subst (λ (x : Inputs). held_by x < held_by old) (sym h.0) fewer,
    )
    lined (step.Stop (progress.Script k)) h = absurd h
    lined (step.Stop (progress.Proof k)) h = absurd h
    lined (step.Stop (progress.Done j)) h = absurd h

    refused_so : (r : Refusal) → answer_by d.judging.owed ≡ Err r → (j : Judgement) → j.checker ≡ Some d → j.refusal ≡ Some r → Concludes old (Some c) j
    refused_so r e j jc jr s p t =
        let cs = cut_there (and_more old.framer s) in
        let ls = lines_there (new.reader.bytes ++ p) in
        subst (λ (x : Option CheckerValue). IsJudgedFrom old (Some c) s p (verdicts_by x) j.refusal) (sym jc)
        (subst (λ (x : Option Refusal). IsJudgedFrom old (Some c) s p d.verdicts x) (sym jr)
        (record {
          chunks = [];
          behind = cs.0;
          says = [];
          lines = l ∷ ls.0;
          cut = cs.1;
          read = tt;
          split = takes.lines p ls.0 t.proof ls.1;
          told = λ rest n.
              let q = reached old c at s [] cs.0 [] rest t.script cs.1 tt n in
              (shown_at d.judging ++ [], sym (append-nil d.verdicts) ∙ shown_behind (Moves c.judging l) c d [] goes, tells_line c.judging d.judging (to_be_done old.run_ended rest) l ls.0 [] (Some r) q goes.judged (tells_over d.judging r (over_of d.judging.owed r e) (to_be_done old.run_ended rest) ls.0));
          whole = λ z. absurd (let y : ⊥ = cc in y);
        }))

    pub refused : (r : Refusal) → answer_by d.judging.owed ≡ Err r → (j : Judgement) → j.checker ≡ Some d → j.refusal ≡ Some r → Concludes old (Some c) j × AddsVerdicts (Some c) j.checker []
    refused r e j jc jr = (refused_so r e j jc jr, ap verdicts_by jc ∙ verdicts_are ∙ ap (λ x. c.verdicts ++ x) (over_shown d.judging r (over_of d.judging.owed r e)))

  -- the same of a line behind which it is judged as is likened to what was judged
  module _ (c d : CheckerValue) (at : IsAtLine old c) (goes : GoesToLike (Moves c.judging l) c d) where
    abbrev e : CheckerValue
    e = record { judging = goes.to; verdicts = d.verdicts }

    plain : GoesTo (Moves c.judging l) c e
    plain = record { judged = goes.judged; verdicts = goes.verdicts ∙ by goes.like }
      where
        by : (goes.to ≡ d.judging) ⊎ IsLikened goes.to d.judging → and_shown c.verdicts d.judging.owed d.judging.state.standing ≡ and_shown c.verdicts goes.to.owed goes.to.state.standing
        by (inl same) = ap (λ (j : Judging). and_shown c.verdicts j.owed j.state.standing) (sym same)
        by (inr k) = ap (λ (j : Judging). and_shown c.verdicts j.owed j.state.standing) (likened_over goes.to d.judging k)

    shows : shown_at goes.to ≡ shown_at d.judging
    shows = by goes.like
      where
        by : (goes.to ≡ d.judging) ⊎ IsLikened goes.to d.judging → shown_at goes.to ≡ shown_at d.judging
        by (inl same) = ap shown_at same
        by (inr k) = sym (shown_alike goes.to d.judging k)

    answers : answer_by goes.to.owed ≡ answer_by d.judging.owed
    answers = by goes.like
      where
        by : (goes.to ≡ d.judging) ⊎ IsLikened goes.to d.judging → answer_by goes.to.owed ≡ answer_by d.judging.owed
        by (inl same) = ap (λ (j : Judging). answer_by j.owed) same
        by (inr k) = ap answer_by (sym k.owed)

    tells : (cs : List Says) (ls : List (Option Line)) (vs : List Verdict) (o : Option Refusal) → Tells d.judging cs ls vs o → Tells goes.to cs ls vs o
    tells cs ls vs o h = by goes.like
      where
        by : (goes.to ≡ d.judging) ⊎ IsLikened goes.to d.judging → Tells goes.to cs ls vs o
        by (inl same) = subst (λ (j : Judging). Tells j cs ls vs o) (sym same) h
        by (inr k) = tells_alike ls d.judging goes.to cs vs o (likened_back goes.to d.judging k) h

    told_like : (ended : Bool) (cs : List Says) (ls : List (Option Line)) (vs : List Verdict) (o : Option Refusal) → told_from ended (Some d) cs ls vs o → told_from ended (Some e) cs ls vs o
    told_like ended cs ls vs o h = (h.0, h.1, tells (to_be_done ended cs) ls h.0 o h.2)

    abbrev stands_in : Checking
    stands_in = record { inputs = new; checker = Some e }

    keeps_like : Keeps old (Some c) stands_in → (k : Checking) → k.inputs ≡ new → k.checker ≡ Some d → Keeps old (Some c) k
    keeps_like h k ki kc = record {
      judged = λ s p vs o t j'.
          let j : IsJudgedFrom new (Some d) s p vs o = subst (λ (x : Option CheckerValue). IsJudgedFrom new x s p vs o) kc (subst (λ (x : Inputs). IsJudgedFrom x k.checker s p vs o) ki j') in
          h.judged s p vs o t
          (record { chunks = j.chunks; behind = j.behind; says = j.says; lines = j.lines; cut = j.cut; read = j.read; split = j.split; told = λ rest n. told_like new.run_ended (j.says ++ rest) j.lines vs o (j.told rest n); whole = j.whole });
      accepted = λ s p vs t j'.
          let j : IsAcceptedFrom new (Some d) s p vs = subst (λ (x : Option CheckerValue). IsAcceptedFrom new x s p vs) kc (subst (λ (x : Inputs). IsAcceptedFrom x k.checker s p vs) ki j') in
          h.accepted s p vs t
          (record { chunks = j.chunks; behind = j.behind; says = j.says; lines = j.lines; later = j.later; cut = j.cut; read = j.read; split = j.split; told = told_like new.run_ended j.says j.lines vs None j.told });
      script = ap (λ (x : Inputs). x.script_ended) ki ∙ h.script;
      proof = ap (λ (x : Inputs). x.proof_ended) ki ∙ h.proof;
      held = subst (λ (x : Inputs). held_by x ≤ held_by old) (sym ki) h.held;
    }

    pub lined_like : (r : Step) → GoesOn new d r → Advances old (Some c) r
    lined_like (step.On k) h =
        let q = lined c e at plain (step.On stands_in) (refl, refl, shows ∙ h.2) in
        (keeps_like q.0 k h.0 h.1, ap verdicts_by h.1 ∙ q.1, subst (λ (x : Inputs). held_by x < held_by old) (sym h.0) q.2)
    lined_like (step.Stop (progress.Shown k v)) h =
        let q = lined c e at plain (step.Stop (progress.Shown stands_in v)) (refl, refl, shows ∙ h.2) in (
          keeps_like q.0 k h.0 h.1,
          ap verdicts_by h.1 ∙ q.1,
          (λ s p t. subst (λ (x : Option CheckerValue). IsAcceptedFrom old (Some c) s p (verdicts_by x)) (sym h.1) (q.2 s p t)),
          subst (λ (x : Inputs). held_by x < held_by old) (sym h.0) q.3,
        )
    lined_like (step.Stop (progress.Script k)) h = absurd h
    lined_like (step.Stop (progress.Proof k)) h = absurd h
    lined_like (step.Stop (progress.Done j)) h = absurd h

    pub refused_like : (r : Refusal) → answer_by d.judging.owed ≡ Err r → (j : Judgement) → j.checker ≡ Some d → j.refusal ≡ Some r → Concludes old (Some c) j × AddsVerdicts (Some c) j.checker []
    refused_like r is j jc jr =
        let q = refused c e at plain r (answers ∙ is) (record { checker = Some e; refusal = j.refusal }) refl jr in (
          (λ s p t. subst (λ (x : Option CheckerValue). IsJudgedFrom old (Some c) s p (verdicts_by x) j.refusal) (sym jc) (q.0 s p t)),
          ap verdicts_by jc ∙ q.1,
        )

-- ---- the end of the proof

module _ (old : Inputs) (end : IsProofAtEnd old) where
  nothing_left : (p : List ℕ) → MayCome old.proof_ended p → old.reader.bytes ++ p ≡ []
  nothing_left p t = ap (λ x. x ++ p) end.empty ∙ t end.ended

  headless_so : (j : Judgement) → (j.checker ≡ None) × (j.refusal ≡ Some bad_header) → Concludes old None j
  headless_so j e s p t =
      let cs = cut_there (and_more old.framer s) in
      subst (λ (x : Option CheckerValue). IsJudgedFrom old None s p (verdicts_by x) j.refusal) (sym e.0)
      (subst (λ (x : Option Refusal). IsJudgedFrom old None s p [] x) (sym e.1)
      (record {
        chunks = [];
        behind = cs.0;
        says = [];
        lines = [];
        cut = cs.1;
        read = tt;
        split = nothing_left p t.proof;
        told = λ rest n. (refl, refl);
        whole = λ z. absurd (let y : ⊥ = cc in y);
      }))

  pub headless : (j : Judgement) → (j.checker ≡ None) × (j.refusal ≡ Some bad_header) → Concludes old None j × AddsVerdicts None j.checker []
  headless j e = (headless_so j e, ap verdicts_by e.0)

  module _ (c : CheckerValue) (o : Option Refusal) (e : ending c.judging.owed c.judging.line ≡ o) where
    told_end : (s p : List ℕ) (behind : List Chunk) → AreToCome old s p → IsAtLine old c → AreCut (and_more old.framer s) behind → (o ≡ None → (behind ≡ []) ⊎ ((old.run_ended || false) ≡ true)) → IsJudgedFrom old (Some c) s p c.verdicts o
    told_end s p behind t at k w = record {
      chunks = [];
      behind = behind;
      says = [];
      lines = [];
      cut = k;
      read = tt;
      split = nothing_left p t.proof;
      told = λ rest n.
          let q = reached old c at s [] behind [] rest t.script k tt n in
          ([], sym (append-nil c.verdicts), subst (λ x. Tells c.judging (to_be_done old.run_ended rest) [] [] x) e (tells_end c.judging (to_be_done old.run_ended rest) q));
      whole = w;
    }

    ends_by : (s p : List ℕ) → AreToCome old s p → IsAtLine old c → IsJudgedFrom old (Some c) s p c.verdicts o
    ends_by s p t (inl i) =
        let cs = cut_there (and_more old.framer s) in
        told_end s p cs.0 t (inl i) cs.1 (λ z. absurd (let f = ending_none c.judging.owed c.judging.line (e ∙ z) in let y : ⊥ = cc in y))
    ends_by s p t (inr (inl i)) =
        let cs = cut_there (and_more old.framer s) in
        told_end s p cs.0 t (inr (inl i)) cs.1 (λ z. inr (ap (λ b. b || false) i))
    ends_by s p t (inr (inr i)) = told_end s p [] t (inr (inr i)) (subst (λ (x : Held). AreCut x []) (sym (more_none old.framer s (t.script i.ended))) i.cut) (λ z. inl refl)

    ended_so : IsAtLine old c → (d : CheckerValue) → d.verdicts ≡ c.verdicts → (j : Judgement) → j.checker ≡ Some d → j.refusal ≡ o → Concludes old (Some c) j
    ended_so at d same j jc jr s p t =
        subst (λ (x : Option CheckerValue). IsJudgedFrom old (Some c) s p (verdicts_by x) j.refusal) (sym jc)
        (subst (λ (x : Option Refusal). IsJudgedFrom old (Some c) s p d.verdicts x) (sym jr)
        (subst (λ (x : List Verdict). IsJudgedFrom old (Some c) s p x o) (sym same) (ends_by s p t at)))

    pub ended : IsAtLine old c → (d : CheckerValue) → d.verdicts ≡ c.verdicts → (j : Judgement) → j.checker ≡ Some d → j.refusal ≡ o → Concludes old (Some c) j × AddsVerdicts (Some c) j.checker []
    ended at d same j jc jr = (ended_so at d same j jc jr, ap verdicts_by jc ∙ same ∙ sym (append-nil c.verdicts))

-- ---- a command

-- the same inputs, where a command ended the run, or did not
abbrev pub run_by : Inputs → Bool → Inputs
run_by i ended = record { framer = i.framer; script_ended = i.script_ended; run_ended = ended; reader = i.reader; proof_ended = i.proof_ended }

module _ (old new : Inputs) (same : IsSameProof old new) where
  pub command_done : (chunk : Chunk) → (old.run_ended ≡ false) × TakesChunk old new chunk → (c d : CheckerValue) (says : Says) (ended : Bool) → is_idle c.judging.owed ≡ true → ReadsAs chunk says → d ≡ judged_so c (commanded c.judging says) → ended ≡ ends says → (k : Checking) → k.inputs ≡ run_by new ended → k.checker ≡ Some d → Advances old (Some c) (step.On k)
  command_done chunk takes c d says ended idle reads e f k ki kc = (
    record {
      judged = λ s p vs o t h'.
          let g : IsJudgedFrom (run_by new ended) (Some (judged_so c (commanded c.judging says))) s p vs o = subst (λ (x : CheckerValue). IsJudgedFrom (run_by new ended) (Some x) s p vs o) e (subst (λ (x : Option CheckerValue). IsJudgedFrom (run_by new ended) x s p vs o) kc (subst (λ (x : Inputs). IsJudgedFrom x k.checker s p vs o) ki h')) in
          let h : IsJudgedFrom (run_by new (ends says)) (Some (judged_so c (commanded c.judging says))) s p vs o = subst (λ b. IsJudgedFrom (run_by new b) (Some (judged_so c (commanded c.judging says))) s p vs o) f g in
          before (sym takes.0) s p vs o (record {
            chunks = chunk ∷ h.chunks;
            behind = h.behind;
            says = says ∷ h.says;
            lines = h.lines;
            cut = takes.1.chunks s (h.chunks ++ h.behind) t.script h.cut;
            read = (reads, h.read);
            split = subst (λ x. AreLines (x.bytes ++ p) h.lines) same.reader h.split;
            told = λ rest n. let q = h.told rest n in (q.0, q.1, tells_command c.judging says (h.says ++ rest) h.lines q.0 o idle q.2);
            whole = h.whole;
          });
      accepted = λ s p vs t h'.
          let g : IsAcceptedFrom (run_by new ended) (Some (judged_so c (commanded c.judging says))) s p vs = subst (λ (x : CheckerValue). IsAcceptedFrom (run_by new ended) (Some x) s p vs) e (subst (λ (x : Option CheckerValue). IsAcceptedFrom (run_by new ended) x s p vs) kc (subst (λ (x : Inputs). IsAcceptedFrom x k.checker s p vs) ki h')) in
          let h : IsAcceptedFrom (run_by new (ends says)) (Some (judged_so c (commanded c.judging says))) s p vs = subst (λ b. IsAcceptedFrom (run_by new b) (Some (judged_so c (commanded c.judging says))) s p vs) f g in
          accepted_before (sym takes.0) s p vs (record {
            chunks = chunk ∷ h.chunks;
            behind = h.behind;
            says = says ∷ h.says;
            lines = h.lines;
            later = h.later;
            cut = takes.1.chunks s (h.chunks ++ h.behind) t.script h.cut;
            read = (reads, h.read);
            split = subst (λ x. AreLines (x.bytes ++ p) (h.lines ++ h.later)) same.reader h.split;
            told = (h.told.0, h.told.1, tells_command c.judging says h.says h.lines h.told.0 None idle h.told.2);
          });
      script = ap (λ (x : Inputs). x.script_ended) ki ∙ same.script;
      proof = ap (λ (x : Inputs). x.proof_ended) ki ∙ same.proof;
      held = subst (λ (x : Inputs). held_by x ≤ held_by old) (sym ki) (let f = takes.1.less in let g : length new.reader.bytes ≡ length old.reader.bytes = ap (λ x. length x.bytes) same.reader in omega arith);
    },
    adds_none (Some c) k.checker (ap verdicts_by kc ∙ ap (λ (x : CheckerValue). x.verdicts) e),
    subst (λ (x : Inputs). held_by x < held_by old) (sym ki) (let f = takes.1.less in let g : length new.reader.bytes ≡ length old.reader.bytes = ap (λ x. length x.bytes) same.reader in omega arith),
  )
    where
      -- the run did not end before
      before : false ≡ old.run_ended → (s p : List ℕ) (vs : List Verdict) (o : Option Refusal) → ToldBy false (and_more old.framer s) (old.reader.bytes ++ p) (Some c) vs o → IsJudgedFrom old (Some c) s p vs o
      before on s p vs o h = subst (λ b. ToldBy b (and_more old.framer s) (old.reader.bytes ++ p) (Some c) vs o) on h

      accepted_before : false ≡ old.run_ended → (s p : List ℕ) (vs : List Verdict) → IsToldSoFar (told_from false (Some c)) (and_more old.framer s) (old.reader.bytes ++ p) vs → IsAcceptedFrom old (Some c) s p vs
      accepted_before on s p vs h = subst (λ b. IsToldSoFar (told_from b (Some c)) (and_more old.framer s) (old.reader.bytes ++ p) vs) on h

  -- at the end of the script
  module _ (was : IsScriptAtEnd old) (is : IsScriptAtEnd new) (le : length new.framer.bytes ≤ length old.framer.bytes) (c : CheckerValue) where
    judged_back : (s p : List ℕ) (vs : List Verdict) (o : Option Refusal) → AreToCome old s p → IsJudgedFrom new (Some c) s p vs o → IsJudgedFrom old (Some c) s p vs o
    judged_back s p vs o t h =
        let t' = still old new s p same.script same.proof t in
        let none = no_chunks new s (h.chunks ++ h.behind) is t'.script h.cut in
        record {
          chunks = h.chunks;
          behind = h.behind;
          says = h.says;
          lines = h.lines;
          cut = subst (λ x. AreCut (and_more old.framer s) x) (sym none) (subst (λ (x : Held). AreCut x []) (sym (more_none old.framer s (t.script was.ended))) was.cut);
          read = h.read;
          split = subst (λ x. AreLines (x.bytes ++ p) h.lines) same.reader h.split;
          told = λ rest n. subst (λ b. told_from b (Some c) (h.says ++ rest) h.lines vs o) same.run (h.told rest n);
          whole = subst (λ b. o ≡ None → (h.behind ≡ []) ⊎ ((b || list_any ends h.says) ≡ true)) same.run h.whole;
        }

    accepted_back : (s p : List ℕ) (vs : List Verdict) → AreToCome old s p → IsAcceptedFrom new (Some c) s p vs → IsAcceptedFrom old (Some c) s p vs
    accepted_back s p vs t h =
        let t' = still old new s p same.script same.proof t in
        let none = no_chunks new s (h.chunks ++ h.behind) is t'.script h.cut in
        record {
          chunks = h.chunks;
          behind = h.behind;
          says = h.says;
          lines = h.lines;
          later = h.later;
          cut = subst (λ x. AreCut (and_more old.framer s) x) (sym none) (subst (λ (x : Held). AreCut x []) (sym (more_none old.framer s (t.script was.ended))) was.cut);
          read = h.read;
          split = subst (λ x. AreLines (x.bytes ++ p) (h.lines ++ h.later)) same.reader h.split;
          told = subst (λ b. told_from b (Some c) h.says h.lines vs None) same.run h.told;
        }

    few : held_by new ≤ held_by old
    few = let g : length new.reader.bytes ≡ length old.reader.bytes = ap (λ x. length x.bytes) same.reader in omega arith

    keeps_back : (k : Checking) → Keeps new (Some c) k → Keeps old (Some c) k
    keeps_back k h = record {
      judged = λ s p vs o t m. judged_back s p vs o t (h.judged s p vs o (still old new s p same.script same.proof t) m);
      accepted = λ s p vs t m. accepted_back s p vs t (h.accepted s p vs (still old new s p same.script same.proof t) m);
      script = h.script ∙ same.script;
      proof = h.proof ∙ same.proof;
      held = omega (arith, h.held, few);
    }

    pub advances_back : (r : Step) → Advances new (Some c) r → Advances old (Some c) r
    advances_back (step.On k) h = (keeps_back k h.0, h.1, omega (arith, h.2, few))
    advances_back (step.Stop (progress.Script k)) h = (keeps_back k h.0, h.1, h.2)
    advances_back (step.Stop (progress.Proof k)) h = (keeps_back k h.0, h.1, h.2)
    advances_back (step.Stop (progress.Shown k v)) h = (
      keeps_back k h.0,
      h.1,
      (λ s p t. accepted_back s p (verdicts_by k.checker) t (h.2 s p (still old new s p same.script same.proof t))),
      omega (arith, h.3, few),
    )
    advances_back (step.Stop (progress.Done j)) h = ((λ s p t. judged_back s p (verdicts_by j.checker) j.refusal t (h.0 s p (still old new s p same.script same.proof t))), h.1)

-- ---- nothing was taken

same_inputs : (old new : Inputs) → new.framer ≡ old.framer → new.reader ≡ old.reader → new.script_ended ≡ old.script_ended → new.run_ended ≡ old.run_ended → new.proof_ended ≡ old.proof_ended → new ≡ old
same_inputs old new a b c r d = λ i. record { framer = a i; script_ended = c i; run_ended = r i; reader = b i; proof_ended = d i }

pub proof_asked : (old new : Inputs) → IsSameScript old new → (old.proof_ended ≡ false) × (new.reader ≡ old.reader) → (c : Option CheckerValue) (k : Checking) → k.inputs ≡ new → k.checker ≡ c → Keeps old c k × AddsVerdicts c k.checker [] × (k.inputs.proof_ended ≡ false)
proof_asked old new same h c k e f =
    let i = same_inputs old new same.framer h.1 same.script same.run same.proof in
    (keeps_none old c k (e ∙ i) f, adds_none c k.checker (ap verdicts_by f), ap (λ (x : Inputs). x.proof_ended) (e ∙ i) ∙ h.0)

pub script_asked : (old new : Inputs) → IsSameProof old new → (old.script_ended ≡ false) × (new.framer ≡ old.framer) → (c : Option CheckerValue) (k : Checking) → k.inputs ≡ new → k.checker ≡ c → Keeps old c k × AddsVerdicts c k.checker [] × (k.inputs.script_ended ≡ false)
script_asked old new same h c k e f =
    let i = same_inputs old new h.1 same.reader same.script same.run same.proof in
    (keeps_none old c k (e ∙ i) f, adds_none c k.checker (ap verdicts_by f), ap (λ (x : Inputs). x.script_ended) (e ∙ i) ∙ h.0)

-- ---- no command follows

abbrev pub NoChunk : Inputs → Inputs → Type 0
NoChunk old new = IsLeft old new ⊎ (IsScriptAtEnd old × IsScriptAtEnd new × (length new.framer.bytes ≤ length old.framer.bytes))

module _ (old new : Inputs) (same : IsSameProof old new) where
  pub no_command : NoChunk old new → HasNoCommand new
  no_command (inl e) = inl (same.run ∙ e.0)
  no_command (inr e) = inr e.1

  line_back : (c : CheckerValue) → NoChunk old new → (r : Step) → Advances new (Some c) r → Advances old (Some c) r
  line_back c (inl e) r h = subst (λ (x : Inputs). Advances x (Some c) r) (same_inputs old new e.1 same.reader same.script same.run same.proof) h
  line_back c (inr e) r h = advances_back old new same e.0 e.1 e.2 c r h

  pub result_back : {E : Type 0} → NoChunk old new → (c : CheckerValue) (r : Result Step E) → IfOk r (λ x. Advances new (Some c) x) → IfOk r (λ x. Advances old (Some c) x)
  result_back e c (Ok x) h = line_back c e x h
  result_back e c (Err f) h = tt

-- ---- what the end is answered

pub end_answered : (r : Result (Unit {0}) Refusal) (o : Option Refusal) → MatchResult r (λ _. o ≡ None) (λ f. o ≡ Some f) → o ≡ result_err r
end_answered (Ok x) o h = h
end_answered (Err f) o h = h

pub end_verdicts : (c d : CheckerValue) (o : Option Refusal) → d ≡ at_end c o → d.verdicts ≡ c.verdicts
end_verdicts c d None e = ap (λ (x : CheckerValue). x.verdicts) e
end_verdicts c d (Some r) e = ap (λ (x : CheckerValue). x.verdicts) e
