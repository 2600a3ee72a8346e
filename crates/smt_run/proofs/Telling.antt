-- What was added, where bytes are told.
use Rattle.std.proofs.Common.{◌≡◌, ℕ, Bool, true, false, List, [], ◌∷◌, ◌++◌, map, Option, Some, None, refl, sym, ap, ◌∙◌, subst, append_assoc, append-nil, inl, inr, ⊎_elim}
use Rattle.std.specs.Prelude.{◌⊎◌, ◌||◌, Result, Ok, Err, IfOk, IfErr, MatchResult, IfSome, if◌then◌else◌, option_to_list}
use Rattle.std.specs.Io.KnownBytes.{Appends, Consumes, IsAtEnd}
use Rattle.std.specs.List.{flat_map}
use Rattle.smt_text.specs.declared.chunk.Chunk.{Chunk}
use Rattle.smt_text.specs.Framing.{Held, first_chunk, last_chunk}
use Rattle.smt_text.specs.Script.{Begins, AreChunks}
use Rattle.smt_text.proofs.Cuts.{Begins-append}
use Rattle.script_state.specs.Readings.{Reading, ReadsAs}
use Rattle.script_state.specs.States.{no_state}
use Rattle.script_state.specs.Steps.{ends}
use Rattle.accepted_proof.specs.Searching.{Limits, AreLimits}
use Rattle.proof_text.specs.declared.line.Format.TheVariants.{Two}
use Rattle.proof_text.specs.Lines.{line_text}
use Rattle.accepted_proof.specs.Turns.{Part, Turn, AreParts, AreTurns, part_lines, turn_of}
use Rattle.accepted_proof.specs.Right.{AreRight, ArePrinted}
use Rattle.accepted_proof.specs.Answers.{answers_of, header_of, written_of}
use Rattle.accepted_proof.specs.Accepted.{AreRead, AreAll, Accepted, EndLast, IsFront, IsBegun, has_ended, has_error, readings_of}
use Rattle.proof_file.specs.Places.{no_file}
use Rattle.proof_file.specs.Trimmed.{AreTrimmed}
use Rattle.trimmed_proofs.specs.Laws.{HaveTakenFirst, TellsOf, TrimmedLaw}
use Rattle.proof_checker.specs.Checked.{IsAccepted, verdicts_of}
use Rattle.smt_session.specs.Thorough.{AreThorough}
use Rattle.smt_check.specs.declared.status.Status.{Status}
use Rattle.smt_check.specs.declared.status.Status.TheVariants.{Done, Refused, Usage, ReadFault, WriteFault, NoMemory, TooLong}
use Rattle.smt_check.specs.Runs.{ReadsBytes, ReadsPiece}
use Rattle.smt_run.specs.Solving.{StopsWriting, FailsToRead, untaken}
use Rattle.smt_run.specs.declared.answering.Answered.{Answered}
use Rattle.smt_run.specs.Adding.{AreFiled, Filed, Moment, moment_of, opening, behind, answers_at, parts_in, turns_in, Follow, Streams, streams, lines_of, Advances, IsNothing, IsBegunOf, Breaks, BreaksAt, BreaksWithin, AddsLast, AnswersAll, AnswersFront, AnswersRead}
use Rattle.smt_run.specs.Beside.{Told, AreSearchedFor, IsAcceptedCut, IsBegunBehind, IsBesideProof, IsBeside, IsAllAnswered, IsPrefix, IsAnsweredToRead, IsReadOut}
use Rattle.smt_run.proofs.Cutting.{front_parts}
use Rattle.smt_run.proofs.Turning.{Follow-append, answers-append, parts-append, refused-append, Adds-trans, Advances-breaks}

-- What holds of turns that follow one another and of the parts that are trimmed of them, and of accepted proofs: a check accepts
-- them, and what they show is right.
pub record Laws (limits : Limits) : Type 0 where
  pub right : (turns : List Turn) → AreTurns limits no_state [] turns → AreRight no_state turns
  pub printed : (turns : List Turn) → AreTurns limits no_state [] turns → ArePrinted no_state [] None turns
  pub tells : (turns : List Turn) (parts : List Part) → AreTurns limits no_state [] turns → HaveTakenFirst [] turns → AreTrimmed no_state [] no_file turns parts → TellsOf limits turns parts
  pub pass : (script proof : List ℕ) (turns : List Turn) → Accepted limits script proof turns → IsAccepted script proof (verdicts_of turns)
  pub shown : (script proof : List ℕ) (turns : List Turn) → Accepted limits script proof turns → AreRight no_state turns

pub laws_of : (limits : Limits) → ((l : Limits) (turns : List Turn) → AreTurns l no_state [] turns → AreRight no_state turns) → ((l : Limits) (turns : List Turn) → AreTurns l no_state [] turns → ArePrinted no_state [] None turns)
    → TrimmedLaw → ((l : Limits) (script proof : List ℕ) (turns : List Turn) → Accepted l script proof turns → IsAccepted script proof (verdicts_of turns))
    → ((l : Limits) (script proof : List ℕ) (turns : List Turn) → Accepted l script proof turns → AreRight no_state turns) → Laws limits
laws_of limits right printed trimmed pass shown = record {
  right = right limits;
  printed = printed limits;
  tells = trimmed limits;
  pass = pass limits;
  shown = shown limits;
}

-- ---- parts

trimmed_of : (m : Moment) (done : List Filed) → AreFiled m done → AreTrimmed m.state m.log m.file (turns_in done) (parts_in done)
trimmed_of m [] h = tt
trimmed_of m (d ∷ ds) h = (d.file, h.0, trimmed_of (behind m d) ds h.1)

read_parts : (m : Moment) (chunks : List Chunk) (done : List Filed) → AreFiled m done → AreRead chunks (turns_in done) → AreRead chunks (map turn_of (parts_in done))
read_parts m [] [] h r = tt
read_parts m [] (d ∷ ds) h r = absurd r
read_parts m (c ∷ cs) [] h r = absurd r
read_parts m (c ∷ cs) (d ∷ ds) h r = (h.0.line ∙ r.0, subst (ReadsAs c) (sym h.0.says) r.1, read_parts (behind m d) cs ds h.1 r.2)

no_parts : (done : List Filed) → turns_in done ≡ [] → map turn_of (parts_in done) ≡ []
no_parts [] e = refl
no_parts (d ∷ ds) e = let q : ⊥ = cc in absurd q

last_parts : (m : Moment) (done : List Filed) → AreFiled m done → EndLast (turns_in done) → EndLast (map turn_of (parts_in done))
last_parts m [] h l = tt
last_parts m (d ∷ ds) h l = (λ e. no_parts ds (l.0 (ap ends (sym h.0.says) ∙ e)), last_parts (behind m d) ds h.1 l.1)

-- commands whose parts are what the file gets for them
module _ (limits : Limits) (laws : Laws limits) (allowed : AreLimits limits) (chunks : List Chunk) (done : List Filed) (h : Follow (opening limits) chunks done) where
  tells : TellsOf limits (turns_in done) (parts_in done)
  tells = laws.tells (turns_in done) (parts_in done) h.run h.taken (trimmed_of (opening limits) done h.filed)

  commands_read : AreRead chunks (map turn_of (parts_in done))
  commands_read = read_parts (opening limits) chunks done h.filed h.read

  commands_last : EndLast (map turn_of (parts_in done))
  commands_last = last_parts (opening limits) done h.filed h.last

  searched : AreThorough limits no_state [] (turns_in done) → AreSearchedFor limits (turns_in done) (parts_in done)
  searched thorough = record {
    run = h.run;
    trims = trimmed_of (opening limits) done h.filed;
    tells = tells;
    thorough = thorough;
    right = laws.right (turns_in done) h.run;
    printed = laws.printed (turns_in done) h.run;
  }

  accepted : (script : List ℕ) → AreAll script chunks (map turn_of (parts_in done)) → Accepted limits script (written_of Two limits (parts_in done)) (map turn_of (parts_in done))
  accepted script all = record {
    allowed = allowed;
    chunks = chunks;
    cut = all;
    read = commands_read;
    last = commands_last;
    format = Two;
    parts = parts_in done;
    turns_are = refl;
    run = tells.run;
    lines = refl;
  }

  -- cut behind its first chunks, a script has the accepted proof of their parts
  checked_cut : (text : List ℕ) → IsFront text chunks → IsAcceptedCut limits text chunks (parts_in done)
  checked_cut text front =
      let k = front_parts text chunks front in
      record {
        cut = k.0;
        rest = k.1;
        text_is = k.2;
        whole = k.3;
        checked = laws.pass k.0 (written_of Two limits (parts_in done)) (map turn_of (parts_in done)) (accepted k.0 (inl k.3));
      }

  right_parts : (text : List ℕ) → IsFront text chunks → AreRight no_state (map turn_of (parts_in done))
  right_parts text front =
      let k = front_parts text chunks front in
      laws.shown k.0 (written_of Two limits (parts_in done)) (map turn_of (parts_in done)) (accepted k.0 (inl k.3))

  all_parts : (text : List ℕ) → AreAll text chunks (turns_in done) → AreAll text chunks (map turn_of (parts_in done))
  all_parts text (inl k) = inl k
  all_parts text (inr k) = inr (tells.ended ∙ k.0, k.1)

-- the last of some parts
last_part : (done : List Filed) (d : Filed) → parts_in (done ++ d ∷ []) ≡ parts_in done ++ d.part ∷ []
last_part done d = parts-append done (d ∷ [])

-- ---- texts

-- the text that stood before what is left
front_more : (text more : List ℕ) (chunks : List Chunk) (rest : Held) → Begins (record { line = 1; bytes = text }) chunks rest → IsFront (text ++ more) chunks
front_more text more chunks rest b = inl (record { line = rest.line; bytes = rest.bytes ++ more }, Begins-append (record { line = 1; bytes = text }) chunks rest more b)

-- at the end of the script its text is what was read
whole_text : (x text y : List ℕ) → x ≡ text ++ y → y ≡ [] → x ≡ text
whole_text x text y e f = e ∙ ap (λ l. text ++ l) f ∙ append-nil text

-- the chunks of a script that ends where no whole chunk is held
cut_whole : (text : List ℕ) (chunks : List Chunk) (rest : Held) → Begins (record { line = 1; bytes = text }) chunks rest → first_chunk rest ≡ None → AreChunks text (chunks ++ option_to_list (last_chunk rest))
cut_whole text chunks rest b e = record { whole = chunks; rest = rest; begins = b; ends = e; all = refl }

pub told_map : (s a a' p p' : Option (List ℕ)) (P Q : List ℕ → List ℕ → List ℕ → Type 0) → ((x y z : List ℕ) → P x y z → Q x y z) → Told s a a' p p' P → Told s a a' p p' Q
told_map None a a' p p' P Q h t = tt
told_map (Some x) None a' p p' P Q h t = tt
told_map (Some x) (Some y) a' None p' P Q h t = tt
told_map (Some x) (Some y) a' (Some z) p' P Q h t = (t.0, t.1, t.2, t.3, h x t.0 t.1 t.4)

-- nothing is answered
pub told_silent : (s a p p' : Option (List ℕ)) (bytes : List ℕ) (P : List ℕ → List ℕ → List ℕ → Type 0) → Appends p p' bytes → ((text : List ℕ) → P text [] bytes) → Told s a a p p' P
told_silent None a p p' bytes P e h = tt
told_silent (Some x) None p p' bytes P e h = tt
told_silent (Some x) (Some y) None p' bytes P e h = tt
told_silent (Some x) (Some y) (Some z) None bytes P e h = absurd e
told_silent (Some x) (Some y) (Some z) (Some w) bytes P e h = ([], bytes, ap Some (sym (append-nil y)), ap Some e, h x)

front_of_all : (text : List ℕ) (chunks : List Chunk) (turns : List Turn) → AreAll text chunks turns → IsFront text chunks
front_of_all text chunks turns k = ⊎_elim inr (λ h. h.1) k

module _ (limits : Limits) where
  -- ---- from pieces of a script to what it tells

  pub front_told : (s s' : Option (List ℕ)) (text : List ℕ) (a b : Streams) → Consumes s s' text → BreaksWithin (record { line = 1; bytes = text }) (opening limits) a b → IfSome s (λ t. AnswersFront limits t a b)
  front_told None s' text a b c w = tt
  front_told (Some x) None text a b c w = absurd c
  front_told (Some x) (Some y) text a b c w = record {
    chunks = w.chunks;
    next = w.next;
    front = rw c (front_more text y w.chunks w.front.0 w.front.1);
    all = rw c (front_more text y (w.chunks ++ w.next) w.all.0 w.all.1);
    breaks = w.breaks;
  }

  pub all_told : (s s' : Option (List ℕ)) (text : List ℕ) (cur : Answered) (now : Bool) (a b c : Streams) (chunks : List Chunk) (rest : Held) → cur.ended ≡ false → Consumes s s' text → IsAtEnd s' → Begins (record { line = 1; bytes = text }) chunks rest → first_chunk rest ≡ None → Advances (opening limits) false cur a b chunks → AddsLast (moment_of cur.session) cur.refused b c (option_to_list (last_chunk rest)) now → IfSome s (λ t. AnswersAll limits t a c now)
  all_told None s' text cur now a b c chunks rest g k z f e p q = tt
  all_told (Some x) None text cur now a b c chunks rest g k z f e p q = absurd k
  all_told (Some x) (Some y) text cur now a b c chunks rest g k z f e p q = record {
    chunks = chunks ++ option_to_list (last_chunk rest);
    done = p.done ++ q.done;
    cut = inl (rw (whole_text x text y k z) (cut_whole text chunks rest f e));
    adds = Adds-trans (opening limits) a b c chunks (option_to_list (last_chunk rest)) p.done q.done [] [] (sym p.ended_is ∙ g) p.adds (rw p.after_is at q.adds);
    refused_is = q.refused_is ∙ ap (λ r. r || has_error (turns_in q.done)) p.refused_is ∙ sym (refused-append p.done q.done);
  }

  -- a stop at the last chunk
  pub last_told : (s s' : Option (List ℕ)) (text : List ℕ) (cur : Answered) (a b c : Streams) (chunks : List Chunk) (rest : Held) → cur.ended ≡ false → Consumes s s' text → IsAtEnd s' → Begins (record { line = 1; bytes = text }) chunks rest → first_chunk rest ≡ None → Advances (opening limits) false cur a b chunks → BreaksAt (moment_of cur.session) b c (option_to_list (last_chunk rest)) → IfSome s (λ t. AnswersFront limits t a c)
  last_told None s' text cur a b c chunks rest g k z f e p q = tt
  last_told (Some x) None text cur a b c chunks rest g k z f e p q = absurd k
  last_told (Some x) (Some y) text cur a b c chunks rest g k z f e p q =
      let same = whole_text x text y k z in
      record {
        chunks = chunks;
        next = q.next;
        front = rw same (inl (rest, f));
        all = rw same (⊎_elim (λ n. rw n (inl (rest, rw append-nil f))) (λ n. rw n (inr (cut_whole text chunks rest f e))) q.next_is);
        breaks = subst (λ l. Breaks (opening limits) a c l q.next) (append-nil chunks) (Advances-breaks (opening limits) false cur a b c chunks [] q.next g p q.breaks);
      }

  -- the end of the script
  pub rest_told : (s s' : Option (List ℕ)) (text : List ℕ) (cur : Answered) (a b c : Streams) (chunks : List Chunk) (rest : Held) (r : Result Bool Status) → cur.ended ≡ false → Consumes s s' text → IsAtEnd s' → Begins (record { line = 1; bytes = text }) chunks rest → first_chunk rest ≡ None → Advances (opening limits) false cur a b chunks
      → IfOk r (λ now. AddsLast (moment_of cur.session) cur.refused b c (option_to_list (last_chunk rest)) now) → IfErr r (λ _. BreaksAt (moment_of cur.session) b c (option_to_list (last_chunk rest)))
      → IfSome s (λ t. MatchResult r (λ now. AnswersAll limits t a c now) (λ _. AnswersFront limits t a c))
  rest_told s s' text cur a b c chunks rest (Ok now) g k z f e p q w = all_told s s' text cur now a b c chunks rest g k z f e p q
  rest_told s s' text cur a b c chunks rest (Err t) g k z f e p q w = last_told s s' text cur a b c chunks rest g k z f e p w

  -- a command ends the run
  pub ended_told : (s s' : Option (List ℕ)) (text : List ℕ) (cur : Answered) (a c : Streams) (chunks : List Chunk) (rest : Held) → cur.ended ≡ true → Consumes s s' text → Begins (record { line = 1; bytes = text }) chunks rest → Advances (opening limits) false cur a c chunks → IfSome s (λ t. AnswersAll limits t a c cur.refused)
  ended_told None s' text cur a c chunks rest g k f p = tt
  ended_told (Some x) None text cur a c chunks rest g k f p = absurd k
  ended_told (Some x) (Some y) text cur a c chunks rest g k f p = record {
    chunks = chunks;
    done = p.done;
    cut = inr (sym p.ended_is ∙ g, rw k (front_more text y chunks rest f));
    adds = p.adds;
    refused_is = p.refused_is;
  }

  pub ended_read : (s s' : Option (List ℕ)) (text : List ℕ) (cur : Answered) (a c : Streams) (chunks : List Chunk) (rest : Held) → cur.ended ≡ true → Consumes s s' text → Begins (record { line = 1; bytes = text }) chunks rest → Advances (opening limits) false cur a c chunks → IsReadOut s s'
  ended_read None s' text cur a c chunks rest g k f p = inr tt
  ended_read (Some x) None text cur a c chunks rest g k f p = absurd k
  ended_read (Some x) (Some y) text cur a c chunks rest g k f p = inr (record {
    chunks = chunks;
    turns = turns_in p.done;
    front = rw k (front_more text y chunks rest f);
    read = p.adds.follow.read;
    last = p.adds.follow.last;
    ended = sym p.ended_is ∙ g;
  })

  -- where one command comes next, it is that of one chunk
  single : (text : List ℕ) (chunks next : List Chunk) (done coming : List Filed) (command : Filed) → coming ≡ command ∷ [] → IsFront text (chunks ++ next) → Follow (opening limits) (chunks ++ next) (done ++ coming) → AreRead next (turns_in coming)
      → (c : Chunk) × IsFront text (chunks ++ c ∷ []) × Follow (opening limits) (chunks ++ c ∷ []) (done ++ command ∷ [])
  single text chunks next done coming command is f h read = go next f (subst (λ us. Follow (opening limits) (chunks ++ next) (done ++ us)) is h) (subst (λ us. AreRead next (turns_in us)) is read)
    where
      go : (next : List Chunk) → IsFront text (chunks ++ next) → Follow (opening limits) (chunks ++ next) (done ++ command ∷ []) → AreRead next (turns_in (command ∷ [])) → (c : Chunk) × IsFront text (chunks ++ c ∷ []) × Follow (opening limits) (chunks ++ c ∷ []) (done ++ command ∷ [])
      go [] f h read = absurd read
      go (c ∷ []) f h read = (c, f, h)
      go (c ∷ d ∷ next) f h read = absurd read.2

  module _ (laws : Laws limits) (allowed : AreLimits limits) (text : List ℕ) (chunks next : List Chunk) (done coming : List Filed) (begun rest more left : List ℕ) (own : Follow (opening limits) chunks done) (f : IsFront text (chunks ++ next)) (h : Follow (opening limits) (chunks ++ next) (done ++ coming)) (read : AreRead next (turns_in coming)) where
    -- the texts of one command more
    more_texts : (c : Chunk) (d : Filed) → Follow (opening limits) (chunks ++ c ∷ []) (done ++ d ∷ []) → answers_of (turns_in (done ++ d ∷ [])) ≡ answers_of (turns_in done) ++ begun ++ rest
        → answers_of (map turn_of (parts_in done ++ d.part ∷ [])) ≡ answers_of (map turn_of (parts_in done)) ++ begun ++ rest
    more_texts c d all e =
        ap (λ ps. answers_of (map turn_of ps)) (sym (last_part done d))
        ∙ (tells limits laws allowed (chunks ++ c ∷ []) (done ++ d ∷ []) all).answers
        ∙ e
        ∙ ap (λ l. l ++ begun ++ rest) (sym (tells limits laws allowed chunks done own).answers)

    -- what was begun of an answer
    begun_answer : answers_of (turns_in (done ++ coming)) ≡ answers_of (turns_in done) ++ begun ++ rest → IsNothing begun more ⊎ IsBegunOf coming begun rest more left → (begun ≡ []) ⊎ IsBegun limits text chunks (parts_in done) begun
    begun_answer e (inl n) = inl n.0
    begun_answer e (inr k) =
        let s = single text chunks next done coming k.command k.one f h read in
        let cs = chunks ++ s.0 ∷ [] in
        let ds = done ++ k.command ∷ [] in
        ⊎_elim (λ q. inl q.0)
        (λ q. inr (record {
          next = s.0;
          part = k.command.part;
          rest = rest;
          front = s.1;
          read = subst (λ ps. AreRead (chunks ++ s.0 ∷ []) (map turn_of ps)) (last_part done k.command) (commands_read limits laws allowed cs ds s.2);
          last = subst (λ ps. EndLast (map turn_of ps)) (last_part done k.command) (commands_last limits laws allowed cs ds s.2);
          run = subst (λ ps. AreParts Two limits no_state [] [] ps) (last_part done k.command) (tells limits laws allowed cs ds s.2).run;
          texts = more_texts s.0 k.command s.2 (subst (λ us. answers_of (turns_in (done ++ us)) ≡ answers_of (turns_in done) ++ begun ++ rest) k.one e);
          unfinished = q.1;
        }))
        k.unfinished

    -- and of the part of a command
    begun_lines : lines_of coming ≡ more ++ left → IsNothing begun more ⊎ IsBegunOf coming begun rest more left → ((begun ≡ []) × (more ≡ [])) ⊎ IsBegunBehind limits text chunks (parts_in done) begun more
    begun_lines e (inl n) = inl n
    begun_lines e (inr k) =
        let s = single text chunks next done coming k.command k.one f h read in
        let cs = chunks ++ s.0 ∷ [] in
        let ds = done ++ k.command ∷ [] in
        inr (record {
          next = s.0;
          part = k.command.part;
          front = s.1;
          read = subst (λ ps. AreRead (chunks ++ s.0 ∷ []) (map turn_of ps)) (last_part done k.command) (commands_read limits laws allowed cs ds s.2);
          last = subst (λ ps. EndLast (map turn_of ps)) (last_part done k.command) (commands_last limits laws allowed cs ds s.2);
          run = subst (λ ps. AreParts Two limits no_state [] [] ps) (last_part done k.command) (tells limits laws allowed cs ds s.2).run;
          left = left;
          lines = sym (ap (flat_map line_text) (append-nil (part_lines k.command.part))) ∙ sym (ap lines_of k.one) ∙ e;
          cut =
              ⊎_elim (λ q. inl q)
              (λ q. inr (q.0, subst (IsAcceptedCut limits text (chunks ++ s.0 ∷ [])) (last_part done k.command) (checked_cut limits laws allowed cs ds s.2 text s.1)))
              k.unfinished;
        })

  -- a read that failed, behind answers to all that was read before
  over_read : (left : ℕ) (b c : Option (List ℕ)) (t : Status) → ReadsPiece left b c (Err t) → ReadsBytes (untaken t) b c
  over_read left b c Done q = absurd q
  over_read left b c Refused q = absurd q
  over_read left b c Usage q = absurd q
  over_read left b c ReadFault q = q
  over_read left b c WriteFault q = absurd q
  over_read left b c NoMemory q = absurd q
  over_read left b c TooLong q = q.1

  pub read_told : (s m s' : Option (List ℕ)) (text : List ℕ) (left : ℕ) (cur : Answered) (a b : Streams) (chunks : List Chunk) (rest : Held) (t : Status) → cur.ended ≡ false → Consumes s m text → ReadsPiece left m s' (Err t) → Begins (record { line = 1; bytes = text }) chunks rest → first_chunk rest ≡ None → Advances (opening limits) false cur a b chunks → IfSome s (λ x. AnswersRead limits t s' x a b)
  read_told None m s' text left cur a b chunks rest t g k r f e p = tt
  read_told (Some x) None s' text left cur a b chunks rest t g k r f e p = absurd k
  read_told (Some x) (Some y) None text left cur a b chunks rest t g k r f e p = let o = over_read left (Some y) None t r in absurd o.1
  read_told (Some x) (Some y) (Some z) text left cur a b chunks rest t g k r f e p =
      let o = over_read left (Some y) (Some z) t r in
      record {
        read = text;
        over = o.0;
        rest = z;
        left_is = refl;
        text_is = k ∙ ap (λ l. text ++ l) o.1;
        size = o.2;
        held = rest;
        chunks = chunks;
        whole = f;
        no_more = e;
        done = p.done;
        adds = p.adds;
        going = sym p.ended_is ∙ g;
      }

  -- a run that stops for another reason
  pub no_read : (t : Status) → StopsWriting t → FailsToRead t → ⊥
  no_read t h k = ⊎_elim (λ e. ⊎_elim (λ d. let z : ⊥ = cc in z) (λ d. let z : ⊥ = cc in z) k) (λ e. ⊎_elim (λ d. let z : ⊥ = cc in z) (λ d. let z : ⊥ = cc in z) k) h

  pub rest_read : (r : Result Bool Status) (P : Status → Type 0) → IfErr r StopsWriting → IfErr r (λ t. FailsToRead t → P t)
  rest_read (Ok x) P h = tt
  rest_read (Err t) P h = λ k. absurd (no_read t h k)

  -- ---- what is told

  pub unbegun_beside : (bytes rest : List ℕ) → header_of Two limits ≡ bytes ++ rest → (text : List ℕ) → IsBeside limits text [] bytes
  unbegun_beside bytes rest e text = inl (record { answers = refl; rest = rest; header = e })

  pub unbegun_prefix : (text proved : List ℕ) → IsPrefix limits text []
  unbegun_prefix text proved = record { chunks = []; turns = []; rest = []; front = inl (record { line = 1; bytes = text }, refl); read = tt; last = tt; run = tt; answers = refl }

  -- what was added behind the header
  added_proof : (z m w lines : List ℕ) → m ≡ z ++ header_of Two limits → w ≡ m ++ lines → w ≡ z ++ (header_of Two limits ++ lines)
  added_proof z m w lines h e = e ∙ ap (λ l. l ++ lines) h ∙ append_assoc z (header_of Two limits) lines

  abbrev pub IsFrontTold : List ℕ → List ℕ → List ℕ → Type 0
  IsFrontTold text answered proved = IsBesideProof limits text answered proved × IsPrefix limits text answered

  pub told_front : (s a a' p m p' : Option (List ℕ)) → AreLimits limits → Laws limits → Appends p m (header_of Two limits) → IfSome s (λ t. AnswersFront limits t (streams a m) (streams a' p')) → Told s a a' p p' IsFrontTold
  told_front None a a' p m p' allowed laws h w = tt
  told_front (Some x) None a' p m p' allowed laws h w = tt
  told_front (Some x) (Some y) a' None m p' allowed laws h w = tt
  told_front (Some x) (Some y) a' (Some z) None p' allowed laws h w = absurd h
  told_front (Some x) (Some y) None (Some z) (Some m) p' allowed laws h w = absurd w.breaks.adds.answers
  told_front (Some x) (Some y) (Some y') (Some z) (Some m) None allowed laws h w = absurd w.breaks.adds.proof
  told_front (Some x) (Some y) (Some y') (Some z) (Some m) (Some z') allowed laws h w =
      let b = w.breaks in
      let own = b.adds.follow in
      let all = Follow-append (opening limits) w.chunks w.next b.done b.coming b.going own b.follow in
      let texts = answers-append (opening limits) b.done b.coming ∙ ap (λ l. answers_of (turns_in b.done) ++ l) b.answer ∙ sym (append_assoc (answers_of (turns_in b.done)) b.begun b.rest) in (
        answers_of (turns_in b.done) ++ b.begun,
        header_of Two limits ++ (lines_of b.done ++ b.more),
        ap Some b.adds.answers,
        ap Some (added_proof z m z' _ h b.adds.proof),
        (
          record {
            beside = record {
              allowed = allowed;
              chunks = w.chunks;
              parts = parts_in b.done;
              more = b.more;
              begun = b.begun;
              front = w.front;
              read = commands_read limits laws allowed w.chunks b.done own;
              last = commands_last limits laws allowed w.chunks b.done own;
              run = (tells limits laws allowed w.chunks b.done own).run;
              lines = sym (append_assoc (header_of Two limits) (lines_of b.done) b.more);
              texts = ap (λ l. l ++ b.begun) (sym (tells limits laws allowed w.chunks b.done own).answers);
              unfinished = begun_answer laws allowed x w.chunks w.next b.done b.coming b.begun b.rest b.more b.left own w.all all b.follow.read texts b.unfinished;
            };
            checked = checked_cut limits laws allowed w.chunks b.done own x w.front;
            behind = begun_lines laws allowed x w.chunks w.next b.done b.coming b.begun b.rest b.more b.left own w.all all b.follow.read b.lines b.unfinished;
            right = right_parts limits laws allowed w.chunks b.done own x w.front;
            turns = turns_in b.done;
            searched = searched limits laws allowed w.chunks b.done own b.adds.thorough;
          },
          record {
            chunks = w.chunks ++ w.next;
            turns = turns_in (b.done ++ b.coming);
            rest = b.rest;
            front = w.all;
            read = all.read;
            last = all.last;
            run = all.run;
            answers = texts;
          },
        ),
      )

  pub told_all : (s a a' p m p' : Option (List ℕ)) (refused : Bool) (status : Status) → AreLimits limits → Laws limits → status ≡ (if refused then Refused else Done) → Appends p m (header_of Two limits) → IfSome s (λ t. AnswersAll limits t (streams a m) (streams a' p') refused) → Told s a a' p p' (IsAllAnswered limits status)
  told_all None a a' p m p' refused status allowed laws e h w = tt
  told_all (Some x) None a' p m p' refused status allowed laws e h w = tt
  told_all (Some x) (Some y) a' None m p' refused status allowed laws e h w = tt
  told_all (Some x) (Some y) a' (Some z) None p' refused status allowed laws e h w = absurd h
  told_all (Some x) (Some y) None (Some z) (Some m) p' refused status allowed laws e h w = absurd w.adds.answers
  told_all (Some x) (Some y) (Some y') (Some z) (Some m) None refused status allowed laws e h w = absurd w.adds.proof
  told_all (Some x) (Some y) (Some y') (Some z) (Some m) (Some z') refused status allowed laws e h w =
      let own = w.adds.follow in
      let told = tells limits laws allowed w.chunks w.done own in
      let all = all_parts limits laws allowed w.chunks w.done own x w.cut in
      let whole = accepted limits laws allowed w.chunks w.done own x all in (
        answers_of (turns_in w.done),
        header_of Two limits ++ lines_of w.done,
        ap Some (rw append-nil at w.adds.answers),
        ap Some (added_proof z m z' _ h (rw append-nil at w.adds.proof)),
        record {
          parts = parts_in w.done;
          whole = record { accepted = whole; run = told.run; lines = refl; texts = sym told.answers };
          checked = laws.pass x (header_of Two limits ++ lines_of w.done) (map turn_of (parts_in w.done)) whole;
          right = laws.shown x (header_of Two limits ++ lines_of w.done) (map turn_of (parts_in w.done)) whole;
          turns = turns_in w.done;
          searched = searched limits laws allowed w.chunks w.done own w.adds.thorough;
          status_is = e ∙ ap (λ r. if r then Refused else Done) (w.refused_is ∙ sym told.error);
        },
      )

  pub told_read : (s s' a a' p m p' : Option (List ℕ)) (status : Status) → AreLimits limits → Laws limits → Appends p m (header_of Two limits) → IfSome s (λ t. AnswersRead limits status s' t (streams a m) (streams a' p')) → Told s a a' p p' (IsAnsweredToRead limits status s')
  told_read None s' a a' p m p' status allowed laws h w = tt
  told_read (Some x) s' None a' p m p' status allowed laws h w = tt
  told_read (Some x) s' (Some y) a' None m p' status allowed laws h w = tt
  told_read (Some x) s' (Some y) a' (Some z) None p' status allowed laws h w = absurd h
  told_read (Some x) s' (Some y) None (Some z) (Some m) p' status allowed laws h w = absurd w.adds.answers
  told_read (Some x) s' (Some y) (Some y') (Some z) (Some m) None status allowed laws h w = absurd w.adds.proof
  told_read (Some x) s' (Some y) (Some y') (Some z) (Some m) (Some z') status allowed laws h w =
      let own = w.adds.follow in
      let told = tells limits laws allowed w.chunks w.done own in (
        answers_of (turns_in w.done),
        header_of Two limits ++ lines_of w.done,
        ap Some (rw append-nil at w.adds.answers),
        ap Some (added_proof z m z' _ h (rw append-nil at w.adds.proof)),
        record {
          read = w.read;
          over = w.over;
          rest = w.rest;
          left_is = w.left_is;
          text_is = w.text_is;
          size = w.size;
          held = w.held;
          chunks = w.chunks;
          whole = w.whole;
          no_more = w.no_more;
          parts = parts_in w.done;
          commands = commands_read limits laws allowed w.chunks w.done own;
          going = told.ended ∙ w.going;
          run = told.run;
          turns = turns_in w.done;
          searched = searched limits laws allowed w.chunks w.done own w.adds.thorough;
          answers = sym told.answers;
          proof = refl;
        },
      )

  -- where all is answered, what was answered stands beside the proof
  pub all_beside : Laws limits → (status : Status) (text answered proved : List ℕ) → IsAllAnswered limits status text answered proved → IsBeside limits text answered proved
  all_beside laws status text answered proved k =
      let front = front_of_all text k.whole.accepted.chunks (map turn_of k.parts) k.whole.accepted.cut in
      let cut = front_parts text k.whole.accepted.chunks front in
      inr (record {
        beside = record {
          allowed = k.whole.accepted.allowed;
          chunks = k.whole.accepted.chunks;
          parts = k.parts;
          more = [];
          begun = [];
          front = front;
          read = k.whole.accepted.read;
          last = k.whole.accepted.last;
          run = k.whole.run;
          lines = k.whole.lines ∙ sym (append-nil (written_of Two limits k.parts));
          texts = k.whole.texts ∙ sym (append-nil (answers_of (map turn_of k.parts)));
          unfinished = inl refl;
        };
        checked = record {
          cut = cut.0;
          rest = cut.1;
          text_is = cut.2;
          whole = cut.3;
          checked = laws.pass cut.0 (written_of Two limits k.parts) (map turn_of k.parts) (record {
            allowed = k.whole.accepted.allowed;
            chunks = k.whole.accepted.chunks;
            cut = inl cut.3;
            read = k.whole.accepted.read;
            last = k.whole.accepted.last;
            format = Two;
            parts = k.parts;
            turns_are = refl;
            run = k.whole.run;
            lines = refl;
          });
        };
        behind = inl (refl, refl);
        right = k.right;
        turns = k.turns;
        searched = k.searched;
      })

  -- the turns that were searched are those of the commands that are read
  read_back : (chunks : List Chunk) (turns others : List Turn) → readings_of others ≡ readings_of turns → AreRead chunks others → AreRead chunks turns
  read_back [] [] [] e r = tt
  read_back [] [] (u ∷ us) e r = absurd r
  read_back [] (t ∷ ts) [] e r = let q : ⊥ = cc in absurd q
  read_back [] (t ∷ ts) (u ∷ us) e r = absurd r
  read_back (c ∷ cs) ts [] e r = absurd r
  read_back (c ∷ cs) [] (u ∷ us) e r = let q : ⊥ = cc in absurd q
  read_back (c ∷ cs) (t ∷ ts) (u ∷ us) e r =
      let both : ◌≡◌ {A = ℕ × Reading} (u.line, u.says) (t.line, t.says) = cc in
      let line : u.line ≡ t.line = ap (λ (p : ℕ × Reading). p.0) both in
      let says : u.says ≡ t.says = ap (λ (p : ℕ × Reading). p.1) both in
      let rest : readings_of us ≡ readings_of ts = cc in
      (sym line ∙ r.0, subst (ReadsAs c) says r.1, read_back cs ts us rest r.2)

  last_back : (turns others : List Turn) → readings_of others ≡ readings_of turns → EndLast others → EndLast turns
  last_back [] us e l = tt
  last_back (t ∷ ts) [] e l = let q : ⊥ = cc in absurd q
  last_back (t ∷ ts) (u ∷ us) e l =
      let both : ◌≡◌ {A = ℕ × Reading} (u.line, u.says) (t.line, t.says) = cc in
      let says : u.says ≡ t.says = ap (λ (p : ℕ × Reading). p.1) both in
      let rest : readings_of us ≡ readings_of ts = cc in
      (λ k. none ts us rest (l.0 (ap ends says ∙ k)), last_back ts us rest l.1)
    where
      none : (ts us : List Turn) → readings_of us ≡ readings_of ts → us ≡ [] → ts ≡ []
      none [] us e k = refl
      none (t ∷ ts) us e k = let q : ⊥ = cc in absurd q

  pub all_prefix : (status : Status) (text answered proved : List ℕ) → IsAllAnswered limits status text answered proved → IsPrefix limits text answered
  all_prefix status text answered proved k = record {
    chunks = k.whole.accepted.chunks;
    turns = k.turns;
    rest = [];
    front = front_of_all text k.whole.accepted.chunks (map turn_of k.parts) k.whole.accepted.cut;
    read = read_back k.whole.accepted.chunks k.turns (map turn_of k.parts) k.searched.tells.readings k.whole.accepted.read;
    last = last_back k.turns (map turn_of k.parts) k.searched.tells.readings k.whole.accepted.last;
    run = k.searched.run;
    answers = sym k.searched.tells.answers ∙ sym k.whole.texts ∙ sym (append-nil answered);
  }

  -- ---- both ends of a run

  module _ (s a a' p m p' : Option (List ℕ)) (allowed : AreLimits limits) (laws : Laws limits) (h : Appends p m (header_of Two limits)) where
    pub front_beside : IfSome s (λ t. AnswersFront limits t (streams a m) (streams a' p')) → Told s a a' p p' (IsBeside limits)
    front_beside w = told_map s a a' p p' IsFrontTold (IsBeside limits) (λ x y z k. inr k.0) (told_front s a a' p m p' allowed laws h w)

    pub front_prefix : IfSome s (λ t. AnswersFront limits t (streams a m) (streams a' p')) → Told s a a' p p' (λ text answered proved. IsPrefix limits text answered)
    front_prefix w = told_map s a a' p p' IsFrontTold (λ text answered proved. IsPrefix limits text answered) (λ x y z k. k.1) (told_front s a a' p m p' allowed laws h w)

    module _ (refused : Bool) (status : Status) (e : status ≡ (if refused then Refused else Done)) (w : IfSome s (λ t. AnswersAll limits t (streams a m) (streams a' p') refused)) where
      pub whole_all : Told s a a' p p' (IsAllAnswered limits status)
      whole_all = told_all s a a' p m p' refused status allowed laws e h w

      pub whole_beside : Told s a a' p p' (IsBeside limits)
      whole_beside = told_map s a a' p p' (IsAllAnswered limits status) (IsBeside limits) (all_beside laws status) whole_all

      pub whole_prefix : Told s a a' p p' (λ text answered proved. IsPrefix limits text answered)
      whole_prefix = told_map s a a' p p' (IsAllAnswered limits status) (λ text answered proved. IsPrefix limits text answered) (all_prefix status) whole_all
