-- Turns after turns.
use Rattle.std.proofs.Common.{◌≡◌, ℕ, Bool, true, false, List, [], ◌∷◌, ◌++◌, map, Option, Some, None, refl, sym, ap, ◌∙◌, subst, append_assoc, append-nil, inl, ⊎_elim}
use Rattle.std.specs.Prelude.{◌||◌, Result, Ok, Err, IfOk, IfErr, option_to_list}
use Rattle.std.specs.List.{flat_map}
use Rattle.std.proofs.lemmas.Grind.{flat_map-append}
use Rattle.std.proofs.lemmas.List.{map-append}
use Rattle.std.proofs.lemmas.List.Folds.{list_any-append}
use Rattle.std.specs.Io.KnownBytes.{Appends}
use Rattle.std.proofs.KnownBytes.{Appends-nil, Appends-trans}
use Rattle.std.proofs.lemmas.Bool.{or_parts}
use Rattle.smt_text.specs.declared.chunk.Chunk.{Chunk}
use Rattle.smt_text.specs.Framing.{Held, first_chunk}
use Rattle.smt_text.specs.Script.{Begins}
use Rattle.smt_text.proofs.Cuts.{Begins-push, Begins-append}
use Rattle.proof_text.specs.Lines.{line_text}
use Rattle.script_state.specs.Steps.{ends}
use Rattle.accepted_proof.specs.Turns.{Turn, AreTurns, part_lines}
use Rattle.accepted_proof.specs.Answers.{turn_text, is_refused}
use Rattle.accepted_proof.specs.Accepted.{AreRead, EndLast, has_ended, has_error}
use Rattle.smt_check.specs.declared.status.Status.{Status}
use Rattle.trimmed_proofs.specs.Laws.{HaveTakenFirst}
use Rattle.smt_session.specs.Thorough.{AreThorough}
use Rattle.smt_run.specs.declared.answering.Answered.{Answered}
use Rattle.smt_run.specs.Adding.{AreFiled, Filed, Moment, moment_of, behind, after, answers_at, Follow, Streams, lines_of, parts_in, turns_in, Adds, Advances, Breaks, BreaksAt, AdvancesWithin, BreaksWithin, AddsLast, with_piece}

pub after-append : (m : Moment) (ds es : List Filed) → after m (ds ++ es) ≡ after (after m ds) es
after-append m [] es = refl
after-append m (d ∷ ds) es = after-append (behind m d) ds es

pub turns-append : (ds es : List Filed) → turns_in (ds ++ es) ≡ turns_in ds ++ turns_in es
turns-append ds es = map-append (λ (d : Filed). d.turn) ds es

pub parts-append : (ds es : List Filed) → parts_in (ds ++ es) ≡ parts_in ds ++ parts_in es
parts-append ds es = map-append (λ (d : Filed). d.part) ds es

read-append : (cs bs : List Chunk) (ts us : List Turn) → AreRead cs ts → AreRead bs us → AreRead (cs ++ bs) (ts ++ us)
read-append [] bs [] us p q = q
read-append [] bs (t ∷ ts) us p q = absurd p
read-append (c ∷ cs) bs [] us p q = absurd p
read-append (c ∷ cs) bs (t ∷ ts) us p q = (p.0, p.1, read-append cs bs ts us p.2 q)

run-append : (m : Moment) (ds es : List Filed) → AreTurns m.limits m.state m.log (turns_in ds) → AreTurns (after m ds).limits (after m ds).state (after m ds).log (turns_in es) → AreTurns m.limits m.state m.log (turns_in (ds ++ es))
run-append m [] es p q = q
run-append m (d ∷ ds) es p q = (p.0, run-append (behind m d) ds es p.1 q)

filed-append : (m : Moment) (ds es : List Filed) → AreFiled m ds → AreFiled (after m ds) es → AreFiled m (ds ++ es)
filed-append m [] es p q = q
filed-append m (d ∷ ds) es p q = (p.0, filed-append (behind m d) ds es p.1 q)

taken-append : (m : Moment) (ds es : List Filed) → HaveTakenFirst m.log (turns_in ds) → HaveTakenFirst (after m ds).log (turns_in es) → HaveTakenFirst m.log (turns_in (ds ++ es))
taken-append m [] es p q = q
taken-append m (d ∷ ds) es p q = (p.0, taken-append (behind m d) ds es p.1 q)

thorough-append : (m : Moment) (ds es : List Filed) → AreThorough m.limits m.state m.log (turns_in ds) → AreThorough (after m ds).limits (after m ds).state (after m ds).log (turns_in es) → AreThorough m.limits m.state m.log (turns_in (ds ++ es))
thorough-append m [] es p q = q
thorough-append m (d ∷ ds) es p q = (p.0, thorough-append (behind m d) ds es p.1 q)

last-append : (ts us : List Turn) → has_ended ts ≡ false → EndLast ts → EndLast us → EndLast (ts ++ us)
last-append [] us g p q = q
last-append (t ∷ ts) us g p q =
    let parts = or_parts (ends t.says) (has_ended ts) g in
    (λ e. let f : ⊥ = cc (e, parts.0) in absurd f, last-append ts us parts.1 p.1 q)

-- what ends none of the first turns ends none of all, if it ends none of the others
pub ended-append : (ds es : List Filed) → has_ended (turns_in ds) ≡ false → has_ended (turns_in es) ≡ has_ended (turns_in (ds ++ es))
ended-append ds es g =
    sym (ap has_ended (turns-append ds es) ∙ list_any-append (λ (t : Turn). ends t.says) (turns_in ds) (turns_in es) ∙ ap (λ b. b || has_ended (turns_in es)) g)

pub refused-append : (ds es : List Filed) → has_error (turns_in (ds ++ es)) ≡ (has_error (turns_in ds) || has_error (turns_in es))
refused-append ds es = ap has_error (turns-append ds es) ∙ list_any-append is_refused (turns_in ds) (turns_in es)

pub Follow-none : (m : Moment) → Follow m [] []
Follow-none m = record { read = tt; last = tt; run = tt; filed = tt; taken = tt }

pub Follow-append : (m : Moment) (cs bs : List Chunk) (ds es : List Filed) → has_ended (turns_in ds) ≡ false → Follow m cs ds → Follow (after m ds) bs es → Follow m (cs ++ bs) (ds ++ es)
Follow-append m cs bs ds es g p q = record {
  read = subst (AreRead (cs ++ bs)) (sym (turns-append ds es)) (read-append cs bs (turns_in ds) (turns_in es) p.read q.read);
  last = subst EndLast (sym (turns-append ds es)) (last-append (turns_in ds) (turns_in es) g p.last q.last);
  run = run-append m ds es p.run q.run;
  filed = filed-append m ds es p.filed q.filed;
  taken = taken-append m ds es p.taken q.taken;
}

pub answers-append : (m : Moment) (ds es : List Filed) → answers_at m (ds ++ es) ≡ answers_at m ds ++ answers_at (after m ds) es
answers-append m [] es = refl
answers-append m (d ∷ ds) es =
    ap (λ l. turn_text m.state m.log m.shown d.turn ++ l) (answers-append (behind m d) ds es)
    ∙ sym (append_assoc (turn_text m.state m.log m.shown d.turn) (answers_at (behind m d) ds) (answers_at (after (behind m d) ds) es))

lines-append : (ds es : List Filed) → lines_of (ds ++ es) ≡ lines_of ds ++ lines_of es
lines-append ds es =
    ap (λ ps. flat_map line_text (flat_map part_lines ps)) (parts-append ds es)
    ∙ ap (flat_map line_text) (flat_map-append part_lines (parts_in ds) (parts_in es))
    ∙ flat_map-append line_text (flat_map part_lines (parts_in ds)) (flat_map part_lines (parts_in es))

-- ---- what is added

pub Adds-none : (m : Moment) (s : Streams) → Adds m s s [] [] [] []
Adds-none m s = record { follow = Follow-none m; answers = Appends-nil s.answers; proof = Appends-nil s.proof; thorough = tt }

-- what stands behind a whole text
joined : (xs ys zs begun : List ℕ) → zs ≡ xs ++ ys → (xs ++ []) ++ (ys ++ begun) ≡ zs ++ begun
joined xs ys zs begun e = rw (append-nil xs, e) (sym (append_assoc xs ys begun))

pub Adds-trans : (m : Moment) (a b c : Streams) (cs bs : List Chunk) (ds es : List Filed) (begun more : List ℕ) → has_ended (turns_in ds) ≡ false → Adds m a b cs ds [] [] → Adds (after m ds) b c bs es begun more → Adds m a c (cs ++ bs) (ds ++ es) begun more
Adds-trans m a b c cs bs ds es begun more g p q = record {
  follow = Follow-append m cs bs ds es g p.follow q.follow;
  answers =
      subst (Appends a.answers c.answers) (joined (answers_at m ds) (answers_at (after m ds) es) (answers_at m (ds ++ es)) begun (answers-append m ds es))
      (Appends-trans a.answers b.answers c.answers _ _ p.answers q.answers);
  proof =
      subst (Appends a.proof c.proof) (joined (lines_of ds) (lines_of es) (lines_of (ds ++ es)) more (lines-append ds es))
      (Appends-trans a.proof b.proof c.proof _ _ p.proof q.proof);
  thorough = thorough-append m ds es p.thorough q.thorough;
}

-- ---- advances

pub or_false : (b : Bool) → b ≡ (b || false)
or_false true = refl
or_false false = refl

pub Advances-none : (m : Moment) (r : Bool) (new : Answered) (s : Streams) → moment_of new.session ≡ m → new.refused ≡ r → new.ended ≡ false → Advances m r new s s []
Advances-none m r new s e f g = record { done = []; adds = Adds-none m s; after_is = e; refused_is = f ∙ or_false r; ended_is = g }

or_assoc : (a b c : Bool) → ((a || b) || c) ≡ (a || (b || c))
or_assoc true b c = refl
or_assoc false b c = refl

pub Advances-trans : (m : Moment) (r : Bool) (mid new : Answered) (a b c : Streams) (cs ds : List Chunk) → mid.ended ≡ false → Advances m r mid a b cs → Advances (moment_of mid.session) mid.refused new b c ds → Advances m r new a c (cs ++ ds)
Advances-trans m r mid new a b c cs ds g p q = record {
  done = p.done ++ q.done;
  adds = Adds-trans m a b c cs ds p.done q.done [] [] (sym p.ended_is ∙ g) p.adds (rw p.after_is at q.adds);
  after_is = q.after_is ∙ ap (λ x. after x q.done) p.after_is ∙ sym (after-append m p.done q.done);
  refused_is =
      q.refused_is
      ∙ ap (λ x. x || has_error (turns_in q.done)) p.refused_is
      ∙ or_assoc r (has_error (turns_in p.done)) (has_error (turns_in q.done))
      ∙ ap (λ x. r || x) (sym (refused-append p.done q.done));
  ended_is = q.ended_is ∙ ended-append p.done q.done (sym p.ended_is ∙ g);
}

-- ---- breaks

-- a stop at once
pub Breaks-none : (m : Moment) (s : Streams) → Breaks m s s [] []
Breaks-none m s = record {
  done = [];
  begun = [];
  more = [];
  adds = Adds-none m s;
  going = refl;
  coming = [];
  rest = [];
  left = [];
  follow = Follow-none m;
  answer = refl;
  lines = refl;
  unfinished = inl (refl, refl);
}

-- a stop behind an advance
pub Advances-breaks : (m : Moment) (r : Bool) (mid : Answered) (a b c : Streams) (cs ds next : List Chunk) → mid.ended ≡ false → Advances m r mid a b cs → Breaks (moment_of mid.session) b c ds next → Breaks m a c (cs ++ ds) next
Advances-breaks m r mid a b c cs ds next g p q =
    let k : Breaks (after m p.done) b c ds next = rw p.after_is at q in
    record {
      done = p.done ++ k.done;
      begun = k.begun;
      more = k.more;
      adds = Adds-trans m a b c cs ds p.done k.done k.begun k.more (sym p.ended_is ∙ g) p.adds k.adds;
      going = sym (ended-append p.done k.done (sym p.ended_is ∙ g)) ∙ k.going;
      coming = k.coming;
      rest = k.rest;
      left = k.left;
      follow = rw (after-append m p.done k.done) k.follow;
      answer = rw (after-append m p.done k.done) k.answer;
      lines = k.lines;
      unfinished = k.unfinished;
    }

-- ---- within what a framer holds

pub Begins-trans : (h mid rest : Held) (cs ds : List Chunk) → Begins h cs mid → Begins mid ds rest → Begins h (cs ++ ds) rest
Begins-trans h mid rest [] ds p q = rw (← p) q
Begins-trans h mid rest (c ∷ cs) ds p q = (p.0, p.1, Begins-trans p.0 mid rest cs ds p.2 q)

pub held_none : (h : Held) (m : Moment) (s : Streams) → BreaksWithin h m s s
held_none h m s = record { chunks = []; next = []; front = (h, refl); all = (h, refl); breaks = Breaks-none m s }

-- a stop before the next chunk
pub held_stop : (h mid : Held) (m : Moment) (r : Bool) (cur : Answered) (a b : Streams) (cs : List Chunk) → cur.ended ≡ false → Begins h cs mid → Advances m r cur a b cs → BreaksWithin h m a b
held_stop h mid m r cur a b cs g f p = record {
  chunks = cs;
  next = [];
  front = (mid, f);
  all = (mid, rw append-nil f);
  breaks = subst (λ x. Breaks m a b x []) (append-nil cs) (Advances-breaks m r cur a b b cs [] [] g p (Breaks-none (moment_of cur.session) b));
}

-- a stop at the next chunk
pub held_at : (h mid rest : Held) (m : Moment) (r : Bool) (cur : Answered) (a b c : Streams) (cs : List Chunk) (d : Chunk) → cur.ended ≡ false → Begins h cs mid → Advances m r cur a b cs → first_chunk mid ≡ Some (d, rest) → BreaksAt (moment_of cur.session) b c (d ∷ []) → BreaksWithin h m a c
held_at h mid rest m r cur a b c cs d g f p e q = record {
  chunks = cs;
  next = q.next;
  front = (mid, f);
  all = ⊎_elim (λ k. rw k (mid, rw append-nil f)) (λ k. rw k (rest, Begins-push h cs mid d rest f e)) q.next_is;
  breaks = subst (λ x. Breaks m a c x q.next) (append-nil cs) (Advances-breaks m r cur a b c cs [] q.next g p q.breaks);
}

-- more bytes are held
pub held_more : (h : Held) (more : List ℕ) (m : Moment) (a b : Streams) → BreaksWithin h m a b → BreaksWithin (with_piece h more) m a b
held_more h more m a b w = record {
  chunks = w.chunks;
  next = w.next;
  front = (with_piece w.front.0 more, Begins-append h w.chunks w.front.0 more w.front.1);
  all = (with_piece w.all.0 more, Begins-append h (w.chunks ++ w.next) w.all.0 more w.all.1);
  breaks = w.breaks;
}

-- a stop within what is held behind an advance
pub held_behind : (h mid : Held) (m : Moment) (r : Bool) (cur : Answered) (a b c : Streams) (cs : List Chunk) → cur.ended ≡ false → Begins h cs mid → Advances m r cur a b cs → BreaksWithin mid (moment_of cur.session) b c → BreaksWithin h m a c
held_behind h mid m r cur a b c cs g f p w = record {
  chunks = cs ++ w.chunks;
  next = w.next;
  front = (w.front.0, Begins-trans h mid w.front.0 cs w.chunks f w.front.1);
  all = (w.all.0, rw (append_assoc cs w.chunks w.next) (Begins-trans h mid w.all.0 cs (w.chunks ++ w.next) f w.all.1));
  breaks = Advances-breaks m r cur a b c cs w.chunks w.next g p w.breaks;
}

-- ---- what is held after a piece is what was held before, and the piece

same_held : (f h : Held) (piece : List ℕ) → f.line ≡ h.line → f.bytes ≡ h.bytes ++ piece → f ≡ with_piece h piece
same_held f h piece l b = (λ i. record { line = l i; bytes = b i })

pub fed_advances : (f h rest : Held) (piece : List ℕ) (m : Moment) (b : Bool) (s t : Streams) (r : Result Answered Status) → f.line ≡ h.line → f.bytes ≡ h.bytes ++ piece → IfOk r (λ x. AdvancesWithin f rest m b x s t) → IfOk r (λ x. AdvancesWithin (with_piece h piece) rest m b x s t)
fed_advances f h rest piece m b s t (Ok x) k l p = subst (λ (y : Held). AdvancesWithin y rest m b x s t) (same_held f h piece k l) p
fed_advances f h rest piece m b s t (Err e) k l p = tt

pub fed_breaks : (f h : Held) (piece : List ℕ) (m : Moment) (s t : Streams) (r : Result Answered Status) → f.line ≡ h.line → f.bytes ≡ h.bytes ++ piece → IfErr r (λ _. BreaksWithin f m s t) → IfErr r (λ _. BreaksWithin (with_piece h piece) m s t)
fed_breaks f h piece m s t (Ok x) k l p = tt
fed_breaks f h piece m s t (Err e) k l p = subst (λ (y : Held). BreaksWithin y m s t) (same_held f h piece k l) p

-- the end of the script closes nothing
pub last_none : (m : Moment) (b : Bool) (s : Streams) (o : Option Chunk) → o ≡ None → AddsLast m b s s (option_to_list o) b
last_none m b s o e = rw e (record { done = []; adds = Adds-none m s; refused_is = or_false b })
