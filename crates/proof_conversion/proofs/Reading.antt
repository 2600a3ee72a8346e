-- One line more, as the code keeps it.
use Rattle.std.proofs.Common.{◌≡◌, ◌≢◌, ℕ, suc, ◌+◌, true, List, [], ◌∷◌, ◌++◌, length, map, refl, sym, ap, ap₂, ◌∙◌, arith, append_assoc, append-nil, Some, None, inl, inr, Result, Ok, Err}
use Rattle.std.proofs.lemmas.List.{length-append, map-append}
use Rattle.std.proofs.lemmas.List.Concat.{flat_map-append}
use Rattle.std.specs.List.{flat_map, AllByRecursion}
use Rattle.std.specs.Prelude.{OnOk}
use Rattle.cnf_base.proofs.Lists.{each_append}
use Rattle.smt_text.specs.Framing.{Held}
use Rattle.proof_text.specs.Held.{without_feed, IsNext}
use Rattle.proof_text.specs.Lines.{line_text, IsLine}
use Rattle.proof_text.specs.declared.line.Line.{Line}
use Rattle.proof_conversion.specs.declared.fault.Fault.{Fault}
use Rattle.proof_conversion.specs.declared.fault.Rule.TheVariants as rule
use Rattle.proof_conversion.specs.declared.kind.Kind.{Kind}
use Rattle.proof_conversion.specs.declared.kind.Owed.{Owed}
use Rattle.proof_conversion.specs.declared.kind.Owed.TheVariants as owed
use Rattle.proof_conversion.specs.declared.scanning.Scan.{Scan}
use Rattle.proof_conversion.specs.Parts.{kind_of, owed_behind}
use Rattle.proof_conversion.specs.Needs.{Known, nothing_known, Knows, known_with, needs, mark_all, part_in, step_in}
use Rattle.proof_conversion.specs.Needs as needed
use Rattle.proof_conversion.specs.Scans.{IsScan, text_of, part_with, whole_with, open_with}
use Rattle.proof_conversion.specs.Conversions.{BeginsWithNone, IsFirstBad, IsRead}
use Rattle.proof_conversion.proofs.Firsts.{next_is, none_next, none_unfinished}
use Rattle.proof_conversion.proofs.Knowing.{knows_more}

part_behind : (o : Owed) (part : ℕ) (parts : List (List Line)) (ls : List Line) → part ≡ suc (length parts) → part_with o part ≡ suc (length (needed.whole_with o parts ls))
part_behind owed.Nothing part parts ls e = let a = length-append parts (ls ∷ []) in omega arith
part_behind owed.Steps part parts ls e = e
part_behind (owed.Values n) part parts ls e = e
part_behind (owed.Notes n) part parts ls e = e

text_push : (ls : List Line) (l : Line) → text_of (ls ++ l ∷ []) ≡ text_of ls ++ line_text l
text_push ls l = flat_map-append line_text ls (l ∷ []) ∙ ap (λ (x : List ℕ). text_of ls ++ x) (append-nil (line_text l))

texts_behind : (o : Owed) (parts : List (List Line)) (ls : List Line) → whole_with o (map text_of parts) (text_of ls) ≡ map text_of (needed.whole_with o parts ls)
texts_behind owed.Nothing parts ls = sym (map-append text_of parts (ls ∷ []))
texts_behind owed.Steps parts ls = refl
texts_behind (owed.Values n) parts ls = refl
texts_behind (owed.Notes n) parts ls = refl

open_behind : (o : Owed) (ls : List Line) → open_with o (text_of ls) ≡ text_of (needed.open_with o ls)
open_behind owed.Nothing ls = refl
open_behind owed.Steps ls = refl
open_behind (owed.Values n) ls = refl
open_behind (owed.Notes n) ls = refl

pub scan_with : (s n : Scan) (l : Line) (o : Owed)
    → n.owed ≡ o → n.part ≡ part_with o s.part
    → n.steps.items ≡ s.steps.items ++ step_in (kind_of l) l
    → n.last.items ≡ mark_all s.part (needs s.steps.items l) s.last.items ++ map (λ (x : Line). s.part) (step_in (kind_of l) l)
    → n.texts.items ≡ whole_with o s.texts.items (s.opened ++ line_text l)
    → n.opened ≡ open_with o (s.opened ++ line_text l)
    → (k : Known) → IsScan s k → IsScan n (known_with k l o)
scan_with s n l o owes part steps last texts opened k is =
    let line : s.opened ++ line_text l ≡ text_of (k.opened ++ l ∷ []) = ap (λ (x : List ℕ). x ++ line_text l) is.opened ∙ sym (text_push k.opened l) in
    let marks : mark_all s.part (needs s.steps.items l) s.last.items ≡ mark_all (part_in k) (needs k.steps l) k.last =
    ap (λ (p : ℕ). mark_all p (needs s.steps.items l) s.last.items) is.part ∙ ap (λ (x : List Line). mark_all (part_in k) (needs x l) s.last.items) is.steps ∙ ap (λ (x : List ℕ). mark_all (part_in k) (needs k.steps l) x) is.last in
    record {
      owed = owes;
      part = part ∙ part_behind o s.part k.parts (k.opened ++ l ∷ []) is.part;
      steps = steps ∙ ap (λ (x : List Line). x ++ step_in (kind_of l) l) is.steps;
      last = last ∙ ap₂ (λ (x y : List ℕ). x ++ y) marks (ap (λ (p : ℕ). map (λ (x : Line). p) (step_in (kind_of l) l)) is.part);
      texts = texts ∙ ap₂ (λ (x : List (List ℕ)) (y : List ℕ). whole_with o x y) is.texts line ∙ texts_behind o k.parts (k.opened ++ l ∷ []);
      opened = opened ∙ ap (λ (x : List ℕ). open_with o x) line ∙ open_behind o (k.opened ++ l ∷ []);
    }

-- the same of what the code does: the notes, the step, the bytes, and what is owed then
pub scan_taken : {E : Type 0} (r : Result (Unit {0}) E) (s a n : Scan) (marked text bytes : List ℕ) (l : Line) (kind : Kind) (o : Owed)
    → kind ≡ kind_of l → bytes ≡ line_text l → marked ≡ mark_all s.part (needs s.steps.items l) s.last.items
    → a.part ≡ s.part → a.texts.items ≡ s.texts.items → a.opened ≡ s.opened
    → a.steps.items ≡ s.steps.items ++ step_in kind l → a.last.items ≡ marked ++ map (λ (x : Line). s.part) (step_in kind l)
    → text ≡ a.opened ++ bytes → n.steps.items ≡ a.steps.items → n.last.items ≡ a.last.items
    → OnOk r (n.owed ≡ o) → OnOk r (n.part ≡ part_with o a.part) → OnOk r (n.texts.items ≡ whole_with o a.texts.items text) → OnOk r (n.opened ≡ open_with o text)
    → OnOk r ((k : Known) → IsScan s k → IsScan n (known_with k l o))
scan_taken (Err e) s a n marked text bytes l kind o ek eb em p t op st la eo ns nl ow pa te oe = tt
scan_taken (Ok u) s a n marked text bytes l kind o ek eb em p t op st la eo ns nl ow pa te oe =
    let steps : step_in kind l ≡ step_in (kind_of l) l = ap (λ (x : Kind). step_in x l) ek in
    let line : text ≡ s.opened ++ line_text l = eo ∙ ap₂ (λ (x y : List ℕ). x ++ y) op eb in
    scan_with s n l o ow (pa ∙ ap (λ (x : ℕ). part_with o x) p)
    (ns ∙ st ∙ ap (λ (x : List Line). s.steps.items ++ x) steps)
    (nl ∙ la ∙ ap₂ (λ (x : List ℕ) (y : List Line). x ++ map (λ (z : Line). s.part) y) em steps)
    (te ∙ ap₂ (λ (x : List (List ℕ)) (y : List ℕ). whole_with o x y) t line)
    (oe ∙ ap (λ (x : List ℕ). open_with o x) line)

-- ---- the lines of a text

-- these lines were read of the text, and this is left of it
pub record Progress (text : List ℕ) (h : Held) (s : Scan) (number : ℕ) (rest : List ℕ) : Type 0 where
  pub lines : List Line
  pub known : Known
  pub text_is : text ≡ flat_map line_text lines ++ h.bytes
  pub each : AllByRecursion IsLine lines
  pub knows : Knows nothing_known lines known
  pub scan : IsScan s known
  pub number_is : number ≡ length lines + 2
  pub line_is : h.line ≡ number
  pub rest_is : rest ≡ h.bytes

pub no_progress : (text : List ℕ) (h : Held) (s : Scan) → h ≡ record { line = 2; bytes = text } → IsScan s nothing_known → Progress text h s 2 text
no_progress text h s e is = record {
  lines = [];
  known = nothing_known;
  text_is = sym (ap (λ (x : Held). x.bytes) e);
  each = tt;
  knows = refl;
  scan = is;
  number_is = refl;
  line_is = ap (λ (x : Held). x.line) e;
  rest_is = sym (ap (λ (x : Held). x.bytes) e);
}

pub more_progress : (text t rest more : List ℕ) (h g : Held) (s n : Scan) (number next : ℕ) (l : Line) (o : Owed) → Progress text h s number rest → IsNext h t g → IsLine l × (t ++ 10 ∷ [] ≡ line_text l)
    → owed_behind s.owed (kind_of l) ≡ Some o → ((k : Known) → IsScan s k → IsScan n (known_with k l o)) → next ≡ number + 1 → more ≡ g.bytes → Progress text g n next more
more_progress text t rest more h g s n number next l o p is a behind step e f = record {
  lines = p.lines ++ l ∷ [];
  known = known_with p.known l o;
  text_is =
      p.text_is ∙ ap (λ (x : List ℕ). flat_map line_text p.lines ++ x) (next_is h g t l is a.1)
      ∙ sym (append_assoc (flat_map line_text p.lines) (line_text l) g.bytes) ∙ ap (λ (x : List ℕ). x ++ g.bytes) (sym (text_push p.lines l));
  each = each_append IsLine p.lines (l ∷ []) p.each (a.0, tt);
  knows = knows_more nothing_known p.lines p.known l o p.knows (ap (λ (x : Owed). owed_behind x (kind_of l)) (sym p.scan.owed) ∙ behind);
  scan = step p.known p.scan;
  number_is = let c = length-append p.lines (l ∷ []) in let d = p.number_is in omega arith;
  line_is = let c = p.line_is in let d = is.line in omega arith;
  rest_is = f;
}

-- ---- the first bad line

abbrev bad_at : ℕ → Fault
bad_at n = record { line = n; rule = rule.Line }

bad_line : (text rest : List ℕ) (h : Held) (s : Scan) (number : ℕ) (f : Fault) (p : Progress text h s number rest) → f ≡ record { line = number; rule = rule.Line } → (BeginsWithNone h.bytes → IsFirstBad text f)
bad_line text rest h s number f p e b = record {
  lines = p.lines;
  rest = h.bytes;
  known = p.known;
  text_is = p.text_is;
  each = p.each;
  knows = p.knows;
  line = ap (λ (x : Fault). x.line) e ∙ p.number_is;
  broken = inl (ap (λ (x : Fault). x.rule) e, inl b);
}

-- a line that none prints so
pub bad_next : (text rest t : List ℕ) (h g : Held) (s : Scan) (number m : ℕ) (f : Fault) → Progress text h s number rest → IsNext h t g → (m ≡ h.line) × ((l : Line) → IsLine l → t ++ 10 ∷ [] ≡ line_text l → ⊥) → f ≡ record { line = m; rule = rule.Line } → IsFirstBad text f
bad_next text rest t h g s number m f p is a e =
    bad_line text rest h s number f p (e ∙ ap bad_at (a.0 ∙ p.line_is)) (none_next h g t is a.1)

-- a last line without its line feed
pub bad_end : (text rest : List ℕ) (h : Held) (s : Scan) (number m : ℕ) (f : Fault) → Progress text h s number rest → without_feed h.bytes ≡ true → (m ≡ h.line) × (h.bytes ≢ []) → f ≡ record { line = m; rule = rule.Line } → IsFirstBad text f
bad_end text rest h s number m f p free a e =
    bad_line text rest h s number f p (e ∙ ap bad_at (a.0 ∙ p.line_is)) (none_unfinished h.bytes free a.1)

-- a line that may not stand there
pub bad_place : (text rest t : List ℕ) (h g : Held) (s : Scan) (number : ℕ) (l : Line) (f : Fault) → Progress text h s number rest → IsNext h t g → IsLine l × (t ++ 10 ∷ [] ≡ line_text l) → owed_behind s.owed (kind_of l) ≡ None → f ≡ record { line = number; rule = rule.Line } → IsFirstBad text f
bad_place text rest t h g s number l f p is a none e = record {
  lines = p.lines;
  rest = h.bytes;
  known = p.known;
  text_is = p.text_is;
  each = p.each;
  knows = p.knows;
  line = ap (λ (x : Fault). x.line) e ∙ p.number_is;
  broken = inl (
    ap (λ (x : Fault). x.rule) e,
    inr (record {
      next = l;
      more = g.bytes;
      readable = a.0;
      begins = next_is h g t l is a.1;
      misplaced = ap (λ (x : Owed). owed_behind x (kind_of l)) (sym p.scan.owed) ∙ none;
    }),
  );
}

-- the text ends before a record does
pub bad_owed : (text rest : List ℕ) (h : Held) (s : Scan) (number : ℕ) (f : Fault) → Progress text h s number rest → h.bytes ≡ [] → s.owed ≢ owed.Nothing → f ≡ record { line = number; rule = rule.End } → IsFirstBad text f
bad_owed text rest h s number f p none what e = record {
  lines = p.lines;
  rest = h.bytes;
  known = p.known;
  text_is = p.text_is;
  each = p.each;
  knows = p.knows;
  line = ap (λ (x : Fault). x.line) e ∙ p.number_is;
  broken = inr (ap (λ (x : Fault). x.rule) e, none, λ z. what (p.scan.owed ∙ z));
}

pub all_read : (text rest : List ℕ) (h : Held) (s : Scan) (number : ℕ) → Progress text h s number rest → h.bytes ≡ [] → s.owed ≡ owed.Nothing → (lines : List Line) × (known : Known) × IsRead text lines known × IsScan s known
all_read text rest h s number p none e = (
  p.lines,
  p.known,
  record {
    text_is = p.text_is ∙ ap (λ (x : List ℕ). flat_map line_text p.lines ++ x) none ∙ append-nil (flat_map line_text p.lines);
    each = p.each;
    knows = p.knows;
    whole = sym p.scan.owed ∙ e;
  },
  p.scan,
)
