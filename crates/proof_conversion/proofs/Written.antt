-- What was read, as it is written.
use Rattle.std.proofs.Common.{◌≡◌, ℕ, ◌-◌, ◌<◌, ◌≤◌, List, [], ◌++◌, length, drop, get_or, refl, sym, ap, ap₂, subst, ◌∙◌, arith}
use Rattle.std.proofs.lemmas.List.{length-map}
use Rattle.std.specs.List.{AllByRecursion}
use Rattle.smt_text.specs.Framing.{Held}
use Rattle.proof_text.specs.declared.line.Format.TheVariants.{One, Two}
use Rattle.proof_text.specs.declared.line.Line.{Line}
use Rattle.proof_text.specs.Lines.{IsLine}
use Rattle.proof_conversion.specs.declared.header.Numbers.{Numbers}
use Rattle.proof_conversion.specs.declared.scanning.Scan.{Scan}
use Rattle.proof_conversion.specs.Conversions.{IsConverted, IsRead}
use Rattle.proof_conversion.specs.Filing.{AreDue}
use Rattle.proof_conversion.specs.Headers.{AreWithin, header_of}
use Rattle.proof_conversion.specs.Needs.{Known, nothing_known, deletion, due, due_in}
use Rattle.proof_conversion.specs.Scans.{IsScan, text_of}
use Rattle.proof_conversion.specs.Writing.{IsWritten, texts_behind}
use Rattle.proof_conversion.proofs.Firsts.{split_behind}
use Rattle.proof_conversion.proofs.Behind.{behind_readable, text_behind}
use Rattle.proof_conversion.proofs.Knowing.{parts_readable, same_lengths}

pub scan_lengths : (s : Scan) (k : Known) → IsScan s k → length k.steps ≡ length k.last → length s.steps.items ≡ length s.last.items
scan_lengths s k is e = ap length is.steps ∙ e ∙ ap length (sym is.last)

text_count : (s : Scan) (k : Known) → IsScan s k → length s.texts.items ≡ length k.parts
text_count s k is = ap length is.texts ∙ length-map k.parts text_of

pub enough_lists : (s : Scan) (k : Known) (lists : List (List ℕ)) → IsScan s k → AreDue s.part s.steps.items s.last.items lists → length s.texts.items ≤ length lists
enough_lists s k lists is a = let c = a.count_is in let d = is.part in let e = text_count s k is in omega arith

module _ (n : Numbers) (s : Scan) (k : Known) (lists : List (List ℕ)) (is : IsScan s k) (a : AreDue s.part s.steps.items s.last.items lists) where
  same_due : (q : ℕ) → q < length k.parts → get_or lists q [] ≡ due_in k q
  same_due q lt =
      let below : q < s.part = (let d = is.part in omega arith) in
      a.each q below ∙ ap₂ (λ (x : List Line) (y : List ℕ). due q 1 x y) is.steps is.last

  pub is_written : (front out : List ℕ) (records : ℕ) → front ≡ header_of Two n → out ≡ front ++ texts_behind (λ part. get_or lists part []) 0 s.texts.items
      → ((part : ℕ) → part < length s.texts.items → AllByRecursion IsLine (deletion (get_or lists part []))) → records ≡ length s.texts.items → IsWritten n k out records
  is_written front out records e f readable count = record {
    out_is =
        f ∙ ap (λ (x : List ℕ). x ++ texts_behind (λ part. get_or lists part []) 0 s.texts.items) e
        ∙ ap (λ (x : List (List ℕ)). header_of Two n ++ texts_behind (λ part. get_or lists part []) 0 x) is.texts
        ∙ ap (λ (x : List ℕ). header_of Two n ++ x) (text_behind (due_in k) (λ part. get_or lists part []) 0 k.parts (λ q lt. same_due q (omega arith)));
    readable = λ part lt.
        subst (λ (x : List ℕ). AllByRecursion IsLine (deletion x)) (same_due part lt) (readable part (let c = text_count s k is in omega arith));
    count = count ∙ text_count s k is;
  }

-- the same of the slices that the code goes over
pub written_as : (n : Numbers) (s : Scan) (k : Known) (lists : List (List ℕ)) (steps : List Line) (last : List ℕ) (texts due : List (List ℕ)) (start front out : List ℕ) (records : ℕ)
    → IsScan s k → steps ≡ s.steps.items → last ≡ s.last.items → texts ≡ s.texts.items → due ≡ lists → start ≡ []
    → AreDue s.part steps last lists → front ≡ start ++ header_of Two n → out ≡ front ++ texts_behind (λ part. get_or due part []) 0 texts
    → ((part : ℕ) → part < length texts → AllByRecursion IsLine (deletion (get_or due part []))) → records ≡ length texts → IsWritten n k out records
written_as n s k lists steps last texts due start front out records is es el et ed eb a f g readable count =
    is_written n s k lists is
    (subst (λ (x : List Line). AreDue s.part x s.last.items lists) es (subst (λ (x : List ℕ). AreDue s.part steps x lists) el a))
    front out records (f ∙ ap (λ (x : List ℕ). x ++ header_of Two n) eb)
    (g ∙ ap₂ (λ (d t : List (List ℕ)). front ++ texts_behind (λ part. get_or d part []) 0 t) ed et)
    (λ part lt. subst (λ (d : List (List ℕ)). AllByRecursion IsLine (deletion (get_or d part []))) ed (readable part (subst (λ (t : List (List ℕ)). part < length t) (sym et) lt)))
    (count ∙ ap length et)

pub is_converted : (text rest out : List ℕ) (n : Numbers) (lines : List Line) (k : Known) (records : ℕ) → AreWithin n → text ≡ header_of One n ++ rest → IsRead rest lines k → IsWritten n k out records → IsConverted text out records
is_converted text rest out n lines k records within e read w = record {
  numbers = n;
  within = within;
  rest = rest;
  lines = lines;
  known = k;
  header = e;
  read = read;
  out_is = w.out_is;
  readable = behind_readable (due_in k) 0 k.parts (λ q lt. w.readable q (omega arith)) (parts_readable lines k read.knows read.each);
  count = w.count;
}

-- what stands behind the header
pub held_behind : (text fed rest bytes head : List ℕ) (held : ℕ) → fed ≡ text → fed ≡ head ++ bytes → rest ≡ drop (length text - held) text → held ≡ length bytes → rest ≡ bytes
held_behind text fed rest bytes head held f e d h = d ∙ split_behind text head bytes (length text - held) (sym f ∙ e) (ap (λ (x : ℕ). length text - x) h)

pub header_front : (text fed rest bytes head : List ℕ) (held : ℕ) → fed ≡ text → fed ≡ head ++ bytes → rest ≡ drop (length text - held) text → held ≡ length bytes → text ≡ head ++ rest
header_front text fed rest bytes head held f e d h = sym f ∙ e ∙ ap (λ (x : List ℕ). head ++ x) (sym (held_behind text fed rest bytes head held f e d h))

-- what a reader holds, of the second line on
pub held_is : (h : Held) (text : List ℕ) → h.line ≡ 2 → text ≡ h.bytes → h ≡ record { line = 2; bytes = text }
held_is h text e f = ap₂ (λ (n : ℕ) (x : List ℕ). record { line = n; bytes = x }) e (sym f)

pub read_lengths : (rest : List ℕ) (lines : List Line) (k : Known) → IsRead rest lines k → length k.steps ≡ length k.last
read_lengths rest lines k read = same_lengths nothing_known lines k read.knows refl
