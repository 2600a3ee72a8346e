-- Which positions the lines of a proof need, and the last part that needs each.
use Rattle.std.specs.Prelude.{◌≡◌, ℕ, zero, suc, ◌==◌, ◌&&◌, Bool, true, false, if◌then◌else◌, List, [], ◌∷◌, ◌++◌, map, length, slice_get, set, Option, Some, None}
use Rattle.proof_text.specs.declared.line.Line.{Line}
use Rattle.proof_text.specs.declared.line.Line.TheVariants as line
use Rattle.proof_text.specs.declared.list.WrittenHint.{WrittenHint}
use Rattle.proof_conversion.specs.declared.kind.Kind.{Kind}
use Rattle.proof_conversion.specs.declared.kind.Kind.TheVariants.{Step, Added}
use Rattle.proof_conversion.specs.declared.kind.Owed.{Owed}
use Rattle.proof_conversion.specs.declared.kind.Owed.TheVariants as owed
use Rattle.proof_conversion.specs.Parts.{kind_of, owed_behind}

-- ---- what a line needs

abbrev pub places_of : List WrittenHint → List ℕ
places_of hints = map (λ (h : WrittenHint). h.pos) hints

-- the line of the step at a position: position 0 is no step
abbrev pub step_at : List Line → ℕ → Option Line
step_at steps zero = None
step_at steps (suc p) = slice_get steps p

-- the places that a chain cites
abbrev pub cited_by : Option Line → List ℕ
cited_by (Some (line.Chain clause hints)) = places_of hints
cited_by _ = []

-- The places that a line behind these steps needs: a chain those of its hints, a record those that it names, and a put also those
-- that the chain cites which is put.
abbrev pub needs : List Line → Line → List ℕ
needs steps (line.Chain clause hints) = places_of hints
needs steps (line.Unsat p) = p ∷ []
needs steps (line.Take p) = p ∷ []
needs steps (line.Put p) = p ∷ cited_by (step_at steps p)
needs steps (line.Drop p) = p ∷ []
needs steps _ = []

-- ---- the last part that needs a place

-- this part needs the place; where no step stands there yet, nothing is noted
abbrev pub mark : ℕ → ℕ → List ℕ → List ℕ
mark part zero last = last
mark part (suc p) last = set last p part

abbrev pub mark_all : ℕ → List ℕ → List ℕ → List ℕ
mark_all part [] last = last
mark_all part (p ∷ ps) last = mark_all part ps (mark part p last)

-- What is known of lines that were read: those of the parts that are whole, and of the part that stands open; what is owed; the
-- lines of all steps; and of each of these the last part that needs it, or its own. Parts are counted from 1.
pub record Known : Type 0 where
  pub parts : List (List Line)
  pub opened : List Line
  pub owed : Owed
  pub steps : List Line
  pub last : List ℕ

abbrev pub nothing_known : Known
nothing_known = record { parts = []; opened = []; owed = owed.Nothing; steps = []; last = [] }

-- the part on whose lines the next one is
abbrev pub part_in : Known → ℕ
part_in k = suc (length k.parts)

-- a line of a step, as a list
abbrev pub step_in : Kind → Line → List Line
step_in Step l = l ∷ []
step_in Added l = l ∷ []
step_in _ l = []

-- the part ends where nothing is owed
abbrev pub whole_with : Owed → List (List Line) → List Line → List (List Line)
whole_with owed.Nothing parts part = parts ++ part ∷ []
whole_with _ parts part = parts

abbrev pub open_with : Owed → List Line → List Line
open_with owed.Nothing part = []
open_with _ part = part

-- the same behind one line more, where this is owed then
abbrev pub known_with : Known → Line → Owed → Known
known_with k l o = record {
  parts = whole_with o k.parts (k.opened ++ l ∷ []);
  opened = open_with o (k.opened ++ l ∷ []);
  owed = o;
  steps = k.steps ++ step_in (kind_of l) l;
  last = mark_all (part_in k) (needs k.steps l) k.last ++ map (λ s. part_in k) (step_in (kind_of l) l);
}

-- each of the lines may stand behind those before it, and this is known behind them
abbrev pub Knows : Known → List Line → Known → Type 0
Knows k [] end = k ≡ end
Knows k (l ∷ ls) end = (o : Owed) × (owed_behind k.owed (kind_of l) ≡ Some o) × Knows (known_with k l o) ls end

-- ---- deletions

-- lemmas and chains alone can be deleted
abbrev pub is_added : Kind → Bool
is_added Added = true
is_added _ = false

-- the places of the lemmas and chains that no part behind this one needs and that none before deletes, rising: the first of the
-- steps stands at this place
abbrev pub due : ℕ → ℕ → List Line → List ℕ → List ℕ
due part p [] last = []
due part p (l ∷ ls) [] = []
due part p (l ∷ ls) (k ∷ ks) = (if is_added (kind_of l) && (k == part) then (p ∷ []) else []) ++ due part (suc p) ls ks

abbrev pub due_in : Known → ℕ → List ℕ
due_in k row = due row 1 k.steps k.last

-- one line deletes all of them; none stands there for none
abbrev pub deletion : List ℕ → List Line
deletion [] = []
deletion (p ∷ ps) = line.Delete (p ∷ ps) ∷ []

-- the lines of parts, in front of which so many are: each behind the deletion of what the part before it was the last to need
abbrev pub with_deletions : (ℕ → List ℕ) → ℕ → List (List Line) → List Line
with_deletions due part [] = []
with_deletions due part (ls ∷ parts) = (deletion (due part) ++ ls) ++ with_deletions due (suc part) parts
