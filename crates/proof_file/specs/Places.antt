-- Where the steps of a log stand in a proof file, which has fewer of them.
use Rattle.std.specs.Prelude.{ℕ, suc, ◌==◌, if◌then◌else◌, List, [], ◌∷◌, ◌++◌, map, option_map, option_to_list}
use Rattle.cnf_base.specs.declared.clause.ClauseId.{ClauseId}
use Rattle.proof_log.specs.declared.entry.Entry.{Entry}
use Rattle.proof_log.specs.declared.entry.Entry.TheVariants as step
use Rattle.proof_log.specs.declared.diary.DiaryLine.{DiaryLine}
use Rattle.proof_log.specs.declared.diary.DiaryLine.TheVariants.{Take, Put, Drop}
use Rattle.proof_log.specs.Logs.{entry_at}
use Rattle.proof_text.specs.Deletions.{is_deleted}

-- How many steps a file has, those that were deleted too, and at which place of the file a position of the log stands now. Position 0
-- stands at place 0, and so does each position that stands nowhere.
pub record FileValue : Type 0 where
  pub count : ℕ
  pub places : ℕ → ℕ

-- before the first step
abbrev pub no_file : FileValue
no_file = record { count = 0; places = λ p. 0 }

-- one more place, at which this position stands
abbrev pub with_place : (ℕ → ℕ) → ℕ → ℕ → ℕ → ℕ
with_place places p q x = if x == p then q else places x

-- the file after the step of this position
abbrev pub with_step : FileValue → ℕ → FileValue
with_step f p = record { count = suc f.count; places = with_place f.places p (suc f.count) }

-- the file after the steps of these positions
abbrev pub with_steps_of : FileValue → List ℕ → FileValue
with_steps_of f [] = f
with_steps_of f (p ∷ ps) = with_steps_of (with_step f p) ps

-- the file once these places are deleted
abbrev pub without_places : FileValue → List ℕ → FileValue
without_places f qs = record { count = f.count; places = λ p. if is_deleted qs (f.places p) then 0 else f.places p }

-- ---- what is written by places

abbrev pub placed_hint : (ℕ → ℕ) → ClauseId → ClauseId
placed_hint places h = record { pos = places h.pos; part = h.part }

-- the step, whose hints are told by their places
abbrev pub placed : (ℕ → ℕ) → Entry → Entry
placed places (step.Chain c hints) = step.Chain c (map (placed_hint places) hints)
placed places e = e

abbrev pub placed_line : (ℕ → ℕ) → DiaryLine → DiaryLine
placed_line places (Take p) = Take (places p)
placed_line places (Put p) = Put (places p)
placed_line places (Drop p) = Drop (places p)

-- the steps of these positions of the log, each of which names the places at which those before it stand
abbrev pub placed_steps : List Entry → FileValue → List ℕ → List Entry
placed_steps log f [] = []
placed_steps log f (p ∷ ps) = option_to_list (option_map (placed f.places) (entry_at log p)) ++ placed_steps log (with_step f p) ps
