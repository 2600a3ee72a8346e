-- Sources and sinks in memory: which bytes a call gives or takes, and which calls fail.
use Rattle.std.specs.Prelude.{ℕ, zero, suc, ◌+◌, ◌-◌, ◌^◌, Bool, not, ◌&&◌, if◌then◌else◌, ◌==◌, min, List, ◌++◌, take, drop}
use Rattle.std.specs.List.{list_any}

-- the bytes still to come, at most how many a call gives, and the calls that fail, by their numbers from 0 on
pub record Input : Type 0 where
  pub left : List ℕ
  pub piece : ℕ
  pub failing : List ℕ
  pub calls : ℕ

-- the bytes so far, at most how many a call takes, the calls that fail, and how often memory was wanting
pub record Output : Type 0 where
  pub written : List ℕ
  pub piece : ℕ
  pub failing : List ℕ
  pub calls : ℕ
  pub refused : ℕ

-- where a count ends
abbrev pub last_count : ℕ
last_count = 2 ^ 64 - 1

abbrev pub one_more : ℕ → ℕ
one_more count = min (count + 1) last_count

-- the call of this number is listed
abbrev pub is_listed : List ℕ → ℕ → Bool
is_listed failing call = list_any (λ k. k == call) failing

-- the call fails: it is listed, and the count has not ended
abbrev pub fails : List ℕ → ℕ → Bool
fails failing call = not (call == last_count) && is_listed failing call

-- how many of the calls below this number are listed
unfoldable pub listed_below : List ℕ → ℕ → ℕ
listed_below failing zero = 0
listed_below failing (suc call) = listed_below failing call + (if is_listed failing call then 1 else 0)

abbrev pub input_faults : Input → ℕ
input_faults s = listed_below s.failing s.calls

-- want of memory is a fault of its own
abbrev pub output_faults : Output → ℕ
output_faults s = listed_below s.failing s.calls + s.refused

-- after a call that gave n bytes
abbrev pub after_read : Input → ℕ → Input
after_read s n = record s { left = drop n s.left; calls = one_more s.calls }

-- after a call that took n bytes of a piece
abbrev pub after_write : Output → ℕ → List ℕ → Output
after_write s n bytes = record s { written = s.written ++ take n bytes; calls = one_more s.calls }

-- after a call that wanted memory
abbrev pub after_refusal : Output → Output
after_refusal s = record s { calls = one_more s.calls; refused = one_more s.refused }
