-- What the pool's history means.
use Rattle.std.specs.Prelude.{◌≡◌, ℕ, ◌+◌, ◌<◌, ltb, min, List, [], ◌∷◌, Some, None, cond, length, replicate}
use Rattle.shared_history.specs.Events.{of_pass}
use Rattle.history_client.specs.declared.law.Call.{Call}
use Rattle.history_client.specs.declared.law.Call.TheVariants.{Note, Claim, Finish}
use Rattle.history_client.specs.declared.law.Reply.{Reply}
use Rattle.history_client.specs.declared.law.Reply.TheVariants.{Noted, Job, Finished}
use Rattle.history_client.specs.declared.law.Event.{Event}
use Rattle.history_client.specs.declared.law.Tally.{Tally}

abbrev pub by_of : Event → ℕ
by_of e = e.pass

abbrev pub event : ℕ → Call → Event
event n c = record { pass = n; call = c }

abbrev pub note : Call → ℕ
note (Note t) = 1
note Claim = 0
note Finish = 0

abbrev pub claim : Call → ℕ
claim (Note t) = 0
claim Claim = 1
claim Finish = 0

abbrev pub finish : Call → ℕ
finish (Note t) = 0
finish Claim = 0
finish Finish = 1

-- how many events are such calls
abbrev pub count : (Call → ℕ) → List Event → ℕ
count is [] = 0
count is (e ∷ es) = is e.call + count is es

-- a pass notes topics that there are, and finishes no more than it claimed
abbrev pub permitted : List ℕ → List Event → ℕ → Call → Type 0
permitted topics h n (Note t) = t < length topics
permitted topics h n Claim = Unit {0}
permitted topics h n Finish = count finish (of_pass by_of n h) < count claim (of_pass by_of n h)

abbrev pub reply : ℕ → List Event → Call → Reply
reply jobs h (Note t) = Noted (count note h)
reply jobs h Claim = Job (cond (ltb (count claim h) jobs) (Some (count claim h)) None)
reply jobs h Finish = Finished

abbrev pub IsTally : ℕ → Tally → List Event → Type 0
IsTally jobs s h = (s.notes ≡ count note h) × (s.claimed ≡ min (count claim h) jobs)

-- the events of a pass that notes a topic so often
abbrev pub notes : ℕ → ℕ → ℕ → List Event
notes n topic times = replicate times (event n (Note topic))
