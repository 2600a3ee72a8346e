-- Each call keeps the tally.
use Rattle.std.proofs.Common.{◌≡◌, ℕ, ◌+◌, ◌<◌, min, List, [], ◌∷◌, ◌++◌, Some, None, refl, sym, ap, ◌∙◌, subst, arith}
use Rattle.std.proofs.lemmas.Bool.Decides.{nat_tests}
use Rattle.history_client.specs.declared.law.Call.{Call}
use Rattle.history_client.specs.declared.law.Call.TheVariants.{Note, Claim, Finish}
use Rattle.history_client.specs.declared.law.Reply.{Reply}
use Rattle.history_client.specs.declared.law.Reply.TheVariants.{Noted, Job, Finished}
use Rattle.history_client.specs.declared.law.Event.{Event}
use Rattle.history_client.specs.Pools.{event, count, note, claim, reply}

count_last : (is : Call → ℕ) (h : List Event) (e : Event) → count is (h ++ e ∷ []) ≡ count is h + is e.call
count_last is [] e = omega arith
count_last is (d ∷ h) e = let t = count_last is h e in omega arith

abbrev Told : ℕ → ℕ → Call → Call → Reply → ℕ → ℕ → List Event → Type 0
Told jobs n c d r noted claimed h = (event n d ≡ event n c) × (r ≡ reply jobs h c) × ((noted ≡ count note (h ++ event n d ∷ [])) × (claimed ≡ min (count claim (h ++ event n d ∷ [])) jobs))

pub notes_one : (jobs n t : ℕ) (c : Call) (noted claimed : ℕ) → c ≡ Note t → (h : List Event) → noted ≡ count note h → claimed ≡ min (count claim h) jobs → Told jobs n c c (Noted noted) (noted + 1) claimed h
notes_one jobs n t c noted claimed is h a b = subst (λ k. Told jobs n k k (Noted noted) (noted + 1) claimed h) (sym is) (
  refl,
  ap Noted a,
  (let l = count_last note h (event n (Note t)) in omega arith, b ∙ ap (λ k. min k jobs) (let l = count_last claim h (event n (Note t)) in omega arith)),
)

pub claims_one : (jobs n : ℕ) (c : Call) (noted claimed : ℕ) → c ≡ Claim → claimed < jobs → (h : List Event) → noted ≡ count note h → claimed ≡ min (count claim h) jobs → Told jobs n c c (Job (Some claimed)) noted (claimed + 1) h
claims_one jobs n c noted claimed is room h a b = subst (λ k. Told jobs n k k (Job (Some claimed)) noted (claimed + 1) h) (sym is) (
  refl,
  (let t : count claim h < jobs = grind arith in let e : claimed ≡ count claim h = grind arith in ap Job (grind (arith, nat_tests))),
  (let l = count_last note h (event n Claim) in omega arith, let l = count_last claim h (event n Claim) in grind arith),
)

pub claims_none : (jobs n : ℕ) (c : Call) (noted claimed : ℕ) → c ≡ Claim → ¬ (claimed < jobs) → (h : List Event) → noted ≡ count note h → claimed ≡ min (count claim h) jobs → Told jobs n c c (Job None) noted claimed h
claims_none jobs n c noted claimed is room h a b = subst (λ k. Told jobs n k k (Job None) noted claimed h) (sym is) (
  refl,
  (let t : ¬ (count claim h < jobs) = grind arith in ap Job (grind (arith, nat_tests))),
  (let l = count_last note h (event n Claim) in omega arith, let l = count_last claim h (event n Claim) in grind arith),
)

pub finishes_one : (jobs n : ℕ) (c : Call) (noted claimed : ℕ) → c ≡ Finish → (h : List Event) → noted ≡ count note h → claimed ≡ min (count claim h) jobs → Told jobs n c c Finished noted claimed h
finishes_one jobs n c noted claimed is h a b = subst (λ k. Told jobs n k k Finished noted claimed h) (sym is) (
  refl,
  refl,
  (let l = count_last note h (event n Finish) in omega arith, b ∙ ap (λ k. min k jobs) (let l = count_last claim h (event n Finish) in omega arith)),
)
