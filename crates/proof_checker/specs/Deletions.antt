-- Logs that differ where chains are forgotten that are deleted, and what is judged over them.
use Rattle.std.specs.Prelude.{◌≡◌, ◌⊎◌, ℕ, suc, Bool, true, false, List, [], ◌∷◌, Option, Some, None}
use Rattle.std.specs.List.{AllByRecursion}
use Rattle.proof_log.specs.declared.entry.Entry.{Entry}
use Rattle.proof_log.specs.declared.entry.Entry.TheVariants as step
use Rattle.proof_log.specs.Diaries.{is_chain}
use Rattle.proof_log.specs.Logs.{entry_at}
use Rattle.proof_text.specs.Deletions.{is_deleted}
use Rattle.faded_log.specs.Faded.{blank}
use Rattle.accepted_proof.specs.Judged as judged
use Rattle.accepted_proof.specs.Judged.{Owed, Judging}
use Rattle.proof_checker.specs.Checkers.{AreLeft, CheckerValue, and_shown}

-- ---- what is forgotten

-- a lemma, or a chain that is forgotten
abbrev pub IsForgotten : Option Entry → Type 0
IsForgotten (Some (step.Chain c hints)) = step.Chain c hints ≡ blank
IsForgotten (Some (step.Lemma l)) = Unit {0}
IsForgotten _ = ⊥

-- only lemmas and chains are deleted, and each of these chains is forgotten
abbrev pub AreChainsForgotten : List ℕ → List Entry → Type 0
AreChainsForgotten deleted log = (p : ℕ) → is_deleted deleted p ≡ true → IsForgotten (entry_at log p)

-- ---- what is judged alike

-- the same step, or two chains, where the position is deleted
abbrev pub IsAlike : Bool → Entry → Entry → Type 0
IsAlike gone e f = (e ≡ f) ⊎ ((gone ≡ true) × (is_chain (Some e) ≡ true) × (is_chain (Some f) ≡ true))

-- as many steps, which are the same but for chains at deleted positions, where the first has this position
abbrev pub AreAlike : (ℕ → Bool) → ℕ → List Entry → List Entry → Type 0
AreAlike gone p [] [] = Unit {0}
AreAlike gone p [] (f ∷ fs) = ⊥
AreAlike gone p (e ∷ es) [] = ⊥
AreAlike gone p (e ∷ es) (f ∷ fs) = IsAlike (gone p) e f × AreAlike gone (suc p) es fs

-- where lines of a diary are owed, none of those so far names a deleted place
abbrev pub NamesNoDeleted : List ℕ → Owed → Type 0
NamesNoDeleted deleted (judged.Noted cube start left lines) = AreLeft deleted lines
NamesNoDeleted deleted _ = Unit {0}

-- All is the same but for the logs, which are equally long and differ only at deleted places where both have a chain.
pub record IsLikened (j k : Judging) : Type 0 where
  pub format : k.format ≡ j.format
  pub limits : k.limits ≡ j.limits
  pub state : k.state ≡ j.state
  pub log : AreAlike (is_deleted j.deleted) 1 j.log k.log
  pub deleted : k.deleted ≡ j.deleted
  pub owed : k.owed ≡ j.owed
  pub line : k.line ≡ j.line
  pub left : NamesNoDeleted j.deleted j.owed

-- It is judged as may be, or as is likened to it, and a record that ends the check adds its verdict.
pub record GoesToLike (To : Judging → Type 0) (old new : CheckerValue) : Type 0 where
  pub to : Judging
  pub judged : To to
  pub like : (to ≡ new.judging) ⊎ IsLikened to new.judging
  pub verdicts : new.verdicts ≡ and_shown old.verdicts new.judging.owed new.judging.state.standing
