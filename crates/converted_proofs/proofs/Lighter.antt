-- A diary that is spent is spent where less is held at its start, if nothing that it names or whose clause a put cites is gone.
use Rattle.std.proofs.Common.{◌≡◌, ℕ, suc, ◌-◌, ◌+◌, ◌==◌, ◌<◌, Bool, true, false, not, List, [], ◌∷◌, Some, refl, sym, ap, ap₂, subst, ◌∙◌}
use Rattle.std.specs.Prelude.{◌&&◌, ◌||◌, if◌then◌else◌, ltb, Contains}
use Rattle.std.specs.List.{AllByRecursion}
use Rattle.std.proofs.lemmas.Bool.{and_parts}
use Rattle.cnf_base.specs.Literals.{Literal}
use Rattle.cnf_base.specs.declared.clause.ClauseId.{ClauseId}
use Rattle.proof_log.specs.declared.entry.Entry.{Entry}
use Rattle.proof_log.specs.declared.entry.Entry.TheVariants as step
use Rattle.proof_log.specs.declared.diary.DiaryLine.{DiaryLine}
use Rattle.proof_log.specs.declared.diary.DiaryLine.TheVariants.{Take, Put, Drop}
use Rattle.proof_log.specs.Logs.{entry_at}
use Rattle.proof_log.specs.Diaries.{Subject, DiaryState, IsLine, AreLines, allowed, count_new, is_chain, line_after, lines_after}
use Rattle.proof_text.specs.Deletions.{IsSpentWithout, blank_without, is_deleted, place_of}

-- the line names none of these places, nor does the chain that it puts
abbrev pub NamesNone : List ℕ → List Entry → DiaryLine → Type 0
NamesNone deleted log (Take p) = is_deleted deleted p ≡ false
NamesNone deleted log (Put p) = (is_deleted deleted p ≡ false) × ((c : List Literal) (hints : List ClauseId) → entry_at log p ≡ Some (step.Chain c hints) → (id : ClauseId) → Contains hints id → is_deleted deleted id.pos ≡ false)
NamesNone deleted log (Drop p) = is_deleted deleted p ≡ false

-- both states are equal, but that the second holds none of these places
record IsLighter (deleted : List ℕ) (s t : DiaryState) : Type 0 where
  held : (p : ℕ) → t.held p ≡ true → s.held p ≡ true
  same : (p : ℕ) → is_deleted deleted p ≡ false → t.held p ≡ s.held p
  chains : s.chains ≡ t.chains
  puts : s.puts ≡ t.puts
  drops : s.drops ≡ t.drops

at_start : (deleted : List ℕ) (g : Subject) → IsLighter deleted (blank_without (is_deleted []) g) (blank_without (is_deleted deleted) g)
at_start deleted g = record {
  held = λ p e. (let both = and_parts (ltb p g.from) (not (is_deleted deleted p || is_chain (entry_at g.log p))) e in
      ap₂ (λ (a b : Bool). a && b) both.0 (no_chain (is_deleted deleted p) (is_chain (entry_at g.log p)) both.1));
  same = λ p e. ap (λ (b : Bool). ltb p g.from && not (b || is_chain (entry_at g.log p))) e;
  chains = refl;
  puts = refl;
  drops = refl;
}
  where
    no_chain : (d c : Bool) → not (d || c) ≡ true → not (false || c) ≡ true
    no_chain true c e = let z : ⊥ = cc in absurd z
    no_chain false c e = e

module _ (deleted : List ℕ) (g : Subject) where
  held_with : (s t : DiaryState) (p : ℕ) (b : Bool) → IsLighter deleted s t → (q : ℕ) → (if q == p then b else t.held q) ≡ true → (if q == p then b else s.held q) ≡ true
  held_with s t p b h q = go (q == p)
    where
      go : (c : Bool) → (if c then b else t.held q) ≡ true → (if c then b else s.held q) ≡ true
      go true e = e
      go false e = h.held q e

  same_with : (s t : DiaryState) (p : ℕ) (b : Bool) → IsLighter deleted s t → (q : ℕ) → is_deleted deleted q ≡ false → (if q == p then b else t.held q) ≡ (if q == p then b else s.held q)
  same_with s t p b h q n = go (q == p)
    where
      go : (c : Bool) → (if c then b else t.held q) ≡ (if c then b else s.held q)
      go true = refl
      go false = h.same q n

  stands : (s t : DiaryState) (l : DiaryLine) → IsLighter deleted s t → NamesNone deleted g.log l → IsLine g s l → IsLine g t l
  stands s t (Take p) h n k = k
  stands s t (Put p) h n k =
      let good = k.3 in (
        k.0,
        k.1,
        k.2,
        record {
          no_pair = good.no_pair;
          from_held = λ id m. h.same id.pos (n.1 k.0 k.1 k.2 id m) ∙ good.from_held id m;
          from_hints = good.from_hints;
          used = good.used;
          is_new = λ id c e. good.is_new id c (h.held id.pos e);
          not_given = good.not_given;
        },
      )
  stands s t (Drop p) h n k = (h.same p n ∙ k.0, k.1, subst (λ (d : ℕ). 0 < d) h.drops k.2)

  after : (s t : DiaryState) (l : DiaryLine) → IsLighter deleted s t → NamesNone deleted g.log l → IsLighter deleted (line_after g s l) (line_after g t l)
  after s t (Take p) h n = record {
    held = held_with s t p true h;
    same = same_with s t p true h;
    chains = ap₂ (λ (c : ℕ) (b : Bool). c + count_new (is_chain (entry_at g.log p)) b) h.chains (sym (h.same p n));
    puts = h.puts;
    drops = refl;
  }
  after s t (Put p) h n = record {
    held = held_with s t p true h;
    same = same_with s t p true h;
    chains = ap suc h.chains;
    puts = ap suc h.puts;
    drops = ap₂ (λ (a b : ℕ). allowed (suc a) (suc b)) h.puts h.chains;
  }
  after s t (Drop p) h n = record {
    held = held_with s t p false h;
    same = same_with s t p false h;
    chains = ap (λ (c : ℕ). c - 1) h.chains;
    puts = h.puts;
    drops = ap (λ (d : ℕ). d - 1) h.drops;
  }

  lines_lighter : (s t : DiaryState) (ls : List DiaryLine) → IsLighter deleted s t → AllByRecursion (NamesNone deleted g.log) ls → AreLines g s ls → AreLines g t ls × (lines_after g s ls).puts ≡ (lines_after g t ls).puts
  lines_lighter s t [] h n k = (tt, h.puts)
  lines_lighter s t (l ∷ ls) h n k =
      let rest = lines_lighter (line_after g s l) (line_after g t l) ls (after s t l h n.0) n.1 k.1 in
      ((stands s t l h n.0 k.0, rest.0), rest.1)

  none_named : (ls : List DiaryLine) → AllByRecursion (NamesNone deleted g.log) ls → AllByRecursion (λ l. is_deleted deleted (place_of l) ≡ false) ls
  none_named [] n = tt
  none_named (Take p ∷ ls) n = (n.0, none_named ls n.1)
  none_named (Put p ∷ ls) n = (n.0.0, none_named ls n.1)
  none_named (Drop p ∷ ls) n = (n.0, none_named ls n.1)

  pub spent_lighter : (budget : ℕ) (ls : List DiaryLine) → AllByRecursion (NamesNone deleted g.log) ls → IsSpentWithout [] g budget ls → IsSpentWithout deleted g budget ls
  spent_lighter budget ls n h =
      let k = lines_lighter (blank_without (is_deleted []) g) (blank_without (is_deleted deleted) g) ls (at_start deleted g) n h.spent.stand in
      record { spent = record { stand = k.0; puts = sym k.1 ∙ h.spent.puts; last = h.spent.last }; left = none_named ls n }
