-- What is known behind the lines of one part of an accepted proof.
use Rattle.std.proofs.Common.{◌≡◌, ℕ, zero, suc, ◌≤◌, ◌<◌, Bool, true, false, List, [], ◌∷◌, ◌++◌, length, map, get_or, Option, Some, None, refl, sym, ap, ap₂, subst, ◌∙◌, arith, inr, ⊎_elim, append_assoc, append-nil}
use Rattle.std.specs.Prelude.{◌⊎◌, ◌||◌, slice_index_or, Contains, IsSome, option_to_list}
use Rattle.std.specs.List.{flat_map, list_any, AllByRecursion}
use Rattle.cnf_base.specs.declared.clause.ClauseId.{ClauseId}
use Rattle.proof_log.specs.declared.entry.Entry.{Entry}
use Rattle.proof_log.specs.declared.entry.Entry.TheVariants as entry
use Rattle.proof_log.specs.Logs.{entry_at}
use Rattle.theory_terms.specs.declared.lemma.Lemma.{Lemma}
use Rattle.theory_terms.specs.declared.lemma.Lemma.TheVariants as lemma
use Rattle.proof_text.specs.declared.line.Line.{Line}
use Rattle.proof_text.specs.declared.line.Line.TheVariants as line
use Rattle.proof_text.specs.Deletions.{cites, is_deletable, is_deleted}
use Rattle.proof_text.specs.Entries.{entry_line, lemma_line, written_hint, written_literal}
use Rattle.proof_conversion.specs.declared.kind.Kind.{Kind}
use Rattle.proof_conversion.specs.declared.kind.Kind.TheVariants as kind
use Rattle.proof_conversion.specs.declared.kind.Owed.{Owed}
use Rattle.proof_conversion.specs.declared.kind.Owed.TheVariants as owed
use Rattle.proof_conversion.specs.Parts.{kind_of, begun_by, owed_behind, owed_in}
use Rattle.proof_conversion.specs.Needs.{Known, Knows, known_with, needs, part_in, places_of, step_at, step_in, is_added, whole_with, open_with}
use Rattle.proof_conversion.proofs.Knowing.{lengths_with}
use Rattle.proof_text.specs.declared.line.Format.TheVariants.{One, Two}
use Rattle.script_state.specs.States.{StateValue}
use Rattle.accepted_proof.specs.Turns.{Item, Step, Delete, AreKept, AreStepsOf, item_lines, steps_in, with_step}
use Rattle.std.proofs.lemmas.List.{length-append, map-append}
use Rattle.converted_proofs.proofs.Noted.{AtMost, Stays, needs_noted, most_with}
use Rattle.converted_proofs.proofs.Places.{ArePast, not_past}
use Rattle.accepted_proof.proofs.Once.{term_line}

-- ---- the line of a step

pub some_back : {A : Type 0} (a b : A) → Some a ≡ Some b → a ≡ b
some_back a b e = cc

lemma_kind : (a : Lemma) → kind_of (lemma_line a) ≡ kind.Added
lemma_kind (lemma.Congruence t u) = refl
lemma_kind (lemma.Witness t) = refl
lemma_kind (lemma.Arrays a b) = refl

abbrev pub kind_as : Bool → Kind
kind_as true = kind.Added
kind_as false = kind.Step

-- lemmas and chains are added, and each other step is one
pub step_kind : (e : Entry) (l : Line) → entry_line e ≡ Some l → kind_of l ≡ kind_as (is_deletable (Some e))
step_kind (entry.Node n) l h = ap kind_of (term_line _ n.args l h).written
step_kind (entry.Leaf t) l h = ap kind_of (sym (some_back (line.Leaf t) l h))
step_kind (entry.Encode t) l h = ap kind_of (sym (some_back (line.Encode t) l h))
step_kind (entry.Selector a t) l h = ap kind_of (sym (some_back (line.Selector a) l h))
step_kind (entry.Chain c hints) l h = ap kind_of (sym (some_back (line.Chain (map written_literal c) (map written_hint hints)) l h))
step_kind (entry.Rewrite r) l h = ap kind_of (sym (some_back (line.Rewrite r.rule r.from r.to) l h))
step_kind (entry.Equal t u) l h = ap kind_of (sym (some_back (line.Equal t u) l h))
step_kind (entry.Lemma a) l h = ap kind_of (sym (some_back (lemma_line a) l h)) ∙ lemma_kind a

step_alone : (b : Bool) (l : Line) → step_in (kind_as b) l ≡ l ∷ []
step_alone true l = refl
step_alone false l = refl

pub step_owed : (b : Bool) → begun_by (kind_as b) ≡ Some owed.Steps
step_owed true = refl
step_owed false = refl

-- ---- the log and the lines of its steps

-- What is known fits the log: the lines are those of its steps, each is noted, and none for a later part.
pub record IsAt (log : List Entry) (k : Known) : Type 0 where
  pub lines : map entry_line log ≡ map Some k.steps
  pub same : length k.steps ≡ length k.last
  pub most : AtMost (part_in k) k.last

cons_parts : (a b : Option Line) (xs ys : List (Option Line)) → a ∷ xs ≡ b ∷ ys → (a ≡ b) × (xs ≡ ys)
cons_parts a b xs ys e = (let p : a ≡ b = cc in p, let q : xs ≡ ys = cc in q)

pub record HasLine (lines : List Line) (q : ℕ) (e : Entry) : Type 0 where
  pub at : Line
  pub stands : step_at lines q ≡ Some at
  pub line_is : entry_line e ≡ Some at

-- the line of a step of the log
pub line_at : (log : List Entry) (lines : List Line) → map entry_line log ≡ map Some lines → (q : ℕ) (e : Entry) → entry_at log q ≡ Some e → HasLine lines q e
line_at log lines h zero e k = let z : ⊥ = cc in absurd z
line_at [] lines h (suc q) e k = let z : ⊥ = cc in absurd z
line_at (x ∷ log) [] h (suc q) e k = let z : ⊥ = cc in absurd z
line_at (x ∷ log) (l ∷ lines) h (suc zero) e k =
    let p = cons_parts (entry_line x) (Some l) (map entry_line log) (map Some lines) h in
    record { at = l; stands = refl; line_is = ap entry_line (sym (some_back x e k)) ∙ p.0 }
line_at (x ∷ log) (l ∷ lines) h (suc (suc q)) e k =
    let p = cons_parts (entry_line x) (Some l) (map entry_line log) (map Some lines) h in
    let r = line_at log lines p.1 (suc q) e k in
    record { at = r.at; stands = r.stands; line_is = r.line_is }

added_back : (b : Bool) → is_added (kind_as b) ≡ true → b ≡ true
added_back true e = refl
added_back false e = let z : ⊥ = cc in absurd z

-- where the line of a lemma or a chain stands, the log has one
pub added_at : (log : List Entry) (lines : List Line) (d : Line) → map entry_line log ≡ map Some lines → (i : ℕ) → i < length lines → is_added (kind_of (get_or lines i d)) ≡ true → is_deletable (entry_at log (suc i)) ≡ true
added_at log [] d h i lt k = absurd (omega (arith, lt))
added_at [] (l ∷ lines) d h i lt k = let z : ⊥ = cc in absurd z
added_at (x ∷ log) (l ∷ lines) d h zero lt k =
    let p = cons_parts (entry_line x) (Some l) (map entry_line log) (map Some lines) h in
    added_back (is_deletable (Some x)) (ap is_added (sym (step_kind x l p.0)) ∙ k)
added_at (x ∷ log) (l ∷ lines) d h (suc i) lt k =
    let p = cons_parts (entry_line x) (Some l) (map entry_line log) (map Some lines) h in
    added_at log lines d p.1 i (let z : i < length lines = omega (arith, lt) in z) k

-- ---- hints

hints_not : (last : List ℕ) (n m m' : ℕ) (ps : List ℕ) (hints : List ClauseId) → m ≤ m' → ArePast last n m ps → AllByRecursion (Stays last n m') (places_of (map written_hint hints)) → list_any (λ (h : ClauseId). is_deleted ps h.pos) hints ≡ false
hints_not last n m m' ps [] le a h = refl
hints_not last n m m' ps (x ∷ xs) le a h =
    ap₂ (λ (b c : Bool). b || c) (not_past last n m m' ps x.pos le a h.0) (hints_not last n m m' ps xs le a h.1)

-- the place of a hint is not deleted
pub hint_not : (last : List ℕ) (n m m' : ℕ) (ps : List ℕ) (hints : List ClauseId) → m ≤ m' → ArePast last n m ps → AllByRecursion (Stays last n m') (places_of (map written_hint hints)) → (id : ClauseId) → Contains hints id → is_deleted ps id.pos ≡ false
hint_not last n m m' ps hints le a h id c = at hints h c.0 c.1 c.2
  where
    at : (xs : List ClauseId) → AllByRecursion (Stays last n m') (places_of (map written_hint xs)) → (k : ℕ) → k < length xs → slice_index_or xs k id ≡ id → is_deleted ps id.pos ≡ false
    at [] g k lt e = absurd (omega (arith, lt))
    at (x ∷ xs) g zero lt e = ap (λ (y : ClauseId). is_deleted ps y.pos) (sym e) ∙ not_past last n m m' ps x.pos le a g.0
    at (x ∷ xs) g (suc k) lt e = at xs g.1 k (let z : k < length xs = omega (arith, lt) in z) e

-- a step that is needed to the end of its part cites nothing that was deleted
cites_not : (last : List ℕ) (n m m' : ℕ) (ps : List ℕ) (steps : List Line) (e : Entry) (l : Line) → m ≤ m' → ArePast last n m ps → entry_line e ≡ Some l → AllByRecursion (Stays last n m') (needs steps l) → cites ps e ≡ false
cites_not last n m m' ps steps (entry.Chain c hints) l le a h k =
    let same : l ≡ line.Chain (map written_literal c) (map written_hint hints) = sym (some_back (line.Chain (map written_literal c) (map written_hint hints)) l h) in
    hints_not last n m m' ps hints le a (subst (λ (x : Line). AllByRecursion (Stays last n m') (needs steps x)) same k)
cites_not last n m m' ps steps (entry.Node x) l le a h k = refl
cites_not last n m m' ps steps (entry.Leaf t) l le a h k = refl
cites_not last n m m' ps steps (entry.Encode t) l le a h k = refl
cites_not last n m m' ps steps (entry.Rewrite r) l le a h k = refl
cites_not last n m m' ps steps (entry.Selector x t) l le a h k = refl
cites_not last n m m' ps steps (entry.Equal t u) l le a h k = refl
cites_not last n m m' ps steps (entry.Lemma x) l le a h k = refl

-- ---- one line

-- the lines of a part stand open, or the part is whole where nothing is owed
pub record Pending (parts : List (List Line)) (opened : List Line) (o : Owed) (k : Known) : Type 0 where
  pub owed_is : k.owed ≡ o
  pub parts_are : k.parts ≡ whole_with o parts opened
  pub opened_are : k.opened ≡ open_with o opened

abbrev pub IsOpen : Owed → Type 0
IsOpen o = (o ≡ owed.Nothing) ⊎ (o ≡ owed.Steps)

pub begun_open : (o p : Owed) (x : Kind) → IsOpen o → owed_behind o x ≡ Some p → begun_by x ≡ Some p
begun_open o p x h e = ⊎_elim (λ q. subst (λ (y : Owed). owed_behind y x ≡ Some p) q e) (λ q. subst (λ (y : Owed). owed_behind y x ≡ Some p) q e) h

pub longer_with : (k : Known) (l : Line) (o : Owed) → length k.steps ≡ length k.last → length k.last ≤ length (known_with k l o).last
longer_with k l o e =
    let a = lengths_with k l o e in
    let b = length-append k.steps (step_in (kind_of l) l) in
    omega (arith, a, b, e)

-- a step of the log is known
at_step : (log : List Entry) (e : Entry) (l : Line) (k : Known) (o : Owed) → IsAt log k → entry_line e ≡ Some l → IsAt (log ++ e ∷ []) (known_with k l o)
at_step log e l k o a h = record {
  lines =
      map-append entry_line log (e ∷ [])
      ∙ ap₂ (λ (xs ys : List (Option Line)). xs ++ ys) a.lines (ap (λ (x : Option Line). x ∷ []) h)
      ∙ sym (map-append Some k.steps (l ∷ []))
      ∙ ap (λ (xs : List Line). map Some (k.steps ++ xs)) (sym (ap (λ (x : Kind). step_in x l) (step_kind e l h) ∙ step_alone (is_deletable (Some e)) l));
  same = lengths_with k l o a.same;
  most = most_with k l o a.most;
}

pub same_steps : (k : Known) (l : Line) (o : Owed) → step_in (kind_of l) l ≡ [] → (known_with k l o).steps ≡ k.steps
same_steps k l o e = ap (λ (xs : List Line). k.steps ++ xs) e ∙ append-nil k.steps

-- a line that is none of a step leaves the log
pub at_other : (log : List Entry) (l : Line) (k : Known) (o : Owed) → IsAt log k → step_in (kind_of l) l ≡ [] → IsAt log (known_with k l o)
at_other log l k o a e = record {
  lines = a.lines ∙ ap (λ (xs : List Line). map Some xs) (sym (same_steps k l o e));
  same = lengths_with k l o a.same;
  most = most_with k l o a.most;
}

-- ---- steps

pub record StepsKnown (deleted : List ℕ) (log : List Entry) (items : List Item) (k : Known) (more : List Line) (end : Known) : Type 0 where
  pub next : Known
  pub knows : Knows next more end
  pub at : IsAt (log ++ steps_in items) next
  pub parts : next.parts ≡ k.parts
  pub opened : next.opened ≡ k.opened ++ flat_map item_lines items
  pub begun : IsOpen next.owed
  pub kept : AreKept Two deleted log items
  pub longer : length k.last ≤ length next.last

-- the rest of the steps
abbrev Again : List ℕ → ℕ → Known → List Line → List Item → List Entry → Type 0
Again deleted m end more items log = (k : Known) → Knows k (flat_map item_lines items ++ more) end → IsAt log k → IsOpen k.owed → ArePast end.last (part_in k) m deleted → m ≤ length k.last → StepsKnown deleted log items k more end

pub steps_known : (first deleted : List ℕ) (m : ℕ) (end : Known) (more : List Line) (items : List Item) (s : StateValue) (log : List Entry) (k : Known)
    → AreStepsOf s log (steps_in items) → AreKept One first log items → Knows k (flat_map item_lines items ++ more) end → IsAt log k → IsOpen k.owed → ArePast end.last (part_in k) m deleted → m ≤ length k.last → StepsKnown deleted log items k more end
steps_known first deleted m end more [] s log k v kept w a begun past le = record {
  next = k;
  knows = w;
  at = subst (λ (x : List Entry). IsAt x k) (sym (append-nil log)) a;
  parts = refl;
  opened = sym (append-nil k.opened);
  begun = begun;
  kept = tt;
  longer = omega arith;
}
steps_known first deleted m end more (Delete places ∷ items) s log k v kept w a begun past le = let e = kept.0 in let z : ⊥ = cc in absurd z
steps_known first deleted m end more (Step e ∷ items) s log k v kept w a begun past le = with_line (λ k' w' a' b' p' l'. steps_known first deleted m end more items (with_step s e) (log ++ e ∷ []) k' v.3 kept.1 w' a' b' p' l') (entry_line e) refl v.2
  where
    with_line : Again deleted m end more items (log ++ e ∷ []) → (o : Option Line) → entry_line e ≡ o → IsSome o → StepsKnown deleted log (Step e ∷ items) k more end
    with_line again None h i = let z : ⊥ = cc in absurd z
    with_line again (Some l) h i = record {
      next = rest.next;
      knows = rest.knows;
      at = subst (λ (x : List Entry). IsAt x rest.next) (append_assoc log (e ∷ []) (steps_in items)) rest.at;
      parts = rest.parts;
      opened = rest.opened ∙ append_assoc k.opened (l ∷ []) (flat_map item_lines items) ∙ ap (λ (x : Option Line). k.opened ++ (option_to_list x ++ flat_map item_lines items)) (sym h);
      begun = rest.begun;
      kept = (cites_not end.last (part_in k) m (length k.last) deleted k.steps e l le past h named, rest.kept);
      longer = (let x = rest.longer in let y = longer_with k l owed.Steps a.same in omega (arith, x, y));
    }
      where
        here : Knows k (l ∷ (flat_map item_lines items ++ more)) end
        here = subst (λ (x : Option Line). Knows k ((option_to_list x ++ flat_map item_lines items) ++ more) end) h w

        named : AllByRecursion (Stays end.last (part_in k) (length k.last)) (needs k.steps l)
        named = needs_noted k l (flat_map item_lines items ++ more) end here a.most

        owed_is : here.0 ≡ owed.Steps
        owed_is = some_back here.0 owed.Steps (sym (begun_open k.owed here.0 (kind_of l) begun here.1) ∙ ap begun_by (step_kind e l h) ∙ step_owed (is_deletable (Some e)))

        rest : StepsKnown deleted (log ++ e ∷ []) items (known_with k l owed.Steps) more end
        rest =
            again (known_with k l owed.Steps) (subst (λ (x : Owed). Knows (known_with k l x) (flat_map item_lines items ++ more) end) owed_is here.2)
            (at_step log e l k owed.Steps a h) (inr refl) past (let y = longer_with k l owed.Steps a.same in omega (arith, le, y))

-- ---- lines that a record counts

pub record CountedKnown (log : List Entry) (parts : List (List Line)) (opened ls : List Line) (k : Known) (more : List Line) (end : Known) : Type 0 where
  pub next : Known
  pub knows : Knows next more end
  pub at : IsAt log next
  pub pending : Pending parts (opened ++ ls) owed.Nothing next
  pub stays : AllByRecursion (λ (l : Line). AllByRecursion (Stays end.last (suc (length parts)) (length k.last)) (needs k.steps l)) ls
  pub longer : length k.last ≤ length next.last

-- what is owed behind a line of a kind, of which so many are left
pub record IsCount (one : Kind) (owing : ℕ → Owed) : Type 0 where
  pub alone : (l : Line) → step_in one l ≡ []
  pub less : (left : ℕ) → owed_behind (owing left) one ≡ Some (owed_in owing left)
  pub whole : (left : ℕ) (parts : List (List Line)) (part : List Line) → whole_with (owing left) parts part ≡ parts
  pub standing : (left : ℕ) (part : List Line) → open_with (owing left) part ≡ part

pub value_count : IsCount kind.OneValue owed.Values
value_count = record { alone = λ l. refl; less = λ left. refl; whole = λ left parts part. refl; standing = λ left part. refl }

pub note_count : IsCount kind.OneNote owed.Notes
note_count = record { alone = λ l. refl; less = λ left. refl; whole = λ left parts part. refl; standing = λ left part. refl }

pub counted_known : (one : Kind) (owing : ℕ → Owed) → IsCount one owing → (log : List Entry) (parts : List (List Line)) (end : Known) (more ls opened : List Line) (k : Known)
    → AllByRecursion (λ (l : Line). kind_of l ≡ one) ls → Pending parts opened (owed_in owing (length ls)) k → IsAt log k → Knows k (ls ++ more) end → CountedKnown log parts opened ls k more end
counted_known one owing c log parts end more [] opened k h p a w = record {
  next = k;
  knows = w;
  at = a;
  pending = subst (λ (x : List Line). Pending parts x owed.Nothing k) (sym (append-nil opened)) p;
  stays = tt;
  longer = omega arith;
}
counted_known one owing c log parts end more (l ∷ ls) opened k h p a w = finish (λ k' p' a' w'. counted_known one owing c log parts end more ls (opened ++ l ∷ []) k' h.1 p' a' w')
  where
    finish : ((k' : Known) → Pending parts (opened ++ l ∷ []) (owed_in owing (length ls)) k' → IsAt log k' → Knows k' (ls ++ more) end → CountedKnown log parts (opened ++ l ∷ []) ls k' more end) → CountedKnown log parts opened (l ∷ ls) k more end
    finish again = record {
      next = rest.next;
      knows = rest.knows;
      at = rest.at;
      pending = subst (λ (x : List Line). Pending parts x owed.Nothing rest.next) (append_assoc opened (l ∷ []) ls) rest.pending;
      stays = (
        subst (λ (n : ℕ). AllByRecursion (Stays end.last n (length k.last)) (needs k.steps l)) part_is (needs_noted k l (ls ++ more) end w a.most),
        subst (λ (x : ℕ). AllByRecursion (λ (y : Line). AllByRecursion (Stays end.last (suc (length parts)) x) (needs k.steps y)) ls) length_is
            (subst (λ (x : List Line). AllByRecursion (λ (y : Line). AllByRecursion (Stays end.last (suc (length parts)) (length (known_with k l (owed_in owing (length ls))).last)) (needs x y)) ls) steps_are rest.stays),
      );
      longer = (let x = rest.longer in let y = length_is in omega (arith, x, y));
    }
      where
        none : step_in (kind_of l) l ≡ []
        none = ap (λ (x : Kind). step_in x l) h.0 ∙ c.alone l

        same_parts : k.parts ≡ parts
        same_parts = p.parts_are ∙ c.whole (length ls) parts opened

        same_opened : k.opened ≡ opened
        same_opened = p.opened_are ∙ c.standing (length ls) opened

        part_is : part_in k ≡ suc (length parts)
        part_is = ap (λ (x : List (List Line)). suc (length x)) same_parts

        owed_is : w.0 ≡ owed_in owing (length ls)
        owed_is = some_back w.0 (owed_in owing (length ls)) (sym w.1 ∙ ap₂ owed_behind p.owed_is h.0 ∙ c.less (length ls))

        steps_are : (known_with k l (owed_in owing (length ls))).steps ≡ k.steps
        steps_are = same_steps k l (owed_in owing (length ls)) none

        length_is : length (known_with k l (owed_in owing (length ls))).last ≡ length k.last
        length_is = sym (lengths_with k l (owed_in owing (length ls)) a.same) ∙ ap (λ (x : List Line). length x) steps_are ∙ a.same

        rest : CountedKnown log parts (opened ++ l ∷ []) ls (known_with k l (owed_in owing (length ls))) more end
        rest =
            again (known_with k l (owed_in owing (length ls)))
            (record {
              owed_is = refl;
              parts_are = ap₂ (λ (x : List (List Line)) (y : List Line). whole_with (owed_in owing (length ls)) x (y ++ l ∷ [])) same_parts same_opened;
              opened_are = ap (λ (y : List Line). open_with (owed_in owing (length ls)) (y ++ l ∷ [])) same_opened;
            })
            (at_other log l k (owed_in owing (length ls)) a none) (subst (λ (x : Owed). Knows (known_with k l x) (ls ++ more) end) owed_is w.2)
