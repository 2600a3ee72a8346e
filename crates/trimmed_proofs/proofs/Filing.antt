-- One step more of the file or of the log, and places that are deleted.
use Rattle.std.proofs.Common.{◌≡◌, ℕ, suc, ◌<◌, ◌≤◌, ◌==◌, Bool, true, false, List, [], ◌∷◌, ◌++◌, length, Option, Some, refl, sym, ap, subst, ◌∙◌, arith, inl, inr, ⊎_elim, length-append}
use Rattle.std.specs.Prelude.{◌⊎◌, if◌then◌else◌, slice_get}
use Rattle.std.proofs.lemmas.Bool.{cases_lt, eqb-true, eqb-false, eq-eqb, ne_eqb, or_parts, or_from}
use Rattle.std.proofs.lemmas.List.Folds.{list_any-append}
use Rattle.cnf_base.proofs.Lists.{slice_get-push}
use Rattle.smt_terms.specs.declared.node.Node.{Node}
use Rattle.proof_log.specs.declared.entry.Entry.{Entry}
use Rattle.proof_log.specs.Logs.{LogState, entry_at, state_of}
use Rattle.proof_log.specs.Diaries.{is_chain}
use Rattle.proof_log.proofs.Growth.{row_of, entry_left}
use Rattle.proof_text.specs.Deletions.{is_deletable, is_deleted}
use Rattle.proof_file.specs.Places.{FileValue, with_step, without_places}
use Rattle.trimmed_proofs.proofs.States.{row_at, row_left}

-- the position stands in the file: position 0 always does
abbrev pub HasPlace : (ℕ → ℕ) → ℕ → Type 0
HasPlace places p = (p ≡ 0) ⊎ (0 < places p)

-- the file has at these places what the log, over these terms, has at the positions, where these places were deleted
pub record IsPlacing (nodes : List Node) (log file : List Entry) (deleted : List ℕ) (f : FileValue) : Type 0 where
  pub count : f.count ≡ length file
  pub zero_is : f.places 0 ≡ 0
  pub within : (p : ℕ) → f.places p ≤ length file
  pub known : (p : ℕ) → 0 < f.places p → p ≤ length log
  pub once : (p q : ℕ) → 0 < f.places p → f.places p ≡ f.places q → p ≡ q
  pub rows : (p : ℕ) → HasPlace f.places p → slice_get (state_of nodes file).clauses (f.places p) ≡ slice_get (state_of nodes log).clauses p
  pub chains : (p : ℕ) → HasPlace f.places p → is_chain (entry_at file (f.places p)) ≡ is_chain (entry_at log p)
  pub kinds : (p : ℕ) → HasPlace f.places p → is_deletable (entry_at file (f.places p)) ≡ is_deletable (entry_at log p)
  pub left : (p : ℕ) → is_deleted deleted (f.places p) ≡ false
  pub every : (q : ℕ) → q ≤ length file → is_deleted deleted q ≡ false → (p : ℕ) × (f.places p ≡ q) × HasPlace f.places p × (p ≤ length log)
  pub gone : (q : ℕ) → length file < q → is_deleted deleted q ≡ false

pub in_log : (nodes : List Node) (log file : List Entry) (deleted : List ℕ) (f : FileValue) → IsPlacing nodes log file deleted f → (p : ℕ) → HasPlace f.places p → p ≤ length log
in_log nodes log file deleted f h p has = ⊎_elim (λ e. let z : p ≤ length log = omega (arith, e) in z) (λ some. h.known p some) has

-- ---- other terms, and a longer log

pub over_others : (nodes others : List Node) (log file : List Entry) (deleted : List ℕ) (f : FileValue) → state_of others log ≡ state_of nodes log → state_of others file ≡ state_of nodes file → IsPlacing nodes log file deleted f → IsPlacing others log file deleted f
over_others nodes others log file deleted f l m h = record {
  count = h.count;
  zero_is = h.zero_is;
  within = h.within;
  known = h.known;
  once = h.once;
  rows = λ p has. ap (λ (s : LogState). slice_get s.clauses (f.places p)) m ∙ h.rows p has ∙ sym (ap (λ (s : LogState). slice_get s.clauses p) l);
  chains = h.chains;
  kinds = h.kinds;
  left = h.left;
  every = h.every;
  gone = h.gone;
}

pub longer_log : (nodes : List Node) (log file more : List Entry) (deleted : List ℕ) (f : FileValue) → IsPlacing nodes log file deleted f → IsPlacing nodes (log ++ more) file deleted f
longer_log nodes log file more deleted f h = record {
  count = h.count;
  zero_is = h.zero_is;
  within = h.within;
  known = λ p some. let k = h.known p some in longer p k;
  once = h.once;
  rows = λ p has. h.rows p has ∙ sym (row_left nodes log more p (old p has));
  chains = λ p has. h.chains p has ∙ sym (ap is_chain (entry_left log more p (old p has)));
  kinds = λ p has. h.kinds p has ∙ sym (ap is_deletable (entry_left log more p (old p has)));
  left = h.left;
  every = λ q le n. let x = h.every q le n in (x.0, x.1, x.2, longer x.0 x.3);
  gone = h.gone;
}
  where
    old : (p : ℕ) → HasPlace f.places p → p ≤ length log
    old = in_log nodes log file deleted f h

    longer : (p : ℕ) → p ≤ length log → p ≤ length (log ++ more)
    longer p le = let e = length-append log more in omega (arith, le, e)

-- ---- one step more of the file

-- the position may stand at the next place, as this step
pub record CanStand (nodes : List Node) (log file : List Entry) (f : FileValue) (p : ℕ) (e : Entry) : Type 0 where
  pub some : 0 < p
  pub among : p ≤ length log
  pub nowhere : f.places p ≡ 0
  pub row : slice_get (state_of nodes log).clauses p ≡ Some (row_of nodes (state_of nodes file) e)
  pub chain : is_chain (Some e) ≡ is_chain (entry_at log p)
  pub kind : is_deletable (Some e) ≡ is_deletable (entry_at log p)

pub place_here : (f : FileValue) (p : ℕ) → (with_step f p).places p ≡ suc f.count
place_here f p = ap (λ (b : Bool). if b then suc f.count else f.places p) (eq-eqb p p refl)

pub some_here : (f : FileValue) (p : ℕ) → 0 < (with_step f p).places p
some_here f p = subst (λ (y : ℕ). 0 < y) (sym (place_here f p)) (let z : 0 < suc f.count = omega arith in z)

pub place_elsewhere : (f : FileValue) (p x : ℕ) → (x ≡ p → ⊥) → (with_step f p).places x ≡ f.places x
place_elsewhere f p x ne = ap (λ (b : Bool). if b then suc f.count else f.places x) (ne_eqb x p ne)

pub place_cases : (f : FileValue) (p x : ℕ) (C : ℕ → Type 0) → (x ≡ p → C (suc f.count)) → ((x ≡ p → ⊥) → C (f.places x)) → C ((with_step f p).places x)
place_cases f p x C here other = go (x == p) refl
  where
    go : (b : Bool) → (x == p) ≡ b → C (if b then suc f.count else f.places x)
    go true e = here (eqb-true x p e)
    go false e = other (eqb-false x p e)

pub added : (nodes : List Node) (log file : List Entry) (deleted : List ℕ) (f : FileValue) (p : ℕ) (e : Entry) → IsPlacing nodes log file deleted f → CanStand nodes log file f p e → IsPlacing nodes log (file ++ e ∷ []) deleted (with_step f p)
added nodes log file deleted f p e h c = record {
  count = (let a = h.count in omega (arith, a, long));
  zero_is = place_elsewhere f p 0 (λ same. let a = c.some in absurd (omega (arith, a, same))) ∙ h.zero_is;
  within = λ x. place_cases f p x (λ y. y ≤ length (file ++ e ∷ [])) (λ same. let a = h.count in omega (arith, a, long)) (λ ne. let a = h.within x in omega (arith, a, long));
  known = λ x. place_cases f p x (λ y. 0 < y → x ≤ length log) (λ same some. let a = c.among in omega (arith, a, same)) (λ ne some. h.known x some);
  once = λ x z. place_cases f p x (λ y. 0 < y → y ≡ (with_step f p).places z → x ≡ z) (λ same some. first x same z) (λ ne some. second x z some);
  rows = λ x has.
      place_cases f p x (λ y. slice_get (state_of nodes (file ++ e ∷ [])).clauses y ≡ slice_get (state_of nodes log).clauses x)
      (λ same.
      ap (λ (n : ℕ). slice_get (state_of nodes (file ++ e ∷ [])).clauses (suc n)) h.count
      ∙ row_at nodes file e []
      ∙ sym c.row
      ∙ ap (λ (n : ℕ). slice_get (state_of nodes log).clauses n) (sym same))
      (λ ne. row_left nodes file (e ∷ []) (f.places x) (h.within x) ∙ h.rows x (before x ne has));
  chains = λ x has. kept_kind is_chain c.chain h.chains x has;
  kinds = λ x has. kept_kind is_deletable c.kind h.kinds x has;
  left = λ x. place_cases f p x (λ y. is_deleted deleted y ≡ false) (λ same. h.gone (suc f.count) (let a = h.count in omega (arith, a))) (λ ne. h.left x);
  every = λ q le n. ⊎_elim (λ more. at_last q le more) (λ old. at_old q old n) (cases_lt (length file) q);
  gone = λ q lt. h.gone q (omega (arith, lt, long));
}
  where
    long : length (file ++ e ∷ []) ≡ suc (length file)
    long = let a = length-append file (e ∷ []) in omega (arith, a)

    before : (x : ℕ) → (x ≡ p → ⊥) → HasPlace (with_step f p).places x → HasPlace f.places x
    before x ne has = ⊎_elim (λ z. inl z) (λ some. inr (subst (λ (y : ℕ). 0 < y) (place_elsewhere f p x ne) some)) has

    first : (x : ℕ) → x ≡ p → (z : ℕ) → suc f.count ≡ (with_step f p).places z → x ≡ z
    first x same z = place_cases f p z (λ y. suc f.count ≡ y → x ≡ z) (λ other e'. same ∙ sym other) (λ ne e'. let a = h.within z in let b = h.count in absurd (omega (arith, a, b, e')))

    second : (x z : ℕ) → 0 < f.places x → f.places x ≡ (with_step f p).places z → x ≡ z
    second x z some = place_cases f p z (λ y. f.places x ≡ y → x ≡ z) (λ other e'. let a = h.within x in let b = h.count in absurd (omega (arith, a, b, e'))) (λ ne e'. h.once x z some e')

    kept_kind : (kind : Option Entry → Bool) → kind (Some e) ≡ kind (entry_at log p) → ((x : ℕ) → HasPlace f.places x → kind (entry_at file (f.places x)) ≡ kind (entry_at log x)) → (x : ℕ) → HasPlace (with_step f p).places x → kind (entry_at (file ++ e ∷ []) ((with_step f p).places x)) ≡ kind (entry_at log x)
    kept_kind kind own old x has =
        place_cases f p x (λ y. kind (entry_at (file ++ e ∷ []) y) ≡ kind (entry_at log x))
        (λ same.
        ap (λ (n : ℕ). kind (slice_get (file ++ e ∷ []) n)) h.count
        ∙ ap kind (slice_get-push file e)
        ∙ own
        ∙ ap (λ (n : ℕ). kind (entry_at log n)) (sym same))
        (λ ne. ap kind (entry_left file (e ∷ []) (f.places x) (h.within x)) ∙ old x (before x ne has))

    at_last : (q : ℕ) → q ≤ length (file ++ e ∷ []) → length file < q → (x : ℕ) × ((with_step f p).places x ≡ q) × HasPlace (with_step f p).places x × (x ≤ length log)
    at_last q le more = (
      p,
      place_here f p ∙ (let b = h.count in let z : suc f.count ≡ q = omega (arith, b, le, more, long) in z),
      inr (some_here f p),
      c.among,
    )

    at_old : (q : ℕ) → q ≤ length file → is_deleted deleted q ≡ false → (x : ℕ) × ((with_step f p).places x ≡ q) × HasPlace (with_step f p).places x × (x ≤ length log)
    at_old q le n =
        let x = h.every q le n in
        let ne : x.0 ≡ p → ⊥ = λ same. other_than x.0 x.2 same in
        (x.0, place_elsewhere f p x.0 ne ∙ x.1, ⊎_elim (λ z. inl z) (λ some. inr (subst (λ (y : ℕ). 0 < y) (sym (place_elsewhere f p x.0 ne)) some)) x.2, x.3)
      where
        other_than : (x : ℕ) → HasPlace f.places x → x ≡ p → ⊥
        other_than x has same =
            ⊎_elim (λ z. let a = c.some in omega (arith, a, z, same)) (λ some. let a = subst (λ (y : ℕ). f.places y ≡ 0) (sym same) c.nowhere in omega (arith, a, some)) has

-- ---- places that are deleted

pub out_cases : (f : FileValue) (qs : List ℕ) (x : ℕ) (C : ℕ → Type 0) → (is_deleted qs (f.places x) ≡ true → C 0) → (is_deleted qs (f.places x) ≡ false → C (f.places x)) → C ((without_places f qs).places x)
out_cases f qs x C out stays = go (is_deleted qs (f.places x)) refl
  where
    go : (b : Bool) → is_deleted qs (f.places x) ≡ b → C (if b then 0 else f.places x)
    go true e = out e
    go false e = stays e

pub place_left : (f : FileValue) (qs : List ℕ) (x : ℕ) → is_deleted qs (f.places x) ≡ false → (without_places f qs).places x ≡ f.places x
place_left f qs x e = ap (λ (b : Bool). if b then 0 else f.places x) e

module _ (nodes : List Node) (log file : List Entry) (deleted qs : List ℕ) (f : FileValue) (h : IsPlacing nodes log file deleted f) (some : (q : ℕ) → is_deleted qs q ≡ true → (0 < q) × (q ≤ length file)) where
  zero_stays : is_deleted qs 0 ≡ false
  zero_stays = go (is_deleted qs 0) refl
    where
      go : (b : Bool) → is_deleted qs 0 ≡ b → b ≡ false
      go true e = let a = (some 0 e).0 in absurd (omega (arith, a))
      go false e = refl

  -- what still has a place had it, and it is none of these
  pub not_out : (x : ℕ) → HasPlace (without_places f qs).places x → is_deleted qs (f.places x) ≡ false
  not_out x has = go (is_deleted qs (f.places x)) refl
    where
      go : (b : Bool) → is_deleted qs (f.places x) ≡ b → b ≡ false
      go false e = refl
      go true e =
          ⊎_elim
          (λ z. let at_zero : f.places x ≡ 0 = ap f.places z ∙ h.zero_is in let q : true ≡ false = sym e ∙ ap (is_deleted qs) at_zero ∙ zero_stays in let w : ⊥ = cc in absurd w)
          (λ more. let a : 0 < 0 = subst (λ (b : Bool). 0 < (if b then 0 else f.places x)) e more in absurd (omega (arith, a))) has

  pub had_place : (x : ℕ) → HasPlace (without_places f qs).places x → HasPlace f.places x
  had_place x has = ⊎_elim (λ z. inl z) (λ more. inr (subst (λ (y : ℕ). 0 < y) (place_left f qs x (not_out x has)) more)) has

  had_more : (x : ℕ) → 0 < (without_places f qs).places x → 0 < f.places x
  had_more x more = subst (λ (y : ℕ). 0 < y) (place_left f qs x (not_out x (inr more))) more

  old_place : (x : ℕ) → HasPlace (without_places f qs).places x → (without_places f qs).places x ≡ f.places x
  old_place x has = place_left f qs x (not_out x has)

  both : (q : ℕ) → is_deleted deleted q ≡ false → is_deleted qs q ≡ false → is_deleted (deleted ++ qs) q ≡ false
  both q a b = list_any-append (λ (x : ℕ). x == q) deleted qs ∙ or_from (is_deleted deleted q) (is_deleted qs q) a b

  pub without : IsPlacing nodes log file (deleted ++ qs) (without_places f qs)
  without = record {
    count = h.count;
    zero_is = place_left f qs 0 (ap (is_deleted qs) h.zero_is ∙ zero_stays) ∙ h.zero_is;
    within = λ x. out_cases f qs x (λ y. y ≤ length file) (λ e. omega arith) (λ e. h.within x);
    known = λ x more. h.known x (had_more x more);
    once = λ x z more e.
        let a = old_place x (inr more) in
        let b : 0 < (without_places f qs).places z = subst (λ (y : ℕ). 0 < y) e more in
        h.once x z (had_more x more) (sym a ∙ e ∙ old_place z (inr b));
    rows = λ x has. ap (λ (y : ℕ). slice_get (state_of nodes file).clauses y) (old_place x has) ∙ h.rows x (had_place x has);
    chains = λ x has. ap (λ (y : ℕ). is_chain (entry_at file y)) (old_place x has) ∙ h.chains x (had_place x has);
    kinds = λ x has. ap (λ (y : ℕ). is_deletable (entry_at file y)) (old_place x has) ∙ h.kinds x (had_place x has);
    left = λ x. out_cases f qs x (λ y. is_deleted (deleted ++ qs) y ≡ false) (λ e. both 0 (sym (ap (is_deleted deleted) h.zero_is) ∙ h.left 0) zero_stays) (λ e. both (f.places x) (h.left x) e);
    every = λ q le n. left_place q le n;
    gone = λ q lt. both q (h.gone q lt) (past q lt);
  }
    where
      past : (q : ℕ) → length file < q → is_deleted qs q ≡ false
      past q lt = go (is_deleted qs q) refl
        where
          go : (b : Bool) → is_deleted qs q ≡ b → b ≡ false
          go true e = let a = (some q e).1 in absurd (omega (arith, a, lt))
          go false e = refl

      left_place : (q : ℕ) → q ≤ length file → is_deleted (deleted ++ qs) q ≡ false → (x : ℕ) × ((without_places f qs).places x ≡ q) × HasPlace (without_places f qs).places x × (x ≤ length log)
      left_place q le n =
          let parts = or_parts (is_deleted deleted q) (is_deleted qs q) (sym (list_any-append (λ (x : ℕ). x == q) deleted qs) ∙ n) in
          let x = h.every q le parts.0 in
          let same : (without_places f qs).places x.0 ≡ f.places x.0 = place_left f qs x.0 (ap (is_deleted qs) x.1 ∙ parts.1) in
          (x.0, same ∙ x.1, ⊎_elim (λ z. inl z) (λ more. inr (subst (λ (y : ℕ). 0 < y) (sym same) more)) x.2, x.3)
