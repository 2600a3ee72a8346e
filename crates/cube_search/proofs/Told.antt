-- The variables that are listed up to each opening position.
use Rattle.std.proofs.Common.{◌≡◌, ℕ, suc, ◌+◌, ◌<◌, ◌≤◌, List, [], ◌∷◌, ◌++◌, length, take, drop, get_or, Some, refl, sym, ap, ◌∙◌, subst, ⊎_elim, arith}
use Rattle.std.specs.Prelude.{◌⊎◌, Contains}
use Rattle.std.proofs.lemmas.Bool.{cases_lt}
use Rattle.std.proofs.lemmas.List.{length-append, take_more, length-take-le, take_all, take-take, take-append-le, take-append-drop, get_or-take, get_or_default, get_or_past, get_or_push, get_or_append_left}
use Rattle.std.proofs.lemmas.List.Elements.{Contains-append_left, Contains-push, Contains-push_cases}
use Rattle.cnf_base.specs.Literals.{Literal}
use Rattle.cnf_base.specs.declared.clause.ClauseId.{ClauseId}
use Rattle.cnf_base.proofs.Lists.{Contains-nil, Contains-first, Contains-one}
use Rattle.proof_log.specs.Logs.{clause_at}
use Rattle.cube_search.specs.Holding.{AreAmong, IsLonger, Occurs, listed_before, IsTold}

-- ---- lists

pub take_within : (n : ℕ) (xs : List ℕ) (x : ℕ) → Contains (take n xs) x → Contains xs x
take_within n xs x k = subst (λ (ys : List ℕ). Contains ys x) (take-append-drop n xs) (Contains-append_left (take n xs) (drop n xs) x k)

pub longer_has : (old new : List ℕ) (x : ℕ) → IsLonger old new → Contains old x → Contains new x
longer_has old new x h k = subst (λ (ys : List ℕ). Contains ys x) (sym h.1) (Contains-append_left old h.0 x k)

pub longer_same : (xs ys : List ℕ) → ys ≡ xs → IsLonger xs ys
longer_same xs ys e = ([], e ∙ sym (append_none xs))
  where
    append_none : (zs : List ℕ) → zs ++ [] ≡ zs
    append_none [] = refl
    append_none (z ∷ zs) = ap (λ (r : List ℕ). z ∷ r) (append_none zs)

pub longer_then : (xs ys zs : List ℕ) → IsLonger xs ys → IsLonger ys zs → IsLonger xs zs
longer_then xs ys zs h k = (h.0 ++ k.0, k.1 ∙ ap (λ (r : List ℕ). r ++ k.0) h.1 ∙ together xs)
  where
    together : (rs : List ℕ) → (rs ++ h.0) ++ k.0 ≡ rs ++ (h.0 ++ k.0)
    together [] = refl
    together (r ∷ rs) = ap (λ (ts : List ℕ). r ∷ ts) (together rs)

-- ---- positions that two lists begin with

pub shared_more : (xs ys : List ℕ) (k d e : ℕ) → k < length xs → k < length ys → get_or xs k d ≡ get_or ys k e → take k xs ≡ take k ys → take (k + 1) xs ≡ take (k + 1) ys
shared_more xs ys k d e lt lt' same h = take_more xs k d lt ∙ (λ i. h i ++ same i ∷ []) ∙ sym (take_more ys k e lt')

pub take_less : (xs : List ℕ) (i d x : ℕ) → i < length xs → Contains (take i xs) x → Contains (take (i + 1) xs) x
take_less xs i d x lt k = subst (λ (ys : List ℕ). Contains ys x) (sym (take_more xs i d lt)) (Contains-append_left (take i xs) (get_or xs i d ∷ []) x k)

pub take_has : (xs : List ℕ) (i d : ℕ) → i < length xs → Contains (take (i + 1) xs) (get_or xs i d)
take_has xs i d lt = subst (λ (ys : List ℕ). Contains ys (get_or xs i d)) (sym (take_more xs i d lt)) (Contains-push (take i xs) (get_or xs i d))

-- ---- where variables stand

pub occurs_more : (rows : List (List (List Literal))) (ps qs : List ℕ) (x : ℕ) → ((p : ℕ) → Contains ps p → Contains qs p) → Occurs rows ps x → Occurs rows qs x
occurs_more rows ps qs x more o = (o.0, o.1, o.2, more o.0.pos o.3, o.4, o.5, o.6)

pub occurs_here : (rows : List (List (List Literal))) (id : ClauseId) (c : List Literal) (l : Literal) (x : ℕ) → clause_at rows id ≡ Some c → Contains c l → l.variable ≡ x → Occurs rows (id.pos ∷ []) x
occurs_here rows id c l x at k e = (id, c, l, Contains-first id.pos [], at, k, e)

-- ---- all opening positions

module _ (rows : List (List (List Literal))) (xs opening ends : List ℕ) (h : IsTold rows xs opening ends) where
  all_listed : (k : ℕ) → length opening ≤ k → listed_before xs ends k ≡ length xs
  all_listed k le = get_or_past ends k (length xs) (omega (arith, le, h.size))

  pub listed_within : (k : ℕ) → listed_before xs ends k ≤ length xs
  listed_within k = omega (arith, h.rising k (k + length opening) (omega arith), all_listed (k + length opening) (omega arith))

  whole : take (listed_before xs ends (length opening)) xs ≡ xs
  whole = take_all (listed_before xs ends (length opening)) xs (omega (arith, all_listed (length opening) (omega arith)))

  pub told_among : (id : ClauseId) (c : List Literal) → Contains opening id.pos → clause_at rows id ≡ Some c → AreAmong xs c
  told_among id c k at l m = subst (λ (ys : List ℕ). Contains ys l.variable) whole
      (h.among (length opening) id c (subst (λ (ps : List ℕ). Contains ps id.pos) (sym (take_all (length opening) opening (omega arith))) k) at l m)

  pub told_occurs : (x : ℕ) → Contains xs x → Occurs rows opening x
  told_occurs x k = subst (λ (ps : List ℕ). Occurs rows ps x) (take_all (length opening) opening (omega arith))
      (h.occurs (length opening) x (subst (λ (ys : List ℕ). Contains ys x) (sym whole) k))

  -- the rows of these positions are the same, others may come
  pub told_agrees : (rows' : List (List (List Literal))) → ((id : ClauseId) (c : List Literal) → clause_at rows id ≡ Some c → clause_at rows' id ≡ Some c) → ((id : ClauseId) → Contains opening id.pos → clause_at rows' id ≡ clause_at rows id) → IsTold rows' xs opening ends
  told_agrees rows' more same = record {
    size = h.size;
    rising = h.rising;
    among = λ k id c m at. h.among k id c m (sym (same id (take_within k opening id.pos m)) ∙ at);
    occurs = λ k x m. let o = h.occurs k x m in (o.0, o.1, o.2, o.3, more o.0 o.1 o.4, o.5, o.6);
  }

  -- ---- the first positions alone
  module _ (s : ℕ) (le : s ≤ length opening) where
    abbrev front : List ℕ
    front = take (listed_before xs ends s) xs

    front_size : length front ≡ listed_before xs ends s
    front_size = length-take-le (listed_before xs ends s) xs (listed_within s)

    before_cut : (k : ℕ) → k < s → listed_before front (take s ends) k ≡ listed_before xs ends k
    before_cut k lt = get_or-take s ends k (length front) lt ∙ get_or_default ends k (length front) (length xs) (omega (arith, lt, le, h.size))

    after_cut : (k : ℕ) → s ≤ k → listed_before front (take s ends) k ≡ listed_before xs ends s
    after_cut k ge = get_or_past (take s ends) k (length front) (omega (arith, length-take-le s ends (omega (arith, le, h.size)), ge)) ∙ front_size

    -- what is listed before a place is what was listed before a place
    cut_at : (k : ℕ) → (m : ℕ) × (take (listed_before front (take s ends) k) front ≡ take (listed_before xs ends m) xs) × (take k (take s opening) ≡ take m opening)
    cut_at k = ⊎_elim
        (λ lt. (
          k,
          ap (λ n. take n front) (before_cut k lt) ∙ take-take (listed_before xs ends k) (listed_before xs ends s) xs (h.rising k s (omega (arith, lt))),
          take-take k s opening (omega (arith, lt)),
        ))
        (λ ge. (
          s,
          ap (λ n. take n front) (after_cut k ge) ∙ take-take (listed_before xs ends s) (listed_before xs ends s) xs (omega arith),
          take_all k (take s opening) (omega (arith, length-take-le s opening le, ge)),
        ))
        (cases_lt k s)

    pub told_cut : IsTold rows (take (listed_before xs ends s) xs) (take s opening) (take s ends)
    told_cut = record {
      size = length-take-le s ends (omega (arith, le, h.size)) ∙ sym (length-take-le s opening le);
      rising = λ j k up. ⊎_elim
          (λ lt. omega (arith, before_cut k lt, before_cut j (omega (arith, lt, up)), h.rising j k up))
          (λ ge. ⊎_elim
          (λ lt. omega (arith, after_cut k ge, before_cut j lt, h.rising j s (omega (arith, lt))))
          (λ ge'. omega (arith, after_cut k ge, after_cut j ge'))
          (cases_lt j s))
          (cases_lt k s);
      among = λ k id c m at l n.
          let b = cut_at k in
          subst (λ (ys : List ℕ). Contains ys l.variable) (sym b.1) (h.among b.0 id c (subst (λ (ps : List ℕ). Contains ps id.pos) b.2 m) at l n);
      occurs = λ k x m.
          let b = cut_at k in
          subst (λ (ps : List ℕ). Occurs rows ps x) (sym b.2) (h.occurs b.0 x (subst (λ (ys : List ℕ). Contains ys x) b.1 m));
    }

  -- ---- one position more
  module _ (ys : List ℕ) (p : ℕ) (longer : IsLonger xs ys) (only : (x : ℕ) → Contains ys x → Contains xs x ⊎ Occurs rows (p ∷ []) x) (own : (id : ClauseId) (c : List Literal) → id.pos ≡ p → clause_at rows id ≡ Some c → AreAmong ys c) where
    abbrev pushed : List ℕ
    pushed = ends ++ length xs ∷ []

    pushed_size : length pushed ≡ suc (length opening)
    pushed_size = omega (arith, length-append ends (length xs ∷ []), h.size)

    abbrev opened : List ℕ
    opened = opening ++ p ∷ []

    opened_size : length opened ≡ suc (length opening)
    opened_size = omega (arith, length-append opening (p ∷ []))

    before_more : (k : ℕ) → k ≤ length opening → listed_before ys pushed k ≡ listed_before xs ends k
    before_more k le = ⊎_elim
        (λ lt. get_or_append_left ends (length xs ∷ []) (length ys) k (omega (arith, lt, h.size)) ∙ get_or_default ends k (length ys) (length xs) (omega (arith, lt, h.size)))
        (λ ge. get_or_push ends (length xs) (length ys) k (omega (arith, ge, le, h.size)) ∙ sym (all_listed k ge))
        (cases_lt k (length opening))

    after_more : (k : ℕ) → length opening < k → listed_before ys pushed k ≡ length ys
    after_more k gt = get_or_past pushed k (length ys) (omega (arith, gt, pushed_size))

    longer_size : length xs ≤ length ys
    longer_size = omega (arith, ap length longer.1, length-append xs longer.0)

    same_front : (k : ℕ) → k ≤ length opening → take (listed_before ys pushed k) ys ≡ take (listed_before xs ends k) xs
    same_front k le =
        ap (λ n. take n ys) (before_more k le)
        ∙ ap (λ (zs : List ℕ). take (listed_before xs ends k) zs) longer.1
        ∙ take-append-le (listed_before xs ends k) xs longer.0 (listed_within k)

    same_opening : (k : ℕ) → k ≤ length opening → take k opened ≡ take k opening
    same_opening k le = take-append-le k opening (p ∷ []) le

    all_front : (k : ℕ) → length opening < k → take (listed_before ys pushed k) ys ≡ ys
    all_front k gt = take_all (listed_before ys pushed k) ys (omega (arith, after_more k gt))

    all_opening : (k : ℕ) → length opening < k → take k opened ≡ opened
    all_opening k gt = take_all k opened (omega (arith, gt, opened_size))

    opened_among : (id : ClauseId) (c : List Literal) → Contains opened id.pos → clause_at rows id ≡ Some c → AreAmong ys c
    opened_among id c m at = ⊎_elim
        (λ old. (λ l n. longer_has xs ys l.variable longer (told_among id c old at l n)))
        (λ e. own id c (sym e) at)
        (Contains-push_cases opening p id.pos m)

    opened_occurs : (x : ℕ) → Contains ys x → Occurs rows opened x
    opened_occurs x m = ⊎_elim
        (λ old. occurs_more rows opening opened x (λ q k. Contains-append_left opening (p ∷ []) q k) (told_occurs x old))
        (λ o. occurs_more rows (p ∷ []) opened x (λ q k. one q k) o)
        (only x m)
      where
        one : (q : ℕ) → Contains (p ∷ []) q → Contains opened q
        one q k = subst (Contains opened) (Contains-one p q k) (Contains-push opening p)

    pub told_more : IsTold rows ys (opening ++ p ∷ []) (ends ++ length xs ∷ [])
    told_more = record {
      size = pushed_size ∙ sym opened_size;
      rising = λ j k up. ⊎_elim
          (λ le. omega (arith, before_more k (omega (arith, le)), before_more j (omega (arith, le, up)), h.rising j k up))
          (λ gt. ⊎_elim
          (λ le. omega (arith, after_more k (omega (arith, gt)), before_more j (omega (arith, le)), listed_within j, longer_size))
          (λ gt'. omega (arith, after_more k (omega (arith, gt)), after_more j (omega (arith, gt'))))
          (cases_lt j (suc (length opening))))
          (cases_lt k (suc (length opening)));
      among = λ k id c m at. ⊎_elim
          (λ le. subst (λ (zs : List ℕ). AreAmong zs c) (sym (same_front k (omega (arith, le)))) (h.among k id c (subst (λ (ps : List ℕ). Contains ps id.pos) (same_opening k (omega (arith, le))) m) at))
          (λ gt. subst (λ (zs : List ℕ). AreAmong zs c) (sym (all_front k (omega (arith, gt)))) (opened_among id c (subst (λ (ps : List ℕ). Contains ps id.pos) (all_opening k (omega (arith, gt))) m) at))
          (cases_lt k (suc (length opening)));
      occurs = λ k x m. ⊎_elim
          (λ le. subst (λ (ps : List ℕ). Occurs rows ps x) (sym (same_opening k (omega (arith, le)))) (h.occurs k x (subst (λ (zs : List ℕ). Contains zs x) (same_front k (omega (arith, le))) m)))
          (λ gt. subst (λ (ps : List ℕ). Occurs rows ps x) (sym (all_opening k (omega (arith, gt)))) (opened_occurs x (subst (λ (zs : List ℕ). Contains zs x) (all_front k (omega (arith, gt))) m)))
          (cases_lt k (suc (length opening)));
    }

-- ---- no position

pub told_none : (rows : List (List (List Literal))) (xs opening ends : List ℕ) → xs ≡ [] → opening ≡ [] → ends ≡ [] → IsTold rows xs opening ends
told_none rows xs opening ends a b c = record {
  size = ap length c ∙ ap length (sym b);
  rising = λ j k le. omega (arith, none j, none k);
  among = λ k id d m at. absurd (Contains-nil id.pos (subst (λ (ps : List ℕ). Contains ps id.pos) b (take_within k opening id.pos m)));
  occurs = λ k x m. absurd (Contains-nil x (subst (λ (ys : List ℕ). Contains ys x) a (take_within (listed_before xs ends k) xs x m)));
}
  where
    none : (j : ℕ) → listed_before xs ends j ≡ 0
    none j = get_or_past ends j (length xs) (omega (arith, ap length c)) ∙ ap length a
