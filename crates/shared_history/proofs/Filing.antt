-- Where an entry lies among pieces of 256, and which of them a reader needs.
use Rattle.std.proofs.Common.{◌≡◌, ℕ, zero, suc, ◌+◌, ◌-◌, ◌*◌, ◌/◌, ◌%◌, ◌<◌, ◌≤◌, List, [], ◌∷◌, ◌++◌, length, get_or, take, drop, refl, sym, ap, ◌∙◌, subst, arith, append_assoc, length-append, length-drop, length-take, take-append-drop, slice_get, Some, Vec}
use Rattle.std.proofs.lemmas.List.{get_or_append_left, get_or-append_right}
use Rattle.std.proofs.lemmas.Option.{slice_get_read}
use Rattle.std.proofs.lemmas.List.Concat.{get_or-flat_map}
use Rattle.std.proofs.lemmas.List.Elements.{All-take, All-drop}
use Rattle.std.proofs.lemmas.Grind.{flat_map-append}
use Rattle.std.proofs.Math.Seq.{drop-append-add}
use Rattle.std.proofs.Math.Nat.{div-add-mod, mod-lt}
use Rattle.std.specs.Global.{Global}
use Rattle.std.specs.declared.sync.Arc.{Arc}
use Rattle.shared_history.specs.Filed.{piece, joined, AreWhole}

abbrev Frozen : Type 0 → Type 0
Frozen E = Arc (Vec E Global) Global

module _ {E : Type 0} where
  pub length-joined : (ps : List (Frozen E)) → AreWhole ps → length (joined ps) ≡ 256 * length ps
  length-joined [] whole = omega arith
  length-joined (p ∷ ps) whole = let first : length (piece p) ≡ 256 = whole 0 p (omega arith) in let others = length-joined ps (λ k d within. whole (suc k) d (omega arith)) in omega (arith, length-append (piece p) (joined ps))

  length-before : (ps : List (Frozen E)) (n : ℕ) → AreWhole ps → n ≤ length ps → length (joined (take n ps)) ≡ 256 * n
  length-before ps n whole within = let t = length-joined (take n ps) (All-take (λ shared. length (piece shared) ≡ 256) n ps whole) in omega (arith, length-take n ps)

  -- an entry of a frozen piece
  pub at_frozen : (ps : List (Frozen E)) (rest : List E) (at : ℕ) (p : Frozen E) (d : E) → AreWhole ps → at / 256 < length ps → get_or (joined ps ++ rest) at d ≡ get_or (piece (get_or ps (at / 256) p)) (at % 256) d
  at_frozen ps rest at p d whole within =
      let i = at / 256 in let j = at % 256 in let place : 256 * i + j ≡ at = div-add-mod at 256 in let small : j < 256 = mod-lt at (omega arith) in
      let before : length (joined (take i ps)) ≡ 256 * i = length-before ps i whole (omega arith) in
      let inside : j < length (piece (get_or ps i p)) = subst (λ n. j < n) (sym (whole i p within)) small in
      let all = length-joined ps whole in
      get_or_append_left (joined ps) rest d at (omega arith)
      ∙ (ap (λ n. get_or (joined ps) n d) (omega arith) ∙ get_or-flat_map piece ps i j p d within inside)

  -- an entry of the last piece
  pub at_last : (ps : List (Frozen E)) (rest : List E) (at : ℕ) (d : E) → AreWhole ps → length ps * 256 ≤ at → get_or (joined ps ++ rest) at d ≡ get_or rest (at - length ps * 256) d
  at_last ps rest at d whole past = get_or-append_right (joined ps) rest (length ps * 256) at d (let t = length-joined ps whole in omega arith) past

  -- what lies from a place in a frozen piece on
  pub drop-frozen : (ps : List (Frozen E)) (rest : List E) (from : ℕ) → AreWhole ps → from / 256 < length ps → drop (from % 256) (joined (drop (from / 256) ps) ++ rest) ≡ drop from (joined ps ++ rest)
  drop-frozen ps rest from whole within =
      let i = from / 256 in let j = from % 256 in let place : 256 * i + j ≡ from = div-add-mod from 256 in
      let before : length (joined (take i ps)) ≡ 256 * i = length-before ps i whole (omega arith) in
      let cut : joined ps ++ rest ≡ joined (take i ps) ++ (joined (drop i ps) ++ rest) = ap (λ l. joined l ++ rest) (sym (take-append-drop i ps)) ∙ (ap (λ l. l ++ rest) (flat_map-append piece (take i ps) (drop i ps)) ∙ append_assoc (joined (take i ps)) (joined (drop i ps)) rest) in
      let n : from ≡ length (joined (take i ps)) + j = omega arith in
      sym (ap (drop from) cut ∙ (ap (λ k. drop k (joined (take i ps) ++ (joined (drop i ps) ++ rest))) n ∙ drop-append-add (joined (take i ps)) (joined (drop i ps) ++ rest) j))

  -- what a reader takes from a place in a frozen piece on
  pub frozen_tail : (ps more : List (Frozen E)) (rest rest' : List E) (n from : ℕ) → AreWhole ps → n ≡ length (joined ps ++ rest) → from / 256 < length ps → joined more ≡ joined (drop (from / 256) ps) → rest' ≡ rest
      → (n - from / 256 * 256 ≡ length (joined more ++ rest')) × (from % 256 ≤ length (joined more ++ rest')) × (drop (from % 256) (joined more ++ rest') ≡ drop from (joined ps ++ rest))
  frozen_tail ps more rest rest' n from whole long within shared same =
      let i = from / 256 in let j = from % 256 in let small : j < 256 = mod-lt from (omega arith) in
      let is : joined more ++ rest' ≡ joined (drop i ps) ++ rest = λ k. shared k ++ same k in
      let left : length (joined (drop i ps)) ≡ 256 * (length ps - i) = length-joined (drop i ps) (All-drop (λ s. length (piece s) ≡ 256) i ps whole) ∙ ap (λ m. 256 * m) (length-drop i ps) in
      let count : length (joined more ++ rest') ≡ length (joined (drop i ps)) + length rest = ap length is ∙ length-append (joined (drop i ps)) rest in
      let all = length-joined ps whole in let sum = length-append (joined ps) rest in
      (omega arith, omega arith, ap (drop j) is ∙ drop-frozen ps rest from whole within)

  -- what a reader takes from a place in the last piece on
  pub last_tail : (ps : List (Frozen E)) (rest : List E) (n from : ℕ) → AreWhole ps → n ≡ length (joined ps ++ rest) → from ≤ n → length ps ≤ from / 256
      → (from - length ps * 256 ≤ length rest) × (n - from ≡ length (drop (from - length ps * 256) rest)) × (drop (from - length ps * 256) rest ≡ drop from (joined ps ++ rest))
  last_tail ps rest n from whole long within past =
      let t = div-add-mod from 256 in let all = length-joined ps whole in let sum = length-append (joined ps) rest in let cut = length-drop (from - length ps * 256) rest in
      let k : from ≡ length (joined ps) + (from - length ps * 256) = omega arith in
      (omega arith, omega arith, sym (ap (λ m. drop m (joined ps ++ rest)) k ∙ drop-append-add (joined ps) rest (from - length ps * 256)))

  pub last_filed : (ps new : List (Frozen E)) (rest copies : List E) (n count from : ℕ) → AreWhole ps → n ≡ length (joined ps ++ rest) → from ≤ n → length ps ≤ from / 256 → length rest ≤ 256 → count ≡ length copies → new ≡ [] → copies ≡ drop (from - length ps * 256) rest
      → AreWhole new × (count ≤ 256) × (n - from ≡ length (joined new ++ copies))
  last_filed ps new rest copies n count from whole long within past few counted none same =
      let t = last_tail ps rest n from whole long within past in let cut = length-drop (from - length ps * 256) rest in let is : length copies ≡ length (drop (from - length ps * 256) rest) = ap length same in
      (subst AreWhole (sym none) (λ k d near. absurd (omega arith)), omega arith, t.1 ∙ (sym is ∙ ap (λ l. length (joined l ++ copies)) (sym none)))

  -- what `get` found
  pub got_frozen : (ps : List (Frozen E)) (rest : List E) (at : ℕ) (s : Frozen E) (x : E) → AreWhole ps → at < length (joined ps ++ rest) → at / 256 < length ps → s ≡ get_or ps (at / 256) s → x ≡ get_or (piece s) (at % 256) x → slice_get (joined ps ++ rest) at ≡ Some x
  got_frozen ps rest at s x whole within inside is found = slice_get_read (joined ps ++ rest) (length (joined ps ++ rest)) at x refl within
      (found ∙ (ap (λ (t : Frozen E). get_or (piece t) (at % 256) x) is ∙ sym (at_frozen ps rest at s x whole inside)))

  pub got_last : (ps : List (Frozen E)) (rest : List E) (at : ℕ) (x : E) → AreWhole ps → at < length (joined ps ++ rest) → length ps ≤ at / 256 → x ≡ get_or rest (at - length ps * 256) x → slice_get (joined ps ++ rest) at ≡ Some x
  got_last ps rest at x whole within past found = slice_get_read (joined ps ++ rest) (length (joined ps ++ rest)) at x refl within
      (found ∙ sym (at_last ps rest at x whole (let t = div-add-mod at 256 in omega arith)))

  pub past_frozen : (ps : List (Frozen E)) (rest : List E) (n at : ℕ) → AreWhole ps → at < n → n ≡ length (joined ps ++ rest) → length ps ≤ at / 256 → at - length ps * 256 < length rest
  past_frozen ps rest n at whole within long past = let t = div-add-mod at 256 in let all = length-joined ps whole in let sum = length-append (joined ps) rest in omega arith

  pub slice_get-drop : (n : ℕ) (xs : List E) (i : ℕ) → slice_get (drop n xs) i ≡ slice_get xs (n + i)
  slice_get-drop zero xs i = let e : i ≡ 0 + i = omega arith in ap (slice_get xs) e
  slice_get-drop (suc n) [] i = refl
  slice_get-drop (suc n) (x ∷ xs) i = let e : suc (n + i) ≡ suc n + i = omega arith in slice_get-drop n xs i ∙ ap (slice_get (x ∷ xs)) e
