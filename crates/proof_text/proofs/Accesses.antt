-- Accesses and their moves are read exactly.
use Rattle.std.proofs.Common.{◌≡◌, ℕ, Bool, true, false, cond, List, [], ◌∷◌, ◌++◌, refl, sym, ap, ap₂, subst, ◌∙◌, append-nil, codes, Option, Some, None}
use Rattle.std.specs.Fmt.{decimal}
use Rattle.std.specs.List.{flat_map, AllByRecursion}
use Rattle.std.specs.Str.{bytes_eq}
use Rattle.proof_text.specs.declared.list.WrittenStart.{WrittenStart}
use Rattle.proof_text.specs.declared.list.WrittenStart.TheVariants as access
use Rattle.proof_text.specs.declared.list.Letter.{Letter}
use Rattle.proof_text.specs.declared.list.Letter.TheVariants.{Store, Then, Else, Sides}
use Rattle.proof_text.specs.declared.list.WrittenMove.{WrittenMove}
use Rattle.proof_text.specs.declared.list.WrittenAccess.{WrittenAccess}
use Rattle.proof_text.specs.Lines.{start_text, letter_text, move_words, access_words, IsNumber, IsStart, IsMove, IsAccess}
use Rattle.proof_text.specs.Reading.{◌>>=◌, look_up, fields, number_in, number_at, ended, letters, index_at, start_of, move_of, moves_at, access_at}
use Rattle.proof_text.proofs.Fields.{joined_by, marked, fields_joined, joined_fields}
use Rattle.proof_text.proofs.Literals.{bind_is, bind_some, digits_of_number, ended_says, number_at_says, number_in_reads, number_in_says}
use Rattle.proof_text.proofs.Heads.{table_says}

-- ---- where accesses start

start_reads : (s : WrittenStart) → IsStart s → start_of (start_text s) ≡ Some s
start_reads (access.Term t) h =
    let joined_is : joined_by 64 (decimal t ∷ []) ≡ decimal t = append-nil (decimal t) in
    let split : fields 64 (decimal t) ≡ decimal t ∷ [] = ap (fields 64) (sym joined_is) ∙ fields_joined 64 (decimal t) [] (digits_of_number 64 t refl h, tt) in
    rw (split, number_in_reads t h) refl
start_reads (access.Const k j) h =
    let joined_is : joined_by 64 (decimal k ∷ decimal j ∷ []) ≡ start_text (access.Const k j) = rw (append-nil (decimal j)) refl in
    let split : fields 64 (start_text (access.Const k j)) ≡ decimal k ∷ decimal j ∷ [] =
    ap (fields 64) (sym joined_is) ∙ fields_joined 64 (decimal k) (decimal j ∷ []) (digits_of_number 64 k refl h.0, (digits_of_number 64 j refl h.1, tt)) in
    rw (split, number_in_reads k h.0, number_in_reads j h.1) refl

index_says : (k : ℕ) (ws : List (List ℕ)) (s : WrittenStart) → IsNumber k → index_at k ws ≡ Some s → (joined_by 64 (decimal k ∷ ws) ≡ start_text s) × IsStart s
index_says k [] s h e =
    let same : access.Term k ≡ s = cc in
    subst (λ (x : WrittenStart). (joined_by 64 (decimal k ∷ []) ≡ start_text x) × IsStart x) same (append-nil (decimal k), h)
index_says k (w ∷ ws) s h e =
    let b = bind_some (number_in w) (λ j. ended (access.Const k j) ws) s e in
    let q = ended_says (access.Const k b.0) s ws b.2 in
    let n = number_in_says w b.0 b.1 in
    let last : w ++ marked 64 ws ≡ decimal b.0 = ap₂ (λ x xs. x ++ marked 64 xs) n.0 q.1 ∙ append-nil (decimal b.0) in
    subst (λ (x : WrittenStart). (joined_by 64 (decimal k ∷ w ∷ ws) ≡ start_text x) × IsStart x) q.0
    (ap (λ x. decimal k ++ 64 ∷ x) last, (h, n.1))

start_says : (w : List ℕ) (s : WrittenStart) → start_of w ≡ Some s → (w ≡ start_text s) × IsStart s
start_says w s e =
    let b = bind_some (number_at (fields 64 w)) (λ r. index_at r.0 r.1) s e in
    let n = number_at_says (fields 64 w) b.0 b.1 in
    let i = index_says b.0.0 b.0.1 s n.bound b.2 in
    (sym (joined_fields 64 w) ∙ ap (joined_by 64) n.words ∙ i.0, i.1)

-- ---- moves

letter_reads : (l : Letter) → look_up letters (letter_text l) ≡ Some l
letter_reads Store = refl
letter_reads Then = refl
letter_reads Else = refl
letter_reads Sides = refl

letter_says : (w : List ℕ) (l : Letter) → look_up letters w ≡ Some l → w ≡ letter_text l
letter_says w l e = table_says letter_text letters refl w l e

no_end : (l : Letter) → bytes_eq (letter_text l) (47 ∷ []) ≡ false
no_end Store = refl
no_end Then = refl
no_end Else = refl
no_end Sides = refl

moves_read : (ms : List WrittenMove) (rest : List (List ℕ)) → AllByRecursion IsMove ms → moves_at rest ≡ Some ([], rest) → moves_at (flat_map move_words ms ++ rest) ≡ Some (ms, rest)
unfolding moves_at
moves_read [] rest all e = e
moves_read (m ∷ ms) rest all e = rw (no_end m.letter, letter_reads m.letter, number_in_reads m.term all.0, moves_read ms rest all.1 e) refl

-- the moves end at the end and at the word `/`
no_moves : moves_at [] ≡ Some ([], [])
unfolding moves_at
no_moves = refl

pub moves_end : (rest : List (List ℕ)) → moves_at ((47 ∷ []) ∷ rest) ≡ Some ([], (47 ∷ []) ∷ rest)
unfolding moves_at
moves_end [] = refl
moves_end (w ∷ ws) = refl

move_says : (w x : List ℕ) (m : WrittenMove) → move_of w x ≡ Some m → (w ∷ x ∷ [] ≡ move_words m) × IsMove m
move_says w x m e =
    let b = bind_some (look_up letters w) (λ l. number_in x >>= λ n. Some (record { letter = l; term = n })) m e in
    let d = bind_some (number_in x) (λ n. Some (record { letter = b.0; term = n })) m b.2 in
    let same : record { letter = b.0; term = d.0 } ≡ m = let q = d.2 in cc in
    let n = number_in_says x d.0 d.1 in
    subst (λ (y : WrittenMove). (w ∷ x ∷ [] ≡ move_words y) × IsMove y) same
    (ap₂ (λ u v. u ∷ v ∷ []) (letter_says w b.0 b.1) n.0, n.1)

record AreMoves (ws : List (List ℕ)) (ms : List WrittenMove) (rest : List (List ℕ)) : Type 0 where
  words : ws ≡ flat_map move_words ms ++ rest
  each : AllByRecursion IsMove ms

no_move : (ws : List (List ℕ)) (r : List WrittenMove × List (List ℕ)) → ◌≡◌ {A = Option (List WrittenMove × List (List ℕ))} (Some ([], ws)) (Some r) → AreMoves ws r.0 r.1
no_move ws r e =
    let same : ◌≡◌ {A = List WrittenMove × List (List ℕ)} ([], ws) r = cc in
    subst (λ (x : List WrittenMove × List (List ℕ)). AreMoves ws x.0 x.1) same (record { words = refl; each = tt })

last_chosen : (q : Bool) (w : List ℕ) (r : List WrittenMove × List (List ℕ)) → cond q (Some ([], w ∷ [])) None ≡ Some r → AreMoves (w ∷ []) r.0 r.1
last_chosen true w r e = no_move (w ∷ []) r e
last_chosen false w r e = absurd (let z : ⊥ = cc in z)

moves_chosen : (q : Bool) (w x : List ℕ) (ws : List (List ℕ)) (r : List WrittenMove × List (List ℕ))
    → ((s : List WrittenMove × List (List ℕ)) → moves_at ws ≡ Some s → AreMoves ws s.0 s.1)
    → cond q (Some ([], w ∷ x ∷ ws)) (move_of w x >>= λ m. moves_at ws >>= λ s. Some (m ∷ s.0, s.1)) ≡ Some r → AreMoves (w ∷ x ∷ ws) r.0 r.1
moves_chosen true w x ws r ih e = no_move (w ∷ x ∷ ws) r e
moves_chosen false w x ws r ih e =
    let b = bind_some (move_of w x) (λ m. moves_at ws >>= λ s. Some (m ∷ s.0, s.1)) r e in
    let d = bind_some (moves_at ws) (λ s. Some (b.0 ∷ s.0, s.1)) r b.2 in
    let same : ◌≡◌ {A = List WrittenMove × List (List ℕ)} (b.0 ∷ d.0.0, d.0.1) r = let q = d.2 in cc in
    let one = move_says w x b.0 b.1 in
    let rest = ih d.0 d.1 in
    subst (λ (y : List WrittenMove × List (List ℕ)). AreMoves (w ∷ x ∷ ws) y.0 y.1) same
    (record { words = ap (λ vs. vs ++ ws) one.0 ∙ ap (λ vs. move_words b.0 ++ vs) rest.words; each = (one.1, rest.each) })

moves_say : (ws : List (List ℕ)) (r : List WrittenMove × List (List ℕ)) → moves_at ws ≡ Some r → AreMoves ws r.0 r.1
unfolding moves_at
moves_say [] r e = no_move [] r e
moves_say (w ∷ []) r e = last_chosen (bytes_eq w (47 ∷ [])) w r e
moves_say (w ∷ x ∷ ws) r e = moves_chosen (bytes_eq w (47 ∷ [])) w x ws r (moves_say ws) e

-- ---- accesses

pub access_reads : (a : WrittenAccess) (rest : List (List ℕ)) → IsAccess a → moves_at rest ≡ Some ([], rest) → access_at (access_words a ++ rest) ≡ Some (a, rest)
access_reads a rest h e =
    bind_is (start_of (start_text a.start)) a.start (λ s. moves_at (flat_map move_words a.moves ++ rest) >>= λ r. Some (record { start = s; moves = r.0 }, r.1)) (start_reads a.start h.start)
    ∙ bind_is (moves_at (flat_map move_words a.moves ++ rest)) (a.moves, rest) (λ r. Some (record { start = a.start; moves = r.0 }, r.1)) (moves_read a.moves rest h.moves e)

-- nothing stands behind it
pub access_ends : (a : WrittenAccess) → IsAccess a → access_at (access_words a) ≡ Some (a, [])
access_ends a h = subst (λ (ws : List (List ℕ)). access_at ws ≡ Some (a, [])) (append-nil (access_words a)) (access_reads a [] h no_moves)

pub record StartsWithAccess (ws : List (List ℕ)) (a : WrittenAccess) (rest : List (List ℕ)) : Type 0 where
  pub words : ws ≡ access_words a ++ rest
  pub fits : IsAccess a

pub access_says : (ws : List (List ℕ)) (r : WrittenAccess × List (List ℕ)) → access_at ws ≡ Some r → StartsWithAccess ws r.0 r.1
access_says [] r e = absurd (let z : ⊥ = cc in z)
access_says (w ∷ ws) r e =
    let b = bind_some (start_of w) (λ s. moves_at ws >>= λ q. Some (record { start = s; moves = q.0 }, q.1)) r e in
    let d = bind_some (moves_at ws) (λ q. Some (record { start = b.0; moves = q.0 }, q.1)) r b.2 in
    let same : ◌≡◌ {A = WrittenAccess × List (List ℕ)} (record { start = b.0; moves = d.0.0 }, d.0.1) r = let q = d.2 in cc in
    let s = start_says w b.0 b.1 in
    let m = moves_say ws d.0 d.1 in
    subst (λ (x : WrittenAccess × List (List ℕ)). StartsWithAccess (w ∷ ws) x.0 x.1) same
    (record { words = ap₂ (λ v vs. v ∷ vs) s.0 m.words; fits = record { start = s.1; moves = m.each } })
