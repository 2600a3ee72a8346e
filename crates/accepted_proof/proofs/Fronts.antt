-- The first chunks of a text.
use Rattle.std.proofs.Common.{◌≡◌, ℕ, List, [], ◌∷◌, ◌++◌, refl, sym, ap, ◌∙◌, subst, inl, inr, append_assoc, append-nil, Option, Some, None}
use Rattle.std.specs.Prelude.{◌⊎◌, option_to_list}
use Rattle.std.proofs.lemmas.Option.{some_pair_parts}
use Rattle.smt_text.specs.declared.chunk.Chunk.{Chunk}
use Rattle.smt_text.specs.Framing.{Held, first_chunk, last_chunk}
use Rattle.smt_text.specs.Script.{AreChunks, Begins}
use Rattle.smt_text.proofs.Cuts.{AreCut-one}
use Rattle.accepted_proof.specs.Accepted.{IsFront}

-- ---- fewer of them

begins_fewer : (h : Held) (cs more : List Chunk) (rest : Held) → Begins h (cs ++ more) rest → (mid : Held) × Begins h cs mid
begins_fewer h [] more rest b = (h, refl)
begins_fewer h (c ∷ cs) more rest b = let m = begins_fewer b.0 cs more rest b.2 in (m.0, (b.0, b.1, m.1))

-- where one element at most is behind a list, each front is one of the list, or is all
front_or_all : {A : Type 0} (xs more ys : List A) (o : Option A) → xs ++ more ≡ ys ++ option_to_list o → ((zs : List A) × (ys ≡ xs ++ zs)) ⊎ (more ≡ [])
front_or_all [] more ys o e = inl (ys, refl)
front_or_all (x ∷ xs) more (y ∷ ys) o e =
    let head : x ≡ y = cc in
    let tail : xs ++ more ≡ ys ++ option_to_list o = cc in
    elim (front_or_all xs more ys o tail) [
      | inl z ↦ inl (z.0, ap (λ a. a ∷ ys) (sym head) ∙ ap (λ l. x ∷ l) z.1)
      | inr n ↦ inr n
    ]
front_or_all (x ∷ xs) more [] None e = absurd (let z : ⊥ = cc in z)
front_or_all (x ∷ []) more [] (Some y) e = inr (let z : more ≡ [] = cc in z)
front_or_all (x ∷ (w ∷ xs)) more [] (Some y) e = absurd (let z : ⊥ = cc in z)

all_fewer : (text : List ℕ) (cs more : List Chunk) → AreChunks text (cs ++ more) → IsFront text cs
all_fewer text cs more a = elim (front_or_all cs more a.whole (last_chunk a.rest) a.all) [
  | inl z ↦ inl (begins_fewer (record { line = 1; bytes = text }) cs z.0 a.rest (subst (λ w. Begins (record { line = 1; bytes = text }) w a.rest) z.1 a.begins))
  | inr n ↦ inr (subst (AreChunks text) (ap (λ l. cs ++ l) n ∙ append-nil cs) a)
]

-- the first of the first chunks are the first chunks
pub front_fewer : (text : List ℕ) (cs more : List Chunk) → IsFront text (cs ++ more) → IsFront text cs
front_fewer text cs more (inl b) = inl (begins_fewer (record { line = 1; bytes = text }) cs more b.0 b.1)
front_fewer text cs more (inr a) = all_fewer text cs more a

-- ---- two fronts

abbrev pub IsMore : List Chunk → List Chunk → Type 0
IsMore cs es = (more : List Chunk) × (es ≡ cs ++ more)

more_behind : (c e : Chunk) (cs es : List Chunk) → c ≡ e → IsMore cs es → IsMore (c ∷ cs) (e ∷ es)
more_behind c e cs es p m = (m.0, ap (λ l. e ∷ l) m.1 ∙ ap (λ x. x ∷ (cs ++ m.0)) (sym p))

begins_both : (h : Held) (cs es : List Chunk) (rest end : Held) → Begins h cs rest → Begins h es end → IsMore cs es ⊎ IsMore es cs
begins_both h [] es rest end p q = inl (es, refl)
begins_both h (c ∷ cs) [] rest end p q = inr (c ∷ cs, refl)
begins_both h (c ∷ cs) (e ∷ es) rest end p q =
    let same = some_pair_parts c e p.0 q.0 (sym p.1 ∙ q.1) in
    elim (begins_both p.0 cs es rest end p.2 (subst (λ m. Begins m es end) (sym same.1) q.2)) [
      | inl m ↦ inl (more_behind c e cs es same.0 m)
      | inr m ↦ inr (more_behind e c es cs (sym same.0) m)
    ]

-- no chunk is behind the whole ones
begins_within : (h : Held) (cs whole : List Chunk) (rest end : Held) → Begins h cs rest → Begins h whole end → first_chunk end ≡ None → IsMore cs whole
begins_within h [] whole rest end p q n = (whole, refl)
begins_within h (c ∷ cs) [] rest end p q n = let m : first_chunk h ≡ None = ap first_chunk (sym q) ∙ n in let z : ⊥ = (let s = p.1 in cc) in absurd z
begins_within h (c ∷ cs) (w ∷ whole) rest end p q n =
    let same = some_pair_parts c w p.0 q.0 (sym p.1 ∙ q.1) in
    more_behind c w cs whole same.0 (begins_within p.0 cs whole rest end p.2 (subst (λ m. Begins m whole end) (sym same.1) q.2) n)

begins_within_all : (text : List ℕ) (cs es : List Chunk) (rest : Held) → Begins (record { line = 1; bytes = text }) cs rest → AreChunks text es → IsMore cs es
begins_within_all text cs es rest b a =
    let m = begins_within (record { line = 1; bytes = text }) cs a.whole rest a.rest b a.begins a.ends in
    (m.0 ++ option_to_list (last_chunk a.rest), a.all ∙ ap (λ l. l ++ option_to_list (last_chunk a.rest)) m.1 ∙ append_assoc cs m.0 (option_to_list (last_chunk a.rest)))

-- each front is one of all
pub front_of_all : (text : List ℕ) (cs es : List Chunk) → IsFront text cs → AreChunks text es → IsMore cs es
front_of_all text cs es (inl b) a = begins_within_all text cs es b.0 b.1 a
front_of_all text cs es (inr c) a = ([], AreCut-one (record { line = 1; bytes = text }) es cs a c ∙ sym (append-nil cs))

-- of two fronts the one is a front of the other
pub front_of_front : (text : List ℕ) (cs es : List Chunk) → IsFront text cs → IsFront text es → IsMore cs es ⊎ IsMore es cs
front_of_front text cs es (inl b) (inl d) = begins_both (record { line = 1; bytes = text }) cs es b.0 d.0 b.1 d.1
front_of_front text cs es (inl b) (inr a) = inl (begins_within_all text cs es b.0 b.1 a)
front_of_front text cs es (inr a) f = inr (front_of_all text es cs f a)
