-- A script is read in one way.
use Rattle.std.proofs.Common.{◌≡◌, ℕ, Bool, true, false, List, [], ◌∷◌, ◌++◌, refl, sym, ap, ◌∙◌, subst, inl, inr, append-nil}
use Rattle.std.specs.Prelude.{◌⊎◌, ◌||◌}
use Rattle.std.specs.List.{list_any}
use Rattle.smt_text.specs.declared.chunk.Chunk.{Chunk}
use Rattle.smt_text.specs.Script.{AreChunks}
use Rattle.smt_text.proofs.Cuts.{AreCut-one}
use Rattle.script_state.specs.Readings.{Reading}
use Rattle.script_state.specs.Steps.{ends}
use Rattle.script_state.proofs.Deciding.{reads_one_way}
use Rattle.accepted_proof.specs.Searching.{Limits}
use Rattle.accepted_proof.specs.Turns.{Turn}
use Rattle.accepted_proof.specs.Accepted.{AreRead, IsFront, EndLast, has_ended, AreAll, Accepted, readings_of}
use Rattle.accepted_proof.specs.Judged.{ReadEach, AreAllSaid}
use Rattle.accepted_proof.proofs.Fronts.{IsMore, front_fewer, front_of_all, front_of_front}

pair : {X Y : Type 0} {a b : X} {x y : Y} → a ≡ b → x ≡ y → ◌≡◌ {A = X × Y} (a, x) (b, y)
pair p q = λ i. (p i, q i)

pub read_one : (chunks : List Chunk) (ts us : List Turn) → AreRead chunks ts → AreRead chunks us → readings_of ts ≡ readings_of us
read_one [] [] [] a b = refl
read_one [] [] (u ∷ us) a b = absurd b
read_one [] (t ∷ ts) us a b = absurd a
read_one (c ∷ cs) [] us a b = absurd a
read_one (c ∷ cs) (t ∷ ts) [] a b = absurd b
read_one (c ∷ cs) (t ∷ ts) (u ∷ us) a b =
    let here = pair (a.0 ∙ sym b.0) (reads_one_way c t.says u.says a.1 b.1) in
    ap (λ x. x ∷ readings_of ts) here ∙ ap (λ xs. (u.line, u.says) ∷ xs) (read_one cs ts us a.2 b.2)

-- ---- where a command ends the run

-- turns that end the run are all, whatever chunks are behind theirs
read_more : (cs more : List Chunk) (ts us : List Turn) → AreRead cs ts → AreRead (cs ++ more) us → has_ended ts ≡ true → EndLast ts → EndLast us → readings_of ts ≡ readings_of us
read_more cs more [] us a b e l m = absurd (let z : ⊥ = cc in z)
read_more [] more (t ∷ ts) us a b e l m = absurd a
read_more (c ∷ cs) more (t ∷ ts) [] a b e l m = absurd b
read_more (c ∷ cs) more (t ∷ ts) (u ∷ us) a b e l m =
    ap (λ x. x ∷ readings_of ts) (pair (a.0 ∙ sym b.0) same) ∙ ap (λ xs. (u.line, u.says) ∷ xs) (by_end (λ e. read_more cs more ts us a.2 b.2 e l.1 m.1) (ends t.says) refl)
  where
    same : t.says ≡ u.says
    same = reads_one_way c t.says u.says a.1 b.1

    by_end : (has_ended ts ≡ true → readings_of ts ≡ readings_of us) → (b : Bool) → ends t.says ≡ b → readings_of ts ≡ readings_of us
    by_end further true f = ap readings_of (l.0 f) ∙ sym (ap readings_of (m.0 (ap ends (sym same) ∙ f)))
    by_end further false f = further (sym (ap (λ x. x || has_ended ts) f) ∙ e)

read_within : (cs es : List Chunk) (ts us : List Turn) → IsMore cs es → AreRead cs ts → AreRead es us → has_ended ts ≡ true → EndLast ts → EndLast us → readings_of ts ≡ readings_of us
read_within cs es ts us m a b e l k = read_more cs m.0 ts us a (subst (λ x. AreRead x us) m.1 b) e l k

pub accepted_read_one : (limits bounds : Limits) (script proof other : List ℕ) (ts us : List Turn) → Accepted limits script proof ts → Accepted bounds script other us → readings_of ts ≡ readings_of us
accepted_read_one limits bounds script proof other ts us a b = by_cut a.cut b.cut
  where
    by_cut : AreAll script a.chunks ts → AreAll script b.chunks us → readings_of ts ≡ readings_of us
    by_cut (inl x) (inl y) = read_one b.chunks ts us (subst (λ cs. AreRead cs ts) (AreCut-one (record { line = 1; bytes = script }) a.chunks b.chunks x y) a.read) b.read
    by_cut (inl x) (inr y) = sym (read_within b.chunks a.chunks us ts (front_of_all script b.chunks a.chunks y.1 x) b.read a.read y.0 b.last a.last)
    by_cut (inr x) (inl y) = read_within a.chunks b.chunks ts us (front_of_all script a.chunks b.chunks x.1 y) a.read b.read x.0 a.last b.last
    by_cut (inr x) (inr y) = elim (front_of_front script a.chunks b.chunks x.1 y.1) [
      | inl m ↦ read_within a.chunks b.chunks ts us m a.read b.read x.0 a.last b.last
      | inr m ↦ sym (read_within b.chunks a.chunks us ts m b.read a.read y.0 b.last a.last)
    ]

-- ---- all that is read

-- a command of these ends the run exactly where one of their readings does
same_ends : (chunks : List Chunk) (says : List Reading) (turns : List Turn) → ReadEach chunks says → AreRead chunks turns → list_any ends says ≡ has_ended turns
same_ends [] [] [] r a = refl
same_ends [] [] (t ∷ ts) r a = absurd a
same_ends [] (s ∷ ss) turns r a = absurd r
same_ends (c ∷ cs) [] turns r a = absurd r
same_ends (c ∷ cs) (s ∷ ss) [] r a = absurd a
same_ends (c ∷ cs) (s ∷ ss) (t ∷ ts) r a =
    ap (λ x. ends x || list_any ends ss) (reads_one_way c s t.says r.0 a.1) ∙ ap (λ b. ends t.says || b) (same_ends cs ss ts r.1 a.2)

-- where these are all that is read, so are the first of them that turns have, up to one that ends the run
pub all_of_turns : (script : List ℕ) (chunks first behind : List Chunk) (says : List Reading) (turns : List Turn) → chunks ≡ first ++ behind → AreAllSaid script chunks says → ReadEach chunks says → AreRead first turns → (behind ≡ []) ⊎ (has_ended turns ≡ true) → AreAll script first turns
all_of_turns script chunks first behind says turns e all read a (inr q) = inr (q, front_fewer script first behind (subst (IsFront script) e (front all)))
  where
    front : AreAllSaid script chunks says → IsFront script chunks
    front (inl x) = inr x
    front (inr x) = x.1
all_of_turns script chunks first behind says turns e all read a (inl n) = by_all all
  where
    same : chunks ≡ first
    same = e ∙ ap (λ l. first ++ l) n ∙ append-nil first

    by_all : AreAllSaid script chunks says → AreAll script first turns
    by_all (inl x) = inl (subst (AreChunks script) same x)
    by_all (inr x) = inr (sym (same_ends first says turns (subst (λ l. ReadEach l says) same read) a) ∙ x.0, subst (IsFront script) same x.1)
