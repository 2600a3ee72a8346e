-- What a search prepares for its walks, and what a walk answers.
use Rattle.std.specs.Prelude.{◌≡◌, ◌⊎◌, ◌++◌, ℕ, Bool, false, List, length, Contains}
use Rattle.smt_terms.specs.declared.sort.Sort.TheVariants as sort
use Rattle.smt_terms.specs.declared.node.Node.{Node}
use Rattle.smt_terms.specs.Bits.{TermBits, image_in}
use Rattle.smt_terms.specs.Terms.{sort_of}
use Rattle.smt_terms.specs.Values.{is_true}
use Rattle.theory_terms.specs.declared.lemma.Lemma.{Lemma}
use Rattle.theory_terms.specs.declared.lemma.Lemma.TheVariants.{Arrays, Congruence, Witness}
use Rattle.theory_terms.specs.declared.shape.Shape.TheVariants.{Equating}
use Rattle.theory_terms.specs.Shapes.{shape_at}
use Rattle.access_tables.specs.Held.{assigned_value}
use Rattle.access_tables.specs.Ready.{IsOwn}
use Rattle.access_walk.specs.declared.walking.Prepared.{Prepared}
use Rattle.access_walk.specs.declared.walking.Conflicts.{Conflicts}
use Rattle.access_walk.specs.declared.walking.Walked.{Walked}
use Rattle.access_walk.specs.declared.walking.Walked.TheVariants as of
use Rattle.access_walk.specs.Congruent.{AreApplications, AreAlike, HasConflict}
use Rattle.access_walk.specs.Spared.{AreIndexesOf}
use Rattle.access_walk.specs.Spread.{AreEncodedLemmas, AreFewClashes}
use Rattle.access_walk.specs.Told.{AreAllTold}
use Rattle.access_walk.specs.Valuing.{IsNetworkOf}
use Rattle.access_walk.specs.Walked.{IsFalseLemma, IsWalkedTable}
use Rattle.access_walk.specs.Watched.{AreWatches, AreApartAt}

-- of these terms all accesses, moves, applications, equalities of arrays and indexes
pub record IsPrepared (nodes : List Node) (bits : List TermBits) (terms : List ℕ) (p : Prepared) : Type 0 where
  pub network : IsNetworkOf nodes bits terms p.network
  pub applications : AreApplications nodes bits (Contains terms) p.applications.items
  pub watches : AreWatches nodes bits (Contains terms) p.watches.items
  pub indexes : AreIndexesOf nodes bits (Contains terms) p.indexes

-- Each lemma is false. Where applications of one declaration to arguments of equal values have different values, some lemma is of
-- applications like them; where an equality of arrays is false and their selects at the witness agree, its lemma is there.
pub record AreAllConflicts (nodes : List Node) (bits : List TermBits) (f : ℕ → Bool) (Here : ℕ → Type 0) (lemmas : List Lemma) : Type 0 where
  pub falses : (l : Lemma) → Contains lemmas l → IsFalseLemma nodes bits f l
  pub congruent : (t u : ℕ) → AreAlike nodes bits Here (assigned_value nodes bits f) t u
      → (assigned_value nodes bits f t ≡ assigned_value nodes bits f u) ⊎ HasConflict nodes bits f Here lemmas t
  pub apart : (t a b n m : ℕ) → IsOwn Here (image_in bits) t → shape_at nodes t ≡ Equating a b → sort_of nodes a ≡ sort.Array n m → is_true (assigned_value nodes bits f t) ≡ false
      → AreApartAt nodes (assigned_value nodes bits f) a b ⊎ Contains lemmas (Witness t)

-- the lemma is not on accesses
abbrev pub IsNoClash : Lemma → Type 0
IsNoClash (Arrays a b) = ⊥
IsNoClash (Congruence t u) = Unit {0}
IsNoClash (Witness t) = Unit {0}

abbrev pub AreNoClashes : List Lemma → Type 0
AreNoClashes lemmas = (l : Lemma) → Contains lemmas l → IsNoClash l

-- the lemmas on accesses stand behind the others, and are few
pub record HaveFewClashes (nodes : List Node) (bits : List TermBits) (f : ℕ → Bool) (lemmas : List Lemma) : Type 0 where
  pub others : List Lemma
  pub clashes : List Lemma
  pub are : lemmas ≡ others ++ clashes
  pub others_are : AreNoClashes others
  pub few : AreFewClashes nodes (assigned_value nodes bits f) clashes

-- False lemmas, of which there is one at least and all that functions and witnesses give, but few on accesses, and all there too where
-- they are fewer than are told at most; and further lemmas.
pub record AreConflicts (nodes : List Node) (bits : List TermBits) (f : ℕ → Bool) (Here : ℕ → Type 0) (c : Conflicts) : Type 0 where
  pub some : length c.falses.items ≡ 0 → ⊥
  pub all : AreAllConflicts nodes bits f Here c.falses.items
  pub few : HaveFewClashes nodes bits f c.falses.items
  pub told : AreAllTold nodes bits f Here few.clashes
  pub siblings : AreEncodedLemmas nodes bits c.siblings.items

-- a closed table of what is reached, or conflicts
abbrev pub IsWalked : List Node → List TermBits → (ℕ → Bool) → List ℕ → List ℕ → Walked → Type 0
IsWalked nodes bits f live terms (of.Table table) = IsWalkedTable nodes bits f live table
IsWalked nodes bits f live terms (of.Conflicts c) = AreConflicts nodes bits f (Contains terms) c
