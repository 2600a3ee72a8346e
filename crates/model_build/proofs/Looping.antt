-- One term and one access more, as the loops take them.
use Rattle.std.proofs.Common.{◌≡◌, ℕ, suc, ◌+◌, ◌<◌, ◌^◌, Bool, List, length, get_or, Option, Some, refl, sym, ap, ◌∙◌, subst, inl, ◌≤◌, arith}
use Rattle.std.specs.Prelude.{slice_get, Contains}
use Rattle.std.proofs.lemmas.Option.{slice_get_within, get_or_from_slice_get, slice_get-get_or}
use Rattle.smt_words.specs.Words.{IsWidth, word}
use Rattle.smt_terms.specs.declared.sort.Sort.TheVariants as sort
use Rattle.smt_terms.specs.Bits.{TermBits, image_in}
use Rattle.smt_terms.specs.Terms.{TermsValue, AreTerms}
use Rattle.smt_terms.specs.Values as of
use Rattle.smt_values.specs.declared.value.Value.{Value}
use Rattle.smt_values.specs.declared.value.Value.TheVariants as held
use Rattle.smt_values.specs.Arrays.{ArrayFields, constant_array}
use Rattle.smt_values.specs.Held.{set_for}
use Rattle.theory_terms.specs.declared.shape.Shape.{Shape}
use Rattle.theory_terms.specs.declared.shape.Shape.TheVariants.{Selecting, Storing, Filling, Choosing, Equating, Witnessing, Applying, Declaring, Other}
use Rattle.theory_terms.specs.declared.atom.Landing.{Landing}
use Rattle.theory_terms.specs.Shapes.{shape_at}
use Rattle.term_reach.proofs.Tables.{contains_at, at_contained}
use Rattle.access_tables.specs.Encoded.{HaveBits}
use Rattle.access_tables.specs.Held.{TableValue, IsAccess, assigned_value, IsClosedUnder}
use Rattle.model_build.specs.Drafts.{RowShape, Enters, GivesDefault, GivesElement, IsOpen, HoldsShape, IsUniform, IsFilled, HasDefaults, HasElements}
use Rattle.model_build.proofs.Accesses.{one_default, one_element, none_filled}
use Rattle.model_build.proofs.Given.{array_widths, array_free, declared_sort, word_fits, access_shape}
use Rattle.model_build.proofs.Keeping.{kept}
use Rattle.model_build.proofs.OneMore.{one_more}

add_one : (k : ℕ) → suc k ≡ k + 1
add_one k = omega arith

pub term_place : (terms items : List ℕ) (k : ℕ) → items ≡ terms → k < length items → slice_get terms k ≡ Some (get_or items k 0)
term_place terms items k e lt = ap (λ l. slice_get l k) (sym e) ∙ slice_get-get_or items k 0 lt

pub row_place : (rows items : List Landing) (k : ℕ) (d : Landing) → items ≡ rows → k < length items → slice_get rows k ≡ Some (get_or items k d)
row_place rows items k d e lt = ap (λ l. slice_get l k) (sym e) ∙ slice_get-get_or items k d lt

-- a loop over all rows that has ended
pub all_rows : (rows items : List Landing) (k : ℕ) → items ≡ rows → k ≤ length items → length items ≤ k → k ≡ length rows
all_rows rows items k e le ge = let same : k ≡ length items = omega (arith, le, ge) in same ∙ ap length e

pub contains_row : (rows : List Landing) (k : ℕ) (r : Landing) → slice_get rows k ≡ Some r → Contains rows r
contains_row rows k r e = (k, slice_get_within rows k r e, get_or_from_slice_get rows k r r e)

module _ (v : TermsValue) (terms : AreTerms v) (bits : List TermBits) (f : ℕ → Bool) (table : TableValue) (closed : IsClosedUnder v.nodes bits f table) where
  abbrev val : ℕ → of.Value
  val = assigned_value v.nodes bits f

  first_array : (t d n m : ℕ) → shape_at v.nodes t ≡ Declaring d (sort.Array n m) → IsWidth n × IsWidth m × IsUniform v.nodes val table 0 t (constant_array n (word m 0))
  first_array t d n m e =
      let w = array_widths v.nodes terms.list t n m (declared_sort v.nodes terms.list t d (sort.Array n m) e) in
      (w.0, w.1, record { entries = refl; found = λ k x s h. (let lt = h.2 in absurd (omega (arith, lt))); from = inl refl })

  pub no_terms : (values : List (Option Value)) → HasDefaults v.nodes bits f table 0 0 values
  no_terms values j t lt e free = absurd (omega (arith, lt))

  pub term_step : (old new : List (Option Value)) (count t : ℕ) → slice_get table.terms count ≡ Some t → Enters v.nodes bits f t old new
      → HasDefaults v.nodes bits f table count 0 old → HasDefaults v.nodes bits f table (count + 1) 0 new
  term_step old new count t at enters have =
      subst (λ k. HasDefaults v.nodes bits f table k 0 new) (add_one count)
      (one_more v terms (image_in bits) val (IsUniform v.nodes val table 0) table.terms first_array
      (λ t u d ct ft cu fu st su args. closed.rows.congruent t u d (ct, ft) (cu, fu) st su args)
      old new count t at (λ j u e. contains_at table.terms j u e) enters have)

  module _ (old new : List (Option Value)) (count : ℕ) (r : Landing) (at : slice_get table.rows count ≡ Some r) where
    access : IsAccess v.nodes bits table.terms r
    access = closed.accesses r (contains_row table.rows count r at)

    value_lt : of.number_of (val r.value) < 2 ^ access.element
    value_lt = word_fits v.nodes bits f r.value access.element access.value access.value_bits

    index_lt : of.number_of (val r.index) < 2 ^ access.index
    index_lt = word_fits v.nodes bits f r.index access.index access.at access.index_bits

    widths : IsWidth access.index × IsWidth access.element
    widths = array_widths v.nodes terms.list r.array access.index access.element access.array

    shape : RowShape (λ d n m. (n ≡ access.index) × (m ≡ access.element)) (Unit {0}) (shape_at v.nodes r.array)
    shape = access_shape v.nodes terms.list bits table.terms r access

    pub default_step : (all : ℕ) → GivesDefault v.nodes val table.spares r old new → HasDefaults v.nodes bits f table all count old → HasDefaults v.nodes bits f table all (count + 1) new
    default_step all gives have = subst (λ k. HasDefaults v.nodes bits f table all k new) (add_one count) (λ j t lt e free.
        one_default v terms val table closed.rows.consistent count r at old new access.index access.element widths.0 widths.1 value_lt shape gives t (have j t lt e free))

    pub element_step : (all : ℕ) → GivesElement v.nodes val r old new → HasElements v.nodes bits f table all count old → HasElements v.nodes bits f table all (count + 1) new
    element_step all gives have = subst (λ k. HasElements v.nodes bits f table all k new) (add_one count) (λ j t lt e free.
        one_element v terms val table closed.rows.consistent count r at old new access.index access.element index_lt value_lt shape gives t (have j t lt e free))

  pub open_row : (have : HaveBits v.nodes bits (Contains table.terms)) (count : ℕ) (r : Landing) (values : List (Option Value)) → IsAccess v.nodes bits table.terms r
      → HasElements v.nodes bits f table (length table.terms) count values → IsOpen v.nodes r values
  open_row have count r values access all =
      let at = at_contained table.terms r.array access.here in
      let free = array_free v.nodes bits (Contains table.terms) have r.array access.index access.element access.array in
      go (shape_at v.nodes r.array) (all at.0 r.array (slice_get_within table.terms at.0 r.array at.1) at.1 free) where
        go : (k : Shape) → HoldsShape (IsFilled v.nodes (assigned_value v.nodes bits f) table count) v.nodes (assigned_value v.nodes bits f) values r.array k
            → RowShape (λ d n m. (a : ArrayFields) × (set_for values d ≡ Some (held.Array a)) × (a.index ≡ n) × (a.default.width ≡ m)) (Unit {0}) k
        go (Declaring d (sort.Array n m)) h = (h.array, h.set, h.index, h.element)
        go (Declaring d sort.Bool) h = tt
        go (Declaring d (sort.Word n)) h = tt
        go (Selecting a i) h = tt
        go (Storing b j x) h = tt
        go (Filling x) h = tt
        go (Choosing c a b) h = tt
        go (Equating a b) h = tt
        go (Witnessing a b) h = tt
        go (Applying d) h = tt
        go Other h = tt

  pub start_elements : (values : List (Option Value)) → HasDefaults v.nodes bits f table (length table.terms) (length table.rows) values → HasElements v.nodes bits f table (length table.terms) 0 values
  start_elements values all j t lt e free =
      kept v.nodes val (IsUniform v.nodes val table (length table.rows)) (IsFilled v.nodes val table 0) values values t (shape_at v.nodes t) (λ x n. refl)
      (λ d n m a s i w u. none_filled v.nodes val table t n m a (declared_sort v.nodes terms.list t d (sort.Array n m) s) i u) (all j t lt e free)
