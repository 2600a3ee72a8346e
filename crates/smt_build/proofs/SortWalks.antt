-- The walk of the reader of terms over a sort gives the sort that is meant.
use Rattle.std.proofs.Common.{◌≡◌, Bool, true, false, refl, ap, sym, Result, Ok, Err}
use Rattle.std.specs.Prelude.{if◌then◌else◌}
use Rattle.smt_text.specs.declared.token.TokenKind.TheVariants as kind
use Rattle.smt_syntax.specs.Sexps.{Sexp, Sexps, atom, group, none, more}
use Rattle.smt_syntax.specs.Shapes.{is_const}
use Rattle.smt_syntax.specs.Walk.{◌>>=◌, walk, walks}
use Rattle.smt_syntax.proofs.Walks.{bind_assoc}
use Rattle.smt_terms.specs.declared.sort.Sort.{Sort}
use Rattle.smt_build.specs.declared.fault.BuildFault.{BuildFault}
use Rattle.smt_build.specs.declared.fault.BuildFault.TheVariants.{NotSupported}
use Rattle.smt_build.specs.declared.reader.Want.TheVariants as want
use Rattle.smt_build.specs.Names.{SymbolsValue}
use Rattle.smt_build.specs.Sorts.{word_listed, part_sort, array_sort, begins_array, behind_head, sort_in}
use Rattle.smt_build.specs.Indices.{Head, everywhere}
use Rattle.smt_build.specs.Heads.{constant_in}
use Rattle.smt_build.specs.SortParts.{SortPart, word, listed, SortParts, no_part, more_parts, with_part, sort_of_part, is_array_word, sort_of_words, sort_of_parts}
use Rattle.smt_build.specs.TermReader.{Part, head, const_word, sort_part, Open, as_started, const_read, sort_list, State, at_word, opens, context, takes, closes, term_reader}

-- a list of another number of parts than three is no word sort
no_words : (a b c d : Sexp) (es : Sexps)
    → (word_listed none ≡ Err NotSupported) × (word_listed (more a none) ≡ Err NotSupported) × (word_listed (more a (more b none)) ≡ Err NotSupported) × (word_listed (more a (more b (more c (more d es)))) ≡ Err NotSupported)
no_words (group x) b c d es = (refl, refl, refl, refl)
no_words (atom i l) (group x) c d es = (refl, refl, refl, refl)
no_words (atom i l) (atom j b) (group x) d es = (refl, refl, refl, refl)
no_words (atom i l) (atom j b) (atom k n) d es = (refl, refl, refl, refl)

either : (b : Bool) (r q s : Result Sort BuildFault) → r ≡ s → q ≡ s → (if b then r else q) ≡ s
either true r q s h k = h
either false r q s h k = k

module _ (symbols : SymbolsValue) where
  -- a part of a sort as it is read; a whole one may be one of arrays
  abbrev part_in : Bool → Sexp → SortPart
  part_in whole (atom k x) = word k x
  part_in true (group es) = listed (sort_in symbols (group es))
  part_in false (group es) = listed (part_sort symbols.sorts (group es))

  -- these parts, behind the ones that were read before
  abbrev parts_in : SortParts → Sexps → SortParts
  parts_in ps none = ps
  parts_in ps (more e es) = parts_in (with_part ps (part_in false e)) es

  too_many : (es : Sexps) → parts_in more_parts es ≡ more_parts
  too_many none = refl
  too_many (more e es) = too_many es

  -- ---- lists

  part_means : (e : Sexp) → sort_of_part symbols.sorts (part_in false e) ≡ part_sort symbols.sorts e
  part_means (atom k x) = refl
  part_means (group es) = refl

  array_means : (e : Sexp) (es : Sexps) → is_array_word (part_in false e) ≡ begins_array (group (more e es))
  array_means (atom kind.Symbol x) es = refl
  array_means (atom _ x) es = refl
  array_means (group xs) es = refl

  words_mean : (a b c : Sexp) → sort_of_words (part_in false a) (part_in false b) (part_in false c) ≡ word_listed (more a (more b (more c none)))
  words_mean (group x) b c = refl
  words_mean (atom i l) (group x) c = refl
  words_mean (atom i l) (atom j b) (group x) = refl
  words_mean (atom i l) (atom j b) (atom k n) = refl

  -- another number of parts
  not_three : (whole : Bool) (es : Sexps) → array_sort symbols.sorts (behind_head (group es)) ≡ Err NotSupported → word_listed es ≡ Err NotSupported → listed (Err NotSupported) ≡ part_in whole (group es)
  not_three true es h k = ap listed (sym (either (begins_array (group es)) _ _ _ h k))
  not_three false es h k = ap listed (sym k)

  list_means : (whole : Bool) (es : Sexps) → listed (sort_of_parts symbols whole (parts_in no_part es)) ≡ part_in whole (group es)
  list_means whole none = not_three whole none refl refl
  list_means whole (more a none) = not_three whole (more a none) refl (no_words a a a a none).1
  list_means whole (more a (more b none)) = not_three whole (more a (more b none)) refl (no_words a b a a none).2
  list_means true (more a (more b (more c none))) = rw (array_means a (more b (more c none)), part_means b, part_means c, words_mean a b c) refl
  list_means false (more a (more b (more c none))) = ap listed (words_mean a b c)
  list_means whole (more a (more b (more c (more d es)))) = rw (too_many es) (not_three whole (more a (more b (more c (more d es)))) refl (no_words a b c d es).3)

  -- what is read of a whole sort is the sort
  whole_means : (e : Sexp) → sort_of_part symbols.sorts (part_in true e) ≡ sort_in symbols e
  whole_means (atom k x) = refl
  whole_means (group es) = refl

  -- ---- the walk

  module _ (may_name : Bool) where
    mutual
      unfolding walk walks at_word opens context takes closes

      walk-sort : (whole : Bool) (s : State) (e : Sexp) → walk (term_reader symbols may_name) (want.Sort whole) s e ≡ Ok (sort_part (part_in whole e), s)
      walk-sort whole s (atom k x) = refl
      walk-sort whole s (group es) = rw (walk-parts whole no_part s es) (ap (λ p. Ok (sort_part p, s)) (list_means whole es))

      walk-parts : (whole : Bool) (ps : SortParts) (s : State) (es : Sexps) → walks (term_reader symbols may_name) (sort_list whole ps) s es ≡ Ok (sort_list whole (parts_in ps es), s)
      walk-parts whole ps s none = refl
      walk-parts whole ps s (more e es) = rw (walk-sort false s e) (walk-parts whole (with_part ps (part_in false e)) s es)

    abbrev closed : Result (Open × State) BuildFault → Result (Part × State) BuildFault
    closed r = r >>= λ q. closes symbols q.0 q.1

    abbrev as_head : State → Result Head BuildFault → Result (Part × State) BuildFault
    as_head s r = r >>= λ h. Ok (head h, s)

    abbrev const_if : Bool → State → Result (Part × State) BuildFault
    const_if b s = if b then Ok (const_word, s) else Err NotSupported

    -- what stands behind `const`
    walk-constant : (s : State) (e : Sexp) → closed (walks (term_reader symbols may_name) const_read s (more e none)) ≡ as_head s (sort_in symbols e >>= λ r. Ok (everywhere r))
    unfolding walk walks at_word opens context takes closes
    walk-constant s e = rw (walk-sort true s e, whole_means e) (sym (bind_assoc (sort_in symbols e) _ _))

    pub walk-as : (s : State) (es : Sexps) → closed (walks (term_reader symbols may_name) as_started s es) ≡ as_head s (constant_in symbols es)
    unfolding walk walks at_word opens context takes closes
    walk-as s none = refl
    walk-as s (more (group x) es) = refl
    walk-as s (more (atom k c) none) = go (is_const k c) where
      go : (b : Bool) → closed (const_if b s >>= λ v. takes as_started v.0 v.1 >>= λ q. walks (term_reader symbols may_name) q.0 q.1 none) ≡ Err NotSupported
      go true = refl
      go false = refl
    walk-as s (more (atom k c) (more e none)) = go (is_const k c) where
      go : (b : Bool) → closed (const_if b s >>= λ v. takes as_started v.0 v.1 >>= λ q. walks (term_reader symbols may_name) q.0 q.1 (more e none)) ≡ as_head s (if b then sort_in symbols e >>= (λ r. Ok (everywhere r)) else Err NotSupported)
      go true = walk-constant s e
      go false = refl
    walk-as s (more (atom k c) (more e (more u es))) = go (is_const k c) u where
      go : (b : Bool) (u : Sexp) → closed (const_if b s >>= λ v. takes as_started v.0 v.1 >>= λ q. walks (term_reader symbols may_name) q.0 q.1 (more e (more u es))) ≡ Err NotSupported
      go true (atom j x) = rw (walk-sort true s e) refl
      go true (group xs) = rw (walk-sort true s e) refl
      go false u = refl
