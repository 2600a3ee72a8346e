-- The reader of shapes accepts exactly the shapes.
use Rattle.std.proofs.Common.{◌≡◌, ℕ, Bool, true, false, ◌&&◌, cond, List, refl, ap, ◌∙◌, Some, Ok, Err}
use Rattle.std.specs.Prelude.{is_ok, codes, not, ◌||◌}
use Rattle.std.specs.Str.{bytes_eq}
use Rattle.smt_text.specs.declared.token.TokenKind.{TokenKind}
use Rattle.smt_text.specs.declared.token.TokenKind.TheVariants as kind
use Rattle.smt_syntax.specs.Sexps.{Sexp, Sexps, atom, group, none, more}
use Rattle.smt_syntax.specs.Walk.{◌>>=◌, walk, walks}
use Rattle.smt_syntax.specs.Shapes as is
use Rattle.smt_syntax.specs.Shapes.{is_term, are_terms, are_some_terms, is_let, is_binding, are_bindings, are_some_bindings, is_annotated, is_sort, are_two_sorts}
use Rattle.smt_syntax.specs.ShapeReader.{part_if, word_part, opened, context, taken, at_place, closed, Seen, seen, shape_reader}
use Rattle.smt_syntax.specs.Forms.{fits, want_of}
use Rattle.smt_syntax.specs.declared.form.Form.{Form}
use Rattle.smt_syntax.specs.declared.form.Form.TheVariants as form
use Rattle.smt_syntax.specs.declared.shape.Want.{Want}
use Rattle.smt_syntax.specs.declared.shape.Want.TheVariants as want
use Rattle.smt_syntax.specs.declared.shape.Place.{Place}
use Rattle.smt_syntax.specs.declared.shape.Place.TheVariants as place
use Rattle.smt_syntax.specs.declared.shape.Frame.{Frame}
use Rattle.smt_syntax.specs.declared.shape.Frame.TheVariants as frame
use Rattle.smt_syntax.specs.declared.shape.Part.{Part}
use Rattle.smt_syntax.specs.declared.shape.Part.TheVariants as part
use Rattle.smt_syntax.proofs.Walks.{bind_assoc, bind_same}

-- a part, where a test holds
abbrev pub checked : {A : Type 0} → Bool → A → Seen A
checked b a = cond b (Ok (a, tt)) (Err tt)

abbrev judge : Want → Sexp → Seen Part
judge w e = walk shape_reader w tt e

-- what the rest of a list gives when it closes
abbrev finish : Frame → Sexps → Seen Part
finish f es = walks shape_reader f tt es >>= λ r. seen (closed r.0)

finish-more : (f : Frame) (e : Sexp) (es : Sexps) → finish f (more e es) ≡ judge (context f) e >>= λ v. seen (taken f v.0) >>= λ r. finish r.0 es
unfolding walk walks
finish-more f e es =
    bind_assoc (judge (context f) e) _ _
    ∙ bind_same (judge (context f) e) _ _ (λ v. bind_assoc (seen (taken f v.0)) _ _)

-- ---- one part more

then_taken : (b : Bool) (f g : Frame) (p : Part) (es : Sexps) (x : Seen Part) → taken f p ≡ Some g → finish g es ≡ x → checked b p >>= (λ v. seen (taken f v.0) >>= λ r. finish r.0 es) ≡ cond b x (Err tt)
then_taken true f g p es x t e = rw t e
then_taken false f g p es x t e = refl

both : (b c : Bool) (q : Part) → cond b (checked c q) (Err tt) ≡ checked (b && c) q
both true c q = refl
both false c q = refl

step : (f g : Frame) (p q : Part) (b c : Bool) (e : Sexp) (es : Sexps) → judge (context f) e ≡ checked b p → taken f p ≡ Some g → finish g es ≡ checked c q → finish f (more e es) ≡ checked (b && c) q
step f g p q b c e es j t h = finish-more f e es ∙ rw j (then_taken b f g p es (checked c q) t h) ∙ both b c q

fails : (f : Frame) (e : Sexp) (es : Sexps) → judge (context f) e ≡ Err tt → finish f (more e es) ≡ Err tt
fails f e es j = finish-more f e es ∙ rw j refl

word : (w : Want) (k : TokenKind) (x : List ℕ) (b : Bool) (p : Part) → word_part w k x ≡ part_if b p → judge w (atom k x) ≡ checked b p
unfolding walk
word w k x true p e = rw e refl
word w k x false p e = rw e refl

nothing : (e : Sexp) → judge want.Nothing e ≡ Err tt
unfolding walk word_part opened
nothing (atom k x) = refl
nothing (group es) = refl

pub and_true : (b : Bool) → b && true ≡ b
and_true true = refl
and_true false = refl

pub and_false : (b : Bool) → b && false ≡ false
and_false true = refl
and_false false = refl

as_test : (a b : Bool) (x : Seen Part) (q : Part) → a ≡ b → x ≡ checked a q → x ≡ checked b q
as_test a b x q e h = h ∙ ap (λ c. checked c q) e

-- ---- lists that are flat

mutual
  unfolding walk walks word_part opened context taken closed

  anything : (e : Sexp) → judge want.Anything e ≡ Ok (part.Value, tt)
  anything (atom k x) = refl
  anything (group es) = unread es

  unread : (es : Sexps) → finish frame.Unread es ≡ Ok (part.Value, tt)
  unread none = refl
  unread (more e es) = step frame.Unread frame.Unread part.Value part.Value true true e es (anything e) refl (unread es)

foreign : (p : Place) (es : Sexps) → finish (frame.Foreign p) es ≡ Ok (at_place p, tt)
unfolding walks context taken closed
foreign p none = refl
foreign p (more e es) = step (frame.Foreign p) (frame.Foreign p) part.Value (at_place p) true true e es (anything e) refl (foreign p es)

indexed : (es : Sexps) → finish frame.Indexed es ≡ checked (is.are_numerals es) part.Head
unfolding walk walks word_part opened context taken closed
indexed none = refl
indexed (more (atom k n) es) = step frame.Indexed frame.Indexed part.Numeral part.Head (is.is_numeral k) (is.are_numerals es) (atom k n) es (word want.Numeral k n _ _ refl) refl (indexed es)
indexed (more (group xs) es) = fails frame.Indexed (group xs) es refl

index_named : (es : Sexps) → finish frame.IndexNamed es ≡ checked (is.are_some_numerals es) part.Head
unfolding walk walks word_part opened context taken closed
index_named none = refl
index_named (more (atom k n) es) = step frame.IndexNamed frame.Indexed part.Numeral part.Head (is.is_numeral k) (is.are_numerals es) (atom k n) es (word want.Numeral k n _ _ refl) refl (indexed es)
index_named (more (group xs) es) = fails frame.IndexNamed (group xs) es refl

index_started : (es : Sexps) → finish frame.IndexStarted es ≡ checked (is.is_indexed es) part.Head
unfolding walk walks word_part opened context taken closed
index_started none = refl
index_started (more (atom k f) es) = step frame.IndexStarted frame.IndexNamed part.Symbol part.Head (is.is_symbol k) (is.are_some_numerals es) (atom k f) es (word want.Symbol k f _ _ refl) refl (index_named es)
index_started (more (group xs) es) = fails frame.IndexStarted (group xs) es refl

word_started : (es : Sexps) → finish frame.WordStarted es ≡ checked (is.is_word_value es) part.Term
unfolding walk walks word_part opened context taken closed
word_started none = refl
word_started (more (group xs) es) = fails frame.WordStarted (group xs) es refl
word_started (more (atom k b) none) =
    as_test _ _ _ _ (and_false (is.is_symbol k && is.is_word_name b))
    (step frame.WordStarted frame.WordNamed part.Symbol part.Term (is.is_symbol k && is.is_word_name b) false (atom k b) none (word want.WordName k b _ _ refl) refl refl)
word_started (more (atom k b) (more (group xs) es)) =
    as_test _ _ _ _ (and_false (is.is_symbol k && is.is_word_name b))
    (step frame.WordStarted frame.WordNamed part.Symbol part.Term (is.is_symbol k && is.is_word_name b) false (atom k b) (more (group xs) es) (word want.WordName k b _ _ refl) refl (fails frame.WordNamed (group xs) es refl))
word_started (more (atom k b) (more (atom l n) none)) =
    as_test _ _ _ _ (ap (λ c. (is.is_symbol k && is.is_word_name b) && c) (and_true (is.is_numeral l)))
    (step frame.WordStarted frame.WordNamed part.Symbol part.Term (is.is_symbol k && is.is_word_name b) _ (atom k b) (more (atom l n) none) (word want.WordName k b _ _ refl) refl
    (step frame.WordNamed frame.WordDone part.Numeral part.Term (is.is_numeral l) true (atom l n) none (word want.Numeral l n _ _ refl) refl refl))
word_started (more (atom k b) (more (atom l n) (more e es))) =
    as_test _ _ _ _ (ap (λ c. (is.is_symbol k && is.is_word_name b) && c) (and_false (is.is_numeral l)) ∙ and_false (is.is_symbol k && is.is_word_name b))
    (step frame.WordStarted frame.WordNamed part.Symbol part.Term (is.is_symbol k && is.is_word_name b) _ (atom k b) (more (atom l n) (more e es)) (word want.WordName k b _ _ refl) refl
    (step frame.WordNamed frame.WordDone part.Numeral part.Term (is.is_numeral l) false (atom l n) (more e es) (word want.Numeral l n _ _ refl) refl (fails frame.WordDone e es (nothing e))))

-- ---- heads that are not judged, and that of constant arrays

foreign_head : (es : Sexps) → finish frame.ForeignHead es ≡ Ok (part.ForeignHead, tt)
unfolding walks context taken closed
foreign_head none = refl
foreign_head (more e es) = step frame.ForeignHead frame.ForeignHead part.Value part.ForeignHead true true e es (anything e) refl (foreign_head es)

-- what follows `as`: `const` leads on
const_or : (b : Bool) (p : Part) (e : Sexp) (es : Sexps) → judge want.Const e ≡ Ok (cond b part.Const part.Value, tt) → finish frame.ConstRead es ≡ Ok (p, tt) → finish frame.AsStarted (more e es) ≡ Ok (cond b p part.ForeignHead, tt)
unfolding context taken
const_or true p e es j h = step frame.AsStarted frame.ConstRead part.Const p true true e es j refl h
const_or false p e es j h = step frame.AsStarted frame.ForeignHead part.Value part.ForeignHead true true e es j refl (foreign_head es)

one_part : (b : Bool) (p : Part) → checked true (cond b p p) ≡ checked true p
one_part true p = refl
one_part false p = refl

as_started : (hs : Sexps) → finish frame.AsStarted hs ≡ Ok (cond (is.is_constant_array hs) part.ConstantArray part.ForeignHead, tt)
unfolding walk walks word_part opened context taken closed
as_started none = refl
as_started (more (group xs) es) = step frame.AsStarted frame.ForeignHead part.Value part.ForeignHead true true (group xs) es (unread xs) refl (foreign_head es)
as_started (more (atom k c) none) = const_or (is.is_const k c) part.ForeignHead (atom k c) none refl refl ∙ one_part (is.is_const k c) part.ForeignHead
as_started (more (atom k c) (more s none)) =
    const_or (is.is_const k c) part.ConstantArray (atom k c) (more s none) refl
    (step frame.ConstRead frame.ConstSorted part.Value part.ConstantArray true true s none (anything s) refl refl)
as_started (more (atom k c) (more s (more e es))) =
    const_or (is.is_const k c) part.ForeignHead (atom k c) (more s (more e es)) refl
    (step frame.ConstRead frame.ConstSorted part.Value part.ForeignHead true true s (more e es) (anything s) refl
    (step frame.ConstSorted frame.ForeignHead part.Value part.ForeignHead true true e es (anything e) refl (foreign_head es)))
    ∙ one_part (is.is_const k c) part.ForeignHead

as_head : (x : List ℕ) (hs : Sexps) → judge want.Head (group (more (atom kind.As x) hs)) ≡ Ok (cond (is.is_constant_array hs) part.ConstantArray part.ForeignHead, tt)
unfolding walk walks word_part opened context taken closed
as_head x hs = finish-more frame.HeadStarted (atom kind.As x) hs ∙ as_started hs

of_as : (b d : Bool) (h : Sexp) (es : Sexps) → judge want.Head h ≡ Ok (cond b part.ConstantArray part.ForeignHead, tt) → finish frame.Applied es ≡ checked d part.Term → finish frame.TermStarted (more h es) ≡ checked (not b || d) part.Term
unfolding context taken
of_as true d h es j t = step frame.TermStarted frame.Applied part.ConstantArray part.Term true d h es j refl t
of_as false d h es j t = step frame.TermStarted (frame.Foreign place.Term) part.ForeignHead part.Term true true h es j refl (foreign place.Term es)

of_foreign : (k : TokenKind) (x : List ℕ) (hs es : Sexps) → word_part want.IndexHead k x ≡ Some part.Foreign → finish frame.TermStarted (more (group (more (atom k x) hs)) es) ≡ checked true part.Term
unfolding walk walks opened context taken closed
of_foreign k x hs es w =
    step frame.TermStarted (frame.Foreign place.Term) part.ForeignHead part.Term true true (group (more (atom k x) hs)) es
    (step frame.HeadStarted frame.ForeignHead part.Foreign part.ForeignHead true true (atom k x) hs (rw w refl) refl (foreign_head hs)) refl (foreign place.Term es)

-- a keyword, which may be `:named`
keyword : (f : Frame) (b n c d : Bool) (e : Sexp) (es : Sexps) → judge (context f) e ≡ checked b (cond n part.Named part.Keyword) → taken f part.Named ≡ Some frame.NamedRead → taken f part.Keyword ≡ Some frame.KeywordRead
    → finish frame.NamedRead es ≡ checked c part.Term → finish frame.KeywordRead es ≡ checked d part.Term → finish f (more e es) ≡ checked (b && cond n c d) part.Term
keyword f b true c d e es j t u h i = step f frame.NamedRead part.Named part.Term b c e es j t h
keyword f b false c d e es j t u h i = step f frame.KeywordRead part.Keyword part.Term b d e es j u i

-- a keyword or a value
value : (k n c d a : Bool) (e : Sexp) (es : Sexps) → judge want.AttributeValue e ≡ Ok (cond k (cond n part.Named part.Keyword) part.Value, tt)
    → finish frame.NamedRead es ≡ checked c part.Term → finish frame.KeywordRead es ≡ checked d part.Term → finish frame.ValueRead es ≡ checked a part.Term → finish frame.KeywordRead (more e es) ≡ checked (cond k (cond n c d) a) part.Term
unfolding context taken
value true true c d a e es j h i g = step frame.KeywordRead frame.NamedRead part.Named part.Term true c e es j refl h
value true false c d a e es j h i g = step frame.KeywordRead frame.KeywordRead part.Keyword part.Term true d e es j refl i
value false n c d a e es j h i g = step frame.KeywordRead frame.ValueRead part.Value part.Term true a e es j refl g

mutual
  unfolding walk walks word_part opened context taken closed

  attributes : (es : Sexps) → finish frame.ValueRead es ≡ checked (is.are_attributes es) part.Term
  attributes none = refl
  attributes (more (atom k x) es) = keyword frame.ValueRead (is.is_keyword k) (is.is_named x) _ _ (atom k x) es (word want.Attribute k x _ _ refl) refl refl (has_name es) (may_have_value es)
  attributes (more (group xs) es) = fails frame.ValueRead (group xs) es refl

  may_have_value : (es : Sexps) → finish frame.KeywordRead es ≡ checked (is.may_have_value es) part.Term
  may_have_value none = refl
  may_have_value (more (atom k x) es) = value (is.is_keyword k) (is.is_named x) _ _ _ (atom k x) es refl (has_name es) (may_have_value es) (attributes es)
  may_have_value (more (group xs) es) = step frame.KeywordRead frame.ValueRead part.Value part.Term true _ (group xs) es (unread xs) refl (attributes es)

  has_name : (es : Sexps) → finish frame.NamedRead es ≡ checked (is.has_name es) part.Term
  has_name none = refl
  has_name (more (atom k x) es) = step frame.NamedRead frame.ValueRead part.Name part.Term (is.is_name k) _ (atom k x) es (word want.Name k x _ _ refl) refl (attributes es)
  has_name (more (group xs) es) = fails frame.NamedRead (group xs) es refl

some_attributes : (es : Sexps) → finish frame.BangTerm es ≡ checked (is.are_some_attributes es) part.Term
unfolding walk walks word_part opened context taken closed
some_attributes none = refl
some_attributes (more (atom k x) es) = keyword frame.BangTerm (is.is_keyword k) (is.is_named x) _ _ (atom k x) es (word want.Attribute k x _ _ refl) refl refl (has_name es) (may_have_value es)
some_attributes (more (group xs) es) = fails frame.BangTerm (group xs) es refl

application : (h es : Sexps) (some all : Bool) → finish frame.Headed es ≡ checked some part.Term → finish frame.Applied es ≡ checked all part.Term → finish frame.TermStarted (more (group h) es) ≡ checked (is.is_headed h some all) part.Term
unfolding walk walks word_part opened context taken closed
application none es some all m t = fails frame.TermStarted (group none) es refl
application (more (group xs) hs) es some all m t = fails frame.TermStarted (group (more (group xs) hs)) es (fails frame.HeadStarted (group xs) hs refl)
application (more (atom kind.Underscore x) hs) es some all m t =
    step frame.TermStarted frame.Headed part.Head part.Term (is.is_indexed hs) some (group (more (atom kind.Underscore x) hs)) es
    (step frame.HeadStarted frame.IndexStarted part.Underscore part.Head true _ (atom kind.Underscore x) hs refl refl (index_started hs)) refl m
application (more (atom kind.As x) hs) es some all m t =
    of_as (is.is_constant_array hs) all (group (more (atom kind.As x) hs)) es (as_head x hs) t
application (more (atom kind.Exists x) hs) es some all m t = of_foreign kind.Exists x hs es refl
application (more (atom kind.Forall x) hs) es some all m t = of_foreign kind.Forall x hs es refl
application (more (atom kind.Match x) hs) es some all m t = of_foreign kind.Match x hs es refl
application (more (atom k x) hs) es some all m t = fails frame.TermStarted (group (more (atom k x) hs)) es (fails frame.HeadStarted (atom k x) hs refl)

-- ---- terms

mutual
  unfolding walk walks is_term are_terms are_some_terms is_let is_binding are_bindings are_some_bindings is_annotated word_part opened context taken closed

  pub term : (e : Sexp) → judge want.Term e ≡ checked (is_term e) part.Term
  term (atom k x) = word want.Term k x _ _ refl
  term (group none) = refl
  term (group (more (atom kind.Symbol x) es)) = step frame.TermStarted frame.Headed part.Head part.Term true _ (atom kind.Symbol x) es refl refl (some_terms es)
  term (group (more (atom kind.Let x) es)) = step frame.TermStarted frame.LetStarted part.Let part.Term true _ (atom kind.Let x) es refl refl (let_started es)
  term (group (more (atom kind.Bang x) es)) = step frame.TermStarted frame.BangStarted part.Bang part.Term true _ (atom kind.Bang x) es refl refl (annotated es)
  term (group (more (atom kind.Underscore x) es)) = step frame.TermStarted frame.WordStarted part.Underscore part.Term true _ (atom kind.Underscore x) es refl refl (word_started es)
  term (group (more (atom kind.As x) es)) = step frame.TermStarted (frame.Foreign place.Term) part.Foreign part.Term true true (atom kind.As x) es refl refl (foreign place.Term es)
  term (group (more (atom kind.Exists x) es)) = step frame.TermStarted (frame.Foreign place.Term) part.Foreign part.Term true true (atom kind.Exists x) es refl refl (foreign place.Term es)
  term (group (more (atom kind.Forall x) es)) = step frame.TermStarted (frame.Foreign place.Term) part.Foreign part.Term true true (atom kind.Forall x) es refl refl (foreign place.Term es)
  term (group (more (atom kind.Match x) es)) = step frame.TermStarted (frame.Foreign place.Term) part.Foreign part.Term true true (atom kind.Match x) es refl refl (foreign place.Term es)
  term (group (more (atom k x) es)) = fails frame.TermStarted (atom k x) es refl
  term (group (more (group h) es)) = application h es _ _ (some_terms es) (terms es)

  some_terms : (es : Sexps) → finish frame.Headed es ≡ checked (are_some_terms es) part.Term
  some_terms none = refl
  some_terms (more e es) = step frame.Headed frame.Applied part.Term part.Term (is_term e) _ e es (term e) refl (terms es)

  terms : (es : Sexps) → finish frame.Applied es ≡ checked (are_terms es) part.Term
  terms none = refl
  terms (more e es) = step frame.Applied frame.Applied part.Term part.Term (is_term e) _ e es (term e) refl (terms es)

  let_started : (es : Sexps) → finish frame.LetStarted es ≡ checked (is_let es) part.Term
  let_started none = refl
  let_started (more (atom k x) es) = fails frame.LetStarted (atom k x) es refl
  let_started (more (group bs) none) = as_test _ _ _ _ (and_false (are_some_bindings bs)) (step frame.LetStarted frame.LetBound part.Bindings part.Term (are_some_bindings bs) false (group bs) none (some_bindings bs) refl refl)
  let_started (more (group bs) (more body none)) =
      as_test _ _ _ _ (ap (λ c. are_some_bindings bs && c) (and_true (is_term body)))
      (step frame.LetStarted frame.LetBound part.Bindings part.Term (are_some_bindings bs) _ (group bs) (more body none) (some_bindings bs) refl (step frame.LetBound frame.LetDone part.Term part.Term (is_term body) true body none (term body) refl refl))
  let_started (more (group bs) (more body (more e es))) =
      as_test _ _ _ _ (ap (λ c. are_some_bindings bs && c) (and_false (is_term body)) ∙ and_false (are_some_bindings bs))
      (step frame.LetStarted frame.LetBound part.Bindings part.Term (are_some_bindings bs) _ (group bs) (more body (more e es)) (some_bindings bs) refl (step frame.LetBound frame.LetDone part.Term part.Term (is_term body) false body (more e es) (term body) refl (fails frame.LetDone e es (nothing e))))

  some_bindings : (bs : Sexps) → finish frame.NoBindings bs ≡ checked (are_some_bindings bs) part.Bindings
  some_bindings none = refl
  some_bindings (more b bs) = step frame.NoBindings frame.SomeBindings part.Binding part.Bindings (is_binding b) _ b bs (binding b) refl (bindings bs)

  bindings : (bs : Sexps) → finish frame.SomeBindings bs ≡ checked (are_bindings bs) part.Bindings
  bindings none = refl
  bindings (more b bs) = step frame.SomeBindings frame.SomeBindings part.Binding part.Bindings (is_binding b) _ b bs (binding b) refl (bindings bs)

  binding : (b : Sexp) → judge want.Binding b ≡ checked (is_binding b) part.Binding
  binding (atom k x) = refl
  binding (group none) = refl
  binding (group (more (group xs) es)) = fails frame.BindingStarted (group xs) es refl
  binding (group (more (atom k x) none)) = as_test _ _ _ _ (and_false (is.is_name k)) (step frame.BindingStarted frame.BindingNamed part.Name part.Binding (is.is_name k) false (atom k x) none (word want.Name k x _ _ refl) refl refl)
  binding (group (more (atom k x) (more t none))) =
      as_test _ _ _ _ (ap (λ c. is.is_name k && c) (and_true (is_term t)))
      (step frame.BindingStarted frame.BindingNamed part.Name part.Binding (is.is_name k) _ (atom k x) (more t none) (word want.Name k x _ _ refl) refl (step frame.BindingNamed frame.BindingDone part.Term part.Binding (is_term t) true t none (term t) refl refl))
  binding (group (more (atom k x) (more t (more e es)))) =
      as_test _ _ _ _ (ap (λ c. is.is_name k && c) (and_false (is_term t)) ∙ and_false (is.is_name k))
      (step frame.BindingStarted frame.BindingNamed part.Name part.Binding (is.is_name k) _ (atom k x) (more t (more e es)) (word want.Name k x _ _ refl) refl (step frame.BindingNamed frame.BindingDone part.Term part.Binding (is_term t) false t (more e es) (term t) refl (fails frame.BindingDone e es (nothing e))))

  annotated : (es : Sexps) → finish frame.BangStarted es ≡ checked (is_annotated es) part.Term
  annotated none = refl
  annotated (more t rest) = step frame.BangStarted frame.BangTerm part.Term part.Term (is_term t) _ t rest (term t) refl (some_attributes rest)

-- ---- sorts

bit_vec : (es : Sexps) → finish frame.BitVecStarted es ≡ checked (is.is_bit_vec es) part.Sort
unfolding walk walks word_part opened context taken closed
bit_vec none = refl
bit_vec (more (group xs) es) = fails frame.BitVecStarted (group xs) es refl
bit_vec (more (atom k b) none) =
    as_test _ _ _ _ (and_false (is.is_symbol k && bytes_eq b (codes "BitVec")))
    (step frame.BitVecStarted frame.BitVecNamed part.Symbol part.Sort (is.is_symbol k && bytes_eq b (codes "BitVec")) false (atom k b) none (word want.BitVec k b _ _ refl) refl refl)
bit_vec (more (atom k b) (more (group xs) es)) =
    as_test _ _ _ _ (and_false (is.is_symbol k && bytes_eq b (codes "BitVec")))
    (step frame.BitVecStarted frame.BitVecNamed part.Symbol part.Sort (is.is_symbol k && bytes_eq b (codes "BitVec")) false (atom k b) (more (group xs) es) (word want.BitVec k b _ _ refl) refl (fails frame.BitVecNamed (group xs) es refl))
bit_vec (more (atom k b) (more (atom l n) none)) =
    as_test _ _ _ _ (ap (λ c. (is.is_symbol k && bytes_eq b (codes "BitVec")) && c) (and_true (is.is_numeral l)))
    (step frame.BitVecStarted frame.BitVecNamed part.Symbol part.Sort (is.is_symbol k && bytes_eq b (codes "BitVec")) _ (atom k b) (more (atom l n) none) (word want.BitVec k b _ _ refl) refl
    (step frame.BitVecNamed frame.BitVecDone part.Numeral part.Sort (is.is_numeral l) true (atom l n) none (word want.Numeral l n _ _ refl) refl refl))
bit_vec (more (atom k b) (more (atom l n) (more e es))) =
    as_test _ _ _ _ (ap (λ c. (is.is_symbol k && bytes_eq b (codes "BitVec")) && c) (and_false (is.is_numeral l)) ∙ and_false (is.is_symbol k && bytes_eq b (codes "BitVec")))
    (step frame.BitVecStarted frame.BitVecNamed part.Symbol part.Sort (is.is_symbol k && bytes_eq b (codes "BitVec")) _ (atom k b) (more (atom l n) (more e es)) (word want.BitVec k b _ _ refl) refl
    (step frame.BitVecNamed frame.BitVecDone part.Numeral part.Sort (is.is_numeral l) false (atom l n) (more e es) (word want.Numeral l n _ _ refl) refl (fails frame.BitVecDone e es (nothing e))))

mutual
  unfolding walk walks is_sort are_two_sorts word_part opened context taken closed

  pub sort : (e : Sexp) → judge want.Sort e ≡ checked (is_sort e) part.Sort
  sort (atom k x) = word want.Sort k x _ _ refl
  sort (group none) = refl
  sort (group (more (atom kind.Symbol x) es)) = step frame.SortStarted frame.ArrayStarted part.Array part.Sort (bytes_eq x (codes "Array")) _ (atom kind.Symbol x) es (word want.SortHead kind.Symbol x _ _ refl) refl (two_sorts es)
  sort (group (more (atom kind.Underscore x) es)) = step frame.SortStarted frame.BitVecStarted part.Underscore part.Sort true _ (atom kind.Underscore x) es refl refl (bit_vec es)
  sort (group (more (atom kind.As x) es)) = step frame.SortStarted (frame.Foreign place.Sort) part.Foreign part.Sort true true (atom kind.As x) es refl refl (foreign place.Sort es)
  sort (group (more (atom kind.Exists x) es)) = step frame.SortStarted (frame.Foreign place.Sort) part.Foreign part.Sort true true (atom kind.Exists x) es refl refl (foreign place.Sort es)
  sort (group (more (atom kind.Forall x) es)) = step frame.SortStarted (frame.Foreign place.Sort) part.Foreign part.Sort true true (atom kind.Forall x) es refl refl (foreign place.Sort es)
  sort (group (more (atom kind.Match x) es)) = step frame.SortStarted (frame.Foreign place.Sort) part.Foreign part.Sort true true (atom kind.Match x) es refl refl (foreign place.Sort es)
  sort (group (more (atom k x) es)) = fails frame.SortStarted (atom k x) es refl
  sort (group (more (group h) es)) = fails frame.SortStarted (group h) es refl

  two_sorts : (es : Sexps) → finish frame.ArrayStarted es ≡ checked (are_two_sorts es) part.Sort
  two_sorts none = refl
  two_sorts (more s none) = as_test _ _ _ _ (and_false (is_sort s)) (step frame.ArrayStarted frame.ArrayIndexed part.Sort part.Sort (is_sort s) false s none (sort s) refl refl)
  two_sorts (more s (more t none)) =
      as_test _ _ _ _ (ap (λ c. is_sort s && c) (and_true (is_sort t)))
      (step frame.ArrayStarted frame.ArrayIndexed part.Sort part.Sort (is_sort s) _ s (more t none) (sort s) refl (step frame.ArrayIndexed frame.ArrayDone part.Sort part.Sort (is_sort t) true t none (sort t) refl refl))
  two_sorts (more s (more t (more e es))) =
      as_test _ _ _ _ (ap (λ c. is_sort s && c) (and_false (is_sort t)) ∙ and_false (is_sort s))
      (step frame.ArrayStarted frame.ArrayIndexed part.Sort part.Sort (is_sort s) _ s (more t (more e es)) (sort s) refl (step frame.ArrayIndexed frame.ArrayDone part.Sort part.Sort (is_sort t) false t (more e es) (sort t) refl (fails frame.ArrayDone e es (nothing e))))

-- ---- lists in commands

sorts : (es : Sexps) → finish frame.SortList es ≡ checked (is.are_sorts es) part.List
unfolding walk walks context taken closed
sorts none = refl
sorts (more s ss) = step frame.SortList frame.SortList part.Sort part.List (is_sort s) _ s ss (sort s) refl (sorts ss)

parameter : (p : Sexp) → judge want.Parameter p ≡ checked (is.is_parameter p) part.Parameter
unfolding walk walks word_part opened context taken closed
parameter (atom k x) = refl
parameter (group none) = refl
parameter (group (more (group xs) es)) = fails frame.ParameterStarted (group xs) es refl
parameter (group (more (atom k x) none)) = as_test _ _ _ _ (and_false (is.is_name k)) (step frame.ParameterStarted frame.ParameterNamed part.Name part.Parameter (is.is_name k) false (atom k x) none (word want.Name k x _ _ refl) refl refl)
parameter (group (more (atom k x) (more s none))) =
    as_test _ _ _ _ (ap (λ c. is.is_name k && c) (and_true (is_sort s)))
    (step frame.ParameterStarted frame.ParameterNamed part.Name part.Parameter (is.is_name k) _ (atom k x) (more s none) (word want.Name k x _ _ refl) refl (step frame.ParameterNamed frame.ParameterDone part.Sort part.Parameter (is_sort s) true s none (sort s) refl refl))
parameter (group (more (atom k x) (more s (more e es)))) =
    as_test _ _ _ _ (ap (λ c. is.is_name k && c) (and_false (is_sort s)) ∙ and_false (is.is_name k))
    (step frame.ParameterStarted frame.ParameterNamed part.Name part.Parameter (is.is_name k) _ (atom k x) (more s (more e es)) (word want.Name k x _ _ refl) refl (step frame.ParameterNamed frame.ParameterDone part.Sort part.Parameter (is_sort s) false s (more e es) (sort s) refl (fails frame.ParameterDone e es (nothing e))))

parameters : (es : Sexps) → finish frame.ParameterList es ≡ checked (is.are_parameters es) part.List
unfolding walk walks context taken closed
parameters none = refl
parameters (more p ps) = step frame.ParameterList frame.ParameterList part.Parameter part.List (is.is_parameter p) _ p ps (parameter p) refl (parameters ps)

term_list : (es : Sexps) → finish frame.TermList es ≡ checked (are_terms es) part.List
unfolding walk walks are_terms context taken closed
term_list none = refl
term_list (more e es) = step frame.TermList frame.TermList part.Term part.List (is_term e) _ e es (term e) refl (term_list es)

some_term_list : (es : Sexps) → finish frame.NoTerms es ≡ checked (are_some_terms es) part.List
unfolding walk walks are_some_terms context taken closed
some_term_list none = refl
some_term_list (more e es) = step frame.NoTerms frame.TermList part.Term part.List (is_term e) _ e es (term e) refl (term_list es)

-- ---- the parts of commands

passes : (b : Bool) (p : Part) (x : Seen Part) → x ≡ checked b p → is_ok x ≡ b
passes true p x e = rw e refl
passes false p x e = rw e refl

one_word : (w : Want) (k : TokenKind) (x : List ℕ) (b : Bool) (p : Part) → word_part w k x ≡ part_if b p → is_ok (judge w (atom k x)) ≡ b
one_word w k x b p e = passes b p _ (word w k x b p e)

-- the walk accepts exactly the parts that fit
pub fits-walk : (f : Form) (e : Sexp) → is_ok (judge (want_of f) e) ≡ fits f e
unfolding walk walks word_part opened context closed
fits-walk form.Term e = passes _ _ _ (term e)
fits-walk form.Sort e = passes _ _ _ (sort e)
fits-walk form.Name (atom k x) = one_word want.Name k x _ _ refl
fits-walk form.Name (group es) = refl
fits-walk form.Symbol (atom k x) = one_word want.Symbol k x _ _ refl
fits-walk form.Symbol (group es) = refl
fits-walk form.Numeral (atom k x) = one_word want.Numeral k x _ _ refl
fits-walk form.Numeral (group es) = refl
fits-walk form.String (atom k x) = one_word want.String k x _ _ refl
fits-walk form.String (group es) = refl
fits-walk form.Keyword (atom k x) = one_word want.Keyword k x _ _ refl
fits-walk form.Keyword (group es) = refl
fits-walk form.Option (atom k x) = one_word want.Option k x _ _ refl
fits-walk form.Option (group es) = refl
fits-walk form.OtherOption (atom k x) = one_word want.OtherOption k x _ _ refl
fits-walk form.OtherOption (group es) = refl
fits-walk form.Boolean (atom k x) = one_word want.Boolean k x _ _ refl
fits-walk form.Boolean (group es) = refl
fits-walk form.Value (atom k x) = one_word want.Value k x _ _ refl
fits-walk form.Value (group es) = passes true part.Value _ (unread es)
fits-walk form.Empty (atom k x) = refl
fits-walk form.Empty (group none) = refl
fits-walk form.Empty (group (more e es)) = passes false part.List _ (fails frame.EmptyList e es (nothing e))
fits-walk form.Sorts (atom k x) = refl
fits-walk form.Sorts (group es) = passes _ _ _ (sorts es)
fits-walk form.Parameters (atom k x) = refl
fits-walk form.Parameters (group es) = passes _ _ _ (parameters es)
fits-walk form.Terms (atom k x) = refl
fits-walk form.Terms (group es) = passes _ _ _ (term_list es)
fits-walk form.SomeTerms (atom k x) = refl
fits-walk form.SomeTerms (group es) = passes _ _ _ (some_term_list es)
