-- The reader of shapes as a machine of one step a token.
use Rattle.std.specs.Prelude.{◌≡◌, Bool, true, false, List, [], ◌∷◌, reverse, Option, Some, None, Result, Ok, Err}
use Rattle.std.specs.declared.alloc.AllocError.{AllocError}
use Rattle.smt_syntax.specs.Sexps.{Sign, open_paren, close_paren, word}
use Rattle.smt_syntax.specs.Walk.{context_in}
use Rattle.smt_syntax.specs.ShapeReader.{word_part, opened, taken, closed, shape_reader}
use Rattle.smt_syntax.specs.declared.shape.Want.{Want}
use Rattle.smt_syntax.specs.declared.shape.Frame.{Frame}
use Rattle.smt_syntax.specs.declared.shape.Part.{Part}

-- the reading ends with an answer, or goes on with these lists open, the innermost first
pub data Step : Type 0 where
  ends : Bool → Step
  goes : List Frame → Step

abbrev pub taken_by : Option Frame → List Frame → Step
taken_by None fs = ends false
taken_by (Some g) fs = goes (g ∷ fs)

-- a part is handed to its list
abbrev pub handed : List Frame → Part → Step
handed [] p = ends true
handed (f ∷ fs) p = taken_by (taken f p) fs

abbrev pub handed_by : List Frame → Option Part → Step
handed_by st None = ends false
handed_by st (Some p) = handed st p

abbrev pub opened_by : Option Frame → List Frame → Step
opened_by None st = ends false
opened_by (Some f) st = goes (f ∷ st)

abbrev pub step_of : Want → List Frame → Sign → Step
step_of w st open_paren = opened_by (opened (context_in shape_reader w st)) st
step_of w [] close_paren = ends false
step_of w (f ∷ fs) close_paren = handed_by fs (closed f)
step_of w st (word k x) = handed_by st (word_part (context_in shape_reader w st) k x)

-- the open lists are kept with the innermost last
abbrev pub stack_of : List Frame → List Frame
stack_of frames = reverse frames

-- The answer is the step, with the lists that are open then.
abbrev pub Steps : Step → Result (Option Bool) AllocError → List Frame → Type 0
Steps to (Ok None) frames = to ≡ goes (stack_of frames)
Steps to (Ok (Some b)) frames = to ≡ ends b
Steps to (Err e) frames = Unit {0}
