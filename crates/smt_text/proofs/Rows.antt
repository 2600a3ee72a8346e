-- Worked rows: the chunks and tokens of a script, computed by the definitions.
use Rattle.std.proofs.Common.{◌≡◌, ℕ, false, List, [], ◌∷◌, refl, Some, None, Ok, Err, codes}
use Rattle.smt_text.specs.Search.{stop_at}
use Rattle.smt_text.specs.Chunks.{first_cut}
use Rattle.smt_text.specs.Framing.{Held, first_chunk, last_chunk}
use Rattle.smt_text.specs.Script.{AreChunks}
use Rattle.smt_text.specs.Lexicon.{Lexeme, reserved_kind, string_end, lexeme_at, first_token}
use Rattle.smt_text.specs.Tokens.{AreTokens}
use Rattle.smt_text.specs.declared.chunk.Chunk.{Chunk}
use Rattle.smt_text.specs.declared.chunk.ChunkKind.TheVariants.{Balanced}
use Rattle.smt_text.specs.declared.token.CommandName.TheVariants as command
use Rattle.smt_text.specs.declared.token.TokenKind.{TokenKind}
use Rattle.smt_text.specs.declared.token.TokenKind.TheVariants.{Open, Close, Numeral, Hexadecimal, Symbol, Underscore, Command}

-- parentheses in a string and in a quoted symbol do not count
balanced : first_cut (codes "(a \")\" |)|)") ≡ Some (record { kind = Balanced; before = 0; size = 11 })
unfolding first_cut stop_at
balanced = refl

-- before the last piece no chunk is whole
not_yet : first_cut (codes "(a \")\" |)") ≡ None
unfolding first_cut stop_at
not_yet = refl

-- a script of two declarations, assertions and checks
abbrev pub script : List ℕ
script = codes "(declare-const x (_ BitVec 8)) (declare-const y (_ BitVec 8)) (assert (= (bvadd x y) #x0f)) (assert (= (bvand x #xf0) (bvnot #x0f))) (assert (= y #x1f)) (check-sat) (assert (= x y)) (check-sat)"

abbrev command_on_line_one : List ℕ → Chunk
command_on_line_one text = record { line = 1; kind = Balanced; text = text }

abbrev behind : List ℕ → Held
behind bytes = record { line = 1; bytes = bytes }

abbrev pub script_chunks : List Chunk
script_chunks =
    command_on_line_one (codes "(declare-const x (_ BitVec 8))")
    ∷ command_on_line_one (codes "(declare-const y (_ BitVec 8))")
    ∷ command_on_line_one (codes "(assert (= (bvadd x y) #x0f))")
    ∷ command_on_line_one (codes "(assert (= (bvand x #xf0) (bvnot #x0f)))")
    ∷ command_on_line_one (codes "(assert (= y #x1f))")
    ∷ command_on_line_one (codes "(check-sat)")
    ∷ command_on_line_one (codes "(assert (= x y))")
    ∷ command_on_line_one (codes "(check-sat)")
    ∷ []

pub chunks_of_script : AreChunks script script_chunks
unfolding first_chunk last_chunk first_cut stop_at
chunks_of_script = record {
  whole = script_chunks;
  rest = behind [];
  begins = (
    behind (codes " (declare-const y (_ BitVec 8)) (assert (= (bvadd x y) #x0f)) (assert (= (bvand x #xf0) (bvnot #x0f))) (assert (= y #x1f)) (check-sat) (assert (= x y)) (check-sat)"),
    refl,
    (
      behind (codes " (assert (= (bvadd x y) #x0f)) (assert (= (bvand x #xf0) (bvnot #x0f))) (assert (= y #x1f)) (check-sat) (assert (= x y)) (check-sat)"),
      refl,
      (
        behind (codes " (assert (= (bvand x #xf0) (bvnot #x0f))) (assert (= y #x1f)) (check-sat) (assert (= x y)) (check-sat)"),
        refl,
        (
          behind (codes " (assert (= y #x1f)) (check-sat) (assert (= x y)) (check-sat)"),
          refl,
          (
            behind (codes " (check-sat) (assert (= x y)) (check-sat)"),
            refl,
            (
              behind (codes " (assert (= x y)) (check-sat)"),
              refl,
              (
                behind (codes " (check-sat)"),
                refl,
                (
                  behind [],
                  refl,
                  refl,
                ),
              ),
            ),
          ),
        ),
      ),
    ),
  );
  ends = refl;
  all = refl;
}

abbrev opens : Lexeme
opens = record { kind = Open; text = []; quoted = false }

abbrev closes : Lexeme
closes = record { kind = Close; text = []; quoted = false }

abbrev word : TokenKind → List ℕ → Lexeme
word kind text = record { kind = kind; text = text; quoted = false }

-- the tokens of each of its commands
abbrev pub declares_x : List Lexeme
declares_x =
    opens
    ∷ word (Command command.DeclareConst) (codes "declare-const")
    ∷ word Symbol (codes "x")
    ∷ opens
    ∷ word Underscore (codes "_")
    ∷ word Symbol (codes "BitVec")
    ∷ word Numeral (codes "8")
    ∷ closes
    ∷ closes
    ∷ []

pub declares_x_reads : AreTokens (codes "(declare-const x (_ BitVec 8))") declares_x
unfolding first_token lexeme_at reserved_kind stop_at
declares_x_reads = record {
  place = 30;
  rest = [];
  spells = (1, refl, (13, refl, (2, refl, (2, refl, (1, refl, (7, refl, (2, refl, (1, refl, (1, refl, (refl, refl))))))))));
  ends = refl;
}

abbrev pub declares_y : List Lexeme
declares_y =
    opens
    ∷ word (Command command.DeclareConst) (codes "declare-const")
    ∷ word Symbol (codes "y")
    ∷ opens
    ∷ word Underscore (codes "_")
    ∷ word Symbol (codes "BitVec")
    ∷ word Numeral (codes "8")
    ∷ closes
    ∷ closes
    ∷ []

pub declares_y_reads : AreTokens (codes "(declare-const y (_ BitVec 8))") declares_y
unfolding first_token lexeme_at reserved_kind stop_at
declares_y_reads = record {
  place = 30;
  rest = [];
  spells = (1, refl, (13, refl, (2, refl, (2, refl, (1, refl, (7, refl, (2, refl, (1, refl, (1, refl, (refl, refl))))))))));
  ends = refl;
}

abbrev pub asserts_sum : List Lexeme
asserts_sum =
    opens
    ∷ word (Command command.Assert) (codes "assert")
    ∷ opens
    ∷ word Symbol (codes "=")
    ∷ opens
    ∷ word Symbol (codes "bvadd")
    ∷ word Symbol (codes "x")
    ∷ word Symbol (codes "y")
    ∷ closes
    ∷ word Hexadecimal (codes "#x0f")
    ∷ closes
    ∷ closes
    ∷ []

pub asserts_sum_reads : AreTokens (codes "(assert (= (bvadd x y) #x0f))") asserts_sum
unfolding first_token lexeme_at reserved_kind stop_at
asserts_sum_reads = record {
  place = 29;
  rest = [];
  spells = (1, refl, (6, refl, (2, refl, (1, refl, (2, refl, (5, refl, (2, refl, (2, refl, (1, refl, (5, refl, (1, refl, (1, refl, (refl, refl)))))))))))));
  ends = refl;
}

abbrev pub asserts_mask : List Lexeme
asserts_mask =
    opens
    ∷ word (Command command.Assert) (codes "assert")
    ∷ opens
    ∷ word Symbol (codes "=")
    ∷ opens
    ∷ word Symbol (codes "bvand")
    ∷ word Symbol (codes "x")
    ∷ word Hexadecimal (codes "#xf0")
    ∷ closes
    ∷ opens
    ∷ word Symbol (codes "bvnot")
    ∷ word Hexadecimal (codes "#x0f")
    ∷ closes
    ∷ closes
    ∷ closes
    ∷ []

pub asserts_mask_reads : AreTokens (codes "(assert (= (bvand x #xf0) (bvnot #x0f)))") asserts_mask
unfolding first_token lexeme_at reserved_kind stop_at
asserts_mask_reads = record {
  place = 40;
  rest = [];
  spells = (1, refl, (6, refl, (2, refl, (1, refl, (2, refl, (5, refl, (2, refl, (5, refl, (1, refl, (2, refl, (5, refl, (5, refl, (1, refl, (1, refl, (1, refl, (refl, refl))))))))))))))));
  ends = refl;
}

abbrev pub asserts_y : List Lexeme
asserts_y =
    opens
    ∷ word (Command command.Assert) (codes "assert")
    ∷ opens
    ∷ word Symbol (codes "=")
    ∷ word Symbol (codes "y")
    ∷ word Hexadecimal (codes "#x1f")
    ∷ closes
    ∷ closes
    ∷ []

pub asserts_y_reads : AreTokens (codes "(assert (= y #x1f))") asserts_y
unfolding first_token lexeme_at reserved_kind stop_at
asserts_y_reads = record {
  place = 19;
  rest = [];
  spells = (1, refl, (6, refl, (2, refl, (1, refl, (2, refl, (5, refl, (1, refl, (1, refl, (refl, refl)))))))));
  ends = refl;
}

abbrev pub checks : List Lexeme
checks =
    opens
    ∷ word (Command command.CheckSat) (codes "check-sat")
    ∷ closes
    ∷ []

pub checks_reads : AreTokens (codes "(check-sat)") checks
unfolding first_token lexeme_at reserved_kind stop_at
checks_reads = record {
  place = 11;
  rest = [];
  spells = (1, refl, (9, refl, (1, refl, (refl, refl))));
  ends = refl;
}

abbrev pub asserts_equal : List Lexeme
asserts_equal =
    opens
    ∷ word (Command command.Assert) (codes "assert")
    ∷ opens
    ∷ word Symbol (codes "=")
    ∷ word Symbol (codes "x")
    ∷ word Symbol (codes "y")
    ∷ closes
    ∷ closes
    ∷ []

pub asserts_equal_reads : AreTokens (codes "(assert (= x y))") asserts_equal
unfolding first_token lexeme_at reserved_kind stop_at
asserts_equal_reads = record {
  place = 16;
  rest = [];
  spells = (1, refl, (6, refl, (2, refl, (1, refl, (2, refl, (2, refl, (1, refl, (1, refl, (refl, refl)))))))));
  ends = refl;
}

-- each of these words is a bad token, told at its first byte
bad_words : first_token (codes "1a") ≡ Err 0 × (first_token (codes " 00") ≡ Err 1) × (first_token (codes "1.") ≡ Err 0) × (first_token (codes "#b2") ≡ Err 0) × (first_token (codes ":") ≡ Err 0) × (first_token (codes "|a\\|") ≡ Err 0) × (first_token (codes "\"a") ≡ Err 0)
unfolding first_token lexeme_at reserved_kind string_end stop_at
bad_words = (refl, refl, refl, refl, refl, refl, refl)

-- tokens touch where a quote begins or ends one, and only the line feed ends a comment
touching : first_token (codes "p\"s\"") ≡ Ok (Some (word Symbol (codes "p"), 1)) × (first_token (59 ∷ 13 ∷ 40 ∷ 10 ∷ 41 ∷ []) ≡ Ok (Some (closes, 5)))
unfolding first_token lexeme_at reserved_kind string_end stop_at
touching = (refl, refl)
