-- A drawn script is short.
use Rattle.std.proofs.Common.{◌≡◌, ℕ, zero, suc, ◌+◌, ◌*◌, ◌^◌, ◌/◌, ◌%◌, ◌<◌, ◌≤◌, List, [], ◌∷◌, ◌++◌, length, codes, refl, arith, length-append}
use Rattle.std.proofs.lemmas.Fmt.{length-decimal-le}
use Rattle.std.specs.Fmt.{decimal}
use Rattle.drill_script.specs.Scripts.{state_after, drawn, digit, hexadecimal, around, opening, word_lines, successor_lines, block, blocks, drill_script}

two : (xs ys : List ℕ) (a b : ℕ) → length xs ≤ a → length ys ≤ b → length (xs ++ ys) ≤ a + b
two xs ys a b l m = rw length-append (omega (arith, l, m))

at_most : (xs : List ℕ) (a : ℕ) → length xs ≡ a → length xs ≤ a
at_most xs a e = omega (arith, e)

three : (xs ys zs : List ℕ) (a b c : ℕ) → length xs ≤ a → length ys ≤ b → length zs ≤ c → length (xs ++ ys ++ zs) ≤ a + (b + c)
three xs ys zs a b c l m n = let h = two (xs ++ ys) zs (a + b) c (two xs ys a b l m) n in omega (arith, h)

around_at : (before : List ℕ) (k : ℕ) (after : List ℕ) (a b : ℕ) → length before ≡ a → length after ≡ b → k < 2 ^ 64 → length (around before k after) ≤ a + (20 + b)
around_at before k after a b e f small =
    three before (decimal k) after a 20 b (at_most before a e) (length-decimal-le 20 k (omega arith) (omega (arith, small)) small) (at_most after b f)

digits_length : (count number : ℕ) → length (hexadecimal count number) ≤ count
digits_length zero number = omega arith
digits_length (suc count) number = let h = two (hexadecimal count (number / 16)) (digit (number % 16) ∷ []) count 1 (digits_length count (number / 16)) (omega arith) in omega (arith, h)

word_length : (k word : ℕ) → k < 2 ^ 64 → length (word_lines k word) ≤ 300
word_length k word small =
    let declared = around (codes "(declare-const x") k (codes " (_ BitVec 32))\n") in
    let equal = around (codes "(assert (= (bvxor x") k (codes " #x") in
    let selected = codes ") #x00000000))\n(assert (= (select a #x" in
    let checked = around (codes ") x") k (codes "))\n(check-sat)\n") in
    let a = around_at (codes "(declare-const x") k (codes " (_ BitVec 32))\n") 16 16 refl refl small in
    let b = around_at (codes "(assert (= (bvxor x") k (codes " #x") 19 3 refl refl small in
    let f = around_at (codes ") x") k (codes "))\n(check-sat)\n") 3 15 refl refl small in
    let ab = two declared equal 52 42 a b in
    let abc = two (declared ++ equal) (hexadecimal 8 word) 94 8 ab (digits_length 8 word) in
    let abcd = two (declared ++ equal ++ hexadecimal 8 word) selected 102 38 abc (at_most selected 38 refl) in
    let abcde = two (declared ++ equal ++ hexadecimal 8 word ++ selected) (hexadecimal 4 k) 140 4 abcd (digits_length 4 k) in
    let h = two (declared ++ equal ++ hexadecimal 8 word ++ selected ++ hexadecimal 4 k) checked 144 38 abcde f in
    omega (arith, h)

successor_length : (k word : ℕ) → k < 2 ^ 64 → length (successor_lines k word) ≤ 200
successor_length k word small =
    let pushed = around (codes "(push 1)\n(assert (= (bvadd x") k (codes " #x00000001) #x") in
    let popped = codes "))\n(check-sat)\n(pop 1)\n" in
    let a = around_at (codes "(push 1)\n(assert (= (bvadd x") k (codes " #x00000001) #x") 28 15 refl refl small in
    let ab = two pushed (hexadecimal 8 word) 63 8 a (digits_length 8 word) in
    let h = two (pushed ++ hexadecimal 8 word) popped 71 23 ab (at_most popped 23 refl) in
    omega (arith, h)

blocks_length : (seed size : ℕ) → size ≤ 1000 → length (blocks seed size) ≤ 500 * size
blocks_length seed zero small = omega arith
blocks_length seed (suc k) small =
    let word = drawn (state_after seed (suc k)) in
    let one = two (word_lines k word) (successor_lines k word) 300 200 (word_length k word (omega (arith, small))) (successor_length k word (omega (arith, small))) in
    let h = two (blocks seed k) (block k word) (500 * k) 500 (blocks_length seed k (omega (arith, small))) one in
    omega (arith, h)

-- a drawn script of at most 1000 words is no longer than a script may be
pub script_length : (seed size : ℕ) → size ≤ 1000 → length (drill_script seed size) ≤ 2 ^ 32
script_length seed size small = let h = two opening (blocks seed size) 75 (500 * size) (at_most opening 75 refl) (blocks_length seed size small) in omega (arith, h, small)
