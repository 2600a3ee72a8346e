-- The words that the seed 0 draws first, and the end of their summary.
use Rattle.std.proofs.Common.{◌≡◌, refl, true}
use Rattle.std.specs.Prelude.{codes}
use Rattle.drill_script.specs.Scripts.{state_after, drawn, hexadecimal}
use Rattle.drill_script.specs.Summaries.{tally_of, last_text}

first_state : hexadecimal 16 (state_after 0 1) ≡ codes "14057b7ef767814f"
first_state = refl

first_word : hexadecimal 8 (drawn (state_after 0 1)) ≡ codes "14057b7e"
first_word = refl

second_word : last_text (tally_of (codes "sat\nunsat\nsat\nunsat\n")).before (drawn (state_after 0 2)) ≡ codes "last #x1a08ee11\n"
second_word = refl
