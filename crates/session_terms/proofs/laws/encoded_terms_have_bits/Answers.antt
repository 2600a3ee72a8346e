use Rattle.session_terms.proofs.Walked.{is_rewritten, have_bits, led_by_images, word_row}
use Rattle.session_terms.proofs.laws.encoded_terms_have_bits.Goals as goal

pub returns : goal.returns
returns c = record { rewritten = is_rewritten; bits = have_bits; reached = led_by_images; words = word_row }
