-- Rows of checkpoints, worked out by hand.
use Rattle.std.proofs.Common.{◌≡◌, true, false, refl, Some, None}
use Rattle.idle.specs.Alike.{same_flag, same_waiting}

same_flags_set : same_flag true true ≡ true
same_flags_set = refl

other_flag : same_flag true false ≡ false
other_flag = refl

same_flags_unset : same_flag false false ≡ true
same_flags_unset = refl

same_word_waits : same_waiting (Some 5) (Some 5) ≡ true
same_word_waits = refl

other_word_waits : same_waiting (Some 5) (Some 4) ≡ false
other_word_waits = refl

word_waits_in_one : same_waiting (Some 5) None ≡ false
word_waits_in_one = refl

nothing_waits : same_waiting None None ≡ true
nothing_waits = refl
