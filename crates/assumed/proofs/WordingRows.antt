-- Assumed forms, worked by hand.
use Rattle.std.proofs.Common.{◌≡◌, ℕ, List, [], ◌∷◌, ◌++◌, Some, None, refl}
use Rattle.std.specs.Prelude.{codes}
use Rattle.agc_text.specs.Fields.{runs}
use Rattle.yayul.specs.Operators.{operator_rows}
use Rattle.yayul.specs.Flight.{flight_rows}
use Rattle.assumed.specs.declared.wording.Wording.{Wording}
use Rattle.assumed.specs.declared.wording.Wording.TheVariants.{MajorMode, NounVerb, FarBanks, Pointer, BankWord, EraseCount, EraseAddress}
use Rattle.assumed.specs.declared.wording.Wording.TheVariants.{DecimalDigits}
use Rattle.assumed.specs.Sources.{edited, line_assumed}
use Rattle.assumed.specs.Wordings.{wording_named}

abbrev by : Wording → List ℕ → List ℕ
by wording text = line_assumed (wording ∷ []) text

major_mode : by MajorMode (codes "MODE MM 37 # P37") ≡ codes "MODE DEC 37 # P37 # ASSUMED MM=DEC"
unfolding runs operator_rows flight_rows edited
major_mode = refl

noun_verb : by NounVerb (codes " NV 0509") ≡ codes " VN 0509 # ASSUMED NV=VN"
unfolding runs operator_rows flight_rows edited
noun_verb = refl

far_banks : by FarBanks (codes "+0 2BCADR X") ≡ codes "+0 2CADR X # ASSUMED 2BCADR=2CADR"
unfolding runs operator_rows flight_rows edited
far_banks = refl

pointer : by Pointer (codes " DNPTR LIST +1") ≡ codes " CA LIST +1 # ASSUMED DNPTR=CA"
unfolding runs operator_rows flight_rows edited
pointer = refl

bank_word : by BankWord (codes " BBCON*") ≡ codes " OCT 66100 # ASSUMED BBCON*=66100"
unfolding runs operator_rows flight_rows edited
bank_word = refl

erase_count : by EraseCount (codes "X ERASE 7 #") ≡ codes "X ERASE +7 # # ASSUMED ERASE=COUNT"
unfolding runs operator_rows flight_rows edited
erase_count = refl

erase_address : by EraseAddress (codes "X ERASE 7") ≡ codes "X EQUALS 7 # ASSUMED ERASE=EQUALS"
unfolding runs operator_rows flight_rows edited
erase_address = refl

-- a count stays, and so does a range
erase_with_a_sign : by EraseCount (codes "X ERASE +7") ≡ codes "X ERASE +7"
unfolding runs operator_rows flight_rows edited
erase_with_a_sign = refl

erase_of_a_range : by EraseCount (codes "X ERASE 0 - 7") ≡ codes "X ERASE 0 - 7"
unfolding runs operator_rows flight_rows edited
erase_of_a_range = refl

late_digit_of_an_offset : by DecimalDigits (codes " CA TAB +8") ≡ codes " CA TAB +8D # ASSUMED 8=8D"
unfolding runs operator_rows flight_rows edited
late_digit_of_an_offset = refl

late_digit_of_a_number : by DecimalDigits (codes "N = 19 # n") ≡ codes "N = 19D # n # ASSUMED 8=8D"
unfolding runs operator_rows flight_rows edited
late_digit_of_a_number = refl

-- what is decimal already stays
marked_stays : by DecimalDigits (codes " CA TAB +18D") ≡ codes " CA TAB +18D"
unfolding runs operator_rows flight_rows edited
marked_stays = refl

-- DEC takes decimal digits as they stand, and OCT none; octal digits stay
decimal_stays : by DecimalDigits (codes " DEC 8") ≡ codes " DEC 8"
unfolding runs operator_rows flight_rows edited
decimal_stays = refl

octal_stays : by DecimalDigits (codes " CA TAB +7") ≡ codes " CA TAB +7"
unfolding runs operator_rows flight_rows edited
octal_stays = refl

-- the first of two wordings of one form counts
first_counts : line_assumed (EraseAddress ∷ EraseCount ∷ []) (codes "X ERASE 7") ≡ codes "X EQUALS 7 # ASSUMED ERASE=EQUALS"
unfolding runs operator_rows flight_rows edited
first_counts = refl

-- what is not assumed stays
not_assumed : by NounVerb (codes " MM 37") ≡ codes " MM 37"
unfolding runs operator_rows flight_rows edited
not_assumed = refl

named : wording_named (codes "2BCADR=2CADR") ≡ Some FarBanks
named = refl

named_otherwise : wording_named (codes "2BCADR=BBCON") ≡ None
named_otherwise = refl
