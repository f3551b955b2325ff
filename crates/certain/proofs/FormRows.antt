-- Of which forms the words of lines are, worked by hand: FAR and X are places, -Y is a name.
use Rattle.std.proofs.Common.{◌≡◌, ℕ, List, [], ◌∷◌, ◌++◌, Option, Some, None, Bool, true, false, refl}
use Rattle.std.specs.Fmt.{digits}
use Rattle.std.specs.Prelude.{codes}
use Rattle.agc_text.specs.Fields.{runs}
use Rattle.rope.specs.Places.{Words, word_at}
use Rattle.yayul.specs.Listing.{number_column}
use Rattle.yayul.specs.Readings.{parts_for}
use Rattle.yayul.specs.declared.language.Language.TheVariants.{Flight}
use Rattle.certain.specs.declared.form.UncertainForm.{UncertainForm}
use Rattle.certain.specs.declared.form.UncertainForm.TheVariants.{SuperbankBits, HeldBank, GeneralAddress, Downlist, Complement, OctalWords}
use Rattle.certain.specs.declared.form.UncertainForm.TheVariants.{SignedOctal, ScaledDecimal, PlaceNumber, VerbNoun, SignedName}
use Rattle.certain.specs.declared.line_forms.EbankUse.TheVariants.{Missing, Unused, Used}
use Rattle.certain.specs.declared.line_forms.LineForms.{LineForms}
use Rattle.certain.specs.Comparison.{form_text, uncertain_text}
use Rattle.certain.specs.LineForms.{both, ebank_after, forms_on, second_at}
use Rattle.certain.specs.Places.{row_passed, rows_passed, start_with}
use Rattle.yayul.specs.PlaceMargin.{is_second, place_before, place_margin, text_on}
use Rattle.yayul.specs.Operators.{operator_rows}
use Rattle.yayul.specs.Flight.{flight_rows}

abbrev lf : List ℕ
lf = 10 ∷ []

-- the forms of a line, where no EBANK= is used up
abbrev of_line : List ℕ → LineForms
of_line text = forms_on (parts_for Flight text) false

abbrev of_held_line : List ℕ → LineForms
of_held_line text = forms_on (parts_for Flight text) true

-- the two words of a far address
abbrev pair : Option UncertainForm → Option UncertainForm → Bool → LineForms
pair first second far = record { first = first; second = second; is_far = far }

instruction : of_line (codes " CA X") ≡ both None
unfolding forms_on runs operator_rows flight_rows
instruction = refl

octal : of_line (codes "TEN OCT 12") ≡ both None
unfolding forms_on runs operator_rows flight_rows
octal = refl

octal_with_sign : of_line (codes " OCT -20000") ≡ both (Some SignedOctal)
unfolding forms_on runs operator_rows flight_rows
octal_with_sign = refl

octal_by_its_long_name : of_line (codes " OCTAL 12") ≡ both (Some OctalWords)
unfolding forms_on runs operator_rows flight_rows
octal_by_its_long_name = refl

octal_pair : of_line (codes " 2OCT 0000100002") ≡ both (Some OctalWords)
unfolding forms_on runs operator_rows flight_rows
octal_pair = refl

verb_and_noun : of_line (codes " VN 0616") ≡ both (Some VerbNoun)
unfolding forms_on runs operator_rows flight_rows
verb_and_noun = refl

decimal_number : of_line (codes " DEC 5") ≡ both None
unfolding forms_on runs operator_rows flight_rows
decimal_number = refl

decimal_with_a_point : of_line (codes " DEC .5") ≡ both (Some ScaledDecimal)
unfolding forms_on runs operator_rows flight_rows
decimal_with_a_point = refl

decimal_with_a_scale : of_line (codes " DEC 5 B-4") ≡ both (Some ScaledDecimal)
unfolding forms_on runs operator_rows flight_rows
decimal_with_a_scale = refl

decimal_pair : of_line (codes " 2DEC 1.5 B-4") ≡ both (Some ScaledDecimal)
unfolding forms_on runs operator_rows flight_rows
decimal_pair = refl

address : of_line (codes " ADRES X") ≡ both None
unfolding forms_on runs operator_rows flight_rows
address = refl

general_address : of_line (codes " +1 GENADR FAR") ≡ both (Some GeneralAddress)
unfolding forms_on runs operator_rows flight_rows
general_address = refl

remote_address : of_line (codes " REMADR FAR") ≡ both (Some GeneralAddress)
unfolding forms_on runs operator_rows flight_rows
remote_address = refl

general_complement : of_line (codes " -GENADR FAR") ≡ both (Some Complement)
unfolding forms_on runs operator_rows flight_rows
general_complement = refl

complement_of_a_place : of_line (codes " -CADR FAR") ≡ both (Some Complement)
unfolding forms_on runs operator_rows flight_rows
complement_of_a_place = refl

complement_of_an_instruction : of_line (codes " -CCS X") ≡ both (Some Complement)
unfolding forms_on runs operator_rows flight_rows
complement_of_an_instruction = refl

downlist : of_line (codes " 3DNADR X") ≡ both (Some Downlist)
unfolding forms_on runs operator_rows flight_rows
downlist = refl

downlist_complement : of_line (codes " -3DNADR X") ≡ both (Some Complement)
unfolding forms_on runs operator_rows flight_rows
downlist_complement = refl

downlist_channel : of_line (codes " DNCHAN 34") ≡ both (Some Downlist)
unfolding forms_on runs operator_rows flight_rows
downlist_channel = refl

number_of_a_place : of_line (codes " TC 12000") ≡ both (Some PlaceNumber)
unfolding forms_on runs operator_rows flight_rows
number_of_a_place = refl

decimal_number_of_a_place : of_line (codes " TC 4096D") ≡ both (Some PlaceNumber)
unfolding forms_on runs operator_rows flight_rows
decimal_number_of_a_place = refl

number_of_an_address : of_line (codes " TC 07777") ≡ both None
unfolding forms_on runs operator_rows flight_rows
number_of_an_address = refl

name_with_a_sign : of_line (codes " CA -Y") ≡ both (Some SignedName)
unfolding forms_on runs operator_rows flight_rows
name_with_a_sign = refl

from_here : of_line (codes " CA -1") ≡ both None
unfolding forms_on runs operator_rows flight_rows
from_here = refl

selector : of_line (codes " BBCON FAR") ≡ both None
unfolding forms_on runs operator_rows flight_rows
selector = refl

held_selector : of_held_line (codes " BBCON FAR") ≡ both (Some HeldBank)
unfolding forms_on runs operator_rows flight_rows
held_selector = refl

far_address : of_line (codes " 2CADR FAR") ≡ pair None None true
unfolding forms_on runs operator_rows flight_rows
far_address = refl

held_address : of_held_line (codes " 2CADR FAR") ≡ pair None (Some HeldBank) true
unfolding forms_on runs operator_rows flight_rows
held_address = refl

far_number : of_line (codes " 2CADR 62000") ≡ pair (Some PlaceNumber) (Some PlaceNumber) true
unfolding forms_on runs operator_rows flight_rows
far_number = refl

far_complement : of_line (codes " -2CADR FAR") ≡ pair (Some Complement) (Some Complement) false
unfolding forms_on runs operator_rows flight_rows
far_complement = refl

held_complement : of_held_line (codes " -2CADR FAR") ≡ pair (Some Complement) (Some HeldBank) false
unfolding forms_on runs operator_rows flight_rows
held_complement = refl

-- ## Second words: bank 031 with EB 3, bank 027, bank 040
of_bank_31 : second_at (pair None None true) 0o62003 ≡ Some SuperbankBits
of_bank_31 = refl

of_bank_31_held : second_at (pair None (Some HeldBank) true) 0o62003 ≡ Some SuperbankBits
of_bank_31_held = refl

of_bank_27 : second_at (pair None (Some HeldBank) true) 0o56003 ≡ Some HeldBank
of_bank_27 = refl

of_bank_40 : second_at (pair None None true) 0o60103 ≡ None
of_bank_40 = refl

of_no_far_address : second_at (both (Some OctalWords)) 0o62003 ≡ Some OctalWords
of_no_far_address = refl

-- ## EBANK=
before_any : ebank_after Missing (parts_for Flight (codes " 2CADR FAR")).role ≡ Missing
unfolding runs operator_rows flight_rows
before_any = refl

used : ebank_after Unused (parts_for Flight (codes " 2CADR FAR")).role ≡ Used
unfolding runs operator_rows flight_rows
used = refl

used_by_complement : ebank_after Unused (parts_for Flight (codes " -2CADR FAR")).role ≡ Used
unfolding runs operator_rows flight_rows
used_by_complement = refl

anew : ebank_after Used (parts_for Flight (codes " EBANK= X")).role ≡ Unused
unfolding runs operator_rows flight_rows
anew = refl

kept : ebank_after Unused (parts_for Flight (codes " CA X")).role ≡ Unused
unfolding runs operator_rows flight_rows
kept = refl

-- ## Rows: before the row of 02,5777 stand B, _ and _
place_of_a_row : place_before (codes "B__    7 02,5777 00005   OCT 5") ≡ Some (2, 0o1777)
place_of_a_row = refl

margin_of_a_row : place_margin (Some (2, 0o1777)) ≡ codes "B__"
margin_of_a_row = refl

no_place : place_before (codes "---    1                SETLOC 4000") ≡ None
no_place = refl

text_of_a_row : text_on 7 (codes "B__    7 02,5777 00005   OCT 5") ≡ codes " OCT 5"
unfolding number_column digits
text_of_a_row = refl

second_of_seven : is_second 7 (codes "B__    7 02,5777 00005") ≡ true
unfolding number_column digits
second_of_seven = refl

with_a_text : is_second 7 (codes "B__    8 02,5777 00005   OCT 5") ≡ false
unfolding number_column digits
with_a_text = refl

empty_line : is_second 7 (codes "---    8              ") ≡ false
unfolding number_column digits
empty_line = refl

-- the second 2CADR after an EBANK=, of bank 4: its second word alone is uncertain
abbrev used_twice : List (List ℕ)
used_twice =
    codes "---    1                 EBANK= X"
    ∷ codes "@@@    2 00,2000 02000   2CADR FAR"
    ∷ codes "@@A    2 00,2001 10003"
    ∷ codes "@@B    3 00,2002 02000   2CADR FAR # again"
    ∷ codes "@@C    3 00,2003 10003"
    ∷ codes "@@D    4 00,2004 00000  A GENADR FAR"
    ∷ []

abbrev six : List (Option UncertainForm)
six = None ∷ None ∷ None ∷ None ∷ None ∷ None ∷ []

two_uncertain : (words : Words) → word_at words 0 1 ≡ 0o10003 → word_at words 0 3 ≡ 0o10003
    → (rows_passed words (start_with six) used_twice).forms ≡ None ∷ None ∷ None ∷ Some HeldBank ∷ Some GeneralAddress ∷ None ∷ []
unfolding row_passed forms_on runs operator_rows flight_rows number_column digits
two_uncertain words first second = rw (first, second) refl

-- ## Counts
counted : uncertain_text 1 7 ≡ codes "UNCERTAIN 1 OF 8" ++ lf
unfolding digits
counted = refl

no_uncertain_place : uncertain_text 0 0 ≡ []
no_uncertain_place = refl

of_a_form : form_text 0 12 0 ≡ codes "FORM 2CADR CONFIRMED 12 DENIED 0" ++ lf
unfolding digits
of_a_form = refl

of_a_form_that_is_not_there : form_text 3 0 0 ≡ []
of_a_form_that_is_not_there = refl
