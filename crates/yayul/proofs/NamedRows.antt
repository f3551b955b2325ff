-- What lines name, worked by hand: TABLE is the first place of E3, FIVE one of bank 2, SQR one of bank 6, and N a number.
use Rattle.std.proofs.Common.{◌≡◌, ℕ, List, [], ◌∷◌, Option, Some, None, refl}
use Rattle.std.specs.Prelude.{codes}
use Rattle.agc_text.specs.Fields.{runs}
use Rattle.space.specs.declared.place.Linear.{Linear}
use Rattle.space.specs.declared.place.Linear.TheVariants as place
use Rattle.yayul.specs.Operators.{operators, operator_rows}
use Rattle.yayul.specs.Forms.{statement_of}
use Rattle.yayul.specs.Listing.{Shown, nothing}
use Rattle.yayul.specs.Named.{line_named, operation_names}
use Rattle.yayul.specs.Language.{Erasable, Fixed, Num, Value}

abbrev table : List (List ℕ × Value)
table = (codes "TABLE", Erasable 0o1400) ∷ (codes "FIVE", Fixed 2 5) ∷ (codes "SQR", Fixed 6 5) ∷ (codes "N", Num 0o1405) ∷ []

-- the place that a line names
abbrev names : List ℕ → Option Linear
names text = operation_names table (statement_of text).operation

erasable : names (codes " CA TABLE") ≡ Some (place.Erasable 0o1400)
unfolding runs operators operator_rows statement_of
erasable = refl

with_offset : names (codes " CA TABLE +3") ≡ Some (place.Erasable 0o1403)
unfolding runs operators operator_rows statement_of
with_offset = refl

in_the_next_bank : names (codes " TS TABLE +400") ≡ Some (place.Erasable 0o2000)
unfolding runs operators operator_rows statement_of
in_the_next_bank = refl

in_a_bank_that_stays : names (codes " TS TABLE -1") ≡ None
unfolding runs operators operator_rows statement_of
in_a_bank_that_stays = refl

of_two_words : names (codes " DCA TABLE") ≡ Some (place.Erasable 0o1400)
unfolding runs operators operator_rows statement_of
of_two_words = refl

of_a_bank_that_stays : names (codes " CA FIVE") ≡ None
unfolding runs operators operator_rows statement_of
of_a_bank_that_stays = refl

of_a_switched_bank : names (codes " TC SQR") ≡ Some (place.Fixed 6 5)
unfolding runs operators operator_rows statement_of
of_a_switched_bank = refl

of_a_jump : names (codes " TCF SQR +1") ≡ Some (place.Fixed 6 6)
unfolding runs operators operator_rows statement_of
of_a_jump = refl

a_number : names (codes " CA 1405") ≡ None
unfolding runs operators operator_rows statement_of
a_number = refl

a_number_by_name : names (codes " CA N") ≡ None
unfolding runs operators operator_rows statement_of
a_number_by_name = refl

from_here : names (codes " TC +2") ≡ None
unfolding runs operators operator_rows statement_of
from_here = refl

of_a_whole_word : names (codes " ECADR TABLE") ≡ None
unfolding runs operators operator_rows statement_of
of_a_whole_word = refl

of_a_far_address : names (codes " CADR SQR") ≡ None
unfolding runs operators operator_rows statement_of
of_a_far_address = refl

abbrev word : ℕ → ℕ → Shown
word bank offset = record { place = None; words = (bank, offset) ∷ [] }

at_its_word : line_named table (None ∷ None ∷ None ∷ []) (word 0 1) (statement_of (codes " CA TABLE +3")).operation
    ≡ None ∷ Some (place.Erasable 0o1403) ∷ None ∷ []
unfolding runs operators operator_rows statement_of
at_its_word = refl

at_no_word : line_named table (None ∷ None ∷ None ∷ []) nothing (statement_of (codes "HERE EQUALS TABLE")).operation
    ≡ None ∷ None ∷ None ∷ []
unfolding runs operators operator_rows statement_of
at_no_word = refl
