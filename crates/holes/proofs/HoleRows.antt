-- Lines of the interpretive language, and what stands in their places, by the definitions alone.
use Rattle.std.proofs.Common.{◌≡◌, ℕ, List, map, true, false, refl}
use Rattle.std.specs.Prelude.{codes, ◌==◌, if◌then◌else◌}
use Rattle.agc_text.specs.Fields.{runs}
use Rattle.agc_text.specs.Lines.{lines}
use Rattle.yayul.specs.Readings.{parts_for}
use Rattle.yayul.specs.declared.language.Language.TheVariants.{Flight}
use Rattle.yayul.specs.Operators.{operator_rows}
use Rattle.yayul.specs.Flight.{flight_rows}
use Rattle.holes.specs.HoleLines.{hole_line, inside_after, is_hole, source_with_holes}

-- a source of lines, each but the last followed by a semicolon here
abbrev source : List ℕ → List ℕ
source text = map (λ byte. if byte == 0o73 then 0o12 else byte) text

-- two operators on a line
operators : is_hole false (codes " VLOAD UNIT") (parts_for Flight (codes " VLOAD UNIT")) ≡ true
unfolding runs operator_rows flight_rows
operators = refl

-- a store with a label, an address and an offset
stores : is_hole false (codes "KEEP STORE X +2") (parts_for Flight (codes "KEEP STORE X +2")) ≡ true
unfolding runs operator_rows flight_rows
stores = refl

-- an operand, among lines of the language and not
operand : is_hole true (codes " RN") (parts_for Flight (codes " RN")) ≡ true
unfolding runs operator_rows flight_rows
operand = refl

alone : is_hole false (codes " RN") (parts_for Flight (codes " RN")) ≡ false
unfolding runs operator_rows flight_rows
alone = refl

-- with a label, an offset and an index register
indexed : is_hole true (codes "LAB TAB -6,1") (parts_for Flight (codes "LAB TAB -6,1")) ≡ true
unfolding runs operator_rows flight_rows
indexed = refl

-- a count alone
count : is_hole true (codes " -6 # X") (parts_for Flight (codes " -6 # X")) ≡ true
unfolding runs operator_rows flight_rows
count = refl

comment : is_hole true (codes "# X") (parts_for Flight (codes "# X")) ≡ false
unfolding runs operator_rows flight_rows
comment = refl

-- an operator that is not sure, with an operand
unsure : is_hole true (codes " BOF X") (parts_for Flight (codes " BOF X")) ≡ false
unfolding runs operator_rows flight_rows
unsure = refl

-- an instruction, and a constant
instruction : is_hole true (codes " CA X") (parts_for Flight (codes " CA X")) ≡ false
unfolding runs operator_rows flight_rows
instruction = refl

constant : is_hole true (codes " OCT 5") (parts_for Flight (codes " OCT 5")) ≡ false
unfolding runs operator_rows flight_rows
constant = refl

-- after EXIT, after EXIT behind another operator, after a constant, and after an instruction
exit : inside_after true (codes " EXIT") (parts_for Flight (codes " EXIT")) ≡ false
unfolding runs operator_rows flight_rows
exit = refl

exit_behind : inside_after true (codes " DLOAD EXIT") (parts_for Flight (codes " DLOAD EXIT")) ≡ true
unfolding runs operator_rows flight_rows
exit_behind = refl

past_constant : inside_after true (codes " DEC 5") (parts_for Flight (codes " DEC 5")) ≡ true
unfolding runs operator_rows flight_rows
past_constant = refl

past_instruction : inside_after true (codes " TC X") (parts_for Flight (codes " TC X")) ≡ false
unfolding runs operator_rows flight_rows
past_instruction = refl

-- what stands in place of a line
line : hole_line (codes "0") (codes "LAB RN +6") ≡ codes "LAB OCT 0 # LAB RN +6"
unfolding runs operator_rows flight_rows
line = refl

-- a source with three such lines, and one without
three : source_with_holes (codes "1") (source (codes " TC X; DLOAD;# Y; Y; EXIT; CA X"))
    ≡ source (codes " TC X; OCT 1 #  DLOAD;# Y; OCT 1 #  Y; OCT 1 #  EXIT; CA X;")
unfolding source_with_holes lines runs operator_rows flight_rows
three = refl

none : source_with_holes (codes "1") (codes " TC X") ≡ codes " TC X"
unfolding source_with_holes lines runs operator_rows flight_rows
none = refl
