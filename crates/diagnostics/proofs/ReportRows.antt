-- A report of small sources, by the definitions alone.
use Rattle.std.proofs.Common.{◌≡◌, ℕ, List, [], ◌∷◌, ◌++◌, None, Some, refl, map}
use Rattle.std.specs.Fmt.{digits}
use Rattle.std.specs.Prelude.{codes, ◌==◌, if◌then◌else◌}
use Rattle.agc_text.specs.Fields.{runs}
use Rattle.agc_text.specs.Lines.{lines}
use Rattle.feed.specs.Statements.{parsed}
use Rattle.yayul.specs.Operators.{operators, operator_rows}
use Rattle.yayul.specs.declared.faults.FaultKind.{FaultKind}
use Rattle.yayul.specs.declared.faults.FaultKind.TheVariants.{PlaceTaken, TwiceDefined, Undefined, UsedTooEarly, WrongKindOfAddress}
use Rattle.yayul.specs.declared.finding.Finding.{Finding}
use Rattle.json_text.specs.declared.notation.Notation.TheVariants.{Text}
use Rattle.yayul.specs.declared.language.Language.TheVariants.{Flight, Standard}
use Rattle.yayul.specs.Flight.{flight_rows}
use Rattle.diagnostics.specs.Causes.{cause_of_kind}
use Rattle.diagnostics.specs.Kinds.{kind_of_source}
use Rattle.diagnostics.specs.Report.{beside_text, count_text, report, shown_error, shown_line, told_text, warning_text}
use Rattle.warnings.specs.declared.told.Doubt.{Doubt}
use Rattle.warnings.specs.declared.told.Doubt.TheVariants.{HeldBank, SuperbankBits}
use Rattle.warnings.specs.declared.told.Warning.{Warning}

-- a source of lines, each but the last followed by a semicolon here
abbrev source : List ℕ → List ℕ
source text = map (λ byte. if byte == 0o73 then 0o12 else byte) text

-- a fault of a line, and a warning
abbrev placed : ℕ → FaultKind → Finding
placed line kind = record { line = line; kind = kind; span = record { start = 1; width = 2 }; taken_by = None }

abbrev warned : ℕ → ℕ → Warning
warned line number = record { line = line; number = number; span = record { start = 1; width = 2 }; doubt = None }

-- a warning of a word that is not certain
abbrev doubted : ℕ → Doubt → Warning
doubted line doubt = record { line = line; number = 17; span = record { start = 1; width = 5 }; doubt = Some doubt }

-- the faults of a line stand before its warnings, and the warnings of earlier lines before both
shown_in_order : report Text Standard (codes "a") (source (codes " CA 5; TS FIV;Z")) (placed 2 Undefined ∷ placed 2 WrongKindOfAddress ∷ [])
    (warned 1 2 ∷ warned 2 3 ∷ warned 3 8 ∷ [])
    ≡ source ((codes "a:1:2: warning W2: an operand is an address: 5 is the register or the counter at place 5, and not the number;    1 | "
    ++ codes " CA 5;      |  ^^;")
    ++ codes "      = the number has a line of its own, behind the last jump: NAME OCT 5 (or DEC and decimal digits), and here CA NAME;"
    ++ (codes "a:2:2: error E17: no line defines FIV;    2 |  TS FIV;      |  ^^;      = FIV ERASE, among lines after SETLOC 100, reserves "
    ++ codes "a word of this name;")
    ++ codes "a:2:2: error E25: TS writes to erasable memory, and FIV is not there;    2 |  TS FIV;      |  ^^;"
    ++ codes "      = reserve the word there: SETLOC and a place below 4000, and ERASE;"
    ++ (codes "a:2:2: warning W3: TS takes two words, and ERASE reserves one for FIV;    2 |  TS FIV;      |  ^^;      = FIV ERASE +1 "
    ++ codes "reserves two;")
    ++ codes "a:3:2: warning W8: no operand names Z;    3 | Z;      |  ^;")
unfolding report told_text cause_of_kind shown_line beside_text warning_text kind_of_source lines digits runs operators parsed operator_rows
shown_in_order = refl

-- a symbol of the wrong kind is told with its line, and one that a later line defines is not taken for another
told_with_lines : report Text Standard (codes "a") (source (codes " TS SUM;SUM OCT 0; SETLOC SUX;SUX OCT 1"))
    (placed 1 WrongKindOfAddress ∷ placed 3 UsedTooEarly ∷ []) []
    ≡ source (codes "a:1:2: error E25: TS writes to erasable memory, and SUM, of line 2, is not there;    1 |  TS SUM;      |  ^^;"
    ++ codes "      = reserve the word there: SETLOC and a place below 4000, and ERASE;"
    ++ codes "a:3:2: error E18: SETLOC needs the value of SUX here, and line 4 defines it, which is below;    3 |  SETLOC SUX;      |  ^^;")
unfolding report told_text cause_of_kind shown_line beside_text warning_text kind_of_source lines digits runs operators parsed operator_rows
told_with_lines = refl

-- an E18 names the first of two lines below that define its symbol; one that its own line defines names none
told_below : report Text Standard (codes "a") (source (codes " SETLOC SUX; OCT 1;SUX OCT 1;SUX OCT 2;P EQUALS P"))
    (placed 1 UsedTooEarly ∷ placed 5 UsedTooEarly ∷ []) []
    ≡ source ((codes "a:1:2: error E18: SETLOC needs the value of SUX here, and line 3 defines it, which is below;    1 |  SETLOC SUX;     "
    ++ codes " |  ^^;")
    ++ codes "a:5:2: error E18: EQUALS needs the value of P here, and no earlier line defines it;    5 | P EQUALS P;      |  ^^;")
unfolding report told_text cause_of_kind shown_line beside_text warning_text kind_of_source lines digits runs operators parsed operator_rows
told_below = refl

-- a label of a line that takes none defines nothing: neither above the line that does, nor below
told_without_bare : report Text Standard (codes "a") (source (codes "SUM SETLOC 4000;SUM OCT 0; TS SUM; EBANK= P;P BANK 5"))
    (placed 3 WrongKindOfAddress ∷ placed 4 UsedTooEarly ∷ []) []
    ≡ source (codes "a:3:2: error E25: TS writes to erasable memory, and SUM, of line 2, is not there;    3 |  TS SUM;      |  ^^;"
    ++ codes "      = reserve the word there: SETLOC and a place below 4000, and ERASE;"
    ++ codes "a:4:2: error E18: EBANK= needs the value of P here, and no earlier line defines it;    4 |  EBANK= P;      |  ^^;")
unfolding report told_text cause_of_kind shown_line beside_text warning_text kind_of_source lines digits runs operators parsed operator_rows
told_without_bare = refl

-- of a place that is taken the line is told whose word stands there, and where none is known what the fault is
told_taken : report Text Standard (codes "a") (source (codes " OCT 1;X OCT 2; SETLOC 4000;X OCT 3"))
    (record (placed 4 PlaceTaken) { taken_by = Some 1 } ∷ placed 4 TwiceDefined ∷ placed 4 PlaceTaken ∷ []) []
    ≡ source (codes "a:4:2: error E21: line 1 has a word at this place already;    4 | X OCT 3;      |  ^^;"
    ++ codes "a:4:2: error E14: line 2 has the label X already;    4 | X OCT 3;      |  ^^;"
    ++ codes "a:4:2: error E21: a word stands at this place already;    4 | X OCT 3;      |  ^^;")
unfolding report told_text cause_of_kind shown_line beside_text warning_text kind_of_source lines digits runs operators parsed operator_rows
told_taken = refl

-- however many faults there are: without the labels of other lines too
taken_alone : shown_error Text Standard (codes "a") [] (lines (source (codes " 2CADR 4000; SETLOC 4001; OCT 2")))
    (record (placed 3 PlaceTaken) { taken_by = Some 1 })
    ≡ source (codes "a:3:2: error E21: line 1 has a word at this place already;    3 |  OCT 2;      |  ^^;")
unfolding cause_of_kind shown_line beside_text lines digits runs operator_rows
taken_alone = refl

-- words that are not certain: by a superbank, and by an EBANK= that may be used up
told_doubts : report Text Flight (codes "a") (source (codes " 2CADR F; BBCON F")) [] (doubted 1 SuperbankBits ∷ doubted 2 HeldBank ∷ [])
    ≡ source (codes "a:1:2: warning W17: the second word of 2CADR is not certain: for banks 030 to 037 a superbank, 060, may stand in it "
    ++ codes "(65 in 100);    1 |  2CADR F;      |  ^^^^^;"
    ++ (codes "a:2:2: warning W17: a word of BBCON is not certain: EBANK= before an earlier 2CADR may hold for that one alone (85 in "
    ++ codes "100);    2 |  BBCON F;      |  ^^^^^;      = EBANK= on the line before BBCON makes it certain;"))
unfolding report told_text warning_text kind_of_source lines digits runs operator_rows flight_rows
told_doubts = refl

-- how many there are
count_shown : count_text Text 2 3 ++ count_text Text 1 0 ≡ source (codes "2 errors, 3 warnings;1 error, 0 warnings;")
unfolding digits
count_shown = refl
