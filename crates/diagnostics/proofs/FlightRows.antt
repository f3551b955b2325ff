-- What is told of the faults of flight sources, by the definitions alone.
use Rattle.std.proofs.Common.{◌≡◌, ℕ, ◌+◌, List, [], ◌∷◌, ◌++◌, replicate, None, true, false, refl, map, take, drop}
use Rattle.std.specs.Fmt.{digits}
use Rattle.std.specs.List.{list_any}
use Rattle.std.specs.Prelude.{codes, ◌==◌, is_some, if◌then◌else◌}
use Rattle.agc_text.specs.Fields.{runs}
use Rattle.agc_text.specs.Lines.{lines}
use Rattle.feed.specs.Statements.{parsed}
use Rattle.json_text.specs.declared.notation.Notation.TheVariants.{Text}
use Rattle.yayul.specs.Flight.{flight_operator, flight_operators, uncounted_statement, flight_rows}
use Rattle.yayul.specs.FlightForms.{has_flight_form}
use Rattle.yayul.specs.Forms.{statement_of}
use Rattle.yayul.specs.Layout.{line_effect}
use Rattle.yayul.specs.Operators.{operators, operator_rows}
use Rattle.yayul.specs.declared.faults.FaultKind.{FaultKind}
use Rattle.yayul.specs.declared.faults.FaultKind.TheVariants.{BadLabel, BadOperand, LongLine, OutOfRange, TooManyLines, TwiceDefined}
use Rattle.yayul.specs.declared.faults.FaultKind.TheVariants.{Undefined, UnknownOperator, UsedTooEarly, WrongKindOfAddress}
use Rattle.yayul.specs.declared.finding.Finding.{Finding}
use Rattle.yayul.specs.declared.language.Language.{Language}
use Rattle.yayul.specs.declared.language.Language.TheVariants.{Flight, Standard}
use Rattle.symbols.specs.declared.values.Value.TheVariants.{Erasable}
use Rattle.yayul.specs.Readings.{Parts, parts_for}
use Rattle.diagnostics.specs.Causes.{Cause, cause_of_kind, filled}
use Rattle.diagnostics.specs.FlightCauses.{alternatives, told_cause, unsure_operators}
use Rattle.diagnostics.specs.Interpretive.{count_before_first, first_and_others, interpretive_operators}
use Rattle.diagnostics.specs.Kinds.{kind_of_source}
use Rattle.diagnostics.specs.Report.{beside_text, cure_text, report, shown_line, told_text, warning_text}
use Rattle.warnings.specs.Warnings.{warnings}
use Rattle.warnings.specs.declared.told.Warning.{Warning}

-- a source of lines, each but the last followed by a semicolon here
abbrev source : List ℕ → List ℕ
source text = map (λ byte. if byte == 0o73 then 0o12 else byte) text

-- ## Lines of the interpretive language
-- a fault of a line
abbrev fault : ℕ × FaultKind → Finding
fault f = record { line = f.0; kind = f.1; span = record { start = 1; width = 2 }; taken_by = None }

-- a warning of a line
abbrev warned : ℕ × ℕ → Warning
warned w = record { line = w.0; number = w.1; span = record { start = 1; width = 2 }; doubt = None }

-- the line of a fault and its kind
abbrev row : Finding → ℕ × FaultKind
row f = (f.line, f.kind)

-- the faults that are told of a source of some lines
abbrev told_faults : Language → List (List ℕ) → List Finding → List Finding
told_faults language texts faults =
    take (count_before_first language texts faults) faults
    ++ first_and_others texts (drop (count_before_first language texts faults) faults)

-- sources with some faults, and those that are told
abbrev told_rows : List (List ℕ × List (ℕ × FaultKind) × List (ℕ × FaultKind))
told_rows =
    (codes " CALL; FOO", (1, UnknownOperator) ∷ (2, UnknownOperator) ∷ [], (1, UnknownOperator) ∷ [])
    ∷ (
      codes " STOVL RN;; # one; FOO +2D;X DOT;X VSL4 EXIT; VN",
      (1, UnknownOperator) ∷ (4, UnknownOperator) ∷ (5, TwiceDefined)
          ∷ (5, UnknownOperator) ∷ (6, UnknownOperator) ∷ (7, UnknownOperator) ∷ [],
      (1, UnknownOperator) ∷ (5, TwiceDefined) ∷ [],
    )
    ∷ (codes " DLOAD; TC X; FOO", (1, UnknownOperator) ∷ (3, UnknownOperator) ∷ [], (1, UnknownOperator) ∷ (3, UnknownOperator) ∷ [])
    ∷ (codes " EXIT; RETRUN", (1, UnknownOperator) ∷ (2, UnknownOperator) ∷ [], (1, UnknownOperator) ∷ (2, UnknownOperator) ∷ [])
    ∷ (
      codes " CALL;X FOO; CALL; FOO BAR; CALL; FOO +1 +1",
      (1, UnknownOperator) ∷ (2, UnknownOperator) ∷ (3, UnknownOperator)
          ∷ (4, UnknownOperator) ∷ (5, UnknownOperator) ∷ (6, UnknownOperator) ∷ [],
      (1, UnknownOperator) ∷ (2, UnknownOperator)
          ∷ (4, UnknownOperator) ∷ (6, UnknownOperator) ∷ [],
    )
    ∷ (
      codes " FROB;+3 STORE X;STORE X;  STORE",
      (1, UnknownOperator) ∷ (2, UnknownOperator) ∷ (3, UnknownOperator) ∷ (4, LongLine)
          ∷ [],
      (1, UnknownOperator) ∷ (2, UnknownOperator) ∷ (3, UnknownOperator) ∷ (4, LongLine) ∷ [],
    )
    ∷ []

each_told : map {B = List (ℕ × FaultKind)} (λ r. map row (told_faults Flight (lines (source r.0)) (map fault r.1))) told_rows
    ≡ map {B = List (ℕ × FaultKind)} (λ r. r.2) told_rows
unfolding lines runs
each_told = refl

-- of a source of the standard language each fault is told
all_told : map row (told_faults Standard (lines (source (codes " CALL; CALL")))
    (fault (1, UnknownOperator) ∷ fault (2, UnknownOperator) ∷ [])) ≡ (1, UnknownOperator) ∷ (2, UnknownOperator) ∷ []
unfolding lines runs
all_told = refl

-- the first is told in its place, and how many there are
reported : report Text Flight (codes "a") (source (codes " FROB;+3 CALL; FOO; CA X; CALL"))
    (map fault ((1, UnknownOperator) ∷ (2, UnknownOperator) ∷ (3, UnknownOperator) ∷ (4, Undefined) ∷ (5, UnknownOperator) ∷ []))
    (warned (2, 2) ∷ warned (3, 3) ∷ [])
    ≡ source (codes "a:1:2: error E15: FROB is no operator;    1 |  FROB;      |  ^^;"
    ++ codes "a:2:2: error E15: the interpretive language is not taken: 3 lines from this one on;    2 | +3 CALL;      |  ^^;"
    ++ (codes "a:2:2: warning W2: an operand is an address:  is the register or the counter at place , and not the number;    2 | +3 CALL; "
    ++ (codes "     |  ^^;      = the number has a line of its own, behind the last jump: NAME OCT  (or DEC and decimal digits), and "
    ++ codes "here CALL NAME;"))
    ++ codes "a:3:2: warning W3: FOO takes two words, and ERASE reserves one for ;    3 |  FOO;      |  ^^;      =  ERASE +1 reserves two;"
    ++ (codes "a:4:2: error E17: no line defines X;    4 |  CA X;      |  ^^;      = of a number: X DEC 5, behind the last jump, and of a "
    ++ codes "word that changes: X ERASE, after SETLOC 100;"))
unfolding report told_text cause_of_kind shown_line beside_text warning_text kind_of_source lines digits runs operators parsed operator_rows
    flight_rows
reported = refl

-- none of its operators is one of a flight source
none_is_taken : list_any (λ name. is_some (flight_operator name)) interpretive_operators ≡ false
unfolding operators operator_rows flight_operators flight_rows
none_is_taken = refl

-- ## Lines with a count
-- the line of a warning, its column from 1, how many bytes it marks, and its number
abbrev warning : Warning → ℕ × ℕ × ℕ × ℕ
warning w = (w.line, w.span.start + 1, w.span.width, w.number)

counted : map warning (warnings Flight true [] (source (codes "+3 CA 5; -2D CA 5;-X CA -X;+4 DXCH -X;-X ERASE;+5")))
    ≡ (1, 7, 1, 2) ∷ (2, 9, 1, 2) ∷ (4, 9, 2, 3) ∷ []
unfolding warnings lines runs operators flight_operators operator_rows flight_rows
counted = refl

-- names of operators that flight programs alone have, as labels
named_as_operators : map warning (warnings Flight false [] (source (codes "OCTAL 5;+3 OCTAL 5;COUNT;-CCS TC COUNT;RETURN"))
    ++ warnings Standard false [] (source (codes "OCTAL 5;COUNT;RETURN")))
    ≡ (1, 1, 5, 1) ∷ (3, 1, 5, 1) ∷ (4, 1, 4, 1) ∷ (5, 1, 6, 1) ∷ (3, 1, 6, 1) ∷ []
unfolding warnings lines runs operators flight_operators operator_rows flight_rows
named_as_operators = refl

-- an address is no instruction, COUNT gives no word, and 2DEC gives two
by_roles : map {B = List (ℕ × ℕ × ℕ × ℕ)} (λ text. map warning (warnings Flight false ((codes "X", Erasable 0o1400) ∷ []) (source text)))
    (codes " SETLOC 4000; GENADR X; CA X" ∷ codes " SETLOC 4004; COUNT* $$/X; CAF 0; CAF 0; CAF 0; CAF 0; CAF 0"
    ∷ codes " SETLOC 4004; 2DEC 1.0; CAF 0; CAF 0; CAF 0" ∷ [])
    ≡ ((3, 5, 1, 6) ∷ []) ∷ ((7, 2, 3, 5) ∷ []) ∷ ((5, 2, 3, 5) ∷ []) ∷ []
unfolding warnings lines runs operators flight_operators operator_rows flight_rows
by_roles = refl

-- ## Words
-- what is wrong with a line and how it is mended, by its kind
abbrev told : List ℕ × FaultKind → List ℕ × List ℕ
told r =
    let parts : Parts = parts_for Flight r.0 in
    let c : Cause = told_cause Flight false r.0 parts (fault (1, r.1)) in
    (filled parts c.other [] c.words, filled parts c.other [] c.cure)

abbrev lines_with_causes : List ((List ℕ × FaultKind) × (List ℕ × List ℕ))
lines_with_causes =
    ((codes " MM 37", UnknownOperator), (codes "MM is not taken, since it is not sure what yaYUL makes of it: perhaps the word of DEC (80 in 100)", codes "OCT makes a word"))
    ∷ (
      (codes "+3 DNPTR X", UnknownOperator),
      (
        codes "DNPTR is not taken, since it is not sure what yaYUL makes of it: perhaps 30000, and the address of 12 bits (88 in 100)",
        codes "OCT makes a word",
      ),
    )
    ∷ (
      (codes "X =MINUS Y", UnknownOperator),
      (
        codes "=MINUS is not taken, since it is not sure what yaYUL makes of it: perhaps a number, the location less the operand (60 in 100)",
        codes "EQUALS gives X a value",
      ),
    )
    ∷ (
      (codes " SBANK= X", UnknownOperator),
      (
        codes "SBANK= is not taken, since it is not sure what yaYUL makes of it: perhaps bits 7 to 5 of each 2CADR behind it (60 in 100)",
        [],
      ),
    )
    ∷ ((codes " TFC LOOP", UnknownOperator), (codes "TFC is no operator", codes "did you mean TCF?"))
    ∷ ((codes "-LONGNAME OCT 1", BadLabel), (codes "-LONGNAME has more than 8 characters, the most of a label", []))
    ∷ ((codes "+ OCT 1", BadLabel), (codes "+ is a sign alone, and no label", []))
    ∷ ((codes "X$ OCT 1", BadLabel), (codes "X$ has a $, which no label may have", []))
    ∷ (
      (codes "X ERASE 0 - 7", BadOperand),
      (
        codes "ERASE takes nothing, or a plus sign and a number: of a range perhaps all words (60 to 90 in 100)",
        codes "ERASE reserves one word, ERASE +1 two",
      ),
    )
    ∷ ((codes " BANK", BadOperand), (codes "BANK without a bank goes on in that of the location, which is in erasable memory", []))
    ∷ (
      (codes "+3 2DEC 5 E3", BadOperand),
      (
        codes "digits with E need a point or B: whether yaYUL makes a whole number of them or a fraction is not known for sure",
        codes "B-28 last makes a whole number of two words, B-14 of one",
      ),
    )
    ∷ ((codes " 2DEC* 5 B-36**", BadOperand), (codes "this is no decimal constant, as .75, 5 B-14 and 1.5 E3 B-14 are", []))
    ∷ ((codes " DEC 5 B", BadOperand), (codes "this is no decimal constant, as .75, 5 B-14 and 1.5 E3 B-14 are", []))
    ∷ (
      (codes " OCT -9", BadOperand),
      (
        codes "OCT takes octal digits, 0 to 7, or a sign and such digits, and -9 is neither",
        codes "DEC takes decimal digits",
      ),
    )
    ∷ ((codes " 2OCT 123", BadOperand), (codes "2OCT takes ten octal digits, 0 to 7, in one field: fewer perhaps with zeros before them (85 in 100)", []))
    ∷ (
      (codes " VN 12", BadOperand),
      (
        codes "VN takes four decimal digits, two of the verb and two of the noun: fewer perhaps with zeros before them (85 in 100)",
        [],
      ),
    )
    ∷ ((codes " CA -LONGNAME", BadOperand), (codes "-LONGNAME is no symbol, which has 8 characters at most, and no number", []))
    ∷ ((codes "-1 CA 18", BadOperand), (codes "numbers are octal, and 18 has a digit 8 or 9: perhaps it is decimal (60 in 100)", codes "18D is decimal"))
    ∷ ((codes "-1 CA", BadOperand), (codes "CA needs an operand", []))
    ∷ (
      (codes "X EQUALS Y", UsedTooEarly),
      (codes "Y has no value: no line defines it, or names wait for one another in a circle, or in a chain of more than eight", []),
    )
    ∷ ((codes " SETLOC Y", UsedTooEarly), (codes "SETLOC needs the value of Y here, and no earlier line defines it", []))
    ∷ ((codes " CAF X", WrongKindOfAddress), (codes "CAF takes a fixed place, and X is none", []))
    ∷ (
      (codes " BBCON X", WrongKindOfAddress),
      (codes "BBCON takes a fixed place of a bank below 30, and X is none: from bank 30 on yaYUL perhaps adds 060 (65 in 100)", []),
    )
    ∷ ((codes "+2 2DNADR X", WrongKindOfAddress), (codes "2DNADR takes an erasable place, and X is none", []))
    ∷ ((codes " DNCHAN 1000", WrongKindOfAddress), (codes "DNCHAN takes a channel, 0 to 777, and 1000 is none", []))
    ∷ ((codes " -CADR 100", WrongKindOfAddress), (codes "-CADR takes a fixed place, and 100 is none", []))
    ∷ ((codes " -CCS X", WrongKindOfAddress), (codes "-CCS takes a word of erasable memory, and X is not there", []))
    ∷ ((codes " TC 0 -1", OutOfRange), (codes "an address below 0 is not taken: what yaYUL makes of it is not known for sure", []))
    ∷ ((codes " TC X -1", OutOfRange), (codes "this leads out of its bank, or of the numbers", []))
    ∷ (
      (codes " TC X -12006", OutOfRange),
      (codes "this leads out of its bank: less the number of a place it is perhaps an offset (88 in 100)", []),
    )
    ∷ (
      (codes " CA X", OutOfRange),
      (codes "X is past the last address: a number of EQUALS is perhaps a place from 10000 on (88 in 100)", []),
    )
    ∷ (
      (codes " NV 0509", UnknownOperator),
      (codes "NV is not taken, since it is not sure what yaYUL makes of it: perhaps the word of VN (60 in 100)", codes "OCT makes a word"),
    )
    ∷ (
      (codes " TC 14000", OutOfRange),
      (
        codes "14000 names no place: from 14000 to 17777 the order of the banks is not known for sure",
        [],
      ),
    )
    ∷ ((codes " TC 100000", OutOfRange), (codes "100000 is past the last address or number", []))
    ∷ ((codes " 2DEC 5.0 B-1", OutOfRange), (codes "this is more than 2DEC holds: yaYUL perhaps makes the greatest of it (85 in 100, of DEC 70)", []))
    ∷ ((codes " OCTAL -100000", OutOfRange), (codes "a word holds 77777 at most, and -100000 is more", []))
    ∷ ((codes " OCT 1", LongLine), (codes "the line has more than 120 bytes before its comment", []))
    ∷ ((codes " OCT 1", TooManyLines), (codes "the source has more than 262144 lines", []))
    ∷ []

each_cause : map {B = List ℕ × List ℕ} (λ r. told r.0) lines_with_causes ≡ map {B = List ℕ × List ℕ} (λ r. r.1) lines_with_causes
unfolding cause_of_kind runs operators digits operator_rows flight_rows
each_cause = refl

-- none is one that is not taken
none_is_one : list_any (λ name. is_some (flight_operator name)) (map (λ e. e.0) unsure_operators) ≡ false
unfolding operators operator_rows flight_operators flight_rows
none_is_one = refl

-- each has an alternative, in the same order
each_has_one : map {B = List ℕ} (λ e. e.0) alternatives ≡ map {B = List ℕ} (λ e. e.0) unsure_operators
each_has_one = refl

-- ## Of the standard language
-- the row of the cure of a fault of a line, by its kind
abbrev cure_row : List ℕ × FaultKind → List ℕ
cure_row r = cure_text (parts_for Standard r.0) [] (told_cause Standard false r.0 (parts_for Standard r.0) (fault (1, r.1)))

-- what `--flight` takes is told so, behind a cure or alone: of faults of a line's form, where that language takes the form
abbrev lines_with_cures : List ((List ℕ × FaultKind) × List ℕ)
lines_with_cures =
    ((codes " 2DEC .5", UnknownOperator), codes "      = two words: a DEC for each; with --flight this is taken\n")
    ∷ ((codes " 2DEC 5", UnknownOperator), codes "      = two words: a DEC for each; with --flight this is taken\n")
    ∷ ((codes " 2DEC 5 E3", UnknownOperator), codes "      = two words: a DEC for each\n")
    ∷ ((codes " CHECK= X", UnknownOperator), codes "      = with --flight this is taken\n")
    ∷ ((codes " COUNT* $$/EXEC", UnknownOperator), codes "      = with --flight this is taken\n")
    ∷ ((codes "+3 OCT 1", BadLabel), codes "      = with --flight this is taken\n")
    ∷ (
      (codes " +3 OCT 1", UnknownOperator),
      codes "      = a label begins in the first column: no blank before +3; with --flight this is taken\n",
    )
    ∷ ((codes "-PHASE1 ERASE", BadLabel), codes "      = with --flight this is taken\n")
    ∷ ((codes " BANK", BadOperand), codes "      = with --flight this is taken\n")
    ∷ ((codes "X BANK", BadLabel), codes "      = put X on the next line\n")
    ∷ ((codes "X BANK", BadOperand), [])
    ∷ ((codes " DEC 1.0 E4 B-14", BadOperand), codes "      = a comment begins with #; with --flight this is taken\n")
    ∷ ((codes " OCT -1", BadOperand), codes "      = DEC takes one; a minus complements the word; with --flight this is taken\n")
    ∷ ((codes " OCT 9", BadOperand), codes "      = DEC takes decimal digits\n")
    ∷ ((codes " OCT 1 #" ++ replicate 120 0o40, LongLine), codes "      = part the comment into two lines; with --flight this is taken\n")
    ∷ ((codes " OCT 1" ++ replicate 120 0o40 ++ codes "#", LongLine), [])
    ∷ ((codes " TFC LOOP", UnknownOperator), codes "      = did you mean TCF?\n")
    ∷ ((codes " XYZZY LOOP", UnknownOperator), [])
    ∷ ((codes " MM 37", UnknownOperator), [])
    ∷ (
      (codes "+3 CA X", Undefined),
      codes "      = of a number: X DEC 5, behind the last jump, and of a word that changes: X ERASE, after SETLOC 100\n",
    )
    ∷ ((codes "+3 CADR X", Undefined), [])
    ∷ []

each_cure : map {B = List ℕ} (λ r. cure_row r.0) lines_with_cures ≡ map {B = List ℕ} (λ r. r.1) lines_with_cures
unfolding cause_of_kind has_flight_form statement_of line_effect uncounted_statement runs operators flight_operators digits operator_rows
    flight_rows
each_cure = refl

-- nothing is told so of a flight source
none_of_flight : list_any (λ r. (told_cause Flight false r.0.0 (parts_for Flight r.0.0) (fault (1, r.0.1))).flight) lines_with_causes
    ≡ false
unfolding cause_of_kind runs operators digits operator_rows flight_rows
none_of_flight = refl
