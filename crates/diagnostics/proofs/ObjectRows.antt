-- What is told of single lines and of a feed as JSON, worked by hand.
use Rattle.std.proofs.Common.{◌≡◌, ℕ, List, [], ◌∷◌, ◌++◌, None, Some, refl, map}
use Rattle.std.specs.Fmt.{digits}
use Rattle.std.specs.Prelude.{codes, ◌==◌, if◌then◌else◌}
use Rattle.agc_text.specs.Fields.{runs}
use Rattle.agc_text.specs.Lines.{lines}
use Rattle.feed.specs.Feed.{first_fault, inputs, plain_from, series_from}
use Rattle.feed.specs.Names.{counters, sequences}
use Rattle.feed.specs.Statements.{parsed, statement_of as feed_statement}
use Rattle.json_text.specs.Strings.{escaped, escaped_byte}
use Rattle.json_text.specs.declared.notation.Notation.TheVariants.{Json}
use Rattle.yayul.specs.Flight.{flight_operators, uncounted_statement, flight_rows}
use Rattle.yayul.specs.FlightForms.{has_flight_form}
use Rattle.yayul.specs.Forms.{statement_of}
use Rattle.yayul.specs.Layout.{line_effect}
use Rattle.yayul.specs.Operators.{operators, operator_rows}
use Rattle.yayul.specs.declared.faults.FaultKind.{FaultKind}
use Rattle.yayul.specs.declared.faults.FaultKind.TheVariants.{BadBank, BadOperand, NeedsExtend, PlaceTaken, TwiceDefined, Undefined}
use Rattle.yayul.specs.declared.faults.FaultKind.TheVariants.{UnknownOperator, UsedTooEarly}
use Rattle.yayul.specs.declared.finding.Finding.{Finding}
use Rattle.yayul.specs.declared.language.Language.TheVariants.{Standard}
use Rattle.diagnostics.specs.Causes.{cause_of_kind}
use Rattle.diagnostics.specs.FeedReport.{feed_report, wrong_at}
use Rattle.diagnostics.specs.Kinds.{kind_of_feed, kind_of_source}
use Rattle.diagnostics.specs.Mending.{mend_of, span_at}
use Rattle.diagnostics.specs.Objects.{edit_text, finding_object, fix_text, head_text, place_members, said_text}
use Rattle.diagnostics.specs.Report.{beside_text, count_text, report, shown_line, told_text, warning_text}

-- a text of lines, each but the last followed by a semicolon here; an at sign stands for a semicolon
abbrev text_of : List ℕ → List ℕ
text_of text = map (λ byte. if byte == 0o73 then 0o12 else (if byte == 0o100 then 0o73 else byte)) text

-- a fault: its line, its kind, and the bytes to blame
abbrev fault : ℕ × FaultKind × ℕ × ℕ → Finding
fault f = record { line = f.0; kind = f.1; span = record { start = f.2; width = f.3 }; taken_by = None }

-- sources, each with its faults and what is told of them
abbrev sources : List (List ℕ × List (ℕ × FaultKind × ℕ × ℕ) × List ℕ)
sources = (
  codes " CA FIV;FIVE OCT 5",
  (1, Undefined, 4, 3)
      ∷ [],
  (codes "{\"kind\":\"error\",\"number\":\"E17\",\"file\":\"a\",\"line\":1,\"column\":5,\"end\":8,\"said\":\"no line defines "
      ++ (codes "FIV\",\"cure\":\"did you mean FIVE?\",\"flight\":false,\"fix\":{\"line\":1,\"column\":5,\"end\":8,\"text\":\"FIVE\","
      ++ codes "\"sure\":true},\"related\":null};")),
)
    ∷ (
      codes " TFC X;X OCT 5",
      (1, UnknownOperator, 1, 3)
          ∷ [],
      (codes "{\"kind\":\"error\",\"number\":\"E15\",\"file\":\"a\",\"line\":1,\"column\":2,\"end\":5,\"said\":\"TFC is no "
          ++ (codes "operator\",\"cure\":\"did you mean TCF?\",\"flight\":false,\"fix\":{\"line\":1,\"column\":2,\"end\":5,\"text\":\"TCF\","
          ++ codes "\"sure\":true},\"related\":null};")),
    )
    ∷ (
      codes "X OCT 1;X OCT 2",
      (2, TwiceDefined, 0, 1)
          ∷ [],
      (codes "{\"kind\":\"error\",\"number\":\"E14\",\"file\":\"a\",\"line\":2,\"column\":1,\"end\":2,\"said\":\"line 1 has the "
          ++ codes "label X already\",\"cure\":null,\"flight\":false,\"fix\":null,\"related\":{\"line\":1,\"column\":1,\"end\":2}};"),
    )
    ∷ (
      codes " OCT 1; SETLOC SUX;SUX OCT 1",
      (2, UsedTooEarly, 8, 3)
          ∷ [],
      (codes "{\"kind\":\"error\",\"number\":\"E18\",\"file\":\"a\",\"line\":2,\"column\":9,\"end\":12,\"said\":\"SETLOC needs the "
          ++ (codes "value of SUX here, and line 3 defines it, which is below\",\"cure\":null,\"flight\":false,\"fix\":null,"
          ++ codes "\"related\":{\"line\":3,\"column\":1,\"end\":4}};")),
    )
    ∷ (
      codes " OCT 1; CA A",
      (2, Undefined, 4, 1)
          ∷ [],
      (codes "{\"kind\":\"error\",\"number\":\"E17\",\"file\":\"a\",\"line\":2,\"column\":5,\"end\":6,\"said\":\"no line defines "
          ++ (codes "A\",\"cure\":\"no register has a name beforehand@ this line gives it one: A EQUALS 0\",\"flight\":false,"
          ++ codes "\"fix\":{\"line\":1,\"column\":1,\"end\":1,\"text\":\"A EQUALS 0\\u000a\",\"sure\":true},\"related\":null};")),
    )
    ∷ (
      codes " OCT 1; MP X",
      (2, NeedsExtend, 1, 2)
          ∷ [],
      (codes "{\"kind\":\"error\",\"number\":\"E23\",\"file\":\"a\",\"line\":2,\"column\":2,\"end\":4,\"said\":\"MP is an "
          ++ (codes "extracode, and EXTEND does not stand before it\",\"cure\":\"EXTEND on the line before, behind a blank\","
          ++ (codes "\"flight\":false,\"fix\":{\"line\":2,\"column\":1,\"end\":1,\"text\":\"        EXTEND\\u000a\",\"sure\":true},"
          ++ codes "\"related\":null};"))),
    )
    ∷ (
      codes " START CA FIVE",
      (1, UnknownOperator, 1, 5)
          ∷ [],
      (codes "{\"kind\":\"error\",\"number\":\"E15\",\"file\":\"a\",\"line\":1,\"column\":2,\"end\":7,\"said\":\"START is no "
          ++ (codes "operator\",\"cure\":\"a label begins in the first column: no blank before START\",\"flight\":false,\"fix\":{\"line\":1,"
          ++ codes "\"column\":1,\"end\":2,\"text\":\"\",\"sure\":false},\"related\":null};")),
    )
    ∷ (
      codes " CA TAB+1",
      (1, Undefined, 4, 5) ∷ [],
      (codes "{\"kind\":\"error\",\"number\":\"E17\",\"file\":\"a\",\"line\":1,\"column\":5,\"end\":10,\"said\":\"no line defines "
          ++ (codes "TAB+1\",\"cure\":\"TAB+1 is one name@ a blank stands before an offset\",\"flight\":false,\"fix\":{\"line\":1,"
          ++ codes "\"column\":8,\"end\":8,\"text\":\" \",\"sure\":false},\"related\":null};")),
    )
    ∷ (
      codes " CA 18 # it",
      (1, BadOperand, 4, 2)
          ∷ [],
      (codes "{\"kind\":\"error\",\"number\":\"E16\",\"file\":\"a\",\"line\":1,\"column\":5,\"end\":7,\"said\":\"numbers are octal,"
          ++ (codes " and 18 has a digit 8 or 9\",\"cure\":\"18D is decimal\",\"flight\":false,\"fix\":{\"line\":1,\"column\":5,\"end\":7,"
          ++ codes "\"text\":\"18D\",\"sure\":false},\"related\":null};")),
    )
    ∷ (
      codes " OCT 9",
      (1, BadOperand, 5, 1) ∷ [],
      (codes "{\"kind\":\"error\",\"number\":\"E16\",\"file\":\"a\",\"line\":1,\"column\":6,\"end\":7,\"said\":\"OCT takes octal digits, "
          ++ (codes "0 to 7, and 9 is no such number\",\"cure\":\"DEC takes decimal digits\",\"flight\":false,\"fix\":{\"line\":1,"
          ++ codes "\"column\":2,\"end\":5,\"text\":\"DEC\",\"sure\":false},\"related\":null};")),
    )
    ∷ (
      codes " OCT X",
      (1, BadOperand, 5, 1) ∷ [],
      (codes "{\"kind\":\"error\",\"number\":\"E16\",\"file\":\"a\",\"line\":1,\"column\":6,\"end\":7,\"said\":\"OCT takes octal digits, "
          ++ (codes "0 to 7, and X is no such number\",\"cure\":\"DEC takes decimal digits\",\"flight\":false,\"fix\":null,"
          ++ codes "\"related\":null};")),
    )
    ∷ (
      codes " BLOCK 5",
      (1, BadBank, 7, 1) ∷ [],
      (codes "{\"kind\":\"error\",\"number\":\"E19\",\"file\":\"a\",\"line\":1,\"column\":8,\"end\":9,\"said\":\"BLOCK takes 2 and 3, "
          ++ (codes "and 5 is neither\",\"cure\":\"BANK 5\",\"flight\":false,\"fix\":{\"line\":1,\"column\":2,\"end\":7,\"text\":\"BANK\","
          ++ codes "\"sure\":false},\"related\":null};")),
    )
    ∷ (
      codes " CA X // it",
      (1, BadOperand, 6, 2)
          ∷ [],
      (codes "{\"kind\":\"error\",\"number\":\"E16\",\"file\":\"a\",\"line\":1,\"column\":7,\"end\":9,\"said\":\"the operand does "
          ++ (codes "not end where a comment was meant to begin\",\"cure\":\"a comment begins with #\",\"flight\":false,\"fix\":{\"line\":1,"
          ++ codes "\"column\":7,\"end\":7,\"text\":\"# \",\"sure\":false},\"related\":null};")),
    )
    ∷ (
      codes " RETURN X",
      (1, BadOperand, 8, 1) ∷ [],
      (codes "{\"kind\":\"error\",\"number\":\"E16\",\"file\":\"a\",\"line\":1,\"column\":9,\"end\":10,\"said\":\"RETURN takes no "
          ++ codes "operand\",\"cure\":\"a comment begins with #\",\"flight\":false,\"fix\":null,\"related\":null};"),
    )
    ∷ (
      codes " CA X + 1",
      (1, BadOperand, 4, 1) ∷ [],
      (codes "{\"kind\":\"error\",\"number\":\"E16\",\"file\":\"a\",\"line\":1,\"column\":5,\"end\":6,\"said\":\"after X only an offset "
          ++ (codes "may stand, a sign and an octal number\",\"cure\":\"no blank stands between both\",\"flight\":false,\"fix\":{\"line\":1,"
          ++ codes "\"column\":8,\"end\":9,\"text\":\"\",\"sure\":false},\"related\":null};")),
    )
    ∷ (
      codes " LDA X",
      (1, UnknownOperator, 1, 3)
          ∷ [],
      (codes "{\"kind\":\"error\",\"number\":\"E15\",\"file\":\"a\",\"line\":1,\"column\":2,\"end\":5,\"said\":\"LDA is no "
          ++ (codes "operator of this assembler\",\"cure\":\"CA loads A\",\"flight\":false,\"fix\":{\"line\":1,\"column\":2,\"end\":5,"
          ++ codes "\"text\":\"CA\",\"sure\":false},\"related\":null};")),
    )
    ∷ (
      codes " 2DEC .5",
      (1, UnknownOperator, 1, 4)
          ∷ [],
      (codes "{\"kind\":\"error\",\"number\":\"E15\",\"file\":\"a\",\"line\":1,\"column\":2,\"end\":6,\"said\":\"2DEC is no "
          ++ codes "operator of this assembler\",\"cure\":\"two words: a DEC for each\",\"flight\":true,\"fix\":null,\"related\":null};"),
    )
    ∷ (
      codes " XYZZY \"",
      (1, UnknownOperator, 1, 5)
          ∷ [],
      (codes "{\"kind\":\"error\",\"number\":\"E15\",\"file\":\"a\",\"line\":1,\"column\":2,\"end\":7,\"said\":\"XYZZY is no "
          ++ codes "operator\",\"cure\":null,\"flight\":false,\"fix\":null,\"related\":null};"),
    )
    ∷ (
      codes " \"\\ X",
      (1, UnknownOperator, 1, 2)
          ∷ [],
      (codes "{\"kind\":\"error\",\"number\":\"E15\",\"file\":\"a\",\"line\":1,\"column\":2,\"end\":4,\"said\":\"\\\"\\\\ is no "
          ++ codes "operator\",\"cure\":null,\"flight\":false,\"fix\":null,\"related\":null};"),
    )
    ∷ (
      codes " CA",
      (1, BadOperand, 7, 4)
          ∷ [],
      (codes "{\"kind\":\"error\",\"number\":\"E16\",\"file\":\"a\",\"line\":1,\"column\":4,\"end\":4,\"said\":\"CA needs an "
          ++ codes "operand\",\"cure\":null,\"flight\":false,\"fix\":null,\"related\":null};"),
    )
    ∷ []

each_told : map {B = List ℕ} (λ r. told_text Json Standard (codes "a") (lines (text_of r.0)) (map fault r.1) []) sources
    ≡ map {B = List ℕ} (λ r. text_of r.2) sources
unfolding told_text cause_of_kind shown_line beside_text finding_object head_text place_members said_text fix_text edit_text mend_of span_at
    escaped escaped_byte lines digits runs operators has_flight_form statement_of line_effect uncounted_statement flight_operators
    operator_rows flight_rows
each_told = refl

-- a place that is taken, a line below the one whose word stands there; and a warning of an earlier line before it
taken_after_a_warning : report Json Standard (codes "a\"b") (text_of (codes "CA TC 5; OCT 2"))
    (record (fault (2, PlaceTaken, 1, 3)) { taken_by = Some 1 } ∷ [])
    (record { line = 1; number = 1; span = record { start = 0; width = 2 }; doubt = None } ∷ [])
    ≡ text_of ((codes "{\"kind\":\"warning\",\"number\":\"W1\",\"file\":\"a\\\"b\",\"line\":1,\"column\":1,\"end\":3,\"said\":\"CA is an "
    ++ (codes "operator's name, and in the first column it is a label\",\"cure\":\"put a blank before CA\",\"flight\":false,"
    ++ codes "\"fix\":{\"line\":1,\"column\":1,\"end\":1,\"text\":\"        \",\"sure\":true},\"related\":null};"))
    ++ (codes "{\"kind\":\"error\",\"number\":\"E21\",\"file\":\"a\\\"b\",\"line\":2,\"column\":2,\"end\":5,\"said\":\"line 1 has a word "
    ++ codes "at this place already\",\"cure\":null,\"flight\":false,\"fix\":null,\"related\":{\"line\":1,\"column\":1,\"end\":3}};"))
unfolding report told_text cause_of_kind shown_line beside_text warning_text kind_of_source finding_object head_text place_members said_text
    fix_text edit_text mend_of span_at escaped escaped_byte lines digits runs operators parsed has_flight_form statement_of line_effect
    uncounted_statement flight_operators operator_rows flight_rows
taken_after_a_warning = refl

-- a feed in a source's place, and how many there are
a_feed : report Json Standard (codes "s") (text_of (codes "5 TIME1 PINC")) (fault (1, UnknownOperator, 2, 5) ∷ []) [] ++ count_text Json 1 0
    ≡ text_of ((codes "{\"kind\":\"error\",\"number\":\"E15\",\"file\":\"s\",\"line\":1,\"column\":3,\"end\":8,\"said\":\"TIME1 is no "
    ++ codes "operator\",\"cure\":null,\"flight\":false,\"fix\":null,\"related\":null};")
    ++ codes "{\"kind\":\"other\",\"file\":\"s\",\"said\":\"this is a feed, and no source: it stands after the source\"};"
    ++ codes "{\"kind\":\"total\",\"errors\":1,\"warnings\":0};")
unfolding report told_text cause_of_kind shown_line beside_text warning_text kind_of_source finding_object head_text place_members said_text
    fix_text edit_text mend_of span_at escaped escaped_byte lines digits runs operators parsed counters sequences has_flight_form
    statement_of line_effect uncounted_statement flight_operators operator_rows flight_rows
a_feed = refl

-- feeds with what is told of them
abbrev feeds : List (List ℕ × List ℕ)
feeds =
    (codes "5 TIME1 PINC", [])
    ∷ (
      codes "# keys;9 TIME1 PINC;4 RUPT 1",
      (codes "{\"kind\":\"error\",\"number\":\"E31\",\"file\":\"f\",\"line\":3,\"column\":1,\"end\":2,\"said\":\"the cycle is below that "
          ++ (codes "of the input before it, on line 2\",\"cure\":\"inputs stand in the order of their cycles, and EVERY anywhere\","
          ++ codes "\"flight\":false,\"fix\":null,\"related\":{\"line\":2,\"column\":1,\"end\":2}};")),
    )
    ∷ (
      codes " 0 TIME6 PINC",
      (codes "{\"kind\":\"error\",\"number\":\"E33\",\"file\":\"f\",\"line\":1,\"column\":10,\"end\":14,\"said\":\"the counter does not "
          ++ (codes "take PINC\",\"cure\":\"TIME6 takes DINC\",\"flight\":false,\"fix\":{\"line\":1,\"column\":10,\"end\":14,"
          ++ codes "\"text\":\"DINC\",\"sure\":false},\"related\":null};")),
    )
    ∷ (
      codes "5 time1 pinc",
      (codes "{\"kind\":\"error\",\"number\":\"E30\",\"file\":\"f\",\"line\":1,\"column\":3,\"end\":8,\"said\":\"time1 is no counter, "
          ++ (codes "and neither CHAN nor RUPT\",\"cure\":\"did you mean TIME1?\",\"flight\":false,\"fix\":{\"line\":1,\"column\":3,"
          ++ codes "\"end\":8,\"text\":\"TIME1\",\"sure\":true},\"related\":null};")),
    )
    ∷ []

each_feed : map {B = List ℕ} (λ r. feed_report Json (codes "f") (text_of r.0)) feeds ≡ map {B = List ℕ} (λ r. text_of r.1) feeds
unfolding feed_report kind_of_feed wrong_at finding_object head_text place_members said_text fix_text edit_text mend_of span_at escaped
    escaped_byte inputs first_fault plain_from series_from feed_statement parsed counters sequences runs lines digits operators
    operator_rows flight_rows
each_feed = refl
