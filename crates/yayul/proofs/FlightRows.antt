-- Small sources in the language of flight programs, assembled by the definitions alone: each comes to its words, or to its least fault.
use Rattle.std.proofs.Common.{◌≡◌, ℕ, Bool, true, false, List, [], ◌∷◌, ◌++◌, replicate, Err, refl, map}
use Rattle.std.specs.List.{list_all, list_any}
use Rattle.std.specs.Prelude.{codes, ◌==◌, if◌then◌else◌, is_ok}
use Rattle.agc_text.specs.Fields.{runs}
use Rattle.agc_text.specs.Lines.{lines}
use Rattle.space.specs.Places.{window, fb_of, sup_of}
use Rattle.yayul.specs.Operators.{operators, operator_rows}
use Rattle.yayul.specs.Forms.{statement_of}
use Rattle.yayul.specs.Flight.{flight_operators, uncounted_statement, flight_rows}
use Rattle.yayul.specs.FlightForms.{has_flight_form}
use Rattle.yayul.specs.Layout.{fault_number, start, line_effect, layout_after}
use Rattle.yayul.specs.Later.{with_values}
use Rattle.yayul.specs.Words.{request_words, request_faults}
use Rattle.yayul.specs.Program.{image_of, program}
use Rattle.yayul.specs.Language.{Flight, Standard, FaultKind, LongLine, BadLabel, TwiceDefined, UnknownOperator, BadOperand, BadBank}
use Rattle.yayul.specs.Language.{Undefined, UsedTooEarly, NotExtracode, WrongKindOfAddress, OutOfRange}

-- a source of lines, each but the last followed by a semicolon here
abbrev source : List ℕ → List ℕ
source text = map (λ byte. if byte == 0o73 then 0o12 else byte) text

-- the bank, the offset and the word of each place that a source fills
abbrev words : List ℕ → List (ℕ × ℕ × ℕ)
words text = map (λ p. (p.bank, p.offset, p.word)) (image_of (with_values (layout_after 1 (start Flight) (lines text))))

-- sources with their words, in the order of their lines
abbrev good : List (List ℕ × List (ℕ × ℕ × ℕ))
good = (
  codes "+3 OCT 5; -1 OCT 6; +8D DXCH 4 +1;-10D OCT 1; +2;X; -0 CA X",
  (2, 0, 5) ∷ (2, 1, 6) ∷ (2, 2, 0o52006) ∷ (2, 3, 1)
      ∷ (2, 4, 0o34004) ∷ [],
)
    ∷ (codes " COUNT* $$/EXEC; COUNT 05; BNKSUM 05; SUBRO; MEMORY 120000 - 167777; CHECK= X +5; OCT 1", (2, 0, 1) ∷ [])
    ∷ (
      codes " SETLOC 4005;X EQUALS;Y =; OCT 1; CA X; CA Y;Z EQUALS X +1; CA Z",
      (2, 5, 1) ∷ (2, 6, 0o34005) ∷ (2, 7, 0o34005)
          ∷ (2, 8, 0o34006) ∷ [],
    )
    ∷ (
      codes " BANK 04;P40S EQUALS; SETLOC P40S; BANK; OCT 1; SETLOC 4000; OCT 2; SETLOC P40S; BANK; OCT 3",
      (4, 0, 1) ∷ (2, 0, 2)
          ∷ (4, 1, 3) ∷ [],
    )
    ∷ (codes " BLOCK 2; OCT 1; SETLOC 4000; BLOCK; OCT 2; BANK 5; BLOCK; OCT 3", (2, 0, 1) ∷ (2, 1, 2) ∷ (5, 0, 3) ∷ [])
    ∷ (codes " OCTAL 37777; BANK 5;X GENADR X; REMADR X", (2, 0, 0o37777) ∷ (5, 0, 0o2000) ∷ (5, 1, 0o2000) ∷ [])
    ∷ (
      codes " 1DNADR 100; 2DNADR 400; 3DNADR 400; 4DNADR 400; 5DNADR 400; 6DNADR 154; DNCHAN 30",
      (2, 0, 0o00100) ∷ (2, 1, 0o04400)
          ∷ (2, 2, 0o10400) ∷ (2, 3, 0o14400) ∷ (2, 4, 0o20400) ∷ (2, 5, 0o24154) ∷ (2, 6, 0o34030) ∷ [],
    )
    ∷ (
      codes " CAF 0; CAF 1777 +1; CAF 4005; CAF 12000; SETLOC 4005;X OCT 1; CAF X",
      (2, 0, 0o30000) ∷ (2, 1, 0o32000) ∷ (2, 2, 0o34005)
          ∷ (2, 3, 0o32000) ∷ (2, 5, 1) ∷ (2, 6, 0o34005) ∷ [],
    )
    ∷ (
      codes " LXCH 0 -1; CA 0 -1; CAF 1 -2; DXCH 0 -1; CS 5 -5; INDEX 0 -2",
      (2, 0, 0o21777) ∷ (2, 1, 0o27777) ∷ (2, 2, 0o27777)
          ∷ (2, 3, 0o52000) ∷ (2, 4, 0o40000) ∷ (2, 5, 0o47776) ∷ [],
    )
    ∷ (codes " -DNCHAN 30; DEC* -1 B-14*; 2DEC 5 B-28*", (2, 0, 0o43747) ∷ (2, 1, 0o77776) ∷ (2, 2, 0) ∷ (2, 3, 5) ∷ [])
    ∷ (codes " 2DEC* 3.986032 E10 B-36*; 2DEC* 5", (2, 0, 0o22437) ∷ (2, 1, 0o16067) ∷ (2, 2, 0) ∷ (2, 3, 5) ∷ [])
    ∷ (codes " OCT -20000; OCTAL +5; OCT -0; OCT 5", (2, 0, 0o57777) ∷ (2, 1, 5) ∷ (2, 2, 0o77777) ∷ (2, 3, 5) ∷ [])
    ∷ (codes " 2OCT 0000500000; 2OCT 1234567012", (2, 0, 5) ∷ (2, 1, 0) ∷ (2, 2, 0o12345) ∷ (2, 3, 0o67012) ∷ [])
    ∷ (
      codes " DEC .5; DEC -1 B-14; DEC 1.0 E4 B-14; DEC 5.95 E-3 B+6; DEC 16383",
      (2, 0, 0o20000) ∷ (2, 1, 0o77776) ∷ (2, 2, 0o23420)
          ∷ (2, 3, 0o14137) ∷ (2, 4, 0o37777) ∷ [],
    )
    ∷ (
      codes " 2DEC .57735027; 2DEC 1738090 B-29; 2DEC -.1; 2DEC 3.986032 E10 B-36",
      (2, 0, 0o22363) ∷ (2, 1, 0o11643) ∷ (2, 2, 0o65)
          ∷ (2, 3, 0o1265) ∷ (2, 4, 0o74631) ∷ (2, 5, 0o63145) ∷ (2, 6, 0o22437) ∷ (2, 7, 0o16067) ∷ [],
    )
    ∷ (
      codes " 2DEC 60000; 2DEC -1; 2DEC +268435455",
      (2, 0, 3) ∷ (2, 1, 0o25140) ∷ (2, 2, 0o77777) ∷ (2, 3, 0o77776)
          ∷ (2, 4, 0o37777) ∷ (2, 5, 0o37777) ∷ [],
    )
    ∷ (codes " VN 0633; VN 9999; VN 0000", (2, 0, 0o1441) ∷ (2, 1, 0o30743) ∷ (2, 2, 0) ∷ [])
    ∷ (
      codes " -1DNADR 100; -2DNADR 400; -3DNADR 400; -4DNADR 400; -5DNADR 400; -6DNADR 154",
      (2, 0, 0o77677) ∷ (2, 1, 0o73377)
          ∷ (2, 2, 0o67377) ∷ (2, 3, 0o63377) ∷ (2, 4, 0o57377) ∷ (2, 5, 0o53623) ∷ [],
    )
    ∷ (
      (codes " OCT 1 # a comment that goes on and on, as those of flight programs may, over more bytes than a line of the other language "
          ++ codes "has, which are 120"),
      (2, 0, 1) ∷ [],
    )
    ∷ (
      codes "-PHASE1 EQUALS 100; AD -PHASE1; TC -PHASE1 +1;+X/2 OCT 5; CA +X/2",
      (2, 0, 0o60100) ∷ (2, 1, 0o00101) ∷ (2, 2, 5)
          ∷ (2, 3, 0o34002) ∷ [],
    )
    ∷ (
      codes " TC 10000; TCF 10000; CA 12005; CADR 20000; TC 10000 +5; CA 77777",
      (2, 0, 0o2000) ∷ (2, 1, 0o12000) ∷ (2, 2, 0o32005)
          ∷ (2, 3, 0o10000) ∷ (2, 4, 0o2005) ∷ (2, 5, 0o33777) ∷ [],
    )
    ∷ (codes " SETLOC 10000; OCT 1; SETLOC 12000; OCT 2; SETLOC 20000; OCT 4", (0, 0, 1) ∷ (1, 0, 2) ∷ (4, 0, 4) ∷ [])
    ∷ (codes "X EQUALS Y +1; CA X;Y EQUALS 100; CA X", (2, 0, 0o30101) ∷ (2, 1, 0o30101) ∷ [])
    ∷ (codes "A = B;B = C +1;C = D;D = 5; CA A;E = F;F OCT 7; TC E; TC A", (2, 0, 0o30006) ∷ (2, 1, 7) ∷ (2, 2, 0o4001) ∷ (2, 3, 6) ∷ [])
    ∷ (
      codes " 2CADR TAG; SETLOC 20000; OCT 1;TAG EQUALS PLACE -1; OCT 2;PLACE OCT 3",
      (2, 0, 0o2001) ∷ (2, 1, 0o10000) ∷ (4, 0, 1)
          ∷ (4, 1, 2) ∷ (4, 2, 3) ∷ [],
    )
    ∷ (codes " CA 10000 -4000;X EQUALS 7777 +1; CA X -1", (2, 0, 0o34000) ∷ (2, 1, 0o37777) ∷ [])
    ∷ (
      codes " BANK 5;X -CADR X; -GENADR X; -CCS 100; EBANK= 1400; -2CADR X; BBCON X",
      (5, 0, 0o65777) ∷ (5, 1, 0o75777) ∷ (5, 2, 0o67677)
          ∷ (5, 3, 0o75777) ∷ (5, 4, 0o65774) ∷ (5, 5, 0o12003) ∷ [],
    )
    ∷ []

each_good : map {B = Bool × List (ℕ × ℕ × ℕ)} (λ row. (is_ok (program Flight (source row.0)), words (source row.0))) good
    ≡ map {B = Bool × List (ℕ × ℕ × ℕ)} (λ row. (true, row.1)) good
unfolding program runs operators operator_rows flight_operators flight_rows statement_of uncounted_statement line_effect request_words
    request_faults lines window fb_of sup_of
each_good = refl

-- sources with the line and the kind of their least fault
abbrev faulty : List (List ℕ × ℕ × FaultKind)
faulty =
    (codes "X +3 OCT 5", 1, UnknownOperator)
    ∷ (codes "+ OCT 5", 1, BadLabel)
    ∷ (codes "-LONGNAME OCT 5", 1, BadLabel)
    ∷ (codes "-A$ OCT 5", 1, BadLabel)
    ∷ (codes "-X OCT 1;-X OCT 2", 2, TwiceDefined)
    ∷ (codes " AD -", 1, BadOperand)
    ∷ (codes " AD -8", 1, BadOperand)
    ∷ (codes " AD -NONE", 1, Undefined)
    ∷ (codes " AD -X Y;-X EQUALS 5", 1, BadOperand)
    ∷ (codes " TC 14000", 1, OutOfRange)
    ∷ (codes " TC 17777", 1, OutOfRange)
    ∷ (codes " TC 77777 +1", 1, OutOfRange)
    ∷ (codes " SETLOC 14000", 1, OutOfRange)
    ∷ (codes "X EQUALS 10000; TC X", 2, OutOfRange)
    ∷ (codes " EBANK= 10000", 1, WrongKindOfAddress)
    ∷ (codes "X EQUALS Y;Y EQUALS X", 1, UsedTooEarly)
    ∷ (codes "X EQUALS X", 1, UsedTooEarly)
    ∷ (codes " CA X;X EQUALS NOWHERE", 2, UsedTooEarly)
    ∷ (codes "X EQUALS Y; SETLOC X;Y EQUALS 5", 2, UsedTooEarly)
    ∷ (codes " EBANK= Y;Y EQUALS 5", 1, UsedTooEarly)
    ∷ (codes "X EQUALS Y;X EQUALS 5;Y EQUALS 6", 2, TwiceDefined)
    ∷ (codes "X EQUALS Y;X EQUALS Z;Y EQUALS 6", 2, TwiceDefined)
    ∷ (codes "X EQUALS Y;Y OCT 5;X OCT 6", 3, TwiceDefined)
    ∷ (codes "X OCT 5;X EQUALS Y;Y EQUALS 6", 2, TwiceDefined)
    ∷ (codes "X EQUALS Y +77777;Y EQUALS 5", 1, OutOfRange)
    ∷ (codes " EQUALS Y;Y EQUALS 5", 1, BadLabel)
    ∷ (codes " TC X;X EQUALS Y;Y EQUALS Z; FROB;Z EQUALS 5", 4, UnknownOperator)
    ∷ (codes " +3 +3 OCT 5", 1, UnknownOperator)
    ∷ (codes " EQUALS", 1, BadLabel)
    ∷ (codes "X EQUALS;X EQUALS", 2, TwiceDefined)
    ∷ (codes " SETLOC 5777; OCT 1;X EQUALS", 3, OutOfRange)
    ∷ (codes " SETLOC 1400; BANK", 2, BadOperand)
    ∷ (codes "X BANK", 1, BadLabel)
    ∷ (codes " BANK 44", 1, BadBank)
    ∷ (codes " BLOCK 4", 1, BadBank)
    ∷ (codes " BANK 5 +1", 1, BadOperand)
    ∷ (codes " OCTAL 8", 1, BadOperand)
    ∷ (codes " 2DNADR X;X OCT 0", 1, WrongKindOfAddress)
    ∷ (codes " DNCHAN 1000", 1, WrongKindOfAddress)
    ∷ (codes " EXTEND; EDRUPT 0", 2, UnknownOperator)
    ∷ (codes " SBANK= LOWSUPER", 1, UnknownOperator)
    ∷ (codes " OCT --5", 1, BadOperand)
    ∷ (codes " OCT -100000", 1, OutOfRange)
    ∷ (codes " 2OCT 123", 1, BadOperand)
    ∷ (codes " 2DEC", 1, BadOperand)
    ∷ (codes " 2DEC 268435456", 1, OutOfRange)
    ∷ (codes " 2DEC 5 E3", 1, BadOperand)
    ∷ (codes " DEC 5 E3", 1, BadOperand)
    ∷ (codes " 2DEC .5 B-1 E1", 1, BadOperand)
    ∷ (codes " 2DEC* .5 B-1**", 1, BadOperand)
    ∷ (codes " 2DEC* .5 E1*", 1, BadOperand)
    ∷ (codes " -DNCHAN 1000", 1, WrongKindOfAddress)
    ∷ (codes " TC 0 -1", 1, OutOfRange)
    ∷ (codes " CA 0 -2000", 1, OutOfRange)
    ∷ (codes " ECADR 0 -1", 1, OutOfRange)
    ∷ (codes " TCF 0 -1", 1, OutOfRange)
    ∷ (codes " CAF X;X EQUALS 5", 1, WrongKindOfAddress)
    ∷ (codes "X CHECK= 5;X OCT 1", 2, TwiceDefined)
    ∷ (codes " 2DEC .5 E1 B-1 B-1", 1, BadOperand)
    ∷ (codes " 2DEC .5 E12", 1, BadOperand)
    ∷ (codes " 2DEC 1 B-51", 1, BadOperand)
    ∷ (codes " 2DEC 1.0", 1, OutOfRange)
    ∷ (codes " DEC .99999", 1, OutOfRange)
    ∷ (codes " DEC 1 B", 1, BadOperand)
    ∷ (codes " 2OCT 0000800000", 1, BadOperand)
    ∷ (codes " VN 633", 1, BadOperand)
    ∷ (codes " VN 06 33", 1, BadOperand)
    ∷ (codes " -CCS 2000", 1, WrongKindOfAddress)
    ∷ (codes " EXTEND; -CCS 100", 2, NotExtracode)
    ∷ (codes " -2CADR X; BANK 43;X OCT 1", 1, WrongKindOfAddress)
    ∷ (codes " BBCON X; BANK 30;X OCT 1", 1, WrongKindOfAddress)
    ∷ (codes " -TC X", 1, UnknownOperator)
    ∷ (codes "X COUNT 5;X OCT 1", 2, TwiceDefined)
    ∷ []

each_faulty : map (λ row. program Flight (source row.0)) faulty
    ≡ map (λ row. Err (record { line = row.1; number = fault_number row.2 })) faulty
unfolding program runs operators operator_rows flight_operators flight_rows statement_of uncounted_statement line_effect request_words
    request_faults lines window fb_of sup_of
each_faulty = refl

-- what the standard language refuses of this
abbrev refused : List (List ℕ × ℕ × FaultKind)
refused =
    (codes "+3 OCT 5", 1, BadLabel)
    ∷ (codes " -1 OCT 6", 1, UnknownOperator)
    ∷ (codes " COUNT 05", 1, UnknownOperator)
    ∷ (codes " COUNT* $$/EXEC", 1, UnknownOperator)
    ∷ (codes "X EQUALS", 1, BadOperand)
    ∷ (codes "X =", 1, BadOperand)
    ∷ (codes " BANK", 1, BadOperand)
    ∷ (codes " BLOCK", 1, BadOperand)
    ∷ (codes " OCTAL 5", 1, UnknownOperator)
    ∷ (codes " 2DNADR 400", 1, UnknownOperator)
    ∷ (codes " OCT -20000", 1, BadOperand)
    ∷ (codes " 2OCT 0000500000", 1, UnknownOperator)
    ∷ (codes " VN 0633", 1, UnknownOperator)
    ∷ (codes " 2DEC .5", 1, UnknownOperator)
    ∷ (codes " DEC -1 B-14", 1, BadOperand)
    ∷ (codes " -CADR 4000", 1, UnknownOperator)
    ∷ (codes " BBCON 4000", 1, UnknownOperator)
    ∷ (codes "X EQUALS Y;Y EQUALS 5", 1, UsedTooEarly)
    ∷ (
      (codes " OCT 1 # a comment that goes on and on, as those of flight programs may, over more bytes than a line of the other language "
          ++ codes "has, which are 120"),
      1,
      LongLine,
    )
    ∷ (codes "-PHASE1 EQUALS 100", 1, BadLabel)
    ∷ (codes " AD -PHASE1", 1, BadOperand)
    ∷ (codes " TC 10000", 1, OutOfRange)
    ∷ (codes " SETLOC 10000", 1, OutOfRange)
    ∷ []

each_refused : map (λ row. program Standard (source row.0)) refused
    ≡ map (λ row. Err (record { line = row.1; number = fault_number row.2 })) refused
unfolding program runs operators operator_rows statement_of line_effect request_words request_faults lines window fb_of sup_of
each_refused = refl

-- ## Forms
-- lines whose form the language takes, whatever their symbols are; most of them the standard language refuses
abbrev taken_forms : List (List ℕ)
taken_forms =
    codes " CHECK= X" ∷ codes " -DNCHAN 34" ∷ codes " 2DEC* 1.5 B-2*" ∷ codes " DEC* .5"
    ∷ codes "+3 OCT 1" ∷ codes " +3 OCT 1" ∷ codes " -1" ∷ codes " COUNT* $$/EXEC" ∷ codes " BNKSUM 05" ∷ codes " SUBRO X"
    ∷ codes " MEMORY 120000 - 167777" ∷ codes "TAG EQUALS" ∷ codes "N = M" ∷
    codes " BANK" ∷ codes " BLOCK" ∷ codes " BANK 77777" ∷ codes " 2DEC .57735027" ∷ codes " 2DEC 5" ∷ codes " DEC 1.0 E4 B-14" ∷ codes " 1DNADR X"
    ∷ codes " -6DNADR 154" ∷ codes " BBCON X" ∷ codes " GENADR X" ∷
    codes " VN 0633" ∷ codes " DNCHAN 34" ∷ codes "-PHASE1 ERASE" ∷ codes " OCT -20000" ∷ codes " OCTAL 37777" ∷ codes " 2OCT 0000500000"
    ∷ codes " AD -MAXADRS" ∷ codes "X CA FIVE +1 # it" ∷
    codes " SETLOC 77777 +1" ∷ codes " EBANK= 4000" ∷ codes " " ∷ (codes " OCT 1 #" ++ replicate 120 0o40) ∷ []

all_are_taken : list_all has_flight_form taken_forms ≡ true
unfolding has_flight_form runs operators operator_rows flight_operators flight_rows statement_of uncounted_statement line_effect
all_are_taken = refl

-- and lines whose form it does not take
abbrev refused_forms : List (List ℕ)
refused_forms =
    codes " MM 37" ∷ codes " 2DEC 5 E3" ∷ codes " 2DEC 1.5" ∷ codes " DEC 16384" ∷ codes " OCT -100000" ∷ codes " FROB" ∷ codes " OCT 9"
    ∷ codes " EQUALS 5" ∷ codes "X BANK 5" ∷ codes "X BANK" ∷ codes "X SETLOC 4000" ∷ codes "X EBANK= 100" ∷ codes " SETLOC" ∷
    codes " ERASE 0 - 7" ∷ codes "$FILE.agc" ∷ codes "LONGLABEL CA X" ∷ codes " CA FIVE // it" ∷ codes " CA" ∷ codes " CALL"
    ∷ codes " TFC LOOP" ∷ codes " VN 12" ∷ (replicate 120 0o40 ++ codes "CA X") ∷ []

none_is_taken : list_any has_flight_form refused_forms ≡ false
unfolding has_flight_form runs operators operator_rows flight_operators flight_rows statement_of uncounted_statement line_effect
none_is_taken = refl
