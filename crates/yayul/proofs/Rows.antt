-- Small sources, assembled by the definitions alone: each comes to its words, or to its least fault.
use Rattle.std.proofs.Common.{◌≡◌, ℕ, Bool, true, List, [], ◌∷◌, ◌++◌, Err, refl, map}
use Rattle.std.specs.Prelude.{codes, ◌==◌, if◌then◌else◌, is_ok}
use Rattle.agc_text.specs.Fields.{runs}
use Rattle.agc_text.specs.Lines.{lines}
use Rattle.rope.specs.Places.{Placed}
use Rattle.space.specs.Places.{window, fb_of, sup_of}
use Rattle.yayul.specs.Operators.{operators, operator_rows}
use Rattle.yayul.specs.Forms.{statement_of}
use Rattle.yayul.specs.Layout.{fault_number, start, line_effect, layout_after}
use Rattle.yayul.specs.Words.{request_words, request_faults}
use Rattle.yayul.specs.Program.{image_of, program}
use Rattle.yayul.specs.Language.{Standard, FaultKind, BadLabel, TwiceDefined, UnknownOperator, BadOperand, Undefined, UsedTooEarly, BadBank}
use Rattle.yayul.specs.Language.{BankFull, PlaceTaken, CodeInErasable, NeedsExtend, NotExtracode, WrongKindOfAddress, OutOfRange}

-- a source of lines, each but the last followed by a semicolon here
abbrev source : List ℕ → List ℕ
source text = map (λ byte. if byte == 0o73 then 0o12 else byte) text

-- the words that the lines of a source ask for, each with its place
abbrev placed : List ℕ → List Placed
placed text = image_of (layout_after 1 (start Standard) (lines text))

-- sources with their words, in the order of their lines
abbrev good : List (List ℕ × List ℕ)
good = (
  codes " SETLOC 4000; CA FIVE; AD FIVE; EXTEND; WRITE 10; TCF 4000;FIVE OCT 5",
  0o34005 ∷ 0o64005 ∷ 0o00006 ∷ 0o01010 ∷ 0o14000
      ∷ 0o00005 ∷ [],
)
    ∷ (codes " OCT 0000000000000000000005", 5 ∷ [])
    ∷ (codes " CA +1", 0o34001 ∷ [])
    ∷ (codes " SETLOC 2000;X; SETLOC 4000; TS X +1", 0o55401 ∷ [])
    ∷ (codes " SETLOC 5777; OCT 1;# end", 1 ∷ [])
    ∷ (codes "AB#C OCT 5; CA AB", 0o34000 ∷ [])
    ∷ (codes " CA 2048D", 0o34000 ∷ [])
    ∷ (codes "FIVE+5 OCT 1; SETLOC 4100; TCF FIVE+5", 0o00001 ∷ 0o14000 ∷ [])
    ∷ (codes " EXTEND; INDEX 4000; MP 100", 0o00006 ∷ 0o54000 ∷ 0o70100 ∷ [])
    ∷ (codes " TC 3; TC 4; TC 6; INDEX 17; OCT 0", 0o00003 ∷ 0o00004 ∷ 0o00006 ∷ 0o50017 ∷ 0o00000 ∷ [])
    ∷ (
      codes " DAS 0; DAS 1777; DXCH 5; EXTEND; DCA 7777; EXTEND; DCS 100",
      0o20001 ∷ 0o20000 ∷ 0o52006 ∷ 0o00006 ∷ 0o30000 ∷ 0o00006
          ∷ 0o40101 ∷ [],
    )
    ∷ (
      codes " DDOUBL; RETURN; DTCB; RELINT; INHINT; RESUME; EXTEND; SQUARE",
      0o20001 ∷ 0o00002 ∷ 0o52006 ∷ 0o00003 ∷ 0o00004 ∷ 0o50017
          ∷ 0o00006 ∷ 0o70000 ∷ [],
    )
    ∷ (codes " NOOP; TCF 4000", 0o14001 ∷ 0o14000 ∷ [])
    ∷ (codes " CAE 1777; CAF 2000", 0o31777 ∷ 0o32000 ∷ [])
    ∷ (codes " ADRES 4000; ECADR 2000; CADR 4005; FCADR 6000; ADRES +1", 0o04000 ∷ 0o02000 ∷ 0o04005 ∷ 0o06000 ∷ 0o04005 ∷ [])
    ∷ (codes " EXTEND; BZF 4000; EXTEND; BZMF 6000", 0o00006 ∷ 0o14000 ∷ 0o00006 ∷ 0o66000 ∷ [])
    ∷ (codes "X = +1; CA X;Y EQUALS 20; TS Y +2", 0o34001 ∷ 0o54022 ∷ [])
    ∷ (codes " SETLOC 100;A ERASE;B ERASE +8D;C ERASE; SETLOC 4000; TS A; TS B; TS C", 0o54100 ∷ 0o54101 ∷ 0o54112 ∷ [])
    ∷ (codes " BANK 35D;X OCT 1; SETLOC 4000; CADR X", 0o00001 ∷ 0o66000 ∷ [])
    ∷ (
      codes " DEC -5; DEC .5; DEC -0; DEC 16383; DEC -16383; DEC 8; DEC +1; DEC -.5; DEC 00.5; DEC -0.0; DEC .999969482; DEC 0.1",
      0o77772
          ∷ 0o20000 ∷ 0o77777 ∷ 0o37777 ∷ 0o40000 ∷ 0o00010 ∷ 0o00001 ∷ 0o57777 ∷ 0o20000 ∷ 0o77777 ∷ 0o37777 ∷ 0o03146 ∷ [],
    )
    ∷ (codes " EBANK= 400; 2CADR FAR; EBANK= 1000;FAR OCT 0", 0o04002 ∷ 0o04001 ∷ 0o00000 ∷ [])
    ∷ (codes " BANK 43;FAR OCT 1; SETLOC 4000;TARG 2CADR FAR; CA TARG", 0o00001 ∷ 0o02000 ∷ 0o66100 ∷ 0o34000 ∷ [])
    ∷ (
      codes " BANK 37;X OCT 0; BANK 40;Y OCT 0; BANK 30;Z OCT 0; SETLOC 4000; 2CADR X; 2CADR Y +1; 2CADR Z",
      0 ∷ 0 ∷ 0 ∷ 0o02000 ∷ 0o76000
          ∷ 0o02001 ∷ 0o60100 ∷ 0o02000 ∷ 0o60000 ∷ [],
    )
    ∷ (codes " 2CADR 4000; 2CADR 7777; 2CADR +1", 0o04000 ∷ 0o04000 ∷ 0o07777 ∷ 0o06000 ∷ 0o04005 ∷ 0o04000 ∷ [])
    ∷ (codes " EBANK= 400; 2CADR 4000; EBANK= 3777; 2CADR 4000", 0o04000 ∷ 0o04001 ∷ 0o04000 ∷ 0o04007 ∷ [])
    ∷ (
      codes " TC X; TCR X; TCF X; CA X; CAF X; CS X; AD X; MASK X; MSK X;X OCT 0",
      0o04011 ∷ 0o04011 ∷ 0o14011 ∷ 0o34011 ∷ 0o34011
          ∷ 0o44011 ∷ 0o64011 ∷ 0o74011 ∷ 0o74011 ∷ 0o00000 ∷ [],
    )
    ∷ (
      codes " CCS X; DAS X; LXCH X; INCR X; ADS X; CAE X; INDEX X; NDX X; DXCH X; TS X; XCH X;X EQUALS 100",
      0o10100 ∷ 0o20101 ∷ 0o22100
          ∷ 0o24100 ∷ 0o26100 ∷ 0o30100 ∷ 0o50100 ∷ 0o50100 ∷ 0o52101 ∷ 0o54100 ∷ 0o56100 ∷ [],
    )
    ∷ (
      codes " EXTEND; READ X; EXTEND; WRITE X; EXTEND; RAND X; EXTEND; WAND X; EXTEND; ROR X; EXTEND; WOR X; EXTEND; RXOR X;X EQUALS 100",
      0o00006 ∷ 0o00100 ∷ 0o00006 ∷ 0o01100 ∷ 0o00006 ∷ 0o02100 ∷ 0o00006 ∷ 0o03100 ∷ 0o00006 ∷ 0o04100 ∷ 0o00006 ∷ 0o05100 ∷ 0o00006
          ∷ 0o06100 ∷ [],
    )
    ∷ (
      (codes " EXTEND; DV X; EXTEND; MSU X; EXTEND; QXCH X; EXTEND; AUG X; EXTEND; DIM X; EXTEND; DCA X; EXTEND; DCS X; EXTEND; SU X; "
          ++ codes "EXTEND; MP X;X EQUALS 100"),
      0o00006 ∷ 0o10100 ∷ 0o00006 ∷ 0o20100 ∷ 0o00006 ∷ 0o22100 ∷ 0o00006 ∷ 0o24100 ∷ 0o00006
          ∷ 0o26100 ∷ 0o00006 ∷ 0o30101 ∷ 0o00006 ∷ 0o40101 ∷ 0o00006 ∷ 0o60100 ∷ 0o00006 ∷ 0o70100 ∷ [],
    )
    ∷ (
      codes " EXTEND; BZF X; EXTEND; BZMF X; ADRES X; CADR X; FCADR X; 2CADR X;X OCT 0; ECADR Y;Y EQUALS 100",
      0o00006 ∷ 0o14011 ∷ 0o00006
          ∷ 0o64011 ∷ 0o04011 ∷ 0o04011 ∷ 0o04011 ∷ 0o04011 ∷ 0o04000 ∷ 0o00000 ∷ 0o00100 ∷ [],
    )
    ∷ (
      codes " XXALQ; XLQ; ZL; COM; DTCF; OVSK; TCAA; DOUBLE; EXTEND; ZQ; EXTEND; DCOM",
      0o00000 ∷ 0o00001 ∷ 0o22007 ∷ 0o40000 ∷ 0o52005
          ∷ 0o54000 ∷ 0o54005 ∷ 0o60000 ∷ 0o00006 ∷ 0o22007 ∷ 0o00006 ∷ 0o40001 ∷ [],
    )
    ∷ []

each_good : map {B = Bool × List ℕ} (λ row. (is_ok (program Standard (source row.0)), map (λ p. p.word) (placed (source row.0)))) good
    ≡ map {B = Bool × List ℕ} (λ row. (true, row.1)) good
unfolding program runs operators operator_rows statement_of line_effect request_words request_faults lines window fb_of sup_of
each_good = refl

-- sources with the banks and the offsets of their words
abbrev spread : List (List ℕ × List (ℕ × ℕ))
spread =
    (codes " BANK 5; OCT 1; SETLOC 4000; BANK 5; OCT 2", (5, 0) ∷ (5, 1) ∷ [])
    ∷ (codes " SETLOC 6010; OCT 1; SETLOC 6000; OCT 1; BLOCK 3; OCT 1", (3, 8) ∷ (3, 0) ∷ (3, 9) ∷ [])
    ∷ (codes " BANK 5; 2CADR 4000; OCT 1", (5, 0) ∷ (5, 1) ∷ (5, 2) ∷ [])
    ∷ (codes " BANK 5; 2CADR 4000; SETLOC 4000; BANK 5; OCT 1", (5, 0) ∷ (5, 1) ∷ (5, 2) ∷ [])
    ∷ (codes " SETLOC 5776; 2CADR 4000", (2, 1022) ∷ (2, 1023) ∷ [])
    ∷ []

each_spread : map {B = Bool × List (ℕ × ℕ)} (λ row.
    (is_ok (program Standard (source row.0)), map (λ p. (p.bank, p.offset)) (placed (source row.0)))) spread
    ≡ map {B = Bool × List (ℕ × ℕ)} (λ row. (true, row.1)) spread
unfolding program runs operators operator_rows statement_of line_effect request_words request_faults lines window fb_of sup_of
each_spread = refl

-- sources with the line and the kind of their least fault
abbrev faulty : List (List ℕ × ℕ × FaultKind)
faulty =
    (codes " SETLOC 4000; CA NOSUCH", 2, Undefined)
    ∷ (codes " SETLOC 4000; EDRUPT 100", 2, UnknownOperator)
    ∷ (codes " SETLOC 4000;X OCT 100; CA NOSUCH;X OCT 0", 4, TwiceDefined)
    ∷ (codes " SETLOC 5777; OCT 1; OCT 2", 3, BankFull)
    ∷ (codes " SETLOC 100; OCT 1", 2, CodeInErasable)
    ∷ (codes " SETLOC 3777; SETLOC 3777; SETLOC +1", 3, OutOfRange)
    ∷ (codes " SETLOC 4000; OCT 1; SETLOC 4000; OCT 2", 4, PlaceTaken)
    ∷ (codes " EXTEND; CA 5", 2, NotExtracode)
    ∷ (codes " WRITE 5", 1, NeedsExtend)
    ∷ (codes " OCT 5 +1", 1, BadOperand)
    ∷ (codes " OCT 8", 1, BadOperand)
    ∷ (codes " OCT 100000", 1, OutOfRange)
    ∷ (codes " TS 4000", 1, WrongKindOfAddress)
    ∷ (codes " TS 10000", 1, OutOfRange)
    ∷ (codes " TCF 100", 1, WrongKindOfAddress)
    ∷ (codes " SETLOC 100;X; SETLOC 4000; EXTEND; WRITE X", 5, WrongKindOfAddress)
    ∷ (codes " EXTEND; WRITE 1000", 2, WrongKindOfAddress)
    ∷ (codes " SETLOC X;X", 1, UsedTooEarly)
    ∷ (codes "X SETLOC 5", 1, BadLabel)
    ∷ (codes "12D OCT 1", 1, BadLabel)
    ∷ (codes " CA 1 +1 2", 1, BadOperand)
    ∷ (codes " SETLOC 5777; OCT 1; SETLOC +0", 3, OutOfRange)
    ∷ (codes " INDEX ONE;ONE OCT 1", 1, WrongKindOfAddress)
    ∷ (codes " INDEX 17; MP 100", 2, NeedsExtend)
    ∷ (codes " EXTEND; MP 5; MP 5", 3, NeedsExtend)
    ∷ (codes " MP 5", 1, NeedsExtend)
    ∷ (codes " ZL 5", 1, BadOperand)
    ∷ (codes " ZQ", 1, NeedsExtend)
    ∷ (codes " EXTEND; RESUME", 2, NotExtracode)
    ∷ (codes " SETLOC 5777; NOOP", 2, OutOfRange)
    ∷ (codes " EXTEND; NOOP", 2, NotExtracode)
    ∷ (codes " CAE 2000", 1, WrongKindOfAddress)
    ∷ (codes " CAF 1777", 1, WrongKindOfAddress)
    ∷ (codes " EXTEND; ADRES 5", 2, NotExtracode)
    ∷ (codes " CADR 2000", 1, WrongKindOfAddress)
    ∷ (codes " ECADR 4000", 1, WrongKindOfAddress)
    ∷ (codes " CADR 10000", 1, OutOfRange)
    ∷ (codes " EXTEND; OCT 6", 2, NotExtracode)
    ∷ (codes " EXTEND; WRITE 10000", 2, WrongKindOfAddress)
    ∷ (codes " EXTEND; READ 100000", 2, OutOfRange)
    ∷ (codes " EXTEND; BZF 1777", 2, WrongKindOfAddress)
    ∷ (codes "P EQUALS R;R EQUALS 5", 1, UsedTooEarly)
    ∷ (codes "X = X", 1, UsedTooEarly)
    ∷ (codes " EQUALS", 1, BadLabel)
    ∷ (codes "X OCT 1;X EQUALS", 2, TwiceDefined)
    ∷ (codes "X EQUALS", 1, BadOperand)
    ∷ (codes "X EQUALS 77777 +1", 1, OutOfRange)
    ∷ (codes " OCT 1;X EQUALS 100; CA NOSUCH;X OCT 0", 4, TwiceDefined)
    ∷ (codes " SETLOC 100;X EQUALS +0; SETLOC 4000; EXTEND; WRITE X", 5, WrongKindOfAddress)
    ∷ (codes " ERASE", 1, WrongKindOfAddress)
    ∷ (codes " SETLOC 100; ERASE 5", 2, BadOperand)
    ∷ (codes " SETLOC 100; ERASE -1", 2, BadOperand)
    ∷ (codes " SETLOC 100; ERASE +1 +1", 2, BadOperand)
    ∷ (codes " SETLOC 3777; ERASE +1", 2, BankFull)
    ∷ (codes " SETLOC 3777; ERASE +100000", 2, BankFull)
    ∷ (codes " SETLOC 3777; ERASE; ERASE", 3, BankFull)
    ∷ (codes " SETLOC 5777; OCT 1;X ERASE", 3, BankFull)
    ∷ (codes " EBANK= 4000", 1, WrongKindOfAddress)
    ∷ (codes " EBANK= X;X EQUALS 5", 1, UsedTooEarly)
    ∷ (codes "X EBANK= 5", 1, BadLabel)
    ∷ (codes " EBANK= 10000", 1, OutOfRange)
    ∷ (codes " BANK 44", 1, BadBank)
    ∷ (codes " BANK 100000", 1, BadBank)
    ∷ (codes " BLOCK 4", 1, BadBank)
    ∷ (codes " BANK X", 1, BadOperand)
    ∷ (codes " BANK 5 +1", 1, BadOperand)
    ∷ (codes " BANK", 1, BadOperand)
    ∷ (codes "X BANK 5", 1, BadLabel)
    ∷ (codes " SETLOC 5777; OCT 1; BANK 2; OCT 1", 4, BankFull)
    ∷ (codes " DEC 0.9999695", 1, OutOfRange)
    ∷ (codes " DEC 16384", 1, OutOfRange)
    ∷ (codes " DEC 1.0", 1, OutOfRange)
    ∷ (codes " DEC 12345.0", 1, OutOfRange)
    ∷ (codes " DEC 5.", 1, BadOperand)
    ∷ (codes " DEC .", 1, BadOperand)
    ∷ (codes " DEC .1234567890", 1, BadOperand)
    ∷ (codes " DEC 5D", 1, BadOperand)
    ∷ (codes " DEC 5 +1", 1, BadOperand)
    ∷ (codes " DEC X", 1, BadOperand)
    ∷ (codes " EXTEND; DEC 1", 2, NotExtracode)
    ∷ (codes " SETLOC 5777; 2CADR 4000", 2, BankFull)
    ∷ (codes " SETLOC 5777; OCT 1; SETLOC 5777; 2CADR 4000", 4, BankFull)
    ∷ (codes " SETLOC 5776; 2CADR 4000; OCT 1", 3, BankFull)
    ∷ (codes " SETLOC 3777; 2CADR 4000", 2, BankFull)
    ∷ (codes " SETLOC 3776; 2CADR 4000", 2, CodeInErasable)
    ∷ (codes " OCT 1; SETLOC 4000; 2CADR 4000", 3, PlaceTaken)
    ∷ (codes " SETLOC 4001; OCT 1; SETLOC 4000; 2CADR 4000", 4, PlaceTaken)
    ∷ (codes " 2CADR 4000; SETLOC 4001; OCT 1", 3, PlaceTaken)
    ∷ (codes " 2CADR 4000; SETLOC 4001; 2CADR 4000", 3, PlaceTaken)
    ∷ (codes " EXTEND; 2CADR 100", 2, NotExtracode)
    ∷ (codes " 2CADR 4000; MP 5", 2, NeedsExtend)
    ∷ (codes " 2CADR 100", 1, WrongKindOfAddress)
    ∷ (codes " SETLOC 100;X; SETLOC 4000; 2CADR X", 4, WrongKindOfAddress)
    ∷ (codes " 2CADR 10000", 1, OutOfRange)
    ∷ (codes " SETLOC 5777;Y OCT 1; SETLOC 4000; 2CADR Y +1", 4, OutOfRange)
    ∷ (codes " 2CADR NOSUCH", 1, Undefined)
    ∷ (codes " 2CADR", 1, BadOperand)
    ∷ (codes " SETLOC 4000; CA NOSUCH; INDEX LAST;LAST OCT 1", 2, Undefined)
    ∷ (codes " SETLOC 4000; CA NOSUCH; INDEX LAST;LAST OCT 1; FROB", 5, UnknownOperator)
    ∷ (codes " CA X +1;X EQUALS 77777", 1, OutOfRange)
    ∷ (codes " OCT 1; MP X; TS Y;X EQUALS 1;Y OCT 1", 2, NeedsExtend)
    ∷ (codes " TS X; MP X;X OCT 1", 1, WrongKindOfAddress)
    ∷ []

each_faulty : map (λ row. program Standard (source row.0)) faulty
    ≡ map (λ row. Err (record { line = row.1; number = fault_number row.2 })) faulty
unfolding program runs operators operator_rows statement_of line_effect request_words request_faults lines window fb_of sup_of
each_faulty = refl
