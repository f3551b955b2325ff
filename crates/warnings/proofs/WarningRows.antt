-- The warnings of small sources, by the definitions alone.
use Rattle.std.proofs.Common.{◌≡◌, ℕ, ◌+◌, List, [], ◌∷◌, ◌++◌, None, true, refl, map}
use Rattle.std.specs.Prelude.{codes, ◌==◌, if◌then◌else◌}
use Rattle.agc_text.specs.Fields.{runs}
use Rattle.agc_text.specs.Lines.{lines}
use Rattle.yayul.specs.Operators.{operators, operator_rows}
use Rattle.yayul.specs.declared.language.Language.TheVariants.{Standard}
use Rattle.warnings.specs.Warnings.{warnings}
use Rattle.warnings.specs.Joined.{joined}
use Rattle.warnings.specs.declared.told.Warning.{Warning}

-- a source of lines, each but the last followed by a semicolon here
abbrev source : List ℕ → List ℕ
source text = map (λ byte. if byte == 0o73 then 0o12 else byte) text

-- the line of a warning, its column from 1, how many bytes it marks, and its number
abbrev row : Warning → ℕ × ℕ × ℕ × ℕ
row w = (w.line, w.span.start + 1, w.span.width, w.number)

-- sources with their warnings, but those of switched banks, by which alone values of symbols are asked for
abbrev warned_rows : List (List ℕ × List (ℕ × ℕ × ℕ × ℕ))
warned_rows =
    (codes " OCT 1", [])
    ∷ (codes "RETURN", (1, 1, 6, 1) ∷ (1, 1, 6, 8) ∷ [])
    ∷ (codes " TC CA;CA TC CA", (2, 1, 2, 1) ∷ [])
    ∷ (codes " CA 5", (1, 2, 2, 4) ∷ (1, 5, 1, 2) ∷ [])
    ∷ (codes " CA 60; CA 61; CS 0; TS 5; CA 5 +1; CA 00005", (1, 5, 2, 2) ∷ (3, 5, 1, 2) ∷ (6, 2, 2, 4) ∷ (6, 5, 5, 2) ∷ [])
    ∷ (codes " INDEX X; CA 0; NDX X;; MASK 1; CA 2;X ERASE", (6, 2, 2, 4) ∷ (6, 5, 1, 2) ∷ [])
    ∷ (codes "X ERASE;Y ERASE +1; DXCH X; DXCH Y; DAS X +1; DCA X; TS X", (3, 7, 1, 3) ∷ (6, 6, 1, 3) ∷ (7, 2, 2, 4) ∷ [])
    ∷ (codes "X OCT 1; CA Y;Y OCT 2", (1, 1, 1, 8) ∷ (1, 3, 3, 11) ∷ (2, 2, 2, 4) ∷ [])
    ∷ (codes "CA FIV;LONGLABEL OCT 5", (1, 1, 2, 1) ∷ (1, 1, 2, 8) ∷ [])
    -- a routine without its way back, and a word that is read and executed elsewhere
    ∷ (codes " TC F;D TCF D;F CA O;O OCT 1", (3, 3, 2, 4) ∷ [])
    ∷ (codes " CAF C; XXALQ;C CA X;X OCT 1", [])
    -- SETLOC and BANK to the very next place, and to another
    ∷ (codes " CA Y; BANK 2; TCF 4000;Y EQUALS 100", [])
    ∷ (codes " CA Y; SETLOC 4001; TCF 4000;Y EQUALS 100", [])
    ∷ (codes " CA Y; SETLOC 4002; TCF 4000;Y EQUALS 100", (1, 2, 2, 4) ∷ [])
    ∷ (codes " CA Y; BANK 3; TCF 4000;Y EQUALS 100", (1, 2, 2, 4) ∷ [])
    ∷ (codes " SETLOC 4000; CA Y; BANK 2; TCF 4000;Y EQUALS 100", (2, 2, 2, 4) ∷ [])
    -- the fifth word of a vector, and one that begins another
    ∷ (codes " SETLOC 4004; CA X; CA X; CA X; CA X; TS X;D TCF D;X OCT 1", (6, 2, 2, 5) ∷ [])
    ∷ (codes " SETLOC 4004; CA X; CA X; CA X; TCF D; CA X;D TCF D;X OCT 1", [])
    -- channels that are registers, by number and by name, and others
    ∷ (
      codes " WRITE 1; WAND 2; WOR 02; WRITE 10; WRITE 3; WRITE 0; READ 1; ROR 2; WRITE L;L EQUALS 1;D TCF D",
      (1, 8, 1, 10)
          ∷ (2, 7, 1, 10) ∷ (3, 6, 2, 10) ∷ [],
    )
    -- a constant or an address where a run starts, before an instruction and alone
    ∷ (codes "X OCT 5; CA X;D TCF D", (1, 3, 3, 11) ∷ [])
    ∷ (codes " SETLOC 4100;D TCF D; SETLOC 4000; CADR D", (4, 2, 4, 11) ∷ [])
    ∷ (codes " SETLOC 4001;X OCT 5; CA X;D TCF D", [])
    ∷ (codes " OCT 5; DEC 6", [])
    -- a routine that changes A before it keeps it, and one that keeps it; L behind a jump, and Q
    ∷ (codes " RELINT;D TCF D; SETLOC 4024; CA X; RESUME;X OCT 1", (4, 2, 2, 12) ∷ [])
    ∷ (codes " RELINT;D TCF D; SETLOC 4024; TS 10; CA X; XCH 10; RESUME;X OCT 1", [])
    ∷ (codes " RELINT;D TCF D; SETLOC 4024; XCH 10; TCF H; SETLOC 4100;H EXTEND; MP X; XCH 10; RESUME;X OCT 1", (8, 2, 2, 12) ∷ [])
    ∷ (codes " RELINT;D TCF D; SETLOC 4024; DXCH 10; TCF H; SETLOC 4100;H EXTEND; MP X; DXCH 10; RESUME;X OCT 1", [])
    ∷ (codes " RELINT;D TCF D; SETLOC 4024; XCH 10; TC S; XCH 10; RESUME;S RETURN", (5, 2, 2, 12) ∷ [])
    -- a program that stands at a vector, with a label
    ∷ (codes " RELINT; TCF S; SETLOC 4010;S CA X;D TCF D; SETLOC 4024; RESUME;X OCT 1", [])
    -- an interrupt that does not end; where none is let in, and where INDEX 17 may end it
    ∷ (codes " RELINT;D TCF D; SETLOC 4024; TCF D", (4, 2, 3, 13) ∷ [])
    ∷ (codes "D TCF D; SETLOC 4024; TCF D", [])
    ∷ (codes " RELINT;D TCF D; SETLOC 4024; TCF D;BRUPT EQUALS 17; INDEX BRUPT; TCF D", [])
    -- a program that runs over the vectors; one that leaves before, one with a vector of its own, and one without interrupts
    ∷ (codes " RELINT; CA X; TS X; CA X; TS X;D TCF D;X EQUALS 100", (5, 2, 2, 14) ∷ [])
    ∷ (codes " RELINT; CA X; TS X; TCF S; TS X;S TCF S;X EQUALS 100", [])
    ∷ (codes " RELINT; CA X; TS X; CA X; TS X;D TCF D; SETLOC 4024; RESUME;X EQUALS 100", [])
    ∷ (codes " CA X; CA X; TS X; CA X; TS X;D TCF D;X EQUALS 100", [])
    -- two words at one place, at two, and one of them without a name
    ∷ (codes " SETLOC 100;X ERASE; SETLOC 100;Y ERASE; SETLOC 4000; TS X; TS Y;D TCF D", (4, 1, 1, 15) ∷ [])
    ∷ (codes " SETLOC 100;X ERASE; SETLOC 101;Y ERASE; SETLOC 4000; TS X; TS Y;D TCF D", [])
    ∷ (codes " SETLOC 100;X ERASE; SETLOC 100; ERASE;Y ERASE; SETLOC 4000; TS X; TS Y;D TCF D", [])
    -- a word behind a jump; a table of jumps, the ways of CCS, and a jump by a number
    ∷ (codes " TCF D; CA X;D TCF D;X OCT 1", (2, 2, 2, 16) ∷ [])
    ∷ (codes " TCF D; TCF D;D TCF D", [])
    ∷ (codes " CCS X; TCF D; CA X; NOOP; TCF D;D TCF D;X EQUALS 100", [])
    ∷ (codes " TCF +2; CA X;D TCF D;X OCT 1", [])
    -- names of registers
    ∷ (codes " SETLOC 100;Q ERASE; SETLOC 4000; TS Q;D TCF D", (2, 1, 1, 7) ∷ [])
    ∷ (codes " SETLOC 0;A ERASE;Q ERASE; SETLOC 4000; TC A; TC Q", (3, 1, 1, 7) ∷ [])
    ∷ (codes "Q EQUALS 2;L EQUALS 00001;Z EQUALS 6; TC Q; TC L; TC Z", (3, 1, 1, 7) ∷ [])
    ∷ []

each_warned : map {B = List (ℕ × ℕ × ℕ × ℕ)} (λ r. map row (warnings Standard true [] (source r.0))) warned_rows
    ≡ map {B = List (ℕ × ℕ × ℕ × ℕ)} (λ r. r.1) warned_rows
unfolding warnings runs operators lines operator_rows
each_warned = refl

-- ## Two lists of warnings as one
-- a warning of a line
abbrev warned : ℕ → ℕ → Warning
warned line number = record { line = line; number = number; span = record { start = 1; width = 2 }; doubt = None }

-- the lines of some warnings of a list, and of some of another
abbrev joined_lines : List ℕ → List ℕ → List (ℕ × ℕ)
joined_lines some others = map (λ (w : Warning). (w.line, w.number))
    (joined (map (λ line. warned line 1) some) (map (λ line. warned line 2) others))

none_joined : joined_lines [] (3 ∷ 4 ∷ []) ++ joined_lines (3 ∷ 4 ∷ []) [] ≡ (3, 2) ∷ (4, 2) ∷ (3, 1) ∷ (4, 1) ∷ []
none_joined = refl

-- on one line those of the first list come first
some_joined : joined_lines (2 ∷ 5 ∷ 5 ∷ []) (1 ∷ 2 ∷ 3 ∷ 5 ∷ 7 ∷ [])
    ≡ (1, 2) ∷ (2, 1) ∷ (2, 2) ∷ (3, 2) ∷ (5, 1) ∷ (5, 1) ∷ (5, 2) ∷ (7, 2) ∷ []
some_joined = refl
