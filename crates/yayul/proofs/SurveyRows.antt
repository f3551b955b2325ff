-- Small sources, told by the definitions alone: where each fault stands, and what is left out since it follows from another.
use Rattle.std.proofs.Common.{◌≡◌, ℕ, ◌+◌, List, [], ◌∷◌, ◌++◌, replicate, Option, None, Some, refl, map}
use Rattle.std.specs.Prelude.{codes, ◌==◌, if◌then◌else◌}
use Rattle.agc_text.specs.Fields.{runs}
use Rattle.agc_text.specs.Lines.{lines}
use Rattle.space.specs.Places.{window, fb_of, sup_of}
use Rattle.yayul.specs.Language.{Flight, Standard}
use Rattle.yayul.specs.Operators.{operators, operator_rows}
use Rattle.yayul.specs.Forms.{statement_of}
use Rattle.yayul.specs.Flight.{flight_operators, uncounted_statement, flight_rows}
use Rattle.yayul.specs.Layout.{fault_number, line_effect}
use Rattle.yayul.specs.Words.{request_words, request_faults}
use Rattle.yayul.specs.Mended.{given_by}
use Rattle.yayul.specs.Survey.{passed_line, span_at, span_in, told}
use Rattle.yayul.specs.declared.finding.Finding.{Finding}

-- a source of lines, each but the last followed by a semicolon here
abbrev source : List ℕ → List ℕ
source text = map (λ byte. if byte == 0o73 then 0o12 else byte) text

-- the line of a finding, its column from 1, how many bytes it marks, and its number
abbrev row : Finding → ℕ × ℕ × ℕ × ℕ
row f = (f.line, f.span.start + 1, f.span.width, fault_number f.kind)

-- sources with what is told of them
abbrev told_rows : List (List ℕ × List (ℕ × ℕ × ℕ × ℕ))
told_rows =
    (codes " OCT 1", [])
    ∷ (codes "START CA FIV; AD SIKS; TFC START;FIVE OCT 5", (1, 10, 3, 17) ∷ (2, 5, 4, 17) ∷ (3, 2, 3, 15) ∷ [])
    ∷ (codes "CA FIVE;FIVE OCT 5", (1, 4, 4, 15) ∷ [])
    ∷ (codes "X CA X +2000", (1, 6, 7, 26) ∷ [])
    ∷ (codes "LONGLABEL CA FIV", (1, 1, 9, 13) ∷ (1, 14, 3, 17) ∷ [])
    ∷ (codes "X OCT 1;X CA FIV", (2, 1, 1, 14) ∷ (2, 6, 3, 17) ∷ [])
    ∷ (codes " EQUALS", (1, 2, 6, 13) ∷ (1, 2, 6, 16) ∷ [])
    ∷ (codes " CA X;X FROB 1", (2, 3, 4, 15) ∷ [])
    ∷ (codes " EXTEN; MP X; MP X;X OCT 1", (1, 2, 5, 15) ∷ (3, 2, 2, 23) ∷ [])
    ∷ (codes "X EQUALS Y;Y EQUALS X", (1, 10, 1, 18) ∷ [])
    ∷ (codes " SETLOC NOWHERE;X ERASE; CA 5", (1, 9, 7, 18) ∷ [])
    ∷ (codes " SETLOC 100;X ERASE; CA X; CA X", (3, 2, 2, 22) ∷ [])
    ∷ (codes " SETLOC 3777; ERASE;X ERASE", (3, 3, 5, 20) ∷ [])
    ∷ (codes " SETLOC NOSUCH; OCT 1; SETLOC 4000; OCT 1; SETLOC 4000; OCT 2", (1, 9, 6, 18) ∷ (6, 2, 3, 21) ∷ [])
    ∷ (codes " FROB;X OCT 1; BANK 2; OCT 2; SETLOC 4000; OCT 3; TC X", (1, 2, 4, 15) ∷ [])
    ∷ (codes " ERASE; ERASE; TCF -1", (1, 2, 5, 25) ∷ [])
    ∷ (codes "X FROB 1;X OCT 2", (1, 3, 4, 15) ∷ (2, 1, 1, 14) ∷ [])
    ∷ (codes "X SETLOC 4000;X OCT 1", (1, 1, 1, 13) ∷ [])
    ∷ (codes " SETLOC 5776; OCT 9; OCT 1; OCT 2", (2, 6, 1, 16) ∷ (4, 2, 3, 20) ∷ [])
    ∷ (codes " CA 18;X TCF X -1", (1, 5, 2, 16) ∷ [])
    ∷ (codes " SETLOC 100; CA NONE", (2, 2, 2, 22) ∷ (2, 5, 4, 17) ∷ [])
    ∷ []

each_told : map {B = List (ℕ × ℕ × ℕ × ℕ)} (λ r. map row (told Standard (source r.0))) told_rows
    ≡ map {B = List (ℕ × ℕ × ℕ × ℕ)} (λ r. r.1) told_rows
unfolding told span_in span_at runs operators operator_rows statement_of passed_line given_by line_effect request_words request_faults lines
    window fb_of sup_of
each_told = refl

-- so it is in the language of flight programs: on a line with a count the fields after it are marked
abbrev flight_sources : List (List ℕ × List (ℕ × ℕ × ℕ × ℕ))
flight_sources =
    (codes "+3 CA X", (1, 7, 1, 17) ∷ [])
    ∷ (codes " -1 FROB X", (1, 5, 4, 15) ∷ [])
    ∷ (codes "  +8D TC 14000 +5", (1, 10, 8, 26) ∷ [])
    ∷ (codes "-LONGNAME CA -X", (1, 1, 9, 13) ∷ (1, 14, 2, 17) ∷ [])
    ∷ (codes "X EQUALS Y; CA X;Y EQUALS X;Z EQUALS X +1", (1, 10, 1, 18) ∷ [])
    ∷ (codes "X EQUALS NOSUCH; CA X;Y EQUALS X; TS Y", (1, 10, 6, 18) ∷ [])
    ∷ (codes "Y EQUALS X;X FROB; CA Y", (2, 3, 4, 15) ∷ [])
    ∷ (codes "A EQUALS B;B EQUALS NOSUCH; CA A", (1, 10, 1, 18) ∷ (2, 10, 6, 18) ∷ [])
    ∷ (codes " FROB; BANK; OCT 1; BANK 18", (1, 2, 4, 15) ∷ (4, 7, 2, 16) ∷ [])
    ∷ (codes " 2DEC X; SETLOC 4001; OCT 1", (1, 7, 1, 16) ∷ (3, 2, 3, 21) ∷ [])
    ∷ (codes "X EQUALS Y +77777;Y EQUALS 5; CA NONE", (1, 10, 8, 26) ∷ (3, 5, 4, 17) ∷ [])
    ∷ (replicate 121 0o40 ++ codes "# one byte and its sign too many", (1, 121, 2, 11) ∷ [])
    ∷ []

each_flight : map {B = List (ℕ × ℕ × ℕ × ℕ)} (λ r. map row (told Flight (source r.0))) flight_sources
    ≡ map {B = List (ℕ × ℕ × ℕ × ℕ)} (λ r. r.1) flight_sources
unfolding told span_in span_at runs operators operator_rows flight_operators flight_rows statement_of uncounted_statement passed_line
    given_by line_effect request_words request_faults lines window fb_of sup_of
each_flight = refl

-- of places that are taken, the line and that whose word stands there: the first word's, else the second's; an operand without a form takes
-- nothing from its words
abbrev taken_row : Finding → ℕ × ℕ × Option ℕ
taken_row f = (f.line, fault_number f.kind, f.taken_by)

abbrev taken_rows : List (List ℕ × List (ℕ × ℕ × Option ℕ))
taken_rows =
    (codes " OCT 1; SETLOC 4000; OCT 2", (3, 21, Some 1) ∷ [])
    ∷ (codes " SETLOC 4001; OCT 1; SETLOC 4000; 2CADR 4000", (4, 21, Some 2) ∷ [])
    ∷ (codes " 2CADR 4000; SETLOC 4001; OCT 1", (3, 21, Some 1) ∷ [])
    ∷ (codes " OCT 1; OCT 2; SETLOC 4000; 2CADR 4000", (4, 21, Some 1) ∷ [])
    ∷ (codes " OCT 1; SETLOC 4000; OCT 2; SETLOC 4000; OCT 3", (3, 21, Some 1) ∷ (5, 21, Some 1) ∷ [])
    ∷ (codes " OCT 8; OCT 1; SETLOC 4000; OCT 2", (1, 16, None) ∷ (4, 21, Some 1) ∷ [])
    ∷ (codes " SETLOC 4024; TC 0; TC 0; TC 0; TC 0; TC 0; SETLOC 4030; TC 0", (8, 21, Some 6) ∷ [])
    ∷ (codes " BANK 5;X OCT 1; SETLOC 4000; OCT 2; SETLOC X; OCT 3", (6, 21, Some 2) ∷ [])
    ∷ []

each_taken : map {B = List (ℕ × ℕ × Option ℕ)} (λ r. map taken_row (told Standard (source r.0))) taken_rows
    ≡ map {B = List (ℕ × ℕ × Option ℕ)} (λ r. r.1) taken_rows
unfolding told span_in span_at runs operators operator_rows statement_of passed_line given_by line_effect request_words request_faults lines
    window fb_of sup_of
each_taken = refl

-- and in the language of flight programs, where 2DEC gives two words
abbrev flight_taken : List (List ℕ × List (ℕ × ℕ × Option ℕ))
flight_taken =
    (codes "+1 OCT 1; 2DEC .5; SETLOC 4002; OCT 1; SETLOC 4000; 2OCT 0000000001", (4, 21, Some 2) ∷ (6, 21, Some 1) ∷ [])
    ∷ []

each_flight_taken : map {B = List (ℕ × ℕ × Option ℕ)} (λ r. map taken_row (told Flight (source r.0))) flight_taken
    ≡ map {B = List (ℕ × ℕ × Option ℕ)} (λ r. r.1) flight_taken
unfolding told span_in span_at runs operators operator_rows flight_operators flight_rows statement_of uncounted_statement passed_line
    given_by line_effect request_words request_faults lines window fb_of sup_of
each_flight_taken = refl
