-- The warnings of small sources that reach switched banks, by the definitions alone.
use Rattle.std.proofs.Common.{◌≡◌, ℕ, ◌+◌, List, [], ◌∷◌, false, refl, map}
use Rattle.std.specs.Prelude.{codes, ◌==◌, if◌then◌else◌}
use Rattle.agc_text.specs.Fields.{runs}
use Rattle.agc_text.specs.Lines.{lines}
use Rattle.yayul.specs.Flight.{flight_operators, uncounted_statement, flight_rows}
use Rattle.yayul.specs.Forms.{statement_of}
use Rattle.yayul.specs.Layout.{line_effect}
use Rattle.yayul.specs.Mended.{given_by}
use Rattle.yayul.specs.Operators.{operators, operator_rows}
use Rattle.yayul.specs.Survey.{known_symbols, passed_line}
use Rattle.yayul.specs.declared.language.Language.{Language}
use Rattle.yayul.specs.declared.language.Language.TheVariants.{Flight, Standard}
use Rattle.warnings.specs.Warnings.{warnings}
use Rattle.warnings.specs.declared.told.Warning.{Warning}

-- a source of lines, each but the last followed by a semicolon here
abbrev source : List ℕ → List ℕ
source text = map (λ byte. if byte == 0o73 then 0o12 else byte) text

-- the line of a warning, its column from 1, how many bytes it marks, and its number
abbrev row : Warning → ℕ × ℕ × ℕ × ℕ
row w = (w.line, w.span.start + 1, w.span.width, w.number)

-- the warnings of a source by the values of its own symbols
abbrev warned : Language → List ℕ → List Warning
warned language text = warnings language false (known_symbols language text) text

-- EB: sources with their warnings
abbrev erasable_rows : List (List ℕ × List (ℕ × ℕ × ℕ × ℕ))
erasable_rows =
    (codes " SETLOC 2000;V ERASE; SETLOC 4000; TS V;D TCF D", (4, 5, 1, 6) ∷ [])
    -- a write at 3, by number, by a name in octal and in decimal, by a name of a name, by a word reserved there, and with an offset
    ∷ (codes " SETLOC 2000;V ERASE; SETLOC 4000; TS 3; TS V;D TCF D", [])
    ∷ (codes "EB EQUALS 3; SETLOC 2000;V ERASE; SETLOC 4000; TS EB; TS V;D TCF D", [])
    ∷ (codes "B = 3D; SETLOC 2000;V ERASE; SETLOC 4000; TS B; TS V;D TCF D", [])
    ∷ (codes "N EQUALS 1;B EQUALS N +2; SETLOC 2000;V ERASE; SETLOC 4000; TS B; TS V;D TCF D", [])
    ∷ (codes " SETLOC 3;B ERASE; SETLOC 2000;V ERASE; SETLOC 4000; TS B; TS V;D TCF D", [])
    ∷ (codes "N EQUALS 1; SETLOC 2000;V ERASE; SETLOC 4000; TS N +2; TS V;D TCF D", [])
    -- Q is not EB; of two words the second is; what adds to BB, and what may lead anywhere
    ∷ (codes " SETLOC 2000;V ERASE; SETLOC 4000; TS 2; TS V;D TCF D", (5, 5, 1, 6) ∷ [])
    ∷ (codes " SETLOC 2000;V ERASE; SETLOC 4000; DXCH 2; TS V;D TCF D", [])
    ∷ (codes " SETLOC 2000;V ERASE; SETLOC 4000; ADS 6; TS V;D TCF D", [])
    ∷ (codes "K EQUALS 100; SETLOC 2000;V ERASE; SETLOC 4000; INDEX K; TS 0; TS V;D TCF D", [])
    ∷ (codes "K EQUALS 100; SETLOC 2000;V ERASE; SETLOC 4000; INDEX K; TS K; TS V;D TCF D", (7, 5, 1, 6) ∷ [])
    -- a write at a symbol that no line defines may be one at EB
    ∷ (codes " SETLOC 2000;V ERASE; SETLOC 4000; TS NONE; TS V;D TCF D", [])
    -- an offset that leads into a switched bank, and one that leads out of it
    ∷ (codes " SETLOC 1377;U ERASE;V ERASE; SETLOC 4000; TS U; TS U +1; TS V; TS V -1;D TCF D", (6, 5, 1, 6) ∷ (7, 5, 1, 6) ∷ [])
    -- a place by a name, a label alone, and a name of a name; a place in decimal; an address
    ∷ (
      codes "S EQUALS 2000; SETLOC S;U;V ERASE; SETLOC 4000;W EQUALS V; TS U; TS W;D TCF D",
      (7, 5, 1, 6)
          ∷ (8, 5, 1, 6) ∷ [],
    )
    ∷ (codes " SETLOC 1024D;V ERASE; SETLOC 4000; TS V;D TCF D", (4, 5, 1, 6) ∷ [])
    ∷ (codes " TS 1400;D TCF D", [])
    -- a fault elsewhere; one of the line that would reserve the word, and one of the line that would reach it
    ∷ (codes " FROB 1; SETLOC 2000;V ERASE; SETLOC 4000; TS V;D TCF D", (5, 5, 1, 6) ∷ [])
    ∷ (codes " SETLOC 2000;V ERAS; SETLOC 4000; CA V;D TCF D", [])
    ∷ (codes " SETLOC 2000;V ERASE; SETLOC 4000; FROB V;D TCF D", [])
    ∷ []

erasable_warned : map {B = List (ℕ × ℕ × ℕ × ℕ)} (λ r. map row (warned Standard (source r.0))) erasable_rows
    ≡ map {B = List (ℕ × ℕ × ℕ × ℕ)} (λ r. r.1) erasable_rows
unfolding warnings known_symbols passed_line statement_of given_by line_effect runs operators lines operator_rows
erasable_warned = refl

-- FB: so too
abbrev fixed_rows : List (List ℕ × List (ℕ × ℕ × ℕ × ℕ))
fixed_rows =
    (codes " TC R;D TCF D; BANK 10;R RETURN", (1, 5, 1, 9) ∷ [])
    -- a write at 4; one at 3 sets EB alone
    ∷ (codes " TS 4; TC R;D TCF D; BANK 10;R RETURN", [])
    ∷ (codes " TS 3; TC R;D TCF D; BANK 10;R RETURN", (2, 5, 1, 9) ∷ [])
    -- a name of a place there, with an offset; a bank in decimal; a place of bank 2 by a name
    ∷ (codes " TC S -1;D TCF D; BANK 10;R NOOP; RETURN;S EQUALS R +1", (1, 5, 1, 9) ∷ [])
    ∷ (codes " TC R;D TCF D; BANK 8D;R RETURN", (1, 5, 1, 9) ∷ [])
    ∷ (codes "H EQUALS 5000; BANK 10;R RETURN; SETLOC H; TC R;D TCF D", (5, 5, 1, 9) ∷ [])
    -- bank 0, and a place of the bank where the instruction stands
    ∷ (codes " TC R;D TCF D; BANK 0;R RETURN", [])
    ∷ (codes " TC D;D TCF D; BANK 10;R TC R", [])
    ∷ []

fixed_warned : map {B = List (ℕ × ℕ × ℕ × ℕ)} (λ r. map row (warned Standard (source r.0))) fixed_rows
    ≡ map {B = List (ℕ × ℕ × ℕ × ℕ)} (λ r. r.1) fixed_rows
unfolding warnings known_symbols passed_line statement_of given_by line_effect runs operators lines operator_rows
fixed_warned = refl

-- in a flight program a number may be a place of a bank, and a name may be that of a symbol of a later line
flight_warned : map {B = List (ℕ × ℕ × ℕ × ℕ)} (λ text. map row (warned Flight (source text)))
    (codes " TC 20000;D TCF D" ∷ codes "S EQUALS R; TC S;D TCF D; BANK 10;R RETURN" ∷ [])
    ≡ ((1, 5, 5, 9) ∷ []) ∷ ((2, 5, 1, 9) ∷ []) ∷ []
unfolding warnings known_symbols passed_line uncounted_statement given_by line_effect runs operators flight_operators lines operator_rows
    flight_rows
flight_warned = refl
