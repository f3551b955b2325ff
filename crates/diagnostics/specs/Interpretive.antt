-- Lines of the interpretive language, which is not taken: which faults of a flight source are of it, and which are told.
use Rattle.std.specs.Prelude.{ℕ, ◌+◌, ◌==◌, ◌&&◌, ◌||◌, not, Bool, true, false, List, [], ◌∷◌, length, drop, is_some, codes, if◌then◌else◌}
use Rattle.std.specs.List.{position_or_len}
use Rattle.std.specs.Option.{option_map_or}
use Rattle.agc_text.specs.Fields.{fields}
use Rattle.agc_text.specs.Tables.{same_name}
use Rattle.yayul.specs.Flight.{is_count}
use Rattle.yayul.specs.declared.faults.FaultKind.{FaultKind}
use Rattle.yayul.specs.declared.faults.FaultKind.TheVariants.{UnknownOperator}
use Rattle.yayul.specs.declared.finding.Finding.{Finding}
use Rattle.yayul.specs.declared.language.Language.{Language}
use Rattle.yayul.specs.declared.language.Language.TheVariants.{Flight, Standard}
use Rattle.yayul.specs.Readings.{Parts, parts_for}
use Rattle.diagnostics.specs.Causes.{Cause, said}
use Rattle.warnings.specs.Fields.{text_of}
use Rattle.diagnostics.specs.Shown.{text_at}
use Rattle.near_names.specs.Names.{is_among}

-- ## Operators
-- the operators of the interpretive language that are known for sure: those that store, those that load, those of numbers, those of
-- vectors, those that shift, those that go on elsewhere, those of switches, and those of index registers
abbrev pub interpretive_operators : List (List ℕ)
interpretive_operators =
    codes "STORE" ∷ codes "STCALL" ∷ codes "STODL" ∷ codes "STODL*" ∷ codes "STOVL" ∷ codes "STOVL*" ∷
    codes "DLOAD" ∷ codes "DLOAD*" ∷ codes "SLOAD" ∷ codes "SLOAD*" ∷ codes "TLOAD" ∷ codes "VLOAD" ∷ codes "VLOAD*" ∷ codes "PDDL"
    ∷ codes "PDDL*" ∷ codes "PDVL" ∷ codes "PDVL*" ∷ codes "PUSH" ∷ codes "SETPD" ∷ codes "STADR" ∷
    codes "DAD" ∷ codes "DAD*" ∷ codes "TAD" ∷ codes "DSU" ∷ codes "DSU*" ∷ codes "BDSU" ∷ codes "BDSU*" ∷ codes "DMP" ∷ codes "DMP*"
    ∷ codes "DMPR" ∷ codes "DDV" ∷ codes "DDV*" ∷ codes "BDDV" ∷ codes "DSQ" ∷ codes "SQRT" ∷
    codes "SIN" ∷ codes "SINE" ∷ codes "COS" ∷ codes "COSINE" ∷ codes "ASIN" ∷ codes "ARCSIN" ∷ codes "ACOS" ∷ codes "ARCCOS"
    ∷ codes "DCOMP" ∷ codes "ABS" ∷ codes "SIGN" ∷ codes "ROUND" ∷ codes "NORM" ∷
    codes "VAD" ∷ codes "VAD*" ∷ codes "VSU" ∷ codes "VSU*" ∷ codes "BVSU" ∷ codes "BVSU*" ∷ codes "VXSC" ∷ codes "VXSC*" ∷ codes "V/SC"
    ∷ codes "VXV" ∷ codes "VXV*" ∷ codes "DOT" ∷ codes "DOT*" ∷ codes "VPROJ" ∷
    codes "VXM" ∷ codes "VXM*" ∷ codes "MXV" ∷ codes "MXV*" ∷ codes "UNIT" ∷ codes "ABVAL" ∷ codes "VCOMP" ∷ codes "VSQ" ∷ codes "VDEF" ∷
    codes "SL" ∷ codes "SL*" ∷ codes "SLR" ∷ codes "SR" ∷ codes "SR*" ∷ codes "SRR" ∷ codes "SL1" ∷ codes "SL2" ∷ codes "SL3" ∷ codes "SL4"
    ∷ codes "SR1" ∷ codes "SR2" ∷ codes "SR3" ∷ codes "SR4" ∷
    codes "SL1R" ∷ codes "SL2R" ∷ codes "SL3R" ∷ codes "SL4R" ∷ codes "SR1R" ∷ codes "SR2R" ∷ codes "SR3R" ∷ codes "SR4R" ∷ codes "VSL"
    ∷ codes "VSL*" ∷ codes "VSR" ∷ codes "VSR*" ∷
    codes "VSL1" ∷ codes "VSL2" ∷ codes "VSL3" ∷ codes "VSL4" ∷ codes "VSL5" ∷ codes "VSL6" ∷ codes "VSL7" ∷ codes "VSL8" ∷
    codes "VSR1" ∷ codes "VSR2" ∷ codes "VSR3" ∷ codes "VSR4" ∷ codes "VSR5" ∷ codes "VSR6" ∷ codes "VSR7" ∷ codes "VSR8" ∷
    codes "GOTO" ∷ codes "GOTO*" ∷ codes "CALL" ∷ codes "CALL*" ∷ codes "CGOTO" ∷ codes "CCALL" ∷ codes "RTB" ∷ codes "RVQ" ∷ codes "STQ"
    ∷ codes "EXIT" ∷
    codes "BPL" ∷ codes "BMN" ∷ codes "BZE" ∷ codes "BHIZ" ∷ codes "BOV" ∷ codes "BOVB" ∷
    codes "SET" ∷ codes "CLEAR" ∷ codes "CLR" ∷ codes "INVERT" ∷ codes "SETGO" ∷ codes "CLRGO" ∷ codes "BON" ∷ codes "BOFF" ∷ codes "BONSET"
    ∷ codes "BONCLR" ∷ codes "BONINV" ∷ codes "BOFSET" ∷ codes "BOFCLR" ∷ codes "BOFINV" ∷
    codes "AXT,1" ∷ codes "AXT,2" ∷ codes "AXC,1" ∷ codes "AXC,2" ∷ codes "LXA,1" ∷ codes "LXA,2" ∷ codes "LXC,1" ∷ codes "LXC,2"
    ∷ codes "SXA,1" ∷ codes "SXA,2" ∷ codes "XCHX,1" ∷ codes "XCHX,2" ∷
    codes "INCR,1" ∷ codes "INCR,2" ∷ codes "XAD,1" ∷ codes "XAD,2" ∷ codes "XSU,1" ∷ codes "XSU,2" ∷ codes "TIX,1" ∷ codes "TIX,2"
    ∷ codes "SSP" ∷ []

-- the operator is one of some
abbrev pub has_operator : List (List ℕ) → Parts → Bool
has_operator names parts = option_map_or (λ p. is_among names p.text) parts.operator false

-- ## Lines
-- the fields of a line of a flight source, by its number
abbrev pub parts_at : List (List ℕ) → ℕ → Parts
parts_at texts line = parts_for Flight (text_at texts line)

-- a fault that an operator is none
abbrev pub is_of_operator : FaultKind → Bool
is_of_operator UnknownOperator = true
is_of_operator _ = false

-- a fault of an operator of the interpretive language, which is none of a flight source
abbrev pub is_interpretive : Language → List (List ℕ) → Finding → Bool
is_interpretive Standard texts f = false
is_interpretive Flight texts f = is_of_operator f.kind && has_operator interpretive_operators (parts_at texts f.line)

-- one field stands on a line, or one and an offset, behind a blank
abbrev pub is_operand_alone : Parts → Bool
is_operand_alone parts = not (is_some parts.label) && option_map_or (λ p. is_count p.text) parts.operand true && not (is_some parts.offset)

-- a line has a field
abbrev pub has_field : List ℕ → Bool
has_field text = not (length (fields text) == 0)

-- the number of the first line after another that has a field, or of the one after the last
abbrev pub next_said : List (List ℕ) → ℕ → ℕ
next_said texts line = line + position_or_len has_field (drop line texts) + 1

-- EXIT, after which lines of the machine's own language stand
abbrev pub is_exit : Parts → Bool
is_exit parts = same_name (text_of parts.operator) (codes "EXIT")

-- the number of the line on which an operand of the interpretive language may stand, after a line of that; 0 after EXIT
abbrev pub operand_line : List (List ℕ) → ℕ → ℕ
operand_line texts line = if is_exit (parts_at texts line) then 0 else next_said texts line

-- a fault of a line of the interpretive language, an operand of which may stand on another
abbrev pub is_of_interpreter : List (List ℕ) → ℕ → Finding → Bool
is_of_interpreter texts operand f =
    is_interpretive Flight texts f || (is_of_operator f.kind && f.line == operand && is_operand_alone (parts_at texts f.line))

-- ## Faults
-- those of some faults that are not of its lines, where its operand may stand on a line
abbrev pub others : List (List ℕ) → ℕ → List Finding → List Finding
others texts operand [] = []
others texts operand (f ∷ fs) =
    if is_of_interpreter texts operand f then others texts (operand_line texts f.line) fs
    else f ∷ others texts operand fs

-- the first, which is of one of its lines and stands for all, and those of the others that are not
abbrev pub first_and_others : List (List ℕ) → List Finding → List Finding
first_and_others texts [] = []
first_and_others texts (first ∷ rest) = first ∷ others texts (operand_line texts first.line) rest

-- how many faults stand before the first of its lines
abbrev pub count_before_first : Language → List (List ℕ) → List Finding → ℕ
count_before_first language texts faults = position_or_len (is_interpretive language texts) faults

-- what is said of them: `~` stands for how many lines they are
abbrev pub interpretive_cause : Cause
interpretive_cause = said (codes "the interpretive language is not taken: ~ from this one on")
