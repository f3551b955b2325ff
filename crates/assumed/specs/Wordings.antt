-- Forms of flight sources that are refused, since it is not certain what the assembler of flight programs makes of them, each with a
-- wording that may be assumed for it: what a line of the form is edited to.
use Rattle.std.specs.Prelude.{ℕ, ◌+◌, ◌==◌, ◌&&◌, ◌||◌, not, Bool, true, false, List, [], ◌∷◌, ◌++◌, length, codes, is_some, if◌then◌else◌}
use Rattle.std.specs.Prelude.{Option, None, Some}
use Rattle.std.specs.List.{list_any}
use Rattle.std.specs.Option.{option_map, option_map_or, option_or}
use Rattle.agc_text.specs.Fields.{Piece}
use Rattle.agc_text.specs.Tables.{same_name}
use Rattle.yayul.specs.Flight.{is_count}
use Rattle.yayul.specs.Forms.{is_digits, is_marked_decimal}
use Rattle.yayul.specs.Readings.{Parts}
use Rattle.yayul.specs.declared.role.Role.{Role}
use Rattle.yayul.specs.declared.role.Role.TheVariants as role
use Rattle.assumed.specs.declared.wording.Wording.{Wording}
use Rattle.assumed.specs.declared.wording.Wording.TheVariants.{MajorMode, NounVerb, FarBanks, Pointer, BankWord, EraseCount, EraseAddress}
use Rattle.assumed.specs.declared.wording.Wording.TheVariants.{DecimalDigits}
use Rattle.assumed.specs.declared.edits.LineEdit.{LineEdit}

-- what each is called: the form, and what stands for it
abbrev pub wording_name : Wording → List ℕ
wording_name MajorMode = codes "MM=DEC"
wording_name NounVerb = codes "NV=VN"
wording_name FarBanks = codes "2BCADR=2CADR"
wording_name Pointer = codes "DNPTR=CA"
wording_name BankWord = codes "BBCON*=66100"
wording_name EraseCount = codes "ERASE=COUNT"
wording_name EraseAddress = codes "ERASE=EQUALS"
wording_name DecimalDigits = codes "8=8D"

-- all, and the one of a name
abbrev pub later_wordings : List Wording
later_wordings = BankWord ∷ EraseCount ∷ EraseAddress ∷ DecimalDigits ∷ []

abbrev pub all_wordings : List Wording
all_wordings = MajorMode ∷ NounVerb ∷ FarBanks ∷ Pointer ∷ later_wordings

abbrev pub named_among : List Wording → List ℕ → Option Wording
named_among [] name = None
named_among (wording ∷ more) name = if same_name name (wording_name wording) then Some wording else named_among more name

abbrev pub wording_named : List ℕ → Option Wording
wording_named name = named_among all_wordings name

-- ## Edits
-- from a place of a line on some bytes are kept, and the next ones are replaced
pub record Edit : Type 0 where
  pub start : ℕ
  pub kept : ℕ
  pub cut : ℕ
  pub text : List ℕ

-- what the code holds of one
abbrev pub edit_in : LineEdit → Edit
edit_in e = record { start = e.start; kept = e.kept; cut = e.cut; text = e.text.now }

-- the bytes of a field are replaced
abbrev pub in_place_of : Piece → List ℕ → Edit
in_place_of p text = record { start = p.start; kept = 0; cut = length p.text; text = text }

-- a text stands right before a field, and right after it
abbrev pub before : Piece → List ℕ → Edit
before p text = record { start = p.start; kept = 0; cut = 0; text = text }

abbrev pub after : Piece → List ℕ → Edit
after p text = record { start = p.start; kept = length p.text; cut = 0; text = text }

-- the operator of a name is replaced
abbrev pub operator_edit : List ℕ → List ℕ → Parts → Option Edit
operator_edit name text parts =
    option_map_or (λ p. if same_name p.text name then Some (in_place_of p text) else None) parts.operator None

-- ERASE with digits alone
abbrev pub erases_number : Parts → Bool
erases_number parts = option_map_or (λ p. same_name p.text (codes "ERASE")) parts.operator false
    && option_map_or (λ p. is_digits p.text) parts.operand false && not (is_some parts.offset)

-- a text stands right before the operand
abbrev pub before_operand : List ℕ → Parts → Option Edit
before_operand text parts = option_map (λ p. before p text) parts.operand

-- an operator that takes octal digits alone, or decimal ones as they stand
abbrev pub takes_digits : Role → Bool
takes_digits role.Octal = true
takes_digits role.OctalPair = true
takes_digits role.VerbNoun = true
takes_digits role.Decimal = true
takes_digits role.DecimalPair = true
takes_digits _ = false

-- an 8 or a 9 is among some bytes
abbrev pub has_late : List ℕ → Bool
has_late text = list_any (λ byte. byte == 0o70 || byte == 0o71) text

-- digits, or a sign and digits, one of them 8 or 9, and no D after them
abbrev pub has_late_digit : List ℕ → Bool
has_late_digit text = (is_digits text || is_count text) && not (is_marked_decimal text) && has_late text

-- a D stands right after a field of such digits
abbrev pub marked : Option Piece → Option Edit
marked field = option_map_or (λ p. if has_late_digit p.text then Some (after p (codes "D")) else None) field None

-- a D stands after such digits of the operand, else of the offset
abbrev pub digits_edit : Parts → Option Edit
digits_edit parts =
    if option_map_or takes_digits parts.role true then None else option_or (marked parts.operand) (marked parts.offset)

-- what is made of a line by a wording, where it has the form
abbrev pub edit_of : Wording → Parts → Option Edit
edit_of MajorMode parts = operator_edit (codes "MM") (codes "DEC") parts
edit_of NounVerb parts = operator_edit (codes "NV") (codes "VN") parts
edit_of FarBanks parts = operator_edit (codes "2BCADR") (codes "2CADR") parts
edit_of Pointer parts = operator_edit (codes "DNPTR") (codes "CA") parts
edit_of BankWord parts = operator_edit (codes "BBCON*") (codes "OCT 66100") parts
edit_of EraseCount parts = if erases_number parts then before_operand (codes "+") parts else None
edit_of EraseAddress parts = if erases_number parts then operator_edit (codes "ERASE") (codes "EQUALS") parts else None
edit_of DecimalDigits parts = digits_edit parts
