-- Of which uncertain forms the words of a line are.
use Rattle.std.specs.Prelude.{ℕ, ◌/◌, ◌%◌, ◌==◌, ◌&&◌, ◌||◌, nat_le, Bool, true, false, List, [], codes, Option, None, Some, is_some}
use Rattle.std.specs.Prelude.{if◌then◌else◌}
use Rattle.std.specs.List.{list_any}
use Rattle.std.specs.Option.{option_map_or}
use Rattle.agc_text.specs.Fields.{Piece}
use Rattle.agc_text.specs.Tables.{same_name}
use Rattle.yayul.specs.Flight.{is_signed_name}
use Rattle.yayul.specs.Forms.{first_is, is_sign, number_value}
use Rattle.yayul.specs.Readings.{Parts}
use Rattle.yayul.specs.declared.role.Role.{Role}
use Rattle.yayul.specs.declared.role.Role.TheVariants as role
use Rattle.certain.specs.declared.form.UncertainForm.{UncertainForm}
use Rattle.certain.specs.declared.form.UncertainForm.TheVariants.{SuperbankBits, HeldBank, GeneralAddress, Downlist, Complement, OctalWords}
use Rattle.certain.specs.declared.form.UncertainForm.TheVariants.{SignedOctal, ScaledDecimal, PlaceNumber, VerbNoun, SignedName}
use Rattle.certain.specs.declared.line_forms.EbankUse.{EbankUse}
use Rattle.certain.specs.declared.line_forms.EbankUse.TheVariants.{Missing, Unused, Used}
use Rattle.certain.specs.declared.line_forms.LineForms.{LineForms}

-- ## Operands
-- a number from 010000 on, which names a place of a bank
abbrev pub is_place_number : List ℕ → Bool
is_place_number text = option_map_or (nat_le 0o10000) (number_value text) false

-- the form of an operand that is a name or a number
abbrev pub operand_form : List ℕ → Option UncertainForm
operand_form text = if is_signed_name text then Some SignedName else if is_place_number text then Some PlaceNumber else None

-- ## Operators
-- OCTAL, or a sign before octal digits
abbrev pub octal_form : List ℕ → List ℕ → Option UncertainForm
octal_form operator operand =
    if same_name operator (codes "OCTAL") then Some OctalWords else if first_is is_sign operand then Some SignedOctal else None

-- a point stands in a text
abbrev pub has_point : List ℕ → Bool
has_point text = list_any (λ byte. byte == 0o56) text

-- a decimal constant with a point, or with scales after it
abbrev pub decimal_form : List ℕ → Bool → Option UncertainForm
decimal_form operand scaled = if has_point operand || scaled then Some ScaledDecimal else None

-- a minus before the operator
abbrev pub is_minus : List ℕ → Bool
is_minus operator = first_is (λ byte. byte == 0o55) operator

-- an address as instructions hold it: that of ADRES is certain
abbrev pub address_form : List ℕ → List ℕ → Option UncertainForm
address_form operator operand =
    if is_minus operator then Some Complement
    else if same_name operator (codes "ADRES") then operand_form operand
    else Some GeneralAddress

abbrev pub downlist_form : List ℕ → UncertainForm
downlist_form operator = if is_minus operator then Complement else Downlist

-- a form, or that of an EBANK= which stands before an earlier 2CADR
abbrev pub held_or : Bool → Option UncertainForm → Option UncertainForm
held_or held form = if held then Some HeldBank else form

-- ## Lines
-- words of one form, or of none
abbrev pub both : Option UncertainForm → LineForms
both form = record { first = form; second = form; is_far = false }

-- the two words of 2CADR: its EB and superbank bits stand in the second one
abbrev pub far_forms : Option UncertainForm → Bool → LineForms
far_forms form held = record { first = form; second = held_or held form; is_far = true }

-- their complements, which are of banks without superbank bits
abbrev pub far_complement_forms : Bool → LineForms
far_complement_forms held = record { first = Some Complement; second = held_or held (Some Complement); is_far = false }

-- the forms of the words of an operator with its operand, where scales stand after it or not, and where the EBANK= before it stands before
-- an earlier 2CADR or not
abbrev pub forms_by : Role → List ℕ → List ℕ → Bool → Bool → LineForms
forms_by role.Octal operator operand scaled held = both (octal_form operator operand)
forms_by role.OctalPair operator operand scaled held = both (Some OctalWords)
forms_by role.VerbNoun operator operand scaled held = both (Some VerbNoun)
forms_by role.Decimal operator operand scaled held = both (decimal_form operand scaled)
forms_by role.DecimalPair operator operand scaled held = both (Some ScaledDecimal)
forms_by role.Address operator operand scaled held = both (address_form operator operand)
forms_by role.FixedComplement operator operand scaled held = both (Some Complement)
forms_by role.CountComplement operator operand scaled held = both (Some Complement)
forms_by role.Downlist operator operand scaled held = both (Some (downlist_form operator))
forms_by role.DownlistChannel operator operand scaled held = both (Some Downlist)
forms_by role.BankConstant operator operand scaled held = both (held_or held (operand_form operand))
forms_by role.FarAddress operator operand scaled held = far_forms (operand_form operand) held
forms_by role.FarComplement operator operand scaled held = far_complement_forms held
forms_by _ operator operand scaled held = both (operand_form operand)

-- the bytes of a field, none where it does not stand
abbrev pub text_in : Option Piece → List ℕ
text_in field = option_map_or (λ piece. piece.text) field []

-- the forms of the words of a line
unfoldable pub forms_on : Parts → Bool → LineForms
forms_on parts held =
    option_map_or (λ r. forms_by r (text_in parts.operator) (text_in parts.operand) (is_some parts.offset) held) parts.role (both None)

-- ## Second words
-- a word selects one of the banks 030 to 037, and has no superbank bit
abbrev pub lacks_superbank : ℕ → Bool
lacks_superbank word = nat_le 0o60000 word && word / 0o100 % 2 == 0

-- the form of the second word of a line, by that word
abbrev pub second_at : LineForms → ℕ → Option UncertainForm
second_at line word = if line.is_far && lacks_superbank word then Some SuperbankBits else line.second

-- ## EBANK=
-- after a line that selects a far place
abbrev pub used_once : EbankUse → EbankUse
used_once Missing = Missing
used_once Unused = Used
used_once Used = Used

abbrev pub ebank_by : Role → EbankUse → EbankUse
ebank_by role.Ebank state = Unused
ebank_by role.FarAddress state = used_once state
ebank_by role.FarComplement state = used_once state
ebank_by _ state = state

-- whether an EBANK= stands before a line, and a 2CADR between, once the line is passed
abbrev pub ebank_after : EbankUse → Option Role → EbankUse
ebank_after state by = option_map_or (λ r. ebank_by r state) by state

abbrev pub is_held : EbankUse → Bool
is_held Missing = false
is_held Unused = false
is_held Used = true
