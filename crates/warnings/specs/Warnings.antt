-- What in a source is likely a mistake, though it is no fault: definitions over its lines, whatever stands before them.
use Rattle.std.specs.Prelude.{ℕ, ◌+◌, ◌-◌, ◌%◌, ◌==◌, ◌&&◌, ◌||◌, not, Bool, true, false, nat_le, nat_lt, List, [], ◌∷◌, ◌++◌, map}
use Rattle.std.specs.Prelude.{Option, Some, None, is_some, codes, option_and_then, if◌then◌else◌}
use Rattle.std.specs.List.{fold, list_any}
use Rattle.std.specs.Option.{option_map, option_map_or}
use Rattle.agc_text.specs.Digits.{digits_value, sized}
use Rattle.agc_text.specs.Fields.{Piece}
use Rattle.agc_text.specs.declared.digits.Number.{Number}
use Rattle.agc_text.specs.declared.digits.Number.TheVariants.{Small}
use Rattle.agc_text.specs.Tables.{same_name, value_in}
use Rattle.yayul.specs.Survey.{looked_at, span_of}
use Rattle.yayul.specs.declared.language.Language.{Language}
use Rattle.yayul.specs.declared.language.Language.TheVariants.{Flight, Standard}
use Rattle.near_names.specs.Names.{is_among, is_short, with_field}
use Rattle.warnings.specs.Fields.{is_signed, text_of}
use Rattle.warnings.specs.Roles.{gives_two, is_call, is_constant, is_equals, is_erase, is_index, is_jump, is_leaving, is_setloc}
use Rattle.warnings.specs.Roles.{keeps_location, leads_on_to, leads_to_fixed, moves_location, names_bank, reads, reads_word, sets_bank}
use Rattle.warnings.specs.Roles.{stores, takes_pair, writes_erasable}
use Rattle.warnings.specs.Roles.{changes_a, changes_l, computes_way, goes_back, has_four_ways, is_idle, keeps_a, keeps_l, keeps_q}
use Rattle.warnings.specs.Roles.{may_skip, releases, resumes, writes_channel}
use Rattle.yayul.specs.Readings.{Parts, operand_value, parts_for}
use Rattle.yayul.specs.Roles.{is_operator_of}
use Rattle.symbols.specs.Registers.{registers}
use Rattle.symbols.specs.Values.{SymbolTable}
use Rattle.symbols.specs.declared.values.Value.{Value}
use Rattle.symbols.specs.declared.values.Value.TheVariants.{Erasable, Fixed, Num}
use Rattle.warnings.specs.declared.flow.Before.{Before}
use Rattle.warnings.specs.declared.handlers.Handlers.{Handlers}
use Rattle.warnings.specs.declared.handlers.Unkept.{Unkept}
use Rattle.warnings.specs.declared.warning.Names.{Names}
use Rattle.warnings.specs.declared.reserved.Reserved.{Reserved}
use Rattle.warnings.specs.declared.unreached.Leads.{Leads}
use Rattle.warnings.specs.declared.switched.BankRegister.{BankRegister}
use Rattle.warnings.specs.declared.switched.BankRegister.TheVariants.{Eb, Fb}
use Rattle.warnings.specs.declared.switched.Banks.{Banks}
use Rattle.warnings.specs.declared.switched.Target.{Target}
use Rattle.warnings.specs.declared.switched.Target.TheVariants.{Cell, InBank, Plain, Unknown}
use Rattle.warnings.specs.declared.told.Warning.{Warning}

-- ## Lines
-- what is so of an operator, without an offset
abbrev pub has_alone : Bool → Parts → Bool
has_alone condition parts = condition && not (is_some parts.offset)

-- a warning of a number at a field of a line, where it stands and a condition holds
abbrev pub warned_if : Bool → ℕ → ℕ → Option Piece → List Warning
warned_if condition line number field =
    option_map_or (λ p. if condition then record { line = line; number = number; span = span_of p; doubt = None } ∷ [] else []) field []

-- the label of a line is one of some names
abbrev pub has_label : List (List ℕ) → Parts → Bool
has_label names parts = option_map_or (λ l. is_among names l.text) parts.label false

-- ## 2: the number of a register or a counter where a word is read: `CA 5` reads Z
-- octal digits of a place that a register or a counter has: 0 to 060
abbrev pub is_register_number : List ℕ → Bool
is_register_number text = option_map_or (λ number. nat_lt number 0o61) (digits_value 8 text) false

-- whether one of those that add stands last before the word that follows a line, by whether one does before it
abbrev pub indexed_after : Bool → Parts → Bool
indexed_after indexed parts = if is_some parts.operator && not (keeps_location parts.role) then is_index parts.role else indexed

-- after one of them the number is a part of an address alone
abbrev pub reads_number : Bool → Parts → Bool
reads_number indexed parts = not indexed && has_alone (reads parts.role) parts && is_register_number (text_of parts.operand)

-- ## 3: two words of a name for which one is reserved
-- ERASE without an operand
abbrev pub reserves_one : Parts → Bool
reserves_one parts = is_erase parts.role && not (is_some parts.operand)

-- some names, and the label of a line that reserves one word
abbrev pub with_single : List (List ℕ) → Parts → List (List ℕ)
with_single names parts = if reserves_one parts then with_field names parts.label else names

abbrev pub lacks_word : List (List ℕ) → Parts → Bool
lacks_word singles parts = has_alone (takes_pair parts.role) parts && is_among singles (text_of parts.operand)

-- ## 4: a program that runs on to a constant, or where no word stands
-- operators that give words
abbrev pub gives_word : Parts → Bool
gives_word parts = is_some parts.operator && not (moves_location parts.role || keeps_location parts.role)

-- instructions
abbrev pub is_instruction : Parts → Bool
is_instruction parts = gives_word parts && not (is_constant parts.role)

-- the places of FB, of Z and of BB; an exchange of two words at the first or the last writes Z too
abbrev pub is_jump_register : List ℕ → Bool
is_jump_register place = same_name place (codes "4") || same_name place (codes "5") || same_name place (codes "6")

-- a register of one of these places, by name, or a place of any by number
abbrev pub is_jump_place : List ℕ → Bool
is_jump_place text = option_map_or is_jump_register (value_in registers text) false || is_register_number text

-- the next word is not reached from this one
abbrev pub leaves : Parts → Bool
leaves parts = is_leaving parts.role || (stores parts.role && is_jump_place (text_of parts.operand))

-- how many words a line gives
abbrev pub word_count : Parts → ℕ
word_count parts = if gives_two parts.role then 2 else if gives_word parts then 1 else 0

-- a number in octal, where it is below 2 ^ 32
abbrev pub small_number : Option Number → Option ℕ
small_number (Some (Small n)) = Some n
small_number _ = None

-- the number that a line's operand is in octal, where that is so of its operator and no offset stands
abbrev pub number_beside : Bool → Parts → Option ℕ
number_beside condition parts =
    if has_alone condition parts then small_number (option_map sized (digits_value 8 (text_of parts.operand))) else None

-- the place after so many words, below the end of bank 3
abbrev pub place_past : ℕ → Option ℕ → Option ℕ
place_past count place = option_and_then (λ n. if nat_lt n 0o10000 then Some (n + count) else None) place

-- the number of the place that follows a line, as SETLOC takes it, by that of the place before it, where the fields of the lines tell it
abbrev pub place_after : Option ℕ → Parts → Option ℕ
place_after place parts =
    if is_setloc parts.role then number_beside (is_setloc parts.role) parts
    else if names_bank parts.role then None
    else if is_erase parts.role then (if reserves_one parts then place_past 1 place else None)
    else place_past (word_count parts) place

-- the bank behind whose words the next stands, after a line
abbrev pub bank_after : Option ℕ → Parts → Option ℕ
bank_after bank parts =
    if is_setloc parts.role then None
    else if names_bank parts.role then number_beside (names_bank parts.role) parts
    else bank

-- two numbers that are known are the same
abbrev pub is_same_known : Option ℕ → Option ℕ → Bool
is_same_known (Some a) (Some b) = a == b
is_same_known _ _ = false

-- a line leads to the place where it stands: SETLOC to that place, or BANK of the bank behind whose words it is
abbrev pub leads_on : Option ℕ → Option ℕ → Parts → Bool
leads_on place bank parts =
    is_same_known place (number_beside (is_setloc parts.role) parts) || is_same_known bank (number_beside (names_bank parts.role) parts)

-- of some lines the first that gives words or moves the location to another place gives an instruction
abbrev pub goes_on_to_instruction : Option ℕ → Option ℕ → List Parts → Bool
goes_on_to_instruction place bank [] = false
goes_on_to_instruction place bank (parts ∷ rest) =
    if leads_on place bank parts then goes_on_to_instruction place bank rest
    else if gives_word parts || moves_location parts.role then is_instruction parts
    else goes_on_to_instruction place bank rest

-- some names, and the operand of a line that reads it
abbrev pub with_read : List (List ℕ) → Parts → List (List ℕ)
with_read names parts = if reads_word parts.role then with_field names parts.operand else names

-- an instruction, none that is read as a word, is not left, and the lines after it do not go on with another
abbrev pub runs_out : List (List ℕ) → Before → List Parts → Parts → Bool
runs_out read before after parts =
    is_some parts.role && is_instruction parts && not (leaves parts) && not (has_label read parts)
    && not (goes_on_to_instruction (place_after before.place parts) (bank_after before.bank parts) after)

-- ## 5: a vector's words that run on into the next vector
-- the place of a vector where an interrupt enters: 4004, 4010 and so on to 4050
abbrev pub is_vector : ℕ → Bool
is_vector place = place % 4 == 0 && nat_le 0o4004 place && nat_le place 0o4050

-- SETLOC and the place of a vector
abbrev pub sets_vector : Parts → Bool
sets_vector parts = has_alone (is_setloc parts.role) parts && option_map_or is_vector (digits_value 8 (text_of parts.operand)) false

-- after the four words of a vector another stands, and the fourth is not left
abbrev pub is_overrun : Option ℕ → Bool → Bool
is_overrun filled left = option_map_or (nat_le 4) filled false && not left

abbrev pub overruns : Before → Parts → Bool
overruns before parts = is_overrun before.filled before.left && gives_word parts

-- ## 6 and 9: a place of a switched bank, where no line sets EB or FB
-- EB is 3, FB 4, and BB, which has both, 6
abbrev pub has_bank : BankRegister → ℕ → Bool
has_bank Eb n = n == 3 || n == 6
has_bank Fb n = n == 4 || n == 6

-- a write at a number sets a register: at its place, and of two words at the place before it; after INDEX one at a place up to 6 may
abbrev pub writes_bank : BankRegister → Bool → Bool → ℕ → Bool
writes_bank register indexed pair n = has_bank register n || (pair && has_bank register (n + 1)) || (indexed && nat_lt n 7)

-- what an operand with a value leads to: a number, a cell of erasable memory, or a place of a bank of fixed memory
abbrev pub target_at : Value → Target
target_at (Num n) = Plain n
target_at (Erasable n) = Cell n
target_at (Fixed bank n) = InBank bank

-- what the operand of a line leads to by the symbols of a source
abbrev pub target_in : Language → SymbolTable → Parts → Target
target_in language table parts = option_map_or target_at (operand_value language table parts) Unknown

-- a write at a target may set a register; one at what is not known may
abbrev pub may_write : BankRegister → Bool → Bool → Target → Bool
may_write register indexed pair Unknown = true
may_write register indexed pair (Plain n) = writes_bank register indexed pair n
may_write register indexed pair (Cell n) = writes_bank register indexed pair n
may_write register indexed pair (InBank bank) = false

-- a line may set a register: DTCB or DTCF, or a write
abbrev pub may_set : BankRegister → Bool → Target → Parts → Bool
may_set register indexed target parts =
    sets_bank parts.role || (writes_erasable parts.role && may_write register indexed (takes_pair parts.role) target)

-- what is known of banks after a line whose operand has a target
abbrev pub banks_after : Banks → Target → Parts → Banks
banks_after banks target parts = record {
  indexed = indexed_after banks.indexed parts;
  sets_erasable = banks.sets_erasable || may_set Eb banks.indexed target parts;
  sets_fixed = banks.sets_fixed || may_set Fb banks.indexed target parts;
  instructs = banks.instructs || is_instruction parts;
}

abbrev pub no_banks : Banks
no_banks = record { indexed = false; sets_erasable = false; sets_fixed = false; instructs = false }

-- what some lines of a source say of banks, by the values of its symbols
abbrev pub banks_of : Language → SymbolTable → List Parts → Banks
banks_of language table lines = fold (λ banks parts. banks_after banks (target_in language table parts) parts) no_banks lines

-- banks 2 and 3, which are reached whatever FB holds
abbrev pub is_common : ℕ → Bool
is_common bank = bank == 2 || bank == 3

-- a register leads to a target: EB to a cell from 1400 on, FB to a place of a bank but 2 and 3, and 0, where a machine starts
abbrev pub is_switched : BankRegister → Target → Bool
is_switched Eb (Cell n) = nat_le 0o1400 n
is_switched Fb (InBank bank) = not (bank == 0 || is_common bank)
is_switched _ _ = false

-- an instruction on such a place
abbrev pub reaches : BankRegister → Target → Parts → Bool
reaches register target parts = is_some parts.role && is_instruction parts && is_switched register target

-- the place of a target is in bank 2 or 3; a number from 4000 to 7777 is one
abbrev pub is_common_place : Target → Bool
is_common_place (Plain n) = nat_le 0o4000 n && nat_lt n 0o10000
is_common_place (InBank bank) = is_common bank
is_common_place _ = false

-- a target is the number of one of them
abbrev pub is_common_number : Target → Bool
is_common_number (Plain n) = is_common n
is_common_number _ = false

-- words stand in bank 2 or 3 after a line whose operand has a target, where they do or do not before it
abbrev pub common_after : Bool → Target → Parts → Bool
common_after common target parts =
    if is_setloc parts.role then is_common_place target
    else if names_bank parts.role then is_common_number target
    else common

-- an instruction on a place of a switched erasable bank, where no line sets EB
abbrev pub needs_erasable_bank : Banks → Target → Parts → Bool
needs_erasable_bank banks target parts = not banks.sets_erasable && reaches Eb target parts

-- an instruction of banks 2 and 3 on a place of a switched bank of fixed memory, where no line sets FB
abbrev pub needs_fixed_bank : Banks → Bool → Target → Parts → Bool
needs_fixed_bank banks common target parts = not banks.sets_fixed && common && reaches Fb target parts

-- ## 7: a register's name at another place
-- two numbers in octal are the same
abbrev pub is_same_small : Option Number → Option Number → Bool
is_same_small (Some (Small a)) (Some (Small b)) = a == b
is_same_small _ _ = false

abbrev pub is_same_number : List ℕ → List ℕ → Bool
is_same_number a b = is_same_small (option_map sized (digits_value 8 a)) (option_map sized (digits_value 8 b))

-- ZERO, which is often a constant
abbrev pub is_zero : List ℕ → Bool
is_zero text = same_name text (codes "ZERO")

-- a line gives another number than that of a register; or it stands for a place or has a word, and its place is not known to be the
-- register's
abbrev pub is_elsewhere : Option ℕ → List ℕ → Parts → Bool
is_elsewhere place register parts =
    if is_equals parts.role
    then has_alone (is_equals parts.role) parts && is_some (digits_value 8 (text_of parts.operand))
    && not (is_same_number (text_of parts.operand) register)
    else not (is_same_known place (small_number (option_map sized (digits_value 8 register))))

abbrev pub takes_register : Option ℕ → Parts → Bool
takes_register place parts =
    option_map_or (λ register. not (is_zero (text_of parts.label)) && is_elsewhere place register parts)
    (value_in registers (text_of parts.label)) false

-- ## 8: a label that no operand names
abbrev pub is_unused : List (List ℕ) → Parts → Bool
is_unused operands parts = is_short (text_of parts.label) && not (is_among operands (text_of parts.label))

-- ## 10: a word that is written on a channel which is a register, and so does not go out
-- octal digits of channel 1 or 2, which are L and Q
abbrev pub is_register_channel : List ℕ → Bool
is_register_channel text = option_map_or (λ number. nat_le 1 number && nat_le number 2) (digits_value 8 text) false

abbrev pub stays_inside : Parts → Bool
stays_inside parts = has_alone (writes_channel parts.role) parts && is_register_channel (text_of parts.operand)

-- ## 11: a constant or an address at 4000, where a run starts, while an instruction stands in the source
abbrev pub starts_with_constant : Bool → Option ℕ → Parts → Bool
starts_with_constant instructs place parts =
    instructs && is_same_known place (Some 0o4000) && gives_word parts && is_constant parts.role

-- ## 12: a routine of an interrupt that changes A, L or Q before it keeps it
-- none, and all, of A, L and Q: those that a routine has neither kept nor changed, on the straight way from its vector
abbrev pub none_unkept : Unkept
none_unkept = record { a = false; l = false; q = false }

abbrev pub all_unkept : Unkept
all_unkept = record { a = true; l = true; q = true }

-- a register or a counter, by name or by number
abbrev pub is_register_field : List ℕ → Bool
is_register_field text = is_some (value_in registers text) || is_register_number text

-- TC of a place that is no register
abbrev pub calls : Parts → Bool
calls parts = is_call parts.role && is_some parts.operand && not (is_register_field (text_of parts.operand))

-- octal digits of 3 to 6
abbrev pub is_way_number : List ℕ → Bool
is_way_number text = option_map_or (λ n. nat_le 3 n && nat_le n 6) (digits_value 8 text) false

-- FB, Z or BB by name, or a place of 3 to 6 by number
abbrev pub is_way_register : List ℕ → Bool
is_way_register text = option_map_or is_jump_register (value_in registers text) false || is_way_number text

-- a line stores where the next instruction is found
abbrev pub stores_way : Parts → Bool
stores_way parts = stores parts.role && is_way_register (text_of parts.operand)

-- the next word is not reached from this one
abbrev pub goes_elsewhere : Parts → Bool
goes_elsewhere parts = is_leaving parts.role || stores_way parts

-- A is stored or changed; so L
abbrev pub closes_a : Parts → Bool
closes_a parts = keeps_a parts.role || changes_a parts.role

abbrev pub closes_l : Parts → Bool
closes_l parts = keeps_l parts.role || changes_l parts.role

-- what is unkept after an instruction behind which the next is reached
abbrev pub unkept_less : Unkept → Parts → Unkept
unkept_less unkept parts = record {
  a = unkept.a && not (closes_a parts);
  l = unkept.l && not (closes_l parts);
  q = unkept.q && not (keeps_q parts.role);
}

-- what is unkept after a line
abbrev pub unkept_after : Unkept → Parts → Unkept
unkept_after unkept parts =
    if moves_location parts.role then (if sets_vector parts then all_unkept else none_unkept)
    else if not (gives_word parts) then unkept
    else if goes_elsewhere parts then none_unkept
    else unkept_less unkept parts

-- what is unkept on a straight way, which ends at a label: others may come there
abbrev pub on_straight : Unkept → Parts → Unkept
on_straight unkept parts =
    if is_some parts.label && not (moves_location parts.role || keeps_location parts.role) then none_unkept else unkept

-- some names, and that to which a line leads where something is so
abbrev pub with_target : Bool → List (List ℕ) → Parts → List (List ℕ)
with_target condition names parts = if has_alone (condition && leads_to_fixed parts.role) parts then with_field names parts.operand else
    names

-- RESUME, or a number by which it can be made: 17 of INDEX, or its word
abbrev pub is_resume_number : List ℕ → Bool
is_resume_number text = option_map_or (λ number. number == 0o17 || number == 0o50017) (digits_value 8 text) false

abbrev pub may_resume : Parts → Bool
may_resume parts = resumes parts.role || is_resume_number (text_of parts.operand)

-- what the lines so far say of routines of interrupts
abbrev pub no_handlers : Handlers
no_handlers = record {
  unkept = none_unkept;
  a = [];
  l = [];
  q = [];
  resumes = false;
  may_resume = false;
  relints = false;
  vectors = false;
}

abbrev pub handlers_after : Handlers → Parts → Handlers
handlers_after handlers parts = record {
  unkept = unkept_after (on_straight handlers.unkept parts) parts;
  a = with_target (on_straight handlers.unkept parts).a handlers.a parts;
  l = with_target (on_straight handlers.unkept parts).l handlers.l parts;
  q = with_target (on_straight handlers.unkept parts).q handlers.q parts;
  resumes = handlers.resumes || resumes parts.role;
  may_resume = handlers.may_resume || may_resume parts;
  relints = handlers.relints || releases parts.role;
  vectors = handlers.vectors || sets_vector parts;
}

abbrev pub handlers_of : List Parts → Handlers
handlers_of lines = fold (λ handlers parts. handlers_after handlers parts) no_handlers lines

-- what is unkept at a line, where a way from a vector comes straight or by a jump
abbrev pub unkept_at : Handlers → Unkept → Parts → Unkept
unkept_at handlers unkept parts =
    if moves_location parts.role || keeps_location parts.role then unkept
    else record {
      a = (on_straight unkept parts).a || has_label handlers.a parts;
      l = (on_straight unkept parts).l || has_label handlers.l parts;
      q = (on_straight unkept parts).q || has_label handlers.q parts;
    }

-- a line changes what is unkept
abbrev pub loses : Unkept → Parts → Bool
loses unkept parts = (unkept.a && changes_a parts.role) || (unkept.l && changes_l parts.role) || (unkept.q && calls parts)

abbrev pub loses_unkept : Handlers → Unkept → Parts → Bool
loses_unkept handlers unkept parts = handlers.resumes && loses (unkept_at handlers unkept parts) parts

-- ## 13: an interrupt that does not end: an instruction at a vector, without a label, while RELINT stands in the source and RESUME does
-- not
abbrev pub is_begun : Option ℕ → Bool
is_begun filled = option_map_or (λ count. count == 0) filled false

abbrev pub is_endless : Handlers → Option ℕ → Parts → Bool
is_endless handlers filled parts =
    handlers.relints && not handlers.may_resume && is_begun filled && is_instruction parts && not (is_some parts.label)

-- ## 14: the program runs on over the vectors, to 4004, while RELINT stands in the source and no SETLOC to a vector does
abbrev pub crosses : Handlers → Option ℕ → Bool → Parts → Bool
crosses handlers place left parts =
    handlers.relints && not handlers.vectors && is_same_known place (Some 0o4004) && not left && is_instruction parts

-- ## 15: a word reserved at a place where an earlier line reserves one
-- some places and one more
abbrev pub is_reserved : List ℕ → ℕ → Bool
is_reserved places place = list_any (λ p. p == place) places

abbrev pub with_place : List ℕ → Option ℕ → List ℕ
with_place places None = places
with_place places (Some place) = if is_reserved places place then places else places ++ place ∷ []

abbrev pub is_again : List ℕ → Option ℕ → Bool
is_again places place = option_map_or (is_reserved places) place false

-- a label beside ERASE alone
abbrev pub names_one : Parts → Bool
names_one parts = reserves_one parts && is_some parts.label

-- what the lines so far say of words that are reserved: the place, the places of words with a label, and the labels of those that stand
-- there again
abbrev pub none_reserved : Reserved
none_reserved = record { place = Some 0o4000; places = []; again = [] }

abbrev pub reserved_after : Reserved → Parts → Reserved
reserved_after reserved parts = record {
  place = place_after reserved.place parts;
  places = if names_one parts then with_place reserved.places reserved.place else reserved.places;
  again = if reserves_one parts && is_again reserved.places reserved.place then with_field reserved.again parts.label else reserved.again;
}

abbrev pub reserved_of : List Parts → Reserved
reserved_of lines = fold (λ reserved parts. reserved_after reserved parts) none_reserved lines

abbrev pub stands_again : Reserved → Parts → Bool
stands_again reserved parts = reserves_one parts && is_among reserved.again (text_of parts.label)

-- ## 16: a word behind a jump, to which nothing leads
-- an operand that names no label: a number, a place beside the line, or a register but Q
abbrev pub is_unnamed : List ℕ → Bool
is_unnamed text = is_some (digits_value 8 text) || is_signed text
    || option_map_or (λ place. not (same_name place (codes "2"))) (value_in registers text) false

-- a jump to no label, with an offset or after INDEX
abbrev pub jumps_unnamed : Bool → Parts → Bool
jumps_unnamed indexed parts =
    leads_on_to parts.role && (indexed || is_some parts.offset || is_unnamed (text_of parts.operand))

-- an address or a name with an offset
abbrev pub names_beyond : Parts → Bool
names_beyond parts = (is_constant parts.role || is_equals parts.role) && is_some parts.offset

-- what goes on where a register says
abbrev pub goes_by_register : Parts → Bool
goes_by_register parts = sets_bank parts.role || computes_way parts.role || stores_way parts

-- a line may lead to a word without a label
abbrev pub leads_unnamed : Bool → Parts → Bool
leads_unnamed indexed parts = jumps_unnamed indexed parts || names_beyond parts || goes_by_register parts

abbrev pub no_leads : Leads
no_leads = record { indexed = false; unnamed = false }

abbrev pub leads_after : Leads → Parts → Leads
leads_after leads parts = record {
  indexed = indexed_after leads.indexed parts;
  unnamed = leads.unnamed || leads_unnamed leads.indexed parts;
}

abbrev pub leads_of : List Parts → Leads
leads_of lines = fold (λ leads parts. leads_after leads parts) no_leads lines

-- how many words behind it a line may lead to: the four ways of CCS; behind others that may skip, and routines that may, two
abbrev pub skipping : Parts → ℕ
skipping parts =
    if has_four_ways parts.role then 4
    else if is_call parts.role || is_index parts.role || may_skip parts.role then 2
    else 0

-- how many more words may be led to so, after a line
abbrev pub skips_after : ℕ → Parts → ℕ
skips_after skips parts =
    if not (gives_word parts) then skips
    else if nat_lt (skipping parts) (skips - 1) then skips - 1
    else skipping parts

-- TCF, RETURN or RESUME stands last, after a line
abbrev pub behind_after : Bool → Parts → Bool
behind_after behind parts =
    if gives_word parts then is_jump parts.role || goes_back parts.role
    else if moves_location parts.role || is_some parts.label then false
    else behind

-- an interrupt may enter at a place that is known, or else in a bank
abbrev pub may_enter : Option ℕ → Option ℕ → Bool
may_enter (Some place) bank = is_vector place
may_enter None bank = option_map_or (λ b. b == 2) bank true

-- an instruction that is no part of a table of jumps, and nothing that fills room
abbrev pub is_work : Parts → Bool
is_work parts = is_instruction parts && not (is_jump parts.role || is_call parts.role || is_idle parts.role)

abbrev pub is_unreached : Bool → Before → Parts → Bool
is_unreached unnamed before parts = not unnamed && before.behind && before.skips == 0 && is_work parts && not (is_some parts.label)
    && not (may_enter before.place before.bank)

-- ## What stands before a line
-- how many words a vector has after a line, or nothing where none is filled
abbrev pub filled_after : Option ℕ → Parts → Option ℕ
filled_after filled parts =
    if moves_location parts.role then (if sets_vector parts then Some 0 else None)
    else option_and_then (λ n. if nat_lt n 4 then Some (n + word_count parts) else if gives_word parts then None else Some n) filled

-- what stands after a line whose operand has a target
abbrev pub before_next : Handlers → Before → Target → Parts → Before
before_next handlers before target parts = record {
  indexed = indexed_after before.indexed parts;
  filled = filled_after before.filled parts;
  left = if gives_word parts then leaves parts else before.left;
  common = common_after before.common target parts;
  place = place_after before.place parts;
  bank = bank_after before.bank parts;
  unkept = unkept_after (unkept_at handlers before.unkept parts) parts;
  behind = behind_after before.behind parts;
  skips = skips_after before.skips parts;
}

abbrev pub at_start : Before
at_start = record {
  indexed = false;
  filled = None;
  left = false;
  common = true;
  place = Some 0o4000;
  bank = Some 2;
  unkept = none_unkept;
  behind = false;
  skips = 0;
}

-- ## All
-- the names of some lines: those for which one word is reserved, those that an operand is and those that are read; and what is known of
-- banks, of routines of interrupts, of words that are reserved, and of what leads to words
abbrev pub names_of : Language → SymbolTable → List Parts → Names
names_of language table lines = record {
  singles = fold (λ names parts. with_single names parts) [] lines;
  operands = fold (λ names parts. with_field names parts.operand) [] lines;
  read = fold (λ names parts. with_read names parts) [] lines;
  banks = banks_of language table lines;
  handlers = handlers_of lines;
  reserved = reserved_of lines;
  leads = leads_of lines;
}

-- a source without forms of flight programs, whose words of other kinds are not told from instructions
abbrev pub is_standard : Language → Bool
is_standard Standard = true
is_standard Flight = false

-- the warnings of a line's label: of an operator's name, of a register's, of a word that stands again, and of one that nothing names
-- where that is asked for
abbrev pub name_warnings : Language → Bool → Names → Before → ℕ → Parts → List Warning
name_warnings language unused names before line parts =
    warned_if (is_operator_of language (text_of parts.label)) line 1 parts.label
    ++ warned_if (takes_register before.place parts) line 7 parts.label
    ++ warned_if (is_standard language && stands_again names.reserved parts) line 15 parts.label
    ++ warned_if (unused && is_unused names.operands parts) line 8 parts.label

-- those of routines of interrupts, of their vectors, and of what is never reached
abbrev pub way_warnings : Names → Before → ℕ → Parts → List Warning
way_warnings names before line parts =
    warned_if (loses_unkept names.handlers before.unkept parts) line 12 parts.operator
    ++ warned_if (is_endless names.handlers before.filled parts) line 13 parts.operator
    ++ warned_if (crosses names.handlers before.place before.left parts) line 14 parts.operator
    ++ warned_if (is_unreached names.leads.unnamed before parts) line 16 parts.operator

-- the warnings of its operator, by what stands before it and the lines after it
abbrev pub flow_warnings : Language → Names → Before → List Parts → ℕ → Parts → List Warning
flow_warnings language names before after line parts
    = (if is_standard language then warned_if (runs_out names.read before after parts) line 4 parts.operator
    ++ warned_if (starts_with_constant names.banks.instructs before.place parts) line 11 parts.operator
    ++ way_warnings names before line parts else [])
    ++ warned_if (overruns before parts) line 5 parts.operator

-- those of a bank that is not set, and of a channel that is a register
abbrev pub place_warnings : Names → Before → Target → ℕ → Parts → List Warning
place_warnings names before target line parts =
    warned_if (needs_erasable_bank names.banks target parts) line 6 parts.operand
    ++ warned_if (needs_fixed_bank names.banks before.common target parts) line 9 parts.operand
    ++ warned_if (stays_inside parts) line 10 parts.operand

-- the warnings of its operand, which has a target
abbrev pub operand_warnings : Names → Before → Target → ℕ → Parts → List Warning
operand_warnings names before target line parts =
    warned_if (reads_number before.indexed parts) line 2 parts.operand
    ++ warned_if (lacks_word names.singles parts) line 3 parts.operand
    ++ place_warnings names before target line parts

-- the warnings of a line, in the order of its fields
abbrev pub line_warnings : Language → Bool → Names → Before → Target → List Parts → ℕ → Parts → List Warning
line_warnings language unused names before target after line parts =
    name_warnings language unused names before line parts ++ flow_warnings language names before after line parts
    ++ operand_warnings names before target line parts

-- the warnings of some lines of a source of a language, the first of them with a number, by the values of its symbols
abbrev pub warned_lines : Language → Bool → SymbolTable → Names → Before → ℕ → List Parts → List Warning
warned_lines language unused table names before line [] = []
warned_lines language unused table names before line (parts ∷ rest) =
    line_warnings language unused names before (target_in language table parts) rest line parts
    ++ warned_lines language unused table names (before_next names.handlers before (target_in language table parts) parts) (line + 1)
    rest

-- the lines of a source that are looked at, taken apart
abbrev pub lines_apart : Language → List ℕ → List Parts
lines_apart language source = map (parts_for language) (looked_at language source)

-- the warnings of a source of a language, of as many lines as are looked at for faults, by the values of its symbols
unfoldable pub warnings : Language → Bool → SymbolTable → List ℕ → List Warning
warnings language unused table source = warned_lines language unused table (names_of language table (lines_apart language source)) at_start
    1 (lines_apart language source)
