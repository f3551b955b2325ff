-- The words that lines ask for, once all symbols are known, and the faults of the kind word.
use Rattle.std.specs.Prelude.{ℕ, ◌+◌, ◌*◌, ◌%◌, not, Bool, nat_lt, nat_le, List, [], ◌∷◌, map, flat_map, Option, None, Result, Ok, Err}
use Rattle.std.specs.Prelude.{ok_or, if◌then◌else◌}
use Rattle.std.specs.Result.{result_err}
use Rattle.words.specs.Numbers.{neg}
use Rattle.space.specs.Places.{window, fb_of, sup_of}
use Rattle.space.specs.declared.place.Linear.TheVariants as linear
use Rattle.yayul.specs.Operators.{field_size, bits_under}
use Rattle.yayul.specs.Layout.{Request, fault_if, standing, on_line, and_then, value_of, location_at, erasable_place}
use Rattle.yayul.specs.Language.{Address, Addressed, AddressedCode, BankWord, Channel, Complemented, Constant, Constants, Content, Either}
use Rattle.yayul.specs.Language.{Erasable, ErasablePlace, Extracode, FarAddress, FarComplement, Fault, FaultKind, Fixed, FixedAddress}
use Rattle.yayul.specs.Language.{FixedPlace, Location, NeedsExtend, No, NotExtracode, Num, OutOfRange, Pair, Plain, Takes, Undefined, Value}
use Rattle.yayul.specs.Language.{WrongKindOfAddress, Yes}

-- the address of a value: a number below 010000 is its own, and a place has its window
abbrev pub address_of : Value → Result ℕ FaultKind
address_of (Num n) = if nat_lt n 0o10000 then Ok n else Err OutOfRange
address_of (Erasable n) = Ok (window (linear.Erasable n))
address_of (Fixed bank n) = Ok (window (linear.Fixed bank n))

-- a number, where it passes a test of what the operator takes
abbrev pub accepted : (ℕ → Bool) → ℕ → Result ℕ FaultKind
accepted test n = if test n then Ok n else Err WrongKindOfAddress

-- the number of a channel
abbrev pub channel_in : ℕ → Value → Result ℕ FaultKind
channel_in size (Num n) = accepted (λ channel. nat_lt channel size) n
channel_in size _ = Err WrongKindOfAddress

-- the bank and the offset of a fixed location
abbrev pub fixed_offset : Location → Result (ℕ × ℕ) FaultKind
fixed_offset (Location.Erasable n) = Err WrongKindOfAddress
fixed_offset (Location.Fixed bank n) = Ok (bank, n)

-- the fixed place that a value names
abbrev pub fixed_place : Value → Result (ℕ × ℕ) FaultKind
fixed_place value = and_then fixed_offset (location_at value)

-- a fixed place in one word: the bank as FB holds it, then the offset
abbrev pub complete_address : ℕ → ℕ → ℕ
complete_address bank offset = fb_of (linear.Fixed bank offset) * 0o2000 + offset

-- an address that so many bits hold
abbrev pub address_below : ℕ → Value → Result ℕ FaultKind
address_below size value = and_then (accepted (λ a. nat_lt a size)) (address_of value)

-- what a value gives to the field that takes it; a pair's field holds the address after it, modulo the size of the field
abbrev pub field_of : Takes → ℕ → Value → Result ℕ FaultKind
field_of Address size value = address_below size value
field_of Pair size value = and_then (λ address. Ok ((address + 1) % size)) (address_below size value)
field_of FixedAddress size value = and_then (accepted (λ a. nat_le 0o2000 a)) (address_of value)
field_of Channel size value = channel_in size value
field_of ErasablePlace size value = erasable_place value
field_of FixedPlace size value = and_then (λ place. Ok (complete_address place.0 place.1)) (fixed_place value)

-- the word of a code and a value in its field, where extracode is in force or is not
abbrev pub addressed_word : AddressedCode → Bool → Value → Result (List ℕ) FaultKind
addressed_word i extracode value =
    and_then (λ field. Ok ((i.least + field) ∷ [])) (field_of i.takes (field_size (bits_under i.extracode i.bits extracode)) value)

-- what selects a fixed place, in one word: the bank as FB holds it, the superbank bit, and an EB beside them
abbrev pub bank_word : ℕ → ℕ → ℕ → ℕ
bank_word eb bank offset = fb_of (linear.Fixed bank offset) * 0o2000 + (if sup_of (linear.Fixed bank offset) then 0o100 else 0) + eb

-- the address of a fixed place, and then what selects it, with an EB
abbrev pub far_address : ℕ → ℕ → ℕ → List ℕ
far_address eb bank offset = window (linear.Fixed bank offset) ∷ bank_word eb bank offset ∷ []

-- the place of a bank that no superbank bit selects: below 030
abbrev pub low_place : ℕ × ℕ → Result (ℕ × ℕ) FaultKind
low_place place = if nat_lt place.0 0o30 then Ok place else Err WrongKindOfAddress

-- the words of a content at a fixed place, where extracode is in force or is not, with an EB, its symbols read in a table
abbrev pub content_words : List (List ℕ × Value) → Value → Bool → ℕ → Content → Result (List ℕ) FaultKind
content_words table here extracode eb (Constant number) = and_then (λ word. Ok (word ∷ [])) (ok_or number OutOfRange)
content_words table here extracode eb (Plain i) = Ok (i.code ∷ [])
content_words table here extracode eb (Addressed i operand) = and_then (addressed_word i extracode) (value_of Undefined table here operand)
content_words table here extracode eb (FarAddress operand) =
    and_then (λ place. Ok (far_address eb place.0 place.1)) (and_then fixed_place (value_of Undefined table here operand))
content_words table here extracode eb (Constants pair) = and_then (λ words. Ok (words.first ∷ words.second ∷ [])) (ok_or pair OutOfRange)
content_words table here extracode eb (Complemented i operand) = and_then (λ words. Ok (map neg words))
    (and_then (addressed_word i extracode) (value_of Undefined table here operand))
content_words table here extracode eb (FarComplement operand) =
    and_then (λ place. Ok (map neg (far_address eb place.0 place.1)))
    (and_then low_place (and_then fixed_place (value_of Undefined table here operand)))
content_words table here extracode eb (BankWord operand) =
    and_then (λ place. Ok (bank_word eb place.0 place.1 ∷ []))
    (and_then low_place (and_then fixed_place (value_of Undefined table here operand)))

-- the words of a request
unfoldable pub request_words : List (List ℕ × Value) → Request → Result (List ℕ) FaultKind
request_words table r = content_words table (Fixed r.bank r.offset) r.extracode r.eb r.content

-- whether the word of a content is an extracode
abbrev pub extracode_of : Content → Extracode
extracode_of (Plain i) = i.extracode
extracode_of (Addressed i operand) = i.extracode
extracode_of _ = No

-- the fault of an extracode where extracode is not in force, and of a word that is none where it is
abbrev pub extracode_fault : Extracode → Bool → Option FaultKind
extracode_fault No extracode = fault_if extracode NotExtracode
extracode_fault Yes extracode = fault_if (not extracode) NeedsExtend
extracode_fault Either extracode = None

-- the word faults of a request
unfoldable pub request_faults : List (List ℕ × Value) → Request → List FaultKind
request_faults table r =
    standing (result_err (request_words table r) ∷ extracode_fault (extracode_of r.content) r.extracode ∷ [])

-- the word faults of some requests
abbrev pub word_faults : List (List ℕ × Value) → List Request → List Fault
word_faults table requests = flat_map (λ r. on_line r.line (request_faults table r)) requests
