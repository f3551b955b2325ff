-- The room that codes leave for a field.
use Rattle.std.specs.Prelude.{ℕ, ◌+◌, Bool, true, nat_le}
use Rattle.yayul.specs.declared.language.AddressedCode.{AddressedCode}
use Rattle.yayul.specs.declared.language.FlightOperator.{FlightOperator}
use Rattle.yayul.specs.declared.language.FlightOperator.TheVariants as flight
use Rattle.yayul.specs.declared.language.Operator.{Operator}
use Rattle.yayul.specs.declared.language.Operator.TheVariants.{Setloc, Bank, Erase, Equals, Ebank, Octal, Decimal, FarAddress, Plain}
use Rattle.yayul.specs.declared.language.Operator.TheVariants.{Addressed, ToNext}
use Rattle.yayul.specs.declared.language.Takes.{Takes}
use Rattle.yayul.specs.declared.language.Takes.TheVariants.{Address, Pair, FixedAddress, Channel, ErasablePlace, FixedPlace}

-- the greatest code of 15 bits
abbrev pub greatest_code : ℕ
greatest_code = 0o77777

-- the greatest field that may be added to a code
abbrev pub greatest_field : Takes → ℕ
greatest_field Address = 0o7777
greatest_field Pair = 0o7777
greatest_field FixedAddress = 0o7777
greatest_field Channel = 0o7777
greatest_field ErasablePlace = 0o7777
greatest_field FixedPlace = greatest_code

-- the greatest code with a field
abbrev pub greatest_with_field : AddressedCode → ℕ
greatest_with_field i = i.least + greatest_field i.takes

-- the words that an operator gives have 15 bits
abbrev pub has_room : Operator → Bool
has_room Setloc = true
has_room (Bank taken) = true
has_room Erase = true
has_room Equals = true
has_room Ebank = true
has_room Octal = true
has_room Decimal = true
has_room FarAddress = true
has_room (Plain i) = nat_le i.code greatest_code
has_room (Addressed i) = nat_le (greatest_with_field i) greatest_code
has_room (ToNext i) = nat_le (greatest_with_field i) greatest_code

-- so have those of one of the language of flight programs
abbrev pub flight_has_room : FlightOperator → Bool
flight_has_room flight.PassedOver = true
flight_has_room flight.Equals = true
flight_has_room (flight.Bank taken) = true
flight_has_room flight.Octal = true
flight_has_room flight.Octals = true
flight_has_room flight.VerbNoun = true
flight_has_room (flight.Decimal precision) = true
flight_has_room (flight.Complemented i) = nat_le (greatest_with_field i) greatest_code
flight_has_room flight.FarComplement = true
flight_has_room flight.BankWord = true
flight_has_room flight.ReadFixed = true
flight_has_room (flight.Standard operator) = has_room operator
