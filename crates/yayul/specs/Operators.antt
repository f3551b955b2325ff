-- The operators of the source language: a row for each, with its role, by which diagnostics say what it does.
use Rattle.std.specs.Prelude.{ℕ, ◌==◌, ◌||◌, Bool, true, false, nat_lt, List, [], ◌∷◌, map, codes, if◌then◌else◌}
use Rattle.rope.specs.Places.{banks}
use Rattle.yayul.specs.Language.{Address, AddressedCode, All, BankRange, Bits, Channel, Either, ErasablePlace, Extracode, FixedAddress}
use Rattle.yayul.specs.Language.{FixedPlace, Nine, No, Operator, Pair, Takes, Ten, Twelve, TwoOrThree, Yes}
use Rattle.yayul.specs.declared.role.Role.{Role}

-- an instruction without an operand: its code, and whether it is an extracode
abbrev pub plain : ℕ → Extracode → Operator
plain code extracode = Operator.Plain (record { code = code; extracode = extracode; extends = false })

-- a code with a field: the least code, the bits of an address or a channel, whether it is an extracode, and what the field holds
abbrev pub code : ℕ → Bits → Extracode → Takes → AddressedCode
code least bits extracode takes = record { least = least; bits = bits; extracode = extracode; takes = takes }

-- a word made of an operand
abbrev pub addressed : ℕ → Bits → Extracode → Takes → Operator
addressed least bits extracode takes = Operator.Addressed (code least bits extracode takes)

-- each operator by its name, with what it says and what it is; EXTEND puts extracode in force
unfoldable pub operator_rows : List (List ℕ × (Operator × Role))
operator_rows =
    (codes "SETLOC", (Operator.Setloc, Role.Setloc))
    ∷ (codes "BANK", (Operator.Bank All, Role.Bank))
    ∷ (codes "BLOCK", (Operator.Bank TwoOrThree, Role.Block))
    ∷ (codes "ERASE", (Operator.Erase, Role.Erase))
    ∷ (codes "EQUALS", (Operator.Equals, Role.Equals))
    ∷ (codes "=", (Operator.Equals, Role.Equals))
    ∷ (codes "EBANK=", (Operator.Ebank, Role.Ebank))
    ∷ (codes "OCT", (Operator.Octal, Role.Octal))
    ∷ (codes "DEC", (Operator.Decimal, Role.Decimal))
    ∷ (codes "ADRES", (addressed 0 Twelve No Address, Role.Address))
    ∷ (codes "ECADR", (addressed 0 Twelve No ErasablePlace, Role.ErasableAddress))
    ∷ (codes "CADR", (addressed 0 Twelve No FixedPlace, Role.FixedAddress))
    ∷ (codes "FCADR", (addressed 0 Twelve No FixedPlace, Role.FixedAddress))
    ∷ (codes "2CADR", (Operator.FarAddress, Role.FarAddress))
    ∷ (codes "TC", (addressed 0o0 Twelve No Address, Role.Call))
    ∷ (codes "TCR", (addressed 0o0 Twelve No Address, Role.Call))
    ∷ (codes "CCS", (addressed 0o10000 Ten No Address, Role.Count))
    ∷ (codes "TCF", (addressed 0o10000 Twelve No FixedAddress, Role.Jump))
    ∷ (codes "DAS", (addressed 0o20000 Ten No Pair, Role.ModifyPair))
    ∷ (codes "LXCH", (addressed 0o22000 Ten No Address, Role.ExchangeL))
    ∷ (codes "INCR", (addressed 0o24000 Ten No Address, Role.Modify))
    ∷ (codes "ADS", (addressed 0o26000 Ten No Address, Role.Accumulate))
    ∷ (codes "CA", (addressed 0o30000 Twelve No Address, Role.Read))
    ∷ (codes "CAE", (addressed 0o30000 Ten No Address, Role.ReadErasable))
    ∷ (codes "CAF", (addressed 0o30000 Twelve No FixedAddress, Role.ReadFixed))
    ∷ (codes "CS", (addressed 0o40000 Twelve No Address, Role.Read))
    ∷ (codes "INDEX", (addressed 0o50000 Ten Either Address, Role.Index))
    ∷ (codes "NDX", (addressed 0o50000 Ten Either Address, Role.Index))
    ∷ (codes "DXCH", (addressed 0o52000 Ten No Pair, Role.StorePair))
    ∷ (codes "TS", (addressed 0o54000 Ten No Address, Role.Transfer))
    ∷ (codes "XCH", (addressed 0o56000 Ten No Address, Role.ExchangeA))
    ∷ (codes "AD", (addressed 0o60000 Twelve No Address, Role.Read))
    ∷ (codes "MASK", (addressed 0o70000 Twelve No Address, Role.Read))
    ∷ (codes "MSK", (addressed 0o70000 Twelve No Address, Role.Read))
    ∷ (codes "READ", (addressed 0o0 Nine Yes Channel, Role.ReadChannel))
    ∷ (codes "WRITE", (addressed 0o1000 Nine Yes Channel, Role.WriteChannel))
    ∷ (codes "RAND", (addressed 0o2000 Nine Yes Channel, Role.ReadChannel))
    ∷ (codes "WAND", (addressed 0o3000 Nine Yes Channel, Role.CombineChannel))
    ∷ (codes "ROR", (addressed 0o4000 Nine Yes Channel, Role.ReadChannel))
    ∷ (codes "WOR", (addressed 0o5000 Nine Yes Channel, Role.CombineChannel))
    ∷ (codes "RXOR", (addressed 0o6000 Nine Yes Channel, Role.ReadChannel))
    ∷ (codes "DV", (addressed 0o10000 Ten Yes Address, Role.Divide))
    ∷ (codes "BZF", (addressed 0o10000 Twelve Yes FixedAddress, Role.Branch))
    ∷ (codes "MSU", (addressed 0o20000 Ten Yes Address, Role.ReadCounter))
    ∷ (codes "QXCH", (addressed 0o22000 Ten Yes Address, Role.ExchangeQ))
    ∷ (codes "AUG", (addressed 0o24000 Ten Yes Address, Role.Modify))
    ∷ (codes "DIM", (addressed 0o26000 Ten Yes Address, Role.Modify))
    ∷ (codes "DCA", (addressed 0o30000 Twelve Yes Pair, Role.ReadPair))
    ∷ (codes "DCS", (addressed 0o40000 Twelve Yes Pair, Role.ReadPair))
    ∷ (codes "SU", (addressed 0o60000 Ten Yes Address, Role.Subtract))
    ∷ (codes "BZMF", (addressed 0o60000 Twelve Yes FixedAddress, Role.Branch))
    ∷ (codes "MP", (addressed 0o70000 Twelve Yes Address, Role.Multiply))
    ∷ (codes "RELINT", (plain 0o3 No, Role.Release))
    ∷ (codes "INHINT", (plain 0o4 No, Role.Implied))
    ∷ (codes "EXTEND", (Operator.Plain (record { code = 0o6; extracode = No; extends = true }), Role.Implied))
    ∷ (codes "RESUME", (plain 0o50017 No, Role.Resume))
    ∷ (codes "XXALQ", (plain 0o0 No, Role.Leave))
    ∷ (codes "XLQ", (plain 0o1 No, Role.Leave))
    ∷ (codes "RETURN", (plain 0o2 No, Role.Return))
    ∷ (codes "DDOUBL", (plain 0o20001 No, Role.ChangeBoth))
    ∷ (codes "ZL", (plain 0o22007 No, Role.ChangeL))
    ∷ (codes "COM", (plain 0o40000 No, Role.ChangeA))
    ∷ (codes "DTCF", (plain 0o52005 No, Role.LeaveBank))
    ∷ (codes "DTCB", (plain 0o52006 No, Role.LeaveBank))
    ∷ (codes "OVSK", (plain 0o54000 No, Role.Skip))
    ∷ (codes "TCAA", (plain 0o54005 No, Role.Leave))
    ∷ (codes "DOUBLE", (plain 0o60000 No, Role.ChangeA))
    ∷ (codes "ZQ", (plain 0o22007 Yes, Role.Implied))
    ∷ (codes "DCOM", (plain 0o40001 Yes, Role.ChangeBoth))
    ∷ (codes "SQUARE", (plain 0o70000 Yes, Role.ChangeBoth))
    ∷ (codes "NOOP", (Operator.ToNext (code 0o10000 Twelve No FixedAddress), Role.Idle))
    ∷ []

-- what each says, by its name
unfoldable pub operators : List (List ℕ × Operator)
operators = map (λ row. (row.0, row.1.0)) operator_rows

-- the operators whose words are addresses, and no instructions
abbrev pub address_operators : List (List ℕ)
address_operators = codes "ADRES" ∷ codes "ECADR" ∷ codes "CADR" ∷ codes "FCADR" ∷ []

-- the other names of instructions, each with the name or with the whole text by which its words are shown
abbrev pub spellings : List (List ℕ × List ℕ)
spellings =
    (codes "TCR", codes "TC")
    ∷ (codes "CAE", codes "CA")
    ∷ (codes "CAF", codes "CA")
    ∷ (codes "NDX", codes "INDEX")
    ∷ (codes "MSK", codes "MASK")
    ∷ (codes "NOOP", codes "TCF")
    ∷ (codes "XXALQ", codes "TC 0000")
    ∷ (codes "XLQ", codes "TC 0001")
    ∷ (codes "RETURN", codes "TC 0002")
    ∷ (codes "DDOUBL", codes "DAS 0000")
    ∷ (codes "ZL", codes "LXCH 0007")
    ∷ (codes "COM", codes "CS 0000")
    ∷ (codes "DTCF", codes "DXCH 0004")
    ∷ (codes "DTCB", codes "DXCH 0005")
    ∷ (codes "OVSK", codes "TS 0000")
    ∷ (codes "TCAA", codes "TS 0005")
    ∷ (codes "DOUBLE", codes "AD 0000")
    ∷ (codes "ZQ", codes "QXCH 0007")
    ∷ (codes "DCOM", codes "DCS 0000")
    ∷ (codes "SQUARE", codes "MP 0000")
    ∷ []

-- a bank that BANK or BLOCK takes
abbrev pub is_bank : BankRange → ℕ → Bool
is_bank All n = nat_lt n banks
is_bank TwoOrThree n = n == 2 || n == 3

-- how many numbers some bits tell apart
abbrev pub field_size : Bits → ℕ
field_size Nine = 0o1000
field_size Ten = 0o2000
field_size Twelve = 0o10000

-- the bits of a field where extracode is in force or is not; a code of both tables has 12 under extracode
abbrev pub bits_under : Extracode → Bits → Bool → Bits
bits_under Either bits extracode = if extracode then Twelve else bits
bits_under _ bits extracode = bits

-- a code of both tables keeps extracode in force
abbrev pub stays_extended : Extracode → Bool
stays_extended Either = true
stays_extended _ = false
