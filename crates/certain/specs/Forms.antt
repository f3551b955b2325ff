-- The forms of flight sources of which it is not certain what yaYUL makes of them.
use Rattle.std.specs.Prelude.{ℕ, ◌==◌, List, codes, if◌then◌else◌}
use Rattle.certain.specs.declared.form.UncertainForm.{UncertainForm}
use Rattle.certain.specs.declared.form.UncertainForm.TheVariants.{SuperbankBits, HeldBank, GeneralAddress, Downlist, Complement, OctalWords}
use Rattle.certain.specs.declared.form.UncertainForm.TheVariants.{SignedOctal, ScaledDecimal, PlaceNumber, VerbNoun, SignedName}

-- how many there are
abbrev pub forms : ℕ
forms = 11

-- the number of each, from the least certain one on
abbrev pub form_number : UncertainForm → ℕ
form_number SuperbankBits = 0
form_number HeldBank = 1
form_number GeneralAddress = 2
form_number Downlist = 3
form_number Complement = 4
form_number OctalWords = 5
form_number SignedOctal = 6
form_number ScaledDecimal = 7
form_number PlaceNumber = 8
form_number VerbNoun = 9
form_number SignedName = 10

-- the form of a number
abbrev pub form_numbered : ℕ → UncertainForm
form_numbered n =
    if n == 0 then SuperbankBits
    else if n == 1 then HeldBank
    else if n == 2 then GeneralAddress
    else if n == 3 then Downlist
    else if n == 4 then Complement
    else if n == 5 then OctalWords
    else if n == 6 then SignedOctal
    else if n == 7 then ScaledDecimal
    else if n == 8 then PlaceNumber
    else if n == 9 then VerbNoun
    else SignedName

-- what each is called
abbrev pub form_name : UncertainForm → List ℕ
form_name SuperbankBits = codes "2CADR"
form_name HeldBank = codes "EBANK="
form_name GeneralAddress = codes "GENADR"
form_name Downlist = codes "1DNADR"
form_name Complement = codes "-CADR"
form_name OctalWords = codes "OCTAL"
form_name SignedOctal = codes "OCT"
form_name ScaledDecimal = codes "2DEC"
form_name PlaceNumber = codes "10000"
form_name VerbNoun = codes "VN"
form_name SignedName = codes "-NAME"
