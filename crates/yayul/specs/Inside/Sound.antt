-- What is kept from line to line.
use Rattle.std.specs.Prelude.{◌≡◌, ℕ, ◌+◌, ◌≤◌, ◌<◌, Bool, false, ◌&&◌, ◌||◌, nat_lt, List, [], ◌∷◌, ◌++◌, get_or}
use Rattle.std.specs.List.{All, list_any}
use Rattle.rope.specs.Places.{banks, bank_words}
use Rattle.yayul.specs.Layout.{Request, width, stands_at, bank_end}
use Rattle.yayul.specs.declared.language.Location.{Location}
use Rattle.yayul.specs.declared.language.Location.TheVariants.{Erasable, Fixed}

-- the number of a location in erasable memory or in its bank
abbrev pub number_at : Location → ℕ
number_at (Erasable n) = n
number_at (Fixed bank n) = n

-- the number just past the end of erasable memory or of a bank
abbrev pub end_at : Location → ℕ
end_at (Erasable n) = 0o4000
end_at (Fixed bank n) = 0o2000

-- a place, or just past the end of erasable memory or of a bank
abbrev pub IsLocation : Location → Type 0
IsLocation here = number_at here ≤ end_at here

-- a place
abbrev pub IsPlace : Location → Type 0
IsPlace here = number_at here < end_at here

-- the end of the words of each bank, by its number
abbrev pub AreEnds : List ℕ → List Request → Type 0
AreEnds ends requests = (bank : ℕ) → bank < banks → (get_or ends bank 0 ≡ bank_end requests bank) × (bank_end requests bank ≤ bank_words)

-- requests of places that fixed memory has
abbrev pub AreWithin : List Request → Type 0
AreWithin requests = All (λ r. (r.bank < banks) × (r.offset + width r.content ≤ bank_words)) requests

-- requests of lines from a number on
abbrev pub AreFrom : ℕ → List Request → Type 0
AreFrom line [] = Unit {0}
AreFrom line (r ∷ rs) = (line ≤ r.line) × AreFrom line rs

-- each request is of a later line than the one before
abbrev pub AreRising : List Request → Type 0
AreRising [] = Unit {0}
AreRising (r ∷ rs) = AreFrom (r.line + 1) rs × AreRising rs

-- a request asks for a place of one or two that others ask for
abbrev pub meets : List Request → Request → Bool
meets others r =
    list_any (stands_at r.bank r.offset) others || (nat_lt 1 (width r.content) && list_any (stands_at r.bank (r.offset + 1)) others)

-- no request shares a place with one before it
abbrev pub AreApart : List Request → List Request → Type 0
AreApart before [] = Unit {0}
AreApart before (r ∷ rs) = (meets before r ≡ false) × AreApart (before ++ r ∷ []) rs

-- requests of lines below a number
abbrev pub AreBelow : ℕ → List Request → Type 0
AreBelow line [] = Unit {0}
AreBelow line (r ∷ rs) = (r.line + 1 ≤ line) × AreBelow line rs

-- what the requests of lines below a number keep
pub record AreOrdered (line : ℕ) (rs : List Request) : Type 0 where
  pub rising : AreRising rs
  pub apart : AreApart [] rs
  pub below : AreBelow line rs
