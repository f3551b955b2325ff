-- Where an address leads, and the address of a place.
use Rattle.std.specs.Prelude.{ℕ, ◌+◌, ◌-◌, ◌*◌, ◌/◌, ◌%◌, Bool, false, ◌==◌, nat_lt, nat_le, if◌then◌else◌, ◌&&◌}
use Rattle.space.specs.declared.place.Linear.{Linear}
use Rattle.space.specs.declared.place.Linear.TheVariants.{Erasable, Fixed}

-- the bank that FB selects: from 030 on the superbank bit adds 010
abbrev pub selected_bank : ℕ → Bool → ℕ
selected_bank fb sup = if sup && nat_le 0o30 fb then fb + 0o10 else fb

-- the place to which an address leads under EB, FB and the superbank bit
unfoldable pub place : ℕ → ℕ → ℕ → Bool → Linear
place address eb fb sup =
    if nat_lt address 0o1400 then Erasable address
    else (if nat_lt address 0o2000 then Erasable (eb * 0o400 + (address - 0o1400))
    else (if nat_lt address 0o4000 then Fixed (selected_bank fb sup) (address - 0o2000)
    else (if nat_lt address 0o6000 then Fixed 2 (address - 0o4000)
    else Fixed 3 (address - 0o6000))))

-- the address at which a program reaches a place, once the bank registers are set for it
unfoldable pub window : Linear → ℕ
window (Erasable p) = if nat_lt p 0o1400 then p else 0o1400 + p % 0o400
window (Fixed bank offset) =
    if bank == 2 then 0o4000 + offset
    else (if bank == 3 then 0o6000 + offset
    else 0o2000 + offset)

-- the EB that is set for a place
unfoldable pub eb_of : Linear → ℕ
eb_of (Erasable p) = p / 0o400
eb_of (Fixed bank offset) = 0

-- the FB that is set for a place: banks from 040 on are reached by the superbank bit
unfoldable pub fb_of : Linear → ℕ
fb_of (Erasable p) = 0
fb_of (Fixed bank offset) = if nat_lt bank 0o40 then bank else bank - 0o10

-- the superbank bit that is set for a place
unfoldable pub sup_of : Linear → Bool
sup_of (Erasable p) = false
sup_of (Fixed bank offset) = nat_le 0o40 bank

-- two places are one
abbrev pub same_place : Linear → Linear → Bool
same_place (Erasable p) (Erasable q) = p == q
same_place (Erasable p) (Fixed bank offset) = false
same_place (Fixed bank offset) (Erasable q) = false
same_place (Fixed bank offset) (Fixed b o) = bank == b && offset == o

-- a place in erasable memory
abbrev pub IsErasable : Linear → Type 0
IsErasable (Erasable p) = Unit {0}
IsErasable (Fixed bank offset) = ⊥
