-- What names in an image are worth.
use Rattle.std.specs.Prelude.{◌≡◌, ℕ, Bool, Some}
use Rattle.space.specs.Places.{place}
use Rattle.space.specs.declared.place.Linear.{Linear}
use Rattle.space.specs.declared.place.Linear.TheVariants.{Fixed}
use Rattle.names.specs.NamedLines.{place_told}

-- where a program counter leads to a word of a bank, an address whose place is told there leads to that place, whatever the bank
-- registers hold besides
abbrev pub LeadsThere : ℕ → ℕ → Linear → Type 0
LeadsThere bank address there =
    (counter offset eb fb : ℕ) (sup : Bool) → place counter eb fb sup ≡ Fixed bank offset → place_told bank address ≡ Some there
    → place address eb fb sup ≡ there
