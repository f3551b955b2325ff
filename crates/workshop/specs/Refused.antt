-- Where an image is refused, as text.
use Rattle.std.specs.Prelude.{ℕ, ◌*◌, ◌/◌, ◌%◌, nat_lt, if◌then◌else◌, List, [], ◌++◌, codes, decimal, Option, None, Some}
use Rattle.space.specs.declared.place.Linear.TheVariants.{Fixed}
use Rattle.rope.specs.Image.{bank_of_entry}
use Rattle.rope.specs.Places.{bank_words, fixed_places}
use Rattle.rope.specs.declared.fault.RopeFault.{RopeFault}
use Rattle.rope.specs.declared.fault.RopeFault.TheVariants as rope_fault
use Rattle.yayul.specs.Listing.{place_text}
use Rattle.workshop.specs.declared.fault.WorkshopFault.{WorkshopFault}
use Rattle.workshop.specs.declared.fault.WorkshopFault.TheVariants.{Rope}

-- the position of the word that is refused, where one is: the fault tells the place of its second byte
abbrev pub position_of : RopeFault → Option ℕ
position_of (rope_fault.LowBit at) = Some (at / 2)
position_of (rope_fault.BadParity at) = Some (at / 2)
position_of _ = None

abbrev pub refused_position : WorkshopFault → Option ℕ
refused_position (Rope fault) = position_of fault
refused_position _ = None

-- the line that tells it: the number of the word's first byte, from 0 on, and its place as a listing has it
abbrev pub position_text : ℕ → List ℕ
position_text position =
    codes "agcws: BYTE " ++ decimal (2 * position) ++ codes " "
    ++ place_text (Fixed (bank_of_entry (position / bank_words)) (position % bank_words)) ++ codes "\n"

abbrev pub text_of_position : Option ℕ → List ℕ
text_of_position None = []
text_of_position (Some position) = if nat_lt position fixed_places then position_text position else []

-- what is told of where a fault stands: nothing where it is none of a word of an image
abbrev pub where_text : WorkshopFault → List ℕ
where_text fault = text_of_position (refused_position fault)
