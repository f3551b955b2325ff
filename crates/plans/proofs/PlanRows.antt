-- What is planned for options, worked out by hand.
use Rattle.std.specs.Prelude.{◌≡◌, refl, ℕ, List, true, false, Some, None}
use Rattle.std.specs.Borrow.{Bor}
use Rattle.rope.specs.declared.form.Form.TheVariants.{AsWritten, ParityIgnored, Hardware, HardwareParityIgnored}
use Rattle.rope.specs.declared.spelling.Version.TheVariants as version
use Rattle.yayul.specs.declared.language.Language.TheVariants.{Standard, Flight}
use Rattle.arguments.specs.declared.ImageLayout.{ImageLayout}
use Rattle.arguments.specs.declared.ImageVersion.TheVariants as named
use Rattle.plans.specs.declared.plan.Plan.{Plan}
use Rattle.plans.specs.declared.plan.Plan.TheVariants.{Align, Carry, TooManySteps}
use Rattle.plans.specs.declared.plan.Shown.TheVariants.{Crossed, Holed, Instructions, Named, NamedSource, Source, Octals}
use Rattle.plans.specs.declared.plan.Image.{Image}
use Rattle.plans.specs.Plans.{aligned, bank_of, first_of, form_of, image_of, is_before, language_of, last_of, shown_of, version_of}
use Rattle.plans.specs.Plans.{with_steps}

-- --form hardware, --parity ignore, both and none
plain : form_of false false ≡ AsWritten
plain = refl

parity_ignored : form_of false true ≡ ParityIgnored
parity_ignored = refl

hardware : form_of true false ≡ Hardware
hardware = refl

both : form_of true true ≡ HardwareParityIgnored
both = refl

-- --rope 2 --parity ignore is read in version 1, and --rope 1 without it too
low_bits_are_zeros : version_of true named.Two ≡ version.One
low_bits_are_zeros = refl

version_one : version_of false named.One ≡ version.One
version_one = refl

version_two : version_of false named.Two ≡ version.Two
version_two = refl

-- an image whose lowest bits are passed over, in the other order of the bits
ignored_and_reordered : (path : Bor (List ℕ)) (layout : ImageLayout)
    → image_of (record { path = path; version = named.Two; is_parity_ignored = true; is_hardware = true; layout = layout })
    ≡ record { path = path; form = HardwareParityIgnored; layout = layout; version = version.One }
ignored_and_reordered path layout = refl

flight : language_of true ≡ Flight
flight = refl

standard : language_of false ≡ Standard
standard = refl

-- of 9 steps: without --from and --to, --to 5, --to 50, --from 3
all_from_one : first_of None ≡ 1
all_from_one = refl

all_to_nine : last_of None 9 ≡ 9
all_to_nine = refl

to_five : last_of (Some 5) 9 ≡ 5
to_five = refl

to_fifty : last_of (Some 50) 9 ≡ 9
to_fifty = refl

from_three : first_of (Some 3) ≡ 3
from_three = refl

-- --from 5 --to 3 is refused, --from 5 --to 5 and --from 10 are not
from_five_to_three : is_before (Some 3) 5 ≡ true
from_five_to_three = refl

from_five_to_five : is_before (Some 5) 5 ≡ false
from_five_to_five = refl

from_ten : is_before None 10 ≡ false
from_ten = refl

-- the most steps of a run, and one more
most_steps : (p : Plan) → with_steps 1099511627774 p ≡ p
most_steps p = refl

one_step_more : (p : Plan) → with_steps 1099511627775 p ≡ TooManySteps
one_step_more p = refl

-- bank 43, and a number that no bank has
last_bank : bank_of (Some 0o43) ≡ Some 0o43
last_bank = refl

no_bank : bank_of (Some 0o50) ≡ None
no_bank = refl

-- --symbols, with --xref, with --holes and without, --source, both and neither
as_instructions : shown_of None false false false false ≡ Instructions
as_instructions = refl

as_source : shown_of None true false false false ≡ Source
as_source = refl

as_octals : shown_of None false true false false ≡ Octals
as_octals = refl

with_names : (table : Bor (List ℕ)) → shown_of (Some table) false false false false ≡ Named table
with_names table = refl

source_with_names : (table : Bor (List ℕ)) → shown_of (Some table) true false false false ≡ NamedSource table
source_with_names table = refl

crossed : (table : Bor (List ℕ)) → shown_of (Some table) false false true false ≡ Crossed table
crossed table = refl

with_holes : (source : Bor (List ℕ)) → shown_of (Some source) false false false true ≡ Holed source
with_holes source = refl

-- align with --symbols, and without
names_carried : (table : Bor (List ℕ)) (old new : Image) → aligned (Some table) old new ≡ Carry table old new
names_carried table old new = refl

images_aligned : (old new : Image) → aligned None old new ≡ Align old new
images_aligned old new = refl
