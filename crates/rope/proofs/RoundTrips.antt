-- What was written is read, and what was read is written.
use Rattle.std.proofs.Common.{◌≡◌, ℕ, ◌+◌, ◌-◌, ◌*◌, ◌<◌, true, List, ◌++◌, get_or, Ok, Err, refl, sym, ◌∙◌, ap, arith}
use Rattle.rope.specs.Places.{fixed_places, Words}
use Rattle.rope.specs.declared.spelling.Version.{Version}
use Rattle.rope.specs.declared.fault.RopeFault.TheVariants.{NoMemory, Short, Long, LowBit, BadParity, ReadFailed}
use Rattle.rope.specs.Image.{spelled, word_of_position, image_part, image}
use Rattle.rope.specs.Reading.{spells_word, HasWrongBytes}
use Rattle.rope.specs.Laws.{WrittenIsRead, ReadIsWritten}
use Rattle.rope.proofs.ImageLaws.{image_part-none, image_part-more, image_part-append, image_front-part}
use Rattle.rope.proofs.ReadSteps.{length-image_front, spells_after}
use Rattle.rope.proofs.SameImages.{same_words}
use Rattle.rope.proofs.Spellings.{spelled_spells}

-- a part of an image begins with its first word
part_begins : (version : Version) (words : Words) (first n : ℕ) → 0 < n
    → image_part version words first n ≡ spelled version (word_of_position words first) ++ image_part version words (first + 1) (n - 1)
part_begins version words first n some =
    let same : first + 0 ≡ first = omega arith in
    let one : image_part version words first (0 + 1)
    ≡ spelled version (word_of_position words first) = rw
    (image_part-more version words first 0, image_part-none version words first, same) refl in
    image_part-append version words (0 + 1) (n - 1) first n (omega arith)
    ∙ ap (λ bytes. bytes ++ image_part version words (first + 1) (n - 1)) one

-- every two bytes of an image spell a word
spells_at : (version : Version) (words : Words) (p : ℕ) → p < fixed_places
    → spells_word version (get_or (image version words) (2 * p) 0) (get_or (image version words) (2 * p + 1) 0) ≡ true
spells_at version words p within =
    let rest : List ℕ = image_part version words p (fixed_places - p) in
    spells_after version (image version words) rest words p (image_front-part version words p (fixed_places - p) fixed_places (omega arith))
    ∙ rw (part_begins version words p (fixed_places - p) (omega arith)) (spelled_spells version (word_of_position words p))

-- so none are told as wrong
not_wrong : (version : Version) (words : Words) (left : List ℕ) (at : ℕ) → HasWrongBytes version (image version words) left at → ⊥
not_wrong version words left at told =
    let position : told.position < fixed_places = omega (arith, told.low, told.within) in
    let spelled = spells_at version words told.position position in
    let wrong = rw told.low at told.wrong in
    cc

pub written_is_read : (version : Version) (words : Words) → WrittenIsRead version words
written_is_read version words left (Ok read) told = same_words version words read told.whole
written_is_read version words left (Err NoMemory) told = tt
written_is_read version words left (Err Short) told = omega (arith, told.short, length-image_front version words fixed_places)
written_is_read version words left (Err Long) told = omega (arith, told.long, length-image_front version words fixed_places)
written_is_read version words left (Err (LowBit at)) told = not_wrong _ words left at (rw told.0 at told.1)
written_is_read version words left (Err (BadParity at)) told = not_wrong _ words left at (rw told.0 at told.1)
written_is_read version words left (Err ReadFailed) told = tt

pub read_is_written : (version : Version) (words : Words) → ReadIsWritten version words
read_is_written version words old left told = sym told.whole
