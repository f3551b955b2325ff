-- Where fixed memories have the same words, their images are the same.
use Rattle.std.proofs.Common.{◌≡◌, ℕ, zero, suc, ◌+◌, ◌<◌, ◌≤◌, ◌/◌, ◌%◌, refl, sym, ◌∙◌, arith}
use Rattle.rope.specs.declared.spelling.Version.{Version}
use Rattle.rope.specs.Image.{bank_of_entry, word_of_position, image_front}
use Rattle.rope.specs.Laws.{HaveSameWords}
use Rattle.rope.specs.Places.{bank_words, fixed_places, Words}
use Rattle.rope.proofs.ImageLaws.{image_front-none, image_front-more}
use Rattle.rope.proofs.ReadSteps.{bank_of_entry-below}

-- the words at a position
at_position : (a b : Words) → HaveSameWords a b → (p : ℕ) → p < fixed_places → word_of_position a p ≡ word_of_position b p
unfolding word_of_position
at_position a b same p lt = same (bank_of_entry (p / bank_words)) (p % bank_words) (bank_of_entry-below (p / bank_words) (omega arith))
    (omega arith)

-- the bytes of the first positions
pub same_fronts : (version : Version) (a b : Words) → HaveSameWords a b → (n : ℕ) → n ≤ fixed_places
    → image_front version a n ≡ image_front version b n
same_fronts version a b same zero le = image_front-none version a ∙ sym (image_front-none version b)
same_fronts version a b same (suc n) le =
    let next : suc n ≡ n + 1 = omega arith in
    rw (
      next,
      image_front-more version a n,
      image_front-more version b n,
      same_fronts version a b same n (omega arith),
      at_position a b same
          n (omega arith),
    ) refl
