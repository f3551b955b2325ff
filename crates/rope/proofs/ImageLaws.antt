-- Laws of the image of fixed memory.
use Rattle.std.proofs.Common.{◌≡◌, ℕ, zero, suc, ◌+◌, ◌-◌, ◌≤◌, List, [], ◌++◌, refl, sym, ◌∙◌, ap, arith, append_assoc, append-nil}
use Rattle.std.specs.List.{range_with_len, flat_map}
use Rattle.words.specs.Devices.{WritesBeginning}
use Rattle.words.proofs.Texts.{beginning-after, beginning-longer}
use Rattle.rope.specs.Places.{fixed_places, Words}
use Rattle.rope.specs.declared.spelling.Version.{Version}
use Rattle.rope.specs.Image.{spelled, word_of_position, image_part, image_front, image}

-- one number more
flat_range_more : (f : ℕ → List ℕ) (n a k m : ℕ) → k ≡ suc n → m ≡ a + n
    → flat_map f (range_with_len a k) ≡ flat_map f (range_with_len a n) ++ f m
flat_range_more f zero a k m e at = let same : m ≡ a = omega arith in rw (e, same) (append-nil (f a))
flat_range_more f (suc n) a k m e at =
    rw e (ap (λ bytes. f a ++ bytes) (flat_range_more f n (a + 1) (suc n) m refl (omega arith))
    ∙ sym (append_assoc (f a) (flat_map f (range_with_len (a + 1) n)) (f m)))

-- no position has no bytes
pub image_part-none : (version : Version) (words : Words) (first : ℕ) → image_part version words first 0 ≡ []
unfolding image_part
image_part-none version words first = refl

-- one position more
pub image_part-more : (version : Version) (words : Words) (first n : ℕ)
    → image_part version words first (n + 1) ≡ image_part version words first n ++ spelled version (word_of_position words (first + n))
unfolding image_part
image_part-more version words first n = flat_range_more (λ p. spelled version (word_of_position words p)) n first (n + 1) (first + n)
    (omega arith) refl

-- two parts, one after the other
pub image_part-append : (version : Version) (words : Words) (n m first whole : ℕ) → whole ≡ n + m
    → image_part version words first whole ≡ image_part version words first n ++ image_part version words (first + n) m
image_part-append version words n zero first whole e =
    let same : whole ≡ n = omega arith in
    rw (same, image_part-none version words (first + n)) (sym (append-nil (image_part version words first n)))
image_part-append version words n (suc m) first whole e =
    let one_less : whole ≡ (n + m) + 1 = omega arith in
    let next : suc m ≡ m + 1 = omega arith in
    let place : first + (n + m) ≡ (first + n) + m = omega arith in
    rw (
      one_less,
      next,
      image_part-more version words first (n + m),
      image_part-more version words (first + n) m,
      image_part-append version
          words n m first (n + m) refl,
      place,
    )
    (append_assoc (image_part version words first n) (image_part version words (first + n) m)
    (spelled version (word_of_position words ((first + n) + m))))

-- no position at the front has no bytes
pub image_front-none : (version : Version) (words : Words) → image_front version words 0 ≡ []
image_front-none version words = image_part-none version words 0

-- one position more at the front
pub image_front-more : (version : Version) (words : Words) (n : ℕ)
    → image_front version words (n + 1) ≡ image_front version words n ++ spelled version (word_of_position words n)
image_front-more version words n =
    let same : 0 + n ≡ n = omega arith in
    image_part-more version words 0 n ∙ ap (λ p. image_front version words n ++ spelled version (word_of_position words p)) same

-- a front, and the part after it
pub image_front-part : (version : Version) (words : Words) (n m whole : ℕ) → whole ≡ n + m
    → image_front version words whole ≡ image_front version words n ++ image_part version words n m
image_front-part version words n m whole e =
    let same : 0 + n ≡ n = omega arith in
    image_part-append version words n m 0 whole e ∙ ap (λ first. image_front version words n ++ image_part version words first m) same

-- a front, and a beginning of the part after it, are a beginning of the image
pub begins_image : (version : Version) (a b c : List ℕ) (words : Words) (n m : ℕ) → n + m ≤ fixed_places
    → b ≡ a ++ image_front version words n → WritesBeginning b c (image_part version words n m) → WritesBeginning a c (image version words)
begins_image version a b c words n m le front next =
    let more : WritesBeginning a c (image_front version words n ++ image_part version words n m) = beginning-after a b c
    (image_front version words n) (image_part version words n m) front next in
    let rest : List ℕ = image_part version words (n + m) (fixed_places - (n + m)) in
    let longer : WritesBeginning a c ((image_front version words n ++ image_part version words n m) ++ rest) = beginning-longer a c _ rest
    more in
    rw (image_front-part version words (n + m) (fixed_places - (n + m)) fixed_places (omega arith))
    (rw (image_front-part version words n m (n + m) refl) longer)
