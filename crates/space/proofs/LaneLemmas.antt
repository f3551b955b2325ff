-- The lanes of a chunk in which two erasable memories differ.
use Rattle.std.proofs.Common.{◌≡◌, ℕ, ◌+◌, ◌-◌, ◌/◌, ◌%◌, ◌^◌, ◌≤◌, ◌<◌, Bool, true, false, cond, not, eqb, ◌==◌, ◌||◌, List, map, take}
use Rattle.std.proofs.Common.{drop, length, get_or, refl, sym, ap, ◌∙◌, arith, w16}
use Rattle.std.proofs.lemmas.Bool.Decides.{nat_tests}
use Rattle.std.proofs.lemmas.List.{take-take}
use Rattle.std.proofs.lemmas.Simd.{tops_compared, length-zip2, length-chunk, mask_l-mod, bit_mask_l, get_or-zip2, get_or-chunk}
use lib.Lanes.{zip2, mask_l, chunk, top}
use Rattle.words.specs.Numbers.{extend}
use Rattle.space.specs.Cells.{Cells, cells_by, at, get, word_at, accumulator, return_address}
use Rattle.space.specs.Stored.{stored, held_at, IsStored}
use Rattle.space.proofs.CellLemmas.{reading_view, word_here}

abbrev apart : ℕ → ℕ → Bool
apart a b = not (eqb a b)

-- the mask of the lanes in which a chunk from the offset o on differs
abbrev pub lane_mask : ℕ → List ℕ → List ℕ → ℕ
lane_mask o xs ys =
    mask_l (map (top 15) (zip2 (λ a b. cond (apart a b) 65535 0) (chunk 0 32 (take (2048 - o) (drop o xs)))
    (chunk 0 32 (take (2048 - o) (drop o ys))))) % 2 ^ 64

chunk-part : (o : ℕ) (xs : List ℕ) → o + 32 ≤ 2048 → chunk 0 32 (take (2048 - o) (drop o xs)) ≡ chunk o 32 xs
chunk-part o xs le = take-take 32 (2048 - o) (drop o xs) (omega arith)

other_bit : (t : Bool) → ◌≡◌ {A = ℕ} (cond (not t) 1 0) (cond t 0 1)
other_bit true = refl
other_bit false = refl

bit_of_chunks : (v w : List ℕ) (k : ℕ) → length v ≡ 32 → length w ≡ 32 → k < 32
    → mask_l (map (top 15) (zip2 (λ a b. cond (apart a b) 65535 0) v w)) % 2 ^ 64 / 2 ^ k % 2 ≡ cond (eqb (get_or v k 0) (get_or w k 0)) 0 1
bit_of_chunks v w k lv lw lt =
    let long = length-zip2 apart v w (omega arith) in
    ap (λ n. n / 2 ^ k % 2) (ap (λ ms. mask_l ms % 2 ^ 64) (tops_compared w16 apart v w) ∙ mask_l-mod (zip2 apart v w) 64 (omega arith))
    ∙ bit_mask_l (zip2 apart v w) k
    ∙ ap (λ t. cond t 1 0) (get_or-zip2 apart v w k 0 0 false (omega arith) (omega arith))
    ∙ other_bit (eqb (get_or v k 0) (get_or w k 0))

pub bit_of_lane : (o : ℕ) (xs ys : List ℕ) (k : ℕ) → length xs ≡ 2048 → length ys ≡ 2048 → o + 32 ≤ 2048 → k < 32
    → lane_mask o xs ys / 2 ^ k % 2 ≡ cond (eqb (get_or xs (o + k) 0) (get_or ys (o + k) 0)) 0 1
bit_of_lane o xs ys k lx ly le lt =
    rw (chunk-part o xs le, chunk-part o ys le)
    (bit_of_chunks (chunk o 32 xs) (chunk o 32 ys) k (length-chunk o 32 xs (omega arith)) (length-chunk o 32 ys (omega arith)) lt
    ∙ rw (get_or-chunk o 32 xs k 0 lt, get_or-chunk o 32 ys k 0 lt) refl)

-- what is read at a place that is no register is what erasable memory holds there
get_plain : (s : Cells) (p : ℕ) → 8 ≤ p → get s p ≡ extend (at s p)
unfolding get
get_plain s p ge =
    let word : word_at s p ≡ at s p = grind (arith, nat_tests) in
    let wide : (p == accumulator || p == return_address) ≡ false = grind (arith, nat_tests) in
    ap (λ b. cond b (at s p) (extend (word_at s p))) wide ∙ ap (λ w. extend w) word

pub get-erasable : (r b : List ℕ) (ch : List ℕ) (s : Cells) (p : ℕ) → cells_by (stored (held_at r b) ch) ≡ s
    → IsStored (held_at r b) ch → 8 ≤ p → p < 2048 → get s p ≡ get_or b p 0
get-erasable r b ch s p view is ge lt =
    get_plain s p ge ∙ sym (reading_view (held_at r b) ch s p view is lt ge) ∙ word_here r b p (get_or b p 0) ge refl
