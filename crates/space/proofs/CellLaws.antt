-- What is held and read after something was stored.
use Rattle.std.proofs.Common.{◌≡◌, ℕ, ◌<◌, ◌≢◌, true, false, cond, ◌||◌, ◌==◌, Some, unwrap_or, ap, ◌∙◌, arith}
use Rattle.std.proofs.lemmas.Bool.Decides.{nat_tests}
use Rattle.std.specs.Ordering.{nat_cmp, eq_by_cmp}
use Rattle.std.specs.Cmp.{nat_cmp_total}
use Rattle.std.specs.FinMap.{get-insert}
use Rattle.std.specs.FinMap as map
use Rattle.words.specs.Numbers.{extend, correct}
use Rattle.words.specs.BitSums.{and_sum}
use Rattle.space.specs.Cells.{Cells, at, get, put, kept, get_channel, put_channel, channel_cell, both_banks, always_zero, accumulator}
use Rattle.space.specs.Cells.{return_address, word_at, lower_accumulator, lower_accumulator_channel, return_address_channel}
use Rattle.space.specs.Cells.{superbank_channel, superbank_mask, edit_opcode}

-- a cell that was set, and the others
at-insert : (s : Cells) (c x : ℕ) → at (map.insert s c x) c ≡ x
at-insert s c x =
    let same : eq_by_cmp nat_cmp c c ≡ true = grind (arith, nat_tests) in
    ap (λ o. unwrap_or o 0) (get-insert nat_cmp_total s c x c ∙ ap (λ b. cond b (Some x) (map.get s c)) same)

at-insert_other : (s : Cells) (c x q : ℕ) → q ≢ c → at (map.insert s c x) q ≡ at s q
at-insert_other s c x q ne =
    let differ : eq_by_cmp nat_cmp q c ≡ false = grind (arith, nat_tests) in
    ap (λ o. unwrap_or o 0) (get-insert nat_cmp_total s c x q ∙ ap (λ b. cond b (Some x) (map.get s q)) differ)

-- storing at a place changes its cell
pub at-put : (s : Cells) (p x : ℕ) → p ≢ both_banks → p ≢ always_zero → at (put s p x) p ≡ kept p x
unfolding put
at-put s p x n6 n7 = let held = at-insert s p (kept p x) in grind (arith, nat_tests, held)

-- and no other
pub at-put_other : (s : Cells) (p x q : ℕ) → p ≢ both_banks → q ≢ p → at (put s p x) q ≡ at s q
unfolding put
at-put_other s p x q n6 ne = let held = at-insert_other s p (kept p x) q ne in grind (arith, nat_tests, held)

-- what was stored in A or Q reads back
pub get-put_accumulator : (s : Cells) (x : ℕ) → get (put s accumulator x) accumulator ≡ x
unfolding get put kept
get-put_accumulator s x = at-insert s accumulator x

pub get-put_return_address : (s : Cells) (x : ℕ) → get (put s return_address x) return_address ≡ x
unfolding get put kept
get-put_return_address s x = at-insert s return_address x

kept-word : (p x : ℕ) → edit_opcode < p → kept p x ≡ correct x
unfolding kept
kept-word p x lt = grind (arith, nat_tests)

get-word : (s : Cells) (p : ℕ) → always_zero < p → get s p ≡ extend (at s p)
unfolding get
get-word s p lt =
    let word : word_at s p ≡ at s p = grind (arith, nat_tests) in
    let wide : (p == accumulator || p == return_address) ≡ false = grind (arith, nat_tests) in
    ap (λ b. cond b (at s p) (extend (word_at s p))) wide ∙ ap (λ w. extend w) word

-- where nothing is edited, the corrected word does
pub get-put_word : (s : Cells) (p x : ℕ) → edit_opcode < p → get (put s p x) p ≡ extend (correct x)
get-put_word s p x lt =
    let held : at (put s p x) p ≡ correct x = at-put s p x (λ e. omega arith) (λ e. omega arith) ∙ kept-word p x lt in
    get-word (put s p x) p (omega arith) ∙ ap (λ w. extend w) held

same_word : (s t : Cells) (q : ℕ) → q ≢ both_banks → at s q ≡ at t q → word_at s q ≡ word_at t q
same_word s t q m6 h = grind (arith, nat_tests)

pub same_get : (s t : Cells) (q : ℕ) → q ≢ both_banks → at s q ≡ at t q → get s q ≡ get t q
unfolding get
same_get s t q m6 h =
    let wide = q == accumulator || q == return_address in
    ap (λ w. cond wide w (extend (word_at s q))) h ∙ ap (λ w. cond wide (at t q) (extend w)) (same_word s t q m6 h)

-- every other place reads as before
pub get-put_other : (s : Cells) (p x q : ℕ) → p ≢ both_banks → q ≢ both_banks → q ≢ p → get (put s p x) q ≡ get s q
get-put_other s p x q n6 m6 ne = same_get (put s p x) s q m6 (at-put_other s p x q n6 ne)

-- storing on a channel changes no other cell
pub at-put_channel_other : (s : Cells) (n x q : ℕ) → n ≢ lower_accumulator_channel → n ≢ return_address_channel → q ≢ channel_cell n
    → at (put_channel s n x) q ≡ at s q
unfolding put_channel
at-put_channel_other s n x q n1 n2 ne =
    let masked = at-insert_other s (channel_cell n) (and_sum 15 (correct x) superbank_mask) q ne in
    let plain = at-insert_other s (channel_cell n) (correct x) q ne in
    grind (arith, nat_tests, masked, plain)

put_channel-word : (s : Cells) (n x : ℕ) → n ≢ lower_accumulator_channel → n ≢ return_address_channel → n ≢ superbank_channel
    → put_channel s n x ≡ map.insert s (channel_cell n) (correct x)
unfolding put_channel
put_channel-word s n x n1 n2 n7 = grind (arith, nat_tests)

pub get_channel-word : (s : Cells) (n : ℕ) → n ≢ lower_accumulator_channel → n ≢ return_address_channel
    → get_channel s n ≡ extend (at s (channel_cell n))
unfolding get_channel
get_channel-word s n n1 n2 =
    let lower : (n == lower_accumulator_channel) ≡ false = grind (arith, nat_tests) in
    let return' : (n == return_address_channel) ≡ false = grind (arith, nat_tests) in
    let word = extend (at s (channel_cell n)) in
    ap (λ b. cond b (get s lower_accumulator) (cond (n == return_address_channel) (get s return_address) word)) lower
    ∙ ap (λ b. cond b (get s return_address) word) return'

-- and what was stored there reads back, corrected
pub get-put_channel : (s : Cells) (n x : ℕ) → n ≢ lower_accumulator_channel → n ≢ return_address_channel → n ≢ superbank_channel
    → get_channel (put_channel s n x) n ≡ extend (correct x)
get-put_channel s n x n1 n2 n7 =
    let held : at (put_channel s n x) (channel_cell n)
    ≡ correct x = ap (λ t. at t (channel_cell n)) (put_channel-word s n x n1 n2 n7) ∙ at-insert s (channel_cell n) (correct x) in
    get_channel-word (put_channel s n x) n n1 n2 ∙ ap (λ w. extend w) held

-- of the superbank channel its three bits
pub get-put_superbank : (s : Cells) (x : ℕ) → get_channel (put_channel s superbank_channel x) superbank_channel
    ≡ extend (and_sum 15 (correct x) superbank_mask)
unfolding get_channel put_channel
get-put_superbank s x = ap (λ w. extend w) (at-insert s (channel_cell superbank_channel) (and_sum 15 (correct x) superbank_mask))
