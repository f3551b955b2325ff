-- What is read after something was stored, by place and by channel.
use Rattle.std.proofs.Common.{◌≡◌, ℕ, ◌+◌, ◌*◌, ◌/◌, ◌%◌, ◌<◌, ◌≤◌, ◌≢◌, Bool, true, false, cond, if◌then◌else◌, ◌||◌, ◌==◌, Some, Option}
use Rattle.std.proofs.Common.{unwrap_or, refl, sym, ap, ◌∙◌, arith, ⊎_elim}
use Rattle.std.proofs.lemmas.Bool.Decides.{nat_tests}
use Rattle.std.proofs.lemmas.Bool.{cases_eq}
use Rattle.std.specs.Ordering.{nat_cmp, eq_by_cmp}
use Rattle.std.specs.Cmp.{nat_cmp_total}
use Rattle.std.specs.FinMap.{get-insert}
use Rattle.std.specs.FinMap as map
use Rattle.words.specs.Numbers.{extend, correct}
use Rattle.space.specs.Cells.{Cells, erasable_count, at, word_at, get, put, kept, get_channel, put_channel, channel_cell, accumulator}
use Rattle.space.specs.Cells.{lower_accumulator, return_address, erasable_bank, fixed_bank, both_banks, always_zero}
use Rattle.space.specs.Cells.{lower_accumulator_channel, return_address_channel, superbank_channel}
use Rattle.space.specs.Laws.{ReadsBack, wide_back, LeavesPlace, ReadsBothBanks, StoresBothBanks, ReadsBackOn, channel_back, LeavesChannel}
use Rattle.space.specs.Laws.{AreApart, is_register}
use Rattle.space.proofs.CellLaws.{at-put, at-put_other, get-put_channel, get-put_superbank, get-put_return_address, get-put_other}
use Rattle.space.proofs.CellLaws.{at-put_channel_other}

-- what is held where one cell was set
held : (o : Bool) (x y : ℕ) (v : Option ℕ) → unwrap_or v 0 ≡ y → unwrap_or (cond o (Some x) v) 0 ≡ cond o x y
held true x y v e = refl
held false x y v e = e

at-set : (s : Cells) (c x q : ℕ) → at (map.insert s c x) q ≡ cond (q == c) x (at s q)
at-set s c x q =
    let same : eq_by_cmp nat_cmp q c ≡ (q == c) = grind (arith, nat_tests) in
    ap (λ o. unwrap_or o 0) (get-insert nat_cmp_total s c x q) ∙ held (eq_by_cmp nat_cmp q c) x (at s q) (map.get s q) refl
    ∙ ap (λ b. cond b x (at s q)) same

banks_back : (s : Cells) (x : ℕ) → get (put s both_banks x) both_banks ≡ wide_back both_banks x
unfolding get put
banks_back s x =
    let w : ℕ = correct x in
    let t : Cells = map.insert s fixed_bank (w / 0o2000) in
    let fixed : at (map.insert t erasable_bank (w % 0o10)) fixed_bank
    ≡ w / 0o2000 = at-set t erasable_bank (w % 0o10) fixed_bank ∙ at-set s fixed_bank (w / 0o2000) fixed_bank in
    let erasable : at (map.insert t erasable_bank (w % 0o10)) erasable_bank ≡ w % 0o10 = at-set t erasable_bank (w % 0o10) erasable_bank in
    ap (λ n. extend (n * 0o2000 + at (map.insert t erasable_bank (w % 0o10)) erasable_bank)) fixed
    ∙ ap (λ n. extend (w / 0o2000 * 0o2000 + n)) erasable

zero_back : (s : Cells) (x : ℕ) → get (put s always_zero x) always_zero ≡ wide_back always_zero x
unfolding get put
zero_back s x = refl

kept_back : (s : Cells) (p x : ℕ) → p ≢ both_banks → p ≢ always_zero → get (put s p x) p ≡ wide_back p x
unfolding get kept
kept_back s p x n6 n7 = let here = at-put s p x n6 n7 in grind (arith, nat_tests, here)

pub reads_back : (s : Cells) (p x : ℕ) → ReadsBack s p x
reads_back s p x =
    ⊎_elim
    (λ e. rw e (banks_back s x))
    (λ n6. ⊎_elim (λ e. rw e (zero_back s x)) (λ n7. kept_back s p x n6 n7) (cases_eq p always_zero))
    (cases_eq p both_banks)

-- a word in place of what two banks keep
bank_kept : (w : ℕ) → kept erasable_bank (w % 0o10 * 0o400) ≡ w % 0o10
unfolding kept
bank_kept w = grind (arith, nat_tests)

pub stores_both_banks : (s : Cells) (x : ℕ) → StoresBothBanks s x
unfolding put kept
stores_both_banks s x = ap (λ b. map.insert (map.insert s fixed_bank (kept fixed_bank x)) erasable_bank b) (sym (bank_kept (correct x)))

pub reads_both_banks : (s : Cells) → ReadsBothBanks s
unfolding get
reads_both_banks s =
    let bank : at s erasable_bank * 0o400 / 0o400 ≡ at s erasable_bank = omega arith in
    ap (λ b. extend (at s fixed_bank * 0o2000 + b)) (sym bank)

-- the cells by which a place is read
same_word : (s t : Cells) (q : ℕ) → at t q ≡ at s q → at t erasable_bank ≡ at s erasable_bank → at t fixed_bank ≡ at s fixed_bank
    → word_at t q ≡ word_at s q
same_word s t q here eb fb = grind (arith, nat_tests, here, eb, fb)

same_get : (s t : Cells) (q : ℕ) → at t q ≡ at s q → at t erasable_bank ≡ at s erasable_bank → at t fixed_bank ≡ at s fixed_bank
    → get t q ≡ get s q
unfolding get
same_get s t q here eb fb =
    let wide = q == accumulator || q == return_address in
    ap (λ w. cond wide w (extend (word_at t q))) here ∙ ap (λ w. cond wide (at s q) (extend w)) (same_word s t q here eb fb)

same_both : (s t : Cells) → at t erasable_bank ≡ at s erasable_bank → at t fixed_bank ≡ at s fixed_bank
    → get t both_banks ≡ get s both_banks
unfolding get
same_both s t eb fb = ap (λ b. extend (at t fixed_bank * 0o2000 + b)) eb ∙ ap (λ b. extend (b * 0o2000 + at s erasable_bank)) fb

-- storing in BB leaves the cells that are none of its banks
at-put_banks : (s : Cells) (x q : ℕ) → q ≢ fixed_bank → q ≢ erasable_bank → at (put s both_banks x) q ≡ at s q
at-put_banks s x q n4 n3 =
    ap (λ t. at t q) (stores_both_banks s x)
    ∙ at-put_other (put s fixed_bank x) erasable_bank (correct x % 0o10 * 0o400) q (λ h. omega (arith, h)) n3
    ∙ at-put_other s fixed_bank x q (λ h. omega (arith, h)) n4

get-put_banks : (s : Cells) (x q : ℕ) → q ≢ both_banks → q ≢ fixed_bank → q ≢ erasable_bank → get (put s both_banks x) q ≡ get s q
get-put_banks s x q n6 n4 n3 =
    ap (λ t. get t q) (stores_both_banks s x)
    ∙ get-put_other (put s fixed_bank x) erasable_bank (correct x % 0o10 * 0o400) q (λ h. omega (arith, h)) n6 n3
    ∙ get-put_other s fixed_bank x q (λ h. omega (arith, h)) n6 n4

-- a cell that is neither the place nor one of the banks is left
at-put_any : (s : Cells) (p x q : ℕ) → q ≢ p → q ≢ fixed_bank → q ≢ erasable_bank → at (put s p x) q ≡ at s q
at-put_any s p x q ne n4 n3 =
    ⊎_elim (λ e. rw e (at-put_banks s x q n4 n3)) (λ n6. at-put_other s p x q n6 ne) (cases_eq p both_banks)

banks_left : (s : Cells) (p x : ℕ) → p ≢ both_banks → p ≢ fixed_bank → p ≢ erasable_bank → get (put s p x) both_banks ≡ get s both_banks
banks_left s p x n6 n4 n3 =
    same_both s (put s p x) (at-put_other s p x erasable_bank n6 (λ h. n3 (sym h))) (at-put_other s p x fixed_bank n6 (λ h. n4 (sym h)))

pub leaves_place : (s : Cells) (p x q : ℕ) → LeavesPlace s p x q
leaves_place s p x q apart =
    let ne : q ≢ p = λ e. grind (arith, nat_tests, apart, e) in
    ⊎_elim
    (λ e. rw e (banks_left s p x (λ h. ne (e ∙ sym h)) (λ h. grind (arith, nat_tests, apart, e, h))
    (λ h. grind (arith, nat_tests, apart, e, h))))
    (λ m6.
    ⊎_elim
    (λ e. rw e (get-put_banks s x q m6 (λ h. grind (arith, nat_tests, apart, e, h)) (λ h. grind (arith, nat_tests, apart, e, h))))
    (λ n6. get-put_other s p x q n6 m6 ne)
    (cases_eq p both_banks))
    (cases_eq q both_banks)

-- the cell by which a channel is read
cell_of : ℕ → ℕ
cell_of n =
    if n == lower_accumulator_channel then lower_accumulator
    else (if n == return_address_channel then return_address
    else channel_cell n)

same_channel : (s t : Cells) (n : ℕ) → at t (cell_of n) ≡ at s (cell_of n) → get_channel t n ≡ get_channel s n
unfolding get_channel get cell_of
same_channel s t n here = grind (arith, nat_tests, here)

-- storing on a channel changes no other cell
at-put_channel_any : (s : Cells) (n x q : ℕ) → q ≢ cell_of n → at (put_channel s n x) q ≡ at s q
unfolding put_channel cell_of
at-put_channel_any s n x q ne =
    ⊎_elim
    (λ e. rw e (at-put_other s lower_accumulator x q (λ h. omega (arith, h)) (rw e at ne)))
    (λ n1.
    ⊎_elim
    (λ e. rw e (at-put_other s return_address x q (λ h. omega (arith, h)) (rw e at ne)))
    (λ n2. at-put_channel_other s n x q n1 n2 (λ h. grind (arith, nat_tests, ne, n1, n2, h)))
    (cases_eq n return_address_channel))
    (cases_eq n lower_accumulator_channel)

word_on : (n x : ℕ) → n ≢ return_address_channel → n ≢ superbank_channel → extend (correct x) ≡ channel_back n x
word_on n x n2 n7 = grind (arith, nat_tests)

return_address_back : (s : Cells) (x : ℕ) → get_channel (put_channel s return_address_channel x) return_address_channel ≡ x
unfolding get_channel put_channel
return_address_back s x = get-put_return_address s x

lower_accumulator_back : (s : Cells) (x : ℕ) → get_channel (put_channel s lower_accumulator_channel x) lower_accumulator_channel
    ≡ extend (correct x)
unfolding get_channel put_channel
lower_accumulator_back s x = reads_back s lower_accumulator x

pub reads_back_on : (s : Cells) (n x : ℕ) → ReadsBackOn s n x
reads_back_on s n x =
    ⊎_elim
    (λ e. rw e (lower_accumulator_back s x))
    (λ n1.
    ⊎_elim
    (λ e. rw e (return_address_back s x))
    (λ n2. ⊎_elim (λ e. rw e (get-put_superbank s x)) (λ n7. get-put_channel s n x n1 n2 n7 ∙ word_on n x n2 n7)
    (cases_eq n superbank_channel))
    (cases_eq n return_address_channel))
    (cases_eq n lower_accumulator_channel)

cells_apart : (n m : ℕ) → (n == m) ≡ false → cell_of m ≢ cell_of n
unfolding cell_of
cells_apart n m apart e = grind (arith, nat_tests, apart, e)

pub leaves_channel : (s : Cells) (n x m : ℕ) → LeavesChannel s n x m
leaves_channel s n x m apart = same_channel s (put_channel s n x) m (at-put_channel_any s n x (cell_of m) (cells_apart n m apart))

cell_is_no_place : (n p : ℕ) → p < erasable_count → is_register n p ≡ false → p ≢ cell_of n
unfolding cell_of
cell_is_no_place n p below apart e = grind (arith, nat_tests, below, apart, e)

cell_is_no_bank : (n p : ℕ) → 3 ≤ p → p < erasable_count → cell_of n ≢ p
unfolding cell_of
cell_is_no_bank n p some below e = grind (arith, nat_tests, some, below, e)

pub are_apart : (s : Cells) (p n x : ℕ) → p < erasable_count → AreApart s p n x
are_apart s p n x below = record {
  place = λ apart.
      same_get s (put_channel s n x) p (at-put_channel_any s n x p (cell_is_no_place n p below apart))
      (at-put_channel_any s n x erasable_bank (λ h. cell_is_no_bank n erasable_bank (omega arith) (omega arith) (sym h)))
      (at-put_channel_any s n x fixed_bank (λ h. cell_is_no_bank n fixed_bank (omega arith) (omega arith) (sym h)));
  channel = λ apart.
      same_channel s (put s p x) n
      (at-put_any s p x (cell_of n) (λ h. cell_is_no_place n p below apart (sym h))
      (cell_is_no_bank n fixed_bank (omega arith) (omega arith)) (cell_is_no_bank n erasable_bank (omega arith) (omega arith)));
}
