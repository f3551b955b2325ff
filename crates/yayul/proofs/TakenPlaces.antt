-- Where words stand, once requests have put theirs.
use Rattle.std.proofs.Common.{◌≡◌, ℕ, zero, suc, ◌+◌, ◌<◌, ◌≤◌, Bool, true, false, ◌&&◌, ◌||◌, ◌==◌, nat_lt, nat_le, List, [], ◌∷◌, ◌++◌}
use Rattle.std.proofs.Common.{length, replicate, Option, Some, is_some, cond, refl, ap, sym, ◌∙◌, arith}
use Rattle.std.specs.List.{list_any, flat_map}
use Rattle.std.proofs.lemmas.List.{flat_map_more}
use Rattle.std.proofs.lemmas.Bool.{lt-ltb}
use Rattle.std.proofs.lemmas.Bool.Decides.{nat_tests}
use Rattle.std.proofs.lemmas.List.Elements.{All-head, All-tail}
use Rattle.rope.specs.Places.{Words, banks, bank_words, Placed, with_word, with_words, slot_at, stands}
use Rattle.rope.proofs.PlaceLaws.{slot_at-with_word, with_words-append}
use Rattle.yayul.specs.Layout.{Request, width, stands_at}
use Rattle.yayul.specs.Program.{placed_from}
use Rattle.yayul.specs.Inside.Sound.{meets, AreWithin}

is_some-or : (b : Bool) (word : ℕ) (slot : Option ℕ) → is_some (cond b (Some word) slot) ≡ (b || is_some slot)
is_some-or true word slot = refl
is_some-or false word slot = refl

or-swap : (a b c : Bool) → (a || (b || c)) ≡ ((b || a) || c)
or-swap true true c = refl
or-swap true false c = refl
or-swap false true c = refl
or-swap false false c = refl

pub or-false : (a : Bool) → (a || false) ≡ a
or-false true = refl
or-false false = refl

or-assoc : (a b c : Bool) → (a || (b || c)) ≡ ((a || b) || c)
or-assoc true b c = refl
or-assoc false b c = refl

-- neither of two holds
pub or-parts : (a b : Bool) → (a || b) ≡ false → (a ≡ false) × (b ≡ false)
or-parts true b e = absurd (cc)
or-parts false b e = (refl, e)

-- an offset is among none from another on
among-none : (same : Bool) (first offset : ℕ) → (same && (nat_le first offset && nat_lt offset (first + 0))) ≡ false
among-none same first offset = grind (arith, nat_tests)

-- an offset is among some from another on, where it is that or among the rest
among-more : (same : Bool) (first offset count : ℕ)
    → ((same && (nat_le (first + 1) offset && nat_lt offset (first + 1 + count))) || (same && offset == first))
    ≡ (same && (nat_le first offset && nat_lt offset (first + suc count)))
among-more same first offset count = grind (arith, nat_tests)

-- a request that meets none shares neither place
pub meets_not : (others : List Request) (r : Request) → meets others r ≡ false
    → (list_any (stands_at r.bank r.offset) others ≡ false)
    × (1 < width r.content → list_any (stands_at r.bank (r.offset + 1)) others ≡ false)
meets_not others r e =
    let parts = or-parts (list_any (stands_at r.bank r.offset) others)
    (nat_lt 1 (width r.content) && list_any (stands_at r.bank (r.offset + 1)) others) e in
    (parts.0, λ two. rw (lt-ltb 1 (width r.content) two) at parts.1)

-- words stand where some were put from a place on, or where they stood before
stands-placed_from : (ws : List ℕ) (words : Words) (b o bank offset : ℕ) → b < banks → o + length ws ≤ bank_words
    → stands (with_words words (placed_from b o ws)) bank offset
    ≡ ((bank == b && (nat_le o offset && nat_lt offset (o + length ws))) || stands words bank offset)
stands-placed_from [] words b o bank offset in_banks room =
    ap (λ (x : Bool). x || stands words bank offset) (sym (among-none (bank == b) o offset))
stands-placed_from (w ∷ ws) words b o bank offset in_banks room =
    stands-placed_from ws (with_word words b o w) b (o + 1) bank offset in_banks (omega (arith, room))
    ∙ ap (λ slot. (bank == b && (nat_le (o + 1) offset && nat_lt offset (o + 1 + length ws))) || is_some slot)
    (slot_at-with_word words b o w bank offset in_banks (omega (arith, room)))
    ∙ ap (λ x. (bank == b && (nat_le (o + 1) offset && nat_lt offset (o + 1 + length ws))) || x)
    (is_some-or (bank == b && offset == o) w (slot_at words bank offset))
    ∙ or-assoc (bank == b && (nat_le (o + 1) offset && nat_lt offset (o + 1 + length ws))) (bank == b && offset == o)
    (stands words bank offset)
    ∙ ap (λ x. x || stands words bank offset) (among-more (bank == b) o offset (length ws))

-- words stand where requests put as many as they ask for, or where they stood before
pub stands-with_words : (f : Request → List ℕ) → ((r : Request) → length (f r) ≡ width r.content)
    → (rs : List Request) (words : Words) (bank offset : ℕ) → AreWithin rs
    → stands (with_words words (flat_map (λ r. placed_from r.bank r.offset (f r)) rs)) bank offset
    ≡ (list_any (stands_at bank offset) rs || stands words bank offset)
stands-with_words f wide [] words bank offset within = refl
stands-with_words f wide (r ∷ rs) words bank offset within =
    let here : (r.bank < banks) × (r.offset + width r.content ≤ bank_words) = All-head
    (λ q. (q.bank < banks) × (q.offset + width q.content ≤ bank_words)) r rs within in
    let rest : AreWithin rs = All-tail (λ q. (q.bank < banks) × (q.offset + width q.content ≤ bank_words)) r rs within in
    ap (λ ws. stands ws bank offset) (with_words-append words (placed_from r.bank r.offset (f r))
    (flat_map (λ r. placed_from r.bank r.offset (f r)) rs))
    ∙ stands-with_words f wide rs (with_words words (placed_from r.bank r.offset (f r))) bank offset rest
    ∙ ap (λ x. list_any (stands_at bank offset) rs || x)
    (stands-placed_from (f r) words r.bank r.offset bank offset here.0 (rw (wide r) here.1))
    ∙ ap (λ n. list_any (stands_at bank offset) rs
    || ((bank == r.bank && (nat_le r.offset offset && nat_lt offset (r.offset + n))) || stands words bank offset)) (wide r)
    ∙ or-swap (list_any (stands_at bank offset) rs) (stands_at bank offset r) (stands words bank offset)

pub length-zeros : (n : ℕ) → length {A = ℕ} (replicate n 0) ≡ n
length-zeros zero = refl
length-zeros (suc n) = ap suc (length-zeros n)

-- one more is mapped to a list
pub with_words-more : (words : Words) (f : Request → List Placed) (rs : List Request) (r : Request)
    → with_words words (flat_map f (rs ++ r ∷ [])) ≡ with_words (with_words words (flat_map f rs)) (f r)
with_words-more words f rs r =
    ap (with_words words) (sym (flat_map_more f [] rs r)) ∙ with_words-append words (flat_map f rs) (f r)
