-- The lines of places, part by part, and then how many there are.
use Rattle.std.proofs.Common.{◌≡◌, ℕ, ◌+◌, ◌-◌, ◌<◌, List, [], ◌++◌, length, refl, sym, ◌∙◌, ap, arith, length-append, append-nil, subst}
use Rattle.std.proofs.lemmas.List.Concat.{flat_map-append}
use Rattle.std.specs.List.{range_with_len, flat_map}
use Rattle.words.specs.Devices.{WritesBeginning}
use Rattle.words.proofs.Texts.{append-then, beginning-after, beginning-longer}
use Rattle.audit.proofs.PartTexts.{front, front_more, front_split}

-- no place has no line
pub listed_none : (line : ℕ × ℕ → List ℕ) (a : List ℕ) → a ≡ a ++ flat_map line []
listed_none line a = sym (append-nil a)

listed_more : (line : ℕ × ℕ → List ℕ) (f : ℕ → List (ℕ × ℕ)) (n : ℕ)
    → flat_map line (front f (n + 1)) ≡ flat_map line (front f n) ++ flat_map line (f n)
listed_more line f n = ap (flat_map line) (front_more f n) ∙ flat_map-append line (front f n) (f n)

-- the lines of a front were written, and then those of the next part
pub writes_listed : (line : ℕ × ℕ → List ℕ) (f : ℕ → List (ℕ × ℕ)) (n : ℕ) (a b c : List ℕ) → b ≡ a ++ flat_map line (front f n)
    → c ≡ b ++ flat_map line (f n)
    → c ≡ a ++ flat_map line (front f (n + 1))
writes_listed line f n a b c written next = rw (listed_more line f n) (append-then a b c _ _ written next)

-- the lines of a front were written, and then a beginning of those of the next part
pub begins_listed : (line : ℕ × ℕ → List ℕ) (f : ℕ → List (ℕ × ℕ)) (n count : ℕ) (a b c : List ℕ) → n < count
    → b ≡ a ++ flat_map line (front f n)
    → WritesBeginning b c (flat_map line (f n)) → WritesBeginning a c (flat_map line (front f count))
begins_listed line f n count a b c lt written next =
    let rest : List (ℕ × ℕ) = flat_map f (range_with_len (n + 1) (count - (n + 1))) in
    let more : WritesBeginning a c (flat_map line (front f n) ++ flat_map line (f n)) = beginning-after a b c _ _ written next in
    let longer : WritesBeginning a c ((flat_map line (front f n) ++ flat_map line (f n)) ++ flat_map line rest) = beginning-longer a c _ _
    more in
    rw (
      front_split f (count - (n + 1)) (n + 1) count (omega (arith, lt)),
      flat_map-append line (front f (n + 1)) rest,
      listed_more line f
          n,
    ) longer

-- how many places a front has, and the next part
pub count_more : (f : ℕ → List (ℕ × ℕ)) (n k j : ℕ) → k ≡ length (front f n) → j ≡ length (f n) → k + j ≡ length (front f (n + 1))
count_more f n k j p q = rw (front_more f n, length-append (front f n) (f n), p, q) refl

-- the lines of a front up to the last number are those of all places
pub listed_end : (line : ℕ × ℕ → List ℕ) (f : ℕ → List (ℕ × ℕ)) (n count : ℕ) (a b : List ℕ) → n ≡ count
    → b ≡ a ++ flat_map line (front f n) → b ≡ a ++ flat_map line (front f count)
listed_end line f n count a b e written = subst (λ (k : ℕ). b ≡ a ++ flat_map line (front f k)) e written

pub count_ends : (f : ℕ → List (ℕ × ℕ)) (n count k : ℕ) → n ≡ count → k ≡ length (front f n) → k ≡ length (front f count)
count_ends f n count k e counted = subst (λ (m : ℕ). k ≡ length (front f m)) e counted
