-- What an entry of a table says of the words that it serves.
use Rattle.std.proofs.Common.{◌≡◌, ◌≢◌, ◌≤◌, ◌<◌, ◌+◌, ◌-◌, ◌/◌, ℕ, zero, suc, List, [], ◌∷◌, Bool, true, false, cond, Some, find, refl, ap}
use Rattle.std.proofs.Common.{◌∙◌, arith, ◌&&◌, eqb, leb, filter, length, get_or, ⊎_elim}
use Rattle.std.specs.Prelude.{unwrap_or}
use Rattle.std.specs.List.{range_with_len}
use Rattle.std.proofs.lemmas.Bool.Decides.{nat_tests}
use Rattle.std.proofs.lemmas.Bool.{leb-true, eqb-true, cases_lt}
use Rattle.cpu.specs.declared.instruction.Instruction.{Instruction}
use Rattle.cpu.specs.Codes.{Range, no_range, serves, is_apart}
use Rattle.cpu.proofs.RowLaws.{first_part, second_part}

-- the entries that serve words of a range
abbrev pub served : Range → List ℕ
served r = range_with_len (r.least / 512) (r.greatest / 512 + 1 - r.least / 512)

-- these entries are one instruction
abbrev pub AreAll : List Instruction → Instruction → List ℕ → Type 0
AreAll table i [] = Unit {0}
AreAll table i (h ∷ hs) = ((d : Instruction) → get_or table h d ≡ i) × AreAll table i hs

abbrev pub Unless : Bool → Type 0 → Type 0
Unless true t = Unit {0}
Unless false t = t

-- a range is one word that stands apart
abbrev pub is_one : (ℕ → Bool) → Range → Bool
is_one apart r = eqb r.least r.greatest && apart r.least

-- a table's entries are what ranges say, but for words that stand apart
abbrev pub Enters : (ℕ → Bool) → List Instruction → List Range → Type 0
Enters apart table [] = Unit {0}
Enters apart table (r ∷ rs) = Unless (is_one apart r) (AreAll table r.instruction (served r)) × Enters apart table rs

all-at : (table : List Instruction) (i : Instruction) (a n h : ℕ) → AreAll table i (range_with_len a n) → a ≤ h → h < a + n
    → (d : Instruction)
    → get_or table h d ≡ i
all-at table i a zero h all low high d = absurd (omega arith)
all-at table i a (suc n) h all low high d =
    ⊎_elim
    (λ (later : a < h). all-at table i (a + 1) n h all.1 (omega arith) (omega arith) d)
    (λ (here : h ≤ a). let same : h ≡ a = omega arith in ap (λ k. get_or table k d) same ∙ all.0 d)
    (cases_lt a h)

in_range : (apart : ℕ → Bool) (table : List Instruction) (r : Range) (w : ℕ) (b : Bool) → is_one apart r ≡ b
    → Unless b (AreAll table r.instruction (served r)) → apart w ≡ false → r.least ≤ w → w ≤ r.greatest → (d : Instruction)
    → get_or table (w / 512) d ≡ r.instruction
in_range apart table r w true is u whole low high d =
    let one : r.least ≡ r.greatest = eqb-true _ _ (first_part _ _ is) in
    let same : w ≡ r.least = omega arith in
    let yes : apart r.least ≡ true = second_part (eqb r.least r.greatest) _ is in
    let e : apart w ≡ apart r.least = ap apart same in
    absurd (cc)
in_range apart table r w false is u whole low high d =
    all-at table r.instruction (r.least / 512) (r.greatest / 512 + 1 - r.least / 512) (w / 512) u (omega arith) (omega arith) d

find_range : (apart : ℕ → Bool) (table : List Instruction) (r : Range) (rs : List Range) (w : ℕ) (b : Bool) → serves w r ≡ b
    → Unless (is_one apart r) (AreAll table r.instruction (served r)) → apart w ≡ false → (d : Instruction)
    → (length (filter (serves w) rs) ≡ 1 → get_or table (w / 512) d ≡ (unwrap_or (find (serves w) rs) no_range).instruction)
    → length (cond b (r ∷ filter (serves w) rs) (filter (serves w) rs)) ≡ 1
    → get_or table (w / 512) d ≡ (unwrap_or (cond b (Some r) (find (serves w) rs)) no_range).instruction
find_range apart table r rs w true is u whole d rest one =
    let low : r.least ≤ w = leb-true _ _ (first_part _ _ is) in
    let high : w ≤ r.greatest = leb-true _ _ (second_part (leb r.least w) _ is) in
    in_range apart table r w (is_one apart r) refl u whole low high d
find_range apart table r rs w false is u whole d rest one = rest one

-- a word that lies in one range, and does not stand apart, is what its entry says
pub entry : (apart : ℕ → Bool) (table : List Instruction) (rs : List Range) (w : ℕ) → Enters apart table rs → apart w ≡ false
    → length (filter (serves w) rs) ≡ 1 → (d : Instruction)
    → get_or table (w / 512) d ≡ (unwrap_or (find (serves w) rs) no_range).instruction
entry apart table [] w e whole one d = absurd (omega (arith, one))
entry apart table (r ∷ rs) w e whole one d =
    find_range apart table r rs w (serves w r) refl e.0 whole d (λ once. entry apart table rs w e.1 whole once d) one

pub not_apart : (w : ℕ) → w ≢ 0o3 → w ≢ 0o4 → w ≢ 0o6 → w ≢ 0o50017 → is_apart w ≡ false
not_apart w relint inhint extend resume = grind (arith, nat_tests)
