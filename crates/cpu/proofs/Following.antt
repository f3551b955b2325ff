-- From what comes what each instruction writes.
use Rattle.std.proofs.Common.{◌≡◌, ℕ, ◌+◌, Bool, true, false, cond, not, ◌||◌, ◌==◌, List, [], ◌∷◌, ◌++◌, map, refl, ap, ◌∙◌, sym, subst}
use Rattle.std.proofs.lemmas.Bool.{eqb-true}
use Rattle.words.specs.declared.wide.Overflow.{Overflow}
use Rattle.words.specs.Numbers.{extend, correct, sum, neg_wide, dabs, modular_difference}
use Rattle.words.specs.Products.{product, quotient}
use Rattle.words.specs.BitSums.{and_sum, or_sum, xor_sum}
use Rattle.words.specs.Signs.{over, is_zero, is_minus_wide}
use Rattle.rope.specs.Places.{Words}
use Rattle.space.specs.Cells.{at, get, get_channel, accumulator, return_address, lower_accumulator, program_counter, return_address_channel}
use Rattle.space.specs.declared.place.Linear.{Linear}
use Rattle.cpu.specs.declared.instruction.Instruction.{Instruction}
use Rattle.cpu.specs.declared.instruction.Instruction.TheVariants.{Relint, Inhint, Extend, Resume, Tc, Ccs, Tcf, Das, Lxch, Incr, Ads, Ca}
use Rattle.cpu.specs.declared.instruction.Instruction.TheVariants.{Cs, Index, Dxch, Ts, Xch, Ad, Mask, Read, Write, Rand, Wand, Ror, Wor}
use Rattle.cpu.specs.declared.instruction.Instruction.TheVariants.{Rxor, Edrupt, Dv, Bzf, Msu, Qxch, Aug, Dim, Dca, Dcs, Su, Bzmf, Mp}
use Rattle.cpu.specs.State.{State, interrupted_address}
use Rattle.cpu.specs.Effects.{Change, change, changes, value_at, edits, reading, place_in, erasable_in, erasable_number, accumulator_of}
use Rattle.cpu.specs.Effects.{lower_of, next_address, first_of, greatest_short, greatest_address, ccs_skip, bitwise, is_whole, with_channel}
use Rattle.cpu.specs.Effects.{exchange, has_overflow, carry, is_at_zero, is_at_zero_or_minus, after, tc, ccs, tcf, ca, cs, ad, su, mask, ts}
use Rattle.cpu.specs.Effects.{xch, lxch, qxch, dxch, ads, incr, aug, dim, das, dca, dcs, index, mp, dv, msu, bzf, bzmf, read, write, rand}
use Rattle.cpu.specs.Effects.{ror, rxor, wand, wor, relint, inhint, resume}
use Rattle.cpu.specs.Effects.Change.{AtPlace, OnChannel, WaitsWithSum}
use Rattle.cpu.specs.declared.spot.Spot.{Spot}
use Rattle.cpu.specs.Links.{Flow, to_place, to_channel, place_cells, place_spots, channel_spots, spots, is_in, sources_by, through, a, l}
use Rattle.cpu.specs.Links.{overflow_in, ts_flows, edit_flows, exchange_flows, dxch_flows, flows_of}
use Rattle.cpu.specs.declared.spot.Spot.TheVariants.{Cell, InRope}
use Rattle.cpu.proofs.Flowing.{Agree, agree_left, agree_right, put_hit, put_miss, get_same, value_same, channel_same, Tracks, here}
use Rattle.cpu.proofs.Flowing.{tracks_start, tracks_place, tracks_channel, tracks_edits, tracks_reading, sources_append}
use Rattle.cpu.proofs.ChangeLaws.{changes_append}

-- addresses lead to these places
abbrev pub Leads : State → (ℕ → Linear) → Type 0
Leads s lead = (k : ℕ) → place_in s k ≡ lead k

-- from what comes what cells hold after flows
abbrev pub by : List Flow → ℕ → List Spot
by fs c = sources_by fs c (here c)

-- what an instruction writes comes from what its flows say
abbrev pub Follows : Words → State → Words → State → (ℕ → Linear) → Instruction → ℕ → Type 0
Follows r s o t lead i k = Tracks r s o t (by (flows_of lead (overflow_in i s) i k)) (after r s i k) (after o t i k)

-- two states, of the same places and the same Z
pub record Twins (s t : State) (lead : ℕ → Linear) : Type 0 where
  pub places : Leads s lead
  pub others : Leads t lead
  pub zs : at s.cells program_counter ≡ at t.cells program_counter

-- A and Z
acc : (r : Words) (s : State) (o : Words) (t : State) → at s.cells accumulator ≡ at t.cells accumulator
    → accumulator_of s ≡ accumulator_of t
acc r s o t e = get_same r s o t accumulator (e, tt)

low : (r : Words) (s : State) (o : Words) (t : State) → at s.cells lower_accumulator ≡ at t.cells lower_accumulator
    → lower_of s ≡ lower_of t
low r s o t e = get_same r s o t lower_accumulator (e, tt)

nxt : (r : Words) (s : State) (o : Words) (t : State) → at s.cells program_counter ≡ at t.cells program_counter
    → next_address s ≡ next_address t
nxt r s o t e = get_same r s o t program_counter (e, tt)

-- one place is written, or two
pub one : (r : Words) (s : State) (o : Words) (t : State) (p : ℕ) (from : List Spot) (x y : ℕ) → (Agree r s o t from → x ≡ y)
    → Tracks r s o t (by (to_place p from ∷ [])) (change s (AtPlace p x)) (change t (AtPlace p y))
one r s o t p from x y new = tracks_place r s o t here from s t p x y (tracks_start r s o t) new

pub two : (r : Words) (s : State) (o : Words) (t : State) (p : ℕ) (from : List Spot) (x y : ℕ) → (Agree r s o t from → x ≡ y)
    → (p' : ℕ) (from' : List Spot) (x' y' : ℕ) → (Agree r s o t from' → x' ≡ y')
    → Tracks r s o t (by (to_place p from ∷ to_place p' from' ∷ []))
    (change (change s (AtPlace p x)) (AtPlace p' x')) (change (change t (AtPlace p y)) (AtPlace p' y'))
two r s o t p from x y new p' from' x' y' new' =
    tracks_place r s o t (by (to_place p from ∷ [])) from' (change s (AtPlace p x)) (change t (AtPlace p y)) p' x' y'
    (one r s o t p from x y new) new'

-- at an erasable place
at_number : (r : Words) (s : State) (o : Words) (t : State) (F : ℕ → List Spot) (f g : ℕ → State) (p m n : ℕ) → m ≡ p → n ≡ p
    → Tracks r s o t F (f p) (g p) → Tracks r s o t F (f m) (g n)
at_number r s o t F f g p m n e d h =
    subst (λ m. Tracks r s o t F (f m) (g n)) (sym e) (subst (λ n. Tracks r s o t F (f p) (g n)) (sym d) h)

pub number : (s : State) (lead : ℕ → Linear) → Leads s lead → (k : ℕ) → erasable_in s k ≡ erasable_number (lead k)
unfolding erasable_in
number s lead e k = ap (λ l. erasable_number l) (e k)

-- a register and a place are exchanged
abbrev exchanged : State → ℕ → ℕ → State
exchanged s register p = changes s (exchange s register p)

exchanges : (r : Words) (s : State) (o : Words) (t : State) (register p : ℕ)
    → Tracks r s o t (by (exchange_flows register p)) (exchanged s register p) (exchanged t register p)
exchanges r s o t register p =
    two r s o t register (place_spots p) (get s.cells p) (get t.cells p) (λ h. get_same r s o t p h)
    p (place_spots register) (get s.cells register) (get t.cells register) (λ h. get_same r s o t register h)

-- one place is written at which an address leads, or two
at_place : (r : Words) (s : State) (o : Words) (t : State) (lead : ℕ → Linear) (k : ℕ) → Twins s t lead
    → (flows : ℕ → List Flow) (f : State → ℕ → State) → ((p : ℕ) → Tracks r s o t (by (flows p)) (f s p) (f t p))
    → Tracks r s o t (by (flows (erasable_number (lead k)))) (f s (erasable_in s k)) (f t (erasable_in t k))
at_place r s o t lead k w flows f each =
    let p = erasable_number (lead k) in
    at_number r s o t (by (flows p)) (f s) (f t) p (erasable_in s k) (erasable_in t k) (number s lead w.places k) (number t lead w.others k)
    (each p)

at_two_places : (r : Words) (s : State) (o : Words) (t : State) (lead : ℕ → Linear) (j k : ℕ) → Twins s t lead
    → (flows : ℕ → ℕ → List Flow) (f : State → ℕ → ℕ → State) → ((p q : ℕ) → Tracks r s o t (by (flows p q)) (f s p q) (f t p q))
    → Tracks r s o t (by (flows (erasable_number (lead j)) (erasable_number (lead k)))) (f s (erasable_in s j) (erasable_in s k))
    (f t (erasable_in t j) (erasable_in t k))
at_two_places r s o t lead j k w flows f each =
    at_place r s o t lead j w (λ p. flows p (erasable_number (lead k))) (λ u p. f u p (erasable_in u k))
    (λ p. at_place r s o t lead k w (flows p) (λ u q. f u p q) (each p))

-- what is read at an address is written, and edits
reads : (r : Words) (s : State) (o : Words) (t : State) (lead : ℕ → Linear) (k : ℕ) → Twins s t lead
    → (flows : Linear → List Flow) (f : State → Linear → ℕ → List Change)
    → ((l : Linear) → (Agree r s o t (spots l) → value_at r s l ≡ value_at o t l)
    → Tracks r s o t (by (flows l)) (changes s (f s l (value_at r s l))) (changes t (f t l (value_at o t l))))
    → Tracks r s o t (by (flows (lead k) ++ edit_flows (lead k)))
    (changes s (reading r s k (f s (place_in s k)))) (changes t (reading o t k (f t (place_in t k))))
reads r s o t lead k w flows f each =
    tracks_reading r s o t flows (f s) (f t) each (lead k) (place_in s k) (place_in t k) (w.places k) (w.others k)

-- A takes what comes of what is read
loads : (f : ℕ → ℕ) (r : Words) (s : State) (o : Words) (t : State) (lead : ℕ → Linear) (k : ℕ) → Twins s t lead
    → Tracks r s o t (by (to_place accumulator (spots (lead k)) ∷ edit_flows (lead k)))
    (changes s (reading r s k (λ x. AtPlace accumulator (f x) ∷ []))) (changes t (reading o t k (λ x. AtPlace accumulator (f x) ∷ [])))
loads f r s o t lead k w =
    reads r s o t lead k w (λ l. to_place accumulator (spots l) ∷ []) (λ u l x. AtPlace accumulator (f x) ∷ [])
    (λ l v. one r s o t accumulator (spots l) (f (value_at r s l)) (f (value_at o t l)) (λ h i. f (v h i)))

-- A takes what comes of A and of what is read
combines : (f : Linear → ℕ → ℕ → ℕ) (r : Words) (s : State) (o : Words) (t : State) (lead : ℕ → Linear) (k : ℕ) → Twins s t lead
    → Tracks r s o t (by (to_place accumulator (a ∷ spots (lead k)) ∷ edit_flows (lead k)))
    (changes s (reading r s k (λ x. AtPlace accumulator (f (place_in s k) (accumulator_of s) x) ∷ [])))
    (changes t (reading o t k (λ x. AtPlace accumulator (f (place_in t k) (accumulator_of t) x) ∷ [])))
combines f r s o t lead k w =
    reads r s o t lead k w (λ l. to_place accumulator (a ∷ spots l) ∷ []) (λ u l x. AtPlace accumulator (f l (accumulator_of u) x) ∷ [])
    (λ l v. one r s o t accumulator (a ∷ spots l) (f l (accumulator_of s) (value_at r s l)) (f l (accumulator_of t) (value_at o t l))
    (λ h i. f l (acc r s o t h.0 i) (v h.1 i)))

-- CCS
counts : (r : Words) (s : State) (o : Words) (t : State) (lead : ℕ → Linear) (k : ℕ) → Twins s t lead
    → Tracks r s o t (by (to_place accumulator (spots (lead k)) ∷ to_place program_counter (spots (lead k)) ∷ edit_flows (lead k)))
    (changes s (ccs r s k)) (changes t (ccs o t k))
unfolding ccs
counts r s o t lead k w =
    reads r s o t lead k w (λ l. to_place accumulator (spots l) ∷ to_place program_counter (spots l) ∷ [])
    (λ u l x. AtPlace accumulator (dabs x) ∷ AtPlace program_counter (next_address u + ccs_skip x) ∷ [])
    (λ l v. two r s o t accumulator (spots l) (dabs (value_at r s l)) (dabs (value_at o t l)) (λ h i. dabs (v h i))
    program_counter (spots l) (next_address s + ccs_skip (value_at r s l)) (next_address t + ccs_skip (value_at o t l))
    (λ h i. nxt r s o t w.zs i + ccs_skip (v h i)))

-- MP
multiplies : (r : Words) (s : State) (o : Words) (t : State) (lead : ℕ → Linear) (k : ℕ) → Twins s t lead
    → Tracks r s o t (by (to_place accumulator (a ∷ spots (lead k)) ∷ to_place lower_accumulator (a ∷ spots (lead k))
    ∷ edit_flows (lead k)))
    (changes s (mp r s k)) (changes t (mp o t k))
unfolding mp
multiplies r s o t lead k w =
    let high = λ (x y : ℕ). extend (product (correct x) (correct y)).high in
    let low = λ (x y : ℕ). extend (product (correct x) (correct y)).low in
    reads r s o t lead k w (λ l. to_place accumulator (a ∷ spots l) ∷ to_place lower_accumulator (a ∷ spots l) ∷ [])
    (λ u l x. AtPlace accumulator (high (accumulator_of u) x) ∷ AtPlace lower_accumulator (low (accumulator_of u) x) ∷ [])
    (λ l v. two r s o t
    accumulator (a ∷ spots l) (high (accumulator_of s) (value_at r s l)) (high (accumulator_of t) (value_at o t l))
    (λ h i. high (acc r s o t h.0 i) (v h.1 i))
    lower_accumulator (a ∷ spots l) (low (accumulator_of s) (value_at r s l)) (low (accumulator_of t) (value_at o t l))
    (λ h i. low (acc r s o t h.0 i) (v h.1 i)))

-- DV
divides : (r : Words) (s : State) (o : Words) (t : State) (lead : ℕ → Linear) (k : ℕ) → Twins s t lead
    → Tracks r s o t (by (to_place accumulator (a ∷ l ∷ spots (lead k)) ∷ to_place lower_accumulator (a ∷ l ∷ spots (lead k))
    ∷ edit_flows (lead k)))
    (changes s (dv r s k)) (changes t (dv o t k))
unfolding dv
divides r s o t lead k w =
    let result = λ (x y z : ℕ). quotient (correct x) (correct y) (correct z) in
    let of = λ (u : State) (x : ℕ). result (accumulator_of u) (lower_of u) x in
    reads r s o t lead k w (λ p. to_place accumulator (a ∷ l ∷ spots p) ∷ to_place lower_accumulator (a ∷ l ∷ spots p) ∷ [])
    (λ u p x. AtPlace accumulator (extend (of u x).quotient) ∷ AtPlace lower_accumulator (extend (of u x).remainder) ∷ [])
    (λ p v. two r s o t
    accumulator (a ∷ l ∷ spots p) (extend (of s (value_at r s p)).quotient) (extend (of t (value_at o t p)).quotient)
    (λ h i. extend (result (acc r s o t h.0 i) (low r s o t h.1.0 i) (v h.1.1 i)).quotient)
    lower_accumulator (a ∷ l ∷ spots p) (extend (of s (value_at r s p)).remainder) (extend (of t (value_at o t p)).remainder)
    (λ h i. extend (result (acc r s o t h.0 i) (low r s o t h.1.0 i) (v h.1.1 i)).remainder))

-- XCH, LXCH and QXCH
swaps : (register : ℕ) (r : Words) (s : State) (o : Words) (t : State) (lead : ℕ → Linear) (k : ℕ) → Twins s t lead
    → Tracks r s o t (by (exchange_flows register (erasable_number (lead k)))) (exchanged s register (erasable_in s k))
    (exchanged t register (erasable_in t k))
swaps register r s o t lead k w =
    at_place r s o t lead k w (exchange_flows register) (λ u p. exchanged u register p) (exchanges r s o t register)

-- INCR and AUG
abbrev changed : (ℕ → ℕ) → State → ℕ → State
changed f s p = change s (AtPlace p (f (get s.cells p)))

grows : (f : ℕ → ℕ) (r : Words) (s : State) (o : Words) (t : State) (lead : ℕ → Linear) (k : ℕ) → Twins s t lead
    → (let p = erasable_number (lead k) in Tracks r s o t (by (to_place p (place_spots p) ∷ [])) (changed f s (erasable_in s k))
    (changed f t (erasable_in t k)))
grows f r s o t lead k w =
    at_place r s o t lead k w (λ p. to_place p (place_spots p) ∷ []) (λ u p. changed f u p)
    (λ p. one r s o t p (place_spots p) (f (get s.cells p)) (f (get t.cells p)) (λ h i. f (get_same r s o t p h i)))

-- ADS
abbrev added_to : State → ℕ → State
added_to s p =
    let x = sum (accumulator_of s) (get s.cells p) in
    changes s (AtPlace p (extend (correct x)) ∷ AtPlace accumulator x ∷ [])

adds_to : (r : Words) (s : State) (o : Words) (t : State) (lead : ℕ → Linear) (k : ℕ) → Twins s t lead
    → (let p = erasable_number (lead k) in
    Tracks r s o t (by (to_place p (a ∷ place_spots p) ∷ to_place accumulator (a ∷ place_spots p) ∷ [])) (added_to s (erasable_in s k))
    (added_to t (erasable_in t k)))
adds_to r s o t lead k w =
    at_place r s o t lead k w (λ p. to_place p (a ∷ place_spots p) ∷ to_place accumulator (a ∷ place_spots p) ∷ []) added_to
    (λ p.
    let x = sum (accumulator_of s) (get s.cells p) in
    let y = sum (accumulator_of t) (get t.cells p) in
    let same : Agree r s o t (a ∷ place_spots p) → x ≡ y = λ h i. sum (acc r s o t h.0 i) (get_same r s o t p h.1 i) in
    two r s o t p (a ∷ place_spots p) (extend (correct x)) (extend (correct y)) (λ h i. extend (correct (same h i))) accumulator
    (a ∷ place_spots p) x y same)

-- RAND, ROR and RXOR; WAND and WOR
joined : (f : ℕ → ℕ → ℕ → ℕ) (r : Words) (s : State) (o : Words) (t : State) (n : ℕ) → Agree r s o t (a ∷ channel_spots n)
    → with_channel f s n ≡ with_channel f t n
joined f r s o t n h = λ i. bitwise f (n == return_address_channel) (acc r s o t h.0 i) (channel_same r s o t n h.1 i)

joins : (f : ℕ → ℕ → ℕ → ℕ) (r : Words) (s : State) (o : Words) (t : State) (n : ℕ)
    → Tracks r s o t (by (to_place accumulator (a ∷ channel_spots n) ∷ [])) (change s (AtPlace accumulator (with_channel f s n)))
    (change t (AtPlace accumulator (with_channel f t n)))
joins f r s o t n = one r s o t accumulator (a ∷ channel_spots n) (with_channel f s n) (with_channel f t n) (joined f r s o t n)

joins_both : (f : ℕ → ℕ → ℕ → ℕ) (r : Words) (s : State) (o : Words) (t : State) (n : ℕ)
    → Tracks r s o t (by (to_place accumulator (a ∷ channel_spots n) ∷ to_channel n (a ∷ channel_spots n) ∷ []))
    (changes s (AtPlace accumulator (with_channel f s n) ∷ OnChannel n (with_channel f s n) ∷ []))
    (changes t (AtPlace accumulator (with_channel f t n) ∷ OnChannel n (with_channel f t n) ∷ []))
joins_both f r s o t n =
    tracks_channel r s o t (by (to_place accumulator (a ∷ channel_spots n) ∷ [])) (a ∷ channel_spots n)
    (change s (AtPlace accumulator (with_channel f s n))) (change t (AtPlace accumulator (with_channel f t n))) n (with_channel f s n)
    (with_channel f t n)
    (joins f r s o t n) (joined f r s o t n)

-- TC
tc_by : (r : Words) (s : State) (o : Words) (t : State) (k : ℕ) (b : Bool) → at s.cells program_counter ≡ at t.cells program_counter
    → Tracks r s o t (by (cond b (to_place program_counter [] ∷ []) (to_place return_address [] ∷ to_place program_counter [] ∷ [])))
    (changes s (cond b (AtPlace program_counter k ∷ []) (AtPlace return_address (next_address s) ∷ AtPlace program_counter k ∷ [])))
    (changes t (cond b (AtPlace program_counter k ∷ []) (AtPlace return_address (next_address t) ∷ AtPlace program_counter k ∷ [])))
tc_by r s o t k true m = one r s o t program_counter [] k k (λ h. refl)
tc_by r s o t k false m = two r s o t return_address [] (next_address s) (next_address t) (λ h. nxt r s o t m) program_counter [] k k
    (λ h. refl)

-- two places are read
edits_two : (r : Words) (s : State) (o : Words) (t : State) (before : ℕ → List Spot) (u v : State) (l m : Linear) (x y x' y' : ℕ)
    → Tracks r s o t before u v → (Agree r s o t (spots l) → x ≡ y) → (Agree r s o t (spots m) → x' ≡ y')
    → Tracks r s o t (λ c. sources_by (edit_flows l ++ edit_flows m) c (before c)) (changes u (edits l x ++ edits m x'))
    (changes v (edits l y ++ edits m y'))
edits_two r s o t before u v l m x y x' y' old new new' = λ c h.
    ap (λ (w : State). at w.cells c) (changes_append (edits l x) (edits m x') u)
    ∙ tracks_edits r s o t (λ c. sources_by (edit_flows l) c (before c)) (changes u (edits l x)) (changes v (edits l y)) m x' y'
    (tracks_edits r s o t before u v l x y old new) new' c
    (subst (λ xs. Agree r s o t xs) (sources_append (edit_flows l) (edit_flows m) c (before c)) h)
    ∙ ap (λ (w : State). at w.cells c) (sym (changes_append (edits l y) (edits m y') v))

-- DCA and DCS
abbrev load_two : (ℕ → ℕ) → Words → State → Linear → Linear → State
load_two f r s m n =
    changes s (AtPlace accumulator (f (value_at r s m)) ∷ AtPlace lower_accumulator (f (value_at r s n))
    ∷ (edits m (value_at r s m) ++ edits n (value_at r s n)))

loads_two : (f : ℕ → ℕ) (r : Words) (s : State) (o : Words) (t : State) (m n : Linear)
    → Tracks r s o t (by (to_place accumulator (spots m) ∷ to_place lower_accumulator (spots n) ∷ (edit_flows m ++ edit_flows n)))
    (load_two f r s m n) (load_two f o t m n)
loads_two f r s o t m n =
    edits_two r s o t (by (to_place accumulator (spots m) ∷ to_place lower_accumulator (spots n) ∷ []))
    (changes s (AtPlace accumulator (f (value_at r s m)) ∷ AtPlace lower_accumulator (f (value_at r s n)) ∷ []))
    (changes t (AtPlace accumulator (f (value_at o t m)) ∷ AtPlace lower_accumulator (f (value_at o t n)) ∷ []))
    m n (value_at r s m) (value_at o t m) (value_at r s n) (value_at o t n)
    (two r s o t accumulator (spots m) (f (value_at r s m)) (f (value_at o t m)) (λ h i. f (value_same r s o t m h i))
    lower_accumulator (spots n) (f (value_at r s n)) (f (value_at o t n)) (λ h i. f (value_same r s o t n h i)))
    (value_same r s o t m) (value_same r s o t n)

at_readings : (r : Words) (s : State) (o : Words) (t : State) (lead : ℕ → Linear) (k : ℕ) → Twins s t lead
    → (flows : Linear → List Flow) (f g : Linear → State) → ((l : Linear) → Tracks r s o t (by (flows l)) (f l) (g l))
    → Tracks r s o t (by (flows (lead k))) (f (place_in s k)) (g (place_in t k))
at_readings r s o t lead k w flows f g each =
    subst (λ m. Tracks r s o t (by (flows (lead k))) (f m) (g (place_in t k))) (sym (w.places k))
    (subst (λ n. Tracks r s o t (by (flows (lead k))) (f (lead k)) (g n)) (sym (w.others k)) (each (lead k)))

abbrev load_flows : Linear → Linear → List Flow
load_flows m n = to_place accumulator (spots m) ∷ to_place lower_accumulator (spots n) ∷ edit_flows m ++ edit_flows n

loads_pair : (f : ℕ → ℕ) (r : Words) (s : State) (o : Words) (t : State) (lead : ℕ → Linear) (k : ℕ) → Twins s t lead
    → (let j = first_of greatest_address k in
    Tracks r s o t (by (load_flows (lead j) (lead k))) (load_two f r s (place_in s j) (place_in s k))
    (load_two f o t (place_in t j) (place_in t k)))
loads_pair f r s o t lead k w =
    let j = first_of greatest_address k in
    at_readings r s o t lead j w (λ m. load_flows m (lead k)) (λ m. load_two f r s m (place_in s k)) (λ m. load_two f o t m (place_in t k))
    (λ m. at_readings r s o t lead k w (load_flows m) (load_two f r s m) (load_two f o t m) (loads_two f r s o t m))

-- what stood at spots after changes comes from what the flows say
drawn : (r : Words) (s : State) (o : Words) (t : State) (fs : List Flow) (u v : State) → Tracks r s o t (by fs) u v
    → (o ≡ r → Unit {0}) → (xs : List Spot) → Agree r s o t (through fs xs) → Agree r u o v xs
drawn r s o t fs u v old x [] h = tt
drawn r s o t fs u v old x (Cell c ∷ xs) h = (
  old c (agree_left r s o t (sources_by fs c (here c)) (through fs xs) h),
  drawn r s o t fs u v old x xs (agree_right r s o t (sources_by fs c (here c)) (through fs xs) h),
)
drawn r s o t fs u v old x (InRope bank offset ∷ xs) h = (h.0, drawn r s o t fs u v old x xs h.1)

-- DXCH
abbrev exchanged_two : State → ℕ → ℕ → State
exchanged_two s high low = exchanged (exchanged s lower_accumulator low) accumulator high

exchanges_two : (r : Words) (s : State) (o : Words) (t : State) (high low : ℕ)
    → Tracks r s o t (by (dxch_flows high low)) (exchanged_two s high low) (exchanged_two t high low)
exchanges_two r s o t high low =
    let fs = exchange_flows lower_accumulator low in
    let u = exchanged s lower_accumulator low in
    let v = exchanged t lower_accumulator low in
    let old : Tracks r s o t (by fs) u v = exchanges r s o t lower_accumulator low in
    let first = through fs (place_spots high) in
    let second = through fs (a ∷ []) in
    tracks_place r s o t (by (fs ++ (to_place accumulator first ∷ []))) second
    (change u (AtPlace accumulator (get u.cells high))) (change v (AtPlace accumulator (get v.cells high))) high (get u.cells accumulator)
    (get v.cells accumulator)
    (tracks_place r s o t (by fs) first u v accumulator (get u.cells high) (get v.cells high) old
    (λ h. get_same r u o v high (drawn r s o t fs u v old (λ _. tt) (place_spots high) h)))
    (λ h. get_same r u o v accumulator (drawn r s o t fs u v old (λ _. tt) (a ∷ []) h))

-- DAS
abbrev das_by : State → ℕ → ℕ → Bool → State
das_by s high low b =
    let x = sum (lower_of s) (get s.cells low) in
    let y = sum (sum (accumulator_of s) (get s.cells high)) (carry (over x)) in
    changes s (cond b (AtPlace lower_accumulator (extend (correct x)) ∷ AtPlace accumulator y ∷ [])
    (AtPlace low (extend (correct x)) ∷ AtPlace high (extend (correct y)) ∷ AtPlace lower_accumulator 0
    ∷ AtPlace accumulator (carry (over y)) ∷ []))

abbrev low_sum : State → ℕ → ℕ
low_sum s low = sum (lower_of s) (get s.cells low)

abbrev high_sum : State → ℕ → ℕ → ℕ
high_sum s high low = sum (sum (accumulator_of s) (get s.cells high)) (carry (over (low_sum s low)))

low_sums : (r : Words) (s : State) (o : Words) (t : State) (p : ℕ) → Agree r s o t (l ∷ place_spots p) → low_sum s p ≡ low_sum t p
low_sums r s o t p h = λ i. sum (low r s o t h.0 i) (get_same r s o t p h.1 i)

high_sums : (r : Words) (s : State) (o : Words) (t : State) (p p' : ℕ) → Agree r s o t (a ∷ place_spots p ++ (l ∷ place_spots p'))
    → high_sum s p p' ≡ high_sum t p p'
high_sums r s o t p p' h =
    let ls = agree_right r s o t (place_spots p) (l ∷ place_spots p') h.1 in
    λ i. sum (sum (acc r s o t h.0 i) (get_same r s o t p (agree_left r s o t (place_spots p) (l ∷ place_spots p') h.1) i))
    (carry (over (low_sums r s o t p' ls i)))

abbrev das_flows_by : ℕ → ℕ → Bool → List Flow
das_flows_by high low b =
    let lows = l ∷ place_spots low in
    let all = a ∷ place_spots high ++ lows in
    cond b (to_place lower_accumulator lows ∷ to_place accumulator all ∷ [])
    (to_place low lows ∷ to_place high all ∷ to_place lower_accumulator [] ∷ to_place accumulator all ∷ [])

sums : (r : Words) (s : State) (o : Words) (t : State) (high low : ℕ) (b : Bool)
    → Tracks r s o t (by (das_flows_by high low b)) (das_by s high low b) (das_by t high low b)
sums r s o t p p' true =
    two r s o t lower_accumulator (l ∷ place_spots p') (extend (correct (low_sum s p'))) (extend (correct (low_sum t p')))
    (λ h i. extend (correct (low_sums r s o t p' h i)))
    accumulator (a ∷ place_spots p ++ (l ∷ place_spots p')) (high_sum s p p') (high_sum t p p') (high_sums r s o t p p')
sums r s o t p p' false =
    let lows = l ∷ place_spots p' in
    let all = a ∷ place_spots p ++ lows in
    let x = extend (correct (low_sum s p')) in
    let y = extend (correct (low_sum t p')) in
    let x' = extend (correct (high_sum s p p')) in
    let y' = extend (correct (high_sum t p p')) in
    let f2 = to_place p' lows ∷ to_place p all ∷ [] in
    let u2 = changes s (AtPlace p' x ∷ AtPlace p x' ∷ []) in
    let v2 = changes t (AtPlace p' y ∷ AtPlace p y' ∷ []) in
    tracks_place r s o t (by (f2 ++ (to_place lower_accumulator [] ∷ []))) all
    (change u2 (AtPlace lower_accumulator 0)) (change v2 (AtPlace lower_accumulator 0)) accumulator (carry (over (high_sum s p p')))
    (carry (over (high_sum t p p')))
    (tracks_place r s o t (by f2) [] u2 v2 lower_accumulator 0 0
    (two r s o t p' lows x y (λ h i. extend (correct (low_sums r s o t p' h i))) p all x' y'
    (λ h i. extend (correct (high_sums r s o t p p' h i))))
    (λ h. refl))
    (λ h i. carry (over (high_sums r s o t p p' h i)))

-- where a state's branch hangs on what a cell holds: one that is not reached stays, one that is takes the same branch
in_one : (c d : ℕ) (b : Bool) → (c == d) ≡ b → (b || false) ≡ true → c ≡ d
in_one c d true e h = eqb-true c d e
in_one c d false e h = absurd (cc)

pub is_one : (c d : ℕ) → is_in c (d ∷ []) ≡ true → c ≡ d
is_one c d h = in_one c d (c == d) refl h

among : (r : Words) (s : State) (o : Words) (t : State) (c d : ℕ) (ds : List ℕ) (b : Bool) → (c == d) ≡ b
    → (is_in c ds ≡ true → Agree r s o t (map (λ c. Cell c) ds) → at s.cells c ≡ at t.cells c)
    → (b || is_in c ds) ≡ true → at s.cells d ≡ at t.cells d → Agree r s o t (map (λ c. Cell c) ds) → at s.cells c ≡ at t.cells c
among r s o t c d ds true e rest h x xs = subst (λ d. at s.cells d ≡ at t.cells d) (sym (eqb-true c d e)) x
among r s o t c d ds false e rest h x xs = rest h xs

pub cell_among : (r : Words) (s : State) (o : Words) (t : State) (c : ℕ) (ds : List ℕ) → is_in c ds ≡ true
    → Agree r s o t (map (λ c. Cell c) ds) → at s.cells c ≡ at t.cells c
cell_among r s o t c [] h e = absurd (cc)
cell_among r s o t c (d ∷ ds) h e = among r s o t c d ds (c == d) refl (cell_among r s o t c ds) h e.0 e.1

-- a place is written or not, as a test of it and of some spots says
pub may_miss : (u : State) (p x c : ℕ) (b : Bool) → is_in c (place_cells p) ≡ false
    → at (changes u (cond b (AtPlace p x ∷ []) [])).cells c ≡ at u.cells c
may_miss u p x c true h = put_miss u.cells p x c h
may_miss u p x c false h = refl

pub may_hit : (s t : State) (p x c : ℕ) (b : Bool) → is_in c (place_cells p) ≡ true → at s.cells c ≡ at t.cells c
    → at (changes s (cond b (AtPlace p x ∷ []) [])).cells c ≡ at (changes t (cond b (AtPlace p x ∷ []) [])).cells c
may_hit s t p x c true h e = put_hit s.cells t.cells p x c h
may_hit s t p x c false h e = e

may_step : (r : Words) (s : State) (o : Words) (t : State) (from : List Spot) (p x y c : ℕ) (b d : Bool) (hit : Bool)
    → is_in c (place_cells p) ≡ hit
    → (Agree r s o t from → x ≡ y) → (Agree r s o t from → b ≡ d)
    → (Agree r s o t from → is_in c (place_cells p) ≡ true → at s.cells c ≡ at t.cells c)
    → Agree r s o t (cond hit from (here c))
    → at (changes s (cond b (AtPlace p x ∷ []) [])).cells c ≡ at (changes t (cond d (AtPlace p y ∷ []) [])).cells c
may_step r s o t from p x y c b d true h new same old e =
    may_hit s t p x c b h (old e h) ∙ (λ i. at (changes t (cond (same e i) (AtPlace p (new e i) ∷ []) [])).cells c)
may_step r s o t from p x y c b d false h new same old e = may_miss s p x c b h ∙ e.0 ∙ sym (may_miss t p y c d h)

pub may : (r : Words) (s : State) (o : Words) (t : State) (from : List Spot) (p x y : ℕ) (b d : Bool)
    → (Agree r s o t from → x ≡ y) → (Agree r s o t from → b ≡ d)
    → ((c : ℕ) → Agree r s o t from → is_in c (place_cells p) ≡ true → at s.cells c ≡ at t.cells c)
    → Tracks r s o t (by (to_place p from ∷ [])) (changes s (cond b (AtPlace p x ∷ []) [])) (changes t (cond d (AtPlace p y ∷ []) []))
may r s o t from p x y b d new same old = λ c e. may_step r s o t from p x y c b d (is_in c (place_cells p)) refl new same (old c) e

-- BZF and BZMF
branches : (r : Words) (s : State) (o : Words) (t : State) (k : ℕ) (b d : Bool) → at s.cells program_counter ≡ at t.cells program_counter
    → (Agree r s o t (a ∷ []) → b ≡ d)
    → Tracks r s o t (by (to_place program_counter (a ∷ []) ∷ [])) (changes s (cond b (AtPlace program_counter k ∷ []) []))
    (changes t (cond d (AtPlace program_counter k ∷ []) []))
branches r s o t k b d zs same =
    may r s o t (a ∷ []) program_counter k k b d (λ h. refl) same (λ c h j. cell_among r s o t c (program_counter ∷ []) j (zs, tt))

-- DIM
abbrev dim_by : State → ℕ → State
dim_by s p =
    let x = get s.cells p in
    changes s (cond (is_zero x) [] (AtPlace p (sum x (cond (is_minus_wide x) 1 (neg_wide 1))) ∷ []))

swapped : (s : State) (p x : ℕ) (b : Bool) → changes s (cond b [] (AtPlace p x ∷ [])) ≡ changes s (cond (not b) (AtPlace p x ∷ []) [])
swapped s p x true = refl
swapped s p x false = refl

dims : (r : Words) (s : State) (o : Words) (t : State) (p : ℕ)
    → Tracks r s o t (by (to_place p (place_spots p) ∷ [])) (dim_by s p) (dim_by t p)
dims r s o t p =
    let x = get s.cells p in
    let y = get t.cells p in
    let v = sum x (cond (is_minus_wide x) 1 (neg_wide 1)) in
    let w = sum y (cond (is_minus_wide y) 1 (neg_wide 1)) in
    λ c e.
    ap (λ (u : State). at u.cells c) (swapped s p v (is_zero x))
    ∙ may r s o t (place_spots p) p v w (not (is_zero x)) (not (is_zero y))
    (λ h i. sum (get_same r s o t p h i) (cond (is_minus_wide (get_same r s o t p h i)) 1 (neg_wide 1)))
    (λ h i. not (is_zero (get_same r s o t p h i)))
    (λ c h j. cell_among r s o t c (place_cells p) j h) c e
    ∙ ap (λ (u : State). at u.cells c) (sym (swapped t p w (is_zero y)))

-- TS
abbrev pub ts_list : ℕ → ℕ → ℕ → Bool → Bool → Bool → List Change
ts_list x skip p b d e =
    cond b (AtPlace p x ∷ [])
    (cond d (AtPlace program_counter skip ∷ [])
    (cond e (AtPlace p (extend (correct x)) ∷ AtPlace accumulator (carry (over x)) ∷ [])
    (AtPlace p (extend (correct x)) ∷ AtPlace accumulator (carry (over x)) ∷ AtPlace program_counter skip ∷ [])))

abbrev pub ts_of : ℕ → ℕ → ℕ → List Change
ts_of x skip p = ts_list x skip p (not (has_overflow (over x))) (p == accumulator) (p == program_counter)

-- where A overflows alike
ts_by : (r : Words) (s : State) (o : Words) (t : State) (p x y : ℕ) (u v : Overflow) (b d e : Bool)
    → at s.cells program_counter ≡ at t.cells program_counter → u ≡ v
    → (Agree r s o t (a ∷ []) → x ≡ y)
    → Tracks r s o t (λ c. sources_by (cond b (to_place p (a ∷ []) ∷ []) (cond d (to_place program_counter [] ∷ [])
    (cond e (to_place p (a ∷ []) ∷ to_place accumulator [] ∷ [])
    (to_place p (a ∷ []) ∷ to_place accumulator [] ∷ to_place program_counter [] ∷ [])))) c (here c))
    (changes s (cond b (AtPlace p x ∷ []) (cond d (AtPlace program_counter (next_address s + 1) ∷ [])
    (cond e (AtPlace p (extend (correct x)) ∷ AtPlace accumulator (carry u) ∷ [])
    (AtPlace p (extend (correct x)) ∷ AtPlace accumulator (carry u) ∷ AtPlace program_counter (next_address s + 1) ∷ [])))))
    (changes t (cond b (AtPlace p y ∷ []) (cond d (AtPlace program_counter (next_address t + 1) ∷ [])
    (cond e (AtPlace p (extend (correct y)) ∷ AtPlace accumulator (carry v) ∷ [])
    (AtPlace p (extend (correct y)) ∷ AtPlace accumulator (carry v) ∷ AtPlace program_counter (next_address t + 1) ∷ [])))))
ts_by r s o t p x y u v true d e m over same = one r s o t p (a ∷ []) x y same
ts_by r s o t p x y u v false true e m over same = one r s o t program_counter [] (next_address s + 1) (next_address t + 1)
    (λ _ i. nxt r s o t m i + 1)
ts_by r s o t p x y u v false false true m over same =
    two r s o t p (a ∷ []) (extend (correct x)) (extend (correct y)) (λ h i. extend (correct (same h i))) accumulator [] (carry u) (carry v)
    (λ _ i. carry (over i))
ts_by r s o t p x y u v false false false m over same =
    tracks_place r s o t (by (to_place p (a ∷ []) ∷ to_place accumulator [] ∷ [])) []
    (changes s (AtPlace p (extend (correct x)) ∷ AtPlace accumulator (carry u) ∷ []))
    (changes t (AtPlace p (extend (correct y)) ∷ AtPlace accumulator (carry v) ∷ []))
    program_counter (next_address s + 1) (next_address t + 1)
    (two r s o t p (a ∷ []) (extend (correct x)) (extend (correct y)) (λ h i. extend (correct (same h i))) accumulator [] (carry u)
    (carry v) (λ _ i. carry (over i)))
    (λ _ i. nxt r s o t m i + 1)

transfers : (r : Words) (s : State) (o : Words) (t : State) (p : ℕ) → at s.cells program_counter ≡ at t.cells program_counter
    → over (accumulator_of s) ≡ over (accumulator_of t)
    → Tracks r s o t (by (ts_flows (over (accumulator_of s)) p))
    (changes s (ts_of (accumulator_of s) (next_address s + 1) p)) (changes t (ts_of (accumulator_of t) (next_address t + 1) p))
transfers r s o t p m e = λ c h.
    let x = accumulator_of s in
    let y = accumulator_of t in
    ts_by r s o t p x y (over x) (over y) (not (has_overflow (over x))) (p == accumulator) (p == program_counter) m e (λ h. acc r s o t h.0)
    c h
    ∙ ap (λ b. at (changes t (ts_list y (next_address t + 1) p b (p == accumulator) (p == program_counter))).cells c)
    (λ i. not (has_overflow (e i)))

-- each instruction
pub follows : (r : Words) (s : State) (o : Words) (t : State) (lead : ℕ → Linear) (i : Instruction) (k : ℕ) → Twins s t lead
    → overflow_in i s ≡ overflow_in i t → Follows r s o t lead i k
unfolding after resume tc ccs tcf das lxch incr ads ca cs index dxch ts xch ad mask read write rand wand ror wor rxor dv bzf msu qxch aug
    dim dca dcs su bzmf mp relint inhint
follows r s o t lead Relint k w same = tracks_start r s o t
follows r s o t lead Inhint k w same = tracks_start r s o t
follows r s o t lead Extend k w same = tracks_start r s o t
follows r s o t lead Resume k w same =
    one r s o t program_counter (Cell interrupted_address ∷ []) (get s.cells interrupted_address) (get t.cells interrupted_address)
    (get_same r s o t interrupted_address)
follows r s o t lead Tc k w same = tc_by r s o t k (k == return_address) w.zs
follows r s o t lead Ccs k w same = counts r s o t lead k w
follows r s o t lead Tcf k w same = one r s o t program_counter [] k k (λ h. refl)
follows r s o t lead Das k w same =
    at_two_places r s o t lead (first_of greatest_short k) k w (λ p q. das_flows_by p q (p == accumulator))
    (λ u p q. das_by u p q (p == accumulator)) (λ p q. sums r s o t p q (p == accumulator))
follows r s o t lead Lxch k w same = swaps lower_accumulator r s o t lead k w
follows r s o t lead Incr k w same = grows (λ x. sum x 1) r s o t lead k w
follows r s o t lead Ads k w same = adds_to r s o t lead k w
follows r s o t lead Ca k w same = loads (λ x. x) r s o t lead k w
follows r s o t lead Cs k w same = loads neg_wide r s o t lead k w
follows r s o t lead Index k w same = reads r s o t lead k w (λ l. []) (λ u l x. WaitsWithSum x ∷ []) (λ l v. tracks_start r s o t)
follows r s o t lead Dxch k w same = at_two_places r s o t lead (first_of greatest_short k) k w dxch_flows exchanged_two
    (exchanges_two r s o t)
follows r s o t lead Ts k w same =
    at_place r s o t lead k w (ts_flows (over (accumulator_of s))) (λ u p. changes u (ts_of (accumulator_of u) (next_address u + 1) p))
    (λ p. transfers r s o t p w.zs same)
follows r s o t lead Xch k w same = swaps accumulator r s o t lead k w
follows r s o t lead Ad k w same = combines (λ l. sum) r s o t lead k w
follows r s o t lead Mask k w same = combines (λ l. bitwise and_sum (is_whole l)) r s o t lead k w
follows r s o t lead Read n w same = one r s o t accumulator (channel_spots n) (get_channel s.cells n) (get_channel t.cells n)
    (channel_same r s o t n)
follows r s o t lead Write n w same =
    tracks_channel r s o t here (a ∷ []) s t n (accumulator_of s) (accumulator_of t) (tracks_start r s o t) (λ h. acc r s o t h.0)
follows r s o t lead Rand n w same = joins and_sum r s o t n
follows r s o t lead Wand n w same = joins_both and_sum r s o t n
follows r s o t lead Ror n w same = joins or_sum r s o t n
follows r s o t lead Wor n w same = joins_both or_sum r s o t n
follows r s o t lead Rxor n w same = joins xor_sum r s o t n
follows r s o t lead Edrupt n w same = tracks_start r s o t
follows r s o t lead Dv k w same = divides r s o t lead k w
follows r s o t lead Bzf k w same =
    branches r s o t k (is_at_zero s) (is_at_zero t) w.zs (λ h i. is_zero (acc r s o t h.0 i))
follows r s o t lead Msu k w same = combines (λ l x y. extend (modular_difference (correct x) (correct y))) r s o t lead k w
follows r s o t lead Qxch k w same = swaps return_address r s o t lead k w
follows r s o t lead Aug k w same = grows (λ x. sum x (cond (is_minus_wide x) (neg_wide 1) 1)) r s o t lead k w
follows r s o t lead Dim k w same = at_place r s o t lead k w (λ p. to_place p (place_spots p) ∷ []) dim_by (dims r s o t)
follows r s o t lead Dca k w same = loads_pair (λ x. x) r s o t lead k w
follows r s o t lead Dcs k w same = loads_pair neg_wide r s o t lead k w
follows r s o t lead Su k w same = combines (λ l x y. sum x (neg_wide y)) r s o t lead k w
follows r s o t lead Bzmf k w same =
    branches r s o t k (is_at_zero_or_minus s) (is_at_zero_or_minus t) w.zs
    (λ h i. is_zero (acc r s o t h.0 i) || is_minus_wide (acc r s o t h.0 i))
follows r s o t lead Mp k w same = multiplies r s o t lead k w
