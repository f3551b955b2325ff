-- Where an instruction leads that goes as its word tells.
use Rattle.std.proofs.Common.{◌≡◌, ◌≢◌, ℕ, zero, suc, ◌+◌, ◌-◌, ◌*◌, ◌/◌, ◌%◌, ◌<◌, ◌≤◌, ◌==◌, ◌&&◌, ◌⊎◌, Bool, true, false}
use Rattle.std.proofs.Common.{cond, not, List, [], ◌∷◌, ◌++◌, Option, Some, None, refl, sym, ap, subst, ◌∙◌, inl, inr, arith, nat_lt}
use Rattle.std.specs.Prelude.{is_some, nat_le}
use Rattle.std.specs.List.{list_any}
use Rattle.std.proofs.lemmas.Bool.{cases_Bool, cases_lt, or_parts}
use Rattle.std.proofs.lemmas.Bool.Decides.{nat_tests}
use Rattle.words.specs.Numbers.{correct, dabs, extend}
use Rattle.words.specs.Signs.{over}
use Rattle.words.specs.declared.wide.Overflow.TheVariants.{No}
use Rattle.rope.specs.Places.{Words}
use Rattle.space.specs.Cells.{Cells, accumulator, at, channel_cell, cycle_right, edit_opcode, fixed_bank, get, kept, program_counter, put}
use Rattle.space.specs.Cells.{return_address, superbank, superbank_channel}
use Rattle.space.specs.Places.{place, selected_bank}
use Rattle.space.specs.declared.place.Linear.{Linear}
use Rattle.space.specs.declared.place.Linear.TheVariants.{Erasable, Fixed}
use Rattle.space.proofs.CellLaws.{at-put, at-put_other}
use Rattle.cpu.specs.declared.instruction.Instruction.{Instruction}
use Rattle.cpu.specs.declared.instruction.Instruction.TheVariants.{Bzf, Bzmf, Ccs, Dca, Dcs, Extend, Index, Resume, Tc, Tcf, Ts}
use Rattle.cpu.specs.State.{State}
use Rattle.cpu.specs.Operands.{address_of}
use Rattle.cpu.specs.Effects.{accumulator_of, after, bzf, bzmf, ccs, ccs_skip, changes, carry, edits, erasable_in, erasable_number}
use Rattle.cpu.specs.Effects.{has_overflow, is_at_zero, is_at_zero_or_minus, next_address, operand, place_in, tc, tcf, ts}
use Rattle.cpu.specs.Effects.Change.{AtPlace}
use Rattle.cpu.specs.Links.{Flow, flows_of, is_in, overflow_in, place_cells, targets_by}
use Rattle.cpu.specs.Next.{following_address}
use Rattle.cpu.proofs.Flowing.{put_miss}
use Rattle.cpu.proofs.Following.{ts_list}
use Rattle.cpu.proofs.Linking.{fetched_by, fetched_place}
use Rattle.cpu.proofs.Leaving.{Spared, leaves}
use Rattle.cpu.proofs.Trails.{not_first, not_second}
use Rattle.reach.specs.declared.spot.How.{How}
use Rattle.reach.specs.declared.spot.How.TheVariants.{Executes, Reads}
use Rattle.reach.specs.declared.spot.Spot.{Spot}
use Rattle.reach.specs.Ways.{Among, at_address, further, is_register, kind_of, leads_by, named, plain, second}
use Rattle.reach.specs.Ways.{spot, target}
use Rattle.reach.specs.Runs.{is_told, opens, spot_at, spot_of, steers}
use Rattle.reach.proofs.Lists.{among_left, among_right}

-- ## Places
bank_part : Linear → ℕ
bank_part (Erasable p) = 0
bank_part (Fixed bank offset) = bank

fixed_part : Linear → ℕ
fixed_part (Erasable p) = 0
fixed_part (Fixed bank offset) = 1

pub same_bank : (b o c n : ℕ) → Fixed b o ≡ Fixed c n → b ≡ c
unfolding bank_part
same_bank b o c n e = ap bank_part e

never_both : (p b o : ℕ) → Erasable p ≡ Fixed b o → ⊥
unfolding fixed_part
never_both p b o e = let not_so : 0 ≡ 1 = ap fixed_part e in absurd (omega (arith, not_so))

low_place : (a eb fb : ℕ) (sup : Bool) (b o : ℕ) → a < 1024 → place a eb fb sup ≡ Fixed b o → ⊥
unfolding place
low_place a eb fb sup b o lt e =
    let second : nat_lt a 0o2000 ≡ true = grind (arith, nat_tests) in
    elim (cases_Bool (nat_lt a 0o1400)) [
      | inl so ↦ never_both a b o (rw so at e)
      | inr not_so ↦ never_both (eb * 0o400 + (a - 0o1400)) b o (rw (not_so, second) at e)
    ]

pub window_place : (a eb fb : ℕ) (sup : Bool) → 1024 ≤ a → a < 2048 → place a eb fb sup ≡ Fixed (selected_bank fb sup) (a - 0o2000)
unfolding place
window_place a eb fb sup le lt =
    let first : nat_lt a 0o1400 ≡ false = grind (arith, nat_tests) in
    let second : nat_lt a 0o2000 ≡ false = grind (arith, nat_tests) in
    let third : nat_lt a 0o4000 ≡ true = grind (arith, nat_tests) in
    rw (first, second, third) refl

high_place : (a eb fb : ℕ) (sup : Bool) (b o : ℕ) → 2048 ≤ a → a < 4096 → place a eb fb sup ≡ Fixed b o → b ≡ a / 1024
unfolding place
high_place a eb fb sup b o le lt e =
    let first : nat_lt a 0o1400 ≡ false = grind (arith, nat_tests) in
    let second : nat_lt a 0o2000 ≡ false = grind (arith, nat_tests) in
    let third : nat_lt a 0o4000 ≡ false = grind (arith, nat_tests) in
    elim (cases_lt a 0o6000) [
      | inl below ↦ (
          let fourth : nat_lt a 0o6000 ≡ true = grind (arith, nat_tests) in
          let two : a / 1024 ≡ 2 = omega arith in
          sym (same_bank 2 (a - 0o4000) b o (rw (first, second, third, fourth) at e)) ∙ sym two)
      | inr above ↦ (
          let fourth : nat_lt a 0o6000 ≡ false = grind (arith, nat_tests) in
          let three : a / 1024 ≡ 3 = omega arith in
          sym (same_bank 3 (a - 0o6000) b o (rw (first, second, third, fourth) at e)) ∙ sym three)
    ]

-- ## Spots of states
pub record Shape (s : State) (p : Spot) : Type 0 where
  pub word : s.waiting_word ≡ None
  pub address : p.address ≡ next_address s
  pub how : p.how ≡ Executes s.extra (is_some s.waiting_sum)
  pub offset : ℕ
  pub there : place_in s (next_address s) ≡ Fixed p.bank offset

some_is : (p q : Spot) → Some p ≡ Some q → p ≡ q
some_is p q e = cc

shape_by : (s : State) (p : Spot) (w : Option ℕ) (l : Linear) → s.waiting_word ≡ w → place_in s (next_address s) ≡ l
    → cond (is_some w) None (spot_at l (next_address s) (Executes s.extra (is_some s.waiting_sum))) ≡ Some p → Shape s p
shape_by s p (Some word) l ew el e = absurd (cc)
shape_by s p None (Erasable n) ew el e = absurd (cc)
shape_by s p None (Fixed bank offset) ew el e =
    let is = some_is (spot bank (next_address s) (Executes s.extra (is_some s.waiting_sum))) p e in
    record {
      word = ew;
      address = sym (ap (λ (q : Spot). q.address) is);
      how = sym (ap (λ (q : Spot). q.how) is);
      offset = offset;
      there = el ∙ ap (λ (q : Spot). Fixed q.bank offset) is;
    }

pub shape : (s : State) (p : Spot) → spot_of s ≡ Some p → Shape s p
unfolding spot_of
shape s p e = shape_by s p s.waiting_word (place_in s (next_address s)) refl refl e

-- ## Landing
-- where an address leads from p
pub record Lands (s : State) (p : Spot) (u : State) (how : How) (ways : List Spot) : Type 0 where
  pub to : ℕ
  pub z : next_address u ≡ to
  pub low : to < 4096
  pub near : (to < 1024) ⊎ ((2048 ≤ to) ⊎ (p.address < 2048))
  pub among : (q : Spot) → Among q (at_address p to how) → Among q ways
  pub fb : p.address < 2048 → at u.cells fixed_bank ≡ at s.cells fixed_bank
  pub sup : p.address < 2048 → superbank u.cells ≡ superbank s.cells

same_parts : (q : Spot) (bank address : ℕ) (how : How) → q.bank ≡ bank → q.address ≡ address → q.how ≡ how → q ≡ spot bank address how
same_parts q bank address how b a h = λ j. record { bank = b j; address = a j; how = h j }

window_near : (to z : ℕ) → 1024 ≤ to → to < 2048 → (to < 1024) ⊎ ((2048 ≤ to) ⊎ (z < 2048)) → z < 2048
window_near to z le lt (inl low) = absurd (omega (arith, le, low))
window_near to z le lt (inr (inl high)) = absurd (omega (arith, lt, high))
window_near to z le lt (inr (inr near)) = near

-- the address of a spot is no address of erasable memory
fixed_from : (s : State) (p : Spot) → Shape s p → 1024 ≤ next_address s
unfolding place_in
fixed_from s p h = elim (cases_lt (next_address s) 1024) [
  | inl low ↦ absurd (low_place (next_address s) _ _ _ p.bank h.offset low h.there)
  | inr le ↦ le
]

bank_is : (s : State) (p : Spot) → Shape s p → p.address < 2048 → selected_bank (at s.cells fixed_bank) (superbank s.cells) ≡ p.bank
unfolding place_in
bank_is s p h lt =
    let a = next_address s in
    let below : a < 2048 = omega (arith, lt, h.address) in
    same_bank _ _ p.bank h.offset (sym (window_place a _ _ _ (fixed_from s p h) below) ∙ h.there)

pub landed : (s t : State) (p q : Spot) (how : How) (ways : List Spot) → Shape s p → Shape t q → q.how ≡ how → Lands s p t how ways
    → Among q (at_address p (next_address t) how)
unfolding place_in
landed s t p q how ways hs ht h l =
    let to = next_address t in
    let high : to < 4096 = omega (arith, l.z, l.low) in
    let near : (to < 1024) ⊎ ((2048 ≤ to) ⊎ (p.address < 2048)) = subst (λ (n : ℕ). (n < 1024) ⊎ ((2048 ≤ n) ⊎ (p.address < 2048)))
    (sym l.z) l.near in
    let le = fixed_from t q ht in
    let first : nat_lt to 0o2000 ≡ false = grind (arith, nat_tests) in
    elim (cases_lt to 2048) [
      | inl below ↦ (
          let second : nat_lt to 0o4000 ≡ true = grind (arith, nat_tests) in
          let by : p.address < 2048 = window_near to p.address le below near in
          let third : nat_lt p.address 0o4000 ≡ true = grind (arith, nat_tests) in
          let bank : q.bank ≡ p.bank =
          same_bank q.bank ht.offset _ _ (sym ht.there ∙ window_place to _ _ _ le below)
          ∙ ap (λ (n : ℕ). selected_bank n (superbank t.cells)) (l.fb by)
          ∙ ap (λ (b : Bool). selected_bank (at s.cells fixed_bank) b) (l.sup by) ∙ bank_is s p hs by in
          rw (first, second, third) (inl (same_parts q p.bank to how bank ht.address h)))
      | inr above ↦ (
          let second : nat_lt to 0o4000 ≡ false = grind (arith, nat_tests) in
          let bank : q.bank ≡ to / 0o2000 = high_place to _ _ _ q.bank ht.offset above high ht.there in
          rw (first, second) (inl (same_parts q (to / 0o2000) to how bank ht.address h)))
    ]

-- ## Cells
stored : (c : Cells) (y : ℕ) → at (put c program_counter y) program_counter ≡ correct y % 4096
unfolding kept
stored c y = at-put c program_counter y (λ e. omega arith) (λ e. omega arith)

small : (n : ℕ) → n < 16384 → correct n % 4096 ≡ n % 4096
small n lt = grind (arith, nat_tests)

-- what Z holds is the next address
z_is : (s : State) (n : ℕ) → at s.cells program_counter ≡ n → n < 4096 → next_address s ≡ n
unfolding get
z_is s n e lt = ap extend e ∙ plain_extend n lt
  where
    plain_extend : (n : ℕ) → n < 4096 → extend n ≡ n
    plain_extend n lt = grind (arith, nat_tests)

fetched_z_by : (s : State) (w : Option ℕ) → w ≡ None → at (fetched_by s w).cells program_counter ≡ (next_address s + 1) % 4096
fetched_z_by s (Some w) e = absurd (cc)
fetched_z_by s None e = stored s.cells (following_address s) ∙ small (following_address s) (omega arith)
    ∙ rest ((next_address s + 1) % 4096) (omega arith)
  where
    rest : (n : ℕ) → n < 4096 → n % 4096 ≡ n
    rest n lt = omega arith

fetched_cell_by : (s : State) (w : Option ℕ) (c : ℕ) → c ≢ program_counter → at (fetched_by s w).cells c ≡ at s.cells c
fetched_cell_by s (Some w) c ne = refl
fetched_cell_by s None c ne = at-put_other s.cells program_counter (following_address s) c (λ e. omega arith) ne

-- cells that no flow is into
spared : (c : ℕ) (fs : List Flow) → is_in c (targets_by fs) ≡ false → Spared c fs
spared c [] h = tt
spared c (f ∷ fs) h = (not_first c f.into (targets_by fs) h, spared c fs (not_second c f.into (targets_by fs) h))

none_in : (p : Spot) (c : ℕ) (xs : List ℕ) → steers p c ≡ true → list_any (steers p) xs ≡ false → is_in c xs ≡ false
none_in p c [] s h = refl
none_in p c (x ∷ xs) s h =
    let parts = or_parts (steers p x) (list_any (steers p) xs) h in
    let rest = none_in p c xs s parts.1 in
    elim (cases_Bool (c == x)) [
      | inl same ↦ absurd (let is : c ≡ x = grind (arith, nat_tests) in let never : true ≡ false = sym s ∙ ap (steers p) is ∙ parts.0 in cc)
      | inr apart ↦ rw (apart, rest) refl
    ]

steers_fb : (p : Spot) → p.address < 2048 → steers p fixed_bank ≡ true
steers_fb p lt = let below : nat_lt p.address 0o4000 ≡ true = grind (arith, nat_tests) in rw below refl

steers_sup : (p : Spot) → p.address < 2048 → steers p (channel_cell superbank_channel) ≡ true
steers_sup p lt = let below : nat_lt p.address 0o4000 ≡ true = grind (arith, nat_tests) in rw below refl

sup_is : (c d : Cells) → at c (channel_cell superbank_channel) ≡ at d (channel_cell superbank_channel) → superbank c ≡ superbank d
unfolding superbank
sup_is c d e = ap (λ (n : ℕ). n / 0o100 % 2 == 1) e

-- ## Instructions
near_next : (z n : ℕ) → z < 4096 → n ≤ 4 → ((z + n) % 4096 < 1024) ⊎ ((2048 ≤ (z + n) % 4096) ⊎ (z < 2048))
near_next z n lt few = elim (cases_lt z 2048) [
  | inl below ↦ inr (inr below)
  | inr above ↦ elim (cases_lt (z + n) 4096) [
    | inl within ↦ inr (inl (omega arith))
    | inr beyond ↦ inl (omega arith)
  ]
]

-- so many addresses further, where nothing else that steers is written
lands_further : (s : State) (p : Spot) (u : State) (n : ℕ) (how : How) (ways : List Spot) → Shape s p → next_address s < 4096 → n ≤ 4
    → at u.cells program_counter ≡ (next_address s + n) % 4096
    → (p.address < 2048 → at u.cells fixed_bank ≡ at s.cells fixed_bank)
    → (p.address < 2048 → at u.cells (channel_cell superbank_channel) ≡ at s.cells (channel_cell superbank_channel))
    → ((q : Spot) → Among q (further p n how) → Among q ways) → Lands s p u how ways
lands_further s p u n how ways h lt few z fb sup among = record {
  to = (p.address + n) % 4096;
  z = z_is u _ (z ∙ ap (λ (a : ℕ). (a + n) % 4096) (sym h.address)) (omega arith);
  low = omega arith;
  near = near_next p.address n (omega (arith, h.address, lt)) few;
  among = among;
  fb = fb;
  sup = λ below. sup_is u.cells s.cells (sup below);
}

-- an instruction that writes nothing that steers
passes : (r : Words) (s : State) (p : Spot) (i : Instruction) (k : ℕ) (how : How) (ways : List Spot) → Shape s p → next_address s < 4096
    → list_any (steers p) (targets_by (flows_of (place_in s) No i k)) ≡ false → overflow_in i (fetched_by s s.waiting_word) ≡ No
    → ((q : Spot) → Among q (further p 1 how) → Among q ways) → Lands s p (after r (fetched_by s s.waiting_word) i k) how ways
unfolding place_in
passes r s p i k how ways h lt none over among =
    let f = fetched_by s s.waiting_word in
    let leave : (c : ℕ) → steers p c ≡ true → at (after r f i k).cells c ≡ at f.cells c = λ c st.
    leaves r f (place_in s) i k (λ j. fetched_place s s.waiting_word j) c
    (subst (λ o. Spared c (flows_of (place_in s) o i k)) (sym over)
    (spared c (flows_of (place_in s) No i k) (none_in p c (targets_by (flows_of (place_in s) No i k)) st none))) in
    lands_further s p (after r f i k) 1 how ways h lt (omega arith)
    (leave program_counter refl ∙ fetched_z_by s s.waiting_word h.word)
    (λ below. leave fixed_bank (steers_fb p below) ∙ fetched_cell_by s s.waiting_word fixed_bank (λ e. omega arith))
    (λ below. leave (channel_cell superbank_channel) (steers_sup p below)
    ∙ fetched_cell_by s s.waiting_word (channel_cell superbank_channel) (λ e. omega arith))
    among

-- what is read at an editing place goes there again, which is no register
edits_spare : (u : State) (l : Linear) (x c : ℕ) → (c < 16) ⊎ (19 < c) → at (changes u (edits l x)).cells c ≡ at u.cells c
unfolding edits
edits_spare u (Fixed bank offset) x c away = refl
edits_spare u (Erasable p) x c away = go (nat_le cycle_right p && nat_le p edit_opcode) refl
  where
    go : (b : Bool) → (nat_le cycle_right p && nat_le p edit_opcode) ≡ b
        → at (changes u (cond b (AtPlace p x ∷ []) [])).cells c ≡ at u.cells c
    go false e = refl
    go true e =
        let low : 16 ≤ p = grind (arith, nat_tests) in
        let high : p ≤ 19 = grind (arith, nat_tests) in
        at-put_other u.cells p x c (λ six. omega (arith, low, six)) (λ same. apart away low high same)
      where
        apart : (c < 16) ⊎ (19 < c) → 16 ≤ p → p ≤ 19 → c ≡ p → ⊥
        apart (inl below) low high same = omega (arith, below, low, same)
        apart (inr above) low high same = omega (arith, above, high, same)

-- CCS
ccs_z : (r : Words) (f : State) (k : ℕ) → at (after r f Ccs k).cells program_counter
    ≡ correct (next_address f + ccs_skip (operand r f k)) % 4096
unfolding after ccs
ccs_z r f k =
    let x = operand r f k in
    let u = record f { cells = put (put f.cells accumulator (dabs x)) program_counter (next_address f + ccs_skip x) } in
    edits_spare u (place_in f k) x program_counter (inl (omega arith))
    ∙ stored (put f.cells accumulator (dabs x)) (next_address f + ccs_skip x)

ccs_cell : (r : Words) (f : State) (k c : ℕ) → c ≢ accumulator → c ≢ program_counter → (c < 16) ⊎ (19 < c)
    → at (after r f Ccs k).cells c ≡ at f.cells c
unfolding after ccs
ccs_cell r f k c na nz away =
    let x = operand r f k in
    let u = record f { cells = put (put f.cells accumulator (dabs x)) program_counter (next_address f + ccs_skip x) } in
    edits_spare u (place_in f k) x c away
    ∙ at-put_other (put f.cells accumulator (dabs x)) program_counter (next_address f + ccs_skip x) c (λ e. omega arith) nz
    ∙ at-put_other f.cells accumulator (dabs x) c (λ e. omega arith) na

skip_few : (x : ℕ) → ccs_skip x ≤ 3
skip_few x = grind (arith, nat_tests)

-- the address after the fetch
fetched_next : (s : State) → s.waiting_word ≡ None → next_address (fetched_by s s.waiting_word) ≡ (next_address s + 1) % 4096
fetched_next s e = z_is (fetched_by s s.waiting_word) _ (fetched_z_by s s.waiting_word e) (omega arith)

moved_on : (y z n : ℕ) → y ≡ (z + 1) % 4096 → n ≤ 4 → correct (y + n) % 4096 ≡ (z + (n + 1)) % 4096
moved_on y z n e few = small (y + n) (omega (arith, e, few)) ∙ wrap y z n e
  where
    wrap : (y z n : ℕ) → y ≡ (z + 1) % 4096 → (y + n) % 4096 ≡ (z + (n + 1)) % 4096
    wrap y z n e = omega arith

among_four : (q : Spot) (a b c d : List Spot) (n : ℕ) (xs : List Spot) → n ≤ 3 → (n ≡ 0 → xs ≡ a) → (n ≡ 1 → xs ≡ b) → (n ≡ 2 → xs ≡ c)
    → (n ≡ 3 → xs ≡ d)
    → Among q xs → Among q (a ++ b ++ c ++ d)
among_four q a b c d zero xs few e0 e1 e2 e3 h = among_left q (a ++ b ++ c) d
    (among_left q (a ++ b) c (among_left q a b (subst (λ ys. Among q ys) (e0 refl) h)))
among_four q a b c d (suc zero) xs few e0 e1 e2 e3 h = among_left q (a ++ b ++ c) d
    (among_left q (a ++ b) c (among_right q a b (subst (λ ys. Among q ys) (e1 refl) h)))
among_four q a b c d (suc (suc zero)) xs few e0 e1 e2 e3 h = among_left q (a ++ b ++ c) d
    (among_right q (a ++ b) c (subst (λ ys. Among q ys) (e2 refl) h))
among_four q a b c d (suc (suc (suc zero))) xs few e0 e1 e2 e3 h = among_right q (a ++ b ++ c) d (subst (λ ys. Among q ys) (e3 refl) h)
among_four q a b c d (suc (suc (suc (suc n)))) xs few e0 e1 e2 e3 h = absurd (omega (arith, few))

skips : (r : Words) (s : State) (p : Spot) (k : ℕ) → Shape s p → next_address s < 4096
    → Lands s p (after r (fetched_by s s.waiting_word) Ccs k) plain
    (further p 1 plain ++ further p 2 plain ++ further p 3 plain ++ further p 4 plain)
skips r s p k h lt =
    let f = fetched_by s s.waiting_word in
    let n = ccs_skip (operand r f k) in
    let few = skip_few (operand r f k) in
    lands_further s p (after r f Ccs k) (n + 1) plain _ h lt (omega (arith, few))
    (ccs_z r f k ∙ moved_on (next_address f) (next_address s) n (fetched_next s h.word) (omega (arith, few)))
    (λ below. ccs_cell r f k fixed_bank (λ e. omega arith) (λ e. omega arith) (inl (omega arith))
    ∙ fetched_cell_by s s.waiting_word fixed_bank (λ e. omega arith))
    (λ below. ccs_cell r f k (channel_cell superbank_channel) (λ e. omega arith) (λ e. omega arith) (inr (omega arith))
    ∙ fetched_cell_by s s.waiting_word (channel_cell superbank_channel) (λ e. omega arith))
    (λ q g. among_four q (further p 1 plain) (further p 2 plain) (further p 3 plain) (further p 4 plain) n (further p (n + 1) plain) few
    (λ e. ap (λ (m : ℕ). further p (m + 1) plain) e) (λ e. ap (λ (m : ℕ). further p (m + 1) plain) e)
    (λ e. ap (λ (m : ℕ). further p (m + 1) plain) e) (λ e. ap (λ (m : ℕ). further p (m + 1) plain) e) g)

-- TS
ts_cell : (f : State) (x m n c : ℕ) (b d e : Bool) → is_in c (place_cells m) ≡ false → c ≢ accumulator → c ≢ program_counter
    → at (changes f (ts_list x n m b d e)).cells c ≡ at f.cells c
ts_cell f x m n c true d e h na nz = put_miss f.cells m x c h
ts_cell f x m n c false true e h na nz = at-put_other f.cells program_counter n c (λ e. omega arith) nz
ts_cell f x m n c false false true h na nz =
    at-put_other (put f.cells m (extend (correct x))) accumulator (carry (over x)) c (λ e. omega arith) na
    ∙ put_miss f.cells m (extend (correct x)) c h
ts_cell f x m n c false false false h na nz =
    at-put_other (put (put f.cells m (extend (correct x))) accumulator (carry (over x))) program_counter n c (λ e. omega arith) nz
    ∙ at-put_other (put f.cells m (extend (correct x))) accumulator (carry (over x)) c (λ e. omega arith) na
    ∙ put_miss f.cells m (extend (correct x)) c h

ts_z : (f : State) (x m n : ℕ) (b d e : Bool) → is_in program_counter (place_cells m) ≡ false
    → (at (changes f (ts_list x n m b d e)).cells program_counter ≡ at f.cells program_counter) ⊎
    (at (changes f (ts_list x n m b d e)).cells program_counter ≡ correct n % 4096)
ts_z f x m n true d e h = inl (put_miss f.cells m x program_counter h)
ts_z f x m n false true e h = inr (stored f.cells n)
ts_z f x m n false false true h =
    inl (at-put_other (put f.cells m (extend (correct x))) accumulator (carry (over x)) program_counter (λ e. omega arith)
    (λ e. omega arith) ∙ put_miss f.cells m (extend (correct x)) program_counter h)
ts_z f x m n false false false h = inr (stored (put (put f.cells m (extend (correct x))) accumulator (carry (over x))) n)

stores : (r : Words) (s : State) (p : Spot) (k : ℕ) (ways : List Spot) → Shape s p → next_address s < 4096
    → list_any (steers p) (targets_by (flows_of (place_in s) No Ts k)) ≡ false
    → ((q : Spot) → Among q (further p 1 plain ++ further p 2 plain) → Among q ways)
    → Lands s p (after r (fetched_by s s.waiting_word) Ts k) plain ways
unfolding after ts erasable_in place_in
stores r s p k ways h lt none among =
    let f = fetched_by s s.waiting_word in
    let m = erasable_number (place_in f k) in
    let same : m ≡ erasable_number (place_in s k) = ap erasable_number (fetched_place s s.waiting_word k) in
    let x = accumulator_of f in
    let n = next_address f + 1 in
    let miss : (c : ℕ) → steers p c ≡ true → is_in c (place_cells m) ≡ false = λ c st.
    subst (λ (j : ℕ). is_in c (place_cells j) ≡ false) (sym same)
    (none_of c (place_cells (erasable_number (place_in s k))) (none_in p c _ st none)) in
    let u = changes f (ts_list x n m (not (has_overflow (over x))) (m == accumulator) (m == program_counter)) in
    let fb : p.address < 2048 → at u.cells fixed_bank ≡ at s.cells fixed_bank = λ below.
    ts_cell f x m n fixed_bank (not (has_overflow (over x))) (m == accumulator) (m == program_counter) (miss fixed_bank (steers_fb p below))
    (λ e. omega arith) (λ e. omega arith)
    ∙ fetched_cell_by s s.waiting_word fixed_bank (λ e. omega arith) in
    let sup : p.address < 2048 → at u.cells (channel_cell superbank_channel) ≡ at s.cells (channel_cell superbank_channel) = λ below.
    ts_cell f x m n (channel_cell superbank_channel) (not (has_overflow (over x))) (m == accumulator) (m == program_counter)
    (miss (channel_cell superbank_channel) (steers_sup p below)) (λ e. omega arith) (λ e. omega arith)
    ∙ fetched_cell_by s s.waiting_word (channel_cell superbank_channel) (λ e. omega arith) in
    elim (ts_z f x m n (not (has_overflow (over x))) (m == accumulator) (m == program_counter) (miss program_counter refl)) [
      | inl stays ↦ lands_further s p u 1 plain ways h lt (omega arith) (stays ∙ fetched_z_by s s.waiting_word h.word) fb sup
          (λ q g. among q (among_left q (further p 1 plain) (further p 2 plain) g))
      | inr skips ↦ lands_further s p u 2 plain ways h lt (omega arith)
          (skips ∙ moved_on (next_address f) (next_address s) 1 (fetched_next s h.word) (omega arith)) fb sup
          (λ q g. among q (among_right q (further p 1 plain) (further p 2 plain) g))
    ]
  where
    none_of : (c : ℕ) (xs : List ℕ) → is_in c (xs ++ []) ≡ false → is_in c xs ≡ false
    none_of c xs e = not_first c xs [] e

-- jumps
told_parts : (p : Spot) (indexed : Bool) (k : ℕ) → not (is_told p indexed k) ≡ false
    → (indexed ≡ false) × ((2048 ≤ k) ⊎ ((1024 ≤ k) × (p.address < 2048)))
told_parts p true k e = absurd (cc)
told_parts p false k e = (
  refl,
  elim (cases_lt k 2048) [
    | inr above ↦ inl above
    | inl below ↦ inr (grind (arith, nat_tests), grind (arith, nat_tests))
  ],
)

near_told : (p : Spot) (k : ℕ) → (2048 ≤ k) ⊎ ((1024 ≤ k) × (p.address < 2048)) → (k < 1024) ⊎ ((2048 ≤ k) ⊎ (p.address < 2048))
near_told p k (inl above) = inr (inl above)
near_told p k (inr within) = inr (inr within.1)

not_q : (p : Spot) (k : ℕ) → (2048 ≤ k) ⊎ ((1024 ≤ k) × (p.address < 2048)) → (k == return_address) ≡ false
not_q p k (inl above) = grind (arith, nat_tests)
not_q p k (inr within) = let low = within.0 in grind (arith, nat_tests)

lands_told : (s : State) (p : Spot) (u : State) (k : ℕ) (ways : List Spot) → k < 4096 → (2048 ≤ k) ⊎ ((1024 ≤ k) × (p.address < 2048))
    → at u.cells program_counter ≡ k
    → at u.cells fixed_bank ≡ at s.cells fixed_bank
    → at u.cells (channel_cell superbank_channel) ≡ at s.cells (channel_cell superbank_channel)
    → ((q : Spot) → Among q (at_address p k plain) → Among q ways) → Lands s p u plain ways
lands_told s p u k ways lt told z fb sup among = record {
  to = k;
  z = z_is u k z lt;
  low = lt;
  near = near_told p k told;
  among = among;
  fb = λ below. fb;
  sup = λ below. sup_is u.cells s.cells sup;
}

jumped_z : (c : Cells) (k : ℕ) → k < 4096 → at (put c program_counter k) program_counter ≡ k
jumped_z c k lt = stored c k ∙ small k (omega (arith, lt)) ∙ rest k lt
  where
    rest : (n : ℕ) → n < 4096 → n % 4096 ≡ n
    rest n lt = omega arith

jumped_cell : (s : State) (k c : ℕ) → c ≢ program_counter → at (put (fetched_by s s.waiting_word).cells program_counter k) c ≡ at s.cells c
jumped_cell s k c ne = at-put_other (fetched_by s s.waiting_word).cells program_counter k c (λ e. omega arith) ne
    ∙ fetched_cell_by s s.waiting_word c ne

jumps : (r : Words) (s : State) (p : Spot) (k : ℕ) (ways : List Spot) → k < 4096 → (2048 ≤ k) ⊎ ((1024 ≤ k) × (p.address < 2048))
    → ((q : Spot) → Among q (at_address p k plain) → Among q ways) → Lands s p (after r (fetched_by s s.waiting_word) Tcf k) plain ways
unfolding after tcf
jumps r s p k ways lt told among =
    let f = fetched_by s s.waiting_word in
    lands_told s p (record f { cells = put f.cells program_counter k }) k ways lt told (jumped_z f.cells k lt)
    (jumped_cell s k fixed_bank (λ e. omega arith)) (jumped_cell s k (channel_cell superbank_channel) (λ e. omega arith)) among

calls : (r : Words) (s : State) (p : Spot) (k : ℕ) (ways : List Spot) → k < 4096 → (2048 ≤ k) ⊎ ((1024 ≤ k) × (p.address < 2048))
    → ((q : Spot) → Among q (at_address p k plain) → Among q ways) → Lands s p (after r (fetched_by s s.waiting_word) Tc k) plain ways
unfolding after tc
calls r s p k ways lt told among =
    let f = fetched_by s s.waiting_word in
    let c = put f.cells return_address (next_address f) in
    let back : (n : ℕ) → n ≢ program_counter → n ≢ return_address → at (put c program_counter k) n ≡ at s.cells n = λ n nz nq.
    at-put_other c program_counter k n (λ e. omega arith) nz ∙ at-put_other f.cells return_address (next_address f) n (λ e. omega arith) nq
    ∙ fetched_cell_by s s.waiting_word n nz in
    subst (λ (b : Bool). Lands s p (changes f (cond b (AtPlace program_counter k ∷ [])
    (AtPlace return_address (next_address f) ∷ AtPlace program_counter k ∷ []))) plain ways) (sym (not_q p k told))
    (lands_told s p (record f { cells = put c program_counter k }) k ways lt told (jumped_z c k lt)
    (back fixed_bank (λ e. omega arith) (λ e. omega arith)) (back (channel_cell superbank_channel) (λ e. omega arith) (λ e. omega arith))
    among)

-- a branch jumps, or goes on
branches : (s : State) (p : Spot) (k : ℕ) (b : Bool) (ways : List Spot) → Shape s p → next_address s < 4096 → k < 4096
    → (2048 ≤ k) ⊎ ((1024 ≤ k) × (p.address < 2048))
    → ((q : Spot) → Among q (at_address p k plain) → Among q ways) → ((q : Spot) → Among q (further p 1 plain) → Among q ways)
    → Lands s p (changes (fetched_by s s.waiting_word) (cond b (AtPlace program_counter k ∷ []) [])) plain ways
branches s p k true ways h zl lt told there on =
    let f = fetched_by s s.waiting_word in
    lands_told s p (record f { cells = put f.cells program_counter k }) k ways lt told (jumped_z f.cells k lt)
    (jumped_cell s k fixed_bank (λ e. omega arith)) (jumped_cell s k (channel_cell superbank_channel) (λ e. omega arith)) there
branches s p k false ways h zl lt told there on =
    let f = fetched_by s s.waiting_word in
    lands_further s p f 1 plain ways h zl (omega arith) (fetched_z_by s s.waiting_word h.word)
    (λ below. fetched_cell_by s s.waiting_word fixed_bank (λ e. omega arith))
    (λ below. fetched_cell_by s s.waiting_word (channel_cell superbank_channel) (λ e. omega arith)) on

-- how the word is come to that follows an instruction
abbrev pub how_after : Bool → Instruction → How
how_after extra Index = Executes extra true
how_after extra Extend = Executes true false
how_after extra _ = plain

-- where no sum waits the address is that of the instruction which is executed
abbrev pub IsOwn : Bool → Instruction → ℕ → Option ℕ → Type 0
IsOwn indexed i k address = indexed ≡ false → address ≡ address_of (record { instruction = i; operand = k })

-- TS does not store in Z
apart_z : (s : State) (p : Spot) (k : ℕ) → list_any (steers p) (targets_by (flows_of (place_in s) No Ts k)) ≡ false
    → (program_counter == k) ≡ false
unfolding place_in place
apart_z s p k none = elim (cases_Bool (program_counter == k)) [
  | inr not_so ↦ not_so
  | inl so ↦ absurd (
      let is : k ≡ program_counter = grind (arith, nat_tests) in
      let never : true ≡ false = subst (λ (n : ℕ). list_any (steers p) (targets_by (flows_of (place_in s) No Ts n)) ≡ false) is none in
      cc)
]

stores_on : (s : State) (p : Spot) (k : ℕ) (indexed : Bool) (address : Option ℕ) → IsOwn indexed Ts k address
    → list_any (steers p) (targets_by (flows_of (place_in s) No Ts k)) ≡ false
    → (not indexed && is_register program_counter address) ≡ false
stores_on s p k true address own none = refl
stores_on s p k false address own none = rw (own refl) (apart_z s p k none)

-- each instruction that does not lead where its word does not tell
pub lands : (r : Words) (s : State) (p : Spot) (i : Instruction) (k : ℕ) (indexed : Bool) (address : Option ℕ) → Shape s p
    → next_address s < 4096 → k < 4096
    → IsOwn indexed i k address → opens (place_in s) p indexed i k ≡ false
    → Lands s p (after r (fetched_by s s.waiting_word) i k) (how_after s.extra i) (leads_by p s.extra indexed (kind_of i) address)
unfolding after bzf bzmf
lands r s p Tc k indexed address h zl lt own opened =
    let t = told_parts p indexed k opened in
    let is : address ≡ Some k = own t.0 in
    calls r s p k _ lt t.1 (λ q g. rw (t.0, is) (among_left q (at_address p k plain) _ g))
lands r s p Tcf k indexed address h zl lt own opened =
    let t = told_parts p indexed k opened in
    let is : address ≡ Some k = own t.0 in
    jumps r s p k _ lt t.1 (λ q g. rw (t.0, is) g)
lands r s p Bzf k indexed address h zl lt own opened =
    let t = told_parts p indexed k opened in
    let is : address ≡ Some k = own t.0 in
    branches s p k (is_at_zero (fetched_by s s.waiting_word)) _ h zl lt t.1
    (λ q g. rw (t.0, is) (among_left q (at_address p k plain) (further p 1 plain) g))
    (λ q g. among_right q (target p indexed address) (further p 1 plain) g)
lands r s p Bzmf k indexed address h zl lt own opened =
    let t = told_parts p indexed k opened in
    let is : address ≡ Some k = own t.0 in
    branches s p k (is_at_zero_or_minus (fetched_by s s.waiting_word)) _ h zl lt t.1
    (λ q g. rw (t.0, is) (among_left q (at_address p k plain) (further p 1 plain) g))
    (λ q g. among_right q (target p indexed address) (further p 1 plain) g)
lands r s p Ccs k indexed address h zl lt own opened = skips r s p k h zl
lands r s p Ts k indexed address h zl lt own opened =
    let on = stores_on s p k indexed address own opened in
    stores r s p k _ h zl opened (λ q g. rw on g)
lands r s p Index k indexed address h zl lt own opened =
    passes r s p Index k (Executes s.extra true) _ h zl opened refl
    (λ q g. among_left q (further p 1 (Executes s.extra true)) (named p address Reads) g)
lands r s p Extend k indexed address h zl lt own opened = passes r s p Extend k (Executes true false) _ h zl opened refl (λ q g. g)
lands r s p Resume k indexed address h zl lt own opened = absurd (cc)
lands r s p Dca k indexed address h zl lt own opened =
    passes r s p Dca k plain _ h zl opened refl
    (λ q g. among_left q (further p 1 plain ++ named p address Reads) (named p (second address) Reads)
    (among_left q (further p 1 plain) (named p address Reads) g))
lands r s p Dcs k indexed address h zl lt own opened =
    passes r s p Dcs k plain _ h zl opened refl
    (λ q g. among_left q (further p 1 plain ++ named p address Reads) (named p (second address) Reads)
    (among_left q (further p 1 plain) (named p address Reads) g))
lands r s p i k indexed address h zl lt own opened = passes r s p i k plain _ h zl opened refl
    (λ q g. among_left q (further p 1 plain) (named p address Reads) g)
