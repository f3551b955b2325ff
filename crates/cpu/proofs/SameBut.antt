-- Two states that are the same but for ZRUPT and BRUPT stay so after an instruction that names neither.
use Rattle.std.proofs.Common.{◌≡◌, ◌≢◌, ℕ, ◌/◌, ◌%◌, Bool, true, false, cond, ◌==◌, List, [], ◌∷◌, refl, ap, ◌∙◌, sym, subst, arith, rules}
use Rattle.words.specs.Numbers.{extend}
use Rattle.std.specs.FinMap as map'
use Rattle.rope.specs.Places.{Words}
use Rattle.space.specs.Cells.{Cells, lower_accumulator_channel, return_address_channel, at, get, put, get_channel, put_channel, superbank}
use Rattle.space.specs.Cells.{accumulator, lower_accumulator, return_address, erasable_bank, fixed_bank, program_counter, both_banks}
use Rattle.space.specs.Cells.{always_zero, channel_cell, superbank_channel}
use Rattle.space.specs.Places.{place}
use Rattle.space.specs.declared.place.Linear.{Linear}
use Rattle.space.specs.declared.place.Linear.TheVariants.{Erasable, Fixed}
use Rattle.cpu.specs.declared.instruction.Instruction.{Instruction}
use Rattle.cpu.specs.declared.instruction.Instruction.TheVariants.{Relint, Inhint, Extend, Resume, Tc, Ccs, Tcf, Das, Lxch, Incr, Ads, Ca}
use Rattle.cpu.specs.declared.instruction.Instruction.TheVariants.{Cs, Index, Dxch, Ts, Xch, Ad, Mask, Read, Write, Rand, Wand, Ror, Wor}
use Rattle.cpu.specs.declared.instruction.Instruction.TheVariants.{Rxor, Edrupt, Dv, Bzf, Msu, Qxch, Aug, Dim, Dca, Dcs, Su, Bzmf, Mp}
use Rattle.cpu.specs.State.{State, interrupted_address, interrupted_word}
use Rattle.cpu.specs.Codes.{row_of}
use Rattle.cpu.specs.Effects.{Change, change, changes, accumulator_of, lower_of, next_address, place_in, erasable_number, erasable_in}
use Rattle.cpu.specs.Effects.{value_at, operand, first_of, greatest_short, greatest_address, exchange, after, tc, ccs, tcf, ca, cs, ad, su}
use Rattle.cpu.specs.Effects.{mask, ts, xch, lxch, qxch, dxch, ads, incr, aug, dim, das, dca, dcs, index, mp, dv, msu, bzf, bzmf, read}
use Rattle.cpu.specs.Effects.{write, rand, ror, rxor, wand, wor, relint, inhint}
use Rattle.cpu.specs.Effects.Change.{AtPlace, OnChannel, Inhibits, Serves, WaitsWithSum, WaitsWithWord}
use Rattle.cpu.specs.Interrupts.{IsSameBut, IsApart, NamesNeither}
use Rattle.cpu.proofs.Holding.{at-insert}

-- the same stored in two maps that agree at a cell
insert_same : (s t : Cells) (d x c : ℕ) → at t c ≡ at s c → at (map'.insert t d x) c ≡ at (map'.insert s d x) c
insert_same s t d x c e = at-insert t d x c ∙ ap (λ y. cond (c == d) x y) e ∙ sym (at-insert s d x c)

put_by : (s t : Cells) (p u v w c : ℕ) (b d : Bool) → at t c ≡ at s c
    → at (cond b (map'.insert (map'.insert t fixed_bank u) erasable_bank v) (cond d t (map'.insert t p w))) c
    ≡ at (cond b (map'.insert (map'.insert s fixed_bank u) erasable_bank v) (cond d s (map'.insert s p w))) c
put_by s t p u v w c true d e = insert_same (map'.insert s fixed_bank u) (map'.insert t fixed_bank u) erasable_bank v c
    (insert_same s t fixed_bank u c e)
put_by s t p u v w c false true e = e
put_by s t p u v w c false false e = insert_same s t p w c e

put_same : (s t : Cells) (p x c : ℕ) → at t c ≡ at s c → at (put t p x) c ≡ at (put s p x) c
unfolding put
put_same s t p x c e = put_by s t p _ _ _ c (p == both_banks) (p == always_zero) e

channel_by : (s t : Cells) (n x w v c : ℕ) (b d f : Bool) → at t c ≡ at s c
    → at (cond b (put t lower_accumulator x) (cond d (put t return_address x)
    (cond f (map'.insert t (channel_cell n) w) (map'.insert t (channel_cell n) v)))) c
    ≡ at (cond b (put s lower_accumulator x) (cond d (put s return_address x)
    (cond f (map'.insert s (channel_cell n) w) (map'.insert s (channel_cell n) v)))) c
channel_by s t n x w v c true d f e = put_same s t lower_accumulator x c e
channel_by s t n x w v c false true f e = put_same s t return_address x c e
channel_by s t n x w v c false false true e = insert_same s t (channel_cell n) w c e
channel_by s t n x w v c false false false e = insert_same s t (channel_cell n) v c e

channel_same : (s t : Cells) (n x c : ℕ) → at t c ≡ at s c → at (put_channel t n x) c ≡ at (put_channel s n x) c
unfolding put_channel
channel_same s t n x c e = channel_by s t n x _ _ c (n == lower_accumulator_channel) (n == return_address_channel) (n == superbank_channel)
    e

-- two states stay the same where the same is put in their places
with_cells : (s t : State) (a b : Cells) → ((c : ℕ) → c ≢ interrupted_address → c ≢ interrupted_word → at b c ≡ at a c) → IsSameBut s t
    → IsSameBut (record s { cells = a }) (record t { cells = b })
with_cells s t a b same h = search rules

pub with_extra : (s t : State) (x y : Bool) (m n : ℕ) → y ≡ x → IsSameBut s t
    → IsSameBut (record s { extra = x; cycles = m }) (record t { extra = y; cycles = n })
with_extra s t x y m n same h = search rules

same_change : (s t : State) (c : Change) → IsSameBut s t → IsSameBut (change s c) (change t c)
same_change s t (AtPlace p x) h = with_cells s t _ _ (λ c z b. put_same s.cells t.cells p x c (h.cells c z b)) h
same_change s t (OnChannel n x) h = with_cells s t _ _ (λ c z b. channel_same s.cells t.cells n x c (h.cells c z b)) h
same_change s t (Inhibits b) h = search rules
same_change s t (Serves b) h = search rules
same_change s t (WaitsWithSum x) h = search rules
same_change s t (WaitsWithWord w) h = search rules

pub same_changes : (s t : State) (cs : List Change) → IsSameBut s t → IsSameBut (changes s cs) (changes t cs)
same_changes s t [] h = h
same_changes s t (c ∷ cs) h = same_changes (change s c) (change t c) cs (same_change s t c h)

same_by : (s t : State) (xs ys : List Change) → IsSameBut s t → ys ≡ xs → IsSameBut (changes s xs) (changes t ys)
same_by s t xs ys h e = subst (λ (zs : List Change). IsSameBut (changes s xs) (changes t zs)) (sym e) (same_changes s t xs h)

both : (s t : Cells) (p : ℕ) → at t p ≡ at s p → at t erasable_bank ≡ at s erasable_bank → at t fixed_bank ≡ at s fixed_bank
    → get t p ≡ get s p
unfolding get
both s t p e eb fb = cc

reads : (s t : State) → IsSameBut s t → (p : ℕ) → p ≢ interrupted_address → p ≢ interrupted_word → get t.cells p ≡ get s.cells p
reads s t h p z b = both s.cells t.cells p (h.cells p z b) (h.cells erasable_bank (λ e. omega arith) (λ e. omega arith))
    (h.cells fixed_bank (λ e. omega arith) (λ e. omega arith))

pub acc : (s t : State) → IsSameBut s t → accumulator_of t ≡ accumulator_of s
acc s t h = reads s t h accumulator (λ e. omega arith) (λ e. omega arith)

low : (s t : State) → IsSameBut s t → lower_of t ≡ lower_of s
low s t h = reads s t h lower_accumulator (λ e. omega arith) (λ e. omega arith)

ret : (s t : State) → IsSameBut s t → get t.cells return_address ≡ get s.cells return_address
ret s t h = reads s t h return_address (λ e. omega arith) (λ e. omega arith)

nxt : (s t : State) → IsSameBut s t → next_address t ≡ next_address s
nxt s t h = reads s t h program_counter (λ e. omega arith) (λ e. omega arith)

pub places : (s t : State) → IsSameBut s t → (k : ℕ) → place_in t k ≡ place_in s k
unfolding place_in superbank
places s t h k =
    let eb = h.cells erasable_bank (λ e. omega arith) (λ e. omega arith) in
    let fb = h.cells fixed_bank (λ e. omega arith) (λ e. omega arith) in
    let super = h.cells (channel_cell superbank_channel) (λ e. omega arith) (λ e. omega arith) in
    λ i. place k (eb i) (fb i) (super i / 0o100 % 2 == 1)

value_same : (rope : Words) (s t : State) → IsSameBut s t → (l : Linear) → IsApart l → value_at rope t l ≡ value_at rope s l
unfolding value_at
value_same rope s t h (Erasable p) apart = reads s t h p apart.0 apart.1
value_same rope s t h (Fixed bank offset) apart = refl

operands : (rope : Words) (s t : State) → IsSameBut s t → (k : ℕ) → IsApart (place_in s k) → operand rope t k ≡ operand rope s k
operands rope s t h k apart = ap (value_at rope t) (places s t h k) ∙ value_same rope s t h (place_in s k) apart

numbers : (s t : State) → IsSameBut s t → (k : ℕ) → erasable_in t k ≡ erasable_in s k
unfolding erasable_in
numbers s t h k = ap erasable_number (places s t h k)

number_same : (s t : State) → IsSameBut s t → (l : Linear) → IsApart l → get t.cells (erasable_number l) ≡ get s.cells (erasable_number l)
number_same s t h (Erasable p) apart = reads s t h p apart.0 apart.1
number_same s t h (Fixed bank offset) apart = acc s t h

gets : (s t : State) → IsSameBut s t → (k : ℕ) → IsApart (place_in s k) → get t.cells (erasable_in t k) ≡ get s.cells (erasable_in s k)
unfolding erasable_in
gets s t h k apart = ap (λ l. get t.cells (erasable_number l)) (places s t h k) ∙ number_same s t h (place_in s k) apart

channel_read : (s t : Cells) (n : ℕ) (b d : Bool) → get t lower_accumulator ≡ get s lower_accumulator
    → get t return_address ≡ get s return_address
    → at t (channel_cell n) ≡ at s (channel_cell n)
    → cond b (get t lower_accumulator) (cond d (get t return_address) (extend (at t (channel_cell n))))
    ≡ cond b (get s lower_accumulator) (cond d (get s return_address) (extend (at s (channel_cell n))))
channel_read s t n true d l q e = l
channel_read s t n false true l q e = q
channel_read s t n false false l q e = ap extend e

pub channels : (s t : State) → IsSameBut s t → (n : ℕ) → get_channel t.cells n ≡ get_channel s.cells n
unfolding get_channel
channels s t h n =
    channel_read s.cells t.cells n (n == lower_accumulator_channel) (n == return_address_channel) (low s t h) (ret s t h)
    (h.cells (channel_cell n) (λ e. omega arith) (λ e. omega arith))

number_read : (s u v : State) → IsSameBut u v → (k : ℕ) → IsApart (place_in s k)
    → get v.cells (erasable_in s k) ≡ get u.cells (erasable_in s k)
unfolding erasable_in
number_read s u v h k apart = number_same u v h (place_in s k) apart

same-dxch : (s t : State) (k : ℕ) → IsSameBut s t → IsApart (place_in s (first_of greatest_short k)) × IsApart (place_in s k)
    → IsSameBut (dxch s k) (dxch t k)
unfolding dxch
same-dxch s t k h a =
    let k' = first_of greatest_short k in
    let lows : exchange t lower_accumulator (erasable_in t k)
    ≡ exchange s lower_accumulator (erasable_in s k)
    = (let l = low s t h in let n = numbers s t h k in let g = gets s t h k a.1 in cc) in
    let u = changes s (exchange s lower_accumulator (erasable_in s k)) in
    let v = changes t (exchange t lower_accumulator (erasable_in t k)) in
    let first : IsSameBut u v = same_by s t (exchange s lower_accumulator (erasable_in s k))
    (exchange t lower_accumulator (erasable_in t k)) h lows in
    same_by u v (exchange u accumulator (erasable_in s k')) (exchange v accumulator (erasable_in t k')) first
    (let x = acc u v first in let n = numbers s t h k' in let g = number_read s u v first k' a.0 in cc)

pub same_after : (rope : Words) (s t : State) (i : Instruction) (k : ℕ) → IsSameBut s t → i ≢ Resume → NamesNeither s (row_of i).operand k
    → IsSameBut (after rope s i k) (after rope t i k)
unfolding after ca cs ccs index ad su mask msu mp dv xch lxch qxch incr aug dim ads ts das dca dcs read write rand ror rxor wand wor tc
    bzf bzmf
same_after rope s t Resume k h differs a = absurd (differs refl)
same_after rope s t Extend k h differs a = h
same_after rope s t Edrupt k h differs a = h
same_after rope s t Relint k h differs a = same_changes s t relint h
same_after rope s t Inhint k h differs a = same_changes s t inhint h
same_after rope s t Tcf k h differs a = same_changes s t (tcf k) h
same_after rope s t Dxch k h differs a = same-dxch s t k h a
same_after rope s t Ca k h differs a =
    let p = places s t h k in let o = operands rope s t h k a in let z = nxt s t h in same_by s t (ca rope s k) (ca rope t k) h cc
same_after rope s t Cs k h differs a =
    let p = places s t h k in let o = operands rope s t h k a in let z = nxt s t h in same_by s t (cs rope s k) (cs rope t k) h cc
same_after rope s t Ccs k h differs a =
    let p = places s t h k in let o = operands rope s t h k a in let z = nxt s t h in same_by s t (ccs rope s k) (ccs rope t k) h cc
same_after rope s t Index k h differs a =
    let p = places s t h k in let o = operands rope s t h k a in let z = nxt s t h in same_by s t (index rope s k) (index rope t k) h cc
same_after rope s t Ad k h differs a =
    let p = places s t h k in let o = operands rope s t h k a in let x = acc s t h in same_by s t (ad rope s k) (ad rope t k) h cc
same_after rope s t Su k h differs a =
    let p = places s t h k in let o = operands rope s t h k a in let x = acc s t h in same_by s t (su rope s k) (su rope t k) h cc
same_after rope s t Mask k h differs a =
    let p = places s t h k in let o = operands rope s t h k a in let x = acc s t h in same_by s t (mask rope s k) (mask rope t k) h cc
same_after rope s t Msu k h differs a =
    let p = places s t h k in let o = operands rope s t h k a in let x = acc s t h in same_by s t (msu rope s k) (msu rope t k) h cc
same_after rope s t Mp k h differs a =
    let p = places s t h k in let o = operands rope s t h k a in let x = acc s t h in same_by s t (mp rope s k) (mp rope t k) h cc
same_after rope s t Dv k h differs a =
    let p = places s t h k in let o = operands rope s t h k a in let x = acc s t h in let l = low s t h in
    same_by s t (dv rope s k) (dv rope t k) h cc
same_after rope s t Dca k h differs a =
    let p = places s t h k in let p' = places s t h (first_of greatest_address k) in let o = operands rope s t h k a.1 in
    let o' = operands rope s t h (first_of greatest_address k) a.0 in same_by s t (dca rope s k) (dca rope t k) h cc
same_after rope s t Dcs k h differs a =
    let p = places s t h k in let p' = places s t h (first_of greatest_address k) in let o = operands rope s t h k a.1 in
    let o' = operands rope s t h (first_of greatest_address k) a.0 in same_by s t (dcs rope s k) (dcs rope t k) h cc
same_after rope s t Xch k h differs a =
    let n = numbers s t h k in let g = gets s t h k a in let x = acc s t h in same_by s t (xch s k) (xch t k) h cc
same_after rope s t Lxch k h differs a =
    let n = numbers s t h k in let g = gets s t h k a in let l = low s t h in same_by s t (lxch s k) (lxch t k) h cc
same_after rope s t Qxch k h differs a =
    let n = numbers s t h k in let g = gets s t h k a in let q = ret s t h in same_by s t (qxch s k) (qxch t k) h cc
same_after rope s t Incr k h differs a = let n = numbers s t h k in let g = gets s t h k a in same_by s t (incr s k) (incr t k) h cc
same_after rope s t Aug k h differs a = let n = numbers s t h k in let g = gets s t h k a in same_by s t (aug s k) (aug t k) h cc
same_after rope s t Dim k h differs a = let n = numbers s t h k in let g = gets s t h k a in same_by s t (dim s k) (dim t k) h cc
same_after rope s t Ads k h differs a =
    let n = numbers s t h k in let g = gets s t h k a in let x = acc s t h in same_by s t (ads s k) (ads t k) h cc
same_after rope s t Ts k h differs a =
    let n = numbers s t h k in let x = acc s t h in let z = nxt s t h in same_by s t (ts s k) (ts t k) h cc
same_after rope s t Das k h differs a =
    let n = numbers s t h k in let m = numbers s t h (first_of greatest_short k) in let g = gets s t h k a.1 in
    let f = gets s t h (first_of greatest_short k) a.0 in let x = acc s t h in let l = low s t h in same_by s t (das s k) (das t k) h cc
same_after rope s t Read k h differs a = let c = channels s t h k in same_by s t (read s k) (read t k) h cc
same_after rope s t Write k h differs a = let x = acc s t h in same_by s t (write s k) (write t k) h cc
same_after rope s t Rand k h differs a = let c = channels s t h k in let x = acc s t h in same_by s t (rand s k) (rand t k) h cc
same_after rope s t Ror k h differs a = let c = channels s t h k in let x = acc s t h in same_by s t (ror s k) (ror t k) h cc
same_after rope s t Rxor k h differs a = let c = channels s t h k in let x = acc s t h in same_by s t (rxor s k) (rxor t k) h cc
same_after rope s t Wand k h differs a = let c = channels s t h k in let x = acc s t h in same_by s t (wand s k) (wand t k) h cc
same_after rope s t Wor k h differs a = let c = channels s t h k in let x = acc s t h in same_by s t (wor s k) (wor t k) h cc
same_after rope s t Tc k h differs a = let z = nxt s t h in same_by s t (tc s k) (tc t k) h cc
same_after rope s t Bzf k h differs a = let x = acc s t h in same_by s t (bzf s k) (bzf t k) h cc
same_after rope s t Bzmf k h differs a = let x = acc s t h in same_by s t (bzmf s k) (bzmf t k) h cc
