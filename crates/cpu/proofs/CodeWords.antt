-- A word is the first word of its instruction, and its operand more.
use Rattle.std.proofs.Common.{◌≡◌, ◌≤◌, ◌<◌, ◌+◌, ◌%◌, ◌^◌, ℕ, List, [], ◌∷◌, Bool, true, false, refl, arith, ap, sym, subst, ◌∙◌, ◌&&◌}
use Rattle.std.proofs.Common.{eqb, leb, ltb, filter, length, inl, inr}
use Rattle.std.specs.Prelude.{ℤ, pos, ◌+ℤ◌, find, unwrap_or}
use Rattle.std.specs.List.{list_all}
use Rattle.std.proofs.lemmas.Bool.{cases_Bool}
use Rattle.std.proofs.lemmas.Bool.Decides.{nat_tests}
use Rattle.std.proofs.lemmas.Int.{ints}
use Rattle.words.specs.Numbers.{value}
use Rattle.cpu.specs.declared.instruction.Instruction.{Instruction}
use Rattle.cpu.specs.declared.instruction.Instruction.TheVariants.{Relint, Inhint, Extend, Resume, Tc, Ccs, Tcf, Das, Lxch, Incr, Ads, Ca}
use Rattle.cpu.specs.declared.instruction.Instruction.TheVariants.{Cs, Index, Dxch, Ts, Xch, Ad, Mask, Read, Write, Rand, Wand, Ror, Wor}
use Rattle.cpu.specs.declared.instruction.Instruction.TheVariants.{Rxor, Edrupt, Dv, Bzf, Msu, Qxch, Aug, Dim, Dca, Dcs, Su, Bzmf, Mp}
use Rattle.cpu.specs.declared.instruction.Operand.{Operand}
use Rattle.cpu.specs.declared.instruction.Operand.TheVariants.{Nothing}
use Rattle.cpu.specs.Codes.{Range, basic_rows, extracode_rows, serves, rows_serving, no_range, row_of, bits, code_of}
use Rattle.cpu.proofs.RowLaws.{one_row}

-- the word of each instruction with operand 0, whether or not that is one of its words
abbrev first_word : Instruction → ℕ
first_word Relint = 0o3
first_word Inhint = 0o4
first_word Extend = 0o6
first_word Resume = 0o50017
first_word Tc = 0o0
first_word Ccs = 0o10000
first_word Tcf = 0o10000
first_word Das = 0o20000
first_word Lxch = 0o22000
first_word Incr = 0o24000
first_word Ads = 0o26000
first_word Ca = 0o30000
first_word Cs = 0o40000
first_word Index = 0o50000
first_word Dxch = 0o52000
first_word Ts = 0o54000
first_word Xch = 0o56000
first_word Ad = 0o60000
first_word Mask = 0o70000
first_word Read = 0o0
first_word Write = 0o1000
first_word Rand = 0o2000
first_word Wand = 0o3000
first_word Ror = 0o4000
first_word Wor = 0o5000
first_word Rxor = 0o6000
first_word Edrupt = 0o7000
first_word Dv = 0o10000
first_word Bzf = 0o10000
first_word Msu = 0o20000
first_word Qxch = 0o22000
first_word Aug = 0o24000
first_word Dim = 0o26000
first_word Dca = 0o30000
first_word Dcs = 0o40000
first_word Su = 0o60000
first_word Bzmf = 0o60000
first_word Mp = 0o70000

-- how many words with its operand there may be
abbrev room : Instruction → ℕ
room i = 2 ^ bits (row_of i).operand

-- a word lies among those of an instruction
record LiesIn (i : Instruction) (word : ℕ) : Type 0 where
  whole : first_word i % room i ≡ 0
  least : first_word i ≤ word
  most : word < first_word i + room i

-- all words of a row do
abbrev fits : Range → Bool
fits r = eqb (first_word r.instruction % room r.instruction) 0
    && (leb (first_word r.instruction) r.least && ltb r.greatest (first_word r.instruction + room r.instruction))

basic_fit : list_all fits basic_rows ≡ true
unfolding basic_rows
basic_fit = refl

extracode_fit : list_all fits extracode_rows ≡ true
unfolding extracode_rows
extracode_fit = refl

within : (base many rest least greatest word : ℕ) → (eqb rest 0 && (leb base least && ltb greatest (base + many))) ≡ true
    → (leb least word && leb word greatest) ≡ true
    → (rest ≡ 0) × (base ≤ word) × (word < base + many)
within base many rest least greatest word fit serve = (grind (arith, nat_tests), grind (arith, nat_tests), grind (arith, nat_tests))

lies : (r : Range) (word : ℕ) → fits r ≡ true → serves word r ≡ true → LiesIn r.instruction word
lies r word fit serve =
    let first = first_word r.instruction in
    let w = within first (room r.instruction) (first % room r.instruction) r.least r.greatest word fit serve in
    record { whole = w.0; least = w.1; most = w.2 }

found : (rows : List Range) (word : ℕ) → list_all fits rows ≡ true → 0 < length (filter (serves word) rows)
    → LiesIn (unwrap_or (find (serves word) rows) no_range).instruction word
found [] word fit some = absurd (omega (arith, some))
found (r ∷ rs) word fit some = elim (cases_Bool (fits r)) [
  | inl good ↦ elim (cases_Bool (serves word r)) [
    | inl here ↦ rw here (lies r word good here)
    | inr passed ↦ (
        let rest : list_all fits rs ≡ true = rw good at fit in
        let more : 0 < length (filter (serves word) rs) = rw passed at some in
        rw passed (found rs word rest more))
  ]
  | inr bad ↦ absurd (let never : false ≡ true = rw bad at fit in cc)
]

lies_in : (extra : Bool) (word : ℕ) → word < 2 ^ 15 → LiesIn (code_of extra word).instruction word
unfolding code_of rows_serving
lies_in false word lt = found basic_rows word basic_fit (let one = one_row false word lt in omega (arith, one))
lies_in true word lt = found extracode_rows word extracode_fit (let one = one_row true word lt in omega (arith, one))

-- on either side of 2^14 the value goes on as the number does
on_one_side : (own x moved : ℕ) → (own < 16384 → moved < 16384) → (moved < 16384 → own < 16384) → value moved ≡ value own +ℤ value x
    → pos moved ≡ pos own +ℤ value x
on_one_side own x moved there back e = grind (arith, ints, nat_tests)

from_first : (base k n : ℕ) (z : ℤ) → pos (base + n) ≡ pos (base + k) +ℤ z → pos n ≡ pos k +ℤ z
from_first base k n z e = grind (arith, ints)

-- words with one first word, and the operands in them
record Operands (many base own moved : ℕ) : Type 0 where
  there : own < 16384 → moved < 16384
  back : moved < 16384 → own < 16384
  first : own ≡ base + own % many
  second : moved ≡ base + moved % many

operands : (o : Operand) (base own moved : ℕ) → base % 2 ^ bits o ≡ 0 → base ≤ own → own < base + 2 ^ bits o → base ≤ moved
    → moved < base + 2 ^ bits o → Operands (2 ^ bits o) base own moved
operands Nothing base own moved whole l m p q = record
    { there = λ h. omega arith; back = λ h. omega arith; first = omega arith; second = omega arith }
operands operand base own moved whole l m p q = record
    { there = λ h. omega arith; back = λ h. omega arith; first = omega arith; second = omega arith }

-- words of one instruction: the operand goes on as the value does
pub moved_operand : (extra : Bool) (own x moved : ℕ) → own < 2 ^ 15 → moved < 2 ^ 15 → value moved ≡ value own +ℤ value x
    → (code_of extra moved).instruction ≡ (code_of extra own).instruction
    → pos (code_of extra moved).operand ≡ pos (code_of extra own).operand +ℤ value x
unfolding code_of
moved_operand extra own x moved lo lm e same =
    let i = (code_of extra own).instruction in
    let one : LiesIn i own = lies_in extra own lo in
    let other : LiesIn i moved = subst (λ (j : Instruction). LiesIn j moved) same (lies_in extra moved lm) in
    let o : Operands (room i) (first_word i) own moved = operands (row_of i).operand (first_word i) own moved one.whole one.least one.most
    other.least other.most in
    let n : (code_of extra moved).operand ≡ moved % room i = ap (λ (j : Instruction). moved % room j) same in
    let whole : pos moved ≡ pos own +ℤ value x = on_one_side own x moved o.there o.back e in
    let parts : pos (first_word i + moved % room i)
    ≡ pos (first_word i + own % room i) +ℤ value x = ap pos (sym o.second) ∙ whole ∙ ap (λ m. pos m +ℤ value x) o.first in
    ap pos n ∙ from_first (first_word i) (own % room i) (moved % room i) (value x) parts
