-- Each word but EDRUPT's is written as it is shown.
use Rattle.std.proofs.Common.{◌≡◌, ◌≤◌, ◌<◌, ◌+◌, ◌-◌, ◌%◌, ℕ, zero, suc, List, [], ◌∷◌, ◌++◌, Bool, true, false, refl, arith, ltb, leb}
use Rattle.std.proofs.Common.{◌∙◌, ap, sym, inl, inr, Ok}
use Rattle.std.specs.Prelude.{codes}
use Rattle.std.specs.List.{position_or_len}
use Rattle.std.proofs.lemmas.Bool.{cases_lt}
use Rattle.std.proofs.lemmas.Bool.Decides.{nat_tests}
use Rattle.std.proofs.Math.Nat.{mod-eq_of_lt, mod_self}
use Rattle.words.specs.Numerals.{octal_text}
use Rattle.agc_text.specs.Tables.{same_name}
use Rattle.cpu.specs.Codes.{basic_rows, extracode_rows, code_of}
use Rattle.cpu.specs.Effects.{first_of}
use Rattle.cpu.specs.Texts.{instruction_text, disassembly}
use Rattle.yayul.specs.Layout.{and_then}
use Rattle.yayul.specs.Laws.{instructions}
use Rattle.yayul.specs.Operators.{operators, operator_rows}
use Rattle.yayul.specs.Words.{accepted, address_of, address_below}
use Rattle.yayul.specs.Language.{Num}
use Rattle.workshop.specs.Laws.{is_own, is_edrupt, IsWritten, AreWritten}
use Rattle.yayul.proofs.GivenWords.{Kind, field, Gives}
use Rattle.yayul.proofs.GivenWords.Kind.{Number, Pair, Far, Channel}
use Rattle.workshop.proofs.OperatorTexts.{Holds, field_from, field_to, digits, is_named, given_text}

-- the number of which a field is made
number_of : Kind → ℕ → ℕ → ℕ
number_of Number size f = f
number_of Pair size f = first_of (size - 1) f
number_of Far size f = f
number_of Channel size f = f

next_of_first : (size f : ℕ) → 0 < size → f < size → (first_of (size - 1) f < size) × (f ≡ (first_of (size - 1) f + 1) % size)
next_of_first size zero some lt = let last : size - 1 + 1
    ≡ size = omega arith in (omega arith, sym (ap (λ (a : ℕ). a % size) last ∙ mod_self size))
next_of_first size (suc j) some lt =
    let before : first_of (size - 1) (suc j) ≡ j = grind (arith, nat_tests) in
    let more : j + 1 ≡ suc j = omega arith in
    (rw before (omega arith), rw before (sym (ap (λ (a : ℕ). a % size) more ∙ mod-eq_of_lt lt)))

holds : (kind : Kind) (size f : ℕ) → 0 < size → field_from kind ≤ f → f < field_to kind size → Holds kind size (number_of kind size f) f
unfolding number_of
holds Number size f some from to = (to, refl)
holds Pair size f some from to = next_of_first size f some to
holds Far size f some from to = ((from, to), refl)
holds Channel size f some from to = (to, refl)

address_is : (n : ℕ) → n < 0o10000 → address_of (Num n) ≡ Ok n
address_is n lt = grind (arith, nat_tests)

accepts : (test : ℕ → Bool) (n : ℕ) → test n ≡ true → accepted test n ≡ Ok n
accepts test n e = rw e refl

below_is : (size n : ℕ) → size ≤ 0o10000 → n < size → address_below size (Num n) ≡ Ok n
below_is size n le lt =
    let t : ltb n size ≡ true = grind (arith, nat_tests) in
    ap (and_then (accepted (λ a. ltb a size))) (address_is n (omega arith)) ∙ accepts (λ a. ltb a size) n t

field_is : (kind : Kind) (size n f : ℕ) → size ≤ 0o10000 → Holds kind size n f → field kind size n ≡ Ok f
field_is Number size n f le (lt, is) = below_is size n le lt ∙ ap (λ (m : ℕ). Ok m) (sym is)
field_is Pair size n f le (lt, is) = ap (and_then (λ address. Ok ((address + 1) % size))) (below_is size n le lt)
    ∙ ap (λ (m : ℕ). Ok m) (sym is)
field_is Far size n f le (within, is) =
    let t : leb 0o2000 n ≡ true = grind (arith, nat_tests) in
    ap (and_then (accepted (λ a. leb 0o2000 a))) (address_is n within.1) ∙ accepts (λ a. leb 0o2000 a) n t ∙ ap (λ (m : ℕ). Ok m) (sym is)
field_is Channel size n f le (lt, is) =
    let t : ltb n size ≡ true = grind (arith, nat_tests) in
    accepts (λ channel. ltb channel size) n t ∙ ap (λ (m : ℕ). Ok m) (sym is)

-- a word that a code gives of a number, by which it is shown
record Written (extracode : Bool) (word : ℕ) (name : List ℕ) (kind : Kind) (least size : ℕ) : Type 0 where
  number : ℕ
  shown : disassembly extracode word ≡ name ++ codes " " ++ octal_text (digits kind) number
  gives : Gives kind least size number word

gives_word : (kind : Kind) (least size word : ℕ) → 0 < size → size ≤ 0o10000 → least + field_from kind ≤ word
    → word < least + field_to kind size → Gives kind least size (number_of kind size (word - least)) word
gives_word kind least size word some le low high =
    let f = word - least in
    let whole : least + f ≡ word = omega arith in
    ap (and_then (λ g. Ok ((least + g) ∷ []))) (field_is kind size (number_of kind size f) f le
    (holds kind size f some (omega arith) (omega arith))) ∙ ap (λ (m : ℕ). Ok (m ∷ [])) whole

written_number : (name : List ℕ) (extracode : Bool) (kind : Kind) (least size word : ℕ) → is_named name extracode kind least size ≡ true
    → is_own extracode word ≡ false → 0 < size → size ≤ 0o10000 → least + field_from kind ≤ word → word < least + field_to kind size
    → Written extracode word name kind least size
written_number name extracode kind least size word right own some le low high =
    let gives = gives_word kind least size word some le low high in
    record {
      number = number_of kind size (word - least);
      shown = given_text name extracode kind least size (number_of kind size (word - least)) word right gives own;
      gives = gives;
    }

-- the row of an operator by its name
abbrev row_of_name : List ℕ → ℕ
row_of_name name = position_or_len (λ row. same_name name row.0) instructions

-- the words of each row
case_false_0 : (word : ℕ) → 0o0 ≤ word → word < 0o3 → IsWritten false word
unfolding operators operator_rows basic_rows extracode_rows
case_false_0 word low high =
    let w = written_number (codes "TC") false Number 0 0o10000 word refl (grind (arith, nat_tests)) (omega arith) (omega arith)
    (omega arith) (omega arith) in
    record { row = row_of_name (codes "TC"); by = inr (record { number = w.number; shown = w.shown; gives = (refl, w.gives) }) }

case_false_1 : (word : ℕ) → 0o3 ≤ word → word < 0o4 → IsWritten false word
unfolding operators operator_rows instruction_text basic_rows extracode_rows octal_text code_of
case_false_1 word low high = let same : word ≡ 0o3 = omega arith in record
    { row = row_of_name (codes "RELINT"); by = inl (ap (disassembly false) same, (refl, same)) }

case_false_2 : (word : ℕ) → 0o4 ≤ word → word < 0o5 → IsWritten false word
unfolding operators operator_rows instruction_text basic_rows extracode_rows octal_text code_of
case_false_2 word low high = let same : word ≡ 0o4 = omega arith in record
    { row = row_of_name (codes "INHINT"); by = inl (ap (disassembly false) same, (refl, same)) }

case_false_3 : (word : ℕ) → 0o5 ≤ word → word < 0o6 → IsWritten false word
unfolding operators operator_rows basic_rows extracode_rows
case_false_3 word low high =
    let w = written_number (codes "TC") false Number 0 0o10000 word refl (grind (arith, nat_tests)) (omega arith) (omega arith)
    (omega arith) (omega arith) in
    record { row = row_of_name (codes "TC"); by = inr (record { number = w.number; shown = w.shown; gives = (refl, w.gives) }) }

case_false_4 : (word : ℕ) → 0o6 ≤ word → word < 0o7 → IsWritten false word
unfolding operators operator_rows instruction_text basic_rows extracode_rows octal_text code_of
case_false_4 word low high = let same : word ≡ 0o6 = omega arith in record
    { row = row_of_name (codes "EXTEND"); by = inl (ap (disassembly false) same, (refl, same)) }

case_false_5 : (word : ℕ) → 0o7 ≤ word → word < 0o10000 → IsWritten false word
unfolding operators operator_rows basic_rows extracode_rows
case_false_5 word low high =
    let w = written_number (codes "TC") false Number 0 0o10000 word refl (grind (arith, nat_tests)) (omega arith) (omega arith)
    (omega arith) (omega arith) in
    record { row = row_of_name (codes "TC"); by = inr (record { number = w.number; shown = w.shown; gives = (refl, w.gives) }) }

case_false_6 : (word : ℕ) → 0o10000 ≤ word → word < 0o12000 → IsWritten false word
unfolding operators operator_rows basic_rows extracode_rows
case_false_6 word low high =
    let w = written_number (codes "CCS") false Number 0o10000 0o2000 word refl (grind (arith, nat_tests)) (omega arith) (omega arith)
    (omega arith) (omega arith) in
    record { row = row_of_name (codes "CCS"); by = inr (record { number = w.number; shown = w.shown; gives = (refl, w.gives) }) }

case_false_7 : (word : ℕ) → 0o12000 ≤ word → word < 0o20000 → IsWritten false word
unfolding operators operator_rows basic_rows extracode_rows
case_false_7 word low high =
    let w = written_number (codes "TCF") false Far 0o10000 0o10000 word refl (grind (arith, nat_tests)) (omega arith) (omega arith)
    (omega arith) (omega arith) in
    record { row = row_of_name (codes "TCF"); by = inr (record { number = w.number; shown = w.shown; gives = (refl, w.gives) }) }

case_false_8 : (word : ℕ) → 0o20000 ≤ word → word < 0o22000 → IsWritten false word
unfolding operators operator_rows basic_rows extracode_rows
case_false_8 word low high =
    let w = written_number (codes "DAS") false Pair 0o20000 0o2000 word refl (grind (arith, nat_tests)) (omega arith) (omega arith)
    (omega arith) (omega arith) in
    record { row = row_of_name (codes "DAS"); by = inr (record { number = w.number; shown = w.shown; gives = (refl, w.gives) }) }

case_false_9 : (word : ℕ) → 0o22000 ≤ word → word < 0o24000 → IsWritten false word
unfolding operators operator_rows basic_rows extracode_rows
case_false_9 word low high =
    let w = written_number (codes "LXCH") false Number 0o22000 0o2000 word refl (grind (arith, nat_tests)) (omega arith) (omega arith)
    (omega arith) (omega arith) in
    record { row = row_of_name (codes "LXCH"); by = inr (record { number = w.number; shown = w.shown; gives = (refl, w.gives) }) }

case_false_10 : (word : ℕ) → 0o24000 ≤ word → word < 0o26000 → IsWritten false word
unfolding operators operator_rows basic_rows extracode_rows
case_false_10 word low high =
    let w = written_number (codes "INCR") false Number 0o24000 0o2000 word refl (grind (arith, nat_tests)) (omega arith) (omega arith)
    (omega arith) (omega arith) in
    record { row = row_of_name (codes "INCR"); by = inr (record { number = w.number; shown = w.shown; gives = (refl, w.gives) }) }

case_false_11 : (word : ℕ) → 0o26000 ≤ word → word < 0o30000 → IsWritten false word
unfolding operators operator_rows basic_rows extracode_rows
case_false_11 word low high =
    let w = written_number (codes "ADS") false Number 0o26000 0o2000 word refl (grind (arith, nat_tests)) (omega arith) (omega arith)
    (omega arith) (omega arith) in
    record { row = row_of_name (codes "ADS"); by = inr (record { number = w.number; shown = w.shown; gives = (refl, w.gives) }) }

case_false_12 : (word : ℕ) → 0o30000 ≤ word → word < 0o40000 → IsWritten false word
unfolding operators operator_rows basic_rows extracode_rows
case_false_12 word low high =
    let w = written_number (codes "CA") false Number 0o30000 0o10000 word refl (grind (arith, nat_tests)) (omega arith) (omega arith)
    (omega arith) (omega arith) in
    record { row = row_of_name (codes "CA"); by = inr (record { number = w.number; shown = w.shown; gives = (refl, w.gives) }) }

case_false_13 : (word : ℕ) → 0o40000 ≤ word → word < 0o50000 → IsWritten false word
unfolding operators operator_rows basic_rows extracode_rows
case_false_13 word low high =
    let w = written_number (codes "CS") false Number 0o40000 0o10000 word refl (grind (arith, nat_tests)) (omega arith) (omega arith)
    (omega arith) (omega arith) in
    record { row = row_of_name (codes "CS"); by = inr (record { number = w.number; shown = w.shown; gives = (refl, w.gives) }) }

case_false_14 : (word : ℕ) → 0o50000 ≤ word → word < 0o50017 → IsWritten false word
unfolding operators operator_rows basic_rows extracode_rows
case_false_14 word low high =
    let w = written_number (codes "INDEX") false Number 0o50000 0o2000 word refl (grind (arith, nat_tests)) (omega arith) (omega arith)
    (omega arith) (omega arith) in
    record { row = row_of_name (codes "INDEX"); by = inr (record { number = w.number; shown = w.shown; gives = (refl, w.gives) }) }

case_false_15 : (word : ℕ) → 0o50017 ≤ word → word < 0o50020 → IsWritten false word
unfolding operators operator_rows instruction_text basic_rows extracode_rows octal_text code_of
case_false_15 word low high = let same : word ≡ 0o50017 = omega arith in record
    { row = row_of_name (codes "RESUME"); by = inl (ap (disassembly false) same, (refl, same)) }

case_false_16 : (word : ℕ) → 0o50020 ≤ word → word < 0o52000 → IsWritten false word
unfolding operators operator_rows basic_rows extracode_rows
case_false_16 word low high =
    let w = written_number (codes "INDEX") false Number 0o50000 0o2000 word refl (grind (arith, nat_tests)) (omega arith) (omega arith)
    (omega arith) (omega arith) in
    record { row = row_of_name (codes "INDEX"); by = inr (record { number = w.number; shown = w.shown; gives = (refl, w.gives) }) }

case_false_17 : (word : ℕ) → 0o52000 ≤ word → word < 0o54000 → IsWritten false word
unfolding operators operator_rows basic_rows extracode_rows
case_false_17 word low high =
    let w = written_number (codes "DXCH") false Pair 0o52000 0o2000 word refl (grind (arith, nat_tests)) (omega arith) (omega arith)
    (omega arith) (omega arith) in
    record { row = row_of_name (codes "DXCH"); by = inr (record { number = w.number; shown = w.shown; gives = (refl, w.gives) }) }

case_false_18 : (word : ℕ) → 0o54000 ≤ word → word < 0o56000 → IsWritten false word
unfolding operators operator_rows basic_rows extracode_rows
case_false_18 word low high =
    let w = written_number (codes "TS") false Number 0o54000 0o2000 word refl (grind (arith, nat_tests)) (omega arith) (omega arith)
    (omega arith) (omega arith) in
    record { row = row_of_name (codes "TS"); by = inr (record { number = w.number; shown = w.shown; gives = (refl, w.gives) }) }

case_false_19 : (word : ℕ) → 0o56000 ≤ word → word < 0o60000 → IsWritten false word
unfolding operators operator_rows basic_rows extracode_rows
case_false_19 word low high =
    let w = written_number (codes "XCH") false Number 0o56000 0o2000 word refl (grind (arith, nat_tests)) (omega arith) (omega arith)
    (omega arith) (omega arith) in
    record { row = row_of_name (codes "XCH"); by = inr (record { number = w.number; shown = w.shown; gives = (refl, w.gives) }) }

case_false_20 : (word : ℕ) → 0o60000 ≤ word → word < 0o70000 → IsWritten false word
unfolding operators operator_rows basic_rows extracode_rows
case_false_20 word low high =
    let w = written_number (codes "AD") false Number 0o60000 0o10000 word refl (grind (arith, nat_tests)) (omega arith) (omega arith)
    (omega arith) (omega arith) in
    record { row = row_of_name (codes "AD"); by = inr (record { number = w.number; shown = w.shown; gives = (refl, w.gives) }) }

case_false_21 : (word : ℕ) → 0o70000 ≤ word → word < 0o100000 → IsWritten false word
unfolding operators operator_rows basic_rows extracode_rows
case_false_21 word low high =
    let w = written_number (codes "MASK") false Number 0o70000 0o10000 word refl (grind (arith, nat_tests)) (omega arith) (omega arith)
    (omega arith) (omega arith) in
    record { row = row_of_name (codes "MASK"); by = inr (record { number = w.number; shown = w.shown; gives = (refl, w.gives) }) }

case_true_0 : (word : ℕ) → 0o0 ≤ word → word < 0o1000 → IsWritten true word
unfolding operators operator_rows basic_rows extracode_rows
case_true_0 word low high =
    let w = written_number (codes "READ") true Channel 0o0 0o1000 word refl refl (omega arith) (omega arith)
    (omega arith) (omega arith) in
    record { row = row_of_name (codes "READ"); by = inr (record { number = w.number; shown = w.shown; gives = (refl, w.gives) }) }

case_true_1 : (word : ℕ) → 0o1000 ≤ word → word < 0o2000 → IsWritten true word
unfolding operators operator_rows basic_rows extracode_rows
case_true_1 word low high =
    let w = written_number (codes "WRITE") true Channel 0o1000 0o1000 word refl refl (omega arith) (omega arith)
    (omega arith) (omega arith) in
    record { row = row_of_name (codes "WRITE"); by = inr (record { number = w.number; shown = w.shown; gives = (refl, w.gives) }) }

case_true_2 : (word : ℕ) → 0o2000 ≤ word → word < 0o3000 → IsWritten true word
unfolding operators operator_rows basic_rows extracode_rows
case_true_2 word low high =
    let w = written_number (codes "RAND") true Channel 0o2000 0o1000 word refl refl (omega arith) (omega arith)
    (omega arith) (omega arith) in
    record { row = row_of_name (codes "RAND"); by = inr (record { number = w.number; shown = w.shown; gives = (refl, w.gives) }) }

case_true_3 : (word : ℕ) → 0o3000 ≤ word → word < 0o4000 → IsWritten true word
unfolding operators operator_rows basic_rows extracode_rows
case_true_3 word low high =
    let w = written_number (codes "WAND") true Channel 0o3000 0o1000 word refl refl (omega arith) (omega arith)
    (omega arith) (omega arith) in
    record { row = row_of_name (codes "WAND"); by = inr (record { number = w.number; shown = w.shown; gives = (refl, w.gives) }) }

case_true_4 : (word : ℕ) → 0o4000 ≤ word → word < 0o5000 → IsWritten true word
unfolding operators operator_rows basic_rows extracode_rows
case_true_4 word low high =
    let w = written_number (codes "ROR") true Channel 0o4000 0o1000 word refl refl (omega arith) (omega arith)
    (omega arith) (omega arith) in
    record { row = row_of_name (codes "ROR"); by = inr (record { number = w.number; shown = w.shown; gives = (refl, w.gives) }) }

case_true_5 : (word : ℕ) → 0o5000 ≤ word → word < 0o6000 → IsWritten true word
unfolding operators operator_rows basic_rows extracode_rows
case_true_5 word low high =
    let w = written_number (codes "WOR") true Channel 0o5000 0o1000 word refl refl (omega arith) (omega arith)
    (omega arith) (omega arith) in
    record { row = row_of_name (codes "WOR"); by = inr (record { number = w.number; shown = w.shown; gives = (refl, w.gives) }) }

case_true_6 : (word : ℕ) → 0o6000 ≤ word → word < 0o7000 → IsWritten true word
unfolding operators operator_rows basic_rows extracode_rows
case_true_6 word low high =
    let w = written_number (codes "RXOR") true Channel 0o6000 0o1000 word refl refl (omega arith) (omega arith)
    (omega arith) (omega arith) in
    record { row = row_of_name (codes "RXOR"); by = inr (record { number = w.number; shown = w.shown; gives = (refl, w.gives) }) }

case_true_8 : (word : ℕ) → 0o10000 ≤ word → word < 0o12000 → IsWritten true word
unfolding operators operator_rows basic_rows extracode_rows
case_true_8 word low high =
    let w = written_number (codes "DV") true Number 0o10000 0o2000 word refl refl (omega arith) (omega arith)
    (omega arith) (omega arith) in
    record { row = row_of_name (codes "DV"); by = inr (record { number = w.number; shown = w.shown; gives = (refl, w.gives) }) }

case_true_9 : (word : ℕ) → 0o12000 ≤ word → word < 0o20000 → IsWritten true word
unfolding operators operator_rows basic_rows extracode_rows
case_true_9 word low high =
    let w = written_number (codes "BZF") true Far 0o10000 0o10000 word refl refl (omega arith) (omega arith)
    (omega arith) (omega arith) in
    record { row = row_of_name (codes "BZF"); by = inr (record { number = w.number; shown = w.shown; gives = (refl, w.gives) }) }

case_true_10 : (word : ℕ) → 0o20000 ≤ word → word < 0o22000 → IsWritten true word
unfolding operators operator_rows basic_rows extracode_rows
case_true_10 word low high =
    let w = written_number (codes "MSU") true Number 0o20000 0o2000 word refl refl (omega arith) (omega arith)
    (omega arith) (omega arith) in
    record { row = row_of_name (codes "MSU"); by = inr (record { number = w.number; shown = w.shown; gives = (refl, w.gives) }) }

case_true_11 : (word : ℕ) → 0o22000 ≤ word → word < 0o24000 → IsWritten true word
unfolding operators operator_rows basic_rows extracode_rows
case_true_11 word low high =
    let w = written_number (codes "QXCH") true Number 0o22000 0o2000 word refl refl (omega arith) (omega arith)
    (omega arith) (omega arith) in
    record { row = row_of_name (codes "QXCH"); by = inr (record { number = w.number; shown = w.shown; gives = (refl, w.gives) }) }

case_true_12 : (word : ℕ) → 0o24000 ≤ word → word < 0o26000 → IsWritten true word
unfolding operators operator_rows basic_rows extracode_rows
case_true_12 word low high =
    let w = written_number (codes "AUG") true Number 0o24000 0o2000 word refl refl (omega arith) (omega arith)
    (omega arith) (omega arith) in
    record { row = row_of_name (codes "AUG"); by = inr (record { number = w.number; shown = w.shown; gives = (refl, w.gives) }) }

case_true_13 : (word : ℕ) → 0o26000 ≤ word → word < 0o30000 → IsWritten true word
unfolding operators operator_rows basic_rows extracode_rows
case_true_13 word low high =
    let w = written_number (codes "DIM") true Number 0o26000 0o2000 word refl refl (omega arith) (omega arith)
    (omega arith) (omega arith) in
    record { row = row_of_name (codes "DIM"); by = inr (record { number = w.number; shown = w.shown; gives = (refl, w.gives) }) }

case_true_14 : (word : ℕ) → 0o30000 ≤ word → word < 0o40000 → IsWritten true word
unfolding operators operator_rows basic_rows extracode_rows
case_true_14 word low high =
    let w = written_number (codes "DCA") true Pair 0o30000 0o10000 word refl refl (omega arith) (omega arith)
    (omega arith) (omega arith) in
    record { row = row_of_name (codes "DCA"); by = inr (record { number = w.number; shown = w.shown; gives = (refl, w.gives) }) }

case_true_15 : (word : ℕ) → 0o40000 ≤ word → word < 0o50000 → IsWritten true word
unfolding operators operator_rows basic_rows extracode_rows
case_true_15 word low high =
    let w = written_number (codes "DCS") true Pair 0o40000 0o10000 word refl refl (omega arith) (omega arith)
    (omega arith) (omega arith) in
    record { row = row_of_name (codes "DCS"); by = inr (record { number = w.number; shown = w.shown; gives = (refl, w.gives) }) }

case_true_16 : (word : ℕ) → 0o50000 ≤ word → word < 0o60000 → IsWritten true word
unfolding operators operator_rows basic_rows extracode_rows
case_true_16 word low high =
    let w = written_number (codes "INDEX") true Number 0o50000 0o10000 word refl refl (omega arith) (omega arith)
    (omega arith) (omega arith) in
    record { row = row_of_name (codes "INDEX"); by = inr (record { number = w.number; shown = w.shown; gives = (refl, w.gives) }) }

case_true_17 : (word : ℕ) → 0o60000 ≤ word → word < 0o62000 → IsWritten true word
unfolding operators operator_rows basic_rows extracode_rows
case_true_17 word low high =
    let w = written_number (codes "SU") true Number 0o60000 0o2000 word refl refl (omega arith) (omega arith)
    (omega arith) (omega arith) in
    record { row = row_of_name (codes "SU"); by = inr (record { number = w.number; shown = w.shown; gives = (refl, w.gives) }) }

case_true_18 : (word : ℕ) → 0o62000 ≤ word → word < 0o70000 → IsWritten true word
unfolding operators operator_rows basic_rows extracode_rows
case_true_18 word low high =
    let w = written_number (codes "BZMF") true Far 0o60000 0o10000 word refl refl (omega arith) (omega arith)
    (omega arith) (omega arith) in
    record { row = row_of_name (codes "BZMF"); by = inr (record { number = w.number; shown = w.shown; gives = (refl, w.gives) }) }

case_true_19 : (word : ℕ) → 0o70000 ≤ word → word < 0o100000 → IsWritten true word
unfolding operators operator_rows basic_rows extracode_rows
case_true_19 word low high =
    let w = written_number (codes "MP") true Number 0o70000 0o10000 word refl refl (omega arith) (omega arith)
    (omega arith) (omega arith) in
    record { row = row_of_name (codes "MP"); by = inr (record { number = w.number; shown = w.shown; gives = (refl, w.gives) }) }

barred : (word : ℕ) → 0o7000 ≤ word → word < 0o10000 → is_edrupt true word ≡ false → ⊥
barred word low high e = absurd (grind (arith, nat_tests))

pub are_written : AreWritten
unfolding code_of basic_rows extracode_rows
are_written false word lt differs =
    elim (cases_lt word 0o3) [
      | inl less0 ↦ case_false_0 word (omega arith) (omega arith)
      | inr more0 ↦ elim (cases_lt word 0o4) [
        | inl less1 ↦ case_false_1 word (omega arith) (omega arith)
        | inr more1 ↦ elim (cases_lt word 0o5) [
          | inl less2 ↦ case_false_2 word (omega arith) (omega arith)
          | inr more2 ↦ elim (cases_lt word 0o6) [
            | inl less3 ↦ case_false_3 word (omega arith) (omega arith)
            | inr more3 ↦ elim (cases_lt word 0o7) [
              | inl less4 ↦ case_false_4 word (omega arith) (omega arith)
              | inr more4 ↦ elim (cases_lt word 0o10000) [
                | inl less5 ↦ case_false_5 word (omega arith) (omega arith)
                | inr more5 ↦ elim (cases_lt word 0o12000) [
                  | inl less6 ↦ case_false_6 word (omega arith) (omega arith)
                  | inr more6 ↦ elim (cases_lt word 0o20000) [
                    | inl less7 ↦ case_false_7 word (omega arith) (omega arith)
                    | inr more7 ↦ elim (cases_lt word 0o22000) [
                      | inl less8 ↦ case_false_8 word (omega arith) (omega arith)
                      | inr more8 ↦ elim (cases_lt word 0o24000) [
                        | inl less9 ↦ case_false_9 word (omega arith) (omega arith)
                        | inr more9 ↦ elim (cases_lt word 0o26000) [
                          | inl less10 ↦ case_false_10 word (omega arith) (omega arith)
                          | inr more10 ↦ elim (cases_lt word 0o30000) [
                            | inl less11 ↦ case_false_11 word (omega arith) (omega arith)
                            | inr more11 ↦ elim (cases_lt word 0o40000) [
                              | inl less12 ↦ case_false_12 word (omega arith) (omega arith)
                              | inr more12 ↦ elim (cases_lt word 0o50000) [
                                | inl less13 ↦ case_false_13 word (omega arith) (omega arith)
                                | inr more13 ↦ elim (cases_lt word 0o50017) [
                                  | inl less14 ↦ case_false_14 word (omega arith) (omega arith)
                                  | inr more14 ↦ elim (cases_lt word 0o50020) [
                                    | inl less15 ↦ case_false_15 word (omega arith) (omega arith)
                                    | inr more15 ↦ elim (cases_lt word 0o52000) [
                                      | inl less16 ↦ case_false_16 word (omega arith) (omega arith)
                                      | inr more16 ↦ elim (cases_lt word 0o54000) [
                                        | inl less17 ↦ case_false_17 word (omega arith) (omega arith)
                                        | inr more17 ↦ elim (cases_lt word 0o56000) [
                                          | inl less18 ↦ case_false_18 word (omega arith) (omega arith)
                                          | inr more18 ↦ elim (cases_lt word 0o60000) [
                                            | inl less19 ↦ case_false_19 word (omega arith) (omega arith)
                                            | inr more19 ↦ elim (cases_lt word 0o70000) [
                                              | inl less20 ↦ case_false_20 word (omega arith) (omega arith)
                                              | inr more20 ↦ case_false_21
                                                  word (omega arith) (omega arith)
                                            ]
                                          ]
                                        ]
                                      ]
                                    ]
                                  ]
                                ]
                              ]
                            ]
                          ]
                        ]
                      ]
                    ]
                  ]
                ]
              ]
            ]
          ]
        ]
      ]
    ]
are_written true word lt differs =
    elim (cases_lt word 0o1000) [
      | inl less0 ↦ case_true_0 word (omega arith) (omega arith)
      | inr more0 ↦ elim (cases_lt word 0o2000) [
        | inl less1 ↦ case_true_1 word (omega arith) (omega arith)
        | inr more1 ↦ elim (cases_lt word 0o3000) [
          | inl less2 ↦ case_true_2 word (omega arith) (omega arith)
          | inr more2 ↦ elim (cases_lt word 0o4000) [
            | inl less3 ↦ case_true_3 word (omega arith) (omega arith)
            | inr more3 ↦ elim (cases_lt word 0o5000) [
              | inl less4 ↦ case_true_4 word (omega arith) (omega arith)
              | inr more4 ↦ elim (cases_lt word 0o6000) [
                | inl less5 ↦ case_true_5 word (omega arith) (omega arith)
                | inr more5 ↦ elim (cases_lt word 0o7000) [
                  | inl less6 ↦ case_true_6 word (omega arith) (omega arith)
                  | inr more6 ↦ elim (cases_lt word 0o10000) [
                    | inl less7 ↦ absurd (barred word (omega arith) (omega arith) differs)
                    | inr more7 ↦ elim (cases_lt word 0o12000) [
                      | inl less8 ↦ case_true_8 word (omega arith) (omega arith)
                      | inr more8 ↦ elim (cases_lt word 0o20000) [
                        | inl less9 ↦ case_true_9 word (omega arith) (omega arith)
                        | inr more9 ↦ elim (cases_lt word 0o22000) [
                          | inl less10 ↦ case_true_10 word (omega arith) (omega arith)
                          | inr more10 ↦ elim (cases_lt word 0o24000) [
                            | inl less11 ↦ case_true_11 word (omega arith) (omega arith)
                            | inr more11 ↦ elim (cases_lt word 0o26000) [
                              | inl less12 ↦ case_true_12 word (omega arith) (omega arith)
                              | inr more12 ↦ elim (cases_lt word 0o30000) [
                                | inl less13 ↦ case_true_13 word (omega arith) (omega arith)
                                | inr more13 ↦ elim (cases_lt word 0o40000) [
                                  | inl less14 ↦ case_true_14 word (omega arith) (omega arith)
                                  | inr more14 ↦ elim (cases_lt word 0o50000) [
                                    | inl less15 ↦ case_true_15 word (omega arith) (omega arith)
                                    | inr more15 ↦ elim (cases_lt word 0o60000) [
                                      | inl less16 ↦ case_true_16 word (omega arith) (omega arith)
                                      | inr more16 ↦ elim (cases_lt word 0o62000) [
                                        | inl less17 ↦ case_true_17 word (omega arith) (omega arith)
                                        | inr more17 ↦ elim (cases_lt word 0o70000) [
                                          | inl less18 ↦ case_true_18 word (omega arith) (omega arith)
                                          | inr more18 ↦ case_true_19 word
                                              (omega arith) (omega arith)
                                        ]
                                      ]
                                    ]
                                  ]
                                ]
                              ]
                            ]
                          ]
                        ]
                      ]
                    ]
                  ]
                ]
              ]
            ]
          ]
        ]
      ]
    ]
