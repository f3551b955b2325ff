-- What a step counts that repeats is told by its account and its kind.
use Rattle.std.proofs.Common.{◌≡◌, ℕ, ◌+◌, ◌-◌, ◌/◌, ◌%◌, ◌<◌, ◌&&◌, Bool, true, false, not, Option, Some, None}
use Rattle.std.proofs.Common.{refl, sym, ap, ◌∙◌, ◌≤◌, arith, inl, inr, is_some}
use Rattle.std.proofs.lemmas.Bool.{cases_Bool}
use Rattle.std.proofs.lemmas.Bool.Decides.{nat_tests}
use Rattle.words.specs.Numbers.{correct, extend}
use Rattle.words.specs.Signs.{over}
use Rattle.words.specs.declared.wide.Overflow.{Overflow}
use Rattle.words.specs.declared.wide.Overflow.TheVariants.{No, Plus, Minus}
use Rattle.space.specs.Cells.{at, erasable_bank, erasable_count, fixed_bank, get, program_counter, superbank}
use Rattle.space.specs.Places.{place}
use Rattle.space.specs.declared.place.Linear.{Linear}
use Rattle.space.specs.declared.place.Linear.TheVariants.{Erasable, Fixed}
use Rattle.rope.specs.Places.{Words, bank_words, place_number, word_at}
use Rattle.feed.specs.declared.input.Input.{Input}
use Rattle.feed.specs.Merged.{due}
use Rattle.cpu.specs.declared.account.Account.TheVariants.{Place}
use Rattle.cpu.specs.declared.instruction.Instruction.{Instruction}
use Rattle.cpu.specs.declared.instruction.Instruction.TheVariants.{Ts}
use Rattle.cpu.specs.Codes.{code_of}
use Rattle.cpu.specs.Effects.{accumulator_of, has_overflow, next_address, place_in, value_at}
use Rattle.cpu.specs.Links.{link, link_by, overflow_of, targets}
use Rattle.cpu.specs.Next.{entry, instruction_word}
use Rattle.cpu.specs.NextStep.{next_step, next_step_by}
use Rattle.cpu.specs.Profiles.{account_by, account_of, account_of_word}
use Rattle.cpu.specs.Reads.{reads}
use Rattle.cpu.specs.State.{State, Scenario}
use Rattle.cover.specs.Tallies.{account_number, is_account}
use Rattle.access.specs.declared.kept.Kind.{Kind}
use Rattle.access.specs.declared.view.View.{View}
use Rattle.access.specs.Accesses.{account_in, read_cells, slots_after, slots_by}
use Rattle.access.specs.Levels.{entered_by, level_by, levels}
use Rattle.access.specs.Repeats.{code_at, is_fixed, kind_of, kind_reads, kind_writes, repeats, slots_by_code, slots_of_kind}

-- where A does not overflow no instruction's flows are by an overflow
over_none : (o : Overflow) → has_overflow o ≡ false → o ≡ No
over_none No e = refl
over_none Plus e = absurd (cc)
over_none Minus e = absurd (cc)

no_overflow : (i : Instruction) (x : ℕ) → over x ≡ No → overflow_of i x ≡ No
no_overflow Ts x e = e
no_overflow _ x e = refl

-- nothing waits
none_waits : (s : State) (w : Option ℕ) → is_fixed (account_of_word s w) ≡ true → w ≡ None
none_waits s None e = refl
none_waits s (Some w) e = absurd (cc)

none_is : (x : Option ℕ) → not (is_some x) ≡ true → x ≡ None
none_is None e = refl
none_is (Some w) e = absurd (cc)

both : (a b c : Bool) → (a && (b && not c)) ≡ true → (a ≡ true) × (b ≡ true) × (c ≡ false)
both true true false e = (refl, refl, refl)
both true true true e = absurd (cc)
both true false c e = absurd (cc)
both false b c e = absurd (cc)

-- the place of a number
place_back : (bank offset : ℕ) → offset < bank_words → ((3 + erasable_count + place_number bank offset) - (3 + erasable_count)) / bank_words
    ≡ bank
place_back bank offset h = omega (arith, h)

offset_back : (bank offset : ℕ) → offset < bank_words → ((3 + erasable_count + place_number bank offset) - (3 + erasable_count)) % bank_words
    ≡ offset
offset_back bank offset h = omega (arith, h)

within : (bank offset : ℕ) → is_account (Place (Fixed bank offset)) ≡ true → offset < bank_words
within bank offset e = grind (arith, nat_tests)

-- the word that is executed
word_is : (rope : Words) (s : State) (bank offset : ℕ) → place_in s (next_address s) ≡ Fixed bank offset → s.waiting_word ≡ None
    → s.waiting_sum ≡ None → instruction_word rope s ≡ correct (extend (word_at rope bank offset))
unfolding instruction_word value_at place_in
word_is rope s bank offset leads w x = rw (w, x, leads) refl

code_is : (rope : Words) (s : State) (bank offset : ℕ) → offset < bank_words → place_in s (next_address s) ≡ Fixed bank offset
    → s.waiting_word ≡ None → s.waiting_sum ≡ None
    → code_of s.extra (instruction_word rope s) ≡ code_at rope (account_number (Place (Fixed bank offset))) s.extra
code_is rope s bank offset h leads w x =
    ap (code_of s.extra) (word_is rope s bank offset leads w x)
    ∙ sym (ap (λ b. code_of s.extra (correct (extend (word_at rope b
    (((3 + erasable_count + place_number bank offset) - (3 + erasable_count)) % bank_words))))) (place_back bank offset h)
    ∙ ap (λ o. code_of s.extra (correct (extend (word_at rope bank o)))) (offset_back bank offset h))

-- what it reads and writes
leads_fixed : (s : State) (bank offset : ℕ) → place_in s (next_address s) ≡ Fixed bank offset
    → place (extend (at s.cells program_counter)) (at s.cells erasable_bank) (at s.cells fixed_bank) (superbank s.cells) ≡ Fixed bank offset
unfolding place_in get
leads_fixed s bank offset leads = leads

abbrev kind_in : State → Kind
kind_in s = kind_of s 0

reads_are : (rope : Words) (s : State) (bank offset : ℕ) → place_in s (next_address s) ≡ Fixed bank offset → s.waiting_word ≡ None
    → read_cells (link_by rope s None None) ≡ kind_reads (kind_in s) (code_of s.extra (instruction_word rope s))
unfolding reads
reads_are rope s bank offset leads w = rw (w, leads_fixed s bank offset leads) refl

writes_are : (rope : Words) (s : State) → s.waiting_word ≡ None → over (accumulator_of s) ≡ No
    → targets (link_by rope s None None) ≡ kind_writes (kind_in s) (code_of s.extra (instruction_word rope s))
unfolding targets
writes_are rope s w none =
    let code = code_of s.extra (instruction_word rope s) in
    rw (no_overflow code.instruction (accumulator_of s) none, w) refl

executed_at : (view : View) (rope : Words) (s : State) (last : ℕ) (p : Linear) → place_in s (next_address s) ≡ p
    → is_fixed (Place p) ≡ true → is_account (Place p) ≡ true → s.waiting_word ≡ None → s.waiting_sum ≡ None
    → over (accumulator_of s) ≡ No
    → slots_by view (account_number (account_in (next_step_by rope s None None))) (level_by (next_step_by rope s None None) s last)
    (read_cells (link_by rope s None None)) (targets (link_by rope s None None))
    ≡ slots_of_kind view rope (account_number (Place p)) (kind_of s last)
unfolding slots_of_kind place_in
executed_at view rope s last (Erasable q) leads fixed known w x none = absurd (cc)
executed_at view rope s last (Fixed bank offset) leads fixed known w x none =
    let h = within bank offset known in
    let code = code_of s.extra (instruction_word rope s) in
    let level = (kind_of s last).level in
    let number : account_number (account_in (next_step_by rope s None None)) ≡ account_number (Place (Fixed bank offset)) = rw (w, leads) refl
    in
    ap (λ n. slots_by view n level (read_cells (link_by rope s None None)) (targets (link_by rope s None None))) number
    ∙ ap (λ r. slots_by view (account_number (Place (Fixed bank offset))) level r (targets (link_by rope s None None)))
    (reads_are rope s bank offset leads w)
    ∙ ap (λ t. slots_by view (account_number (Place (Fixed bank offset))) level (kind_reads (kind_in s) code) t) (writes_are rope s w none)
    ∙ ap (slots_by_code view (account_number (Place (Fixed bank offset))) (kind_of s last)) (code_is rope s bank offset h leads w x)

by_parts : (view : View) (rope : Words) (s : State) (last : ℕ) (d : Option (Input × Option ℕ)) (e : Option ℕ)
    → is_fixed (account_by s d e) ≡ true → is_account (account_by s d e) ≡ true → s.waiting_sum ≡ None → over (accumulator_of s) ≡ No
    → slots_by view (account_number (account_in (next_step_by rope s d e))) (level_by (next_step_by rope s d e) s last)
    (read_cells (link_by rope s d e)) (targets (link_by rope s d e))
    ≡ slots_of_kind view rope (account_number (account_by s d e)) (kind_of s last)
by_parts view rope s last (Some given) e fixed known x none = absurd (cc)
by_parts view rope s last None (Some k) fixed known x none = absurd (cc)
by_parts view rope s last None None fixed known x none =
    let w = none_waits s s.waiting_word fixed in
    let is : account_of_word s s.waiting_word ≡ Place (place_in s (next_address s)) = rw w refl in
    executed_at view rope s last (place_in s (next_address s)) refl (rw is at fixed) (rw is at known) w x none
    ∙ sym (ap (λ a. slots_of_kind view rope (account_number a) (kind_of s last)) is)

pub slots_same : (view : View) (scenario : Scenario) (s : State) (last : ℕ) → repeats scenario s ≡ true
    → is_account (account_of scenario s) ≡ true
    → slots_after view scenario s last ≡ slots_of_kind view scenario.rope (account_number (account_of scenario s)) (kind_of s last)
unfolding slots_after next_step link
slots_same view scenario s last e known =
    let parts = both (is_fixed (account_of scenario s)) (not (is_some s.waiting_sum)) (has_overflow (over (accumulator_of s))) e in
    by_parts view scenario.rope s last (due scenario.inputs s.taken s.cycles) (entry s) parts.0 known (none_is s.waiting_sum parts.1)
    (over_none (over (accumulator_of s)) parts.2)

-- such a step enters no interrupt
last_by : (rope : Words) (s : State) (last : ℕ) (d : Option (Input × Option ℕ)) (e : Option ℕ) → is_fixed (account_by s d e) ≡ true
    → entered_by (next_step_by rope s d e) last ≡ last
last_by rope s last (Some given) e fixed = absurd (cc)
last_by rope s last None (Some k) fixed = absurd (cc)
last_by rope s last None None fixed = refl

pub last_stays : (scenario : Scenario) (s : State) (last : ℕ) → repeats scenario s ≡ true
    → entered_by (next_step scenario s) last ≡ last
unfolding next_step
last_stays scenario s last e =
    let parts = both (is_fixed (account_of scenario s)) (not (is_some s.waiting_sum)) (has_overflow (over (accumulator_of s))) e in
    last_by scenario.rope s last (due scenario.inputs s.taken s.cycles) (entry s) parts.0

pub level_within : (s : State) (last : ℕ) → last ≤ 10 → (kind_of s last).level < levels
level_within s last few =
    elim (cases_Bool s.inside) [
      | inl inside ↦ rw inside (omega (arith, few))
      | inr outside ↦ elim (cases_Bool s.inhibit) [
        | inl inhibited ↦ rw (outside, inhibited) (omega arith)
        | inr allowed ↦ rw (outside, allowed) (omega arith)
      ]
    ]
