-- What a run has told, slice by slice.
use Rattle.std.proofs.Common.{◌≡◌, ℕ, ◌+◌, ◌-◌, ◌*◌, ◌/◌, ◌%◌, ◌^◌, ◌<◌, ◌≤◌, ◌==◌, Bool, true, false, List, ◌++◌, Result, Ok, Err, refl}
use Rattle.std.proofs.Common.{sym, ap, ◌∙◌, arith, append-nil, add-one, subst}
use Rattle.std.proofs.lemmas.Bool.Decides.{nat_tests}
use Rattle.words.specs.Devices.{IsBeginning, WritesBeginning, failures_after}
use Rattle.words.specs.declared.device.WriteFailed.{WriteFailed}
use Rattle.words.proofs.Texts.{Writes-after, beginning-longer, begins_after, whole_begins}
use Rattle.workshop.specs.Failures.{Writer, is_write_failed}
use Rattle.workshop.specs.Progress.{progress_line, progress_lines, progress_text, progress_at, TellsNext, Tells, TellsProfile, Telling}
use Rattle.workshop.specs.Progress.{TellsMade}
use Rattle.workshop.specs.declared.fault.WorkshopFault.{WorkshopFault}
use Rattle.workshop.specs.declared.fault.WorkshopFault.TheVariants as fault

-- before the first step nothing is told
pub tells_at_start : (w : Writer) → Tells 0 w w (Ok tt)
unfolding progress_lines
tells_at_start w = record { bytes = λ told. sym (append-nil w.written); failures = refl }

lines_more : (k : ℕ) → progress_lines (k + 1) ≡ progress_lines k ++ progress_line (2 ^ 20 * (k + 1))
unfolding progress_lines
lines_more k = subst (λ n. progress_lines n ≡ progress_lines k ++ progress_line (2 ^ 20 * (k + 1))) (sym (add-one k)) refl

-- at the end of a slice
slice_full : (k n : ℕ) → n ≡ 2 ^ 20 * (k + 1) → progress_text n ≡ progress_lines k ++ progress_at n
slice_full k n e =
    let quotient : n / 2 ^ 20 ≡ k + 1 = omega (arith, e) in
    let rest : n % 2 ^ 20 ≡ 0 = omega (arith, e) in
    rw (quotient, rest, lines_more k, e) refl

slice_short : (k n : ℕ) → 2 ^ 20 * k < n → n < 2 ^ 20 * (k + 1) → progress_text n ≡ progress_lines k ++ progress_at n
slice_short k n low high =
    let quotient : n / 2 ^ 20 ≡ k = omega (arith, low, high) in
    let rest : (n % 2 ^ 20 == 0) ≡ false = grind (arith, nat_tests) in
    rw (quotient, rest) (sym (append-nil (progress_lines k)))

text_by : (b : Bool) (k n : ℕ) → b ≡ (n == 2 ^ 20 * (k + 1)) → 2 ^ 20 * k < n → n ≤ 2 ^ 20 * (k + 1)
    → progress_text n ≡ progress_lines k ++ progress_at n
text_by true k n e low high = let full : n ≡ 2 ^ 20 * (k + 1) = grind (arith, nat_tests) in slice_full k n full
text_by false k n e low high = let short : n < 2 ^ 20 * (k + 1) = grind (arith, nat_tests) in slice_short k n low short

text_more : (done n : ℕ) → done % 2 ^ 20 ≡ 0 → done < n → n ≤ done + 2 ^ 20 → progress_text n ≡ progress_text done ++ progress_at n
text_more done n whole low high =
    let is : done ≡ 2 ^ 20 * (done / 2 ^ 20) = omega (arith, whole) in
    text_by (n == 2 ^ 20 * ((done / 2 ^ 20) + 1)) (done / 2 ^ 20) n refl (omega (arith, is, low)) (omega (arith, is, high))

-- a slice more
pub tells_more : (done n : ℕ) (a b c : Writer) (told next : Result (Unit {0}) WriteFailed) → done % 2 ^ 20 ≡ 0 → done < n
    → n ≤ done + 2 ^ 20 → a.told ≡ b.told
    → Tells done a b told → TellsNext n b c told next → Tells n a c next
tells_more done n a b c (Ok x) next whole low high same before more =
    record {
      bytes = λ told. rw (text_more done n whole low high)
          (Writes-after a.written b.written c.written (progress_text done) (progress_at n) next (before.bytes told)
          (more.0 (sym same ∙ told)));
      failures = more.1 ∙ ap (λ f. failures_after f next) before.failures;
    }
tells_more done n a b c (Err e) next whole low high same before more =
    rw (more.1, more.0) record {
      bytes = λ told. rw (text_more done n whole low high)
          (beginning-longer a.written b.written (progress_text done) (progress_at n) (before.bytes told));
      failures = before.failures;
    }

-- where a program or a feed is refused nothing is told
pub tells_refused : (T : Type 0) (steps : ℕ) (w : Writer) (why : WorkshopFault) → is_write_failed why ≡ false
    → TellsProfile {T = T} steps w w (Err why)
tells_refused T steps w fault.NoMemory e = refl
tells_refused T steps w fault.ReadFailed e = refl
tells_refused T steps w fault.WriteFailed e = absurd (cc)
tells_refused T steps w (fault.Source _) e = refl
tells_refused T steps w (fault.Feed _) e = refl
tells_refused T steps w (fault.Rope _) e = refl
tells_refused T steps w (fault.Table _) e = refl
tells_refused T steps w fault.TooLong e = refl

-- in the midst of a slice as much is told as at its beginning
tells_further : (done n : ℕ) (a b : Writer) (told : Result (Unit {0}) WriteFailed) → done % 2 ^ 20 ≡ 0 → done ≤ n → n < done + 2 ^ 20
    → Tells done a b told → Tells n a b told
tells_further done n a b told whole low high before =
    let same : n / 2 ^ 20 ≡ done / 2 ^ 20 = omega (arith, whole, low, high) in
    record { bytes = λ is_told. rw same (before.bytes is_told); failures = before.failures }

-- a run is broken off in the step after n
pub told_in_step : (text : ℕ → List ℕ) (steps done n : ℕ) (before after : Telling) (told : Result (Unit {0}) WriteFailed)
    → done % 2 ^ 20 ≡ 0 → done ≤ n → n < done + 2 ^ 20 → n < steps
    → (before.out.told ≡ true → IsBeginning (before.out.written ++ text n) after.out.written)
    → (before.out.told ≡ true → WritesBeginning before.out.written after.out.written (text (n + 1)))
    → Tells done before.progress after.progress told → TellsMade text steps before after
told_in_step text steps done n before after told is_whole low high within whole broken tells =
    record {
      made = n;
      within = within;
      whole = whole;
      broken = broken;
      told = told;
      tells = tells_further done n _ _ told is_whole low high
          tells;
    }

-- its last step is n, whose lines could not be handed on
pub told_after_step : (text : ℕ → List ℕ) (steps done n : ℕ) (before after : Telling) (told : Result (Unit {0}) WriteFailed)
    → done % 2 ^ 20 ≡ 0 → done < n → n ≤ done + 2 ^ 20 → n ≤ steps
    → ((k : ℕ) → IsBeginning (text k) (text (k + 1))) → (before.out.told ≡ true → after.out.written ≡ before.out.written ++ text n)
    → Tells done before.progress after.progress told → TellsMade text steps before after
told_after_step text steps done n before after told is_whole low high within grows written tells =
    let last : (n - 1) + 1 ≡ n = omega (arith, low) in
    told_in_step text steps done (n - 1) before after told is_whole (omega (arith, low)) (omega (arith, low, high))
    (omega (arith, low, within))
    (λ is_told. rw (written is_told) (begins_after before.out.written (text (n - 1)) (text n)
    (subst (λ m. IsBeginning (text (n - 1)) (text m)) last (grows (n - 1)))))
    (λ is_told. subst (λ m. WritesBeginning before.out.written after.out.written (text m)) (sym last)
    (record { part = text n; beginning = whole_begins (text n); appended = written is_told }))
    tells
