-- The text of a run's steps, as it is written slice by slice.
use Rattle.std.proofs.Common.{◌≡◌, ℕ, zero, suc, ◌+◌, ◌-◌, ◌<◌, ◌≤◌, Bool, true, List, ◌++◌, refl, ap, ◌∙◌}
use Rattle.std.proofs.Common.{arith, subst}
use Rattle.words.specs.Devices.{IsBeginning, WritesBeginning, one_more}
use Rattle.words.proofs.Texts.{append-then, beginning-after, begins_along, whole_begins}
use Rattle.workshop.specs.Failures.{Writer}
use Rattle.workshop.specs.Stepping.{BreaksIn, Extends}

-- a text that grows with each step begins with that of fewer steps
begins_by : (text : ℕ → List ℕ) → ((k : ℕ) → IsBeginning (text k) (text (k + 1))) → (n k : ℕ) → IsBeginning (text n) (text (n + k))
begins_by text grows n zero = let same : n + 0 ≡ n = omega arith in rw same (whole_begins (text n))
begins_by text grows n (suc k) =
    let last : n + suc k ≡ (n + k) + 1 = omega arith in
    rw last (begins_along _ _ _ (begins_by text grows n k) (grows (n + k)))

pub begins_later : (text : ℕ → List ℕ) → ((k : ℕ) → IsBeginning (text k) (text (k + 1))) → (n m : ℕ) → n ≤ m
    → IsBeginning (text n) (text m)
begins_later text grows n m h =
    let all : n + (m - n) ≡ m = omega (arith, h) in
    subst (λ k. IsBeginning (text n) (text k)) all (begins_by text grows n (m - n))

-- a part more of the text is written
pub extends_by : (told : Bool) (text : ℕ → List ℕ) (n m : ℕ) (a b part : List ℕ) → text m ≡ text n ++ part → (told ≡ true → b ≡ a ++ part)
    → Extends told text n m a b
extends_by told text n m a b part more written = λ is_told old e. rw more (append-then old a b (text n) part e (written is_told))

-- of the part of the step after m, up to which nothing more was written, a beginning is
pub breaks_by : (text : ℕ → List ℕ) (stop n m : ℕ) (before after : Writer) (part : List ℕ) → n ≤ m → m < stop → text m ≡ text n
    → text (m + 1) ≡ text m ++ part → (before.told ≡ true → WritesBeginning before.written after.written part)
    → after.failures ≡ one_more before.failures → BreaksIn text n stop before after
breaks_by text stop n m before after part past within same more broken failures =
    record {
      made = m;
      past = past;
      within = within;
      whole = λ is_told old e.
          let r = broken is_told in
          record { rest = r.part; whole = r.appended ∙ ap (λ (t : List ℕ). t ++ r.part) (rw same e) };
      broken = λ is_told old e. rw more (beginning-after old before.written after.written (text m) part (rw same e) (broken is_told));
      failures = failures;
    }
