-- The fields of a line of a feed are refused exactly where their slip says why.
use Rattle.std.proofs.Common.{◌≡◌, ◌∙◌, ℕ, ◌+◌, ◌==◌, Bool, true, false, List, [], ◌∷◌, Option, None, Some, Result, Ok, Err, refl, ap, sym}
use Rattle.std.proofs.Common.{inl, inr}
use Rattle.std.specs.Prelude.{codes, is_ok, is_some, if◌then◌else◌}
use Rattle.std.proofs.lemmas.Bool.{cases_Bool, and_parts, eqb-true}
use Rattle.agc_text.specs.Tables.{same_name, value_in}
use Rattle.feed.specs.Counters.{takes}
use Rattle.feed.specs.Names.{counters, sequences}
use Rattle.feed.specs.Slips.{SlipTells, counter_slip, factors_slip, input_slip, is_said, is_taken, line_slip, series_slip, slip_at}
use Rattle.feed.specs.Slips.{surplus_slip, why_not_taken, word_slip}
use Rattle.feed.specs.Statements.{at_cycle, channel_in, cycle_in, factor_in, formed, gives, input_in, pulse_of, repeats, request_in}
use Rattle.feed.specs.Statements.{rule_by, rule_in, statement_in, word_in, word_on}
use Rattle.feed.specs.declared.entry.Rule.{Rule}
use Rattle.feed.specs.declared.fault.LineFault.{LineFault}
use Rattle.feed.specs.declared.input.Counter.{Counter}
use Rattle.feed.specs.declared.input.Input.{Input}
use Rattle.feed.specs.declared.input.Sequence.{Sequence}
use Rattle.feed.specs.declared.slip.Why.TheVariants.{Taken, Cycle, First, Factor, Channel, Word, Request, Surplus}

same : (a b : List ℕ) → same_name a b ≡ true → a ≡ b
same [] [] e = refl
same [] (y ∷ ys) e = cc
same (x ∷ xs) [] e = cc
same (x ∷ xs) (y ∷ ys) e =
    let parts = and_parts (x == y) (same_name xs ys) e in
    ap (λ k. k ∷ xs) (eqb-true x y parts.0) ∙ ap (λ ks. y ∷ ks) (same xs ys parts.1)

-- CHAN is no counter
chan_counts : value_in counters (codes "CHAN") ≡ None
unfolding counters
chan_counts = refl

-- ## An input
-- what follows a counter, or what may be one, of one field
by_pulse : (field : ℕ) (counter : Option Counter) (sequence : Option Sequence) (argument : List ℕ) → value_in sequences argument ≡ sequence
    → is_taken (counter_slip field counter (argument ∷ [])).why ≡ is_ok (pulse_of counter sequence)
by_pulse field None sequence argument e = refl
by_pulse field (Some counter) None argument e = rw e refl
by_pulse field (Some counter) (Some sequence) argument e = rw e (by_takes (takes counter sequence))
  where
    by_takes : (taken : Bool) → is_taken (if taken then Taken else Rattle.feed.specs.declared.slip.Why.TheVariants.NotTaken counter)
        ≡ is_ok (if taken then Ok (Rattle.feed.specs.declared.input.Input.TheVariants.Count counter sequence) else Err
        Rattle.feed.specs.declared.fault.LineFault.TheVariants.WrongCounter)
    by_takes true = refl
    by_takes false = refl

no_counter : (field : ℕ) (counter : Option Counter) → is_taken (counter_slip field counter []).why ≡ false
no_counter field None = refl
no_counter field (Some counter) = refl

more_than_a_pulse : (field : ℕ) (counter : Option Counter) (a b : List ℕ) (rest : List (List ℕ))
    → is_taken (counter_slip field counter (a ∷ b ∷ rest)).why ≡ false
more_than_a_pulse field None a b rest = refl
more_than_a_pulse field (Some counter) a b rest = refl

requested : (field : ℕ) (request : Option Input)
    → is_taken (if is_some request then slip_at field Taken else slip_at field Request).why ≡ is_ok (formed request)
requested field None = refl
requested field (Some request) = refl

on_channel : (f g h : ℕ) (channel word : Option ℕ)
    → is_taken (if is_some channel then (if is_some word then slip_at f Taken else slip_at g Word) else slip_at h Channel).why
    ≡ is_ok (formed (word_on channel word))
on_channel f g h None word = refl
on_channel f g h (Some channel) None = refl
on_channel f g h (Some channel) (Some word) = refl

never : (f g h : ℕ) (a b : Bool) → is_taken (if a then (if b then slip_at f Surplus else slip_at g Word) else slip_at h Channel).why ≡ false
never f g h true true = refl
never f g h true false = refl
never f g h false b = refl

never_one : (f g : ℕ) (a : Bool) → is_taken (if a then slip_at f Surplus else slip_at g Request).why ≡ false
never_one f g true = refl
never_one f g false = refl

never_missing : (field : ℕ) (a : Bool) → is_taken
    (if a then slip_at field Rattle.feed.specs.declared.slip.Why.TheVariants.Missing else slip_at field Channel).why ≡ false
never_missing field true = refl
never_missing field false = refl

chan_alone : (name : List ℕ) → same_name name (codes "CHAN") ≡ true
    → (same_name name (codes "RUPT") ≡ false) × (value_in counters name ≡ None)
chan_alone name e =
    let is : name ≡ codes "CHAN" = same name (codes "CHAN") e in
    (ap (λ n. same_name n (codes "RUPT")) is, ap (value_in counters) is ∙ chan_counts)

input_tells : (field : ℕ) (fields : List (List ℕ)) → is_taken (input_slip field fields).why ≡ is_ok (input_in fields)
input_tells field [] = refl
input_tells field (name ∷ []) =
    elim (cases_Bool (same_name name (codes "CHAN"))) [
      | inl chan ↦ rw chan refl
      | inr other ↦ rw other (elim (cases_Bool (same_name name (codes "RUPT"))) [
        | inl rupt ↦ rw rupt refl
        | inr none ↦ rw none (no_counter (field + 1) (value_in counters name))
      ])
    ]
input_tells field (name ∷ a ∷ []) =
    elim (cases_Bool (same_name name (codes "CHAN"))) [
      | inl chan ↦ (let apart = chan_alone name chan in rw (chan, apart.0, apart.1)
          (never_missing (field + 1 + 1) (is_some (channel_in a))))
      | inr other ↦ rw other (elim (cases_Bool (same_name name (codes "RUPT"))) [
        | inl rupt ↦ rw rupt (requested (field + 1 + 1) (request_in a))
        | inr none ↦ rw none (by_pulse (field + 1) (value_in counters name) (value_in sequences a) a refl)
      ])
    ]
input_tells field (name ∷ a ∷ b ∷ []) =
    elim (cases_Bool (same_name name (codes "CHAN"))) [
      | inl chan ↦ rw chan (on_channel (field + 1 + 1 + 1) (field + 1 + 1 + 1) (field + 1 + 1) (channel_in a) (word_in b))
      | inr other ↦ rw other (elim (cases_Bool (same_name name (codes "RUPT"))) [
        | inl rupt ↦ rw rupt (never_one (field + 1 + 1 + 1) (field + 1 + 1) (is_some (request_in a)))
        | inr none ↦ rw none (more_than_a_pulse (field + 1) (value_in counters name) a b [])
      ])
    ]
input_tells field (name ∷ a ∷ b ∷ c ∷ rest) =
    elim (cases_Bool (same_name name (codes "CHAN"))) [
      | inl chan ↦ rw chan (never (field + 1 + 1 + 1 + 1) (field + 1 + 1 + 1) (field + 1 + 1) (is_some (channel_in a))
          (is_some (word_in b)))
      | inr other ↦ rw other (elim (cases_Bool (same_name name (codes "RUPT"))) [
        | inl rupt ↦ rw rupt (never_one (field + 1 + 1 + 1) (field + 1 + 1) (is_some (request_in a)))
        | inr none ↦ rw none (more_than_a_pulse (field + 1) (value_in counters name) a b (c ∷ rest))
      ])
    ]

-- ## A series
abbrev Numbers : List (List ℕ) → Option ℕ → Option ℕ → Option ℕ → Option ℕ → Type 0
Numbers rest first num den count =
    is_taken (if is_some first then (if is_some num then
    (if is_some den then (if is_some count then input_slip 4 rest else slip_at 4 Factor) else slip_at 3 Factor) else slip_at 2 Factor)
    else slip_at 1 First).why
    ≡ is_ok (rule_by first num den count (input_in rest))

by_input : (first num den count : ℕ) (rest : List (List ℕ)) (input : Result Input LineFault) → input_in rest ≡ input
    → Numbers rest (Some first) (Some num) (Some den) (Some count)
by_input first num den count rest (Ok input) e = input_tells 4 rest ∙ rw e refl
by_input first num den count rest (Err fault) e = input_tells 4 rest ∙ rw e refl

numbers_tell : (rest : List (List ℕ)) (first num den count : Option ℕ) → Numbers rest first num den count
numbers_tell rest None num den count = refl
numbers_tell rest (Some first) None den count = refl
numbers_tell rest (Some first) (Some num) None count = refl
numbers_tell rest (Some first) (Some num) (Some den) None = refl
numbers_tell rest (Some first) (Some num) (Some den) (Some count) = by_input first num den count rest (input_in rest) refl

few : (a b c : Bool) → is_taken (if a then (if b then
    (if c then slip_at 3 Rattle.feed.specs.declared.slip.Why.TheVariants.MissingFactor else slip_at 3 Factor) else slip_at 2 Factor) else
    slip_at 1 First).why ≡ false
few true true true = refl
few true true false = refl
few true false c = refl
few false b c = refl

fewer : (a b : Bool) → is_taken (if a then (if b then slip_at 2 Rattle.feed.specs.declared.slip.Why.TheVariants.MissingFactor else slip_at 2
    Factor) else slip_at 1 First).why ≡ false
fewer true true = refl
fewer true false = refl
fewer false b = refl

fewest : (a : Bool) → is_taken (if a then slip_at 1 Rattle.feed.specs.declared.slip.Why.TheVariants.MissingFactor else slip_at 1 First).why
    ≡ false
fewest true = refl
fewest false = refl

series_tells : (fields : List (List ℕ)) → is_taken (series_slip fields).why ≡ is_ok (rule_in fields)
series_tells [] = refl
series_tells (first ∷ []) = fewest (is_some (cycle_in first))
series_tells (first ∷ num ∷ []) = fewer (is_some (cycle_in first)) (is_some (factor_in num))
series_tells (first ∷ num ∷ den ∷ []) = few (is_some (cycle_in first)) (is_some (factor_in num)) (is_some (factor_in den))
series_tells (first ∷ num ∷ den ∷ count ∷ rest) = numbers_tell rest (cycle_in first) (factor_in num) (factor_in den) (factor_in count)

-- ## A line
repeated : (rule : Result Rule LineFault) → is_ok rule ≡ is_said (repeats rule)
repeated (Ok rule) = refl
repeated (Err fault) = refl

at_its_cycle : (rest : List (List ℕ)) (cycle : Option ℕ) (input : Result Input LineFault) → input_in rest ≡ input
    → is_taken (if is_some cycle then input_slip 0 rest else slip_at 0 Cycle).why ≡ is_said (gives (at_cycle cycle input))
at_its_cycle rest None input e = refl
at_its_cycle rest (Some cycle) (Ok input) e = input_tells 0 rest ∙ rw e refl
at_its_cycle rest (Some cycle) (Err fault) e = input_tells 0 rest ∙ rw e refl

pub slip_tells : (fields : List (List ℕ)) → SlipTells fields
slip_tells [] = refl
slip_tells (first ∷ rest) =
    elim (cases_Bool (same_name first (codes "EVERY"))) [
      | inl every ↦ rw every (series_tells rest ∙ repeated (rule_in rest))
      | inr other ↦ rw other (at_its_cycle rest (cycle_in first) (input_in rest) refl)
    ]
