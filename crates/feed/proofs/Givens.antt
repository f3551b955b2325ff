-- What lines give can be given.
use Rattle.std.proofs.Common.{◌≡◌, ◌<◌, ◌≤◌, ◌+◌, ◌^◌, ◌&&◌, ℕ, zero, suc, List, [], ◌∷◌, length, map, All, Option, Some, None, Result, Ok}
use Rattle.std.proofs.Common.{Err, Bool, true, false, cond, refl, arith}
use Rattle.std.specs.Prelude.{IfSome, IfOk, nat_le, nat_lt, codes}
use Rattle.std.specs.Option.{option_map}
use Rattle.std.specs.List.{list_all, range_with_len}
use Rattle.std.specs.Int.Digits.{number_from_digits, AllBelowBase}
use Rattle.std.proofs.Math.Nat.{pow-le-pow_right}
use Rattle.std.proofs.lemmas.Int.Digits.{number_lt}
use Rattle.std.proofs.lemmas.Bool.Decides.{nat_tests}
use Rattle.std.proofs.lemmas.List.{length-map}
use Rattle.std.proofs.lemmas.List.Elements.{All-nil, All-cons, All-head, All-tail, All-append}
use Rattle.agc_text.specs.Digits.{digit_value, is_digit, number_of}
use Rattle.agc_text.specs.Fields.{fields, texts}
use Rattle.agc_text.specs.Lines.{lines}
use Rattle.agc_text.specs.Tables.{same_name, value_in}
use Rattle.agc_text.proofs.DigitSteps.{digit_below}
use Rattle.feed.specs.Counters.{takes}
use Rattle.feed.specs.Feed.{statements, plain_in, plain_from, series_in, series_from, first_fault, inputs_of, unless_fault, inputs_by}
use Rattle.feed.specs.Feed.{inputs, most_bytes}
use Rattle.feed.specs.Given.{CanBeGiven, CanBeGivenAt, CanStand, LineGives, FeedGives}
use Rattle.feed.specs.Merged.{plain_entry, series_entry, series_on, entries_of, entries_from, entries, is_before, inserted, in_order}
use Rattle.feed.specs.Merged.{merged}
use Rattle.feed.specs.Names.{counters, sequences}
use Rattle.feed.specs.Statements.{passing, cycle_in, factor_in, is_input_channel, channel_in, word_in, request_in, word_on, formed}
use Rattle.feed.specs.Statements.{pulse_of, input_in, at_cycle, timed_in, rule_by, rule_in, gives, repeats, statement_in, is_allowed}
use Rattle.feed.specs.Statements.{statement_of, parsed}
use Rattle.feed.specs.declared.entry.Entry.{Entry}
use Rattle.feed.specs.declared.entry.Plain.{Plain}
use Rattle.feed.specs.declared.entry.Rule.{Rule}
use Rattle.feed.specs.declared.entry.Series.{Series}
use Rattle.feed.specs.declared.fault.FeedFault.{FeedFault}
use Rattle.feed.specs.declared.fault.FeedFault.TheVariants.{TooLong}
use Rattle.feed.specs.declared.fault.LineFault.{LineFault}
use Rattle.feed.specs.declared.fault.LineFault.TheVariants.{BadLine, WrongCounter}
use Rattle.feed.specs.declared.input.Counter.{Counter}
use Rattle.feed.specs.declared.input.Input.{Input}
use Rattle.feed.specs.declared.input.Input.TheVariants.{Count, Interrupt}
use Rattle.feed.specs.declared.input.Sequence.{Sequence}
use Rattle.feed.specs.declared.statement.Statement.{Statement}
use Rattle.feed.specs.declared.statement.Statement.TheVariants.{Nothing, Faulty, Gives, Repeats}

-- ## Numbers
below_base : (base : ℕ) (text : List ℕ) → list_all (is_digit base) text ≡ true → AllBelowBase base (map digit_value text)
below_base base [] all = tt
below_base base (x ∷ xs) all = here (is_digit base x) refl all (λ rest. below_base base xs rest)
  where
    here : (b : Bool) → is_digit base x ≡ b → (b && list_all (is_digit base) xs) ≡ true
        → (list_all (is_digit base) xs ≡ true → AllBelowBase base (map digit_value xs))
        → AllBelowBase base (map digit_value (x ∷ xs))
    here true is rest more = (digit_below base x is, more rest)
    here false isnt rest more = absurd (cc)

number_below : (base most : ℕ) (text : List ℕ) → 1 ≤ base → IfSome (number_of base most text) (λ n. n < base ^ most)
number_below base most text some = few (nat_le (length text) most) (nat_le 1 (length text)) (list_all (is_digit base) text) refl refl
  where
    value : list_all (is_digit base) text ≡ true → nat_le (length text) most ≡ true
        → number_from_digits base (map digit_value text) < base ^ most
    value all within =
        let small = number_lt base (map digit_value text) (below_base base text all) in
        let le : length text ≤ most = grind (arith, nat_tests) in
        let more : base ^ length text ≤ base ^ most = pow-le-pow_right {n = base} some le in
        omega (arith, rw length-map at small, more)

    few : (b c d : Bool) → nat_le (length text) most ≡ b → list_all (is_digit base) text ≡ d
        → IfSome (cond b (cond (c && d) (Some (number_from_digits base (map digit_value text))) None) None) (λ n. n < base ^ most)
    few true true true within all = value all within
    few true true false within all = tt
    few true false d within all = tt
    few false c d within all = tt

passed : (test : ℕ → Bool) (P : ℕ → Type 0) (o : Option ℕ) → IfSome o P → IfSome (passing test o) (λ n. P n × (test n ≡ true))
passed test P None h = tt
passed test P (Some n) h = on (test n) refl
  where
    on : (b : Bool) → test n ≡ b → IfSome (cond b (Some n) None) (λ n. P n × (test n ≡ true))
    on true is = (h, is)
    on false isnt = tt

-- ## Inputs
input_channel : (n : ℕ) → is_input_channel n ≡ true → n < 8 ^ 3
input_channel n is = grind (arith, nat_tests)

pair_given : (channel word : Option ℕ) → IfSome channel (λ n. (n < 8 ^ 5) × (is_input_channel n ≡ true))
    → IfSome word (λ w. (w < 8 ^ 5) × (nat_le w 0o77777 ≡ true)) → IfSome (word_on channel word) CanBeGiven
pair_given None word c w = tt
pair_given (Some n) None c w = tt
pair_given (Some n) (Some x) c w = (input_channel n c.1, w.0, c.1)

word_given : (channel word : List ℕ) → IfSome (word_on (channel_in channel) (word_in word)) CanBeGiven
word_given channel word =
    pair_given (channel_in channel) (word_in word)
    (passed is_input_channel (λ n. n < 8 ^ 5) (number_of 8 5 channel) (number_below 8 5 channel (omega arith)))
    (passed (λ n. nat_le n 0o77777) (λ n. n < 8 ^ 5) (number_of 8 5 word) (number_below 8 5 word (omega arith)))

asked_given : (o : Option ℕ) → IfSome o (λ n. (n < 10 ^ 2) × ((nat_le 1 n && nat_le n 10) ≡ true))
    → IfSome (option_map (λ n. Interrupt n) o) CanBeGiven
asked_given None h = tt
asked_given (Some n) h = let is = h.1 in (grind (arith, nat_tests, is), grind (arith, nat_tests, is))

request_given : (text : List ℕ) → IfSome (request_in text) CanBeGiven
request_given text =
    asked_given (passing (λ n. nat_le 1 n && nat_le n 10) (number_of 10 2 text))
    (passed (λ n. nat_le 1 n && nat_le n 10) (λ n. n < 10 ^ 2) (number_of 10 2 text) (number_below 10 2 text (omega arith)))

formed_given : (input : Option Input) → IfSome input CanBeGiven → IfOk (formed input) CanBeGiven
formed_given None h = tt
formed_given (Some input) h = h

pulse_given : (counter : Option Counter) (sequence : Option Sequence) → IfOk (pulse_of counter sequence) CanBeGiven
pulse_given None sequence = tt
pulse_given (Some counter) None = tt
pulse_given (Some counter) (Some sequence) = on (takes counter sequence) refl
  where
    on : (b : Bool) → takes counter sequence ≡ b → IfOk (cond b (Ok (Count counter sequence)) (Err WrongCounter)) CanBeGiven
    on true is = is
    on false isnt = tt

either_given : (b : Bool) (one other : Result Input LineFault) → IfOk one CanBeGiven → IfOk other CanBeGiven
    → IfOk (cond b one other) CanBeGiven
either_given true one other h k = h
either_given false one other h k = k

input_given : (fields : List (List ℕ)) → IfOk (input_in fields) CanBeGiven
input_given [] = tt
input_given (name ∷ []) = tt
input_given (name ∷ argument ∷ []) =
    either_given (same_name name (codes "RUPT")) (formed (request_in argument))
    (pulse_of (value_in counters name) (value_in sequences argument))
    (formed_given (request_in argument) (request_given argument)) (pulse_given (value_in counters name) (value_in sequences argument))
input_given (name ∷ channel ∷ word ∷ []) =
    either_given (same_name name (codes "CHAN")) (formed (word_on (channel_in channel) (word_in word))) (Err BadLine)
    (formed_given (word_on (channel_in channel) (word_in word)) (word_given channel word)) tt
input_given (name ∷ channel ∷ word ∷ next ∷ more) = tt

-- ## Lines
at_cycle_given : (cycle : Option ℕ) (input : Result Input LineFault) → IfSome cycle (λ n. n < 10 ^ 15) → IfOk input CanBeGiven
    → IfOk (at_cycle cycle input) (λ timed. CanBeGivenAt timed.0 timed.1)
at_cycle_given None input c h = tt
at_cycle_given (Some cycle) (Ok input) c h = (c, h)
at_cycle_given (Some cycle) (Err fault) c h = tt

timed_given : (fields : List (List ℕ)) → IfOk (timed_in fields) (λ timed. CanBeGivenAt timed.0 timed.1)
timed_given [] = tt
timed_given (cycle ∷ input) = at_cycle_given (cycle_in cycle) (input_in input) (number_below 10 15 cycle (omega arith)) (input_given input)

pub line_gives : (line : List ℕ) → LineGives line
unfolding parsed
line_gives line = on (is_allowed line)
  where
    on : (b : Bool) → IfOk (cond b (timed_in (texts (fields line))) (Err BadLine)) (λ timed. CanBeGivenAt timed.0 timed.1)
    on true = timed_given (texts (fields line))
    on false = tt

-- what a line says in a feed
abbrev IsGivable : Statement → Type 0
IsGivable Nothing = Unit {0}
IsGivable (Faulty fault) = Unit {0}
IsGivable (Gives cycle input) = CanBeGivenAt cycle input
IsGivable (Repeats rule) = CanBeGiven rule.input

gives_givable : (timed : Result (ℕ × Input) LineFault) → IfOk timed (λ timed. CanBeGivenAt timed.0 timed.1) → IsGivable (gives timed)
gives_givable (Ok timed) h = h
gives_givable (Err fault) h = tt

rule_by_given : (first num den count : Option ℕ) (input : Result Input LineFault) → IfOk input CanBeGiven
    → IfOk (rule_by first num den count input) (λ rule. CanBeGiven rule.input)
rule_by_given None num den count input h = tt
rule_by_given (Some first) None den count input h = tt
rule_by_given (Some first) (Some num) None count input h = tt
rule_by_given (Some first) (Some num) (Some den) None input h = tt
rule_by_given (Some first) (Some num) (Some den) (Some count) (Ok input) h = h
rule_by_given (Some first) (Some num) (Some den) (Some count) (Err fault) h = tt

rule_given : (fields : List (List ℕ)) → IfOk (rule_in fields) (λ rule. CanBeGiven rule.input)
rule_given [] = tt
rule_given (first ∷ []) = tt
rule_given (first ∷ num ∷ []) = tt
rule_given (first ∷ num ∷ den ∷ []) = tt
rule_given (first ∷ num ∷ den ∷ count ∷ input) = rule_by_given (cycle_in first) (factor_in num) (factor_in den) (factor_in count)
    (input_in input) (input_given input)

repeats_givable : (rule : Result Rule LineFault) → IfOk rule (λ rule. CanBeGiven rule.input) → IsGivable (repeats rule)
repeats_givable (Ok rule) h = h
repeats_givable (Err fault) h = tt

either_givable : (b : Bool) (one other : Statement) → IsGivable one → IsGivable other → IsGivable (cond b one other)
either_givable true one other h k = h
either_givable false one other h k = k

statement_in_givable : (fields : List (List ℕ)) → IsGivable (statement_in fields)
statement_in_givable [] = tt
statement_in_givable (first ∷ rest) =
    either_givable (same_name first (codes "EVERY")) (repeats (rule_in rest)) (gives (timed_in (first ∷ rest)))
    (repeats_givable (rule_in rest) (rule_given rest)) (gives_givable (timed_in (first ∷ rest)) (timed_given (first ∷ rest)))

statement_givable : (line : List ℕ) → IsGivable (statement_of line)
unfolding statement_of
statement_givable line = either_givable (is_allowed line) (statement_in (texts (fields line))) (Faulty BadLine)
    (statement_in_givable (texts (fields line))) tt

-- ## Feeds
abbrev AreGivable : List Statement → Type 0
AreGivable [] = Unit {0}
AreGivable (said ∷ more) = IsGivable said × AreGivable more

all_givable : (ls : List (List ℕ)) → AreGivable (map statement_of ls)
all_givable [] = tt
all_givable (line ∷ more) = (statement_givable line, all_givable more)

abbrev PlainStands : Plain → Type 0
PlainStands p = CanBeGivenAt p.cycle p.input

plain_stands : (line : ℕ) (said : Statement) → IsGivable said → All PlainStands (plain_in line said)
plain_stands line Nothing h = All-nil PlainStands
plain_stands line (Faulty fault) h = All-nil PlainStands
plain_stands line (Gives cycle input) h = All-cons PlainStands (record { cycle = cycle; line = line; input = input }) [] h
    (All-nil PlainStands)
plain_stands line (Repeats rule) h = All-nil PlainStands

plain_all : (line : ℕ) (said : List Statement) → AreGivable said → All PlainStands (plain_from line said)
unfolding plain_from
plain_all line [] h = All-nil PlainStands
plain_all line (s ∷ more) h = All-append PlainStands (plain_in line s) (plain_from (line + 1) more) (plain_stands line s h.0)
    (plain_all (line + 1) more h.1)

abbrev SeriesStands : Series → Type 0
SeriesStands s = CanBeGiven s.input

series_stands : (line : ℕ) (said : Statement) → IsGivable said → All SeriesStands (series_in line said)
series_stands line Nothing h = All-nil SeriesStands
series_stands line (Faulty fault) h = All-nil SeriesStands
series_stands line (Gives cycle input) h = All-nil SeriesStands
series_stands line (Repeats rule) h = All-cons SeriesStands (series_on line rule) [] h (All-nil SeriesStands)

series_all : (line : ℕ) (said : List Statement) → AreGivable said → All SeriesStands (series_from line said)
unfolding series_from
series_all line [] h = All-nil SeriesStands
series_all line (s ∷ more) h = All-append SeriesStands (series_in line s) (series_from (line + 1) more) (series_stands line s h.0)
    (series_all (line + 1) more h.1)

plain_entries : (plain : List Plain) → All PlainStands plain → All CanStand (map plain_entry plain)
plain_entries [] h = All-nil CanStand
plain_entries (p ∷ more) h =
    let here = All-head PlainStands p more h in
    All-cons CanStand (plain_entry p) (map plain_entry more) (record { input = here.1; plain = λ from. here.0 })
    (plain_entries more (All-tail PlainStands p more h))

series_entries : (j : ℕ) (s : Series) (from n : ℕ) → SeriesStands s → All CanStand (map (series_entry j s) (range_with_len from n))
series_entries j s from zero h = All-nil CanStand
series_entries j s from (suc n) h =
    All-cons CanStand (series_entry j s from) (map (series_entry j s) (range_with_len (from + 1) n))
    (record { input = h; plain = λ is. absurd (cc) }) (series_entries j s (from + 1) n h)

all_series_entries : (j : ℕ) (series : List Series) → All SeriesStands series → All CanStand (entries_from j series)
unfolding entries_from entries_of
all_series_entries j [] h = All-nil CanStand
all_series_entries j (s ∷ more) h =
    All-append CanStand (entries_of j s) (entries_from (j + 1) more) (series_entries j s 0 s.count (All-head SeriesStands s more h))
    (all_series_entries (j + 1) more (All-tail SeriesStands s more h))

pub inserted_all : (P : Entry → Type 0) (x : Entry) (ys : List Entry) → P x → All P ys → All P (inserted x ys)
unfolding inserted
inserted_all P x [] p h = All-cons P x [] p h
inserted_all P x (y ∷ ys) p h = on (is_before y x) (inserted_all P x ys p (All-tail P y ys h))
  where
    on : (b : Bool) → All P (inserted x ys) → All P (cond b (y ∷ inserted x ys) (x ∷ y ∷ ys))
    on true more = All-cons P y (inserted x ys) (All-head P y ys h) more
    on false more = All-cons P x (y ∷ ys) p h

in_order_all : (P : Entry → Type 0) (xs : List Entry) → All P xs → All P (in_order xs)
unfolding in_order
in_order_all P [] h = h
in_order_all P (x ∷ xs) h = inserted_all P x (in_order xs) (All-head P x xs h) (in_order_all P xs (All-tail P x xs h))

merged_all : (plain : List Plain) (series : List Series) → All PlainStands plain → All SeriesStands series
    → All CanStand (merged plain series)
unfolding merged
merged_all plain series p s = in_order_all CanStand (entries plain series)
    (All-append CanStand (map plain_entry plain) (entries_from 0 series) (plain_entries plain p) (all_series_entries 0 series s))

unless_all : (fault : Option FeedFault) (given : List Entry) → All CanStand given → IfOk (unless_fault fault given) (All CanStand)
unless_all None given h = h
unless_all (Some f) given h = tt

pub feed_gives : (text : List ℕ) → FeedGives text
unfolding inputs
feed_gives text = on (nat_lt most_bytes (length text))
  where
    said : List Statement
    said = statements text

    givable : AreGivable said
    givable = all_givable (lines text)

    on : (b : Bool) → IfOk (cond b (Err TooLong) (inputs_by said)) (All CanStand)
    on true = tt
    on false = unless_all (first_fault [] said) (inputs_of said)
        (merged_all (plain_from 1 said) (series_from 1 said) (plain_all 1 said givable) (series_all 1 said givable))
