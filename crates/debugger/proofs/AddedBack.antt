-- What `inputs` replies reads back, whatever was asked before.
use Rattle.std.proofs.Common.{◌≡◌, ℕ, ◌+◌, ◌<◌, ◌≤◌, suc, max, List, [], ◌∷◌, length, filter, All, Option, Some, None, Bool, true, false}
use Rattle.std.proofs.Common.{cond, refl, arith, ap, sym, subst, inl, inr}
use Rattle.std.specs.Prelude.{nat_le, nat_lt, codes}
use Rattle.std.proofs.lemmas.Bool.{cases_Bool}
use Rattle.std.proofs.lemmas.Bool.Decides.{nat_tests}
use Rattle.std.proofs.lemmas.List.{nil_from_length}
use Rattle.std.proofs.lemmas.List.Elements.{All-nil, All-cons, All-head, All-tail, All-weaker}
use Rattle.symbols.specs.Values.{SymbolTable}
use Rattle.yayul.specs.Program.{Source}
use Rattle.feed.specs.Added.{plain_on}
use Rattle.feed.specs.CountsTaken.{is_from}
use Rattle.feed.specs.Feed.{most_inputs}
use Rattle.feed.specs.Given.{CanBeGivenAt}
use Rattle.feed.specs.Merged.{inserted, is_before}
use Rattle.feed.specs.declared.entry.Entry.{Entry}
use Rattle.feed.specs.declared.input.Input.{Input}
use Rattle.feed.proofs.Givens.{inserted_all}
use Rattle.cpu.specs.State.{Scenario}
use Rattle.cpu.specs.Additions as additions
use Rattle.replay.specs.View.{greatest_cycle}
use Rattle.commands.specs.Extended.{extended_line}
use Rattle.commands.specs.declared.command.Breakpoint.{Breakpoint}
use Rattle.commands.specs.declared.command.Command.TheVariants.{Add}
use Rattle.commands.specs.declared.command.ParsedLine.{ParsedLine}
use Rattle.commands.specs.declared.command.ParsedLine.TheVariants.{Known}
use Rattle.commands.specs.declared.extended.ExtendedLine.{ExtendedLine}
use Rattle.commands.specs.declared.extended.ExtendedLine.TheVariants.{Plain, Common, ClearOne, On, Until, Over, Out, WhatIf}
use Rattle.commands.specs.declared.extended.ExtendedLine.TheVariants.{WhyInputs, WhyInterrupts}
use Rattle.debugger.specs.Additions.{line_after, with_added}
use Rattle.debugger.specs.Conversation.{Reading, to_asked, desk_after}
use Rattle.debugger.specs.ExtendedReplies.{extended_reply, clears_one, next_stop, stops_on, first_at, goes_until, further}
use Rattle.debugger.specs.History.{History, history}
use Rattle.debugger.specs.ReadBack.{NoneAtFirst, SessionReadsBack, standing_from}
use Rattle.debugger.specs.Replies.{Desk, Reply, answer, reply, refuses, addition_to_come, added_on, adds}
use Rattle.debugger.specs.Routines.{next_end, goes_on, goes_out_to}
use Rattle.debugger.specs.Terms.{Terms, first_added, terms_of}
use Rattle.debugger.specs.Transcript.{first_desk}
use Rattle.debugger.proofs.AddedLines.{ParsedGivable, AskedGivable, line_adds}
use Rattle.debugger.specs.Whys.{subject_spots}
use Rattle.debugger.specs.OriginsTold.{inputs_told, interrupts_told}
use Rattle.debugger.specs.WhatIfs.{program_of}
use Rattle.debugger.proofs.TriedReplies.{keeps_scenario, tried_keeps}
use Rattle.debugger.proofs.InputsRead.{IsGivable, told_first, reads_back}
use Rattle.debugger.proofs.Scripts.{keeps}

-- ## What stands
-- an input that stands on a line or after it, and is from no series, can be given
abbrev IsGood : ℕ → Entry → Type 0
IsGood first e = told_first first e ≡ true → is_from None e ≡ true → IsGivable e

-- all of them can, and they are few
record AreGood (first : ℕ) (scenario : Scenario) : Type 0 where
  each : All (IsGood first) scenario.inputs
  few : length (standing_from first scenario) ≤ most_inputs

all_filtered : (p : Entry → Bool) (Q P : Entry → Type 0) → ((e : Entry) → p e ≡ true → Q e → P e) → (xs : List Entry) → All Q xs
    → All P (filter p xs)
all_filtered p Q P f [] h = All-nil P
all_filtered p Q P f (x ∷ xs) h = elim (cases_Bool (p x)) [
  | inl passes ↦ rw passes (All-cons P x (filter p xs) (f x passes (All-head Q x xs h)) (all_filtered p Q P f xs (All-tail Q x xs h)))
  | inr passed ↦ rw passed (all_filtered p Q P f xs (All-tail Q x xs h))
]

fewer : (p : Entry → Bool) (xs : List Entry) → length (filter p xs) ≤ length xs
fewer p [] = omega arith
fewer p (x ∷ xs) = elim (cases_Bool (p x)) [
  | inl passes ↦ rw passes (omega (arith, fewer p xs))
  | inr passed ↦ rw passed (omega (arith, fewer p xs))
]

standing_good : (first : ℕ) (list : List Entry) → All (IsGood first) list
    → All IsGivable (filter (told_first first) (filter (is_from None) list))
standing_good first list h =
    all_filtered (told_first first) (λ e. told_first first e ≡ true → IsGivable e) IsGivable (λ e told f. f told)
    (filter (is_from None) list)
    (all_filtered (is_from None) (IsGood first) (λ e. told_first first e ≡ true → IsGivable e) (λ e from g told. g told from) list h)

-- at first none stands there
abbrev IsBelow : ℕ → Entry → Type 0
IsBelow first e = is_from None e ≡ true → e.line < first

all_below : (first : ℕ) (list : List Entry) → line_after (filter (is_from None) list) ≤ first → All (IsBelow first) list
all_below first [] h = All-nil (IsBelow first)
all_below first (e ∷ more) h = elim (cases_Bool (is_from None e)) [
  | inl passes ↦ (
      let le : max (e.line + 1) (line_after (filter (is_from None) more)) ≤ first = rw passes at h in
      All-cons (IsBelow first) e more (λ from. omega (arith, le)) (all_below first more (omega (arith, le))))
  | inr passed ↦ (
      let le : line_after (filter (is_from None) more) ≤ first = rw passed at h in
      All-cons (IsBelow first) e more (λ from. absurd (cc)) (all_below first more le))
]

not_told : (first line : ℕ) → line < first → nat_le first line ≡ false
not_told first line lt = grind (arith, nat_tests)

none_stands : (first : ℕ) (list : List Entry) → All (IsBelow first) list
    → length (filter (told_first first) (filter (is_from None) list)) ≡ 0
none_stands first [] h = refl
none_stands first (e ∷ more) h = elim (cases_Bool (is_from None e)) [
  | inl passes ↦ (
      let low = not_told first e.line (All-head (IsBelow first) e more h passes) in
      rw (passes, low) (none_stands first more (All-tail (IsBelow first) e more h)))
  | inr passed ↦ rw passed (none_stands first more (All-tail (IsBelow first) e more h))
]

pub none_at_first : (scenario : Scenario) → NoneAtFirst scenario
none_at_first scenario =
    nil_from_length (standing_from (first_added scenario) scenario)
    (none_stands (first_added scenario) scenario.inputs (all_below (first_added scenario) scenario.inputs (omega arith)))

good_at_first : (scenario : Scenario) → AreGood (first_added scenario) scenario
good_at_first scenario =
    let first = first_added scenario in
    let below = all_below first scenario.inputs (omega arith) in
    record {
      each = All-weaker (IsBelow first) (IsGood first) (λ e low told from. absurd (let no_more = not_told first e.line (low from) in cc))
          scenario.inputs below;
      few = rw (none_at_first scenario) (omega arith);
    }

-- one more
one_more : (x : Entry) (ys : List Entry) → is_from None x ≡ true
    → length (filter (is_from None) (inserted x ys)) ≡ suc (length (filter (is_from None) ys))
unfolding inserted
one_more x [] from = rw from refl
one_more x (y ∷ ys) from = on (is_before y x) (one_more x ys from)
  where
    later : (b : Bool) → is_from None y ≡ b → length (filter (is_from None) (inserted x ys)) ≡ suc (length (filter (is_from None) ys))
        → length (filter (is_from None) (y ∷ inserted x ys)) ≡ suc (length (filter (is_from None) (y ∷ ys)))
    later true is more = rw is (ap suc more)
    later false isnt more = rw isnt more

    on : (b : Bool) → length (filter (is_from None) (inserted x ys)) ≡ suc (length (filter (is_from None) ys))
        → length (filter (is_from None) (cond b (y ∷ inserted x ys) (x ∷ y ∷ ys))) ≡ suc (length (filter (is_from None) (y ∷ ys)))
    on true more = later (is_from None y) refl more
    on false more = rw from refl

good_added : (first line cycle : ℕ) (input : Input) (scenario : Scenario) → CanBeGivenAt cycle input
    → additions.plain_inputs scenario < most_inputs → AreGood first scenario
    → AreGood first (with_added line cycle input scenario)
unfolding with_added
good_added first line cycle input scenario given room h =
    let x = plain_on (max line (line_after scenario.inputs)) cycle input in
    let more = one_more x scenario.inputs refl in
    let part = fewer (told_first first) (filter (is_from None) (inserted x scenario.inputs)) in
    record {
      each = inserted_all (IsGood first) x scenario.inputs (λ told from. given) h.each;
      few = omega (arith, more, part, room);
    }

-- ## Replies
after_addition : (first : ℕ) (o : Option ℕ) (d : Desk) (cycle : ℕ) (input : Input) → CanBeGivenAt cycle input
    → additions.plain_inputs d.scenario < most_inputs → AreGood first d.scenario
    → AreGood first (added_on o d cycle input).desk.scenario
after_addition first None d cycle input given room h = h
after_addition first (Some line) d cycle input given room h = good_added first line cycle input d.scenario given room h

after_adds : (first : ℕ) (h : History) (d : Desk) (cycle : ℕ) (input : Input) → CanBeGivenAt cycle input → AreGood first d.scenario
    → AreGood first (adds h d cycle input).desk.scenario
after_adds first h d cycle input given good =
    on (nat_lt greatest_cycle cycle) (nat_le cycle (h.after d.steps).cycles)
    (nat_le additions.most_plain_inputs (additions.plain_inputs d.scenario)) refl
  where
    below : (a b : ℕ) → nat_le b a ≡ false → a < b
    below a b e = grind (arith, nat_tests)

    on : (long early many : Bool) → nat_le additions.most_plain_inputs (additions.plain_inputs d.scenario) ≡ many
        → AreGood first
        (cond long (refuses d (codes "E50 COMMAND"))
        (cond early (refuses d (codes "E42 TOO EARLY"))
        (cond many (refuses d (codes "E32 TOO MANY"))
        (added_on (addition_to_come d.additions) d cycle input)))).desk.scenario
    on true early many e = good
    on false true many e = good
    on false false true e = good
    on false false false e = after_addition first (addition_to_come d.additions) d cycle input given
        (below (additions.plain_inputs d.scenario) additions.most_plain_inputs e) good

after_answer : (first : ℕ) (h : History) (d : Desk) (request : ParsedLine) → ParsedGivable request → AreGood first d.scenario
    → AreGood first (answer h d request).desk.scenario
unfolding answer reply
after_answer first h d (Known (Add cycle input)) given good = after_adds first h d cycle input given good
after_answer first h d request given good = subst (AreGood first) (sym (keeps h d request refl)) good

after_clear : (first : ℕ) (d : Desk) (i : ℕ) → AreGood first d.scenario → AreGood first (clears_one d i).desk.scenario
after_clear first d i good = on _ _ _ good good
  where
    on : (b : Bool) (r s : Reply) → AreGood first r.desk.scenario → AreGood first s.desk.scenario → AreGood first (cond b r s).desk.scenario
    on true r s p q = p
    on false r s p q = q

after_stop : (first : ℕ) (h : History) (d : Desk) (k : ℕ) (o : Option ℕ) → AreGood first d.scenario
    → AreGood first (stops_on h d k o).desk.scenario
after_stop first h d k None good = good
after_stop first h d k (Some t) good = good

after_until : (first : ℕ) (h : History) (d : Desk) (cycles : ℕ) (o : Option ℕ) → AreGood first d.scenario
    → AreGood first (goes_until h d cycles o).desk.scenario
after_until first h d cycles None good = good
after_until first h d cycles (Some t) good = good

after_going : (first : ℕ) (h : History) (d : Desk) (end : Breakpoint) (k : ℕ) (o : Option ℕ) → AreGood first d.scenario
    → AreGood first (goes_on h d end k o).desk.scenario
after_going first h d end k None good = good
after_going first h d end k (Some t) good = good

after_out : (first : ℕ) (h : History) (d : Desk) (k : ℕ) (o : Option Breakpoint) → AreGood first d.scenario
    → AreGood first (goes_out_to h d k o).desk.scenario
after_out first h d k None good = good
after_out first h d k (Some end) good = after_going first h d end k (next_end h d end k) good

after_asked : (terms : Terms) (h : History) (d : Desk) (request : ExtendedLine) → AskedGivable request → AreGood terms.first d.scenario
    → AreGood terms.first (extended_reply terms h d request).desk.scenario
unfolding extended_reply answer
after_asked terms h d (Plain request) given good = after_answer terms.first h d request given good
after_asked terms h d (Common command) given good = after_answer terms.first (further h) d (Known command) given good
after_asked terms h d (ClearOne i) given good = after_clear terms.first d i good
after_asked terms h d (On k) given good = after_stop terms.first (further h) d k (next_stop h d k) good
after_asked terms h d (Until cycles) given good = after_until terms.first (further h) d cycles (first_at h d.steps cycles) good
after_asked terms h d (Over k) given good = after_going terms.first (further h) d _ k _ good
after_asked terms h d (Out k) given good = after_out terms.first (further h) d k _ good
after_asked terms h d (WhatIf trial extent) given good =
    subst (AreGood terms.first) (sym (keeps_scenario (program_of terms.symbols terms.source d.scenario) trial extent d)) good
after_asked terms h d (WhyInputs subject) given good =
    let text = inputs_told terms.symbols d.scenario d.position (subject_spots subject) in
    subst (AreGood terms.first) (sym (tried_keeps (addition_to_come d.additions) d text)) good
after_asked terms h d (WhyInterrupts subject) given good =
    let text = interrupts_told d.scenario d.position (subject_spots subject) in
    subst (AreGood terms.first) (sym (tried_keeps (addition_to_come d.additions) d text)) good
after_asked terms h d request given good = good

after_lines : (terms : Terms) (read : Reading) → ((line : List ℕ) → AskedGivable (read line)) → (d : Desk) (lines : List (List ℕ))
    → AreGood terms.first d.scenario
    → AreGood terms.first (desk_after terms read d lines).scenario
after_lines terms read each d [] good = good
after_lines terms read each d (line ∷ more) good =
    after_lines terms read each (to_asked terms (read line) d).desk more
    (after_asked terms (history d.scenario) d (read line) (each line) good)

pub session_reads_back : (symbols : SymbolTable) (source : Source) (scenario : Scenario) (answers : List Bool) (additions : List (Option ℕ))
    (lines : List (List ℕ))
    → SessionReadsBack symbols source scenario answers additions lines
unfolding extended_reply
session_reads_back symbols source scenario answers additions lines =
    let terms = terms_of symbols source scenario in
    let d = desk_after terms (extended_line symbols) (first_desk scenario answers additions) lines in
    let good = after_lines terms (extended_line symbols) (line_adds symbols) (first_desk scenario answers additions) lines
    (good_at_first scenario) in
    reads_back terms.first d.scenario (let few = good.few in omega (arith, few)) (standing_good terms.first d.scenario.inputs good.each)
