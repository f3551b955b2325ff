-- A session tells each output once while it makes steps, or counts it.
use Rattle.std.proofs.Common.{◌≡◌, ◌<◌, ◌≤◌, ◌+◌, ◌-◌, ◌==◌, ◌&&◌, ℕ, zero, suc, Bool, true, false, cond, Option, Some, None, List, [], ◌∷◌}
use Rattle.std.proofs.Common.{All, ◌++◌, refl, sym, ap, ◌∙◌, subst, arith, max, min, append_assoc, append-nil}
use Rattle.std.specs.Prelude.{codes, decimal, length, nat_le, nat_lt}
use Rattle.std.specs.List.{flat_map, range_with_len, remove}
use Rattle.std.specs.Option.{option_to_list}
use Rattle.std.proofs.lemmas.List.Concat.{flat_map-append}
use Rattle.std.proofs.lemmas.Bool.Decides.{nat_tests}
use Rattle.std.proofs.lemmas.List.Elements.{All-head, All-tail}
use Rattle.feed.specs.Added.{plain_on}
use Rattle.feed.specs.Merged.{inserted}
use Rattle.feed.specs.Order.{IsInOrder}
use Rattle.feed.specs.declared.input.Input.{Input}
use Rattle.feed.proofs.DueLaws.{due-inserted}
use Rattle.feed.proofs.Sorting.{in_order-inserted}
use Rattle.symbols.specs.Values.{SymbolTable}
use Rattle.yayul.specs.Program.{Source}
use Rattle.cpu.specs.Additions.{most_plain_inputs, plain_inputs}
use Rattle.cpu.specs.ChannelLines.{channel_line, channel_lines}
use Rattle.cpu.specs.Run.{run, out, outs}
use Rattle.cpu.specs.State.{Scenario}
use Rattle.cpu.specs.declared.output.Output.{Output}
use Rattle.cpu.proofs.LateInputs.{runs-alike}
use Rattle.cpu.proofs.RunLaws.{outs-add-one}
use Rattle.replay.specs.Memory.{step_limit}
use Rattle.replay.specs.View.{greatest_cycle}
use Rattle.commands.specs.declared.command.Breakpoint.{Breakpoint}
use Rattle.commands.specs.declared.command.Command.{Command}
use Rattle.commands.specs.declared.command.Command.TheVariants.{Step, Run, Back, Goto, Seek, Break, Clear, Registers, Memory, Channel, Last}
use Rattle.commands.specs.declared.command.Command.TheVariants.{Symbol, Changed, Tail, Add, Quit}
use Rattle.commands.specs.declared.command.ParsedLine.{ParsedLine}
use Rattle.commands.specs.declared.command.ParsedLine.TheVariants.{Nothing, TooLong, Unknown, WrongCounter, Known}
use Rattle.commands.specs.declared.extended.ExtendedLine.{ExtendedLine}
use Rattle.commands.specs.declared.extended.ExtendedLine.TheVariants.{Plain, Common, ClearOne, On, Until, Over, Out, Words, Listed, Values}
use Rattle.commands.specs.declared.extended.ExtendedLine.TheVariants.{WhatIf, WhyInputs, WhyInterrupts, Quiet}
use Rattle.commands.specs.declared.command.Breakpoint.TheVariants.{Cycles}
use Rattle.commands.specs.Extended.{most_count}
use Rattle.debugger.specs.Additions.{line_after, with_added}
use Rattle.debugger.specs.Conversation.{Reading, reading, is_end, to_asked, conversation, last_desk}
use Rattle.debugger.specs.declared.ending.Ending.{Ending}
use Rattle.debugger.specs.declared.ending.Ending.TheVariants.{NoMemory, Limit, Hit}
use Rattle.debugger.specs.declared.manner.Manner.{Manner}
use Rattle.debugger.specs.ExtendedReplies.{extended_reply, first_at, further, goes_until, next_stop, stops_on, unhit}
use Rattle.debugger.specs.Growth.{Growth, grow, growth_told, grown, hit_at, is_refused, later, output_line, outputs_after, unless_hit}
use Rattle.debugger.specs.Growth.{with_line, words_line}
use Rattle.debugger.specs.History.{History, Sight, history, silent}
use Rattle.debugger.specs.Rows.{numbers_text, plain_row, row_text}
use Rattle.debugger.specs.Standing.{place_after, places_from, rows_text, words_from, words_text}
use Rattle.debugger.specs.declared.rows.RowKind.{RowKind}
use Rattle.debugger.specs.declared.rows.RowKind.TheVariants.{Instruction, Number}
use Rattle.space.specs.declared.place.Linear.{Linear}
use Rattle.space.specs.declared.place.Linear.TheVariants.{Erasable, Fixed}
use Rattle.rope.specs.Places.{Words as Words'}
use Rattle.words.specs.Numerals.{octal_text}
use Rattle.yayul.specs.Listing.{place_text}
use Rattle.yayul.specs.PlaceRows.{line_of, place_row}
use Rattle.std.specs.Option.{option_map_or}
use Rattle.debugger.specs.OutputsOnce.{OutputsAreToldOnce, Part, outputs_told, outs_after, part_of, part_text, parts, quiet_after}
use Rattle.debugger.specs.OutputsOnce.{sets_quiet, told_part}
use Rattle.debugger.specs.Whys.{subject_spots}
use Rattle.debugger.specs.OriginsTold.{inputs_told, interrupts_told, tells_inputs, tells_interrupts}
use Rattle.debugger.specs.WhatIfs.{program_of, tries}
use Rattle.debugger.proofs.TriedReplies.{keeps_quiet, keeps_scenario, keeps_steps, tried_hushed, tried_keeps, tried_stays}
use Rattle.debugger.specs.Replies.{Desk, Reply, added_on, addition_to_come, adds, after_growth, after_text, answer, ending_line, here}
use Rattle.debugger.specs.Replies.{last_stop, line, memory_word, refuses, reply, says, sought, stands}
use Rattle.debugger.specs.Routines.{arrival_text, goes_on, goes_out_to, next_end, took}
use Rattle.debugger.specs.Terms.{Terms, terms_of}
use Rattle.debugger.specs.Transcript.{first_desk}

-- ## Outputs of some steps
lines-append : (xs ys : List Output) → channel_lines (xs ++ ys) ≡ channel_lines xs ++ channel_lines ys
unfolding channel_lines
lines-append xs ys = flat_map-append channel_line xs ys

one_line : (o : Option Output) → output_line o ≡ channel_lines (option_to_list o)
unfolding channel_lines
one_line None = refl
one_line (Some o) = sym (append-nil (channel_line o))

no_lines : (scenario : Scenario) (n m : ℕ) → m ≡ n → channel_lines (outs_after scenario n (m - n)) ≡ []
unfolding channel_lines
no_lines scenario n m e = let none : m - n ≡ 0 = omega (arith, e) in ap (λ k. flat_map channel_line (outs_after scenario n k)) none

told_of_none : (q : Bool) → outputs_told q [] ≡ []
unfolding channel_lines
told_of_none false = refl
told_of_none true = refl

nothing_told : (q : Bool) (scenario : Scenario) (n m : ℕ) → m ≡ n → outputs_told q (outs_after scenario n (m - n)) ≡ []
nothing_told q scenario n m e =
    let none : m - n ≡ 0 = omega (arith, e) in ap (λ k. outputs_told q (outs_after scenario n k)) none ∙ told_of_none q

-- those up to a step, and those after it
outs_both : (scenario : Scenario) (n k : ℕ) → outs scenario n ++ outs_after scenario n k ≡ outs scenario (n + k)
outs_both scenario n zero = let same : n ≡ n + 0 = omega arith in append-nil (outs scenario n) ∙ ap (outs scenario) same
outs_both scenario n (suc k) =
    let same : n + 1 + k ≡ n + suc k = omega arith in
    sym (append_assoc (outs scenario n) (option_to_list (out scenario (n + 1))) (outs_after scenario (n + 1) k))
    ∙ ap (λ (xs : List Output). xs ++ outs_after scenario (n + 1) k) (sym (outs-add-one scenario n))
    ∙ outs_both scenario (n + 1) k ∙ ap (outs scenario) same

-- ## Growth
-- what steps tell, beside what they would tell if none put out
record Silenced (scenario : Scenario) (n : ℕ) (g s : Growth) : Type 0 where
  on : n ≤ g.steps
  text : g.text ≡ channel_lines (outs_after scenario n (g.steps - n))
  same : s ≡ record g { text = [] }

ended : (scenario : Scenario) (n : ℕ) (answers : List Bool) (ending : Ending)
    → Silenced scenario n (grown n answers ending) (grown n answers ending)
ended scenario n answers ending = record { on = omega arith; text = sym (no_lines scenario n n refl); same = refl }

unless : (scenario : Scenario) (n : ℕ) (hit : Option ℕ) (answers : List Bool) (g s : Growth) → Silenced scenario n g s
    → Silenced scenario n (unless_hit hit n answers g) (unless_hit hit n answers s)
unless scenario n None answers g s h = h
unless scenario n (Some i) answers g s h = ended scenario n answers (Hit i)

with_one : (scenario : Scenario) (n : ℕ) (o : Option Output) (g s : Growth) → o ≡ out scenario (n + 1) → Silenced scenario (n + 1) g s
    → Silenced scenario n (with_line (output_line o) g) (with_line [] s)
with_one scenario n o g s e h =
    let count : suc (g.steps - (n + 1)) ≡ g.steps - n = omega (arith, h.on) in
    record {
      on = omega (arith, h.on);
      text = ap (λ (t : List ℕ). output_line o ++ t) h.text
          ∙ ap (λ (t : List ℕ). t ++ channel_lines (outs_after scenario (n + 1) (g.steps - (n + 1)))) (one_line o)
          ∙ sym (lines-append (option_to_list o) (outs_after scenario (n + 1) (g.steps - (n + 1))))
          ∙ ap (λ (p : Option Output). channel_lines (option_to_list p ++ outs_after scenario (n + 1) (g.steps - (n + 1)))) e
          ∙ ap (λ k. channel_lines (outs_after scenario n k)) count;
      same = ap (with_line []) h.same;
    }

grows_by : (scenario : Scenario) (h : History) (breakpoints : List Breakpoint) (n : ℕ) (answers : List Bool) (limit refused : Bool)
    (g s : Growth) → h.output (n + 1) ≡ out scenario (n + 1) → Silenced scenario (n + 1) g s
    → Silenced scenario n
    (cond limit (grown n answers Limit) (cond refused (grown n (later answers) NoMemory)
    (with_line (output_line (h.output (n + 1))) (unless_hit (hit_at h breakpoints (n + 1)) (n + 1) (later answers) g))))
    (cond limit (grown n answers Limit) (cond refused (grown n (later answers) NoMemory)
    (with_line [] (unless_hit (hit_at h breakpoints (n + 1)) (n + 1) (later answers) s))))
grows_by scenario h breakpoints n answers true refused g s e more = ended scenario n answers Limit
grows_by scenario h breakpoints n answers false true g s e more = ended scenario n (later answers) NoMemory
grows_by scenario h breakpoints n answers false false g s e more =
    let hit = hit_at h breakpoints (n + 1) in
    with_one scenario n (h.output (n + 1)) (unless_hit hit (n + 1) (later answers) g) (unless_hit hit (n + 1) (later answers) s) e
    (unless scenario (n + 1) hit (later answers) g s more)

grows : (scenario : Scenario) (h : History) → ((t : ℕ) → h.output t ≡ out scenario t)
    → (breakpoints : List Breakpoint) (k n : ℕ) (answers : List Bool)
    → Silenced scenario n (grow h breakpoints k n answers) (grow (silent h) breakpoints k n answers)
unfolding grow
grows scenario h e breakpoints zero n answers = ended scenario n answers _
grows scenario h e breakpoints (suc k) n answers =
    grows_by scenario h breakpoints n answers (n == step_limit) (is_refused answers) (grow h breakpoints k (n + 1) (later answers))
    (grow (silent h) breakpoints k (n + 1) (later answers)) (e (n + 1))
    (grows scenario h e breakpoints k (n + 1) (later answers))

-- steps as they are told, beside what would be told if none put out
record Hushed (q : Bool) (scenario : Scenario) (n : ℕ) (g s : Growth) : Type 0 where
  on : n ≤ g.steps
  text : g.text ≡ outputs_told q (outs_after scenario n (g.steps - n))
  same : s ≡ record g { text = [] }

are_outputs : (scenario : Scenario) (h : History) → ((t : ℕ) → h.output t ≡ out scenario t) → (n k : ℕ)
    → outputs_after h n k ≡ outs_after scenario n k
are_outputs scenario h e n zero = refl
are_outputs scenario h e n (suc k) =
    ap (λ (o : Option Output). option_to_list o ++ outputs_after h (n + 1) k) (e (n + 1))
    ∙ ap (λ (xs : List Output). option_to_list (out scenario (n + 1)) ++ xs) (are_outputs scenario h e (n + 1) k)

none_silent : (h : History) (n k : ℕ) → outputs_after (silent h) n k ≡ []
none_silent h n zero = refl
none_silent h n (suc k) = none_silent h (n + 1) k

grows_told : (q : Bool) (scenario : Scenario) (h : History) → ((t : ℕ) → h.output t ≡ out scenario t)
    → (breakpoints : List Breakpoint) (k n : ℕ) (answers : List Bool)
    → Hushed q scenario n (growth_told q h breakpoints k n answers) (growth_told q (silent h) breakpoints k n answers)
grows_told false scenario h e breakpoints k n answers =
    let all = grows scenario h e breakpoints k n answers in
    record { on = all.on; text = all.text; same = all.same }
grows_told true scenario h e breakpoints k n answers =
    let all = grows scenario h e breakpoints k n answers in
    let g = grow (silent h) breakpoints k n answers in
    let as_many : g.steps ≡ (grow h breakpoints k n answers).steps = ap (λ (x : Growth). x.steps) all.same in
    record {
      on = omega (arith, as_many, all.on);
      text = ap (λ (xs : List Output). words_line (length xs)) (are_outputs scenario h e n (g.steps - n));
      same = ap (λ (xs : List Output). record g { text = words_line (length xs) }) (none_silent h n (g.steps - n));
    }

-- ## Replies
-- a reply, and the one where no step puts out
record Brings (q : Bool) (d : Desk) (r s : Reply) : Type 0 where
  text : r.text ≡ outputs_told d.quiet (outs_after d.scenario d.steps (r.desk.steps - d.steps)) ++ s.text
  run : outs r.desk.scenario r.desk.steps ≡ outs d.scenario d.steps ++ outs_after d.scenario d.steps (r.desk.steps - d.steps)
  order : IsInOrder d.scenario.inputs → IsInOrder r.desk.scenario.inputs
  hushed : r.desk.quiet ≡ q

-- nothing is made
unmoved : {q : Bool} (d : Desk) (r : Reply) → r.desk.scenario ≡ d.scenario → r.desk.steps ≡ d.steps → r.desk.quiet ≡ q
    → Brings q d r r
unmoved d r same steps hushed =
    let none : r.desk.steps - d.steps ≡ 0 = omega (arith, steps) in
    record {
      text = sym (ap (λ (t : List ℕ). t ++ r.text) (nothing_told d.quiet d.scenario d.steps r.desk.steps steps));
      run = ap (λ (q : Scenario). outs q r.desk.steps) same ∙ ap (outs d.scenario) steps ∙ sym (append-nil (outs d.scenario d.steps))
          ∙ ap (λ k. outs d.scenario d.steps ++ outs_after d.scenario d.steps k) (sym none);
      order = λ o. subst (λ (q : Scenario). IsInOrder q.inputs) (sym same) o;
      hushed = hushed;
    }

-- steps are made, and then the rest is told
made : (d : Desk) (g s : Growth) (rest : Growth → Reply) → ((x : Growth) → rest (record x { text = [] }) ≡ rest x)
    → ((x : Growth) → (rest x).desk.steps ≡ x.steps) → ((x : Growth) → (rest x).desk.scenario ≡ d.scenario)
    → ((x : Growth) → (rest x).desk.quiet ≡ d.quiet) → Hushed d.quiet d.scenario d.steps g s → Brings d.quiet d (after_text g.text (rest g)) (after_text s.text (rest s))
made d g s rest alike steps same hushed h =
    let there : (rest g).desk.steps - d.steps ≡ g.steps - d.steps = ap (λ k. k - d.steps) (steps g) in
    let sum : d.steps + (g.steps - d.steps) ≡ g.steps = omega (arith, h.on) in
    let silent_text : s.text ++ (rest s).text ≡ (rest g).text = ap (λ (x : Growth). x.text ++ (rest x).text) h.same
    ∙ ap (λ (r : Reply). r.text) (alike g) in
    record {
      text = ap (λ (t : List ℕ). t ++ (rest g).text) h.text
          ∙ ap (λ k. outputs_told d.quiet (outs_after d.scenario d.steps k) ++ (rest g).text) (sym there)
          ∙ ap (λ (t : List ℕ). outputs_told d.quiet (outs_after d.scenario d.steps ((rest g).desk.steps - d.steps)) ++ t) (sym silent_text);
      run = ap (λ (q : Scenario). outs q (rest g).desk.steps) (same g) ∙ ap (outs d.scenario) (steps g ∙ sym sum)
          ∙ sym (outs_both d.scenario d.steps (g.steps - d.steps))
          ∙ ap (λ k. outs d.scenario d.steps ++ outs_after d.scenario d.steps k) (sym there);
      order = λ o. subst (λ (q : Scenario). IsInOrder q.inputs) (sym (same g)) o;
      hushed = hushed g;
    }

-- an input is added above the cycles that have passed
added : (d : Desk) (text : List ℕ) (additions : List (Option ℕ)) (line cycle : ℕ) (input : Input) → IsInOrder d.scenario.inputs
    → (run d.scenario d.steps).cycles < cycle
    → Brings d.quiet d (record { text = text; desk = record d { scenario = with_added line cycle input d.scenario; additions = additions } })
    (record { text = text; desk = record d { scenario = with_added line cycle input d.scenario; additions = additions } })
unfolding with_added
added d text additions line cycle input order late =
    let q = d.scenario in
    let x = plain_on (max line (line_after q.inputs)) cycle input in
    let none : d.steps - d.steps ≡ 0 = omega arith in
    let alike = runs-alike q (inserted x q.inputs) cycle d.steps (λ k cycles below. due-inserted x q.inputs k cycles order below) late
    d.steps (omega arith) in
    record {
      text = sym (ap (λ (t : List ℕ). t ++ text) (nothing_told d.quiet q d.steps d.steps refl));
      run = alike.outputs ∙ sym (append-nil (outs q d.steps)) ∙ ap (λ k. outs q d.steps ++ outs_after q d.steps k) (sym none);
      order = λ o. in_order-inserted x q.inputs o;
      hushed = refl;
    }

after_addition : (d : Desk) (o : Option ℕ) (cycle : ℕ) (input : Input) → IsInOrder d.scenario.inputs
    → (run d.scenario d.steps).cycles < cycle → Brings d.quiet d (added_on o d cycle input) (added_on o d cycle input)
after_addition d None cycle input order late = unmoved d (added_on None d cycle input) refl refl refl
after_addition d (Some line) cycle input order late = added d _ _ line cycle input order late

after_adds : (h : History) (d : Desk) (cycle : ℕ) (input : Input) → IsInOrder d.scenario.inputs
    → (h.after d.steps).cycles ≡ (run d.scenario d.steps).cycles → Brings d.quiet d (adds h d cycle input) (adds (silent h) d cycle input)
after_adds h d cycle input order seen =
    on (nat_lt greatest_cycle cycle) (nat_le cycle (h.after d.steps).cycles) (nat_le most_plain_inputs (plain_inputs d.scenario)) refl
  where
    late : nat_le cycle (h.after d.steps).cycles ≡ false → (run d.scenario d.steps).cycles < cycle
    late e = above cycle (h.after d.steps).cycles (run d.scenario d.steps).cycles e seen
      where
        above : (a b c : ℕ) → nat_le a b ≡ false → b ≡ c → c < a
        above a b c e same = grind (arith, nat_tests)

    on : (long early many : Bool) → nat_le cycle (h.after d.steps).cycles ≡ early
        → Brings d.quiet d
        (cond long (refuses d (codes "E50 COMMAND"))
        (cond early (refuses d (codes "E42 TOO EARLY"))
        (cond many (refuses d (codes "E32 TOO MANY")) (added_on (addition_to_come d.additions) d cycle input))))
        (cond long (refuses d (codes "E50 COMMAND"))
        (cond early (refuses d (codes "E42 TOO EARLY"))
        (cond many (refuses d (codes "E32 TOO MANY")) (added_on (addition_to_come d.additions) d cycle input))))
    on true early many e = unmoved d (refuses d (codes "E50 COMMAND")) refl refl refl
    on false true many e = unmoved d (refuses d (codes "E42 TOO EARLY")) refl refl refl
    on false false true e = unmoved d (refuses d (codes "E32 TOO MANY")) refl refl refl
    on false false false e = after_addition d (addition_to_come d.additions) cycle input order (late e)

either : (d : Desk) (b : Bool) (r s : Reply) → Brings d.quiet d r r → Brings d.quiet d s s → Brings d.quiet d (cond b r s) (cond b r s)
either d true r s p q = p
either d false r s p q = q

-- the run as it is seen
record Shows (h : History) (scenario : Scenario) : Type 0 where
  output : (t : ℕ) → h.output t ≡ out scenario t
  cycles : (t : ℕ) → (h.after t).cycles ≡ (run scenario t).cycles

module _ (h : History) (d : Desk) (shows : Shows h d.scenario) (order : IsInOrder d.scenario.inputs) where
  grown_on : (breakpoints : List Breakpoint) (k : ℕ) (rest : Growth → Reply) → ((x : Growth) → rest (record x { text = [] }) ≡ rest x)
      → ((x : Growth) → (rest x).desk.steps ≡ x.steps) → ((x : Growth) → (rest x).desk.scenario ≡ d.scenario)
      → ((x : Growth) → (rest x).desk.quiet ≡ d.quiet)
      → Brings d.quiet d (after_text (growth_told d.quiet h breakpoints k d.steps d.answers).text (rest (growth_told d.quiet h breakpoints k d.steps d.answers)))
      (after_text (growth_told d.quiet (silent h) breakpoints k d.steps d.answers).text (rest (growth_told d.quiet (silent h) breakpoints k d.steps d.answers)))
  grown_on breakpoints k rest alike steps same hushed =
      made d (growth_told d.quiet h breakpoints k d.steps d.answers) (growth_told d.quiet (silent h) breakpoints k d.steps d.answers) rest alike steps same hushed
      (grows_told d.quiet d.scenario h shows.output breakpoints k d.steps d.answers)

  after_sought : (o : Option ℕ) → Brings d.quiet d (sought h d o) (sought (silent h) d o)
  after_sought None = unmoved d (sought h d None) refl refl refl
  after_sought (Some t) = unmoved d (sought h d (Some t)) refl refl refl

  after_reply : (command : Command) → Brings d.quiet d (reply h d command) (reply (silent h) d command)
  unfolding reply
  after_reply (Step k) = grown_on [] ((d.position + k) - d.steps)
      (λ g. stands h (ending_line g.ending) (after_growth d g (min (d.position + k) g.steps))) (λ x. refl) (λ x. refl) (λ x. refl) (λ x. refl)
  after_reply (Run k) = grown_on d.breakpoints k (λ g. stands h (ending_line g.ending) (after_growth d g g.steps)) (λ x. refl) (λ x. refl)
      (λ x. refl) (λ x. refl)
  after_reply (Back k) = unmoved d (reply h d (Back k)) refl refl refl
  after_reply (Goto t) = either d (nat_lt d.steps t) _ _ (unmoved d _ refl refl refl) (unmoved d _ refl refl refl)
  after_reply Seek = after_sought (last_stop h d)
  after_reply (Break b) = either d (nat_le _ (length d.breakpoints)) _ _ (unmoved d _ refl refl refl) (unmoved d _ refl refl refl)
  after_reply Clear = unmoved d (reply h d Clear) refl refl refl
  after_reply Registers = unmoved d (reply h d Registers) refl refl refl
  after_reply (Memory place) = unmoved d (reply h d (Memory place)) refl refl refl
  after_reply (Channel c) = unmoved d (reply h d (Channel c)) refl refl refl
  after_reply (Last p) = unmoved d (reply h d (Last p)) refl refl refl
  after_reply (Symbol value) = unmoved d (reply h d (Symbol value)) refl refl refl
  after_reply (Changed t) = either d (nat_lt d.steps t) _ _ (unmoved d _ refl refl refl) (unmoved d _ refl refl refl)
  after_reply Tail = unmoved d (reply h d Tail) refl refl refl
  after_reply (Add cycle input) = after_adds h d cycle input order (shows.cycles d.steps)
  after_reply Quit = unmoved d (reply h d Quit) refl refl refl

  after_answer : (request : ParsedLine) → Brings d.quiet d (answer h d request) (answer (silent h) d request)
  unfolding answer
  after_answer Nothing = unmoved d (answer h d Nothing) refl refl refl
  after_answer TooLong = unmoved d (answer h d TooLong) refl refl refl
  after_answer Unknown = unmoved d (answer h d Unknown) refl refl refl
  after_answer WrongCounter = unmoved d (answer h d WrongCounter) refl refl refl
  after_answer (Known command) = after_reply command

  after_stop : (k : ℕ) (o : Option ℕ) → Brings d.quiet d (stops_on h d k o) (stops_on (silent h) d k o)
  after_stop k None = grown_on d.breakpoints ((d.position + k) - d.steps)
      (λ g. stands h (ending_line g.ending) (after_growth d g (min (d.position + k) g.steps))) (λ x. refl) (λ x. refl) (λ x. refl) (λ x. refl)
  after_stop k (Some t) = unmoved d (stops_on h d k (Some t)) refl refl refl

  after_until : (cycles : ℕ) (o : Option ℕ) → Brings d.quiet d (goes_until h d cycles o) (goes_until (silent h) d cycles o)
  after_until cycles None = grown_on (Cycles cycles ∷ []) most_count
      (λ g. stands h (ending_line (unhit g.ending)) (after_growth d g g.steps)) (λ x. refl) (λ x. refl) (λ x. refl) (λ x. refl)
  after_until cycles (Some t) = unmoved d (goes_until h d cycles (Some t)) refl refl refl

  after_going : (end : Breakpoint) (k : ℕ) (o : Option ℕ) → Brings d.quiet d (goes_on h d end k o) (goes_on (silent h) d end k o)
  after_going end k None =
      grown_on (end ∷ []) ((d.position + k) - d.steps)
      (λ g. stands h (arrival_text g.ending (took h d (min (d.position + k) g.steps)))
      (after_growth d g (min (d.position + k) g.steps))) (λ x. refl) (λ x. refl) (λ x. refl) (λ x. refl)
  after_going end k (Some t) = unmoved d (goes_on h d end k (Some t)) refl refl refl

  after_out : (k : ℕ) (o : Option Breakpoint) → Brings d.quiet d (goes_out_to h d k o) (goes_out_to (silent h) d k o)
  after_out k None = unmoved d (goes_out_to h d k None) refl refl refl
  after_out k (Some end) = after_going end k (next_end h d end k)

-- what stands at places
same_word : (h : History) (seen : Sight) (place : Linear) → memory_word h seen place ≡ memory_word (silent h) seen place
same_word h seen (Erasable p) = refl
same_word h seen (Fixed bank offset) = refl

same_from : (h : History) (seen : Sight) (place : Linear) (k n : ℕ) → words_from h seen place k n ≡ words_from (silent h) seen place k n
same_from h seen place k zero = refl
same_from h seen place k (suc n) = λ i. line (codes "MEM " ++ place_text (place_after place k) ++ codes " "
    ++ octal_text 5 (same_word h seen (place_after place k) i)) ++ same_from h seen place (k + 1) n i

same_words : (h : History) (seen : Sight) (place : Linear) (k : ℕ) → words_text h seen place k ≡ words_text (silent h) seen place k
unfolding words_text
same_words h seen place k = same_from h seen place 0 (min k (places_from place))

same_row : (kind : RowKind) (symbols : SymbolTable) (source : Source) (rope : Words') (h : History) (seen : Sight) (place : Linear)
    → row_text kind symbols source rope h seen place ≡ row_text kind symbols source rope (silent h) seen place
same_row Instruction symbols source rope h seen place = λ i. option_map_or
    (λ l. codes "LIST " ++ place_row rope (same_word h seen place i) place l) (line_of source place) (plain_row symbols rope seen place)
same_row Number symbols source rope h seen place = λ i. line
    (codes "VALUE " ++ place_text place ++ codes " " ++ numbers_text (same_word h seen place i))

same_rows : (kind : RowKind) (symbols : SymbolTable) (source : Source) (rope : Words') (h : History) (seen : Sight) (place : Linear) (k : ℕ)
    → rows_text kind symbols source rope h seen place k ≡ rows_text kind symbols source rope (silent h) seen place k
unfolding rows_text
same_rows kind symbols source rope h seen place k = λ i. flat_map (λ j. same_row kind symbols source rope h seen (place_after place j) i)
    (range_with_len 0 (min k (places_from place)))

says_same : (d : Desk) (a b : List ℕ) → a ≡ b → Brings d.quiet d (says a d) (says b d)
says_same d a b same = subst (λ (t : List ℕ). Brings d.quiet d (says a d) (says t d)) same (unmoved d (says a d) refl refl refl)

further_shows : (h : History) (scenario : Scenario) → Shows h scenario → Shows (further h) scenario
further_shows h scenario s = record { output = s.output; cycles = s.cycles }

after_asked : (terms : Terms) (h : History) (d : Desk) → Shows h d.scenario → IsInOrder d.scenario.inputs → (request : ExtendedLine)
    → Brings (quiet_after request d.quiet) d (extended_reply terms h d request) (extended_reply terms (silent h) d request)
unfolding extended_reply
after_asked terms h d s o (Plain request) = after_answer h d s o request
after_asked terms h d s o (Common command) = after_reply (further h) d (further_shows h d.scenario s) o command
after_asked terms h d s o (ClearOne i) =
    either d (nat_lt 0 i && nat_le i (length d.breakpoints))
    (says (line (codes "CLEAR " ++ decimal i)) (record d { breakpoints = remove d.breakpoints (i - 1) })) (refuses d (codes "NONE"))
    (unmoved d (says (line (codes "CLEAR " ++ decimal i)) (record d { breakpoints = remove d.breakpoints (i - 1) })) refl refl refl)
    (unmoved d (refuses d (codes "NONE")) refl refl refl)
after_asked terms h d s o (On k) = after_stop (further h) d (further_shows h d.scenario s) o k (next_stop h d k)
after_asked terms h d s o (Until cycles) = after_until (further h) d (further_shows h d.scenario s) o cycles (first_at h d.steps cycles)
after_asked terms h d s o (Over k) = after_going (further h) d (further_shows h d.scenario s) o _ k _
after_asked terms h d s o (Out k) = after_out (further h) d (further_shows h d.scenario s) o k _
after_asked terms h d s o (Words place k) = says_same d (words_text h (here h d) place k) (words_text (silent h) (here h d) place k)
    (same_words h (here h d) place k)
after_asked terms h d s o (Listed place k) =
    says_same d (rows_text Instruction terms.symbols terms.source d.scenario.rope h (here h d) place k)
    (rows_text Instruction terms.symbols terms.source d.scenario.rope (silent h) (here h d) place k)
    (same_rows Instruction terms.symbols terms.source d.scenario.rope h (here h d) place k)
after_asked terms h d s o (Values place k) =
    says_same d (rows_text Number terms.symbols terms.source d.scenario.rope h (here h d) place k)
    (rows_text Number terms.symbols terms.source d.scenario.rope (silent h) (here h d) place k)
    (same_rows Number terms.symbols terms.source d.scenario.rope h (here h d) place k)
after_asked terms h d s o (WhatIf trial extent) =
    let program = program_of terms.symbols terms.source d.scenario in
    unmoved d (tries program trial extent d) (keeps_scenario program trial extent d) (keeps_steps program trial extent d)
    (keeps_quiet program trial extent d)
after_asked terms h d s o (WhyInputs subject) =
    let text = inputs_told terms.symbols d.scenario d.position (subject_spots subject) in
    unmoved d (tells_inputs terms.symbols subject d) (tried_keeps (addition_to_come d.additions) d text)
    (tried_stays (addition_to_come d.additions) d text) (tried_hushed (addition_to_come d.additions) d text)
after_asked terms h d s o (WhyInterrupts subject) =
    let text = interrupts_told d.scenario d.position (subject_spots subject) in
    unmoved d (tells_interrupts subject d) (tried_keeps (addition_to_come d.additions) d text)
    (tried_stays (addition_to_come d.additions) d text) (tried_hushed (addition_to_come d.additions) d text)
after_asked terms h d s o request = unmoved d (extended_reply terms h d request) refl refl refl

history_shows : (scenario : Scenario) → Shows (history scenario) scenario
unfolding history
history_shows scenario = record { output = λ t. refl; cycles = λ t. refl }

-- ## Lines
record Told (q : Bool) (terms : Terms) (read : Reading) (d : Desk) (lines : List (List ℕ)) : Type 0 where
  text : conversation terms read d lines ≡ flat_map part_text (parts terms read q d lines)
  once : outs d.scenario d.steps ++ flat_map (λ (p : Part). p.outputs) (parts terms read q d lines)
      ≡ outs (last_desk terms read d lines).scenario (last_desk terms read d lines).steps

line_text : (r : Reply) (p : Part) (later : List Part) (rest : List ℕ) (b : Bool) → r.text ≡ part_text p → rest ≡ flat_map part_text later
    → cond b [] (r.text ++ rest) ≡ flat_map part_text (cond b [] (p ∷ later))
line_text r p later rest true one more = refl
line_text r p later rest false one more = ap (λ (t : List ℕ). t ++ rest) one ∙ ap (λ (t : List ℕ). part_text p ++ t) more

line_outputs : (d e last : Desk) (p : Part) (later : List Part) (b : Bool) → outs e.scenario e.steps ≡ outs d.scenario d.steps ++ p.outputs
    → outs e.scenario e.steps ++ flat_map (λ (q : Part). q.outputs) later ≡ outs last.scenario last.steps
    → outs d.scenario d.steps ++ flat_map (λ (q : Part). q.outputs) (cond b [] (p ∷ later))
    ≡ outs (cond b d last).scenario (cond b d last).steps
line_outputs d e last p later true one more = append-nil (outs d.scenario d.steps)
line_outputs d e last p later false one more =
    sym (append_assoc (outs d.scenario d.steps) p.outputs (flat_map (λ (q : Part). q.outputs) later))
    ∙ ap (λ (xs : List Output). xs ++ flat_map (λ (q : Part). q.outputs) later) (sym one) ∙ more

told : (terms : Terms) (read : Reading) (d : Desk) (lines : List (List ℕ)) → IsInOrder d.scenario.inputs → Told d.quiet terms read d lines
told terms read d [] order = record { text = refl; once = append-nil (outs d.scenario d.steps) }
told terms read d (line ∷ more) order =
    let r = to_asked terms (read line) d in
    let q = quiet_after (read line) d.quiet in
    let one = after_asked terms (history d.scenario) d (history_shows d.scenario) order (read line) in
    let rest = subst (λ (q : Bool). Told q terms read r.desk more) one.hushed (told terms read r.desk more (one.order order)) in
    record {
      text = line_text r (part_of terms d.quiet (read line) d) (parts terms read q r.desk more) (conversation terms read r.desk more)
          (is_end (read line)) one.text rest.text;
      once = line_outputs d r.desk (last_desk terms read r.desk more) (part_of terms d.quiet (read line) d) (parts terms read q r.desk more)
          (is_end (read line)) one.run rest.once;
    }

-- where no line asks for quiet each output has its line
stays_loud : (request : ExtendedLine) → sets_quiet request ≡ false → quiet_after request false ≡ false
stays_loud (Quiet on) e = let bad : true ≡ false = e in cc
stays_loud request e = refl

loud_line : (b : Bool) (p : Part) (later : List Part) → part_text p ≡ told_part p → flat_map part_text later ≡ flat_map told_part later
    → flat_map part_text (cond b [] (p ∷ later)) ≡ flat_map told_part (cond b [] (p ∷ later))
loud_line true p later one more = refl
loud_line false p later one more = ap (λ (t : List ℕ). t ++ flat_map part_text later) one ∙ ap (λ (t : List ℕ). told_part p ++ t) more

all_loud : (terms : Terms) (read : Reading) (d : Desk) (lines : List (List ℕ)) → All (λ line. sets_quiet (read line) ≡ false) lines
    → flat_map part_text (parts terms read false d lines) ≡ flat_map told_part (parts terms read false d lines)
all_loud terms read d [] none = refl
all_loud terms read d (line ∷ more) none =
    let loud = λ (line : List ℕ). sets_quiet (read line) ≡ false in
    let e = (to_asked terms (read line) d).desk in
    let still : quiet_after (read line) false ≡ false = stays_loud (read line) (All-head loud line more none) in
    let rest = all_loud terms read e more (All-tail loud line more none) in
    loud_line (is_end (read line)) (part_of terms false (read line) d) (parts terms read (quiet_after (read line) false) e more) refl
    (rw still rest)

pub outputs_are_told_once : (manner : Manner) (symbols : SymbolTable) (source : Source) (scenario : Scenario) (answers : List Bool)
    (additions : List (Option ℕ)) (lines : List (List ℕ))
    → OutputsAreToldOnce manner symbols source scenario answers additions lines
unfolding outs
outputs_are_told_once manner symbols source scenario answers additions lines order =
    let terms = terms_of symbols source scenario in
    let first = first_desk scenario answers additions in
    let all = told terms (reading manner symbols) first lines order in
    record {
      text = all.text;
      loud = λ none. all.text ∙ all_loud terms (reading manner symbols) first lines none;
      once = all.once;
    }
