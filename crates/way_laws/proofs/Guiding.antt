-- Which step is next.
use Rattle.std.proofs.Common.{◌≡◌, ℕ, ◌/◌, ◌%◌, Bool, true, false, cond, ◌&&◌, ◌||◌, ◌==◌, List, [], ◌∷◌, ◌++◌, Option, Some, None, refl}
use Rattle.std.proofs.Common.{ap}
use Rattle.std.proofs.Common.{◌∙◌, sym, subst}
use Rattle.std.specs.Prelude.{codes, is_some, unwrap_or}
use Rattle.words.specs.Numbers.{correct}
use Rattle.words.specs.Signs.{over}
use Rattle.rope.specs.Places.{Words}
use Rattle.space.specs.Cells.{accumulator, at, erasable_bank, fixed_bank, program_counter, superbank}
use Rattle.feed.specs.declared.counter.Asks.{Asks}
use Rattle.feed.specs.declared.counter.Asks.TheVariants.{AtZero, OnOneShiftedOut}
use Rattle.feed.specs.declared.input.Counter.{Counter}
use Rattle.feed.specs.declared.input.Input.{Input}
use Rattle.feed.specs.declared.input.Input.TheVariants.{Count, Word, Interrupt}
use Rattle.feed.specs.Counters as counters
use Rattle.feed.specs.Counters.{counter_place}
use Rattle.feed.specs.Merged.{due}
use Rattle.agc_text.specs.Tables.{same_name}
use Rattle.cpu.specs.State.{State, Scenario}
use Rattle.cpu.specs.Codes.{code_of, row_of}
use Rattle.cpu.specs.Effects.{accumulator_of, has_overflow, next_address, place_in, value_at}
use Rattle.cpu.specs.Inputs.{is_overflow, step_of}
use Rattle.cpu.specs.Next.{entry, instruction_word, least_request, next, with_sum, word_at_z}
use Rattle.cpu.specs.NextStep.{next_step, next_step_by}
use Rattle.cpu.specs.Links.{a, carries_in, link, link_by, overflow_of, place_spots, spots}
use Rattle.cpu.specs.Links.Link.{Takes, Enters, Executes}
use Rattle.cpu.specs.Beside.{asking_spots, input_request_sources, request_sources, sum_sources, word_sources}
use Rattle.cpu.specs.declared.instruction.Instruction.{Instruction}
use Rattle.cpu.specs.declared.instruction.Instruction.TheVariants.{Ts}
use Rattle.cpu.specs.declared.spot.Spot.{Spot}
use Rattle.cpu.proofs.Flowing.{Agree, agree_left, agree_right, get_same, value_same}
use Rattle.cpu.proofs.LeavingBeside.{sum_depends_on_sources, word_depends_on_sources}
use Rattle.cpu.proofs.LeavingFlags.{flags_depend_on_link, requests_depend_on_sources}
use Rattle.cpu.proofs.Linking.{agree_alike, alike_agree}
use Rattle.debugger.specs.Ways.{chosen_by, skips, way_spots}
use Rattle.way_laws.specs.Leading.{bank_spots}
use Rattle.way_laws.specs.SameWay.{input_of, input_due, is_barred, entry_spots, fetch_spots, overflow_spots, input_spots, finding_spots}
use Rattle.way_laws.specs.SameWay.{setting_spots, guides, GuidesChoices, SamePosition, GuidesFixStep}
use Rattle.way_laws.proofs.Leading.{is_one_place, leads, place_cells_alike}

-- ## Interrupts

-- what is entered, where A overflows so
either_none : (b : Bool) (q : Option ℕ) → cond b q q ≡ q
either_none true q = refl
either_none false q = refl

one_of_six : (b c d e f g : Bool) (q : Option ℕ)
    → cond (b || c || d || e || f || g) None q ≡ cond (b || c || d || e || f) None (cond g None q)
one_of_six true c d e f g q = refl
one_of_six false true d e f g q = refl
one_of_six false false true e f g q = refl
one_of_six false false false true f g q = refl
one_of_six false false false false true g q = refl
one_of_six false false false false false g q = refl

entry_is : (s : State) → entry s ≡ cond (is_barred s) None (cond (has_overflow (over (accumulator_of s))) None (least_request s.requests))
unfolding entry
entry_is s =
    one_of_six s.inhibit s.inside s.extra (is_some s.waiting_sum) (is_some s.waiting_word) (has_overflow (over (accumulator_of s)))
    (least_request s.requests)

entry_by : (r : Words) (s : State) (o : Words) (t : State) (b : Bool) (q : Option ℕ)
    → Agree r s o t (cond b [] (cond (is_some q) (a ∷ []) []))
    → cond b None (cond (has_overflow (over (accumulator_of s))) None q)
    ≡ cond b None (cond (has_overflow (over (accumulator_of t))) None q)
entry_by r s o t true q h = refl
entry_by r s o t false None h =
    either_none (has_overflow (over (accumulator_of s))) None ∙ sym (either_none (has_overflow (over (accumulator_of t))) None)
entry_by r s o t false (Some k) h = ap (λ x. cond (has_overflow (over x)) None (Some k)) (get_same r s o t accumulator h)

barred_alike : (one : Scenario) (s : State) (other : Scenario) (t : State) → SamePosition one s other t → is_barred s ≡ is_barred t
barred_alike one s other t p =
    λ i. p.flags.inhibit i || p.flags.inside i || p.flags.extra i || is_some (p.sum i) || is_some (p.word i)

entry_alike : (one : Scenario) (s : State) (other : Scenario) (t : State) → SamePosition one s other t
    → Agree one.rope s other.rope t (entry_spots s) → entry s ≡ entry t
entry_alike one s other t p h =
    let bars = barred_alike one s other t p in
    entry_is s
    ∙ entry_by one.rope s other.rope t (is_barred s) (least_request s.requests) h
    ∙ (λ i. cond (bars i) None (cond (has_overflow (over (accumulator_of t))) None (least_request (p.requests i))))
    ∙ sym (entry_is t)

-- ## The parts of a link

carries_alike : (r : Words) (s : State) (o : Words) (t : State) (input : Input) → Agree r s o t (input_spots input)
    → carries_in s input ≡ carries_in t input
carries_alike r s o t (Count counter sequence) h =
    ap (λ x. is_overflow (step_of sequence (correct x)).carry) (get_same r s o t (counter_place counter) h)
carries_alike r s o t (Word n w) h = refl
carries_alike r s o t (Interrupt k) h = refl

fetched_by : (r : Words) (s : State) (o : Words) (t : State) (w : Option ℕ) → place_in s (next_address s) ≡ place_in t (next_address t)
    → Agree r s o t (cond (is_some w) [] (spots (place_in s (next_address s))))
    → unwrap_or w (word_at_z r s) ≡ unwrap_or w (word_at_z o t)
fetched_by r s o t (Some w) e h = refl
fetched_by r s o t None e h =
    ap (λ x. correct x) (value_same r s o t (place_in s (next_address s)) h ∙ ap (λ l. value_at o t l) e)

executed_alike : (one : Scenario) (s : State) (other : Scenario) (t : State) → SamePosition one s other t
    → Agree one.rope s other.rope t (fetch_spots s) → instruction_word one.rope s ≡ instruction_word other.rope t
unfolding instruction_word
executed_alike one s other t p h =
    let fetched = fetched_by one.rope s other.rope t s.waiting_word (is_one_place one other s t p.place) h in
    ap (λ w. with_sum s.waiting_sum w) fetched
    ∙ (λ i. with_sum (p.sum i) (unwrap_or (p.word i) (word_at_z other.rope t)))

overflow_alike : (r : Words) (s : State) (o : Words) (t : State) (i : Instruction) → Agree r s o t (overflow_spots i)
    → overflow_of i (accumulator_of s) ≡ overflow_of i (accumulator_of t)
overflow_alike r s o t Ts h = ap (λ x. over x) (get_same r s o t accumulator h)
overflow_alike r s o t i h = refl

-- where no interrupt is entered the spots of entries are the first of those by which the step is found
pub entry_found : (r : Words) (s : State) (o : Words) (t : State) (k : Option ℕ) → Agree r s o t (finding_spots r s None k)
    → Agree r s o t (entry_spots s)
entry_found r s o t (Some k) h = h
entry_found r s o t None h =
    agree_left r s o t (entry_spots s) (fetch_spots s)
    (agree_left r s o t (entry_spots s ++ fetch_spots s) (overflow_spots (code_of s.extra (instruction_word r s)).instruction) h)

executes_alike : (one : Scenario) (s : State) (other : Scenario) (t : State) → SamePosition one s other t
    → Agree one.rope s other.rope t (fetch_spots s)
    → Agree one.rope s other.rope t (overflow_spots (code_of s.extra (instruction_word one.rope s)).instruction)
    → link_by one.rope s None None ≡ link_by other.rope t None None
unfolding superbank
executes_alike one s other t p fetch overflow =
    let code = code_of s.extra (instruction_word one.rope s) in
    let same = place_cells_alike one s other t p.place in
    let words = executed_alike one s other t p fetch in
    let same_code : code ≡ code_of t.extra (instruction_word other.rope t) = λ i. code_of (p.flags.extra i) (words i) in
    let overflows = overflow_alike one.rope s other.rope t code.instruction overflow in
    let sups : superbank s.cells ≡ superbank t.cells = λ i. same.1.1.1.0 i / 0o100 % 2 == 1 in
    (λ i. Executes (same.0 i) code (is_some (p.word i)) (same.1.0 i) (same.1.1.0 i) (sups i) (overflows i))
    ∙ (λ i. Executes (at t.cells program_counter) (same_code i) (is_some t.waiting_word) (at t.cells erasable_bank) (at t.cells fixed_bank)
    (superbank t.cells) (overflow_of (same_code i).instruction (accumulator_of t)))

link_alike : (one : Scenario) (s : State) (other : Scenario) (t : State) (d e : Option (Input × Option ℕ)) (k l : Option ℕ)
    → SamePosition one s other t → input_of d ≡ input_of e → (input_of d ≡ None → k ≡ l)
    → Agree one.rope s other.rope t (finding_spots one.rope s (input_of d) k)
    → link_by one.rope s d k ≡ link_by other.rope t e l
link_alike one s other t (Some given) (Some found) k l p same entries h =
    let inputs : given.0 ≡ found.0 = cc in
    ap (λ b. Takes given.0 b) (carries_alike one.rope s other.rope t given.0 h) ∙ ap (λ input. Takes input (carries_in t input)) inputs
link_alike one s other t (Some given) None k l p same entries h = absurd (cc)
link_alike one s other t None (Some found) k l p same entries h = absurd (cc)
link_alike one s other t None None (Some k) (Some l) p same entries h =
    let interrupts : Some k ≡ Some l = entries refl in
    let number : k ≡ l = cc in
    let zs = (place_cells_alike one s other t p.place).0 in
    λ i. Enters (number i) (zs i) (is_one_place one other s t p.place i)
link_alike one s other t None None (Some k) None p same entries h = let interrupts : Some k ≡ None = entries refl in absurd (cc)
link_alike one s other t None None None (Some l) p same entries h = let interrupts : None ≡ Some l = entries refl in absurd (cc)
link_alike one s other t None None None None p same entries h =
    let first = entry_spots s ++ fetch_spots s in
    let last = overflow_spots (code_of s.extra (instruction_word one.rope s)).instruction in
    executes_alike one s other t p
    (agree_right one.rope s other.rope t (entry_spots s) (fetch_spots s) (agree_left one.rope s other.rope t first last h))
    (agree_right one.rope s other.rope t first last h)

entries_alike : (one : Scenario) (s : State) (other : Scenario) (t : State) (input : Option Input) → SamePosition one s other t
    → Agree one.rope s other.rope t (finding_spots one.rope s input (entry s)) → input ≡ None → entry s ≡ entry t
entries_alike one s other t (Some given) p h e = absurd (cc)
entries_alike one s other t None p h e = entry_alike one s other t p (entry_found one.rope s other.rope t (entry s) h)

pub same_link : (one : Scenario) (s : State) (other : Scenario) (t : State) → SamePosition one s other t
    → input_due one s ≡ input_due other t
    → Agree one.rope s other.rope t (finding_spots one.rope s (input_due one s) (entry s)) → link one s ≡ link other t
unfolding link
same_link one s other t p same h =
    link_alike one s other t (due one.inputs s.taken s.cycles) (due other.inputs t.taken t.cycles) (entry s) (entry t) p same
    (entries_alike one s other t (input_due one s) p h) h

-- ## The position after it

asked_alike : (r : Words) (s : State) (o : Words) (t : State) (x : Asks) (counter : Counter)
    → Agree r s o t (place_spots (counter_place counter)) → Agree r s o t (asking_spots x counter)
asked_alike r s o t (AtZero k) counter h = h
asked_alike r s o t (OnOneShiftedOut k) counter h = h
asked_alike r s o t x counter h = tt

input_alike : (r : Words) (s : State) (o : Words) (t : State) (input : Input) → Agree r s o t (input_spots input)
    → Agree r s o t (input_request_sources input)
input_alike r s o t (Count counter sequence) h = asked_alike r s o t (counters.row_of counter).asks counter h
input_alike r s o t (Word n w) h = tt
input_alike r s o t (Interrupt k) h = tt

requested_alike : (r : Words) (s : State) (o : Words) (t : State) (d : Option (Input × Option ℕ)) (k : Option ℕ)
    → Agree r s o t (finding_spots r s (input_of d) k) → Agree r s o t (request_sources (link_by r s d k))
requested_alike r s o t (Some given) k h = input_alike r s o t given.0 h
requested_alike r s o t None (Some k) h = tt
requested_alike r s o t None None h = tt

position_after : (one : Scenario) (s : State) (other : Scenario) (t : State) → SamePosition one s other t → link one s ≡ link other t
    → Agree one.rope s other.rope t (setting_spots (link one s)) → Agree one.rope s other.rope t (request_sources (link one s))
    → SamePosition one (next one s).0 other (next other t).0
position_after one s other t p e h asks =
    let r = one.rope in
    let o = other.rope in
    let way = way_spots (link one s) in
    let banks = bank_spots (link one s) in
    let sums = sum_sources (link one s) in
    let words = word_sources (link one s) in
    let all_but_words = agree_left r s o t (way ++ banks ++ sums) words h in
    let both = agree_left r s o t (way ++ banks) sums all_but_words in
    record {
      place = leads one other s t e p.place (agree_left r s o t way banks both) (agree_right r s o t way banks both);
      flags = flags_depend_on_link one s other t e p.flags;
      sum = sum_depends_on_sources one s other t e (agree_alike r s o t sums (agree_right r s o t (way ++ banks) sums all_but_words))
          (λ _. p.sum);
      word = word_depends_on_sources one s other t e (agree_alike r s o t words (agree_right r s o t (way ++ banks ++ sums) words h))
          (λ _. p.word);
      requests = requests_depend_on_sources one s other t e (agree_alike r s o t (request_sources (link one s)) asks) p.requests;
    }

requests_found : (one : Scenario) (s : State) (other : Scenario) (t : State)
    → Agree one.rope s other.rope t (finding_spots one.rope s (input_due one s) (entry s))
    → Agree one.rope s other.rope t (request_sources (link one s))
unfolding link
requests_found one s other t h = requested_alike one.rope s other.rope t (due one.inputs s.taken s.cycles) (entry s) h

pub guides_fix_step : (one other : Scenario) (s t : State) → GuidesFixStep one s other t
unfolding guides
guides_fix_step one other s t = λ p same alike.
    let found = finding_spots one.rope s (input_due one s) (entry s) in
    let all = alike_agree one.rope s other.rope t (found ++ setting_spots (link one s)) alike in
    let first = agree_left one.rope s other.rope t found (setting_spots (link one s)) all in
    let e = same_link one s other t p same first in
    record {
      step = e;
      position = position_after one s other t p e (agree_right one.rope s other.rope t found (setting_spots (link one s)) all)
          (requests_found one s other t first);
    }

-- ## What a step chooses by

ts_named : (i : Instruction) → same_name (row_of i).name (codes "TS") ≡ true → i ≡ Ts
ts_named Ts e = refl
ts_named i e = absurd (cc)

chosen_if : (r : Words) (s : State) (o : Words) (t : State) (x b : Bool) (ways : List Spot) → (b ≡ true → Agree r s o t (a ∷ []))
    → Agree r s o t ways → Agree r s o t (cond (x && b) (a ∷ []) ways)
chosen_if r s o t true true ways f h = f refl
chosen_if r s o t true false ways f h = h
chosen_if r s o t false b ways f h = h

chosen_of : (r : Words) (s : State) (o : Words) (t : State) (d : Option (Input × Option ℕ)) (k : Option ℕ)
    → Agree r s o t (finding_spots r s (input_of d) k) → Agree r s o t (way_spots (link_by r s d k))
    → Agree r s o t (cond (skips s (next_step_by r s d k)) (a ∷ []) (way_spots (link_by r s d k)))
chosen_of r s o t (Some given) k found h = h
chosen_of r s o t None (Some k) found h = h
chosen_of r s o t None None found h =
    let i = (code_of s.extra (instruction_word r s)).instruction in
    let overflow = agree_right r s o t (entry_spots s ++ fetch_spots s) (overflow_spots i) found in
    chosen_if r s o t (has_overflow (over (accumulator_of s))) (same_name (row_of i).name (codes "TS")) (way_spots (link_by r s None None))
    (λ e. subst (λ (i : Instruction). Agree r s o t (overflow_spots i)) (ts_named i e) overflow) h

chosen_alike : (one : Scenario) (s : State) (other : Scenario) (t : State)
    → Agree one.rope s other.rope t (finding_spots one.rope s (input_due one s) (entry s))
    → Agree one.rope s other.rope t (way_spots (link one s)) → Agree one.rope s other.rope t (chosen_by one s)
unfolding link next_step
chosen_alike one s other t found h = chosen_of one.rope s other.rope t (due one.inputs s.taken s.cycles) (entry s) found h

pub guides_choices : (one other : Scenario) (s t : State) → GuidesChoices one s other t
unfolding guides
guides_choices one other s t = λ alike.
    let k = link one s in
    let found = finding_spots one.rope s (input_due one s) (entry s) in
    let all = alike_agree one.rope s other.rope t (found ++ setting_spots k) alike in
    let set = agree_right one.rope s other.rope t found (setting_spots k) all in
    let but_words = agree_left one.rope s other.rope t (way_spots k ++ bank_spots k ++ sum_sources k) (word_sources k) set in
    let both = agree_left one.rope s other.rope t (way_spots k ++ bank_spots k) (sum_sources k) but_words in
    agree_alike one.rope s other.rope t (chosen_by one s)
    (chosen_alike one s other t (agree_left one.rope s other.rope t found (setting_spots k) all)
    (agree_left one.rope s other.rope t (way_spots k) (bank_spots k) both))
