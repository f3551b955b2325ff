-- New steps whose outputs are counted.
use Rattle.std.proofs.Common.{◌≡◌, ℕ, zero, suc, ◌+◌, ◌-◌, ◌≤◌, ◌==◌, cond, Bool, true, false, List, Option, Some, None, [], ◌++◌, length}
use Rattle.std.proofs.Common.{refl, ap, sym, ◌∙◌, arith, append_assoc, append-nil, length-append}
use Rattle.std.specs.Option.{option_to_list}
use Rattle.words.specs.Devices.{WritesBeginning}
use Rattle.words.proofs.Texts.{append-then, beginning-after, beginning-longer}
use Rattle.cpu.specs.State.{Scenario}
use Rattle.cpu.specs.Run.{out, outs}
use Rattle.cpu.specs.declared.output.Output.{Output}
use Rattle.cpu.proofs.RunLaws.{outs-add-one, outs-zero}
use Rattle.replay.specs.Memory.{step_limit}
use Rattle.commands.specs.declared.command.Breakpoint.{Breakpoint}
use Rattle.debugger.specs.History.{History, heard, history, silent}
use Rattle.debugger.specs.Growth.{Growth, counted, grow, grown, growth_told, hit_at, is_refused, later, outputs_after, unless_hit, words_line}
use Rattle.debugger.specs.Growth.{with_line}
use Rattle.debugger.specs.Hushing.{count_told}
use Rattle.debugger.specs.Tallies.{most_counted, tally_of}
use Rattle.debugger.specs.Executions.{Grown, GrowthBroken}
use Rattle.debugger.specs.declared.ending.Ending.{Ending}
use Rattle.debugger.specs.declared.ending.Ending.TheVariants.{NoMemory, Limit}

-- where no output is told, nothing is
either_silent : (b : Bool) (g s : Growth) → g.text ≡ [] → s.text ≡ [] → (cond b g s).text ≡ []
either_silent true g s p q = p
either_silent false g s p q = q

unless_silent : (hit : Option ℕ) (n : ℕ) (answers : List Bool) (g : Growth) → g.text ≡ [] → (unless_hit hit n answers g).text ≡ []
unless_silent None n answers g e = e
unless_silent (Some i) n answers g e = refl

pub silent_text : (h : History) (breakpoints : List Breakpoint) (more n : ℕ) (answers : List Bool)
    → (grow (silent h) breakpoints more n answers).text ≡ []
unfolding grow
silent_text h breakpoints zero n answers = refl
silent_text h breakpoints (suc more) n answers =
    let further = grow (silent h) breakpoints more (n + 1) (later answers) in
    let hit = hit_at h breakpoints (n + 1) in
    let made = with_line [] (unless_hit hit (n + 1) (later answers) further) in
    either_silent (n == step_limit) (grown n answers Limit) (cond (is_refused answers) (grown n (later answers) NoMemory) made) refl
    (either_silent (is_refused answers) (grown n (later answers) NoMemory) made refl
    (unless_silent hit (n + 1) (later answers) further (silent_text h breakpoints more (n + 1) (later answers))))

-- the outputs up to a step, and those after it
outs_on : (scenario : Scenario) (n k : ℕ) → outs scenario n ++ outputs_after (history scenario) n k ≡ outs scenario (n + k)
unfolding history
outs_on scenario n zero = let same : n ≡ n + 0 = omega arith in append-nil (outs scenario n) ∙ ap (outs scenario) same
outs_on scenario n (suc k) =
    let same : n + 1 + k ≡ n + suc k = omega arith in
    sym (append_assoc (outs scenario n) (option_to_list (out scenario (n + 1))) (outputs_after (history scenario) (n + 1) k))
    ∙ ap (λ (xs : List Output). xs ++ outputs_after (history scenario) (n + 1) k) (sym (outs-add-one scenario n))
    ∙ outs_on scenario (n + 1) k ∙ ap (outs scenario) same

one_at_most : (o : Option Output) → length (option_to_list o) ≤ 1
one_at_most None = omega arith
one_at_most (Some o) = omega arith

-- a step has one output at most
few_outs : (scenario : Scenario) (n : ℕ) → length (outs scenario n) ≤ n
few_outs scenario zero = let none = ap length (outs-zero scenario) in omega (arith, none)
few_outs scenario (suc n) =
    let next : n + 1 ≡ suc n = omega arith in
    let more = ap length (outs-add-one scenario n) ∙ length-append (outs scenario n) (option_to_list (out scenario (n + 1))) in
    let before = few_outs scenario n in
    let one = one_at_most (out scenario (n + 1)) in
    rw next at (let few : length (outs scenario (n + 1)) ≤ n + 1 = omega (arith, more, before, one) in few)

-- how many there are between, by what is kept of both
pub counted_between : (scenario : Scenario) (n m : ℕ) → n ≤ m → m ≤ most_counted
    → (tally_of (outs scenario m)).count - (tally_of (outs scenario n)).count ≡ length (outputs_after (history scenario) n (m - n))
counted_between scenario n m on most =
    let sum : n + (m - n) ≡ m = omega (arith, on) in
    let all = ap length (outs_on scenario n (m - n) ∙ ap (outs scenario) sum) in
    let both = length-append (outs scenario n) (outputs_after (history scenario) n (m - n)) in
    let few = few_outs scenario m in
    let early = few_outs scenario n in
    omega (arith, all, both, few, early, on, most)

module _ (may_refuse : Bool) (scenario : Scenario) (breakpoints : List Breakpoint) (more n : ℕ) where
  -- what is told in all
  told_whole : (quiet : Bool) (ending : Ending) (high count : ℕ) (old mid : List ℕ)
      → (g : Grown may_refuse false (heard quiet (history scenario)) breakpoints more n ending high old mid)
      → count ≡ length (outputs_after (history scenario) n (high - n)) → (rest : List Bool)
      → growth_told quiet (history scenario) breakpoints more n (g.answers ++ rest)
      ≡ record { text = g.text ++ count_told quiet count; steps = high; answers = rest; ending = ending }
  told_whole false ending high count old mid g is rest =
      g.goes_on rest ∙ ap (λ (t : List ℕ). record { text = t; steps = high; answers = rest; ending = ending }) (sym (append-nil g.text))
  told_whole true ending high count old mid g is rest =
      let h = history scenario in
      let none : g.text ≡ [] = ap (λ (x : Growth). x.text) (sym (g.goes_on rest)) ∙ silent_text h breakpoints more n (g.answers ++ rest) in
      let words : words_line (length (outputs_after h n (high - n))) ≡ g.text ++ words_line count =
      ap words_line (sym is) ∙ ap (λ (t : List ℕ). t ++ words_line count) (sym none) in
      ap (counted h n) (g.goes_on rest) ∙ ap (λ (t : List ℕ). record { text = t; steps = high; answers = rest; ending = ending }) words

  -- steps were made, and how many outputs there were was told
  pub grown_told : (quiet : Bool) (ending : Ending) (high count : ℕ) (old mid new : List ℕ)
      → Grown may_refuse false (heard quiet (history scenario)) breakpoints more n ending high old mid
      → count ≡ length (outputs_after (history scenario) n (high - n)) → new ≡ mid ++ count_told quiet count
      → Grown may_refuse quiet (history scenario) breakpoints more n ending high old new
  grown_told quiet ending high count old mid new g is w = record {
    answers = g.answers;
    granted = g.granted;
    text = g.text ++ count_told quiet count;
    goes_on = told_whole quiet ending high count old mid g is;
    written = append-then old mid new g.text (count_told quiet count) g.written w;
  }

  -- it was to be told
  pub count_broken : (quiet : Bool) (ending : Ending) (high count : ℕ) (old mid new : List ℕ)
      → Grown may_refuse false (heard quiet (history scenario)) breakpoints more n ending high old mid
      → count ≡ length (outputs_after (history scenario) n (high - n)) → WritesBeginning mid new (count_told quiet count)
      → GrowthBroken may_refuse quiet (history scenario) breakpoints more n old new
  count_broken quiet ending high count old mid new g is w =
      let whole : (growth_told quiet (history scenario) breakpoints more n g.answers).text ≡ g.text ++ count_told quiet count =
      ap (λ (answers : List Bool). (growth_told quiet (history scenario) breakpoints more n answers).text) (sym (append-nil g.answers))
      ∙ ap (λ (x : Growth). x.text) (told_whole quiet ending high count old mid g is []) in
      record {
        answers = g.answers;
        granted = g.granted;
        part = rw whole (beginning-after old mid new g.text (count_told quiet count) g.written w);
      }

  -- a line could not be written whole
  pub lines_broken : (quiet : Bool) (old new : List ℕ)
      → GrowthBroken may_refuse false (heard quiet (history scenario)) breakpoints more n old new
      → GrowthBroken may_refuse quiet (history scenario) breakpoints more n old new
  lines_broken false old new b = record { answers = b.answers; granted = b.granted; part = b.part }
  lines_broken true old new b =
      let h = history scenario in
      let g = grow (silent h) breakpoints more n b.answers in
      record {
        answers = b.answers;
        granted = b.granted;
        part = beginning-longer old new [] (words_line (length (outputs_after h n (g.steps - n))))
            (rw (silent_text h breakpoints more n b.answers) at b.part);
      }
