-- That the premises are needed: states in which all but one of them hold, and which lead apart. Worked out by hand.
use Rattle.std.proofs.Common.{◌≡◌, ℕ, ◌+◌, ◌%◌, Bool, true, false, cond, not, List, [], ◌∷◌, Option, None, replicate, map, refl}
use Rattle.std.proofs.Common.{ap, ◌∙◌, sym}
use Rattle.std.specs.FinSet as set
use Rattle.words.specs.Numbers.{correct, extend}
use Rattle.words.specs.Signs.{is_zero, over}
use Rattle.words.specs.declared.wide.Overflow.TheVariants.{No}
use Rattle.rope.specs.Places.{Placed}
use Rattle.space.specs.Cells.{at, kept, put}
use Rattle.space.specs.Places.{place}
use Rattle.feed.specs.Added.{plain_on}
use Rattle.feed.specs.Merged.{due}
use Rattle.feed.specs.declared.entry.Entry.{Entry}
use Rattle.feed.specs.declared.input.Input.TheVariants.{Interrupt}
use Rattle.cpu.specs.State.{State}
use Rattle.cpu.specs.Codes.{Code, basic_rows, code_of, extracode_rows}
use Rattle.cpu.specs.Effects.{Change, after, bzf, carry, changes, erasable_in, has_overflow, place_in, ts, xch}
use Rattle.cpu.specs.Effects.Change.{AtPlace}
use Rattle.cpu.specs.Next.{entry, execute_code, executed, fetched, next}
use Rattle.cpu.specs.Links.{Link, link, link_by, overflow_of, sources, targets}
use Rattle.cpu.specs.Links.Link.{Takes, Executes}
use Rattle.cpu.specs.declared.instruction.Instruction.TheVariants.{Bzf, Ts, Xch}
use Rattle.cpu.specs.declared.instruction.Instruction.{Instruction}
use Rattle.cpu.specs.declared.output.Output.{Output}
use Rattle.debugger.specs.Ways.{way_spots}
use Rattle.cpu.proofs.Held.{Held, executes-word, instruction_word-held, rope, scenario, state, word_held, z_held}
use Rattle.cpu.proofs.Holding.{at-holding, get-holding, get_held, held, holding, put-holding, put_held, superbank-holding, superbank_held}

-- a rope of one word, and a state whose cells hold these numbers
abbrev one_word : ℕ → ℕ → ℕ → List Placed
one_word bank offset word = record { bank = bank; offset = offset; word = word } ∷ []

abbrev holds : Bool → List (ℕ × ℕ) → Held
holds extra cells =
    record { cells = cells; extra = extra; requests = set.empty; taken = 0; counts = replicate 16 0; cycles = 0 }

-- the link of a state that executes an instruction
abbrev told : List Placed → Held → Link
told ps h =
    let code = code_of h.extra (word_held ps h) in
    Executes (held h.cells 5) code false (held h.cells 3) (held h.cells 4) (superbank_held h.cells)
    (overflow_of code.instruction (get_held h.cells 0))

link_held : (ps : List Placed) (inputs : List Entry) (h : Held) → due inputs h.taken h.cycles ≡ None
    → link (scenario ps inputs) (state h) ≡ told ps h
unfolding link entry
link_held ps inputs h e =
    ap (λ d. link_by (rope ps) (state h) d (entry (state h))) e
    ∙ (λ i. Executes (at-holding h.cells 5 i) (code_of h.extra (instruction_word-held ps h i)) false (at-holding h.cells 3 i)
    (at-holding h.cells 4 i) (superbank-holding h.cells i)
    (overflow_of (code_of h.extra (instruction_word-held ps h i)).instruction (get-holding h.cells 0 i)))

-- the cells after the fetch
abbrev fetch : Held → Held
fetch h = record h { cells = put_held h.cells 5 ((z_held h + 1) % 0o10000) }

fetched_held : (h : Held) → fetched (state h) ≡ state (fetch h)
unfolding fetched
fetched_held h =
    (λ i. record (state h) { cells = put (holding h.cells) 5 ((get-holding h.cells 5 i + 1) % 0o10000) })
    ∙ (λ i. record (state h) { cells = put-holding h.cells 5 ((z_held h + 1) % 0o10000) i })

-- what cells hold after an instruction, by its changes
executed_held : (ps : List Placed) (h : Held) (code : Code) (c : ℕ) → due [] h.taken h.cycles ≡ None
    → code_of h.extra (word_held ps h) ≡ code
    → at (next (scenario ps []) (state h)).0.cells c ≡ at (after (rope ps) (state (fetch h)) code.instruction code.operand).cells c
unfolding executed
executed_held ps h code c e is =
    ap (λ (n : State × Option Output). at n.0.cells c) (executes-word ps [] h e)
    ∙ ap (λ code. at (execute_code (rope ps) (state h) code).0.cells c) is
    ∙ ap (λ (u : State). at (after (rope ps) u code.instruction code.operand).cells c) (fetched_held h)

-- what cells hold after numbers were put there
abbrev changes_of : List (ℕ × ℕ) → List Change
changes_of [] = []
changes_of (e ∷ es) = AtPlace e.0 e.1 ∷ changes_of es

abbrev put_all : List (ℕ × ℕ) → List (ℕ × ℕ) → List (ℕ × ℕ)
put_all cells [] = cells
put_all cells (e ∷ es) = put_all (put_held cells e.0 e.1) es

changed_held : (h : Held) (es : List (ℕ × ℕ)) → changes (state h) (changes_of es) ≡ state (record h { cells = put_all h.cells es })
changed_held h [] = refl
changed_held h (e ∷ es) =
    ap (λ c. changes (record (state h) { cells = c }) (changes_of es)) (put-holding h.cells e.0 e.1)
    ∙ changed_held (record h { cells = put_held h.cells e.0 e.1 }) es

left_held : (h : Held) (cs : List Change) (es : List (ℕ × ℕ)) (c : ℕ) → cs ≡ changes_of es
    → at (changes (state h) cs).cells c ≡ held (put_all h.cells es) c
left_held h cs es c is =
    ap (λ (cs : List Change). at (changes (state h) cs).cells c) is
    ∙ ap (λ (s : State). at s.cells c) (changed_held h es)
    ∙ at-holding (put_all h.cells es) c

abbrev code : Instruction → ℕ → Code
code instruction operand = record { instruction = instruction; operand = operand }

-- ## What a step chooses by: BZF 4010 at 02,4000, where A is 0 and where A is 1

abbrev bzf_words : List Placed
bzf_words = one_word 2 0 0o14010

abbrev bzf_at : ℕ → Held
bzf_at x = holds true ((0, x) ∷ (5, 0o4000) ∷ [])

bzf_is_one_step : link (scenario bzf_words []) (state (bzf_at 0)) ≡ link (scenario bzf_words []) (state (bzf_at 1))
unfolding due code_of extracode_rows place
bzf_is_one_step = link_held bzf_words [] (bzf_at 0) refl ∙ sym (link_held bzf_words [] (bzf_at 1) refl)

bzf_is : (h : Held) (k : ℕ) → bzf (state h) k ≡ cond (is_zero (get_held h.cells 0)) (AtPlace 5 k ∷ []) []
unfolding bzf
bzf_is h k = ap (λ x. cond (is_zero x) (AtPlace 5 k ∷ []) []) (get-holding h.cells 0)

bzf_jumps : at (next (scenario bzf_words []) (state (bzf_at 0))).0.cells 5 ≡ 0o4010
unfolding due code_of extracode_rows place kept after
bzf_jumps =
    executed_held bzf_words (bzf_at 0) (code Bzf 0o4010) 5 refl refl
    ∙ left_held (fetch (bzf_at 0)) (bzf (state (fetch (bzf_at 0))) 0o4010) ((5, 0o4010) ∷ []) 5 (bzf_is (fetch (bzf_at 0)) 0o4010)

bzf_goes_on : at (next (scenario bzf_words []) (state (bzf_at 1))).0.cells 5 ≡ 0o4001
unfolding due code_of extracode_rows place kept after
bzf_goes_on =
    executed_held bzf_words (bzf_at 1) (code Bzf 0o4010) 5 refl refl
    ∙ left_held (fetch (bzf_at 1)) (bzf (state (fetch (bzf_at 1))) 0o4010) [] 5 (bzf_is (fetch (bzf_at 1)) 0o4010)

-- ## From what it sets the banks: XCH FB at 00,2000, where A is 04000 and where A is 0. It chooses by nothing

abbrev xch_words : List Placed
xch_words = one_word 0 0 0o56004

abbrev xch_at : ℕ → Held
xch_at x = holds false ((0, x) ∷ (5, 0o2000) ∷ [])

xch_is_one_step : link (scenario xch_words []) (state (xch_at 0o4000)) ≡ link (scenario xch_words []) (state (xch_at 0))
unfolding due code_of basic_rows place
xch_is_one_step = link_held xch_words [] (xch_at 0o4000) refl ∙ sym (link_held xch_words [] (xch_at 0) refl)

xch_chooses_nothing : way_spots (told xch_words (xch_at 0o4000)) ≡ []
unfolding code_of basic_rows place sources targets
xch_chooses_nothing = refl

xch_is : (h : Held) → xch (state h) 4 ≡ AtPlace 0 (get_held h.cells 4) ∷ AtPlace 4 (get_held h.cells 0) ∷ []
unfolding xch erasable_in place_in place
xch_is h = λ i. AtPlace 0 (get-holding h.cells 4 i) ∷ AtPlace 4 (get-holding h.cells 0 i) ∷ []

-- FB is 2 then, and 0: the next word is that at 02,2001, or that at 00,2001
xch_leads_to_bank_2 : at (next (scenario xch_words []) (state (xch_at 0o4000))).0.cells 4 ≡ 2
unfolding due code_of basic_rows place kept after
xch_leads_to_bank_2 =
    executed_held xch_words (xch_at 0o4000) (code Xch 4) 4 refl refl
    ∙ left_held (fetch (xch_at 0o4000)) (xch (state (fetch (xch_at 0o4000))) 4) ((0, 0) ∷ (4, 0o4000) ∷ []) 4
    (xch_is (fetch (xch_at 0o4000)))

xch_stays_in_bank_0 : at (next (scenario xch_words []) (state (xch_at 0))).0.cells 4 ≡ 0
unfolding due code_of basic_rows place kept after
xch_stays_in_bank_0 =
    executed_held xch_words (xch_at 0) (code Xch 4) 4 refl refl
    ∙ left_held (fetch (xch_at 0)) (xch (state (fetch (xch_at 0))) 4) ((0, 0) ∷ (4, 0) ∷ []) 4 (xch_is (fetch (xch_at 0)))

-- ## A at each TS: TS 100 at 02,4000, where A is 1 and where A overflows. Neither writes Z from anything

abbrev ts_words : List Placed
ts_words = one_word 2 0 0o54100

abbrev ts_at : ℕ → Held
ts_at x = holds false ((0, x) ∷ (5, 0o4000) ∷ [])

ts_chooses_nothing : map (λ x. way_spots (told ts_words (ts_at x))) (1 ∷ 0o40000 ∷ []) ≡ [] ∷ [] ∷ []
unfolding code_of basic_rows place sources targets
ts_chooses_nothing = refl

abbrev ts_by : ℕ → ℕ → List Change
ts_by x z =
    cond (not (has_overflow (over x))) (AtPlace 0o100 x ∷ [])
    (AtPlace 0o100 (extend (correct x)) ∷ AtPlace 0 (carry (over x)) ∷ AtPlace 5 (z + 1) ∷ [])

ts_is : (h : Held) → ts (state h) 0o100 ≡ ts_by (get_held h.cells 0) (get_held h.cells 5)
unfolding ts erasable_in place_in place
ts_is h = λ i. ts_by (get-holding h.cells 0 i) (get-holding h.cells 5 i)

ts_goes_on : at (next (scenario ts_words []) (state (ts_at 1))).0.cells 5 ≡ 0o4001
unfolding due code_of basic_rows place kept after
ts_goes_on =
    executed_held ts_words (ts_at 1) (code Ts 0o100) 5 refl refl
    ∙ left_held (fetch (ts_at 1)) (ts (state (fetch (ts_at 1))) 0o100) ((0o100, 1) ∷ []) 5 (ts_is (fetch (ts_at 1)))

ts_skips : at (next (scenario ts_words []) (state (ts_at 0o40000))).0.cells 5 ≡ 0o4002
unfolding due code_of basic_rows place kept after
ts_skips =
    executed_held ts_words (ts_at 0o40000) (code Ts 0o100) 5 refl refl
    ∙ left_held (fetch (ts_at 0o40000)) (ts (state (fetch (ts_at 0o40000))) 0o100) ((0o100, 0) ∷ (0, 1) ∷ (5, 0o4002) ∷ []) 5
    (ts_is (fetch (ts_at 0o40000)))

-- ## The inputs: an interrupt that is asked for at cycle 0, and none

abbrev asked : List Entry
asked = plain_on 1 0 (Interrupt 5) ∷ []

input_is_taken : link (scenario ts_words asked) (state (ts_at 1)) ≡ Takes (Interrupt 5) false
unfolding link due
input_is_taken = refl

none_is_taken : link (scenario ts_words []) (state (ts_at 1)) ≡ Executes 0o4000 (code Ts 0o100) false 0 0 false No
unfolding due code_of basic_rows place
none_is_taken = link_held ts_words [] (ts_at 1) refl
