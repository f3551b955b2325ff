-- Scripts of commands over a history that is known.
use Rattle.std.proofs.Common.{◌≡◌, ℕ, Bool, true, false, cond, List, [], ◌∷◌, ◌++◌, None, Some, ap, refl, ◌∙◌, if◌then◌else◌}
use Rattle.std.specs.Prelude.{◌+◌, nat_lt, nat_le, length, codes, decimal}
use Rattle.symbols.specs.Values.{SymbolTable}
use Rattle.commands.specs.Commands.{parsed_line}
use Rattle.commands.specs.declared.command.Breakpoint.{Breakpoint}
use Rattle.commands.specs.declared.command.Command.TheVariants.{Step, Run, Back, Goto, Seek, Break, Clear, Registers, Memory, Channel, Last}
use Rattle.commands.specs.declared.command.Command.TheVariants.{Symbol, Changed, Tail, Add, Quit}
use Rattle.commands.specs.declared.command.ParsedLine.{ParsedLine}
use Rattle.commands.specs.declared.command.ParsedLine.TheVariants.{Nothing, TooLong, Unknown, WrongCounter, Known}
use Rattle.debugger.specs.History.{History, history}
use Rattle.debugger.specs.Replies.{Desk, Reply, answer, reply, says, line, refuses, not_yet, moves, sought, last_stop, most_breakpoints}
use Rattle.debugger.specs.Replies.{changed_text, places_changed}
use Rattle.debugger.specs.Transcript.{line_reply, replies, ends}

-- some lines, each ended
abbrev pub ended : List (List ℕ) → List ℕ
ended [] = []
ended (line ∷ more) = line ++ 10 ∷ ended more

-- an input is added
abbrev pub adds : ParsedLine → Bool
adds (Known (Add cycle input)) = true
adds request = false

-- no line adds an input
abbrev pub adds_none : SymbolTable → List (List ℕ) → Bool
adds_none symbols [] = true
adds_none symbols (line ∷ more) = if adds (parsed_line symbols line) then false else adds_none symbols more

-- the replies to lines over one history, up to the end
abbrev pub replies_over : History → SymbolTable → Desk → List (List ℕ) → List ℕ
replies_over h symbols d [] = []
replies_over h symbols d (line ∷ more) =
    if ends (parsed_line symbols line) then []
    else (let r = answer h d (parsed_line symbols line) in r.text ++ replies_over h symbols r.desk more)

-- where no input is added the same runs on
abbrev pub Keeps : Desk → Reply → Type 0
Keeps d r = r.desk.scenario ≡ d.scenario

keeps-goto : (h : History) (d : Desk) (t : ℕ) → Keeps d (reply h d (Goto t))
unfolding reply
keeps-goto h d t = elim (nat_lt d.steps t) as (λ b. Keeps d (cond b (not_yet d) (moves h d t))) [
  | true ↦ refl
  | false ↦ refl
]

keeps-seek : (h : History) (d : Desk) → Keeps d (reply h d Seek)
unfolding reply
keeps-seek h d = elim (last_stop h d) as (λ o. Keeps d (sought h d o)) [
  | None ↦ refl
  | Some t ↦ refl
]

keeps-break : (h : History) (d : Desk) (b : Breakpoint) → Keeps d (reply h d (Break b))
unfolding reply
keeps-break h d b =
    elim (nat_le most_breakpoints (length d.breakpoints)) as
    (λ full. Keeps d (cond full (refuses d (codes "E52 FULL"))
    (says (line (codes "BREAK " ++ decimal (length d.breakpoints + 1))) (record d { breakpoints = d.breakpoints ++ b ∷ [] })))) [
      | true ↦ refl
      | false ↦ refl
    ]

keeps-changed : (h : History) (d : Desk) (t : ℕ) → Keeps d (reply h d (Changed t))
unfolding reply
keeps-changed h d t =
    elim (nat_lt d.steps t) as (λ b. Keeps d (cond b (not_yet d) (says (changed_text (places_changed (h.after t) (h.after d.steps))) d))) [
      | true ↦ refl
      | false ↦ refl
    ]

pub keeps : (h : History) (d : Desk) (request : ParsedLine) → adds request ≡ false → Keeps d (answer h d request)
unfolding answer reply
keeps h d Nothing e = refl
keeps h d TooLong e = refl
keeps h d Unknown e = refl
keeps h d WrongCounter e = refl
keeps h d (Known (Step k)) e = refl
keeps h d (Known (Run k)) e = refl
keeps h d (Known (Back k)) e = refl
keeps h d (Known (Goto t)) e = keeps-goto h d t
keeps h d (Known Seek) e = keeps-seek h d
keeps h d (Known (Break b)) e = keeps-break h d b
keeps h d (Known Clear) e = refl
keeps h d (Known Registers) e = refl
keeps h d (Known (Memory place)) e = refl
keeps h d (Known (Channel c)) e = refl
keeps h d (Known (Last p)) e = refl
keeps h d (Known (Symbol value)) e = refl
keeps h d (Known (Changed t)) e = keeps-changed h d t
keeps h d (Known Tail) e = refl
keeps h d (Known (Add cycle input)) e = absurd (cc)
keeps h d (Known Quit) e = refl

not_here : (b c : Bool) → cond b false c ≡ true → b ≡ false
not_here true c e = absurd (cc)
not_here false c e = refl

nor_later : (b c : Bool) → cond b false c ≡ true → c ≡ true
nor_later true c e = absurd (cc)
nor_later false c e = e

-- what a line brings, where the history of what runs now is known
pub replies-line : (symbols : SymbolTable) (h : History) (d : Desk) (line : List ℕ) (more : List (List ℕ)) → history d.scenario ≡ h
    → replies symbols d (line ∷ more)
    ≡ (if ends (parsed_line symbols line) then [] else
    (let r = answer h d (parsed_line symbols line) in r.text ++ replies symbols r.desk more))
unfolding line_reply
replies-line symbols h d line more e =
    ap (λ (g : History). cond (ends (parsed_line symbols line)) []
    (let r = answer g d (parsed_line symbols line) in r.text ++ replies symbols r.desk more)) e

-- the replies to lines that add no input are those over the history that is known
pub same-replies : (symbols : SymbolTable) (h : History) (d : Desk) (ls : List (List ℕ)) → history d.scenario ≡ h
    → adds_none symbols ls ≡ true
    → replies symbols d ls ≡ replies_over h symbols d ls
same-replies symbols h d [] e n = refl
same-replies symbols h d (line ∷ more) e n =
    let request = parsed_line symbols line in
    let here = not_here (adds request) (adds_none symbols more) n in
    let later = nor_later (adds request) (adds_none symbols more) n in
    replies-line symbols h d line more e
    ∙ (let r = answer h d request in
    ap (λ t. cond (ends request) [] (r.text ++ t)) (same-replies symbols h r.desk more (ap history (keeps h d request here) ∙ e) later))
