-- The layout faults of lines in order.
use Rattle.std.proofs.Common.{◌≡◌, ◌≢◌, ℕ, ◌+◌, Bool, true, false, not, nat_lt, ◌==◌, length, List, [], ◌∷◌, ◌++◌, map, Option, Some, None}
use Rattle.std.proofs.Common.{Result, Ok, Err, refl, inl, inr, ap, sym, ◌∙◌, append_assoc, arith}
use Rattle.std.proofs.lemmas.List.{map-append}
use Rattle.std.specs.List.{list_all}
use Rattle.std.specs.Result.{result_unwrap_or}
use Rattle.std.proofs.lemmas.Bool.{eq-eqb}
use Rattle.yayul.specs.Flight.{measured, most_lines}
use Rattle.yayul.specs.Layout.{LineEffect, and_then, defined, value_here, statement_on, on_line, standing, fault_if}
use Rattle.yayul.specs.Layout.{Layout, text_faults, statement_effect, line_faults, line_effect, layout_after, layout_faults}
use Rattle.yayul.specs.Program.{least}
use Rattle.yayul.specs.Listing.{Shown, shown}
use Rattle.yayul.specs.Inside.Representation.{shown_by_mark, lines_show}
use Rattle.yayul.specs.Inside.Answers.{layout_of, with_requests, Tells, TellsOn, least_kind, LeadsOn, LineLeadsOn}
use Rattle.yayul.specs.declared.faults.FaultKind.TheVariants.{NoMemory, NotAscii, LongLine, TooManyLines}
use Rattle.yayul.specs.declared.faults.Fault.{Fault}
use Rattle.yayul.specs.Language.{Bank, Ebank, Equals, Erase, Gives, Label, Malformed, Missing, Named, Nothing, Operation, Setloc}
use Rattle.yayul.specs.Language.{Statement, Unknown, Value}
use Rattle.agc_text.specs.Bytes.{line_length, is_text_byte}
use Rattle.yayul.specs.declared.faults.FaultKind.{FaultKind}
use Rattle.yayul.specs.declared.layout.Layout.{Layout as Held}
use Rattle.yayul.specs.declared.layout.Placing.{Placing}
use Rattle.yayul.specs.declared.mark.Mark.{Mark}
use Rattle.yayul.proofs.Asked.{asked_stays}
use Rattle.yayul.proofs.Equalled.{by_later, promise_language}
use Rattle.yayul.proofs.Least.{told, StandFrom, StandFrom-append, StandFrom-later, StandFrom-on_line, least_here, none_least}
use Rattle.yayul.proofs.LateFaults.{least-before_late, statement_late, text_early}

pub layout_faults-from : (line : ℕ) (s : Layout) (texts : List (List ℕ)) → StandFrom line (layout_faults line s texts)
layout_faults-from line s [] = tt
layout_faults-from line s (text ∷ texts) =
    StandFrom-append line (on_line line (line_faults line s text)) (layout_faults (line + 1) (line_effect line s text).after texts)
    (StandFrom-on_line line line (line_faults line s text) (omega arith))
    (StandFrom-later line (line + 1) (layout_faults (line + 1) (line_effect line s text).after texts) (omega arith)
    (layout_faults-from (line + 1) (line_effect line s text).after texts))

-- a line without a fault is passed over
pub faultless_line : (line : ℕ) (s : Layout) (text : List ℕ) (texts : List (List ℕ)) → line_faults line s text ≡ []
    → layout_faults line s (text ∷ texts) ≡ layout_faults (line + 1) (line_effect line s text).after texts
faultless_line line s text texts e =
    ap (λ ks. on_line line ks ++ layout_faults (line + 1) (line_effect line s text).after texts) e

-- a line with a fault has the least
pub faulty_line : (line : ℕ) (s : Layout) (text : List ℕ) (texts : List (List ℕ)) (k : FaultKind)
    → least_kind (line_faults line s text) ≡ Some k
    → least (layout_faults line s (text ∷ texts)) ≡ Some (told line k)
faulty_line line s text texts k e =
    least_here line (line_faults line s text) k (layout_faults (line + 1) (line_effect line s text).after texts) e
    (layout_faults-from (line + 1) (line_effect line s text).after texts)

-- a fault of a line's bytes, length or number is told
pub line_told : (line : ℕ) (s : Layout) (text : List ℕ) (k : FaultKind) → least_kind (text_faults s.language line text) ≡ Some k
    → least_kind (line_faults line s text) ≡ Some k
unfolding line_effect
line_told line s text k e =
    least-before_late (text_faults s.language line text) (line_effect line s text).faults k e
    (text_early (not (list_all is_text_byte text)) (nat_lt line_length (length (measured s.language text)))
    (line == most_lines s.language + 1) k e)
    (statement_late line s (statement_on s text).label (statement_on s text).operation)

-- what a line says where a layout stands, it says where one stands that agrees with it
pub said_on : (l : Held) (s : Layout) (text : List ℕ) (said : Statement) → said ≡ statement_on (layout_of l) text
    → layout_of l ≡ with_requests [] s → said ≡ statement_on s text
said_on l s text said is same = is ∙ ap (λ t. statement_on t text) same

-- the fault of a line's bytes, length or number, where a layout stands that agrees with another
pub text_known : (l : Held) (s : Layout) (line : ℕ) (text : List ℕ) (found : Option FaultKind) → layout_of l ≡ with_requests [] s
    → found ≡ least_kind (text_faults l.language line text)
    → least_kind (text_faults s.language line text) ≡ found
text_known l s line text found same is = ap (λ (t : Layout). least_kind (text_faults t.language line text)) (sym same) ∙ sym is

-- a line without such a fault does what it says, and shows it
pub line_taken : (line : ℕ) (s : Layout) (text : List ℕ) (said : Statement) (l : Held) (p : Placing) (mark : Mark)
    → least_kind (text_faults s.language line text) ≡ None → said ≡ statement_on s text
    → shown_by_mark mark ≡ shown s.location said → LeadsOn line (statement_effect line s said.label said.operation) l p (Ok tt)
    → LineLeadsOn line s text l p (Ok mark)
unfolding line_effect
line_taken line s text said l p mark none e m leads =
    let q : LeadsOn line (line_effect line s text) l p (Ok tt) = rw e at leads in (
      ap (λ ks. ks ++ (line_effect line s text).faults) (none_least (text_faults s.language line text) none)
          ∙ q.0,
      (q.1, m ∙ ap (shown s.location) e),
    )

-- what such a line says is told, where it has a fault
pub line_refused : (line : ℕ) (s : Layout) (text : List ℕ) (said : Statement) (l : Held) (p : Placing) (kind : FaultKind)
    → least_kind (text_faults s.language line text) ≡ None → said ≡ statement_on s text
    → LeadsOn line (statement_effect line s said.label said.operation) l p (Err kind) → LineLeadsOn line s text l p (Err kind)
unfolding line_effect
line_refused line s text said l p kind none e leads =
    let q : LeadsOn line (line_effect line s text) l p (Err kind) = rw e at leads in
    λ known. ap (λ ks. least_kind (ks ++ (line_effect line s text).faults)) (none_least (text_faults s.language line text) none) ∙ q known

-- where the third of three faults stands, there are some
third : (a b c : Bool) (others : List FaultKind) → c ≡ true
    → standing (fault_if a NotAscii ∷ fault_if b LongLine ∷ fault_if c TooManyLines ∷ []) ++ others ≡ [] → ⊥
third true b c others e h = cc
third false true c others e h = cc
third false false true others e h = cc
third false false false others e h = cc

-- a line without a fault is none after the last
pub few_lines : (line : ℕ) (s : Layout) (text : List ℕ) → line_faults line s text ≡ [] → line ≢ most_lines s.language + 1
few_lines line s text e same =
    third (not (list_all is_text_byte text)) (nat_lt line_length (length (measured s.language text))) (line == most_lines s.language + 1)
    (line_effect line s text).faults (eq-eqb line (most_lines s.language + 1) same) e

label_language : (s : Layout) (label : Label) (value : Value) → (defined s label value).language ≡ s.language
label_language s Missing value = refl
label_language s Malformed value = refl
label_language s (Named name) value = refl

equals_language : (s : Layout) (label : Label) (value : Result Value FaultKind)
    → (result_unwrap_or (and_then (λ v. Ok (defined s label v)) value) s).language ≡ s.language
equals_language s label (Ok v) = label_language s label v
equals_language s label (Err kind) = refl

-- a statement leaves the language as it is
pub statement_language : (line : ℕ) (s : Layout) (label : Label) (operation : Operation)
    → (statement_effect line s label operation).after.language ≡ s.language
statement_language line s label Nothing = label_language s label (value_here s.location)
statement_language line s label Unknown = refl
statement_language line s label (Setloc operand) = refl
statement_language line s label (Bank taken number) = refl
statement_language line s label (Erase count) = label_language s label (value_here s.location)
statement_language line s label (Equals operand) =
    by_later (λ (x : LineEffect). x.after.language ≡ s.language) line s label operand (λ value. equals_language s label value)
    (λ o. promise_language line s label o)
statement_language line s label (Ebank operand) = refl
statement_language line s label (Gives None) = refl
statement_language line s label (Gives (Some content)) =
    let same = label_language s label (value_here s.location) in
    asked_stays (λ (t : Layout). t.language ≡ s.language) line (defined s label (value_here s.location)) content same (λ r. same)

-- a line leaves the language as it is
pub same_language : (line : ℕ) (s : Layout) (text : List ℕ) → (line_effect line s text).after.language ≡ s.language
unfolding line_effect
same_language line s text = statement_language line s (statement_on s text).label (statement_on s text).operation

-- a faultless line before others
pub faults_passed : (line : ℕ) (s t : Layout) (text : List ℕ) (here after : List (List ℕ)) → here ≡ text ∷ after
    → line_faults line s text ≡ []
    → t ≡ (line_effect line s text).after → layout_faults line s here ≡ layout_faults (line + 1) t after
faults_passed line s t text here after e none next =
    ap (layout_faults line s) e ∙ faultless_line line s text after none ∙ ap (λ u. layout_faults (line + 1) u after) (sym next)

pub layout_passed : (line : ℕ) (s t : Layout) (text : List ℕ) (here after : List (List ℕ)) → here ≡ text ∷ after
    → t ≡ (line_effect line s text).after → layout_after line s here ≡ layout_after (line + 1) t after
layout_passed line s t text here after e next =
    ap (layout_after line s) e ∙ ap (λ u. layout_after (line + 1) u after) (sym next)

-- what the lines show, where one is passed
pub shown_passed : (line : ℕ) (s t : Layout) (text : List ℕ) (here after : List (List ℕ)) (mark : Mark) (all : List Shown)
    (marks more : List Mark) → here ≡ text ∷ after
    → t ≡ (line_effect line s text).after → shown_by_mark mark ≡ shown s.location (statement_on s text) → more ≡ marks ++ mark ∷ []
    → all ≡ map shown_by_mark marks ++ lines_show line s here → all ≡ map shown_by_mark more ++ lines_show (line + 1) t after
shown_passed line s t text here after mark all marks more e next is pushed so_far =
    so_far ∙ ap (λ texts. map shown_by_mark marks ++ lines_show line s texts) e
    ∙ ap (λ (m : Shown). map shown_by_mark marks ++ m ∷ lines_show (line + 1) (line_effect line s text).after after) (sym is)
    ∙ ap (λ u. map shown_by_mark marks ++ shown_by_mark mark ∷ lines_show (line + 1) u after) (sym next)
    ∙ sym (append_assoc (map shown_by_mark marks) (shown_by_mark mark ∷ []) (lines_show (line + 1) t after))
    ∙ ap (λ ms. ms ++ lines_show (line + 1) t after) (sym (ap (map shown_by_mark) pushed ∙ map-append shown_by_mark marks (mark ∷ [])))

-- a refused line refuses the source
pub told_on : (all : List Fault) (line : ℕ) (s : Layout) (text : List ℕ) (here after : List (List ℕ)) (kind : FaultKind) (fault : Fault)
    → all ≡ layout_faults line s here
    → here ≡ text ∷ after → (kind ≢ NoMemory → least_kind (line_faults line s text) ≡ Some kind) → TellsOn line kind fault
    → Tells (least all) fault
told_on all line s text here after kind fault same e told_kind (inl none) = inl none
told_on all line s text here after kind fault same e told_kind (inr is) =
    inr (ap least same ∙ ap (λ texts. least (layout_faults line s texts)) e ∙ faulty_line line s text after kind (told_kind is.0)
    ∙ ap (λ f. Some f) (sym is.1))
