-- What a source comes to.
use Rattle.std.proofs.Common.{◌≡◌, ℕ, List, [], Some, None, Result, Err, inl, inr, ap, sym, subst}
use Rattle.agc_text.specs.Lines.{lines}
use Rattle.yayul.specs.Later.{first_fault, with_values}
use Rattle.yayul.specs.Layout.{Layout, start, layout_faults, layout_after}
use Rattle.yayul.specs.Program.{Program, Source, GivesProgram, least, completed, finished, program, unless_fault}
use Rattle.yayul.specs.Language.{Fault, Language}
use Rattle.yayul.specs.Inside.Answers.{Tells}

-- what a source without a layout fault comes to
pub program_ok : (language : Language) (source : List ℕ) → layout_faults 1 (start language) (lines source) ≡ []
    → program language source ≡ finished (layout_after 1 (start language) (lines source)) (record { language = language; text = source })
unfolding program
program_ok language source none = ap (λ fs. unless_fault (least fs)
    (finished (layout_after 1 (start language) (lines source)) (record { language = language; text = source }))) none

-- the fault of a source that has one in its layout
pub program_err : (language : Language) (source : List ℕ) (fault : Fault)
    → Tells (least (layout_faults 1 (start language) (lines source))) fault → GivesProgram (program language source) (Err fault)
unfolding program
program_err language source fault (inl none) = inl none
program_err language source fault (inr some) = inr
    (ap (λ f. unless_fault f (finished (layout_after 1 (start language) (lines source)) (record { language = language; text = source })))
    some)

-- what a layout comes to, where a name that waits has a fault
pub finished_err : (s : Layout) (source : Source) (fault : Fault) → first_fault (with_values s).symbols s.promises ≡ Some fault
    → GivesProgram (finished s source) (Err fault)
finished_err s source fault some = inr (ap (λ f. unless_fault f (completed (with_values s) source)) some)

-- where none has
pub finished_ok : (s : Layout) (source : Source) → first_fault (with_values s).symbols s.promises ≡ None
    → finished s source ≡ completed (with_values s) source
finished_ok s source none = ap (λ f. unless_fault f (completed (with_values s) source)) none

-- an answer to what is expected is one to what that equals
pub answers_same : (a b : Result Program Fault) (r : Result Program Fault) → a ≡ b → GivesProgram b r → GivesProgram a r
answers_same a b r e answers = subst (λ x. GivesProgram x r) (sym e) answers
