-- The text of what a run reads and writes.
use Rattle.std.proofs.Common.{◌≡◌, ℕ, ◌∙◌, ap, get_or}
use Rattle.rope.specs.Places.{Words}
use Rattle.symbols.specs.Values.{SymbolTable}
use Rattle.cpu.specs.State.{Scenario}
use Rattle.access.specs.declared.view.View.{View}
use Rattle.access.specs.Accesses.{times}
use Rattle.access.specs.AccessText.{access_text, rows_text}
use Rattle.access.specs.Tallies.{Counts, Tallied}
use Rattle.access.proofs.Counting.{times_are}

pub text_is : (view : View) (symbols : SymbolTable) (scenario : Scenario) (n : ℕ) (t : Tallied) (words : Words)
    → Counts view scenario n t → words ≡ scenario.rope
    → rows_text t.view symbols words (λ i. get_or t.counts i 0) ≡ access_text view symbols scenario n
text_is view symbols scenario n t words counts e =
    ap (λ v. rows_text v symbols words (λ i. get_or t.counts i 0)) counts.keeps.same
    ∙ ap (λ f. rows_text view symbols words f) (times_are view scenario n t counts)
    ∙ ap (λ w. rows_text view symbols w (times view scenario n)) e
