-- What is appended piece by piece.
use Rattle.std.proofs.Common.{◌≡◌, ℕ, ◌++◌, List, [], refl, sym, ap, ◌∙◌}
use Rattle.std.proofs.lemmas.List.{append_assoc}
use Rattle.json_text.specs.declared.notation.Notation.{Notation}
use Rattle.notes.specs.declared.kind.Kind.{Kind}
use Rattle.notes.specs.declared.kind.Kind.TheVariants.{Quotient, Skip, NoWord, InErasable, NoHandler, OtherBank, NotKept, MinusZero}
use Rattle.notes.specs.declared.kind.Kind.TheVariants.{Overwritten, Shared, FixedBank}
use Rattle.notes.specs.declared.notebook.Told.{Told}
use Rattle.notes.specs.Counted.{told_of}
use Rattle.notes.specs.RunNotes.{kinds_text, told_line}

started : (items rest : List ℕ) → items ≡ [] → rest ≡ items ++ rest
started items rest e = rw e refl

more : (old new piece rest : List ℕ) → new ≡ old ++ piece → old ++ (piece ++ rest) ≡ new ++ rest
more old new piece rest e = sym (append_assoc old piece rest) ∙ ap (λ items. items ++ rest) (sym e)

-- the lines of eleven kinds, one after another
pub eleven_lines : (notation : Notation) (what : List ℕ) (number cycles : ℕ) (t : Told) (l0 l1 l2 l3 l4 l5 l6 l7 l8 l9 l10 l11 : List ℕ)
    → l0 ≡ []
    → l1 ≡ l0 ++ told_line notation Quotient what number cycles (told_of t Quotient)
    → l2 ≡ l1 ++ told_line notation Skip what number cycles (told_of t Skip)
    → l3 ≡ l2 ++ told_line notation NoWord what number cycles (told_of t NoWord)
    → l4 ≡ l3 ++ told_line notation InErasable what number cycles (told_of t InErasable)
    → l5 ≡ l4 ++ told_line notation NoHandler what number cycles (told_of t NoHandler)
    → l6 ≡ l5 ++ told_line notation OtherBank what number cycles (told_of t OtherBank)
    → l7 ≡ l6 ++ told_line notation NotKept what number cycles (told_of t NotKept)
    → l8 ≡ l7 ++ told_line notation MinusZero what number cycles (told_of t MinusZero)
    → l9 ≡ l8 ++ told_line notation Overwritten what number cycles (told_of t Overwritten)
    → l10 ≡ l9 ++ told_line notation Shared what number cycles (told_of t Shared)
    → l11 ≡ l10 ++ told_line notation FixedBank what number cycles (told_of t FixedBank)
    → l11 ≡ kinds_text notation what number cycles (told_of t)
eleven_lines notation what number cycles t l0 l1 l2 l3 l4 l5 l6 l7 l8 l9 l10 l11 e0 e1 e2 e3 e4 e5 e6 e7 e8 e9 e10 e11 =
    let line : Kind → List ℕ = λ kind. told_line notation kind what number cycles (told_of t kind) in
    let r11 = line FixedBank in
    let r10 = line Shared ++ r11 in
    let r9 = line Overwritten ++ r10 in
    let r8 = line MinusZero ++ r9 in
    let r7 = line NotKept ++ r8 in
    let r6 = line OtherBank ++ r7 in
    let r5 = line NoHandler ++ r6 in
    let r4 = line InErasable ++ r5 in
    let r3 = line NoWord ++ r4 in
    let r2 = line Skip ++ r3 in
    let r1 = line Quotient ++ r2 in
    sym (started l0 r1 e0 ∙ more l0 l1 (line Quotient) r2 e1 ∙ more l1 l2 (line Skip) r3 e2 ∙ more l2 l3 (line NoWord) r4 e3
    ∙ more l3 l4 (line InErasable) r5 e4
    ∙ more l4 l5 (line NoHandler) r6 e5 ∙ more l5 l6 (line OtherBank) r7 e6 ∙ more l6 l7 (line NotKept) r8 e7
    ∙ more l7 l8 (line MinusZero) r9 e8 ∙ more l8 l9 (line Overwritten) r10 e9 ∙ more l9 l10 (line Shared) r11 e10
    ∙ sym e11)
