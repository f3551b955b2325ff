use Rattle.std.proofs.Common.{◌≡◌, ◌≢◌, sym, ◌∙◌, arith}
use Rattle.cpu.specs.declared.instruction.Instruction.TheVariants.{Tc, Index}
use Rattle.cpu.proofs.EntryLaws.{not_apart}
use Rattle.cpu.proofs.dispatch.basic.Goals as goal

pub returns-in_default-word : goal.returns-in_default-word
returns-in_default-word c =
    let e = c.basic_entry.ensures in
    let resume : c.args.word ≢ 0o50017 = λ is. let clash : Tc ≡ Index = sym c.in-Tc.is ∙ e.resume is in absurd (cc) in
    sym c.in-Tc.is ∙ e.entry (not_apart c.args.word (omega arith) (omega arith) (omega arith) resume)

pub returns-in_default-word-2 : goal.returns-in_default-word-2
returns-in_default-word-2 c =
    let e = c.basic_entry.ensures in
    let relint : c.args.word ≢ 0o3 = λ is. let clash : Index ≡ Tc = sym c.in-Index.is ∙ e.relint is in absurd (cc) in
    let inhint : c.args.word ≢ 0o4 = λ is. let clash : Index ≡ Tc = sym c.in-Index.is ∙ e.inhint is in absurd (cc) in
    let extend : c.args.word ≢ 0o6 = λ is. let clash : Index ≡ Tc = sym c.in-Index.is ∙ e.extend is in absurd (cc) in
    sym c.in-Index.is ∙ e.entry (not_apart c.args.word relint inhint extend (omega arith))

pub returns-in_default : goal.returns-in_default
returns-in_default c =
    let e = c.basic_entry.ensures in
    let d = c.in_default in
    e.entry
    (not_apart c.args.word (λ is. d.not-Tc (e.relint is)) (λ is. d.not-Tc (e.inhint is)) (λ is. d.not-Tc (e.extend is))
    (λ is. d.not-Index (e.resume is)))
