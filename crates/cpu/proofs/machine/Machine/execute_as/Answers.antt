use Rattle.std.proofs.Common.{◌≡◌, ◌∙◌, Bool, ap, rules, sym}
use Rattle.cpu.specs.Codes.{Code, code_of, operand_of}
use Rattle.cpu.specs.Next.{word_at_z, fetched, executed}
use Rattle.cpu.proofs.Bursts.{plain_made}
use Rattle.cpu.proofs.LeavingFlags.{leaves_flags}
use Rattle.cpu.specs.State.{State}
use Rattle.cpu.proofs.machine.Machine.execute_as.Goals as goal

pub returns-clause-made : goal.returns-clause-made
unfolding executed fetched
returns-clause-made c =
    let s = c.args.self.now in
    let r = c.args.rope.now in
    let i = c.args.instruction in
    let k = operand_of i c.args.word in
    let code : Code = record { instruction = i; operand = k } in
    let made = plain_made r s i k c.requires.still c.requires.plain
    (ap (λ (b : Bool). (code_of b (word_at_z r s)).instruction) c.requires.extra ∙ c.requires.instruction)
    (ap (λ (b : Bool). (code_of b (word_at_z r s)).operand) c.requires.extra ∙ c.requires.operand) in
    let state : c.end_plain.new.self ≡ executed r (fetched s) code = search rules in
    rw state (sym made)

pub end_plain-requires : goal.end_plain-requires
unfolding fetched
end_plain-requires c =
    ap (λ (s : State). s.extra) c.perform.ensures
    ∙ (leaves_flags c.args.rope.now c.pass.new.self c.args.instruction (operand_of c.args.instruction c.args.word)).0
    ∙ ap (λ (s : State). s.extra) c.pass.ensures ∙ c.requires.extra
