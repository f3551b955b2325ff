use Rattle.std.proofs.lemmas.Result.{on_ok_weaker}
use Rattle.notes.specs.declared.kind.Kind.TheVariants.{Skip, NoWord, InErasable, NoHandler, OtherBank, NotKept, MinusZero}
use Rattle.notes.specs.declared.kind.Kind.TheVariants.{Overwritten, Shared, FixedBank}
use Rattle.notes.proofs.OneKind.{kind_more}
use Rattle.notes.proofs.noted.NotedSteps.note_kinds.Goals as goal

pub returns : goal.returns
returns c =
    let more = kind_more c.args.named.now c.args.processor.now.scenario.rope c.args.machine.now c.args.step.now c.args.self.now in
    let one = c.in_ok-note_kind.ensures in
    let two = more _ _ Skip _ one c.in_ok-note_kind-2.ensures in
    let three = more _ _ NoWord _ two c.in_ok-note_kind-3.ensures in
    let four = more _ _ InErasable _ three c.in_ok-note_kind-4.ensures in
    let five = more _ _ NoHandler _ four c.in_ok-note_kind-5.ensures in
    let six = more _ _ OtherBank _ five c.in_ok-note_kind-6.ensures in
    let seven = more _ _ NotKept _ six c.in_ok-note_kind-7.ensures in
    let eight = more _ _ MinusZero _ seven c.in_ok-note_kind-8.ensures in
    let nine = more _ _ Overwritten _ eight c.in_ok-note_kind-9.ensures in
    let ten = more _ _ Shared _ nine c.in_ok-note_kind-10.ensures in
    on_ok_weaker c.note_kind-11.result (λ e. more _ _ FixedBank _ ten e) c.note_kind-11.ensures
