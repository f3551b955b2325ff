use Rattle.std.proofs.Common.{◌≡◌, ◌∙◌, ◌∷◌, [], ◌+◌, ◌≤◌, ℕ, true, false, eqb, leb, length, List, ap, arith, refl, length-append}
use Rattle.std.proofs.lemmas.Bool.Decides.{nat_tests}
use Rattle.commands.specs.declared.command.Breakpoint.{Breakpoint}
use Rattle.debugger.specs.Replies.{answer, reply}
use Rattle.debugger.proofs.desk.Desk.set_breakpoint.Goals as goal

full : (n : ℕ) → n ≤ 16 → true ≡ eqb n 16 → leb 16 n ≡ true
full n h e = grind (arith, nat_tests)

room : (n : ℕ) → n ≤ 16 → false ≡ eqb n 16 → leb 16 n ≡ false
room n h e = grind (arith, nat_tests)

pub returns-then-is_full-clause-brings : goal.returns-then-is_full-clause-brings
unfolding answer reply
returns-then-is_full-clause-brings g c = λ m answers additions.
    rw (full (length c.args.self.now.breakpoints) c.if-is_full.ensures.few c.if-is_full.ensures.value, c.text_line.ensures.items) refl

pub returns-clause-brings : goal.returns-clause-brings
unfolding answer reply
returns-clause-brings g c = λ m answers additions.
    let count : c.len.result ≡ length c.args.self.now.breakpoints + 1 =
    c.len.ensures.value ∙ ap (λ (bs : List Breakpoint). length bs) c.push.ensures
    ∙ length-append c.args.self.now.breakpoints (c.args.breakpoint ∷ []) in
    rw (
      room (length c.args.self.now.breakpoints) c.if-is_full.ensures.few c.if-is_full.ensures.value,
      c.number_line.ensures.items,
      count,
      c.push.ensures,
    ) refl
